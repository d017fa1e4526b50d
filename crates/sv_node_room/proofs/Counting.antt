-- A sort has no more cells than its text has bytes, so the cells of a sort in a log can be counted.
use Rattle.std.proofs.Common.{ℕ, ◌+◌, ◌<◌, ◌≤◌, Bool, true, false, not, nat_lt, List, [], ◌∷◌, ◌++◌, ◌≡◌, length, map, drop, get_or, zero, suc, refl, sym, ap, ◌∙◌, arith}
use Rattle.std.proofs.lemmas.List.{length-append}
use Rattle.std.proofs.lemmas.Bool.Decides.{Decides-ltb}
use Rattle.std.specs.Prelude.{codes, decimal}
use Rattle.sv_term.specs.Sorts.{Sort, NumSort, BoolSort, ArrSort, TupSort, Sorts, NoSorts, SortAnd, Range, Any, Low, Bits}
use Rattle.sv_term.proofs.Same.{both_true}
use Rattle.sv_log.specs.LogEntries.{Part, TermPart, SortPart, NumberPart, FlagPart}
use Rattle.sv_cert.specs.PlainNodes.{plain_sort, plain_part}
use Rattle.sv_cert.specs.declared.part.Part as d
use Rattle.sv_cert.specs.declared.part.Part.TheVariants as v
use Rattle.sv_cert.specs.declared.sort.LogSort.{LogSort}
use Rattle.sv_cert.specs.LogText.{sort_word, sorts_word, range_word, is_short, are_short}
use Rattle.sv_log_sort.specs.TakenSorts.{cells_of, cells_of_parts}
use Rattle.sv_log_shape.specs.LoggedShapes.{cells_in}

range_some : (r : Range) → 1 ≤ length (range_word r)
range_some Any = omega arith
range_some Low = omega arith
range_some (Bits true m) = omega (arith, length-append (codes "i") (decimal m))
range_some (Bits false m) = omega (arith, length-append (codes "u") (decimal m))

mutual
  cells_le : (s : Sort) → cells_of s ≤ length (sort_word s)
  cells_le (NumSort r) = range_some r
  cells_le BoolSort = omega arith
  cells_le (ArrSort s) = let h = cells_le s in omega (arith, h, length-append (codes "[") (sort_word s ++ codes "]"), length-append (sort_word s) (codes "]"))
  cells_le (TupSort ss) = let h = parts_le ss in omega (arith, h, length-append (codes "(") (sorts_word ss ++ codes ")"), length-append (sorts_word ss) (codes ")"))

  parts_le : (ss : Sorts) → cells_of_parts ss ≤ length (sorts_word ss) + 1
  parts_le NoSorts = omega arith
  parts_le (SortAnd s NoSorts) = let h = cells_le s in omega (arith, h)
  parts_le (SortAnd s (SortAnd t ts)) =
      let h = cells_le s in
      let g = parts_le (SortAnd t ts) in
      omega (arith, h, g, length-append (sort_word s) (codes "," ++ sorts_word (SortAnd t ts)), length-append (codes ",") (sorts_word (SortAnd t ts)))

short_sort : (s : Sort) → is_short (SortPart s) ≡ true → cells_of s ≤ 10000
short_sort s e = go (nat_lt 10000 (length (sort_word s))) refl e
  where
    go : (b : Bool) → nat_lt 10000 (length (sort_word s)) ≡ b → not b ≡ true → cells_of s ≤ 10000
    go true f g = absurd (cc g)
    go false f g =
        let no : 10000 < length (sort_word s) → ⊥ = (λ l. cc (f, (Decides-ltb 10000 (length (sort_word s))).1 l)) in
        let h = cells_le s in
        omega (arith, h, no)

pub few_cells : (ps : List Part) → are_short ps ≡ true → cells_in ps ≤ 10000
few_cells [] e = omega arith
few_cells (SortPart s ∷ ps) e = short_sort s (both_true (is_short (SortPart s)) (are_short ps) e).0
few_cells (TermPart n ∷ ps) e = few_cells ps e
few_cells (NumberPart m ∷ ps) e = few_cells ps e
few_cells (FlagPart b ∷ ps) e = few_cells ps e

-- the sort that stands first among the parts from there on
pub cells_here : (ps : List d.Part) (i : ℕ) (p : d.Part) (s : LogSort) → i < length ps → p ≡ get_or ps i p → p ≡ v.Sort s → cells_in (map plain_part (drop i ps)) ≡ cells_of (plain_sort s)
cells_here [] i p s l e f = absurd (omega (arith, l))
cells_here (q ∷ ps) zero p s l e f = ap (λ x. cells_in (plain_part x ∷ map plain_part ps)) (sym e ∙ f)
cells_here (q ∷ ps) (suc i) p s l e f = cells_here ps i p s (omega (arith, l)) e f

pub cells_bound : (ps qs : List d.Part) (i : ℕ) (p : d.Part) (s : LogSort) → qs ≡ ps → are_short (map plain_part ps) ≡ true → cells_in (map plain_part ps) ≡ cells_in (map plain_part (drop i ps))
    → i < length qs → p ≡ get_or qs i p → p ≡ v.Sort s → cells_of (plain_sort s) ≤ 10000
cells_bound ps qs i p s same short none l e f =
    let few = few_cells (map plain_part ps) short in
    let size = ap length same in
    let here = cells_here ps i p s (omega (arith, l, size)) (e ∙ ap (λ x. get_or x i p) same) f in
    omega (arith, few, none, here)
