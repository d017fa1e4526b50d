-- Sorts that are taken in one after another, and what a sort within a sort takes.
use Rattle.std.proofs.Common.{ℕ, ◌+◌, ◌-◌, ◌<◌, ◌≤◌, Bool, true, false, cond, List, [], ◌∷◌, ◌++◌, ◌≡◌, length, map, take, drop, get_or, refl, sym, ap, ap₂, ◌∙◌, arith}
use Rattle.std.specs.List.{list_any}
use Rattle.std.proofs.lemmas.List.{length_push, take-take, take_all, take-append-drop}
use Rattle.sv_term.specs.Sorts.{Sort, NumSort, BoolSort, ArrSort, TupSort, Sorts, SortAnd, is_tuple, same_sort}
use Rattle.sv_sort_room.specs.SortCells.{nth_sort, sort_by, sorts_of, HasParts, IsNumber, Extends, with_sort}
use Rattle.sv_sort_room.specs.declared.cell.Cell.{Cell}
use Rattle.sv_sort_room.specs.declared.cell.Cell.TheVariants as c
use Rattle.sv_sort_room.proofs.CellTrees.{nth_front, sorts_length, extends_self}
use Rattle.sv_term_room.specs.TermRows.{TermRows, with_cells, terms_of}
use Rattle.sv_cert.specs.PlainNodes.{plain_sort, sorts_from}
use Rattle.sv_cert.specs.declared.sort.LogSort.{LogSort}
use Rattle.sv_log_sort.specs.TakenSorts.{cells_of, cells_of_parts, Grows, IsTaken}

-- ---- longer lists of cells

longer : (old new : List Cell) → Extends old new → sorts_of new ≡ sorts_of old ++ drop (length old) (sorts_of new)
longer old new x = sym (take-append-drop (length old) (sorts_of new)) ∙ ap (λ y. y ++ drop (length old) (sorts_of new)) x.sorts

pub number_kept : (old new : List Cell) (n : ℕ) (s : Sort) → Extends old new → IsNumber old n s → IsNumber new n s
number_kept old new n s x h =
    let size = sorts_length old in
    record {
      within = omega (arith, x.size, h.within);
      is = ap (λ y. nth_sort y n) (longer old new x) ∙ (nth_front (sorts_of old) (drop (length old) (sorts_of new)) n (omega (arith, size, h.within)) ∙ h.is);
    }

pub extends_through : (a b d : List Cell) → Extends a b → Extends b d → Extends a d
extends_through a b d x y = record {
  cells = sym (take-take (length a) (length b) d x.size) ∙ (ap (take (length a)) y.cells ∙ x.cells);
  sorts = sym (take-take (length a) (length b) (sorts_of d) x.size) ∙ (ap (take (length a)) y.sorts ∙ x.sorts);
  size = omega (arith, x.size, y.size);
}

pub grows_through : (a b d : TermRows) (m n k : ℕ) → m + n ≤ k → Grows a b m → Grows b d n → Grows a d k
grows_through a b d m n k l x y = record {
  cells = extends_through a.cells b.cells d.cells x.cells y.cells;
  size = omega (arith, l, x.size, y.size);
  rest = y.rest ∙ ap (with_cells d.cells) x.rest;
  terms = y.terms ∙ x.terms;
}

with_size : (ss : List Sort) (s : Sort) → length (with_sort ss s) ≤ length ss + 1
with_size ss s = go (list_any (same_sort s) ss)
  where
    go : (b : Bool) → length (cond b ss (ss ++ s ∷ [])) ≤ length ss + 1
    go true = omega arith
    go false = omega (arith, length_push ss s)

pub grows_one : (old new : TermRows) (cell : Cell) (k : ℕ) → 1 ≤ k → Extends old.cells new.cells → sorts_of new.cells ≡ with_sort (sorts_of old.cells) (sort_by (sorts_of old.cells) cell) → new ≡ with_cells new.cells old → terms_of new ≡ terms_of old
    → Grows old new k
grows_one old new cell k m x e r t =
    let a = sorts_length old.cells in
    let b = sorts_length new.cells in
    let l = with_size (sorts_of old.cells) (sort_by (sorts_of old.cells) cell) in
    let f : length (sorts_of new.cells) ≡ length (with_sort (sorts_of old.cells) (sort_by (sorts_of old.cells) cell)) = ap length e in
    record {
      cells = x;
      size = omega (arith, a, b, l, f, m);
      rest = r;
      terms = t;
    }

pub grows_none : (v : TermRows) (k : ℕ) → Grows v v k
grows_none v k = record {
  cells = extends_self v.cells;
  size = omega arith;
  rest = refl;
  terms = refl;
}

-- ---- cells of parts

pub taken_within : (cells : List Cell) (s : Sort) (n : ℕ) → IsTaken cells s n → n < length (sorts_of cells)
taken_within cells s n h = let size = sorts_length cells in omega (arith, size, h.number.within)

pub pair_parts : (old new : List Cell) (s : Sort) (ss : Sorts) (first rest : ℕ) → Extends old new → IsTaken old (TupSort ss) rest → IsTaken new s first → HasParts (sorts_of new) (c.Tup first rest)
pair_parts old new s ss first rest x h g =
    let size = sorts_length new in
    let k = number_kept old new rest (TupSort ss) x h.number in
    (taken_within new s first g, omega (arith, size, k.within), ap is_tuple k.is)

pub one_parts : (s : Sort) → 1 ≤ cells_of s
one_parts (NumSort r) = omega arith
one_parts BoolSort = omega arith
one_parts (ArrSort s) = omega arith
one_parts (TupSort ss) = omega arith

-- ---- the parts of a tuple in a log

pub parts_split : (ps : List LogSort) (x : LogSort) → 1 ≤ length ps → x ≡ get_or ps 0 x
    → sorts_from (map plain_sort ps) ≡ SortAnd (plain_sort x) (sorts_from (map plain_sort (take (length ps - 1) (drop 1 ps))))
parts_split [] x l e = absurd (omega (arith, l))
parts_split (p ∷ ps) x l e =
    let o : length (p ∷ ps) - 1 ≡ length ps = omega arith in
    ap₂ (λ y ys. SortAnd (plain_sort y) (sorts_from (map plain_sort ys))) (sym e) (sym (ap (λ n. take n ps) o ∙ take_all (length ps) ps (omega arith)))

pub parts_counted : (ps : List LogSort) (x : LogSort) → 1 ≤ length ps → x ≡ get_or ps 0 x
    → cells_of_parts (sorts_from (map plain_sort ps)) ≡ 1 + cells_of (plain_sort x) + cells_of_parts (sorts_from (map plain_sort (take (length ps - 1) (drop 1 ps))))
parts_counted ps x l e = ap cells_of_parts (parts_split ps x l e)
