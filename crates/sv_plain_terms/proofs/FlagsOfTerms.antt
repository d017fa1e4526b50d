-- The flags of a room's terms, and that its terms fit, by number.
use Rattle.std.proofs.Common.{ℕ, ◌<◌, Bool, true, List, ◌≡◌, length, map, get_or, sym, ap, ◌∙◌, subst}
use Rattle.std.specs.Option.{option_map}
use Rattle.std.specs.List.{All}
use Rattle.std.proofs.lemmas.Option.{slice_get-map, get_or_from_slice_get}
use Rattle.sv_term.specs.Terms.{Term, fits, is_plain, sort_of}
use Rattle.sv_log.specs.Logs.{nth_term}
use Rattle.sv_term_room.proofs.TermTrees.{get_nth}
use Rattle.sv_term.specs.Sorts.{NumSort, is_sort}
use Rattle.sv_term.specs.Banks.{range_of}
use Rattle.sv_term.specs.declared.node.Range as range
use Rattle.sv_sort_room.specs.SortCells.{nth_sort, sort_by, sorts_of, IsCell, IsNumber}
use Rattle.sv_sort_room.specs.declared.cell.Cell.{Cell}
use Rattle.sv_sort_room.specs.declared.cell.Cell.TheVariants as c
use Rattle.sv_pattern.specs.TermKinds.{HasRange}
use Rattle.sv_plain_terms.proofs.FittingSorts.{sort_sound}

pub fits_at : (ts : List Term) (n : ℕ) → All (λ x. fits x ≡ true) ts → n < length ts → fits (nth_term ts n) ≡ true
fits_at ts n a l = subst (λ x. fits x ≡ true) (get_or_from_slice_get ts n (nth_term ts n) (nth_term ts n) (get_nth ts n l)) (a n (nth_term ts n) l)

pub flag_at : (ts : List Term) (flags : List Bool) (n : ℕ) (d : Bool) → flags ≡ map is_plain ts → n < length ts → get_or flags n d ≡ is_plain (nth_term ts n)
flag_at ts flags n d e l =
    ap (λ x. get_or x n d) e ∙ get_or_from_slice_get (map is_plain ts) n (is_plain (nth_term ts n)) d (slice_get-map is_plain ts n ∙ ap (λ x. option_map is_plain x) (get_nth ts n l))

range_sound : (t : Term) (r : range.Range) → fits t ≡ true → sort_of t ≡ NumSort (range_of r) → HasRange t r
range_sound t r f e = record { sort = e; sound = subst (λ s. is_sort s ≡ true) e (sort_sound t f) }

pub range_at : (t : Term) (r : range.Range) (cells seen : List Cell) (k : ℕ) (cell : Cell) → fits t ≡ true → seen ≡ cells → IsNumber cells k (sort_of t) → IsCell seen k cell → cell ≡ c.Num r → HasRange t r
range_at t r cells seen k cell f e n i s =
    let there : nth_sort (sorts_of cells) k ≡ sort_by (sorts_of seen) cell = ap (λ x. nth_sort (sorts_of x) k) (sym e) ∙ i.sort in
    let own : sort_by (sorts_of seen) cell ≡ NumSort (range_of r) = ap (sort_by (sorts_of seen)) s in
    range_sound t r f (sym n.is ∙ (there ∙ own))
