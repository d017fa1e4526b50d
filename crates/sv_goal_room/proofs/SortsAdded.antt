-- Sorts that are put into a room one after another, and which sorts terms have.
use Rattle.std.proofs.Common.{ℕ, zero, suc, ◌+◌, ◌<◌, ◌≤◌, List, [], ◌∷◌, ◌++◌, ◌≡◌, ◌⊎◌, inl, inr, length, take, drop, slice_get, Some, sym, ap, ◌∙◌, subst, arith}
use Rattle.std.specs.List.{Contains}
use Rattle.std.proofs.lemmas.List.{length-take-le, take-append-drop}
use Rattle.std.proofs.lemmas.Option.{slice_get_within, slice_get-get_or, get_or_from_slice_get}
use Rattle.sv_term.specs.Sorts.{Sort, BoolSort}
use Rattle.sv_term.specs.Terms.{sort_of}
use Rattle.sv_term.specs.Banks.{Nodes, SortRow, IsKind, term}
use Rattle.sv_term.specs.declared.node.SortId.{SortId}
use Rattle.sv_term.specs.declared.node.TermId.{TermId}
use Rattle.sv_sort_room.specs.SortCells.{nth_sort, sort_by, sorts_of, HasParts, IsCell, with_sort, DifferBySort}
use Rattle.sv_sort_room.specs.declared.cell.Cell.{Cell}
use Rattle.sv_sort_room.proofs.Building.{contains_at, at_contains, pushed_at}
use Rattle.sv_sort_room.proofs.CellTrees.{sort_front, sorts_length, with_new}
use Rattle.sv_bank_sorts.specs.SortNumbering.{taken_by_all, AreNumbers}
use Rattle.sv_term_room.specs.TermRows.{TermRows, with_cells}
use Rattle.sv_goal_room.specs.GoalFilling.{HaveSorts, AreNumbered}
use Rattle.sv_goal_room.proofs.GoalOrder.{at_taken, take_more, take_whole}

-- ---- one sort more

pub sorts_none : (cells : List Cell) (ss : List Sort) → cells ≡ [] → sorts_of cells ≡ take 0 ss
unfolding sorts_of
sorts_none cells ss e = ap sorts_of e

module _ (cells here : List Cell) (k : ℕ) (cell : Cell) (is : IsCell cells k cell) (so_far : sorts_of here ≡ take k (sorts_of cells)) where
  pub parts_here : HasParts (sorts_of here) cell
  parts_here = subst (λ ss. HasParts ss cell) (sym so_far) is.parts

  within : k < length cells
  within = slice_get_within cells k cell is.there

  pub size_here : length here ≡ k
  size_here = let a = sorts_length here in let b = sorts_length cells in let l = within in
      sym a ∙ ap length so_far ∙ length-take-le k (sorts_of cells) (omega (arith, b, l))

  same_sort : sort_by (sorts_of here) cell ≡ nth_sort (sorts_of cells) k
  same_sort = ap (λ ss. sort_by ss cell) so_far
      ∙ (sym (sort_front (take k (sorts_of cells)) (drop k (sorts_of cells)) cell is.parts) ∙ ap (λ ss. sort_by ss cell) (take-append-drop k (sorts_of cells)))
      ∙ sym is.sort

  at_k : slice_get (sorts_of cells) k ≡ Some (nth_sort (sorts_of cells) k)
  at_k = let b = sorts_length cells in let l = within in slice_get-get_or (sorts_of cells) k BoolSort (omega (arith, b, l))

  absent : DifferBySort cells → Contains (sorts_of here) (sort_by (sorts_of here) cell) → ⊥
  absent d c =
      let a = at_contains (sorts_of here) (sort_by (sorts_of here) cell) c in
      let front : slice_get (take k (sorts_of cells)) a.0 ≡ Some (sort_by (sorts_of here) cell) = ap (λ ss. slice_get ss a.0) (sym so_far) ∙ a.1 in
      let t = at_taken k (sorts_of cells) a.0 (sort_by (sorts_of here) cell) front in
      let less = t.0 in
      let l = within in
      let same : a.0 ≡ k = d a.0 k (omega (arith, less, l)) l (get_or_from_slice_get (sorts_of cells) a.0 (sort_by (sorts_of here) cell) BoolSort t.1 ∙ same_sort) in
      omega (arith, less, same)

  pub one_sort_more : DifferBySort cells → (new : List Cell) → sorts_of new ≡ with_sort (sorts_of here) (sort_by (sorts_of here) cell) → sorts_of new ≡ take (k + 1) (sorts_of cells)
  one_sort_more d new e =
      let one : suc k ≡ k + 1 = omega arith in
      e ∙ with_new (sorts_of here) (sort_by (sorts_of here) cell) (absent d)
      ∙ ap (λ s. sorts_of here ++ s ∷ []) same_sort
      ∙ ap (λ ss. ss ++ nth_sort (sorts_of cells) k ∷ []) so_far
      ∙ sym (take_more (sorts_of cells) k (nth_sort (sorts_of cells) k) at_k)
      ∙ ap (λ i. take i (sorts_of cells)) one

pub all_sorts : (cells here : List Cell) (k : ℕ) → sorts_of here ≡ take k (sorts_of cells) → k ≡ length cells → sorts_of here ≡ sorts_of cells
all_sorts cells here k e l = let n = sorts_length cells in e ∙ ap (λ i. take i (sorts_of cells)) (l ∙ sym n) ∙ take_whole (sorts_of cells)

pub cells_through : (old mid new : TermRows) → mid ≡ with_cells mid.cells old → new ≡ with_cells new.cells mid → new ≡ with_cells new.cells old
cells_through old mid new e f = f ∙ ap (λ (v : TermRows). with_cells new.cells v) e

-- ---- the sorts of terms

contains_more : (xs : List TermId) (n : ℕ) (x k : TermId) → slice_get xs n ≡ Some x → Contains (take (n + 1) xs) k → Contains (take n xs) k ⊎ (x ≡ k)
contains_more xs n x k e c =
    let one : suc n ≡ n + 1 = omega arith in
    let a = at_contains (take (n + 1) xs) k c in
    go a.0 (pushed_at (take n xs) x a.0 k (ap (λ l. slice_get l a.0) (sym (take_more xs n x e) ∙ ap (λ i. take i xs) one) ∙ a.1))
  where
    go : (j : ℕ) → (slice_get (take n xs) j ≡ Some k) ⊎ ((j ≡ length (take n xs)) × (x ≡ k)) → Contains (take n xs) k ⊎ (x ≡ k)
    go j (inl f) = inl (contains_at (take n xs) j k f)
    go j (inr f) = inr f.1

pub have_none : (b : Nodes) → HaveSorts b [] 0
have_none b k s c kind = absurd (let l = c.1 in omega (arith, l))

pub have_more : (b : Nodes) (ids : List TermId) (i : ℕ) (id : TermId) (sort : SortId) (old new : ℕ) → slice_get ids i ≡ Some id → ((s : SortId) → IsKind b s (sort_of (term b id)) → s ≡ sort)
    → old ≤ new → sort.0 < new → HaveSorts b (take i ids) old → HaveSorts b (take (i + 1) ids) new
have_more b ids i id sort old new at only l m h k s c kind = go (contains_more ids i id k at c)
  where
    go : Contains (take i ids) k ⊎ (id ≡ k) → s.0 < new
    go (inl f) = let w = h k s f kind in omega (arith, w, l)
    go (inr f) = let same = ap (λ (x : SortId). x.0) (only s (subst (λ (x : TermId). IsKind b s (sort_of (term b x))) (sym f) kind)) in omega (arith, same, m)

pub have_numbers : (b : Nodes) (ids : List TermId) (cells : List Cell) (count : ℕ) (numbers : List ℕ) → HaveSorts b ids count → AreNumbers b cells count numbers → AreNumbered b ids cells numbers
have_numbers b ids cells count numbers h n k s c kind =
    let l = h k s c kind in
    let size = n.size in
    let e = n.each s l in
    (omega (arith, l, size), record { within = e.within; is = e.is ∙ kind.is })

pub taken_by_front : (xs : List SortRow) (n : ℕ) → taken_by_all (take n xs) ≤ taken_by_all xs
taken_by_front xs zero = omega arith
taken_by_front [] (suc n) = omega arith
taken_by_front (x ∷ xs) (suc n) = let r = taken_by_front xs n in omega (arith, r)

pub have_all : (b : Nodes) (ids : List TermId) (i count : ℕ) → i ≡ length ids → HaveSorts b (take i ids) count → HaveSorts b ids count
have_all b ids i count l h = subst (λ ks. HaveSorts b ks count) (ap (λ n. take n ids) l ∙ take_whole ids) h
