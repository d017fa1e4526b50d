-- What cells stand for: at a place, behind a push and a cut; and that each sort has one number.
use Rattle.std.proofs.Common.{Option, Some, None, MatchOption, ℕ, zero, suc, ◌+◌, ◌<◌, ◌≤◌, map, Bool, true, false, cond, ◌&&◌, ◌||◌, nat_eq, List, [], ◌∷◌, ◌++◌, ◌≡◌, ◌⊎◌, inl, inr, length, take, drop, get_or, slice_get, refl, sym, ap, ap₂, ◌∙◌, subst, arith}
use Rattle.std.specs.List.{Contains, list_any}
use Rattle.std.proofs.lemmas.List.{append-nil, append_assoc, length_push, length-append, length-take, take_all, take-append-drop, take-map}
use Rattle.std.proofs.lemmas.Option.{slice_get_within, slice_get-get_or, get_or_from_slice_get, same_Some, none-some}
use Rattle.sv_term.specs.Sorts.{Sort, NumSort, BoolSort, ArrSort, TupSort, Sorts, NoSorts, SortAnd, same_sort, is_tuple, is_num, parts, count, matches, sort_at}
use Rattle.sv_term.specs.Sorts as d
use Rattle.sv_term.specs.Banks.{range_of}
use Rattle.sv_term.specs.declared.node.Range as range
use Rattle.sv_term.specs.declared.node.Range.TheVariants as r
use Rattle.sv_term.proofs.Same.{sort_is, sort_self, same_nat, nat_same}
use Rattle.sv_sort_room.specs.BuiltLists.{built, AreNew}
use Rattle.sv_sort_room.specs.CellCodes.{code_of}
use Rattle.sv_sort_room.specs.SortAdding.{IsNewCell}
use Rattle.sv_sort_room.specs.SortCells.{SortCells, sort_cells, nth_sort, sort_by, sorts_of, HasParts, IsCell, IsNumber, with_sort, Extends, DifferBySort}
use Rattle.sv_sort_room.specs.declared.cell.Cell.{Cell}
use Rattle.sv_sort_room.specs.declared.cell.Cell.TheVariants as c
use Rattle.sv_sort_room.proofs.Building.{contains_at, at_contains, get_front, get_last, Differ, built_more, built_length, built_append, built_take, front_of, new_push, new_take, new_at, new_differ}

-- ---- sorts by longer lists

pub nth_front : (ss more : List Sort) (k : ℕ) → k < length ss → nth_sort (ss ++ more) k ≡ nth_sort ss k
nth_front ss more k l = get_or_from_slice_get (ss ++ more) k (nth_sort ss k) BoolSort (get_front ss more k (nth_sort ss k) (slice_get-get_or ss k BoolSort l))

pub sort_front : (ss more : List Sort) (cell : Cell) → HasParts ss cell → sort_by (ss ++ more) cell ≡ sort_by ss cell
sort_front ss more (c.Num q) h = refl
sort_front ss more c.Bool h = refl
sort_front ss more (c.Arr e) h = ap ArrSort (nth_front ss more e h)
sort_front ss more c.Unit h = refl
sort_front ss more (c.Tup x y) h = ap₂ (λ a b. TupSort (SortAnd a (parts b))) (nth_front ss more x h.0) (nth_front ss more y h.1)

pub parts_front : (ss more : List Sort) (cell : Cell) → HasParts ss cell → HasParts (ss ++ more) cell
parts_front ss more (c.Num q) h = tt
parts_front ss more c.Bool h = tt
parts_front ss more (c.Arr e) h = omega (arith, h, length-append ss more)
parts_front ss more c.Unit h = tt
parts_front ss more (c.Tup x y) h = (omega (arith, h.0, length-append ss more), omega (arith, h.1, length-append ss more), ap is_tuple (nth_front ss more y h.1) ∙ h.2)

abbrev pub Sound : List Cell → Type 0
Sound cells = AreNew sort_by HasParts [] cells

pub sorts_length : (cells : List Cell) → length (sorts_of cells) ≡ length cells
unfolding sorts_of
sorts_length cells = let n = built_length sort_by [] cells in omega (arith, n)

pub sorts_append : (old more : List Cell) → (ss : List Sort) × (sorts_of (old ++ more) ≡ sorts_of old ++ ss)
unfolding sorts_of
sorts_append old more = let r = built_more sort_by (built sort_by [] old) more in (r.0, built_append sort_by [] old more ∙ r.1)

pub sorts_push : (cells : List Cell) (cell : Cell) → sorts_of (cells ++ cell ∷ []) ≡ sorts_of cells ++ sort_by (sorts_of cells) cell ∷ []
unfolding sorts_of
sorts_push cells cell = built_append sort_by [] cells (cell ∷ [])

pub sorts_take : (n : ℕ) (cells : List Cell) → take n (sorts_of cells) ≡ sorts_of (take n cells)
unfolding sorts_of
sorts_take n cells = let o : 0 + n ≡ n = omega arith in ap (λ x. take x (built sort_by [] cells)) (sym o) ∙ built_take sort_by [] n cells

-- ---- the cell of a place

module _ (cells : List Cell) (h : Sound cells) where
  placed : (k : ℕ) (cell : Cell) → slice_get cells k ≡ Some cell
      → HasParts (sorts_of (take k cells)) cell × (slice_get (sorts_of cells) k ≡ Some (sort_by (sorts_of (take k cells)) cell))
  unfolding sorts_of
  placed k cell e =
      let g = new_at sort_by HasParts [] cells k cell h e in
      let o : 0 + k ≡ k = omega arith in
      (g.0, ap (λ x. slice_get (built sort_by [] cells) x) (sym o) ∙ g.1)

  pub cell_at : (k : ℕ) (cell : Cell) → slice_get cells k ≡ Some cell → IsCell cells k cell
  cell_at k cell e =
      let g = placed k cell e in
      let t : sorts_of (take k cells) ≡ take k (sorts_of cells) = sym (sorts_take k cells) in
      let p : HasParts (take k (sorts_of cells)) cell = subst (λ x. HasParts x cell) t g.0 in
      let s : sort_by (take k (sorts_of cells)) cell ≡ sort_by (sorts_of cells) cell =
      sym (sort_front (take k (sorts_of cells)) (drop k (sorts_of cells)) cell p) ∙ ap (λ x. sort_by x cell) (take-append-drop k (sorts_of cells)) in
      record {
        there = e;
        parts = p;
        sort = get_or_from_slice_get (sorts_of cells) k _ BoolSort g.1 ∙ (ap (λ x. sort_by x cell) t ∙ s);
      }

  pub sorts_apart : Differ (sorts_of cells)
  unfolding sorts_of
  sorts_apart = new_differ sort_by HasParts [] cells (λ j k x e f. absurd (none-some x e)) h

  pub numbers_differ : DifferBySort cells
  numbers_differ j k l m e =
      let n = sorts_length cells in
      sorts_apart j k (nth_sort (sorts_of cells) j) (slice_get-get_or (sorts_of cells) j BoolSort (omega (arith, l, n)))
      (slice_get-get_or (sorts_of cells) k BoolSort (omega (arith, m, n)) ∙ ap (λ x. Some x) (sym e))

-- ---- a cell by its sort

range_same : (p q : range.Range) → range_of p ≡ range_of q → p ≡ q
range_same r.Any r.Any e = refl
range_same r.Low r.Low e = refl
range_same (r.Bits g m) (r.Bits h n) e = ap₂ r.Bits (cc e) (cc e)
range_same _ _ e = cc e

tuple_same : (s t : Sort) → is_tuple s ≡ true → is_tuple t ≡ true → parts s ≡ parts t → s ≡ t
tuple_same (TupSort a) (TupSort b) i j e = ap TupSort e
tuple_same (NumSort q) t i j e = cc i
tuple_same BoolSort t i j e = cc i
tuple_same (ArrSort s) t i j e = cc i
tuple_same (TupSort a) (NumSort q) i j e = cc j
tuple_same (TupSort a) BoolSort i j e = cc j
tuple_same (TupSort a) (ArrSort s) i j e = cc j

module _ (cells : List Cell) (h : Sound cells) where
  number_same : (j k : ℕ) → j < length (sorts_of cells) → k < length (sorts_of cells) → nth_sort (sorts_of cells) j ≡ nth_sort (sorts_of cells) k → j ≡ k
  number_same j k l m e = let n = sorts_length cells in numbers_differ cells h j k (omega (arith, l, n)) (omega (arith, m, n)) e

  pub cell_same : (a b : Cell) → HasParts (sorts_of cells) a → HasParts (sorts_of cells) b → sort_by (sorts_of cells) a ≡ sort_by (sorts_of cells) b → a ≡ b
  cell_same (c.Num p) (c.Num q) i j e = ap c.Num (range_same p q (cc e))
  cell_same c.Bool c.Bool i j e = refl
  cell_same (c.Arr x) (c.Arr y) i j e = ap c.Arr (number_same x y i j (cc e))
  cell_same c.Unit c.Unit i j e = refl
  cell_same (c.Tup x z) (c.Tup y w) i j e =
      let f : nth_sort (sorts_of cells) x ≡ nth_sort (sorts_of cells) y = cc e in
      let g : parts (nth_sort (sorts_of cells) z) ≡ parts (nth_sort (sorts_of cells) w) = cc e in
      ap₂ c.Tup (number_same x y i.0 j.0 f) (number_same z w i.1 j.1 (tuple_same _ _ i.2 j.2 g))
  cell_same _ _ i j e = cc e

  -- a sort that is there has its cell
  pub sort_there : (cell : Cell) → HasParts (sorts_of cells) cell → Contains (sorts_of cells) (sort_by (sorts_of cells) cell) → Contains cells cell
  sort_there cell p s =
      let a = at_contains (sorts_of cells) (sort_by (sorts_of cells) cell) s in
      let within : a.0 < length cells = let w = slice_get_within (sorts_of cells) a.0 _ a.1 in omega (arith, w, sorts_length cells) in
      let own : Cell = get_or cells a.0 cell in
      let read : slice_get cells a.0 ≡ Some own = slice_get-get_or cells a.0 cell within in
      let i = cell_at cells h a.0 own read in
      let wide : HasParts (sorts_of cells) own =
      subst (λ x. HasParts x own) (take-append-drop a.0 (sorts_of cells)) (parts_front (take a.0 (sorts_of cells)) (drop a.0 (sorts_of cells)) own i.parts) in
      let same : own ≡ cell = cell_same own cell wide p (sym i.sort ∙ get_or_from_slice_get (sorts_of cells) a.0 _ BoolSort a.1) in
      contains_at cells a.0 cell (read ∙ ap (λ x. Some x) same)

-- ---- a push

pushed_new : (cells : List Cell) → Sound cells → (cell : Cell) → HasParts (sorts_of cells) cell → (Contains (sorts_of cells) (sort_by (sorts_of cells) cell) → ⊥) → Sound (cells ++ cell ∷ [])
unfolding sorts_of
pushed_new cells h cell p n = new_push sort_by HasParts [] cells cell h p n

any_there : (ss : List Sort) (s : Sort) (k : ℕ) → slice_get ss k ≡ Some s → list_any (same_sort s) ss ≡ true
any_there [] s k e = absurd (none-some s e)
any_there (t ∷ ss) s zero e = let f : t ≡ s = same_Some t s e in grind (arith, sort_self s)
any_there (t ∷ ss) s (suc k) e = let r = any_there ss s k e in grind arith

pub with_old : (ss : List Sort) (s : Sort) (k : ℕ) → slice_get ss k ≡ Some s → with_sort ss s ≡ ss
with_old ss s k e = ap (λ b. cond b ss (ss ++ s ∷ [])) (any_there ss s k e)

unlike : (s t : Sort) → (s ≡ t → ⊥) → same_sort s t ≡ false
unlike s t n = go (same_sort s t) refl
  where
    go : (b : Bool) → same_sort s t ≡ b → b ≡ false
    go true e = absurd (n (sort_is s t e))
    go false e = refl

none_at : (ts : List Sort) (s : Sort) → ((k : ℕ) → slice_get ts k ≡ Some s → ⊥) → list_any (same_sort s) ts ≡ false
none_at [] s m = refl
none_at (t ∷ ts) s m =
    let r = none_at ts s (λ k f. m (suc k) f) in
    let u = unlike s t (λ e. m 0 (ap (λ x. Some x) (sym e))) in
    grind (arith, r, u)

none_there : (ss : List Sort) (s : Sort) → (Contains ss s → ⊥) → list_any (same_sort s) ss ≡ false
none_there ss s n = none_at ss s (λ k e. n (contains_at ss k s e))

pub with_new : (ss : List Sort) (s : Sort) → (Contains ss s → ⊥) → with_sort ss s ≡ ss ++ s ∷ []
with_new ss s n = ap (λ b. cond b ss (ss ++ s ∷ [])) (none_there ss s n)

-- ---- what the fields say of the list that callers see

pub coded_by : (cells : List Cell) (room : ℕ) (codes : List ℕ) (now : SortCells) → sort_cells cells room ≡ now → codes ≡ map code_of cells → codes ≡ map code_of now.cells
coded_by cells room codes now view e = e ∙ ap (λ (v : SortCells). map code_of v.cells) view

pub sound_by : (cells : List Cell) (room : ℕ) (now : SortCells) → sort_cells cells room ≡ now → Sound cells → Sound now.cells
sound_by cells room now view h = subst (λ (v : SortCells). Sound v.cells) view h

pub at_read : (cells : List Cell) (room : ℕ) (now : SortCells) → sort_cells cells room ≡ now → (k : ℕ) (x : Cell) → k < length now.cells → x ≡ get_or cells k x → slice_get now.cells k ≡ Some x
at_read cells room now view k x l e =
    let f : x ≡ get_or now.cells k x = e ∙ ap (λ (v : SortCells). get_or v.cells k x) view in
    slice_get-get_or now.cells k x l ∙ ap (λ y. Some y) (sym f)

pub read_at : (cells : List Cell) (room : ℕ) (now : SortCells) → sort_cells cells room ≡ now → (k : ℕ) (x a : Cell) → x ≡ get_or cells k x → slice_get now.cells k ≡ Some a → x ≡ a
read_at cells room now view k x a e f = e ∙ (ap (λ (v : SortCells). get_or v.cells k x) view ∙ get_or_from_slice_get now.cells k a x f)

-- ---- a cell that is there, or one more

pub number_of_cell : (cells : List Cell) → Sound cells → (k : ℕ) (cell : Cell) → slice_get cells k ≡ Some cell → IsNumber cells k (sort_by (sorts_of cells) cell)
number_of_cell cells h k cell e = record {
  within = slice_get_within cells k cell e;
  is = (cell_at cells h k cell e).sort;
}

pub old_sorts : (cells : List Cell) → Sound cells → (k : ℕ) (cell : Cell) → slice_get cells k ≡ Some cell → sorts_of cells ≡ with_sort (sorts_of cells) (sort_by (sorts_of cells) cell)
old_sorts cells h k cell e =
    let n = sorts_length cells in
    let w = slice_get_within cells k cell e in
    sym (with_old (sorts_of cells) (sort_by (sorts_of cells) cell) k
    (slice_get-get_or (sorts_of cells) k BoolSort (omega (arith, n, w)) ∙ ap (λ x. Some x) (cell_at cells h k cell e).sort))

pub extends_self : (cells : List Cell) → Extends cells cells
extends_self cells = record {
  cells = take_all (length cells) cells (omega arith);
  sorts = take_all (length cells) (sorts_of cells) (omega (arith, sorts_length cells));
  size = omega arith;
}

pub extends_more : (cells more : List Cell) → Extends cells (cells ++ more)
extends_more cells more =
    let s = sorts_append cells more in
    let f : take (length cells) (cells ++ more) ≡ cells = front_of cells more in
    record {
      cells = f;
      sorts = ap₂ take (sym (sorts_length cells)) s.1 ∙ front_of (sorts_of cells) s.0;
      size = omega (arith, length-append cells more);
    }

pub pushed_number : (cells : List Cell) (cell : Cell) → IsNumber (cells ++ cell ∷ []) (length cells) (sort_by (sorts_of cells) cell)
pushed_number cells cell = record {
  within = omega (arith, length_push cells cell);
  is = ap₂ (λ x y. get_or x y BoolSort) (sorts_push cells cell) (sym (sorts_length cells))
      ∙ get_or_from_slice_get _ (length (sorts_of cells)) _ BoolSort (get_last (sorts_of cells) (sort_by (sorts_of cells) cell) []);
}

pub pushed_sorts : (cells : List Cell) → Sound cells → (cell : Cell) → HasParts (sorts_of cells) cell → (Contains cells cell → ⊥)
    → sorts_of (cells ++ cell ∷ []) ≡ with_sort (sorts_of cells) (sort_by (sorts_of cells) cell)
pushed_sorts cells h cell p n = sorts_push cells cell ∙ sym (with_new (sorts_of cells) (sort_by (sorts_of cells) cell) (λ s. n (sort_there cells h cell p s)))

pub pushed_sound : (cells : List Cell) → Sound cells → (cell : Cell) → HasParts (sorts_of cells) cell → (Contains cells cell → ⊥) → Sound (cells ++ cell ∷ [])
pushed_sound cells h cell p n = pushed_new cells h cell p (λ s. n (sort_there cells h cell p s))

-- ---- one sort by its numbers

pub same_number : (cells : List Cell) → Sound cells → (j k : ℕ) → j < length cells → k < length cells
    → same_sort (nth_sort (sorts_of cells) j) (nth_sort (sorts_of cells) k) ≡ nat_eq j k
same_number cells h j k l m = go (nat_eq j k) refl
  where
    go : (b : Bool) → nat_eq j k ≡ b → same_sort (nth_sort (sorts_of cells) j) (nth_sort (sorts_of cells) k) ≡ b
    go true e = subst (λ x. same_sort (nth_sort (sorts_of cells) j) (nth_sort (sorts_of cells) x) ≡ true) (same_nat j k e) (sort_self (nth_sort (sorts_of cells) j))
    go false e = unlike (nth_sort (sorts_of cells) j) (nth_sort (sorts_of cells) k) (λ f. let t = nat_same j k (numbers_differ cells h j k l m f) in cc (e, t))

pub kin_by : (cells : List Cell) → Sound cells → (j k : ℕ) → j < length cells → k < length cells
    → (is_num (nth_sort (sorts_of cells) j) && is_num (nth_sort (sorts_of cells) k)) ≡ false → nat_eq j k ≡ matches (nth_sort (sorts_of cells) j) (nth_sort (sorts_of cells) k)
kin_by cells h j k l m e = sym (ap (λ b. b || same_sort (nth_sort (sorts_of cells) j) (nth_sort (sorts_of cells) k)) e ∙ same_number cells h j k l m)

map_push : {A B : Type 0} → (f : A → B) (xs : List A) (x : A) → map f (xs ++ x ∷ []) ≡ map f xs ++ f x ∷ []
map_push f [] x = refl
map_push f (y ∷ xs) x = ap (λ z. f y ∷ z) (map_push f xs x)

pub coded_push : (cells : List Cell) (codes : List ℕ) (cell : Cell) (new : List Cell) (cs : List ℕ) → codes ≡ map code_of cells → new ≡ cells ++ cell ∷ [] → cs ≡ codes ++ code_of cell ∷ []
    → cs ≡ map code_of new
coded_push cells codes cell new cs e f g = g ∙ (ap (λ x. x ++ code_of cell ∷ []) e ∙ (sym (map_push code_of cells cell) ∙ ap (λ x. map code_of x) (sym f)))

pub coded_cut : (cells : List Cell) (codes : List ℕ) (n : ℕ) (new : List Cell) (cs : List ℕ) → codes ≡ map code_of cells → new ≡ take n cells → cs ≡ take n codes → cs ≡ map code_of new
coded_cut cells codes n new cs e f g = g ∙ (ap (λ x. take n x) e ∙ (take-map code_of n cells ∙ ap (λ x. map code_of x) (sym f)))

pub pushed_by : (cells : List Cell) (room : ℕ) (now : SortCells) → sort_cells cells room ≡ now → Sound cells → (cell : Cell) → IsNewCell now cell → (new : List Cell) → new ≡ cells ++ cell ∷ [] → Sound new
pushed_by cells room now view h cell r new e =
    let s : IsNewCell (sort_cells cells room) cell = subst (λ v. IsNewCell v cell) (sym view) r in
    subst Sound (sym e) (pushed_sound cells h cell s.parts s.absent)

pub cut_by : (cells : List Cell) (n : ℕ) → Sound cells → (new : List Cell) → new ≡ take n cells → Sound new
cut_by cells n h new e = subst Sound (sym e) (new_take sort_by HasParts [] n cells h)

pub first_is_none : (a b : Bool) → a ≡ false → (a && b) ≡ false
first_is_none true b e = cc e
first_is_none false b e = refl

pub second_is_none : (a b : Bool) → b ≡ false → (a && b) ≡ false
second_is_none true b e = e
second_is_none false b e = refl
