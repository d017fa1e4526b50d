-- What one sort more does to the numbers, and how much room sorts take.
use Rattle.std.proofs.Common.{ℕ, zero, suc, ◌+◌, ◌<◌, ◌≤◌, Bool, true, false, cond, List, [], ◌∷◌, ◌++◌, ◌≡◌, length, take, drop, get_or, slice_get, Some, refl, sym, ap, ap₂, ◌∙◌, subst, arith, nat_lt}
use Rattle.std.specs.List.{list_any}
use Rattle.std.proofs.lemmas.List.{length_push, take-take, take-append-drop, get_or_append_left}
use Rattle.std.proofs.Math.Seq.{drop-cons, get_or-append_seam}
use Rattle.std.proofs.lemmas.Bool.Decides.{Decides-ltb}
use Rattle.sv_term.specs.Sorts.{Sort, ArrSort, TupSort, SortAnd, is_tuple, parts, same_sort}
use Rattle.sv_term.specs.Banks.{Nodes, SortRow, NumRow, BoolRow, ArrRow, TupRow, SortsAreBelow, IsPlacedSort, sort, sort_by, parts_by, sort_parts}
use Rattle.sv_term.specs.declared.node.SortId.{SortId}
use Rattle.sv_sort_room.specs.SortCells as room
use Rattle.sv_sort_room.specs.SortCells.{SortCells, sorts_of, nth_sort, HasParts, IsNumber, Extends, with_sort}
use Rattle.sv_sort_room.specs.declared.cell.Cell.{Cell}
use Rattle.sv_sort_room.specs.declared.cell.Cell.TheVariants as c
use Rattle.sv_sort_room.proofs.CellTrees.{nth_front, sorts_length, extends_self}
use Rattle.sv_bank_sorts.specs.SortNumbering.{taken, taken_by_all, number_at, sort_there, AreNumbers, IsReady, IsAdded}

-- ---- more cells

longer : (old new : List Cell) → Extends old new → sorts_of new ≡ sorts_of old ++ drop (length old) (sorts_of new)
longer old new x = sym (take-append-drop (length old) (sorts_of new)) ∙ ap (λ y. y ++ drop (length old) (sorts_of new)) x.sorts

pub nth_kept : (old new : List Cell) (n : ℕ) → Extends old new → n < length old → nth_sort (sorts_of new) n ≡ nth_sort (sorts_of old) n
nth_kept old new n x l =
    let size = sorts_length old in
    ap (λ y. nth_sort y n) (longer old new x) ∙ nth_front (sorts_of old) (drop (length old) (sorts_of new)) n (omega (arith, size, l))

pub number_kept : (old new : List Cell) (n : ℕ) (s : Sort) → Extends old new → IsNumber old n s → IsNumber new n s
number_kept old new n s x h = record {
  within = omega (arith, x.size, h.within);
  is = nth_kept old new n x h.within ∙ h.is;
}

pub extends_through : (a b d : List Cell) → Extends a b → Extends b d → Extends a d
extends_through a b d x y = record {
  cells = sym (take-take (length a) (length b) d x.size) ∙ (ap (take (length a)) y.cells ∙ x.cells);
  sorts = sym (take-take (length a) (length b) (sorts_of d) x.size) ∙ (ap (take (length a)) y.sorts ∙ x.sorts);
  size = omega (arith, x.size, y.size);
}

with_size : (ss : List Sort) (s : Sort) → length (with_sort ss s) ≤ length ss + 1
with_size ss s = go (list_any (same_sort s) ss)
  where
    go : (b : Bool) → length (cond b ss (ss ++ s ∷ [])) ≤ length ss + 1
    go true = omega arith
    go false = omega (arith, length_push ss s)

one_more : (old new : List Cell) (s : Sort) → sorts_of new ≡ with_sort (sorts_of old) s → length new ≤ length old + 1
one_more old new s e =
    let n : length (sorts_of new) ≤ length (sorts_of old) + 1 = subst (λ x. length x ≤ length (sorts_of old) + 1) (sym e) (with_size (sorts_of old) s) in
    omega (arith, n, sorts_length old, sorts_length new)

-- what a room ensures of a cell that it takes in
pub record TakesIn (old : SortCells) (cell : Cell) (number : ℕ) (new : SortCells) : Type 0 where
  pub number_of : IsNumber new.cells number (room.sort_by (sorts_of old.cells) cell)
  pub sorts : sorts_of new.cells ≡ with_sort (sorts_of old.cells) (room.sort_by (sorts_of old.cells) cell)
  pub kept : Extends old.cells new.cells
  pub room : new.room ≡ old.room

-- ---- one sort

pub added_one : (old new : SortCells) (x : SortRow) (ns : List ℕ) (n : ℕ) (cell : Cell) → room.sort_by (sorts_of old.cells) cell ≡ sort_by (sort_there old.cells ns) x → 1 ≤ taken x
    → TakesIn old cell n new → IsAdded old x ns n new
added_one old new x ns n cell e l t = record {
  number_of = subst (λ s. IsNumber new.cells n s) e t.number_of;
  kept = t.kept;
  size = let m = one_more old.cells new.cells (room.sort_by (sorts_of old.cells) cell) t.sorts in omega (arith, m, l);
  room = t.room;
}

below_at : (m : ℕ) (ks : List SortId) (j : ℕ) (d : SortId) → SortsAreBelow m ks → j < length ks → (get_or ks j d).0 < m
below_at m [] j d h l = absurd (omega (arith, l))
below_at m (k ∷ ks) zero d h l = h.0
below_at m (k ∷ ks) (suc j) d h l = below_at m ks j d h.1 (omega (arith, l))

pub part_below : (v : SortCells) (ks : List SortId) (ns : List ℕ) (j : ℕ) (d : SortId) → IsReady v (TupRow ks) ns → j < length ks → (get_or ks j d).0 < length ns
part_below v ks ns j d r l = below_at (length ns) ks j d r.parts l

-- the part of a place and the tail behind it are there
pub tail_parts : (old mid : SortCells) (ks : List SortId) (ns : List ℕ) (j n : ℕ) (d : SortId) → IsReady old (TupRow ks) ns → j < length ks → IsAdded old (TupRow (drop (suc j) ks)) ns n mid
    → HasParts (sorts_of mid.cells) (c.Tup (number_at ns (get_or ks j d)) n)
tail_parts old mid ks ns j n d r l a =
    let first = r.within (get_or ks j d) (part_below old ks ns j d r l) in
    let size = sorts_length mid.cells in
    (omega (arith, first, a.kept.size, size), omega (arith, a.number_of.within, size), ap is_tuple a.number_of.is)

tail_length : {A : Type 0} (xs : List A) (j : ℕ) → j < length xs → length (drop j xs) + j ≡ length xs
tail_length [] j l = absurd (omega (arith, l))
tail_length (x ∷ xs) zero l = omega arith
tail_length (x ∷ xs) (suc j) l = let r = tail_length xs j (omega (arith, l)) in omega (arith, r)

pub tail_room : (old mid : SortCells) (ks : List SortId) (ns : List ℕ) (j n : ℕ) → IsReady old (TupRow ks) ns → j < length ks → IsAdded old (TupRow (drop (suc j) ks)) ns n mid
    → length mid.cells < mid.room
tail_room old mid ks ns j n r l a =
    let t = tail_length ks j l in
    let d : length (drop j ks) ≡ suc (length (drop (suc j) ks)) = ap length (drop-cons ks j (record { 0 = 0 }) l) in
    omega (arith, t, d, a.size, a.room, r.room)

pub tail_step : (old mid new : SortCells) (ks : List SortId) (ns : List ℕ) (j n m : ℕ) (d : SortId) → IsReady old (TupRow ks) ns → j < length ks → IsAdded old (TupRow (drop (suc j) ks)) ns n mid
    → TakesIn mid (c.Tup (number_at ns (get_or ks j d)) n) m new → IsAdded old (TupRow (drop j ks)) ns m new
tail_step old mid new ks ns j n m d r l a t =
    let cons : drop j ks ≡ get_or ks j d ∷ drop (suc j) ks = drop-cons ks j d l in
    let first = nth_kept old.cells mid.cells (number_at ns (get_or ks j d)) a.kept (r.within (get_or ks j d) (part_below old ks ns j d r l)) in
    let same : room.sort_by (sorts_of mid.cells) (c.Tup (number_at ns (get_or ks j d)) n) ≡ sort_by (sort_there old.cells ns) (TupRow (get_or ks j d ∷ drop (suc j) ks)) =
    ap₂ (λ x y. TupSort (SortAnd x (parts y))) first a.number_of.is in
    subst (λ x. IsAdded old (TupRow x) ns m new) (sym cons) (record {
      number_of = subst (λ s. IsNumber new.cells m s) same t.number_of;
      kept = extends_through old.cells mid.cells new.cells a.kept t.kept;
      size = let o = one_more mid.cells new.cells (room.sort_by (sorts_of mid.cells) (c.Tup (number_at ns (get_or ks j d)) n)) t.sorts in omega (arith, o, a.size);
      room = t.room ∙ a.room;
    })

no_tail : {A : Type 0} (xs : List A) → drop (length xs) xs ≡ []
no_tail [] = refl
no_tail (x ∷ xs) = no_tail xs

pub tail_first : (old new : SortCells) (ks : List SortId) (ns : List ℕ) (j n : ℕ) → j ≡ length ks → TakesIn old c.Unit n new → IsAdded old (TupRow (drop j ks)) ns n new
tail_first old new ks ns j n e t = subst (λ x. IsAdded old (TupRow x) ns n new) (sym (ap (λ i. drop i ks) e ∙ no_tail ks)) (added_one old new (TupRow []) ns n c.Unit refl (omega arith) t)

-- ---- room

pub taken_step : (xs : List SortRow) (n : ℕ) (x : SortRow) → slice_get xs n ≡ Some x → taken_by_all (take (suc n) xs) ≡ taken_by_all (take n xs) + taken x
taken_step [] n x e = cc e
taken_step (y ∷ xs) zero x e = let f : y ≡ x = cc e in let g = ap taken f in omega (arith, g)
taken_step (y ∷ xs) (suc n) x e = let r = taken_step xs n x e in omega (arith, r)

pub taken_more : (xs : List SortRow) (m n : ℕ) → m ≤ n → taken_by_all (take m xs) ≤ taken_by_all (take n xs)
taken_more [] zero n l = omega arith
taken_more [] (suc m) zero l = absurd (omega (arith, l))
taken_more [] (suc m) (suc n) l = omega arith
taken_more (x ∷ xs) zero n l = omega arith
taken_more (x ∷ xs) (suc m) zero l = absurd (omega (arith, l))
taken_more (x ∷ xs) (suc m) (suc n) l = let r = taken_more xs m n (omega (arith, l)) in omega (arith, r)

pub past_all : (xs : List SortRow) (k count : ℕ) (x : SortRow) (sum most : ℕ) → slice_get xs k ≡ Some x → k < count → sum ≡ taken_by_all (take k xs) → most ≤ sum + taken x → most ≤ taken_by_all (take count xs)
past_all xs k count x sum most g l e m = let s = taken_step xs k x g in let n = taken_more xs (suc k) count l in omega (arith, s, n, e, m)

-- ---- all sorts, one after another

-- the first sorts of the bank have their numbers, and take no more room than they need
pub record IsFilled (b : Nodes) (count : ℕ) (old : SortCells) (ns : List ℕ) (now : SortCells) : Type 0 where
  pub numbered : AreNumbers b now.cells (length ns) ns
  pub below : length ns ≤ count
  pub kept : Extends old.cells now.cells
  pub size : length now.cells ≤ length old.cells + taken_by_all (take (length ns) b.sorts)
  pub room : now.room ≡ old.room

pub filled_none : (b : Nodes) (count : ℕ) (v : SortCells) (ns : List ℕ) → ns ≡ [] → IsFilled b count v ns v
filled_none b count v ns e = subst (λ x. IsFilled b count v x v) (sym e) (record {
  numbered = record { size = refl; each = λ k l. absurd (omega (arith, l)) };
  below = omega arith;
  kept = extends_self v.cells;
  size = omega arith;
  room = refl;
})

pub next_ready : (b : Nodes) (count : ℕ) (old now : SortCells) (ns : List ℕ) (k : SortId) (x : SortRow) → IsFilled b count old ns now → k.0 ≡ length ns → k.0 < count
    → length old.cells + taken_by_all (take count b.sorts) ≤ old.room → slice_get b.sorts k.0 ≡ Some x → IsPlacedSort b k x → IsReady now x ns
next_ready b count old now ns k x f e l r g p =
    let s = taken_step b.sorts k.0 x g in
    let m = taken_more b.sorts (suc k.0) count l in
    let z : length now.cells ≤ length old.cells + taken_by_all (take k.0 b.sorts) = subst (λ i. length now.cells ≤ length old.cells + taken_by_all (take i b.sorts)) (sym e) f.size in
    record {
      parts = subst (λ i. SortsAreBelow i (sort_parts x)) e p.above;
      within = λ j h. (f.numbered.each j h).within;
      room = omega (arith, s, m, z, f.room, r);
    }

same_parts : (f g : SortId → Sort) (m : ℕ) (ks : List SortId) → SortsAreBelow m ks → ((k : SortId) → k.0 < m → f k ≡ g k) → parts_by f ks ≡ parts_by g ks
same_parts f g m [] h e = refl
same_parts f g m (k ∷ ks) h e = ap₂ SortAnd (e k h.0) (same_parts f g m ks h.1 e)

same_by : (f g : SortId → Sort) (m : ℕ) (x : SortRow) → SortsAreBelow m (sort_parts x) → ((k : SortId) → k.0 < m → f k ≡ g k) → sort_by f x ≡ sort_by g x
same_by f g m (NumRow r) h e = refl
same_by f g m BoolRow h e = refl
same_by f g m (ArrRow k) h e = ap ArrSort (e k h.0)
same_by f g m (TupRow ks) h e = ap TupSort (same_parts f g m ks h e)

id_is : (j k : SortId) → j.0 ≡ k.0 → j ≡ k
id_is j k e = ap (λ (x : ℕ). of_number x) e
  where
    of_number : ℕ → SortId
    of_number x = record { 0 = x }

pub next_filled : (b : Nodes) (count : ℕ) (old now new : SortCells) (ns ms : List ℕ) (k : SortId) (x : SortRow) (n : ℕ) → IsFilled b count old ns now → k.0 ≡ length ns → k.0 < count
    → slice_get b.sorts k.0 ≡ Some x → IsPlacedSort b k x → IsAdded now x ns n new → ms ≡ ns ++ n ∷ [] → IsFilled b count old ms new
next_filled b count old now new ns ms k x n f e l g p a same = subst (λ y. IsFilled b count old y new) (sym same) filled
  where
    own : IsNumber new.cells n (sort b k)
    own = subst (λ s. IsNumber new.cells n s)
        (same_by (sort_there now.cells ns) (sort b) (length ns) x (subst (λ i. SortsAreBelow i (sort_parts x)) e p.above) (λ j h. (f.numbered.each j h).is) ∙ sym p.is)
        a.number_of

    size_is : length (ns ++ n ∷ []) ≡ suc k.0
    size_is = omega (arith, length_push ns n, e)

    each : (j : SortId) → j.0 < length (ns ++ n ∷ []) → IsNumber new.cells (number_at (ns ++ n ∷ []) j) (sort b j)
    each j h = go (nat_lt j.0 (length ns)) refl
      where
        go : (t : Bool) → nat_lt j.0 (length ns) ≡ t → IsNumber new.cells (number_at (ns ++ n ∷ []) j) (sort b j)
        go true t =
            let i = (Decides-ltb j.0 (length ns)).0 t in
            subst (λ y. IsNumber new.cells y (sort b j)) (sym (get_or_append_left ns (n ∷ []) 0 j.0 i)) (number_kept now.cells new.cells _ _ a.kept (f.numbered.each j i))
        go false t =
            let no_less : j.0 < length ns → ⊥ = (λ q. cc (t, (Decides-ltb j.0 (length ns)).1 q)) in
            let at : j.0 ≡ length ns = omega (arith, h, size_is, e) in
            let it : j ≡ k = id_is j k (at ∙ sym e) in
            let read : number_at (ns ++ n ∷ []) j ≡ n = ap (λ i. get_or (ns ++ n ∷ []) i 0) at ∙ get_or-append_seam ns n [] 0 in
            subst (λ y. IsNumber new.cells y (sort b j)) (sym read) (subst (λ i. IsNumber new.cells n (sort b i)) (sym it) own)

    filled : IsFilled b count old (ns ++ n ∷ []) new
    filled =
        let s = taken_step b.sorts k.0 x g in
        let z : length now.cells ≤ length old.cells + taken_by_all (take k.0 b.sorts) = subst (λ i. length now.cells ≤ length old.cells + taken_by_all (take i b.sorts)) (sym e) f.size in
        record {
          numbered = record { size = refl; each = each };
          below = omega (arith, size_is, l);
          kept = extends_through old.cells now.cells new.cells f.kept a.kept;
          size = subst (λ i. length new.cells ≤ length old.cells + taken_by_all (take i b.sorts)) (sym size_is) (omega (arith, s, z, a.size));
          room = a.room ∙ f.room;
        }

pub filled_all : (b : Nodes) (count : ℕ) (old now : SortCells) (ns : List ℕ) → IsFilled b count old ns now → count ≤ length ns → AreNumbers b now.cells count ns
filled_all b count old now ns f l = subst (λ i. AreNumbers b now.cells i ns) (omega (arith, f.below, l)) f.numbered

pub filled_size : (b : Nodes) (count : ℕ) (old now : SortCells) (ns : List ℕ) → IsFilled b count old ns now → length now.cells ≤ length old.cells + taken_by_all (take count b.sorts)
filled_size b count old now ns f = let m = taken_more b.sorts (length ns) count f.below in omega (arith, m, f.size)
