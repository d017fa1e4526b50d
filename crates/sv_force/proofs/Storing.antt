-- Slots one after another: what stands at a place, and what a push and a cut leave.
use Rattle.std.proofs.Common.{Some, option_map, ℕ, zero, suc, ◌+◌, ◌-◌, ◌<◌, ◌≤◌, List, [], ◌∷◌, ◌++◌, ◌≡◌, length, map, take, drop, slice_get, slice_range, get_or, Bool, refl, sym, ap, ap₂, ◌∙◌, subst, arith, ℤ}
use Rattle.std.proofs.lemmas.List.{length-append, length-map, length-take, length-take-le, take-append-le, take-take, take_all, drop_at, take-map}
use Rattle.std.proofs.lemmas.List.Edits.{length-between}
use Rattle.std.proofs.lemmas.Slice.{between_is}
use Rattle.std.proofs.lemmas.Option.{slice_get-map, slice_get_read}
use Rattle.std.specs.Bool.{Decides}
use Rattle.sv_log.specs.LogEntries.{Monomial, Row}
use Rattle.sv_log.specs.LogRows.{plain_monomial, row}
use Rattle.sv_row.specs.RowParts.{monomials}
use Rattle.sv_force.specs.InForce.{Held, FactOn, RowOf, parts_of, parts_in, Force, force, IsFactAt, IsRowAt}
use Rattle.sv_force.specs.Codes.{code_of}
use Rattle.sv_force.specs.Slots.{held_of, numbered, IsSized, AreStacked, IsStored}
use Rattle.sv_force.specs.declared.force.Kind.{Kind}
use Rattle.sv_force.specs.declared.force.Kind.TheVariants as k
use Rattle.sv_force.specs.declared.force.Slot.{Slot}

abbrev pub Pairs : Type 0
Pairs = List (ℤ × ℕ)

-- ---- parts of lists

pub range_take : (ps : Pairs) (n x y : ℕ) → y ≤ n → slice_range (take n ps) x y ≡ slice_range ps x y
range_take ps n x y l = between_is (take n ps) x y ∙ (ap (λ z. drop x z) (take-take y n ps l) ∙ sym (between_is ps x y))

pub range_append : (ps qs : Pairs) (x y : ℕ) → y ≤ length ps → slice_range (ps ++ qs) x y ≡ slice_range ps x y
range_append ps qs x y l = between_is (ps ++ qs) x y ∙ (ap (λ z. drop x z) (take-append-le y ps qs l) ∙ sym (between_is ps x y))

pub range_last : (ps qs : Pairs) (x y : ℕ) → x ≡ length ps → y ≡ length ps + length qs → slice_range (ps ++ qs) x y ≡ qs
range_last ps qs x y e f =
    ap (λ z. take (y - x) z) (drop_at ps qs x (sym e)) ∙ take_all (y - x) qs (omega (arith, e, f))

-- ---- slots one after another

pub sized_le : (kind : Kind) (x y : ℕ) → IsSized kind x y → x ≤ y
sized_le (k.Fact sign term) x y e = omega arith
sized_le (k.Row constant) x y l = l

pub stacked_le : (a b : ℕ) (ss : List Slot) → AreStacked a ss b → a ≤ b
stacked_le a b [] e = omega arith
stacked_le a b (s ∷ ss) h =
    let own = sized_le s.kind s.start s.end h.1 in
    let rest = stacked_le s.end b ss h.2 in
    omega (arith, h.0, own, rest)

pub stacked_at : (a b : ℕ) (ss : List Slot) (place : ℕ) (s : Slot) → AreStacked a ss b → slice_get ss place ≡ Some s → IsSized s.kind s.start s.end × (s.end ≤ b) × (a ≤ s.start)
stacked_at a b [] place s h e = absurd (cc)
stacked_at a b (r ∷ ss) zero s h e =
    let same : r ≡ s = cc in
    subst (λ (x : Slot). IsSized x.kind x.start x.end × (x.end ≤ b) × (a ≤ x.start)) same (h.1, stacked_le r.end b ss h.2, omega (arith, h.0))
stacked_at a b (r ∷ ss) (suc place) s h e =
    let g = stacked_at r.end b ss place s h.2 e in
    let own = sized_le r.kind r.start r.end h.1 in
    (g.0, g.1, omega (arith, h.0, own, g.2))

pub stacked_push : (a b : ℕ) (ss : List Slot) (s : Slot) → AreStacked a ss b → s.start ≡ b → IsSized s.kind s.start s.end → AreStacked a (ss ++ s ∷ []) s.end
stacked_push a b [] s h e z = (e ∙ sym h, z, refl)
stacked_push a b (r ∷ ss) s h e z = (h.0, h.1, stacked_push r.end b ss s h.2 e z)

pub stacked_take : (a b : ℕ) (ss : List Slot) (n : ℕ) (s : Slot) → AreStacked a ss b → slice_get ss n ≡ Some s → AreStacked a (take n ss) s.start
stacked_take a b [] n s h e = absurd (cc)
stacked_take a b (r ∷ ss) zero s h e =
    let same : r ≡ s = cc in
    sym h.0 ∙ ap (λ (x : Slot). x.start) same
stacked_take a b (r ∷ ss) (suc n) s h e = (h.0, h.1, stacked_take r.end b ss n s h.2 e)

-- ---- what the slots keep, where more parts stand behind, or fewer

pub same_numbered : (ps qs : Pairs) (m : ℕ) → ((x y : ℕ) → y ≤ m → slice_range qs x y ≡ slice_range ps x y) → (a b : ℕ) (ss : List Slot) → AreStacked a ss b → b ≤ m
    → map (numbered qs) ss ≡ map (numbered ps) ss
same_numbered ps qs m f a b [] h l = refl
same_numbered ps qs m f a b (s ∷ ss) h l =
    let rest = stacked_le s.end b ss h.2 in
    ap₂ (λ x y. x ∷ y) (ap (λ x. held_of x s.kind) (f s.start s.end (omega (arith, rest, l)))) (same_numbered ps qs m f s.end b ss h.2 l)

pub numbered_at : (ps : Pairs) (ss : List Slot) (place : ℕ) (s : Slot) → slice_get ss place ≡ Some s → slice_get (map (numbered ps) ss) place ≡ Some (numbered ps s)
numbered_at ps ss place s e = slice_get-map (numbered ps) ss place ∙ ap (λ x. option_map (numbered ps) x) e

-- ---- how many parts

parts_sized : (ps : Pairs) (kind : Kind) (x y : ℕ) → IsSized kind x y → y ≤ length ps → parts_of (held_of (slice_range ps x y) kind) + x ≡ y
parts_sized ps (k.Fact sign term) x y e l = omega arith
parts_sized ps (k.Row constant) x y e l =
    let long : length (monomials (slice_range ps x y)) ≡ y - x = length-map (slice_range ps x y) plain_monomial ∙ length-between ps x y l in
    omega (arith, long, e)

pub parts_counted : (ps : Pairs) (a b : ℕ) (ss : List Slot) → AreStacked a ss b → b ≤ length ps → a + parts_in (map (numbered ps) ss) ≡ b
parts_counted ps a b [] h l = omega (arith, h)
parts_counted ps a b (s ∷ ss) h l =
    let rest = stacked_le s.end b ss h.2 in
    let own : parts_of (numbered ps s) + s.start ≡ s.end = parts_sized ps s.kind s.start s.end h.1 (omega (arith, rest, l)) in
    let more = parts_counted ps s.end b ss h.2 l in
    omega (arith, h.0, own, more)

-- ---- a push

map_push : {A B : Type 0} → (f : A → B) (xs : List A) (x : A) → map f (xs ++ x ∷ []) ≡ map f xs ++ f x ∷ []
map_push f [] x = refl
map_push f (y ∷ xs) x = ap (λ z. f y ∷ z) (map_push f xs x)

module _ (ps qs : Pairs) (ss ts : List Slot) (codes cs : List ℕ) (s : Slot) (h : Held) (st : IsStored ps ss codes)
    (grows : (x y : ℕ) → y ≤ length ps → slice_range qs x y ≡ slice_range ps x y) (start : s.start ≡ length ps) (sized : IsSized s.kind s.start s.end) (end : s.end ≡ length qs)
    (is : numbered qs s ≡ h) (slots_are : ts ≡ ss ++ s ∷ []) (codes_are : cs ≡ codes ++ code_of h ∷ []) where
  pub items_pushed : map (numbered qs) ts ≡ map (numbered ps) ss ++ h ∷ []
  items_pushed =
      ap (λ x. map (numbered qs) x) slots_are ∙ (map_push (numbered qs) ss s
      ∙ ap₂ (λ x y. x ++ y ∷ []) (same_numbered ps qs (length ps) grows 0 (length ps) ss st.stacked (omega arith)) is)

  pub stored_pushed : IsStored qs ts cs
  stored_pushed = record {
    stacked = subst (λ x. AreStacked 0 x (length qs)) (sym slots_are) (subst (λ x. AreStacked 0 (ss ++ s ∷ []) x) end (stacked_push 0 (length ps) ss s st.stacked start sized));
    coded = codes_are ∙ (ap (λ x. x ++ code_of h ∷ []) st.coded ∙ (sym (map_push code_of (map (numbered ps) ss) h) ∙ ap (λ x. map code_of x) (sym items_pushed)));
  }

-- ---- a cut

module _ (ps qs : Pairs) (ss ts : List Slot) (codes cs : List ℕ) (n : ℕ) (s : Slot) (st : IsStored ps ss codes) (there : slice_get ss n ≡ Some s)
    (parts_are : qs ≡ take s.start ps) (slots_are : ts ≡ take n ss) (codes_are : cs ≡ take n codes) where
  start_within : s.start ≤ length ps
  start_within =
      let g = stacked_at 0 (length ps) ss n s st.stacked there in
      let own = sized_le s.kind s.start s.end g.0 in
      omega (arith, own, g.1)

  stacked_cut : AreStacked 0 (take n ss) s.start
  stacked_cut = stacked_take 0 (length ps) ss n s st.stacked there

  pub items_cut : map (numbered qs) ts ≡ take n (map (numbered ps) ss)
  items_cut =
      ap₂ (λ x y. map (numbered x) y) parts_are slots_are
      ∙ (same_numbered ps (take s.start ps) s.start (λ x y l. range_take ps s.start x y l) 0 s.start (take n ss) stacked_cut (omega arith) ∙ sym (take-map (numbered ps) n ss))

  pub stored_cut : IsStored qs ts cs
  stored_cut = record {
    stacked = subst (λ x. AreStacked 0 x (length qs)) (sym slots_are)
        (subst (λ x. AreStacked 0 (take n ss) x) (sym (ap length parts_are ∙ length-take-le s.start ps start_within)) stacked_cut);
    coded = codes_are ∙ (ap (λ x. take n x) st.coded ∙ (take-map code_of n (map (numbered ps) ss) ∙ ap (λ x. map code_of x) (sym items_cut)));
  }

-- ---- what the fields say of the list that callers see

module _ (ps : Pairs) (ss : List Slot) (codes : List ℕ) (room parts_room : ℕ) (now : Force) (view : force (map (numbered ps) ss) room parts_room ≡ now) (st : IsStored ps ss codes) where
  pub coded_by : codes ≡ map code_of now.items
  coded_by = st.coded ∙ ap (λ (f : Force). map code_of f.items) view

  pub slots_there : (place : ℕ) → place < length now.items → place < length ss
  slots_there place l =
      let same : length now.items ≡ length ss = ap (λ (f : Force). length f.items) (sym view) ∙ length-map ss (numbered ps) in
      omega (arith, l, same)

  pub slot_at : (place : ℕ) (s : Slot) → place < length now.items → s ≡ get_or ss place s → slice_get ss place ≡ Some s
  slot_at place s l e = slice_get_read ss (length ss) place s refl (slots_there place l) e

  pub range_at : (place : ℕ) (s : Slot) → place < length now.items → s ≡ get_or ss place s → (s.start ≤ s.end) × (s.end ≤ length ps)
  range_at place s l e =
      let g = stacked_at 0 (length ps) ss place s st.stacked (slot_at place s l e) in
      (sized_le s.kind s.start s.end g.0, g.1)

  pub held_at : (place : ℕ) (s : Slot) (h : Held) → place < length now.items → s ≡ get_or ss place s → numbered ps s ≡ h → slice_get now.items place ≡ Some h
  held_at place s h l e f =
      subst (λ (x : Force). slice_get x.items place ≡ Some h) view (numbered_at ps ss place s (slot_at place s l e) ∙ ap (λ x. Some x) f)

  pub row_at : (place : ℕ) (s : Slot) (constant : ℤ) (part : Pairs) → place < length now.items → s ≡ get_or ss place s → s.kind ≡ k.Row constant → part ≡ slice_range ps s.start s.end
      → slice_get now.items place ≡ Some (RowOf (row constant (monomials part)))
  row_at place s constant part l e f g = held_at place s (RowOf (row constant (monomials part))) l e (ap₂ (λ x y. held_of x y) (sym g) f)

  pub some_row_at : (place : ℕ) (s : Slot) (constant : ℤ) → place < length now.items → s ≡ get_or ss place s → s.kind ≡ k.Row constant → IsRowAt now.items place
  some_row_at place s constant l e f = (row constant (monomials (slice_range ps s.start s.end)), row_at place s constant (slice_range ps s.start s.end) l e f refl)

  pub some_fact_at : (place : ℕ) (s : Slot) (sign : Bool) (term : ℕ) → place < length now.items → s ≡ get_or ss place s → s.kind ≡ k.Fact sign term → IsFactAt now.items place
  some_fact_at place s sign term l e f = (sign, term, held_at place s (FactOn sign term) l e (ap (λ y. held_of (slice_range ps s.start s.end) y) f))

  pub counted : parts_in now.items ≡ length ps
  counted = ap (λ (f : Force). parts_in f.items) (sym view) ∙ omega (arith, parts_counted ps 0 (length ps) ss st.stacked (omega arith))

  pub room_for : (n : ℕ) → parts_in now.items + n ≤ now.parts_room → length ps + n ≤ parts_room
  room_for n l =
      let same : now.parts_room ≡ parts_room = ap (λ (f : Force). f.parts_room) (sym view) in
      let count = counted in
      omega (arith, l, same, count)

  pub room_is : (n used : ℕ) → used ≡ length ps → length ps ≤ parts_room → length ss < room → (r : Bool) → Decides r (n ≤ parts_room - used)
      → Decides r ((length now.items < now.room) × (parts_in now.items + n ≤ now.parts_room))
  room_is n used e l m r d =
      let count = counted in
      let same : now.parts_room ≡ parts_room = ap (λ (f : Force). f.parts_room) (sym view) in
      let size : length now.items ≡ length ss = ap (λ (f : Force). length f.items) (sym view) ∙ length-map ss (numbered ps) in
      let all : now.room ≡ room = ap (λ (f : Force). f.room) (sym view) in (
        (λ t. let h = d.0 t in (omega (arith, m, size, all), omega (arith, h, e, l, count, same))),
        λ p. let h = p.1 in d.1 (omega (arith, h, e, l, count, same)),
      )

-- ---- parts behind the others

module _ (ps new qs : Pairs) (e : qs ≡ ps ++ new) where
  pub grows_by : (x y : ℕ) → y ≤ length ps → slice_range qs x y ≡ slice_range ps x y
  grows_by x y l = ap (λ z. slice_range z x y) e ∙ range_append ps new x y l

  pub last_by : (x y : ℕ) → x ≡ length ps → y ≡ length qs → slice_range qs x y ≡ new
  last_by x y f g = ap (λ z. slice_range z x y) e ∙ range_last ps new x y f (g ∙ (ap length e ∙ length-append ps new))

-- ---- a row is the one that is looked for where its parts are

monomials_one : (ps qs : Pairs) → monomials ps ≡ monomials qs → ps ≡ qs
monomials_one [] [] e = refl
monomials_one [] (q ∷ qs) e = absurd (cc)
monomials_one (p ∷ ps) [] e = absurd (cc)
monomials_one (p ∷ ps) (q ∷ qs) e =
    let first : plain_monomial p ≡ plain_monomial q = cc in
    let rest : monomials ps ≡ monomials qs = cc in
    let one : p.0 ≡ q.0 = ap (λ (m : Monomial). m.factor) first in
    let two : p.1 ≡ q.1 = ap (λ (m : Monomial). m.column) first in
    ap₂ (λ x y. x ∷ y) (ap₂ (λ x y. (x, y)) one two) (monomials_one ps qs rest)

pub row_is : (items : List Held) (place : ℕ) (own_k k : ℤ) (own ps : Pairs) (r : Bool) → slice_get items place ≡ Some (RowOf (row own_k (monomials own))) → own_k ≡ k → Decides r (own ≡ ps)
    → Decides r (slice_get items place ≡ Some (RowOf (row k (monomials ps))))
row_is items place own_k k own ps r e f d = (
  (λ t. e ∙ ap₂ (λ x y. Some (RowOf (row x (monomials y)))) f (d.0 t)),
  λ g. let rows : row own_k (monomials own) ≡ row k (monomials ps) = cc (e, g) in d.1 (monomials_one own ps (ap (λ (x : Row). x.parts) rows)),
)

-- another row is not looked for
pub row_is_not : (items : List Held) (place : ℕ) (own_k k : ℤ) (own ps : Pairs) → slice_get items place ≡ Some (RowOf (row own_k (monomials own))) → (own_k ≡ k → ⊥)
    → slice_get items place ≡ Some (RowOf (row k (monomials ps))) → ⊥
row_is_not items place own_k k own ps e f g = let rows : row own_k (monomials own) ≡ row k (monomials ps) = cc (e, g) in f (ap (λ (x : Row). x.constant) rows)

pub cut_within : (ps qs : Pairs) (n : ℕ) → qs ≡ take n ps → length qs ≤ length ps
cut_within ps qs n e = rw e (omega (arith, length-take n ps))
