-- Lists one after another: what stands at a place, and what a push leaves.
use Rattle.std.proofs.Common.{Some, option_map, ℕ, zero, suc, ◌+◌, ◌-◌, ◌<◌, ◌≤◌, List, [], ◌∷◌, ◌++◌, ◌≡◌, length, map, take, drop, slice_get, slice_range, get_or, true, false, nat_le, ◌⊎◌, inl, inr, refl, sym, ap, ap₂, ◌∙◌, subst, arith}
use Rattle.std.proofs.lemmas.List.{length-append, length-map, take-append-le, take_all, drop_at}
use Rattle.std.proofs.lemmas.List.Edits.{length-between}
use Rattle.std.proofs.lemmas.Slice.{between_is}
use Rattle.std.proofs.lemmas.Option.{slice_get-map, slice_get_read}
use Rattle.std.proofs.lemmas.Bool.Decides.{leb_tells}
use Rattle.std.specs.Bool.{Decides}
use Rattle.sv_list_room.specs.NumberLists.{NumberLists, number_lists, numbers_in}
use Rattle.sv_list_room.specs.Spans.{spanned, AreStacked}
use Rattle.sv_list_room.specs.declared.room.Span.{Span}

-- ---- parts of lists

range_append : (ps qs : List ℕ) (x y : ℕ) → y ≤ length ps → slice_range (ps ++ qs) x y ≡ slice_range ps x y
range_append ps qs x y l = between_is (ps ++ qs) x y ∙ (ap (λ z. drop x z) (take-append-le y ps qs l) ∙ sym (between_is ps x y))

range_last : (ps qs : List ℕ) (x y : ℕ) → x ≡ length ps → y ≡ length ps + length qs → slice_range (ps ++ qs) x y ≡ qs
range_last ps qs x y e f =
    ap (λ z. take (y - x) z) (drop_at ps qs x (sym e)) ∙ take_all (y - x) qs (omega (arith, e, f))

map_push : {A B : Type 0} → (f : A → B) (xs : List A) (x : A) → map f (xs ++ x ∷ []) ≡ map f xs ++ f x ∷ []
map_push f [] x = refl
map_push f (y ∷ xs) x = ap (λ z. f y ∷ z) (map_push f xs x)

-- ---- spans one after another

stacked_le : (a b : ℕ) (ss : List Span) → AreStacked a ss b → a ≤ b
stacked_le a b [] e = omega (arith, e)
stacked_le a b (s ∷ ss) h = let rest = stacked_le s.end b ss h.2 in omega (arith, h.0, h.1, rest)

stacked_at : (a b : ℕ) (ss : List Span) (place : ℕ) (s : Span) → AreStacked a ss b → slice_get ss place ≡ Some s → (s.start ≤ s.end) × (s.end ≤ b)
stacked_at a b [] place s h e = absurd (cc)
stacked_at a b (r ∷ ss) zero s h e =
    let same : r ≡ s = cc in
    subst (λ (x : Span). (x.start ≤ x.end) × (x.end ≤ b)) same (h.1, stacked_le r.end b ss h.2)
stacked_at a b (r ∷ ss) (suc place) s h e = stacked_at r.end b ss place s h.2 e

stacked_push : (a b : ℕ) (ss : List Span) (s : Span) → AreStacked a ss b → s.start ≡ b → s.start ≤ s.end → AreStacked a (ss ++ s ∷ []) s.end
stacked_push a b [] s h e z = (e ∙ sym h, z, refl)
stacked_push a b (r ∷ ss) s h e z = (h.0, h.1, stacked_push r.end b ss s h.2 e z)

same_spanned : (ps qs : List ℕ) (a b : ℕ) (ss : List Span) → AreStacked a ss b → b ≤ length ps → map (spanned (ps ++ qs)) ss ≡ map (spanned ps) ss
same_spanned ps qs a b [] h l = refl
same_spanned ps qs a b (s ∷ ss) h l =
    let rest = stacked_le s.end b ss h.2 in
    ap₂ (λ x y. x ∷ y) (range_append ps qs s.start s.end (omega (arith, rest, l))) (same_spanned ps qs s.end b ss h.2 l)

numbers_counted : (ps : List ℕ) (a b : ℕ) (ss : List Span) → AreStacked a ss b → b ≤ length ps → a + numbers_in (map (spanned ps) ss) ≡ b
numbers_counted ps a b [] h l = omega (arith, h)
numbers_counted ps a b (s ∷ ss) h l =
    let rest = stacked_le s.end b ss h.2 in
    let own : length (spanned ps s) ≡ s.end - s.start = length-between ps s.start s.end (omega (arith, rest, l)) in
    let more = numbers_counted ps s.end b ss h.2 l in
    omega (arith, h.0, h.1, own, more)

-- ---- a push

module _ (ps new qs : List ℕ) (ss ts : List Span) (s : Span) (st : AreStacked 0 ss (length ps)) (numbers_are : qs ≡ ps ++ new)
    (start : s.start ≡ length ps) (end : s.end ≡ length qs) (spans_are : ts ≡ ss ++ s ∷ []) where
  long : length qs ≡ length ps + length new
  long = ap length numbers_are ∙ length-append ps new

  pub lists_pushed : map (spanned qs) ts ≡ map (spanned ps) ss ++ new ∷ []
  lists_pushed =
      ap₂ (λ x y. map (spanned x) y) numbers_are spans_are ∙ (map_push (spanned (ps ++ new)) ss s
      ∙ ap₂ (λ x y. x ++ y ∷ []) (same_spanned ps new 0 (length ps) ss st (omega arith)) (range_last ps new s.start s.end start (end ∙ long)))

  pub stacked_pushed : AreStacked 0 ts (length qs)
  stacked_pushed =
      subst (λ x. AreStacked 0 x (length qs)) (sym spans_are)
      (subst (λ x. AreStacked 0 (ss ++ s ∷ []) x) end (stacked_push 0 (length ps) ss s st start (omega (arith, start, end, long))))

-- ---- what the fields say of the lists that callers see

leb_decides : (a b : ℕ) → Decides (nat_le a b) (a ≤ b)
leb_decides a b = go (leb_tells a b)
  where
    go : ((nat_le a b ≡ true) × (a ≤ b)) ⊎ ((nat_le a b ≡ false) × (b < a)) → Decides (nat_le a b) (a ≤ b)
    go (inl h) = (λ t. h.1, λ l. h.0)
    go (inr h) = (λ t. cc (t, h.0), λ l. absurd (omega (arith, h.1, l)))

module _ (ps : List ℕ) (ss : List Span) (room numbers_room : ℕ) (now : NumberLists) (view : number_lists (map (spanned ps) ss) room numbers_room ≡ now) (st : AreStacked 0 ss (length ps)) where
  pub size_is : length now.lists ≡ length ss
  size_is = ap (λ (f : NumberLists). length f.lists) (sym view) ∙ length-map ss (spanned ps)

  pub room_same : now.room ≡ room
  room_same = ap (λ (f : NumberLists). f.room) (sym view)

  pub numbers_room_same : now.numbers_room ≡ numbers_room
  numbers_room_same = ap (λ (f : NumberLists). f.numbers_room) (sym view)

  span_at : (place : ℕ) (s : Span) → place < length now.lists → s ≡ get_or ss place s → slice_get ss place ≡ Some s
  span_at place s l e = let size = size_is in slice_get_read ss (length ss) place s refl (omega (arith, l, size)) e

  pub range_at : (place : ℕ) (s : Span) → place < length now.lists → s ≡ get_or ss place s → (s.start ≤ s.end) × (s.end ≤ length ps)
  range_at place s l e = stacked_at 0 (length ps) ss place s st (span_at place s l e)

  pub list_at : (place : ℕ) (s : Span) (ns : List ℕ) → place < length now.lists → s ≡ get_or ss place s → ns ≡ slice_range ps s.start s.end → slice_get now.lists place ≡ Some ns
  list_at place s ns l e f =
      subst (λ (x : NumberLists). slice_get x.lists place ≡ Some ns) view
      (slice_get-map (spanned ps) ss place ∙ (ap (λ x. option_map (spanned ps) x) (span_at place s l e) ∙ ap (λ x. Some x) (sym f)))

  pub counted : numbers_in now.lists ≡ length ps
  counted = ap (λ (f : NumberLists). numbers_in f.lists) (sym view) ∙ omega (arith, numbers_counted ps 0 (length ps) ss st (omega arith))

  pub room_is : (n used : ℕ) → used ≡ length ps → length ps ≤ numbers_room → length ss < room
      → Decides (nat_le n (numbers_room - used)) ((length now.lists < now.room) × (numbers_in now.lists + n ≤ now.numbers_room))
  room_is n used e l m =
      let d = leb_decides n (numbers_room - used) in
      let count = counted in
      let same = numbers_room_same in
      let size = size_is in
      let all = room_same in (
        (λ t. let h = d.0 t in (omega (arith, m, size, all), omega (arith, h, e, l, count, same))),
        λ p. let h = p.1 in d.1 (omega (arith, h, e, l, count, same)),
      )
