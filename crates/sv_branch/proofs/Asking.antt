-- What is asked of a branch by numbers is true of the state that it stands for.
use Rattle.std.proofs.Common.{Option, Some, None, ℕ, ◌+◌, ◌<◌, ◌≤◌, Bool, true, false, List, [], ◌∷◌, ◌≡◌, ◌↔◌, length, map, slice_get, get_or, refl, sym, ap, ap₂, ◌∙◌, subst, arith}
use Rattle.std.specs.Option.{option_map}
use Rattle.std.specs.List.{Contains, All}
use Rattle.std.proofs.lemmas.List.{length-map}
use Rattle.std.proofs.lemmas.Option.{slice_get-map, slice_get_within, slice_get-get_or, get_or_from_slice_get}
use Rattle.sv_term.specs.Terms.{Term}
use Rattle.sv_term.specs.FactRules.{Fact, Says}
use Rattle.sv_log.specs.LogEntries.{Row}
use Rattle.sv_log.specs.Logs as s
use Rattle.sv_log.specs.Logs.{Item, Known, Bound, nth_term}
use Rattle.sv_force.specs.InForce.{Held, FactOn, RowOf}
use Rattle.sv_branch.specs.OpenBranches.{OpenSplit, Standing, IsInFirstHalf}
use Rattle.sv_branch.specs.BranchTrees.{item_of, split_of, state_of, IsBelow, AreBelow, AreApart}
use Rattle.sv_branch.specs.BranchLaws.{QuestionsAgree}

half_agrees : (ts : List Term) (xs : List Held) (ps : List OpenSplit) → IsInFirstHalf ps ↔ s.IsInFirstHalf (map (split_of ts xs) ps)
half_agrees ts xs [] = (λ h. h, λ h. h)
half_agrees ts xs (p ∷ ps) = (λ h. h, λ h. h)

no_splits : (ts : List Term) (xs : List Held) (ps : List OpenSplit) → map (split_of ts xs) ps ≡ [] → ps ≡ []
no_splits ts xs [] e = refl
no_splits ts xs (p ∷ ps) e = absurd (cc)

done_agrees : (ts : List Term) (b : Standing) → (b.closed ≡ true) × (b.splits ≡ []) ↔ s.IsClosed (state_of ts b)
done_agrees ts b = (
  λ h. record { closed = h.0; splits = ap (λ x. map (split_of ts b.force.items) x) h.1 },
  λ h. (h.closed, no_splits ts b.force.items b.splits h.splits),
)

contains_from : {A : Type 0} → (xs : List A) (k : ℕ) (x : A) → slice_get xs k ≡ Some x → Contains xs x
contains_from xs k x e = (k, slice_get_within xs k x e, get_or_from_slice_get xs k x x e)

contains_to : {A : Type 0} → (xs : List A) (x : A) → (c : Contains xs x) → slice_get xs c.0 ≡ Some x
contains_to xs x c = slice_get-get_or xs c.0 x c.1 ∙ ap (λ y. Some y) c.2

pub item_agrees : (ts : List Term) (xs : List Held) (p : ℕ) → slice_get (map (item_of ts) xs) p ≡ option_map (item_of ts) (slice_get xs p)
item_agrees ts xs p = slice_get-map (item_of ts) xs p

contains_map : (ts : List Term) (xs : List Held) (h : Held) → Contains xs h → Contains (map (item_of ts) xs) (item_of ts h)
contains_map ts xs h c = contains_from (map (item_of ts) xs) c.0 (item_of ts h) (item_agrees ts xs c.0 ∙ ap (λ x. option_map (item_of ts) x) (contains_to xs h c))

-- an item of the state is one of the branch
came_from : (ts : List Term) (xs : List Held) (i : Item) (k : ℕ) → option_map (item_of ts) (slice_get xs k) ≡ Some i → (h : Held) × (slice_get xs k ≡ Some h) × (item_of ts h ≡ i)
came_from ts xs i k e = go (slice_get xs k) refl e
  where
    go : (o : Option Held) → slice_get xs k ≡ o → option_map (item_of ts) o ≡ Some i → (h : Held) × (slice_get xs k ≡ Some h) × (item_of ts h ≡ i)
    go None f g = absurd (cc)
    go (Some h) f g = let same : item_of ts h ≡ i = cc in (h, f, same)

contains_came : (ts : List Term) (xs : List Held) (i : Item) → Contains (map (item_of ts) xs) i → (k : ℕ) × (h : Held) × (slice_get xs k ≡ Some h) × (item_of ts h ≡ i)
contains_came ts xs i c =
    let g = came_from ts xs i c.0 (sym (item_agrees ts xs c.0) ∙ contains_to (map (item_of ts) xs) i c) in
    (c.0, g.0, g.1, g.2)

below_at : (n : ℕ) (xs : List Held) (k : ℕ) (h : Held) → All (IsBelow n) xs → slice_get xs k ≡ Some h → IsBelow n h
below_at n xs k h a e = subst (IsBelow n) (get_or_from_slice_get xs k h h e) (a k h (slice_get_within xs k h e))

-- the fact that a term's number stands in
fact_is : (ts : List Term) (sign : Bool) (n : ℕ) → AreApart ts → n < length ts → (h : Held) → IsBelow (length ts) h → item_of ts h ≡ Known (Says sign (nth_term ts n)) → h ≡ FactOn sign n
fact_is ts sign n apart l (FactOn g m) below e =
    let facts : Says g (nth_term ts m) ≡ Says sign (nth_term ts n) = cc in
    let signs : g ≡ sign = cc in
    let terms : nth_term ts m ≡ nth_term ts n = cc in
    ap₂ (λ x y. FactOn x y) signs (apart m n below l terms)
fact_is ts sign n apart l (RowOf r) below e = absurd (cc)

row_is : (ts : List Term) (r : Row) (h : Held) → item_of ts h ≡ Bound r → h ≡ RowOf r
row_is ts r (FactOn g m) e = absurd (cc)
row_is ts r (RowOf q) e = let same : q ≡ r = cc in ap (λ x. RowOf x) same

fact_agrees : (ts : List Term) (xs : List Held) (sign : Bool) (n : ℕ) → AreApart ts → All (IsBelow (length ts)) xs → n < length ts
    → Contains xs (FactOn sign n) ↔ Contains (map (item_of ts) xs) (Known (Says sign (nth_term ts n)))
fact_agrees ts xs sign n apart below l = (
  contains_map ts xs (FactOn sign n),
  λ c.
      let g = contains_came ts xs (Known (Says sign (nth_term ts n))) c in
      let same = fact_is ts sign n apart l g.1 (below_at (length ts) xs g.0 g.1 below g.2) g.3 in
      contains_from xs g.0 (FactOn sign n) (g.2 ∙ ap (λ x. Some x) same),
)

row_agrees : (ts : List Term) (xs : List Held) (r : Row) → Contains xs (RowOf r) ↔ Contains (map (item_of ts) xs) (Bound r)
row_agrees ts xs r = (
  contains_map ts xs (RowOf r),
  λ c.
      let g = contains_came ts xs (Bound r) c in
      contains_from xs g.0 (RowOf r) (g.2 ∙ ap (λ x. Some x) (row_is ts r g.1 g.3)),
)

pub questions_agree : QuestionsAgree
questions_agree = record {
  half = λ ts b. half_agrees ts b.force.items b.splits;
  done = done_agrees;
  fact = λ ts b sign n apart below l. fact_agrees ts b.force.items sign n apart below.facts l;
  row = λ ts b r. row_agrees ts b.force.items r;
  item = λ ts b p. item_agrees ts b.force.items p;
}
