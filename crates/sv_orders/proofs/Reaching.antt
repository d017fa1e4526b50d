-- An order begins with its contract, holds none twice, and holds exactly what its contract reaches.
use Rattle.std.proofs.Common.{ℕ, zero, suc, ◌≡◌, ◌∙◌, ◌<◌, ◌≤◌, inl, inr, true, Option, Some, None, List, [], ◌∷◌, length, map, reverse, take, get_or, slice_index_or, refl, sym, ap, subst, arith}
use Rattle.std.specs.Option.{option_map, is_some}
use Rattle.std.proofs.lemmas.Bool.{cases_lt, and_parts}
use Rattle.std.proofs.lemmas.List.{get_or_past, get_or-take, length-take, reverse-reverse, length-map}
use Rattle.sv_lines.specs.Lines.{Merged, to_merge}
use Rattle.sv_reach.specs.Paths.{Path, Reaches}
use Rattle.sv_orders.specs.LineTables.{has_order, all_have, or_empty, IsOrderBehind, OrderedBehind, AreOrders}
use Rattle.sv_orders.specs.LineLaws.{IsLineOf, LinesReach}
use Rattle.sv_orders.proofs.Members.{Has, Once, contains_has, has_contains, has_reverse, reverse_has, reverse_cons, apart_reversed}
use Rattle.sv_orders.proofs.Merging.{InSome, merged_from, merged_all, merged_once, from_bases, by_order}

pub record IsGood (bases : List (List ℕ)) (c : ℕ) (o : List ℕ) : Type 0 where
  pub head : (m : List ℕ) × (o ≡ c ∷ m)
  pub once : Once o
  pub low : (d : ℕ) → Has d o → d ≤ c
  pub reaches : (d : ℕ) → Has d o → Reaches bases c d
  pub reached : (d : ℕ) → Reaches bases c d → Has d o

-- each base is a contract before, and this is its order in the table
abbrev pub GoodBases : List (List ℕ) → ℕ → List (List ℕ) → Type 0
GoodBases bases c table = (b : ℕ) → Has b (slice_index_or bases c []) → (b < c) × IsGood bases b (slice_index_or table b [])

below : (bases : List (List ℕ)) (c d : ℕ) (table : List (List ℕ)) → GoodBases bases c table → InSome d (to_merge table (slice_index_or bases c [])) → d < c
below bases c d table good i = elim (from_bases table (slice_index_or bases c []) d i) [
  | inl r ↦ (let g = good r.0 r.1 in let low = g.1.low d r.2 in omega (arith, low, g.0))
  | inr r ↦ (good d r).0
]

onward : (bases : List (List ℕ)) (c d : ℕ) (table : List (List ℕ)) → c < length bases → GoodBases bases c table → InSome d (to_merge table (slice_index_or bases c [])) → Reaches bases c d
onward bases c d table l good i = elim (from_bases table (slice_index_or bases c []) d i) [
  | inl r ↦ (
      let g = good r.0 r.1 in
      let p = g.1.reaches d r.2 in
      (suc p.0, (r.0, (omega (arith, g.0, l), has_contains (slice_index_or bases c []) r.0 r.1), p.1))
      )
  | inr r ↦ (
      let g = good d r in
      (suc zero, (d, (omega (arith, g.0, l), has_contains (slice_index_or bases c []) d r), refl))
      )
]

one_good : (bases : List (List ℕ)) (c : ℕ) (m : List ℕ) (table : List (List ℕ)) → c < length bases → GoodBases bases c table → Merged (to_merge table (slice_index_or bases c [])) m → IsGood bases c (c ∷ m)
one_good bases c m table l good merged = record {
  head = (m, refl);
  once = (λ h. (let b = below bases c c table good (merged_from ls m merged c h) in omega (arith, b)), merged_once ls m merged);
  low = λ d h. elim h [ inl e ↦ omega (arith, e) | inr k ↦ (let b = below bases c d table good (merged_from ls m merged d k) in omega (arith, b)) ];
  reaches = λ d h. elim h [ inl e ↦ (zero, e) | inr k ↦ onward bases c d table l good (merged_from ls m merged d k) ];
  reached = λ d r. back d r.0 r.1;
}
  where
    ls : List (List ℕ)
    ls = to_merge table (slice_index_or bases c [])

    back : (d n : ℕ) → Path bases n c d → Has d (c ∷ m)
    back d zero p = inl p
    back d (suc n) p =
        let b = contains_has (slice_index_or bases c []) p.0 p.1.1.0 p.1.1.1 p.1.1.2 in
        let g = good p.0 b in
        inr (merged_all ls m merged d (by_order table (slice_index_or bases c []) p.0 d b (g.1.reached d (n, p.2))))

-- ---- all orders

pub at_map : {X Y : Type 0} (f : X → Y) (xs : List X) (i : ℕ) (d : X) → get_or (map f xs) i (f d) ≡ f (get_or xs i d)
at_map f [] i d = refl
at_map f (x ∷ xs) zero d = refl
at_map f (x ∷ xs) (suc i) d = at_map f xs i d

one_has : (before : List (Option (List ℕ))) (bs : List ℕ) (b : ℕ) → all_have before bs ≡ true → Has b bs → has_order before b ≡ true
one_has before [] b e h = absurd h
one_has before (x ∷ bs) b e (inl s) = subst (λ z. has_order before z ≡ true) s (and_parts (has_order before x) (all_have before bs) e).0
one_has before (x ∷ bs) b e (inr h) = one_has before bs b (and_parts (has_order before x) (all_have before bs) e).1 h

is_there : (r : Option (List ℕ)) → is_some r ≡ true → (o : List ℕ) × (r ≡ Some o)
is_there None e = absurd cc
is_there (Some o) e = (o, refl)

pub within : {X : Type 0} (xs : List (Option X)) (i : ℕ) (x : X) → get_or xs i None ≡ Some x → i < length xs
within xs i x e = elim (cases_lt i (length xs)) [ inl l ↦ l | inr l ↦ absurd (let p = get_or_past xs i None l in cc) ]

-- the order of a base that has one
base_order : (orders : List (Option (List ℕ))) (c b : ℕ) → has_order (take c orders) b ≡ true
    → (o : List ℕ) × (b < c) × (get_or orders b None ≡ Some o) × (get_or (map or_empty (take c orders)) b [] ≡ o)
base_order orders c b e =
    let r = is_there (slice_index_or (take c orders) b None) e in
    let w = within (take c orders) b r.0 r.1 in
    let l : b < c = omega (arith, w, length-take c orders) in
    (r.0, l, sym (get_or-take c orders b None l) ∙ r.1, at_map or_empty (take c orders) b None ∙ ap or_empty r.1)

all_good : (bases : List (List ℕ)) (orders : List (Option (List ℕ))) → length orders ≡ length bases → AreOrders bases orders → (n c : ℕ) → c < n → (o : List ℕ) → get_or orders c None ≡ Some o → IsGood bases c o
all_good bases orders size all zero c l o e = absurd (omega (arith, l))
all_good bases orders size all (suc n) c l o e =
    let w = within orders c o e in
    let a : IsOrderBehind (take c orders) c (slice_index_or bases c []) o = subst (OrderedBehind (take c orders) c (slice_index_or bases c [])) e (all c w) in
    let table = map or_empty (take c orders) in
    let good : GoodBases bases c table = λ b h. (
    let k = base_order orders c b (one_has (take c orders) (slice_index_or bases c []) b a.0 h) in
    (k.1, subst (IsGood bases b) (sym k.3) (all_good bases orders size all n b (omega (arith, k.1, l)) k.0 k.2))
    ) in
    subst (IsGood bases c) (sym a.1.1) (one_good bases c a.1.0 table (omega (arith, w, size)) good a.1.2)

-- ---- lines

line_is : (bases : List (List ℕ)) (c : ℕ) (line : List ℕ) → IsGood bases c (reverse line) → IsLineOf bases c line
line_is bases c line g = record {
  last = (reverse g.head.0, sym (reverse-reverse line) ∙ ap reverse g.head.1 ∙ reverse_cons c g.head.0);
  apart = apart_reversed line g.once;
  reached = λ d. (
    λ h. g.reaches d (has_reverse line d (contains_has line d h.0 h.1 h.2)),
    λ r. has_contains line d (reverse_has line d (g.reached d r)),
  );
}

pub lines_reach : LinesReach
lines_reach bases lines e c line is =
    let orders = map (option_map reverse) lines in
    let size : length orders ≡ length bases = length-map lines (option_map reverse) ∙ e.0 in
    let here : get_or orders c None ≡ Some (reverse line) = at_map (option_map reverse) lines c None ∙ ap (option_map reverse) is in
    line_is bases c line (all_good bases orders size e.1 (suc c) c (omega arith) (reverse line) here)
