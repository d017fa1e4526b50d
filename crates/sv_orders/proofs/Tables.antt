-- One order more behind the others, and lines from orders.
use Rattle.std.proofs.Common.{ℕ, ◌≡◌, ◌∙◌, ◌<◌, inl, inr, true, Option, Some, None, List, [], ◌∷◌, ◌++◌, length, map, take, reverse, get_or, slice_index_or, refl, sym, ap, ap₂, subst, arith, length-append}
use Rattle.std.specs.Option.{option_map}
use Rattle.std.proofs.lemmas.List.{take-append-le, take_at, get_or_append_left, get_or_push, get_or_read, reverse-reverse, length-map}
use Rattle.std.proofs.lemmas.Bool.{cases_lt}
use Rattle.sv_lines.specs.Lines.{Ordered}
use Rattle.sv_orders.specs.LineTables.{all_have, or_empty, OrderedBehind, AreOrders, EachLined}

pub with_bases : (before : List (Option (List ℕ))) (c : ℕ) (bases : List ℕ) (r : Option (List ℕ)) → all_have before bases ≡ true → Ordered (map or_empty before) c bases r → OrderedBehind before c bases r
with_bases before c bases None have h = λ o is. h o is.1
with_bases before c bases (Some o) have h = (have, h)

pub one_more : (bases : List (List ℕ)) (orders : List (Option (List ℕ))) (n : ℕ) (own : List ℕ) (r : Option (List ℕ)) → length orders ≡ n → n < length bases → own ≡ get_or bases n own → AreOrders bases orders → OrderedBehind orders n own r → AreOrders bases (orders ++ r ∷ [])
one_more bases orders n own r len within is all here c l =
    let more = orders ++ r ∷ [] in
    elim (cases_lt c n) [
      | inl k ↦ (
          let first : take c more ≡ take c orders = take-append-le c orders (r ∷ []) (omega (arith, k, len)) in
          let same : slice_index_or more c None ≡ slice_index_or orders c None = get_or_append_left orders (r ∷ []) None c (omega (arith, k, len)) in
          subst (λ x. OrderedBehind x c (slice_index_or bases c []) (slice_index_or more c None)) (sym first)
          (subst (λ x. OrderedBehind (take c orders) c (slice_index_or bases c []) x) (sym same) (all c (omega (arith, k, len))))
          )
      | inr k ↦ (
          let e : c ≡ n = omega (arith, k, l, len, length-append orders (r ∷ [])) in
          let first : take n more ≡ orders = take_at orders (r ∷ []) n len in
          let last : slice_index_or more n None ≡ r = get_or_push orders r None n len in
          let own_is : own ≡ slice_index_or bases n [] = get_or_read bases n own within is [] in
          subst (λ x. OrderedBehind (take x more) x (slice_index_or bases x []) (slice_index_or more x None)) (sym e)
          (subst (λ x. OrderedBehind x n (slice_index_or bases n []) (slice_index_or more n None)) (sym first)
          (subst (λ x. OrderedBehind orders n (slice_index_or bases n []) x) (sym last)
          (subst (λ x. OrderedBehind orders n x r) own_is here)))
          )
    ]

-- ---- from orders to lines

back : (r : Option (List ℕ)) → option_map reverse (option_map reverse r) ≡ r
back None = refl
back (Some o) = ap (λ x. Some x) (reverse-reverse o)

all_back : (orders : List (Option (List ℕ))) → map (option_map reverse) (map (option_map reverse) orders) ≡ orders
all_back [] = refl
all_back (r ∷ orders) = ap₂ (λ x xs. x ∷ xs) (back r) (all_back orders)

pub lines_are : (bases : List (List ℕ)) (orders lines : List (Option (List ℕ))) → length orders ≡ length bases → AreOrders bases orders → lines ≡ map (option_map reverse) orders → EachLined bases lines
lines_are bases orders lines n all e = (
  ap length e ∙ length-map orders (option_map reverse) ∙ n,
  subst (AreOrders bases) (sym (ap (map (option_map reverse)) e ∙ all_back orders)) all,
)
