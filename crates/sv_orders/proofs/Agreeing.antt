-- Orders are one, so where each contract has one they are those of `linearise`.
use Rattle.std.proofs.Common.{ℕ, zero, suc, ◌≡◌, ◌∙◌, ◌<◌, ◌≤◌, ◌⊎◌, inl, inr, Some, None, Result, Ok, Err, List, [], ◌∷◌, ◌++◌, length, map, reverse, take, slice_index_or, refl, sym, ap, ap₂, subst, arith}
use Rattle.std.specs.Option.{option_map}
use Rattle.std.proofs.Math.Seq.{take-suc}
use Rattle.std.proofs.lemmas.List.{get_or-map, take-map, take_all, reverse-reverse, length-map}
use Rattle.sv_lines.specs.Lines.{to_merge, IsOrder, Orders, Orderless, Lined}
use Rattle.sv_lines.specs.declared.lines.LineFault.{LineFault}
use Rattle.sv_lines.specs.declared.lines.LineFault.TheVariants as fault
use Rattle.sv_orders.specs.LineTables.{or_empty, OrderedBehind, AreOrders}
use Rattle.sv_orders.specs.LineLaws.{LinesAgree}
use Rattle.sv_orders.proofs.Merging.{merged_one}

all_known : (os : List (List ℕ)) → map or_empty (map (λ o. Some o) os) ≡ os
all_known [] = refl
all_known (o ∷ os) = ap (λ z. o ∷ z) (all_known os)

all_reversed : (lines : List (List ℕ)) → map (option_map reverse) (map (λ l. Some l) lines) ≡ map (λ o. Some o) (map reverse lines)
all_reversed [] = refl
all_reversed (l ∷ lines) = ap (λ z. Some (reverse l) ∷ z) (all_reversed lines)

back_again : (lines : List (List ℕ)) → map reverse (map reverse lines) ≡ lines
back_again [] = refl
back_again (l ∷ lines) = ap₂ (λ x xs. x ∷ xs) (reverse-reverse l) (back_again lines)

-- where each has an order
pub orders_are : (bases os : List (List ℕ)) → AreOrders bases (map (λ o. Some o) os) → Orders bases os
orders_are bases os all c l =
    let given = map (λ (o : List ℕ). Some o) os in
    let n : length given ≡ length os = length-map os (λ o. Some o) in
    let here : slice_index_or given c None ≡ Some (slice_index_or os c []) = get_or-map (λ o. Some o) os c [] None l in
    let is = subst (OrderedBehind (take c given) c (slice_index_or bases c [])) here (all c (omega (arith, l, n))) in
    let before : map or_empty (take c given) ≡ take c os = ap (map or_empty) (take-map (λ o. Some o) c os) ∙ all_known (take c os) in
    subst (λ z. IsOrder z c (slice_index_or bases c []) (slice_index_or os c [])) before is.1

one_order : (before : List (List ℕ)) (c : ℕ) (bases o p : List ℕ) → IsOrder before c bases o → IsOrder before c bases p → o ≡ p
one_order before c bases o p a b = a.1 ∙ ap (λ z. c ∷ z) (merged_one (to_merge before bases) a.0 b.0 a.2 b.2) ∙ sym b.1

-- ---- two tables of orders begin alike

pub alike : (bases xs ys : List (List ℕ)) → Orders bases xs → Orders bases ys → (n : ℕ) → n ≤ length xs → n ≤ length ys → take n xs ≡ take n ys
alike bases xs ys a b zero l k = refl
alike bases xs ys a b (suc n) l k =
    let e : take n xs ≡ take n ys = alike bases xs ys a b n (omega (arith, l)) (omega (arith, k)) in
    let other = subst (λ z. IsOrder z n (slice_index_or bases n []) (slice_index_or ys n [])) (sym e) (b n (omega (arith, k))) in
    let same = one_order (take n xs) n (slice_index_or bases n []) (slice_index_or xs n []) (slice_index_or ys n []) (a n (omega (arith, l))) other in
    take-suc xs n [] (omega (arith, l)) ∙ ap₂ (λ z w. z ++ w ∷ []) e same ∙ sym (take-suc ys n [] (omega (arith, k)))

same_lines : (bases xs ys : List (List ℕ)) → length xs ≡ length ys → Orders bases (map reverse xs) → Orders bases (map reverse ys) → xs ≡ ys
same_lines bases xs ys n a b =
    let m = map reverse xs in
    let k = map reverse ys in
    let x = length-map xs (reverse {A = ℕ}) in
    let y = length-map ys (reverse {A = ℕ}) in
    let e : m ≡ k = sym (take_all (length m) m (omega arith)) ∙ alike bases m k a b (length m) (omega arith) (omega (arith, n, x, y)) ∙ take_all (length m) k (omega (arith, n, x, y)) in
    sym (back_again xs) ∙ ap (map reverse) e ∙ back_again ys

no_first : (bases os orders : List (List ℕ)) → length orders < length os → Orders bases os → Orders bases orders → Orderless bases orders → ⊥
no_first bases os orders l a b none =
    let c = length orders in
    let e : take c os ≡ orders = alike bases os orders a b c (omega (arith, l)) (omega arith) ∙ take_all c orders (omega arith) in
    none (slice_index_or os c []) (subst (λ z. IsOrder z c (slice_index_or bases c []) (slice_index_or os c [])) e (a c l))

only : (bases lines : List (List ℕ)) → length lines ≡ length bases → Orders bases (map reverse lines) → (r : Result (List (List ℕ)) LineFault) → Lined bases r → (r ≡ Ok lines) ⊎ (r ≡ Err fault.NoMemory)
only bases lines n a (Ok other) h = inl (ap (λ z. Ok z) (same_lines bases other lines (h.0 ∙ sym n) h.1 a))
only bases lines n a (Err (fault.None c)) h =
    let m = length-map lines (reverse {A = ℕ}) in
    absurd (no_first bases (map reverse lines) h.0 (omega (arith, h.1, h.2, n, m)) a h.3 h.4)
only bases lines n a (Err fault.NoMemory) h = inr refl

pub lines_agree : LinesAgree
lines_agree bases lines e =
    let n : length lines ≡ length bases = sym (length-map lines (λ l. Some l)) ∙ e.0 in
    let a = orders_are bases (map reverse lines) (subst (AreOrders bases) (all_reversed lines) e.1) in
    ((n, a), only bases lines n a)
