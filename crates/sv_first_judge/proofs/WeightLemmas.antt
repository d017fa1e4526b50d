-- How the most that a row weighs grows with the assignments.
use Rattle.std.proofs.Common.{◌≡◌, ◌+◌, ◌-◌, ◌*◌, ◌^◌, ◌<◌, ◌≤◌, ℕ, zero, suc, refl, subst, add-zero, add-suc, arith, lit<}
use Rattle.std.proofs.Math.Numerals.{add-one}
use Rattle.std.proofs.lemmas.Nat.{mul-le}
use Rattle.sv_first_judge.specs.Weights.{most_after, weight_limit}

most_after-suc : (n : ℕ) → most_after (suc n) ≡ 4 * most_after n
unfolding most_after
most_after-suc n = refl

pub most_after-add-one : (n : ℕ) → most_after (n + 1) ≡ 4 * most_after n
most_after-add-one n = rw add-one (most_after-suc n)

number_fits_zero : (k : ℕ) → k < 10 ^ 18 → k ≤ most_after 0
unfolding most_after
number_fits_zero k h = omega arith

most_grows_from_zero : (n : ℕ) → most_after 0 ≤ most_after n
most_grows_from_zero zero = omega arith
most_grows_from_zero (suc n) = omega (arith, most_grows_from_zero n, most_after-suc n)

pub number-le-most_after : (k n : ℕ) → k < 10 ^ 18 → k ≤ most_after n
number-le-most_after k n h = omega (arith, number_fits_zero k h, most_grows_from_zero n)

pub one-le-most_after : (n : ℕ) → 1 ≤ most_after n
one-le-most_after n = number-le-most_after 1 n (lit< tt)

pub most_after_grows : (n : ℕ) → most_after n ≤ most_after (n + 1)
most_after_grows n = omega (arith, most_after-add-one n)

most_after_monotone : (n k : ℕ) → most_after n ≤ most_after (n + k)
most_after_monotone n zero = rw add-zero (omega arith)
most_after_monotone n (suc k) = rw add-suc (omega (arith, most_after_monotone n k, most_after-suc (n + k)))

most_after-le : (m n : ℕ) → m ≤ n → most_after m ≤ most_after n
most_after-le m n h =
    let P : ℕ → Type 0 = λ k. most_after m ≤ most_after k in
    let sum : m + (n - m) ≡ n = omega arith in
    subst P sum (most_after_monotone m (n - m))

last_fits : 8 * most_after 16 < weight_limit
unfolding most_after weight_limit
last_fits = lit< tt

pub eight_fit : (n : ℕ) → n ≤ 16 → 8 * most_after n < weight_limit
eight_fit n h = omega (arith, most_after-le n 16 h, last_fits)

-- a sum of at most four items, each of which weighs at most this
pub room_for_item : (n i weight : ℕ) → n ≤ 16 → i < 4 → weight ≤ i * most_after n → weight + most_after n < weight_limit
room_for_item n i weight h few so_far = omega (arith, eight_fit n h, mul-le (i + 1) (most_after n) 8 (most_after n) (omega arith) (omega arith))

pub weight_of_four : (n i weight : ℕ) → i ≤ 4 → weight ≤ i * most_after n → weight ≤ most_after (n + 1)
weight_of_four n i weight few h = omega (arith, most_after-add-one n, mul-le i (most_after n) 4 (most_after n) few (omega arith))

pub room_for_difference : (n left right : ℕ) → n ≤ 16 → left ≤ most_after (n + 1) → right ≤ most_after (n + 1) → left + right < weight_limit
room_for_difference n left right h l r = omega (arith, eight_fit n h, most_after-add-one n)
