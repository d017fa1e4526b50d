-- Sums of numbers that were capped.
use Rattle.std.proofs.Common.{ℕ, zero, suc, ◌+◌, ◌-◌, ◌^◌, ◌≤◌, ◌<◌, ◌≡◌, ◌⊎◌, inl, inr, min, refl, sym, ap, ap₂, ◌∙◌, arith}
use Rattle.std.proofs.Math.Nat.{min-eq_left, min-eq_right}
use Rattle.sv_room.specs.Rooms.{capped, capped_room, both, room}
use Rattle.sv_room.specs.declared.room.Room.{Room}

apart : (n m : ℕ) → (n ≤ m) ⊎ (m ≤ n)
apart zero m = inl (omega arith)
apart (suc n) zero = inr (omega arith)
apart (suc n) (suc m) = go (apart n m)
  where
    go : (n ≤ m) ⊎ (m ≤ n) → (suc n ≤ suc m) ⊎ (suc m ≤ suc n)
    go (inl l) = inl (omega (arith, l))
    go (inr l) = inr (omega (arith, l))

pub capped_within : (n : ℕ) → n ≤ 2 ^ 64 - 1 → capped n ≡ n
capped_within n h = min-eq_left h

pub capped_beyond : (n : ℕ) → 2 ^ 64 - 1 ≤ n → capped n ≡ 2 ^ 64 - 1
capped_beyond n h = min-eq_right h

pub capped_real : (n : ℕ) → capped n ≤ 2 ^ 64 - 2 → capped n ≡ n
capped_real n h = go (apart n (2 ^ 64 - 1))
  where
    go : (n ≤ 2 ^ 64 - 1) ⊎ (2 ^ 64 - 1 ≤ n) → capped n ≡ n
    go (inl l) = capped_within n l
    go (inr g) = absurd (omega (arith, h, capped_beyond n g))

pub capped_sum : (a b : ℕ) → capped (capped a + capped b) ≡ capped (a + b)
capped_sum a b = go (apart a (2 ^ 64 - 1)) (apart b (2 ^ 64 - 1))
  where
    go : (a ≤ 2 ^ 64 - 1) ⊎ (2 ^ 64 - 1 ≤ a) → (b ≤ 2 ^ 64 - 1) ⊎ (2 ^ 64 - 1 ≤ b) → capped (capped a + capped b) ≡ capped (a + b)
    go (inl k) (inl l) = ap₂ (λ x y. capped (x + y)) (capped_within a k) (capped_within b l)
    go (inr k) m =
        ap (λ x. capped (x + capped b)) (capped_beyond a k)
        ∙ (capped_beyond (2 ^ 64 - 1 + capped b) (omega arith) ∙ sym (capped_beyond (a + b) (omega (arith, k))))
    go (inl k) (inr l) =
        ap (λ x. capped (capped a + x)) (capped_beyond b l)
        ∙ (capped_beyond (capped a + (2 ^ 64 - 1)) (omega arith) ∙ sym (capped_beyond (a + b) (omega (arith, l))))
