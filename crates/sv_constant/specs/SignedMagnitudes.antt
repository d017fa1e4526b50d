-- Believed: the integer that a sign and a magnitude stand for, and which integers have a magnitude of at most 128 bits. Hold it against the integers.
use Rattle.std.specs.Prelude.{ℕ, ℤ, pos, neg_ℤ, nat_abs, ◌<◌, ◌^◌, Bool, IsTrue, cond}
use Rattle.sv_constant.specs.declared.Worth.{Worth}

abbrev pub signed : Bool → ℕ → ℤ
signed negative magnitude = cond negative (neg_ℤ (pos magnitude)) (pos magnitude)

abbrev pub integer : Worth → ℤ
integer w = signed w.negative w.magnitude

-- 0 is never negative
abbrev pub IsProper : Worth → Type 0
IsProper w = IsTrue w.negative → 0 < w.magnitude

-- the magnitude is below 2^128
abbrev pub Fits : ℤ → Type 0
Fits z = nat_abs z < 2 ^ 128
