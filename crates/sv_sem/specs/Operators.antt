-- Believed: operators and conversions on whole numbers, and when they revert. Hold it against Solidity's documentation, "Checked or Unchecked Arithmetic", "Division", "Modulo" and "Conversions between Elementary Types".
use Rattle.std.specs.Prelude.{ℕ, ◌-◌, ◌%◌, ◌^◌, Bool, true, false, not, ◌&&◌, ◌||◌, if◌then◌else◌, Option, Some, None, ℤ, pos, negsuc, neg_ℤ, ◌+ℤ◌, ◌-ℤ◌, ◌*ℤ◌, int_lt, int_le, int_div, int_rem}
use Rattle.std.specs.Ordering.{int_eq}
use Rattle.sv_type.specs.Shapes.{Kind, Unsigned, Signed, Member, least, greatest, is_narrow}
use Rattle.sv_core.specs.declared.expr.Op.{Op}
use Rattle.sv_core.specs.declared.expr.Op.TheVariants as op

abbrev pub of_bool : Bool → ℤ
of_bool true = pos 1
of_bool false = pos 0

abbrev pub is_zero : ℤ → Bool
is_zero z = int_eq z (pos 0)

-- a number where it passes the test of its type, and else a revert
abbrev pub tested : (Kind → ℤ → Bool) → Kind → ℤ → Option ℤ
tested range kind z = if range kind z then Some z else None

-- toward zero; a zero divisor reverts. The remainder has the sign of the dividend
abbrev pub divided : (ℤ → Option ℤ) → (ℤ → ℤ → ℤ) → ℤ → ℤ → Option ℤ
divided range f x y = if is_zero y then None else range (f x y)

-- the exact result of an operator of two operands, by a test of the range of its type
abbrev pub binary : (ℤ → Option ℤ) → Op → ℤ → ℤ → Option ℤ
binary range op.Add x y = range (x +ℤ y)
binary range op.Sub x y = range (x -ℤ y)
binary range op.Mul x y = range (x *ℤ y)
binary range op.Div x y = divided range int_div x y
binary range op.Mod x y = divided range int_rem x y
binary range op.Eq x y = Some (of_bool (int_eq x y))
binary range op.Ne x y = Some (of_bool (not (int_eq x y)))
binary range op.Lt x y = Some (of_bool (int_lt x y))
binary range op.Gt x y = Some (of_bool (int_lt y x))
binary range op.Le x y = Some (of_bool (int_le x y))
binary range op.Ge x y = Some (of_bool (int_le y x))
binary range op.And x y = Some (of_bool (not (is_zero x) && not (is_zero y)))
binary range op.Or x y = Some (of_bool (not (is_zero x) || not (is_zero y)))
binary range _ x y = None

abbrev pub unary : (ℤ → Option ℤ) → Op → ℤ → Option ℤ
unary range op.Not x = Some (of_bool (is_zero x))
unary range op.Neg x = range (neg_ℤ x)
unary range _ x = None

-- the left operand of `&&` and `||` may decide, and the right one is then not worked out
abbrev pub decides : Op → ℤ → Bool
decides op.And x = is_zero x
decides op.Or x = not (is_zero x)
decides _ x = false

-- in annotations: exact numbers, and 0 for a quotient or a remainder by 0
abbrev pub total : Option ℤ → ℤ
total None = pos 0
total (Some z) = z

-- ---- conversions

-- what is left of z modulo m, from 0 to m - 1
abbrev pub residue : ℕ → ℤ → ℕ
residue m (pos n) = n % m
residue m (negsuc n) = m - 1 - n % m

-- the low bits of z, as a number of the type
abbrev pub low_bits : Kind → ℤ → ℤ
low_bits (Unsigned bits) z = pos (residue (2 ^ bits) z)
low_bits (Signed bits) z =
    let r = pos (residue (2 ^ bits) z) in
    if int_le r (greatest (Signed bits)) then r else r -ℤ pos (2 ^ bits)
low_bits _ z = z

-- the first type holds every value of the second
abbrev pub holds_all : Kind → Kind → Bool
holds_all to from = int_le (least to) (least from) && int_le (greatest from) (greatest to)

-- an enum takes its members only; an address and a contract keep the number; an integer type keeps it where it holds every
-- value of the source type, and else the low bits
abbrev pub converted : Kind → Kind → ℤ → Option ℤ
converted (Member members) from z = if int_le (pos 0) z && int_lt z (pos members) then Some z else None
converted (Unsigned bits) from z = Some (if holds_all (Unsigned bits) from then z else low_bits (Unsigned bits) z)
converted (Signed bits) from z = Some (if holds_all (Signed bits) from then z else low_bits (Signed bits) z)
converted _ from z = Some z

abbrev pub is_wide_kind : Kind → Bool
is_wide_kind (Unsigned bits) = not (is_narrow bits)
is_wide_kind (Signed bits) = not (is_narrow bits)
is_wide_kind _ = false

-- the rules do not know what a conversion to a wide type gives that may not keep its source
abbrev pub is_open : Kind → Kind → Bool
is_open to from = is_wide_kind to && not (holds_all to from)
