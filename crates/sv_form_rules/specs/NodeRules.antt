-- Believed: what an expression by itself may break: numbers that are too wide, addresses, `++` and `--` inside expressions, powers. Hold it against docs/language.md and Solidity's documentation, "Rational and Integer Literals", "Address Literals", "Compound and Increment/Decrement Operators", "Exponentiation".
use Rattle.std.specs.Prelude.{ℕ, Bool, true, false, not, ◌&&◌, ◌||◌, ◌^◌, nat_le, List}
use Rattle.sv_ast.specs.declared.expr.UnaryOp.{UnaryOp}
use Rattle.sv_ast.specs.declared.expr.UnaryOp.TheVariants as op
use Rattle.sv_visit.specs.declared.judge.Role.{Role}
use Rattle.sv_visit.specs.declared.judge.Role.TheVariants as role
use Rattle.sv_literal.specs.Literals.{decimal_worth, hexadecimal_worth, is_address}
use Rattle.sv_plain.specs.PlainExprs.{Expr, Node, Kind, Choice, Chain, Prefix, Power, Applied, Number, Hexadecimal, Text, Truth, Name, Elementary, Address, Payable, OfType, New, Super, This, Paren, Suffix, Suffixed, Suffixes, NoSuffix, MoreSuffixes, Step, Index, Member, Call, Value, Increment, Decrement}
use Rattle.sv_form_rules.specs.NameTexts.{text_of}

-- ---- numbers

-- a number with its exponent and its unit of 2^128 or more; an address is none
abbrev pub is_wide : List (List ℕ) → Kind → Bool
is_wide names (Number n unit) = nat_le (2 ^ 128) (decimal_worth (text_of names n) unit)
is_wide names (Hexadecimal n) = not (is_address (text_of names n)) && nat_le (2 ^ 128) (hexadecimal_worth (text_of names n))
is_wide names _ = false

-- a hexadecimal number of exactly 40 digits
abbrev pub is_address_literal : List (List ℕ) → Kind → Bool
is_address_literal names (Hexadecimal n) = is_address (text_of names n)
is_address_literal names _ = false

-- ---- `++` and `--`

abbrev pub is_inner : Role → Bool
is_inner role.Inner = true
is_inner role.Statement = false

-- in front of its operand
abbrev pub steps : UnaryOp → Bool
steps op.Increment = true
steps op.Decrement = true
steps op.Negate = false
steps op.Not = false

-- behind its operand
abbrev pub is_step : Suffix → Bool
is_step (Suffixed at Increment) = true
is_step (Suffixed at Decrement) = true
is_step _ = false

abbrev pub is_last : Suffixes → Bool
is_last NoSuffix = true
is_last (MoreSuffixes s ss) = false

-- where the whole is a statement, its last suffix may be one; `inner` says that it is none
abbrev pub steps_inside : Bool → Suffixes → Bool
steps_inside inner NoSuffix = false
steps_inside inner (MoreSuffixes s ss) = (is_step s && (inner || not (is_last ss))) || steps_inside inner ss

-- `++` or `--` that is no statement and no part of the header of a `for`
abbrev pub assigns_inside : Role → Kind → Bool
assigns_inside r (Prefix op e) = steps op && is_inner r
assigns_inside r (Applied e ss) = steps_inside (is_inner r) ss
assigns_inside r _ = false

-- ---- powers

-- parentheses around a literal aside; truth values and strings are literals of a type that no power takes
abbrev mutual
  pub is_literal : Expr → Bool
  is_literal (Node at k) = is_literal_kind k

  pub is_literal_kind : Kind → Bool
  is_literal_kind (Number n unit) = true
  is_literal_kind (Hexadecimal n) = true
  is_literal_kind (Text n) = true
  is_literal_kind (Truth b) = true
  is_literal_kind (Paren e) = is_literal e
  is_literal_kind _ = false

abbrev pub is_power_kind : Kind → Bool
is_power_kind (Power a b) = true
is_power_kind _ = false

abbrev pub is_power : Expr → Bool
is_power (Node at k) = is_power_kind k

-- `a ** b` of anything but literals; `b` may be the rest of a chain `b ** c`, which is asked by itself
abbrev pub raises_others : Kind → Bool
raises_others (Power a b) = not (is_literal a && (is_literal b || is_power b))
raises_others _ = false
