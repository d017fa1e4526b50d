-- Believed: which operands an operator takes, which two suit each other, which of two is at fault, and the type of the result. Hold it against Solidity's documentation, "Operators", "Types" and "Value Types".
use Rattle.std.specs.Prelude.{ℕ, ◌&&◌, ◌||◌, Bool, true, false, not, cond, List, Option, Some, None}
use Rattle.sv_text_type.specs.declared.text_type.TextType.{TextType}
use Rattle.sv_text_type.specs.TextTypeParts.{is_value}
use Rattle.sv_convert.specs.declared.convert.Setting.{Setting}
use Rattle.sv_convert.specs.declared.operator.Unary.{Unary}
use Rattle.sv_convert.specs.declared.operator.Unary.TheVariants as u
use Rattle.sv_convert.specs.declared.operator.Binary.{Binary}
use Rattle.sv_convert.specs.declared.operator.Binary.TheVariants as b
use Rattle.sv_convert.specs.declared.operator.Operand.{Operand}
use Rattle.sv_convert.specs.declared.operator.Operand.TheVariants as o
use Rattle.sv_convert.specs.declared.operator.Outcome.{Outcome}
use Rattle.sv_convert.specs.declared.operator.Outcome.TheVariants as r
use Rattle.sv_convert.specs.Conversions.{is_integer, is_signed, is_enum, is_bool, mixes, converts, takes_number}

-- ---- one operand

-- `!` takes truth values, minus takes signed integers, and in annotations all
abbrev pub unary_takes : Setting → Unary → Operand → Bool
unary_takes setting u.Not (o.Typed type literal) = is_bool type
unary_takes setting u.Not (o.Number negative m) = false
unary_takes setting u.Minus (o.Typed type literal) = is_signed type || (mixes setting && is_integer type)
unary_takes setting u.Minus (o.Number negative m) = true

abbrev pub takes_type : Binary → TextType → Bool
takes_type b.Arithmetic type = is_integer type
takes_type b.Equality type = is_value type
takes_type b.Order type = is_integer type || is_enum type
takes_type b.Logic type = is_bool type
takes_type b.Choice type = true

-- all but `&&` and `||` take numbers
abbrev pub takes_numbers : Binary → Bool
takes_numbers b.Logic = false
takes_numbers _ = true

abbrev pub takes : Binary → Operand → Bool
takes op (o.Typed type literal) = takes_type op type
takes op (o.Number negative m) = takes_numbers op

-- ---- two operands

-- one converts to the other as it stands; in annotations any two integers do
abbrev pub types_suit : Setting → List (List ℕ) → TextType → TextType → Bool
types_suit setting bases left right = converts bases left right || converts bases right left || (mixes setting && is_integer left && is_integer right)

-- a literal takes the type of its partner
abbrev pub suit : Setting → List (List ℕ) → Operand → Operand → Bool
suit setting bases (o.Typed left l) (o.Typed right r) = types_suit setting bases left right
suit setting bases (o.Typed left l) (o.Number negative m) = takes_number setting left negative m
suit setting bases (o.Number negative m) (o.Typed right r) = takes_number setting right negative m
suit setting bases (o.Number s m) (o.Number negative n) = true

abbrev pub is_literal : Operand → Bool
is_literal (o.Typed type literal) = literal
is_literal (o.Number negative m) = true

-- the left operand is at fault where the operator never takes it, and where the two don't suit and it alone is a literal
abbrev pub left_is_wrong : Setting → List (List ℕ) → Binary → Operand → Operand → Bool
left_is_wrong setting bases op left right = not (takes op left) || (takes op right && not (suit setting bases left right) && is_literal left && not (is_literal right))

-- the right one where the operator never takes it, and otherwise where the two don't suit
abbrev pub right_is_wrong : Setting → List (List ℕ) → Binary → Operand → Operand → Bool
right_is_wrong setting bases op left right = not (takes op right) || (takes op left && not (suit setting bases left right) && not (is_literal left && not (is_literal right)))

-- ---- the result

-- the right operand's type is the type of both
abbrev pub right_is_wider : List (List ℕ) → Operand → Operand → Bool
right_is_wider bases (o.Typed left l) (o.Typed right r) = converts bases left right
right_is_wider bases (o.Typed left l) (o.Number negative m) = false
right_is_wider bases (o.Number negative m) (o.Typed right r) = true
right_is_wider bases (o.Number s m) (o.Number negative n) = false

abbrev pub is_test : Binary → Bool
is_test b.Equality = true
is_test b.Order = true
is_test b.Logic = true
is_test _ = false

-- tests give truth values, whatever is wrong; arithmetic and `?:` have a type only where the operands are taken and suit
abbrev pub result_type : Setting → List (List ℕ) → Binary → Operand → Operand → Option Outcome
result_type setting bases op left right = cond (is_test op) (Some r.Truth)
    (cond (takes op left && takes op right && suit setting bases left right) (Some (cond (right_is_wider bases left right) r.Right r.Left)) None)
