-- Believed: which expressions may stand in annotations. Hold it against docs/language.md, "Annotations".
use Rattle.std.specs.Prelude.{ℕ, Bool, true, false, not, ◌&&◌, ◌||◌, List}
use Rattle.sv_plain.specs.PlainExprs.{Expr, Node, Kind, Choice, Chain, Prefix, Power, Applied, Number, Hexadecimal, Text, Truth, Name, Elementary, Address, Payable, OfType, New, Super, This, Paren, Operand, Operated, Operands, NoOperand, MoreOperands, Suffix, Suffixed, Suffixes, NoSuffix, MoreSuffixes, Step, Index, Member, Call, Value, Increment, Decrement, Args, Given, ArgsKind, Positional, Named, Exprs, NoExpr, MoreExprs}
use Rattle.sv_form_rules.specs.NameTexts.{text_of}
use Rattle.sv_form_rules.specs.NodeRules.{steps}
use Rattle.sv_annotation.specs.declared.openings.Opening.{Opening}
use Rattle.sv_annotation.specs.declared.openings.Opening.TheVariants as opening
use Rattle.sv_annotation.specs.Openings.{is_limit, is_of_message, bare, opening_of}

-- what is no expression without its first suffix
abbrev pub is_operand : Opening → Bool
is_operand opening.Operand = true
is_operand _ = false

abbrev pub is_this_kind : Kind → Bool
is_this_kind This = true
is_this_kind _ = false

abbrev pub is_this : Expr → Bool
is_this e = is_this_kind (bare e)

-- `this` is the argument of `address(this)` alone
abbrev pub takes_this : Opening → Bool
takes_this opening.Address = true
takes_this _ = false

-- which openings a call may follow
abbrev pub takes_call : Opening → Bool
takes_call opening.Function = true
takes_call opening.Address = true
takes_call opening.Payable = true
takes_call _ = false

abbrev pub takes_member : Opening → List ℕ → Bool
takes_member opening.Operand text = true
takes_member opening.Function text = true
takes_member opening.Address text = false
takes_member opening.Payable text = false
takes_member opening.OfType text = is_limit text
takes_member opening.Block text = false
takes_member opening.Message text = not (is_of_message text)

-- which openings are values that have elements
abbrev pub takes_index : Opening → Bool
takes_index opening.Operand = true
takes_index opening.Function = true
takes_index opening.Block = true
takes_index opening.Message = true
takes_index _ = false

-- `names` are the texts of names; `sender` says whether `msg.sender` and `msg.value` may be named
abbrev mutual
  pub fits : List (List ℕ) → Bool → Expr → Bool
  fits names sender (Node at k) = kind_fits names sender k

  pub kind_fits : List (List ℕ) → Bool → Kind → Bool
  kind_fits names sender (Choice a b c) = fits names sender a && (fits names sender b && fits names sender c)
  kind_fits names sender (Chain e os) = fits names sender e && operands_fit names sender os
  kind_fits names sender (Prefix op e) = not (steps op) && fits names sender e
  kind_fits names sender (Power a b) = false
  kind_fits names sender (Applied e ss) = (not (is_operand (opening_of names sender (bare e))) || fits names sender e) && suffixes_fit names sender (opening_of names sender (bare e)) ss
  kind_fits names sender (Number n unit) = true
  kind_fits names sender (Hexadecimal n) = true
  kind_fits names sender (Text n) = true
  kind_fits names sender (Truth b) = true
  kind_fits names sender (Name n) = true
  kind_fits names sender (Elementary n) = false
  kind_fits names sender Address = false
  kind_fits names sender Payable = false
  kind_fits names sender (OfType t) = false
  kind_fits names sender (New t) = false
  kind_fits names sender Super = false
  kind_fits names sender This = false
  kind_fits names sender (Paren e) = fits names sender e

  pub operands_fit : List (List ℕ) → Bool → Operands → Bool
  operands_fit names sender NoOperand = true
  operands_fit names sender (MoreOperands o os) = operand_fits names sender o && operands_fit names sender os

  pub operand_fits : List (List ℕ) → Bool → Operand → Bool
  operand_fits names sender (Operated op e) = fits names sender e

  -- what the first suffix makes of an opening is an operand
  pub suffixes_fit : List (List ℕ) → Bool → Opening → Suffixes → Bool
  suffixes_fit names sender o NoSuffix = true
  suffixes_fit names sender o (MoreSuffixes s ss) = suffix_fits names sender o s && suffixes_fit names sender opening.Operand ss

  pub suffix_fits : List (List ℕ) → Bool → Opening → Suffix → Bool
  suffix_fits names sender o (Suffixed at s) = step_fits names sender o s

  pub step_fits : List (List ℕ) → Bool → Opening → Step → Bool
  step_fits names sender o (Index e) = takes_index o && fits names sender e
  step_fits names sender o (Member n) = takes_member o (text_of names n)
  step_fits names sender o (Call args) = takes_call o && argument_fits names sender (takes_this o) args
  step_fits names sender o (Value e) = false
  step_fits names sender o Increment = false
  step_fits names sender o Decrement = false

  -- one argument, by its place; `this` says whether it may be `this`
  pub argument_fits : List (List ℕ) → Bool → Bool → Args → Bool
  argument_fits names sender this (Given at k) = argument_kind_fits names sender this k

  pub argument_kind_fits : List (List ℕ) → Bool → Bool → ArgsKind → Bool
  argument_kind_fits names sender this (Named args) = false
  argument_kind_fits names sender this (Positional es) = one_fits names sender this es

  pub one_fits : List (List ℕ) → Bool → Bool → Exprs → Bool
  one_fits names sender this NoExpr = false
  one_fits names sender this (MoreExprs e es) = is_none es && ((this && is_this e) || fits names sender e)

  pub is_none : Exprs → Bool
  is_none NoExpr = true
  is_none (MoreExprs e es) = false

-- an expression and its suffixes
abbrev pub applied_fit : List (List ℕ) → Bool → Expr → Suffixes → Bool
applied_fit names sender e ss = kind_fits names sender (Applied e ss)
