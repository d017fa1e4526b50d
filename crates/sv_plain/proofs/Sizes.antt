-- How large the plain data of an expression is: one more for each constructor. Measures of recursions over views are made of it.
use Rattle.std.specs.Prelude.{ℕ, suc, ◌+◌}
use Rattle.sv_plain.specs.PlainExprs.{Expr, Node, Kind, Choice, Chain, Prefix, Power, Applied, Number, Hexadecimal, Text, Truth, Name, Elementary, Address, Payable, OfType, New, Super, This, Paren, Operand, Operated, Operands, NoOperand, MoreOperands, Suffix, Suffixed, Suffixes, NoSuffix, MoreSuffixes, Step, Index, Member, Call, Value, Increment, Decrement, Args, Given, ArgsKind, Positional, Named, Exprs, NoExpr, MoreExprs, NamedArg, Arg, NamedArgs, NoArg, MoreArgs, TypeForm, Typed, PlainForm, Simply, PlainKind, ElementaryType, AddressType, StringType, NamedType, MappingType, Length, Open, Of, Lengths, NoLength, MoreLengths}

abbrev mutual
  pub size : Expr → ℕ
  size (Node at k) = suc (kind_size k)

  pub kind_size : Kind → ℕ
  kind_size (Choice a b c) = suc (size a + (size b + size c))
  kind_size (Chain e os) = suc (size e + operands_size os)
  kind_size (Prefix op e) = suc (size e)
  kind_size (Power a b) = suc (size a + size b)
  kind_size (Applied e ss) = suc (size e + suffixes_size ss)
  kind_size (Number n u) = 1
  kind_size (Hexadecimal n) = 1
  kind_size (Text n) = 1
  kind_size (Truth b) = 1
  kind_size (Name n) = 1
  kind_size (Elementary n) = 1
  kind_size Address = 1
  kind_size Payable = 1
  kind_size (OfType t) = suc (type_size t)
  kind_size (New t) = suc (type_size t)
  kind_size Super = 1
  kind_size This = 1
  kind_size (Paren e) = suc (size e)

  pub operand_size : Operand → ℕ
  operand_size (Operated op e) = suc (size e)

  pub operands_size : Operands → ℕ
  operands_size NoOperand = 1
  operands_size (MoreOperands o os) = suc (operand_size o + operands_size os)

  pub suffix_size : Suffix → ℕ
  suffix_size (Suffixed at s) = suc (step_size s)

  pub suffixes_size : Suffixes → ℕ
  suffixes_size NoSuffix = 1
  suffixes_size (MoreSuffixes s ss) = suc (suffix_size s + suffixes_size ss)

  pub step_size : Step → ℕ
  step_size (Index e) = suc (size e)
  step_size (Member n) = 1
  step_size (Call args) = suc (args_size args)
  step_size (Value e) = suc (size e)
  step_size Increment = 1
  step_size Decrement = 1

  pub args_size : Args → ℕ
  args_size (Given at k) = suc (args_kind_size k)

  pub args_kind_size : ArgsKind → ℕ
  args_kind_size (Positional es) = suc (exprs_size es)
  args_kind_size (Named args) = suc (named_args_size args)

  pub exprs_size : Exprs → ℕ
  exprs_size NoExpr = 1
  exprs_size (MoreExprs e es) = suc (size e + exprs_size es)

  pub named_arg_size : NamedArg → ℕ
  named_arg_size (Arg n e) = suc (size e)

  pub named_args_size : NamedArgs → ℕ
  named_args_size NoArg = 1
  named_args_size (MoreArgs a more) = suc (named_arg_size a + named_args_size more)

  pub type_size : TypeForm → ℕ
  type_size (Typed at p ls) = suc (plain_form_size p + lengths_size ls)

  pub plain_form_size : PlainForm → ℕ
  plain_form_size (Simply at k) = suc (plain_kind_size k)

  pub plain_kind_size : PlainKind → ℕ
  plain_kind_size (ElementaryType n) = 1
  plain_kind_size (AddressType b) = 1
  plain_kind_size StringType = 1
  plain_kind_size (NamedType n m) = 1
  plain_kind_size (MappingType k kn v vn) = suc (type_size k + type_size v)

  pub length_size : Length → ℕ
  length_size Open = 1
  length_size (Of e) = suc (size e)

  pub lengths_size : Lengths → ℕ
  lengths_size NoLength = 1
  lengths_size (MoreLengths l ls) = suc (length_size l + lengths_size ls)
