-- Believed: the nodes of an expression or a type, each once, in order of the text. Hold it against `specs/PlainExprs.antt` of `sv_plain`: each form with each of its parts.
use Rattle.std.specs.Prelude.{List, map}
use Rattle.sv_ast.specs.declared.expr.Expr.{Expr as ExprNode}
use Rattle.sv_ast.specs.declared.post.NamedArg.{NamedArg as NamedArgNode}
use Rattle.sv_ast.specs.declared.post.Suffix.{Suffix as SuffixNode}
use Rattle.sv_ast.specs.declared.types.Dimension.{Dimension as DimensionNode}
use Rattle.sv_plain.specs.declared.view.Node.{Node as NodeView}
use Rattle.sv_plain.specs.declared.view.Rest.{Rest}
use Rattle.sv_plain.specs.PlainExprs.{Expr, Node, Kind, Choice, Chain, Prefix, Power, Applied, Number, Hexadecimal, Text, Truth, Name, Elementary, Address, Payable, OfType, New, Super, This, Paren, Operand, Operated, Operands, NoOperand, MoreOperands, Suffix, Suffixed, Suffixes, NoSuffix, MoreSuffixes, Step, Index, Member, Call, Value, Increment, Decrement, Args, Given, ArgsKind, Positional, Named, Exprs, NoExpr, MoreExprs, NamedArg, Arg, NamedArgs, NoArg, MoreArgs, TypeForm, Typed, PlainForm, Simply, PlainKind, ElementaryType, AddressType, StringType, NamedType, MappingType, Length, Open, Of, Lengths, NoLength, MoreLengths}
use Rattle.sv_visit.specs.declared.judge.Role.{Role}
use Rattle.sv_visit.specs.declared.judge.Role.TheVariants as role
use Rattle.sv_plain.specs.PlainExprs.{operands, suffixes, exprs, named_args, lengths}
use Rattle.sv_plain.specs.ExprFolds.{plain_expr, plain_suffix, plain_named_arg, plain_dimension, plain_type_expr, plain_plain, plain_args}
use Rattle.sv_visit.specs.declared.judge.Use.{Use}
use Rattle.sv_visit.specs.declared.judge.Use.TheVariants as used
use Rattle.sv_plain.specs.ShownExprs.{expr_of, rest_of}
use Rattle.sv_book.specs.Walks.{Walk, Walks, Node as Branch, Group, End, Part}
use Rattle.sv_visit.specs.Sites.{Site, Expression, TypeUse, PlainUse, Arguing}

abbrev mutual
  pub expr_walk : Role → Expr → Walk Site
  expr_walk r (Node at k) = Branch (Expression r at k) (kind_parts r k)

  pub kind_parts : Role → Kind → Walks Site
  kind_parts r (Choice a b d) = Part (expr_walk role.Inner a) (Part (expr_walk role.Inner b) (Part (expr_walk role.Inner d) End))
  kind_parts r (Chain e os) = Part (expr_walk role.Inner e) (operands_walk os)
  kind_parts r (Prefix op e) = Part (expr_walk role.Inner e) End
  kind_parts r (Power a b) = Part (expr_walk role.Inner a) (Part (expr_walk role.Inner b) End)
  kind_parts r (Applied e ss) = Part (expr_walk role.Inner e) (suffixes_walk ss)
  kind_parts r (Number n u) = End
  kind_parts r (Hexadecimal n) = End
  kind_parts r (Text n) = End
  kind_parts r (Truth b) = End
  kind_parts r (Name n) = End
  kind_parts r (Elementary n) = End
  kind_parts r Address = End
  kind_parts r Payable = End
  kind_parts r (OfType t) = Part (type_walk t) End
  kind_parts r (New t) = Part (type_walk t) End
  kind_parts r Super = End
  kind_parts r This = End
  -- parentheses change nothing but places
  kind_parts r (Paren e) = Part (expr_walk r e) End

  pub operands_walk : Operands → Walks Site
  operands_walk NoOperand = End
  operands_walk (MoreOperands o os) = Part (operand_walk o) (operands_walk os)

  pub operand_walk : Operand → Walk Site
  operand_walk (Operated op e) = expr_walk role.Inner e

  pub suffixes_walk : Suffixes → Walks Site
  suffixes_walk NoSuffix = End
  suffixes_walk (MoreSuffixes s ss) = Part (suffix_walk s) (suffixes_walk ss)

  pub suffix_walk : Suffix → Walk Site
  suffix_walk (Suffixed at s) = Group (step_parts s)

  pub step_parts : Step → Walks Site
  step_parts (Index e) = Part (expr_walk role.Inner e) End
  step_parts (Member n) = End
  step_parts (Call args) = Part (args_walk args) End
  step_parts (Value e) = Part (expr_walk role.Inner e) End
  step_parts Increment = End
  step_parts Decrement = End

  pub args_walk : Args → Walk Site
  args_walk (Given at k) = Branch (Arguing (Given at k)) (args_kind_parts k)

  pub args_kind_parts : ArgsKind → Walks Site
  args_kind_parts (Positional es) = exprs_walk es
  args_kind_parts (Named args) = named_walk args

  pub exprs_walk : Exprs → Walks Site
  exprs_walk NoExpr = End
  exprs_walk (MoreExprs e es) = Part (expr_walk role.Inner e) (exprs_walk es)

  pub named_walk : NamedArgs → Walks Site
  named_walk NoArg = End
  named_walk (MoreArgs a more) = Part (named_arg_walk a) (named_walk more)

  pub named_arg_walk : NamedArg → Walk Site
  named_arg_walk (Arg n e) = expr_walk role.Inner e

  pub type_walk : TypeForm → Walk Site
  type_walk (Typed at p ls) = Branch (TypeUse (Typed at p ls)) (Part (plain_walk p) (lengths_walk ls))

  pub plain_walk : PlainForm → Walk Site
  plain_walk (Simply at k) = Branch (PlainUse (Simply at k)) (plain_parts k)

  pub plain_parts : PlainKind → Walks Site
  plain_parts (ElementaryType n) = End
  plain_parts (AddressType b) = End
  plain_parts StringType = End
  plain_parts (NamedType n m) = End
  plain_parts (MappingType k kn v vn) = Part (type_walk k) (Part (type_walk v) End)

  pub lengths_walk : Lengths → Walks Site
  lengths_walk NoLength = End
  lengths_walk (MoreLengths l ls) = Part (length_walk l) (lengths_walk ls)

  pub length_walk : Length → Walk Site
  length_walk Open = Group End
  length_walk (Of e) = expr_walk role.Inner e

-- ---- the same of nodes of the syntax tree

abbrev pub site_of : Use → Site
site_of (used.«Type» t) = TypeUse (plain_type_expr t.now)
site_of (used.Plain p) = PlainUse (plain_plain p.now)
site_of (used.Args args) = Arguing (plain_args args.now)

abbrev pub node_walk : Role → NodeView → Walk Site
node_walk r e = expr_walk r (expr_of e)

abbrev pub two_walk : NodeView → NodeView → Walks Site
two_walk a b = Part (node_walk role.Inner a) (Part (node_walk role.Inner b) End)

abbrev pub rest_walk : Rest → Walks Site
rest_walk rest = operands_walk (operands (rest_of rest))

abbrev pub suffix_list : List SuffixNode → Walks Site
suffix_list list = suffixes_walk (suffixes (map plain_suffix list))

abbrev pub expr_list : List ExprNode → Walks Site
expr_list list = exprs_walk (exprs (map plain_expr list))

abbrev pub named_list : List NamedArgNode → Walks Site
named_list list = named_walk (named_args (map plain_named_arg list))

abbrev pub length_list : List DimensionNode → Walks Site
length_list list = lengths_walk (lengths (map plain_dimension list))
