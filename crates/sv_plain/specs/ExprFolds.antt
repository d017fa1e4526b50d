-- Believed: the plain data of each node of an expression or a type, from that of its parts. Hold it against the types of `sv_ast` and docs/grammar.md.
use Rattle.std.specs.Prelude.{true, false, List, [], ◌∷◌, map, Option, Some, None}
use Rattle.sv_text.specs.declared.span.Span.{Span}
use Rattle.sv_text.specs.declared.place.Place.{Place}
use Rattle.sv_ast.specs.declared.expr.SameOp.{SameOp}
use Rattle.sv_ast.specs.declared.expr.SameOp.TheVariants as sameop
use Rattle.sv_ast.specs.declared.expr.LessOp.{LessOp}
use Rattle.sv_ast.specs.declared.expr.LessOp.TheVariants as lessop
use Rattle.sv_ast.specs.declared.expr.SumOp.{SumOp}
use Rattle.sv_ast.specs.declared.expr.SumOp.TheVariants as sumop
use Rattle.sv_ast.specs.declared.expr.ProdOp.{ProdOp}
use Rattle.sv_ast.specs.declared.expr.ProdOp.TheVariants as prodop
use Rattle.sv_ast.specs.declared.expr.TermKind.{TermKind as TermKindNode}
use Rattle.sv_ast.specs.declared.expr.UnaryOperand.{UnaryOperand as UnaryOperandNode}
use Rattle.sv_ast.specs.declared.post.ArgsKind.{ArgsKind as ArgsKindNode}
use Rattle.sv_ast.specs.declared.post.AtomKind.{AtomKind as AtomKindNode}
use Rattle.sv_ast.specs.declared.post.SuffixKind.{SuffixKind as SuffixKindNode}
use Rattle.sv_ast.specs.declared.types.PlainKind.{PlainKind as PlainKindNode}
use Rattle.sv_ast.specs.declared.expr.And.{And as AndNode}
use Rattle.sv_ast.specs.declared.expr.Arms.{Arms as ArmsNode}
use Rattle.sv_ast.specs.declared.expr.Expr.{Expr as ExprNode}
use Rattle.sv_ast.specs.declared.expr.Less.{Less as LessNode}
use Rattle.sv_ast.specs.declared.expr.LessRest.{LessRest as LessRestNode}
use Rattle.sv_ast.specs.declared.expr.Or.{Or as OrNode}
use Rattle.sv_ast.specs.declared.expr.Power.{Power as PowerNode}
use Rattle.sv_ast.specs.declared.expr.Prod.{Prod as ProdNode}
use Rattle.sv_ast.specs.declared.expr.ProdRest.{ProdRest as ProdRestNode}
use Rattle.sv_ast.specs.declared.expr.Same.{Same as SameNode}
use Rattle.sv_ast.specs.declared.expr.SameRest.{SameRest as SameRestNode}
use Rattle.sv_ast.specs.declared.expr.Sum.{Sum as SumNode}
use Rattle.sv_ast.specs.declared.expr.SumRest.{SumRest as SumRestNode}
use Rattle.sv_ast.specs.declared.expr.Term.{Term as TermNode}
use Rattle.sv_ast.specs.declared.expr.Unary.{Unary as UnaryNode}
use Rattle.sv_ast.specs.declared.post.Args.{Args as ArgsNode}
use Rattle.sv_ast.specs.declared.post.Atom.{Atom as AtomNode}
use Rattle.sv_ast.specs.declared.post.NamedArg.{NamedArg as NamedArgNode}
use Rattle.sv_ast.specs.declared.post.Post.{Post as PostNode}
use Rattle.sv_ast.specs.declared.post.Suffix.{Suffix as SuffixNode}
use Rattle.sv_ast.specs.declared.types.Dimension.{Dimension as DimensionNode}
use Rattle.sv_ast.specs.declared.types.Plain.{Plain as PlainNode}
use Rattle.sv_ast.specs.declared.types.TypeExpr.{TypeExpr as TypeExprNode}
use Rattle.sv_ast.specs.declared.expr.TermKind.TheOpen.{TermKind-F, UnaryOperand-F, ArgsKind-F, AtomKind-F, SuffixKind-F, PlainKind-F, And-F, Arms-F, Expr-F, Less-F, LessRest-F, Or-F, Power-F, Prod-F, ProdRest-F, Same-F, SameRest-F, Sum-F, SumRest-F, Term-F, Unary-F, Args-F, Atom-F, NamedArg-F, Post-F, Suffix-F, Dimension-F, Plain-F, TypeExpr-F}
use Rattle.sv_ast.specs.declared.expr.TermKind.TheFolds.{fold-TermKind, fold-UnaryOperand, fold-ArgsKind, fold-AtomKind, fold-SuffixKind, fold-PlainKind, fold-And, fold-Arms, fold-Expr, fold-Less, fold-LessRest, fold-Or, fold-Power, fold-Prod, fold-ProdRest, fold-Same, fold-SameRest, fold-Sum, fold-SumRest, fold-Term, fold-Unary, fold-Args, fold-Atom, fold-NamedArg, fold-Post, fold-Suffix, fold-Dimension, fold-Plain, fold-TypeExpr}
use Rattle.sv_plain.specs.declared.spot.Spot.{Spot}
use Rattle.sv_plain.specs.declared.operator.Operator.{Operator}
use Rattle.sv_plain.specs.declared.operator.Operator.TheVariants as op
use Rattle.sv_plain.specs.PlainExprs.{Expr, Node, Kind, Choice, Chain, Prefix, Power, Applied, Number, Hexadecimal, Text, Truth, Name, Elementary, Address, Payable, OfType, New, Super, This, Paren, Operand, Operated, Suffix, Suffixed, Step, Index, Member, Call, Value, Increment, Decrement, Args, Given, ArgsKind, Positional, Named, NamedArg, Arg, TypeForm, Typed, PlainForm, Simply, PlainKind, ElementaryType, AddressType, StringType, NamedType, MappingType, Length, Open, Of, Arms, operands, suffixes, exprs, named_args, lengths}

abbrev pub spot : Span → Place → Spot
spot span place = record { span = span; place = place }

-- ---- operators

abbrev pub same_op : SameOp → Operator
same_op sameop.Equal = op.Equal
same_op sameop.Unequal = op.Unequal

abbrev pub less_op : LessOp → Operator
less_op lessop.Less = op.Less
less_op lessop.Greater = op.Greater
less_op lessop.AtMost = op.AtMost
less_op lessop.AtLeast = op.AtLeast

abbrev pub sum_op : SumOp → Operator
sum_op sumop.Add = op.Add
sum_op sumop.Subtract = op.Subtract

abbrev pub prod_op : ProdOp → Operator
prod_op prodop.Multiply = op.Multiply
prod_op prodop.Divide = op.Divide
prod_op prodop.Remainder = op.Remainder

-- ---- levels that may add nothing

abbrev pub chosen : Spot → Expr → Option Arms → Expr
chosen at e None = e
chosen at e (Some arms) = Node at (Choice e arms.if_true arms.if_false)

abbrev pub chained : Spot → Expr → List Operand → Expr
chained at e [] = e
chained at e (o ∷ os) = Node at (Chain e (operands (o ∷ os)))

abbrev pub raised : Spot → Expr → Option Expr → Expr
raised at e None = e
raised at e (Some x) = Node at (Power e x)

abbrev pub applied : Spot → Expr → List Suffix → Expr
applied at e [] = e
applied at e (s ∷ ss) = Node at (Applied e (suffixes (s ∷ ss)))

abbrev pub length_of : Option Expr → Length
length_of None = Open
length_of (Some e) = Of e

-- ---- each node, from what its parts give

abbrev pub Part : (Type 0 → Type 0 → Type 0 → Type 0 → Type 0 → Type 0 → Type 0 → Type 0 → Type 0 → Type 0 → Type 0 → Type 0 → Type 0 → Type 0 → Type 0 → Type 0 → Type 0 → Type 0 → Type 0 → Type 0 → Type 0 → Type 0 → Type 0 → Type 0 → Type 0 → Type 0 → Type 0 → Type 0 → Type 0 → Type 0) → Type 0
Part F = F Expr Expr ArgsKind Kind Step PlainKind Expr Arms Expr Expr Operand Expr Expr Expr Operand Expr Operand Expr Operand Expr Expr Args Expr NamedArg Expr Suffix Length PlainForm TypeForm

abbrev pub expr_step : Part Expr-F → Expr
expr_step e = chosen (spot e.span e.place) e.first e.arms

abbrev pub arms_step : Part Arms-F → Arms
arms_step a = record { if_true = a.if_true; if_false = a.if_false }

abbrev pub or_step : Part Or-F → Expr
or_step e = chained (spot e.span e.place) e.first (map (Operated op.Or) e.rest)

abbrev pub and_step : Part And-F → Expr
and_step e = chained (spot e.span e.place) e.first (map (Operated op.And) e.rest)

abbrev pub same_step : Part Same-F → Expr
same_step e = chained (spot e.span e.place) e.first e.rest

abbrev pub same_rest_step : Part SameRest-F → Operand
same_rest_step r = Operated (same_op r.op) r.operand

abbrev pub less_step : Part Less-F → Expr
less_step e = chained (spot e.span e.place) e.first e.rest

abbrev pub less_rest_step : Part LessRest-F → Operand
less_rest_step r = Operated (less_op r.op) r.operand

abbrev pub sum_step : Part Sum-F → Expr
sum_step e = chained (spot e.span e.place) e.first e.rest

abbrev pub sum_rest_step : Part SumRest-F → Operand
sum_rest_step r = Operated (sum_op r.op) r.operand

abbrev pub prod_step : Part Prod-F → Expr
prod_step e = chained (spot e.span e.place) e.first e.rest

abbrev pub prod_rest_step : Part ProdRest-F → Operand
prod_rest_step r = Operated (prod_op r.op) r.operand

abbrev pub term_step : Part Term-F → Expr
term_step e = e.kind

abbrev pub term_kind_step : Part TermKind-F → Expr
term_kind_step (TermKind-F.TermKind::Unary e) = e
term_kind_step (TermKind-F.Power e) = e

abbrev pub unary_step : Part Unary-F → Expr
unary_step e = Node (spot e.span e.place) (Prefix e.op e.operand)

abbrev pub unary_operand_step : Part UnaryOperand-F → Expr
unary_operand_step (UnaryOperand-F.UnaryOperand::Unary e) = e
unary_operand_step (UnaryOperand-F.Post e) = e

abbrev pub power_step : Part Power-F → Expr
power_step e = raised (spot e.span e.place) e.base e.exponent

abbrev pub post_step : Part Post-F → Expr
post_step e = applied (spot e.span e.place) e.atom e.suffixes

abbrev pub suffix_step : Part Suffix-F → Suffix
suffix_step s = Suffixed (spot s.span s.place) s.kind

abbrev pub suffix_kind_step : Part SuffixKind-F → Step
suffix_kind_step (SuffixKind-F.Index e) = Index e
suffix_kind_step (SuffixKind-F.Member n) = Member n
suffix_kind_step (SuffixKind-F.Call args) = Call args
suffix_kind_step (SuffixKind-F.Value e) = Value e
suffix_kind_step SuffixKind-F.Increment = Increment
suffix_kind_step SuffixKind-F.Decrement = Decrement

abbrev pub atom_step : Part Atom-F → Expr
atom_step a = Node (spot a.span a.place) a.kind

abbrev pub atom_kind_step : Part AtomKind-F → Kind
atom_kind_step (AtomKind-F.Number n u) = Number n u
atom_kind_step (AtomKind-F.Hexadecimal n) = Hexadecimal n
atom_kind_step (AtomKind-F.AtomKind::String n) = Text n
atom_kind_step AtomKind-F.True = Truth true
atom_kind_step AtomKind-F.False = Truth false
atom_kind_step (AtomKind-F.Name n) = Name n
atom_kind_step (AtomKind-F.AtomKind::Elementary n) = Elementary n
atom_kind_step AtomKind-F.AtomKind::Address = Address
atom_kind_step AtomKind-F.Payable = Payable
atom_kind_step (AtomKind-F.«Type» t) = OfType t
atom_kind_step (AtomKind-F.New t) = New t
atom_kind_step AtomKind-F.Super = Super
atom_kind_step AtomKind-F.This = This
atom_kind_step (AtomKind-F.Paren e) = Paren e

abbrev pub args_step : Part Args-F → Args
args_step a = Given (spot a.span a.place) a.kind

abbrev pub args_kind_step : Part ArgsKind-F → ArgsKind
args_kind_step (ArgsKind-F.Positional es) = Positional (exprs es)
args_kind_step (ArgsKind-F.ArgsKind::Named args) = Named (named_args args)

abbrev pub named_arg_step : Part NamedArg-F → NamedArg
named_arg_step a = Arg a.name a.value

abbrev pub type_expr_step : Part TypeExpr-F → TypeForm
type_expr_step t = Typed (spot t.span t.place) t.plain (lengths t.dimensions)

abbrev pub dimension_step : Part Dimension-F → Length
dimension_step d = length_of d.length

abbrev pub plain_step : Part Plain-F → PlainForm
plain_step p = Simply (spot p.span p.place) p.kind

abbrev pub plain_kind_step : Part PlainKind-F → PlainKind
plain_kind_step (PlainKind-F.PlainKind::Elementary n) = ElementaryType n
plain_kind_step (PlainKind-F.PlainKind::Address is_payable) = AddressType is_payable
plain_kind_step PlainKind-F.PlainKind::String = StringType
plain_kind_step (PlainKind-F.PlainKind::Named n member) = NamedType n member
plain_kind_step (PlainKind-F.Mapping key key_name value value_name) = MappingType key key_name value value_name

-- ---- the plain data

-- a function of a node by these steps
abbrev By : Type 0 → Type 0 → Type 0
By X Y =
    (Part TermKind-F → Expr) →
    (Part UnaryOperand-F → Expr) →
    (Part ArgsKind-F → ArgsKind) →
    (Part AtomKind-F → Kind) →
    (Part SuffixKind-F → Step) →
    (Part PlainKind-F → PlainKind) →
    (Part And-F → Expr) →
    (Part Arms-F → Arms) →
    (Part Expr-F → Expr) →
    (Part Less-F → Expr) →
    (Part LessRest-F → Operand) →
    (Part Or-F → Expr) →
    (Part Power-F → Expr) →
    (Part Prod-F → Expr) →
    (Part ProdRest-F → Operand) →
    (Part Same-F → Expr) →
    (Part SameRest-F → Operand) →
    (Part Sum-F → Expr) →
    (Part SumRest-F → Operand) →
    (Part Term-F → Expr) →
    (Part Unary-F → Expr) →
    (Part Args-F → Args) →
    (Part Atom-F → Expr) →
    (Part NamedArg-F → NamedArg) →
    (Part Post-F → Expr) →
    (Part Suffix-F → Suffix) →
    (Part Dimension-F → Length) →
    (Part Plain-F → PlainForm) →
    (Part TypeExpr-F → TypeForm) →
    X → Y

abbrev by_steps : {X Y : Type 0} → By X Y → X → Y
by_steps f = f term_kind_step unary_operand_step args_kind_step atom_kind_step suffix_kind_step plain_kind_step and_step arms_step expr_step less_step less_rest_step or_step power_step prod_step prod_rest_step same_step same_rest_step sum_step sum_rest_step term_step unary_step args_step atom_step named_arg_step post_step suffix_step dimension_step plain_step type_expr_step

unfoldable pub plain_term_kind : TermKindNode → Expr
plain_term_kind = by_steps (fold-TermKind Expr Expr ArgsKind Kind Step PlainKind Expr Arms Expr Expr Operand Expr Expr Expr Operand Expr Operand Expr Operand Expr Expr Args Expr NamedArg Expr Suffix Length PlainForm TypeForm)

unfoldable pub plain_unary_operand : UnaryOperandNode → Expr
plain_unary_operand = by_steps (fold-UnaryOperand Expr Expr ArgsKind Kind Step PlainKind Expr Arms Expr Expr Operand Expr Expr Expr Operand Expr Operand Expr Operand Expr Expr Args Expr NamedArg Expr Suffix Length PlainForm TypeForm)

unfoldable pub plain_args_kind : ArgsKindNode → ArgsKind
plain_args_kind = by_steps (fold-ArgsKind Expr Expr ArgsKind Kind Step PlainKind Expr Arms Expr Expr Operand Expr Expr Expr Operand Expr Operand Expr Operand Expr Expr Args Expr NamedArg Expr Suffix Length PlainForm TypeForm)

unfoldable pub plain_atom_kind : AtomKindNode → Kind
plain_atom_kind = by_steps (fold-AtomKind Expr Expr ArgsKind Kind Step PlainKind Expr Arms Expr Expr Operand Expr Expr Expr Operand Expr Operand Expr Operand Expr Expr Args Expr NamedArg Expr Suffix Length PlainForm TypeForm)

unfoldable pub plain_suffix_kind : SuffixKindNode → Step
plain_suffix_kind = by_steps (fold-SuffixKind Expr Expr ArgsKind Kind Step PlainKind Expr Arms Expr Expr Operand Expr Expr Expr Operand Expr Operand Expr Operand Expr Expr Args Expr NamedArg Expr Suffix Length PlainForm TypeForm)

unfoldable pub plain_plain_kind : PlainKindNode → PlainKind
plain_plain_kind = by_steps (fold-PlainKind Expr Expr ArgsKind Kind Step PlainKind Expr Arms Expr Expr Operand Expr Expr Expr Operand Expr Operand Expr Operand Expr Expr Args Expr NamedArg Expr Suffix Length PlainForm TypeForm)

unfoldable pub plain_and : AndNode → Expr
plain_and = by_steps (fold-And Expr Expr ArgsKind Kind Step PlainKind Expr Arms Expr Expr Operand Expr Expr Expr Operand Expr Operand Expr Operand Expr Expr Args Expr NamedArg Expr Suffix Length PlainForm TypeForm)

unfoldable pub plain_arms : ArmsNode → Arms
plain_arms = by_steps (fold-Arms Expr Expr ArgsKind Kind Step PlainKind Expr Arms Expr Expr Operand Expr Expr Expr Operand Expr Operand Expr Operand Expr Expr Args Expr NamedArg Expr Suffix Length PlainForm TypeForm)

unfoldable pub plain_expr : ExprNode → Expr
plain_expr = by_steps (fold-Expr Expr Expr ArgsKind Kind Step PlainKind Expr Arms Expr Expr Operand Expr Expr Expr Operand Expr Operand Expr Operand Expr Expr Args Expr NamedArg Expr Suffix Length PlainForm TypeForm)

unfoldable pub plain_less : LessNode → Expr
plain_less = by_steps (fold-Less Expr Expr ArgsKind Kind Step PlainKind Expr Arms Expr Expr Operand Expr Expr Expr Operand Expr Operand Expr Operand Expr Expr Args Expr NamedArg Expr Suffix Length PlainForm TypeForm)

unfoldable pub plain_less_rest : LessRestNode → Operand
plain_less_rest = by_steps (fold-LessRest Expr Expr ArgsKind Kind Step PlainKind Expr Arms Expr Expr Operand Expr Expr Expr Operand Expr Operand Expr Operand Expr Expr Args Expr NamedArg Expr Suffix Length PlainForm TypeForm)

unfoldable pub plain_or : OrNode → Expr
plain_or = by_steps (fold-Or Expr Expr ArgsKind Kind Step PlainKind Expr Arms Expr Expr Operand Expr Expr Expr Operand Expr Operand Expr Operand Expr Expr Args Expr NamedArg Expr Suffix Length PlainForm TypeForm)

unfoldable pub plain_power : PowerNode → Expr
plain_power = by_steps (fold-Power Expr Expr ArgsKind Kind Step PlainKind Expr Arms Expr Expr Operand Expr Expr Expr Operand Expr Operand Expr Operand Expr Expr Args Expr NamedArg Expr Suffix Length PlainForm TypeForm)

unfoldable pub plain_prod : ProdNode → Expr
plain_prod = by_steps (fold-Prod Expr Expr ArgsKind Kind Step PlainKind Expr Arms Expr Expr Operand Expr Expr Expr Operand Expr Operand Expr Operand Expr Expr Args Expr NamedArg Expr Suffix Length PlainForm TypeForm)

unfoldable pub plain_prod_rest : ProdRestNode → Operand
plain_prod_rest = by_steps (fold-ProdRest Expr Expr ArgsKind Kind Step PlainKind Expr Arms Expr Expr Operand Expr Expr Expr Operand Expr Operand Expr Operand Expr Expr Args Expr NamedArg Expr Suffix Length PlainForm TypeForm)

unfoldable pub plain_same : SameNode → Expr
plain_same = by_steps (fold-Same Expr Expr ArgsKind Kind Step PlainKind Expr Arms Expr Expr Operand Expr Expr Expr Operand Expr Operand Expr Operand Expr Expr Args Expr NamedArg Expr Suffix Length PlainForm TypeForm)

unfoldable pub plain_same_rest : SameRestNode → Operand
plain_same_rest = by_steps (fold-SameRest Expr Expr ArgsKind Kind Step PlainKind Expr Arms Expr Expr Operand Expr Expr Expr Operand Expr Operand Expr Operand Expr Expr Args Expr NamedArg Expr Suffix Length PlainForm TypeForm)

unfoldable pub plain_sum : SumNode → Expr
plain_sum = by_steps (fold-Sum Expr Expr ArgsKind Kind Step PlainKind Expr Arms Expr Expr Operand Expr Expr Expr Operand Expr Operand Expr Operand Expr Expr Args Expr NamedArg Expr Suffix Length PlainForm TypeForm)

unfoldable pub plain_sum_rest : SumRestNode → Operand
plain_sum_rest = by_steps (fold-SumRest Expr Expr ArgsKind Kind Step PlainKind Expr Arms Expr Expr Operand Expr Expr Expr Operand Expr Operand Expr Operand Expr Expr Args Expr NamedArg Expr Suffix Length PlainForm TypeForm)

unfoldable pub plain_term : TermNode → Expr
plain_term = by_steps (fold-Term Expr Expr ArgsKind Kind Step PlainKind Expr Arms Expr Expr Operand Expr Expr Expr Operand Expr Operand Expr Operand Expr Expr Args Expr NamedArg Expr Suffix Length PlainForm TypeForm)

unfoldable pub plain_unary : UnaryNode → Expr
plain_unary = by_steps (fold-Unary Expr Expr ArgsKind Kind Step PlainKind Expr Arms Expr Expr Operand Expr Expr Expr Operand Expr Operand Expr Operand Expr Expr Args Expr NamedArg Expr Suffix Length PlainForm TypeForm)

unfoldable pub plain_args : ArgsNode → Args
plain_args = by_steps (fold-Args Expr Expr ArgsKind Kind Step PlainKind Expr Arms Expr Expr Operand Expr Expr Expr Operand Expr Operand Expr Operand Expr Expr Args Expr NamedArg Expr Suffix Length PlainForm TypeForm)

unfoldable pub plain_atom : AtomNode → Expr
plain_atom = by_steps (fold-Atom Expr Expr ArgsKind Kind Step PlainKind Expr Arms Expr Expr Operand Expr Expr Expr Operand Expr Operand Expr Operand Expr Expr Args Expr NamedArg Expr Suffix Length PlainForm TypeForm)

unfoldable pub plain_named_arg : NamedArgNode → NamedArg
plain_named_arg = by_steps (fold-NamedArg Expr Expr ArgsKind Kind Step PlainKind Expr Arms Expr Expr Operand Expr Expr Expr Operand Expr Operand Expr Operand Expr Expr Args Expr NamedArg Expr Suffix Length PlainForm TypeForm)

unfoldable pub plain_post : PostNode → Expr
plain_post = by_steps (fold-Post Expr Expr ArgsKind Kind Step PlainKind Expr Arms Expr Expr Operand Expr Expr Expr Operand Expr Operand Expr Operand Expr Expr Args Expr NamedArg Expr Suffix Length PlainForm TypeForm)

unfoldable pub plain_suffix : SuffixNode → Suffix
plain_suffix = by_steps (fold-Suffix Expr Expr ArgsKind Kind Step PlainKind Expr Arms Expr Expr Operand Expr Expr Expr Operand Expr Operand Expr Operand Expr Expr Args Expr NamedArg Expr Suffix Length PlainForm TypeForm)

unfoldable pub plain_dimension : DimensionNode → Length
plain_dimension = by_steps (fold-Dimension Expr Expr ArgsKind Kind Step PlainKind Expr Arms Expr Expr Operand Expr Expr Expr Operand Expr Operand Expr Operand Expr Expr Args Expr NamedArg Expr Suffix Length PlainForm TypeForm)

unfoldable pub plain_plain : PlainNode → PlainForm
plain_plain = by_steps (fold-Plain Expr Expr ArgsKind Kind Step PlainKind Expr Arms Expr Expr Operand Expr Expr Expr Operand Expr Operand Expr Operand Expr Expr Args Expr NamedArg Expr Suffix Length PlainForm TypeForm)

unfoldable pub plain_type_expr : TypeExprNode → TypeForm
plain_type_expr = by_steps (fold-TypeExpr Expr Expr ArgsKind Kind Step PlainKind Expr Arms Expr Expr Operand Expr Expr Expr Operand Expr Operand Expr Operand Expr Expr Args Expr NamedArg Expr Suffix Length PlainForm TypeForm)
