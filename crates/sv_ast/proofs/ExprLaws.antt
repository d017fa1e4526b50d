-- The tree of a node of an expression or a type that is made of its parts.
use Rattle.std.proofs.Common.{◌≡◌, ℕ, Bool, List, map, Option, Some, None, sym, ap, ◌∙◌}
use Rattle.sv_text.specs.declared.span.Span.{Span}
use Rattle.sv_text.specs.declared.place.Place.{Place}
use Rattle.sv_grammar.specs.Grammar.{Tree, unit, name, pair, node}
use Rattle.sv_grammar.specs.ListTrees.{list_tree}
use Rattle.sv_ast.specs.Trees.{extent, ◌⊗◌, nth, last, optional, optional_word, optional_commas}
use Rattle.sv_ast.specs.declared.expr.SameOp.{SameOp}
use Rattle.sv_ast.specs.declared.expr.LessOp.{LessOp}
use Rattle.sv_ast.specs.declared.expr.SumOp.{SumOp}
use Rattle.sv_ast.specs.declared.expr.ProdOp.{ProdOp}
use Rattle.sv_ast.specs.declared.expr.UnaryOp.{UnaryOp}
use Rattle.sv_ast.specs.declared.post.Unit10.{Unit10}
use Rattle.sv_ast.specs.declared.expr.Expr.{Expr, roll-Expr}
use Rattle.sv_ast.specs.declared.expr.Arms.{Arms, roll-Arms}
use Rattle.sv_ast.specs.declared.expr.Or.{Or, roll-Or}
use Rattle.sv_ast.specs.declared.expr.And.{And, roll-And}
use Rattle.sv_ast.specs.declared.expr.Same.{Same, roll-Same}
use Rattle.sv_ast.specs.declared.expr.SameRest.{SameRest, roll-SameRest}
use Rattle.sv_ast.specs.declared.expr.Less.{Less, roll-Less}
use Rattle.sv_ast.specs.declared.expr.LessRest.{LessRest, roll-LessRest}
use Rattle.sv_ast.specs.declared.expr.Sum.{Sum, roll-Sum}
use Rattle.sv_ast.specs.declared.expr.SumRest.{SumRest, roll-SumRest}
use Rattle.sv_ast.specs.declared.expr.Prod.{Prod, roll-Prod}
use Rattle.sv_ast.specs.declared.expr.ProdRest.{ProdRest, roll-ProdRest}
use Rattle.sv_ast.specs.declared.expr.Term.{Term, roll-Term}
use Rattle.sv_ast.specs.declared.expr.Unary.{Unary, roll-Unary}
use Rattle.sv_ast.specs.declared.expr.Power.{Power, roll-Power}
use Rattle.sv_ast.specs.declared.post.Post.{Post, roll-Post}
use Rattle.sv_ast.specs.declared.post.Suffix.{Suffix, roll-Suffix}
use Rattle.sv_ast.specs.declared.post.Atom.{Atom, roll-Atom}
use Rattle.sv_ast.specs.declared.post.Args.{Args, roll-Args}
use Rattle.sv_ast.specs.declared.post.NamedArg.{NamedArg, roll-NamedArg}
use Rattle.sv_ast.specs.declared.types.TypeExpr.{TypeExpr, roll-TypeExpr}
use Rattle.sv_ast.specs.declared.types.Dimension.{Dimension, roll-Dimension}
use Rattle.sv_ast.specs.declared.types.Plain.{Plain, roll-Plain}
use Rattle.sv_ast.specs.declared.expr.TermKind.{TermKind}
use Rattle.sv_ast.specs.declared.expr.TermKind.TheVariants as term_kinds
use Rattle.sv_ast.specs.declared.expr.UnaryOperand.{UnaryOperand}
use Rattle.sv_ast.specs.declared.expr.UnaryOperand.TheVariants as operands
use Rattle.sv_ast.specs.declared.post.SuffixKind.{SuffixKind}
use Rattle.sv_ast.specs.declared.post.SuffixKind.TheVariants as suffix_kinds
use Rattle.sv_ast.specs.declared.post.AtomKind.{AtomKind}
use Rattle.sv_ast.specs.declared.post.AtomKind.TheVariants as atom_kinds
use Rattle.sv_ast.specs.declared.post.ArgsKind.{ArgsKind}
use Rattle.sv_ast.specs.declared.post.ArgsKind.TheVariants as args_kinds
use Rattle.sv_ast.specs.declared.types.PlainKind.{PlainKind}
use Rattle.sv_ast.specs.declared.types.PlainKind.TheVariants as plain_kinds
use Rattle.sv_ast.specs.declared.expr.TermKind.TheOpen.{TermKind-F, UnaryOperand-F, ArgsKind-F, AtomKind-F, SuffixKind-F, PlainKind-F, And-F, Arms-F, Expr-F, Less-F, LessRest-F, Or-F, Power-F, Prod-F, ProdRest-F, Same-F, SameRest-F, Sum-F, SumRest-F, Term-F, Unary-F, Args-F, Atom-F, NamedArg-F, Post-F, Suffix-F, Dimension-F, Plain-F, TypeExpr-F}
use Rattle.sv_ast.specs.declared.expr.TermKind.TheFolds.{fold-roll-TermKind, fold-roll-UnaryOperand, fold-roll-ArgsKind, fold-roll-AtomKind, fold-roll-SuffixKind, fold-roll-PlainKind, fold-roll-And, fold-roll-Arms, fold-roll-Expr, fold-roll-Less, fold-roll-LessRest, fold-roll-Or, fold-roll-Power, fold-roll-Prod, fold-roll-ProdRest, fold-roll-Same, fold-roll-SameRest, fold-roll-Sum, fold-roll-SumRest, fold-roll-Term, fold-roll-Unary, fold-roll-Args, fold-roll-Atom, fold-roll-NamedArg, fold-roll-Post, fold-roll-Suffix, fold-roll-Dimension, fold-roll-Plain, fold-roll-TypeExpr}
use Rattle.sv_ast.specs.ExprTrees.{Of, term_kind_step, unary_operand_step, args_kind_step, atom_kind_step, suffix_kind_step, plain_kind_step, and_step, arms_step, expr_step, less_step, less_rest_step, or_step, power_step, prod_step, prod_rest_step, same_step, same_rest_step, sum_step, sum_rest_step, term_step, unary_step, args_step, atom_step, named_arg_step, post_step, suffix_step, dimension_step, plain_step, type_step, same_op_tree, less_op_tree, sum_op_tree, prod_op_tree, unary_op_tree, unit10_tree, atom_and_suffixes, expr_tree, arms_tree, or_tree, and_tree, same_tree, same_rest_tree, less_tree, less_rest_tree, sum_tree, sum_rest_tree, prod_tree, prod_rest_tree, term_tree, unary_tree, power_tree, post_tree, suffix_tree, atom_tree, args_tree, named_arg_tree, type_tree, dimension_tree, plain_tree, term_kind_tree, unary_operand_tree, suffix_kind_tree, atom_kind_tree, args_kind_tree, plain_kind_tree}

-- what holds of any steps, of those by which the trees are made
with_steps :
    {R :
    (Of TermKind-F → Tree) →
    (Of UnaryOperand-F → Tree) →
    (Of ArgsKind-F → Tree) →
    (Of AtomKind-F → Tree) →
    (Of SuffixKind-F → Tree) →
    (Of PlainKind-F → Tree) →
    (Of And-F → Tree) →
    (Of Arms-F → Tree) →
    (Of Expr-F → Tree) →
    (Of Less-F → Tree) →
    (Of LessRest-F → Tree) →
    (Of Or-F → Tree) →
    (Of Power-F → Tree) →
    (Of Prod-F → Tree) →
    (Of ProdRest-F → Tree) →
    (Of Same-F → Tree) →
    (Of SameRest-F → Tree) →
    (Of Sum-F → Tree) →
    (Of SumRest-F → Tree) →
    (Of Term-F → Tree) →
    (Of Unary-F → Tree) →
    (Of Args-F → Tree) →
    (Of Atom-F → Tree) →
    (Of NamedArg-F → Tree) →
    (Of Post-F → Tree) →
    (Of Suffix-F → Tree) →
    (Of Dimension-F → Tree) →
    (Of Plain-F → Tree) →
    (Of TypeExpr-F → Tree) →
    Type 0} →
    (
    (term_kind : Of TermKind-F → Tree) →
    (unary_operand : Of UnaryOperand-F → Tree) →
    (args_kind : Of ArgsKind-F → Tree) →
    (atom_kind : Of AtomKind-F → Tree) →
    (suffix_kind : Of SuffixKind-F → Tree) →
    (plain_kind : Of PlainKind-F → Tree) →
    (and : Of And-F → Tree) →
    (arms : Of Arms-F → Tree) →
    (expr : Of Expr-F → Tree) →
    (less : Of Less-F → Tree) →
    (less_rest : Of LessRest-F → Tree) →
    (or : Of Or-F → Tree) →
    (power : Of Power-F → Tree) →
    (prod : Of Prod-F → Tree) →
    (prod_rest : Of ProdRest-F → Tree) →
    (same : Of Same-F → Tree) →
    (same_rest : Of SameRest-F → Tree) →
    (sum : Of Sum-F → Tree) →
    (sum_rest : Of SumRest-F → Tree) →
    (term : Of Term-F → Tree) →
    (unary : Of Unary-F → Tree) →
    (args : Of Args-F → Tree) →
    (atom : Of Atom-F → Tree) →
    (named_arg : Of NamedArg-F → Tree) →
    (post : Of Post-F → Tree) →
    (suffix : Of Suffix-F → Tree) →
    (dimension : Of Dimension-F → Tree) →
    (plain : Of Plain-F → Tree) →
    (type : Of TypeExpr-F → Tree) →
    R term_kind unary_operand args_kind atom_kind suffix_kind plain_kind and arms expr less less_rest or power prod prod_rest same same_rest sum sum_rest term unary args atom named_arg post suffix dimension plain type) →
    R term_kind_step unary_operand_step args_kind_step atom_kind_step suffix_kind_step plain_kind_step and_step arms_step expr_step less_step less_rest_step or_step power_step prod_step prod_rest_step same_step same_rest_step sum_step sum_rest_step term_step unary_step args_step atom_step named_arg_step post_step suffix_step dimension_step plain_step type_step
with_steps f = f term_kind_step unary_operand_step args_kind_step atom_kind_step suffix_kind_step plain_kind_step and_step arms_step expr_step less_step less_rest_step or_step power_step prod_step prod_rest_step same_step same_rest_step sum_step sum_rest_step term_step unary_step args_step atom_step named_arg_step post_step suffix_step dimension_step plain_step type_step

pub expr_is : (first : Or) (arms : Option Arms) (span : Span) (place : Place) → expr_tree (roll-Expr (record { first = first; arms = arms; span = span; place = place })) ≡ node (extent span place) (or_tree first ⊗ optional arms_tree arms)
unfolding expr_tree arms_tree or_tree
expr_is first None span place = with_steps (fold-roll-Expr Tree Tree Tree Tree Tree Tree Tree Tree Tree Tree Tree Tree Tree Tree Tree Tree Tree Tree Tree Tree Tree Tree Tree Tree Tree Tree Tree Tree Tree) (record { first = first; arms = None; span = span; place = place })
expr_is first (Some some_arms) span place = with_steps (fold-roll-Expr Tree Tree Tree Tree Tree Tree Tree Tree Tree Tree Tree Tree Tree Tree Tree Tree Tree Tree Tree Tree Tree Tree Tree Tree Tree Tree Tree Tree Tree) (record { first = first; arms = Some some_arms; span = span; place = place })

pub arms_is : (if_true : Expr) (if_false : Expr) → arms_tree (roll-Arms (record { if_true = if_true; if_false = if_false })) ≡ unit ⊗ expr_tree if_true ⊗ unit ⊗ expr_tree if_false
unfolding arms_tree expr_tree
arms_is if_true if_false = with_steps (fold-roll-Arms Tree Tree Tree Tree Tree Tree Tree Tree Tree Tree Tree Tree Tree Tree Tree Tree Tree Tree Tree Tree Tree Tree Tree Tree Tree Tree Tree Tree Tree) (record { if_true = if_true; if_false = if_false })

pub or_is : (first : And) (rest : List And) (span : Span) (place : Place) → or_tree (roll-Or (record { first = first; rest = rest; span = span; place = place })) ≡ node (extent span place) (and_tree first ⊗ list_tree (map (pair unit) (map and_tree rest)))
unfolding or_tree and_tree
or_is first rest span place = with_steps (fold-roll-Or Tree Tree Tree Tree Tree Tree Tree Tree Tree Tree Tree Tree Tree Tree Tree Tree Tree Tree Tree Tree Tree Tree Tree Tree Tree Tree Tree Tree Tree) (record { first = first; rest = rest; span = span; place = place })

pub and_is : (first : Same) (rest : List Same) (span : Span) (place : Place) → and_tree (roll-And (record { first = first; rest = rest; span = span; place = place })) ≡ node (extent span place) (same_tree first ⊗ list_tree (map (pair unit) (map same_tree rest)))
unfolding and_tree same_tree
and_is first rest span place = with_steps (fold-roll-And Tree Tree Tree Tree Tree Tree Tree Tree Tree Tree Tree Tree Tree Tree Tree Tree Tree Tree Tree Tree Tree Tree Tree Tree Tree Tree Tree Tree Tree) (record { first = first; rest = rest; span = span; place = place })

pub same_is : (first : Less) (rest : List SameRest) (span : Span) (place : Place) → same_tree (roll-Same (record { first = first; rest = rest; span = span; place = place })) ≡ node (extent span place) (less_tree first ⊗ list_tree (map same_rest_tree rest))
unfolding same_tree less_tree same_rest_tree
same_is first rest span place = with_steps (fold-roll-Same Tree Tree Tree Tree Tree Tree Tree Tree Tree Tree Tree Tree Tree Tree Tree Tree Tree Tree Tree Tree Tree Tree Tree Tree Tree Tree Tree Tree Tree) (record { first = first; rest = rest; span = span; place = place })

pub same_rest_is : (op : SameOp) (operand : Less) → same_rest_tree (roll-SameRest (record { op = op; operand = operand })) ≡ same_op_tree op ⊗ less_tree operand
unfolding same_rest_tree less_tree
same_rest_is op operand = with_steps (fold-roll-SameRest Tree Tree Tree Tree Tree Tree Tree Tree Tree Tree Tree Tree Tree Tree Tree Tree Tree Tree Tree Tree Tree Tree Tree Tree Tree Tree Tree Tree Tree) (record { op = op; operand = operand })

pub less_is : (first : Sum) (rest : List LessRest) (span : Span) (place : Place) → less_tree (roll-Less (record { first = first; rest = rest; span = span; place = place })) ≡ node (extent span place) (sum_tree first ⊗ list_tree (map less_rest_tree rest))
unfolding less_tree less_rest_tree sum_tree
less_is first rest span place = with_steps (fold-roll-Less Tree Tree Tree Tree Tree Tree Tree Tree Tree Tree Tree Tree Tree Tree Tree Tree Tree Tree Tree Tree Tree Tree Tree Tree Tree Tree Tree Tree Tree) (record { first = first; rest = rest; span = span; place = place })

pub less_rest_is : (op : LessOp) (operand : Sum) → less_rest_tree (roll-LessRest (record { op = op; operand = operand })) ≡ less_op_tree op ⊗ sum_tree operand
unfolding less_rest_tree sum_tree
less_rest_is op operand = with_steps (fold-roll-LessRest Tree Tree Tree Tree Tree Tree Tree Tree Tree Tree Tree Tree Tree Tree Tree Tree Tree Tree Tree Tree Tree Tree Tree Tree Tree Tree Tree Tree Tree) (record { op = op; operand = operand })

pub sum_is : (first : Prod) (rest : List SumRest) (span : Span) (place : Place) → sum_tree (roll-Sum (record { first = first; rest = rest; span = span; place = place })) ≡ node (extent span place) (prod_tree first ⊗ list_tree (map sum_rest_tree rest))
unfolding sum_tree prod_tree sum_rest_tree
sum_is first rest span place = with_steps (fold-roll-Sum Tree Tree Tree Tree Tree Tree Tree Tree Tree Tree Tree Tree Tree Tree Tree Tree Tree Tree Tree Tree Tree Tree Tree Tree Tree Tree Tree Tree Tree) (record { first = first; rest = rest; span = span; place = place })

pub sum_rest_is : (op : SumOp) (operand : Prod) → sum_rest_tree (roll-SumRest (record { op = op; operand = operand })) ≡ sum_op_tree op ⊗ prod_tree operand
unfolding sum_rest_tree prod_tree
sum_rest_is op operand = with_steps (fold-roll-SumRest Tree Tree Tree Tree Tree Tree Tree Tree Tree Tree Tree Tree Tree Tree Tree Tree Tree Tree Tree Tree Tree Tree Tree Tree Tree Tree Tree Tree Tree) (record { op = op; operand = operand })

pub prod_is : (first : Term) (rest : List ProdRest) (span : Span) (place : Place) → prod_tree (roll-Prod (record { first = first; rest = rest; span = span; place = place })) ≡ node (extent span place) (term_tree first ⊗ list_tree (map prod_rest_tree rest))
unfolding prod_tree prod_rest_tree term_tree
prod_is first rest span place = with_steps (fold-roll-Prod Tree Tree Tree Tree Tree Tree Tree Tree Tree Tree Tree Tree Tree Tree Tree Tree Tree Tree Tree Tree Tree Tree Tree Tree Tree Tree Tree Tree Tree) (record { first = first; rest = rest; span = span; place = place })

pub prod_rest_is : (op : ProdOp) (operand : Term) → prod_rest_tree (roll-ProdRest (record { op = op; operand = operand })) ≡ prod_op_tree op ⊗ term_tree operand
unfolding prod_rest_tree term_tree
prod_rest_is op operand = with_steps (fold-roll-ProdRest Tree Tree Tree Tree Tree Tree Tree Tree Tree Tree Tree Tree Tree Tree Tree Tree Tree Tree Tree Tree Tree Tree Tree Tree Tree Tree Tree Tree Tree) (record { op = op; operand = operand })

pub term_is : (kind : TermKind) (span : Span) (place : Place) → term_tree (roll-Term (record { kind = kind; span = span; place = place })) ≡ node (extent span place) (term_kind_tree kind)
unfolding term_tree term_kind_tree
term_is kind span place = with_steps (fold-roll-Term Tree Tree Tree Tree Tree Tree Tree Tree Tree Tree Tree Tree Tree Tree Tree Tree Tree Tree Tree Tree Tree Tree Tree Tree Tree Tree Tree Tree Tree) (record { kind = kind; span = span; place = place })

pub unary_is : (op : UnaryOp) (operand : UnaryOperand) (span : Span) (place : Place) → unary_tree (roll-Unary (record { op = op; operand = operand; span = span; place = place })) ≡ node (extent span place) (unary_op_tree op ⊗ unary_operand_tree operand)
unfolding unary_tree unary_operand_tree
unary_is op operand span place = with_steps (fold-roll-Unary Tree Tree Tree Tree Tree Tree Tree Tree Tree Tree Tree Tree Tree Tree Tree Tree Tree Tree Tree Tree Tree Tree Tree Tree Tree Tree Tree Tree Tree) (record { op = op; operand = operand; span = span; place = place })

pub power_is : (base : Post) (exponent : Option Power) (span : Span) (place : Place) → power_tree (roll-Power (record { base = base; exponent = exponent; span = span; place = place })) ≡ node (extent span place) (post_tree base ⊗ optional (λ e. unit ⊗ power_tree e) exponent)
unfolding power_tree post_tree
power_is base None span place = with_steps (fold-roll-Power Tree Tree Tree Tree Tree Tree Tree Tree Tree Tree Tree Tree Tree Tree Tree Tree Tree Tree Tree Tree Tree Tree Tree Tree Tree Tree Tree Tree Tree) (record { base = base; exponent = None; span = span; place = place })
power_is base (Some some_exponent) span place = with_steps (fold-roll-Power Tree Tree Tree Tree Tree Tree Tree Tree Tree Tree Tree Tree Tree Tree Tree Tree Tree Tree Tree Tree Tree Tree Tree Tree Tree Tree Tree Tree Tree) (record { base = base; exponent = Some some_exponent; span = span; place = place })

pub post_is : (atom : Atom) (suffixes : List Suffix) (span : Span) (place : Place) → post_tree (roll-Post (record { atom = atom; suffixes = suffixes; span = span; place = place })) ≡ node (extent span place) (atom_and_suffixes (atom_tree atom) (map suffix_tree suffixes))
unfolding post_tree atom_tree suffix_tree
post_is atom suffixes span place = with_steps (fold-roll-Post Tree Tree Tree Tree Tree Tree Tree Tree Tree Tree Tree Tree Tree Tree Tree Tree Tree Tree Tree Tree Tree Tree Tree Tree Tree Tree Tree Tree Tree) (record { atom = atom; suffixes = suffixes; span = span; place = place })

pub suffix_is : (kind : SuffixKind) (span : Span) (place : Place) → suffix_tree (roll-Suffix (record { kind = kind; span = span; place = place })) ≡ node (extent span place) (suffix_kind_tree kind)
unfolding suffix_tree suffix_kind_tree
suffix_is kind span place = with_steps (fold-roll-Suffix Tree Tree Tree Tree Tree Tree Tree Tree Tree Tree Tree Tree Tree Tree Tree Tree Tree Tree Tree Tree Tree Tree Tree Tree Tree Tree Tree Tree Tree) (record { kind = kind; span = span; place = place })

pub atom_is : (kind : AtomKind) (span : Span) (place : Place) → atom_tree (roll-Atom (record { kind = kind; span = span; place = place })) ≡ node (extent span place) (atom_kind_tree kind)
unfolding atom_tree atom_kind_tree
atom_is kind span place = with_steps (fold-roll-Atom Tree Tree Tree Tree Tree Tree Tree Tree Tree Tree Tree Tree Tree Tree Tree Tree Tree Tree Tree Tree Tree Tree Tree Tree Tree Tree Tree Tree Tree) (record { kind = kind; span = span; place = place })

pub args_is : (kind : ArgsKind) (span : Span) (place : Place) → args_tree (roll-Args (record { kind = kind; span = span; place = place })) ≡ node (extent span place) (unit ⊗ args_kind_tree kind)
unfolding args_tree args_kind_tree
args_is kind span place = with_steps (fold-roll-Args Tree Tree Tree Tree Tree Tree Tree Tree Tree Tree Tree Tree Tree Tree Tree Tree Tree Tree Tree Tree Tree Tree Tree Tree Tree Tree Tree Tree Tree) (record { kind = kind; span = span; place = place })

pub named_arg_is : (n : ℕ) (value : Expr) → named_arg_tree (roll-NamedArg (record { name = n; value = value })) ≡ name n ⊗ unit ⊗ expr_tree value
unfolding named_arg_tree expr_tree
named_arg_is n value = with_steps (fold-roll-NamedArg Tree Tree Tree Tree Tree Tree Tree Tree Tree Tree Tree Tree Tree Tree Tree Tree Tree Tree Tree Tree Tree Tree Tree Tree Tree Tree Tree Tree Tree) (record { name = n; value = value })

pub type_is : (plain : Plain) (dimensions : List Dimension) (span : Span) (place : Place) → type_tree (roll-TypeExpr (record { plain = plain; dimensions = dimensions; span = span; place = place })) ≡ node (extent span place) (plain_tree plain ⊗ list_tree (map dimension_tree dimensions))
unfolding type_tree dimension_tree plain_tree
type_is plain dimensions span place = with_steps (fold-roll-TypeExpr Tree Tree Tree Tree Tree Tree Tree Tree Tree Tree Tree Tree Tree Tree Tree Tree Tree Tree Tree Tree Tree Tree Tree Tree Tree Tree Tree Tree Tree) (record { plain = plain; dimensions = dimensions; span = span; place = place })

pub dimension_is : (length : Option Expr) → dimension_tree (roll-Dimension (record { length = length })) ≡ unit ⊗ optional expr_tree length ⊗ unit
unfolding dimension_tree expr_tree
dimension_is None = with_steps (fold-roll-Dimension Tree Tree Tree Tree Tree Tree Tree Tree Tree Tree Tree Tree Tree Tree Tree Tree Tree Tree Tree Tree Tree Tree Tree Tree Tree Tree Tree Tree Tree) (record { length = None })
dimension_is (Some some_length) = with_steps (fold-roll-Dimension Tree Tree Tree Tree Tree Tree Tree Tree Tree Tree Tree Tree Tree Tree Tree Tree Tree Tree Tree Tree Tree Tree Tree Tree Tree Tree Tree Tree Tree) (record { length = Some some_length })

pub plain_is : (kind : PlainKind) (span : Span) (place : Place) → plain_tree (roll-Plain (record { kind = kind; span = span; place = place })) ≡ node (extent span place) (plain_kind_tree kind)
unfolding plain_tree plain_kind_tree
plain_is kind span place = with_steps (fold-roll-Plain Tree Tree Tree Tree Tree Tree Tree Tree Tree Tree Tree Tree Tree Tree Tree Tree Tree Tree Tree Tree Tree Tree Tree Tree Tree Tree Tree Tree Tree) (record { kind = kind; span = span; place = place })

pub term_unary_is : (e : Unary) → term_kind_tree (term_kinds.Unary e) ≡ nth 0 (unary_tree e)
unfolding term_kind_tree unary_tree
term_unary_is e = ap term_kind_tree (sym (term_kinds.rolls-Unary e)) ∙ with_steps (fold-roll-TermKind Tree Tree Tree Tree Tree Tree Tree Tree Tree Tree Tree Tree Tree Tree Tree Tree Tree Tree Tree Tree Tree Tree Tree Tree Tree Tree Tree Tree Tree) (TermKind-F.TermKind::Unary e)

pub term_power_is : (e : Power) → term_kind_tree (term_kinds.Power e) ≡ last 1 (power_tree e)
unfolding term_kind_tree power_tree
term_power_is e = ap term_kind_tree (sym (term_kinds.rolls-Power e)) ∙ with_steps (fold-roll-TermKind Tree Tree Tree Tree Tree Tree Tree Tree Tree Tree Tree Tree Tree Tree Tree Tree Tree Tree Tree Tree Tree Tree Tree Tree Tree Tree Tree Tree Tree) (TermKind-F.Power e)

pub operand_unary_is : (e : Unary) → unary_operand_tree (operands.Unary e) ≡ nth 0 (unary_tree e)
unfolding unary_operand_tree unary_tree
operand_unary_is e = ap unary_operand_tree (sym (operands.rolls-Unary e)) ∙ with_steps (fold-roll-UnaryOperand Tree Tree Tree Tree Tree Tree Tree Tree Tree Tree Tree Tree Tree Tree Tree Tree Tree Tree Tree Tree Tree Tree Tree Tree Tree Tree Tree Tree Tree) (UnaryOperand-F.UnaryOperand::Unary e)

pub operand_post_is : (e : Post) → unary_operand_tree (operands.Post e) ≡ last 1 (post_tree e)
unfolding unary_operand_tree post_tree
operand_post_is e = ap unary_operand_tree (sym (operands.rolls-Post e)) ∙ with_steps (fold-roll-UnaryOperand Tree Tree Tree Tree Tree Tree Tree Tree Tree Tree Tree Tree Tree Tree Tree Tree Tree Tree Tree Tree Tree Tree Tree Tree Tree Tree Tree Tree Tree) (UnaryOperand-F.Post e)

pub suffix_index_is : (e : Expr) → suffix_kind_tree (suffix_kinds.Index e) ≡ nth 0 (unit ⊗ expr_tree e ⊗ unit)
unfolding suffix_kind_tree expr_tree
suffix_index_is e = ap suffix_kind_tree (sym (suffix_kinds.rolls-Index e)) ∙ with_steps (fold-roll-SuffixKind Tree Tree Tree Tree Tree Tree Tree Tree Tree Tree Tree Tree Tree Tree Tree Tree Tree Tree Tree Tree Tree Tree Tree Tree Tree Tree Tree Tree Tree) (SuffixKind-F.Index e)

pub suffix_member_is : (n : ℕ) → suffix_kind_tree (suffix_kinds.Member n) ≡ nth 1 (unit ⊗ name n)
unfolding suffix_kind_tree
suffix_member_is n = ap suffix_kind_tree (sym (suffix_kinds.rolls-Member n)) ∙ with_steps (fold-roll-SuffixKind Tree Tree Tree Tree Tree Tree Tree Tree Tree Tree Tree Tree Tree Tree Tree Tree Tree Tree Tree Tree Tree Tree Tree Tree Tree Tree Tree Tree Tree) (SuffixKind-F.Member n)

pub suffix_call_is : (args : Args) → suffix_kind_tree (suffix_kinds.Call args) ≡ nth 2 (args_tree args)
unfolding suffix_kind_tree args_tree
suffix_call_is args = ap suffix_kind_tree (sym (suffix_kinds.rolls-Call args)) ∙ with_steps (fold-roll-SuffixKind Tree Tree Tree Tree Tree Tree Tree Tree Tree Tree Tree Tree Tree Tree Tree Tree Tree Tree Tree Tree Tree Tree Tree Tree Tree Tree Tree Tree Tree) (SuffixKind-F.Call args)

pub suffix_value_is : (e : Expr) → suffix_kind_tree (suffix_kinds.Value e) ≡ nth 3 (unit ⊗ unit ⊗ unit ⊗ expr_tree e ⊗ unit)
unfolding suffix_kind_tree expr_tree
suffix_value_is e = ap suffix_kind_tree (sym (suffix_kinds.rolls-Value e)) ∙ with_steps (fold-roll-SuffixKind Tree Tree Tree Tree Tree Tree Tree Tree Tree Tree Tree Tree Tree Tree Tree Tree Tree Tree Tree Tree Tree Tree Tree Tree Tree Tree Tree Tree Tree) (SuffixKind-F.Value e)

pub suffix_increment_is : suffix_kind_tree suffix_kinds.Increment ≡ nth 4 unit
unfolding suffix_kind_tree
suffix_increment_is = ap suffix_kind_tree (sym suffix_kinds.rolls-Increment) ∙ with_steps (fold-roll-SuffixKind Tree Tree Tree Tree Tree Tree Tree Tree Tree Tree Tree Tree Tree Tree Tree Tree Tree Tree Tree Tree Tree Tree Tree Tree Tree Tree Tree Tree Tree) SuffixKind-F.Increment

pub suffix_decrement_is : suffix_kind_tree suffix_kinds.Decrement ≡ last 5 unit
unfolding suffix_kind_tree
suffix_decrement_is = ap suffix_kind_tree (sym suffix_kinds.rolls-Decrement) ∙ with_steps (fold-roll-SuffixKind Tree Tree Tree Tree Tree Tree Tree Tree Tree Tree Tree Tree Tree Tree Tree Tree Tree Tree Tree Tree Tree Tree Tree Tree Tree Tree Tree Tree Tree) SuffixKind-F.Decrement

pub atom_number_is : (n : ℕ) (u : Option Unit10) → atom_kind_tree (atom_kinds.Number n u) ≡ nth 0 (name n ⊗ optional unit10_tree u)
unfolding atom_kind_tree
atom_number_is n u = ap atom_kind_tree (sym (atom_kinds.rolls-Number n u)) ∙ with_steps (fold-roll-AtomKind Tree Tree Tree Tree Tree Tree Tree Tree Tree Tree Tree Tree Tree Tree Tree Tree Tree Tree Tree Tree Tree Tree Tree Tree Tree Tree Tree Tree Tree) (AtomKind-F.Number n u)

pub atom_hexadecimal_is : (n : ℕ) → atom_kind_tree (atom_kinds.Hexadecimal n) ≡ nth 1 (name n)
unfolding atom_kind_tree
atom_hexadecimal_is n = ap atom_kind_tree (sym (atom_kinds.rolls-Hexadecimal n)) ∙ with_steps (fold-roll-AtomKind Tree Tree Tree Tree Tree Tree Tree Tree Tree Tree Tree Tree Tree Tree Tree Tree Tree Tree Tree Tree Tree Tree Tree Tree Tree Tree Tree Tree Tree) (AtomKind-F.Hexadecimal n)

pub atom_string_is : (n : ℕ) → atom_kind_tree (atom_kinds.String n) ≡ nth 2 (name n)
unfolding atom_kind_tree
atom_string_is n = ap atom_kind_tree (sym (atom_kinds.rolls-String n)) ∙ with_steps (fold-roll-AtomKind Tree Tree Tree Tree Tree Tree Tree Tree Tree Tree Tree Tree Tree Tree Tree Tree Tree Tree Tree Tree Tree Tree Tree Tree Tree Tree Tree Tree Tree) (AtomKind-F.AtomKind::String n)

pub atom_true_is : atom_kind_tree atom_kinds.True ≡ nth 3 unit
unfolding atom_kind_tree
atom_true_is = ap atom_kind_tree (sym atom_kinds.rolls-True) ∙ with_steps (fold-roll-AtomKind Tree Tree Tree Tree Tree Tree Tree Tree Tree Tree Tree Tree Tree Tree Tree Tree Tree Tree Tree Tree Tree Tree Tree Tree Tree Tree Tree Tree Tree) AtomKind-F.True

pub atom_false_is : atom_kind_tree atom_kinds.False ≡ nth 4 unit
unfolding atom_kind_tree
atom_false_is = ap atom_kind_tree (sym atom_kinds.rolls-False) ∙ with_steps (fold-roll-AtomKind Tree Tree Tree Tree Tree Tree Tree Tree Tree Tree Tree Tree Tree Tree Tree Tree Tree Tree Tree Tree Tree Tree Tree Tree Tree Tree Tree Tree Tree) AtomKind-F.False

pub atom_name_is : (n : ℕ) → atom_kind_tree (atom_kinds.Name n) ≡ nth 5 (name n)
unfolding atom_kind_tree
atom_name_is n = ap atom_kind_tree (sym (atom_kinds.rolls-Name n)) ∙ with_steps (fold-roll-AtomKind Tree Tree Tree Tree Tree Tree Tree Tree Tree Tree Tree Tree Tree Tree Tree Tree Tree Tree Tree Tree Tree Tree Tree Tree Tree Tree Tree Tree Tree) (AtomKind-F.Name n)

pub atom_elementary_is : (n : ℕ) → atom_kind_tree (atom_kinds.Elementary n) ≡ nth 6 (name n)
unfolding atom_kind_tree
atom_elementary_is n = ap atom_kind_tree (sym (atom_kinds.rolls-Elementary n)) ∙ with_steps (fold-roll-AtomKind Tree Tree Tree Tree Tree Tree Tree Tree Tree Tree Tree Tree Tree Tree Tree Tree Tree Tree Tree Tree Tree Tree Tree Tree Tree Tree Tree Tree Tree) (AtomKind-F.AtomKind::Elementary n)

pub atom_address_is : atom_kind_tree atom_kinds.Address ≡ nth 7 unit
unfolding atom_kind_tree
atom_address_is = ap atom_kind_tree (sym atom_kinds.rolls-Address) ∙ with_steps (fold-roll-AtomKind Tree Tree Tree Tree Tree Tree Tree Tree Tree Tree Tree Tree Tree Tree Tree Tree Tree Tree Tree Tree Tree Tree Tree Tree Tree Tree Tree Tree Tree) AtomKind-F.AtomKind::Address

pub atom_payable_is : atom_kind_tree atom_kinds.Payable ≡ nth 8 unit
unfolding atom_kind_tree
atom_payable_is = ap atom_kind_tree (sym atom_kinds.rolls-Payable) ∙ with_steps (fold-roll-AtomKind Tree Tree Tree Tree Tree Tree Tree Tree Tree Tree Tree Tree Tree Tree Tree Tree Tree Tree Tree Tree Tree Tree Tree Tree Tree Tree Tree Tree Tree) AtomKind-F.Payable

pub atom_type_is : (t : TypeExpr) → atom_kind_tree (atom_kinds.«Type» t) ≡ nth 9 (unit ⊗ unit ⊗ type_tree t ⊗ unit)
unfolding atom_kind_tree type_tree
atom_type_is t = ap atom_kind_tree (sym (atom_kinds.rolls-Type t)) ∙ with_steps (fold-roll-AtomKind Tree Tree Tree Tree Tree Tree Tree Tree Tree Tree Tree Tree Tree Tree Tree Tree Tree Tree Tree Tree Tree Tree Tree Tree Tree Tree Tree Tree Tree) (AtomKind-F.«Type» t)

pub atom_new_is : (t : TypeExpr) → atom_kind_tree (atom_kinds.New t) ≡ unit ⊗ type_tree t
unfolding atom_kind_tree type_tree
atom_new_is t = ap atom_kind_tree (sym (atom_kinds.rolls-New t)) ∙ with_steps (fold-roll-AtomKind Tree Tree Tree Tree Tree Tree Tree Tree Tree Tree Tree Tree Tree Tree Tree Tree Tree Tree Tree Tree Tree Tree Tree Tree Tree Tree Tree Tree Tree) (AtomKind-F.New t)

pub atom_super_is : atom_kind_tree atom_kinds.Super ≡ nth 10 unit
unfolding atom_kind_tree
atom_super_is = ap atom_kind_tree (sym atom_kinds.rolls-Super) ∙ with_steps (fold-roll-AtomKind Tree Tree Tree Tree Tree Tree Tree Tree Tree Tree Tree Tree Tree Tree Tree Tree Tree Tree Tree Tree Tree Tree Tree Tree Tree Tree Tree Tree Tree) AtomKind-F.Super

pub atom_this_is : atom_kind_tree atom_kinds.This ≡ nth 11 unit
unfolding atom_kind_tree
atom_this_is = ap atom_kind_tree (sym atom_kinds.rolls-This) ∙ with_steps (fold-roll-AtomKind Tree Tree Tree Tree Tree Tree Tree Tree Tree Tree Tree Tree Tree Tree Tree Tree Tree Tree Tree Tree Tree Tree Tree Tree Tree Tree Tree Tree Tree) AtomKind-F.This

pub atom_paren_is : (e : Expr) → atom_kind_tree (atom_kinds.Paren e) ≡ last 12 (unit ⊗ expr_tree e ⊗ unit)
unfolding atom_kind_tree expr_tree
atom_paren_is e = ap atom_kind_tree (sym (atom_kinds.rolls-Paren e)) ∙ with_steps (fold-roll-AtomKind Tree Tree Tree Tree Tree Tree Tree Tree Tree Tree Tree Tree Tree Tree Tree Tree Tree Tree Tree Tree Tree Tree Tree Tree Tree Tree Tree Tree Tree) (AtomKind-F.Paren e)

pub args_positional_is : (es : List Expr) → args_kind_tree (args_kinds.Positional es) ≡ nth 0 (optional_commas (map expr_tree es) ⊗ unit)
unfolding args_kind_tree expr_tree
args_positional_is es = ap args_kind_tree (sym (args_kinds.rolls-Positional es)) ∙ with_steps (fold-roll-ArgsKind Tree Tree Tree Tree Tree Tree Tree Tree Tree Tree Tree Tree Tree Tree Tree Tree Tree Tree Tree Tree Tree Tree Tree Tree Tree Tree Tree Tree Tree) (ArgsKind-F.Positional es)

pub args_named_is : (es : List NamedArg) → args_kind_tree (args_kinds.Named es) ≡ last 1 (unit ⊗ optional_commas (map named_arg_tree es) ⊗ unit ⊗ unit)
unfolding args_kind_tree named_arg_tree
args_named_is es = ap args_kind_tree (sym (args_kinds.rolls-Named es)) ∙ with_steps (fold-roll-ArgsKind Tree Tree Tree Tree Tree Tree Tree Tree Tree Tree Tree Tree Tree Tree Tree Tree Tree Tree Tree Tree Tree Tree Tree Tree Tree Tree Tree Tree Tree) (ArgsKind-F.ArgsKind::Named es)

pub plain_elementary_is : (n : ℕ) → plain_kind_tree (plain_kinds.Elementary n) ≡ nth 0 (name n)
unfolding plain_kind_tree
plain_elementary_is n = ap plain_kind_tree (sym (plain_kinds.rolls-Elementary n)) ∙ with_steps (fold-roll-PlainKind Tree Tree Tree Tree Tree Tree Tree Tree Tree Tree Tree Tree Tree Tree Tree Tree Tree Tree Tree Tree Tree Tree Tree Tree Tree Tree Tree Tree Tree) (PlainKind-F.PlainKind::Elementary n)

pub plain_address_is : (is_payable : Bool) → plain_kind_tree (plain_kinds.Address is_payable) ≡ nth 1 (unit ⊗ optional_word is_payable)
unfolding plain_kind_tree
plain_address_is is_payable = ap plain_kind_tree (sym (plain_kinds.rolls-Address is_payable)) ∙ with_steps (fold-roll-PlainKind Tree Tree Tree Tree Tree Tree Tree Tree Tree Tree Tree Tree Tree Tree Tree Tree Tree Tree Tree Tree Tree Tree Tree Tree Tree Tree Tree Tree Tree) (PlainKind-F.PlainKind::Address is_payable)

pub plain_string_is : plain_kind_tree plain_kinds.String ≡ nth 2 unit
unfolding plain_kind_tree
plain_string_is = ap plain_kind_tree (sym plain_kinds.rolls-String) ∙ with_steps (fold-roll-PlainKind Tree Tree Tree Tree Tree Tree Tree Tree Tree Tree Tree Tree Tree Tree Tree Tree Tree Tree Tree Tree Tree Tree Tree Tree Tree Tree Tree Tree Tree) PlainKind-F.PlainKind::String

pub plain_named_is : (n : ℕ) (member : Option ℕ) → plain_kind_tree (plain_kinds.Named n member) ≡ nth 3 (name n ⊗ optional (λ m. unit ⊗ name m) member)
unfolding plain_kind_tree
plain_named_is n member = ap plain_kind_tree (sym (plain_kinds.rolls-Named n member)) ∙ with_steps (fold-roll-PlainKind Tree Tree Tree Tree Tree Tree Tree Tree Tree Tree Tree Tree Tree Tree Tree Tree Tree Tree Tree Tree Tree Tree Tree Tree Tree Tree Tree Tree Tree) (PlainKind-F.PlainKind::Named n member)

pub plain_mapping_is : (key : TypeExpr) (key_name : Option ℕ) (value : TypeExpr) (value_name : Option ℕ) → plain_kind_tree (plain_kinds.Mapping key key_name value value_name) ≡ last 4 (unit ⊗ unit ⊗ type_tree key ⊗ optional name key_name ⊗ unit ⊗ type_tree value ⊗ optional name value_name ⊗ unit)
unfolding plain_kind_tree type_tree
plain_mapping_is key key_name value value_name = ap plain_kind_tree (sym (plain_kinds.rolls-Mapping key key_name value value_name)) ∙ with_steps (fold-roll-PlainKind Tree Tree Tree Tree Tree Tree Tree Tree Tree Tree Tree Tree Tree Tree Tree Tree Tree Tree Tree Tree Tree Tree Tree Tree Tree Tree Tree Tree Tree) (PlainKind-F.Mapping key key_name value value_name)

pub ruleset tree_laws = (expr_is, arms_is, or_is, and_is, same_is, same_rest_is, less_is, less_rest_is, sum_is, sum_rest_is, prod_is, prod_rest_is, term_is, unary_is, power_is, post_is, suffix_is, atom_is, args_is, named_arg_is, type_is, dimension_is, plain_is, term_unary_is, term_power_is, operand_unary_is, operand_post_is, suffix_index_is, suffix_member_is, suffix_call_is, suffix_value_is, suffix_increment_is, suffix_decrement_is, atom_number_is, atom_hexadecimal_is, atom_string_is, atom_true_is, atom_false_is, atom_name_is, atom_elementary_is, atom_address_is, atom_payable_is, atom_type_is, atom_new_is, atom_super_is, atom_this_is, atom_paren_is, args_positional_is, args_named_is, plain_elementary_is, plain_address_is, plain_string_is, plain_named_is, plain_mapping_is)
