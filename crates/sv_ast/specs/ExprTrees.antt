-- Believed: the trees of expressions and types. Hold it against the types of `src/expr.rt`, `src/post.rt` and `src/types.rt`, and docs/grammar.md.
use Rattle.std.specs.Prelude.{ℕ, zero, suc, List, [], ◌∷◌, map}
use Rattle.sv_grammar.specs.Grammar.{Extent, Tree, unit, name, pair, left, right, none, some, nil, cons, node}
use Rattle.sv_grammar.specs.ListTrees.{list_tree}
use Rattle.sv_ast.specs.Trees.{extent, ◌⊗◌, nth, last, optional, optional_word, optional_commas}
use Rattle.sv_ast.specs.declared.expr.SameOp.{SameOp}
use Rattle.sv_ast.specs.declared.expr.SameOp.TheVariants as same_ops
use Rattle.sv_ast.specs.declared.expr.LessOp.{LessOp}
use Rattle.sv_ast.specs.declared.expr.LessOp.TheVariants as less_ops
use Rattle.sv_ast.specs.declared.expr.SumOp.{SumOp}
use Rattle.sv_ast.specs.declared.expr.SumOp.TheVariants as sum_ops
use Rattle.sv_ast.specs.declared.expr.ProdOp.{ProdOp}
use Rattle.sv_ast.specs.declared.expr.ProdOp.TheVariants as prod_ops
use Rattle.sv_ast.specs.declared.expr.UnaryOp.{UnaryOp}
use Rattle.sv_ast.specs.declared.expr.UnaryOp.TheVariants as unary_ops
use Rattle.sv_ast.specs.declared.post.Unit10.{Unit10}
use Rattle.sv_ast.specs.declared.post.Unit10Kind.{Unit10Kind}
use Rattle.sv_ast.specs.declared.post.Unit10Kind.TheVariants as units
use Rattle.sv_ast.specs.declared.expr.TermKind.{TermKind}
use Rattle.sv_ast.specs.declared.expr.UnaryOperand.{UnaryOperand}
use Rattle.sv_ast.specs.declared.post.ArgsKind.{ArgsKind}
use Rattle.sv_ast.specs.declared.post.AtomKind.{AtomKind}
use Rattle.sv_ast.specs.declared.post.SuffixKind.{SuffixKind}
use Rattle.sv_ast.specs.declared.types.PlainKind.{PlainKind}
use Rattle.sv_ast.specs.declared.expr.And.{And}
use Rattle.sv_ast.specs.declared.expr.Arms.{Arms}
use Rattle.sv_ast.specs.declared.expr.Expr.{Expr}
use Rattle.sv_ast.specs.declared.expr.Less.{Less}
use Rattle.sv_ast.specs.declared.expr.LessRest.{LessRest}
use Rattle.sv_ast.specs.declared.expr.Or.{Or}
use Rattle.sv_ast.specs.declared.expr.Power.{Power}
use Rattle.sv_ast.specs.declared.expr.Prod.{Prod}
use Rattle.sv_ast.specs.declared.expr.ProdRest.{ProdRest}
use Rattle.sv_ast.specs.declared.expr.Same.{Same}
use Rattle.sv_ast.specs.declared.expr.SameRest.{SameRest}
use Rattle.sv_ast.specs.declared.expr.Sum.{Sum}
use Rattle.sv_ast.specs.declared.expr.SumRest.{SumRest}
use Rattle.sv_ast.specs.declared.expr.Term.{Term}
use Rattle.sv_ast.specs.declared.expr.Unary.{Unary}
use Rattle.sv_ast.specs.declared.post.Args.{Args}
use Rattle.sv_ast.specs.declared.post.Atom.{Atom}
use Rattle.sv_ast.specs.declared.post.NamedArg.{NamedArg}
use Rattle.sv_ast.specs.declared.post.Post.{Post}
use Rattle.sv_ast.specs.declared.post.Suffix.{Suffix}
use Rattle.sv_ast.specs.declared.types.Dimension.{Dimension}
use Rattle.sv_ast.specs.declared.types.Plain.{Plain}
use Rattle.sv_ast.specs.declared.types.TypeExpr.{TypeExpr}
use Rattle.sv_ast.specs.declared.expr.TermKind.TheOpen.{TermKind-F, UnaryOperand-F, ArgsKind-F, AtomKind-F, SuffixKind-F, PlainKind-F, And-F, Arms-F, Expr-F, Less-F, LessRest-F, Or-F, Power-F, Prod-F, ProdRest-F, Same-F, SameRest-F, Sum-F, SumRest-F, Term-F, Unary-F, Args-F, Atom-F, NamedArg-F, Post-F, Suffix-F, Dimension-F, Plain-F, TypeExpr-F}
use Rattle.sv_ast.specs.declared.expr.TermKind.TheFolds.{fold-TermKind, fold-UnaryOperand, fold-ArgsKind, fold-AtomKind, fold-SuffixKind, fold-PlainKind, fold-And, fold-Arms, fold-Expr, fold-Less, fold-LessRest, fold-Or, fold-Power, fold-Prod, fold-ProdRest, fold-Same, fold-SameRest, fold-Sum, fold-SumRest, fold-Term, fold-Unary, fold-Args, fold-Atom, fold-NamedArg, fold-Post, fold-Suffix, fold-Dimension, fold-Plain, fold-TypeExpr}

-- ---- operators and units

abbrev pub same_op_tree : SameOp → Tree
same_op_tree same_ops.Equal = nth 0 unit
same_op_tree same_ops.Unequal = last 1 unit

abbrev pub less_op_tree : LessOp → Tree
less_op_tree less_ops.Less = nth 0 unit
less_op_tree less_ops.Greater = nth 1 unit
less_op_tree less_ops.AtMost = nth 2 unit
less_op_tree less_ops.AtLeast = last 3 unit

abbrev pub sum_op_tree : SumOp → Tree
sum_op_tree sum_ops.Add = nth 0 unit
sum_op_tree sum_ops.Subtract = last 1 unit

abbrev pub prod_op_tree : ProdOp → Tree
prod_op_tree prod_ops.Multiply = nth 0 unit
prod_op_tree prod_ops.Divide = nth 1 unit
prod_op_tree prod_ops.Remainder = last 2 unit

abbrev pub unary_op_tree : UnaryOp → Tree
unary_op_tree unary_ops.Negate = nth 0 unit
unary_op_tree unary_ops.Not = nth 1 unit
unary_op_tree unary_ops.Increment = nth 2 unit
unary_op_tree unary_ops.Decrement = last 3 unit

abbrev pub unit10_kind_tree : Unit10Kind → Tree
unit10_kind_tree units.Wei = nth 0 unit
unit10_kind_tree units.Gwei = nth 1 unit
unit10_kind_tree units.Ether = nth 2 unit
unit10_kind_tree units.Seconds = nth 3 unit
unit10_kind_tree units.Minutes = nth 4 unit
unit10_kind_tree units.Hours = nth 5 unit
unit10_kind_tree units.Days = nth 6 unit
unit10_kind_tree units.Weeks = last 7 unit

abbrev pub unit10_tree : Unit10 → Tree
unit10_tree u = node (extent u.span u.place) (unit10_kind_tree u.kind)

-- ---- what is behind `new`

-- what is behind so many alternatives; what is before them has no tree there
abbrev pub behind : ℕ → Tree → Tree
behind zero t = t
behind (suc n) (right t) = behind n t
behind (suc n) t = unit

abbrev pub suffix_behind : ℕ → Tree → Tree
suffix_behind n (node x t) = node x (behind n t)
suffix_behind n t = unit

-- suffixes, of which the first is none of the first n forms
abbrev pub suffixes_behind : ℕ → List Tree → Tree
suffixes_behind n [] = none
suffixes_behind n (t ∷ ts) = some (suffix_behind n t ⊗ list_tree ts)

-- a type without brackets that is longer than one name
abbrev pub longer_plain_tree : Tree → Tree
longer_plain_tree (right (right (right (left (pair n (some m)))))) = nth 3 (n ⊗ m)
longer_plain_tree t = t

-- `new` with a type and suffixes, from the tree of the type: the type is one name without brackets, or one name with brackets, or another
unfoldable pub new_tree : Extent → Tree → List Tree → Tree
new_tree x (node y (pair (node z (right (right (right (left (pair n none)))))) nil)) ts =
    left (node x (unit ⊗ node y (node z n)) ⊗ suffixes_behind 2 ts)
new_tree x (node y (pair (node z (right (right (right (left (pair n none)))))) (cons b bs))) ts =
    right (node x (unit ⊗ node y (left (node z n ⊗ b ⊗ bs))) ⊗ suffixes_behind 1 ts)
new_tree x (node y (pair (node z t) bs)) ts =
    right (node x (unit ⊗ node y (right (node z (longer_plain_tree t) ⊗ bs))) ⊗ suffixes_behind 1 ts)
new_tree x t ts = unit

-- an atom with suffixes, from the tree of the atom, which is `new` with a type or another
unfoldable pub atom_and_suffixes : Tree → List Tree → Tree
atom_and_suffixes (node x (pair unit t)) ts = right (new_tree x t ts)
atom_and_suffixes t ts = left (t ⊗ list_tree ts)

-- ---- each node, from the trees of its parts

-- a node with trees in place of its parts is an `Of Expr-F`, an `Of Arms-F` and so on
abbrev pub Of : (Type 0 → Type 0 → Type 0 → Type 0 → Type 0 → Type 0 → Type 0 → Type 0 → Type 0 → Type 0 → Type 0 → Type 0 → Type 0 → Type 0 → Type 0 → Type 0 → Type 0 → Type 0 → Type 0 → Type 0 → Type 0 → Type 0 → Type 0 → Type 0 → Type 0 → Type 0 → Type 0 → Type 0 → Type 0 → Type 0) → Type 0
Of F = F Tree Tree Tree Tree Tree Tree Tree Tree Tree Tree Tree Tree Tree Tree Tree Tree Tree Tree Tree Tree Tree Tree Tree Tree Tree Tree Tree Tree Tree

abbrev pub expr_step : Of Expr-F → Tree
expr_step e = node (extent e.span e.place) (e.first ⊗ optional (λ t. t) e.arms)

-- `? if_true : if_false`
abbrev pub arms_step : Of Arms-F → Tree
arms_step a = unit ⊗ a.if_true ⊗ unit ⊗ a.if_false

abbrev pub or_step : Of Or-F → Tree
or_step e = node (extent e.span e.place) (e.first ⊗ list_tree (map (pair unit) e.rest))

abbrev pub and_step : Of And-F → Tree
and_step e = node (extent e.span e.place) (e.first ⊗ list_tree (map (pair unit) e.rest))

abbrev pub same_step : Of Same-F → Tree
same_step e = node (extent e.span e.place) (e.first ⊗ list_tree e.rest)

abbrev pub same_rest_step : Of SameRest-F → Tree
same_rest_step e = same_op_tree e.op ⊗ e.operand

abbrev pub less_step : Of Less-F → Tree
less_step e = node (extent e.span e.place) (e.first ⊗ list_tree e.rest)

abbrev pub less_rest_step : Of LessRest-F → Tree
less_rest_step e = less_op_tree e.op ⊗ e.operand

abbrev pub sum_step : Of Sum-F → Tree
sum_step e = node (extent e.span e.place) (e.first ⊗ list_tree e.rest)

abbrev pub sum_rest_step : Of SumRest-F → Tree
sum_rest_step e = sum_op_tree e.op ⊗ e.operand

abbrev pub prod_step : Of Prod-F → Tree
prod_step e = node (extent e.span e.place) (e.first ⊗ list_tree e.rest)

abbrev pub prod_rest_step : Of ProdRest-F → Tree
prod_rest_step e = prod_op_tree e.op ⊗ e.operand

abbrev pub term_step : Of Term-F → Tree
term_step e = node (extent e.span e.place) e.kind

abbrev pub term_kind_step : Of TermKind-F → Tree
term_kind_step (TermKind-F.TermKind::Unary e) = nth 0 e
term_kind_step (TermKind-F.Power e) = last 1 e

abbrev pub unary_step : Of Unary-F → Tree
unary_step e = node (extent e.span e.place) (unary_op_tree e.op ⊗ e.operand)

abbrev pub unary_operand_step : Of UnaryOperand-F → Tree
unary_operand_step (UnaryOperand-F.UnaryOperand::Unary e) = nth 0 e
unary_operand_step (UnaryOperand-F.Post e) = last 1 e

abbrev pub power_step : Of Power-F → Tree
power_step e = node (extent e.span e.place) (e.base ⊗ optional (λ t. unit ⊗ t) e.exponent)

abbrev pub post_step : Of Post-F → Tree
post_step e = node (extent e.span e.place) (atom_and_suffixes e.atom e.suffixes)

abbrev pub suffix_step : Of Suffix-F → Tree
suffix_step s = node (extent s.span s.place) s.kind

abbrev pub suffix_kind_step : Of SuffixKind-F → Tree
suffix_kind_step (SuffixKind-F.Index e) = nth 0 (unit ⊗ e ⊗ unit)
suffix_kind_step (SuffixKind-F.Member n) = nth 1 (unit ⊗ name n)
suffix_kind_step (SuffixKind-F.Call args) = nth 2 args
suffix_kind_step (SuffixKind-F.Value e) = nth 3 (unit ⊗ unit ⊗ unit ⊗ e ⊗ unit)
suffix_kind_step SuffixKind-F.Increment = nth 4 unit
suffix_kind_step SuffixKind-F.Decrement = last 5 unit

abbrev pub atom_step : Of Atom-F → Tree
atom_step a = node (extent a.span a.place) a.kind

-- the tree of `new` is its two parts alone, which go into the tree of the whole post
abbrev pub atom_kind_step : Of AtomKind-F → Tree
atom_kind_step (AtomKind-F.Number n u) = nth 0 (name n ⊗ optional unit10_tree u)
atom_kind_step (AtomKind-F.Hexadecimal n) = nth 1 (name n)
atom_kind_step (AtomKind-F.AtomKind::String n) = nth 2 (name n)
atom_kind_step AtomKind-F.True = nth 3 unit
atom_kind_step AtomKind-F.False = nth 4 unit
atom_kind_step (AtomKind-F.Name n) = nth 5 (name n)
atom_kind_step (AtomKind-F.AtomKind::Elementary n) = nth 6 (name n)
atom_kind_step AtomKind-F.AtomKind::Address = nth 7 unit
atom_kind_step AtomKind-F.Payable = nth 8 unit
atom_kind_step (AtomKind-F.«Type» t) = nth 9 (unit ⊗ unit ⊗ t ⊗ unit)
atom_kind_step (AtomKind-F.New t) = unit ⊗ t
atom_kind_step AtomKind-F.Super = nth 10 unit
atom_kind_step AtomKind-F.This = nth 11 unit
atom_kind_step (AtomKind-F.Paren e) = last 12 (unit ⊗ e ⊗ unit)

abbrev pub args_step : Of Args-F → Tree
args_step a = node (extent a.span a.place) (unit ⊗ a.kind)

abbrev pub args_kind_step : Of ArgsKind-F → Tree
args_kind_step (ArgsKind-F.Positional es) = nth 0 (optional_commas es ⊗ unit)
args_kind_step (ArgsKind-F.ArgsKind::Named named_args) = last 1 (unit ⊗ optional_commas named_args ⊗ unit ⊗ unit)

abbrev pub named_arg_step : Of NamedArg-F → Tree
named_arg_step a = name a.name ⊗ unit ⊗ a.value

abbrev pub type_step : Of TypeExpr-F → Tree
type_step t = node (extent t.span t.place) (t.plain ⊗ list_tree t.dimensions)

abbrev pub dimension_step : Of Dimension-F → Tree
dimension_step d = unit ⊗ optional (λ t. t) d.length ⊗ unit

abbrev pub plain_step : Of Plain-F → Tree
plain_step p = node (extent p.span p.place) p.kind

abbrev pub plain_kind_step : Of PlainKind-F → Tree
plain_kind_step (PlainKind-F.PlainKind::Elementary n) = nth 0 (name n)
plain_kind_step (PlainKind-F.PlainKind::Address is_payable) = nth 1 (unit ⊗ optional_word is_payable)
plain_kind_step PlainKind-F.PlainKind::String = nth 2 unit
plain_kind_step (PlainKind-F.PlainKind::Named n member) = nth 3 (name n ⊗ optional (λ m. unit ⊗ name m) member)
plain_kind_step (PlainKind-F.Mapping key key_name value value_name) =
    last 4 (unit ⊗ unit ⊗ key ⊗ optional name key_name ⊗ unit ⊗ value ⊗ optional name value_name ⊗ unit)

-- ---- the trees

-- a function of a node by these steps
abbrev By : Type 0 → Type 0
By X =
    (Of TermKind-F → Tree) →
    (Of UnaryOperand-F → Tree) →
    (Of ArgsKind-F → Tree) →
    (Of AtomKind-F → Tree) →
    (Of SuffixKind-F → Tree) →
    (Of PlainKind-F → Tree) →
    (Of And-F → Tree) →
    (Of Arms-F → Tree) →
    (Of Expr-F → Tree) →
    (Of Less-F → Tree) →
    (Of LessRest-F → Tree) →
    (Of Or-F → Tree) →
    (Of Power-F → Tree) →
    (Of Prod-F → Tree) →
    (Of ProdRest-F → Tree) →
    (Of Same-F → Tree) →
    (Of SameRest-F → Tree) →
    (Of Sum-F → Tree) →
    (Of SumRest-F → Tree) →
    (Of Term-F → Tree) →
    (Of Unary-F → Tree) →
    (Of Args-F → Tree) →
    (Of Atom-F → Tree) →
    (Of NamedArg-F → Tree) →
    (Of Post-F → Tree) →
    (Of Suffix-F → Tree) →
    (Of Dimension-F → Tree) →
    (Of Plain-F → Tree) →
    (Of TypeExpr-F → Tree) →
    X → Tree

abbrev by_steps : {X : Type 0} → By X → X → Tree
by_steps f =
    f
    term_kind_step unary_operand_step args_kind_step atom_kind_step suffix_kind_step plain_kind_step and_step arms_step expr_step less_step
    less_rest_step or_step power_step prod_step prod_rest_step same_step same_rest_step sum_step sum_rest_step term_step
    unary_step args_step atom_step named_arg_step post_step suffix_step dimension_step plain_step type_step

unfoldable pub expr_tree : Expr → Tree
expr_tree = by_steps (fold-Expr Tree Tree Tree Tree Tree Tree Tree Tree Tree Tree Tree Tree Tree Tree Tree Tree Tree Tree Tree Tree Tree Tree Tree Tree Tree Tree Tree Tree Tree)

unfoldable pub arms_tree : Arms → Tree
arms_tree = by_steps (fold-Arms Tree Tree Tree Tree Tree Tree Tree Tree Tree Tree Tree Tree Tree Tree Tree Tree Tree Tree Tree Tree Tree Tree Tree Tree Tree Tree Tree Tree Tree)

unfoldable pub or_tree : Or → Tree
or_tree = by_steps (fold-Or Tree Tree Tree Tree Tree Tree Tree Tree Tree Tree Tree Tree Tree Tree Tree Tree Tree Tree Tree Tree Tree Tree Tree Tree Tree Tree Tree Tree Tree)

unfoldable pub and_tree : And → Tree
and_tree = by_steps (fold-And Tree Tree Tree Tree Tree Tree Tree Tree Tree Tree Tree Tree Tree Tree Tree Tree Tree Tree Tree Tree Tree Tree Tree Tree Tree Tree Tree Tree Tree)

unfoldable pub same_tree : Same → Tree
same_tree = by_steps (fold-Same Tree Tree Tree Tree Tree Tree Tree Tree Tree Tree Tree Tree Tree Tree Tree Tree Tree Tree Tree Tree Tree Tree Tree Tree Tree Tree Tree Tree Tree)

unfoldable pub same_rest_tree : SameRest → Tree
same_rest_tree = by_steps (fold-SameRest Tree Tree Tree Tree Tree Tree Tree Tree Tree Tree Tree Tree Tree Tree Tree Tree Tree Tree Tree Tree Tree Tree Tree Tree Tree Tree Tree Tree Tree)

unfoldable pub less_tree : Less → Tree
less_tree = by_steps (fold-Less Tree Tree Tree Tree Tree Tree Tree Tree Tree Tree Tree Tree Tree Tree Tree Tree Tree Tree Tree Tree Tree Tree Tree Tree Tree Tree Tree Tree Tree)

unfoldable pub less_rest_tree : LessRest → Tree
less_rest_tree = by_steps (fold-LessRest Tree Tree Tree Tree Tree Tree Tree Tree Tree Tree Tree Tree Tree Tree Tree Tree Tree Tree Tree Tree Tree Tree Tree Tree Tree Tree Tree Tree Tree)

unfoldable pub sum_tree : Sum → Tree
sum_tree = by_steps (fold-Sum Tree Tree Tree Tree Tree Tree Tree Tree Tree Tree Tree Tree Tree Tree Tree Tree Tree Tree Tree Tree Tree Tree Tree Tree Tree Tree Tree Tree Tree)

unfoldable pub sum_rest_tree : SumRest → Tree
sum_rest_tree = by_steps (fold-SumRest Tree Tree Tree Tree Tree Tree Tree Tree Tree Tree Tree Tree Tree Tree Tree Tree Tree Tree Tree Tree Tree Tree Tree Tree Tree Tree Tree Tree Tree)

unfoldable pub prod_tree : Prod → Tree
prod_tree = by_steps (fold-Prod Tree Tree Tree Tree Tree Tree Tree Tree Tree Tree Tree Tree Tree Tree Tree Tree Tree Tree Tree Tree Tree Tree Tree Tree Tree Tree Tree Tree Tree)

unfoldable pub prod_rest_tree : ProdRest → Tree
prod_rest_tree = by_steps (fold-ProdRest Tree Tree Tree Tree Tree Tree Tree Tree Tree Tree Tree Tree Tree Tree Tree Tree Tree Tree Tree Tree Tree Tree Tree Tree Tree Tree Tree Tree Tree)

unfoldable pub term_tree : Term → Tree
term_tree = by_steps (fold-Term Tree Tree Tree Tree Tree Tree Tree Tree Tree Tree Tree Tree Tree Tree Tree Tree Tree Tree Tree Tree Tree Tree Tree Tree Tree Tree Tree Tree Tree)

unfoldable pub term_kind_tree : TermKind → Tree
term_kind_tree = by_steps (fold-TermKind Tree Tree Tree Tree Tree Tree Tree Tree Tree Tree Tree Tree Tree Tree Tree Tree Tree Tree Tree Tree Tree Tree Tree Tree Tree Tree Tree Tree Tree)

unfoldable pub unary_tree : Unary → Tree
unary_tree = by_steps (fold-Unary Tree Tree Tree Tree Tree Tree Tree Tree Tree Tree Tree Tree Tree Tree Tree Tree Tree Tree Tree Tree Tree Tree Tree Tree Tree Tree Tree Tree Tree)

unfoldable pub unary_operand_tree : UnaryOperand → Tree
unary_operand_tree = by_steps (fold-UnaryOperand Tree Tree Tree Tree Tree Tree Tree Tree Tree Tree Tree Tree Tree Tree Tree Tree Tree Tree Tree Tree Tree Tree Tree Tree Tree Tree Tree Tree Tree)

unfoldable pub power_tree : Power → Tree
power_tree = by_steps (fold-Power Tree Tree Tree Tree Tree Tree Tree Tree Tree Tree Tree Tree Tree Tree Tree Tree Tree Tree Tree Tree Tree Tree Tree Tree Tree Tree Tree Tree Tree)

unfoldable pub post_tree : Post → Tree
post_tree = by_steps (fold-Post Tree Tree Tree Tree Tree Tree Tree Tree Tree Tree Tree Tree Tree Tree Tree Tree Tree Tree Tree Tree Tree Tree Tree Tree Tree Tree Tree Tree Tree)

unfoldable pub suffix_tree : Suffix → Tree
suffix_tree = by_steps (fold-Suffix Tree Tree Tree Tree Tree Tree Tree Tree Tree Tree Tree Tree Tree Tree Tree Tree Tree Tree Tree Tree Tree Tree Tree Tree Tree Tree Tree Tree Tree)

unfoldable pub suffix_kind_tree : SuffixKind → Tree
suffix_kind_tree = by_steps (fold-SuffixKind Tree Tree Tree Tree Tree Tree Tree Tree Tree Tree Tree Tree Tree Tree Tree Tree Tree Tree Tree Tree Tree Tree Tree Tree Tree Tree Tree Tree Tree)

unfoldable pub atom_tree : Atom → Tree
atom_tree = by_steps (fold-Atom Tree Tree Tree Tree Tree Tree Tree Tree Tree Tree Tree Tree Tree Tree Tree Tree Tree Tree Tree Tree Tree Tree Tree Tree Tree Tree Tree Tree Tree)

unfoldable pub atom_kind_tree : AtomKind → Tree
atom_kind_tree = by_steps (fold-AtomKind Tree Tree Tree Tree Tree Tree Tree Tree Tree Tree Tree Tree Tree Tree Tree Tree Tree Tree Tree Tree Tree Tree Tree Tree Tree Tree Tree Tree Tree)

unfoldable pub args_tree : Args → Tree
args_tree = by_steps (fold-Args Tree Tree Tree Tree Tree Tree Tree Tree Tree Tree Tree Tree Tree Tree Tree Tree Tree Tree Tree Tree Tree Tree Tree Tree Tree Tree Tree Tree Tree)

unfoldable pub args_kind_tree : ArgsKind → Tree
args_kind_tree = by_steps (fold-ArgsKind Tree Tree Tree Tree Tree Tree Tree Tree Tree Tree Tree Tree Tree Tree Tree Tree Tree Tree Tree Tree Tree Tree Tree Tree Tree Tree Tree Tree Tree)

unfoldable pub named_arg_tree : NamedArg → Tree
named_arg_tree = by_steps (fold-NamedArg Tree Tree Tree Tree Tree Tree Tree Tree Tree Tree Tree Tree Tree Tree Tree Tree Tree Tree Tree Tree Tree Tree Tree Tree Tree Tree Tree Tree Tree)

unfoldable pub type_tree : TypeExpr → Tree
type_tree = by_steps (fold-TypeExpr Tree Tree Tree Tree Tree Tree Tree Tree Tree Tree Tree Tree Tree Tree Tree Tree Tree Tree Tree Tree Tree Tree Tree Tree Tree Tree Tree Tree Tree)

unfoldable pub dimension_tree : Dimension → Tree
dimension_tree = by_steps (fold-Dimension Tree Tree Tree Tree Tree Tree Tree Tree Tree Tree Tree Tree Tree Tree Tree Tree Tree Tree Tree Tree Tree Tree Tree Tree Tree Tree Tree Tree Tree)

unfoldable pub plain_tree : Plain → Tree
plain_tree = by_steps (fold-Plain Tree Tree Tree Tree Tree Tree Tree Tree Tree Tree Tree Tree Tree Tree Tree Tree Tree Tree Tree Tree Tree Tree Tree Tree Tree Tree Tree Tree Tree)

unfoldable pub plain_kind_tree : PlainKind → Tree
plain_kind_tree = by_steps (fold-PlainKind Tree Tree Tree Tree Tree Tree Tree Tree Tree Tree Tree Tree Tree Tree Tree Tree Tree Tree Tree Tree Tree Tree Tree Tree Tree Tree Tree Tree Tree)
