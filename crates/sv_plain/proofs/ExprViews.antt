-- The plain data of a node, from its parts.
use Rattle.std.proofs.Common.{◌≡◌, ℕ, Bool, true, false, List, [], ◌∷◌, map, Option, Some, None, sym, ap, ◌∙◌, refl}
use Rattle.sv_ast.specs.declared.post.Unit10.{Unit10}
use Rattle.sv_plain.specs.declared.operator.Operator.TheVariants as op
use Rattle.sv_ast.specs.declared.expr.TermKind.TheVariants as term_kinds
use Rattle.sv_plain.specs.declared.spot.Spot.{Spot}
use Rattle.sv_ast.specs.declared.expr.UnaryOperand.TheVariants as unary_operands
use Rattle.sv_ast.specs.declared.post.ArgsKind.TheVariants as args_kinds
use Rattle.sv_ast.specs.declared.post.AtomKind.TheVariants as atom_kinds
use Rattle.sv_ast.specs.declared.post.SuffixKind.TheVariants as suffix_kinds
use Rattle.sv_ast.specs.declared.types.PlainKind.TheVariants as plain_kinds
use Rattle.sv_ast.specs.declared.expr.And.{And as AndNode, out-And}
use Rattle.sv_ast.specs.declared.expr.Arms.{Arms as ArmsNode, out-Arms}
use Rattle.sv_ast.specs.declared.expr.Expr.{Expr as ExprNode, out-Expr}
use Rattle.sv_ast.specs.declared.expr.Less.{Less as LessNode, out-Less}
use Rattle.sv_ast.specs.declared.expr.LessRest.{LessRest as LessRestNode, out-LessRest}
use Rattle.sv_ast.specs.declared.expr.Or.{Or as OrNode, out-Or}
use Rattle.sv_ast.specs.declared.expr.Power.{Power as PowerNode, out-Power}
use Rattle.sv_ast.specs.declared.expr.Prod.{Prod as ProdNode, out-Prod}
use Rattle.sv_ast.specs.declared.expr.ProdRest.{ProdRest as ProdRestNode, out-ProdRest}
use Rattle.sv_ast.specs.declared.expr.Same.{Same as SameNode, out-Same}
use Rattle.sv_ast.specs.declared.expr.SameRest.{SameRest as SameRestNode, out-SameRest}
use Rattle.sv_ast.specs.declared.expr.Sum.{Sum as SumNode, out-Sum}
use Rattle.sv_ast.specs.declared.expr.SumRest.{SumRest as SumRestNode, out-SumRest}
use Rattle.sv_ast.specs.declared.expr.Term.{Term as TermNode, out-Term}
use Rattle.sv_ast.specs.declared.expr.Unary.{Unary as UnaryNode, out-Unary}
use Rattle.sv_ast.specs.declared.post.Args.{Args as ArgsNode, out-Args}
use Rattle.sv_ast.specs.declared.post.Atom.{Atom as AtomNode, out-Atom}
use Rattle.sv_ast.specs.declared.post.NamedArg.{NamedArg as NamedArgNode, out-NamedArg}
use Rattle.sv_ast.specs.declared.post.Post.{Post as PostNode, out-Post}
use Rattle.sv_ast.specs.declared.post.Suffix.{Suffix as SuffixNode, out-Suffix}
use Rattle.sv_ast.specs.declared.types.Dimension.{Dimension as DimensionNode, out-Dimension}
use Rattle.sv_ast.specs.declared.types.Plain.{Plain as PlainNode, out-Plain}
use Rattle.sv_ast.specs.declared.types.TypeExpr.{TypeExpr as TypeExprNode, out-TypeExpr}
use Rattle.sv_ast.specs.declared.expr.TermKind.TheOpen.{TermKind-F, UnaryOperand-F, ArgsKind-F, AtomKind-F, SuffixKind-F, PlainKind-F}
use Rattle.sv_ast.specs.declared.expr.TermKind.TheFolds.{fold_out-And, fold_out-Arms, fold_out-Expr, fold_out-Less, fold_out-LessRest, fold_out-Or, fold_out-Power, fold_out-Prod, fold_out-ProdRest, fold_out-Same, fold_out-SameRest, fold_out-Sum, fold_out-SumRest, fold_out-Term, fold_out-Unary, fold_out-Args, fold_out-Atom, fold_out-NamedArg, fold_out-Post, fold_out-Suffix, fold_out-Dimension, fold_out-Plain, fold_out-TypeExpr, fold-roll-TermKind, fold-roll-UnaryOperand, fold-roll-ArgsKind, fold-roll-AtomKind, fold-roll-SuffixKind, fold-roll-PlainKind}
use Rattle.sv_plain.specs.PlainExprs.{Expr, Node, Kind, Choice, Chain, Prefix, Power, Applied, Number, Hexadecimal, Text, Truth, Name, Elementary, Address, Payable, OfType, New, Super, This, Paren, Operand, Operated, Suffix, Suffixed, Step, Index, Member, Call, Value, Increment, Decrement, Args, Given, ArgsKind, Positional, Named, NamedArg, Arg, TypeForm, Typed, PlainForm, Simply, PlainKind, ElementaryType, AddressType, StringType, NamedType, MappingType, Length, Open, Of, Arms, operands, suffixes, exprs, named_args, lengths}
use Rattle.sv_plain.specs.ExprFolds.{spot, same_op, less_op, sum_op, prod_op, chained, applied, plain_term_kind, plain_unary_operand, plain_args_kind, plain_atom_kind, plain_suffix_kind, plain_plain_kind, plain_and, plain_arms, plain_expr, plain_less, plain_less_rest, plain_or, plain_power, plain_prod, plain_prod_rest, plain_same, plain_same_rest, plain_sum, plain_sum_rest, plain_term, plain_unary, plain_args, plain_atom, plain_named_arg, plain_post, plain_suffix, plain_dimension, plain_plain, plain_type_expr, term_kind_step, unary_operand_step, args_kind_step, atom_kind_step, suffix_kind_step, plain_kind_step, and_step, arms_step, expr_step, less_step, less_rest_step, or_step, power_step, prod_step, prod_rest_step, same_step, same_rest_step, sum_step, sum_rest_step, term_step, unary_step, args_step, atom_step, named_arg_step, post_step, suffix_step, dimension_step, plain_step, type_expr_step}
use Rattle.sv_plain.specs.ShownExprs.{has_more}

chained_more : {X : Type 0} (f : X → Operand) (at : Spot) (e : Expr) (xs : List X) → has_more xs ≡ true → chained at e (map f xs) ≡ Node at (Chain e (operands (map f xs)))
chained_more f at e [] h = cc
chained_more f at e (x ∷ xs) h = refl

chained_one : {X : Type 0} (f : X → Operand) (at : Spot) (e : Expr) (xs : List X) → has_more xs ≡ false → chained at e (map f xs) ≡ e
chained_one f at e [] h = refl
chained_one f at e (x ∷ xs) h = cc

applied_more : {X : Type 0} (f : X → Suffix) (at : Spot) (e : Expr) (xs : List X) → has_more xs ≡ true → applied at e (map f xs) ≡ Node at (Applied e (suffixes (map f xs)))
applied_more f at e [] h = cc
applied_more f at e (x ∷ xs) h = refl

applied_one : {X : Type 0} (f : X → Suffix) (at : Spot) (e : Expr) (xs : List X) → has_more xs ≡ false → applied at e (map f xs) ≡ e
applied_one f at e [] h = refl
applied_one f at e (x ∷ xs) h = cc

both_maps : {X Y Z : Type 0} (f : Y → Z) (g : X → Y) (xs : List X) → map f (map g xs) ≡ map (λ x. f (g x)) xs
both_maps f g [] = refl
both_maps f g (x ∷ xs) = ap (λ zs. f (g x) ∷ zs) (both_maps f g xs)

pub expr_one : (e : ExprNode) → (out-Expr e).arms ≡ None → plain_expr e ≡ plain_or (out-Expr e).first
unfolding plain_expr plain_or
expr_one e h = fold_out-Expr Expr Expr ArgsKind Kind Step PlainKind Expr Arms Expr Expr Operand Expr Expr Expr Operand Expr Operand Expr Operand Expr Expr Args Expr NamedArg Expr Suffix Length PlainForm TypeForm term_kind_step unary_operand_step args_kind_step atom_kind_step suffix_kind_step plain_kind_step and_step arms_step expr_step less_step less_rest_step or_step power_step prod_step prod_rest_step same_step same_rest_step sum_step sum_rest_step term_step unary_step args_step atom_step named_arg_step post_step suffix_step dimension_step plain_step type_expr_step e ∙ rw h

pub expr_choice_arms : (e : ExprNode) (a : ArmsNode) → (out-Expr e).arms ≡ Some a → plain_expr e ≡ Node (spot (out-Expr e).span (out-Expr e).place) (Choice (plain_or (out-Expr e).first) (plain_arms a).if_true (plain_arms a).if_false)
unfolding plain_expr plain_or plain_arms
expr_choice_arms e a h = fold_out-Expr Expr Expr ArgsKind Kind Step PlainKind Expr Arms Expr Expr Operand Expr Expr Expr Operand Expr Operand Expr Operand Expr Expr Args Expr NamedArg Expr Suffix Length PlainForm TypeForm term_kind_step unary_operand_step args_kind_step atom_kind_step suffix_kind_step plain_kind_step and_step arms_step expr_step less_step less_rest_step or_step power_step prod_step prod_rest_step same_step same_rest_step sum_step sum_rest_step term_step unary_step args_step atom_step named_arg_step post_step suffix_step dimension_step plain_step type_expr_step e ∙ rw h

pub arms_true : (a : ArmsNode) → (plain_arms a).if_true ≡ plain_expr (out-Arms a).if_true
unfolding plain_arms plain_expr
arms_true a = ap (λ x. x.if_true) (fold_out-Arms Expr Expr ArgsKind Kind Step PlainKind Expr Arms Expr Expr Operand Expr Expr Expr Operand Expr Operand Expr Operand Expr Expr Args Expr NamedArg Expr Suffix Length PlainForm TypeForm term_kind_step unary_operand_step args_kind_step atom_kind_step suffix_kind_step plain_kind_step and_step arms_step expr_step less_step less_rest_step or_step power_step prod_step prod_rest_step same_step same_rest_step sum_step sum_rest_step term_step unary_step args_step atom_step named_arg_step post_step suffix_step dimension_step plain_step type_expr_step a)

pub arms_false : (a : ArmsNode) → (plain_arms a).if_false ≡ plain_expr (out-Arms a).if_false
unfolding plain_arms plain_expr
arms_false a = ap (λ x. x.if_false) (fold_out-Arms Expr Expr ArgsKind Kind Step PlainKind Expr Arms Expr Expr Operand Expr Expr Expr Operand Expr Operand Expr Operand Expr Expr Args Expr NamedArg Expr Suffix Length PlainForm TypeForm term_kind_step unary_operand_step args_kind_step atom_kind_step suffix_kind_step plain_kind_step and_step arms_step expr_step less_step less_rest_step or_step power_step prod_step prod_rest_step same_step same_rest_step sum_step sum_rest_step term_step unary_step args_step atom_step named_arg_step post_step suffix_step dimension_step plain_step type_expr_step a)

pub expr_choice : (e : ExprNode) (a : ArmsNode) → (out-Expr e).arms ≡ Some a → plain_expr e ≡ Node (spot (out-Expr e).span (out-Expr e).place) (Choice (plain_or (out-Expr e).first) (plain_expr (out-Arms a).if_true) (plain_expr (out-Arms a).if_false))
expr_choice e a h = cc (expr_choice_arms e a h, arms_true a, arms_false a)

pub or_one : (e : OrNode) → has_more (out-Or e).rest ≡ false → plain_or e ≡ plain_and (out-Or e).first
unfolding plain_or plain_and
or_one e h = fold_out-Or Expr Expr ArgsKind Kind Step PlainKind Expr Arms Expr Expr Operand Expr Expr Expr Operand Expr Operand Expr Operand Expr Expr Args Expr NamedArg Expr Suffix Length PlainForm TypeForm term_kind_step unary_operand_step args_kind_step atom_kind_step suffix_kind_step plain_kind_step and_step arms_step expr_step less_step less_rest_step or_step power_step prod_step prod_rest_step same_step same_rest_step sum_step sum_rest_step term_step unary_step args_step atom_step named_arg_step post_step suffix_step dimension_step plain_step type_expr_step e ∙ ap (chained (spot (out-Or e).span (out-Or e).place) (plain_and (out-Or e).first)) (both_maps (Operated op.Or) plain_and (out-Or e).rest) ∙ chained_one (λ x. Operated op.Or (plain_and x)) (spot (out-Or e).span (out-Or e).place) (plain_and (out-Or e).first) (out-Or e).rest h

pub or_chain : (e : OrNode) → has_more (out-Or e).rest ≡ true → plain_or e ≡ Node (spot (out-Or e).span (out-Or e).place) (Chain (plain_and (out-Or e).first) (operands (map (λ x. Operated op.Or (plain_and x)) (out-Or e).rest)))
unfolding plain_or plain_and
or_chain e h = fold_out-Or Expr Expr ArgsKind Kind Step PlainKind Expr Arms Expr Expr Operand Expr Expr Expr Operand Expr Operand Expr Operand Expr Expr Args Expr NamedArg Expr Suffix Length PlainForm TypeForm term_kind_step unary_operand_step args_kind_step atom_kind_step suffix_kind_step plain_kind_step and_step arms_step expr_step less_step less_rest_step or_step power_step prod_step prod_rest_step same_step same_rest_step sum_step sum_rest_step term_step unary_step args_step atom_step named_arg_step post_step suffix_step dimension_step plain_step type_expr_step e ∙ ap (chained (spot (out-Or e).span (out-Or e).place) (plain_and (out-Or e).first)) (both_maps (Operated op.Or) plain_and (out-Or e).rest) ∙ chained_more (λ x. Operated op.Or (plain_and x)) (spot (out-Or e).span (out-Or e).place) (plain_and (out-Or e).first) (out-Or e).rest h

pub and_one : (e : AndNode) → has_more (out-And e).rest ≡ false → plain_and e ≡ plain_same (out-And e).first
unfolding plain_and plain_same
and_one e h = fold_out-And Expr Expr ArgsKind Kind Step PlainKind Expr Arms Expr Expr Operand Expr Expr Expr Operand Expr Operand Expr Operand Expr Expr Args Expr NamedArg Expr Suffix Length PlainForm TypeForm term_kind_step unary_operand_step args_kind_step atom_kind_step suffix_kind_step plain_kind_step and_step arms_step expr_step less_step less_rest_step or_step power_step prod_step prod_rest_step same_step same_rest_step sum_step sum_rest_step term_step unary_step args_step atom_step named_arg_step post_step suffix_step dimension_step plain_step type_expr_step e ∙ ap (chained (spot (out-And e).span (out-And e).place) (plain_same (out-And e).first)) (both_maps (Operated op.And) plain_same (out-And e).rest) ∙ chained_one (λ x. Operated op.And (plain_same x)) (spot (out-And e).span (out-And e).place) (plain_same (out-And e).first) (out-And e).rest h

pub and_chain : (e : AndNode) → has_more (out-And e).rest ≡ true → plain_and e ≡ Node (spot (out-And e).span (out-And e).place) (Chain (plain_same (out-And e).first) (operands (map (λ x. Operated op.And (plain_same x)) (out-And e).rest)))
unfolding plain_and plain_same
and_chain e h = fold_out-And Expr Expr ArgsKind Kind Step PlainKind Expr Arms Expr Expr Operand Expr Expr Expr Operand Expr Operand Expr Operand Expr Expr Args Expr NamedArg Expr Suffix Length PlainForm TypeForm term_kind_step unary_operand_step args_kind_step atom_kind_step suffix_kind_step plain_kind_step and_step arms_step expr_step less_step less_rest_step or_step power_step prod_step prod_rest_step same_step same_rest_step sum_step sum_rest_step term_step unary_step args_step atom_step named_arg_step post_step suffix_step dimension_step plain_step type_expr_step e ∙ ap (chained (spot (out-And e).span (out-And e).place) (plain_same (out-And e).first)) (both_maps (Operated op.And) plain_same (out-And e).rest) ∙ chained_more (λ x. Operated op.And (plain_same x)) (spot (out-And e).span (out-And e).place) (plain_same (out-And e).first) (out-And e).rest h

pub same_one : (e : SameNode) → has_more (out-Same e).rest ≡ false → plain_same e ≡ plain_less (out-Same e).first
unfolding plain_same plain_less plain_same_rest
same_one e h = fold_out-Same Expr Expr ArgsKind Kind Step PlainKind Expr Arms Expr Expr Operand Expr Expr Expr Operand Expr Operand Expr Operand Expr Expr Args Expr NamedArg Expr Suffix Length PlainForm TypeForm term_kind_step unary_operand_step args_kind_step atom_kind_step suffix_kind_step plain_kind_step and_step arms_step expr_step less_step less_rest_step or_step power_step prod_step prod_rest_step same_step same_rest_step sum_step sum_rest_step term_step unary_step args_step atom_step named_arg_step post_step suffix_step dimension_step plain_step type_expr_step e ∙ chained_one plain_same_rest (spot (out-Same e).span (out-Same e).place) (plain_less (out-Same e).first) (out-Same e).rest h

pub same_chain : (e : SameNode) → has_more (out-Same e).rest ≡ true → plain_same e ≡ Node (spot (out-Same e).span (out-Same e).place) (Chain (plain_less (out-Same e).first) (operands (map plain_same_rest (out-Same e).rest)))
unfolding plain_same plain_less plain_same_rest
same_chain e h = fold_out-Same Expr Expr ArgsKind Kind Step PlainKind Expr Arms Expr Expr Operand Expr Expr Expr Operand Expr Operand Expr Operand Expr Expr Args Expr NamedArg Expr Suffix Length PlainForm TypeForm term_kind_step unary_operand_step args_kind_step atom_kind_step suffix_kind_step plain_kind_step and_step arms_step expr_step less_step less_rest_step or_step power_step prod_step prod_rest_step same_step same_rest_step sum_step sum_rest_step term_step unary_step args_step atom_step named_arg_step post_step suffix_step dimension_step plain_step type_expr_step e ∙ chained_more plain_same_rest (spot (out-Same e).span (out-Same e).place) (plain_less (out-Same e).first) (out-Same e).rest h

pub same_rest_at : (r : SameRestNode) → plain_same_rest r ≡ Operated (same_op (out-SameRest r).op) (plain_less (out-SameRest r).operand)
unfolding plain_same_rest plain_less
same_rest_at r = fold_out-SameRest Expr Expr ArgsKind Kind Step PlainKind Expr Arms Expr Expr Operand Expr Expr Expr Operand Expr Operand Expr Operand Expr Expr Args Expr NamedArg Expr Suffix Length PlainForm TypeForm term_kind_step unary_operand_step args_kind_step atom_kind_step suffix_kind_step plain_kind_step and_step arms_step expr_step less_step less_rest_step or_step power_step prod_step prod_rest_step same_step same_rest_step sum_step sum_rest_step term_step unary_step args_step atom_step named_arg_step post_step suffix_step dimension_step plain_step type_expr_step r

pub less_one : (e : LessNode) → has_more (out-Less e).rest ≡ false → plain_less e ≡ plain_sum (out-Less e).first
unfolding plain_less plain_sum plain_less_rest
less_one e h = fold_out-Less Expr Expr ArgsKind Kind Step PlainKind Expr Arms Expr Expr Operand Expr Expr Expr Operand Expr Operand Expr Operand Expr Expr Args Expr NamedArg Expr Suffix Length PlainForm TypeForm term_kind_step unary_operand_step args_kind_step atom_kind_step suffix_kind_step plain_kind_step and_step arms_step expr_step less_step less_rest_step or_step power_step prod_step prod_rest_step same_step same_rest_step sum_step sum_rest_step term_step unary_step args_step atom_step named_arg_step post_step suffix_step dimension_step plain_step type_expr_step e ∙ chained_one plain_less_rest (spot (out-Less e).span (out-Less e).place) (plain_sum (out-Less e).first) (out-Less e).rest h

pub less_chain : (e : LessNode) → has_more (out-Less e).rest ≡ true → plain_less e ≡ Node (spot (out-Less e).span (out-Less e).place) (Chain (plain_sum (out-Less e).first) (operands (map plain_less_rest (out-Less e).rest)))
unfolding plain_less plain_sum plain_less_rest
less_chain e h = fold_out-Less Expr Expr ArgsKind Kind Step PlainKind Expr Arms Expr Expr Operand Expr Expr Expr Operand Expr Operand Expr Operand Expr Expr Args Expr NamedArg Expr Suffix Length PlainForm TypeForm term_kind_step unary_operand_step args_kind_step atom_kind_step suffix_kind_step plain_kind_step and_step arms_step expr_step less_step less_rest_step or_step power_step prod_step prod_rest_step same_step same_rest_step sum_step sum_rest_step term_step unary_step args_step atom_step named_arg_step post_step suffix_step dimension_step plain_step type_expr_step e ∙ chained_more plain_less_rest (spot (out-Less e).span (out-Less e).place) (plain_sum (out-Less e).first) (out-Less e).rest h

pub less_rest_at : (r : LessRestNode) → plain_less_rest r ≡ Operated (less_op (out-LessRest r).op) (plain_sum (out-LessRest r).operand)
unfolding plain_less_rest plain_sum
less_rest_at r = fold_out-LessRest Expr Expr ArgsKind Kind Step PlainKind Expr Arms Expr Expr Operand Expr Expr Expr Operand Expr Operand Expr Operand Expr Expr Args Expr NamedArg Expr Suffix Length PlainForm TypeForm term_kind_step unary_operand_step args_kind_step atom_kind_step suffix_kind_step plain_kind_step and_step arms_step expr_step less_step less_rest_step or_step power_step prod_step prod_rest_step same_step same_rest_step sum_step sum_rest_step term_step unary_step args_step atom_step named_arg_step post_step suffix_step dimension_step plain_step type_expr_step r

pub sum_one : (e : SumNode) → has_more (out-Sum e).rest ≡ false → plain_sum e ≡ plain_prod (out-Sum e).first
unfolding plain_sum plain_prod plain_sum_rest
sum_one e h = fold_out-Sum Expr Expr ArgsKind Kind Step PlainKind Expr Arms Expr Expr Operand Expr Expr Expr Operand Expr Operand Expr Operand Expr Expr Args Expr NamedArg Expr Suffix Length PlainForm TypeForm term_kind_step unary_operand_step args_kind_step atom_kind_step suffix_kind_step plain_kind_step and_step arms_step expr_step less_step less_rest_step or_step power_step prod_step prod_rest_step same_step same_rest_step sum_step sum_rest_step term_step unary_step args_step atom_step named_arg_step post_step suffix_step dimension_step plain_step type_expr_step e ∙ chained_one plain_sum_rest (spot (out-Sum e).span (out-Sum e).place) (plain_prod (out-Sum e).first) (out-Sum e).rest h

pub sum_chain : (e : SumNode) → has_more (out-Sum e).rest ≡ true → plain_sum e ≡ Node (spot (out-Sum e).span (out-Sum e).place) (Chain (plain_prod (out-Sum e).first) (operands (map plain_sum_rest (out-Sum e).rest)))
unfolding plain_sum plain_prod plain_sum_rest
sum_chain e h = fold_out-Sum Expr Expr ArgsKind Kind Step PlainKind Expr Arms Expr Expr Operand Expr Expr Expr Operand Expr Operand Expr Operand Expr Expr Args Expr NamedArg Expr Suffix Length PlainForm TypeForm term_kind_step unary_operand_step args_kind_step atom_kind_step suffix_kind_step plain_kind_step and_step arms_step expr_step less_step less_rest_step or_step power_step prod_step prod_rest_step same_step same_rest_step sum_step sum_rest_step term_step unary_step args_step atom_step named_arg_step post_step suffix_step dimension_step plain_step type_expr_step e ∙ chained_more plain_sum_rest (spot (out-Sum e).span (out-Sum e).place) (plain_prod (out-Sum e).first) (out-Sum e).rest h

pub sum_rest_at : (r : SumRestNode) → plain_sum_rest r ≡ Operated (sum_op (out-SumRest r).op) (plain_prod (out-SumRest r).operand)
unfolding plain_sum_rest plain_prod
sum_rest_at r = fold_out-SumRest Expr Expr ArgsKind Kind Step PlainKind Expr Arms Expr Expr Operand Expr Expr Expr Operand Expr Operand Expr Operand Expr Expr Args Expr NamedArg Expr Suffix Length PlainForm TypeForm term_kind_step unary_operand_step args_kind_step atom_kind_step suffix_kind_step plain_kind_step and_step arms_step expr_step less_step less_rest_step or_step power_step prod_step prod_rest_step same_step same_rest_step sum_step sum_rest_step term_step unary_step args_step atom_step named_arg_step post_step suffix_step dimension_step plain_step type_expr_step r

pub prod_one : (e : ProdNode) → has_more (out-Prod e).rest ≡ false → plain_prod e ≡ plain_term (out-Prod e).first
unfolding plain_prod plain_term plain_prod_rest
prod_one e h = fold_out-Prod Expr Expr ArgsKind Kind Step PlainKind Expr Arms Expr Expr Operand Expr Expr Expr Operand Expr Operand Expr Operand Expr Expr Args Expr NamedArg Expr Suffix Length PlainForm TypeForm term_kind_step unary_operand_step args_kind_step atom_kind_step suffix_kind_step plain_kind_step and_step arms_step expr_step less_step less_rest_step or_step power_step prod_step prod_rest_step same_step same_rest_step sum_step sum_rest_step term_step unary_step args_step atom_step named_arg_step post_step suffix_step dimension_step plain_step type_expr_step e ∙ chained_one plain_prod_rest (spot (out-Prod e).span (out-Prod e).place) (plain_term (out-Prod e).first) (out-Prod e).rest h

pub prod_chain : (e : ProdNode) → has_more (out-Prod e).rest ≡ true → plain_prod e ≡ Node (spot (out-Prod e).span (out-Prod e).place) (Chain (plain_term (out-Prod e).first) (operands (map plain_prod_rest (out-Prod e).rest)))
unfolding plain_prod plain_term plain_prod_rest
prod_chain e h = fold_out-Prod Expr Expr ArgsKind Kind Step PlainKind Expr Arms Expr Expr Operand Expr Expr Expr Operand Expr Operand Expr Operand Expr Expr Args Expr NamedArg Expr Suffix Length PlainForm TypeForm term_kind_step unary_operand_step args_kind_step atom_kind_step suffix_kind_step plain_kind_step and_step arms_step expr_step less_step less_rest_step or_step power_step prod_step prod_rest_step same_step same_rest_step sum_step sum_rest_step term_step unary_step args_step atom_step named_arg_step post_step suffix_step dimension_step plain_step type_expr_step e ∙ chained_more plain_prod_rest (spot (out-Prod e).span (out-Prod e).place) (plain_term (out-Prod e).first) (out-Prod e).rest h

pub prod_rest_at : (r : ProdRestNode) → plain_prod_rest r ≡ Operated (prod_op (out-ProdRest r).op) (plain_term (out-ProdRest r).operand)
unfolding plain_prod_rest plain_term
prod_rest_at r = fold_out-ProdRest Expr Expr ArgsKind Kind Step PlainKind Expr Arms Expr Expr Operand Expr Expr Expr Operand Expr Operand Expr Operand Expr Expr Args Expr NamedArg Expr Suffix Length PlainForm TypeForm term_kind_step unary_operand_step args_kind_step atom_kind_step suffix_kind_step plain_kind_step and_step arms_step expr_step less_step less_rest_step or_step power_step prod_step prod_rest_step same_step same_rest_step sum_step sum_rest_step term_step unary_step args_step atom_step named_arg_step post_step suffix_step dimension_step plain_step type_expr_step r

pub term_at : (e : TermNode) → plain_term e ≡ plain_term_kind (out-Term e).kind
unfolding plain_term plain_term_kind
term_at e = fold_out-Term Expr Expr ArgsKind Kind Step PlainKind Expr Arms Expr Expr Operand Expr Expr Expr Operand Expr Operand Expr Operand Expr Expr Args Expr NamedArg Expr Suffix Length PlainForm TypeForm term_kind_step unary_operand_step args_kind_step atom_kind_step suffix_kind_step plain_kind_step and_step arms_step expr_step less_step less_rest_step or_step power_step prod_step prod_rest_step same_step same_rest_step sum_step sum_rest_step term_step unary_step args_step atom_step named_arg_step post_step suffix_step dimension_step plain_step type_expr_step e

pub unary_at : (e : UnaryNode) → plain_unary e ≡ Node (spot (out-Unary e).span (out-Unary e).place) (Prefix (out-Unary e).op (plain_unary_operand (out-Unary e).operand))
unfolding plain_unary plain_unary_operand
unary_at e = fold_out-Unary Expr Expr ArgsKind Kind Step PlainKind Expr Arms Expr Expr Operand Expr Expr Expr Operand Expr Operand Expr Operand Expr Expr Args Expr NamedArg Expr Suffix Length PlainForm TypeForm term_kind_step unary_operand_step args_kind_step atom_kind_step suffix_kind_step plain_kind_step and_step arms_step expr_step less_step less_rest_step or_step power_step prod_step prod_rest_step same_step same_rest_step sum_step sum_rest_step term_step unary_step args_step atom_step named_arg_step post_step suffix_step dimension_step plain_step type_expr_step e

pub power_one : (e : PowerNode) → (out-Power e).exponent ≡ None → plain_power e ≡ plain_post (out-Power e).base
unfolding plain_power plain_post
power_one e h = fold_out-Power Expr Expr ArgsKind Kind Step PlainKind Expr Arms Expr Expr Operand Expr Expr Expr Operand Expr Operand Expr Operand Expr Expr Args Expr NamedArg Expr Suffix Length PlainForm TypeForm term_kind_step unary_operand_step args_kind_step atom_kind_step suffix_kind_step plain_kind_step and_step arms_step expr_step less_step less_rest_step or_step power_step prod_step prod_rest_step same_step same_rest_step sum_step sum_rest_step term_step unary_step args_step atom_step named_arg_step post_step suffix_step dimension_step plain_step type_expr_step e ∙ rw h

pub power_raised : (e : PowerNode) (x : PowerNode) → (out-Power e).exponent ≡ Some x → plain_power e ≡ Node (spot (out-Power e).span (out-Power e).place) (Power (plain_post (out-Power e).base) (plain_power x))
unfolding plain_power plain_post
power_raised e x h = fold_out-Power Expr Expr ArgsKind Kind Step PlainKind Expr Arms Expr Expr Operand Expr Expr Expr Operand Expr Operand Expr Operand Expr Expr Args Expr NamedArg Expr Suffix Length PlainForm TypeForm term_kind_step unary_operand_step args_kind_step atom_kind_step suffix_kind_step plain_kind_step and_step arms_step expr_step less_step less_rest_step or_step power_step prod_step prod_rest_step same_step same_rest_step sum_step sum_rest_step term_step unary_step args_step atom_step named_arg_step post_step suffix_step dimension_step plain_step type_expr_step e ∙ rw h

pub post_one : (e : PostNode) → has_more (out-Post e).suffixes ≡ false → plain_post e ≡ plain_atom (out-Post e).atom
unfolding plain_post plain_atom plain_suffix
post_one e h = fold_out-Post Expr Expr ArgsKind Kind Step PlainKind Expr Arms Expr Expr Operand Expr Expr Expr Operand Expr Operand Expr Operand Expr Expr Args Expr NamedArg Expr Suffix Length PlainForm TypeForm term_kind_step unary_operand_step args_kind_step atom_kind_step suffix_kind_step plain_kind_step and_step arms_step expr_step less_step less_rest_step or_step power_step prod_step prod_rest_step same_step same_rest_step sum_step sum_rest_step term_step unary_step args_step atom_step named_arg_step post_step suffix_step dimension_step plain_step type_expr_step e ∙ applied_one plain_suffix (spot (out-Post e).span (out-Post e).place) (plain_atom (out-Post e).atom) (out-Post e).suffixes h

pub post_applied : (e : PostNode) → has_more (out-Post e).suffixes ≡ true → plain_post e ≡ Node (spot (out-Post e).span (out-Post e).place) (Applied (plain_atom (out-Post e).atom) (suffixes (map plain_suffix (out-Post e).suffixes)))
unfolding plain_post plain_atom plain_suffix
post_applied e h = fold_out-Post Expr Expr ArgsKind Kind Step PlainKind Expr Arms Expr Expr Operand Expr Expr Expr Operand Expr Operand Expr Operand Expr Expr Args Expr NamedArg Expr Suffix Length PlainForm TypeForm term_kind_step unary_operand_step args_kind_step atom_kind_step suffix_kind_step plain_kind_step and_step arms_step expr_step less_step less_rest_step or_step power_step prod_step prod_rest_step same_step same_rest_step sum_step sum_rest_step term_step unary_step args_step atom_step named_arg_step post_step suffix_step dimension_step plain_step type_expr_step e ∙ applied_more plain_suffix (spot (out-Post e).span (out-Post e).place) (plain_atom (out-Post e).atom) (out-Post e).suffixes h

pub suffix_at : (s : SuffixNode) → plain_suffix s ≡ Suffixed (spot (out-Suffix s).span (out-Suffix s).place) (plain_suffix_kind (out-Suffix s).kind)
unfolding plain_suffix plain_suffix_kind
suffix_at s = fold_out-Suffix Expr Expr ArgsKind Kind Step PlainKind Expr Arms Expr Expr Operand Expr Expr Expr Operand Expr Operand Expr Operand Expr Expr Args Expr NamedArg Expr Suffix Length PlainForm TypeForm term_kind_step unary_operand_step args_kind_step atom_kind_step suffix_kind_step plain_kind_step and_step arms_step expr_step less_step less_rest_step or_step power_step prod_step prod_rest_step same_step same_rest_step sum_step sum_rest_step term_step unary_step args_step atom_step named_arg_step post_step suffix_step dimension_step plain_step type_expr_step s

pub atom_at : (e : AtomNode) → plain_atom e ≡ Node (spot (out-Atom e).span (out-Atom e).place) (plain_atom_kind (out-Atom e).kind)
unfolding plain_atom plain_atom_kind
atom_at e = fold_out-Atom Expr Expr ArgsKind Kind Step PlainKind Expr Arms Expr Expr Operand Expr Expr Expr Operand Expr Operand Expr Operand Expr Expr Args Expr NamedArg Expr Suffix Length PlainForm TypeForm term_kind_step unary_operand_step args_kind_step atom_kind_step suffix_kind_step plain_kind_step and_step arms_step expr_step less_step less_rest_step or_step power_step prod_step prod_rest_step same_step same_rest_step sum_step sum_rest_step term_step unary_step args_step atom_step named_arg_step post_step suffix_step dimension_step plain_step type_expr_step e

pub args_at : (a : ArgsNode) → plain_args a ≡ Given (spot (out-Args a).span (out-Args a).place) (plain_args_kind (out-Args a).kind)
unfolding plain_args plain_args_kind
args_at a = fold_out-Args Expr Expr ArgsKind Kind Step PlainKind Expr Arms Expr Expr Operand Expr Expr Expr Operand Expr Operand Expr Operand Expr Expr Args Expr NamedArg Expr Suffix Length PlainForm TypeForm term_kind_step unary_operand_step args_kind_step atom_kind_step suffix_kind_step plain_kind_step and_step arms_step expr_step less_step less_rest_step or_step power_step prod_step prod_rest_step same_step same_rest_step sum_step sum_rest_step term_step unary_step args_step atom_step named_arg_step post_step suffix_step dimension_step plain_step type_expr_step a

pub named_arg_at : (a : NamedArgNode) → plain_named_arg a ≡ Arg (out-NamedArg a).name (plain_expr (out-NamedArg a).value)
unfolding plain_named_arg plain_expr
named_arg_at a = fold_out-NamedArg Expr Expr ArgsKind Kind Step PlainKind Expr Arms Expr Expr Operand Expr Expr Expr Operand Expr Operand Expr Operand Expr Expr Args Expr NamedArg Expr Suffix Length PlainForm TypeForm term_kind_step unary_operand_step args_kind_step atom_kind_step suffix_kind_step plain_kind_step and_step arms_step expr_step less_step less_rest_step or_step power_step prod_step prod_rest_step same_step same_rest_step sum_step sum_rest_step term_step unary_step args_step atom_step named_arg_step post_step suffix_step dimension_step plain_step type_expr_step a

pub type_at : (t : TypeExprNode) → plain_type_expr t ≡ Typed (spot (out-TypeExpr t).span (out-TypeExpr t).place) (plain_plain (out-TypeExpr t).plain) (lengths (map plain_dimension (out-TypeExpr t).dimensions))
unfolding plain_type_expr plain_plain plain_dimension
type_at t = fold_out-TypeExpr Expr Expr ArgsKind Kind Step PlainKind Expr Arms Expr Expr Operand Expr Expr Expr Operand Expr Operand Expr Operand Expr Expr Args Expr NamedArg Expr Suffix Length PlainForm TypeForm term_kind_step unary_operand_step args_kind_step atom_kind_step suffix_kind_step plain_kind_step and_step arms_step expr_step less_step less_rest_step or_step power_step prod_step prod_rest_step same_step same_rest_step sum_step sum_rest_step term_step unary_step args_step atom_step named_arg_step post_step suffix_step dimension_step plain_step type_expr_step t

pub dimension_open : (d : DimensionNode) → (out-Dimension d).length ≡ None → plain_dimension d ≡ Open
unfolding plain_dimension
dimension_open d h = fold_out-Dimension Expr Expr ArgsKind Kind Step PlainKind Expr Arms Expr Expr Operand Expr Expr Expr Operand Expr Operand Expr Operand Expr Expr Args Expr NamedArg Expr Suffix Length PlainForm TypeForm term_kind_step unary_operand_step args_kind_step atom_kind_step suffix_kind_step plain_kind_step and_step arms_step expr_step less_step less_rest_step or_step power_step prod_step prod_rest_step same_step same_rest_step sum_step sum_rest_step term_step unary_step args_step atom_step named_arg_step post_step suffix_step dimension_step plain_step type_expr_step d ∙ rw h

pub dimension_of : (d : DimensionNode) (e : ExprNode) → (out-Dimension d).length ≡ Some e → plain_dimension d ≡ Of (plain_expr e)
unfolding plain_dimension plain_expr
dimension_of d e h = fold_out-Dimension Expr Expr ArgsKind Kind Step PlainKind Expr Arms Expr Expr Operand Expr Expr Expr Operand Expr Operand Expr Operand Expr Expr Args Expr NamedArg Expr Suffix Length PlainForm TypeForm term_kind_step unary_operand_step args_kind_step atom_kind_step suffix_kind_step plain_kind_step and_step arms_step expr_step less_step less_rest_step or_step power_step prod_step prod_rest_step same_step same_rest_step sum_step sum_rest_step term_step unary_step args_step atom_step named_arg_step post_step suffix_step dimension_step plain_step type_expr_step d ∙ rw h

pub plain_at : (p : PlainNode) → plain_plain p ≡ Simply (spot (out-Plain p).span (out-Plain p).place) (plain_plain_kind (out-Plain p).kind)
unfolding plain_plain plain_plain_kind
plain_at p = fold_out-Plain Expr Expr ArgsKind Kind Step PlainKind Expr Arms Expr Expr Operand Expr Expr Expr Operand Expr Operand Expr Operand Expr Expr Args Expr NamedArg Expr Suffix Length PlainForm TypeForm term_kind_step unary_operand_step args_kind_step atom_kind_step suffix_kind_step plain_kind_step and_step arms_step expr_step less_step less_rest_step or_step power_step prod_step prod_rest_step same_step same_rest_step sum_step sum_rest_step term_step unary_step args_step atom_step named_arg_step post_step suffix_step dimension_step plain_step type_expr_step p

pub term_unary : (e : UnaryNode) → plain_term_kind (term_kinds.Unary e) ≡ plain_unary e
unfolding plain_term_kind plain_unary
term_unary e = ap plain_term_kind (sym (term_kinds.rolls-Unary e)) ∙ fold-roll-TermKind Expr Expr ArgsKind Kind Step PlainKind Expr Arms Expr Expr Operand Expr Expr Expr Operand Expr Operand Expr Operand Expr Expr Args Expr NamedArg Expr Suffix Length PlainForm TypeForm term_kind_step unary_operand_step args_kind_step atom_kind_step suffix_kind_step plain_kind_step and_step arms_step expr_step less_step less_rest_step or_step power_step prod_step prod_rest_step same_step same_rest_step sum_step sum_rest_step term_step unary_step args_step atom_step named_arg_step post_step suffix_step dimension_step plain_step type_expr_step (TermKind-F.TermKind::Unary e)

pub term_power : (e : PowerNode) → plain_term_kind (term_kinds.Power e) ≡ plain_power e
unfolding plain_term_kind plain_power
term_power e = ap plain_term_kind (sym (term_kinds.rolls-Power e)) ∙ fold-roll-TermKind Expr Expr ArgsKind Kind Step PlainKind Expr Arms Expr Expr Operand Expr Expr Expr Operand Expr Operand Expr Operand Expr Expr Args Expr NamedArg Expr Suffix Length PlainForm TypeForm term_kind_step unary_operand_step args_kind_step atom_kind_step suffix_kind_step plain_kind_step and_step arms_step expr_step less_step less_rest_step or_step power_step prod_step prod_rest_step same_step same_rest_step sum_step sum_rest_step term_step unary_step args_step atom_step named_arg_step post_step suffix_step dimension_step plain_step type_expr_step (TermKind-F.Power e)

pub operand_unary : (e : UnaryNode) → plain_unary_operand (unary_operands.Unary e) ≡ plain_unary e
unfolding plain_unary_operand plain_unary
operand_unary e = ap plain_unary_operand (sym (unary_operands.rolls-Unary e)) ∙ fold-roll-UnaryOperand Expr Expr ArgsKind Kind Step PlainKind Expr Arms Expr Expr Operand Expr Expr Expr Operand Expr Operand Expr Operand Expr Expr Args Expr NamedArg Expr Suffix Length PlainForm TypeForm term_kind_step unary_operand_step args_kind_step atom_kind_step suffix_kind_step plain_kind_step and_step arms_step expr_step less_step less_rest_step or_step power_step prod_step prod_rest_step same_step same_rest_step sum_step sum_rest_step term_step unary_step args_step atom_step named_arg_step post_step suffix_step dimension_step plain_step type_expr_step (UnaryOperand-F.UnaryOperand::Unary e)

pub operand_post : (e : PostNode) → plain_unary_operand (unary_operands.Post e) ≡ plain_post e
unfolding plain_unary_operand plain_post
operand_post e = ap plain_unary_operand (sym (unary_operands.rolls-Post e)) ∙ fold-roll-UnaryOperand Expr Expr ArgsKind Kind Step PlainKind Expr Arms Expr Expr Operand Expr Expr Expr Operand Expr Operand Expr Operand Expr Expr Args Expr NamedArg Expr Suffix Length PlainForm TypeForm term_kind_step unary_operand_step args_kind_step atom_kind_step suffix_kind_step plain_kind_step and_step arms_step expr_step less_step less_rest_step or_step power_step prod_step prod_rest_step same_step same_rest_step sum_step sum_rest_step term_step unary_step args_step atom_step named_arg_step post_step suffix_step dimension_step plain_step type_expr_step (UnaryOperand-F.Post e)

pub suffix_index : (e : ExprNode) → plain_suffix_kind (suffix_kinds.Index e) ≡ Index (plain_expr e)
unfolding plain_suffix_kind plain_expr
suffix_index e = ap plain_suffix_kind (sym (suffix_kinds.rolls-Index e)) ∙ fold-roll-SuffixKind Expr Expr ArgsKind Kind Step PlainKind Expr Arms Expr Expr Operand Expr Expr Expr Operand Expr Operand Expr Operand Expr Expr Args Expr NamedArg Expr Suffix Length PlainForm TypeForm term_kind_step unary_operand_step args_kind_step atom_kind_step suffix_kind_step plain_kind_step and_step arms_step expr_step less_step less_rest_step or_step power_step prod_step prod_rest_step same_step same_rest_step sum_step sum_rest_step term_step unary_step args_step atom_step named_arg_step post_step suffix_step dimension_step plain_step type_expr_step (SuffixKind-F.Index e)

pub suffix_member : (n : ℕ) → plain_suffix_kind (suffix_kinds.Member n) ≡ Member n
unfolding plain_suffix_kind
suffix_member n = ap plain_suffix_kind (sym (suffix_kinds.rolls-Member n)) ∙ fold-roll-SuffixKind Expr Expr ArgsKind Kind Step PlainKind Expr Arms Expr Expr Operand Expr Expr Expr Operand Expr Operand Expr Operand Expr Expr Args Expr NamedArg Expr Suffix Length PlainForm TypeForm term_kind_step unary_operand_step args_kind_step atom_kind_step suffix_kind_step plain_kind_step and_step arms_step expr_step less_step less_rest_step or_step power_step prod_step prod_rest_step same_step same_rest_step sum_step sum_rest_step term_step unary_step args_step atom_step named_arg_step post_step suffix_step dimension_step plain_step type_expr_step (SuffixKind-F.Member n)

pub suffix_call : (a : ArgsNode) → plain_suffix_kind (suffix_kinds.Call a) ≡ Call (plain_args a)
unfolding plain_suffix_kind plain_args
suffix_call a = ap plain_suffix_kind (sym (suffix_kinds.rolls-Call a)) ∙ fold-roll-SuffixKind Expr Expr ArgsKind Kind Step PlainKind Expr Arms Expr Expr Operand Expr Expr Expr Operand Expr Operand Expr Operand Expr Expr Args Expr NamedArg Expr Suffix Length PlainForm TypeForm term_kind_step unary_operand_step args_kind_step atom_kind_step suffix_kind_step plain_kind_step and_step arms_step expr_step less_step less_rest_step or_step power_step prod_step prod_rest_step same_step same_rest_step sum_step sum_rest_step term_step unary_step args_step atom_step named_arg_step post_step suffix_step dimension_step plain_step type_expr_step (SuffixKind-F.Call a)

pub suffix_value : (e : ExprNode) → plain_suffix_kind (suffix_kinds.Value e) ≡ Value (plain_expr e)
unfolding plain_suffix_kind plain_expr
suffix_value e = ap plain_suffix_kind (sym (suffix_kinds.rolls-Value e)) ∙ fold-roll-SuffixKind Expr Expr ArgsKind Kind Step PlainKind Expr Arms Expr Expr Operand Expr Expr Expr Operand Expr Operand Expr Operand Expr Expr Args Expr NamedArg Expr Suffix Length PlainForm TypeForm term_kind_step unary_operand_step args_kind_step atom_kind_step suffix_kind_step plain_kind_step and_step arms_step expr_step less_step less_rest_step or_step power_step prod_step prod_rest_step same_step same_rest_step sum_step sum_rest_step term_step unary_step args_step atom_step named_arg_step post_step suffix_step dimension_step plain_step type_expr_step (SuffixKind-F.Value e)

pub suffix_increment : plain_suffix_kind suffix_kinds.Increment ≡ Increment
unfolding plain_suffix_kind
suffix_increment = ap plain_suffix_kind (sym suffix_kinds.rolls-Increment) ∙ fold-roll-SuffixKind Expr Expr ArgsKind Kind Step PlainKind Expr Arms Expr Expr Operand Expr Expr Expr Operand Expr Operand Expr Operand Expr Expr Args Expr NamedArg Expr Suffix Length PlainForm TypeForm term_kind_step unary_operand_step args_kind_step atom_kind_step suffix_kind_step plain_kind_step and_step arms_step expr_step less_step less_rest_step or_step power_step prod_step prod_rest_step same_step same_rest_step sum_step sum_rest_step term_step unary_step args_step atom_step named_arg_step post_step suffix_step dimension_step plain_step type_expr_step SuffixKind-F.Increment

pub suffix_decrement : plain_suffix_kind suffix_kinds.Decrement ≡ Decrement
unfolding plain_suffix_kind
suffix_decrement = ap plain_suffix_kind (sym suffix_kinds.rolls-Decrement) ∙ fold-roll-SuffixKind Expr Expr ArgsKind Kind Step PlainKind Expr Arms Expr Expr Operand Expr Expr Expr Operand Expr Operand Expr Operand Expr Expr Args Expr NamedArg Expr Suffix Length PlainForm TypeForm term_kind_step unary_operand_step args_kind_step atom_kind_step suffix_kind_step plain_kind_step and_step arms_step expr_step less_step less_rest_step or_step power_step prod_step prod_rest_step same_step same_rest_step sum_step sum_rest_step term_step unary_step args_step atom_step named_arg_step post_step suffix_step dimension_step plain_step type_expr_step SuffixKind-F.Decrement

pub atom_number : (n : ℕ) → (u : Option Unit10) → plain_atom_kind (atom_kinds.Number n u) ≡ Number n u
unfolding plain_atom_kind
atom_number n u = ap plain_atom_kind (sym (atom_kinds.rolls-Number n u)) ∙ fold-roll-AtomKind Expr Expr ArgsKind Kind Step PlainKind Expr Arms Expr Expr Operand Expr Expr Expr Operand Expr Operand Expr Operand Expr Expr Args Expr NamedArg Expr Suffix Length PlainForm TypeForm term_kind_step unary_operand_step args_kind_step atom_kind_step suffix_kind_step plain_kind_step and_step arms_step expr_step less_step less_rest_step or_step power_step prod_step prod_rest_step same_step same_rest_step sum_step sum_rest_step term_step unary_step args_step atom_step named_arg_step post_step suffix_step dimension_step plain_step type_expr_step (AtomKind-F.Number n u)

pub atom_hexadecimal : (n : ℕ) → plain_atom_kind (atom_kinds.Hexadecimal n) ≡ Hexadecimal n
unfolding plain_atom_kind
atom_hexadecimal n = ap plain_atom_kind (sym (atom_kinds.rolls-Hexadecimal n)) ∙ fold-roll-AtomKind Expr Expr ArgsKind Kind Step PlainKind Expr Arms Expr Expr Operand Expr Expr Expr Operand Expr Operand Expr Operand Expr Expr Args Expr NamedArg Expr Suffix Length PlainForm TypeForm term_kind_step unary_operand_step args_kind_step atom_kind_step suffix_kind_step plain_kind_step and_step arms_step expr_step less_step less_rest_step or_step power_step prod_step prod_rest_step same_step same_rest_step sum_step sum_rest_step term_step unary_step args_step atom_step named_arg_step post_step suffix_step dimension_step plain_step type_expr_step (AtomKind-F.Hexadecimal n)

pub atom_string : (n : ℕ) → plain_atom_kind (atom_kinds.String n) ≡ Text n
unfolding plain_atom_kind
atom_string n = ap plain_atom_kind (sym (atom_kinds.rolls-String n)) ∙ fold-roll-AtomKind Expr Expr ArgsKind Kind Step PlainKind Expr Arms Expr Expr Operand Expr Expr Expr Operand Expr Operand Expr Operand Expr Expr Args Expr NamedArg Expr Suffix Length PlainForm TypeForm term_kind_step unary_operand_step args_kind_step atom_kind_step suffix_kind_step plain_kind_step and_step arms_step expr_step less_step less_rest_step or_step power_step prod_step prod_rest_step same_step same_rest_step sum_step sum_rest_step term_step unary_step args_step atom_step named_arg_step post_step suffix_step dimension_step plain_step type_expr_step (AtomKind-F.AtomKind::String n)

pub atom_name : (n : ℕ) → plain_atom_kind (atom_kinds.Name n) ≡ Name n
unfolding plain_atom_kind
atom_name n = ap plain_atom_kind (sym (atom_kinds.rolls-Name n)) ∙ fold-roll-AtomKind Expr Expr ArgsKind Kind Step PlainKind Expr Arms Expr Expr Operand Expr Expr Expr Operand Expr Operand Expr Operand Expr Expr Args Expr NamedArg Expr Suffix Length PlainForm TypeForm term_kind_step unary_operand_step args_kind_step atom_kind_step suffix_kind_step plain_kind_step and_step arms_step expr_step less_step less_rest_step or_step power_step prod_step prod_rest_step same_step same_rest_step sum_step sum_rest_step term_step unary_step args_step atom_step named_arg_step post_step suffix_step dimension_step plain_step type_expr_step (AtomKind-F.Name n)

pub atom_elementary : (n : ℕ) → plain_atom_kind (atom_kinds.Elementary n) ≡ Elementary n
unfolding plain_atom_kind
atom_elementary n = ap plain_atom_kind (sym (atom_kinds.rolls-Elementary n)) ∙ fold-roll-AtomKind Expr Expr ArgsKind Kind Step PlainKind Expr Arms Expr Expr Operand Expr Expr Expr Operand Expr Operand Expr Operand Expr Expr Args Expr NamedArg Expr Suffix Length PlainForm TypeForm term_kind_step unary_operand_step args_kind_step atom_kind_step suffix_kind_step plain_kind_step and_step arms_step expr_step less_step less_rest_step or_step power_step prod_step prod_rest_step same_step same_rest_step sum_step sum_rest_step term_step unary_step args_step atom_step named_arg_step post_step suffix_step dimension_step plain_step type_expr_step (AtomKind-F.AtomKind::Elementary n)

pub atom_true : plain_atom_kind atom_kinds.True ≡ Truth true
unfolding plain_atom_kind
atom_true = ap plain_atom_kind (sym atom_kinds.rolls-True) ∙ fold-roll-AtomKind Expr Expr ArgsKind Kind Step PlainKind Expr Arms Expr Expr Operand Expr Expr Expr Operand Expr Operand Expr Operand Expr Expr Args Expr NamedArg Expr Suffix Length PlainForm TypeForm term_kind_step unary_operand_step args_kind_step atom_kind_step suffix_kind_step plain_kind_step and_step arms_step expr_step less_step less_rest_step or_step power_step prod_step prod_rest_step same_step same_rest_step sum_step sum_rest_step term_step unary_step args_step atom_step named_arg_step post_step suffix_step dimension_step plain_step type_expr_step AtomKind-F.True

pub atom_false : plain_atom_kind atom_kinds.False ≡ Truth false
unfolding plain_atom_kind
atom_false = ap plain_atom_kind (sym atom_kinds.rolls-False) ∙ fold-roll-AtomKind Expr Expr ArgsKind Kind Step PlainKind Expr Arms Expr Expr Operand Expr Expr Expr Operand Expr Operand Expr Operand Expr Expr Args Expr NamedArg Expr Suffix Length PlainForm TypeForm term_kind_step unary_operand_step args_kind_step atom_kind_step suffix_kind_step plain_kind_step and_step arms_step expr_step less_step less_rest_step or_step power_step prod_step prod_rest_step same_step same_rest_step sum_step sum_rest_step term_step unary_step args_step atom_step named_arg_step post_step suffix_step dimension_step plain_step type_expr_step AtomKind-F.False

pub atom_address : plain_atom_kind atom_kinds.Address ≡ Address
unfolding plain_atom_kind
atom_address = ap plain_atom_kind (sym atom_kinds.rolls-Address) ∙ fold-roll-AtomKind Expr Expr ArgsKind Kind Step PlainKind Expr Arms Expr Expr Operand Expr Expr Expr Operand Expr Operand Expr Operand Expr Expr Args Expr NamedArg Expr Suffix Length PlainForm TypeForm term_kind_step unary_operand_step args_kind_step atom_kind_step suffix_kind_step plain_kind_step and_step arms_step expr_step less_step less_rest_step or_step power_step prod_step prod_rest_step same_step same_rest_step sum_step sum_rest_step term_step unary_step args_step atom_step named_arg_step post_step suffix_step dimension_step plain_step type_expr_step AtomKind-F.AtomKind::Address

pub atom_payable : plain_atom_kind atom_kinds.Payable ≡ Payable
unfolding plain_atom_kind
atom_payable = ap plain_atom_kind (sym atom_kinds.rolls-Payable) ∙ fold-roll-AtomKind Expr Expr ArgsKind Kind Step PlainKind Expr Arms Expr Expr Operand Expr Expr Expr Operand Expr Operand Expr Operand Expr Expr Args Expr NamedArg Expr Suffix Length PlainForm TypeForm term_kind_step unary_operand_step args_kind_step atom_kind_step suffix_kind_step plain_kind_step and_step arms_step expr_step less_step less_rest_step or_step power_step prod_step prod_rest_step same_step same_rest_step sum_step sum_rest_step term_step unary_step args_step atom_step named_arg_step post_step suffix_step dimension_step plain_step type_expr_step AtomKind-F.Payable

pub atom_super : plain_atom_kind atom_kinds.Super ≡ Super
unfolding plain_atom_kind
atom_super = ap plain_atom_kind (sym atom_kinds.rolls-Super) ∙ fold-roll-AtomKind Expr Expr ArgsKind Kind Step PlainKind Expr Arms Expr Expr Operand Expr Expr Expr Operand Expr Operand Expr Operand Expr Expr Args Expr NamedArg Expr Suffix Length PlainForm TypeForm term_kind_step unary_operand_step args_kind_step atom_kind_step suffix_kind_step plain_kind_step and_step arms_step expr_step less_step less_rest_step or_step power_step prod_step prod_rest_step same_step same_rest_step sum_step sum_rest_step term_step unary_step args_step atom_step named_arg_step post_step suffix_step dimension_step plain_step type_expr_step AtomKind-F.Super

pub atom_this : plain_atom_kind atom_kinds.This ≡ This
unfolding plain_atom_kind
atom_this = ap plain_atom_kind (sym atom_kinds.rolls-This) ∙ fold-roll-AtomKind Expr Expr ArgsKind Kind Step PlainKind Expr Arms Expr Expr Operand Expr Expr Expr Operand Expr Operand Expr Operand Expr Expr Args Expr NamedArg Expr Suffix Length PlainForm TypeForm term_kind_step unary_operand_step args_kind_step atom_kind_step suffix_kind_step plain_kind_step and_step arms_step expr_step less_step less_rest_step or_step power_step prod_step prod_rest_step same_step same_rest_step sum_step sum_rest_step term_step unary_step args_step atom_step named_arg_step post_step suffix_step dimension_step plain_step type_expr_step AtomKind-F.This

pub atom_type : (t : TypeExprNode) → plain_atom_kind (atom_kinds.«Type» t) ≡ OfType (plain_type_expr t)
unfolding plain_atom_kind plain_type_expr
atom_type t = ap plain_atom_kind (sym (atom_kinds.rolls-Type t)) ∙ fold-roll-AtomKind Expr Expr ArgsKind Kind Step PlainKind Expr Arms Expr Expr Operand Expr Expr Expr Operand Expr Operand Expr Operand Expr Expr Args Expr NamedArg Expr Suffix Length PlainForm TypeForm term_kind_step unary_operand_step args_kind_step atom_kind_step suffix_kind_step plain_kind_step and_step arms_step expr_step less_step less_rest_step or_step power_step prod_step prod_rest_step same_step same_rest_step sum_step sum_rest_step term_step unary_step args_step atom_step named_arg_step post_step suffix_step dimension_step plain_step type_expr_step (AtomKind-F.«Type» t)

pub atom_new : (t : TypeExprNode) → plain_atom_kind (atom_kinds.New t) ≡ New (plain_type_expr t)
unfolding plain_atom_kind plain_type_expr
atom_new t = ap plain_atom_kind (sym (atom_kinds.rolls-New t)) ∙ fold-roll-AtomKind Expr Expr ArgsKind Kind Step PlainKind Expr Arms Expr Expr Operand Expr Expr Expr Operand Expr Operand Expr Operand Expr Expr Args Expr NamedArg Expr Suffix Length PlainForm TypeForm term_kind_step unary_operand_step args_kind_step atom_kind_step suffix_kind_step plain_kind_step and_step arms_step expr_step less_step less_rest_step or_step power_step prod_step prod_rest_step same_step same_rest_step sum_step sum_rest_step term_step unary_step args_step atom_step named_arg_step post_step suffix_step dimension_step plain_step type_expr_step (AtomKind-F.New t)

pub atom_paren : (e : ExprNode) → plain_atom_kind (atom_kinds.Paren e) ≡ Paren (plain_expr e)
unfolding plain_atom_kind plain_expr
atom_paren e = ap plain_atom_kind (sym (atom_kinds.rolls-Paren e)) ∙ fold-roll-AtomKind Expr Expr ArgsKind Kind Step PlainKind Expr Arms Expr Expr Operand Expr Expr Expr Operand Expr Operand Expr Operand Expr Expr Args Expr NamedArg Expr Suffix Length PlainForm TypeForm term_kind_step unary_operand_step args_kind_step atom_kind_step suffix_kind_step plain_kind_step and_step arms_step expr_step less_step less_rest_step or_step power_step prod_step prod_rest_step same_step same_rest_step sum_step sum_rest_step term_step unary_step args_step atom_step named_arg_step post_step suffix_step dimension_step plain_step type_expr_step (AtomKind-F.Paren e)

pub args_positional : (es : List ExprNode) → plain_args_kind (args_kinds.Positional es) ≡ Positional (exprs (map plain_expr es))
unfolding plain_args_kind plain_expr
args_positional es = ap plain_args_kind (sym (args_kinds.rolls-Positional es)) ∙ fold-roll-ArgsKind Expr Expr ArgsKind Kind Step PlainKind Expr Arms Expr Expr Operand Expr Expr Expr Operand Expr Operand Expr Operand Expr Expr Args Expr NamedArg Expr Suffix Length PlainForm TypeForm term_kind_step unary_operand_step args_kind_step atom_kind_step suffix_kind_step plain_kind_step and_step arms_step expr_step less_step less_rest_step or_step power_step prod_step prod_rest_step same_step same_rest_step sum_step sum_rest_step term_step unary_step args_step atom_step named_arg_step post_step suffix_step dimension_step plain_step type_expr_step (ArgsKind-F.Positional es)

pub args_named : (es : List NamedArgNode) → plain_args_kind (args_kinds.Named es) ≡ Named (named_args (map plain_named_arg es))
unfolding plain_args_kind plain_named_arg
args_named es = ap plain_args_kind (sym (args_kinds.rolls-Named es)) ∙ fold-roll-ArgsKind Expr Expr ArgsKind Kind Step PlainKind Expr Arms Expr Expr Operand Expr Expr Expr Operand Expr Operand Expr Operand Expr Expr Args Expr NamedArg Expr Suffix Length PlainForm TypeForm term_kind_step unary_operand_step args_kind_step atom_kind_step suffix_kind_step plain_kind_step and_step arms_step expr_step less_step less_rest_step or_step power_step prod_step prod_rest_step same_step same_rest_step sum_step sum_rest_step term_step unary_step args_step atom_step named_arg_step post_step suffix_step dimension_step plain_step type_expr_step (ArgsKind-F.ArgsKind::Named es)

pub kind_elementary : (n : ℕ) → plain_plain_kind (plain_kinds.Elementary n) ≡ ElementaryType n
unfolding plain_plain_kind
kind_elementary n = ap plain_plain_kind (sym (plain_kinds.rolls-Elementary n)) ∙ fold-roll-PlainKind Expr Expr ArgsKind Kind Step PlainKind Expr Arms Expr Expr Operand Expr Expr Expr Operand Expr Operand Expr Operand Expr Expr Args Expr NamedArg Expr Suffix Length PlainForm TypeForm term_kind_step unary_operand_step args_kind_step atom_kind_step suffix_kind_step plain_kind_step and_step arms_step expr_step less_step less_rest_step or_step power_step prod_step prod_rest_step same_step same_rest_step sum_step sum_rest_step term_step unary_step args_step atom_step named_arg_step post_step suffix_step dimension_step plain_step type_expr_step (PlainKind-F.PlainKind::Elementary n)

pub kind_address : (b : Bool) → plain_plain_kind (plain_kinds.Address b) ≡ AddressType b
unfolding plain_plain_kind
kind_address b = ap plain_plain_kind (sym (plain_kinds.rolls-Address b)) ∙ fold-roll-PlainKind Expr Expr ArgsKind Kind Step PlainKind Expr Arms Expr Expr Operand Expr Expr Expr Operand Expr Operand Expr Operand Expr Expr Args Expr NamedArg Expr Suffix Length PlainForm TypeForm term_kind_step unary_operand_step args_kind_step atom_kind_step suffix_kind_step plain_kind_step and_step arms_step expr_step less_step less_rest_step or_step power_step prod_step prod_rest_step same_step same_rest_step sum_step sum_rest_step term_step unary_step args_step atom_step named_arg_step post_step suffix_step dimension_step plain_step type_expr_step (PlainKind-F.PlainKind::Address b)

pub kind_string : plain_plain_kind plain_kinds.String ≡ StringType
unfolding plain_plain_kind
kind_string = ap plain_plain_kind (sym plain_kinds.rolls-String) ∙ fold-roll-PlainKind Expr Expr ArgsKind Kind Step PlainKind Expr Arms Expr Expr Operand Expr Expr Expr Operand Expr Operand Expr Operand Expr Expr Args Expr NamedArg Expr Suffix Length PlainForm TypeForm term_kind_step unary_operand_step args_kind_step atom_kind_step suffix_kind_step plain_kind_step and_step arms_step expr_step less_step less_rest_step or_step power_step prod_step prod_rest_step same_step same_rest_step sum_step sum_rest_step term_step unary_step args_step atom_step named_arg_step post_step suffix_step dimension_step plain_step type_expr_step PlainKind-F.PlainKind::String

pub kind_named : (n : ℕ) → (m : Option ℕ) → plain_plain_kind (plain_kinds.Named n m) ≡ NamedType n m
unfolding plain_plain_kind
kind_named n m = ap plain_plain_kind (sym (plain_kinds.rolls-Named n m)) ∙ fold-roll-PlainKind Expr Expr ArgsKind Kind Step PlainKind Expr Arms Expr Expr Operand Expr Expr Expr Operand Expr Operand Expr Operand Expr Expr Args Expr NamedArg Expr Suffix Length PlainForm TypeForm term_kind_step unary_operand_step args_kind_step atom_kind_step suffix_kind_step plain_kind_step and_step arms_step expr_step less_step less_rest_step or_step power_step prod_step prod_rest_step same_step same_rest_step sum_step sum_rest_step term_step unary_step args_step atom_step named_arg_step post_step suffix_step dimension_step plain_step type_expr_step (PlainKind-F.PlainKind::Named n m)

pub kind_mapping : (k : TypeExprNode) → (kn : Option ℕ) → (v : TypeExprNode) → (vn : Option ℕ) → plain_plain_kind (plain_kinds.Mapping k kn v vn) ≡ MappingType (plain_type_expr k) kn (plain_type_expr v) vn
unfolding plain_plain_kind plain_type_expr
kind_mapping k kn v vn = ap plain_plain_kind (sym (plain_kinds.rolls-Mapping k kn v vn)) ∙ fold-roll-PlainKind Expr Expr ArgsKind Kind Step PlainKind Expr Arms Expr Expr Operand Expr Expr Expr Operand Expr Operand Expr Operand Expr Expr Args Expr NamedArg Expr Suffix Length PlainForm TypeForm term_kind_step unary_operand_step args_kind_step atom_kind_step suffix_kind_step plain_kind_step and_step arms_step expr_step less_step less_rest_step or_step power_step prod_step prod_rest_step same_step same_rest_step sum_step sum_rest_step term_step unary_step args_step atom_step named_arg_step post_step suffix_step dimension_step plain_step type_expr_step (PlainKind-F.Mapping k kn v vn)

pub ruleset parts = (suffix_at, args_at, named_arg_at, type_at, dimension_open, dimension_of, plain_at, operand_unary, operand_post, suffix_index, suffix_member, suffix_call, suffix_value, suffix_increment, suffix_decrement, args_positional, args_named, kind_elementary, kind_address, kind_string, kind_named, kind_mapping)

pub ruleset views = (expr_one, arms_true, arms_false, expr_choice, or_one, or_chain, and_one, and_chain, same_one, same_chain, same_rest_at, less_one, less_chain, less_rest_at, sum_one, sum_chain, sum_rest_at, prod_one, prod_chain, prod_rest_at, term_at, unary_at, power_one, power_raised, post_one, post_applied, suffix_at, atom_at, args_at, named_arg_at, type_at, dimension_open, dimension_of, plain_at, term_unary, term_power, operand_unary, operand_post, suffix_index, suffix_member, suffix_call, suffix_value, suffix_increment, suffix_decrement, atom_number, atom_hexadecimal, atom_string, atom_name, atom_elementary, atom_true, atom_false, atom_address, atom_payable, atom_super, atom_this, atom_type, atom_new, atom_paren, args_positional, args_named, kind_elementary, kind_address, kind_string, kind_named, kind_mapping)
