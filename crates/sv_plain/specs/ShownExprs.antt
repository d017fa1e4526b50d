-- Believed: the plain data of a view of an expression. Hold it against the types of `src/view.rt`, which has a reference in place of each part.
use Rattle.std.specs.Prelude.{Bool, true, false, List, [], ◌∷◌, map, Option, Some, None}
use Rattle.sv_plain.specs.declared.operator.Operator.TheVariants as op
use Rattle.sv_plain.specs.declared.view.Node.{Node as NodeView}
use Rattle.sv_plain.specs.declared.view.Node.TheVariants as node
use Rattle.sv_plain.specs.declared.view.Rest.{Rest}
use Rattle.sv_plain.specs.declared.view.Rest.TheVariants as rest
use Rattle.sv_plain.specs.declared.view.Kind.{Kind as KindView}
use Rattle.sv_plain.specs.declared.view.Kind.TheVariants as kind
use Rattle.sv_plain.specs.declared.view.View.{View}
use Rattle.sv_plain.specs.declared.view.Operation.{Operation}
use Rattle.sv_plain.specs.PlainExprs.{Expr, Node, Kind, Choice, Chain, Prefix, Power, Applied, Number, Hexadecimal, Text, Truth, Name, Elementary, Address, Payable, OfType, New, Super, This, Paren, Operand, Operated, operands, suffixes}
use Rattle.sv_plain.specs.ExprFolds.{plain_expr, plain_or, plain_and, plain_same, plain_less, plain_sum, plain_prod, plain_term, plain_unary, plain_power, plain_post, plain_atom, plain_unary_operand, plain_suffix, plain_type_expr, plain_same_rest, plain_less_rest, plain_sum_rest, plain_prod_rest}

-- whether a list has items
abbrev pub has_more : {X : Type 0} → List X → Bool
has_more [] = false
has_more (x ∷ xs) = true

abbrev pub expr_of : NodeView → Expr
expr_of (node.Expr e) = plain_expr e.now
expr_of (node.Or e) = plain_or e.now
expr_of (node.And e) = plain_and e.now
expr_of (node.Same e) = plain_same e.now
expr_of (node.Less e) = plain_less e.now
expr_of (node.Sum e) = plain_sum e.now
expr_of (node.Prod e) = plain_prod e.now
expr_of (node.Term e) = plain_term e.now
expr_of (node.Unary e) = plain_unary e.now
expr_of (node.Power e) = plain_power e.now
expr_of (node.Post e) = plain_post e.now
expr_of (node.Atom e) = plain_atom e.now

abbrev pub rest_of : Rest → List Operand
rest_of (rest.Or r) = map (λ x. Operated op.Or (plain_and x)) r.now
rest_of (rest.And r) = map (λ x. Operated op.And (plain_same x)) r.now
rest_of (rest.Same r) = map plain_same_rest r.now
rest_of (rest.Less r) = map plain_less_rest r.now
rest_of (rest.Sum r) = map plain_sum_rest r.now
rest_of (rest.Prod r) = map plain_prod_rest r.now

abbrev pub kind_of : KindView → Kind
kind_of (kind.Choice test if_true if_false) = Choice (plain_or test.now) (plain_expr if_true.now) (plain_expr if_false.now)
kind_of (kind.Chain first rest) = Chain (expr_of first) (operands (rest_of rest))
kind_of (kind.Prefix op operand) = Prefix op (plain_unary_operand operand.now)
kind_of (kind.Power base exponent) = Power (plain_post base.now) (plain_power exponent.now)
kind_of (kind.Applied head ss) = Applied (plain_atom head.now) (suffixes (map plain_suffix ss.now))
kind_of (kind.Number n u) = Number n.now u.now
kind_of (kind.Hexadecimal n) = Hexadecimal n.now
kind_of (kind.Text n) = Text n.now
kind_of (kind.Truth b) = Truth b
kind_of (kind.Name n) = Name n.now
kind_of (kind.Elementary n) = Elementary n.now
kind_of kind.Address = Address
kind_of kind.Payable = Payable
kind_of (kind.OfType t) = OfType (plain_type_expr t.now)
kind_of (kind.New t) = New (plain_type_expr t.now)
kind_of kind.Super = Super
kind_of kind.This = This
kind_of (kind.Paren e) = Paren (plain_expr e.now)

abbrev pub shown : View → Expr
shown v = Node v.spot (kind_of v.kind)

-- the operands that an operation shows, or none
abbrev pub operations : Option Operation → List Operand
operations None = []
operations (Some o) = Operated o.op (expr_of o.operand) ∷ rest_of o.rest
