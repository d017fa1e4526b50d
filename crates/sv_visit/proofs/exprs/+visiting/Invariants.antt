use Rattle.std.proofs.Common.{◌≡◌, ◌+◌, ◌*◌, ◌≤◌, drop, map}
use Rattle.sv_plain.specs.PlainExprs.{operands, suffixes, exprs, named_args, lengths}
use Rattle.sv_plain.specs.ExprFolds.{plain_suffix, plain_args, plain_args_kind, plain_expr, plain_named_arg, plain_type_expr, plain_plain, plain_plain_kind, plain_dimension}
use Rattle.sv_plain.specs.ShownExprs.{expr_of, rest_of, kind_of}
use Rattle.sv_plain.proofs.Sizes.{size, kind_size, operands_size, suffixes_size, suffix_size, args_size, args_kind_size, exprs_size, named_args_size, named_arg_size, type_size, plain_form_size, plain_kind_size, lengths_size, length_size}
use Rattle.sv_book.specs.Visits.{visit_in}
use Rattle.sv_visit.specs.ExprSites.{rest_walk, suffix_list, expr_list, named_list, length_list}
use Rattle.sv_visit.proofs.exprs.+visiting.Given as goal

abbrev pub decreases-walk_expr : goal.decreases-walk_expr
decreases-walk_expr g l = 3 * size (expr_of l.e) + 1

abbrev pub decreases-walk_kind : goal.decreases-walk_kind
decreases-walk_kind g l = 3 * kind_size (kind_of l.k)

abbrev pub decreases-walk_two : goal.decreases-walk_two
decreases-walk_two g l = 3 * (size (expr_of l.a) + size (expr_of l.b)) + 2

abbrev pub decreases-walk_rest : goal.decreases-walk_rest
decreases-walk_rest g l = 3 * operands_size (operands (rest_of l.rest))

abbrev pub decreases-walk_suffixes : goal.decreases-walk_suffixes
decreases-walk_suffixes g l = 3 * suffixes_size (suffixes (map plain_suffix l.list.now))

abbrev pub decreases-walk_suffix : goal.decreases-walk_suffix
decreases-walk_suffix g l = 3 * suffix_size (plain_suffix l.s.now)

abbrev pub decreases-walk_args : goal.decreases-walk_args
decreases-walk_args g l = 3 * args_size (plain_args l.args.now)

abbrev pub decreases-walk_args_kind : goal.decreases-walk_args_kind
decreases-walk_args_kind g l = 3 * args_kind_size (plain_args_kind l.k.now)

abbrev pub decreases-walk_exprs : goal.decreases-walk_exprs
decreases-walk_exprs g l = 3 * exprs_size (exprs (map plain_expr l.list.now))

abbrev pub decreases-walk_named : goal.decreases-walk_named
decreases-walk_named g l = 3 * named_args_size (named_args (map plain_named_arg l.list.now))

abbrev pub decreases-walk_named_arg : goal.decreases-walk_named_arg
decreases-walk_named_arg g l = 3 * named_arg_size (plain_named_arg l.a.now)

abbrev pub decreases-walk_type : goal.decreases-walk_type
decreases-walk_type g l = 3 * type_size (plain_type_expr l.t.now)

abbrev pub decreases-walk_plain_kind : goal.decreases-walk_plain_kind
decreases-walk_plain_kind g l = 3 * plain_kind_size (plain_plain_kind l.k.now)

abbrev pub decreases-walk_plain : goal.decreases-walk_plain
decreases-walk_plain g l = 3 * plain_form_size (plain_plain l.p.now)

abbrev pub decreases-walk_lengths : goal.decreases-walk_lengths
decreases-walk_lengths g l = 3 * lengths_size (lengths (map plain_dimension l.list.now))

abbrev pub decreases-walk_length : goal.decreases-walk_length
decreases-walk_length g l = 3 * length_size (plain_dimension l.d.now)

abbrev pub decreases-walk_rest-operands : goal.decreases-walk_rest-operands
decreases-walk_rest-operands g l = operands_size (operands (rest_of l.left))

abbrev pub invariant-walk_rest-operands : goal.invariant-walk_rest-operands
invariant-walk_rest-operands g l =
    (visit_in g.J.Judge.book (rest_walk l.left) (g.J.Judge.state l.j) ≡ visit_in g.J.Judge.book (rest_walk l.fn.rest) (g.J.Judge.state l.fn.j))
    × (operands_size (operands (rest_of l.left)) ≤ operands_size (operands (rest_of l.fn.rest)))

abbrev pub invariant-walk_suffixes-loop-s : goal.invariant-walk_suffixes-loop-s
invariant-walk_suffixes-loop-s g l =
    (visit_in g.J.Judge.book (suffix_list (drop l.s-index l.list)) (g.J.Judge.state l.j) ≡ visit_in g.J.Judge.book (suffix_list l.list) (g.J.Judge.state l.fn.j))
    × (suffixes_size (suffixes (map plain_suffix (drop l.s-index l.list))) ≤ suffixes_size (suffixes (map plain_suffix l.list)))

abbrev pub invariant-walk_exprs-loop-e : goal.invariant-walk_exprs-loop-e
invariant-walk_exprs-loop-e g l =
    (visit_in g.J.Judge.book (expr_list (drop l.e-index l.list)) (g.J.Judge.state l.j) ≡ visit_in g.J.Judge.book (expr_list l.list) (g.J.Judge.state l.fn.j))
    × (exprs_size (exprs (map plain_expr (drop l.e-index l.list))) ≤ exprs_size (exprs (map plain_expr l.list)))

abbrev pub invariant-walk_named-loop-a : goal.invariant-walk_named-loop-a
invariant-walk_named-loop-a g l =
    (visit_in g.J.Judge.book (named_list (drop l.a-index l.list)) (g.J.Judge.state l.j) ≡ visit_in g.J.Judge.book (named_list l.list) (g.J.Judge.state l.fn.j))
    × (named_args_size (named_args (map plain_named_arg (drop l.a-index l.list))) ≤ named_args_size (named_args (map plain_named_arg l.list)))

abbrev pub invariant-walk_lengths-loop-d : goal.invariant-walk_lengths-loop-d
invariant-walk_lengths-loop-d g l =
    (visit_in g.J.Judge.book (length_list (drop l.d-index l.list)) (g.J.Judge.state l.j) ≡ visit_in g.J.Judge.book (length_list l.list) (g.J.Judge.state l.fn.j))
    × (lengths_size (lengths (map plain_dimension (drop l.d-index l.list))) ≤ lengths_size (lengths (map plain_dimension l.list)))
