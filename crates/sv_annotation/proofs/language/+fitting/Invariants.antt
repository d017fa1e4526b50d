use Rattle.std.proofs.Common.{◌+◌, ◌*◌, map}
use Rattle.sv_plain.specs.PlainExprs.{operands, suffixes, exprs}
use Rattle.sv_plain.specs.ExprFolds.{plain_suffix, plain_args, plain_expr}
use Rattle.sv_plain.specs.ShownExprs.{expr_of, rest_of, kind_of}
use Rattle.sv_plain.proofs.Sizes.{size, kind_size, operands_size, suffixes_size, suffix_size, args_size, exprs_size}
use Rattle.sv_annotation.proofs.language.+fitting.Given as goal

abbrev pub decreases-fits : goal.decreases-fits
decreases-fits l = 3 * size (expr_of l.e) + 1

abbrev pub decreases-kind_fits : goal.decreases-kind_fits
decreases-kind_fits l = 3 * kind_size (kind_of l.k)

abbrev pub decreases-both_fit : goal.decreases-both_fit
decreases-both_fit l = 3 * (size (expr_of l.a) + size (expr_of l.b)) + 2

abbrev pub decreases-operands_fit : goal.decreases-operands_fit
decreases-operands_fit l = 3 * operands_size (operands (rest_of l.rest))

abbrev pub decreases-applied_fits : goal.decreases-applied_fits
decreases-applied_fits l = 3 * (size (expr_of l.e) + suffixes_size (suffixes (map plain_suffix l.list.now))) + 2

abbrev pub decreases-suffixes_fit : goal.decreases-suffixes_fit
decreases-suffixes_fit l = 3 * suffixes_size (suffixes (map plain_suffix l.list.now))

abbrev pub decreases-suffix_fits : goal.decreases-suffix_fits
decreases-suffix_fits l = 3 * suffix_size (plain_suffix l.s.now)

abbrev pub decreases-argument_fits : goal.decreases-argument_fits
decreases-argument_fits l = 3 * args_size (plain_args l.args.now)

abbrev pub decreases-one_fits : goal.decreases-one_fits
decreases-one_fits l = 3 * exprs_size (exprs (map plain_expr l.list.now))
