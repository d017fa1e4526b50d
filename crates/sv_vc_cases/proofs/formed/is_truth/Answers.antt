use Rattle.std.proofs.Common.{◌∙◌, sym, arith}
use Rattle.sv_vc_cases.proofs.formed.is_truth.Goals as goal

pub returns : goal.returns
returns c h = record { within = omega arith; truth = sym c.sort_of.ensures.kind.is ∙ c.is_bool_sort.ensures h }
