use Rattle.std.proofs.Common.{ℕ, ◌≡◌, length}
use Rattle.sv_pattern.proofs.NumberedTrees.{not_only}
use Rattle.sv_pattern.proofs.related.only_argument.Goals as goal

pub returns-else-args-eq1 : goal.returns-else-args-eq1
returns-else-args-eq1 g c = not_only (g.T.TermNumbers.trees c.args.terms.now) c.args-args.result.now c.args.m c.args-args.ensures c.if-args-eq1.false
