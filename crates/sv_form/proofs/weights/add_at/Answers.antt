use Rattle.std.proofs.Common.{set, ap, rules}
use Rattle.std.proofs.lemmas.Int.{wraps}
use Rattle.sv_form.proofs.weights.add_at.Goals as goal

pub returns : goal.returns
returns c = ap (set c.args.weights.now c.args.n) (search (rules, wraps))
