use Rattle.std.proofs.Common.{sym, ap, ◌∙◌}
use Rattle.sv_term.specs.Sorts.{count}
use Rattle.sv_term.specs.Banks.{sort}
use Rattle.sv_term.specs.NodeKinds.{count_of}
use Rattle.sv_term.proofs.Wide.{count_parts}
use Rattle.sv_term.proofs.bank.Bank.part_count.Goals as goal

pub returns-in-Tup : goal.returns-in-Tup
returns-in-Tup c = sym (ap (count_of c.args.self.now) c.in-Tup.is ∙ (ap count c.sort_parts.ensures.parts ∙ count_parts (sort c.args.self.now) c.sort_parts.result.now))
