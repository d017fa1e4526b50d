use Rattle.sv_by_rule.proofs.RuleLaw as law
use Rattle.sv_by_rule.proofs.laws.patterns_are_rules.Goals as goal

pub returns : goal.returns
returns c = law.patterns_are_rules
