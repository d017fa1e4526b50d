use Rattle.std.proofs.Common.{◌∙◌, rules}
use Rattle.std.proofs.lemmas.Iterator.Adapters.{YieldsList-from_rev_slice}
use Rattle.std.proofs.lemmas.Iterator.Search.{find_from_yields_List}
use Rattle.sv_rival.specs.Rivals.{has_rival}
use Rattle.sv_override.proofs.overriding.heir.Goals as goal

pub returns : goal.returns
returns c = c.copied.ensures ∙ find_from_yields_List (has_rival c.args.contracts.now c.args.f.now) _ _ c.find.result c.find.ensures.ran (YieldsList-from_rev_slice c.args.line.now cc) (λ x b q k. search rules)
