use Rattle.std.proofs.Common.{refl, ◌∙◌}
use Rattle.sv_log.specs.LogEntries.{AddFact}
use Rattle.sv_force.specs.InForce.{FactOn}
use Rattle.sv_checker.proofs.Keeping.{over, item_room, kept_held, sound_fact, rejects, accepts_held}
use Rattle.sv_checker.proofs.checker.Checker.fact.Goals as goal

pub by_its_rule-requires-clause-flags : goal.by_its_rule-requires-clause-flags
by_its_rule-requires-clause-flags c = c.deref.ensures.value ∙ c.self.invariant.beside.plain

pub by_its_rule-requires-clause-over : goal.by_its_rule-requires-clause-over
by_its_rule-requires-clause-over c = over c.self.inside.terms c.self.inside.forms c.self.inside.flags.items _ _ c.self.inside.branch c.self.invariant

pub same-self : goal.same-self
same-self c = refl

pub push_fact-requires : goal.push_fact-requires
push_fact-requires c = item_room c.self.inside.terms c.self.inside.forms c.self.inside.flags.items _ _ c.self.inside.branch c.self.invariant (FactOn c.args.sign c.args.n) (AddFact c.args.rule c.args.sign c.args.n c.args.from.now) refl c.args.self.now c.self.view_is c.requires

pub invariant_of-self : goal.invariant_of-self
invariant_of-self c = kept_held c.self.inside.terms c.self.inside.forms c.self.inside.flags.items _ _ c.self.inside.branch c.self.invariant (FactOn c.args.sign c.args.n) (AddFact c.args.rule c.args.sign c.args.n c.args.from.now) refl c.args.self.now c.self.view_is c.push_fact.new.self c.push_fact.ensures c.requires (sound_fact c.self.inside.terms c.self.inside.forms c.self.inside.flags.items _ _ c.self.inside.branch c.self.invariant c.args.rule c.args.sign c.args.n c.args.from.now c.in-None.ensures)

pub returns-in-Some : goal.returns-in-Some
returns-in-Some c = rejects c.self.inside.terms c.self.inside.forms c.self.inside.flags.items _ _ c.self.inside.branch c.self.invariant c.args.self.now c.self.view_is (AddFact c.args.rule c.args.sign c.args.n c.args.from.now) c.in-Some.why c.in-Some.ensures

pub returns-in-None : goal.returns-in-None
returns-in-None c = accepts_held c.self.inside.terms c.self.inside.forms c.self.inside.flags.items _ _ c.self.inside.branch c.self.invariant (FactOn c.args.sign c.args.n) (AddFact c.args.rule c.args.sign c.args.n c.args.from.now) refl c.args.self.now c.self.view_is c.push_fact.new.self c.push_fact.ensures c.is_nested.ensures c.in-None.ensures refl
