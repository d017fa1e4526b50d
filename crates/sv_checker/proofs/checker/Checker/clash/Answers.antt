use Rattle.std.proofs.Common.{refl}
use Rattle.sv_log.specs.LogEntries.{Clash}
use Rattle.sv_checker.proofs.Keeping.{over, kept_shut, rejects, accepts_shut}
use Rattle.sv_checker.proofs.checker.Checker.clash.Goals as goal

pub clash-requires : goal.clash-requires
clash-requires c = over c.self.inside.terms c.self.inside.forms c.self.inside.flags.items _ _ c.self.inside.branch c.self.invariant

pub same-self : goal.same-self
same-self c = refl

pub invariant_of-self : goal.invariant_of-self
invariant_of-self c = kept_shut c.self.inside.terms c.self.inside.forms c.self.inside.flags.items _ _ c.self.inside.branch c.self.invariant c.args.self.now c.self.view_is c.close.new.self c.close.ensures

pub returns-in-Some : goal.returns-in-Some
returns-in-Some c = rejects c.self.inside.terms c.self.inside.forms c.self.inside.flags.items _ _ c.self.inside.branch c.self.invariant c.args.self.now c.self.view_is (Clash c.args.p c.args.q) c.in-Some.why c.in-Some.ensures

pub returns-in-None : goal.returns-in-None
returns-in-None c = accepts_shut c.self.inside.terms c.self.inside.forms c.self.inside.flags.items _ _ c.self.inside.branch c.self.invariant c.args.self.now c.self.view_is c.close.new.self c.close.ensures (Clash c.args.p c.args.q) refl c.in-None.ensures refl
