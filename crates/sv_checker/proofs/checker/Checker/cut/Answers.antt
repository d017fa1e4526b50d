use Rattle.std.proofs.Common.{refl}
use Rattle.sv_log.specs.LogEntries.{Cut}
use Rattle.sv_checker.proofs.Keeping.{cut_half, kept_cut, rejects, accepts_cut}
use Rattle.sv_checker.proofs.checker.Checker.cut.Goals as goal

pub same-self : goal.same-self
same-self c = refl

pub cut-requires-in-None : goal.cut-requires-in-None
cut-requires-in-None c = cut_half c.self.inside.terms c.self.inside.forms c.self.inside.flags.items _ _ c.self.inside.branch c.self.invariant c.args.self.now c.self.view_is c.in-None.ensures

pub invariant_of-self : goal.invariant_of-self
invariant_of-self c = kept_cut c.self.inside.terms c.self.inside.forms c.self.inside.flags.items _ _ c.self.inside.branch c.self.invariant c.args.self.now c.self.view_is c.cut-in-None.new.self c.cut-in-None.ensures c.is_nested.ensures c.in-None.ensures

pub returns-in-Some : goal.returns-in-Some
returns-in-Some c = rejects c.self.inside.terms c.self.inside.forms c.self.inside.flags.items _ _ c.self.inside.branch c.self.invariant c.args.self.now c.self.view_is Cut c.in-Some.why c.in-Some.ensures

pub returns-in-None : goal.returns-in-None
returns-in-None c = accepts_cut c.self.inside.terms c.self.inside.forms c.self.inside.flags.items _ _ c.self.inside.branch c.self.invariant c.args.self.now c.self.view_is c.cut-in-None.new.self c.cut-in-None.ensures c.is_nested.ensures c.in-None.ensures
