use Rattle.std.proofs.Common.{refl}
use Rattle.sv_log.specs.LogEntries.{SplitOn}
use Rattle.sv_checker.proofs.Keeping.{over, split_items, split_room, kept_split, rejects, accepts_split}
use Rattle.sv_checker.proofs.checker.Checker.split.Goals as goal

pub split-requires : goal.split-requires
split-requires c = over c.self.inside.terms c.self.inside.forms c.self.inside.flags.items _ _ c.self.inside.branch c.self.invariant

pub same-self : goal.same-self
same-self c = refl

pub split-requires-in-None-clause-items : goal.split-requires-in-None-clause-items
split-requires-in-None-clause-items c = split_items c.self.inside.terms c.self.inside.forms c.self.inside.flags.items _ _ c.self.inside.branch c.self.invariant c.args.self.now c.self.view_is c.args.n c.requires

pub split-requires-in-None-clause-splits : goal.split-requires-in-None-clause-splits
split-requires-in-None-clause-splits c = split_room c.self.inside.terms c.self.inside.forms c.self.inside.flags.items _ _ c.self.inside.branch c.self.invariant c.args.self.now c.self.view_is c.args.n c.requires

pub invariant_of-self : goal.invariant_of-self
invariant_of-self c = kept_split c.self.inside.terms c.self.inside.forms c.self.inside.flags.items _ _ c.self.inside.branch c.self.invariant c.args.self.now c.self.view_is c.args.n c.split-in-None.new.self c.split-in-None.ensures c.requires c.in-None.ensures

pub returns-in-Some : goal.returns-in-Some
returns-in-Some c = rejects c.self.inside.terms c.self.inside.forms c.self.inside.flags.items _ _ c.self.inside.branch c.self.invariant c.args.self.now c.self.view_is (SplitOn c.args.n) c.in-Some.why c.in-Some.ensures

pub returns-in-None : goal.returns-in-None
returns-in-None c = accepts_split c.self.inside.terms c.self.inside.forms c.self.inside.flags.items _ _ c.self.inside.branch c.self.invariant c.args.self.now c.self.view_is c.args.n c.split-in-None.new.self c.split-in-None.ensures c.is_nested.ensures c.in-None.ensures
