use Rattle.std.proofs.Common.{inl, refl}
use Rattle.sv_lin.proofs.Making.{entered}
use Rattle.sv_lin.proofs.rounds.enter.Goals as goal

pub returns-then-holds : goal.returns-then-holds
returns-then-holds c = (c.requires.way, inl (refl, c.if-holds.ensures))

pub returns : goal.returns
returns c = entered c.add.result c.args.rows.now c.args.limit c.args.work.now.made.items c.add.new.self.made.items c.args.made c.add.ensures c.requires.way c.if-holds.ensures c.requires.sound
