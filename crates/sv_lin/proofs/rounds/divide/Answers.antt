use Rattle.std.proofs.Common.{inl}
use Rattle.sv_lin.specs.UnderWay.{force, IsQuotient}
use Rattle.sv_lin.specs.Quotients.{HasNoQuotient}
use Rattle.sv_lin.proofs.Combining.{at_none, at_some}
use Rattle.sv_lin.proofs.Dividing.{none_divided}
use Rattle.sv_lin.proofs.Making.{divided_ends}
use Rattle.sv_lin.proofs.rounds.divide.Goals as goal

pub enter-requires-clause-sound : goal.enter-requires-clause-sound
enter-requires-clause-sound c =
    inl (c.args.number, at_some c.in_ok-made.made (HasNoQuotient (force c.args.rows.now c.args.work.now.made.items) c.args.number) (λ m. IsQuotient (force c.args.rows.now c.args.work.now.made.items) c.args.number m) c.in-Some.made c.in-Some.is c.in_ok-made.ensures)

pub returns-in-Some : goal.returns-in-Some
returns-in-Some c =
    divided_ends c.enter.result c.args.rows.now c.args.limit c.args.work.now.made.items c.enter.new.work.made.items c.in-Some.made c.args.number
    (at_some c.in_ok-made.made (HasNoQuotient (force c.args.rows.now c.args.work.now.made.items) c.args.number) (λ m. IsQuotient (force c.args.rows.now c.args.work.now.made.items) c.args.number m) c.in-Some.made c.in-Some.is c.in_ok-made.ensures)
    c.enter.ensures

pub returns-in-None : goal.returns-in-None
returns-in-None c = (
  c.requires.way,
  none_divided (force c.args.rows.now c.args.work.now.made.items) c.args.number
      (at_none c.in_ok-made.made (HasNoQuotient (force c.args.rows.now c.args.work.now.made.items) c.args.number) (λ m. IsQuotient (force c.args.rows.now c.args.work.now.made.items) c.args.number m) c.in-None.is c.in_ok-made.ensures),
)
