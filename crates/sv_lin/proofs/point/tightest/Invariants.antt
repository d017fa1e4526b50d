use Rattle.std.proofs.Common.{ℕ, take}
use Rattle.std.specs.List.{Contains}
use Rattle.sv_lin.specs.UnderWay.{force}
use Rattle.sv_lin.specs.Placing.{point_of, IsAt, IsTightest, IsWithin}
use Rattle.sv_lin.proofs.point.tightest.Given as goal

abbrev pub invariant-loop-number : goal.invariant-loop-number
invariant-loop-number l = record {
  within : IsWithin l.best;
  tight : (x : ℕ) → ((p : ℕ) → Contains l.numbers p → IsAt (force l.rows l.work.made.items) x p)
      → IsTightest (force l.rows l.work.made.items) (point_of l.places) x l.side (take l.number-index l.numbers) l.best;
}
