use Rattle.std.proofs.Common.{arith}
use Rattle.sv_row.specs.RowParts.{monomials}
use Rattle.sv_lin.proofs.Dividing.{no_divisor}
use Rattle.sv_lin.proofs.rounds.divisor_of.Goals as goal
use Rattle.sv_lin.proofs.rounds.divisor_of.Goals.{else-greatest-ge2-via-then-greatest-ge2+else-greatest, else-greatest-ge2-via-else-greatest-ge2}

pub returns-else-greatest-ge2 : goal.returns-else-greatest-ge2
returns-else-greatest-ge2 c =
    no_divisor (monomials c.args.parts.now) c.divisor-greatest.result c.divisor-greatest.ensures (λ h k. elim c.else-greatest-ge2.branch [
      | else-greatest-ge2-via-then-greatest-ge2+else-greatest w ↦ let a = w.if-greatest.false in omega (arith, h, k, a)
      | else-greatest-ge2-via-else-greatest-ge2 w ↦ let a = w.if-greatest-ge2.false in omega (arith, h, k, a)
    ])
