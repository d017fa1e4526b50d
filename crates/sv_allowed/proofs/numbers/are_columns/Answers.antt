use Rattle.std.proofs.Common.{refl, arith}
use Rattle.sv_allowed.proofs.Columns.{some_column, each_column}
use Rattle.sv_allowed.proofs.numbers.are_columns.Goals as goal

pub returns-then-column-terms : goal.returns-then-column-terms
returns-then-column-terms c = (λ e. cc e, λ h. absurd (some_column c.args.parts.now c.args.terms c.loop-column.column-index c.loop-column-test.true c.if-column-terms.true h))

pub returns : goal.returns
returns c = (λ e. each_column c.args.parts.now c.args.terms (λ k l. let t = c.loop-column-test.false in c.loop-column.invariant k (omega (arith, l, t))), λ h. refl)
