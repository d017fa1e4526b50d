use Rattle.std.proofs.Common.{refl, sym, ◌∙◌}
use Rattle.sv_ast.proofs.ClassLemmas.{passes, found_in, not_found_in}
use Rattle.sv_ast.proofs.class.find.Goals as goal

pub returns-then-eq : goal.returns-then-eq
returns-then-eq c = found_in c.args.table.now c.args.text.now c.loop-spelled.spelled-index _ c.loop-spelled-test.true c.loop-spelled.invariant (sym c.eq.ensures ∙ c.if-eq.true)

pub returns : goal.returns
returns c = not_found_in c.args.table.now c.args.text.now c.loop-spelled.spelled-index c.loop-spelled-test.false c.loop-spelled.invariant

pub loop-spelled-preserved : goal.loop-spelled-preserved
loop-spelled-preserved c = passes c.args.table.now c.args.text.now c.loop-spelled.spelled-index _ c.loop-spelled-test.true c.loop-spelled.invariant (sym c.eq.ensures ∙ c.if-eq.false)

pub loop-spelled-init : goal.loop-spelled-init
loop-spelled-init c = λ otherwise. refl
