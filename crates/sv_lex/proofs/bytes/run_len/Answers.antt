-- A byte that is passed over is of the class.
use Rattle.std.proofs.Common.{◌≡◌, true, sym, ◌∙◌}
use Rattle.std.proofs.lemmas.List.Elements.{All-more}
use Rattle.sv_lex.specs.ByteTests.{is_of}
use Rattle.sv_lex.proofs.bytes.run_len.Goals as goal

pub loop-i-preserved : goal.loop-i-preserved
loop-i-preserved c =
    All-more (λ x. is_of c.args.class x ≡ true) c.args.text.now c.loop-i.i 0 c.loop-i-test.true c.loop-i.invariant (sym c.has.ensures ∙ c.if-not-has.false)
