use Rattle.std.proofs.Common.{◌++◌, ◌∷◌, ◌∙◌, sym, ap}
use Rattle.sv_log.specs.LogEntries.{TermsSlot}
use Rattle.sv_cert.specs.LogText.{part_word}
use Rattle.sv_cert.specs.PlainNodes.{plain_part}
use Rattle.sv_cert.proofs.Writers.{flat_all, spaced_both}
use Rattle.sv_cert.proofs.text.add_terms.Goals as goal

pub returns : goal.returns
returns c =
    flat_all (λ p. 32 ∷ part_word TermsSlot (plain_part p)) c.args.parts.now c.loop-part.part-index c.args.text.now.items c.loop-part.text.items c.loop-part-test.false c.loop-part.invariant
    ∙ ap (λ w. c.args.text.now.items ++ w) (sym (spaced_both (part_word TermsSlot) plain_part c.args.parts.now))
