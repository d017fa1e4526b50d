use Rattle.std.proofs.Common.{◌≡◌, ◌++◌, ◌∷◌, take}
use Rattle.std.specs.List.{flat_map}
use Rattle.sv_log.specs.LogEntries.{TermsSlot}
use Rattle.sv_cert.specs.LogText.{part_word}
use Rattle.sv_cert.specs.PlainNodes.{plain_part}
use Rattle.sv_cert.proofs.text.add_terms.Given as goal

abbrev pub invariant-loop-part : goal.invariant-loop-part
invariant-loop-part l = l.text.items ≡ l.initial.text.items ++ flat_map (λ p. 32 ∷ part_word TermsSlot (plain_part p)) (take l.part-index l.parts)
