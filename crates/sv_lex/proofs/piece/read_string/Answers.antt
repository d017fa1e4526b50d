-- A string can't go on at a newline, at the end of the text, or at a byte for which there is no step.
use Rattle.sv_lex.specs.Faults.{IsStuck}
use Rattle.sv_lex.specs.declared.fault.Flaw.TheVariants.{Char, Unclosed}
use Rattle.sv_lex.proofs.PieceLemmas.{stuck_here}
use Rattle.sv_lex.proofs.StringLemmas.{broken_stuck, newline_stuck, end_stuck}
use Rattle.sv_lex.proofs.piece.read_string.Goals as goal
use Rattle.sv_lex.proofs.piece.read_string.Goals.{in_default-via-in-Some+else-byte-ne10, in_default-via-in_default}

pub returns-in-Some : goal.returns-in-Some
returns-in-Some c =
    stuck_here c.args.text.now Char c.here.result.flaw c.here.result.behind c.here.ensures.flaw c.here.ensures.here
    (broken_stuck c.args.text.now c.in-Broken.at c.in-Some.byte.now c.in-Broken.ensures c.in-Some.ensures.lookup.0 (c.in-Some.ensures.lookup.3.1 0) c.if-byte-ne10.true)

pub returns-in_default : goal.returns-in_default
returns-in_default c =
    let text = c.args.text.now in
    let n = c.in-Broken.at in
    let stuck : IsStuck text Unclosed 0 = elim c.in_default.branch [
      | in_default-via-in-Some+else-byte-ne10 w ↦
          newline_stuck text n w.in-Some.byte.now c.in-Broken.ensures w.in-Some.ensures.lookup.0 (w.in-Some.ensures.lookup.3.1 0) w.if-byte-ne10.false
      | in_default-via-in_default w ↦ end_stuck text n c.in-Broken.ensures w.in_default.ensures.lookup.0
    ] in
    stuck_here text Unclosed c.here-in_default.result.flaw c.here-in_default.result.behind c.here-in_default.ensures.flaw c.here-in_default.ensures.here stuck
