-- A text without `*/` leaves the comment open.
use Rattle.std.proofs.Common.{◌++◌, codes, refl}
use Rattle.sv_lex.specs.Faults.{open_comment}
use Rattle.sv_lex.specs.declared.fault.Flaw.TheVariants.{Unclosed}
use Rattle.sv_lex.proofs.PieceLemmas.{stuck_here}
use Rattle.sv_lex.proofs.piece.read_block.Goals as goal

pub returns-in-None : goal.returns-in-None
returns-in-None c =
    stuck_here (codes "/*" ++ c.args.text.now) Unclosed c.here.result.flaw c.here.result.behind c.here.ensures.flaw c.here.ensures.here
    (open_comment c.args.text.now refl c.in-None.ensures.none)
