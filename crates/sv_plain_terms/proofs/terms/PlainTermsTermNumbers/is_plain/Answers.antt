use Rattle.std.proofs.Common.{false}
use Rattle.sv_term_room.specs.TermRows.{terms_of}
use Rattle.sv_plain_terms.proofs.FlagsOfTerms.{flag_at}
use Rattle.sv_plain_terms.proofs.terms.PlainTermsTermNumbers.is_plain.Goals as goal

pub returns : goal.returns
returns c = flag_at (terms_of c.args.self.now.room.now) c.args.self.now.flags.now c.args.n false c.args.self.now.flagged c.requires
