use Rattle.sv_term_room.specs.TermRows.{terms_of}
use Rattle.sv_plain_terms.proofs.FlagsOfTerms.{fits_at}
use Rattle.sv_plain_terms.proofs.terms.PlainTermsTermNumbers.is_sound.Goals as goal

pub returns-clause-fit : goal.returns-clause-fit
returns-clause-fit c = λ n l. fits_at (terms_of c.args.self.now.room.now) n c.is_sound.ensures.fitting l
