use Rattle.std.proofs.Common.{◌≡◌, sym, subst}
use Rattle.sv_lex.specs.Limits.{is_left_out, left_out_words, left_out_marks}
use Rattle.sv_lex.specs.declared.tok.Tok.{Tok}
use Rattle.sv_lex.proofs.left_out.is_left_out.Goals as goal

pub returns-in-Word : goal.returns-in-Word
unfolding left_out_words
returns-in-Word c = subst (λ (kind : Tok). c.is_among.result ≡ is_left_out kind c.args.text.now) (sym c.in-Word.is) c.is_among.ensures

pub returns-in-Punct : goal.returns-in-Punct
unfolding left_out_marks
returns-in-Punct c = subst (λ (kind : Tok). c.is_among-in-Punct.result ≡ is_left_out kind c.args.text.now) (sym c.in-Punct.is) c.is_among-in-Punct.ensures
