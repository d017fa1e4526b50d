use Rattle.std.proofs.Common.{refl}
use Rattle.sv_ast.specs.Classes.{class_of_word, elementary_names, reserved_words, sizes}
use Rattle.sv_ast.specs.Terminals.{words}
use Rattle.sv_first_form.specs.FirstForm.{reserved}
use Rattle.sv_lex.specs.Limits.{left_out_words}
use Rattle.sv_cli.proofs.laws.keywords_are_one.Goals as goal

pub returns : goal.returns
unfolding reserved class_of_word words elementary_names sizes reserved_words left_out_words
returns c = record { each_is_taken = refl; each_is_reserved = refl }
