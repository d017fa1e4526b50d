use Rattle.std.proofs.Common.{sym, ◌∙◌, ap}
use Rattle.sv_ast.specs.declared.class.Class.TheVariants.{Other}
use Rattle.sv_ast.specs.Classes.{class_of_mark, class_in}
use Rattle.sv_ast.proofs.class.class_of_mark.Goals as goal

pub returns-in-Some : goal.returns-in-Some
unfolding class_of_mark
returns-in-Some c = sym (ap (λ rows. class_in rows c.args.text.now Other) (sym c.mark_rows.ensures) ∙ c.in-Some.ensures Other)

pub returns-in-None : goal.returns-in-None
unfolding class_of_mark
returns-in-None c = sym (ap (λ rows. class_in rows c.args.text.now Other) (sym c.mark_rows.ensures) ∙ c.in-None.ensures Other)
