use Rattle.std.proofs.Common.{sym, subst, arith}
use Rattle.sv_term.specs.Banks.{Stands, term, term_list}
use Rattle.sv_vc.specs.Replacing.{replaced}
use Rattle.sv_vc.specs.OpenTerms.{IsOpen}
use Rattle.sv_vc.proofs.Extending.{extends_same}
use Rattle.sv_vc.proofs.StepLemmas.{open_at, assumed}
use Rattle.sv_vc.proofs.steps.assume.Goals as goal

pub replaced-requires-clause-over : goal.replaced-requires-clause-over
replaced-requires-clause-over c =
    subst (λ z. IsOpen (term c.args.bank.now c.args.f) (term_list c.args.bank.now z)) (sym c.as_slice.ensures)
    (open_at c.args.bank.now c.args.scope.now c.args.before c.args.state.now c.requires.begins c.args.f c.requires.made.formed.over)

pub returns : goal.returns
returns c = record {
  kept = c.in_ok-replaced.ensures.kept;
  gives = assumed c.args.bank.now c.args.scope.now c.args.before c.args.state.now c.requires.begins c.replaced.new.bank c.args.f c.in_ok-replaced.field-0 c.in_ok-replaced.ensures.kept c.requires.made
      (subst (λ z. Stands c.replaced.new.bank c.in_ok-replaced.field-0 (replaced (term c.args.bank.now c.args.f) (term_list c.args.bank.now z))) c.as_slice.ensures c.in_ok-replaced.ensures.stands);
  size = omega (arith, c.in_ok-replaced.ensures.size);
  extends = extends_same c.args.scope.now c.args.state.now.vars;
}
