use Rattle.std.proofs.Common.{sym, subst, arith}
use Rattle.sv_term.specs.Banks.{Stands, term, term_list}
use Rattle.sv_term.proofs.BankGrowth.{keeps_on}
use Rattle.sv_term.proofs.BankLists.{list_length}
use Rattle.sv_vc.specs.Replacing.{replaced}
use Rattle.sv_vc.specs.OpenTerms.{IsOpen}
use Rattle.sv_vc.proofs.Extending.{extends_same}
use Rattle.sv_vc.proofs.StepLemmas.{open_at, assigned}
use Rattle.sv_vc.proofs.steps.assign.Goals as goal

pub replaced-requires-clause-over : goal.replaced-requires-clause-over
replaced-requires-clause-over c =
    subst (λ z. IsOpen (term c.args.bank.now c.args.t) (term_list c.args.bank.now z)) (sym c.as_slice.ensures)
    (open_at c.args.bank.now c.args.scope.now c.args.before c.args.state.now c.requires.begins c.args.t c.requires.made.formed.over)

pub set-requires : goal.set-requires
set-requires c = omega (arith, c.requires.made.formed.within, c.requires.begins.ready.sorted.size, list_length c.args.bank.now c.args.state.now.env)

pub returns : goal.returns
returns c = record {
  kept = keeps_on c.in_ok-now.ensures.kept c.in_ok-nothing.ensures.kept;
  gives = assigned c.args.bank.now c.args.scope.now c.args.before c.args.state.now c.requires.begins c.replaced.new.bank c.added.new.bank c.args.x c.args.t c.in_ok-now.now c.in_ok-nothing.nothing c.set.new.self c.in_ok-now.ensures.kept c.in_ok-nothing.ensures.kept c.requires.made
      (subst (λ z. Stands c.replaced.new.bank c.in_ok-now.now (replaced (term c.args.bank.now c.args.t) (term_list c.args.bank.now z))) c.as_slice.ensures c.in_ok-now.ensures.stands)
      c.in_ok-nothing.ensures.stands c.set.ensures;
  size = omega (arith, c.in_ok-now.ensures.size, c.in_ok-nothing.ensures.size);
  extends = extends_same c.args.scope.now c.args.state.now.vars;
}
