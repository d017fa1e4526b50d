use Rattle.std.proofs.Common.{◌≡◌, ◌+◌, ◌∷◌, [], ◌∙◌, length, sym, ap, subst, arith, length-append}
use Rattle.sv_term.specs.Terms.{And, Not}
use Rattle.sv_term.specs.Banks.{Keeps, Stands, term, term_list, kind_of}
use Rattle.sv_term.proofs.BankGrowth.{keeps_on, bool_kept}
use Rattle.sv_vc.specs.Replacing.{replaced}
use Rattle.sv_vc.specs.OpenTerms.{IsOpen}
use Rattle.sv_vc.proofs.Extending.{extends_same}
use Rattle.sv_vc.proofs.StepLemmas.{open_at, checked_bool, checked}
use Rattle.sv_vc.proofs.steps.check.Goals as goal

pub replaced-requires-clause-over : goal.replaced-requires-clause-over
replaced-requires-clause-over c =
    subst (λ z. IsOpen (term c.args.bank.now c.args.f) (term_list c.args.bank.now z)) (sym c.as_slice.ensures)
    (open_at c.args.bank.now c.args.scope.now c.args.before c.args.state.now c.requires.begins c.args.f c.requires.made.formed.over)

pub added-requires : goal.added-requires
added-requires c = checked_bool c.args.bank.now c.args.scope.now c.args.before c.args.state.now c.requires.begins c.replaced.new.bank c.args.label c.args.f c.in_ok-holds.holds c.requires.made
    (subst (λ z. Stands c.replaced.new.bank c.in_ok-holds.holds (replaced (term c.args.bank.now c.args.f) (term_list c.args.bank.now z))) c.as_slice.ensures c.in_ok-holds.ensures.stands)

pub added-requires-2 : goal.added-requires-2
added-requires-2 c = (
  bool_kept c.args.bank.now c.added.new.bank (keeps_on c.in_ok-holds.ensures.kept c.in_ok-fails.ensures.kept) c.args.before c.requires.begins.known,
  record { within = c.in_ok-fails.ensures.stands.within; truth = ap kind_of c.in_ok-fails.ensures.stands.is },
)

pub added-requires-3 : goal.added-requires-3
added-requires-3 c = record { within = c.in_ok-refuted.ensures.stands.within; truth = ap kind_of c.in_ok-refuted.ensures.stands.is }

pub returns : goal.returns
returns c =
    let ad : Keeps c.replaced.new.bank c.added-3.new.bank = keeps_on (keeps_on c.in_ok-fails.ensures.kept c.in_ok-refuted.ensures.kept) c.in_ok-formula.ensures.kept in
    let known : term c.added.new.bank c.args.before ≡ term c.args.bank.now c.args.before = (keeps_on c.in_ok-holds.ensures.kept c.in_ok-fails.ensures.kept).terms c.args.before c.requires.begins.known.within in
    let more : length c.push.new.self ≡ length c.args.state.now.found + 1 = ap length c.in_ok-push.ensures.ok ∙ length-append c.args.state.now.found (_ ∷ []) in
    record {
      kept = keeps_on c.in_ok-holds.ensures.kept ad;
      gives = checked c.args.bank.now c.args.scope.now c.args.before c.args.state.now c.requires.begins c.replaced.new.bank c.added-3.new.bank c.args.label c.args.f c.in_ok-holds.holds c.in_ok-formula.formula c.push.new.self c.in_ok-holds.ensures.kept ad c.requires.made
          (subst (λ z. Stands c.replaced.new.bank c.in_ok-holds.holds (replaced (term c.args.bank.now c.args.f) (term_list c.args.bank.now z))) c.as_slice.ensures c.in_ok-holds.ensures.stands)
          record {
            within = c.in_ok-formula.ensures.stands.within;
            is = c.in_ok-formula.ensures.stands.is ∙ ap Not (c.in_ok-refuted.ensures.stands.is ∙ (ap (λ x. And x (term c.added.new.bank c.in_ok-fails.fails)) known ∙ ap (And (term c.args.bank.now c.args.before)) c.in_ok-fails.ensures.stands.is));
          }
          c.in_ok-push.ensures.ok;
      size = omega (arith, more, c.in_ok-holds.ensures.size, c.in_ok-fails.ensures.size, c.in_ok-refuted.ensures.size, c.in_ok-formula.ensures.size);
      extends = extends_same c.args.scope.now c.args.state.now.vars;
    }
