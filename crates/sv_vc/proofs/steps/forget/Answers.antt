use Rattle.std.proofs.Common.{◌≡◌, ◌∙◌, inl, get_or, length, ap, subst, arith}
use Rattle.sv_term.specs.Terms.{Var}
use Rattle.sv_term.specs.Banks.{sort}
use Rattle.sv_term.proofs.BankGrowth.{keeps_on}
use Rattle.sv_term.proofs.BankLists.{list_length}
use Rattle.sv_vc.proofs.Extending.{extends_push, stands_at}
use Rattle.sv_vc.proofs.StepLemmas.{scope_long, var_within, forgotten}
use Rattle.sv_vc.proofs.steps.forget.Goals as goal

pub variable_at-var-requires : goal.variable_at-var-requires
variable_at-var-requires c = omega (arith, c.requires.made.formed, scope_long c.args.bank.now c.args.scope.now, (let e : length c.as_slice.result.now ≡ length c.args.scope.now.given = ap length c.as_slice.ensures in e))

pub added-requires : goal.added-requires
added-requires c =
    let at : c.variable_at-var.result ≡ get_or c.args.scope.now.given c.args.x c.variable_at-var.result = subst (λ z. c.variable_at-var.result ≡ get_or z c.args.x c.variable_at-var.result) c.as_slice.ensures c.variable_at-var.ensures in
    var_within c.args.bank.now c.args.scope.now.given c.args.x c.variable_at-var.result at (omega (arith, c.requires.made.formed, scope_long c.args.bank.now c.args.scope.now)) c.requires.begins.scope_is.given

pub set-requires : goal.set-requires
set-requires c = omega (arith, c.requires.made.formed, c.requires.begins.ready.sorted.size, list_length c.args.bank.now c.args.state.now.env)

pub returns : goal.returns
returns c =
    let at : c.variable_at-var.result ≡ get_or c.args.scope.now.given c.args.x c.variable_at-var.result = subst (λ z. c.variable_at-var.result ≡ get_or z c.args.x c.variable_at-var.result) c.as_slice.ensures c.variable_at-var.ensures in
    let ob = keeps_on c.in_ok-fresh.ensures.kept c.in_ok-nothing.ensures.kept in
    record {
      kept = ob;
      gives = forgotten c.args.bank.now c.args.scope.now c.args.before c.args.state.now c.requires.begins c.added-2.new.bank c.args.x c.variable_at-var.result c.in_ok-fresh.fresh c.in_ok-nothing.nothing c.set.new.self c.push.new.self ob at
          (omega (arith, c.requires.made.formed, scope_long c.args.bank.now c.args.scope.now))
          record {
            within = omega (arith, c.in_ok-fresh.ensures.stands.within, c.in_ok-nothing.ensures.kept.size);
            is = c.in_ok-nothing.ensures.kept.terms c.in_ok-fresh.fresh c.in_ok-fresh.ensures.stands.within ∙ (c.in_ok-fresh.ensures.stands.is ∙ ap (λ n. Var n (sort c.args.bank.now c.variable_at-var.result.sort)) c.len.ensures);
          }
          c.in_ok-nothing.ensures.stands c.set.ensures c.in_ok-push.ensures.ok;
      size = omega (arith, c.in_ok-fresh.ensures.size, c.in_ok-nothing.ensures.size);
      extends = extends_push c.args.scope.now c.args.state.now.vars c.push.new.self c.variable_at-var.result c.in_ok-push.ensures.ok (inl (stands_at c.args.scope.now.given c.args.x c.variable_at-var.result at (omega (arith, c.requires.made.formed, scope_long c.args.bank.now c.args.scope.now))));
    }
