use Rattle.std.proofs.Common.{◌≡◌, ◌∷◌, [], ◌∙◌, inr, get_or, length, ap, subst, arith, length-append}
use Rattle.sv_term.specs.Terms.{Var}
use Rattle.sv_term.specs.Banks.{sort}
use Rattle.sv_vc.proofs.Extending.{extends_push, stands_at}
use Rattle.sv_vc.proofs.StepLemmas.{var_within, joined_kind}
use Rattle.sv_vc.proofs.joining.version.Goals as goal

pub variable_at-var-requires : goal.variable_at-var-requires
variable_at-var-requires c = omega (arith, c.requires.variable, (let e : length c.as_slice.result.now ≡ length c.args.scope.now.joined = ap length c.as_slice.ensures in e))

pub added-requires : goal.added-requires
added-requires c =
    let at : c.variable_at-var.result ≡ get_or c.args.scope.now.joined c.args.x c.variable_at-var.result = subst (λ z. c.variable_at-var.result ≡ get_or z c.args.x c.variable_at-var.result) c.as_slice.ensures c.variable_at-var.ensures in
    var_within c.args.bank.now c.args.scope.now.joined c.args.x c.variable_at-var.result at c.requires.variable c.requires.scope_is.joined

pub returns : goal.returns
returns c =
    let at : c.variable_at-var.result ≡ get_or c.args.scope.now.joined c.args.x c.variable_at-var.result = subst (λ z. c.variable_at-var.result ≡ get_or z c.args.x c.variable_at-var.result) c.as_slice.ensures c.variable_at-var.ensures in
    rw c.if-not-is_set.false record {
      kept = c.in_ok-fresh.ensures.kept;
      stands = record {
        within = c.in_ok-fresh.ensures.stands.within;
        is = c.in_ok-fresh.ensures.stands.is ∙ (ap (λ n. Var n (sort c.args.bank.now c.variable_at-var.result.sort)) c.len.ensures ∙ ap (Var (length c.args.vars.now)) (joined_kind c.args.bank.now c.args.scope.now c.args.x c.variable_at-var.result c.requires.scope_is at c.requires.variable));
      };
      next = ap length c.in_ok-push.ensures.ok ∙ length-append c.args.vars.now (_ ∷ []);
      size = c.in_ok-fresh.ensures.size;
      extends = extends_push c.args.scope.now c.args.vars.now c.push.new.self c.variable_at-var.result c.in_ok-push.ensures.ok (inr (stands_at c.args.scope.now.joined c.args.x c.variable_at-var.result at c.requires.variable));
    }
