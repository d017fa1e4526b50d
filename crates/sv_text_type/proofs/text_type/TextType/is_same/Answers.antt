use Rattle.std.proofs.Common.{◌≡◌, true, subst, sym, ◌∙◌}
use Rattle.sv_text_type.proofs.Numbers.{type_is, type_self, type_test}
use Rattle.sv_text_type.specs.contracts.text_type.TextTypePartialEq.TheImpl.{eq-value}
use Rattle.sv_text_type.proofs.text_type.TextType.is_same.Goals as goal

pub returns-clause-same : goal.returns-clause-same
returns-clause-same c = c.eq.ensures ∙ type_test c.args.self c.args.other

pub returns-clause-one : goal.returns-clause-one
returns-clause-one c = (
  λ h. type_is c.args.self c.args.other (sym c.eq.ensures ∙ h),
  λ e. c.eq.ensures ∙ subst (λ x. (eq-value).it c.args.self x ≡ true) e (type_self c.args.self),
)
