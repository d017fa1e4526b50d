use Rattle.std.proofs.Common.{◌≡◌, slice_get, Some, Contains, subst, sym}
use Rattle.sv_text.proofs.Texts.{text_at, none_held}
use Rattle.sv_text.proofs.names.Names.find.Goals as goal

pub returns-in_err-at-clause-none : goal.returns-in_err-at-clause-none
returns-in_err-at-clause-none c =
    rw c.from_residual.ensures (λ (held : Contains c.args.self.now c.args.text.now).
    none_held _ c.args.text.now c.self.inside.texts.keys c.in_err-at.ensures.found (subst (λ l. Contains l c.args.text.now) (sym c.self.view_is) held))

pub returns-clause-found : goal.returns-clause-found
returns-clause-found c =
    subst (λ l. slice_get l c.in_ok-at.at ≡ Some c.args.text.now) c.self.view_is
    (text_at _ c.args.text.now c.self.inside.texts.keys c.in_ok-at.at c.in_ok-at.ensures.within (sym c.in_ok-at.ensures.index))
