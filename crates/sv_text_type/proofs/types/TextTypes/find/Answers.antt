use Rattle.std.proofs.Common.{◌≡◌, slice_get, Some, subst, sym}
use Rattle.sv_text_type.proofs.Numbers.{type_at}
use Rattle.sv_text_type.proofs.types.TextTypes.find.Goals as goal

pub returns-clause-found : goal.returns-clause-found
returns-clause-found c =
    subst (λ l. slice_get l c.in_ok-at.at ≡ Some c.args.t) c.self.view_is
    (type_at c.args.t c.self.inside.types.keys c.in_ok-at.at c.in_ok-at.ensures.within (sym c.in_ok-at.ensures.index))
