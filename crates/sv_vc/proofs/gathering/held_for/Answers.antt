use Rattle.std.proofs.Common.{◌≡◌, ◌∙◌, Some, None, option_copied, sym, ap}
use Rattle.std.specs.Option.{unwrap_or}
use Rattle.std.specs.BTreeMap.{get}
use Rattle.sv_core.specs.contracts.label.LabelOrd.TheImpl.{ghosts as label_ord}
use Rattle.sv_vc.proofs.gathering.held_for.Goals as goal

pub returns-in-Some : goal.returns-in-Some
returns-in-Some c =
    let e : get label_ord.cmp c.args.all.now c.args.label ≡ Some c.in-Some.number.now = sym c.get.ensures.value ∙ ap option_copied c.in-Some.is in
    sym (ap (λ o. unwrap_or o c.args.nothing) e)

pub returns-in-None : goal.returns-in-None
returns-in-None c =
    let e : get label_ord.cmp c.args.all.now c.args.label ≡ None = sym c.get.ensures.value ∙ ap option_copied c.in-None.is in
    sym (ap (λ o. unwrap_or o c.args.nothing) e)
