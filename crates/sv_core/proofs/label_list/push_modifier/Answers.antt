use Rattle.std.proofs.Common.{◌≡◌, OnOk, sym, subst}
use Rattle.sv_core.specs.PlainCore.{plain_mod}
use Rattle.sv_core.specs.CheckWalk.{after_modifier}
use Rattle.sv_core.proofs.LabelLemmas.{mapped}
use Rattle.sv_core.proofs.label_list.push_modifier.Goals as goal

pub returns : goal.returns
returns c =
    subst (λ m. OnOk c.push_body.result (c.push_body.new.found.items ≡ after_modifier c.args.tally.now m c.args.found.now.items))
    (sym (mapped plain_mod c.args.mods.now c.args.which c.in-Some.modifier.now c.in-Some.ensures.value)) c.push_body.ensures
