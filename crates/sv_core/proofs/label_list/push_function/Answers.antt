use Rattle.std.proofs.Common.{◌≡◌, OnOk, map, sym, subst}
use Rattle.sv_core.specs.PlainCore.{plain_func, plain_mod}
use Rattle.sv_core.specs.CheckWalk.{after_function}
use Rattle.sv_core.proofs.LabelLemmas.{mapped}
use Rattle.sv_core.proofs.label_list.push_function.Goals as goal

pub returns : goal.returns
returns c =
    subst (λ f. OnOk c.push_text.result (c.push_text.new.found.items ≡ after_function c.args.tally.now (map plain_mod c.args.core.now.mods) f c.args.found.now.items))
    (sym (mapped plain_func c.args.core.now.funcs c.args.k c.in-Some.f.now c.in-Some.ensures.value)) c.push_text.ensures
