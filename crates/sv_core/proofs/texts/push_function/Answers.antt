use Rattle.std.proofs.Common.{◌≡◌, ◌++◌, sym, subst, arith}
use Rattle.sv_core.specs.LabelTexts.{text_of_function}
use Rattle.sv_core.specs.PlainCore.{plain_core, plain_func}
use Rattle.sv_core.proofs.LabelLemmas.{mapped, named_behind}
use Rattle.sv_core.proofs.texts.push_function.Goals as goal

pub push_definer-requires : goal.push_definer-requires
push_definer-requires c = (c.requires (plain_func c.in-Some.f.now) (mapped plain_func c.args.core.now.funcs c.args.k c.in-Some.f.now c.in-Some.ensures.value)).1

pub text-requires : goal.text-requires
text-requires c = (c.requires (plain_func c.in-Some.f.now) (mapped plain_func c.args.core.now.funcs c.args.k c.in-Some.f.now c.in-Some.ensures.value)).0

pub returns : goal.returns
returns c =
    subst (λ f. c.extend_from_slice.new.self.items ≡ c.args.text.now.items ++ text_of_function c.args.names.now (plain_core c.args.core.now) f)
    (sym (mapped plain_func c.args.core.now.funcs c.args.k c.in-Some.f.now c.in-Some.ensures.value))
    (named_behind c.args.names.now (plain_core c.args.core.now) (plain_func c.in-Some.f.now) _ _ _ _ c.in_ok-push_definer.ensures c.in_ok-extend_from_slice.ensures.items c.text.ensures.text)

pub returns-in_err-push_definer : goal.returns-in_err-push_definer
returns-in_err-push_definer c = grind arith

pub returns-in_err-extend_from_slice : goal.returns-in_err-extend_from_slice
returns-in_err-extend_from_slice c = grind arith
