use Rattle.std.proofs.Common.{◌≡◌, ◌++◌, ◌∙◌, ap, sym, take, map, get_or, arith}
use Rattle.std.proofs.lemmas.List.{take-map, get_or-map, length-map}
use Rattle.std.proofs.lemmas.Result.{err_from_is_err_and}
use Rattle.sv_first_form.specs.declared.contract.Function.{Function}
use Rattle.sv_first_form.proofs.Names.{fails_at}
use Rattle.sv_first_form.proofs.parse.declare.declare_functions.Goals as goal

pub returns-in_err-declare : goal.returns-in_err-declare
returns-in_err-declare c =
    let functions = c.args.functions.now in
    let i = c.loop-function.function-index in
    let f = c.function-item.result in
    let name_of = λ (g : Function). g.name in
    let sofar : c.loop-function.names ≡ c.args.names.now ++ take i (map name_of functions) =
    c.loop-function.invariant.0 ∙ ap (λ t. c.args.names.now ++ t) (sym (take-map name_of i functions)) in
    let at : f.name ≡ get_or (map name_of functions) i f.name = ap name_of c.function-item.is ∙ sym (get_or-map name_of functions i f f.name c.loop-function-test.true) in
    let fault =
    fails_at c.args.names.now c.loop-function.names (map name_of functions) i f.name c.bytes.result.now sofar (omega (arith, length-map functions name_of)) at c.bytes.ensures c.in_err-declare.ensures in
    let e = err_from_is_err_and c.from_residual.result c.from_residual.ensures.1 in
    rw (e.1, e.2) fault
