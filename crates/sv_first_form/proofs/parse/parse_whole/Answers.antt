use Rattle.std.proofs.Common.{ap, arith, length}
use Rattle.std.proofs.lemmas.List.{length-map}
use Rattle.std.proofs.lemmas.Result.{err_from_is_err_and}
use Rattle.sv_first_form.proofs.Names.{named}
use Rattle.sv_first_form.proofs.Whole.{headed_by, header_fails_by, no_contract, variables_fail_by, notes_fail_by, body_fails_by, name_fails_by, function_names_fail_by, whole_first_by, room_for_name, room_for_functions}
use Rattle.sv_first_form.specs.FormSymbols.{symbol}
use Rattle.sv_first_form.proofs.parse.parse_whole.Goals as goal

pub returns-in_default : goal.returns-in_default
returns-in_default c = no_contract c.in_default.ensures.none

pub returns-in_err-name : goal.returns-in_err-name
returns-in_err-name c =
    let fault = header_fails_by c.in-Some.ensures.cut c.new-cursor.ensures c.in_err-name.ensures in
    let e = err_from_is_err_and c.from_residual.result c.from_residual.ensures.1 in
    rw (e.1, e.2) fault

pub declare_variables-requires-clause-few : goal.declare_variables-requires-clause-few
declare_variables-requires-clause-few c =
    let head = headed_by c.in-Some.ensures.cut c.new-cursor.ensures c.in_ok-name.ensures in
    omega (arith, length-map c.args.tokens.now symbol, head.size, ap length c.new-names.ensures, ap length c.as_slice.ensures)

pub returns-in_err-declare_variables : goal.returns-in_err-declare_variables
returns-in_err-declare_variables c =
    let head = headed_by c.in-Some.ensures.cut c.new-cursor.ensures c.in_ok-name.ensures in
    let fault = variables_fail_by _ _ head c.new-names.ensures c.as_slice.ensures c.in_err-declare_variables.ensures in
    let e = err_from_is_err_and c.from_residual-in_err-declare_variables.result c.from_residual-in_err-declare_variables.ensures.1 in
    rw (e.1, e.2) fault

pub returns-in_err-invariants : goal.returns-in_err-invariants
returns-in_err-invariants c =
    let head = headed_by c.in-Some.ensures.cut c.new-cursor.ensures c.in_ok-name.ensures in
    let same = named c.declare_variables.new.names c.new-names.result c.as_slice.result.now c.in_ok-name.field-0.variables c.new-names.ensures c.as_slice.ensures c.in_ok-declare_variables.ensures.0 in
    let fault = notes_fail_by _ head same c.in_err-invariants.ensures in
    let e = err_from_is_err_and c.from_residual-in_err-invariants.result c.from_residual-in_err-invariants.ensures.1 in
    rw (e.1, e.2) fault

pub returns-in_err-functions : goal.returns-in_err-functions
returns-in_err-functions c =
    let head = headed_by c.in-Some.ensures.cut c.new-cursor.ensures c.in_ok-name.ensures in
    let same = named c.declare_variables.new.names c.new-names.result c.as_slice.result.now c.in_ok-name.field-0.variables c.new-names.ensures c.as_slice.ensures c.in_ok-declare_variables.ensures.0 in
    let fault = body_fails_by _ head same c.in_err-functions.ensures in
    let e = err_from_is_err_and c.from_residual-in_err-functions.result c.from_residual-in_err-functions.ensures.1 in
    rw (e.1, e.2) fault

pub declare-requires-clause-few : goal.declare-requires-clause-few
declare-requires-clause-few c =
    let head = headed_by c.in-Some.ensures.cut c.new-cursor.ensures c.in_ok-name.ensures in
    let same = named c.declare_variables.new.names c.new-names.result c.as_slice.result.now c.in_ok-name.field-0.variables c.new-names.ensures c.as_slice.ensures c.in_ok-declare_variables.ensures.0 in
    omega (arith, length-map c.args.tokens.now symbol, room_for_name _ head same)

pub returns-in_err-declare : goal.returns-in_err-declare
returns-in_err-declare c =
    let head = headed_by c.in-Some.ensures.cut c.new-cursor.ensures c.in_ok-name.ensures in
    let same = named c.declare_variables.new.names c.new-names.result c.as_slice.result.now c.in_ok-name.field-0.variables c.new-names.ensures c.as_slice.ensures c.in_ok-declare_variables.ensures.0 in
    let fault = name_fails_by _ _ head same c.in_ok-functions.ensures c.bytes.ensures c.in_err-declare.ensures in
    let e = err_from_is_err_and c.from_residual-in_err-declare.result c.from_residual-in_err-declare.ensures.1 in
    rw (e.1, e.2) fault

pub declare_functions-requires-clause-few : goal.declare_functions-requires-clause-few
declare_functions-requires-clause-few c =
    let head = headed_by c.in-Some.ensures.cut c.new-cursor.ensures c.in_ok-name.ensures in
    let same = named c.declare_variables.new.names c.new-names.result c.as_slice.result.now c.in_ok-name.field-0.variables c.new-names.ensures c.as_slice.ensures c.in_ok-declare_variables.ensures.0 in
    omega (arith, length-map c.args.tokens.now symbol, room_for_functions _ _ _ _ head same c.in_ok-functions.ensures c.in_ok-declare.ensures.0 c.as_slice-2.ensures)

pub returns-in_err-declare_functions : goal.returns-in_err-declare_functions
returns-in_err-declare_functions c =
    let head = headed_by c.in-Some.ensures.cut c.new-cursor.ensures c.in_ok-name.ensures in
    let same = named c.declare_variables.new.names c.new-names.result c.as_slice.result.now c.in_ok-name.field-0.variables c.new-names.ensures c.as_slice.ensures c.in_ok-declare_variables.ensures.0 in
    let fault = function_names_fail_by _ _ _ _ head same c.in_ok-functions.ensures c.bytes.ensures c.in_ok-declare.ensures.0 c.as_slice-2.ensures c.in_err-declare_functions.ensures in
    let e = err_from_is_err_and c.from_residual-in_err-declare_functions.result c.from_residual-in_err-declare_functions.ensures.1 in
    rw (e.1, e.2) fault

pub returns : goal.returns
returns c =
    let head = headed_by c.in-Some.ensures.cut c.new-cursor.ensures c.in_ok-name.ensures in
    let same = named c.declare_variables.new.names c.new-names.result c.as_slice.result.now c.in_ok-name.field-0.variables c.new-names.ensures c.as_slice.ensures c.in_ok-declare_variables.ensures.0 in
    let all = c.in_ok-declare_functions.ensures in
    whole_first_by _ _ _ _ _ head same c.in_ok-invariants.ensures c.in_ok-functions.ensures c.bytes.ensures c.in_ok-declare.ensures.0 c.as_slice-2.ensures all.0 all.1
