use Rattle.std.proofs.Common.{◌≡◌, sym, subst, arith, is_some, true, false}
use Rattle.std.proofs.lemmas.Result.{err_from_is_err_and}
use Rattle.sv_first_form.proofs.Names.{last_is_name, last_is_new, held_from_find, absent_from_find, one_more}
use Rattle.sv_first_form.specs.FormParts.{AreNames, is_refused, has_no_memory}
use Rattle.sv_first_form.proofs.parse.declare.declare.Goals as goal

pub returns-then-not-is_name : goal.returns-then-not-is_name
returns-then-not-is_name c =
    is_refused (λ are. let yes = c.is_name.ensures.1 (last_is_name c.args.names.now c.args.text.now are) in cc)

pub returns-then-is_some : goal.returns-then-is_some
returns-then-is_some c =
    let some : is_some c.find.result ≡ true = cc in
    is_refused (λ are. last_is_new c.args.names.now c.args.text.now are (held_from_find c.args.names.now c.args.text.now c.find.result some c.find.ensures.found))

pub returns-in_err-intern : goal.returns-in_err-intern
returns-in_err-intern c =
    let e = err_from_is_err_and c.from_residual.result c.from_residual.ensures.1 in
    rw (e.1, e.2) has_no_memory

pub returns : goal.returns
returns c =
    let names = c.args.names.now in
    let text = c.args.text.now in
    let none : is_some c.find.result ≡ false = cc in
    let absent = absent_from_find names text c.find.result none c.find.ensures.none in
    let more = c.in_ok-intern.ensures.new absent in
    (more, subst AreNames (sym more) (one_more names text c.requires.names (c.is_name.ensures.0 (grind arith)) absent))
