use Rattle.std.proofs.Common.{◌^◌, ◌<◌, List, ℕ, sym, subst}
use Rattle.std.specs.Prelude.{SomeIff}
use Rattle.sv_literal.specs.Literals.{digits_worth}
use Rattle.sv_literal.proofs.Worths.{behind_first}
use Rattle.sv_literal.proofs.exponent_value.Goals as goal

pub returns-in-Some : goal.returns-in-Some
returns-in-Some c =
    let P : List ℕ → Type 0 = λ bs. SomeIff c.digits_value.result (digits_worth 10 bs < 2 ^ 128) (digits_worth 10 bs) in
    subst P (sym (behind_first c.args.text.now c.args.at c.in-Some.field-0-0.now c.in-Some.digits.now c.in-Some.ensures.cases.0)) c.digits_value.ensures
