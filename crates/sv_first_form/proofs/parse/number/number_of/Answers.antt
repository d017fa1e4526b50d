use Rattle.std.proofs.Common.{◌≡◌, ◌<◌, ◌^◌, ◌∙◌, ℕ, length, sym, ap, subst, arith, Some, IfSome, IfNone}
use Rattle.std.specs.Fmt.{decimal}
use Rattle.std.specs.Result.{result_ok}
use Rattle.std.specs.Str.{IsUtf8}
use Rattle.std.specs.Str.Parse.{ParsesUnsigned}
use Rattle.sv_first_form.proofs.Numerals.{numeral_is_read, decimal_is_numeral}
use Rattle.sv_first_form.specs.Numeral.{IsNumeral}
use Rattle.sv_first_form.proofs.parse.number.number_of.Goals as goal

pub returns-then-text-gt18-clause-none : goal.returns-then-text-gt18-clause-none
returns-then-text-gt18-clause-none c = λ n small e. omega (arith, (decimal_is_numeral n small).1, ap length e)

pub returns-then-not-is_numeral-clause-none : goal.returns-then-not-is_numeral-clause-none
returns-then-not-is_numeral-clause-none c =
    λ n small e.
    let numeral : IsNumeral c.args.text.now = subst IsNumeral (sym e) (decimal_is_numeral n small).0 in
    let yes = c.is_numeral.ensures.1 numeral in
    cc

pub returns-in-Ok-clause-written : goal.returns-in-Ok-clause-written
returns-in-Ok-clause-written c =
    let text = c.args.text.now in
    let numeral : IsNumeral text = c.is_numeral.ensures.0 (grind arith) in
    let parsed = subst (λ t. ParsesUnsigned 64 10 t c.parse.result) c.in-Ok.ensures.cases.0 c.parse.ensures.value.0 in
    let read = numeral_is_read text c.parse.result numeral (omega arith) parsed in
    let some : c.ok.result ≡ Some read.0 = c.ok.ensures.value ∙ ap result_ok read.1.ok in
    subst (λ o. IfSome o (λ n. (text ≡ decimal n) × (n < 10 ^ 18))) (sym some) (read.1.written, read.1.small)

pub returns-in-Ok-clause-none : goal.returns-in-Ok-clause-none
returns-in-Ok-clause-none c =
    let text = c.args.text.now in
    let numeral : IsNumeral text = c.is_numeral.ensures.0 (grind arith) in
    let parsed = subst (λ t. ParsesUnsigned 64 10 t c.parse.result) c.in-Ok.ensures.cases.0 c.parse.ensures.value.0 in
    let read = numeral_is_read text c.parse.result numeral (omega arith) parsed in
    let some : c.ok.result ≡ Some read.0 = c.ok.ensures.value ∙ ap result_ok read.1.ok in
    subst (λ o. IfNone o ((n : ℕ) → n < 10 ^ 18 → text ≡ decimal n → ⊥)) (sym some) tt

pub returns-in-Err-clause-none : goal.returns-in-Err-clause-none
returns-in-Err-clause-none c = λ n small e. c.in-Err.ensures.cases.0 (subst IsUtf8 (sym e) (decimal_is_numeral n small).2)
