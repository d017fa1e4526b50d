use Rattle.std.proofs.Common.{arith}
use Rattle.sv_first_form.proofs.Sequences.{exact_first, exact_fails, first_and_rest}
use Rattle.sv_first_form.specs.FormSymbols.{symbol_with}
use Rattle.sv_first_form.proofs.parse.cursor.Cursor.expect.Goals as goal

pub returns-then-not-sees : goal.returns-then-not-sees
returns-then-not-sees c = exact_fails (λ begins. let seen = c.sees.ensures.1 begins in cc)

pub returns : goal.returns
returns c =
    let begins = c.sees.ensures.0 (grind arith) in
    exact_first (first_and_rest _ c.self.inside.rest.now (symbol_with c.args.kind c.args.text.now) c.self.view_is begins)
