use Rattle.std.proofs.Common.{◌≡◌, arith, rules, sym}
use Rattle.sv_first_form.proofs.Sequences.{text_first, text_fails, first_and_rest, begins_with, begins_nothing, begins_kind}
use Rattle.sv_first_form.specs.FormSymbols.{symbol_with}
use Rattle.sv_first_form.proofs.parse.cursor.Cursor.text.Goals as goal

pub returns-in_default : goal.returns-in_default
returns-in_default c = text_fails (begins_nothing _ c.self.inside.rest.now c.args.kind c.self.view_is (sym c.in_default.ensures.value))

pub returns-then-ne : goal.returns-then-ne
returns-then-ne c = text_fails
    (λ begins.
    let same : c.in-Some.next.now.kind ≡ c.args.kind =
    begins_kind _ c.self.inside.rest.now c.in-Some.next.now c.args.kind c.self.view_is (sym c.in-Some.ensures.value) begins in
    search rules)

pub returns : goal.returns
returns c =
    let kind : c.in-Some.next.now.kind ≡ c.args.kind = grind arith in
    let begins =
    begins_with _ c.self.inside.rest.now c.in-Some.next.now c.args.kind c.new-text.result c.self.view_is (sym c.in-Some.ensures.value) kind (sym c.new-text.ensures) in
    text_first (first_and_rest _ c.self.inside.rest.now (symbol_with c.args.kind c.new-text.result) c.self.view_is begins)
