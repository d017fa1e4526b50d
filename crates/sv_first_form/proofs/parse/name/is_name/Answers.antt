use Rattle.std.proofs.Common.{arith, length, sym, ◌∙◌, true≢false}
use Rattle.std.proofs.lemmas.Bool.{eqb-false}
use Rattle.sv_first_form.proofs.Choices.{held, not_held}
use Rattle.sv_first_form.specs.FirstForm.{reserved}
use Rattle.sv_first_form.specs.declared.reserved.TheConstants.{RESERVED}
use Rattle.sv_first_form.proofs.parse.name.is_name.Goals as goal

pub returns-then-is_among : goal.returns-then-is_among
unfolding reserved
returns-then-is_among c =
    let text = c.args.text.now in (
      λ no. absurd (true≢false (sym no)),
      λ name. absurd (name.free (held (λ w. w.now) text RESERVED (sym c.is_among.ensures ∙ c.if-is_among.true))),
    )

pub returns : goal.returns
unfolding reserved
returns c =
    let text = c.args.text.now in
    let some = eqb-false (length text) 0 (sym c.is_empty.ensures ∙ c.if-is_empty.false) in (
      λ passed. record {
        letters = c.has_letters_alone.ensures.0 passed;
        size = (omega arith, omega arith);
        free = not_held (λ w. w.now) text RESERVED (sym c.is_among.ensures ∙ c.if-is_among.false);
      },
      λ name. c.has_letters_alone.ensures.1 name.letters,
    )
