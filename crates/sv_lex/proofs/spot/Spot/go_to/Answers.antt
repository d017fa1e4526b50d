use Rattle.std.proofs.Common.{◌≡◌, ◌+◌, ◌-◌, ◌<◌, length, drop, arith, ap, sym, ◌∙◌, length-take, length-drop, eq-eqb}
use Rattle.std.proofs.lemmas.Bool.{ne_eqb}
use Rattle.sv_lex.proofs.PlaceLemmas.{line_behind_newline, column_behind_newline, line_goes_on, column_goes_on, line_within, column_within, byte_of_range}
use Rattle.sv_lex.proofs.spot.Spot.go_to.Goals as goal
use Rattle.sv_lex.proofs.spot.Spot.go_to.Goals.{then-byte-eq10, else-byte-eq10}

pub overflow_add-place : goal.overflow_add-place
overflow_add-place c =
    let text = c.args.text.now in
    let at = c.args.self.at + c.loop-byte.byte-index in
    omega (arith, line_within text at, length-take (c.args.to - c.args.self.at) (drop c.args.self.at text), length-drop c.args.self.at text)

pub overflow_add-place-else-byte-eq10 : goal.overflow_add-place-else-byte-eq10
overflow_add-place-else-byte-eq10 c =
    let text = c.args.text.now in
    let at = c.args.self.at + c.loop-byte.byte-index in
    omega (arith, column_within text at, length-take (c.args.to - c.args.self.at) (drop c.args.self.at text), length-drop c.args.self.at text)

pub loop-byte-preserved : goal.loop-byte-preserved
loop-byte-preserved c =
    let text = c.args.text.now in
    let from = c.args.self.at in
    let i = c.loop-byte.byte-index in
    let at = from + i in
    let in_range : i < c.args.to - from = omega (arith, c.loop-byte-test.true, length-take (c.args.to - from) (drop from text)) in
    let within : at < length text = omega arith in
    let same = byte_of_range text from c.args.to i in_range in
    let next : from + (i + 1) ≡ at + 1 = omega arith in
    rw next (elim c.if-byte-eq10.branch [
      | then-byte-eq10 w ↦
          let newline = eq-eqb _ 10 (sym same ∙ w.if-byte-eq10.true) in record {
            line_is = ap (λ p. p.line) w.place-is ∙ ap (λ n. n + 1) c.loop-byte.invariant.line_is ∙ sym (line_behind_newline text at within newline);
            col_is = ap (λ p. p.col) w.place-is ∙ sym (column_behind_newline text at within newline);
          }
      | else-byte-eq10 w ↦
          let other = ne_eqb _ 10 (λ e. w.if-byte-eq10.false (same ∙ e)) in record {
            line_is = ap (λ p. p.line) w.place-is ∙ c.loop-byte.invariant.line_is ∙ sym (line_goes_on text at within other);
            col_is = ap (λ p. p.col) w.place-is ∙ ap (λ n. n + 1) c.loop-byte.invariant.col_is ∙ sym (column_goes_on text at within other);
          }
    ])
