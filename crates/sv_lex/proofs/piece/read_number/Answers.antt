-- No longer number begins the text, so a word character behind it is a flaw.
use Rattle.std.proofs.Common.{◌≡◌, ◌<◌, ℕ, ◌∙◌, sym, ap, subst, drop, arith, inl, inr}
use Rattle.sv_lex.specs.Bytes.{continues_word, DoesBegin}
use Rattle.sv_lex.specs.Forms.{IsDecimal, IsHexadecimal}
use Rattle.sv_lex.specs.Longest.{IsLongestSuch}
use Rattle.sv_lex.specs.declared.tok.Tok.{Tok}
use Rattle.sv_lex.proofs.NumberLemmas.{some_decimal, decimal_outruns, hexadecimal_outruns, number_stuck}
use Rattle.sv_lex.proofs.PieceLemmas.{begins_with}
use Rattle.sv_lex.proofs.piece.read_number.Goals as goal
use Rattle.sv_lex.proofs.piece.read_number.Goals.{in-0, in_default}

pub returns-in-Some : goal.returns-in-Some
returns-in-Some c =
    let text = c.args.text.now in
    let n = c.match-hexadecimal_len.kind.1 in
    let begins : DoesBegin continues_word (drop n text) =
    subst (DoesBegin continues_word) c.token-cut.ensures.rest (begins_with continues_word c.token-cut.result.rest.now c.in-Some.byte.now c.in-Some.ensures.value (sym c.has.ensures ∙ c.if-has.true)) in
    elim c.match-hexadecimal_len.branch [
      | in-0 w ↦
          let same : n ≡ w.decimal_len.result = ap (λ (pair : Tok × ℕ). pair.1) w.kind-is in
          let longest : IsLongestSuch IsDecimal text n = subst (IsLongestSuch IsDecimal text) (sym same) w.decimal_len.ensures in
          number_stuck text n longest.within (inl (longest.form (some_decimal text n c.requires longest))) (decimal_outruns text n c.hexadecimal_len.result w.in-0.is c.hexadecimal_len.ensures longest) begins
      | in_default w ↦
          let same : n ≡ c.hexadecimal_len.result = ap (λ (pair : Tok × ℕ). pair.1) w.kind-is in
          let some : 0 < n = omega arith in
          let longest : IsLongestSuch IsHexadecimal text n = subst (IsLongestSuch IsHexadecimal text) (sym same) c.hexadecimal_len.ensures in
          number_stuck text n longest.within (inr (longest.form some)) (hexadecimal_outruns text n some longest) begins
    ]
