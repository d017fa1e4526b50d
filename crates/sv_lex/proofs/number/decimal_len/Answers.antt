-- The longest whole part, and then the longest exponent.
use Rattle.sv_lex.specs.Forms.{IsWhole}
use Rattle.sv_lex.specs.Longest.{IsLongestSuch}
use Rattle.sv_lex.proofs.NumberLemmas.{whole_of_zero, whole_of_digits, decimal_of_parts}
use Rattle.sv_lex.proofs.number.decimal_len.Goals as goal
use Rattle.sv_lex.proofs.number.decimal_len.Goals.{then-text-eq48, else-text-eq48}

pub returns : goal.returns
returns c =
    let text = c.args.text.now in
    let n = c.if-text-eq48.whole in
    let whole : IsLongestSuch IsWhole text n = elim c.if-text-eq48.branch [
      | then-text-eq48 w ↦ whole_of_zero text n c.requires w.if-text-eq48.true w.whole-is
      | else-text-eq48 w ↦ whole_of_digits text n w.group_len-whole.result c.requires w.if-text-eq48.false w.whole-is w.group_len-whole.ensures
    ] in
    decimal_of_parts text n c.exponent_len.result c.requires whole c.exponent_len.ensures
