-- Where the digits end, no longer front is a group.
use Rattle.std.proofs.Common.{◌≡◌, ◌⊎◌, ◌==◌, ◌&&◌, false, get_or, nat_lt, sym, ◌∙◌, inl, inr, arith}
use Rattle.std.proofs.lemmas.Bool.{and_left, and_right, ne_eqb, le-ltb}
use Rattle.sv_lex.specs.ByteTests.{is_of}
use Rattle.sv_lex.proofs.NumberLemmas.{group_stops, group_ends}
use Rattle.sv_lex.proofs.number.group_len.Goals as goal
use Rattle.sv_lex.proofs.number.group_len.Goals.{then-byte-ne95-via-then-byte-ne95, then-byte-ne95-via-else-byte-ne95+then-len-i, then-byte-ne95-via-else-byte-ne95+else-len-i+then-i-eq0}

pub returns-then-byte-ne95 : goal.returns-then-byte-ne95
returns-then-byte-ne95 c =
    let len = c.loop-i.len in
    let i = c.loop-i.i in
    let stop : (get_or c.args.text.now i 0 ≡ 95 → ⊥) ⊎ ((nat_lt 0 len && (len == i)) ≡ false) = elim c.then-byte-ne95.branch [
      | then-byte-ne95-via-then-byte-ne95 w ↦ inl w.if-byte-ne95.true
      | then-byte-ne95-via-else-byte-ne95+then-len-i w ↦ inr (and_right (nat_lt 0 len) (len == i) (ne_eqb len i (λ e. omega arith)))
      | then-byte-ne95-via-else-byte-ne95+else-len-i+then-i-eq0 w ↦ inr (and_left (nat_lt 0 len) (len == i) (le-ltb 0 len (omega (arith, c.loop-i.invariant.within))))
    ] in
    group_stops (is_of c.args.digit) c.args.text.now i len c.loop-i.invariant c.loop-i-test.true (sym c.has.ensures ∙ c.if-has.false) stop

pub returns : goal.returns
returns c = group_ends (is_of c.args.digit) c.args.text.now c.loop-i.i c.loop-i.len c.loop-i.invariant c.loop-i.auto.i-end c.loop-i-test.false
