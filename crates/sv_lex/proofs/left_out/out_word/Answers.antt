use Rattle.std.proofs.Common.{sym, ◌∙◌, true≢false}
use Rattle.sv_lex.specs.Limits.{IsOut}
use Rattle.sv_lex.proofs.LimitLemmas.{HasNo-nil, HasNo-more, HasNo-all, given_first}
use Rattle.sv_lex.proofs.left_out.out_word.Goals as goal

pub returns-then-is_left_out : goal.returns-then-is_left_out
returns-then-is_left_out c =
    let items = c.as_slice-token-items in
    given_first IsOut c.args.tokens.now items.result.now c.loop-token.token-index _ items.ensures.shown items.ensures.places c.loop-token-test.true
    c.loop-token.invariant (sym c.is_left_out.ensures ∙ c.if-is_left_out.true)

pub returns : goal.returns
returns c =
    let items = c.as_slice-token-items in
    HasNo-all IsOut c.args.tokens.now.list items.result.now c.loop-token.token-index items.ensures.shown c.loop-token-test.false c.loop-token.invariant

pub loop-token-preserved : goal.loop-token-preserved
loop-token-preserved c =
    HasNo-more IsOut c.as_slice-token-items.result.now c.loop-token.token-index _ c.loop-token-test.true c.loop-token.invariant
    (λ out. true≢false (sym out ∙ sym c.is_left_out.ensures ∙ c.if-is_left_out.false))

pub loop-token-init : goal.loop-token-init
loop-token-init c = HasNo-nil IsOut
