use Rattle.sv_first_form.proofs.Opening.{opened_at, none_at_end}
use Rattle.sv_first_form.proofs.parse.split_at_contract.Goals as goal

pub returns-then-is_token-clause-cut : goal.returns-then-is_token-clause-cut
returns-then-is_token-clause-cut c =
    opened_at c.args.tokens.now c.loop-at.at c.loop-at.invariant c.split_at.result.0.now c.split_at.result.1.now _
    c.split_at.ensures.front c.split_at.ensures.back c.loop-at-test.true (c.is_token.ensures.0 c.if-is_token.true)

pub returns-clause-none : goal.returns-clause-none
returns-clause-none c = none_at_end c.args.tokens.now c.loop-at.at c.loop-at.invariant c.loop-at-test.false
