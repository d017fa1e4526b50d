use Rattle.std.proofs.Common.{◌≡◌, ℕ, ◌+◌, ◌<◌, ◌≤◌, ◌∙◌, List, [], if◌then◌else◌, map, take, sym, ap, subst, inl, inr, get_or}
use Rattle.sv_lex.specs.Lexing.{shown}
use Rattle.sv_lex.specs.Limits.{IsDeep}
use Rattle.sv_lex.specs.NestingFound.{IsShallow}
use Rattle.sv_lex.specs.declared.tok.Tok.TheVariants.{Word}
use Rattle.sv_lex.specs.declared.token.Token.{Token}
use Rattle.sv_lex.proofs.LimitLemmas.{given_first, HasNo-all, changed, changed-opens, changed-closes, changed-none, counted, is_deep, is_shallow, shallow_start}
use Rattle.sv_lex.proofs.nesting.deep.Goals as goal
use Rattle.sv_lex.proofs.nesting.deep.Goals.{in-Opens, in-Closes, in-None, then-restarts, else-restarts, Joined-of, Joined-restarts}

-- the token at a position
abbrev token_at : List Token → ℕ → Token
token_at items i = get_or items i record { kind = Word; text = record { ref_ptr = (0, 0); now = [] }; span = record { from = 0; to = 0 }; place = record { line = 0; col = 0 } }

-- the brackets that are open with the token
brackets_are : (c : Joined-of) → c.match-of.open ≡ changed c.loop-token.open (shown (token_at c.as_slice-token-items.result.now c.loop-token.token-index))
brackets_are c =
    let t = shown (token_at c.as_slice-token-items.result.now c.loop-token.token-index) in
    elim c.match-of.branch [
      | in-Opens w ↦ w.open-is ∙ sym (changed-opens c.loop-token.open t w.in-Opens.ensures)
      | in-Closes w ↦ w.open-is ∙ w.saturating_sub-open.ensures ∙ sym (changed-closes c.loop-token.open t w.in-Closes.ensures)
      | in-None w ↦ w.open-is ∙ sym (changed-none c.loop-token.open t w.in-None.ensures)
    ]

row_is : (c : Joined-restarts) → c.if-restarts.in_a_row ≡ counted c.loop-token.in_a_row (shown (token_at c.as_slice-token-items.result.now c.loop-token.token-index))
row_is c = elim c.if-restarts.branch [
  | then-restarts w ↦ w.in_a_row-is ∙ ap (λ b. if b then 0 else c.loop-token.in_a_row + 1) w.if-restarts.ensures
  | else-restarts w ↦ w.in_a_row-is ∙ ap (λ b. if b then 0 else c.loop-token.in_a_row + 1) w.if-restarts.ensures
]

pub loop-token-init : goal.loop-token-init
loop-token-init c = shallow_start

pub loop-token-preserved : goal.loop-token-preserved
loop-token-preserved c =
    let items = c.as_slice-token-items.result.now in
    let i = c.loop-token.token-index in
    let brackets = brackets_are (goal.at.loop-token-preserved c).Joined-of in
    let few = subst (λ n. n ≤ 64) brackets c.if-open-gt-MOST_BRACKETS.false in
    let more =
    is_shallow items i _ c.loop-token.open c.loop-token.in_a_row c.loop-token-test.true c.loop-token.invariant few c.if-in_a_row-eq-MOST_IN_A_ROW.false in
    let next = map shown (take (i + 1) items) in
    subst (λ n. IsShallow next n c.if-restarts.in_a_row) (sym brackets) (subst (λ n. IsShallow next (changed c.loop-token.open (shown (token_at items i))) n) (sym (row_is c)) more)

pub returns-then-open-gt-MOST_BRACKETS : goal.returns-then-open-gt-MOST_BRACKETS
returns-then-open-gt-MOST_BRACKETS c =
    let items = c.as_slice-token-items in
    let i = c.loop-token.token-index in
    let brackets = brackets_are (goal.at.returns-then-open-gt-MOST_BRACKETS c).Joined-of in
    given_first IsDeep c.args.tokens.now items.result.now i _ items.ensures.shown items.ensures.places c.loop-token-test.true
    c.loop-token.invariant.none
    (is_deep _ _ c.loop-token.open c.loop-token.in_a_row c.loop-token.invariant
    (elim c.then-open-gt-MOST_BRACKETS.either [ inl many ↦ inl (subst (λ n. 64 < n) brackets many) | inr full ↦ inr full.1 ]))

pub returns : goal.returns
returns c =
    let items = c.as_slice-token-items in
    HasNo-all IsDeep c.args.tokens.now.list items.result.now c.loop-token.token-index items.ensures.shown c.loop-token-test.false c.loop-token.invariant.none
