-- Each byte leads on to the next state, until the quote comes where it may, or no step is left.
use Rattle.std.proofs.Common.{◌≡◌, Some, sym, ◌∙◌, subst, take, drop, get_or}
use Rattle.std.proofs.lemmas.Bool.{both_ways}
use Rattle.sv_lex.specs.declared.string.State.{State}
use Rattle.sv_lex.specs.declared.string.State.TheVariants.{Plain}
use Rattle.sv_lex.proofs.StringLemmas.{runs, string_goes_on, string_ends_at, string_breaks_at, string_runs_out}
use Rattle.sv_lex.proofs.string.string_end.Goals as goal
use Rattle.sv_lex.proofs.string.string_end.Goals.{in-Plain, in_default, else-matches-via-then-matches+else-byte-quote, else-matches-via-else-matches}

pub returns-then-byte-quote : goal.returns-then-byte-quote
returns-then-byte-quote c =
    let text = c.args.text.now in
    elim c.match-matches.branch [
      | in-Plain w ↦
          string_ends_at text c.loop-i.i c.requires c.loop-i-test.true
          (subst (λ (s : State). runs (get_or text 0 0) (take c.loop-i.i (drop 1 text)) Plain ≡ Some s) w.in-Plain.is c.loop-i.invariant) c.if-byte-quote.true
      | in_default w ↦ absurd (both_ways c.match-matches.matches w.matches-is c.if-matches.true)
    ]

pub returns-in-None : goal.returns-in-None
returns-in-None c =
    string_breaks_at c.args.text.now c.loop-i.i c.loop-i.state c.requires c.loop-i-test.true c.loop-i.invariant (sym c.step.ensures ∙ c.in-None.is)
    (λ is_plain is_quote. elim c.else-matches.branch [
      | else-matches-via-then-matches+else-byte-quote w ↦ w.if-byte-quote.false is_quote
      | else-matches-via-else-matches w ↦ elim c.match-matches.branch [
        | in-Plain v ↦ both_ways c.match-matches.matches w.if-matches.false v.matches-is
        | in_default v ↦ v.in_default.not-Plain is_plain
      ]
    ])

pub loop-i-preserved : goal.loop-i-preserved
loop-i-preserved c = string_goes_on c.args.text.now c.loop-i.i c.loop-i.state c.in-Some.next c.loop-i-test.true c.loop-i.invariant (sym c.step.ensures ∙ c.in-Some.is)

pub returns : goal.returns
returns c = string_runs_out c.args.text.now c.loop-i.i c.loop-i.state c.requires c.loop-i-test.false c.loop-i.invariant
