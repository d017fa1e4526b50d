use Rattle.std.proofs.Common.{refl, sym, ◌∙◌, ap, arith}
use Rattle.sv_lex.specs.Lexing.{place_at}
use Rattle.sv_lex.proofs.CollectLemmas.{collects_over, collects_token}
use Rattle.sv_lex.proofs.collector.Collector.push.Goals as goal

pub returns-then-is_some-clause-collects : goal.returns-then-is_some-clause-collects
returns-then-is_some-clause-collects c =
    λ list h. collects_over c.args.self.now.source.now list c.args.self.now _ (sym c.if-is_some.ensures) h

pub returns-clause-collects : goal.returns-clause-collects
returns-clause-collects c =
    let self = c.args.self.now in
    λ list h. collects_token self.source.now list self
    record { source = self.source; tokens = c.push.new.self; spot = c.go_to-self.result; over = self.over } _
    (sym c.is_some.ensures ∙ c.if-is_some.false) refl c.in_ok-push.ensures.items (λ e. c.if-len-eq-MOST_TOKENS.false (omega (arith, self.tokens.ok.0)))
    record {
      ordered = c.requires.ordered;
      within = c.requires.within;
      slice = refl;
      place = c.go_to-self.ensures.spot.place ∙ ap (place_at self.source.now) c.go_to-self.ensures.at;
    } h
