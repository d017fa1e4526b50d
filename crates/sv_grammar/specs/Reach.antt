-- Believed: how far the tokens from a place on are a viable prefix. Hold it against a textbook's viable prefixes, and docs/report.md on the place of `Syntax`.
use Rattle.std.specs.Prelude.{ℕ, ◌-◌, ◌≤◌, List, take, drop, length}
use Rattle.sv_grammar.specs.Grammar.{Token, Part, Begins}

-- the tokens from one place up to another
abbrev pub between : List Token → ℕ → ℕ → List Token
between tokens from to = take (to - from) (drop from tokens)

-- the greatest place up to which the tokens begin a list that the part derives
pub record Reaches {S : Type 0} (rules : S → Part S) (a : Part S) (tokens : List Token) (from reach : ℕ) : Type 0 where
  pub after : from ≤ reach
  pub within : reach ≤ length tokens
  pub begins : Begins rules a (between tokens from reach)
  pub greatest : (k : ℕ) → from ≤ k → k ≤ length tokens → Begins rules a (between tokens from k)
      → k ≤ reach
