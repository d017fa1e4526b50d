-- Serves the proof: what the tokens of a list are to its text.
use Rattle.std.specs.Prelude.{ℕ, ◌≤◌, List, All, length, map}
use Rattle.sv_lex.specs.Lexing.{IsOf, shown, limit, most_tokens}
use Rattle.sv_lex.specs.Tokens.{Tokens}
use Rattle.sv_lex.specs.declared.token.Token.{Token}

-- they are the tokens of the text, few enough, each with its slice and its place
pub record IsListing (source : List ℕ) (items : List Token) : Type 0 where
  pub short : length source ≤ limit
  pub few : length items ≤ most_tokens
  pub tokens : Tokens source (map shown items)
  pub places : All (IsOf source) items
