-- Serves the proof: where a reader stands: the tokens of a text, the names of their texts, and a position.
use Rattle.std.specs.Prelude.{ℕ, ◌<◌, ◌≤◌, List, [], map, drop, length, get_or, All}
use Rattle.sv_grammar.specs.Grammar.{Token}
use Rattle.sv_grammar.specs.Reading.{next}
use Rattle.sv_ast.specs.Trees.{extent}
use Rattle.sv_ast.specs.Terminals.{code}
use Rattle.sv_read.specs.declared.symbol.Symbol.{Symbol}
use Rattle.sv_read.specs.declared.cursor.Cursor.TheInside.{Inside}

-- what a parser is given: the tokens, and the names of their texts
pub record Given : Type 0 where
  pub tokens : List Token
  pub names : List (List ℕ)

pub record Here : Type 0 where
  pub given : Given
  pub at : ℕ

-- the class of the next token, and 0 at the end
unfoldable pub seen : Here → ℕ
seen h = next (drop h.at h.given.tokens)

-- the token that a symbol shows
abbrev pub token_by : List (List ℕ) → Symbol → Token
token_by names s = record { class = code s.class; text = get_or names s.name []; extent = extent s.span s.place }

abbrev pub given_by : List (List ℕ) → List Symbol → Given
given_by names symbols = record { tokens = map (token_by names) symbols; names = names }

-- each name is in the list
abbrev pub AreNamed : List (List ℕ) → List Symbol → Type 0
AreNamed names symbols = All (λ s. s.name < length names) symbols

-- ---- of a cursor

abbrev pub here : Inside → Here
here c = record { given = given_by c.names.now c.symbols.now; at = c.at }

abbrev pub IsInside : Inside → Type 0
IsInside c = AreNamed c.names.now c.symbols.now × (c.at ≤ length c.symbols.now)
