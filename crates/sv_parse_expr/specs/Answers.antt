-- Believed: what a parser answers for the tokens of a text from a place on, and which texts it adds to the names. Hold it against docs/grammar.md, and docs/report.md on the place of `Syntax`.
use Rattle.std.specs.Prelude.{◌≡◌, ℕ, Option, Some, None, List, Result, Ok, Err, All, Contains, slice_get, length, map, drop}
use Rattle.sv_text.specs.declared.place.Place.{Place}
use Rattle.sv_grammar.specs.Grammar.{Part, Token, Tree, Derives}
use Rattle.sv_grammar.specs.Named.{Spells}
use Rattle.sv_grammar.specs.Reach.{between, Reaches}
use Rattle.sv_ast.specs.Syntax.{Side, rules}
use Rattle.sv_lex.specs.Tokens.{Lexeme}
use Rattle.sv_lex.specs.Lexing.{Scanned, place_at}
use Rattle.sv_parse_expr.specs.declared.parse_fault.ParseFault.{ParseFault}
use Rattle.sv_parse_expr.specs.declared.parse_fault.ParseFault.TheVariants.{Syntax, NoMemory}
use Rattle.sv_parse_expr.specs.Given.{tokens_of}

-- the part derives the tokens by the tree, with names in place of texts
abbrev pub IsTreeOf : List (List ℕ) → Part Side → List Token → Tree → Type 0
IsTreeOf names a tokens t = (u : Tree) × Spells names t u × Derives rules a tokens u

-- the place of the token at the position, and the end of the text where no token is left
abbrev pub place_by : List ℕ → Option Lexeme → Place
place_by source (Some l) = place_at source l.at
place_by source None = place_at source (length source)

abbrev pub place_of_token : Scanned → ℕ → Place
place_of_token s at = place_by s.source (slice_get s.list at)

-- With `reach` the greatest position up to which the tokens from `from` on begin a list that the part derives: the tree of
-- these tokens and `reach` where they are such a list, and else the place of the token at `reach`.
abbrev pub Answers : {X : Type 0} → (X → Tree) → Part Side → Scanned → ℕ → List (List ℕ) → Result (X × ℕ) ParseFault → Type 0
Answers tree a text from names (Ok r) =
    Reaches rules a (tokens_of text) from r.1 × IsTreeOf names a (between (tokens_of text) from r.1) (tree r.0)
Answers tree a text from names (Err (Syntax place)) =
    (reach : ℕ) × Reaches rules a (tokens_of text) from reach
    × ((u : Tree) → Derives rules a (between (tokens_of text) from reach) u → ⊥) × (place ≡ place_of_token text reach)
Answers tree a text from names (Err NoMemory) = Unit {0}

-- each text that is new among the names is the text of a token
abbrev pub AddsTexts : Scanned → List (List ℕ) → List (List ℕ) → Type 0
AddsTexts text old new = All (Contains (map (λ l. l.text) text.list)) (drop (length old) new)
