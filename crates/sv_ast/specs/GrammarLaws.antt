-- Believed: what the laws of the grammar say: a list of tokens has one tree at most. Hold it against docs/grammar.md.
use Rattle.std.specs.Prelude.{◌≡◌, ◌≢◌, ℕ, List, AllPairs}
use Rattle.sv_grammar.specs.Grammar.{Part, Token, Tree, Derives, side, star}
use Rattle.sv_grammar.specs.Named.{Spells}
use Rattle.sv_ast.specs.Syntax.{Side, rules, note_line}

-- the part derives a list of tokens by one tree at most
abbrev pub IsOne : Part Side → Type 0
IsOne a = (tokens : List Token) (t u : Tree) → Derives rules a tokens t → Derives rules a tokens u → t ≡ u

-- the part derives the tokens by the tree, with names in place of texts
abbrev pub IsNamed : List (List ℕ) → Part Side → List Token → Tree → Type 0
IsNamed names a tokens t = (u : Tree) × Spells names t u × Derives rules a tokens u

-- so among distinct names a list of tokens has one tree at most
abbrev pub IsOneNamed : Part Side → Type 0
IsOneNamed a = (names : List (List ℕ)) (tokens : List Token) (t u : Tree) → AllPairs (λ x y. x ≢ y) names → IsNamed names a tokens t → IsNamed names a tokens u → t ≡ u

-- each left side, and a list of annotations
abbrev pub TreeIsOne : Type 0
TreeIsOne = (s : Side) → IsOne (side s)

abbrev pub NamedTreeIsOne : Type 0
NamedTreeIsOne = (s : Side) → IsOneNamed (side s)

abbrev pub NotesAreOne : Type 0
NotesAreOne = IsOne (star (side note_line))

abbrev pub NamedNotesAreOne : Type 0
NamedNotesAreOne = IsOneNamed (star (side note_line))
