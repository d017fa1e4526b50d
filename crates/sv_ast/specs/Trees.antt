-- Believed: when a node of the syntax tree is the tree of a list of tokens, and how trees are made of parts. Hold it against the types of `src/`.
use Rattle.std.specs.Prelude.{ℕ, zero, suc, Bool, List, [], ◌∷◌, map, Option, Some, None, if◌then◌else◌}
use Rattle.sv_text.specs.declared.span.Span.{Span}
use Rattle.sv_text.specs.declared.place.Place.{Place}
use Rattle.sv_grammar.specs.Grammar.{Extent, Token, Tree, unit, pair, left, right, none, some, Derives, side}
use Rattle.sv_grammar.specs.Named.{Spells}
use Rattle.sv_grammar.specs.ListTrees.{list_tree}
use Rattle.sv_ast.specs.Syntax.{Side, rules}

-- The grammar derives the tokens from the side by the tree, with names in place of texts.
-- The tree of a node of the syntax tree is `expr_tree`, `stmt_tree` and so on of the node.
abbrev pub IsTree : List (List ℕ) → Side → List Token → Tree → Type 0
IsTree names s tokens t = (u : Tree) × Spells names t u × Derives rules (side s) tokens u

-- where a node lies
abbrev pub extent : Span → Place → Extent
extent span place = record { from = span.from; to = span.to; line = place.line; column = place.col }

-- the one part and then the other
infixr 5 ◌⊗◌
abbrev pub ◌⊗◌ : Tree → Tree → Tree
t ⊗ u = pair t u

-- the alternative that stands behind so many others, and the last one
abbrev pub nth : ℕ → Tree → Tree
nth zero t = left t
nth (suc n) t = right (nth n t)

abbrev pub last : ℕ → Tree → Tree
last zero t = t
last (suc n) t = right (last n t)

-- what may be left out
abbrev pub optional : {X : Type 0} → (X → Tree) → Option X → Tree
optional f None = none
optional f (Some x) = some (f x)

abbrev pub optional_word : Bool → Tree
optional_word there = if there then some unit else none

-- one or more; of none there is no tree
abbrev pub several : List Tree → Tree
several [] = unit
several (t ∷ ts) = t ⊗ list_tree ts

-- one or more, with commas between
abbrev pub commas : List Tree → Tree
commas [] = unit
commas (t ∷ ts) = t ⊗ list_tree (map (pair unit) ts)

-- any number, with commas between
abbrev pub optional_commas : List Tree → Tree
optional_commas [] = none
optional_commas (t ∷ ts) = some (commas (t ∷ ts))
