-- Believed: what the laws of tokens and of first faults say: a text has one list or one fault at most. Hold it against docs/language.md on tokens.
use Rattle.std.specs.Prelude.{◌≡◌, ℕ, ◌+◌, ◌≤◌, List, [], ◌∷◌, All, length, slice_range}
use Rattle.sv_lex.specs.Faults.{FirstFault}
use Rattle.sv_lex.specs.Tokens.{Lexeme, Tokens}
use Rattle.sv_lex.specs.declared.fault.Flaw.{Flaw}

-- a text has at most one list of tokens
abbrev pub ListIsOne : Type 0
ListIsOne = (text : List ℕ) (one other : List Lexeme) → Tokens text one → Tokens text other → one ≡ other

-- a text with a first fault has no list of tokens
abbrev pub FaultExcludesList : Type 0
FaultExcludesList = (text : List ℕ) (list : List Lexeme) (flaw : Flaw) (at : ℕ) → Tokens text list → FirstFault text flaw at → ⊥

-- a text has at most one first fault
abbrev pub FaultIsOne : Type 0
FaultIsOne = (text : List ℕ) (one other : Flaw) (at at' : ℕ) → FirstFault text one at → FirstFault text other at' → (one ≡ other) × (at ≡ at')

-- each token begins where the one before it ends, or later
abbrev pub Rise : ℕ → List Lexeme → Type 0
Rise from [] = Unit {0}
Rise from (t ∷ ts) = (from ≤ t.at) × Rise (t.at + length t.text) ts

-- the tokens of a text are slices of it, at their offsets, and their spans rise
abbrev pub TokensAreSlices : Type 0
TokensAreSlices = (text : List ℕ) (list : List Lexeme) → Tokens text list
    → All (λ t. (t.at + length t.text ≤ length text) × (slice_range text t.at (t.at + length t.text) ≡ t.text)) list × Rise 0 list
