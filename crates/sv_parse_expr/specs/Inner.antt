-- Serves the proof: what nests in expressions.
use Rattle.std.specs.Prelude.{ℕ, Bool, true, false}
use Rattle.sv_grammar.specs.Grammar.{Part}
use Rattle.sv_ast.specs.Syntax.{Side, expr, type, unary, power}
use Rattle.sv_read.specs.Nesting.{MayRead, leads}

-- what is read by who reads what nests, behind the first token of what holds it
abbrev pub inner : Side → Bool
inner expr = true
inner type = true
inner unary = true
inner power = true
inner _ = false

-- the part may be read at the position, by who reads what nests
abbrev pub May : {N : Type 0} → (N → Type 0) → (N → ℕ) → N → Part Side → ℕ → Type 0
May nests floor nested a at = MayRead (nests nested) (floor nested) (leads inner a) at
