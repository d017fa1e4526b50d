-- Serves the proof: the class of a text in a table.
use Rattle.std.specs.Prelude.{◌≡◌, ℕ, List, Option, Some, None}
use Rattle.std.specs.Borrow.{Bor}
use Rattle.sv_ast.specs.Terminals.{Spelling, is_spelled}
use Rattle.sv_ast.specs.Classes.{class_in}
use Rattle.sv_ast.specs.declared.class.Class.{Class}

-- a row of a table
abbrev pub spelling : Bor (List ℕ) × Class → Spelling
spelling row = is_spelled row.1 row.0.now

-- the table has the text with this class, or does not have it
abbrev pub FoundIn : List Spelling → List ℕ → Option Class → Type 0
FoundIn table text (Some c) = (otherwise : Class) → class_in table text otherwise ≡ c
FoundIn table text None = (otherwise : Class) → class_in table text otherwise ≡ otherwise
