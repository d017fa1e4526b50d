-- Believed: what is true of the line of a contract, as laws. Hold it against the sentence above each.
use Rattle.std.specs.Prelude.{ℕ, ◌≡◌, ◌<◌, ◌↔◌, ◌⊎◌, Option, Some, None, Result, Ok, Err, List, [], ◌∷◌, ◌++◌, map, length, slice_index, slice_index_or}
use Rattle.std.specs.List.{Contains}
use Rattle.sv_lines.specs.Lines.{Lined}
use Rattle.sv_lines.specs.declared.lines.LineFault.{LineFault}
use Rattle.sv_lines.specs.declared.lines.LineFault.TheVariants as fault
use Rattle.sv_reach.specs.Paths.{Reaches}
use Rattle.sv_orders.specs.LineTables.{EachLined}

-- no two places of the list hold one contract
abbrev pub AreApart : List ℕ → Type 0
AreApart line = (i j : ℕ) → i < length line → j < length line → slice_index line i ≡ slice_index line j → i ≡ j

-- it ends with its contract, holds no contract twice, and holds exactly the contracts that its contract reaches through bases
pub record IsLineOf (bases : List (List ℕ)) (c : ℕ) (line : List ℕ) : Type 0 where
  pub last : (front : List ℕ) × (line ≡ front ++ c ∷ [])
  pub apart : AreApart line
  pub reached : (d : ℕ) → Contains line d ↔ Reaches bases c d

-- so is each line
abbrev pub LinesReach : Type 0
LinesReach = (bases : List (List ℕ)) (lines : List (Option (List ℕ))) → EachLined bases lines
    → (c : ℕ) (line : List ℕ) → slice_index_or lines c None ≡ Some line → IsLineOf bases c line

-- where each contract has a line, the lines are what `linearise` answers, and there is no other answer but want of memory
abbrev pub LinesAgree : Type 0
LinesAgree = (bases lines : List (List ℕ)) → EachLined bases (map Some lines)
    → Lined bases (Ok lines) × ((r : Result (List (List ℕ)) LineFault) → Lined bases r → (r ≡ Ok lines) ⊎ (r ≡ Err fault.NoMemory))
