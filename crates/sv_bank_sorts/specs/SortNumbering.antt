-- Believed: which numbers the sorts of a bank have in a room. Hold it against `sort` in sv_term/specs/Banks, and `Cell` of sv_sort_room.
use Rattle.std.specs.Prelude.{ℕ, ◌<◌, ◌≤◌, ◌+◌, List, [], ◌∷◌, ◌≡◌, length, slice_index_or}
use Rattle.sv_term.specs.Sorts.{Sort}
use Rattle.sv_term.specs.Banks.{Nodes, SortRow, NumRow, BoolRow, ArrRow, TupRow, SortsAreBelow, sort, sort_by, sort_parts}
use Rattle.sv_term.specs.declared.node.SortId.{SortId}
use Rattle.sv_sort_room.specs.SortCells.{SortCells, sorts_of, nth_sort, IsNumber, Extends}
use Rattle.sv_sort_room.specs.declared.cell.Cell.{Cell}

-- ---- how much room a sort takes whose parts are there

-- a tuple has a cell for itself and for each of its tails
abbrev pub taken : SortRow → ℕ
taken (NumRow r) = 1
taken BoolRow = 1
taken (ArrRow k) = 1
taken (TupRow ks) = length ks + 1

abbrev pub taken_by_all : List SortRow → ℕ
taken_by_all [] = 0
taken_by_all (x ∷ xs) = taken x + taken_by_all xs

-- ---- numbers

-- the number in the room of a sort of the bank
abbrev pub number_at : List ℕ → SortId → ℕ
number_at numbers k = slice_index_or numbers k.0 0

-- the numbers in the room of the first sorts of the bank
pub record AreNumbers (b : Nodes) (cells : List Cell) (count : ℕ) (numbers : List ℕ) : Type 0 where
  pub size : length numbers ≡ count
  pub each : (k : SortId) → k.0 < count → IsNumber cells (number_at numbers k) (sort b k)

-- ---- one sort

-- the sort of that number, by the sorts of the room
abbrev pub sort_there : List Cell → List ℕ → SortId → Sort
sort_there cells numbers k = nth_sort (sorts_of cells) (number_at numbers k)

-- the parts of the sort have their numbers, and there is room for it
pub record IsReady (v : SortCells) (x : SortRow) (numbers : List ℕ) : Type 0 where
  pub parts : SortsAreBelow (length numbers) (sort_parts x)
  pub within : (k : SortId) → k.0 < length numbers → number_at numbers k < length v.cells
  pub room : length v.cells + taken x ≤ v.room

-- the sort has that number, and what was in the room stands there
pub record IsAdded (old : SortCells) (x : SortRow) (numbers : List ℕ) (number : ℕ) (new : SortCells) : Type 0 where
  pub number_of : IsNumber new.cells number (sort_by (sort_there old.cells numbers) x)
  pub kept : Extends old.cells new.cells
  pub size : length new.cells ≤ length old.cells + taken x
  pub room : new.room ≡ old.room
