-- Believed: how many cells a sort takes at most, and what taking sorts in leaves the same. Hold it against cells: a tuple that has parts is its first part and the tuple of the others.
use Rattle.std.specs.Prelude.{Option, MatchOption, ℕ, ◌+◌, ◌≤◌, true, false, List, ◌≡◌, length, map}
use Rattle.sv_term.specs.Sorts.{Sort, NumSort, BoolSort, ArrSort, TupSort, Sorts, NoSorts, SortAnd, is_sort}
use Rattle.sv_cert.specs.PlainNodes.{plain_sort, sorts_from}
use Rattle.sv_cert.specs.declared.sort.LogSort.{LogSort}
use Rattle.sv_sort_room.specs.SortCells.{IsNumber, Extends}
use Rattle.sv_sort_room.specs.declared.cell.Cell.{Cell}
use Rattle.sv_term_room.specs.TermRows.{TermRows, with_cells, terms_of}

abbrev mutual
  pub cells_of : Sort → ℕ
  cells_of (NumSort r) = 1
  cells_of BoolSort = 1
  cells_of (ArrSort s) = 1 + cells_of s
  cells_of (TupSort ss) = 1 + cells_of_parts ss

  pub cells_of_parts : Sorts → ℕ
  cells_of_parts NoSorts = 0
  cells_of_parts (SortAnd s ss) = 1 + cells_of s + cells_of_parts ss

-- there are more sorts, at most so many, and all else is the same
pub record Grows (old new : TermRows) (count : ℕ) : Type 0 where
  pub cells : Extends old.cells new.cells
  pub size : length new.cells ≤ length old.cells + count
  pub rest : new ≡ with_cells new.cells old
  pub terms : terms_of new ≡ terms_of old

-- n is the number of the sort, and its ranges have 1 to 120 bits
pub record IsTaken (cells : List Cell) (s : Sort) (n : ℕ) : Type 0 where
  pub good : is_sort s ≡ true
  pub number : IsNumber cells n s

-- what taking the sort in answers: no number where it is none
abbrev pub IsTaking : List Cell → Sort → Option ℕ → Type 0
IsTaking cells s r = MatchOption r (is_sort s ≡ false) (IsTaken cells s)

-- the sort of tuples with these parts
abbrev pub tuple_sort : List LogSort → Sort
tuple_sort parts = TupSort (sorts_from (map plain_sort parts))
