-- Believed: what the number of a sort stands for. Hold it against the comment at `Cell`.
use Rattle.std.specs.Prelude.{ℕ, ◌<◌, ◌≤◌, true, List, [], ◌∷◌, ◌++◌, ◌≡◌, cond, length, take, slice_index_or, slice_get, Some}
use Rattle.std.specs.List.{list_any}
use Rattle.sv_term.specs.Sorts.{Sort, NumSort, BoolSort, ArrSort, TupSort, Sorts, NoSorts, SortAnd, same_sort, is_tuple, parts, count}
use Rattle.sv_term.specs.Banks.{range_of}
use Rattle.sv_sort_room.specs.BuiltLists.{built, AreNew}
use Rattle.sv_sort_room.specs.declared.cell.Cell.{Cell}
use Rattle.sv_sort_room.specs.declared.cell.Cell.TheVariants as c

-- the cells in order, and for how many there is room
pub record SortCells : Type 0 where
  pub cells : List Cell
  pub room : ℕ

abbrev pub sort_cells : List Cell → ℕ → SortCells
sort_cells cells room = record { cells = cells; room = room }

-- the sort of that number
abbrev pub nth_sort : List Sort → ℕ → Sort
nth_sort ss n = slice_index_or ss n BoolSort

-- the sort of a cell whose parts are numbers
abbrev pub sort_by : List Sort → Cell → Sort
sort_by ss (c.Num r) = NumSort (range_of r)
sort_by ss c.Bool = BoolSort
sort_by ss (c.Arr element) = ArrSort (nth_sort ss element)
sort_by ss c.Unit = TupSort NoSorts
sort_by ss (c.Tup first rest) = TupSort (SortAnd (nth_sort ss first) (parts (nth_sort ss rest)))

-- the sorts that the cells stand for, by number
unfoldable pub sorts_of : List Cell → List Sort
sorts_of cells = built sort_by [] cells

-- the parts are among these sorts, and what follows the first part of a tuple is a tuple
abbrev pub HasParts : List Sort → Cell → Type 0
HasParts ss (c.Num r) = Unit {0}
HasParts ss c.Bool = Unit {0}
HasParts ss (c.Arr element) = element < length ss
HasParts ss c.Unit = Unit {0}
HasParts ss (c.Tup first rest) = (first < length ss) × (rest < length ss) × (is_tuple (nth_sort ss rest) ≡ true)

-- the cell of that number: its parts have smaller numbers, and the number stands for its sort
pub record IsCell (cells : List Cell) (n : ℕ) (cell : Cell) : Type 0 where
  pub there : slice_get cells n ≡ Some cell
  pub parts : HasParts (take n (sorts_of cells)) cell
  pub sort : nth_sort (sorts_of cells) n ≡ sort_by (sorts_of cells) cell

-- the number of a sort among those of the cells
pub record IsNumber (cells : List Cell) (n : ℕ) (s : Sort) : Type 0 where
  pub within : n < length cells
  pub is : nth_sort (sorts_of cells) n ≡ s

-- with one sort more, if it isn't there
abbrev pub with_sort : List Sort → Sort → List Sort
with_sort ss s = cond (list_any (same_sort s) ss) ss (ss ++ s ∷ [])

-- the old cells stand at the beginning
pub record Extends (old new : List Cell) : Type 0 where
  pub cells : take (length old) new ≡ old
  pub sorts : take (length old) (sorts_of new) ≡ sorts_of old
  pub size : length old ≤ length new

-- each sort has one number
abbrev pub DifferBySort : List Cell → Type 0
DifferBySort cells = (j k : ℕ) → j < length cells → k < length cells → nth_sort (sorts_of cells) j ≡ nth_sort (sorts_of cells) k → j ≡ k
