-- Serves the proof: what a cell needs to be put at the end.
use Rattle.std.specs.Prelude.{◌<◌, length}
use Rattle.std.specs.List.{Contains}
use Rattle.sv_sort_room.specs.SortCells.{SortCells, sorts_of, HasParts}
use Rattle.sv_sort_room.specs.declared.cell.Cell.{Cell}

pub record IsNewCell (v : SortCells) (cell : Cell) : Type 0 where
  pub parts : HasParts (sorts_of v.cells) cell
  pub room : length v.cells < v.room
  pub absent : Contains v.cells cell → ⊥
