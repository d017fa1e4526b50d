-- Serves the proof: the codes by which cells are found. Any function of a cell would do.
use Rattle.std.specs.Prelude.{ℕ, ◌+◌, ◌*◌, ◌%◌, ◌^◌, cond}
use Rattle.sv_term.specs.declared.node.Range.TheVariants as r
use Rattle.sv_sort_room.specs.declared.cell.Cell.{Cell}
use Rattle.sv_sort_room.specs.declared.cell.Cell.TheVariants as c

unfoldable pub mixed : ℕ → ℕ → ℕ
mixed code number = (code * 0x9E37_79B9_7F4A_7C15 % 2 ^ 64 + number) % 2 ^ 64

abbrev pub code_of : Cell → ℕ
code_of (c.Num r.Any) = 0
code_of (c.Num r.Low) = 1
code_of (c.Num (r.Bits signed bits)) = mixed (4 + cond signed 1 0) bits
code_of c.Bool = 2
code_of c.Unit = 3
code_of (c.Arr element) = mixed 6 element
code_of (c.Tup first rest) = mixed (mixed 7 first) rest
