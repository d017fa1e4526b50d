use Rattle.std.proofs.Common.{◌≡◌, ◌+◌, ◌≤◌, count_by, length, take}
use Rattle.std.specs.List.{after_last}
use Rattle.sv_text.specs.Place.{is_newline}
use Rattle.sv_text.proofs.place.place_of.Given as goal

abbrev pub invariant-loop-byte : goal.invariant-loop-byte
invariant-loop-byte l = record {
  line_is : l.line ≡ count_by is_newline (take l.byte-index l.byte-items) + 1;
  col_is : l.col ≡ length (after_last is_newline (take l.byte-index l.byte-items)) + 1;
  line_fits : l.line ≤ l.byte-index + 1;
  col_fits : l.col ≤ l.byte-index + 1;
}
