use Rattle.std.proofs.Common.{◌≡◌, ◌+◌}
use Rattle.sv_text.specs.Place.{line_of, column_of}
use Rattle.sv_lex.proofs.spot.Spot.go_to.Given as goal

abbrev pub invariant-loop-byte : goal.invariant-loop-byte
invariant-loop-byte l = record {
  line_is : l.place.line ≡ line_of l.text (l.fn.self.at + l.byte-index);
  col_is : l.place.col ≡ column_of l.text (l.fn.self.at + l.byte-index);
}
