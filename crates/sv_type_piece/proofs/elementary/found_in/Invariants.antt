use Rattle.std.proofs.Common.{◌≡◌, drop, map}
use Rattle.sv_type_piece.specs.ElementaryTypes.{found_in}
use Rattle.sv_type_piece.specs.ElementaryTables.{spelled_type}
use Rattle.sv_type_piece.proofs.elementary.found_in.Given as goal

abbrev pub invariant-loop-spelled : goal.invariant-loop-spelled
invariant-loop-spelled l = found_in l.text (map spelled_type (drop l.spelled-index l.table)) ≡ found_in l.text (map spelled_type l.table)
