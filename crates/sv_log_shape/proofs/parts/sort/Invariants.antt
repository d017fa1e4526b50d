use Rattle.std.proofs.Common.{◌≡◌, ℕ, List, drop, map}
use Rattle.sv_log.specs.LogEntries.{sort_among}
use Rattle.sv_cert.specs.PlainNodes.{plain_part}
use Rattle.sv_sort_room.specs.declared.cell.Cell.{Cell}
use Rattle.sv_log_shape.specs.LoggedShapes.{cells_in, IsTakenAmong}
use Rattle.sv_log_shape.proofs.parts.sort.Given as goal

-- none so far
abbrev pub invariant-loop-part : goal.invariant-loop-part
invariant-loop-part l = (l.room ≡ l.fn.room)
    × (cells_in (map plain_part l.parts) ≡ cells_in (map plain_part (drop l.part-index l.parts)))
    × (sort_among (map plain_part l.parts) ≡ sort_among (map plain_part (drop l.part-index l.parts)))
    × ((cells : List Cell) (n : ℕ) → IsTakenAmong cells (map plain_part (drop l.part-index l.parts)) n → IsTakenAmong cells (map plain_part l.parts) n)
