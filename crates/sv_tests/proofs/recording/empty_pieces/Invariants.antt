use Rattle.std.proofs.Common.{◌≡◌, ◌≤◌, [], vec_len, vec_capacity}
use Rattle.std.specs.List.{All}
use Rattle.sv_tests.proofs.recording.empty_pieces.Given as goal

abbrev pub invariant-fill : goal.invariant-fill
invariant-fill l = (vec_len l.pieces ≡ l.counter) × All (λ v. (v.items ≡ []) × (l.longest ≤ vec_capacity v)) l.pieces.items
