use Rattle.std.proofs.Common.{ℕ, ◌≡◌, ◌<◌, None, [], length, slice_index_or}
use Rattle.sv_sight.specs.Sights.{Sees}
use Rattle.sv_sight.proofs.sights.each_sight.Given as goal

abbrev pub invariant-loop-line : goal.invariant-loop-line
invariant-loop-line l = record {
  count : l.c ≡ l.line-index;
  long : length l.sights ≡ l.line-index;
  seen : (c : ℕ) → c < l.line-index → Sees l.bases (slice_index_or l.lines c None) c (slice_index_or l.sights c []);
}
