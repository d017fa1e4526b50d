use Rattle.std.proofs.Common.{◌+◌, ◌≤◌, length}
use Rattle.sv_io.specs.Moving.{HasPut, HasGivenPieces}
use Rattle.sv_io.proofs.moving.put_all.Given as goal

abbrev pub invariant-loop-rest : goal.invariant-loop-rest
invariant-loop-rest g l = record {
  written : HasPut (g.K.Sink.held l.initial.sink) (g.K.Sink.held l.sink) l.text l.rest;
  faults : g.K.Sink.faults l.initial.sink ≤ g.K.Sink.faults l.sink;
  puts : g.K.Sink.puts l.sink + length l.rest ≤ g.K.Sink.puts l.initial.sink + length l.text;
  pieces : HasGivenPieces l.text (g.K.Sink.calls l.initial.sink) (g.K.Sink.calls l.sink) l.rest;
  room : g.K.Sink.room l.initial.sink + length l.rest ≤ g.K.Sink.room l.sink + length l.text;
}

abbrev pub decreases-loop-rest : goal.decreases-loop-rest
decreases-loop-rest g l = length l.rest
