use Rattle.std.proofs.Common.{◌≡◌, ◌+◌, ◌*◌, ◌^◌, ◌≤◌, ◌++◌, drop, length, map}
use Rattle.sv_first_judge.specs.History.{marks_after, marks_of}
use Rattle.sv_first_judge.specs.Marks.{event_of, history_of, state_of}
use Rattle.sv_first_judge.proofs.history.marks.Given as goal

abbrev pub invariant-loop-event : goal.invariant-loop-event
invariant-loop-event l = record {
  rest : map state_of l.marks.items ++ marks_after l.contract (state_of l.state) (map event_of (drop l.event-index l.events))
      ≡ marks_of l.contract (history_of l.balance l.events);
  len : length l.state.values ≡ length l.contract.variables;
  balance : l.state.balance + 2 ^ 64 ≤ 2 ^ 64 * (l.event-index + 2);
}
