use Rattle.std.proofs.Common.{◌∷◌, map, take}
use Rattle.std.specs.Prelude.{codes}
use Rattle.sv_first_judge.specs.Judging.{AreVerdicts, judged_function, known_at_construction}
use Rattle.sv_first_judge.proofs.judge.judge.Given as goal

abbrev pub invariant-loop-function : goal.invariant-loop-function
invariant-loop-function l =
    AreVerdicts l.contract.invariants (record { name = codes "constructor"; end = known_at_construction } ∷ map (judged_function l.contract) (take l.function-index l.contract.functions)) l.verdicts.items
