use Rattle.std.proofs.Common.{◌≡◌, drop}
use Rattle.std.specs.Option.{option_or}
use Rattle.sv_heirs.specs.Heirs.{heir}
use Rattle.sv_heirs.proofs.heirs.heir.Given as goal

abbrev pub invariant-loop-c : goal.invariant-loop-c
invariant-loop-c l = option_or (heir l.places (drop l.c-index l.line)) l.last ≡ heir l.places l.line
