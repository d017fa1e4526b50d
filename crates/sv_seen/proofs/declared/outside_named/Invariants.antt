use Rattle.std.proofs.Common.{◌≡◌, drop}
use Rattle.sv_seen.specs.NameMeanings.{outside_named}
use Rattle.sv_seen.proofs.declared.outside_named.Given as goal

abbrev pub invariant-loop-d : goal.invariant-loop-d
invariant-loop-d l = outside_named l.text l.name (drop l.d-index l.list) ≡ outside_named l.text l.name l.list
