use Rattle.std.proofs.Common.{◌≡◌, ◌++◌, drop}
use Rattle.sv_member.specs.SeenNames.{seen_from}
use Rattle.sv_member.proofs.seen.add_seen.Given as goal

abbrev pub invariant-loop-d : goal.invariant-loop-d
invariant-loop-d l = (l.at ≡ l.d-index) × (l.hits ++ seen_from l.own l.name l.c l.at (drop l.d-index l.list) ≡ l.fn.hits ++ seen_from l.own l.name l.c 0 l.list)
