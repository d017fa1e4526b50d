use Rattle.std.proofs.Common.{◌≡◌, drop}
use Rattle.sv_local_names.specs.LocalScopes.{or_else, last_named}
use Rattle.sv_local_names.proofs.names.last_named.Given as goal

abbrev pub invariant-loop-l : goal.invariant-loop-l
invariant-loop-l l = or_else (last_named l.name (drop l.l-index l.list)) l.last ≡ last_named l.name l.list
