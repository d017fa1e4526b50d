use Rattle.std.proofs.Common.{◌≡◌, drop}
use Rattle.sv_local_names.specs.LocalScopes.{or_else}
use Rattle.sv_seen.specs.NameMeanings.{last_meant}
use Rattle.sv_seen.proofs.declared.last_meant.Given as goal

abbrev pub invariant-loop-h : goal.invariant-loop-h
invariant-loop-h l = or_else (last_meant l.text (drop l.h-index l.hits)) l.last ≡ last_meant l.text l.hits
