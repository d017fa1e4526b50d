-- Serves the proof: how the splits are kept, the innermost last.
use Rattle.std.specs.Prelude.{List, map, reverse}
use Rattle.sv_branch.specs.OpenBranches as b
use Rattle.sv_branch.specs.declared.branch.OpenSplit.{OpenSplit}

abbrev pub plain_split : OpenSplit → b.OpenSplit
plain_split p = b.open_split p.term p.before p.second

abbrev pub stacked : List OpenSplit → List b.OpenSplit
stacked ps = reverse (map plain_split ps)
