-- Believed: how many cells the parts of a tuple have. Hold it against the count of cells of a sort.
use Rattle.std.specs.Prelude.{ℕ, List, map}
use Rattle.sv_cert.specs.PlainNodes.{plain_sort, sorts_from}
use Rattle.sv_cert.specs.declared.sort.LogSort.{LogSort}
use Rattle.sv_log_sort.specs.TakenSorts.{cells_of_parts}

abbrev pub cells_of_all : List LogSort → ℕ
cells_of_all parts = cells_of_parts (sorts_from (map plain_sort parts))
