use Rattle.std.proofs.Common.{◌+◌, ◌*◌, map}
use Rattle.sv_cert.specs.PlainNodes.{plain_sort, sorts_from}
use Rattle.sv_log_sort.specs.TakenSorts.{cells_of, cells_of_parts}
use Rattle.sv_log_sort.proofs.add.+add_log_sort.Given as goal

abbrev pub decreases-add_log_sort : goal.decreases-add_log_sort
decreases-add_log_sort l = 2 * cells_of (plain_sort l.sort.now)

abbrev pub decreases-add_parts : goal.decreases-add_parts
decreases-add_parts l = 1 + 2 * cells_of_parts (sorts_from (map plain_sort l.parts.now))
