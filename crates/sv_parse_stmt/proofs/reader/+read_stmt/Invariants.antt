use Rattle.std.proofs.Common.{◌-◌}
use Rattle.sv_parse_stmt.proofs.reader.+read_stmt.Given as goal

abbrev pub decreases-read_stmt : goal.decreases-read_stmt
decreases-read_stmt l = 18446744073709551616 - l.cursor.now.at
