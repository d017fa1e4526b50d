use Rattle.std.proofs.Common.{◌-◌}
use Rattle.sv_parse_expr.proofs.reader.+nested.Given as goal

abbrev pub decreases-read_expr : goal.decreases-read_expr
decreases-read_expr l = 18446744073709551616 - l.cursor.now.at

abbrev pub decreases-read_type : goal.decreases-read_type
decreases-read_type l = 18446744073709551616 - l.cursor.now.at

abbrev pub decreases-read_unary : goal.decreases-read_unary
decreases-read_unary l = 18446744073709551616 - l.cursor.now.at

abbrev pub decreases-read_power : goal.decreases-read_power
decreases-read_power l = 18446744073709551616 - l.cursor.now.at
