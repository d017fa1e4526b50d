use Rattle.std.proofs.Common.{map, ◌≡◌, ◌≤◌, ◌-◌, length}
use Rattle.sv_ast.specs.StmtTrees.{else_if_tree}
use Rattle.sv_parse_stmt.specs.Branches.{Branches}
use Rattle.sv_parse_stmt.proofs.if_stmt.read_branches.Given as goal

abbrev pub invariant-more : goal.invariant-more
invariant-more g l = record {
  branches : Branches l.fn.cursor (map else_if_tree l.else_ifs) l.cursor;
  from : l.from ≡ l.cursor.at;
  ordered : l.fn.cursor.at ≤ l.cursor.at;
  within : l.cursor.at ≤ length l.cursor.given.tokens;
}

abbrev pub decreases-more : goal.decreases-more
decreases-more g l = length l.cursor.given.tokens - l.cursor.at
