use Rattle.std.proofs.Common.{map, ◌+◌, ◌-◌, ◌∷◌, [], length}
use Rattle.sv_grammar.specs.Grammar.{pair, seq, unit, word}
use Rattle.sv_read.specs.PartReading.{Repeats}
use Rattle.sv_read.proofs.listed.LedParse.parse.Given as goal

abbrev pub invariant-more : goal.invariant-more
invariant-more g l = Repeats (seq (word ((g.row.CLASS + 1) ∷ [])) g.A.Parse.part) l.fn.cursor (map (pair unit) (map g.A.Parse.tree l.items)) l.cursor

abbrev pub decreases-more : goal.decreases-more
decreases-more g l = length l.cursor.given.tokens - l.cursor.at
