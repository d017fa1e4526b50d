use Rattle.std.proofs.Common.{◌≡◌, length, take}
use Rattle.sv_table.proofs.table.Table.truncate.Given as goal

-- the codes that are to stay, as they were
abbrev pub invariant-loop-self : goal.invariant-loop-self
invariant-loop-self l = (l.self.room ≡ l.initial.self.room) × (take l.count l.self.codes ≡ take l.count l.initial.self.codes)

abbrev pub decreases-loop-self : goal.decreases-loop-self
decreases-loop-self l = length l.self.codes
