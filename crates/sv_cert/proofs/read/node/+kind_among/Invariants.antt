use Rattle.std.proofs.Common.{length}
use Rattle.sv_cert.proofs.read.node.+kind_among.Given as goal

abbrev pub decreases-kind_among : goal.decreases-kind_among
decreases-kind_among l = length l.kinds.now
