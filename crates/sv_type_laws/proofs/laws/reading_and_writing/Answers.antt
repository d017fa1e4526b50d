use Rattle.sv_type_laws.proofs.Writes.{reads_back, leaves_others, keeps_type, reads_its_type}
use Rattle.sv_type_laws.proofs.Sums.{sum_moves}
use Rattle.sv_type_laws.proofs.Tests.{test_is_exact}
use Rattle.sv_type_laws.proofs.laws.reading_and_writing.Goals as goal

pub returns : goal.returns
returns c = record { back = reads_back; others = leaves_others; kept = keeps_type; of_type = reads_its_type; sum = sum_moves; test = test_is_exact }
