use Rattle.sv_cert.proofs.LogReaders.{written_is_read}
use Rattle.sv_cert.proofs.laws.a_written_log_is_read.Goals as goal

pub returns : goal.returns
returns c = written_is_read
