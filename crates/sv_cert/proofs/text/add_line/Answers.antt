use Rattle.std.proofs.Common.{append_assoc, rules}
use Rattle.sv_cert.specs.LogText.{words_of}
use Rattle.sv_cert.specs.PlainLogs.{plain_entry}
use Rattle.sv_cert.proofs.Writers.{joined_is}
use Rattle.sv_cert.proofs.text.add_line.Goals as goal

pub returns : goal.returns
returns c =
    rw (joined_is (words_of (plain_entry c.args.entry.now))) (search (rules, append_assoc))
