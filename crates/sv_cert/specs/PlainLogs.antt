-- Believed: the code's logs as plain data. Hold it against the types of the same names.
use Rattle.std.specs.Prelude.{List, map}
use Rattle.sv_log.specs.LogEntries as l
pub use Rattle.sv_log.specs.LogRows.{plain_monomial}
use Rattle.sv_cert.specs.PlainNodes.{plain_kind, plain_part}
use Rattle.sv_cert.specs.declared.log.LogNode.{LogNode}
use Rattle.sv_cert.specs.declared.log.Row.{Row}
use Rattle.sv_cert.specs.declared.log.Entry.{Entry}
use Rattle.sv_cert.specs.declared.log.Entry.TheVariants as e
use Rattle.sv_cert.specs.declared.log.Log.{Log}

abbrev pub plain_node : LogNode → l.LogNode
plain_node node = record { kind = plain_kind node.kind; parts = map plain_part node.parts }

abbrev pub plain_row : Row → l.Row
plain_row r = record { constant = r.constant; parts = map plain_monomial r.parts }

abbrev pub plain_entry : Entry → l.Entry
plain_entry (e.Term node) = l.AddTerm (plain_node node)
plain_entry (e.Fact rule sign n from) = l.AddFact rule sign n from
plain_entry (e.Linear p forward r) = l.Linear p forward (plain_row r)
plain_entry (e.Combine m p n q r) = l.Combine m p n q (plain_row r)
plain_entry (e.Divide d p r) = l.Divide d p (plain_row r)
plain_entry (e.Split n) = l.SplitOn n
plain_entry e.Cut = l.Cut
plain_entry (e.Close p) = l.CloseAt p
plain_entry (e.Clash p q) = l.Clash p q

abbrev pub plain_log : Log → List l.Entry
plain_log log = map plain_entry log.entries
