use Rattle.std.proofs.Common.{◌∙◌, [], sym, ap}
use Rattle.std.specs.List.{flat_map}
use Rattle.sv_cert.proofs.Writers.{flat_all, entry_line, lines_flat}
use Rattle.sv_cert.proofs.text.log_text.Goals as goal

pub returns : goal.returns
returns c =
    flat_all entry_line c.as_slice-entry-items.result.now c.loop-entry.entry-index [] c.loop-entry.text.items c.loop-entry-test.false c.loop-entry.invariant
    ∙ (ap (flat_map entry_line) c.as_slice-entry-items.ensures ∙ sym (lines_flat c.args.log.now.entries))
