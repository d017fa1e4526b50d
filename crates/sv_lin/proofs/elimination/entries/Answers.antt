use Rattle.std.proofs.Common.{map, ap, ◌∙◌, arith}
use Rattle.sv_cert.specs.PlainLogs.{plain_entry}
use Rattle.sv_lin.proofs.Answering.{entries_begin, entries_more, entries_end}
use Rattle.sv_lin.proofs.elimination.entries.Goals as goal

pub loop-made-init : goal.loop-made-init
loop-made-init c = entries_begin c.new-entries.result.items c.args.work.made.items c.into_made-left.result.items c.reverse.new.self.items c.new-entries.ensures.items c.into_made-left.ensures c.reverse.ensures.items

pub loop-made-preserved : goal.loop-made-preserved
loop-made-preserved c =
    entries_more c.loop-made.entries.items c.push.new.self.items c.args.work.made.items c.loop-made.left.items c.pop.new.self.items c.in-Some.made c.entry_of.result c.loop-made.invariant
    c.in-Some.ensures.items c.in_ok-push.ensures.items c.entry_of.ensures

pub returns : goal.returns
returns c =
    let a = c.in_default.ensures.cases.0 in
    let k = c.loop-made.left.ok.0 in
    ap (map plain_entry) c.from_vec.ensures ∙ entries_end c.loop-made.entries.items c.args.work.made.items c.loop-made.left.items c.loop-made.invariant (omega (arith, a, k))
