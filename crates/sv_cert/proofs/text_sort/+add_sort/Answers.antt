use Rattle.sv_cert.proofs.Writers.{part_added}
use Rattle.sv_cert.proofs.text_sort.+add_sort.Goals as goal

pub add_sorts-loop-i-preserved : goal.add_sorts-loop-i-preserved
add_sorts-loop-i-preserved t c =
    part_added c.args.sorts.now c.loop-i.i c.index-sorts-i.result c.args.text.now.items c.loop-i.text.items c.add_comma.new.text.items c.add_sort.new.text.items c.loop-i-test.true c.index-sorts-i.is
    c.loop-i.invariant c.in_ok-add_comma.ensures c.in_ok-add_sort.ensures
