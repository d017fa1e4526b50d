use Rattle.std.proofs.Common.{◌∙◌, ap, length}
use Rattle.sv_cert.specs.PlainLogs.{plain_node}
use Rattle.sv_sort_room.specs.SortCells.{SortCells}
use Rattle.sv_new_term.proofs.Offering.{settled}
use Rattle.sv_new_term.proofs.entry.offer.Goals as goal

pub returns-in-Unfit : goal.returns-in-Unfit
returns-in-Unfit c = record {
  offer = settled c.args.room.now c.offered-offer.new.room c.truncate_sorts.new.self (plain_node c.args.node.now) c.offered-offer.result c.len-count.result
      (c.len-count.ensures ∙ ap (λ (x : SortCells). length x.cells) c.sorts.ensures) c.truncate_sorts.ensures.cells c.in-Unfit.is c.offered-offer.ensures.offer;
  list = c.offered-offer.ensures.list;
}
