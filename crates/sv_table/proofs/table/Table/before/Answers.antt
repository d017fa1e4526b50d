use Rattle.std.proofs.Common.{◌<◌, length}
use Rattle.sv_table.proofs.ChainLaws.{leads_from_link, last_from_link, place_there}
use Rattle.sv_table.proofs.table.Table.before.Goals as goal

pub walk-requires : goal.walk-requires
walk-requires c =
    let there : c.args.place < length c.self.inside.codes.items = place_there _ _ _ c.self.view_is c.requires in
    leads_from_link _ _ _ _ _ c.self.invariant.0 c.deref.ensures.value c.deref-2.ensures.value _ _ _ there c.index.ensures c.index-2.ensures

pub returns : goal.returns
returns c =
    let there : c.args.place < length c.self.inside.codes.items = place_there _ _ _ c.self.view_is c.requires in
    rw (← c.self.view_is)
    (last_from_link _ _ _ _ _ c.self.invariant.0 c.deref.ensures.value c.deref-2.ensures.value _ _ _ _ there c.index.ensures c.index-2.ensures c.walk.ensures)
