use Rattle.std.proofs.Common.{◌≡◌, length, arith}
use Rattle.sv_table.proofs.ChainLaws.{leads_from_head, last_from_head}
use Rattle.sv_table.proofs.table.Table.last.Goals as goal

pub walk-requires : goal.walk-requires
walk-requires c =
    let width : c.len.result ≡ length c.self.inside.heads.items = omega (arith, c.self.inside.heads.ok.0, c.len.ensures) in
    leads_from_head _ _ _ _ _ c.self.invariant.0 c.deref.ensures.value c.deref-2.ensures.value _ _ _ width c.index.ensures

pub returns : goal.returns
returns c =
    let width : c.len.result ≡ length c.self.inside.heads.items = omega (arith, c.self.inside.heads.ok.0, c.len.ensures) in
    rw (← c.self.view_is)
    (last_from_head _ _ _ _ _ c.self.invariant.0 c.deref.ensures.value c.deref-2.ensures.value _ _ _ _ width c.index.ensures c.walk.ensures)
