use Rattle.std.proofs.Common.{◌++◌, ◌∙◌, sym, ap, ap₂, nat_eq, arith}
use Rattle.std.proofs.lemmas.List.Filters.{dedup_is}
use Rattle.sv_log.specs.LogEntries.{columns}
use Rattle.sv_row.specs.RowParts.{monomials}
use Rattle.sv_lin.specs.UnderWay.{given, columns_among}
use Rattle.sv_lin.proofs.ColumnLists.{among_more, take_all, in_order}
use Rattle.sv_lin.proofs.columns.columns.Goals as goal

pub loop-row-preserved : goal.loop-row-preserved
loop-row-preserved c =
    c.in_ok-add_columns.ensures
    ∙ (ap₂ (λ x y. x ++ y) c.loop-row.invariant (ap (λ z. columns (monomials z)) c.as_slice.ensures)
    ∙ sym (among_more c.args.rows.now c.loop-row.row-index c.row-item.result (omega arith) c.row-item.is))

pub returns : goal.returns
returns c =
    in_order (given c.args.rows.now) c.loop-row.columns.items c.sort.new.self.items c.dedup.new.self.items
    (c.loop-row.invariant ∙ ap (λ z. columns_among (given z)) (take_all c.args.rows.now c.loop-row.row-index (omega arith)))
    c.in_ok-sort.ensures.permutation c.in_ok-sort.ensures.sorted (dedup_is nat_eq c.sort.new.self.items c.dedup.new.self.items c.dedup.ensures.filtered)
