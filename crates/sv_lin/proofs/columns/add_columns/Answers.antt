use Rattle.std.proofs.Common.{◌++◌, ◌∷◌, [], ◌∙◌, sym, ap, get_or, take, pos, arith, append_assoc}
use Rattle.sv_log.specs.LogEntries.{columns}
use Rattle.sv_row.specs.RowParts.{monomials}
use Rattle.sv_lin.proofs.ColumnLists.{parts_more}
use Rattle.sv_lin.proofs.columns.add_columns.Goals as goal

pub loop-part-preserved : goal.loop-part-preserved
loop-part-preserved c =
    c.in_ok-push.ensures.items
    ∙ (ap (λ z. z ++ (get_or c.args.parts.now c.loop-part.part-index (pos 0, 0)).1 ∷ []) c.loop-part.invariant
    ∙ (append_assoc c.args.columns.now.items (columns (monomials (take c.loop-part.part-index c.args.parts.now))) ((get_or c.args.parts.now c.loop-part.part-index (pos 0, 0)).1 ∷ [])
    ∙ ap (λ z. c.args.columns.now.items ++ z) (sym (parts_more c.args.parts.now c.loop-part.part-index (pos 0, 0) (omega arith)))))
