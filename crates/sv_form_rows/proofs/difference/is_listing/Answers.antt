use Rattle.std.proofs.Common.{rules}
use Rattle.std.specs.Prelude.{FitsSigned}
use mir.Syntax.{w128}
use Rattle.sv_row.specs.RowParts.{monomials}
use Rattle.sv_form.specs.TermWeights.{weight_at}
use Rattle.sv_form_rows.specs.Listings.{gaps}
use Rattle.sv_form_rows.proofs.Answering.{read_gap, on_listing, off_listing}
use Rattle.sv_form_rows.proofs.difference.is_listing.Goals as goal

pub returns-in_default : goal.returns-in_default
returns-in_default c =
    let f : FitsSigned w128 (weight_at c.args.first.now c.loop-column.column) = search rules in
    let g : FitsSigned w128 (weight_at c.args.second.now c.loop-column.column) = search rules in (
      (λ t. cc t),
      λ e. absurd (off_listing (gaps c.args.first.now c.args.second.now) c.loop-column.column c.args.count c.loop-column-test.true _ (read_gap _ _ f g) _ _ _ c.loop-column.invariant c.in_default.ensures e),
    )

pub loop-column-preserved : goal.loop-column-preserved
loop-column-preserved c =
    let f : FitsSigned w128 (weight_at c.args.first.now c.loop-column.column) = search rules in
    let g : FitsSigned w128 (weight_at c.args.second.now c.loop-column.column) = search rules in
    on_listing (gaps c.args.first.now c.args.second.now) c.loop-column.column c.args.count c.loop-column-test.true _ (read_gap _ _ f g) _ _ _ c.loop-column.invariant (monomials c.in-Some.more.now) c.in-Some.ensures
