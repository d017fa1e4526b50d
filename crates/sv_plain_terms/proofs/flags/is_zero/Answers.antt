use Rattle.std.proofs.Common.{ap, ◌∙◌}
use Rattle.sv_term.specs.Terms.{App}
use Rattle.sv_log.specs.Logs.{nth_term, nth_terms}
use Rattle.sv_sort_room.specs.SortCells.{sorts_of}
use Rattle.sv_term_room.specs.TermRows.{terms_of, shape_by}
use Rattle.sv_plain_terms.proofs.FlagsBelow.{zero_by}
use Rattle.sv_plain_terms.proofs.flags.is_zero.Goals as goal

pub returns-then-is : goal.returns-then-is
returns-then-is c =
    let ts = terms_of c.args.terms.now in
    let args = c.node-shape.result.1.now in
    zero_by ts (nth_term ts c.args.n) args
    (c.node-shape.ensures.tree ∙ ap (λ x. App (shape_by (sorts_of c.args.terms.now.cells) x) (nth_terms ts args)) (c.is.ensures.0 c.if-is.true))
