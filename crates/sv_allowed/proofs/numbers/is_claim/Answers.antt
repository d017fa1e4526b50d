use Rattle.std.proofs.Common.{List, ◌≡◌, ◌<◌, refl, sym, ◌∙◌, ap, length, arith}
use Rattle.sv_term.specs.Sorts.{BoolSort}
use Rattle.sv_sort_room.specs.SortCells.{SortCells, nth_sort, sorts_of, sort_by}
use Rattle.sv_sort_room.specs.declared.cell.Cell.{Cell}
use Rattle.sv_term_room.specs.TermRows.{terms_of}
use Rattle.sv_allowed.proofs.Deciding.{claim_by}
use Rattle.sv_allowed.proofs.numbers.is_claim.Goals as goal

pub returns-in-Bool : goal.returns-in-Bool
returns-in-Bool c =
    let size = c.is_sound.ensures.size in
    let within = c.requires in
    let low : c.args.n < length (terms_of c.args.terms.now) = omega (arith, size, within) in
    let cells = ap (λ (s : SortCells). s.cells) c.sorts.ensures in
    let sort : nth_sort (sorts_of c.args.terms.now.cells) c.sort_of.result ≡ BoolSort =
    ap (λ (l : List Cell). nth_sort (sorts_of l) c.sort_of.result) (sym cells) ∙ c.cell.ensures.sort ∙ ap (sort_by (sorts_of c.sorts.result.now.cells)) c.in-Bool.is in
    let claim = claim_by c.args.terms.now c.args.n BoolSort c.is_sound.ensures.fitting low (sym c.sort_of.ensures.is ∙ sort) in
    (λ e. claim, λ e. refl)
