use Rattle.std.proofs.Common.{ap}
use Rattle.sv_log.specs.Logs.{nth_term}
use Rattle.sv_sort_room.specs.SortCells.{SortCells}
use Rattle.sv_term_room.specs.TermRows.{terms_of}
use Rattle.sv_plain_terms.proofs.FlagsOfTerms.{fits_at, range_at}
use Rattle.sv_plain_terms.proofs.terms.PlainTermsTermNumbers.range.Goals as goal

pub returns-in-Num : goal.returns-in-Num
returns-in-Num c =
    let ts = terms_of c.args.self.now.room.now in
    range_at (nth_term ts c.args.n) c.in-Num.range c.args.self.now.room.now.cells c.sorts.result.now.cells c.sort_of.result c.cell.result (fits_at ts c.args.n c.is_sound.ensures.fitting c.requires)
    (ap (λ (v : SortCells). v.cells) c.sorts.ensures) c.sort_of.ensures c.cell.ensures c.in-Num.is
