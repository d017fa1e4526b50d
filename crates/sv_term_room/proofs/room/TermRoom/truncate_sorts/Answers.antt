use Rattle.std.proofs.Common.{ap, ◌∙◌, sym, subst}
use Rattle.std.specs.List.{All}
use Rattle.sv_sort_room.specs.SortCells.{SortCells, sorts_of}
use Rattle.sv_term_room.specs.TermRows.{TermRows, IsLow, trees_by, terms_of}
use Rattle.sv_term_room.specs.TermKeeping.{paired}
use Rattle.sv_term_room.proofs.TermRooms.{stored_less, terms_less}
use Rattle.sv_term_room.proofs.room.TermRoom.truncate_sorts.Goals as goal

pub invariant_of-self : goal.invariant_of-self
invariant_of-self c =
    let low = subst (λ (v : TermRows). All (IsLow c.args.count) v.rows) (sym c.self.view_is) c.requires in
    (stored_less c.args.count _ _ _ _ _ (ap (λ (x : SortCells). x.cells) c.truncate.ensures) low c.self.invariant.0, c.self.invariant.1, c.self.invariant.2)

pub returns-clause-terms : goal.returns-clause-terms
returns-clause-terms c =
    let low = subst (λ (v : TermRows). All (IsLow c.args.count) v.rows) (sym c.self.view_is) c.requires in
    ap (λ (x : SortCells). trees_by (sorts_of x.cells) (paired c.self.inside.heads.items c.self.inside.args.lists)) c.truncate.ensures
    ∙ (terms_less c.args.count _ _ low c.self.invariant.0.rows ∙ ap terms_of c.self.view_is)
