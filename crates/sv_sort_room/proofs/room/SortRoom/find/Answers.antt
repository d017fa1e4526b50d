use Rattle.std.proofs.Common.{subst, ◌≡◌, Some, slice_get}
use Rattle.sv_sort_room.specs.CellCodes.{code_of}
use Rattle.sv_sort_room.proofs.Seeking.{Sought, sought_from, sought_next, sought_end}
use Rattle.sv_sort_room.proofs.CellTrees.{coded_by, at_read, read_at}
use Rattle.sv_sort_room.proofs.room.SortRoom.find.Goals as goal

pub loop-at-init : goal.loop-at-init
loop-at-init c = sought_from code_of _ c.args.cell _ (coded_by _ _ _ _ c.self.view_is c.self.invariant.1) _ _ c.cell_code.ensures c.last-at.ensures

pub loop-at-preserved : goal.loop-at-preserved
loop-at-preserved c =
    let there = subst (λ x. Sought code_of c.args.self.now.cells c.args.cell x) c.in-Some.is c.loop-at.invariant in
    (sought_next code_of _ c.args.cell _ (coded_by _ _ _ _ c.self.view_is c.self.invariant.1) _ _ there
    (λ e. cc (c.if-same_cell.false, c.same_cell.ensures.1 (read_at _ _ _ c.self.view_is _ _ _ c.index.ensures e))) c.before-at.ensures).0

pub loop-at-smaller : goal.loop-at-smaller
loop-at-smaller c =
    let there = subst (λ x. Sought code_of c.args.self.now.cells c.args.cell x) c.in-Some.is c.loop-at.invariant in
    rw c.in-Some.is
    ((sought_next code_of _ c.args.cell _ (coded_by _ _ _ _ c.self.view_is c.self.invariant.1) _ _ there
    (λ e. cc (c.if-same_cell.false, c.same_cell.ensures.1 (read_at _ _ _ c.self.view_is _ _ _ c.index.ensures e))) c.before-at.ensures).1)

pub returns-then-same_cell : goal.returns-then-same_cell
returns-then-same_cell c =
    let there = subst (λ x. Sought code_of c.args.self.now.cells c.args.cell x) c.in-Some.is c.loop-at.invariant in
    let same : c.index.result.now ≡ c.args.cell = c.same_cell.ensures.0 c.if-same_cell.true in
    subst (λ x. slice_get c.args.self.now.cells c.in-Some.place ≡ Some x) same (at_read _ _ _ c.self.view_is _ _ there.place.0 c.index.ensures)

pub returns : goal.returns
returns c = sought_end code_of _ c.args.cell _ (coded_by _ _ _ _ c.self.view_is c.self.invariant.1) (subst (λ x. Sought code_of c.args.self.now.cells c.args.cell x) c.in_default.is c.loop-at.invariant)
