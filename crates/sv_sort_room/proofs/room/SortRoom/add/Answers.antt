use Rattle.std.proofs.Common.{ap, ◌∙◌, refl, subst, sym, ◌≡◌, ◌++◌, ◌∷◌, []}
use Rattle.sv_sort_room.specs.SortCells.{SortCells, IsNumber, Extends, sorts_of, sort_by, with_sort}
use Rattle.sv_sort_room.proofs.CellTrees.{sound_by, number_of_cell, old_sorts, extends_self, extends_more, pushed_number, pushed_sorts}
use Rattle.sv_sort_room.proofs.room.SortRoom.add.Goals as goal

pub returns-in-Some-clause-number : goal.returns-in-Some-clause-number
returns-in-Some-clause-number c = number_of_cell _ (sound_by _ _ _ c.self.view_is c.self.invariant.0) _ c.args.cell c.in-Some.ensures

pub returns-in-Some-clause-sorts : goal.returns-in-Some-clause-sorts
returns-in-Some-clause-sorts c = old_sorts _ (sound_by _ _ _ c.self.view_is c.self.invariant.0) _ c.args.cell c.in-Some.ensures

pub returns-in-Some-clause-kept : goal.returns-in-Some-clause-kept
returns-in-Some-clause-kept c = extends_self _

pub returns-clause-number : goal.returns-clause-number
returns-clause-number c =
    subst (λ x. IsNumber x c.push.result (sort_by (sorts_of c.args.self.now.cells) c.args.cell)) (sym (ap (λ (v : SortCells). v.cells) c.push.ensures.cells))
    (subst (λ k. IsNumber (c.args.self.now.cells ++ c.args.cell ∷ []) k (sort_by (sorts_of c.args.self.now.cells) c.args.cell)) (sym c.push.ensures.number) (pushed_number _ c.args.cell))

pub returns-clause-sorts : goal.returns-clause-sorts
returns-clause-sorts c =
    ap (λ (v : SortCells). sorts_of v.cells) c.push.ensures.cells
    ∙ pushed_sorts _ (sound_by _ _ _ c.self.view_is c.self.invariant.0) c.args.cell c.requires.parts (λ n. c.in_default.ensures n)

pub returns-clause-kept : goal.returns-clause-kept
returns-clause-kept c = subst (λ x. Extends c.args.self.now.cells x) (sym (ap (λ (v : SortCells). v.cells) c.push.ensures.cells)) (extends_more _ (c.args.cell ∷ []))
