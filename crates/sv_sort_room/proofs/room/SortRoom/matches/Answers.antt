use Rattle.std.proofs.Common.{sym, ◌∙◌, ◌≡◌, false}
use Rattle.sv_term.specs.Sorts.{is_num}
use Rattle.sv_sort_room.specs.SortCells.{sorts_of, nth_sort}
use Rattle.sv_sort_room.proofs.CellTrees.{kin_by, first_is_none, second_is_none, sound_by}
use Rattle.sv_sort_room.proofs.room.SortRoom.matches.Goals as goal
use Rattle.sv_sort_room.proofs.room.SortRoom.matches.Goals.{then-is_num, else-is_num}

pub returns-else-numbers : goal.returns-else-numbers
returns-else-numbers c =
    elim c.if-is_num.branch [
      | then-is_num w ↦
          let e : is_num (nth_sort (sorts_of c.args.self.now.cells) c.args.second) ≡ false = sym w.is_num-numbers.ensures ∙ (sym w.numbers-is ∙ c.if-numbers.false) in
          kin_by _ (sound_by _ _ _ c.self.view_is c.self.invariant.0) _ _ c.requires.first c.requires.second (second_is_none _ _ e)
      | else-is_num w ↦
          let e : is_num (nth_sort (sorts_of c.args.self.now.cells) c.args.first) ≡ false = sym c.is_num.ensures ∙ w.if-is_num.false in
          kin_by _ (sound_by _ _ _ c.self.view_is c.self.invariant.0) _ _ c.requires.first c.requires.second (first_is_none _ _ e)
    ]
