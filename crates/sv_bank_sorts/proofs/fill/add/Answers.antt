use Rattle.std.proofs.Common.{length, refl, sym, subst, arith}
use Rattle.sv_term.specs.Banks.{row_of, range_of, NumRow, BoolRow, ArrRow, SortsAreBelow, sort_parts}
use Rattle.sv_sort_room.specs.declared.cell.Cell.TheVariants as cell
use Rattle.sv_sort_room.proofs.CellTrees.{sorts_length}
use Rattle.sv_bank_sorts.specs.SortNumbering.{IsAdded, number_at}
use Rattle.sv_bank_sorts.proofs.Numbering.{added_one}
use Rattle.sv_bank_sorts.proofs.fill.add.Goals as goal

pub add-requires-in-Arr-clause-parts : goal.add-requires-in-Arr-clause-parts
add-requires-in-Arr-clause-parts c =
    let below = subst (λ x. SortsAreBelow (length c.args.numbers.now) (sort_parts (row_of x))) c.in-Arr.is c.requires.parts in
    let within = c.requires.within c.in-Arr.element below.0 in
    omega (arith, within, sorts_length c.args.room.now.cells)

pub returns-in-Num : goal.returns-in-Num
returns-in-Num c = subst (λ x. IsAdded c.args.room.now (row_of x) c.args.numbers.now c.add.result c.add.new.self) (sym c.in-Num.is)
    (added_one _ _ (NumRow (range_of c.in-Num.range)) _ _ (cell.Num c.in-Num.range) refl (omega arith) (record {
      number_of = c.add.ensures.number;
      sorts = c.add.ensures.sorts;
      kept = c.add.ensures.kept;
      room = c.add.ensures.room;
    }))

pub returns-in-Bool : goal.returns-in-Bool
returns-in-Bool c = subst (λ x. IsAdded c.args.room.now (row_of x) c.args.numbers.now c.add-in-Bool.result c.add-in-Bool.new.self) (sym c.in-Bool.is)
    (added_one _ _ BoolRow _ _ cell.Bool refl (omega arith) (record {
      number_of = c.add-in-Bool.ensures.number;
      sorts = c.add-in-Bool.ensures.sorts;
      kept = c.add-in-Bool.ensures.kept;
      room = c.add-in-Bool.ensures.room;
    }))

pub returns-in-Arr : goal.returns-in-Arr
returns-in-Arr c = subst (λ x. IsAdded c.args.room.now (row_of x) c.args.numbers.now c.add-in-Arr.result c.add-in-Arr.new.self) (sym c.in-Arr.is)
    (added_one _ _ (ArrRow c.in-Arr.element) _ _ (cell.Arr (number_at c.args.numbers.now c.in-Arr.element)) refl (omega arith) (record {
      number_of = c.add-in-Arr.ensures.number;
      sorts = c.add-in-Arr.ensures.sorts;
      kept = c.add-in-Arr.ensures.kept;
      room = c.add-in-Arr.ensures.room;
    }))
