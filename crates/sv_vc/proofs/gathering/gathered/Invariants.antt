use Rattle.std.proofs.Common.{◌≤◌, ◌+◌, length, take}
use Rattle.std.specs.BTreeMap.{get}
use Rattle.sv_core.specs.contracts.label.LabelOrd.TheImpl.{ghosts as label_ord}
use Rattle.sv_term.specs.Banks.{Keeps}
use Rattle.sv_vc.specs.CodeStates.{found_of}
use Rattle.sv_vc.specs.Gatherings.{IsHeld}
use Rattle.sv_vc.proofs.gathering.gathered.Given as goal

abbrev pub invariant-loop-one : goal.invariant-loop-one
invariant-loop-one l = record {
  kept : Keeps l.fn.bank l.bank;
  held : IsHeld l.bank (get label_ord.cmp l.all) l.nothing (found_of l.fn.bank (take l.one-index l.found));
  size : length l.bank.nodes ≤ length l.fn.bank.nodes + l.one-index;
}
