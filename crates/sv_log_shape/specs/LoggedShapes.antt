-- Believed: what a log's node is by number, and when none can be. Hold it against the node that the parts make, in the definition of logs.
use Rattle.std.specs.Prelude.{Option, MatchOption, ℕ, ◌<◌, ◌≤◌, ◌^◌, Bool, true, false, List, [], ◌∷◌, ◌≡◌, ◌⊎◌, length}
use Rattle.sv_term.specs.Sorts.{Sort, Sorts, is_sort}
use Rattle.sv_term.specs.Terms as t
use Rattle.sv_term.specs.Terms.{fits_node}
use Rattle.sv_log.specs.LogEntries as l
use Rattle.sv_log.specs.LogEntries.{Part, SortPart, Kind, HasNumber}
use Rattle.sv_sort_room.specs.SortCells.{nth_sort, sorts_of}
use Rattle.sv_sort_room.specs.declared.cell.Cell.{Cell}
use Rattle.sv_term_room.specs.TermRows.{shape_by}
use Rattle.sv_term_room.specs.declared.shape.Shape.{Shape}
use Rattle.sv_log_sort.specs.TakenSorts.{cells_of, IsTaken}
use Rattle.sv_node_sort.specs.NeededSorts.{AreNamed}

-- how many cells the sort among the parts takes
abbrev pub cells_in : List Part → ℕ
cells_in [] = 0
cells_in (SortPart s ∷ ps) = cells_of s
cells_in (p ∷ ps) = cells_in ps

-- n is the number of the sort among the parts, if there is one
abbrev pub IsTakenAmong : List Cell → List Part → ℕ → Type 0
IsTakenAmong cells [] n = Unit {0}
IsTakenAmong cells (SortPart s ∷ ps) n = IsTaken cells s n
IsTakenAmong cells (p ∷ ps) n = IsTakenAmong cells ps n

-- what taking that sort in answers
abbrev pub IsTakingAmong : List Cell → List Part → Option ℕ → Type 0
IsTakingAmong cells ps r = MatchOption r (is_sort (l.sort_among ps) ≡ false) (IsTakenAmong cells ps)

-- no node of that shape fits, or its number can't be held
abbrev pub NeverFits : t.Shape → Type 0
NeverFits x = (kinds : Sorts) → HasNumber x → fits_node x kinds ≡ true → ⊥

-- the shape is that one, by these sorts, and may be asked for
pub record IsShapeOf (cells : List Cell) (x : t.Shape) (shape : Shape) : Type 0 where
  pub is : shape_by (sorts_of cells) shape ≡ x
  pub named : AreNamed (sorts_of cells) shape
  pub number : HasNumber x

-- ---- the shape of a kind with a flag, a number and a sort

abbrev pub shape_with : Kind → Bool → ℕ → Sort → t.Shape
shape_with l.LitKind g m s = t.LitNode g m
shape_with l.TruthKind g m s = t.TruthNode g
shape_with l.VarKind g m s = t.VarNode m s
shape_with l.AddKind g m s = t.AddNode
shape_with l.SubKind g m s = t.SubNode
shape_with l.MulKind g m s = t.MulNode
shape_with l.DivKind g m s = t.DivNode
shape_with l.ModKind g m s = t.ModNode
shape_with l.WrapKind g m s = t.WrapNode g m
shape_with l.LeKind g m s = t.LeNode
shape_with l.EqKind g m s = t.EqNode
shape_with l.NotKind g m s = t.NotNode
shape_with l.AndKind g m s = t.AndNode
shape_with l.OrKind g m s = t.OrNode
shape_with l.IteKind g m s = t.IteNode
shape_with l.SelKind g m s = t.SelNode
shape_with l.StoKind g m s = t.StoNode
shape_with l.ConstKind g m s = t.ConstNode s
shape_with l.MixKind g m s = t.MixNode
shape_with l.TupKind g m s = t.TupNode s
shape_with l.GetKind g m s = t.GetNode m
shape_with l.SumKind g m s = t.SumNode

-- no shape of the kind has that number
abbrev pub CantHold : Kind → ℕ → Type 0
CantHold l.VarKind m = 2 ^ 64 ≤ m
CantHold l.GetKind m = 2 ^ 64 ≤ m
CantHold l.WrapKind m = (m < 1) ⊎ (120 < m)
CantHold kind m = ⊥

-- the sort of that number may stand in a shape of the kind
abbrev pub MayName : Kind → List Sort → ℕ → Type 0
MayName l.VarKind ss k = (k < length ss) × (is_sort (nth_sort ss k) ≡ true)
MayName l.ConstKind ss k = (k < length ss) × (is_sort (nth_sort ss k) ≡ true)
MayName l.TupKind ss k = (k < length ss) × (is_sort (nth_sort ss k) ≡ true)
MayName kind ss k = Unit {0}

pub record IsHeld (kind : Kind) (flag : Bool) (m k : ℕ) (shape : Shape) : Type 0 where
  pub is : (ss : List Sort) → shape_by ss shape ≡ shape_with kind flag m (nth_sort ss k)
  pub named : (ss : List Sort) → MayName kind ss k → AreNamed ss shape
  pub number : (s : Sort) → HasNumber (shape_with kind flag m s)
