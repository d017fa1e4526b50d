-- Believed: what becomes of a node that is offered, and the room that it takes. Hold it against the entry of a log that adds a term.
use Rattle.std.specs.Prelude.{ℕ, ◌+◌, ◌≤◌, true, false, List, [], ◌∷◌, ◌++◌, ◌≡◌, length}
use Rattle.std.specs.List.{Contains}
use Rattle.sv_term.specs.Terms.{Term, fits}
use Rattle.sv_log.specs.LogEntries.{LogNode, shape_of, terms_among, HasNumber}
use Rattle.sv_log.specs.Logs.{built}
use Rattle.sv_sort_room.specs.SortCells.{sorts_of, Extends}
use Rattle.sv_term_room.specs.TermRows.{TermRows, TermRow, terms_of, tree_of, AreBelow, HasRoom}
use Rattle.sv_term_room.specs.declared.shape.Shape.{Shape}
use Rattle.sv_node_sort.specs.NeededSorts.{AreNamed, Needs, kinds_of}
use Rattle.sv_node_sort.specs.declared.needed.Needed.{Needed}
use Rattle.sv_log_sort.specs.TakenSorts.{Grows}
use Rattle.sv_log_shape.specs.LoggedShapes.{cells_in}
use Rattle.sv_new_term.specs.declared.entry.Outcome.{Outcome}
use Rattle.sv_new_term.specs.declared.entry.Outcome.TheVariants as o

-- room for the term, for its arguments, and for one sort more than its named sort has cells
abbrev pub HasNodeRoom : TermRows → LogNode → Type 0
HasNodeRoom v node = HasRoom v (length (terms_among node.parts)) (cells_in node.parts + 1)

-- the node fits, and its number can be held
pub record IsFitting (ts : List Term) (node : LogNode) : Type 0 where
  pub number : HasNumber (shape_of node)
  pub tree_fits : fits (built ts node) ≡ true

-- the list of terms is longer by that tree, over these arguments; there are at most so many more sorts, and the rooms are the same
pub record IsLonger (old new : TermRows) (x : Term) (args : List ℕ) (sorts : ℕ) : Type 0 where
  pub terms : terms_of new ≡ terms_of old ++ x ∷ []
  pub row : TermRow
  pub rows : new.rows ≡ old.rows ++ row ∷ []
  pub row_args : row.node.args ≡ args
  pub cells : Extends old.cells new.cells
  pub cells_size : length new.cells ≤ length old.cells + sorts
  pub rooms : (new.room ≡ old.room) × (new.args_room ≡ old.args_room) × (new.sorts_room ≡ old.sorts_room)

abbrev pub IsOffer : TermRows → TermRows → LogNode → Outcome → Type 0
IsOffer old new node o.Unfit = (new ≡ old) × (IsFitting (terms_of old) node → ⊥)
IsOffer old new node o.There = (new ≡ old) × IsFitting (terms_of old) node × Contains (terms_of old) (built (terms_of old) node)
IsOffer old new node o.Added = IsFitting (terms_of old) node × (Contains (terms_of old) (built (terms_of old) node) → ⊥)
    × IsLonger old new (built (terms_of old) node) (terms_among node.parts) (cells_in node.parts + 1)

-- what offering a node needs: its arguments are there, there is room, and the list has capacity for all arguments
pub record IsReady (v : TermRows) (node : LogNode) (capacity : ℕ) : Type 0 where
  pub args : AreBelow (length v.rows) (terms_among node.parts)
  pub room : HasNodeRoom v node
  pub list : v.args_room ≤ capacity

-- the same, where sorts that were taken in aren't put back yet
abbrev pub IsOffered : TermRows → TermRows → LogNode → Outcome → Type 0
IsOffered old new node o.Unfit = Grows old new (cells_in node.parts) × (IsFitting (terms_of old) node → ⊥)
IsOffered old new node o.There = Grows old new (cells_in node.parts) × IsFitting (terms_of old) node × Contains (terms_of old) (built (terms_of old) node)
IsOffered old new node o.Added = IsOffer old new node o.Added

-- ---- a node by number

-- its arguments and its sort are there
abbrev pub IsNode : TermRows → Shape → List ℕ → Type 0
IsNode v shape args = AreBelow (length v.rows) args × AreNamed (sorts_of v.cells) shape

abbrev pub Adds : TermRows → TermRows → Shape → List ℕ → Type 0
Adds old new shape args = IsLonger old new (tree_of old shape args) args 1

abbrev pub IsNodeOffer : TermRows → TermRows → Shape → List ℕ → Outcome → Type 0
IsNodeOffer old new shape args o.Unfit = (new ≡ old) × (fits (tree_of old shape args) ≡ false)
IsNodeOffer old new shape args o.There = (new ≡ old) × (fits (tree_of old shape args) ≡ true) × Contains (terms_of old) (tree_of old shape args)
IsNodeOffer old new shape args o.Added = (fits (tree_of old shape args) ≡ true) × (Contains (terms_of old) (tree_of old shape args) → ⊥) × Adds old new shape args

-- a term that may be added, with a sort that is there or may be added
pub record IsAddable (v : TermRows) (shape : Shape) (args : List ℕ) (needed : Needed) : Type 0 where
  pub args_there : AreBelow (length v.rows) args
  pub sort_there : AreNamed (sorts_of v.cells) shape
  pub tree_fits : fits (tree_of v shape args) ≡ true
  pub needs : Needs (sorts_of v.cells) shape (kinds_of v args) needed
  pub absent : Contains (terms_of v) (tree_of v shape args) → ⊥
  pub room : HasRoom v (length args) 1
