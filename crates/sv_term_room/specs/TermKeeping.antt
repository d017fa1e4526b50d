-- Serves the proof: how terms are kept, and what always holds of them.
use Rattle.std.specs.Prelude.{ℕ, true, List, [], ◌∷◌, ◌≡◌, length, map}
use Rattle.sv_term.specs.Sorts.{Sort}
use Rattle.sv_term.specs.Terms.{Term, sort_of, fits}
use Rattle.sv_sort_room.specs.BuiltLists.{AreNew}
use Rattle.sv_sort_room.specs.SortCells.{nth_sort, sorts_of}
use Rattle.sv_sort_room.specs.declared.cell.Cell.{Cell}
use Rattle.sv_term_room.specs.TermRows.{term_node, TermRow, term_row, nodes_of, tree_by, AreBelow, IsLow}
use Rattle.sv_term_room.specs.NodeCodes.{code_of}
use Rattle.sv_term_room.specs.declared.room.Head.{Head}

-- the rows of heads and lists of arguments
abbrev pub paired : List Head → List (List ℕ) → List TermRow
paired [] nss = []
paired (h ∷ hs) [] = []
paired (h ∷ hs) (ns ∷ nss) = term_row (term_node h.shape ns) h.sort ∷ paired hs nss

-- a row over these trees
pub record IsRow (ss : List Sort) (ts : List Term) (r : TermRow) : Type 0 where
  pub args_below : AreBelow (length ts) r.node.args
  pub low : IsLow (length ss) r
  pub fitting : fits (tree_by ss ts r.node) ≡ true
  pub sort_is : nth_sort ss r.sort ≡ sort_of (tree_by ss ts r.node)

abbrev pub AreRows : List Sort → List TermRow → Type 0
AreRows ss rows = AreNew (λ ts (r : TermRow). tree_by ss ts r.node) (IsRow ss) [] rows

pub record IsStored (heads : List Head) (nss : List (List ℕ)) (cells : List Cell) (codes : List ℕ) : Type 0 where
  pub sizes : length nss ≡ length heads
  pub rows : AreRows (sorts_of cells) (paired heads nss)
  pub coded : codes ≡ map code_of (nodes_of (paired heads nss))
