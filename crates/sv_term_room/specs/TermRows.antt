-- Believed: what the number of a term stands for, and what always holds of a room of terms. Hold it against the README's table of calls.
use Rattle.std.specs.Prelude.{ℕ, ◌+◌, ◌<◌, ◌≤◌, true, List, [], ◌∷◌, ◌++◌, ◌≡◌, length, map, slice_get, Some}
use Rattle.std.specs.List.{All, Contains}
use Rattle.sv_term.specs.Sorts.{Sort}
use Rattle.sv_term.specs.Terms as t
use Rattle.sv_term.specs.Terms.{Term, App, sort_of, fits}
use Rattle.sv_log.specs.Logs.{nth_term, nth_terms}
use Rattle.sv_list_room.specs.NumberLists.{numbers_in}
use Rattle.sv_sort_room.specs.BuiltLists.{built}
use Rattle.sv_sort_room.specs.SortCells.{nth_sort, sorts_of, IsNumber, DifferBySort}
use Rattle.sv_sort_room.specs.declared.cell.Cell.{Cell}
use Rattle.sv_term_room.specs.declared.shape.Shape.{Shape}
use Rattle.sv_term_room.specs.declared.shape.Shape.TheVariants as s

-- a term by the numbers of its arguments
pub record TermNode : Type 0 where
  pub shape : Shape
  pub args : List ℕ

abbrev pub term_node : Shape → List ℕ → TermNode
term_node shape args = record { shape = shape; args = args }

-- with the number of its sort
pub record TermRow : Type 0 where
  pub node : TermNode
  pub sort : ℕ

abbrev pub term_row : TermNode → ℕ → TermRow
term_row node sort = record { node = node; sort = sort }

-- the rows and the cells of the sorts in order, and for how many terms, arguments of all terms, and sorts there is room
pub record TermRows : Type 0 where
  pub rows : List TermRow
  pub cells : List Cell
  pub room : ℕ
  pub args_room : ℕ
  pub sorts_room : ℕ

abbrev pub term_rows : List TermRow → List Cell → ℕ → ℕ → ℕ → TermRows
term_rows rows cells room args_room sorts_room =
    record { rows = rows; cells = cells; room = room; args_room = args_room; sorts_room = sorts_room }

abbrev pub with_cells : List Cell → TermRows → TermRows
with_cells cells v = term_rows v.rows cells v.room v.args_room v.sorts_room

abbrev pub with_row : TermRow → TermRows → TermRows
with_row row v = term_rows (v.rows ++ row ∷ []) v.cells v.room v.args_room v.sorts_room

abbrev pub nodes_of : List TermRow → List TermNode
nodes_of rows = map (λ (r : TermRow). r.node) rows

-- the arguments of each
abbrev pub args_of : List TermRow → List (List ℕ)
args_of rows = map (λ (r : TermRow). r.node.args) rows

-- ---- trees

abbrev pub shape_by : List Sort → Shape → t.Shape
shape_by ss (s.Lit negative m) = t.LitNode negative m
shape_by ss (s.Truth b) = t.TruthNode b
shape_by ss (s.Var x k) = t.VarNode x (nth_sort ss k)
shape_by ss s.Add = t.AddNode
shape_by ss s.Sub = t.SubNode
shape_by ss s.Mul = t.MulNode
shape_by ss s.Div = t.DivNode
shape_by ss s.Mod = t.ModNode
shape_by ss (s.Wrap signed bits) = t.WrapNode signed bits
shape_by ss s.Le = t.LeNode
shape_by ss s.Eq = t.EqNode
shape_by ss s.Not = t.NotNode
shape_by ss s.And = t.AndNode
shape_by ss s.Or = t.OrNode
shape_by ss s.Ite = t.IteNode
shape_by ss s.Sel = t.SelNode
shape_by ss s.Sto = t.StoNode
shape_by ss (s.Const k) = t.ConstNode (nth_sort ss k)
shape_by ss s.Mix = t.MixNode
shape_by ss (s.Tup k) = t.TupNode (nth_sort ss k)
shape_by ss (s.Get k) = t.GetNode k
shape_by ss s.Sum = t.SumNode

-- the tree of a node, by these sorts and over these trees
abbrev pub tree_by : List Sort → List Term → TermNode → Term
tree_by ss ts node = App (shape_by ss node.shape) (nth_terms ts node.args)

-- the trees of the rows, each by those before it
unfoldable pub trees_by : List Sort → List TermRow → List Term
trees_by ss rows = built (λ ts (r : TermRow). tree_by ss ts r.node) [] rows

-- the terms, by number
abbrev pub terms_of : TermRows → List Term
terms_of v = trees_by (sorts_of v.cells) v.rows

abbrev pub tree_of : TermRows → Shape → List ℕ → Term
tree_of v shape args = tree_by (sorts_of v.cells) (terms_of v) (term_node shape args)

-- the number of a term among those of the rows
pub record IsTermNumber (v : TermRows) (n : ℕ) (x : Term) : Type 0 where
  pub within : n < length v.rows
  pub is : nth_term (terms_of v) n ≡ x

-- ---- what a term needs

-- the sort that a shape names is one of the first so many
abbrev pub HasSort : ℕ → Shape → Type 0
HasSort count (s.Var x k) = k < count
HasSort count (s.Const k) = k < count
HasSort count (s.Tup k) = k < count
HasSort count shape = Unit {0}

abbrev pub AreBelow : ℕ → List ℕ → Type 0
AreBelow count args = All (λ k. k < count) args

-- the row's sort and the sort that it names are among the first so many
pub record IsLow (count : ℕ) (r : TermRow) : Type 0 where
  pub named : HasSort count r.node.shape
  pub own : r.sort < count

-- what stands at a number: arguments with smaller numbers, and the tree of the number is the shape over theirs
pub record IsNodeAt (v : TermRows) (n : ℕ) (shape : Shape) (args : List ℕ) : Type 0 where
  pub sort : ℕ
  pub there : slice_get v.rows n ≡ Some (term_row (term_node shape args) sort)
  pub args_below : AreBelow n args
  pub sort_there : HasSort (length v.cells) shape
  pub tree : nth_term (terms_of v) n ≡ tree_of v shape args

-- a term that may be put at the end
pub record IsNewTerm (v : TermRows) (shape : Shape) (args : List ℕ) (sort : ℕ) : Type 0 where
  pub args_there : AreBelow (length v.rows) args
  pub sort_there : HasSort (length v.cells) shape
  pub tree_fits : fits (tree_of v shape args) ≡ true
  pub own_sort : IsNumber v.cells sort (sort_of (tree_of v shape args))
  pub absent : Contains (terms_of v) (tree_of v shape args) → ⊥

-- room for one more term with so many arguments, and for so many more sorts
pub record HasRoom (v : TermRows) (args sorts : ℕ) : Type 0 where
  pub terms : length v.rows < v.room
  pub arguments : numbers_in (args_of v.rows) + args ≤ v.args_room
  pub kinds : length v.cells + sorts ≤ v.sorts_room

-- ---- what always holds

pub record AreKept (v : TermRows) : Type 0 where
  -- each term fits
  pub fitting : All (λ x. fits x ≡ true) (terms_of v)
  -- no two numbers stand for one term, and none for one sort
  pub apart : (i j : ℕ) → i < length (terms_of v) → j < length (terms_of v) → nth_term (terms_of v) i ≡ nth_term (terms_of v) j → i ≡ j
  pub sorts_apart : DifferBySort v.cells
  -- the sorts that the rows need are there
  pub low : All (IsLow (length v.cells)) v.rows
  pub size : length (terms_of v) ≡ length v.rows
