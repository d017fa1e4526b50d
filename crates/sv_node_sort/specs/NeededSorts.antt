-- Believed: which sort a node needs that fits over terms by number. Hold it against the definitions that it ties: which nodes fit, and the sort of a node.
use Rattle.std.specs.Prelude.{Option, MatchOption, ℕ, ◌<◌, Bool, true, false, ◌&&◌, List, ◌≡◌, length}
use Rattle.sv_term.specs.Sorts.{Sort, ArrSort, Sorts, NoSorts, SortAnd, is_sort, is_tuple, all_match, parts}
use Rattle.sv_term.specs.Terms as t
use Rattle.sv_term.specs.Terms.{fits_node, sort_node}
use Rattle.sv_log.specs.Logs.{nth_terms}
use Rattle.sv_sort_room.specs.SortCells.{nth_sort, sort_by, sorts_of, HasParts}
use Rattle.sv_sort_room.specs.declared.cell.Cell.{Cell}
use Rattle.sv_term_room.specs.TermRows.{TermRows, shape_by, terms_of}
use Rattle.sv_term_room.specs.declared.shape.Shape.{Shape}
use Rattle.sv_term_room.specs.declared.shape.Shape.TheVariants as s
use Rattle.sv_node_sort.specs.declared.needed.Needed.{Needed}
use Rattle.sv_node_sort.specs.declared.needed.Needed.TheVariants as n

-- ---- the sorts of the arguments

abbrev pub kinds_of : TermRows → List ℕ → Sorts
kinds_of v args = t.sorts_of (nth_terms (terms_of v) args)

abbrev pub no_kinds : Sorts
no_kinds = NoSorts

abbrev pub one_kind : List Sort → ℕ → Sorts
one_kind ss a = SortAnd (nth_sort ss a) NoSorts

abbrev pub two_kinds : List Sort → ℕ → ℕ → Sorts
two_kinds ss a b = SortAnd (nth_sort ss a) (one_kind ss b)

abbrev pub three_kinds : List Sort → ℕ → ℕ → ℕ → Sorts
three_kinds ss a b c = SortAnd (nth_sort ss a) (two_kinds ss b c)

-- ---- the sort that is needed

abbrev pub sort_from : List Sort → Needed → Sort
sort_from ss (n.There k) = nth_sort ss k
sort_from ss (n.Of cell) = sort_by ss cell

-- what it names is there
abbrev pub IsFrom : List Sort → Needed → Type 0
IsFrom ss (n.There k) = k < length ss
IsFrom ss (n.Of cell) = HasParts ss cell

-- the sort that a shape names is there, and its ranges have 1 to 120 bits
abbrev pub AreNamed : List Sort → Shape → Type 0
AreNamed ss (s.Var x k) = (k < length ss) × (is_sort (nth_sort ss k) ≡ true)
AreNamed ss (s.Const k) = (k < length ss) × (is_sort (nth_sort ss k) ≡ true)
AreNamed ss (s.Tup k) = (k < length ss) × (is_sort (nth_sort ss k) ≡ true)
AreNamed ss shape = Unit {0}

abbrev pub IsNoTuple : Shape → Type 0
IsNoTuple (s.Tup k) = ⊥
IsNoTuple shape = Unit {0}

abbrev pub Misfits : List Sort → Shape → Sorts → Type 0
Misfits ss shape kinds = fits_node (shape_by ss shape) kinds ≡ false

pub record Needs (ss : List Sort) (shape : Shape) (kinds : Sorts) (needed : Needed) : Type 0 where
  pub fitting : fits_node (shape_by ss shape) kinds ≡ true
  pub there : IsFrom ss needed
  pub sort : sort_from ss needed ≡ sort_node (shape_by ss shape) kinds

abbrev pub IsAnswer : List Sort → Shape → Sorts → Option Needed → Type 0
IsAnswer ss shape kinds r = MatchOption r (Misfits ss shape kinds) (Needs ss shape kinds)

-- k is the sort of the elements of arrays of the sort n
pub record IsElement (cells : List Cell) (n k : ℕ) : Type 0 where
  pub within : k < length cells
  pub is : nth_sort (sorts_of cells) n ≡ ArrSort (nth_sort (sorts_of cells) k)

abbrev pub AreThere : ℕ → ℕ → ℕ → Type 0
AreThere count a b = (a < count) × (b < count)

-- ---- tuples

-- terms of these sorts may be the parts of a tuple of the sort
abbrev pub has_parts : Sort → Sorts → Bool
has_parts s kinds = is_tuple s && all_match (parts s) kinds

-- no tuple of the sort has a first part of that kind
abbrev pub HasNoNext : List Sort → ℕ → ℕ → Type 0
HasNoNext ss at kind = (kinds : Sorts) → has_parts (nth_sort ss at) (SortAnd (nth_sort ss kind) kinds) ≡ false

-- behind a first part of that kind a tuple of the sort goes on as one of the sort n
pub record IsNext (ss : List Sort) (at kind n : ℕ) : Type 0 where
  pub within : n < length ss
  pub goes_on : (kinds : Sorts) → has_parts (nth_sort ss at) (SortAnd (nth_sort ss kind) kinds) ≡ has_parts (nth_sort ss n) kinds
