-- Believed: lists of nodes in which each names earlier ones. Hold it against the README's table of nodes.
use Rattle.std.specs.Prelude.{ℕ, ◌<◌, Bool, true, false, IsTrue, List, length, slice_index_or}
use Rattle.sv_form.specs.declared.node.Join.{Join}
use Rattle.sv_form.specs.declared.node.Linear.{Linear}
use Rattle.sv_form.specs.declared.node.Linear.TheVariants.{Literal, Wide, Joined, Column, AtMost, Equal, Outside}

abbrev pub node_at : List Linear → ℕ → Linear
node_at nodes n = slice_index_or nodes n Outside

-- the form and all on the way to it have numbers in range
abbrev pub is_in_range : Linear → Bool
is_in_range Wide = false
is_in_range Outside = false
is_in_range l = true

abbrev pub is_column_node : Linear → Bool
is_column_node Column = true
is_column_node (AtMost a b) = true
is_column_node (Equal a b) = true
is_column_node l = false

-- the arguments are earlier, and those of a node in range are in range
abbrev pub IsSoundNode : List Linear → ℕ → Linear → Type 0
IsSoundNode nodes n (Joined how a b) = (a < n) × (b < n) × IsTrue (is_in_range (node_at nodes a)) × IsTrue (is_in_range (node_at nodes b))
IsSoundNode nodes n (AtMost a b) = (a < n) × (b < n)
IsSoundNode nodes n (Equal a b) = (a < n) × (b < n)
IsSoundNode nodes n l = Unit {0}

-- a record, so that a proof finds its arguments
pub record AreSound (nodes : List Linear) : Type 0 where
  pub node : (n : ℕ) → n < length nodes → IsSoundNode nodes n (node_at nodes n)
