-- Believed: weights of terms, which pass from a term to its arguments while their sum stays the same but for multiples of 2^128. Hold it against the README's paragraph on weights.
use Rattle.std.specs.Prelude.{ℕ, suc, ◌<◌, ◌≤◌, Bool, false, IsTrue, List, [], ◌∷◌, length, slice_index_or, slice_set, ◌≡◌, ℤ, pos, ◌+ℤ◌, ◌*ℤ◌}
use Rattle.std.specs.Int.{int_wrap}
use mir.Syntax.{w128}
use Rattle.sv_form.specs.declared.node.Join.{Join}
use Rattle.sv_form.specs.declared.node.Linear.{Linear}
use Rattle.sv_form.specs.declared.node.Linear.TheVariants.{Literal, Joined}
use Rattle.sv_form.specs.Joins.{joined, first_factor, second_factor}
use Rattle.sv_form.specs.Nodes.{node_at, is_in_range, is_column_node, AreSound}

abbrev pub weight_at : List ℤ → ℕ → ℤ
weight_at ws n = slice_index_or ws n (pos 0)

abbrev pub wrapped : ℤ → ℤ
wrapped z = int_wrap w128 z

-- ---- what a term does with its weight

abbrev pub with_weight : ℕ → ℤ → List ℤ → List ℤ
with_weight n k ws = slice_set ws n (wrapped (weight_at ws n +ℤ k))

abbrev pub passed : Linear → ℕ → List ℤ → List ℤ
passed (Literal z) n ws = slice_set ws n (pos 0)
passed (Joined how a b) n ws =
    with_weight b (wrapped (weight_at ws n *ℤ second_factor how)) (with_weight a (wrapped (weight_at ws n *ℤ first_factor how)) (slice_set ws n (pos 0)))
passed l n ws = ws

abbrev pub brought : Linear → ℕ → List ℤ → ℤ
brought (Literal z) n ws = wrapped (weight_at ws n *ℤ z)
brought l n ws = pos 0

abbrev pub HasArguments : Linear → ℕ → Type 0
HasArguments (Joined how a b) n = (a < n) × (b < n)
HasArguments l n = Unit {0}

-- ---- the sum

-- the weights times the numbers of the terms
abbrev pub weighed : (ℕ → ℤ) → List ℤ → ℤ
weighed x [] = pos 0
weighed x (w ∷ ws) = w *ℤ x 0 +ℤ weighed (λ n. x (suc n)) ws

-- the number of a node, where x has those of its arguments and of columns
abbrev pub number_by : (ℕ → ℤ) → ℕ → Linear → ℤ
number_by x n (Literal z) = z
number_by x n (Joined how a b) = joined how (x a) (x b)
number_by x n l = x n

abbrev pub Follows : List Linear → (ℕ → ℤ) → Type 0
Follows nodes x = (n : ℕ) → n < length nodes → number_by x n (node_at nodes n) ≡ x n

abbrev pub AreSame : ℤ → ℤ → Type 0
AreSame a b = wrapped a ≡ wrapped b

-- ---- weights before, on the way and after

pub record IsBlank (ws : List ℤ) : Type 0 where
  pub none : (n : ℕ) → weight_at ws n ≡ pos 0

pub record IsBlankAbove (from : ℕ) (ws : List ℤ) : Type 0 where
  pub none : (n : ℕ) → from < n → weight_at ws n ≡ pos 0

pub record CanSettle (nodes : List Linear) (from : ℕ) (ws : List ℤ) : Type 0 where
  pub sound : AreSound nodes
  pub within : from < length nodes
  pub in_range : IsTrue (is_in_range (node_at nodes from))
  pub wide : length nodes ≤ length ws
  pub blank : IsBlank ws

-- the terms from `left` on have passed on their weights
pub record IsSettling (nodes : List Linear) (from left : ℕ) (ws : List ℤ) (constant : ℤ) : Type 0 where
  pub sum : (x : ℕ → ℤ) → Follows nodes x → AreSame (constant +ℤ weighed x ws) (x from)
  pub columns : (n : ℕ) → left ≤ n → is_column_node (node_at nodes n) ≡ false → weight_at ws n ≡ pos 0
  pub in_range : (n : ℕ) → is_in_range (node_at nodes n) ≡ false → weight_at ws n ≡ pos 0
  pub above : IsBlankAbove from ws

abbrev pub IsSettled : List Linear → ℕ → List ℤ → ℤ → Type 0
IsSettled nodes from ws constant = IsSettling nodes from 0 ws constant
