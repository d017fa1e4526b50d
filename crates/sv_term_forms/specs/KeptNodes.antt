-- Serves the proof: what the parts of the call keep of a next term.
use Rattle.std.specs.Prelude.{ℕ, ◌<◌, Bool, true, false, IsTrue, cond, List, [], ◌∷◌, ◌++◌, ◌≡◌, length}
use Rattle.sv_term.specs.Terms.{Term}
use Rattle.sv_form.specs.declared.node.Join.{Join}
use Rattle.sv_form.specs.declared.node.Linear.{Linear}
use Rattle.sv_form.specs.declared.node.Linear.TheVariants.{Literal, Wide, Joined, Outside}
use Rattle.sv_form.specs.Nodes.{node_at, is_in_range, IsSoundNode}
use Rattle.sv_form_rows.specs.TermForms.{Tells, AreFormsOf}
use Rattle.sv_form_rows.specs.Questions.{TellsJoin}
use Rattle.sv_term_forms.specs.declared.form_node.FormNode.{FormNode}
use Rattle.sv_term_forms.specs.declared.form_node.FormNode.TheVariants.{Literal as LiteralNode}
use Rattle.sv_term_forms.specs.NextTerms.{IsNodeOf}

-- l names earlier terms, and tells of every next term of which the node tells
pub record Keeps (nodes : List Linear) (node : FormNode) (l : Linear) : Type 0 where
  pub sound : IsSoundNode nodes (length nodes) l
  pub tells : (ts : List Term) (t : Term) → AreFormsOf ts nodes → IsNodeOf ts t node → Tells (ts ++ t ∷ []) t l

abbrev pub KeepsLiteral : Bool → ℕ → Linear → Type 0
KeepsLiteral negative number l = (nodes : List Linear) → Keeps nodes (LiteralNode negative number) l

-- l joins the two exactly where their form is within bounds
pub record IsJoin (nodes : List Linear) (how : Join) (a b : ℕ) (l : Linear) : Type 0 where
  pub joins : Bool
  pub is : l ≡ cond joins (Joined how a b) Outside
  pub tells : TellsJoin nodes how a b joins
  pub formed : IsTrue joins → IsTrue (is_in_range (node_at nodes a)) × IsTrue (is_in_range (node_at nodes b))

abbrev pub is_literal_node : Linear → Bool
is_literal_node (Literal z) = true
is_literal_node Wide = true
is_literal_node l = false

abbrev pub AreBelow : ℕ → ℕ → ℕ → Type 0
AreBelow n a b = (a < n) × (b < n)

-- the first of two terms is no literal
abbrev pub CanMultiply : List Linear → ℕ → ℕ → Type 0
CanMultiply nodes a b = (a < length nodes) × (b < length nodes) × (is_literal_node (node_at nodes a) ≡ false)
