-- Believed: what the nodes of forms tell of a list of terms. Hold it against the README's table of nodes and the linear forms of `sv_log`.
use Rattle.std.specs.Prelude.{ℕ, ◌<◌, Bool, true, false, List, ◌≡◌, length, ℤ, MatchBool}
use Rattle.std.specs.List.{Contains}
use Rattle.sv_num.specs.Range.{IsI128}
use Rattle.sv_term.specs.Sorts.{is_num, sort_at}
use Rattle.sv_term.specs.Terms.{LeNode, EqNode, Term, App, Terms, End, More, Lit, Le, Eq, sort_of, sorts_of}
use Rattle.sv_log.specs.LogEntries.{Row}
use Rattle.sv_log.specs.LogRows.{sum_of, multiple, difference}
use Rattle.sv_log.specs.FormsOfTerms.{is_lit, lit_value, is_column, form, IsWorkedOut}
use Rattle.sv_log.specs.Logs.{nth_term}
use Rattle.sv_form.specs.declared.node.Join.{Join}
use Rattle.sv_form.specs.declared.node.Join.TheVariants.{Sum, Difference, Multiple}
use Rattle.sv_form.specs.declared.node.Linear.{Linear}
use Rattle.sv_form.specs.declared.node.Linear.TheVariants.{Literal, Wide, Joined, Column, AtMost, Equal, Outside}
use Rattle.sv_form.specs.Nodes.{node_at}

abbrev pub form_of : List Term → ℕ → Row
form_of ts n = form ts (nth_term ts n)

abbrev pub joined_rows : Join → Row → Row → Row
joined_rows Sum r s = sum_of r s
joined_rows Difference r s = difference r s
joined_rows (Multiple z) r s = multiple z r

-- the term stands for itself in forms
abbrev pub is_own_column : Term → Bool
is_own_column (App x us) = is_column x us

-- a comparison of numbers, on which facts have forms
abbrev pub compares : Term → Bool
compares (App LeNode us) = true
compares (App EqNode us) = is_num (sort_at 0 (sorts_of us))
compares t = false

pub record IsLiteral (t : Term) (z : ℤ) : Type 0 where
  pub negative : Bool
  pub number : ℕ
  pub is : t ≡ Lit negative number
  pub worth : lit_value t ≡ z

-- neither a literal nor a comparison
pub record IsPlain (t : Term) : Type 0 where
  pub no_literal : is_lit t ≡ false
  pub no_comparison : compares t ≡ false

abbrev pub Tells : List Term → Term → Linear → Type 0
Tells ts t (Literal z) = IsLiteral t z × IsI128 z
Tells ts t Wide = IsLiteral t (lit_value t) × (IsI128 (lit_value t) → ⊥)
Tells ts t (Joined how a b) = IsPlain t × IsWorkedOut ts t × (form ts t ≡ joined_rows how (form_of ts a) (form_of ts b))
Tells ts t Column = IsPlain t × (is_own_column t ≡ true)
Tells ts t (AtMost a b) = t ≡ Le (nth_term ts a) (nth_term ts b)
Tells ts t (Equal a b) = (t ≡ Eq (nth_term ts a) (nth_term ts b)) × (is_num (sort_of (nth_term ts a)) ≡ true)
Tells ts t Outside = IsPlain t × (IsWorkedOut ts t → ⊥)

-- the columns on the way down from a term are terms of the list
abbrev mutual
  pub HasColumns : List Term → Term → Type 0
  HasColumns ts (App x us) = MatchBool (is_column x us) (Contains ts (App x us)) (HaveColumns ts us)

  pub HaveColumns : List Term → Terms → Type 0
  HaveColumns ts End = Unit {0}
  HaveColumns ts (More u us) = HasColumns ts u × HaveColumns ts us

-- no two of the terms are one, and each node tells of the term of its number
pub record AreFormsOf (ts : List Term) (nodes : List Linear) : Type 0 where
  pub size : length nodes ≡ length ts
  pub apart : (i j : ℕ) → i < length ts → j < length ts → nth_term ts i ≡ nth_term ts j → i ≡ j
  pub columns : (n : ℕ) → n < length ts → HasColumns ts (nth_term ts n)
  pub tells : (n : ℕ) → n < length ts → Tells ts (nth_term ts n) (node_at nodes n)
