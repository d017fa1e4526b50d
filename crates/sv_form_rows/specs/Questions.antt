-- Believed: what the calls tell of every list of terms that the nodes are those of. Hold it against the README's table of calls.
use Rattle.std.specs.Prelude.{ℕ, ◌<◌, ◌≤◌, Bool, true, false, IsTrue, cond, List, [], ◌≡◌, ◌↔◌, length, ℤ, pos, ◌+ℤ◌, ◌-ℤ◌, Option, None, Some, MatchOption, IfSome}
use Rattle.sv_num.specs.Range.{IsI128}
use Rattle.sv_term.specs.Terms.{Term}
use Rattle.sv_term.specs.FactRules.{Says}
use Rattle.sv_log.specs.LogEntries.{Monomial, Row}
use Rattle.sv_log.specs.LogRows.{row, sum_of, difference, FitsRow}
use Rattle.sv_log.specs.FormsOfTerms.{form_of_fact, sides_of, IsWorkedOut, AreWorkedOut}
use Rattle.sv_log.specs.Logs.{nth_term}
use Rattle.sv_form.specs.declared.node.Join.{Join}
use Rattle.sv_form.specs.declared.node.Linear.{Linear}
use Rattle.sv_form.specs.Joins.{joined}
use Rattle.sv_form.specs.Nodes.{IsSoundNode, AreSound}
use Rattle.sv_form.specs.TermWeights.{weight_at, wrapped, IsBlank, CanSettle}
use Rattle.sv_form_rows.specs.declared.fact_sides.Sides.{Sides}
use Rattle.sv_form_rows.specs.TermForms.{form_of, joined_rows, Tells, AreFormsOf}
use Rattle.sv_form_rows.specs.Listings.{listing, gaps}

-- ---- the nodes and the weights as they stand between calls

pub record AreReady (nodes : List Linear) (first second : List ℤ) : Type 0 where
  pub sound : AreSound nodes
  pub first_wide : length nodes ≤ length first
  pub second_wide : length nodes ≤ length second
  pub first_blank : IsBlank first
  pub second_blank : IsBlank second

-- both sides can be spread, each over its weights
abbrev pub CanSettleBoth : List Linear → ℕ → ℕ → List ℤ → List ℤ → Type 0
CanSettleBoth nodes a b first second = CanSettle nodes a first × CanSettle nodes b second

-- ---- joins

abbrev pub JoinsUpTo : Join → List ℤ → List ℤ → ℕ → Type 0
JoinsUpTo how first second count = (k : ℕ) → k < count → IsI128 (joined how (wrapped (weight_at first k)) (wrapped (weight_at second k)))

-- both are worked out, and so is what is made of them
abbrev pub CanJoin : List Term → Join → ℕ → ℕ → Type 0
CanJoin ts how a b =
    IsWorkedOut ts (nth_term ts a) × IsWorkedOut ts (nth_term ts b) × FitsRow (joined_rows how (form_of ts a) (form_of ts b))

abbrev pub TellsJoin : List Linear → Join → ℕ → ℕ → Bool → Type 0
TellsJoin nodes how a b answer = (ts : List Term) → AreFormsOf ts nodes → IsTrue answer ↔ CanJoin ts how a b

-- ---- sides

abbrev pub gap_number : Bool → ℤ → ℤ → ℤ
gap_number strict a b = cond strict (pos 1 +ℤ (a -ℤ b)) (a -ℤ b)

abbrev pub gap_row : Bool → Row → Row → Row
gap_row strict r s = cond strict (sum_of (row (pos 1) []) (difference r s)) (difference r s)

abbrev pub sides_by : ℕ → ℕ → Bool → Sides
sides_by first second strict = record { first = first; second = second; strict = strict }

abbrev pub at_most_sides : ℕ → ℕ → Bool → Bool → Option Sides
at_most_sides a b true true = Some (sides_by a b false)
at_most_sides a b false true = Some (sides_by b a true)
at_most_sides a b sign false = None

abbrev pub equal_sides : ℕ → ℕ → Bool → Bool → Option Sides
equal_sides a b true true = Some (sides_by a b false)
equal_sides a b true false = Some (sides_by b a false)
equal_sides a b false forward = None

pub record HasSides (ts : List Term) (t : Term) (sign forward : Bool) (s : Sides) : Type 0 where
  pub form : form_of_fact ts (Says sign t) forward ≡ Some (gap_row s.strict (form_of ts s.first) (form_of ts s.second))
  pub worked : AreWorkedOut ts (sides_of (Says sign t)) ↔ IsWorkedOut ts (nth_term ts s.first) × IsWorkedOut ts (nth_term ts s.second)

abbrev pub ShowsSides : Linear → Bool → Bool → Option Sides → Type 0
ShowsSides node sign forward answer =
    (ts : List Term) (t : Term) → Tells ts t node → MatchOption answer (form_of_fact ts (Says sign t) forward ≡ None) (HasSides ts t sign forward)

abbrev pub AreWithin : Linear → Option Sides → Type 0
AreWithin node answer = (nodes : List Linear) (n : ℕ) → IsSoundNode nodes n node → IfSome answer (λ s. (s.first < n) × (s.second < n))

-- both sides are worked out, and the row is their difference
abbrev pub IsDifference : List Term → Sides → Row → Type 0
IsDifference ts s r =
    IsWorkedOut ts (nth_term ts s.first) × IsWorkedOut ts (nth_term ts s.second) × (r ≡ gap_row s.strict (form_of ts s.first) (form_of ts s.second))

abbrev pub TellsDifference : List Linear → Sides → Row → Bool → Type 0
TellsDifference nodes s r answer = (ts : List Term) → AreFormsOf ts nodes → IsTrue answer ↔ IsDifference ts s r

-- the row of the weights' differences
abbrev pub IsGapRow : ℤ → ℤ → Bool → List ℤ → List ℤ → ℕ → ℤ → List Monomial → Type 0
IsGapRow one other strict first second count constant parts =
    (constant ≡ gap_number strict one other) × (parts ≡ listing (gaps first second) 0 count)
