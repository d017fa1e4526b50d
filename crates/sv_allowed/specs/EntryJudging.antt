-- Believed: what it means to judge an entry: the first cause against it, or none where it is allowed. Hold it against the definitions of `sv_log` that it cites.
use Rattle.std.specs.Prelude.{ℕ, ◌<◌, ℤ, pos, ◌<ℤ◌, Bool, not, List, [], ◌≡◌, length, slice_get, Option, Some, MatchOption}
use Rattle.std.specs.List.{All}
use Rattle.sv_term.specs.Terms.{Term}
use Rattle.sv_log.specs.LogEntries.{Row, Entry}
use Rattle.sv_log.specs.LogRows.{row, IsCombined, IsDivided}
use Rattle.sv_log.specs.Logs.{State, IsAllowed, IsAbsurd}
use Rattle.sv_log.specs.LogCauses as l
use Rattle.sv_row.specs.RowParts.{monomials, IsNormal}
use Rattle.sv_force.specs.InForce.{Held, FactOn, RowOf}
use Rattle.sv_branch.specs.OpenBranches.{Standing}
use Rattle.sv_branch.specs.BranchTrees.{IsBelow, item_of, state_of}
use Rattle.sv_term_room.specs.TermRows.{TermRows, terms_of}
use Rattle.sv_allowed.specs.declared.why.Why.{Why}
use Rattle.sv_allowed.specs.declared.why.Why.TheVariants as w
use Rattle.sv_allowed.specs.declared.rows.Multiple.{Multiple}

abbrev pub cause : Why → l.Why
cause w.NoTerm = l.NoTerm
cause w.NoItem = l.NoItem
cause w.Sort = l.Sort
cause w.Repeat = l.Repeat
cause w.Rule = l.Rule
cause w.Row = l.Row
cause w.Branch = l.Branch
cause w.After = l.After

-- no cause, and the entry is allowed; or the first cause against it
abbrev pub Judges : State → Entry → Option Why → Type 0
Judges s e answer = MatchOption answer (IsAllowed s e) (λ why. l.IsFirstFault s e (cause why))

-- the state of a log whose terms and branch these are
abbrev pub stands : TermRows → Standing → State
stands v b = state_of (terms_of v) b

-- ---- what is in force

abbrev pub IsNormalItem : Held → Type 0
IsNormalItem (FactOn sign n) = Unit {0}
IsNormalItem (RowOf r) = IsNormal r.parts

-- each row is in normal form
abbrev pub AreNormal : List Held → Type 0
AreNormal items = All IsNormalItem items

-- each fact is on a term that is there
abbrev pub AreOver : TermRows → List Held → Type 0
AreOver v items = All (IsBelow (length (terms_of v))) items

-- the two items are there
abbrev pub AreThere : List Held → Multiple → Multiple → Type 0
AreThere items m n = (m.item < length items) × (n.item < length items)

-- ---- what the entries ask of it

-- the row of a constant and parts that are written as pairs
abbrev pub made : ℤ → List (ℤ × ℕ) → Row
made k ps = row k (monomials ps)

abbrev pub IsCombination : List Held → Multiple → Multiple → Row → Type 0
IsCombination items m n t =
    (a b : Row) × (slice_get items m.item ≡ Some (RowOf a)) × (slice_get items n.item ≡ Some (RowOf b)) × IsCombined m.factor a n.factor b t

abbrev pub IsDivision : List Held → Multiple → Row → Type 0
IsDivision items m t = (a : Row) × (slice_get items m.item ≡ Some (RowOf a)) × IsDivided m.factor a t

abbrev pub IsAbsurdAt : List Term → List Held → ℕ → Type 0
IsAbsurdAt ts items p = (h : Held) × (slice_get items p ≡ Some h) × IsAbsurd (item_of ts h)

abbrev pub IsAbsurdRow : List Held → ℕ → Type 0
IsAbsurdRow items p = (r : Row) × (slice_get items p ≡ Some (RowOf r)) × (r.parts ≡ []) × (pos 0 <ℤ r.constant)

abbrev pub AreOpposite : List Held → ℕ → ℕ → Type 0
AreOpposite items p q = (sign : Bool) × (n : ℕ) × (slice_get items p ≡ Some (FactOn sign n)) × (slice_get items q ≡ Some (FactOn (not sign) n))
