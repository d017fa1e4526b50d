-- Believed: a log worked by hand, its neighbours that are rejected, and an entry for each cause. Hold it against the tables of entries and causes in the README of `sv_log`.
use Rattle.std.specs.Prelude.{ℕ, Bool, true, false, List, [], ◌∷◌, ◌++◌, ◌≡◌, pos, negsuc}
use Rattle.sv_term.specs.Sorts.{NumSort, Any}
use Rattle.sv_term.specs.Terms.{LitNode, VarNode, LeNode, OrNode, Term, App, End, More}
use Rattle.sv_log.specs.LogEntries.{TermPart, NotKind, Entry, AddTerm, AddFact, Linear, Combine, SplitOn, Cut, CloseAt, cost_of_log}
use Rattle.sv_log.specs.LogRows.{monomial, row}
use Rattle.sv_log.specs.Logs.{IsAccepted, IsClosed, after_all, begun}
use Rattle.sv_log.specs.LogCauses.{After, NoTerm, NoItem, Sort, Repeat, Rule, Row, Branch, IsFirstFault}

-- `1 <= x`, or `x <= 0`
abbrev pub one : Term
one = App (LitNode false 1) End

abbrev pub x : Term
x = App (VarNode 0 (NumSort Any)) End

abbrev pub zero_term : Term
zero_term = App (LitNode false 0) End

abbrev pub above : Term
above = App LeNode (More one (More x End))

abbrev pub below : Term
below = App LeNode (More x (More zero_term End))

abbrev pub either_way : Term
either_way = App OrNode (More above (More below End))

-- `x <= 0` and `1 - x <= 0`, and what they make together, `1 <= 0`
abbrev pub first_fact : Entry
first_fact = AddFact 3 false 2 (0 ∷ [])

abbrev pub second_fact : Entry
second_fact = AddFact 4 false 4 (0 ∷ [])

abbrev pub first_row : Entry
first_row = Linear 1 true (row (pos 0) (monomial (pos 1) 1 ∷ []))

abbrev pub second_row : Entry
second_row = Linear 2 true (row (pos 1) (monomial (negsuc 0) 1 ∷ []))

abbrev pub last_row : Entry
last_row = Combine (pos 1) 3 (pos 1) 4 (row (pos 1) [])

abbrev pub to_rows : List Entry
to_rows = first_fact ∷ second_fact ∷ first_row ∷ second_row ∷ []

abbrev pub whole_log : List Entry
whole_log = to_rows ++ last_row ∷ CloseAt 5 ∷ []

abbrev pub not_of_number : Entry
not_of_number = AddTerm (record { kind = NotKind; parts = TermPart 1 ∷ [] })

pub record ExamplesHold : Type 0 where
  pub numbers : (begun either_way).terms ≡ one ∷ x ∷ above ∷ zero_term ∷ below ∷ either_way ∷ []
  pub accepted : IsAccepted (begun either_way) whole_log
  pub closed : IsClosed (after_all (begun either_way) whole_log)
  pub cost : cost_of_log whole_log ≡ 6
  -- with multipliers below 0, or not the least
  pub below_zero : IsFirstFault (after_all (begun either_way) to_rows) (Combine (negsuc 0) 3 (negsuc 0) 4 (row (negsuc 0) [])) Row
  pub doubled : IsFirstFault (after_all (begun either_way) to_rows) (Combine (pos 2) 3 (pos 2) 4 (row (pos 2) [])) Row
  -- the condition's own fact is no contradiction, and no cut comes on an open branch
  pub no_contradiction : IsFirstFault (begun either_way) (CloseAt 0) Branch
  pub no_cut : IsFirstFault (begun either_way) Cut Branch
  -- a fact twice, or behind the end
  pub twice : IsFirstFault (after_all (begun either_way) (first_fact ∷ [])) first_fact Repeat
  pub behind_the_end : IsFirstFault (after_all (begun either_way) whole_log) first_fact After
  -- a term and an item that aren't there, a node of the wrong sort, and a fact by another rule
  pub no_term : IsFirstFault (begun either_way) (SplitOn 6) NoTerm
  pub no_item : IsFirstFault (begun either_way) (CloseAt 1) NoItem
  pub no_fit : IsFirstFault (begun either_way) not_of_number Sort
  pub no_rule : IsFirstFault (begun either_way) (AddFact 1 true 2 (0 ∷ [])) Rule
