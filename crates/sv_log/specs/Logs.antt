-- Believed: what is in force, which entries are allowed, what they add, and when a log is accepted and closed. Hold it against the README's table of entries.
use Rattle.std.specs.Prelude.{ℕ, zero, suc, ◌<◌, Bool, true, false, cond, not, List, [], ◌∷◌, ◌++◌, ◌≡◌, ◌⊎◌, pos, ◌<ℤ◌, Some, slice_get, length}
use Rattle.std.specs.List.{All, Contains, list_any}
use Rattle.sv_term.specs.Terms.{Term, App, Terms, End, More, Truth, fits, same_term}
use Rattle.sv_term.specs.Models.{is_claim}
use Rattle.sv_term.specs.FactRules.{Fact, Says, IsByRule}
use Rattle.sv_log.specs.LogEntries.{Row, LogNode, Entry, AddTerm, AddFact, Linear, Combine, Divide, SplitOn, Cut, CloseAt, Clash, shape_of, terms_among, HasNumber, terms_named, items_named}
use Rattle.sv_log.specs.LogRows.{IsCombined, IsDivided}
use Rattle.sv_log.specs.FormsOfTerms.{IsFormOf}

-- ---- the state of a log

pub data Item : Type 0 where
  Known : (f : Fact) → Item
  Bound : (r : Row) → Item

-- an open split: its term, what was in force before it, and whether it is in its second half
pub record Split : Type 0 where
  pub term : Term
  pub before : List Item
  pub second : Bool

-- terms and items by their numbers; the innermost split first; whether the branch is closed
pub record State : Type 0 where
  pub terms : List Term
  pub items : List Item
  pub splits : List Split
  pub closed : Bool

-- the term of that number
abbrev pub nth_term : List Term → ℕ → Term
nth_term [] n = Truth false
nth_term (t ∷ ts) zero = t
nth_term (t ∷ ts) (suc n) = nth_term ts n

abbrev pub nth_terms : List Term → List ℕ → Terms
nth_terms ts [] = End
nth_terms ts (n ∷ ns) = More (nth_term ts n) (nth_terms ts ns)

-- the term of a node whose arguments are numbers
abbrev pub built : List Term → LogNode → Term
built ts node = App (shape_of node) (nth_terms ts (terms_among node.parts))

-- ---- what an entry needs: one condition for each cause of a rejection

abbrev pub IsInFirstHalf : List Split → Type 0
IsInFirstHalf [] = ⊥
IsInFirstHalf (s ∷ ss) = s.second ≡ false

-- on a closed branch only a cut comes, and no cut comes once the log is closed
abbrev pub IsTimely : State → Entry → Type 0
IsTimely s Cut = s.closed ≡ true → IsInFirstHalf s.splits
IsTimely s e = s.closed ≡ false

-- the terms that the entry names are there
abbrev pub HasTerms : State → Entry → Type 0
HasTerms s e = All (λ n. n < length s.terms) (terms_named e)

-- the items that the entry names are in force
abbrev pub HasItems : State → Entry → Type 0
HasItems s e = All (λ n. n < length s.items) (items_named e)

-- a new term fits
abbrev pub IsFitting : State → Entry → Type 0
IsFitting s (AddTerm node) = HasNumber (shape_of node) × (fits (built s.terms node) ≡ true)
IsFitting s e = Unit {0}

-- what the entry adds isn't there
abbrev pub IsNew : State → Entry → Type 0
IsNew s (AddTerm node) = Contains s.terms (built s.terms node) → ⊥
IsNew s (AddFact rule sign n from) = Contains s.items (Known (Says sign (nth_term s.terms n))) → ⊥
IsNew s (Linear p forward r) = Contains s.items (Bound r) → ⊥
IsNew s (Combine m p n q r) = Contains s.items (Bound r) → ⊥
IsNew s (Divide d p r) = Contains s.items (Bound r) → ⊥
IsNew s (SplitOn n) = Contains s.items (Known (Says true (nth_term s.terms n))) → ⊥
IsNew s e = Unit {0}

-- the items of these numbers are these facts
abbrev pub AreFacts : List Item → List ℕ → List Fact → Type 0
AreFacts items [] [] = Unit {0}
AreFacts items [] (f ∷ fs) = ⊥
AreFacts items (n ∷ ns) [] = ⊥
AreFacts items (n ∷ ns) (f ∷ fs) = (slice_get items n ≡ Some (Known f)) × AreFacts items ns fs

-- a new fact is on a Bool term, and its rule gives it from the items
abbrev pub IsGiven : State → Entry → Type 0
IsGiven s (AddFact rule sign n from) =
    (is_claim (nth_term s.terms n) ≡ true)
    × (fs : List Fact) × AreFacts s.items from fs × IsByRule rule fs (Says sign (nth_term s.terms n))
IsGiven s e = Unit {0}

-- a new row is as stated
abbrev pub IsStated : State → Entry → Type 0
IsStated s (Linear p forward r) = (f : Fact) × (slice_get s.items p ≡ Some (Known f)) × IsFormOf s.terms f forward r
IsStated s (Combine m p n q r) = (a b : Row) × (slice_get s.items p ≡ Some (Bound a)) × (slice_get s.items q ≡ Some (Bound b)) × IsCombined m a n b r
IsStated s (Divide d p r) = (a : Row) × (slice_get s.items p ≡ Some (Bound a)) × IsDivided d a r
IsStated s e = Unit {0}

-- an item that can't be true
abbrev pub IsAbsurd : Item → Type 0
IsAbsurd (Known f) = (f ≡ Says true (Truth false)) ⊎ (f ≡ Says false (Truth true))
IsAbsurd (Bound r) = (r.parts ≡ []) × (pos 0 <ℤ r.constant)

-- a split is on a Bool term that no fact has; a cut needs a closed branch in a first half; a closing needs what can't be true
abbrev pub IsBranching : State → Entry → Type 0
IsBranching s (SplitOn n) = (is_claim (nth_term s.terms n) ≡ true) × (Contains s.items (Known (Says false (nth_term s.terms n))) → ⊥)
IsBranching s Cut = (s.closed ≡ true) × IsInFirstHalf s.splits
IsBranching s (CloseAt p) = (i : Item) × (slice_get s.items p ≡ Some i) × IsAbsurd i
IsBranching s (Clash p q) = (sign : Bool) × (t : Term) × (slice_get s.items p ≡ Some (Known (Says sign t))) × (slice_get s.items q ≡ Some (Known (Says (not sign) t)))
IsBranching s e = Unit {0}

-- the entry is allowed: the conditions in the order of the causes
pub record IsAllowed (s : State) (e : Entry) : Type 0 where
  pub timely : IsTimely s e
  pub terms : HasTerms s e
  pub items : HasItems s e
  pub fitting : IsFitting s e
  pub new : IsNew s e
  pub given : IsGiven s e
  pub stated : IsStated s e
  pub branching : IsBranching s e

-- ---- what an entry does

-- when a branch closes whose split is in its second half, the branch around it is closed too
abbrev pub open_around : List Split → List Split
open_around [] = []
open_around (s ∷ ss) = cond s.second (open_around ss) (s ∷ ss)

abbrev pub with_item : Item → State → State
with_item i s = record { terms = s.terms; items = s.items ++ i ∷ []; splits = s.splits; closed = s.closed }

abbrev pub shut : State → State
shut s = record { terms = s.terms; items = s.items; splits = open_around s.splits; closed = true }

-- the second half of the innermost split, after what was in force before it
abbrev pub turned : State → List Split → State
turned s [] = s
turned s (p ∷ ps) = record {
  terms = s.terms;
  items = p.before ++ Known (Says false p.term) ∷ [];
  splits = record { term = p.term; before = p.before; second = true } ∷ ps;
  closed = false;
}

abbrev pub after : State → Entry → State
after s (AddTerm node) = record { terms = s.terms ++ built s.terms node ∷ []; items = s.items; splits = s.splits; closed = s.closed }
after s (AddFact rule sign n from) = with_item (Known (Says sign (nth_term s.terms n))) s
after s (Linear p forward r) = with_item (Bound r) s
after s (Combine m p n q r) = with_item (Bound r) s
after s (Divide d p r) = with_item (Bound r) s
after s (SplitOn n) = record {
  terms = s.terms;
  items = s.items ++ Known (Says true (nth_term s.terms n)) ∷ [];
  splits = record { term = nth_term s.terms n; before = s.items; second = false } ∷ s.splits;
  closed = s.closed;
}
after s Cut = turned s s.splits
after s (CloseAt p) = shut s
after s (Clash p q) = shut s

abbrev pub after_all : State → List Entry → State
after_all s [] = s
after_all s (e ∷ es) = after_all (after s e) es

-- each entry is allowed after those before it
abbrev pub IsAccepted : State → List Entry → Type 0
IsAccepted s [] = Unit {0}
IsAccepted s (e ∷ es) = IsAllowed s e × IsAccepted (after s e) es

-- ---- the log of a condition

abbrev pub with_term : List Term → Term → List Term
with_term ts t = cond (list_any (same_term t) ts) ts (ts ++ t ∷ [])

-- the terms of a term, each once, arguments from left to right before their node, behind those that are there
abbrev mutual
  pub with_terms_of : List Term → Term → List Term
  with_terms_of ts (App x us) = with_term (with_terms_of_all ts us) (App x us)

  pub with_terms_of_all : List Term → Terms → List Term
  with_terms_of_all ts End = ts
  with_terms_of_all ts (More u us) = with_terms_of_all (with_terms_of ts u) us

-- before the first entry: the condition's terms, and the fact that it is false
abbrev pub begun : Term → State
begun goal = record { terms = with_terms_of [] goal; items = Known (Says false goal) ∷ []; splits = []; closed = false }

-- the branch is closed, and no split is open
pub record IsClosed (s : State) : Type 0 where
  pub closed : s.closed ≡ true
  pub splits : s.splits ≡ []
