-- Serves the proof: one pass over a walk, which asks the rules of each node behind its parts and keeps the fault that counts.
use Rattle.std.specs.Prelude.{◌≡◌, Bool, true, false, ◌&&◌, cond, Option, Some, None, List, [], ◌∷◌, Result, OnOk}
use Rattle.sv_book.specs.Walks.{Walk, Walks, Node, Group, End, Part}
use Rattle.sv_book.specs.Books.{seen_at, Table, Book}

-- what a pass knows: what is known where it is, whether no rule was broken since the node around was entered, and the fault that counts so far
pub record State (C F : Type 0) : Type 0 where
  pub known : C
  pub clear : Bool
  pub least : Option F

abbrev pub noted : {F : Type 0} → (F → F → Bool) → Option F → F → Option F
noted first None f = Some f
noted first (Some e) f = cond (first e f) (Some e) (Some f)

-- a rule that a node breaks or not, whose parts are clear or not
abbrev pub kept : {F : Type 0} → (F → F → Bool) → Bool → Bool → F → Option F → Option F
kept first parts broken f o = cond broken (cond parts (noted first o f) o) o

-- the rules ks asked of a node, whose parts are clear or not
abbrev pub asked : {S K F : Type 0} → Table S K F → List K → Bool → Option F → S → Option F
asked table [] b o s = o
asked table (k ∷ ks) b o s = asked table ks b (kept table.first b (table.breaks k s) (table.fault k s) o) s

abbrev pub sound : {S K F : Type 0} → Table S K F → List K → S → Bool
sound table [] s = true
sound table (k ∷ ks) s = cond (table.breaks k s) false (sound table ks s)

-- a node is entered
abbrev pub opened : {C S K F : Type 0} → Book C S K F → S → State C F → State C F
opened book s st = record { known = book.within st.known s; clear = true; least = st.least }

-- a node is left, before which all was clear or not
abbrev pub closed : {C S K F : Type 0} → Book C S K F → S → Bool → State C F → State C F
closed book s before st = record {
  known = book.past st.known s;
  clear = before && (st.clear && sound book.table book.table.rules (seen_at st.known s));
  least = asked book.table book.table.rules st.clear st.least (seen_at st.known s);
}

abbrev mutual
  pub visit : {C S K F : Type 0} → Book C S K F → Walk S → State C F → State C F
  visit book (Node s parts) st = closed book s st.clear (visit_in book parts (opened book s st))
  visit book (Group parts) st = visit_in book parts st

  pub visit_in : {C S K F : Type 0} → Book C S K F → Walks S → State C F → State C F
  visit_in book End st = st
  visit_in book (Part w ws) st = visit_in book ws (visit book w st)

-- the state from which a pass begins
abbrev pub begun : {C F : Type 0} → C → State C F
begun c = record { known = c; clear = true; least = None }

-- ---- what the calls of a walk say: it ends with the state that the pass has behind the walk

abbrev pub Walked : {C S K F E : Type 0} → Book C S K F → Walk S → Result (Unit {0}) E → State C F → State C F → Type 0
Walked book w result before after = OnOk result (after ≡ visit book w before)

abbrev pub WalkedIn : {C S K F E : Type 0} → Book C S K F → Walks S → Result (Unit {0}) E → State C F → State C F → Type 0
WalkedIn book ws result before after = OnOk result (after ≡ visit_in book ws before)
