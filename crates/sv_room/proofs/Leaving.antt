-- What an allowed entry leaves is within what was held and what it takes.
use Rattle.std.proofs.Common.{ℕ, zero, suc, ◌+◌, ◌≤◌, ◌<◌, Bool, true, false, cond, ◌≡◌, List, [], ◌∷◌, ◌++◌, length, refl, sym, ap, ◌∙◌, subst, arith}
use Rattle.std.proofs.lemmas.List.{length-append}
use Rattle.sv_term.specs.Terms.{Term, App, Terms, End, More}
use Rattle.sv_term.specs.FactRules.{Says}
use Rattle.sv_log.specs.LogEntries.{Entry, AddTerm, AddFact, Linear, Combine, Divide, SplitOn, Cut, CloseAt, Clash, Part, TermPart, SortPart, NumberPart, FlagPart, terms_among}
use Rattle.sv_log.specs.Logs.{Item, Known, Bound, Split, State, nth_term, nth_terms, built, IsInFirstHalf, IsAllowed, open_around, with_item, shut, turned, after, after_all, IsAccepted, begun}
use Rattle.sv_room.specs.Rooms.{room, none, both, total, capped_room, IsWithin}
use Rattle.sv_room.specs.Needs.{need_of, need_of_part}
use Rattle.sv_room.specs.HeldRooms.{arg_count, args_of, args_in, numbers_of, numbers_in, held}
use Rattle.sv_room.specs.RoomLaws.{StatesAreWithin, EntriesHaveRoom}
use Rattle.sv_room.specs.declared.room.Room.{Room}
use Rattle.sv_room.proofs.Enough.{prefixes_have_room}

length_one : {A : Type 0} (xs : List A) (x : A) → length (xs ++ x ∷ []) ≡ length xs + 1
length_one xs x = length-append xs (x ∷ [])

args_one : (ts : List Term) (t : Term) → args_in (ts ++ t ∷ []) ≡ args_in ts + args_of t
args_one [] t = omega arith
args_one (u ∷ ts) t = omega (arith, args_one ts t)

numbers_one : (items : List Item) (i : Item) → numbers_in (items ++ i ∷ []) ≡ numbers_in items + numbers_of i
numbers_one [] i = omega arith
numbers_one (j ∷ items) i = omega (arith, numbers_one items i)

args_named : (ts : List Term) (ps : List Part) → arg_count (nth_terms ts (terms_among ps)) ≡ (total need_of_part ps).args
args_named ts [] = refl
args_named ts (TermPart n ∷ ps) = omega (arith, args_named ts ps)
args_named ts (SortPart s ∷ ps) = omega (arith, args_named ts ps)
args_named ts (NumberPart m ∷ ps) = omega (arith, args_named ts ps)
args_named ts (FlagPart b ∷ ps) = omega (arith, args_named ts ps)

-- each split has fewer items before it than the one within it, and no more numbers
abbrev AreNested : ℕ → ℕ → List Split → Type 0
AreNested n m [] = Unit {0}
AreNested n m (p ∷ ps) = (length p.before < n) × (numbers_in p.before ≤ m) × AreNested (length p.before) (numbers_in p.before) ps

abbrev IsNested : State → Type 0
IsNested s = AreNested (length s.items) (numbers_in s.items) s.splits

nested_more : (n m k l : ℕ) (ps : List Split) → n ≤ k → m ≤ l → AreNested n m ps → AreNested k l ps
nested_more n m k l [] p q h = tt
nested_more n m k l (r ∷ ps) p q h = (omega (arith, p, h.0), omega (arith, q, h.1), h.2)

nested_around : (n m : ℕ) (ps : List Split) → AreNested n m ps → AreNested n m (open_around ps)
nested_around n m [] h = tt
nested_around n m (p ∷ ps) h =
    go p.second (nested_around n m ps (nested_more (length p.before) (numbers_in p.before) n m ps (omega (arith, h.0)) h.1 h.2))
  where
    go : (b : Bool) → AreNested n m (open_around ps) → AreNested n m (cond b (open_around ps) (p ∷ ps))
    go true g = g
    go false g = h

around_length : (ps : List Split) → length (open_around ps) ≤ length ps
around_length [] = omega arith
around_length (p ∷ ps) = go p.second (around_length ps)
  where
    go : (b : Bool) → length (open_around ps) ≤ length ps → length (cond b (open_around ps) (p ∷ ps)) ≤ length (p ∷ ps)
    go true g = omega (arith, g)
    go false g = omega arith

-- what a state leaves
record Leaves (s : State) (need : Room) (t : State) : Type 0 where
  nested : IsNested t
  within : IsWithin (held t) (both (held s) need)

with_item_leaves : (s : State) (i : Item) → IsNested s → Leaves s (room 0 0 0 1 (numbers_of i) 0) (with_item i s)
with_item_leaves s i h =
    let l = length_one s.items i in
    let n = numbers_one s.items i in
    record {
      nested = nested_more (length s.items) (numbers_in s.items) (length (s.items ++ i ∷ [])) (numbers_in (s.items ++ i ∷ [])) s.splits (omega (arith, l)) (omega (arith, n)) h;
      within = record { terms = omega arith; args = omega arith; sorts = omega arith; items = omega (arith, l); coefficients = omega (arith, n); splits = omega arith };
    }

shut_leaves : (s : State) → IsNested s → Leaves s none (shut s)
shut_leaves s h = record {
  nested = nested_around (length s.items) (numbers_in s.items) s.splits h;
  within = record { terms = omega arith; args = omega arith; sorts = omega arith; items = omega arith; coefficients = omega arith; splits = omega (arith, around_length s.splits) };
}

abbrev with_splits : State → List Split → State
with_splits s ss = record { terms = s.terms; items = s.items; splits = ss; closed = s.closed }

turned_leaves : (s : State) (ss : List Split) → IsInFirstHalf ss → AreNested (length s.items) (numbers_in s.items) ss → Leaves (with_splits s ss) none (turned s ss)
turned_leaves s [] f h = absurd f
turned_leaves s (p ∷ ps) f h =
    let i = Known (Says false p.term) in
    let l = length_one p.before i in
    let n = numbers_one p.before i in
    record {
      nested = (omega (arith, l), omega (arith, n), h.2);
      within = record { terms = omega arith; args = omega arith; sorts = omega arith; items = omega (arith, l, h.0); coefficients = omega (arith, n, h.1); splits = omega arith };
    }

step_leaves : (s : State) (e : Entry) → IsAllowed s e → IsNested s → Leaves s (need_of e) (after s e)
step_leaves s (AddTerm node) a h =
    let l = length_one s.terms (built s.terms node) in
    let n = args_one s.terms (built s.terms node) in
    let m = args_named s.terms node.parts in
    record {
      nested = h;
      within = record { terms = omega (arith, l); args = omega (arith, n, m); sorts = omega arith; items = omega arith; coefficients = omega arith; splits = omega arith };
    }
step_leaves s (AddFact rule sign n from) a h = with_item_leaves s (Known (Says sign (nth_term s.terms n))) h
step_leaves s (Linear p forward r) a h = with_item_leaves s (Bound r) h
step_leaves s (Combine m p n q r) a h = with_item_leaves s (Bound r) h
step_leaves s (Divide d p r) a h = with_item_leaves s (Bound r) h
step_leaves s (SplitOn n) a h =
    let i = Known (Says true (nth_term s.terms n)) in
    let l = length_one s.items i in
    let m = numbers_one s.items i in
    record {
      nested = (omega (arith, l), omega (arith, m), h);
      within = record { terms = omega arith; args = omega arith; sorts = omega arith; items = omega (arith, l); coefficients = omega (arith, m); splits = omega arith };
    }
step_leaves s Cut a h = turned_leaves s s.splits a.branching.1 h
step_leaves s (CloseAt p) a h = shut_leaves s h
step_leaves s (Clash p q) a h = shut_leaves s h

within_further : (r s t v w : Room) → IsWithin s (both r v) → IsWithin t (both s w) → IsWithin t (both r (both v w))
within_further r s t v w h k = record {
  terms = omega (arith, h.terms, k.terms);
  args = omega (arith, h.args, k.args);
  sorts = omega (arith, h.sorts, k.sorts);
  items = omega (arith, h.items, k.items);
  coefficients = omega (arith, h.coefficients, k.coefficients);
  splits = omega (arith, h.splits, k.splits);
}

within_none : (r : Room) → IsWithin r (both r none)
within_none r = record { terms = omega arith; args = omega arith; sorts = omega arith; items = omega arith; coefficients = omega arith; splits = omega arith }

all_leave : (s : State) (es : List Entry) → IsAccepted s es → IsNested s → IsWithin (held (after_all s es)) (both (held s) (total need_of es))
all_leave s [] a h = within_none (held s)
all_leave s (e ∷ es) a h =
    let one = step_leaves s e a.0 h in
    within_further (held s) (held (after s e)) (held (after_all s (e ∷ es))) (need_of e) (total need_of es) one.within (all_leave (after s e) es a.1 one.nested)

pub states_are_within : StatesAreWithin
states_are_within goal es a = all_leave (begun goal) es a tt

-- what was taken is within t beside r, and what was taken and more within a room
within_beside : (r s t v w : Room) → IsWithin s (both r t) → IsWithin (both t v) w → IsWithin (both s v) (both r w)
within_beside r s t v w h k = record {
  terms = omega (arith, h.terms, k.terms);
  args = omega (arith, h.args, k.args);
  sorts = omega (arith, h.sorts, k.sorts);
  items = omega (arith, h.items, k.items);
  coefficients = omega (arith, h.coefficients, k.coefficients);
  splits = omega (arith, h.splits, k.splits);
}

pub entries_have_room : EntriesHaveRoom
entries_have_room goal before rest e a real =
    within_beside (held (begun goal)) (held (after_all (begun goal) before)) (total need_of before) (need_of e) (capped_room (total need_of (before ++ e ∷ rest)))
    (states_are_within goal before a) (prefixes_have_room before rest e real)
