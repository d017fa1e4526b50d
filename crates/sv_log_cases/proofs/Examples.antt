-- The worked logs hold.
use Rattle.std.proofs.Common.{ℕ, zero, suc, ◌+◌, ◌<◌, ◌^◌, Bool, true, false, not, List, [], ◌∷◌, ◌++◌, length, ◌≡◌, ◌⊎◌, inl, inr, refl, sym, ap, ◌∙◌, subst, arith, Option, None, Some, get_or, lit<, nat_lt}
use Rattle.std.specs.List.{All, Contains, list_all}
use Rattle.std.proofs.lemmas.Bool.{ltb-true}
use Rattle.sv_term.proofs.Same.{both_true}
use Rattle.std.proofs.lemmas.Int.{ints}
use Rattle.std.specs.Prelude.{slice_get}
use lib.IntN.{ℤ, pos, negsuc, ◌*ℤ◌, ◌+ℤ◌}
use lib.Signed.{◌<ℤ◌, ◌≤ℤ◌}
use Rattle.sv_num.specs.Range.{IsI128}
use Rattle.sv_term.specs.Terms.{Term}
use Rattle.sv_term.specs.FactRules.{Fact, Says, NoOrLeft, NoOrRight, IsByRule}
use Rattle.sv_term.specs.FactRuleTest.{is_by_rule}
use Rattle.sv_term.proofs.FactRuleTest.{test_is_exact}
use Rattle.sv_log.specs.LogEntries.{Monomial, Row, Entry, AddFact, Linear, Combine, CloseAt, SplitOn, Cut}
use Rattle.sv_log.specs.LogRows.{monomial, row, greatest, FitsRow, Cancels}
use Rattle.sv_log.specs.Logs.{State, Item, Known, Bound, IsAllowed, IsAccepted, IsAbsurd, AreFacts, after, after_all, begun}
use Rattle.sv_log.specs.LogCauses.{Why, After, NoTerm, NoItem, Sort, Repeat, Rule, Branch, Asked, place_of, IsFirstFault}
use Rattle.sv_log.specs.LogCauses as w
use Rattle.sv_log_cases.specs.LogExamples.{one, x, zero_term, above, below as below_term, either_way, not_of_number, first_fact, second_fact, first_row, second_row, last_row, to_rows, whole_log, ExamplesHold}

-- numbers below a limit
below : (n : ℕ) (xs : List ℕ) → list_all (λ k. nat_lt k n) xs ≡ true → All (λ k. k < n) xs
below n [] e k d l = absurd (omega (arith, l))
below n (x ∷ xs) e zero d l = ltb-true x n (both_true (nat_lt x n) (list_all (λ k. nat_lt k n) xs) e).0
below n (x ∷ xs) e (suc k) d l = below n xs (both_true (nat_lt x n) (list_all (λ k. nat_lt k n) xs) e).1 k d (omega (arith, l))

abbrev Differs : Item → List Item → Type 0
Differs a [] = Unit {0}
Differs a (b ∷ bs) = (b ≡ a → ⊥) × Differs a bs

absent : (a : Item) (bs : List Item) → Differs a bs → Contains bs a → ⊥
absent a [] h c = absurd (let l = c.1 in omega (arith, l))
absent a (b ∷ bs) h c = go (λ m. absent a bs h.1 m) c.0 c.1 c.2
  where
    go : (Contains bs a → ⊥) → (k : ℕ) → k < length (b ∷ bs) → get_or (b ∷ bs) k a ≡ a → ⊥
    go n zero l e = h.0 e
    go n (suc k) l e = n (k, omega (arith, l), e)

bound_is : (r s : Row) → Bound r ≡ Bound s → r ≡ s
bound_is r s e = cc e

other_constant : (r s : Row) → (r.constant ≡ s.constant → ⊥) → Bound r ≡ Bound s → ⊥
other_constant r s n e = n (ap (λ (t : Row). t.constant) (bound_is r s e))

other_parts : (r s : Row) → (r.parts ≡ s.parts → ⊥) → Bound r ≡ Bound s → ⊥
other_parts r s n e = n (ap (λ (t : Row). t.parts) (bound_is r s e))

pos_fits : (n : ℕ) → n < 2 ^ 127 → IsI128 (pos n)
pos_fits n h = (omega (arith, ints), omega (arith, ints))

minus_fits : IsI128 (negsuc 0)
minus_fits = (omega (arith, ints), omega (arith, ints))

none_fits : (k : ℤ) → IsI128 k → FitsRow (row k [])
none_fits k h = (h, λ i d l. absurd (omega (arith, l)))

one_fits : (k n : ℤ) (c : ℕ) → IsI128 k → IsI128 n → FitsRow (row k (monomial n c ∷ []))
one_fits k n c h m = (h, at)
  where
    at : All (λ (p : Monomial). IsI128 p.factor) (monomial n c ∷ [])
    at zero d l = m
    at (suc i) d l = absurd (omega (arith, l))

abbrev s1 : State
s1 = after (begun either_way) first_fact

abbrev s2 : State
s2 = after s1 second_fact

abbrev s3 : State
s3 = after s2 first_row

abbrev s4 : State
s4 = after s3 second_row

abbrev s5 : State
s5 = after s4 last_row

first_allowed : IsAllowed (begun either_way) first_fact
first_allowed = record {
  timely = refl;
  terms = below 6 (2 ∷ []) refl;
  items = below 1 (0 ∷ []) refl;
  fitting = tt;
  new = absent (Known (Says false above)) (begun either_way).items ((λ e. cc e), tt);
  given = (refl, Says false either_way ∷ [], (refl, tt), (NoOrLeft above below_term, refl, refl, refl, refl));
  stated = tt;
  branching = tt;
}

second_allowed : IsAllowed s1 second_fact
second_allowed = record {
  timely = refl;
  terms = below 6 (4 ∷ []) refl;
  items = below 2 (0 ∷ []) refl;
  fitting = tt;
  new = absent (Known (Says false below_term)) s1.items ((λ e. cc e), ((λ e. cc e), tt));
  given = (refl, Says false either_way ∷ [], (refl, tt), (NoOrRight above below_term, refl, refl, refl, refl));
  stated = tt;
  branching = tt;
}

third_allowed : IsAllowed s2 first_row
third_allowed = record {
  timely = refl;
  terms = below 6 (1 ∷ []) refl;
  items = below 3 (1 ∷ []) refl;
  fitting = tt;
  new = absent (Bound (row (pos 0) (monomial (pos 1) 1 ∷ []))) s2.items ((λ e. cc e), ((λ e. cc e), ((λ e. cc e), tt)));
  given = tt;
  stated = (
    Says false above,
    refl,
    record {
      is = refl;
      sides = ((none_fits (pos 1) (pos_fits 1 (lit< tt)), tt), ((one_fits (pos 0) (pos 1) 1 (pos_fits 0 (lit< tt)) (pos_fits 1 (lit< tt)), (1, lit< tt, refl)), tt));
      fits = one_fits (pos 0) (pos 1) 1 (pos_fits 0 (lit< tt)) (pos_fits 1 (lit< tt));
    },
  );
  branching = tt;
}

fourth_allowed : IsAllowed s3 second_row
fourth_allowed = record {
  timely = refl;
  terms = below 6 (1 ∷ []) refl;
  items = below 4 (2 ∷ []) refl;
  fitting = tt;
  new = absent (Bound (row (pos 1) (monomial (negsuc 0) 1 ∷ []))) s3.items ((λ e. cc e), ((λ e. cc e), ((λ e. cc e), (other_constant (row (pos 0) (monomial (pos 1) 1 ∷ [])) (row (pos 1) (monomial (negsuc 0) 1 ∷ [])) (λ e. cc e), tt))));
  given = tt;
  stated = (
    Says false below_term,
    refl,
    record {
      is = refl;
      sides = ((one_fits (pos 0) (pos 1) 1 (pos_fits 0 (lit< tt)) (pos_fits 1 (lit< tt)), (1, lit< tt, refl)), ((none_fits (pos 0) (pos_fits 0 (lit< tt)), tt), tt));
      fits = one_fits (pos 1) (negsuc 0) 1 (pos_fits 1 (lit< tt)) minus_fits;
    },
  );
  branching = tt;
}

cancelled : Cancels (pos 1) (pos 1) (pos 1) (negsuc 0)
cancelled = record {
  opposite = omega (arith, ints);
  first = omega (arith, ints);
  second = omega (arith, ints);
  zero_sum = refl;
  least = λ i j p q e. (omega (arith, ints, p), omega (arith, ints, q));
}

fifth_allowed : IsAllowed s4 last_row
fifth_allowed = record {
  timely = refl;
  terms = below 6 [] refl;
  items = below 5 (3 ∷ 4 ∷ []) refl;
  fitting = tt;
  new = absent (Bound (row (pos 1) [])) s4.items ((λ e. cc e), ((λ e. cc e), ((λ e. cc e), (other_parts (row (pos 0) (monomial (pos 1) 1 ∷ [])) (row (pos 1) []) (λ e. cc e), (other_parts (row (pos 1) (monomial (negsuc 0) 1 ∷ [])) (row (pos 1) []) (λ e. cc e), tt)))));
  given = tt;
  stated = (
    row (pos 0) (monomial (pos 1) 1 ∷ []),
    row (pos 1) (monomial (negsuc 0) 1 ∷ []),
    refl,
    refl,
    record {
      cancels = (monomial (pos 1) 1, monomial (negsuc 0) 1, refl, refl, refl, cancelled);
      multiples = (one_fits (pos 0) (pos 1) 1 (pos_fits 0 (lit< tt)) (pos_fits 1 (lit< tt)), one_fits (pos 1) (negsuc 0) 1 (pos_fits 1 (lit< tt)) minus_fits);
      fits = none_fits (pos 1) (pos_fits 1 (lit< tt));
      is = refl;
    },
  );
  branching = tt;
}

sixth_allowed : IsAllowed s5 (CloseAt 5)
sixth_allowed = record {
  timely = refl;
  terms = below 6 [] refl;
  items = below 6 (5 ∷ []) refl;
  fitting = tt;
  new = tt;
  given = tt;
  stated = tt;
  branching = (Bound (row (pos 1) []), refl, (refl, omega (arith, ints)));
}

-- ---- rejected entries

abbrev Earlier : State → Entry → Why → Type 0
Earlier s e why = (v : Why) → place_of v < place_of why → Asked v s e

-- what holds before a cause, one condition after another
before_row : (s : State) (e : Entry) → Asked After s e → Asked NoTerm s e → Asked NoItem s e → Asked Sort s e → Asked Repeat s e → Asked Rule s e → Earlier s e w.Row
before_row s e a b c d f g After l = a
before_row s e a b c d f g NoTerm l = b
before_row s e a b c d f g NoItem l = c
before_row s e a b c d f g Sort l = d
before_row s e a b c d f g Repeat l = f
before_row s e a b c d f g Rule l = g
before_row s e a b c d f g w.Row l = absurd (omega (arith, l))
before_row s e a b c d f g Branch l = absurd (omega (arith, l))

before_branch : (s : State) (e : Entry) → Earlier s e w.Row → Asked w.Row s e → Earlier s e Branch
before_branch s e h r After l = h After (lit< tt)
before_branch s e h r NoTerm l = h NoTerm (lit< tt)
before_branch s e h r NoItem l = h NoItem (lit< tt)
before_branch s e h r Sort l = h Sort (lit< tt)
before_branch s e h r Repeat l = h Repeat (lit< tt)
before_branch s e h r Rule l = h Rule (lit< tt)
before_branch s e h r w.Row l = r
before_branch s e h r Branch l = absurd (omega (arith, l))

before_rule : (s : State) (e : Entry) → Asked After s e → Asked NoTerm s e → Asked NoItem s e → Asked Sort s e → Asked Repeat s e → Earlier s e Rule
before_rule s e a b c d f After l = a
before_rule s e a b c d f NoTerm l = b
before_rule s e a b c d f NoItem l = c
before_rule s e a b c d f Sort l = d
before_rule s e a b c d f Repeat l = f
before_rule s e a b c d f Rule l = absurd (omega (arith, l))
before_rule s e a b c d f w.Row l = absurd (omega (arith, l))
before_rule s e a b c d f Branch l = absurd (omega (arith, l))

before_repeat : (s : State) (e : Entry) → Asked After s e → Asked NoTerm s e → Asked NoItem s e → Asked Sort s e → Earlier s e Repeat
before_repeat s e a b c d After l = a
before_repeat s e a b c d NoTerm l = b
before_repeat s e a b c d NoItem l = c
before_repeat s e a b c d Sort l = d
before_repeat s e a b c d Repeat l = absurd (omega (arith, l))
before_repeat s e a b c d Rule l = absurd (omega (arith, l))
before_repeat s e a b c d w.Row l = absurd (omega (arith, l))
before_repeat s e a b c d Branch l = absurd (omega (arith, l))

before_sort : (s : State) (e : Entry) → Asked After s e → Asked NoTerm s e → Asked NoItem s e → Earlier s e Sort
before_sort s e a b c After l = a
before_sort s e a b c NoTerm l = b
before_sort s e a b c NoItem l = c
before_sort s e a b c Sort l = absurd (omega (arith, l))
before_sort s e a b c Repeat l = absurd (omega (arith, l))
before_sort s e a b c Rule l = absurd (omega (arith, l))
before_sort s e a b c w.Row l = absurd (omega (arith, l))
before_sort s e a b c Branch l = absurd (omega (arith, l))

before_item : (s : State) (e : Entry) → Asked After s e → Asked NoTerm s e → Earlier s e NoItem
before_item s e a b After l = a
before_item s e a b NoTerm l = b
before_item s e a b NoItem l = absurd (omega (arith, l))
before_item s e a b Sort l = absurd (omega (arith, l))
before_item s e a b Repeat l = absurd (omega (arith, l))
before_item s e a b Rule l = absurd (omega (arith, l))
before_item s e a b w.Row l = absurd (omega (arith, l))
before_item s e a b Branch l = absurd (omega (arith, l))

before_term : (s : State) (e : Entry) → Asked After s e → Earlier s e NoTerm
before_term s e a After l = a
before_term s e a NoTerm l = absurd (omega (arith, l))
before_term s e a NoItem l = absurd (omega (arith, l))
before_term s e a Sort l = absurd (omega (arith, l))
before_term s e a Repeat l = absurd (omega (arith, l))
before_term s e a Rule l = absurd (omega (arith, l))
before_term s e a w.Row l = absurd (omega (arith, l))
before_term s e a Branch l = absurd (omega (arith, l))

before_after : (s : State) (e : Entry) → Earlier s e After
before_after s e v l = absurd (omega (arith, l))

new_row : (k : ℤ) → Contains s4.items (Bound (row k [])) → ⊥
new_row k = absent (Bound (row k [])) s4.items ((λ e. cc e), ((λ e. cc e), ((λ e. cc e), (other_parts (row (pos 0) (monomial (pos 1) 1 ∷ [])) (row k []) (λ e. cc e), (other_parts (row (pos 1) (monomial (negsuc 0) 1 ∷ [])) (row k []) (λ e. cc e), tt)))))

-- two multipliers that cancel, and aren't the least
too_much : (p q : ℤ) → p ≡ pos 1 → q ≡ negsuc 0 → Cancels (pos 2) (pos 2) p q → ⊥
too_much p q e f h =
    absurd (let l = (h.least (pos 1) (pos 1) (omega (arith, ints)) (omega (arith, ints)) (ones p q e f)).0 in omega (arith, ints, l))
  where
    ones : (p q : ℤ) → p ≡ pos 1 → q ≡ negsuc 0 → pos 1 *ℤ p +ℤ pos 1 *ℤ q ≡ pos 0
    ones p q e f = omega (arith, ints, e, f)

not_least : (a b : Row) → Some (Bound (row (pos 0) (monomial (pos 1) 1 ∷ []))) ≡ Some (Bound a) → Some (Bound (row (pos 1) (monomial (negsuc 0) 1 ∷ []))) ≡ Some (Bound b)
    → (p q : Monomial) → greatest a.parts ≡ Some p → greatest b.parts ≡ Some q → Cancels (pos 2) (pos 2) p.factor q.factor → ⊥
not_least a b e f p q g h c =
    let r : row (pos 0) (monomial (pos 1) 1 ∷ []) ≡ a = cc e in
    let s : row (pos 1) (monomial (negsuc 0) 1 ∷ []) ≡ b = cc f in
    let i : Some (monomial (pos 1) 1) ≡ Some p = ap (λ r. greatest r.parts) r ∙ g in
    let j : Some (monomial (negsuc 0) 1) ≡ Some q = ap (λ r. greatest r.parts) s ∙ h in
    let k : monomial (pos 1) 1 ≡ p = cc i in
    let l : monomial (negsuc 0) 1 ≡ q = cc j in
    too_much p.factor q.factor (sym (ap (λ m. m.factor) k)) (sym (ap (λ m. m.factor) l)) c

not_absurd : (i : Item) → Some (Known (Says false either_way)) ≡ Some i → IsAbsurd i → ⊥
not_absurd (Known f) e (inl g) = let k : Says false either_way ≡ f = cc e in cc (k ∙ g)
not_absurd (Known f) e (inr g) = let k : Says false either_way ≡ f = cc e in cc (k ∙ g)
not_absurd (Bound r) e h = cc e

not_by_rule : (fs : List Fact) → AreFacts (begun either_way).items (0 ∷ []) fs → IsByRule 1 fs (Says true above) → ⊥
not_by_rule [] a r = a
not_by_rule (f ∷ []) a r =
    let k : Says false either_way ≡ f = cc a.0 in
    cc (subst (λ g. is_by_rule 1 (g ∷ []) (Says true above) ≡ true) (sym k) ((test_is_exact 1 (f ∷ []) (Says true above)).1 r))
not_by_rule (f ∷ g ∷ fs) a r = a.1

pub examples : ExamplesHold
examples = record {
  numbers = refl;
  accepted = (first_allowed, (second_allowed, (third_allowed, (fourth_allowed, (fifth_allowed, (sixth_allowed, tt))))));
  closed = record { closed = refl; splits = refl };
  cost = refl;
  below_zero = record { fails = λ h. absurd (let p = h.4.cancels.5.first in omega (arith, ints, p)); before = before_row s4 (Combine (negsuc 0) 3 (negsuc 0) 4 (row (negsuc 0) [])) refl (below 6 [] refl) (below 5 (3 ∷ 4 ∷ []) refl) tt (new_row (negsuc 0)) tt };
  doubled = record { fails = λ h. not_least h.0 h.1 h.2 h.3 h.4.cancels.0 h.4.cancels.1 h.4.cancels.2 h.4.cancels.3 h.4.cancels.5; before = before_row s4 (Combine (pos 2) 3 (pos 2) 4 (row (pos 2) [])) refl (below 6 [] refl) (below 5 (3 ∷ 4 ∷ []) refl) tt (new_row (pos 2)) tt };
  no_contradiction = record { fails = λ h. not_absurd h.0 h.1 h.2; before = before_branch (begun either_way) (CloseAt 0) (before_row (begun either_way) (CloseAt 0) refl (below 6 [] refl) (below 1 (0 ∷ []) refl) tt tt tt) tt };
  no_cut = record { fails = λ h. cc h.0; before = before_branch (begun either_way) Cut (before_row (begun either_way) Cut (λ e. cc e) (below 6 [] refl) (below 1 [] refl) tt tt tt) tt };
  twice = record { fails = λ h. h (1, lit< tt, refl); before = before_repeat s1 first_fact refl (below 6 (2 ∷ []) refl) (below 2 (0 ∷ []) refl) tt };
  behind_the_end = record { fails = λ h. cc h; before = before_after (after_all (begun either_way) whole_log) first_fact };
  no_term = record { fails = λ h. absurd (let l = h 0 0 (lit< tt) in omega (arith, l)); before = before_term (begun either_way) (SplitOn 6) refl };
  no_item = record { fails = λ h. absurd (let l = h 0 0 (lit< tt) in omega (arith, l)); before = before_item (begun either_way) (CloseAt 1) refl (below 6 [] refl) };
  no_fit = record { fails = λ h. cc h.1; before = before_sort (begun either_way) not_of_number refl (below 6 (1 ∷ []) refl) (below 1 [] refl) };
  no_rule = record { fails = λ h. not_by_rule h.1 h.2 h.3; before = before_rule (begun either_way) (AddFact 1 true 2 (0 ∷ [])) refl (below 6 (2 ∷ []) refl) (below 1 (0 ∷ []) refl) tt (absent (Known (Says true above)) (begun either_way).items ((λ e. cc e), tt)) };
}
