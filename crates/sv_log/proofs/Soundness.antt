-- What is in force is true in every model that follows the open branch.
use Rattle.std.proofs.Common.{◌&&◌, ℕ, zero, suc, ◌+◌, ◌*◌, ◌<◌, Bool, true, false, cond, not, List, [], ◌∷◌, ◌++◌, ◌≡◌, inl, inr, refl, sym, ap, ap₂, ◌∙◌, subst, arith, None, Some, slice_get, slice_index_or, length}
use Rattle.std.specs.List.{Contains}
use Rattle.std.proofs.lemmas.Int.{ints}
use lib.IntN.{ℤ, pos, negsuc, ◌+ℤ◌, ◌-ℤ◌, ◌*ℤ◌}
use lib.Signed.{◌≤ℤ◌, ◌<ℤ◌, le_z}
use Rattle.sv_term.specs.Sorts.{Sort, is_num, sort_at, matches, same_sort}
use Rattle.sv_term.specs.Values.{number, value_at}
use Rattle.sv_term.specs.Terms.{LeNode, EqNode, Term, App, same_term, Terms, all_fit, both_num, sorts_of}
use Rattle.sv_term.specs.Models.{Model, value, values, truth, is_claim}
use Rattle.sv_term.specs.FactRules.{Fact, Says, IsTrueIn, AreTrueIn, is_fact, are_facts}
use Rattle.sv_term.proofs.Same.{both_true, and_true, or_true, term_is, term_self, value_is, sort_is}
use Rattle.sv_term.proofs.Typed.{two_of}
use Rattle.sv_term.proofs.FactRuleTest.{rules_are_true}
use Rattle.sv_log.specs.LogEntries.{Row, Entry, AddTerm, AddFact, Linear, Combine, Divide, SplitOn, Cut, CloseAt, Clash}
use Rattle.sv_log.specs.LogRows.{row, total, amount, sum_of, times, difference, IsCombined, IsDivided}
use Rattle.sv_log.specs.FormsOfTerms.{number_of, form_at, forms, IsFormOf}
use Rattle.sv_log.specs.Logs.{Item, Known, Bound, Split, State, nth_term, built, AreFacts, IsAbsurd, IsInFirstHalf, IsAllowed, open_around, with_item, shut, turned, after, after_all, IsAccepted, begun}
use Rattle.sv_log.specs.LogLaws.{ClosedIsValid}
use Rattle.sv_log.proofs.Amounts.{sum_amount, times_amount, times_total, spread}
use Rattle.sv_log.proofs.FormAmounts.{gap, args_amount}

-- ---- numbers

lower : (d a : ℤ) → pos 0 <ℤ d → a ≤ℤ pos 0 → ((d *ℤ a) ≤ℤ pos 0)
lower (pos d) (pos zero) k h = omega (arith, ints)
lower (pos d) (pos (suc n)) k h = absurd (omega (arith, ints))
lower (pos d) (negsuc n) k h = omega (arith, ints)
lower (negsuc d) a k h = absurd (omega (arith, ints))

both_low : (a b : ℤ) → a ≤ℤ pos 0 → b ≤ℤ pos 0 → ((a +ℤ b) ≤ℤ pos 0)
both_low a b h k = omega (arith, ints)

-- c + d·s ≤ 0 and d·q < c + d give d·(q + s) < d
up_to : (d q s c : ℤ) → ((c +ℤ d *ℤ s) ≤ℤ pos 0) → ((d *ℤ q) <ℤ (c +ℤ d)) → ((d *ℤ (q +ℤ s)) <ℤ d)
up_to d q s c h k = subst (λ z. z <ℤ d) (spread d q s) (omega (arith, ints))

small : (d z : ℤ) → pos 2 ≤ℤ d → ((d *ℤ z) <ℤ d) → z ≤ℤ pos 0
small (pos d) (pos zero) k h = omega (arith, ints)
small (pos d) (pos (suc n)) k h = absurd (let more : d * suc n ≡ d + d * n = omega arith in omega (arith, ints, more))
small (pos d) (negsuc n) k h = omega (arith, ints)
small (negsuc d) z k h = absurd (omega (arith, ints))

le_of : (a b : ℤ) → le_z a b ≡ true → a ≤ℤ b
le_of a b e = omega (arith, ints)

lt_of : (a b : ℤ) → le_z a b ≡ false → b <ℤ a
lt_of a b e = omega (arith, ints)

moved : (a b : ℤ) → a ≤ℤ b → ((a -ℤ b) ≤ℤ pos 0)
moved a b h = omega (arith, ints)

moved_more : (a b : ℤ) → b <ℤ a → (((pos 1 +ℤ pos 0) +ℤ (b -ℤ a)) ≤ℤ pos 0)
moved_more a b h = omega (arith, ints)

same_le : (a b : ℤ) → a ≡ b → a ≤ℤ b
same_le a b e = omega (arith, ints)

some_same : {A : Type 0} (x y : A) → Some x ≡ Some y → x ≡ y
some_same x y e = cc e

-- ---- terms by their numbers

pub found : (ts : List Term) (n : ℕ) (t : Term) → slice_get ts n ≡ Some t → nth_term ts n ≡ t
found [] n t e = cc e
found (u ∷ ts) zero t e = cc e
found (u ∷ ts) (suc n) t e = found ts n t e

number_found : (ts : List Term) (t : Term) → Contains ts t → slice_get ts (number_of ts t) ≡ Some t
number_found [] t h = absurd (omega (arith, h.1))
number_found (u ∷ us) t h = go (same_term u t) refl (λ c. number_found us t c) h.0 h.1 h.2
  where
    go : (b : Bool) → same_term u t ≡ b → (Contains us t → slice_get us (number_of us t) ≡ Some t) → (k : ℕ) → k < length (u ∷ us) → slice_index_or (u ∷ us) k t ≡ t → slice_get (u ∷ us) (cond b 0 (suc (number_of us t))) ≡ Some t
    go true e rest k lt is = ap Some (term_is u t e)
    go false e rest zero lt is = cc (e, ap (λ v. same_term v t) is, term_self t)
    go false e rest (suc k) lt is = rest (k, omega arith, is)

-- ---- what a fact on numbers asks of its sides

le_claim : (ts : Terms) → is_claim (App LeNode ts) ≡ true → (all_fit ts ≡ true) × (is_num (sort_at 0 (sorts_of ts)) ≡ true) × (is_num (sort_at 1 (sorts_of ts)) ≡ true)
le_claim ts c =
    let f = both_true _ _ (both_true _ _ c).0 in
    let n = both_true _ _ (two_of both_num (sorts_of ts) f.1) in
    (f.0, n.0, n.1)

num_matches : (s t : Sort) → matches s t ≡ true → is_num s ≡ true → is_num t ≡ true
num_matches s t e n = go (is_num t) refl
  where
    go : (b : Bool) → is_num t ≡ b → b ≡ true
    go true f = refl
    go false f = elim (or_true (is_num s && is_num t) (same_sort s t) e) [
      | inl both ↦ sym f ∙ (both_true _ _ both).1
      | inr same ↦ sym f ∙ (ap is_num (sym (sort_is s t same)) ∙ n)
    ]

eq_claim : (ts : Terms) → is_claim (App EqNode ts) ≡ true → is_num (sort_at 0 (sorts_of ts)) ≡ true → (all_fit ts ≡ true) × (is_num (sort_at 1 (sorts_of ts)) ≡ true)
eq_claim ts c n =
    let f = both_true _ _ (both_true _ _ c).0 in
    (f.0, num_matches (sort_at 0 (sorts_of ts)) (sort_at 1 (sorts_of ts)) (two_of matches (sorts_of ts) f.1) n)

-- ---- a model, and the values of the columns

module _ (m : Model) (look : ℕ → ℤ) where
  -- a fact in force fits and is true, and a row in force holds
  abbrev pub IsItemTrue : Item → Type 0
  IsItemTrue (Known f) = (is_fact f ≡ true) × IsTrueIn m f
  IsItemTrue (Bound r) = amount look r ≤ℤ pos 0

  abbrev pub AreItemsTrue : List Item → Type 0
  AreItemsTrue [] = Unit {0}
  AreItemsTrue (i ∷ is) = IsItemTrue i × AreItemsTrue is

  pub true_at : (is : List Item) (n : ℕ) (i : Item) → AreItemsTrue is → slice_get is n ≡ Some i → IsItemTrue i
  true_at [] n i h e = cc e
  true_at (j ∷ is) zero i h e = subst IsItemTrue (some_same j i e) h.0
  true_at (j ∷ is) (suc n) i h e = true_at is n i h.1 e

  pub true_more : (is : List Item) (i : Item) → AreItemsTrue is → IsItemTrue i → AreItemsTrue (is ++ i ∷ [])
  true_more [] i h k = (k, tt)
  true_more (j ∷ is) i h k = (h.0, true_more is i h.1 k)

  facts_true : (is : List Item) (ns : List ℕ) (fs : List Fact) → AreItemsTrue is → AreFacts is ns fs → (are_facts fs ≡ true) × AreTrueIn m fs
  facts_true is [] [] h a = (refl, tt)
  facts_true is [] (f ∷ fs) h a = absurd a
  facts_true is (n ∷ ns) [] h a = absurd a
  facts_true is (n ∷ ns) (f ∷ fs) h a =
      let here = true_at is n (Known f) h a.0 in
      let rest = facts_true is ns fs h a.1 in
      (and_true _ _ here.0 rest.0, (here.1, rest.1))

  abbrev pub Agrees : List Term → Type 0
  Agrees terms = (t : Term) → Contains terms t → look (number_of terms t) ≡ number (value m t)

  gap_low : (f g : Row) (r : Row) (a b : ℤ) → amount look f ≡ a → amount look g ≡ b → difference f g ≡ r → a ≤ℤ b → amount look r ≤ℤ pos 0
  gap_low f g r a b u v e h = subst (λ z. z ≤ℤ pos 0) (sym (ap (amount look) (sym e) ∙ (gap look f g ∙ ap₂ (λ x y. x -ℤ y) u v))) (moved a b h)

  gap_more : (f g : Row) (r : Row) (a b : ℤ) → amount look f ≡ a → amount look g ≡ b → sum_of (row (pos 1) []) (difference g f) ≡ r → b <ℤ a → amount look r ≤ℤ pos 0
  gap_more f g r a b u v e h =
      subst (λ z. z ≤ℤ pos 0)
      (sym (ap (amount look) (sym e) ∙ (sum_amount look (row (pos 1) []) (difference g f) ∙ ap (λ z. (pos 1 +ℤ pos 0) +ℤ z) (gap look g f ∙ ap₂ (λ x y. x -ℤ y) v u))))
      (moved_more a b h)

  form_true : (terms : List Term) (f : Fact) (forward : Bool) (r : Row) → Agrees terms → IsFormOf terms f forward r → is_fact f ≡ true → IsTrueIn m f → amount look r ≤ℤ pos 0
  form_true terms (Says true (App LeNode ts)) true r ag h c e =
      let k = le_claim ts c in
      let a = args_amount m look terms ag ts k.0 h.sides in
      gap_low (form_at 0 (forms terms ts)) (form_at 1 (forms terms ts)) r (number (value_at 0 (values m ts))) (number (value_at 1 (values m ts)))
      (a 0 k.1) (a 1 k.2) (some_same _ r h.is) (le_of (number (value_at 0 (values m ts))) (number (value_at 1 (values m ts))) e)
  form_true terms (Says false (App LeNode ts)) true r ag h c e =
      let k = le_claim ts c in
      let a = args_amount m look terms ag ts k.0 h.sides in
      gap_more (form_at 0 (forms terms ts)) (form_at 1 (forms terms ts)) r (number (value_at 0 (values m ts))) (number (value_at 1 (values m ts)))
      (a 0 k.1) (a 1 k.2) (some_same _ r h.is) (lt_of (number (value_at 0 (values m ts))) (number (value_at 1 (values m ts))) e)
  form_true terms (Says true (App EqNode ts)) forward r ag h c e = numbers (is_num (sort_at 0 (sorts_of ts))) refl forward h.is
    where
      same : number (value_at 0 (values m ts)) ≡ number (value_at 1 (values m ts))
      same = ap number (value_is (value_at 0 (values m ts)) (value_at 1 (values m ts)) e)

      numbers : (b : Bool) → is_num (sort_at 0 (sorts_of ts)) ≡ b → (way : Bool)
          → cond b (cond way (Some (difference (form_at 0 (forms terms ts)) (form_at 1 (forms terms ts)))) (Some (difference (form_at 1 (forms terms ts)) (form_at 0 (forms terms ts))))) None ≡ Some r
          → amount look r ≤ℤ pos 0
      numbers true n true i =
          let k = eq_claim ts c n in
          let a = args_amount m look terms ag ts k.0 h.sides in
          gap_low (form_at 0 (forms terms ts)) (form_at 1 (forms terms ts)) r (number (value_at 0 (values m ts))) (number (value_at 1 (values m ts)))
          (a 0 n) (a 1 k.1) (some_same _ r i) (same_le _ _ same)
      numbers true n false i =
          let k = eq_claim ts c n in
          let a = args_amount m look terms ag ts k.0 h.sides in
          gap_low (form_at 1 (forms terms ts)) (form_at 0 (forms terms ts)) r (number (value_at 1 (values m ts))) (number (value_at 0 (values m ts)))
          (a 1 k.1) (a 0 n) (some_same _ r i) (same_le _ _ (sym same))
      numbers false n way i = cc i
  form_true terms f forward r ag h c e = cc h.is

  combined_low : (k : ℤ) (a : Row) (n : ℤ) (b r : Row) → IsCombined k a n b r → amount look a ≤ℤ pos 0 → amount look b ≤ℤ pos 0 → amount look r ≤ℤ pos 0
  combined_low k a n b r c h g =
      subst (λ z. z ≤ℤ pos 0)
      (sym (ap (amount look) c.is ∙ (sum_amount look (times k a) (times n b) ∙ ap₂ (λ x y. x +ℤ y) (times_amount look k a) (times_amount look n b))))
      (both_low (k *ℤ amount look a) (n *ℤ amount look b) (lower k (amount look a) c.cancels.5.first h) (lower n (amount look b) c.cancels.5.second g))

  divided_low : (d : ℤ) (a r : Row) → IsDivided d a r → amount look a ≤ℤ pos 0 → amount look r ≤ℤ pos 0
  divided_low d a r c h =
      small d (amount look r) c.more
      (up_to d r.constant (total look r.parts) a.constant
      (subst (λ z. (a.constant +ℤ z) ≤ℤ pos 0) (ap (total look) c.parts ∙ times_total look d r.parts) h)
      c.below)

  -- ---- the open branch

  -- the model goes with the first halves that are open; of second halves nothing is asked
  abbrev pub Follows : List Split → Type 0
  Follows [] = Unit {0}
  Follows (s ∷ ss) = (s.second ≡ false → truth m s.term ≡ true) × Follows ss

  -- what was in force before a split is true of what follows the splits around it
  abbrev pub Held : List Split → Type 0
  Held [] = Unit {0}
  Held (s ∷ ss) = (is_claim s.term ≡ true) × (Follows ss → AreItemsTrue s.before) × Held ss

  pub record Inv (s : State) : Type 0 where
    pub held : Held s.splits
    pub now : Follows s.splits → s.closed ≡ false → AreItemsTrue s.items
    pub ended : s.closed ≡ true → Follows s.splits → ⊥

  held_around : (ss : List Split) → Held ss → Held (open_around ss)
  held_around [] h = tt
  held_around (s ∷ ss) h = here s.second (held_around ss h.2)
    where
      here : (b : Bool) → Held (open_around ss) → Held (cond b (open_around ss) (s ∷ ss))
      here true k = k
      here false k = h

  follows_around : (ss : List Split) → Follows (open_around ss) → Follows ss
  follows_around [] f = tt
  follows_around (s ∷ ss) f = here s.second refl f (follows_around ss)
    where
      here : (b : Bool) → s.second ≡ b → Follows (cond b (open_around ss) (s ∷ ss)) → (Follows (open_around ss) → Follows ss) → Follows (s ∷ ss)
      here true e g k = ((λ d. cc (e, d)), k g)
      here false e g k = g

  added : (s : State) (i : Item) → s.closed ≡ false → Inv s → (AreItemsTrue s.items → IsItemTrue i) → Inv (with_item i s)
  added s i c v k = record {
    held = v.held;
    now = λ f d. true_more s.items i (v.now f d) (k (v.now f d));
    ended = v.ended;
  }

  shut_down : (s : State) → s.closed ≡ false → Inv s → (AreItemsTrue s.items → ⊥) → Inv (shut s)
  shut_down s c v k = record {
    held = held_around s.splits v.held;
    now = λ f d. cc d;
    ended = λ d f. k (v.now (follows_around s.splits f) c);
  }

  turn : (s : State) (ss : List Split) → Held ss → (Follows ss → ⊥) → IsInFirstHalf ss → Inv (turned s ss)
  turn s [] h dead k = absurd k
  turn s (p ∷ ss) h dead k = record {
    held = h;
    now = λ f d. true_more p.before (Known (Says false p.term)) (h.1 f.1) (h.0, other (truth m p.term) refl f.1);
    ended = λ d f. cc d;
  }
    where
      other : (b : Bool) → truth m p.term ≡ b → Follows ss → truth m p.term ≡ false
      other true e f = absurd (dead ((λ d. e), f))
      other false e f = e

  absurd_item : (i : Item) → IsAbsurd i → IsItemTrue i → ⊥
  absurd_item (Known f) h k = elim h [
    | inl a ↦ cc (subst (IsTrueIn m) a k.1)
    | inr b ↦ cc (subst (IsTrueIn m) b k.1)
  ]
  absurd_item (Bound r) h k = above r.constant h.1 (subst (λ ps. (r.constant +ℤ total look ps) ≤ℤ pos 0) h.0 k)
    where
      above : (c : ℤ) → pos 0 <ℤ c → ((c +ℤ pos 0) ≤ℤ pos 0) → ⊥
      above c u v = omega (arith, ints)

  not_both : (b : Bool) (x : Bool) → x ≡ b → x ≡ not b → ⊥
  not_both true x e f = cc (e, f)
  not_both false x e f = cc (e, f)

  step : (s : State) (e : Entry) → Agrees s.terms → IsAllowed s e → Inv s → Inv (after s e)
  step s (AddTerm node) ag a v = record { held = v.held; now = v.now; ended = v.ended }
  step s (AddFact rule sign n from) ag a v =
      added s (Known (Says sign (nth_term s.terms n))) a.timely v
      (λ k. let fs = facts_true s.items from a.given.1 k a.given.2 in
      (a.given.0, rules_are_true m rule a.given.1 (Says sign (nth_term s.terms n)) a.given.3 fs.0 a.given.0 fs.1))
  step s (Linear p forward r) ag a v =
      added s (Bound r) a.timely v
      (λ k. let f = true_at s.items p (Known a.stated.0) k a.stated.1 in form_true s.terms a.stated.0 forward r ag a.stated.2 f.0 f.1)
  step s (Combine k p n q r) ag a v =
      added s (Bound r) a.timely v
      (λ h. combined_low k a.stated.0 n a.stated.1 r a.stated.4 (true_at s.items p (Bound a.stated.0) h a.stated.2) (true_at s.items q (Bound a.stated.1) h a.stated.3))
  step s (Divide d p r) ag a v =
      added s (Bound r) a.timely v
      (λ h. divided_low d a.stated.0 r a.stated.2 (true_at s.items p (Bound a.stated.0) h a.stated.1))
  step s (SplitOn n) ag a v = record {
    held = (a.branching.0, (λ f. v.now f a.timely), v.held);
    now = λ f d. true_more s.items (Known (Says true (nth_term s.terms n))) (v.now f.1 a.timely) (a.branching.0, f.0 refl);
    ended = λ d f. cc (d, a.timely);
  }
  step s Cut ag a v = turn s s.splits v.held (v.ended a.branching.0) a.branching.1
  step s (CloseAt p) ag a v = shut_down s a.timely v (λ h. absurd_item a.branching.0 a.branching.2 (true_at s.items p a.branching.0 h a.branching.1))
  step s (Clash p q) ag a v =
      shut_down s a.timely v
      (λ h. not_both a.branching.0 (truth m a.branching.1) (true_at s.items p (Known (Says a.branching.0 a.branching.1)) h a.branching.2).1 (true_at s.items q (Known (Says (not a.branching.0) a.branching.1)) h a.branching.3).1)

-- ---- terms are only added

longer : (ts : List Term) (u : Term) (x : ℕ) (t : Term) → slice_get ts x ≡ Some t → slice_get (ts ++ u ∷ []) x ≡ Some t
longer [] u x t e = cc e
longer (s ∷ ts) u zero t e = e
longer (s ∷ ts) u (suc x) t e = longer ts u x t e

turned_terms : (s : State) (ss : List Split) → (turned s ss).terms ≡ s.terms
turned_terms s [] = refl
turned_terms s (p ∷ ss) = refl

pub kept : (s : State) (e : Entry) (x : ℕ) (t : Term) → slice_get s.terms x ≡ Some t → slice_get (after s e).terms x ≡ Some t
kept s (AddTerm node) x t e = longer s.terms (built s.terms node) x t e
kept s (AddFact rule sign n from) x t e = e
kept s (Linear p forward r) x t e = e
kept s (Combine k p n q r) x t e = e
kept s (Divide d p r) x t e = e
kept s (SplitOn n) x t e = e
kept s Cut x t e = ap (λ ts. slice_get ts x) (turned_terms s s.splits) ∙ e
kept s (CloseAt p) x t e = e
kept s (Clash p q) x t e = e

pub kept_all : (s : State) (es : List Entry) (x : ℕ) (t : Term) → slice_get s.terms x ≡ Some t → slice_get (after_all s es).terms x ≡ Some t
kept_all s [] x t e = e
kept_all s (n ∷ es) x t e = kept_all (after s n) es x t (kept s n x t e)

-- the values of the columns of a table of terms
abbrev pub values_in : Model → List Term → ℕ → ℤ
values_in m terms x = number (value m (nth_term terms x))

agrees : (m : Model) (s : State) (es : List Entry) → Agrees m (values_in m (after_all s es).terms) s.terms
agrees m s es t c =
    ap (λ u. number (value m u))
    (found (after_all s es).terms (number_of s.terms t) t (kept_all s es (number_of s.terms t) t (number_found s.terms t c)))

steps : (m : Model) (s : State) (es : List Entry) (look : ℕ → ℤ) → values_in m (after_all s es).terms ≡ look → IsAccepted s es → Inv m look s → Inv m look (after_all s es)
steps m s [] look is a v = v
steps m s (e ∷ es) look is a v =
    steps m (after s e) es look is a.1
    (step m look s e (subst (λ at. Agrees m at s.terms) is (agrees m s (e ∷ es))) a.0 v)

pub sound : ClosedIsValid
sound goal es claim accepted closed m = whole (truth m goal) refl
  where
    look : ℕ → ℤ
    look = values_in m (after_all (begun goal) es).terms

    whole : (b : Bool) → truth m goal ≡ b → b ≡ true
    whole true e = refl
    whole false e =
        absurd ((steps m (begun goal) es (values_in m (after_all (begun goal) es).terms) refl accepted
        (record { held = tt; now = λ f d. ((claim, e), tt); ended = λ d f. cc d })).ended closed.closed
        (subst (Follows m (values_in m (after_all (begun goal) es).terms)) (sym closed.splits) tt))
