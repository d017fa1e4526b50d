-- From what is asked of numbers to the definitions of logs.
use Rattle.std.proofs.Common.{ℕ, zero, suc, ◌<◌, ◌≤◌, Bool, true, false, not, ◌&&◌, List, [], ◌∷◌, ◌≡◌, ◌↔◌, ◌⊎◌, inl, inr, length, map, slice_get, get_or, Option, Some, None, refl, sym, ap, ◌∙◌, subst, arith}
use Rattle.std.specs.Option.{option_map}
use Rattle.std.specs.List.{All, Contains}
use Rattle.std.proofs.lemmas.List.{length-map}
use Rattle.std.proofs.lemmas.List.Elements.{All-cons, All-nil}
use lib.IntN.{pos}
use lib.Signed.{◌<ℤ◌}
use Rattle.std.proofs.lemmas.Option.{slice_get_within, slice_get-get_or, get_or_from_slice_get}
use Rattle.sv_term.specs.Sorts.{Sorts, NoSorts, SortAnd, Sort, BoolSort, is_bool}
use Rattle.sv_term.specs.Terms.{Shape as Node, Term, App, Terms, End, More, TruthNode, Truth, fits, sort_of, sorts_of, all_fit}
use Rattle.sv_term.specs.Models.{is_claim}
use Rattle.sv_term.specs.FactRules.{Fact, Says}
use Rattle.sv_log.specs.LogEntries.{Row, Entry, Combine, Divide, CloseAt, Clash, columns}
use Rattle.sv_log.specs.LogRows.{IsCombined}
use Rattle.sv_log.specs.Logs.{State, Item, Known, Bound, IsAllowed, IsAbsurd, nth_term, nth_terms, IsTimely, HasTerms, HasItems, IsFitting, IsNew, IsGiven, IsStated, IsBranching}
use Rattle.sv_log.specs.LogCauses.{Why, IsFirstFault, Asked, place_of}
use Rattle.sv_log.specs.LogCauses as l
use Rattle.sv_force.specs.InForce.{Held, FactOn, RowOf}
use Rattle.sv_branch.specs.OpenBranches.{Standing}
use Rattle.sv_branch.specs.BranchTrees.{item_of, state_of, IsBelow, AreApart}
use Rattle.sv_branch.proofs.Asking.{item_agrees, questions_agree}
use Rattle.sv_term_room.specs.TermRows.{TermRows, terms_of, shape_by, tree_of}
use Rattle.sv_term_room.specs.declared.shape.Shape.{Shape}
use Rattle.sv_term_room.specs.declared.shape.Shape.TheVariants as s
use Rattle.sv_allowed.specs.EntryJudging.{IsCombination, IsDivision, IsAbsurdAt, IsAbsurdRow, AreOpposite, stands}
use Rattle.sv_allowed.specs.declared.rows.Multiple.{Multiple}

-- ---- first causes

module _ (st : State) (e : Entry) where
  pub asked_below : (k : ℕ) → k ≤ 7 → (0 < k → IsTimely st e) → (1 < k → HasTerms st e) → (2 < k → HasItems st e) → (3 < k → IsFitting st e)
      → (4 < k → IsNew st e) → (5 < k → IsGiven st e) → (6 < k → IsStated st e) → (w : Why) → place_of w < k → Asked w st e
  asked_below k m a b c d f g h l.After p = a p
  asked_below k m a b c d f g h l.NoTerm p = b p
  asked_below k m a b c d f g h l.NoItem p = c p
  asked_below k m a b c d f g h l.Sort p = d p
  asked_below k m a b c d f g h l.Repeat p = f p
  asked_below k m a b c d f g h l.Rule p = g p
  asked_below k m a b c d f g h l.Row p = h p
  asked_below k m a b c d f g h l.Branch p = absurd (omega (arith, m, p))

-- ---- items by number

pub held_at : (n : ℕ) (items : List Held) (p : ℕ) (h : Held) → All (IsBelow n) items → slice_get items p ≡ Some h → IsBelow n h
held_at n items p h a e = subst (IsBelow n) (get_or_from_slice_get items p h h e) (a p h (slice_get_within items p h e))

-- an item of the state is one of the branch
pub came_from : (ts : List Term) (items : List Held) (p : ℕ) (i : Item) → slice_get (map (item_of ts) items) p ≡ Some i → (h : Held) × (slice_get items p ≡ Some h) × (item_of ts h ≡ i)
came_from ts items p i e = go (slice_get items p) refl (sym (item_agrees ts items p) ∙ e)
  where
    go : (o : Option Held) → slice_get items p ≡ o → option_map (item_of ts) o ≡ Some i → (h : Held) × (slice_get items p ≡ Some h) × (item_of ts h ≡ i)
    go None f g = absurd (cc)
    go (Some h) f g = let same : item_of ts h ≡ i = cc in (h, f, same)

pub goes_to : (ts : List Term) (items : List Held) (p : ℕ) (h : Held) → slice_get items p ≡ Some h → slice_get (map (item_of ts) items) p ≡ Some (item_of ts h)
goes_to ts items p h e = item_agrees ts items p ∙ ap (option_map (item_of ts)) e

one_row : (items : List Held) (p : ℕ) (r t : Row) → slice_get items p ≡ Some (RowOf r) → slice_get items p ≡ Some (RowOf t) → r ≡ t
one_row items p r t e f = cc (e, f)

pub combination_is : (items : List Held) (m n : Multiple) (a b t : Row) → slice_get items m.item ≡ Some (RowOf a) → slice_get items n.item ≡ Some (RowOf b)
    → IsCombined m.factor a n.factor b t ↔ IsCombination items m n t
combination_is items m n a b t e f = (
  λ c. (a, b, e, f, c),
  λ c. subst (λ (r : Row). IsCombined m.factor r n.factor b t) (one_row items m.item c.0 a c.2 e)
      (subst (λ (r : Row). IsCombined m.factor c.0 n.factor r t) (one_row items n.item c.1 b c.3 f) c.4),
)

row_held : (ts : List Term) (r : Row) (h : Held) → item_of ts h ≡ Bound r → h ≡ RowOf r
row_held ts r (FactOn g m) e = absurd (cc)
row_held ts r (RowOf q) e = let same : q ≡ r = cc in ap RowOf same

bound_came : (ts : List Term) (items : List Held) (p : ℕ) (r : Row) → slice_get (map (item_of ts) items) p ≡ Some (Bound r) → slice_get items p ≡ Some (RowOf r)
bound_came ts items p r e = let c = came_from ts items p (Bound r) e in c.1 ∙ ap Some (row_held ts r c.0 c.2)

pub combination_agrees : (ts : List Term) (items : List Held) (m n : Multiple) (t : Row) (st : State) → st.items ≡ map (item_of ts) items
    → IsCombination items m n t ↔ IsStated st (Combine m.factor m.item n.factor n.item t)
combination_agrees ts items m n t st e = (
  λ c. (c.0, c.1, ap (λ (l : List Item). slice_get l m.item) e ∙ goes_to ts items m.item (RowOf c.0) c.2, ap (λ (l : List Item). slice_get l n.item) e ∙ goes_to ts items n.item (RowOf c.1) c.3, c.4),
  λ c. (c.0, c.1, row_came m.item c.0 c.2, row_came n.item c.1 c.3, c.4),
)
  where
    row_came : (p : ℕ) (r : Row) → slice_get st.items p ≡ Some (Bound r) → slice_get items p ≡ Some (RowOf r)
    row_came p r f = bound_came ts items p r (sym (ap (λ (l : List Item). slice_get l p) e) ∙ f)

pub division_agrees : (ts : List Term) (items : List Held) (m : Multiple) (t : Row) (st : State) → st.items ≡ map (item_of ts) items
    → IsDivision items m t ↔ IsStated st (Divide m.factor m.item t)
division_agrees ts items m t st e = (
  λ c. (c.0, ap (λ (l : List Item). slice_get l m.item) e ∙ goes_to ts items m.item (RowOf c.0) c.1, c.2),
  λ c. (c.0, bound_came ts items m.item c.0 (sym (ap (λ (l : List Item). slice_get l m.item) e) ∙ c.1), c.2),
)

pub absurd_agrees : (ts : List Term) (b : Standing) (p : ℕ) → IsAbsurdAt ts b.force.items p ↔ IsBranching (state_of ts b) (CloseAt p)
absurd_agrees ts b p = (
  λ c. (item_of ts c.0, goes_to ts b.force.items p c.0 c.1, c.2),
  λ c. let g = came_from ts b.force.items p c.0 c.1 in (g.0, g.1, subst IsAbsurd (sym g.2) c.2),
)

fact_held : (ts : List Term) (sign : Bool) (t : Term) (h : Held) → item_of ts h ≡ Known (Says sign t) → (n : ℕ) × (h ≡ FactOn sign n) × (nth_term ts n ≡ t)
fact_held ts sign t (FactOn g m) e = let signs : g ≡ sign = cc in let terms : nth_term ts m ≡ t = cc in (m, ap (λ (s : Bool). FactOn s m) signs, terms)
fact_held ts sign t (RowOf r) e = absurd (cc)

known_came : (ts : List Term) (items : List Held) (p : ℕ) (sign : Bool) (t : Term) → All (IsBelow (length ts)) items → slice_get (map (item_of ts) items) p ≡ Some (Known (Says sign t))
    → (n : ℕ) × (slice_get items p ≡ Some (FactOn sign n)) × (nth_term ts n ≡ t) × (n < length ts)
known_came ts items p sign t a e =
    let c = came_from ts items p (Known (Says sign t)) e in
    let f = fact_held ts sign t c.0 c.2 in
    let at : slice_get items p ≡ Some (FactOn sign f.0) = c.1 ∙ ap Some f.1 in
    (f.0, at, f.2, held_at (length ts) items p (FactOn sign f.0) a at)

pub opposite_agrees : (ts : List Term) (b : Standing) (p q : ℕ) → AreApart ts → All (IsBelow (length ts)) b.force.items
    → AreOpposite b.force.items p q ↔ IsBranching (state_of ts b) (Clash p q)
opposite_agrees ts b p q apart a = (
  λ c. (c.0, nth_term ts c.1, goes_to ts b.force.items p (FactOn c.0 c.1) c.2, goes_to ts b.force.items q (FactOn (not c.0) c.1) c.3),
  λ c.
      let f = known_came ts b.force.items p c.0 c.1 a c.2 in
      let g = known_came ts b.force.items q (not c.0) c.1 a c.3 in
      let same : g.0 ≡ f.0 = apart g.0 f.0 g.3 f.3 (g.2 ∙ sym f.2) in
      (c.0, f.0, f.1, g.1 ∙ ap (λ (n : ℕ). Some (FactOn (not c.0) n)) same),
)

row_absurd : (ts : List Term) (r : Row) (h : Held) → h ≡ RowOf r → IsAbsurd (item_of ts h) → (r.parts ≡ []) × (pos 0 <ℤ r.constant)
row_absurd ts r h e a = subst (λ (k : Held). IsAbsurd (item_of ts k)) e a

pub absurd_row : (ts : List Term) (items : List Held) (p : ℕ) (r : Row) → slice_get items p ≡ Some (RowOf r) → IsAbsurdRow items p ↔ IsAbsurdAt ts items p
absurd_row ts items p r e = (
  λ c. (RowOf c.0, c.1, (c.2, c.3)),
  λ c. let same : c.0 ≡ RowOf r = cc (c.1, e) in let q = row_absurd ts r c.0 same c.2 in (r, e, q.0, q.1),
)

pub absurd_fact : (ts : List Term) (items : List Held) (p : ℕ) (sign : Bool) (n : ℕ) → slice_get items p ≡ Some (FactOn sign n) → (nth_term ts n ≡ Truth (not sign)) ↔ IsAbsurdAt ts items p
absurd_fact ts items p sign n e = (
  λ q. (FactOn sign n, e, to sign q),
  λ c. let same : c.0 ≡ FactOn sign n = cc (c.1, e) in from sign (subst (λ (k : Held). IsAbsurd (item_of ts k)) same c.2),
)
  where
    to : (g : Bool) → nth_term ts n ≡ Truth (not g) → IsAbsurd (item_of ts (FactOn g n))
    to true q = inl (ap (Says true) q)
    to false q = inr (ap (Says false) q)

    from : (g : Bool) → IsAbsurd (item_of ts (FactOn g n)) → nth_term ts n ≡ Truth (not g)
    from true (inl q) = cc q
    from true (inr q) = absurd (cc)
    from false (inl q) = absurd (cc)
    from false (inr q) = cc q

-- ---- numbers of items

pub one_item : (ts : List Term) (items : List Held) (p : ℕ) → p < length items → All (λ n. n < length (map (item_of ts) items)) (p ∷ [])
one_item ts items p l = All-cons (λ n. n < length (map (item_of ts) items)) p [] (let e = length-map items (item_of ts) in omega (arith, e, l)) (All-nil (λ n. n < length (map (item_of ts) items)))

pub two_items : (ts : List Term) (items : List Held) (p q : ℕ) → p < length items → q < length items → All (λ n. n < length (map (item_of ts) items)) (p ∷ q ∷ [])
two_items ts items p q l m = All-cons (λ n. n < length (map (item_of ts) items)) p (q ∷ []) (let e = length-map items (item_of ts) in omega (arith, e, l)) (one_item ts items q m)

-- ---- terms that are truth values

no_terms : (us : Terms) → sorts_of us ≡ NoSorts → us ≡ End
no_terms End e = refl
no_terms (More u us) e = absurd (cc)

both : (a b : Bool) → (a && b) ≡ true → (a ≡ true) × (b ≡ true)
both true b e = (refl, e)
both false b e = cc e

truth_alone : (b : Bool) (us : Terms) → fits (App (TruthNode b) us) ≡ true → us ≡ End
truth_alone b End f = refl
truth_alone b (More u us) f = let g = both (all_fit (More u us)) false f in let h = g.1 in cc h

is_fitting : (ts : List Term) (n : ℕ) → All (λ x. fits x ≡ true) ts → n < length ts → fits (nth_term ts n) ≡ true
is_fitting [] n a l = absurd (omega (arith, l))
is_fitting (t ∷ ts) zero a l = a 0 t (omega arith)
is_fitting (t ∷ ts) (suc n) a l = is_fitting ts n (λ k d m. a (suc k) d (omega (arith, m))) (omega (arith, l))

-- a term that fits is a claim where its sort is that of truth values
pub claim_by : (v : TermRows) (n : ℕ) (s : Sort) → All (λ x. fits x ≡ true) (terms_of v) → n < length (terms_of v) → sort_of (nth_term (terms_of v) n) ≡ s → is_claim (nth_term (terms_of v) n) ≡ is_bool s
claim_by v n s a l e = ap (λ b. b && is_bool (sort_of (nth_term (terms_of v) n))) (is_fitting (terms_of v) n a l) ∙ ap is_bool e

shape_is : (ss : List Sort) (x : Shape) (b : Bool) → shape_by ss x ≡ TruthNode b → x ≡ s.Truth b
shape_is ss (s.Truth c) b e = let same : c ≡ b = cc e in ap s.Truth same
shape_is ss (s.Lit g m) b e = cc e
shape_is ss (s.Var x k) b e = cc e
shape_is ss s.Add b e = cc e
shape_is ss s.Sub b e = cc e
shape_is ss s.Mul b e = cc e
shape_is ss s.Div b e = cc e
shape_is ss s.Mod b e = cc e
shape_is ss (s.Wrap g n) b e = cc e
shape_is ss s.Le b e = cc e
shape_is ss s.Eq b e = cc e
shape_is ss s.Not b e = cc e
shape_is ss s.And b e = cc e
shape_is ss s.Or b e = cc e
shape_is ss s.Ite b e = cc e
shape_is ss s.Sel b e = cc e
shape_is ss s.Sto b e = cc e
shape_is ss (s.Const k) b e = cc e
shape_is ss s.Mix b e = cc e
shape_is ss (s.Tup k) b e = cc e
shape_is ss (s.Get k) b e = cc e
shape_is ss s.Sum b e = cc e

abbrev node_of : Term → Node
node_of (App x us) = x

truth_node : (t : Term) (ss : List Sort) (x : Shape) (us : Terms) (b : Bool) → t ≡ App (shape_by ss x) us → fits t ≡ true → (x ≡ s.Truth b) ↔ (t ≡ Truth b)
truth_node t ss x us b e f = (
  λ q.
      let node : t ≡ App (TruthNode b) us = e ∙ ap (λ (y : Shape). App (shape_by ss y) us) q in
      node ∙ ap (App (TruthNode b)) (truth_alone b us (sym (ap fits node) ∙ f)),
  λ q. shape_is ss x b (ap node_of (sym e ∙ q)),
)

-- the truth value itself, by the shape at its number
pub truth_by : (v : TermRows) (n : ℕ) (x : Shape) (args : List ℕ) (b : Bool) → All (λ y. fits y ≡ true) (terms_of v) → n < length (terms_of v) → nth_term (terms_of v) n ≡ tree_of v x args
    → (x ≡ s.Truth b) ↔ (nth_term (terms_of v) n ≡ Truth b)
truth_by v n x args b a l e = truth_node (nth_term (terms_of v) n) _ x (nth_terms (terms_of v) args) b e (is_fitting (terms_of v) n a l)

-- ---- entries that close a branch or combine two rows

module _ (v : TermRows) (b : Standing) (closed : b.closed ≡ false) where
  no_terms_named : All (λ n. n < length (terms_of v)) []
  no_terms_named = All-nil (λ n. n < length (terms_of v))

  module _ (p : ℕ) (here : p < length b.force.items) where
    pub close_fault : (IsAbsurdAt (terms_of v) b.force.items p → ⊥) → IsFirstFault (stands v b) (CloseAt p) l.Branch
    close_fault none = record {
      fails = λ h. none ((absurd_agrees (terms_of v) b p).1 h);
      before = asked_below (stands v b) (CloseAt p) 7 (omega arith) (λ _. closed) (λ _. no_terms_named) (λ _. one_item (terms_of v) b.force.items p here) (λ _. tt) (λ _. tt) (λ _. tt) (λ _. tt);
    }

    pub close_allowed : IsAbsurdAt (terms_of v) b.force.items p → IsAllowed (stands v b) (CloseAt p)
    close_allowed h = record {
      timely = closed;
      terms = no_terms_named;
      items = one_item (terms_of v) b.force.items p here;
      fitting = tt;
      new = tt;
      given = tt;
      stated = tt;
      branching = (absurd_agrees (terms_of v) b p).0 h;
    }

    module _ (q : ℕ) (there : q < length b.force.items) where
      module _ (apart : AreApart (terms_of v)) (over : All (IsBelow (length (terms_of v))) b.force.items) where
        pub clash_fault : (AreOpposite b.force.items p q → ⊥) → IsFirstFault (stands v b) (Clash p q) l.Branch
        clash_fault none = record {
          fails = λ h. none ((opposite_agrees (terms_of v) b p q apart over).1 h);
          before = asked_below (stands v b) (Clash p q) 7 (omega arith) (λ _. closed) (λ _. no_terms_named) (λ _. two_items (terms_of v) b.force.items p q here there) (λ _. tt) (λ _. tt) (λ _. tt) (λ _. tt);
        }

        pub clash_allowed : AreOpposite b.force.items p q → IsAllowed (stands v b) (Clash p q)
        clash_allowed h = record {
          timely = closed;
          terms = no_terms_named;
          items = two_items (terms_of v) b.force.items p q here there;
          fitting = tt;
          new = tt;
          given = tt;
          stated = tt;
          branching = (opposite_agrees (terms_of v) b p q apart over).0 h;
        }

  module _ (m n : Multiple) (t : Row) (columns_there : All (λ k. k < length (terms_of v)) (columns t.parts)) (here : m.item < length b.force.items) (there : n.item < length b.force.items)
      (new : Contains b.force.items (RowOf t) → ⊥) where
    row_is_new : Contains (stands v b).items (Bound t) → ⊥
    row_is_new c = new ((questions_agree.row (terms_of v) b t).1 c)

    pub combine_fault : (IsCombination b.force.items m n t → ⊥) → IsFirstFault (stands v b) (Combine m.factor m.item n.factor n.item t) l.Row
    combine_fault none = record {
      fails = λ h. none ((combination_agrees (terms_of v) b.force.items m n t (stands v b) refl).1 h);
      before = asked_below (stands v b) (Combine m.factor m.item n.factor n.item t) 6 (omega arith) (λ _. closed) (λ _. columns_there) (λ _. two_items (terms_of v) b.force.items m.item n.item here there)
          (λ _. tt) (λ _. row_is_new) (λ _. tt) (λ k. absurd (omega (arith, k)));
    }

    pub combine_allowed : IsCombination b.force.items m n t → IsAllowed (stands v b) (Combine m.factor m.item n.factor n.item t)
    combine_allowed h = record {
      timely = closed;
      terms = columns_there;
      items = two_items (terms_of v) b.force.items m.item n.item here there;
      fitting = tt;
      new = row_is_new;
      given = tt;
      stated = (combination_agrees (terms_of v) b.force.items m n t (stands v b) refl).0 h;
      branching = tt;
    }
