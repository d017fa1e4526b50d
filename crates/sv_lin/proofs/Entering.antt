-- One more entry: it is accepted, or ends the elimination.
use Rattle.std.proofs.Common.{ℕ, zero, suc, ◌+◌, ◌<◌, ◌≤◌, inl, inr, false, List, [], ◌∷◌, ◌++◌, map, length, ◌≡◌, refl, sym, ap, ◌∙◌, subst, arith, append_assoc}
use Rattle.std.proofs.lemmas.List.{map-append, length-map, append-nil}
use Rattle.std.proofs.lemmas.List.Elements.{Contains-push_cases, Contains-append_left, Contains-append_right}
use Rattle.std.proofs.lemmas.Option.{slice_get_within}
use Rattle.std.specs.List.{Contains, All}
use Rattle.std.specs.Prelude.{Some, slice_get, slice_index_or}
use lib.IntN.{ℤ, pos}
use Rattle.sv_term.specs.Terms.{Term}
use Rattle.sv_log.specs.LogEntries.{Monomial, Row, Entry, AddTerm, AddFact, Linear, Combine, Divide, SplitOn, Cut, CloseAt, Clash, columns, cost_of, cost_of_log, terms_named}
use Rattle.sv_log.specs.Logs.{Item, Bound, State, IsAbsurd, IsAllowed, IsAccepted, after, after_all, with_item}
use Rattle.sv_point.specs.NearestPoints.{AreBelow}
use Rattle.sv_lin.specs.Eliminations.{holding, HaveColumns, AreOfRows, made, in_force, HaveNoAbsurd, but_last, AreEntriesOn, IsContradiction, IsSpent, IsNormalRow, IsColumnOf}
use Rattle.sv_lin.specs.UnderWay.{EachColumn, IsUnderWay, IsStep}
use Rattle.sv_lin.proofs.NewRows.{each_combined, each_divided, each_weaker, all_columns}
use Rattle.sv_normal.proofs.NormalParts.{combined_normal, divided_normal}

-- ---- lists

pub contains_get : {A : Type 0} (xs : List A) (i : ℕ) (x : A) → slice_get xs i ≡ Some x → Contains xs x
contains_get [] i x e = cc e
contains_get (y ∷ xs) zero x e = (0, omega arith, cc e)
contains_get (y ∷ xs) (suc i) x e = let c = contains_get xs i x e in (suc c.0, let l = c.1 in omega (arith, l), c.2)

pub get_contained : {A : Type 0} (xs : List A) (x : A) → Contains xs x → (i : ℕ) × (slice_get xs i ≡ Some x)
get_contained xs x c = (c.0, at xs c.0 c.1 c.2)
  where
    at : {A : Type 0} (xs : List A) (i : ℕ) {x : A} → i < length xs → slice_index_or xs i x ≡ x → slice_get xs i ≡ Some x
    at [] i l e = absurd (omega (arith, l))
    at (y ∷ xs) zero l e = ap Some e
    at (y ∷ xs) (suc i) l e = at xs i (omega (arith, l)) e

pub get_append : {A : Type 0} (xs ys : List A) (i : ℕ) (x : A) → slice_get xs i ≡ Some x → slice_get (xs ++ ys) i ≡ Some x
get_append [] ys i x e = cc e
get_append (y ∷ xs) ys zero x e = e
get_append (y ∷ xs) ys (suc i) x e = get_append xs ys i x e

-- ---- entries of rows

-- the row that an entry adds
pub record Adds (e : Entry) (t : Row) : Type 0 where
  pub of_rows : AreOfRows (e ∷ [])
  pub made : made (e ∷ []) ≡ t ∷ []
  pub after : (s : State) → after s e ≡ with_item (Bound t) s
  pub columns : terms_named e ≡ columns t.parts

pub adds_combined : (m : ℤ) (p : ℕ) (n : ℤ) (q : ℕ) (t : Row) → Adds (Combine m p n q t) t
adds_combined m p n q t = record { of_rows = tt; made = refl; after = λ s. refl; columns = refl }

pub adds_divided : (d : ℤ) (p : ℕ) (t : Row) → Adds (Divide d p t) t
adds_divided d p t = record { of_rows = tt; made = refl; after = λ s. refl; columns = refl }

pub made-append : (es fs : List Entry) → made (es ++ fs) ≡ made es ++ made fs
made-append [] fs = refl
made-append (Combine m p n q r ∷ es) fs = ap (λ z. r ∷ z) (made-append es fs)
made-append (Divide d p r ∷ es) fs = ap (λ z. r ∷ z) (made-append es fs)
made-append (AddTerm node ∷ es) fs = made-append es fs
made-append (AddFact rule sign n from ∷ es) fs = made-append es fs
made-append (Linear p forward r ∷ es) fs = made-append es fs
made-append (SplitOn n ∷ es) fs = made-append es fs
made-append (Cut ∷ es) fs = made-append es fs
made-append (CloseAt p ∷ es) fs = made-append es fs
made-append (Clash p q ∷ es) fs = made-append es fs

of_rows_push : (es : List Entry) (e : Entry) → AreOfRows es → AreOfRows (e ∷ []) → AreOfRows (es ++ e ∷ [])
of_rows_push [] e h k = k
of_rows_push (Combine m p n q r ∷ es) e h k = of_rows_push es e h k
of_rows_push (Divide d p r ∷ es) e h k = of_rows_push es e h k
of_rows_push (AddTerm node ∷ es) e h k = absurd h
of_rows_push (AddFact rule sign n from ∷ es) e h k = absurd h
of_rows_push (Linear p forward r ∷ es) e h k = absurd h
of_rows_push (SplitOn n ∷ es) e h k = absurd h
of_rows_push (Cut ∷ es) e h k = absurd h
of_rows_push (CloseAt p ∷ es) e h k = absurd h
of_rows_push (Clash p q ∷ es) e h k = absurd h

pub force_push : (rows : List Row) (es : List Entry) (e : Entry) (t : Row) → Adds e t → in_force rows (es ++ e ∷ []) ≡ in_force rows es ++ t ∷ []
force_push rows es e t a = ap (λ z. rows ++ z) (made-append es (e ∷ []) ∙ ap (λ z. made es ++ z) a.made) ∙ sym (append_assoc rows (made es) (t ∷ []))

but_last_push : (es : List Entry) (e : Entry) → but_last (es ++ e ∷ []) ≡ es
but_last_push [] e = refl
but_last_push (x ∷ []) e = refl
but_last_push (x ∷ y ∷ es) e = ap (λ z. x ∷ z) (but_last_push (y ∷ es) e)

pub cost_push : (es : List Entry) (e : Entry) → cost_of_log (es ++ e ∷ []) ≡ cost_of_log es + cost_of e
cost_push [] e = omega arith
cost_push (x ∷ es) e = let h = cost_push es e in omega (arith, h)

-- ---- what the entries leave in force

abbrev open_with : List Term → List Item → State
open_with ts is = record { terms = ts; items = is; splits = []; closed = false }

one_more : (ts : List Term) (rows : List Row) (t : Row) → with_item (Bound t) (holding ts rows) ≡ holding ts (rows ++ t ∷ [])
one_more ts rows t = ap (open_with ts) (sym (map-append Bound rows (t ∷ [])))

after_rows : (ts : List Term) (es : List Entry) (rows : List Row) → AreOfRows es → after_all (holding ts rows) es ≡ holding ts (rows ++ made es)
after_rows ts [] rows h = ap (holding ts) (sym (append-nil rows))
after_rows ts (Combine m p n q r ∷ es) rows h =
    ap (λ s. after_all s es) (one_more ts rows r) ∙ (after_rows ts es (rows ++ r ∷ []) h ∙ ap (holding ts) (append_assoc rows (r ∷ []) (made es)))
after_rows ts (Divide d p r ∷ es) rows h =
    ap (λ s. after_all s es) (one_more ts rows r) ∙ (after_rows ts es (rows ++ r ∷ []) h ∙ ap (holding ts) (append_assoc rows (r ∷ []) (made es)))
after_rows ts (AddTerm node ∷ es) rows h = absurd h
after_rows ts (AddFact rule sign n from ∷ es) rows h = absurd h
after_rows ts (Linear p forward r ∷ es) rows h = absurd h
after_rows ts (SplitOn n ∷ es) rows h = absurd h
after_rows ts (Cut ∷ es) rows h = absurd h
after_rows ts (CloseAt p ∷ es) rows h = absurd h
after_rows ts (Clash p q ∷ es) rows h = absurd h

accepted_push : (s : State) (es : List Entry) (e : Entry) → IsAccepted s es → IsAllowed (after_all s es) e → IsAccepted s (es ++ e ∷ [])
accepted_push s [] e h a = (a, tt)
accepted_push s (x ∷ es) e h a = (h.0, accepted_push (after s x) es e h.1 a)

-- ---- an entry on rows is allowed

get_bound : (rows : List Row) (i : ℕ) (r : Row) → slice_get rows i ≡ Some r → slice_get (map Bound rows) i ≡ Some (Bound r)
get_bound [] i r e = cc e
get_bound (x ∷ rows) zero r e = ap Some (ap Bound (cc e))
get_bound (x ∷ rows) (suc i) r e = get_bound rows i r e

from_bound : (rows : List Row) (r : Row) → Contains (map Bound rows) (Bound r) → Contains rows r
from_bound rows r c = (c.0, let l = length-map rows Bound in let h = c.1 in omega (arith, l, h), at rows c.0 c.1 c.2)
  where
    at : (rows : List Row) (k : ℕ) → k < length (map Bound rows) → slice_index_or (map Bound rows) k (Bound r) ≡ Bound r → slice_index_or rows k r ≡ r
    at [] k h e = refl
    at (x ∷ xs) zero h e = cc e
    at (x ∷ xs) (suc k) h e = at xs k (omega (arith, h)) e

one_all : (n p : ℕ) → p < n → All (λ i. i < n) (p ∷ [])
one_all n p a zero d l = a
one_all n p a (suc k) d l = absurd (omega (arith, l))

two_all : (n p q : ℕ) → p < n → q < n → All (λ i. i < n) (p ∷ q ∷ [])
two_all n p q a b zero d l = a
two_all n p q a b (suc zero) d l = b
two_all n p q a b (suc (suc k)) d l = absurd (omega (arith, l))

within_bound : (rows : List Row) (i : ℕ) (r : Row) → slice_get rows i ≡ Some r → i < length (map Bound rows)
within_bound rows i r e = let h = slice_get_within rows i r e in let l = length-map rows Bound in omega (arith, h, l)

pub allowed : (ts : List Term) (rows : List Row) (e : Entry) (t : Row) → Adds e t → IsStep rows e → EachColumn (λ x. x < length ts) t.parts → IsAllowed (holding ts rows) e
allowed ts rows (Combine m p n q u) t a h b =
    let all : All (λ x. x < length ts) (columns u.parts) = subst (λ cs. All (λ x. x < length ts) cs) (sym a.columns) (all_columns (λ x. x < length ts) t.parts b) in record {
      timely = refl;
      terms = all;
      items = two_all (length (map Bound rows)) p q (within_bound rows p h.1 h.3) (within_bound rows q h.2 h.4);
      fitting = tt;
      new = λ c. h.0 (from_bound rows u c);
      given = tt;
      stated = (h.1, h.2, get_bound rows p h.1 h.3, get_bound rows q h.2 h.4, h.5);
      branching = tt;
    }
allowed ts rows (Divide d p u) t a h b =
    let all : All (λ x. x < length ts) (columns u.parts) = subst (λ cs. All (λ x. x < length ts) cs) (sym a.columns) (all_columns (λ x. x < length ts) t.parts b) in record {
      timely = refl;
      terms = all;
      items = one_all (length (map Bound rows)) p (within_bound rows p h.1 h.2);
      fitting = tt;
      new = λ c. h.0 (from_bound rows u c);
      given = tt;
      stated = (h.1, get_bound rows p h.1 h.2, h.3);
      branching = tt;
    }
allowed ts rows (AddTerm node) t a h b = absurd h
allowed ts rows (AddFact rule sign n from) t a h b = absurd h
allowed ts rows (Linear p forward r) t a h b = absurd h
allowed ts rows (SplitOn n) t a h b = absurd h
allowed ts rows Cut t a h b = absurd h
allowed ts rows (CloseAt p) t a h b = absurd h
allowed ts rows (Clash p q) t a h b = absurd h

-- ---- one more entry

column_below : (n : ℕ) (rows : List Row) (x : ℕ) → HaveColumns n rows → IsColumnOf rows x → x < n
column_below n rows x h c = go c.0.parts (h c.0 c.1) c.2.0 c.2.1 c.2.2
  where
    go : (ps : List Monomial) → AreBelow n ps → (k : ℕ) → k < length (columns ps) → slice_index_or (columns ps) k x ≡ x → x < n
    go [] b k l e = absurd (omega (arith, l))
    go (p ∷ ps) b zero l e = subst (λ y. y < n) e b.0
    go (p ∷ ps) b (suc k) l e = go ps b.1 k (omega (arith, l)) e

module _ (rows : List Row) (limit : ℕ) (es : List Entry) (w : IsUnderWay rows limit es) (e : Entry) (t : Row) (a : Adds e t) (s : IsStep (in_force rows es) e) where
  new_row : IsNormalRow t × EachColumn (IsColumnOf rows) t.parts
  new_row = go e a s
    where
      same : (u : Row) → made (Combine (pos 0) 0 (pos 0) 0 u ∷ []) ≡ t ∷ [] → u ≡ t
      same u d = cc d

      go : (e : Entry) → Adds e t → IsStep (in_force rows es) e → IsNormalRow t × EachColumn (IsColumnOf rows) t.parts
      go (Combine m p n q u) a h =
          let r = contains_get (in_force rows es) p h.1 h.3 in
          let s = contains_get (in_force rows es) q h.2 h.4 in
          subst (λ (v : Row). IsNormalRow v × EachColumn (IsColumnOf rows) v.parts) (same u a.made)
          (combined_normal m n h.1 h.2 u h.5 (w.normal h.2 s), each_combined (IsColumnOf rows) m n h.1 h.2 u h.5 (w.within h.1 r) (w.within h.2 s))
      go (Divide d p u) a h =
          let r = contains_get (in_force rows es) p h.1 h.2 in
          subst (λ (v : Row). IsNormalRow v × EachColumn (IsColumnOf rows) v.parts) (same u a.made)
          (divided_normal d h.1 u h.3 (w.normal h.1 r), each_divided (IsColumnOf rows) d h.1 u h.3 (w.within h.1 r))
      go (AddTerm node) a h = absurd h
      go (AddFact rule sign n from) a h = absurd h
      go (Linear p forward r) a h = absurd h
      go (SplitOn n) a h = absurd h
      go Cut a h = absurd h
      go (CloseAt p) a h = absurd h
      go (Clash p q) a h = absurd h

  made_absurd : HaveNoAbsurd (made es)
  made_absurd r c = w.none r (Contains-append_right rows (made es) r c)

  entries : AreEntriesOn rows (es ++ e ∷ [])
  entries = record {
    of_rows = of_rows_push es e w.entries.of_rows a.of_rows;
    accepted = λ ts h. accepted_push (holding ts rows) es e (w.entries.accepted ts h)
        (subst (λ s. IsAllowed s e) (sym (after_rows ts es rows w.entries.of_rows))
        (allowed ts (in_force rows es) e t a s (each_weaker (IsColumnOf rows) (λ x. x < length ts) (λ x c. column_below (length ts) rows x h c) t.parts new_row.1)));
    no_absurd = subst (λ fs. HaveNoAbsurd (made fs)) (sym (but_last_push es e)) made_absurd;
  }

  pub contradicts : IsAbsurd (Bound t) → IsContradiction rows (es ++ e ∷ [])
  contradicts b = record {
    entries = entries;
    row = t;
    absurd = b;
    place = inr (made es, made-append es (e ∷ []) ∙ ap (λ z. made es ++ z) a.made);
  }

  pub spends : limit ≤ cost_of_log es + cost_of e → IsSpent rows limit (es ++ e ∷ [])
  spends h = record {
    entries = entries;
    reached = let c = cost_push es e in omega (arith, h, c);
    before = subst (λ fs. cost_of_log fs < limit) (sym (but_last_push es e)) w.cheap;
    given = λ r c. w.none r (Contains-append_left rows (made es) r c);
  }

  each_new : (P : Row → Type 0) → ((r : Row) → Contains (in_force rows es) r → P r) → P t → (r : Row) → Contains (in_force rows (es ++ e ∷ [])) r → P r
  each_new P h k r c = elim (Contains-push_cases (in_force rows es) t r (subst (λ rs. Contains rs r) (force_push rows es e t a) c)) [
    | inl i ↦ h r i
    | inr d ↦ subst P d k
  ]

  pub goes_on : (IsAbsurd (Bound t) → ⊥) → cost_of_log es + cost_of e < limit → IsUnderWay rows limit (es ++ e ∷ [])
  goes_on b h = record {
    few = w.few;
    small = w.small;
    entries = entries;
    none = each_new (λ r. IsAbsurd (Bound r) → ⊥) w.none b;
    cheap = let c = cost_push es e in omega (arith, h, c);
    normal = each_new IsNormalRow w.normal new_row.0;
    within = each_new (λ r. EachColumn (IsColumnOf rows) r.parts) w.within new_row.1;
  }
