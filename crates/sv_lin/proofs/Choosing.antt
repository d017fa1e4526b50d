-- The tightest bound of a side, and the places of the columns, one more at a time.
use Rattle.std.proofs.Common.{ℕ, zero, suc, ◌+◌, ◌<◌, ◌⊎◌, inl, inr, List, [], ◌∷◌, ◌++◌, map, length, take, drop, get_or, ◌≡◌, refl, sym, ap, ◌∙◌, subst, arith}
use Rattle.std.proofs.lemmas.List.{map-append}
use Rattle.std.proofs.lemmas.List.Elements.{Contains-append_cases}
use Rattle.std.proofs.lemmas.Int.{ints}
use Rattle.std.specs.List.{Contains}
use Rattle.std.specs.Prelude.{Option, None, Some, slice_get, slice_index_or, MatchOption, Result, Ok, Err, MatchResult}
use lib.IntN.{ℤ, pos, ◌*ℤ◌}
use lib.Signed.{◌≤ℤ◌, ◌<ℤ◌}
use Rattle.sv_log.specs.LogEntries.{Row}
use Rattle.sv_log.specs.LogRows.{monomial}
use Rattle.sv_fraction.specs.Fractions.{Ratio, IsReduced}
use Rattle.sv_point.specs.NearestPoints.{IsRowOf, IsAtMost, IsNearestAt}
use Rattle.sv_point.specs.PointLaws.{ArePositive, IsBoundOf}
use Rattle.sv_lin.specs.Eliminations.{Placed, value_in, AreNormal, HaveNoAbsurd}
use Rattle.sv_lin.specs.Completeness.{AreComplete}
use Rattle.sv_lin.specs.declared.place.Place.{Place}
use Rattle.sv_lin.specs.declared.point.Limit.{Limit}
use Rattle.sv_lin.specs.declared.point.Limit.TheVariants as l
use Rattle.sv_lin.specs.declared.point.Side.{Side}
use Rattle.sv_lin.specs.declared.point.Side.TheVariants as s
use Rattle.sv_lin.specs.UnderWay.{EachColumn, RiseFrom, AreSides}
use Rattle.sv_lin.specs.Placing.{placed, point_of, ExceedsAt, IsAt, HasBound, Keeps, Tightens, IsTightest, IsWithin, Chooses, IsFractionAt, DoesExceed, ArePlaced, StopsAt, AreOfColumns}
use Rattle.sv_lin.proofs.Answering.{below_split}
use Rattle.sv_lin.proofs.ByHand.{zero_reduced}
use Rattle.sv_lin.proofs.NewRows.{each_last}
use Rattle.sv_lin.proofs.Gathering.{same_some, take_more, rises_behind}
use Rattle.sv_lin.proofs.NearPoints.{at_most_through, agree_nearest, nearest_here, chosen_reduced, placed_other, placed_own}

-- ---- a side

at_most_self : (f : Ratio) → IsAtMost f f
at_most_self f = go (f.top *ℤ f.under)
  where
    go : (z : ℤ) → z ≤ℤ z
    go z = omega (arith, ints)

keeps_self : (side : Side) (g : Ratio) → Keeps side g g
keeps_self s.Upper g = at_most_self g
keeps_self s.Lower g = at_most_self g

keeps_through : (side : Side) (g f h : Ratio) → pos 0 <ℤ g.under → pos 0 <ℤ f.under → pos 0 <ℤ h.under → Keeps side g f → Keeps side f h → Keeps side g h
keeps_through s.Upper g f h p q r a b = at_most_through g f h p q r a b
keeps_through s.Lower g f h p q r a b = at_most_through h f g r q p b a

bound_positive : (rows : List Row) (at : ℕ → Ratio) (x p : ℕ) (g : Ratio) → HasBound rows at x p g → pos 0 <ℤ g.under
bound_positive rows at x p g h = h.3.bound.reduced.positive

still : (xs : List ℕ) (i p : ℕ) → Contains (take i xs) p → Contains (take (i + 1) xs) p
still [] zero p c = absurd (let l = c.1 in omega (arith, l))
still [] (suc i) p c = absurd (let l = c.1 in omega (arith, l))
still (x ∷ xs) zero p c = absurd (let l = c.1 in omega (arith, l))
still (x ∷ xs) (suc i) p c = subst (λ n. Contains (take n (x ∷ xs)) p) (shifted i) (go c.0 c.1 c.2 (still xs i p))
  where
    shifted : (i : ℕ) → suc (i + 1) ≡ suc i + 1
    shifted i = omega arith

    go : (k : ℕ) → k < length (x ∷ take i xs) → slice_index_or (x ∷ take i xs) k p ≡ p → (Contains (take i xs) p → Contains (take (i + 1) xs) p) → Contains (x ∷ take (i + 1) xs) p
    go zero l e f = (0, omega arith, e)
    go (suc k) l e f = let d = f (k, omega (arith, l), e) in (suc d.0, let m = d.1 in omega (arith, m), d.2)

newest : (xs : List ℕ) (i q : ℕ) → i < length xs → q ≡ get_or xs i q → Contains (take (i + 1) xs) q
newest [] i q l e = absurd (omega (arith, l))
newest (x ∷ xs) zero q l e = (0, omega arith, sym e)
newest (x ∷ xs) (suc i) q l e = subst (λ n. Contains (take n (x ∷ xs)) q) (shifted i) (let d = newest xs i q (omega (arith, l)) e in (suc d.0, let m = d.1 in omega (arith, m), d.2))
  where
    shifted : (i : ℕ) → suc (i + 1) ≡ suc i + 1
    shifted i = omega arith

module _ (rows : List Row) (at : ℕ → Ratio) (x : ℕ) (side : Side) (numbers : List ℕ) (i q : ℕ) (inside : i < length numbers) (is : q ≡ get_or numbers i q) (g : Ratio) (b : HasBound rows at x q g) where
  pub tighter_now : (old new : Limit) → IsWithin old → IsTightest rows at x side (take i numbers) old → Tightens side old g new → IsTightest rows at x side (take (i + 1) numbers) new
  tighter_now l.Unlimited new w t e = subst (IsTightest rows at x side (take (i + 1) numbers)) (sym e) (
    (q, newest numbers i q inside is, b),
    λ p c. elim (take_more numbers i q p inside is c) [ inl d ↦ absurd (t p d) | inr d ↦ subst (λ n. (h : Ratio) × HasBound rows at x n h × Keeps side g h) d (g, b, keeps_self side g) ],
  )
  tighter_now (l.Exceeds n) new w t e = absurd (w n refl)
  tighter_now (l.At f) new w t (inl e) = subst (IsTightest rows at x side (take (i + 1) numbers)) (sym e.0) (
    (t.0.0, still numbers i t.0.0 t.0.1, t.0.2),
    λ p c. elim (take_more numbers i q p inside is c) [ inl d ↦ t.1 p d | inr d ↦ subst (λ n. (h : Ratio) × HasBound rows at x n h × Keeps side f h) d (g, b, e.1) ],
  )
  tighter_now (l.At f) new w t (inr e) = subst (IsTightest rows at x side (take (i + 1) numbers)) (sym e.0) (
    (q, newest numbers i q inside is, b),
    λ p c. elim (take_more numbers i q p inside is c) [
      | inl d ↦ let h = t.1 p d in (h.0, h.1, keeps_through side g f h.0 (bound_positive rows at x q g b) (bound_positive rows at x t.0.0 f t.0.2) (bound_positive rows at x p h.0 h.1) e.1 h.2)
      | inr d ↦ subst (λ n. (h : Ratio) × HasBound rows at x n h × Keeps side g h) d (g, b, keeps_self side g)
    ],
  )

pub within_now : (side : Side) (old new : Limit) (g : Ratio) → Tightens side old g new → IsWithin new
within_now side l.Unlimited new g e i d = let f : l.At g ≡ l.Exceeds i = sym e ∙ d in cc f
within_now side (l.Exceeds n) new g e i d = let f : l.At g ≡ l.Exceeds i = sym e ∙ d in cc f
within_now side (l.At h) new g (inl e) i d = let f : l.At h ≡ l.Exceeds i = sym e.0 ∙ d in cc f
within_now side (l.At h) new g (inr e) i d = let f : l.At g ≡ l.Exceeds i = sym e.0 ∙ d in cc f

pub nothing_yet : (rows : List Row) (at : ℕ → Ratio) (x : ℕ) (side : Side) (numbers : List ℕ) → IsTightest rows at x side (take 0 numbers) l.Unlimited
nothing_yet rows at x side [] p c = let l = c.1 in omega (arith, l)
nothing_yet rows at x side (n ∷ numbers) p c = let l = c.1 in omega (arith, l)

-- the bound of the row of that number
pub number_bound : (rows : List Row) (at : ℕ → Ratio) (x n : ℕ) (r : Row) (o : Option Ratio) (g : Ratio) → slice_get rows n ≡ Some r → o ≡ Some g
    → ((y : ℕ) (k : ℤ) → IsRowOf y k r → MatchOption o (ExceedsAt at y r) (λ h. IsBoundOf at y k r h)) → IsAt rows x n → HasBound rows at x n g
number_bound rows at x n r o g e f b a =
    let d = same_some a.1 r (slice_get rows n) a.2 e in
    (a.0, r, e, subst (λ p. MatchOption p (ExceedsAt at x r) (λ h. IsBoundOf at x a.0 r h)) f (b x a.0 (subst (IsRowOf x a.0) d a.3)))

pub number_exceeds : (rows : List Row) (at : ℕ → Ratio) (x n : ℕ) (r : Row) (o : Option Ratio) → slice_get rows n ≡ Some r → o ≡ None
    → ((y : ℕ) (k : ℤ) → IsRowOf y k r → MatchOption o (ExceedsAt at y r) (λ h. IsBoundOf at y k r h)) → IsAt rows x n → (s : Row) × (slice_get rows n ≡ Some s) × ExceedsAt at x s
number_exceeds rows at x n r o e f b a =
    let d = same_some a.1 r (slice_get rows n) a.2 e in
    (r, e, subst (λ p. MatchOption p (ExceedsAt at x r) (λ h. IsBoundOf at x a.0 r h)) f (b x a.0 (subst (IsRowOf x a.0) d a.3)))

-- ---- one more column

equal_or : (y x : ℕ) → (y ≡ x) ⊎ (y ≡ x → ⊥)
equal_or zero zero = inl refl
equal_or zero (suc x) = inr (λ e. absurd (omega (arith, e)))
equal_or (suc y) zero = inr (λ e. absurd (omega (arith, e)))
equal_or (suc y) (suc x) = elim (equal_or y x) [ inl e ↦ inl (ap suc e) | inr n ↦ inr (λ e. n (omega (arith, e))) ]

pub split_at : (xs : List ℕ) (i x : ℕ) → i < length xs → x ≡ get_or xs i x → xs ≡ take i xs ++ x ∷ drop (i + 1) xs
split_at [] i x l e = absurd (omega (arith, l))
split_at (y ∷ xs) zero x l e = ap (λ z. z ∷ xs) (sym e)
split_at (y ∷ xs) (suc i) x l e = ap (λ z. y ∷ z) (split_at xs i x (omega (arith, l)) e) ∙ ap (λ n. y ∷ take i xs ++ x ∷ drop n (y ∷ xs)) (shifted i)
  where
    shifted : (i : ℕ) → suc (i + 1) ≡ suc i + 1
    shifted i = omega arith

pub take_one_more : (xs : List ℕ) (i x : ℕ) → i < length xs → x ≡ get_or xs i x → take (i + 1) xs ≡ take i xs ++ x ∷ []
take_one_more [] i x l e = absurd (omega (arith, l))
take_one_more (y ∷ xs) zero x l e = ap (λ z. z ∷ []) (sym e)
take_one_more (y ∷ xs) (suc i) x l e = ap (λ n. take n (y ∷ xs)) (shifted i) ∙ ap (λ z. y ∷ z) (take_one_more xs i x (omega (arith, l)) e)
  where
    shifted : (i : ℕ) → suc i + 1 ≡ suc (i + 1)
    shifted i = omega arith

pub nothing_placed : (rows : List Row) (cs : List ℕ) → ArePlaced rows (take 0 cs) []
nothing_placed rows cs = record {
  columns = none cs;
  reduced = λ x. zero_reduced;
  nearest = λ x c. absurd (let l = c.1 in let d = ap length (none cs) in omega (arith, l, d));
}
  where
    none : (cs : List ℕ) → [] ≡ take 0 cs
    none [] = refl
    none (c ∷ cs) = refl

module _ (rows : List Row) (normal : AreNormal rows) (none : HaveNoAbsurd rows) (complete : AreComplete rows) (cs : List ℕ) (rising : RiseFrom 0 cs) (within : AreOfColumns rows cs)
    (i x : ℕ) (inside : i < length cs) (is : x ≡ get_or cs i x) (ps : List Place) (p : ArePlaced rows (take i cs) ps) where
  split : cs ≡ take i cs ++ x ∷ drop (i + 1) cs
  split = split_at cs i x inside is

  behind : (y : ℕ) → y < x → (k : ℕ) → k < length (x ∷ drop (i + 1) cs) → slice_index_or (x ∷ drop (i + 1) cs) k y ≡ y → ⊥
  behind y l zero m e = omega (arith, l, e)
  behind y l (suc k) m e = let a = rises_behind 0 (take i cs) (drop (i + 1) cs) x y (subst (RiseFrom 0) split rising) (k, omega (arith, m), e) in omega (arith, a, l)

  before_x : (y : ℕ) → y < x → Contains cs y → Contains (take i cs) y
  before_x y l h = elim (Contains-append_cases (take i cs) (x ∷ drop (i + 1) cs) y (subst (λ z. Contains z y) split h)) [
    | inl a ↦ a
    | inr b ↦ absurd (behind y l b.0 b.1 b.2)
  ]

  near : (y : ℕ) (k : ℤ) (t : Row) → y < x → Contains rows t → IsRowOf y k t → IsNearestAt rows (point_of ps) y
  near y k t l c r = p.nearest y (before_x y l (each_last (Contains cs) r.lows (monomial k y) (subst (EachColumn (Contains cs)) r.is (within t c))))

  below_x : (y : ℕ) → Contains (take i cs) y → y < x
  below_x y c = below_split 0 (take i cs) (drop (i + 1) cs) x y (subst (RiseFrom 0) split rising) c

  positive : ArePositive (point_of ps)
  positive y = (p.reduced y).positive

  pub stops_here : (n : ℕ) → DoesExceed rows (point_of ps) x n → StopsAt rows cs n ps
  stops_here n d = record { before = take i cs; x = x; after = drop (i + 1) cs; split = split; placed = p; row = d.0; is = d.1; exceeds = d.2 }

  module _ (f : Ratio) (a : IsFractionAt rows (point_of ps) x f) (new : List Place) (more : map placed new ≡ map placed ps ++ record { column = x; value = f } ∷ []) where
    other : (y : ℕ) → (y ≡ x → ⊥) → point_of ps y ≡ point_of new y
    other y n = sym (ap (λ qs. value_in qs y) more ∙ placed_other (map placed ps) (record { column = x; value = f }) y n)

    own : point_of new x ≡ f
    own = ap (λ qs. value_in qs x) more ∙ placed_own (map placed ps) (record { column = x; value = f }) x refl (λ c. let l = below_x x (subst (λ z. Contains z x) p.columns c) in omega (arith, l))

    f_reduced : IsReduced f
    f_reduced = chosen_reduced rows (point_of ps) x normal none complete positive near a.uppers a.lowers a.sides a.upper a.lower a.tight_upper a.tight_lower a.within f a.chooses

    agree : (y : ℕ) → y < x → point_of ps y ≡ point_of new y
    agree y l = other y (λ e. absurd (omega (arith, l, e)))

    reduced_new : (y : ℕ) → IsReduced (point_of new y)
    reduced_new y = elim (equal_or y x) [ inl e ↦ subst IsReduced (sym (ap (point_of new) e ∙ own)) f_reduced | inr n ↦ subst IsReduced (other y n) (p.reduced y) ]

    nearest_x : IsNearestAt rows (point_of new) x
    nearest_x = nearest_here rows (point_of ps) x normal none complete positive near a.uppers a.lowers a.sides a.upper a.lower a.tight_upper a.tight_lower a.within f a.chooses (point_of new) agree own (λ y. (reduced_new y).positive)

    pub one_more_place : ArePlaced rows (take (i + 1) cs) new
    one_more_place = record {
      columns = ap (map (λ (q : Placed). q.column)) more ∙ (map-append (λ (q : Placed). q.column) (map placed ps) (record { column = x; value = f } ∷ [])
          ∙ (ap (λ z. z ++ x ∷ []) p.columns ∙ sym (take_one_more cs i x inside is)));
      reduced = reduced_new;
      nearest = λ y c. elim (take_more cs i x y inside is c) [
        | inl d ↦ let l = below_x y d in agree_nearest rows (point_of ps) (point_of new) y (λ z h. agree z (omega (arith, h, l))) (agree y l) (p.nearest y d)
        | inr d ↦ subst (IsNearestAt rows (point_of new)) d nearest_x
      ];
    }

-- what is found between the bounds of the two sides
pub fraction_found : (rows : List Row) (at : ℕ → Ratio) (x : ℕ) (us ls us' ls' : List ℕ) (upper lower : Limit) (found : Result Ratio ℕ) → us' ≡ us → ls' ≡ ls → AreSides rows x (length rows) us ls
    → IsTightest rows at x s.Upper us' upper → IsTightest rows at x s.Lower ls' lower
    → MatchResult found (λ f. Chooses lower upper f × IsWithin lower × IsWithin upper) (λ n. (lower ≡ l.Exceeds n) ⊎ (upper ≡ l.Exceeds n))
    → MatchResult found (λ f. IsFractionAt rows at x f) (λ n. DoesExceed rows at x n)
fraction_found rows at x us ls us' ls' upper lower (Ok f) e g sides t u m = record {
  uppers = us;
  lowers = ls;
  upper = upper;
  lower = lower;
  sides = sides;
  tight_upper = subst (λ z. IsTightest rows at x s.Upper z upper) e t;
  tight_lower = subst (λ z. IsTightest rows at x s.Lower z lower) g u;
  within = (m.2, m.1);
  chooses = m.0;
}
fraction_found rows at x us ls us' ls' upper lower (Err n) e g sides t u (inl d) = let h = subst (IsTightest rows at x s.Lower ls') d u in (h.1, h.2, h.3)
fraction_found rows at x us ls us' ls' upper lower (Err n) e g sides t u (inr d) = let h = subst (IsTightest rows at x s.Upper us') d t in (h.1, h.2, h.3)

pub at_ok : {A B : Type 0} (r : Result A B) (P : A → Type 0) (Q : B → Type 0) (a : A) → r ≡ Ok a → MatchResult r P Q → P a
at_ok r P Q a e m = subst (λ z. MatchResult z P Q) e m

pub at_err : {A B : Type 0} (r : Result A B) (P : A → Type 0) (Q : B → Type 0) (b : B) → r ≡ Err b → MatchResult r P Q → Q b
at_err r P Q b e m = subst (λ z. MatchResult z P Q) e m
