-- What steps add up to: rows that grow below a column, pairs that were combined, columns that are complete.
use Rattle.std.proofs.Common.{ℕ, zero, suc, ◌+◌, ◌<◌, ◌≤◌, ◌⊎◌, inl, inr, List, [], ◌∷◌, ◌++◌, length, take, get_or, ◌≡◌, refl, sym, ap, ap₂, ◌∙◌, subst, arith, append_assoc}
use Rattle.std.proofs.lemmas.List.{append-nil}
use Rattle.std.proofs.lemmas.Int.{ints}
use Rattle.std.proofs.lemmas.List.Elements.{Contains-push, Contains-push_cases, Contains-append_left, Contains-append_cases}
use Rattle.std.specs.List.{Contains}
use Rattle.std.proofs.lemmas.Option.{slice_get_within}
use Rattle.std.specs.Prelude.{Option, None, Some, slice_get, slice_index_or, Result, Ok, Err, IfOk, MatchOption}
use lib.IntN.{ℤ, pos, negsuc, ◌*ℤ◌, ◌+ℤ◌}
use lib.Signed.{◌≤ℤ◌, ◌<ℤ◌}
use Rattle.sv_log.specs.LogEntries.{Monomial, Row, Entry}
use Rattle.sv_log.specs.LogRows.{monomial, greatest, with_parts, times_parts, IsCombined}
use Rattle.sv_point.specs.NearestPoints.{AreBelow, IsRowOf}
use Rattle.sv_point.proofs.Below.{combined_below, times_last, times_below}
use Rattle.sv_row.specs.RowParts.{AreNonZero}
use Rattle.sv_lin.specs.Eliminations.{in_force, AreNormal, IsNormalRow, IsColumnOf}
use Rattle.sv_lin.specs.Completeness.{HaveSum, AreCompleteAt, AreComplete}
use Rattle.sv_lin.specs.declared.made.Made.{Made}
use Rattle.sv_lin.specs.declared.made.Outcome.{Outcome}
use Rattle.sv_lin.specs.declared.made.Outcome.TheVariants as out
use Rattle.sv_lin.specs.UnderWay.{entry_made, row_made, EachColumn, IsUnderWay, Ends, IsStep, GrowsBelow, GrowsUnder, IsUpper, IsLower, AreSides, AddsSide, WereCombined, ArePairs, CombinesFirst, CombinesPairs, AreAllPairs, CombinesFirstOf, CombinesAll, AreColumns, RiseFrom, IsQuotient, IsSum, CanBeMade, Enters, AreLeft}
use Rattle.sv_lin.proofs.NewRows.{each_below, below_each, each_divided, each_last}
use Rattle.sv_lin.proofs.Entering.{contains_get, get_contained, get_append}
use Rattle.sv_lin.proofs.Combining.{greatest_last}

-- ---- lists

cons_cases : {A : Type 0} (y x : A) (xs : List A) → Contains (y ∷ xs) x → (y ≡ x) ⊎ Contains xs x
cons_cases y x xs c = go c.0 c.1 c.2
  where
    go : (k : ℕ) → k < length (y ∷ xs) → slice_index_or (y ∷ xs) k x ≡ x → (y ≡ x) ⊎ Contains xs x
    go zero l e = inl e
    go (suc k) l e = inr (k, omega (arith, l), e)

cons_more : {A : Type 0} (y x : A) (xs : List A) → Contains xs x → Contains (y ∷ xs) x
cons_more y x xs c = (suc c.0, let l = c.1 in omega (arith, l), c.2)

cons_first : {A : Type 0} (y x : A) (xs : List A) → y ≡ x → Contains (y ∷ xs) x
cons_first y x xs e = (0, omega arith, e)

in_none : {A : Type 0} {C : Type 0} (x : A) → Contains [] x → C
in_none x c = absurd (let l = c.1 in omega (arith, l))

whole : {A : Type 0} (xs : List A) (y : A) → Contains xs y → Contains (take (length xs) xs) y
whole [] y c = c
whole (z ∷ xs) y c = elim (cons_cases z y xs c) [ inl e ↦ cons_first z y (take (length xs) xs) e | inr d ↦ cons_more z y (take (length xs) xs) (whole xs y d) ]

-- ---- what an outcome says

pub ends_weaker : (rows : List Row) (limit : ℕ) (es : List Entry) (G H : Type 0) (o : Outcome) → (G → H) → Ends rows limit es G o → Ends rows limit es H o
ends_weaker rows limit es G H out.On f e = (e.0, f e.1)
ends_weaker rows limit es G H out.Contradiction f e = e
ends_weaker rows limit es G H out.Spent f e = e
ends_weaker rows limit es G H (out.Exceeds i j) f e = e

pub ends_other : (rows : List Row) (limit : ℕ) (es : List Entry) (G H : Type 0) (o : Outcome) → (o ≡ out.On → ⊥) → Ends rows limit es G o → Ends rows limit es H o
ends_other rows limit es G H out.On n e = absurd (n refl)
ends_other rows limit es G H out.Contradiction n e = e
ends_other rows limit es G H out.Spent n e = e
ends_other rows limit es G H (out.Exceeds i j) n e = e

pub if_ok : {A E : Type 0} (r : Result A E) (P Q : A → Type 0) → ((a : A) → P a → Q a) → IfOk r P → IfOk r Q
if_ok (Ok a) P Q f h = f a h
if_ok (Err e) P Q f h = tt

-- ---- a row that enters

pub step_from : (rows : List Row) (m : Made) → (Contains rows (row_made m) → ⊥) → CanBeMade rows m → IsStep rows (entry_made m)
step_from rows m n (inl q) = subst (IsStep rows) (sym q.1.1) (n, q.1.2, q.1.3, q.1.4)
step_from rows m n (inr s) = subst (IsStep rows) (sym s.2.2) (n, s.2.3, s.2.4, s.2.5, s.2.6, s.2.7)

pub at_on : (rows : List Row) (limit : ℕ) (es : List Entry) (G : Type 0) (o : Outcome) → o ≡ out.On → Ends rows limit es G o → IsUnderWay rows limit es × G
at_on rows limit es G o e h = subst (λ p. Ends rows limit es G p) e h

-- ---- rows that grow

pub grows_none : (x : ℕ) (rows : List Row) → GrowsBelow x rows rows
grows_none x rows = record { more = []; is = sym (append-nil rows); below = λ r c. absurd (let l = c.1 in omega (arith, l)) }

pub grows_one : (x : ℕ) (before after : List Row) (t : Row) → after ≡ before ++ t ∷ [] → AreBelow x t.parts → GrowsBelow x before after
grows_one x before after t e b = record { more = t ∷ []; is = e; below = λ r c. subst (λ (u : Row). AreBelow x u.parts) (one c.0 c.1 c.2) b }
  where
    one : {r : Row} (k : ℕ) → k < length (t ∷ []) → slice_index_or (t ∷ []) k r ≡ r → t ≡ r
    one zero l e = e
    one (suc k) l e = absurd (omega (arith, l))

pub grows_then : (x : ℕ) (a b c : List Row) → GrowsBelow x a b → GrowsBelow x b c → GrowsBelow x a c
grows_then x a b c g h = record {
  more = g.more ++ h.more;
  is = h.is ∙ (ap (λ z. z ++ h.more) g.is ∙ append_assoc a g.more h.more);
  below = λ r i. elim (Contains-append_cases g.more h.more r i) [ inl j ↦ g.below r j | inr j ↦ h.below r j ];
}

pub grown_get : (x : ℕ) (a b : List Row) → GrowsBelow x a b → (i : ℕ) (r : Row) → slice_get a i ≡ Some r → slice_get b i ≡ Some r
grown_get x a b g i r e = ap (λ z. slice_get z i) g.is ∙ get_append a g.more i r e

pub grown_contains : (x : ℕ) (a b : List Row) → GrowsBelow x a b → (r : Row) → Contains a r → Contains b r
grown_contains x a b g r c = subst (λ z. Contains z r) (sym g.is) (Contains-append_left a g.more r c)

pub grown_sum : (x : ℕ) (a b : List Row) → GrowsBelow x a b → (r s : Row) → HaveSum a r s → HaveSum b r s
grown_sum x a b g r s h = (h.0, h.1, h.2, h.3, grown_contains x a b g h.2 h.4)

pub same_some : (r s : Row) (o : Option Row) → o ≡ Some r → o ≡ Some s → r ≡ s
same_some r s o e f = cc

pub grown_combined : (x : ℕ) (a b : List Row) → GrowsBelow x a b → (p q : ℕ) → ((r : Row) × (slice_get a p ≡ Some r)) → ((s : Row) × (slice_get a q ≡ Some s)) → WereCombined a p q → WereCombined b p q
grown_combined x a b g p q h k w r s e f =
    let c = same_some h.0 r (slice_get b p) (grown_get x a b g p h.0 h.1) e in
    let d = same_some k.0 s (slice_get b q) (grown_get x a b g q k.0 k.1) f in
    subst (λ u. HaveSum b u s) c (subst (λ v. HaveSum b h.0 v) d (grown_sum x a b g h.0 k.0 (w h.0 k.0 h.1 k.1)))

pub upper_grown : (x y : ℕ) (a b : List Row) → GrowsBelow y a b → (p : ℕ) → IsUpper a x p → IsUpper b x p
upper_grown x y a b g p u = (u.0, u.1, grown_get y a b g p u.1 u.2, u.3, u.4)

pub lower_grown : (x y : ℕ) (a b : List Row) → GrowsBelow y a b → (p : ℕ) → IsLower a x p → IsLower b x p
lower_grown x y a b g p u = (u.0, u.1, grown_get y a b g p u.1 u.2, u.3, u.4)

-- ---- division

pub divides_under : (rows after : List Row) (m : Made) (p : ℕ) → IsQuotient rows p m → Enters rows (row_made m) after → GrowsUnder p rows after
divides_under rows after m p q (inl e) x r g b = subst (GrowsBelow x rows) (sym e.0) (grows_none x rows)
divides_under rows after m p q (inr e) x r g b =
    let s = same_some r q.2 (slice_get rows p) g q.3 in
    grows_one x rows after (row_made m) e
    (below_each x (row_made m).parts (each_divided (λ y. y < x) q.0 q.2 (row_made m) q.4 (each_below x q.2.parts (subst (λ (u : Row). AreBelow x u.parts) s b))))

-- ---- combination

same_monomial : (p q : Monomial) (o : Option Monomial) → o ≡ Some p → o ≡ Some q → p ≡ q
same_monomial p q o e f = cc

greatest_is : (x : ℕ) (k : ℤ) (r : Row) → IsRowOf x k r → greatest r.parts ≡ Some (monomial k x)
greatest_is x k r f = ap greatest f.is ∙ greatest_last f.lows (monomial k x)

pub cancel_at : (x : ℕ) (k l m n : ℤ) (r s t : Row) → IsRowOf x k r → IsRowOf x l s → IsCombined m r n s t → m *ℤ k +ℤ n *ℤ l ≡ pos 0
cancel_at x k l m n r s t f g c =
    let p : c.cancels.0 ≡ monomial k x = same_monomial c.cancels.0 (monomial k x) (greatest r.parts) c.cancels.2 (greatest_is x k r f) in
    let q : c.cancels.1 ≡ monomial l x = same_monomial c.cancels.1 (monomial l x) (greatest s.parts) c.cancels.3 (greatest_is x l s g) in
    subst (λ (u : Monomial). m *ℤ u.factor +ℤ n *ℤ l ≡ pos 0) p (subst (λ (v : Monomial). m *ℤ c.cancels.0.factor +ℤ n *ℤ v.factor ≡ pos 0) q c.cancels.5.zero_sum)

times_row : (m k : ℤ) (x : ℕ) (r : Row) → (f : IsRowOf x k r) → times_parts m r.parts ≡ times_parts m f.lows ++ monomial (m *ℤ k) x ∷ []
times_row m k x r f = ap (times_parts m) f.is ∙ times_last m k x f.lows

-- what two rows make lies below their greatest column
pub sum_below : (x : ℕ) (k l m n : ℤ) (r s t : Row) → IsRowOf x k r → IsRowOf x l s → IsCombined m r n s t → AreBelow x t.parts
sum_below x k l m n r s t f g c =
    subst (λ (u : Row). AreBelow x u.parts) (sym c.is)
    (subst (λ ps. AreBelow x (with_parts ps (times_parts n s.parts))) (sym (times_row m k x r f))
    (subst (λ qs. AreBelow x (with_parts (times_parts m f.lows ++ monomial (m *ℤ k) x ∷ []) qs)) (sym (times_row n l x s g))
    (combined_below x (m *ℤ k) (n *ℤ l) (times_parts m f.lows) (times_parts n g.lows) (cancel_at x k l m n r s t f g c) (times_below x m f.lows f.below) (times_below x n g.lows g.below))))

sum_row_below : (rows : List Row) (m : Made) (p q : ℕ) → IsSum rows p q m → (x : ℕ) → ArePairs rows x p (q ∷ []) → AreBelow x (row_made m).parts
sum_row_below rows m p q s x u =
    let w = u.1 q (0, omega arith, refl) in
    let a = same_some s.3 u.0.1 (slice_get rows p) s.5 u.0.2 in
    let b = same_some s.4 w.1 (slice_get rows q) s.6 w.2 in
    sum_below x u.0.0 w.0 s.0 s.1 s.3 s.4 (row_made m) (subst (IsRowOf x u.0.0) (sym a) u.0.3) (subst (IsRowOf x w.0) (sym b) w.3) s.7

-- what was entered lies below
pub sum_grows : (rows after : List Row) (m : Made) (p q : ℕ) → IsSum rows p q m → Enters rows (row_made m) after → (x : ℕ) → ArePairs rows x p (q ∷ []) → GrowsBelow x rows after
sum_grows rows after m p q s (inl e) x u = subst (GrowsBelow x rows) (sym e.0) (grows_none x rows)
sum_grows rows after m p q s (inr e) x u = grows_one x rows after (row_made m) e (sum_row_below rows m p q s x u)

pub entered_there : (rows after : List Row) (t : Row) → Enters rows t after → Contains after t
entered_there rows after t (inl e) = subst (λ z. Contains z t) (sym e.0) e.1
entered_there rows after t (inr e) = subst (λ z. Contains z t) (sym e) (Contains-push rows t)

-- the row of a sum that was entered
pub combines_after : (rows after : List Row) (m : Made) (p q : ℕ) → IsSum rows p q m → ((x : ℕ) × GrowsBelow x rows after) → Contains after (row_made m) → WereCombined after p q
combines_after rows after m p q s g c r t e f =
    let a = same_some s.3 r (slice_get after p) (grown_get g.0 rows after g.1 p s.3 s.5) e in
    let b = same_some s.4 t (slice_get after q) (grown_get g.0 rows after g.1 q s.4 s.6) f in
    subst (λ u. HaveSum after u t) a (subst (λ v. HaveSum after s.3 v) b (s.0, s.1, row_made m, s.7, c))

pub get_end : (xs : List Row) (t : Row) → slice_get (xs ++ t ∷ []) (length xs) ≡ Some t
get_end [] t = refl
get_end (x ∷ xs) t = get_end xs t

-- a sum that was added, and its quotient
pub sum_done : (rows mid after : List Row) (m : Made) (p q n : ℕ) → IsSum rows p q m → Enters rows (row_made m) mid → n ≡ length rows → n < length mid → GrowsUnder n mid after → CombinesPairs p (q ∷ []) rows after
sum_done rows mid after m p q n s (inl e) h l g x u = absurd (let k = ap length e.0 in omega (arith, h, l, k))
sum_done rows mid after m p q n s (inr e) h l g x u =
    let first = sum_grows rows mid m p q s (inr e) x u in
    let w = u.1 q (0, omega arith, refl) in
    let below = sum_row_below rows m p q s x u in
    let second = g x (row_made m) (ap₂ slice_get e h ∙ get_end rows (row_made m)) below in
    let both = grows_then x rows mid after first second in
    (both, λ r c. subst (WereCombined after p) (only r c.0 c.1 c.2) (combines_after rows after m p q s (x, both) (grown_contains x mid after second (row_made m) (entered_there rows mid (row_made m) (inr e)))))
  where
    only : (r : ℕ) (k : ℕ) → k < length (take 1 (q ∷ [])) → slice_index_or (take 1 (q ∷ [])) k r ≡ r → q ≡ r
    only r zero l e = e
    only r (suc k) l e = absurd (omega (arith, l))

-- a sum that was there
pub sum_was : (rows after : List Row) (m : Made) (p q : ℕ) → IsSum rows p q m → Enters rows (row_made m) after → CombinesPairs p (q ∷ []) rows after
sum_was rows after m p q s e x u =
    let grows = sum_grows rows after m p q s e x u in
    (grows, λ r c. subst (WereCombined after p) (only r c.0 c.1 c.2) (combines_after rows after m p q s (x, grows) (entered_there rows after (row_made m) e)))
  where
    only : (r : ℕ) (k : ℕ) → k < length (take 1 (q ∷ [])) → slice_index_or (take 1 (q ∷ [])) k r ≡ r → q ≡ r
    only r zero l e = e
    only r (suc k) l e = absurd (omega (arith, l))

-- ---- pairs

pub take_more : {A : Type 0} (xs : List A) (i : ℕ) (x y : A) → i < length xs → x ≡ get_or xs i x → Contains (take (i + 1) xs) y → Contains (take i xs) y ⊎ (x ≡ y)
take_more [] i x y l e c = absurd (omega (arith, l))
take_more (z ∷ xs) zero x y l e c = one c.0 c.1 c.2
  where
    one : (k : ℕ) → k < length (z ∷ []) → slice_index_or (z ∷ []) k y ≡ y → Contains [] y ⊎ (x ≡ y)
    one zero h d = inr (e ∙ d)
    one (suc k) h d = absurd (omega (arith, h))
take_more (z ∷ xs) (suc i) x y l e c = elim (cons_cases z y (take (i + 1) xs) (subst (λ n. Contains (take n (z ∷ xs)) y) (shifted i) c)) [
  | inl d ↦ inl (cons_first z y (take i xs) d)
  | inr d ↦ elim (take_more xs i x y (omega (arith, l)) e d) [ inl a ↦ inl (cons_more z y (take i xs) a) | inr b ↦ inr b ]
]
  where
    shifted : (i : ℕ) → suc i + 1 ≡ suc (i + 1)
    shifted i = omega arith

none_taken : {A : Type 0} (xs : List A) (y : A) {C : Type 0} → Contains (take 0 xs) y → C
none_taken [] y c = absurd (let l = c.1 in omega (arith, l))
none_taken (x ∷ xs) y c = absurd (let l = c.1 in omega (arith, l))

pub same_default : (xs : List ℕ) (i a b : ℕ) → i < length xs → get_or xs i a ≡ get_or xs i b
same_default [] i a b l = absurd (omega (arith, l))
same_default (x ∷ xs) zero a b l = refl
same_default (x ∷ xs) (suc i) a b l = same_default xs i a b (omega (arith, l))

pub contains_at : (xs : List ℕ) (i : ℕ) (x : ℕ) → i < length xs → x ≡ get_or xs i x → Contains xs x
contains_at [] i x l e = absurd (omega (arith, l))
contains_at (y ∷ xs) zero x l e = (0, omega arith, sym e)
contains_at (y ∷ xs) (suc i) x l e = let c = contains_at xs i x (omega (arith, l)) e in (suc c.0, let h = c.1 in omega (arith, h), c.2)

in_take : (xs : List ℕ) (n r : ℕ) → Contains (take n xs) r → Contains xs r
in_take [] zero r c = c
in_take [] (suc n) r c = c
in_take (y ∷ xs) zero r c = none_taken (y ∷ xs) r c
in_take (y ∷ xs) (suc n) r c = elim (cons_cases y r (take n xs) c) [ inl e ↦ cons_first y r xs e | inr d ↦ cons_more y r xs (in_take xs n r d) ]

pub no_pairs : (p : ℕ) (qs : List ℕ) (rows : List Row) → CombinesFirst 0 p qs rows rows
no_pairs p qs rows x u = (grows_none x rows, λ q c. none_taken qs q c)

-- the pairs hold of later rows too
pub pairs_now : (rows mid : List Row) (p n : ℕ) (qs : List ℕ) → CombinesFirst n p qs rows mid → (x : ℕ) → ArePairs rows x p qs → ArePairs mid x p qs
pairs_now rows mid p n qs s x u = let g = (s x u).0 in (upper_grown x x rows mid g p u.0, λ q c. lower_grown x x rows mid g q (u.1 q c))

pub one_pair : (rows : List Row) (p i q : ℕ) (qs : List ℕ) → i < length qs → q ≡ get_or qs i q → (x : ℕ) → ArePairs rows x p qs → ArePairs rows x p (q ∷ [])
one_pair rows p i q qs l e x u = (u.0, λ r c. subst (IsLower rows x) (only r c.0 c.1 c.2) (u.1 q (contains_at qs i q l e)))
  where
    only : (r k : ℕ) → k < length (q ∷ []) → slice_index_or (q ∷ []) k r ≡ r → q ≡ r
    only r zero l e = e
    only r (suc k) l e = absurd (omega (arith, l))

pub more_pairs : (rows mid after : List Row) (p i q : ℕ) (qs : List ℕ) → i < length qs → q ≡ get_or qs i q → CombinesFirst i p qs rows mid → CombinesPairs p (q ∷ []) mid after → CombinesFirst (i + 1) p qs rows after
more_pairs rows mid after p i q qs l e s t x u =
    let now = pairs_now rows mid p i qs s x u in
    let first = (s x u).0 in
    let new = t x (one_pair mid p i q qs l e x now) in (
      grows_then x rows mid after first new.0,
      λ r c. elim (take_more qs i q r l e c) [
        | inl a ↦ grown_combined x mid after new.0 p r (now.0.1, now.0.2) (let w = taken r a in (w.1, w.2)) ((s x u).1 r a)
        | inr b ↦ subst (WereCombined after p) b (new.1 q (0, omega arith, refl))
      ],
    )
  where
    taken : (r : ℕ) → Contains (take i qs) r → IsLower mid x r
    taken r c = (pairs_now rows mid p i qs s x u).1 r (in_take qs i r c)

pub no_all_pairs : (ps qs : List ℕ) (rows : List Row) → CombinesFirstOf 0 ps qs rows rows
no_all_pairs ps qs rows x u = (grows_none x rows, λ p q c d. none_taken ps p c)

pub all_pairs_now : (rows mid : List Row) (n : ℕ) (ps qs : List ℕ) → CombinesFirstOf n ps qs rows mid → (x : ℕ) → AreAllPairs rows x ps qs → AreAllPairs mid x ps qs
all_pairs_now rows mid n ps qs s x u = let g = (s x u).0 in (λ p c. upper_grown x x rows mid g p (u.0 p c), λ q c. lower_grown x x rows mid g q (u.1 q c))

pub one_of_pairs : (rows : List Row) (i p : ℕ) (ps qs : List ℕ) → i < length ps → p ≡ get_or ps i p → (x : ℕ) → AreAllPairs rows x ps qs → ArePairs rows x p qs
one_of_pairs rows i p ps qs l e x u = (u.0 p (contains_at ps i p l e), u.1)

pub more_all_pairs : (rows mid after : List Row) (i p : ℕ) (ps qs : List ℕ) → i < length ps → p ≡ get_or ps i p → CombinesFirstOf i ps qs rows mid → CombinesPairs p qs mid after → CombinesFirstOf (i + 1) ps qs rows after
more_all_pairs rows mid after i p ps qs l e s t x u =
    let now = all_pairs_now rows mid i ps qs s x u in
    let first = (s x u).0 in
    let new = t x (one_of_pairs mid i p ps qs l e x now) in (
      grows_then x rows mid after first new.0,
      λ a b c d. elim (take_more ps i p a l e c) [
        | inl h ↦ grown_combined x mid after new.0 a b (let w = now.0 a (in_take ps i a h) in (w.1, w.2)) (let w = now.1 b d in (w.1, w.2)) ((s x u).1 a b h d)
        | inr h ↦ subst (λ z. WereCombined after z b) h (new.1 b (whole qs b d))
      ],
    )

-- ---- a column

not_below : (x y : ℕ) (k : ℤ) (r : Row) → IsRowOf x k r → AreBelow y r.parts → x < y
not_below x y k r f b = each_last (λ z. z < y) f.lows (monomial k x) (each_below y (f.lows ++ monomial k x ∷ []) (subst (AreBelow y) f.is b))

-- a row of a column that isn't below was there before
was_there : (x y : ℕ) (k : ℤ) (r : Row) (a b : List Row) → y ≤ x → IsRowOf x k r → GrowsBelow y a b → Contains b r → Contains a r
was_there x y k r a b h f g c = elim (Contains-append_cases a g.more r (subst (λ z. Contains z r) g.is c)) [
  | inl i ↦ i
  | inr j ↦ let l = not_below x y k r f (g.below r j) in absurd (omega (arith, l, h))
]

pub complete_at : (rows after : List Row) (x : ℕ) (us ls : List ℕ) → AreSides rows x (length rows) us ls → CombinesAll us ls rows after → GrowsBelow x rows after × AreCompleteAt after x
complete_at rows after x us ls s c =
    let d = c x (s.uppers_are, s.lowers_are) in (
      d.0,
      λ k l r t cr ct fr ft hk hl.
          let p = get_contained rows r (was_there x x k r rows after (omega arith) fr d.0 cr) in
          let q = get_contained rows t (was_there x x l t rows after (omega arith) ft d.0 ct) in
          d.1 p.0 q.0
          (whole us p.0 (s.each_upper p.0 (slice_get_within rows p.0 r p.1) (k, r, p.1, fr, hk)))
          (s.each_lower q.0 (slice_get_within rows q.0 t q.1) (l, t, q.1, ft, hl))
          r t (grown_get x rows after d.0 p.0 r p.1) (grown_get x rows after d.0 q.0 t q.1),
    )

-- ---- the columns that are left

pub all_left : (rows : List Row) (cs : List ℕ) → AreLeft rows cs cs
all_left rows cs = record { done = []; is = sym (append-nil cs); complete = λ x c. absurd (let l = c.1 in omega (arith, l)) }

above_all : (n : ℕ) (xs : List ℕ) (y : ℕ) → RiseFrom n xs → Contains xs y → n ≤ y
above_all n [] y h c = absurd (let l = c.1 in omega (arith, l))
above_all n (x ∷ xs) y h c = elim (cons_cases x y xs c) [
  | inl e ↦ subst (λ z. n ≤ z) e h.0
  | inr d ↦ let a = above_all (x + 1) xs y h.1 d in let b = h.0 in omega (arith, a, b)
]

pub rises_behind : (n : ℕ) (xs ys : List ℕ) (x y : ℕ) → RiseFrom n (xs ++ x ∷ ys) → Contains ys y → x < y
rises_behind n [] ys x y h c = let a = above_all (x + 1) ys y h.1 c in omega (arith, a)
rises_behind n (z ∷ xs) ys x y h c = rises_behind (z + 1) xs ys x y h.1 c

complete_still : (a b : List Row) (x y : ℕ) → x < y → GrowsBelow x a b → AreCompleteAt a y → AreCompleteAt b y
complete_still a b x y h g c k l r s cr cs fr fs hk hl =
    let i : x ≤ y = omega (arith, h) in
    grown_sum x a b g r s (c k l r s (was_there y x k r a b i fr g cr) (was_there y x l s a b i fs g cs) fr fs hk hl)

pub one_less : (given rows after : List Row) (cs left rest : List ℕ) (x : ℕ) → AreColumns given cs → AreLeft rows cs left → left ≡ rest ++ x ∷ [] → GrowsBelow x rows after × AreCompleteAt after x → AreLeft after cs rest
one_less given rows after cs left rest x c l e g =
    let is : cs ≡ rest ++ x ∷ l.done = l.is ∙ (ap (λ z. z ++ l.done) e ∙ append_assoc rest (x ∷ []) l.done) in record {
      done = x ∷ l.done;
      is = is;
      complete = λ y d. go y is d.0 d.1 d.2;
    }
  where
    go : (y : ℕ) → cs ≡ rest ++ x ∷ l.done → (k : ℕ) → k < length (x ∷ l.done) → slice_index_or (x ∷ l.done) k y ≡ y → AreCompleteAt after y
    go y is zero h d = subst (AreCompleteAt after) d g.1
    go y is (suc k) h d =
        let i : Contains l.done y = (k, omega (arith, h), d) in
        complete_still rows after x y (rises_behind 0 rest l.done x y (subst (RiseFrom 0) is c.rising) i) g.0 (l.complete y i)

pub no_items : (xs : List ℕ) → length xs ≡ 0 → xs ≡ []
no_items [] e = refl
no_items (x ∷ xs) e = absurd (omega (arith, e))

pub none_left_over : (given : List Row) (limit : ℕ) (es : List Entry) (cs left : List ℕ) → IsUnderWay given limit es → AreColumns given cs → AreLeft (in_force given es) cs left → left ≡ [] → AreComplete (in_force given es)
none_left_over given limit es cs left w c l e x k m r s cr ct fr ft hk hm =
    let col = each_last (IsColumnOf given) fr.lows (monomial k x) (subst (EachColumn (IsColumnOf given)) fr.is (w.within r cr)) in
    l.complete x (subst (λ z. Contains z x) (l.is ∙ ap (λ z. z ++ l.done) e) ((c.each x).1 col)) k m r s cr ct fr ft hk hm

-- ---- sides

pub no_sides : (rows : List Row) (x : ℕ) → AreSides rows x 0 [] []
no_sides rows x = record {
  uppers_are = λ p c. absurd (let l = c.1 in omega (arith, l));
  lowers_are = λ p c. absurd (let l = c.1 in omega (arith, l));
  each_upper = λ p l. absurd (omega (arith, l));
  each_lower = λ p l. absurd (omega (arith, l));
}

pub before_or_last : (n i : ℕ) → i < n + 1 → (i < n) ⊎ (n ≡ i)
before_or_last zero zero h = inr refl
before_or_last zero (suc i) h = absurd (omega (arith, h))
before_or_last (suc n) zero h = inl (omega arith)
before_or_last (suc n) (suc i) h = elim (before_or_last n i (omega (arith, h))) [ inl a ↦ inl (omega (arith, a)) | inr b ↦ inr (ap suc b) ]

pub not_zero_at : (x : ℕ) (k : ℤ) (r : Row) → IsRowOf x k r → IsNormalRow r → k ≡ pos 0 → ⊥
not_zero_at x k r f h e = last f.lows (subst AreNonZero f.is h.non_zero)
  where
    last : (lows : List Monomial) → AreNonZero (lows ++ monomial k x ∷ []) → ⊥
    last [] n = n.0 e
    last (p ∷ lows) n = last lows n.1

pub same_factor : (x : ℕ) (k l : ℤ) (r s : Row) → r ≡ s → IsRowOf x k r → IsRowOf x l s → k ≡ l
same_factor x k l r s e f g =
    let a = greatest_is x k r f in
    let b = greatest_is x l s g in
    ap (λ (p : Monomial). p.factor) (same_monomial (monomial k x) (monomial l x) (greatest r.parts) a (ap (λ (u : Row). greatest u.parts) e ∙ b))

module _ (rows : List Row) (normal : AreNormal rows) (x n : ℕ) (r : Row) (at : slice_get rows n ≡ Some r) where
  pub one_more_side : (us ls us' ls' : List ℕ) (factor : Option ℤ) → MatchOption factor ((k : ℤ) → IsRowOf x k r → ⊥) (λ k. IsRowOf x k r)
      → AddsSide n factor us ls us' ls' → AreSides rows x n us ls → AreSides rows x (n + 1) us' ls'
  one_more_side us ls us' ls' None m a s = subst (λ z. AreSides rows x (n + 1) z ls') (sym a.0) (subst (λ z. AreSides rows x (n + 1) us z) (sym a.1) record {
    uppers_are = s.uppers_are;
    lowers_are = s.lowers_are;
    each_upper = λ p l u. elim (before_or_last n p l) [
      | inl h ↦ s.each_upper p h u
      | inr h ↦ let d = same_some u.1 r (slice_get rows p) u.2 (ap (slice_get rows) (sym h) ∙ at) in absurd (m u.0 (subst (IsRowOf x u.0) d u.3))
    ];
    each_lower = λ p l u. elim (before_or_last n p l) [
      | inl h ↦ s.each_lower p h u
      | inr h ↦ let d = same_some u.1 r (slice_get rows p) u.2 (ap (slice_get rows) (sym h) ∙ at) in absurd (m u.0 (subst (IsRowOf x u.0) d u.3))
    ];
  })
  one_more_side us ls us' ls' (Some k) m (inl a) s = subst (λ z. AreSides rows x (n + 1) z ls') (sym a.1) (subst (λ z. AreSides rows x (n + 1) (us ++ n ∷ []) z) (sym a.2) record {
    uppers_are = λ p c. elim (Contains-push_cases us n p c) [ inl i ↦ s.uppers_are p i | inr e ↦ subst (IsUpper rows x) e (k, r, at, m, a.0) ];
    lowers_are = s.lowers_are;
    each_upper = λ p l u. elim (before_or_last n p l) [
      | inl h ↦ Contains-append_left us (n ∷ []) p (s.each_upper p h u)
      | inr h ↦ subst (Contains (us ++ n ∷ [])) h (Contains-push us n)
    ];
    each_lower = λ p l u. elim (before_or_last n p l) [
      | inl h ↦ s.each_lower p h u
      | inr h ↦
          let d = same_some u.1 r (slice_get rows p) u.2 (ap (slice_get rows) (sym h) ∙ at) in
          let e = same_factor x u.0 k u.1 r d u.3 m in
          let i = a.0 in
          let j = u.4 in
          absurd (opposed u.0 k e i j)
    ];
  })
    where
      opposed : (j k : ℤ) → j ≡ k → pos 0 <ℤ k → j <ℤ pos 0 → ⊥
      opposed j k e h i = absurd (omega (arith, ints, e))
  one_more_side us ls us' ls' (Some k) m (inr a) s = subst (λ z. AreSides rows x (n + 1) z ls') (sym a.1) (subst (λ z. AreSides rows x (n + 1) us z) (sym a.2) record {
    uppers_are = s.uppers_are;
    lowers_are = λ p c. elim (Contains-push_cases ls n p c) [ inl i ↦ s.lowers_are p i | inr e ↦ subst (IsLower rows x) e (k, r, at, m, below k a.0 (not_zero_at x k r m (normal r (contains_get rows n r at)))) ];
    each_upper = λ p l u. elim (before_or_last n p l) [
      | inl h ↦ s.each_upper p h u
      | inr h ↦
          let d = same_some u.1 r (slice_get rows p) u.2 (ap (slice_get rows) (sym h) ∙ at) in
          let e = same_factor x u.0 k u.1 r d u.3 m in
          absurd (opposed u.0 k e a.0 u.4)
    ];
    each_lower = λ p l u. elim (before_or_last n p l) [
      | inl h ↦ Contains-append_left ls (n ∷ []) p (s.each_lower p h u)
      | inr h ↦ subst (Contains (ls ++ n ∷ [])) h (Contains-push ls n)
    ];
  })
    where
      below : (k : ℤ) → k ≤ℤ pos 0 → (k ≡ pos 0 → ⊥) → k <ℤ pos 0
      below (pos zero) h n = absurd (n refl)
      below (pos (suc k)) h n = absurd (omega (arith, ints))
      below (negsuc k) h n = omega (arith, ints)

      opposed : (j k : ℤ) → j ≡ k → k ≤ℤ pos 0 → pos 0 <ℤ j → ⊥
      opposed j k e h i = absurd (omega (arith, ints, e))
