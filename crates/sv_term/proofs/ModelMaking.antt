-- Models made from values, arrays made from entries, and what a value depends on.
use Rattle.std.proofs.Common.{Bool, true, false, cond, not, ◌&&◌, [], ◌∷◌, ◌≡◌, ℤ, pos, refl, sym, ap, ap₂, ◌∙◌, subst, arith}
use Rattle.std.specs.Ordering.{int_eq}
use Rattle.std.proofs.lemmas.Int.{ints}
use lib.Signed.{◌<ℤ◌, lt_z}
use Rattle.sv_term.specs.Sorts.{Sort, NumSort, BoolSort, ArrSort, TupSort, Sorts, NoSorts, SortAnd, is_in, element, sort_at}
use Rattle.sv_term.specs.Values.{Value, Number, Flag, Array, Tuple, Values, NoValues, ValueAnd, Entries, Empty, Entry, same_value, read, write, Each, IsAbove, IsRising, IsOther, IsOf, AreOf, HasZero, IsZeroed, AreZeroed}
use Rattle.sv_term.specs.Terms.{Shape, VarNode, Term, App, Terms, End, More, sorts_of}
use Rattle.sv_term.specs.Models.{Look, meaning, value_by, values_by}
use Rattle.sv_term.specs.ModelMaking.{zero_value, zero_values, ModelsExtend, gathered, first_at, IsGathered, GatheredReads, AgreeNode, Agree, AgreeAll, ValuesAgree}
use Rattle.sv_term.proofs.Same.{both_true, and_true, same_int, value_is}
use Rattle.sv_term.proofs.Maps.{read_same, read_other, write_of, lt_of, differ}
use Rattle.sv_term.proofs.Numbers.{zero_in}

-- ---- the value 0

mutual
  pub zero_is_of : (s : Sort) → IsOf s (zero_value s)
  zero_is_of (NumSort r) = zero_in r
  zero_is_of BoolSort = tt
  zero_is_of (ArrSort s) = (zero_is_of s, tt, tt, tt)
  zero_is_of (TupSort ss) = zeros_are_of ss

  zeros_are_of : (ss : Sorts) → AreOf ss (zero_values ss)
  zeros_are_of NoSorts = tt
  zeros_are_of (SortAnd s ss) = (zero_is_of s, zeros_are_of ss)

has_zero : (s : Sort) → HasZero s (zero_value s)
has_zero (NumSort r) = refl
has_zero BoolSort = tt
has_zero (ArrSort s) = tt
has_zero (TupSort ss) = tt

mutual
  pub zero_is_zeroed : (s : Sort) → IsZeroed s (zero_value s)
  zero_is_zeroed (NumSort r) = tt
  zero_is_zeroed BoolSort = tt
  zero_is_zeroed (ArrSort s) = (has_zero s, zero_is_zeroed s, tt)
  zero_is_zeroed (TupSort ss) = zeros_are_zeroed ss

  zeros_are_zeroed : (ss : Sorts) → AreZeroed ss (zero_values ss)
  zeros_are_zeroed NoSorts = tt
  zeros_are_zeroed (SortAnd s ss) = (zero_is_zeroed s, zeros_are_zeroed ss)

-- ---- tests of what a model asks of a value

abbrev each : (Value → Bool) → Entries → Bool
each f Empty = true
each f (Entry i v es) = f v && each f es

abbrev is_above : ℤ → Entries → Bool
is_above k Empty = true
is_above k (Entry i v es) = lt_z k i && is_above k es

abbrev is_rising : Entries → Bool
is_rising Empty = true
is_rising (Entry i v es) = is_above i es && is_rising es

abbrev mutual
  is_of : Sort → Value → Bool
  is_of (NumSort r) (Number z) = is_in r z
  is_of BoolSort (Flag b) = true
  is_of (ArrSort s) (Array d es) = is_of s d && (each (is_of s) es && (is_rising es && each (λ v. not (same_value v d)) es))
  is_of (TupSort ss) (Tuple vs) = are_of ss vs
  is_of (NumSort r) _ = false
  is_of BoolSort _ = false
  is_of (ArrSort s) _ = false
  is_of (TupSort ss) _ = false

  are_of : Sorts → Values → Bool
  are_of NoSorts NoValues = true
  are_of (SortAnd s ss) (ValueAnd v vs) = is_of s v && are_of ss vs
  are_of NoSorts (ValueAnd v vs) = false
  are_of (SortAnd s ss) NoValues = false

abbrev has_zero_value : Sort → Value → Bool
has_zero_value (NumSort r) d = same_value d (Number (pos 0))
has_zero_value _ d = true

abbrev mutual
  is_zeroed : Sort → Value → Bool
  is_zeroed (NumSort r) v = true
  is_zeroed BoolSort v = true
  is_zeroed (ArrSort s) (Array d es) = has_zero_value s d && (is_zeroed s d && each (is_zeroed s) es)
  is_zeroed (TupSort ss) (Tuple vs) = are_zeroed ss vs
  is_zeroed (ArrSort s) _ = false
  is_zeroed (TupSort ss) _ = false

  are_zeroed : Sorts → Values → Bool
  are_zeroed NoSorts vs = true
  are_zeroed (SortAnd s ss) (ValueAnd v vs) = is_zeroed s v && are_zeroed ss vs
  are_zeroed (SortAnd s ss) NoValues = false

each_is : (f : Value → Bool) (P : Value → Type 0) → ((v : Value) → f v ≡ true → P v) → (es : Entries) → each f es ≡ true → Each P es
each_is f P h Empty e = tt
each_is f P h (Entry i v es) e = let b = both_true (f v) (each f es) e in (h v b.0, each_is f P h es b.1)

is_each : (f : Value → Bool) (P : Value → Type 0) → ((v : Value) → P v → f v ≡ true) → (es : Entries) → Each P es → each f es ≡ true
is_each f P h Empty e = refl
is_each f P h (Entry i v es) e = and_true (f v) (each f es) (h v e.0) (is_each f P h es e.1)

above_is : (k : ℤ) (es : Entries) → is_above k es ≡ true → IsAbove k es
above_is k Empty e = tt
above_is k (Entry i v es) e = let b = both_true (lt_z k i) (is_above k es) e in (lt_of k i b.0, above_is k es b.1)

lt_true : (i j : ℤ) → i <ℤ j → lt_z i j ≡ true
lt_true i j h = go (lt_z i j) refl
  where
    go : (b : Bool) → lt_z i j ≡ b → b ≡ true
    go true e = refl
    go false e = absurd (omega (arith, ints))

is_above_of : (k : ℤ) (es : Entries) → IsAbove k es → is_above k es ≡ true
is_above_of k Empty e = refl
is_above_of k (Entry i v es) e = and_true (lt_z k i) (is_above k es) (lt_true k i e.0) (is_above_of k es e.1)

rising_is : (es : Entries) → is_rising es ≡ true → IsRising es
rising_is Empty e = tt
rising_is (Entry i v es) e = let b = both_true (is_above i es) (is_rising es) e in (above_is i es b.0, rising_is es b.1)

is_rising_of : (es : Entries) → IsRising es → is_rising es ≡ true
is_rising_of Empty e = refl
is_rising_of (Entry i v es) e = and_true (is_above i es) (is_rising es) (is_above_of i es e.0) (is_rising_of es e.1)

not_is : (b : Bool) → not b ≡ true → b ≡ false
not_is true e = cc e
not_is false e = refl

is_not : (b : Bool) → b ≡ false → not b ≡ true
is_not true e = cc e
is_not false e = refl

mutual
  of_is : (s : Sort) (v : Value) → is_of s v ≡ true → IsOf s v
  of_is (NumSort r) (Number z) e = e
  of_is BoolSort (Flag b) e = tt
  of_is (ArrSort s) (Array d es) e =
      let a = both_true (is_of s d) (each (is_of s) es && (is_rising es && each (λ v. not (same_value v d)) es)) e in
      let b = both_true (each (is_of s) es) (is_rising es && each (λ v. not (same_value v d)) es) a.1 in
      let c = both_true (is_rising es) (each (λ v. not (same_value v d)) es) b.1 in
      (of_is s d a.0, each_is (is_of s) (IsOf s) (λ v f. of_is s v f) es b.0, rising_is es c.0, each_is (λ v. not (same_value v d)) (IsOther d) (λ v f. not_is (same_value v d) f) es c.1)
  of_is (TupSort ss) (Tuple vs) e = are_is ss vs e
  of_is (NumSort r) _ e = cc e
  of_is BoolSort _ e = cc e
  of_is (ArrSort s) _ e = cc e
  of_is (TupSort ss) _ e = cc e

  are_is : (ss : Sorts) (vs : Values) → are_of ss vs ≡ true → AreOf ss vs
  are_is NoSorts NoValues e = tt
  are_is (SortAnd s ss) (ValueAnd v vs) e = let b = both_true (is_of s v) (are_of ss vs) e in (of_is s v b.0, are_is ss vs b.1)
  are_is NoSorts (ValueAnd v vs) e = cc e
  are_is (SortAnd s ss) NoValues e = cc e

mutual
  is_of_it : (s : Sort) (v : Value) → IsOf s v → is_of s v ≡ true
  is_of_it (NumSort r) (Number z) e = e
  is_of_it BoolSort (Flag b) e = refl
  is_of_it (ArrSort s) (Array d es) e =
      and_true (is_of s d) _ (is_of_it s d e.0)
      (and_true (each (is_of s) es) _ (is_each (is_of s) (IsOf s) (λ v f. is_of_it s v f) es e.1)
      (and_true (is_rising es) _ (is_rising_of es e.2) (is_each (λ v. not (same_value v d)) (IsOther d) (λ v f. is_not (same_value v d) f) es e.3)))
  is_of_it (TupSort ss) (Tuple vs) e = are_of_it ss vs e
  is_of_it (NumSort r) _ e = absurd e
  is_of_it BoolSort _ e = absurd e
  is_of_it (ArrSort s) _ e = absurd e
  is_of_it (TupSort ss) _ e = absurd e

  are_of_it : (ss : Sorts) (vs : Values) → AreOf ss vs → are_of ss vs ≡ true
  are_of_it NoSorts NoValues e = refl
  are_of_it (SortAnd s ss) (ValueAnd v vs) e = and_true (is_of s v) (are_of ss vs) (is_of_it s v e.0) (are_of_it ss vs e.1)
  are_of_it NoSorts (ValueAnd v vs) e = absurd e
  are_of_it (SortAnd s ss) NoValues e = absurd e

zero_value_is : (s : Sort) (d : Value) → has_zero_value s d ≡ true → HasZero s d
zero_value_is (NumSort r) d e = value_is d (Number (pos 0)) e
zero_value_is BoolSort d e = tt
zero_value_is (ArrSort s) d e = tt
zero_value_is (TupSort ss) d e = tt

is_zero_value : (s : Sort) (d : Value) → HasZero s d → has_zero_value s d ≡ true
is_zero_value (NumSort r) d e = subst (λ z. same_value z (Number (pos 0)) ≡ true) (sym e) refl
is_zero_value BoolSort d e = refl
is_zero_value (ArrSort s) d e = refl
is_zero_value (TupSort ss) d e = refl

mutual
  zeroed_is : (s : Sort) (v : Value) → is_zeroed s v ≡ true → IsZeroed s v
  zeroed_is (NumSort r) v e = tt
  zeroed_is BoolSort v e = tt
  zeroed_is (ArrSort s) (Array d es) e =
      let a = both_true (has_zero_value s d) (is_zeroed s d && each (is_zeroed s) es) e in
      let b = both_true (is_zeroed s d) (each (is_zeroed s) es) a.1 in
      (zero_value_is s d a.0, zeroed_is s d b.0, each_is (is_zeroed s) (IsZeroed s) (λ v f. zeroed_is s v f) es b.1)
  zeroed_is (TupSort ss) (Tuple vs) e = all_zeroed_is ss vs e
  zeroed_is (ArrSort s) _ e = cc e
  zeroed_is (TupSort ss) _ e = cc e

  all_zeroed_is : (ss : Sorts) (vs : Values) → are_zeroed ss vs ≡ true → AreZeroed ss vs
  all_zeroed_is NoSorts vs e = tt
  all_zeroed_is (SortAnd s ss) (ValueAnd v vs) e = let b = both_true (is_zeroed s v) (are_zeroed ss vs) e in (zeroed_is s v b.0, all_zeroed_is ss vs b.1)
  all_zeroed_is (SortAnd s ss) NoValues e = cc e

mutual
  is_zeroed_it : (s : Sort) (v : Value) → IsZeroed s v → is_zeroed s v ≡ true
  is_zeroed_it (NumSort r) v e = refl
  is_zeroed_it BoolSort v e = refl
  is_zeroed_it (ArrSort s) (Array d es) e =
      and_true (has_zero_value s d) _ (is_zero_value s d e.0) (and_true (is_zeroed s d) _ (is_zeroed_it s d e.1) (is_each (is_zeroed s) (IsZeroed s) (λ v f. is_zeroed_it s v f) es e.2))
  is_zeroed_it (TupSort ss) (Tuple vs) e = all_zeroed_it ss vs e
  is_zeroed_it (ArrSort s) _ e = absurd e
  is_zeroed_it (TupSort ss) _ e = absurd e

  all_zeroed_it : (ss : Sorts) (vs : Values) → AreZeroed ss vs → are_zeroed ss vs ≡ true
  all_zeroed_it NoSorts vs e = refl
  all_zeroed_it (SortAnd s ss) (ValueAnd v vs) e = and_true (is_zeroed s v) (are_zeroed ss vs) (is_zeroed_it s v e.0) (all_zeroed_it ss vs e.1)
  all_zeroed_it (SortAnd s ss) NoValues e = absurd e

-- ---- models

abbrev kept_or_zero : Sort → Value → Value
kept_or_zero s v = cond (is_of s v && is_zeroed s v) v (zero_value s)

kept_is_of : (s : Sort) (v : Value) → IsOf s (kept_or_zero s v)
kept_is_of s v = go (is_of s v && is_zeroed s v) refl
  where
    go : (b : Bool) → (is_of s v && is_zeroed s v) ≡ b → IsOf s (cond b v (zero_value s))
    go true e = of_is s v (both_true (is_of s v) (is_zeroed s v) e).0
    go false e = zero_is_of s

kept_is_zeroed : (s : Sort) (v : Value) → IsZeroed s (kept_or_zero s v)
kept_is_zeroed s v = go (is_of s v && is_zeroed s v) refl
  where
    go : (b : Bool) → (is_of s v && is_zeroed s v) ≡ b → IsZeroed s (cond b v (zero_value s))
    go true e = zeroed_is s v (both_true (is_of s v) (is_zeroed s v) e).1
    go false e = zero_is_zeroed s

kept : (s : Sort) (v : Value) → IsOf s v → IsZeroed s v → kept_or_zero s v ≡ v
kept s v h k = ap (λ b. cond b v (zero_value s)) (and_true (is_of s v) (is_zeroed s v) (is_of_it s v h) (is_zeroed_it s v k))

pub models_extend : ModelsExtend
models_extend f = (
  record { look = λ n s. kept_or_zero s (f n s); of_sort = λ n s. kept_is_of s (f n s); zeroed = λ n s. kept_is_zeroed s (f n s) },
  (λ n s h k. kept s (f n s) h k),
)

-- ---- arrays from entries

pub gathered_reads : GatheredReads
gathered_reads s d [] h a = record { of_sort = (h, tt, tt, tt); reads = λ i. refl }
gathered_reads s d (e ∷ es) h a = go (gathered_reads s d es h a.1)
  where
    go : IsGathered s d es → IsGathered s d (e ∷ es)
    go g = record {
      of_sort = write_of s e.0 e.1 (gathered d es) g.of_sort a.0;
      reads = λ i. at i (int_eq i e.0) refl;
    }
      where
        at : (i : ℤ) (b : Bool) → int_eq i e.0 ≡ b → read i (write e.0 e.1 (gathered d es)) ≡ cond b e.1 (first_at i d es)
        at i true f = ap (λ z. read z (write e.0 e.1 (gathered d es))) (same_int i e.0 f) ∙ read_same s e.0 e.1 (gathered d es) g.of_sort
        at i false f = read_other e.0 i e.1 (gathered d es) (λ k. differ i e.0 f (sym k)) ∙ g.reads i

-- ---- what a value depends on

agree_node : (f g : Look) (x : Shape) (s : Sort) (vs : Values) → AgreeNode f g x → meaning f x s vs ≡ meaning g x s vs
agree_node f g (VarNode n t) s vs h = h
agree_node f g _ s vs h = refl

mutual
  agree_value : (f g : Look) (t : Term) → Agree f g t → value_by f t ≡ value_by g t
  agree_value f g (App x ts) h = ap (meaning f x (element (sort_at 0 (sorts_of ts)))) (agree_values f g ts h.1) ∙ agree_node f g x (element (sort_at 0 (sorts_of ts))) (values_by g ts) h.0

  agree_values : (f g : Look) (ts : Terms) → AgreeAll f g ts → values_by f ts ≡ values_by g ts
  agree_values f g End h = refl
  agree_values f g (More t ts) h = ap₂ ValueAnd (agree_value f g t h.0) (agree_values f g ts h.1)

pub values_agree : ValuesAgree
values_agree f g t h = agree_value f g t h
