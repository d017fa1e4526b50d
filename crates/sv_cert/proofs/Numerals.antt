-- A number and its digits give each other.
use Rattle.std.proofs.Common.{ℕ, zero, suc, ◌+◌, ◌-◌, ◌*◌, ◌/◌, ◌%◌, ◌^◌, ◌<◌, ◌≤◌, Bool, true, false, cond, not, ◌&&◌, ◌||◌, nat_eq, nat_lt, List, [], ◌∷◌, ◌++◌, length, get_or, take, ◌≡◌, ◌⊎◌, inl, inr, refl, sym, ap, ap₂, ◌∙◌, subst, arith, Option, None, Some, lit≤, lit<}
use Rattle.std.proofs.lemmas.Bool.Decides.{Decides-ltb, Decides-eqb, nat_tests}
use Rattle.std.proofs.lemmas.Str.{IsUtf8-from_ascii}
use Rattle.std.proofs.lemmas.Fmt.{IsAscii-from_digits}
use Rattle.std.specs.Str.{IsUtf8}
use Rattle.std.specs.Char.{is_ascii_digit}
use Rattle.std.proofs.lemmas.Str.Parse.{parse_plain, IsNumeralModel, numerals_by_value, tells_all_ascii_digits, digit_from_value, digits_value-take-le}
use Rattle.std.proofs.lemmas.Int.Digits.{digits_value_push}
use Rattle.std.proofs.lemmas.Int.{ints}
use Rattle.std.proofs.lemmas.Fmt.{decimal_is_IsNumeral_wide, decimal_by_steps_wide, decimal_digit}
use Rattle.std.specs.Char.{digit_value}
use Rattle.std.specs.Fmt.{decimal, signed_decimal}
use Rattle.std.specs.Str.{all_ascii_digits}
use Rattle.std.specs.Str.Parse.{digits_value, AllDigits, IsNumeral, without_leading_plus}
use Rattle.std.specs.Prelude.{Result, Ok, Err}
use lib.IntN.{ℤ, pos, negsuc, neg_ℤ}
use lib.Signed.{◌≤ℤ◌, ◌<ℤ◌}
use Rattle.sv_num.specs.Range.{IsI128}
use Rattle.sv_term.proofs.Same.{both_true, and_true, same_nat, nat_same}
use Rattle.sv_cert.specs.LogReading.{◌>>=◌, starts_plainly, is_numeral, numeral, index, negated, negative, integer}

model : IsNumeralModel (λ ds. all_ascii_digits ds ≡ true) (digits_value 10)
model = numerals_by_value _ tells_all_ascii_digits

pub lt_true : (a b : ℕ) → a < b → nat_lt a b ≡ true
lt_true a b h = (Decides-ltb a b).1 h

pub true_lt : (a b : ℕ) → nat_lt a b ≡ true → a < b
true_lt a b e = (Decides-ltb a b).0 e

head_kept : (ds : List ℕ) (x : ℕ) → 0 < length ds → (0 < length (ds ++ x ∷ [])) × (get_or (ds ++ x ∷ []) 0 0 ≡ get_or ds 0 0)
head_kept [] x h = absurd (omega (arith, h))
head_kept (d ∷ ds) x h = (omega arith, refl)

first_digit : (n : ℕ) → n < 10 ^ 64 → (0 < length (decimal n)) × (0 < n → 48 < get_or (decimal n) 0 0)
first_digit n h = decimal_by_steps_wide (λ n ds. (0 < length ds) × (0 < n → 48 < get_or ds 0 0)) one more n h
  where
    one : (n : ℕ) → n < 10 → (0 < length ((48 + n) ∷ [])) × (0 < n → 48 < get_or ((48 + n) ∷ []) 0 0)
    one n lt = (omega arith, λ p. omega arith)

    more : (n : ℕ) (ds : List ℕ) → 10 ≤ n → (0 < length ds) × (0 < n / 10 → 48 < get_or ds 0 0) → (0 < length (ds ++ (48 + n % 10) ∷ [])) × (0 < n → 48 < get_or (ds ++ (48 + n % 10) ∷ []) 0 0)
    more n ds ge ih =
        let k = head_kept ds (48 + n % 10) ih.0 in
        let q : 0 < n / 10 = omega arith in
        (k.0, λ p. subst (λ d. 48 < d) (sym k.1) (ih.1 q))

canonical : (w : List ℕ) → all_ascii_digits w ≡ true → 0 < length w → (get_or w 0 0 ≡ 48 → length w ≡ 1) → is_numeral w ≡ true
canonical [] a l z = absurd (omega (arith, l))
canonical (c ∷ cs) a l z = and_true (all_ascii_digits (c ∷ cs)) (starts_plainly (c ∷ cs)) a (and_true _ _ (both_true _ (all_ascii_digits cs) a).0 (go (nat_eq c 48) refl))
  where
    go : (b : Bool) → nat_eq c 48 ≡ b → (not b || nat_eq (length cs) 0) ≡ true
    go true e = let one = z (same_nat c 48 e) in nat_same (length cs) 0 (omega arith)
    go false e = refl

is_numeral_decimal : (n : ℕ) → n < 10 ^ 64 → is_numeral (decimal n) ≡ true
is_numeral_decimal n h =
    canonical (decimal n) (model.from (decimal n) (decimal_is_IsNumeral_wide n h).0.1) (first_digit n h).0 (go n h)
  where
    go : (n : ℕ) → n < 10 ^ 64 → get_or (decimal n) 0 0 ≡ 48 → length (decimal n) ≡ 1
    go zero h e = ap length (decimal_digit 0 (lit< tt))
    go (suc n) h e = absurd (let p : 48 < get_or (decimal (suc n)) 0 0 = (first_digit (suc n) h).1 (omega arith) in omega arith)

pub all_digits_decimal : (n : ℕ) → n < 10 ^ 64 → all_ascii_digits (decimal n) ≡ true
all_digits_decimal n h = model.from (decimal n) (decimal_is_IsNumeral_wide n h).0.1

pub numeral_is : (limit : ℕ) (w : List ℕ) (v : ℕ) → is_numeral w ≡ true → digits_value 10 w ≡ v → v < limit → numeral limit w ≡ Some v
unfolding numeral
numeral_is limit w v n e h =
    ap (λ b. cond b (Some (digits_value 10 w)) None) (and_true (is_numeral w) (nat_lt (digits_value 10 w) limit) n (ap (λ x. nat_lt x limit) e ∙ lt_true v limit h))
    ∙ ap Some e

pub numeral_decimal : (limit n : ℕ) → n < limit → limit ≤ 10 ^ 64 → numeral limit (decimal n) ≡ Some n
numeral_decimal limit n h l =
    let w : n < 10 ^ 64 = omega arith in
    numeral_is limit (decimal n) n (is_numeral_decimal n w) (decimal_is_IsNumeral_wide n w).1 h

-- ---- a number has one numeral

unsnoc : (c : ℕ) (cs : List ℕ) → (u : List ℕ) × (d : ℕ) × (c ∷ cs ≡ u ++ d ∷ [])
unsnoc c [] = ([], c, refl)
unsnoc c (e ∷ cs) = let r = unsnoc e cs in (c ∷ r.0, r.1, ap (λ w. c ∷ w) r.2)

-- digits, the first of them no 0 but where it is alone
record IsPlain (w : List ℕ) : Type 0 where
  digits : all_ascii_digits w ≡ true
  some : 0 < length w
  first : get_or w 0 0 ≡ 48 → length w ≡ 1

plain_of : (w : List ℕ) → is_numeral w ≡ true → IsPlain w
plain_of [] e = cc e
plain_of (c ∷ cs) e =
    let b = both_true (all_ascii_digits (c ∷ cs)) (starts_plainly (c ∷ cs)) e in
    record { digits = b.0; some = omega arith; first = go (nat_eq c 48) refl (both_true _ (not (nat_eq c 48) || nat_eq (length cs) 0) b.1).1 }
  where
    go : (b : Bool) → nat_eq c 48 ≡ b → (not b || nat_eq (length cs) 0) ≡ true → c ≡ 48 → length (c ∷ cs) ≡ 1
    go true e f i = let z = same_nat (length cs) 0 f in omega arith
    go false e f i = cc (e, nat_same c 48 i)

digits_front : (u : List ℕ) (d : ℕ) → all_ascii_digits (u ++ d ∷ []) ≡ true → (all_ascii_digits u ≡ true) × (all_ascii_digits (d ∷ []) ≡ true)
digits_front [] d e = (refl, e)
digits_front (c ∷ u) d e =
    let b = both_true _ (all_ascii_digits (u ++ d ∷ [])) e in
    let r = digits_front u d b.1 in
    (and_true _ (all_ascii_digits u) b.0 r.0, r.1)

digit_value_is : (d : ℕ) → 48 ≤ d → d ≤ 57 → digit_value d ≡ d - 48
digit_value_is d l h = grind (arith, nat_tests)

last_digit : (d : ℕ) → all_ascii_digits (d ∷ []) ≡ true → (digit_value d < 10) × (d ≡ 48 + digit_value d)
last_digit d e =
    let v = (model.to (d ∷ []) e).0 in
    let r = digit_from_value d v in
    let is = digit_value_is d r.0 r.1 in
    (v, omega (arith, r.0, is))

value_pos : (c : ℕ) (cs : List ℕ) → all_ascii_digits (c ∷ cs) ≡ true → 48 < c → 0 < digits_value 10 (c ∷ cs)
value_pos c cs a h =
    let v = (model.to (c ∷ cs) a).0 in
    let r = digit_from_value c v in
    let is = digit_value_is c r.0 r.1 in
    let below : digits_value 10 (take 1 (c ∷ cs)) ≤ digits_value 10 (c ∷ cs) = digits_value-take-le 10 (c ∷ cs) 1 (lit≤ tt) in
    omega (arith, is, below)

-- what stands before the last digit
record Front (u : List ℕ) (d : ℕ) : Type 0 where
  digit : digit_value d < 10
  is : d ≡ 48 + digit_value d
  value : digits_value 10 (u ++ d ∷ []) ≡ digits_value 10 u * 10 + digit_value d
  front : (u ≡ []) ⊎ ((0 < digits_value 10 u) × IsPlain u)

front_of : (u : List ℕ) (d : ℕ) → IsPlain (u ++ d ∷ []) → Front u d
front_of u d p =
    let a = digits_front u d p.digits in
    let l = last_digit d a.1 in
    record { digit = l.0; is = l.1; value = digits_value_push 10 u d; front = go u p a.0 }
  where
    go : (u : List ℕ) → IsPlain (u ++ d ∷ []) → all_ascii_digits u ≡ true → (u ≡ []) ⊎ ((0 < digits_value 10 u) × IsPlain u)
    go [] p a = inl refl
    go (x ∷ us) p a =
        let r = digit_from_value x (model.to (x ∷ us) a).0 in
        let long : 0 < length (us ++ d ∷ []) = (more us) in
        let other : x ≡ 48 → ⊥ = λ e. let one = p.first e in omega (arith, one, long) in
        let big : 48 < x = omega (arith, r.0, other) in
        inr (value_pos x us a big, record { digits = a; some = omega arith; first = λ e. absurd (other e) })
      where
        more : (us : List ℕ) → 0 < length (us ++ d ∷ [])
        more [] = omega arith
        more (y ∷ ys) = omega arith

numeral_one : (n : ℕ) → n < 10 ^ 64 → (w : List ℕ) → IsPlain w → digits_value 10 w ≡ n → w ≡ decimal n
numeral_one n h = decimal_by_steps_wide (λ n ds. (w : List ℕ) → IsPlain w → digits_value 10 w ≡ n → w ≡ ds) one more n h
  where
    one : (n : ℕ) → n < 10 → (w : List ℕ) → IsPlain w → digits_value 10 w ≡ n → w ≡ (48 + n) ∷ []
    one n lt [] p e = absurd (let s = p.some in omega (arith, s))
    one n lt (c ∷ cs) p e =
        let s = unsnoc c cs in
        let f = front_of s.0 s.1 (subst IsPlain s.2 p) in
        let v : digits_value 10 s.0 * 10 + digit_value s.1 ≡ n = sym f.value ∙ (ap (digits_value 10) (sym s.2) ∙ e) in
        elim f.front [
          | inl none ↦ let z = ap (digits_value 10) none in let i = f.is in s.2 ∙ ap₂ (λ u d. u ++ d ∷ []) none (omega (arith, v, z, i))
          | inr some ↦ let z = some.0 in absurd (omega (arith, v, z))
        ]

    more : (n : ℕ) (ds : List ℕ) → 10 ≤ n → ((w : List ℕ) → IsPlain w → digits_value 10 w ≡ n / 10 → w ≡ ds) → (w : List ℕ) → IsPlain w → digits_value 10 w ≡ n → w ≡ ds ++ (48 + n % 10) ∷ []
    more n ds ge ih [] p e = absurd (let s = p.some in omega (arith, s))
    more n ds ge ih (c ∷ cs) p e =
        let s = unsnoc c cs in
        let f = front_of s.0 s.1 (subst IsPlain s.2 p) in
        let v : digits_value 10 s.0 * 10 + digit_value s.1 ≡ n = sym f.value ∙ (ap (digits_value 10) (sym s.2) ∙ e) in
        let k = f.digit in
        elim f.front [
          | inl none ↦ let z = ap (digits_value 10) none in absurd (omega (arith, v, z, k))
          | inr some ↦ let i = f.is in s.2 ∙ ap₂ (λ u d. u ++ d ∷ []) (ih s.0 some.1 (omega (arith, v, k))) (omega (arith, v, k, i))
        ]

pub numeral_back : (limit : ℕ) (w : List ℕ) (n : ℕ) → limit ≤ 10 ^ 64 → numeral limit w ≡ Some n → (decimal n ≡ w) × (n < limit)
unfolding numeral
numeral_back limit w n l e = go (is_numeral w && nat_lt (digits_value 10 w) limit) refl e
  where
    go : (b : Bool) → (is_numeral w && nat_lt (digits_value 10 w) limit) ≡ b → cond b (Some (digits_value 10 w)) None ≡ Some n → (decimal n ≡ w) × (n < limit)
    go true t f =
        let b = both_true (is_numeral w) (nat_lt (digits_value 10 w) limit) t in
        let v : digits_value 10 w ≡ n = cc f in
        let below = true_lt (digits_value 10 w) limit b.1 in
        (sym (numeral_one n (omega (arith, v, below)) w (plain_of w b.0) v), omega (arith, v, below))
    go false t f = cc f

-- ---- chains of readers

pub bind_some : {A B : Type 0} (o : Option A) (f : A → Option B) (b : B) → (o >>= f) ≡ Some b → (a : A) × (o ≡ Some a) × (f a ≡ Some b)
bind_some None f b e = cc e
bind_some (Some a) f b e = (a, refl, e)

pub bind_is : {A B : Type 0} (o : Option A) (a : A) (f : A → Option B) (r : Option B) → o ≡ Some a → f a ≡ r → (o >>= f) ≡ r
bind_is o a f r e g = ap (λ x. x >>= f) e ∙ g

-- ---- signed numbers

not_minus : (c : ℕ) (cs : List ℕ) → all_ascii_digits (c ∷ cs) ≡ true → nat_eq c 45 ≡ false
not_minus c cs a = go (nat_eq c 45) refl
  where
    go : (b : Bool) → nat_eq c 45 ≡ b → b ≡ false
    go true e = absurd (let r = digit_from_value c (model.to (c ∷ cs) a).0 in let i = same_nat c 45 e in omega (arith, r.0, i))
    go false e = refl

plain_integer : (w : List ℕ) → is_numeral w ≡ true → integer w ≡ (numeral (2 ^ 127) w >>= (λ n. Some (pos n)))
unfolding integer
plain_integer [] e = cc e
plain_integer (c ∷ cs) e =
    ap (λ b. cond b (numeral (2 ^ 127 + 1) cs >>= negated) (numeral (2 ^ 127) (c ∷ cs) >>= (λ n. Some (pos n))))
    (not_minus c cs (both_true (all_ascii_digits (c ∷ cs)) _ e).0)

pub below_limit : (n : ℕ) → pos n <ℤ pos (2 ^ 127) → n < 2 ^ 127
below_limit n h = omega (arith, ints)

pub above_limit : (n : ℕ) → neg_ℤ (pos (2 ^ 127)) ≤ℤ negsuc n → suc n < 2 ^ 127 + 1
above_limit n h = omega (arith, ints)

pub integer_decimal : (z : ℤ) → IsI128 z → integer (signed_decimal z) ≡ Some z
unfolding integer
integer_decimal (pos n) h =
    let l = below_limit n h.1 in
    plain_integer (decimal n) (is_numeral_decimal n (omega (arith, l)))
    ∙ bind_is (numeral (2 ^ 127) (decimal n)) n (λ n. Some (pos n)) (Some (pos n)) (numeral_decimal (2 ^ 127) n l (lit≤ tt)) refl
integer_decimal (negsuc n) h =
    bind_is (numeral (2 ^ 127 + 1) (decimal (suc n))) (suc n) negated (Some (negsuc n)) (numeral_decimal (2 ^ 127 + 1) (suc n) (above_limit n h.0) (lit≤ tt)) refl

pos_fits : (n : ℕ) → n < 2 ^ 127 → IsI128 (pos n)
pos_fits n h = (omega (arith, ints), omega (arith, ints))

neg_fits : (n : ℕ) → suc n < 2 ^ 127 + 1 → IsI128 (negsuc n)
neg_fits n h = (omega (arith, ints), omega (arith, ints))

pub integer_back : (w : List ℕ) (z : ℤ) → integer w ≡ Some z → (signed_decimal z ≡ w) × IsI128 z
unfolding integer
integer_back [] z e = cc e
integer_back (c ∷ cs) z e = go (nat_eq c 45) refl e
  where
    minus : (n : ℕ) → numeral (2 ^ 127 + 1) cs ≡ Some n → c ≡ 45 → negated n ≡ Some z → (signed_decimal z ≡ c ∷ cs) × IsI128 z
    minus zero r i f = cc f
    minus (suc n) r i f =
        let b = numeral_back (2 ^ 127 + 1) cs (suc n) (lit≤ tt) r in
        let is : negsuc n ≡ z = cc f in
        (subst (λ y. signed_decimal y ≡ c ∷ cs) is (ap₂ (λ x xs. x ∷ xs) (sym i) b.0), subst IsI128 is (neg_fits n b.1))

    go : (b : Bool) → nat_eq c 45 ≡ b → cond b (numeral (2 ^ 127 + 1) cs >>= negated) (numeral (2 ^ 127) (c ∷ cs) >>= (λ n. Some (pos n))) ≡ Some z → (signed_decimal z ≡ c ∷ cs) × IsI128 z
    go true i f = let r = bind_some (numeral (2 ^ 127 + 1) cs) negated z f in minus r.0 r.1 (same_nat c 45 i) r.2
    go false i f =
        let r = bind_some (numeral (2 ^ 127) (c ∷ cs)) (λ n. Some (pos n)) z f in
        let b = numeral_back (2 ^ 127) (c ∷ cs) r.0 (lit≤ tt) r.1 in
        let is : pos r.0 ≡ z = cc r.2 in
        (subst (λ y. signed_decimal y ≡ c ∷ cs) is b.0, subst IsI128 is (pos_fits r.0 b.1))

-- ---- reading a number with std

numeral_none : (limit : ℕ) (w : List ℕ) → ((is_numeral w && nat_lt (digits_value 10 w) limit) ≡ true → ⊥) → numeral limit w ≡ None
unfolding numeral
numeral_none limit w h = go (is_numeral w && nat_lt (digits_value 10 w) limit) refl
  where
    go : (b : Bool) → (is_numeral w && nat_lt (digits_value 10 w) limit) ≡ b → cond b (Some (digits_value 10 w)) None ≡ None
    go true e = absurd (h e)
    go false e = refl

clash : (b : Bool) → b ≡ true → b ≡ false → ⊥
clash true e f = cc f
clash false e f = cc e

plain_start : (w : List ℕ) → is_numeral w ≡ true → starts_plainly w ≡ true
plain_start [] e = cc e
plain_start (c ∷ cs) e = (both_true (all_ascii_digits (c ∷ cs)) (starts_plainly (c ∷ cs)) e).1

pub numeral_unplain : (limit : ℕ) (w : List ℕ) → starts_plainly w ≡ false → numeral limit w ≡ None
numeral_unplain limit w h = numeral_none limit w (λ e. clash (starts_plainly w) (plain_start w (both_true (is_numeral w) _ e).0) h)

pub numeral_no_text : (limit : ℕ) (w : List ℕ) → (IsUtf8 w → ⊥) → numeral limit w ≡ None
numeral_no_text limit w h =
    numeral_none limit w (λ e. h (IsUtf8-from_ascii w (IsAscii-from_digits w (model.to w (plain_of w (both_true (is_numeral w) _ e).0).digits))))

no_plus : (w : List ℕ) → starts_plainly w ≡ true → get_or w 0 0 ≡ 43 → ⊥
no_plus [] e i = cc e
no_plus (c ∷ cs) e i = clash (is_ascii_digit c) (both_true (is_ascii_digit c) _ e).0 (ap is_ascii_digit i)

rest_plain : (w : List ℕ) → starts_plainly w ≡ true → all_ascii_digits w ≡ true → is_numeral w ≡ true
rest_plain [] e a = cc e
rest_plain (c ∷ cs) e a = and_true (all_ascii_digits (c ∷ cs)) (starts_plainly (c ∷ cs)) a e

-- what `parse` says where it reads a number
abbrev pub Parsed : List ℕ → Type 0
Parsed w = IsNumeral 10 (without_leading_plus w) × (digits_value 10 (without_leading_plus w) < 2 ^ 128)

pub numeral_parsed : (w : List ℕ) (n : ℕ) → starts_plainly w ≡ true → Parsed w × (n ≡ digits_value 10 (without_leading_plus w)) → numeral (2 ^ 128) w ≡ Some n
numeral_parsed w n s h =
    let p = parse_plain model {E = ℕ} 128 w (Ok n) h (no_plus w s) in
    numeral_is (2 ^ 128) w n (rest_plain w s p.0.0) (sym p.1) (subst (λ v. v < 2 ^ 128) (sym p.1) p.0.2)

pub numeral_unparsed : (w : List ℕ) → starts_plainly w ≡ true → (Parsed w → ⊥) → numeral (2 ^ 128) w ≡ None
numeral_unparsed w s h =
    let p = parse_plain model {E = ℕ} 128 w (Err 0) h (no_plus w s) in
    numeral_none (2 ^ 128) w (λ t.
    let b = both_true (is_numeral w) (nat_lt (digits_value 10 w) (2 ^ 128)) t in
    let q = plain_of w b.0 in
    p (q.digits, q.some, true_lt (digits_value 10 w) (2 ^ 128) b.1))

-- a number under a smaller limit
pub numeral_small : (limit : ℕ) (w : List ℕ) (n : ℕ) → numeral (2 ^ 128) w ≡ Some n → n < limit → numeral limit w ≡ Some n
unfolding numeral
numeral_small limit w n e h = go (is_numeral w && nat_lt (digits_value 10 w) (2 ^ 128)) refl e
  where
    go : (b : Bool) → (is_numeral w && nat_lt (digits_value 10 w) (2 ^ 128)) ≡ b → cond b (Some (digits_value 10 w)) None ≡ Some n → numeral limit w ≡ Some n
    go true t f = let v : digits_value 10 w ≡ n = cc f in numeral_is limit w n (both_true (is_numeral w) _ t).0 v h
    go false t f = cc f

pub numeral_large : (limit : ℕ) (w : List ℕ) (n : ℕ) → numeral (2 ^ 128) w ≡ Some n → limit ≤ n → numeral limit w ≡ None
unfolding numeral
numeral_large limit w n e h = numeral_none limit w (λ t.
    let b = both_true (is_numeral w) (nat_lt (digits_value 10 w) limit) t in
    go (is_numeral w && nat_lt (digits_value 10 w) (2 ^ 128)) e (true_lt (digits_value 10 w) limit b.1))
  where
    go : (b : Bool) → cond b (Some (digits_value 10 w)) None ≡ Some n → digits_value 10 w < limit → ⊥
    go true f l = let v : digits_value 10 w ≡ n = cc f in absurd (omega (arith, v, l, h))
    go false f l = absurd (no f)
      where
        no : None ≡ Some n → ⊥
        no g = let x : false ≡ true = ap (λ o. there o) g in absurd (differ x)
          where
            there : Option ℕ → Bool
            there None = false
            there (Some y) = true

            differ : false ≡ true → ⊥
            differ i = cc i

pub numeral_none_small : (limit : ℕ) (w : List ℕ) → limit ≤ 2 ^ 128 → numeral (2 ^ 128) w ≡ None → numeral limit w ≡ None
unfolding numeral
numeral_none_small limit w l e = numeral_none limit w (λ t.
    let b = both_true (is_numeral w) (nat_lt (digits_value 10 w) limit) t in
    let k = true_lt (digits_value 10 w) limit b.1 in
    go (is_numeral w && nat_lt (digits_value 10 w) (2 ^ 128)) e (and_true (is_numeral w) _ b.0 (lt_true (digits_value 10 w) (2 ^ 128) (omega (arith, k, l)))))
  where
    go : (b : Bool) → cond b (Some (digits_value 10 w)) None ≡ None → b ≡ true → ⊥
    go true f t = absurd (some_none f)
      where
        some_none : Some (digits_value 10 w) ≡ None → ⊥
        some_none g = let x : true ≡ false = ap (λ o. there o) g in absurd (differ x)
          where
            there : Option ℕ → Bool
            there None = false
            there (Some y) = true

            differ : true ≡ false → ⊥
            differ i = cc i
    go false f t = cc t

pub below_limit_of : (limit : ℕ) (w : List ℕ) (n : ℕ) → limit ≤ 10 ^ 64 → numeral limit w ≡ Some n → n < limit
below_limit_of limit w n l e = (numeral_back limit w n l e).1

-- the same, for the tactics
pub numeral_small_is : (limit : ℕ) (w : List ℕ) (n : ℕ) → Some n ≡ numeral (2 ^ 128) w → n < limit → Some n ≡ numeral limit w
numeral_small_is limit w n e h = sym (numeral_small limit w n (sym e) h)

pub numeral_large_is : (limit : ℕ) (w : List ℕ) (n : ℕ) → Some n ≡ numeral (2 ^ 128) w → limit ≤ n → None ≡ numeral limit w
numeral_large_is limit w n e h = sym (numeral_large limit w n (sym e) h)

pub numeral_none_is : (limit : ℕ) (w : List ℕ) → limit < 2 ^ 128 → None ≡ numeral (2 ^ 128) w → None ≡ numeral limit w
numeral_none_is limit w l e = sym (numeral_none_small limit w (omega (arith, l)) (sym e))
