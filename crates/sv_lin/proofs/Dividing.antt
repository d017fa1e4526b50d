-- Quotients of rows by the greatest divisor of their numbers, and rows that are added with theirs.
use Rattle.std.proofs.Common.{ℕ, ◌+◌, ◌*◌, ◌^◌, ◌<◌, ◌≤◌, ◌⊎◌, inl, inr, List, [], ◌∷◌, ◌++◌, map, length, ◌≡◌, refl, sym, ap, ap₂, ◌∙◌, subst, arith}
use Rattle.std.proofs.Math.Nat.{mul-le-mul_left, mul-dvd-mul_left}
use Rattle.std.proofs.lemmas.Int.{ints, by_lt_z, unsigned_abs-mul}
use Rattle.std.proofs.lemmas.List.{append-nil, length-map}
use Rattle.std.proofs.lemmas.List.Elements.{Contains-push_cases, Contains-append_left}
use Rattle.std.proofs.lemmas.Nat.Gcd.{dvd_antisymm, le_of_dvd}
use Rattle.std.proofs.lemmas.Option.{slice_get_within}
use Rattle.std.specs.List.{Contains}
use Rattle.std.specs.Int.{◌∣◌}
use Rattle.std.specs.Prelude.{Option, Some, slice_get, unsigned_abs}
use lib.IntN.{ℤ, pos, negsuc, ◌+ℤ◌, ◌*ℤ◌}
use lib.Signed.{◌≤ℤ◌, ◌<ℤ◌}
use Rattle.sv_fraction.proofs.Integers.{spread, multiplied, same_cancelled}
use Rattle.sv_num.specs.Range.{IsI128}
use Rattle.sv_log.specs.LogEntries.{Monomial, Row}
use Rattle.sv_log.specs.LogRows.{monomial, row, times_parts, IsDivided}
use Rattle.sv_row.specs.RowParts.{Divides, IsGreatestDivisor}
use Rattle.sv_cert.specs.declared.log.Row.{Row as CodeRow}
use Rattle.sv_cert.specs.PlainLogs.{plain_row}
use Rattle.sv_lin.specs.Eliminations.{made, HasQuotient, AreDivided}
use Rattle.sv_lin.specs.Quotients.{IsIndivisible, HasNoQuotient, AddsDivided}
use Rattle.sv_lin.specs.Holding.{DividesRow}
use Rattle.sv_lin.specs.declared.made.Made.{Made}
use Rattle.sv_lin.specs.UnderWay.{row_made, entries_of, given, force, IsQuotient, Enters}
use Rattle.sv_lin.proofs.Entering.{get_contained, get_append}
use Rattle.sv_lin.proofs.Gathering.{grows_none, same_some, divides_under, entered_there, get_end, before_or_last}

-- ---- a quotient by the greatest divisor has none

divides_more : (d : ℤ) (e : ℕ) (ps : List Monomial) → Divides e ps → Divides (unsigned_abs d * e) (times_parts d ps)
divides_more d e [] h = tt
divides_more d e (p ∷ ps) h = (subst (λ n. (unsigned_abs d * e) ∣ n) (sym (unsigned_abs-mul d p.factor)) (mul-dvd-mul_left e (unsigned_abs d) h.0), divides_more d e ps h.1)

too_large : (d e : ℕ) → 2 ≤ d → 2 ≤ e → (d * e) ∣ d → ⊥
too_large d e h k v =
    let l = le_of_dvd (omega (arith, h)) v in
    let m : d * 2 ≤ d * e = mul-le-mul_left d k in
    omega (arith, h, l, m)

two_of : (d : ℤ) → pos 2 ≤ℤ d → 2 ≤ unsigned_abs d
two_of (pos d) h = omega (arith, ints, h)
two_of (negsuc d) h = absurd (omega (arith, ints, h))

abs_is : (d : ℤ) → pos 2 ≤ℤ d → d ≡ pos (unsigned_abs d)
abs_is (pos d) h = refl
abs_is (negsuc d) h = absurd (omega (arith, ints, h))

indivisible : (rows : List Row) (r t : Row) (d : ℤ) → IsDivided d r t → IsGreatestDivisor r.parts (unsigned_abs d) → HasQuotient rows t
indivisible rows r t d h g e u k f q =
    absurd (too_large (unsigned_abs d) e (two_of d h.more) (two_of (pos e) q.more)
    (g.greatest (unsigned_abs d * e) (subst (Divides (unsigned_abs d * e)) (sym h.parts) (divides_more d e t.parts k.divides))))

-- ---- there is one quotient

same_divisor : (ps : List Monomial) (d e : ℕ) → IsGreatestDivisor ps d → IsGreatestDivisor ps e → d ≡ e
same_divisor ps d e g h = dvd_antisymm (h.greatest d g.divides) (g.greatest e h.divides)

same_factors : (n : ℕ) (ps qs : List Monomial) → 0 < n → times_parts (pos n) ps ≡ times_parts (pos n) qs → ps ≡ qs
same_factors n [] [] h e = refl
same_factors n [] (q ∷ qs) h e = cc e
same_factors n (p ∷ ps) [] h e = cc e
same_factors n (p ∷ ps) (q ∷ qs) h e =
    let f : monomial (pos n *ℤ p.factor) p.column ≡ monomial (pos n *ℤ q.factor) q.column = cc e in
    let g : times_parts (pos n) ps ≡ times_parts (pos n) qs = cc e in
    ap₂ (λ x xs. x ∷ xs) (ap₂ monomial (same_cancelled n p.factor q.factor h (ap (λ (m : Monomial). m.factor) f)) (ap (λ (m : Monomial). m.column) f)) (same_factors n ps qs h g)

not_above : (n : ℕ) (c x y : ℤ) → 0 < n → c ≤ℤ (pos n *ℤ x) → (pos n *ℤ y) <ℤ (c +ℤ pos n) → y ≤ℤ x
not_above n c x y h a b = by_lt_z x y (λ l. absurd (past l)) (λ k. k)
  where
    past : x <ℤ y → ⊥
    past l =
        let m = multiplied n (x +ℤ pos 1) y (omega (arith, ints, l)) in
        let s = spread (pos n) x (pos 1) in
        omega (arith, ints, a, b, m, s)

both_ways : (a b : ℤ) → a ≤ℤ b → b ≤ℤ a → a ≡ b
both_ways a b h i = omega (arith, ints)

same_quotient : (n : ℕ) (r t u : Row) → IsDivided (pos n) r t → IsDivided (pos n) r u → t ≡ u
same_quotient n r t u h k =
    let p : 0 < n = let m = h.more in omega (arith, ints, m) in
    ap₂ row
    (both_ways t.constant u.constant (not_above n r.constant u.constant t.constant p k.above h.below) (not_above n r.constant t.constant u.constant p h.above k.below))
    (same_factors n t.parts u.parts p (sym h.parts ∙ k.parts))

has_quotient : (rows : List Row) (r t : Row) (d : ℤ) → IsDivided d r t → IsGreatestDivisor r.parts (unsigned_abs d) → Contains rows t → HasQuotient rows r
has_quotient rows r t d h g c e u k f q =
    let i : d ≡ pos e = abs_is d h.more ∙ ap pos (same_divisor r.parts (unsigned_abs d) e g k) in
    subst (Contains rows) (same_quotient e r t u (subst (λ z. IsDivided z r t) i h) q) c

-- ---- the greatest divisor as the code has it

pub no_divisor : (ps : List Monomial) (g : ℕ) → IsGreatestDivisor ps g → (2 ≤ g → g < 2 ^ 127 → ⊥) → IsIndivisible ps
no_divisor ps g h n d k f two =
    let e = same_divisor ps d g k h in
    n (subst (λ z. 2 ≤ z) e (two_of (pos d) two)) (subst (λ z. z < 2 ^ 127) e (within d f))
  where
    within : (d : ℕ) → IsI128 (pos d) → d < 2 ^ 127
    within d f = let u = f.1 in omega (arith, ints, u)

-- ---- rows that are added

pub still : (before after : List Row) → ((r : Row) → Contains before r → Contains after r) → (r : Row) → HasQuotient before r → HasQuotient after r
still before after k r h e u a b c = k u (h e u a b c)

pub none_added : (rows : List Row) → AddsDivided rows rows
none_added rows = record { keeps = λ r c. c; divided = λ r c. inl c }

pub added_then : (a b c : List Row) → AddsDivided a b → AddsDivided b c → AddsDivided a c
added_then a b c g h = record {
  keeps = λ r i. h.keeps r (g.keeps r i);
  divided = λ r i. elim (h.divided r i) [
    | inl j ↦ elim (g.divided r j) [ inl k ↦ inl k | inr k ↦ inr (still b c h.keeps r k) ]
    | inr j ↦ inr j
  ];
}

entered_more : (rows after : List Row) (t : Row) → Enters rows t after → (r : Row) → Contains rows r → Contains after r
entered_more rows after t (inl e) r c = subst (λ z. Contains z r) (sym e.0) c
entered_more rows after t (inr e) r c = subst (λ z. Contains z r) (sym e) (Contains-append_left rows (t ∷ []) r c)

entered_or : (rows after : List Row) (t : Row) → Enters rows t after → (r : Row) → Contains after r → Contains rows r ⊎ (t ≡ r)
entered_or rows after t (inl e) r c = inl (subst (λ z. Contains z r) e.0 c)
entered_or rows after t (inr e) r c = Contains-push_cases rows t r (subst (λ z. Contains z r) e c)

-- ---- a division

pub row_divided : (rows after : List Row) (m : Made) (p : ℕ) → IsQuotient rows p m → Enters rows (row_made m) after → DividesRow p rows after
row_divided rows after m p q e = (
  divides_under rows after m p q e,
  record {
    keeps = entered_more rows after (row_made m) e;
    divided = λ r c. elim (entered_or rows after (row_made m) e r c) [
      | inl i ↦ inl i
      | inr d ↦ inr (subst (HasQuotient after) d (indivisible after q.2 (row_made m) q.0 q.4 q.5))
    ];
  },
  λ r g. subst (HasQuotient after) (same_some q.2 r (slice_get rows p) q.3 g) (has_quotient after q.2 (row_made m) q.0 q.4 q.5 (entered_there rows after (row_made m) e)),
)

pub none_divided : (rows : List Row) (p : ℕ) → HasNoQuotient rows p → DividesRow p rows rows
none_divided rows p n = (λ x r g b. grows_none x rows, none_added rows, λ r g e u k f q. absurd (n r g e k f q.more))

-- ---- a sum and its quotient

pub sum_divided : (rows mid after : List Row) (t : Row) (n : ℕ) → AreDivided rows → Enters rows t mid → n ≡ length rows → n < length mid → DividesRow n mid after → AreDivided after
sum_divided rows mid after t n a (inl e) h l d r c = absurd (let k = ap length e.0 in omega (arith, h, l, k))
sum_divided rows mid after t n a (inr e) h l d r c = elim (d.1.divided r c) [
  | inl i ↦ elim (entered_or rows mid t (inr e) r i) [
    | inl j ↦ still rows after (λ u k. d.1.keeps u (entered_more rows mid t (inr e) u k)) r (a r j)
    | inr f ↦ subst (HasQuotient after) f (d.2 t (ap₂ slice_get e h ∙ get_end rows t))
  ]
  | inr i ↦ i
]

-- a sum that was there
pub sum_was_divided : (rows mid : List Row) (t : Row) (n l : ℕ) → AreDivided rows → Enters rows t mid → n ≡ length rows → l ≡ length mid → l ≤ n → AreDivided mid
sum_was_divided rows mid t n l a (inl e) h k b = subst AreDivided (sym e.0) a
sum_was_divided rows mid t n l a (inr e) h k b = absurd (let d = ap length e ∙ length_push rows t in omega (arith, h, k, d, b))
  where
    length_push : (xs : List Row) (t : Row) → length (xs ++ t ∷ []) ≡ length xs + 1
    length_push [] t = refl
    length_push (x ∷ xs) t = let h = length_push xs t in omega (arith, h)

-- ---- the given rows

-- the first n of them have their quotients
pub record DividesFirst (rows : List CodeRow) (ms : List Made) (n : ℕ) : Type 0 where
  pub added : AddsDivided (given rows) (force rows ms)
  pub firsts : (p : ℕ) → p < n → (r : Row) → slice_get (given rows) p ≡ Some r → HasQuotient (force rows ms) r

pub no_firsts : (rows : List CodeRow) (ms : List Made) → ms ≡ [] → DividesFirst rows ms 0
no_firsts rows ms e = record {
  added = subst (AddsDivided (given rows)) (sym (ap (force rows) e ∙ append-nil (given rows))) (none_added (given rows));
  firsts = λ p l. absurd (omega (arith, l));
}

pub one_more_first : (rows : List CodeRow) (old new : List Made) (n : ℕ) → DividesFirst rows old n → DividesRow n (force rows old) (force rows new) → DividesFirst rows new (n + 1)
one_more_first rows old new n f d = record {
  added = added_then (given rows) (force rows old) (force rows new) f.added d.1;
  firsts = λ p l r g. elim (before_or_last n p l) [
    | inl h ↦ still (force rows old) (force rows new) d.1.keeps r (f.firsts p h r g)
    | inr h ↦ d.2 r (ap (slice_get (force rows old)) h ∙ get_append (given rows) (made (entries_of old)) p r g)
  ];
}

pub all_firsts : (rows : List CodeRow) (ms : List Made) (n : ℕ) → length rows ≤ n → DividesFirst rows ms n → AreDivided (force rows ms)
all_firsts rows ms n l f r c = elim (f.added.divided r c) [
  | inl i ↦
      let g = get_contained (given rows) r i in
      let a = slice_get_within (given rows) g.0 r g.1 in
      let b = length-map rows plain_row in
      f.firsts g.0 (omega (arith, l, a, b)) r g.1
  | inr h ↦ h
]
