-- The lines of a list of bytes, and how they end.
use Rattle.std.proofs.Common.{◌≡◌, ◌==◌, ℕ, zero, suc, ◌+◌, ◌%◌, ◌/◌, ◌<◌, ◌⊎◌, inl, inr, ◌&&◌, not, Bool, true, false, if◌then◌else◌, List, [], ◌∷◌, ◌++◌, refl, sym, ap, subst, ◌∙◌, arith, append_assoc, append-nil, codes}
use Rattle.std.specs.List.{list_all}
use Rattle.std.specs.Fmt.{decimal, digits, digits_onto, digit_glyph}
use Rattle.std.proofs.lemmas.Bool.{lt-ltb}
use Rattle.std.proofs.lemmas.Bool.Decides.{eqb_tells}
use Rattle.sv_cli.specs.Headline.{IsAtLineStart, HasLine}
use Rattle.sv_first_judge.specs.Verdict.{verdict_text}
use Rattle.sv_first_judge.specs.declared.verdict.Verdict.{Verdict}
use Rattle.sv_first_judge.specs.declared.verdict.Verdict.TheVariants.{Verified, Unproved}

abbrev pub is_free : List ℕ → Bool
is_free = list_all (λ b. not (b == 10))

both : (a b : Bool) → (a && b) ≡ true → (a ≡ true) × (b ≡ true)
both true b h = (refl, h)
both false b h = cc

pub and_both : (a b : Bool) → a ≡ true → b ≡ true → (a && b) ≡ true
and_both true b p q = q
and_both false b p q = cc

pub free-append : (xs ys : List ℕ) → is_free xs ≡ true → is_free ys ≡ true → is_free (xs ++ ys) ≡ true
free-append [] ys p q = q
free-append (x ∷ xs) ys p q =
    let parts = both (not (x == 10)) (is_free xs) p in
    and_both (not (x == 10)) (is_free (xs ++ ys)) parts.0 (free-append xs ys parts.1 q)

-- a newline is not free of newlines
newline_not : {P : Type 0} (a : ℕ) → a ≡ 10 → not (a == 10) ≡ true → P
newline_not a e h = absurd (no (subst (λ (n : ℕ). not (n == 10) ≡ true) e h))
  where
    no : false ≡ true → ⊥
    no h = cc

-- two texts without newlines before a newline are the same, and so is what follows
same_front : (x y s t : List ℕ) → is_free x ≡ true → is_free y ≡ true → x ++ 10 ∷ s ≡ y ++ 10 ∷ t → (x ≡ y) × (s ≡ t)
same_front [] [] s t p q e = (refl, cc)
same_front [] (b ∷ y) s t p q e =
    let same : 10 ≡ b = cc in newline_not b (sym same) (both (not (b == 10)) (is_free y) q).0
same_front (a ∷ x) [] s t p q e =
    let same : a ≡ 10 = cc in newline_not a same (both (not (a == 10)) (is_free x) p).0
same_front (a ∷ x) (b ∷ y) s t p q e =
    let head : a ≡ b = cc in
    let tail : x ++ 10 ∷ s ≡ y ++ 10 ∷ t = cc in
    let rest = same_front x y s t (both (not (a == 10)) (is_free x) p).1 (both (not (b == 10)) (is_free y) q).1 tail in
    (ap (λ (c : ℕ). c ∷ x) head ∙ ap (λ (l : List ℕ). b ∷ l) rest.0, rest.1)

-- a line that doesn't begin a text whose first line is x is a line of the rest
later : (x t : List ℕ) (b : ℕ) (before line after : List ℕ) → is_free x ≡ true → is_free line ≡ true → IsAtLineStart (b ∷ before)
    → x ++ 10 ∷ t ≡ (b ∷ before) ++ (line ++ 10 ∷ after) → HasLine t line
later [] t b [] line after p q begins e = record { before = []; after = after; place = cc; begins = tt; no_newline = q }
later [] t b (c ∷ before) line after p q begins e = record { before = c ∷ before; after = after; place = cc; begins = begins; no_newline = q }
later (a ∷ x) t b [] line after p q begins e =
    let same : a ≡ b = cc in newline_not a (same ∙ begins) (both (not (a == 10)) (is_free x) p).0
later (a ∷ x) t b (c ∷ before) line after p q begins e =
    later x t c before line after (both (not (a == 10)) (is_free x) p).1 q begins cc

first_or_later : (x t before line after : List ℕ) → is_free x ≡ true → is_free line ≡ true → IsAtLineStart before
    → x ++ 10 ∷ t ≡ before ++ (line ++ 10 ∷ after) → (line ≡ x) ⊎ HasLine t line
first_or_later x t [] line after p q begins e = inl (sym (same_front x line t after p q e).0)
first_or_later x t (b ∷ before) line after p q begins e = inr (later x t b before line after p q begins e)

-- a line of a text whose first line is x is x, or a line of the rest
pub line_cases : (x t line : List ℕ) → is_free x ≡ true → HasLine (x ++ 10 ∷ t) line → (line ≡ x) ⊎ HasLine t line
line_cases x t line free has = first_or_later x t has.before line has.after free has.no_newline has.begins has.place

nothing_before : (before line after : List ℕ) → [] ≡ before ++ (line ++ 10 ∷ after) → ⊥
nothing_before [] [] after e = cc
nothing_before [] (b ∷ line) after e = cc
nothing_before (b ∷ before) line after e = cc

pub no_line : (line : List ℕ) → HasLine [] line → ⊥
no_line line has = nothing_before has.before line has.after has.place

-- a line of a front of a text is a line of the text
pub line_of_front : (front rest line : List ℕ) → HasLine front line → HasLine (front ++ rest) line
line_of_front front rest line has = record {
  before = has.before;
  after = has.after ++ rest;
  place = ap (λ (f : List ℕ). f ++ rest) has.place ∙ append_assoc has.before (line ++ 10 ∷ has.after) rest
      ∙ ap (λ (f : List ℕ). has.before ++ f) (append_assoc line (10 ∷ has.after) rest);
  begins = has.begins;
  no_newline = has.no_newline;
}

-- the last byte
abbrev pub last : List ℕ → ℕ
last [] = 0
last (b ∷ []) = b
last (_ ∷ b ∷ bs) = last (b ∷ bs)

pub last-append : (xs : List ℕ) (b : ℕ) (ys : List ℕ) → last (xs ++ b ∷ ys) ≡ last (b ∷ ys)
last-append [] b ys = refl
last-append (x ∷ []) b ys = refl
last-append (x ∷ a ∷ xs) b ys = last-append (a ∷ xs) b ys

-- what holds of no digits and of one digit more holds of the digits of a number
glyph : (n : ℕ) → digit_glyph false (n % 10) ≡ 48 + n % 10
glyph n = ap (λ (b : Bool). if b then 48 + n % 10 else 87 + n % 10) (lt-ltb (n % 10) 10 (omega arith))

digits_keep : (P : List ℕ → Type 0) → ((d : ℕ) (acc : List ℕ) → d < 10 → P acc → P ((48 + d) ∷ acc))
    → (k n : ℕ) (acc : List ℕ) → P acc → P (digits_onto k 10 false n acc)
digits_keep P more zero n acc start = start
digits_keep P more (suc k) n acc start =
    let one : P (digit_glyph false (n % 10) ∷ acc) = subst (λ (g : ℕ). P (g ∷ acc)) (sym (glyph n)) (more (n % 10) acc (omega arith) start) in
    by_test (n / 10 == 0) one (digits_keep P more k (n / 10) (digit_glyph false (n % 10) ∷ acc) one)
  where
    by_test : (b : Bool) → P (digit_glyph false (n % 10) ∷ acc) → P (digits_onto k 10 false (n / 10) (digit_glyph false (n % 10) ∷ acc))
        → P (if b then digit_glyph false (n % 10) ∷ acc else digits_onto k 10 false (n / 10) (digit_glyph false (n % 10) ∷ acc))
    by_test true one rest = one
    by_test false one rest = rest

pub not_newline : (b : ℕ) → (b ≡ 10 → ⊥) → not (b == 10) ≡ true
not_newline b ne =
    elim (eqb_tells b 10) [
      | inl same ↦ absurd (ne same.1)
      | inr other ↦ ap not other.0
    ]

-- the digits of a number have no newline
pub free-decimal : (n : ℕ) → is_free (decimal n) ≡ true
unfolding digits
free-decimal n = digits_keep (λ (ds : List ℕ). is_free ds ≡ true) more 64 n [] refl
  where
    more : (d : ℕ) (acc : List ℕ) → d < 10 → is_free acc ≡ true → is_free ((48 + d) ∷ acc) ≡ true
    more d acc lt free = and_both (not ((48 + d) == 10)) (is_free acc) (not_newline (48 + d) (λ e. omega arith)) free

-- they end below `:`
last-decimal : (n : ℕ) → last (decimal n) < 58
unfolding digits
last-decimal n = digits_keep (λ (ds : List ℕ). last ds < 58) more 64 n [] (omega arith)
  where
    more : (d : ℕ) (acc : List ℕ) → d < 10 → last acc < 58 → last ((48 + d) ∷ acc) < 58
    more d [] lt below = omega arith
    more d (a ∷ acc) lt below = below

last_below : (xs ys : List ℕ) → last xs < 58 → last ys < 58 → last (xs ++ ys) < 58
last_below xs [] below_x below_y = subst (λ (l : List ℕ). last l < 58) (sym (append-nil xs)) below_x
last_below xs (y ∷ ys) below_x below_y = omega (arith, last-append xs y ys)

-- a verdict ends in no `s`
pub verdict_end : (pre name : List ℕ) (v : Verdict) → name ++ codes ": holds" ≡ pre ++ verdict_text v → ⊥
verdict_end pre name (Verified n) e =
    let left : last (name ++ codes ": holds") ≡ 115 = last-append name 58 (codes " holds") in
    let right : last (pre ++ (codes "verified " ++ decimal n)) ≡ last (codes "verified " ++ decimal n) = last-append pre 118 (codes "erified " ++ decimal n) in
    omega (arith, left, right, ap last e, last_below (codes "verified ") (decimal n) (omega arith) (last-decimal n))
verdict_end pre name (Unproved k) e =
    let left : last (name ++ codes ": holds") ≡ 115 = last-append name 58 (codes " holds") in
    let inner : last (codes "unproved invariant " ++ decimal k ++ codes " at end") ≡ 100 = last-append (codes "unproved invariant " ++ decimal k) 32 (codes "at end") in
    let right : last (pre ++ (codes "unproved invariant " ++ decimal k ++ codes " at end")) ≡ last (codes "unproved invariant " ++ decimal k ++ codes " at end") =
    last-append pre 117 (codes "nproved invariant " ++ decimal k ++ codes " at end") in
    omega (arith, left, right, ap last e, inner)

-- the text of a verdict has no newline
pub free_verdict : (v : Verdict) → is_free (verdict_text v) ≡ true
free_verdict (Verified n) = free-append (codes "verified ") (decimal n) refl (free-decimal n)
free_verdict (Unproved k) =
    free-append (codes "unproved invariant " ++ decimal k) (codes " at end")
    (free-append (codes "unproved invariant ") (decimal k) refl (free-decimal k)) refl
