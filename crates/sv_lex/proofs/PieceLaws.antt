-- A text begins with one piece at most.
use Rattle.std.proofs.Common.{◌≡◌, ◌==◌, ℕ, ◌≤◌, inl, inr, Bool, true, false, not, ◌&&◌, ◌||◌, cond, List, [], ◌∷◌, ◌++◌, Contains, codes, length, nat_le, refl, sym, ap, ap₂, ◌∙◌, subst, arith, lit<}
use Rattle.std.specs.List.{AllPass, list_all}
use Rattle.std.proofs.lemmas.Bool.{both_ways, and_parts, or_cases, eqb-true, eqb-false, false_from_ne_true, not_from_true, not-true}
use Rattle.std.proofs.lemmas.Bool.Decides.{nat_tests}
use Rattle.std.proofs.lemmas.List.Elements.{All-head, All-tail, All-cons, All-nil, All-append, All-contains, All-weaker, Contains-append_left, Contains-append_right}
use Rattle.std.proofs.lemmas.List.Sums.{AllPass-from_list_all}
use Rattle.std.proofs.lemmas.List.{append_cancel_left, append_assoc, length-append}
use Rattle.sv_lex.specs.Bytes.{is_digit, is_hex_digit, begins_word, continues_word, is_separator, is_newline, is_star, is_slash, is_semicolon, is_quote, DoesNotBegin, DoesBegin}
use Rattle.sv_lex.specs.Forms.{IsWord, pragma, IsPragma, is_group, is_grouped, IsWhole, IsExponent, IsDecimal, IsHexadecimal, IsNumeral, is_plain, is_escaped, IsInside, nothing, plain, escape, code, long_code, IsString, marks, openers, IsLongest}
use Rattle.sv_lex.specs.Pieces.{Piece, space, line_comment, block_comment, token, written, EndsLine, IsOpen, Fits, Starts}
use Rattle.sv_lex.specs.declared.tok.Tok.{Tok}
use Rattle.sv_lex.specs.declared.tok.Tok.TheVariants.{Word, Number, Hex, Str, Punct, Pragma, Note, End}

-- ---- fronts of a text

-- a text splits in one way into a front that passes and a rest that doesn't begin so
pub split_once : (p : ℕ → Bool) (g h t u : List ℕ) → AllPass p g → AllPass p h → DoesNotBegin p t → DoesNotBegin p u → g ++ t ≡ h ++ u → (g ≡ h) × (t ≡ u)
split_once p [] [] t u _ _ _ _ e = (refl, e)
split_once p [] (b ∷ h) t u _ all not_t _ e =
    let stops : p b ≡ false = subst (DoesNotBegin p) e not_t in
    absurd (both_ways (p b) stops (All-head (λ x. p x ≡ true) b h all))
split_once p (a ∷ g) [] t u all _ _ not_u e =
    let stops : p a ≡ false = subst (DoesNotBegin p) (sym e) not_u in
    absurd (both_ways (p a) stops (All-head (λ x. p x ≡ true) a g all))
split_once p (a ∷ g) (b ∷ h) t u all_g all_h not_t not_u e =
    let heads : a ≡ b = cc in
    let tails : g ++ t ≡ h ++ u = cc in
    let rest = split_once p g h t u (All-tail (λ x. p x ≡ true) a g all_g) (All-tail (λ x. p x ≡ true) b h all_h) not_t not_u tails in
    (ap₂ (λ (x : ℕ) (xs : List ℕ). x ∷ xs) heads rest.0, rest.1)

-- two fronts of a text are equal, or one ends before the other
pub data Fronts (xs ys t u : List ℕ) : Type 0 where
  same : xs ≡ ys → t ≡ u → Fronts xs ys t u
  first_ends : (b : ℕ) (more : List ℕ) → ys ≡ xs ++ b ∷ more → t ≡ b ∷ more ++ u → Fronts xs ys t u
  second_ends : (b : ℕ) (more : List ℕ) → xs ≡ ys ++ b ∷ more → u ≡ b ∷ more ++ t → Fronts xs ys t u

longer : (x y : ℕ) (xs ys t u : List ℕ) → x ≡ y → Fronts xs ys t u → Fronts (x ∷ xs) (y ∷ ys) t u
longer x y xs ys t u e (same f g) = same (ap₂ (λ (z : ℕ) (zs : List ℕ). z ∷ zs) e f) g
longer x y xs ys t u e (first_ends b more f g) = first_ends b more (ap₂ (λ (z : ℕ) (zs : List ℕ). z ∷ zs) (sym e) f) g
longer x y xs ys t u e (second_ends b more f g) = second_ends b more (ap₂ (λ (z : ℕ) (zs : List ℕ). z ∷ zs) e f) g

pub fronts : (xs ys t u : List ℕ) → xs ++ t ≡ ys ++ u → Fronts xs ys t u
fronts [] [] t u e = same refl e
fronts [] (y ∷ ys) t u e = first_ends y ys refl e
fronts (x ∷ xs) [] t u e = second_ends x xs refl (sym e)
fronts (x ∷ xs) (y ∷ ys) t u e =
    let heads : x ≡ y = cc in
    let tails : xs ++ t ≡ ys ++ u = cc in
    longer x y xs ys t u heads (fronts xs ys t u tails)

-- fronts of one length are equal
pub append_once : (xs ys t u : List ℕ) → length xs ≡ length ys → xs ++ t ≡ ys ++ u → (xs ≡ ys) × (t ≡ u)
append_once xs ys t u same_length e = by (fronts xs ys t u e)
  where
    by : Fronts xs ys t u → (xs ≡ ys) × (t ≡ u)
    by (same f g) = (f, g)
    by (first_ends b more f g) = absurd (omega (arith, ap length f, length-append xs (b ∷ more)))
    by (second_ends b more f g) = absurd (omega (arith, ap length f, length-append ys (b ∷ more)))

-- texts that begin with two bytes differ
pub apart : (a b : ℕ) (xs ys : List ℕ) → (a == b) ≡ false → a ∷ xs ≡ b ∷ ys → ⊥
apart a b xs ys n e = let heads : a ≡ b = cc in eqb-false a b n heads

pub rest_of : (a b : ℕ) (xs ys : List ℕ) → a ∷ xs ≡ b ∷ ys → xs ≡ ys
rest_of a b xs ys e = cc

pub byte_of : (a b : ℕ) (xs ys : List ℕ) → a ∷ xs ≡ b ∷ ys → a ≡ b
byte_of a b xs ys e = cc

-- ---- classes of bytes

pub either : {P : Type 0} (x y : Bool) → (x || y) ≡ true → (x ≡ true → P) → (y ≡ true → P) → P
either x y h f g = elim (or_cases x y h) [ inl e ↦ f e | inr e ↦ g e ]

at_byte : (P : ℕ → Type 0) (c b : ℕ) → P c → (b == c) ≡ true → P b
at_byte P c b h e = subst P (sym (eqb-true b c e)) h

-- a byte that passes a test isn't one that doesn't
pub not_byte : (c : ℕ) (p : ℕ → Bool) → p c ≡ false → (b : ℕ) → p b ≡ true → (b == c) ≡ false
not_byte c p h b k = false_from_ne_true (b == c) (λ (e : (b == c) ≡ true). both_ways (p b) (ap p (eqb-true b c e) ∙ h) k)

pub by_separator : (P : ℕ → Type 0) → P 32 → P 9 → P 13 → P 10 → (b : ℕ) → is_separator b ≡ true → P b
by_separator P p q r s b h =
    either _ _ h (λ h. either _ _ h (λ h. either _ _ h (at_byte P 32 b p) (at_byte P 9 b q)) (at_byte P 13 b r)) (at_byte P 10 b s)

pub by_quote : (P : ℕ → Type 0) → P 34 → P 39 → (b : ℕ) → is_quote b ≡ true → P b
by_quote P p q b h = either _ _ h (at_byte P 34 b p) (at_byte P 39 b q)

digit_begins_no_word : (b : ℕ) → is_digit b ≡ true → begins_word b ≡ false
digit_begins_no_word b h = grind (arith, nat_tests)

word_continues : (b : ℕ) → begins_word b ≡ true → continues_word b ≡ true
word_continues b h = ap (λ x. x || is_digit b) h

digit_continues : (b : ℕ) → is_digit b ≡ true → continues_word b ≡ true
digit_continues b h = ap (λ x. x || is_digit b) (digit_begins_no_word b h) ∙ h

hex_digit_continues : (b : ℕ) → is_hex_digit b ≡ true → continues_word b ≡ true
hex_digit_continues b h = grind (arith, nat_tests)

-- ---- the longest runs of word characters

pub word_passes : (w : List ℕ) → IsWord w → AllPass continues_word w
word_passes [] h = absurd h
word_passes (b ∷ bs) h = All-cons (λ x. continues_word x ≡ true) b bs (word_continues b h.0) h.1

group_step : (digit : ℕ → Bool) → ((b : ℕ) → digit b ≡ true → continues_word b ≡ true) → (after : Bool) (b : ℕ) (bs : List ℕ)
    → ((before : Bool) → is_group digit before bs ≡ true → AllPass continues_word bs) → is_group digit after (b ∷ bs) ≡ true → AllPass continues_word (b ∷ bs)
group_step digit continues after b bs others h =
    by (digit b) refl h
  where
    by : (is : Bool) → digit b ≡ is → cond is (is_group digit true bs) ((b == 95) && (after && is_group digit false bs)) ≡ true → AllPass continues_word (b ∷ bs)
    by true e h = All-cons (λ x. continues_word x ≡ true) b bs (continues b e) (others true h)
    by false e h =
        let parts = and_parts (b == 95) (after && is_group digit false bs) h in
        All-cons (λ x. continues_word x ≡ true) b bs (at_byte (λ x. continues_word x ≡ true) 95 b refl parts.0)
        (others false (and_parts after (is_group digit false bs) parts.1).1)

group_passes : (digit : ℕ → Bool) → ((b : ℕ) → digit b ≡ true → continues_word b ≡ true) → (after : Bool) (bs : List ℕ) → is_group digit after bs ≡ true → AllPass continues_word bs
group_passes digit continues after [] h = All-nil (λ x. continues_word x ≡ true)
group_passes digit continues after (b ∷ bs) h =
    group_step digit continues after b bs (λ before. group_passes digit continues before bs) h

-- what begins a group of digits is a digit
group_begins : (digit : ℕ → Bool) (b : ℕ) (bs : List ℕ) → is_grouped digit (b ∷ bs) ≡ true → digit b ≡ true
group_begins digit b bs h = by (digit b) (is_group digit true bs) (b == 95) h
  where
    by : (v w x : Bool) → cond v w (x && false) ≡ true → v ≡ true
    by true w x h = refl
    by false w true h = cc
    by false w false h = cc

whole_passes : (whole : List ℕ) → IsWhole whole → AllPass continues_word whole
whole_passes whole (inl e) = subst (AllPass continues_word) (sym e) (All-cons (λ x. continues_word x ≡ true) 48 [] refl (All-nil (λ x. continues_word x ≡ true)))
whole_passes whole (inr h) = group_passes is_digit digit_continues false whole h.0

exponent_passes : (bytes : List ℕ) → IsExponent bytes → AllPass continues_word bytes
exponent_passes bytes (inl e) = subst (AllPass continues_word) (sym e) (All-nil (λ x. continues_word x ≡ true))
exponent_passes bytes (inr h) =
    subst (AllPass continues_word) (sym h.1)
    (All-cons (λ x. continues_word x ≡ true) 101 h.0 refl (All-weaker (λ x. is_digit x ≡ true) (λ x. continues_word x ≡ true) digit_continues h.0 h.2))

decimal_passes : (w : List ℕ) → IsDecimal w → AllPass continues_word w
decimal_passes w h =
    subst (AllPass continues_word) (sym h.spelled)
    (All-append (λ x. continues_word x ≡ true) h.whole h.exponent (whole_passes h.whole h.is_whole) (exponent_passes h.exponent h.is_exponent))

hexadecimal_passes : (w : List ℕ) → IsHexadecimal w → AllPass continues_word w
hexadecimal_passes w h =
    subst (AllPass continues_word) (sym h.spelled)
    (All-cons (λ x. continues_word x ≡ true) 48 (120 ∷ h.digits) refl
    (All-cons (λ x. continues_word x ≡ true) 120 h.digits refl (group_passes is_hex_digit hex_digit_continues false h.digits h.grouped)))

pub numeral_passes : (w : List ℕ) → IsNumeral w → AllPass continues_word w
numeral_passes w (inl h) = decimal_passes w h
numeral_passes w (inr h) = hexadecimal_passes w h

-- a decimal number begins with `0` alone, or with another digit, and a hexadecimal one with `0x`
decimal_is_not_hexadecimal : (w : List ℕ) → IsDecimal w → IsHexadecimal w → ⊥
decimal_is_not_hexadecimal w h k = by h.whole h.exponent h.is_whole h.is_exponent (sym h.spelled ∙ k.spelled)
  where
    by : (whole exponent : List ℕ) → IsWhole whole → IsExponent exponent → whole ++ exponent ≡ codes "0x" ++ k.digits → ⊥
    by whole exponent (inl e) (inl f) g =
        let same : codes "0" ++ [] ≡ codes "0x" ++ k.digits = ap₂ (λ (x y : List ℕ). x ++ y) (sym e) (sym f) ∙ g in
        let none : [] ≡ 120 ∷ k.digits = rest_of 48 48 [] (120 ∷ k.digits) same in
        cc
    by whole exponent (inl e) (inr f) g =
        let same : codes "0" ++ 101 ∷ f.0 ≡ codes "0x" ++ k.digits = ap₂ (λ (x y : List ℕ). x ++ y) (sym e) (sym f.1) ∙ g in
        apart 101 120 f.0 k.digits refl (rest_of 48 48 (101 ∷ f.0) (120 ∷ k.digits) same)
    by [] exponent (inr e) f g = both_ways false refl e.0
    by (b ∷ bs) exponent (inr e) f g = both_ways (b == 48) e.1 (ap (λ (x : ℕ). x == 48) (byte_of b 48 (bs ++ exponent) (120 ∷ k.digits) g))

-- ---- what a text begins with, by its first byte
pub data Sort : Type 0 where
  wording : Sort
  numbering : Sort
  spacing : Sort
  quoting : Sort
  marking : Sort
  absent : Sort

abbrev pub sort_at : ℕ → Sort
sort_at b =
    cond (begins_word b) wording (cond (is_digit b) numbering (cond (is_separator b) spacing (cond (is_quote b) quoting marking)))

abbrev pub sort_ahead : List ℕ → Sort
sort_ahead [] = absent
sort_ahead (b ∷ _) = sort_at b

abbrev pub sort_of_token : Tok → Sort
sort_of_token Word = wording
sort_of_token Number = numbering
sort_of_token Hex = numbering
sort_of_token Str = quoting
sort_of_token Punct = marking
sort_of_token Pragma = wording
sort_of_token Note = absent
sort_of_token End = absent

abbrev pub sort_of : Piece → Sort
sort_of (space b) = spacing
sort_of (line_comment body) = marking
sort_of (block_comment body) = marking
sort_of (token kind bytes) = sort_of_token kind

pub sort_of_word : (b : ℕ) → begins_word b ≡ true → sort_at b ≡ wording
sort_of_word b h = rw h refl

pub sort_of_digit : (b : ℕ) → is_digit b ≡ true → sort_at b ≡ numbering
sort_of_digit b h = rw (digit_begins_no_word b h, h) refl

pub sort_of_separator : (b : ℕ) → is_separator b ≡ true → sort_at b ≡ spacing
sort_of_separator = by_separator (λ b. sort_at b ≡ spacing) refl refl refl refl

pub sort_of_quote : (b : ℕ) → is_quote b ≡ true → sort_at b ≡ quoting
sort_of_quote = by_quote (λ b. sort_at b ≡ quoting) refl refl

-- ---- punctuation

-- a test that all punctuation passes, which computes
pub each_mark : (p : List ℕ → Bool) → list_all p marks ≡ true → (m : List ℕ) → Contains marks m → p m ≡ true
each_mark p h m is = All-contains (λ m. p m ≡ true) marks m (AllPass-from_list_all p marks h) is

abbrev is_marking : Sort → Bool
is_marking marking = true
is_marking _ = false

marking_from : (s : Sort) → is_marking s ≡ true → s ≡ marking
marking_from marking h = refl
marking_from wording h = cc
marking_from numbering h = cc
marking_from spacing h = cc
marking_from quoting h = cc
marking_from absent h = cc

marks_begin : (m : List ℕ) → Contains marks m → is_marking (sort_ahead m) ≡ true
unfolding marks
marks_begin = each_mark (λ m. is_marking (sort_ahead m)) refl

pub sort_of_mark : (m rest : List ℕ) → Contains marks m → sort_ahead (m ++ rest) ≡ marking
sort_of_mark [] rest h = let none : false ≡ true = marks_begin [] h in cc
sort_of_mark (b ∷ bs) rest h = marking_from (sort_at b) (marks_begin (b ∷ bs) h)

-- `//` or `/*`
abbrev opens_comment : List ℕ → Bool
opens_comment (a ∷ b ∷ bs) = is_slash a && (is_slash b || is_star b)
opens_comment _ = false

no_mark_opens_comment : (m : List ℕ) → Contains marks m → not (opens_comment m) ≡ true
unfolding marks
no_mark_opens_comment = each_mark (λ m. not (opens_comment m)) refl

pub line_opens : (marks : List (List ℕ)) → Contains (openers ++ marks) (codes "//")
unfolding openers
line_opens marks = Contains-append_left openers marks (codes "//") (0, lit< tt, refl)

pub block_opens : (marks : List (List ℕ)) → Contains (openers ++ marks) (codes "/*")
unfolding openers
block_opens marks = Contains-append_left openers marks (codes "/*") (1, lit< tt, refl)

-- ---- the sort of each piece

sort_of_whole : (whole rest : List ℕ) → IsWhole whole → sort_ahead (whole ++ rest) ≡ numbering
sort_of_whole whole rest (inl e) = ap (λ (w : List ℕ). sort_ahead (w ++ rest)) e
sort_of_whole [] rest (inr h) = absurd (both_ways false refl h.0)
sort_of_whole (b ∷ bs) rest (inr h) = sort_of_digit b (group_begins is_digit b bs h.0)

pub sort_of_numeral : (w rest : List ℕ) → IsNumeral w → sort_ahead (w ++ rest) ≡ numbering
sort_of_numeral w rest (inl h) =
    ap (λ (x : List ℕ). sort_ahead (x ++ rest)) h.spelled ∙ ap sort_ahead (append_assoc h.whole h.exponent rest)
    ∙ sort_of_whole h.whole (h.exponent ++ rest) h.is_whole
sort_of_numeral w rest (inr h) = ap (λ (x : List ℕ). sort_ahead (x ++ rest)) h.spelled

pub sort_of_string : (w rest : List ℕ) → IsString w → sort_ahead (w ++ rest) ≡ quoting
sort_of_string w rest h = ap (λ (x : List ℕ). sort_ahead (x ++ rest)) h.spelled ∙ sort_of_quote h.quote h.is_quoted

pub sort_of_pragma : (w rest : List ℕ) → IsPragma w → sort_ahead (w ++ rest) ≡ wording
sort_of_pragma w rest h = ap (λ (x : List ℕ). sort_ahead (x ++ rest)) h.spelled

sort_written : (p : Piece) (rest : List ℕ) → Fits p rest → sort_ahead (written p ++ rest) ≡ sort_of p
sort_written (space b) rest h = sort_of_separator b h
sort_written (line_comment body) rest h = refl
sort_written (block_comment body) rest h = refl
sort_written (token Word []) rest h = absurd h.0.0
sort_written (token Word (b ∷ bs)) rest h = sort_of_word b h.0.0.0
sort_written (token Number w) rest h = sort_of_numeral w rest (inl h.0)
sort_written (token Hex w) rest h = sort_of_numeral w rest (inr h.0)
sort_written (token Str w) rest h = sort_of_string w rest h.0
sort_written (token Punct w) rest h = sort_of_mark w rest h.0
sort_written (token Pragma w) rest h = sort_of_pragma w rest h.0
sort_written (token Note w) rest h = absurd h.0
sort_written (token End w) rest h = absurd h.0

pub sort_known : (text : List ℕ) (p : Piece) (rest : List ℕ) → Starts text p rest → sort_ahead text ≡ sort_of p
sort_known text p rest h = ap sort_ahead h.spelled ∙ sort_written p rest h.fits

same_sort : (text : List ℕ) (p q : Piece) (r s : List ℕ) → Starts text p r → Starts text q s → sort_of p ≡ sort_of q
same_sort text p q r s h k = sym (sort_known text p r h) ∙ sort_known text q s k

-- ---- strings

-- what stands next inside a string
data Part : Type 0 where
  ends : Part
  plain_byte : Part
  escaped_byte : Part
  two_digits : Part
  four_digits : Part
  unknown : Part

abbrev part_behind_backslash : List ℕ → Part
part_behind_backslash [] = unknown
part_behind_backslash (b ∷ bs) = cond (is_escaped b) escaped_byte (cond (b == 120) two_digits four_digits)

abbrev part_ahead : ℕ → List ℕ → Part
part_ahead quote [] = unknown
part_ahead quote (b ∷ bs) = cond (b == quote) ends (cond (b == 92) (part_behind_backslash bs) plain_byte)

abbrev part_of : {quote : ℕ} {bytes : List ℕ} → IsInside quote bytes → Part
part_of nothing = ends
part_of (plain p h) = plain_byte
part_of (escape p h) = escaped_byte
part_of (code p q h) = two_digits
part_of (long_code p q r s h) = four_digits

no_quote_backslash : (quote : ℕ) → is_quote quote ≡ true → (92 == quote) ≡ false
no_quote_backslash = by_quote (λ quote. (92 == quote) ≡ false) refl refl

pub same_byte : (b : ℕ) → (b == b) ≡ true
same_byte b = grind (arith, nat_tests)

plain_is : (quote b : ℕ) → is_plain quote b ≡ true → ((b == quote) ≡ false) × ((b == 92) ≡ false)
plain_is quote b h =
    let parts = and_parts (nat_le 32 b) (nat_le b 126 && (not (b == quote) && not (b == 92))) h in
    let others = and_parts (nat_le b 126) (not (b == quote) && not (b == 92)) parts.1 in
    let last = and_parts (not (b == quote)) (not (b == 92)) others.1 in
    (not-true (b == quote) last.0, not-true (b == 92) last.1)

part_known : (quote : ℕ) → is_quote quote ≡ true → (bytes rest : List ℕ) (h : IsInside quote bytes) → part_ahead quote (bytes ++ quote ∷ rest) ≡ part_of h
part_known quote q bytes rest nothing = rw (same_byte quote) refl
part_known quote q bytes rest (plain {b} p h) = let is = plain_is quote b p in rw (is.0, is.1) refl
part_known quote q bytes rest (escape p h) = rw (no_quote_backslash quote q, p) refl
part_known quote q bytes rest (code p r h) = rw (no_quote_backslash quote q) refl
part_known quote q bytes rest (long_code p r s t h) = rw (no_quote_backslash quote q) refl

inside_once : (quote : ℕ) → is_quote quote ≡ true → (x y t u : List ℕ) → IsInside quote x → IsInside quote y → x ++ quote ∷ t ≡ y ++ quote ∷ u → (x ≡ y) × (t ≡ u)
inside_once quote q x y t u nothing nothing e = (refl, rest_of quote quote t u e)
inside_once quote q x y t u (plain {b} {bs} p h) (plain {b = c} {bs = cs} r k) e =
    let bytes : b ≡ c = byte_of b c (bs ++ quote ∷ t) (cs ++ quote ∷ u) e in
    let tails = inside_once quote q bs cs t u h k (rest_of b c (bs ++ quote ∷ t) (cs ++ quote ∷ u) e) in
    (ap₂ (λ (z : ℕ) (zs : List ℕ). z ∷ zs) bytes tails.0, tails.1)
inside_once quote q x y t u (escape {b} {bs} p h) (escape {b = c} {bs = cs} r k) e =
    let bytes : b ≡ c = cc in
    let rests : bs ++ quote ∷ t ≡ cs ++ quote ∷ u = cc in
    let tails = inside_once quote q bs cs t u h k rests in
    (ap₂ (λ (z : ℕ) (zs : List ℕ). 92 ∷ z ∷ zs) bytes tails.0, tails.1)
inside_once quote q x y t u (code {b} {c} {bs} p p' h) (code {b = d} {c = f} {bs = cs} r r' k) e =
    let rests : bs ++ quote ∷ t ≡ cs ++ quote ∷ u = cc in
    let tails = inside_once quote q bs cs t u h k rests in
    let bytes : 92 ∷ 120 ∷ b ∷ c ∷ bs ≡ 92 ∷ 120 ∷ d ∷ f ∷ cs = cc tails.0 in
    (bytes, tails.1)
inside_once quote q x y t u (long_code {b} {c} {d} {e = i} {bs} p p' p'' p''' h) (long_code {b = b'} {c = c'} {d = d'} {e = i'} {bs = cs} r r' r'' r''' k) e =
    let rests : bs ++ quote ∷ t ≡ cs ++ quote ∷ u = cc in
    let tails = inside_once quote q bs cs t u h k rests in
    let bytes : 92 ∷ 117 ∷ b ∷ c ∷ d ∷ i ∷ bs ≡ 92 ∷ 117 ∷ b' ∷ c' ∷ d' ∷ i' ∷ cs = cc tails.0 in
    (bytes, tails.1)
inside_once quote q x y t u h k e =
    let parts : part_of h ≡ part_of k = sym (part_known quote q x t h) ∙ ap (part_ahead quote) e ∙ part_known quote q y u k in
    cc

pub string_laid : (x t : List ℕ) (h : IsString x) → x ++ t ≡ h.quote ∷ (h.inside ++ h.quote ∷ t)
string_laid x t h = ap (λ (z : List ℕ). z ++ t) h.spelled ∙ append_assoc (h.quote ∷ h.inside) (h.quote ∷ []) t

-- a text begins with one string at most
pub string_once : (x y t u : List ℕ) → IsString x → IsString y → x ++ t ≡ y ++ u → (x ≡ y) × (t ≡ u)
string_once x y t u h k e =
    let whole : h.quote ∷ (h.inside ++ h.quote ∷ t) ≡ k.quote ∷ (k.inside ++ k.quote ∷ u) = sym (string_laid x t h) ∙ e ∙ string_laid y u k in
    let quotes = byte_of h.quote k.quote (h.inside ++ h.quote ∷ t) (k.inside ++ k.quote ∷ u) whole in
    let rests = rest_of h.quote k.quote (h.inside ++ h.quote ∷ t) (k.inside ++ k.quote ∷ u) whole in
    let same =
    inside_once h.quote h.is_quoted h.inside k.inside t u h.is_inside (subst (λ (z : ℕ). IsInside z k.inside) (sym quotes) k.is_inside)
    (rests ∙ ap (λ (z : ℕ). k.inside ++ z ∷ u) (sym quotes)) in
    (h.spelled ∙ ap₂ (λ (z : ℕ) (zs : List ℕ). z ∷ zs ++ z ∷ []) quotes same.0 ∙ sym k.spelled, same.1)

-- ---- comments

-- what ends at the first `*/` doesn't go on behind it
goes_not_on : (x y t u : List ℕ) (b : ℕ) (more : List ℕ) → IsOpen y → y ≡ x ++ b ∷ more → codes "*/" ++ t ≡ b ∷ more ++ (codes "*/" ++ u) → ⊥
goes_not_on x y t u b [] unended e f = apart 47 42 t (47 ∷ u) refl (rest_of 42 b (47 ∷ t) (42 ∷ 47 ∷ u) f)
goes_not_on x y t u b (c ∷ more) unended e f =
    let first : b ≡ 42 = sym (byte_of 42 b (47 ∷ t) (c ∷ more ++ (codes "*/" ++ u)) f) in
    let second : c ≡ 47 = sym (byte_of 47 c t (more ++ (codes "*/" ++ u)) (rest_of 42 b (47 ∷ t) (c ∷ more ++ (codes "*/" ++ u)) f)) in
    unended x more (e ∙ ap₂ (λ (v w : ℕ). x ++ v ∷ w ∷ more) first second ∙ sym (append_assoc x (codes "*/") more))

comment_once : (x y t u : List ℕ) → IsOpen x → IsOpen y → x ++ (codes "*/" ++ t) ≡ y ++ (codes "*/" ++ u) → (x ≡ y) × (t ≡ u)
comment_once x y t u unended unended' e = by (fronts x y (codes "*/" ++ t) (codes "*/" ++ u) e)
  where
    by : Fronts x y (codes "*/" ++ t) (codes "*/" ++ u) → (x ≡ y) × (t ≡ u)
    by (same f g) = (f, rest_of 47 47 t u (rest_of 42 42 (47 ∷ t) (47 ∷ u) g))
    by (first_ends b more f g) = absurd (goes_not_on x y t u b more unended' f g)
    by (second_ends b more f g) = absurd (goes_not_on y x u t b more unended f g)

line_ends : (rest : List ℕ) → EndsLine rest → DoesNotBegin (λ b. not (is_newline b)) rest
line_ends [] h = tt
line_ends (b ∷ bs) h = not_from_true (is_newline b) h

pub block_laid : (body rest : List ℕ) → written (block_comment body) ++ rest ≡ codes "/*" ++ (body ++ (codes "*/" ++ rest))
block_laid body rest = ap (λ (z : List ℕ). codes "/*" ++ z) (append_assoc body (codes "*/") rest)

-- no punctuation stands where a comment begins
pub mark_opens_no_comment : (m rest : List ℕ) (c : ℕ) (more : List ℕ) → (is_slash c || is_star c) ≡ true → Contains (openers ++ marks) (47 ∷ c ∷ [])
    → Contains marks m → IsLongest m rest → m ++ rest ≡ 47 ∷ c ∷ more → ⊥
mark_opens_no_comment [] rest c more opens listed is longest e = let fits : 2 ≤ 0 = longest (47 ∷ c ∷ []) more listed e in omega arith
mark_opens_no_comment (a ∷ []) rest c more opens listed is longest e = let fits : 2 ≤ 1 = longest (47 ∷ c ∷ []) more listed e in omega arith
mark_opens_no_comment (a ∷ b ∷ bs) rest c more opens listed is longest e =
    let first : a ≡ 47 = byte_of a 47 (b ∷ bs ++ rest) (c ∷ more) e in
    let second : b ≡ c = byte_of b c (bs ++ rest) more (rest_of a 47 (b ∷ bs ++ rest) (c ∷ more) e) in
    let test : (is_slash a && (is_slash b || is_star b)) ≡ true = ap₂ (λ (v w : ℕ). is_slash v && (is_slash w || is_star w)) first second ∙ opens in
    both_ways (opens_comment (a ∷ b ∷ bs)) (not-true (opens_comment (a ∷ b ∷ bs)) (no_mark_opens_comment (a ∷ b ∷ bs) is)) test

-- ---- pragmas

pub pragma_ends : (body rest : List ℕ) → DoesNotBegin continues_word body → DoesBegin is_semicolon rest → DoesNotBegin continues_word (body ++ rest)
pragma_ends [] [] h k = absurd k
pragma_ends [] (b ∷ rest) h k = at_byte (λ x. continues_word x ≡ false) 59 b refl k
pragma_ends (b ∷ body) rest h k = h

semicolon_follows : (rest : List ℕ) → DoesBegin is_semicolon rest → DoesNotBegin (λ b. not (is_semicolon b)) rest
semicolon_follows [] h = tt
semicolon_follows (b ∷ rest) h = not_from_true (is_semicolon b) h

-- a word that stands where `pragma` does is that
pub word_at_pragma : (x r more : List ℕ) → IsWord x → DoesNotBegin continues_word r → DoesNotBegin continues_word more → x ++ r ≡ pragma ++ more → x ≡ pragma
word_at_pragma x r more h stop stop' e =
    (split_once continues_word x pragma r more (word_passes x h) (AllPass-from_list_all continues_word pragma refl) stop stop' e).0

-- ---- a text begins with one piece at most
abbrev IsSame : Piece → Piece → List ℕ → List ℕ → Type 0
IsSame p q r s = (p ≡ q) × (r ≡ s)

both_spelled : (text : List ℕ) (p q : Piece) (r s : List ℕ) → Starts text p r → Starts text q s → written p ++ r ≡ written q ++ s
both_spelled text p q r s h k = sym h.spelled ∙ k.spelled

no_token_is_space : (kind : Tok) → spacing ≡ sort_of_token kind → ⊥
no_token_is_space Word e = cc
no_token_is_space _ e = cc

space_is_one : (text : List ℕ) (b : ℕ) (r : List ℕ) (q : Piece) (s : List ℕ) → Starts text (space b) r → Starts text q s → IsSame (space b) q r s
space_is_one text b r (space c) s h k =
    let e = both_spelled text (space b) (space c) r s h k in
    (ap (λ (z : ℕ). space z) (byte_of b c r s e), rest_of b c r s e)
space_is_one text b r (token kind y) s h k = absurd (no_token_is_space kind (same_sort text (space b) (token kind y) r s h k))
space_is_one text b r q s h k =
    let e : spacing ≡ sort_of q = same_sort text (space b) q r s h k in
    cc

word_is_one : (text x r : List ℕ) (q : Piece) (s : List ℕ) → Starts text (token Word x) r → Starts text q s → IsSame (token Word x) q r s
word_is_one text x r (token Word y) s h k =
    let same =
    split_once continues_word x y r s (word_passes x h.fits.0.0) (word_passes y k.fits.0.0) h.fits.1 k.fits.1
    (both_spelled text (token Word x) (token Word y) r s h k) in
    (ap (λ (z : List ℕ). token Word z) same.0, same.1)
word_is_one text x r (token Pragma y) s h k =
    let pragma_is = k.fits.0 in
    absurd (h.fits.0.1 (word_at_pragma x r (pragma_is.body ++ s) h.fits.0.0 h.fits.1 (pragma_ends pragma_is.body s pragma_is.word_ends k.fits.1)
    (both_spelled text (token Word x) (token Pragma y) r s h k ∙ ap (λ (z : List ℕ). z ++ s) pragma_is.spelled)))
word_is_one text x r q s h k =
    let e : wording ≡ sort_of q = same_sort text (token Word x) q r s h k in
    cc

pragma_is_one : (text x r : List ℕ) (q : Piece) (s : List ℕ) → Starts text (token Pragma x) r → Starts text q s → IsSame (token Pragma x) q r s
pragma_is_one text x r (token Pragma y) s h k =
    let one = h.fits.0 in
    let other = k.fits.0 in
    let e : pragma ++ (one.body ++ r) ≡ pragma ++ (other.body ++ s) =
    ap (λ (z : List ℕ). z ++ r) (sym one.spelled) ∙ both_spelled text (token Pragma x) (token Pragma y) r s h k ∙ ap (λ (z : List ℕ). z ++ s) other.spelled in
    let same =
    split_once (λ b. not (is_semicolon b)) one.body other.body r s one.unread other.unread (semicolon_follows r h.fits.1) (semicolon_follows s k.fits.1)
    (append_cancel_left pragma (one.body ++ r) (other.body ++ s) e) in
    (ap (λ (z : List ℕ). token Pragma z) (one.spelled ∙ ap (λ (z : List ℕ). pragma ++ z) same.0 ∙ sym other.spelled), same.1)
pragma_is_one text x r (token Word y) s h k =
    let same = word_is_one text y s (token Pragma x) r k h in
    (sym same.0, sym same.1)
pragma_is_one text x r q s h k =
    let e : wording ≡ sort_of q = same_sort text (token Pragma x) q r s h k in
    cc

-- the longest run of word characters, where a number stands
pub numeral_once : (x y r s : List ℕ) → IsNumeral x → IsNumeral y → DoesNotBegin continues_word r → DoesNotBegin continues_word s → x ++ r ≡ y ++ s → (x ≡ y) × (r ≡ s)
numeral_once x y r s h k = split_once continues_word x y r s (numeral_passes x h) (numeral_passes y k)

kinds_differ : (x y r s : List ℕ) → IsDecimal x → IsHexadecimal y → DoesNotBegin continues_word r → DoesNotBegin continues_word s → x ++ r ≡ y ++ s → ⊥
kinds_differ x y r s h k stop stop' e =
    decimal_is_not_hexadecimal y (subst IsDecimal (numeral_once x y r s (inl h) (inr k) stop stop' e).0 h) k

number_is_one : (text x r : List ℕ) (q : Piece) (s : List ℕ) → Starts text (token Number x) r → Starts text q s → IsSame (token Number x) q r s
number_is_one text x r (token Number y) s h k =
    let same = numeral_once x y r s (inl h.fits.0) (inl k.fits.0) h.fits.1 k.fits.1 (both_spelled text (token Number x) (token Number y) r s h k) in
    (ap (λ (z : List ℕ). token Number z) same.0, same.1)
number_is_one text x r (token Hex y) s h k =
    absurd (kinds_differ x y r s h.fits.0 k.fits.0 h.fits.1 k.fits.1 (both_spelled text (token Number x) (token Hex y) r s h k))
number_is_one text x r q s h k =
    let e : numbering ≡ sort_of q = same_sort text (token Number x) q r s h k in
    cc

hex_is_one : (text x r : List ℕ) (q : Piece) (s : List ℕ) → Starts text (token Hex x) r → Starts text q s → IsSame (token Hex x) q r s
hex_is_one text x r (token Hex y) s h k =
    let same = numeral_once x y r s (inr h.fits.0) (inr k.fits.0) h.fits.1 k.fits.1 (both_spelled text (token Hex x) (token Hex y) r s h k) in
    (ap (λ (z : List ℕ). token Hex z) same.0, same.1)
hex_is_one text x r (token Number y) s h k =
    absurd (kinds_differ y x s r k.fits.0 h.fits.0 k.fits.1 h.fits.1 (both_spelled text (token Number y) (token Hex x) s r k h))
hex_is_one text x r q s h k =
    let e : numbering ≡ sort_of q = same_sort text (token Hex x) q r s h k in
    cc

string_is_one : (text x r : List ℕ) (q : Piece) (s : List ℕ) → Starts text (token Str x) r → Starts text q s → IsSame (token Str x) q r s
string_is_one text x r (token Str y) s h k =
    let same = string_once x y r s h.fits.0 k.fits.0 (both_spelled text (token Str x) (token Str y) r s h k) in
    (ap (λ (z : List ℕ). token Str z) same.0, same.1)
string_is_one text x r q s h k =
    let e : quoting ≡ sort_of q = same_sort text (token Str x) q r s h k in
    cc

line_is_one : (text x r : List ℕ) (q : Piece) (s : List ℕ) → Starts text (line_comment x) r → Starts text q s → IsSame (line_comment x) q r s
line_is_one text x r (line_comment y) s h k =
    let same =
    split_once (λ b. not (is_newline b)) x y r s h.fits.0 k.fits.0 (line_ends r h.fits.1) (line_ends s k.fits.1)
    (append_cancel_left (codes "//") (x ++ r) (y ++ s) (both_spelled text (line_comment x) (line_comment y) r s h k)) in
    (ap (λ (z : List ℕ). line_comment z) same.0, same.1)
line_is_one text x r (block_comment y) s h k =
    absurd (apart 47 42 (x ++ r) (y ++ codes "*/" ++ s) refl
    (rest_of 47 47 (47 ∷ x ++ r) (42 ∷ y ++ codes "*/" ++ s) (both_spelled text (line_comment x) (block_comment y) r s h k)))
line_is_one text x r (token Punct y) s h k =
    absurd (mark_opens_no_comment y s 47 (x ++ r) refl (line_opens marks) k.fits.0 k.fits.1 (both_spelled text (token Punct y) (line_comment x) s r k h))
line_is_one text x r q s h k =
    let e : marking ≡ sort_of q = same_sort text (line_comment x) q r s h k in
    cc

block_is_one : (text x r : List ℕ) (q : Piece) (s : List ℕ) → Starts text (block_comment x) r → Starts text q s → IsSame (block_comment x) q r s
block_is_one text x r (block_comment y) s h k =
    let same =
    comment_once x y r s h.fits k.fits
    (append_cancel_left (codes "/*") (x ++ (codes "*/" ++ r)) (y ++ (codes "*/" ++ s))
    (sym (block_laid x r) ∙ both_spelled text (block_comment x) (block_comment y) r s h k ∙ block_laid y s)) in
    (ap (λ (z : List ℕ). block_comment z) same.0, same.1)
block_is_one text x r (line_comment y) s h k =
    let same = line_is_one text y s (block_comment x) r k h in
    (sym same.0, sym same.1)
block_is_one text x r (token Punct y) s h k =
    absurd (mark_opens_no_comment y s 42 (x ++ codes "*/" ++ r) refl (block_opens marks) k.fits.0 k.fits.1
    (both_spelled text (token Punct y) (block_comment x) s r k h))
block_is_one text x r q s h k =
    let e : marking ≡ sort_of q = same_sort text (block_comment x) q r s h k in
    cc

mark_is_one : (text x r : List ℕ) (q : Piece) (s : List ℕ) → Starts text (token Punct x) r → Starts text q s → IsSame (token Punct x) q r s
mark_is_one text x r (token Punct y) s h k =
    let e = both_spelled text (token Punct x) (token Punct y) r s h k in
    let one = h.fits.1 y s (Contains-append_right openers marks y k.fits.0) e in
    let other = k.fits.1 x r (Contains-append_right openers marks x h.fits.0) (sym e) in
    let same = append_once x y r s (omega arith) e in
    (ap (λ (z : List ℕ). token Punct z) same.0, same.1)
mark_is_one text x r (line_comment y) s h k =
    let same = line_is_one text y s (token Punct x) r k h in
    (sym same.0, sym same.1)
mark_is_one text x r (block_comment y) s h k =
    let same = block_is_one text y s (token Punct x) r k h in
    (sym same.0, sym same.1)
mark_is_one text x r q s h k =
    let e : marking ≡ sort_of q = same_sort text (token Punct x) q r s h k in
    cc

pub piece_is_one : (text : List ℕ) (p q : Piece) (r s : List ℕ) → Starts text p r → Starts text q s → (p ≡ q) × (r ≡ s)
piece_is_one text (space b) q r s h k = space_is_one text b r q s h k
piece_is_one text (line_comment x) q r s h k = line_is_one text x r q s h k
piece_is_one text (block_comment x) q r s h k = block_is_one text x r q s h k
piece_is_one text (token Word x) q r s h k = word_is_one text x r q s h k
piece_is_one text (token Number x) q r s h k = number_is_one text x r q s h k
piece_is_one text (token Hex x) q r s h k = hex_is_one text x r q s h k
piece_is_one text (token Str x) q r s h k = string_is_one text x r q s h k
piece_is_one text (token Punct x) q r s h k = mark_is_one text x r q s h k
piece_is_one text (token Pragma x) q r s h k = pragma_is_one text x r q s h k
piece_is_one text (token Note x) q r s h k = absurd h.fits.0
piece_is_one text (token End x) q r s h k = absurd h.fits.0

-- nothing begins no piece
pub nothing_starts : (p : Piece) (rest : List ℕ) → Starts [] p rest → ⊥
nothing_starts (token Note x) rest h = absurd h.fits.0
nothing_starts (token End x) rest h = absurd h.fits.0
nothing_starts p rest h = let e : absent ≡ sort_of p = sort_known [] p rest h in cc
