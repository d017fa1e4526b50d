-- Where a text is stuck, no piece begins, and it is stuck in one way.
use Rattle.std.proofs.Common.{◌≡◌, ℕ, ◌≤◌, inl, inr, Bool, true, false, not, ◌||◌, cond, List, [], ◌∷◌, ◌++◌, Contains, codes, length, refl, sym, ap, ◌∙◌, subst, arith}
use Rattle.std.specs.List.{AllPass, All, starts_with}
use Rattle.std.specs.Prelude.{nat_eq}
use Rattle.std.proofs.lemmas.Bool.{both_ways, or_parts, not-true}
use Rattle.std.proofs.lemmas.List.Elements.{All-cons, All-nil, All-append, All-contains, Contains-append_right}
use Rattle.std.proofs.lemmas.List.Folds.{list_any_at}
use Rattle.std.proofs.lemmas.List.{append_cancel_left, append_assoc, length-append, append-nil}
use Rattle.sv_lex.specs.Bytes.{is_digit, is_hex_digit, begins_word, continues_word, is_separator, is_newline, is_semicolon, is_quote, DoesNotBegin, DoesBegin}
use Rattle.sv_lex.specs.Faults.{BeginsString, IsOpenString, IsStuck, strange_byte, number_goes_on, broken_string, string_at_newline, string_at_end, open_comment, open_pragma}
use Rattle.sv_lex.specs.Forms.{pragma, IsNumeral, is_plain, is_escaped, IsInside, nothing, plain, escape, code, long_code, IsString, marks, begins_mark, begins_something}
use Rattle.sv_lex.specs.Pieces.{Piece, line_comment, block_comment, token, IsOpen, Starts}
use Rattle.sv_lex.specs.declared.fault.Flaw.{Flaw}
use Rattle.sv_lex.specs.declared.tok.Tok.TheVariants.{Word, Number, Hex, Str, Punct, Pragma}
use Rattle.sv_lex.proofs.PieceLaws.{Fronts, same, first_ends, second_ends, fronts, apart, byte_of, rest_of, not_byte, Sort, wording, numbering, spacing, quoting, marking, absent, sort_at, sort_ahead, sort_of, sort_known, sort_of_mark, sort_of_numeral, sort_of_string, numeral_passes, string_once, mark_opens_no_comment, block_opens, block_laid, word_at_pragma, same_byte}

-- what is behind a front is in the whole
behind : (P : ℕ → Type 0) (whole front : List ℕ) (b : ℕ) (more : List ℕ) → All P whole → whole ≡ front ++ b ∷ more → P b
behind P whole front b more all e =
    All-contains P whole b all
    (subst (λ (w : List ℕ). Contains w b) (sym e) (Contains-append_right front (b ∷ more) b (0, omega arith, refl)))

-- ---- bytes with which nothing begins

mark_begins : (b : ℕ) (m : List ℕ) → Contains marks (b ∷ m) → begins_mark b ≡ true
mark_begins b m is =
    list_any_at (λ mark. starts_with nat_eq mark (b ∷ [])) marks is.0 (b ∷ m) is.1
    (ap (λ (mark : List ℕ). starts_with nat_eq mark (b ∷ [])) is.2 ∙ rw (same_byte b) refl)

slash_begins : begins_mark 47 ≡ true
unfolding marks
slash_begins = refl

strange_sort : (b : ℕ) → begins_something b ≡ false → (sort_at b ≡ marking) × (begins_mark b ≡ false)
strange_sort b h =
    let separator = or_parts (is_separator b) (begins_word b || (is_digit b || (is_quote b || begins_mark b))) h in
    let word = or_parts (begins_word b) (is_digit b || (is_quote b || begins_mark b)) separator.1 in
    let digit = or_parts (is_digit b) (is_quote b || begins_mark b) word.1 in
    let quote = or_parts (is_quote b) (begins_mark b) digit.1 in
    (rw (word.0, digit.0, separator.0, quote.0) refl, quote.1)

no_strange_slash : (b : ℕ) → begins_mark b ≡ false → b ≡ 47 → ⊥
no_strange_slash b h e = both_ways (begins_mark b) h (ap (λ (x : ℕ). begins_mark x) e ∙ slash_begins)

nothing_with_byte : (b : ℕ) (bs : List ℕ) → begins_something b ≡ false → (p : Piece) (rest : List ℕ) → Starts (b ∷ bs) p rest → ⊥
nothing_with_byte b bs h (line_comment body) rest k =
    no_strange_slash b (strange_sort b h).1 (byte_of b 47 bs (47 ∷ body ++ rest) k.spelled)
nothing_with_byte b bs h (block_comment body) rest k =
    no_strange_slash b (strange_sort b h).1 (byte_of b 47 bs (42 ∷ body ++ codes "*/" ++ rest) k.spelled)
nothing_with_byte b bs h (token Punct []) rest k =
    let none : absent ≡ marking = sort_of_mark [] [] k.fits.0 in
    cc
nothing_with_byte b bs h (token Punct (c ∷ m)) rest k =
    both_ways (begins_mark b) (strange_sort b h).1
    (ap (λ (x : ℕ). begins_mark x) (byte_of b c bs (m ++ rest) k.spelled) ∙ mark_begins c m k.fits.0)
nothing_with_byte b bs h p rest k =
    let e : marking ≡ sort_of p = sym (strange_sort b h).0 ∙ sort_known (b ∷ bs) p rest k in
    cc

-- ---- numbers that a word character follows

no_shorter_number : (text number rest bytes after : List ℕ) → text ≡ number ++ rest → IsNumeral number → DoesBegin continues_word rest
    → ((longer more : List ℕ) → text ≡ longer ++ more → IsNumeral longer → length longer ≤ length number)
    → text ≡ bytes ++ after → IsNumeral bytes → DoesNotBegin continues_word after → ⊥
no_shorter_number text number rest bytes after e is goes_on longest f is_too stops =
    by (fronts bytes number after rest (sym f ∙ e))
  where
    both : (t : List ℕ) → DoesBegin continues_word t → DoesNotBegin continues_word t → ⊥
    both [] h k = h
    both (b ∷ bs) h k = both_ways (continues_word b) k h

    by : Fronts bytes number after rest → ⊥
    by (same g h) = both rest goes_on (subst (DoesNotBegin continues_word) h stops)
    by (first_ends b more g h) =
        let not_word : continues_word b ≡ false = subst (DoesNotBegin continues_word) h stops in
        both_ways (continues_word b) not_word (behind (λ x. continues_word x ≡ true) number bytes b more (numeral_passes number is) g)
    by (second_ends b more g h) =
        omega (arith, longest bytes after f is_too, ap length g, length-append number (b ∷ more))

no_piece_at_number : (text number rest : List ℕ) → text ≡ number ++ rest → IsNumeral number → DoesBegin continues_word rest
    → ((longer more : List ℕ) → text ≡ longer ++ more → IsNumeral longer → length longer ≤ length number)
    → (p : Piece) (after : List ℕ) → Starts text p after → ⊥
no_piece_at_number text number rest e is goes_on longest (token Number w) after k =
    no_shorter_number text number rest w after e is goes_on longest k.spelled (inl k.fits.0) k.fits.1
no_piece_at_number text number rest e is goes_on longest (token Hex w) after k =
    no_shorter_number text number rest w after e is goes_on longest k.spelled (inr k.fits.0) k.fits.1
no_piece_at_number text number rest e is goes_on longest p after k =
    let f : numbering ≡ sort_of p = sym (sort_of_numeral number rest is) ∙ ap sort_ahead (sym e) ∙ sort_known text p after k in
    cc

-- ---- strings that don't end

inside_has_no_newline : (quote : ℕ) (x : List ℕ) → IsInside quote x → All (λ b. is_newline b ≡ false) x
inside_has_no_newline quote x nothing = All-nil (λ b. is_newline b ≡ false)
inside_has_no_newline quote x (plain {b} {bs} p h) =
    All-cons (λ b. is_newline b ≡ false) b bs (not_byte 10 (is_plain quote) refl b p) (inside_has_no_newline quote bs h)
inside_has_no_newline quote x (escape {b} {bs} p h) =
    All-append (λ b. is_newline b ≡ false) (92 ∷ b ∷ []) bs
    (All-cons (λ b. is_newline b ≡ false) 92 (b ∷ []) refl (All-cons (λ b. is_newline b ≡ false) b [] (not_byte 10 is_escaped refl b p) (All-nil (λ b. is_newline b ≡ false))))
    (inside_has_no_newline quote bs h)
inside_has_no_newline quote x (code {b} {c} {bs} p q h) =
    All-cons (λ b. is_newline b ≡ false) 92 (120 ∷ b ∷ c ∷ bs) refl
    (All-cons (λ b. is_newline b ≡ false) 120 (b ∷ c ∷ bs) refl
    (All-cons (λ b. is_newline b ≡ false) b (c ∷ bs) (not_byte 10 is_hex_digit refl b p)
    (All-cons (λ b. is_newline b ≡ false) c bs (not_byte 10 is_hex_digit refl c q) (inside_has_no_newline quote bs h))))
inside_has_no_newline quote x (long_code {b} {c} {d} {e} {bs} p q r s h) =
    All-cons (λ b. is_newline b ≡ false) 92 (117 ∷ b ∷ c ∷ d ∷ e ∷ bs) refl
    (All-cons (λ b. is_newline b ≡ false) 117 (b ∷ c ∷ d ∷ e ∷ bs) refl
    (All-cons (λ b. is_newline b ≡ false) b (c ∷ d ∷ e ∷ bs) (not_byte 10 is_hex_digit refl b p)
    (All-cons (λ b. is_newline b ≡ false) c (d ∷ e ∷ bs) (not_byte 10 is_hex_digit refl c q)
    (All-cons (λ b. is_newline b ≡ false) d (e ∷ bs) (not_byte 10 is_hex_digit refl d r)
    (All-cons (λ b. is_newline b ≡ false) e bs (not_byte 10 is_hex_digit refl e s) (inside_has_no_newline quote bs h))))))

string_has_no_newline : (x : List ℕ) → IsString x → All (λ b. is_newline b ≡ false) x
string_has_no_newline x h =
    let quote : is_newline h.quote ≡ false = not_byte 10 is_quote refl h.quote h.is_quoted in
    subst (All (λ b. is_newline b ≡ false)) (sym h.spelled)
    (All-append (λ b. is_newline b ≡ false) (h.quote ∷ h.inside) (h.quote ∷ [])
    (All-cons (λ b. is_newline b ≡ false) h.quote h.inside quote (inside_has_no_newline h.quote h.inside h.is_inside))
    (All-cons (λ b. is_newline b ≡ false) h.quote [] quote (All-nil (λ b. is_newline b ≡ false))))

-- what begins a string does so up to each of its bytes
begins_shorter : (front : List ℕ) (b : ℕ) (more : List ℕ) → BeginsString (front ++ b ∷ more) → BeginsString (front ++ b ∷ [])
begins_shorter front b more h =
    (more ++ h.0, subst IsString (append_assoc front (b ∷ more) h.0 ∙ sym (append_assoc front (b ∷ []) (more ++ h.0))) h.1)

no_newline_begins : (front : List ℕ) (b : ℕ) → is_newline b ≡ true → BeginsString (front ++ b ∷ []) → ⊥
no_newline_begins front b h k =
    both_ways (is_newline b)
    (behind (λ x. is_newline x ≡ false) (front ++ b ∷ [] ++ k.0) front b k.0 (string_has_no_newline (front ++ b ∷ [] ++ k.0) k.1) (append_assoc front (b ∷ []) k.0))
    h

sort_of_open_string : (front rest : List ℕ) → IsOpenString front → sort_ahead (front ++ rest) ≡ quoting
sort_of_open_string [] rest h = absurd (h.some refl)
sort_of_open_string (b ∷ bs) rest h = sort_of_string (b ∷ bs ++ h.begins.0) [] h.begins.1

-- a string that has begun and can't go on is none
no_string_ends : (front rest bytes after : List ℕ) → IsOpenString front → ((b : ℕ) (more : List ℕ) → rest ≡ b ∷ more → BeginsString (front ++ b ∷ []) → ⊥)
    → bytes ++ after ≡ front ++ rest → IsString bytes → ⊥
no_string_ends front rest bytes after h stops e is =
    by (fronts bytes front after rest e)
  where
    by : Fronts bytes front after rest → ⊥
    by (same f g) = h.unfinished (subst IsString f is)
    by (first_ends b more f g) =
        let more_of = h.begins.0 in
        let flat : bytes ++ (b ∷ more ++ more_of) ≡ front ++ more_of ++ [] =
        sym (append_assoc bytes (b ∷ more) more_of) ∙ ap (λ (z : List ℕ). z ++ more_of) (sym f) ∙ sym (append-nil (front ++ more_of)) in
        let whole = (string_once bytes (front ++ more_of) (b ∷ more ++ more_of) [] is h.begins.1 flat).1 in
        cc
    by (second_ends b more f g) = stops b (more ++ after) g (begins_shorter front b more ([], subst IsString (f ∙ sym (append-nil (front ++ b ∷ more))) is))

no_piece_at_string : (text front rest : List ℕ) → text ≡ front ++ rest → IsOpenString front → ((b : ℕ) (more : List ℕ) → rest ≡ b ∷ more → BeginsString (front ++ b ∷ []) → ⊥)
    → (p : Piece) (after : List ℕ) → Starts text p after → ⊥
no_piece_at_string text front rest e h stops (token Str w) after k = no_string_ends front rest w after h stops (sym k.spelled ∙ e) k.fits.0
no_piece_at_string text front rest e h stops p after k =
    let f : quoting ≡ sort_of p = sym (sort_of_open_string front rest h) ∙ ap sort_ahead (sym e) ∙ sort_known text p after k in
    cc

-- ---- comments and pragmas that don't end

no_piece_at_comment : (text body : List ℕ) → text ≡ codes "/*" ++ body → IsOpen body → (p : Piece) (after : List ℕ) → Starts text p after → ⊥
no_piece_at_comment text body e unended (line_comment x) after k =
    apart 42 47 body (x ++ after) refl (rest_of 47 47 (42 ∷ body) (47 ∷ x ++ after) (sym e ∙ k.spelled))
no_piece_at_comment text body e unended (block_comment x) after k =
    let whole : codes "/*" ++ body ≡ codes "/*" ++ (x ++ (codes "*/" ++ after)) = sym e ∙ k.spelled ∙ block_laid x after in
    unended x after (append_cancel_left (codes "/*") body (x ++ (codes "*/" ++ after)) whole ∙ sym (append_assoc x (codes "*/") after))
no_piece_at_comment text body e unended (token Punct x) after k =
    mark_opens_no_comment x after 42 body refl (block_opens marks) k.fits.0 k.fits.1 (sym k.spelled ∙ e)
no_piece_at_comment text body e unended p after k =
    let f : marking ≡ sort_of p = ap sort_ahead (sym e) ∙ sort_known text p after k in
    cc

no_piece_at_pragma : (text body : List ℕ) → text ≡ pragma ++ body → DoesNotBegin continues_word body → AllPass (λ b. not (is_semicolon b)) body
    → (p : Piece) (after : List ℕ) → Starts text p after → ⊥
no_piece_at_pragma text body e stops unread (token Word x) after k =
    k.fits.0.1 (word_at_pragma x after body k.fits.0.0 k.fits.1 stops (sym k.spelled ∙ e))
no_piece_at_pragma text body e stops unread (token Pragma x) after k =
    let form = k.fits.0 in
    let whole : pragma ++ body ≡ pragma ++ (form.body ++ after) = sym e ∙ k.spelled ∙ ap (λ (z : List ℕ). z ++ after) form.spelled in
    by after k.fits.1 form.body (append_cancel_left pragma body (form.body ++ after) whole)
  where
    by : (after : List ℕ) → DoesBegin is_semicolon after → (front : List ℕ) → body ≡ front ++ after → ⊥
    by [] h front f = h
    by (b ∷ bs) h front f =
        both_ways (is_semicolon b) (not-true (is_semicolon b) (behind (λ x. not (is_semicolon x) ≡ true) body front b bs unread f)) h
no_piece_at_pragma text body e stops unread p after k =
    let f : wording ≡ sort_of p = ap sort_ahead (sym e) ∙ sort_known text p after k in
    cc

-- no piece begins where a text is stuck
pub stuck_has_no_piece : (text : List ℕ) (flaw : Flaw) (n : ℕ) (p : Piece) (after : List ℕ) → IsStuck text flaw n → Starts text p after → ⊥
stuck_has_no_piece text flaw n p after (strange_byte b rest e h) k =
    nothing_with_byte b rest h p after (subst (λ (t : List ℕ). Starts t p after) e k)
stuck_has_no_piece text flaw n p after (number_goes_on number rest e is goes_on longest) k =
    no_piece_at_number text number rest e is goes_on longest p after k
stuck_has_no_piece text flaw n p after (broken_string front b rest e h other stops) k =
    no_piece_at_string text front (b ∷ rest) e h
    (λ c more f g. stops (subst (λ (x : ℕ). BeginsString (front ++ x ∷ [])) (sym (byte_of b c rest more f)) g)) p after k
stuck_has_no_piece text flaw n p after (string_at_newline front b rest e h newline) k =
    no_piece_at_string text front (b ∷ rest) e h
    (λ c more f g. no_newline_begins front c (ap (λ (x : ℕ). is_newline x) (sym (byte_of b c rest more f)) ∙ newline) g) p after k
stuck_has_no_piece text flaw n p after (string_at_end h) k =
    no_piece_at_string text text [] (sym (append-nil text)) h (λ c more f g. cc) p after k
stuck_has_no_piece text flaw n p after (open_comment body e unended) k = no_piece_at_comment text body e unended p after k
stuck_has_no_piece text flaw n p after (open_pragma body e stops unread) k = no_piece_at_pragma text body e stops unread p after k

-- ---- the flaw of a text that is stuck is one

-- what the text is stuck in, by its first byte
data Cause : Type 0 where
  in_nothing : Cause
  in_number : Cause
  in_string : Cause
  in_comment : Cause
  in_pragma : Cause
  no_cause : Cause

abbrev cause_of_sort : Sort → Bool → Cause
cause_of_sort numbering slash = in_number
cause_of_sort quoting slash = in_string
cause_of_sort marking slash = cond slash in_comment in_nothing
cause_of_sort wording slash = in_pragma
cause_of_sort spacing slash = no_cause
cause_of_sort absent slash = no_cause

abbrev begins_with_mark : List ℕ → Bool
begins_with_mark [] = false
begins_with_mark (b ∷ _) = begins_mark b

abbrev cause_ahead : List ℕ → Cause
cause_ahead text = cause_of_sort (sort_ahead text) (begins_with_mark text)

abbrev cause_of : {text : List ℕ} {flaw : Flaw} {n : ℕ} → IsStuck text flaw n → Cause
cause_of (strange_byte b rest e h) = in_nothing
cause_of (number_goes_on number rest e is goes_on longest) = in_number
cause_of (broken_string front b rest e h other stops) = in_string
cause_of (string_at_newline front b rest e h newline) = in_string
cause_of (string_at_end h) = in_string
cause_of (open_comment body e unended) = in_comment
cause_of (open_pragma body e stops unread) = in_pragma

open_string_cause : (text front rest : List ℕ) → text ≡ front ++ rest → IsOpenString front → cause_ahead text ≡ in_string
open_string_cause text front rest e h =
    ap (λ (s : Sort). cause_of_sort s (begins_with_mark text)) (ap sort_ahead e ∙ sort_of_open_string front rest h)

cause_known : (text : List ℕ) (flaw : Flaw) (n : ℕ) (h : IsStuck text flaw n) → cause_ahead text ≡ cause_of h
cause_known text flaw n (strange_byte b rest e h) = ap cause_ahead e ∙ rw ((strange_sort b h).0, (strange_sort b h).1) refl
cause_known text flaw n (number_goes_on number rest e is goes_on longest) =
    ap (λ (s : Sort). cause_of_sort s (begins_with_mark text)) (ap sort_ahead e ∙ sort_of_numeral number rest is)
cause_known text flaw n (broken_string front b rest e h other stops) = open_string_cause text front (b ∷ rest) e h
cause_known text flaw n (string_at_newline front b rest e h newline) = open_string_cause text front (b ∷ rest) e h
cause_known text flaw n (string_at_end h) = open_string_cause text text [] (sym (append-nil text)) h
cause_known text flaw n (open_comment body e unended) = ap cause_ahead e ∙ ap (λ slash. cond slash in_comment in_nothing) slash_begins
cause_known text flaw n (open_pragma body e stops unread) = ap cause_ahead e

-- a string breaks at a byte or is at a newline or the end of the text, and not both
broken_or_newline : (front rest front' rest' : List ℕ) (b b' : ℕ) → is_newline b ≡ false → (BeginsString (front ++ b ∷ []) → ⊥) → IsOpenString front
    → is_newline b' ≡ true → IsOpenString front' → front ++ b ∷ rest ≡ front' ++ b' ∷ rest' → ⊥
broken_or_newline front rest front' rest' b b' other stops h newline h' e =
    by (fronts front front' (b ∷ rest) (b' ∷ rest') e)
  where
    by : Fronts front front' (b ∷ rest) (b' ∷ rest') → ⊥
    by (same f g) = both_ways (is_newline b) other (ap (λ (x : ℕ). is_newline x) (byte_of b b' rest rest' g) ∙ newline)
    by (first_ends c more f g) =
        let begins = begins_shorter front c more (subst BeginsString f h'.begins) in
        stops (subst (λ (x : ℕ). BeginsString (front ++ x ∷ [])) (sym (byte_of b c rest (more ++ b' ∷ rest') g)) begins)
    by (second_ends c more f g) =
        let begins = begins_shorter front' c more (subst BeginsString f h.begins) in
        no_newline_begins front' c (ap (λ (x : ℕ). is_newline x) (sym (byte_of b' c rest' (more ++ b ∷ rest) g)) ∙ newline) begins

broken_or_whole : (text front rest : List ℕ) (b : ℕ) → text ≡ front ++ b ∷ rest → (BeginsString (front ++ b ∷ []) → ⊥) → IsOpenString text → ⊥
broken_or_whole text front rest b e stops h = stops (begins_shorter front b rest (subst BeginsString e h.begins))

pub stuck_is_one : (text : List ℕ) (one other : Flaw) (n m : ℕ) → IsStuck text one n → IsStuck text other m → (one ≡ other) × (n ≡ m)
stuck_is_one text one other n m (strange_byte b rest e h) (strange_byte c rest' f k) = (refl, refl)
stuck_is_one text one other n m (number_goes_on number rest e is goes_on longest) (number_goes_on number' rest' f is' goes_on' longest') =
    let below = longest number' rest' f is' in
    let above = longest' number rest e is in
    (refl, omega arith)
stuck_is_one text one other n m (broken_string front b rest e h not_newline' stops) (broken_string front' b' rest' f k not_newline'' stops') = (refl, refl)
stuck_is_one text one other n m (broken_string front b rest e h not_newline' stops) (string_at_newline front' b' rest' f k newline) =
    absurd (broken_or_newline front rest front' rest' b b' not_newline' stops h newline k (sym e ∙ f))
stuck_is_one text one other n m (broken_string front b rest e h not_newline' stops) (string_at_end k) = absurd (broken_or_whole text front rest b e stops k)
stuck_is_one text one other n m (string_at_newline front' b' rest' f k newline) (broken_string front b rest e h not_newline' stops) =
    absurd (broken_or_newline front rest front' rest' b b' not_newline' stops h newline k (sym e ∙ f))
stuck_is_one text one other n m (string_at_newline front b rest e h newline) (string_at_newline front' b' rest' f k newline') = (refl, refl)
stuck_is_one text one other n m (string_at_newline front b rest e h newline) (string_at_end k) = (refl, refl)
stuck_is_one text one other n m (string_at_end k) (broken_string front b rest e h not_newline' stops) = absurd (broken_or_whole text front rest b e stops k)
stuck_is_one text one other n m (string_at_end k) (string_at_newline front b rest e h newline) = (refl, refl)
stuck_is_one text one other n m (string_at_end k) (string_at_end h) = (refl, refl)
stuck_is_one text one other n m (open_comment body e unended) (open_comment body' f unended') = (refl, refl)
stuck_is_one text one other n m (open_pragma body e stops unread) (open_pragma body' f stops' unread') = (refl, refl)
stuck_is_one text one other n m h k =
    let e : cause_of h ≡ cause_of k = sym (cause_known text one n h) ∙ cause_known text other m k in
    cc

-- a text is stuck within it
pub stuck_within : (text : List ℕ) (flaw : Flaw) (n : ℕ) → IsStuck text flaw n → n ≤ length text
stuck_within text flaw n (number_goes_on number rest e is goes_on longest) = omega (arith, ap length e, length-append number rest)
stuck_within text flaw n _ = omega arith

-- and not where it is empty
pub nothing_is_stuck : (flaw : Flaw) (n : ℕ) → IsStuck [] flaw n → ⊥
nothing_is_stuck flaw n (string_at_end h) = h.some refl
nothing_is_stuck flaw n h = let e : no_cause ≡ cause_of h = cause_known [] flaw n h in cc
