-- Believed: classes of bytes. Hold it against docs/language.md on tokens.
use Rattle.std.specs.Prelude.{◌≡◌, ◌==◌, ℕ, Bool, true, false, ◌&&◌, ◌||◌, List, [], ◌∷◌, nat_le}

-- the letters of ASCII, and its digits
abbrev pub is_letter : ℕ → Bool
is_letter b = (nat_le 65 b && nat_le b 90) || (nat_le 97 b && nat_le b 122)

abbrev pub is_digit : ℕ → Bool
is_digit b = nat_le 48 b && nat_le b 57

abbrev pub is_hex_digit : ℕ → Bool
is_hex_digit b = is_digit b || (nat_le 65 b && nat_le b 70) || (nat_le 97 b && nat_le b 102)

-- a word begins with a letter, `$` or `_`, and goes on with these and digits
abbrev pub begins_word : ℕ → Bool
begins_word b = is_letter b || (b == 36) || (b == 95)

abbrev pub continues_word : ℕ → Bool
continues_word b = begins_word b || is_digit b

-- space and tab
abbrev pub is_blank : ℕ → Bool
is_blank b = (b == 32) || (b == 9)

abbrev pub is_newline : ℕ → Bool
is_newline b = b == 10

-- what separates tokens: blanks, carriage returns and newlines
abbrev pub is_separator : ℕ → Bool
is_separator b = is_blank b || (b == 13) || is_newline b

abbrev pub is_star : ℕ → Bool
is_star b = b == 42

abbrev pub is_slash : ℕ → Bool
is_slash b = b == 47

abbrev pub is_semicolon : ℕ → Bool
is_semicolon b = b == 59

-- `"` and `'`
abbrev pub is_quote : ℕ → Bool
is_quote b = (b == 34) || (b == 39)

-- the text doesn't begin with a byte that passes the test
abbrev pub DoesNotBegin : (ℕ → Bool) → List ℕ → Type 0
DoesNotBegin p [] = Unit {0}
DoesNotBegin p (b ∷ _) = p b ≡ false

-- the text begins with a byte that passes the test
abbrev pub DoesBegin : (ℕ → Bool) → List ℕ → Type 0
DoesBegin p [] = ⊥
DoesBegin p (b ∷ _) = p b ≡ true
