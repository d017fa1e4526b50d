-- Believed: the forms of tokens. Hold it against docs/language.md on tokens, and Solidity's grammar of the lexer.
use Rattle.std.specs.Prelude.{◌≡◌, ◌≢◌, ◌==◌, ℕ, ◌≤◌, ◌⊎◌, Bool, true, false, not, ◌&&◌, ◌||◌, if◌then◌else◌, List, [], ◌∷◌, ◌++◌, Contains, codes, length, nat_eq, nat_le}
use Rattle.std.specs.List.{AllPass, list_any, starts_with}
use Rattle.sv_lex.specs.Bytes.{is_digit, is_hex_digit, begins_word, continues_word, is_separator, is_semicolon, is_quote, DoesNotBegin, DoesBegin}
use Rattle.sv_lex.specs.declared.tok.Tok.{Tok}
use Rattle.sv_lex.specs.declared.tok.Tok.TheVariants.{Word, Number, Hex, Str, Punct, Pragma, Note, End}

-- ---- words and pragmas

abbrev pub IsWord : List ℕ → Type 0
IsWord [] = ⊥
IsWord (b ∷ bs) = (begins_word b ≡ true) × AllPass continues_word bs

abbrev pub pragma : List ℕ
pragma = codes "pragma"

-- the word `pragma`, and bytes without a `;`
pub record IsPragma (bytes : List ℕ) : Type 0 where
  pub body : List ℕ
  pub spelled : bytes ≡ pragma ++ body
  pub word_ends : DoesNotBegin continues_word body
  pub unread : AllPass (λ b. not (is_semicolon b)) body

-- ---- numbers

-- digits, with `_` between two digits allowed; `after` says that a digit stands just before
abbrev pub is_group : (ℕ → Bool) → Bool → List ℕ → Bool
is_group digit after [] = after
is_group digit after (b ∷ bs) = if digit b then is_group digit true bs else ((b == 95) && (after && is_group digit false bs))

abbrev pub is_grouped : (ℕ → Bool) → List ℕ → Bool
is_grouped digit bytes = is_group digit false bytes

-- `0`, or digits that don't begin with 0
abbrev pub IsWhole : List ℕ → Type 0
IsWhole whole = (whole ≡ codes "0") ⊎ ((is_grouped is_digit whole ≡ true) × DoesNotBegin (λ b. b == 48) whole)

-- nothing, or `e` and one or two digits
abbrev pub IsExponent : List ℕ → Type 0
IsExponent bytes = (bytes ≡ []) ⊎ ((digits : List ℕ) × (bytes ≡ 101 ∷ digits) × AllPass is_digit digits × (1 ≤ length digits) × (length digits ≤ 2))

pub record IsDecimal (bytes : List ℕ) : Type 0 where
  pub whole : List ℕ
  pub exponent : List ℕ
  pub spelled : bytes ≡ whole ++ exponent
  pub is_whole : IsWhole whole
  pub is_exponent : IsExponent exponent

-- `0x` and hexadecimal digits, with `_` between two of them allowed
pub record IsHexadecimal (bytes : List ℕ) : Type 0 where
  pub digits : List ℕ
  pub spelled : bytes ≡ codes "0x" ++ digits
  pub grouped : is_grouped is_hex_digit digits ≡ true

abbrev pub IsNumeral : List ℕ → Type 0
IsNumeral bytes = IsDecimal bytes ⊎ IsHexadecimal bytes

-- ---- strings

-- printable ASCII other than the quote and the backslash
abbrev pub is_plain : ℕ → ℕ → Bool
is_plain quote b = nat_le 32 b && (nat_le b 126 && (not (b == quote) && not (b == 92)))

-- what may stand alone behind a backslash: n r t \ ' "
abbrev pub is_escaped : ℕ → Bool
is_escaped b = list_any (nat_eq b) (codes "nrt\\'\"")

-- what stands between two quotes: plain bytes and escapes, which are a backslash and one byte, `x` and two or `u` and four
-- hexadecimal digits
pub data IsInside (quote : ℕ) : List ℕ → Type 0 where
  nothing : IsInside quote []
  plain : {b : ℕ} {bs : List ℕ} → is_plain quote b ≡ true → IsInside quote bs → IsInside quote (b ∷ bs)
  escape : {b : ℕ} {bs : List ℕ} → is_escaped b ≡ true → IsInside quote bs → IsInside quote (92 ∷ b ∷ bs)
  code : {b c : ℕ} {bs : List ℕ} → is_hex_digit b ≡ true → is_hex_digit c ≡ true → IsInside quote bs → IsInside quote (92 ∷ 120 ∷ b ∷ c ∷ bs)
  long_code : {b c d e : ℕ} {bs : List ℕ} → is_hex_digit b ≡ true → is_hex_digit c ≡ true → is_hex_digit d ≡ true → is_hex_digit e ≡ true
      → IsInside quote bs → IsInside quote (92 ∷ 117 ∷ b ∷ c ∷ d ∷ e ∷ bs)

pub record IsString (bytes : List ℕ) : Type 0 where
  pub quote : ℕ
  pub inside : List ℕ
  pub spelled : bytes ≡ quote ∷ inside ++ quote ∷ []
  pub is_quoted : is_quote quote ≡ true
  pub is_inside : IsInside quote inside

-- ---- punctuation

-- all punctuation, left-out operators included
unfoldable pub marks : List (List ℕ)
marks =
    codes ">>>=" ∷ codes ">>>" ∷ codes "<<=" ∷ codes ">>=" ∷ codes "=>" ∷ codes "==" ∷ codes "!=" ∷ codes "<=" ∷ codes ">=" ∷ codes "**" ∷ codes "++" ∷
    codes "--" ∷ codes "+=" ∷ codes "-=" ∷ codes "*=" ∷ codes "/=" ∷ codes "%=" ∷ codes "&&" ∷ codes "||" ∷ codes "<<" ∷ codes ">>" ∷ codes "&=" ∷
    codes "|=" ∷ codes "^=" ∷ codes "(" ∷ codes ")" ∷ codes "[" ∷ codes "]" ∷ codes "{" ∷ codes "}" ∷ codes ";" ∷ codes "," ∷ codes "." ∷ codes "?" ∷
    codes ":" ∷ codes "=" ∷ codes "<" ∷ codes ">" ∷ codes "+" ∷ codes "-" ∷ codes "*" ∷ codes "/" ∷ codes "%" ∷ codes "!" ∷ codes "&" ∷ codes "|" ∷
    codes "^" ∷ codes "~" ∷ []

-- how comments begin
unfoldable pub openers : List (List ℕ)
openers = codes "//" ∷ codes "/*" ∷ []

-- no longer punctuation, and no comment, begins where these bytes do
abbrev pub IsLongest : List ℕ → List ℕ → Type 0
IsLongest bytes rest = (longer more : List ℕ) → Contains (openers ++ marks) longer → bytes ++ rest ≡ longer ++ more → length longer ≤ length bytes

-- ---- tokens of each kind; a Note and an End stand in annotation lines alone

abbrev pub IsToken : Tok → List ℕ → Type 0
IsToken Word bytes = IsWord bytes × (bytes ≢ pragma)
IsToken Number bytes = IsDecimal bytes
IsToken Hex bytes = IsHexadecimal bytes
IsToken Str bytes = IsString bytes
IsToken Punct bytes = Contains marks bytes
IsToken Pragma bytes = IsPragma bytes
IsToken Note bytes = ⊥
IsToken End bytes = ⊥

-- what may follow: a word or a number can't go on, the longest punctuation counts, and a pragma goes up to its `;`
abbrev pub MayFollow : Tok → List ℕ → List ℕ → Type 0
MayFollow Word bytes rest = DoesNotBegin continues_word rest
MayFollow Number bytes rest = DoesNotBegin continues_word rest
MayFollow Hex bytes rest = DoesNotBegin continues_word rest
MayFollow Str bytes rest = Unit {0}
MayFollow Punct bytes rest = IsLongest bytes rest
MayFollow Pragma bytes rest = DoesBegin is_semicolon rest
MayFollow Note bytes rest = ⊥
MayFollow End bytes rest = ⊥

-- whether a separator or a token begins with the byte
abbrev pub begins_mark : ℕ → Bool
begins_mark b = list_any (λ mark. starts_with nat_eq mark (b ∷ [])) marks

abbrev pub begins_something : ℕ → Bool
begins_something b = is_separator b || (begins_word b || (is_digit b || (is_quote b || begins_mark b)))
