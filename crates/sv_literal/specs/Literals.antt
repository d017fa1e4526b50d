-- Believed: what a number literal with its unit is worth, and which hexadecimal literals are addresses. Hold it against Solidity's documentation, "Rational and Integer Literals", "Hexadecimal Literals", "Address Literals", "Ether Units" and "Time Units".
use Rattle.std.specs.Prelude.{ℕ, ◌==◌, ◌+◌, ◌-◌, ◌*◌, ◌^◌, Bool, cond, not, nat_le, nat_lt, Option, Some, None, List, [], ◌∷◌, take, drop, count_by}
use Rattle.sv_ast.specs.declared.post.Unit10.{Unit10}
use Rattle.sv_ast.specs.declared.post.Unit10Kind.{Unit10Kind}
use Rattle.sv_ast.specs.declared.post.Unit10Kind.TheVariants as kind

-- ---- digits

-- 0 to 9, a to f, and A to F once more
abbrev pub digit : ℕ → ℕ
digit b = cond (nat_le 97 b) (b - 87) (cond (nat_le 65 b) (b - 55) (b - 48))

-- `_`, which may stand between two digits and is worth nothing
abbrev pub is_gap : ℕ → Bool
is_gap b = b == 95

-- a byte behind digits that are worth n
abbrev pub with_digit : ℕ → ℕ → ℕ → ℕ
with_digit base n b = cond (is_gap b) n (n * base + digit b)

-- digits behind digits that are worth n
abbrev pub behind : ℕ → ℕ → List ℕ → ℕ
behind base n [] = n
behind base n (b ∷ bs) = behind base (with_digit base n b) bs

abbrev pub digits_worth : ℕ → List ℕ → ℕ
digits_worth base text = behind base 0 text

-- ---- decimal numbers

-- `e`
abbrev pub is_exponent : ℕ → Bool
is_exponent b = b == 101

-- how many bytes stand before the first `e`, or in all
abbrev pub before_exponent : List ℕ → ℕ
before_exponent [] = 0
before_exponent (b ∷ bs) = cond (is_exponent b) 0 (before_exponent bs + 1)

abbrev pub mantissa : List ℕ → List ℕ
mantissa text = take (before_exponent text) text

abbrev pub exponent : List ℕ → List ℕ
exponent text = drop (before_exponent text + 1) text

-- ether in wei, and times in seconds
abbrev pub kind_worth : Unit10Kind → ℕ
kind_worth kind.Wei = 1
kind_worth kind.Gwei = 10 ^ 9
kind_worth kind.Ether = 10 ^ 18
kind_worth kind.Seconds = 1
kind_worth kind.Minutes = 60
kind_worth kind.Hours = 60 * 60
kind_worth kind.Days = 24 * 60 * 60
kind_worth kind.Weeks = 7 * 24 * 60 * 60

abbrev pub unit_worth : Option Unit10 → ℕ
unit_worth None = 1
unit_worth (Some u) = kind_worth u.kind

-- `12e3 days`: digits, times a power of ten, times the unit
abbrev pub decimal_worth : List ℕ → Option Unit10 → ℕ
decimal_worth text unit = digits_worth 10 (mantissa text) * 10 ^ digits_worth 10 (exponent text) * unit_worth unit

-- ---- hexadecimal numbers

-- what stands behind `0x`
abbrev pub hexadecimal_digits : List ℕ → List ℕ
hexadecimal_digits text = drop 2 text

abbrev pub hexadecimal_worth : List ℕ → ℕ
hexadecimal_worth text = digits_worth 16 (hexadecimal_digits text)

abbrev pub is_digit : ℕ → Bool
is_digit b = not (is_gap b)

-- a hexadecimal literal of exactly 40 digits is an address
abbrev pub is_address : List ℕ → Bool
is_address text = count_by is_digit (hexadecimal_digits text) == 40
