-- Believed: laws of values and terms, each the contract of a function of `laws`. Hold it against the sentence above it.
use Rattle.std.specs.Prelude.{ℕ, ◌^◌, ◌≤◌, Bool, true, ◌≡◌, ◌↔◌, ℤ, pos, ◌+ℤ◌, ◌*ℤ◌}
use Rattle.sv_term.specs.Sorts.{Bits, Sort, ArrSort, is_num, is_in}
use Rattle.sv_term.specs.Values.{Value, Number, same_value, read, IsOf, default_of, wrapped}
use Rattle.sv_term.specs.Terms.{Term, sort_of, fits, is_plain}
use Rattle.sv_term.specs.Models.{Model, value}

-- the value of a term that fits is of its sort
abbrev pub ValuesAreOfTheirSort : Type 0
ValuesAreOfTheirSort = (m : Model) (t : Term) → fits t ≡ true → IsOf (sort_of t) (value m t)

-- two arrays are equal exactly where they read the same at every index
abbrev pub ArraysAreTheirReads : Type 0
ArraysAreTheirReads = (s : Sort) (a b : Value) → IsOf (ArrSort s) a → IsOf (ArrSort s) b
    → (same_value a b ≡ true) ↔ ((i : ℤ) → read i a ≡ read i b)

-- a plain array of numbers has the default 0
abbrev pub PlainHasZero : Type 0
PlainHasZero = (m : Model) (t : Term) (s : Sort) → fits t ≡ true → is_plain t ≡ true → sort_of t ≡ ArrSort s → is_num s ≡ true → default_of (value m t) ≡ Number (pos 0)

-- a wrapped number is in its range, and equal modulo 2 ^ n
abbrev pub WrapsModulo : Type 0
WrapsModulo = (g : Bool) (n : ℕ) (z : ℤ) → 1 ≤ n → (is_in (Bits g n) (wrapped g n z) ≡ true) × ((k : ℤ) × (z ≡ wrapped g n z +ℤ k *ℤ pos (2 ^ n)))
