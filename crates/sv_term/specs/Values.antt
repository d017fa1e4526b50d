-- Believed: values (whole numbers, truth values, finite maps with a default, tuples), reading, writing, mixing and summing of arrays, division toward zero, wrapping, and the values of a sort. Hold it against the README's table of nodes.
use Rattle.std.specs.Prelude.{ℕ, zero, suc, ◌-◌, ◌%◌, ◌^◌, Bool, true, false, cond, ◌&&◌, nat_le, ◌≡◌, ℤ, pos, negsuc, ◌+ℤ◌, ◌-ℤ◌, ◌<ℤ◌, int_lt, int_div, int_rem}
use Rattle.std.specs.Ordering.{int_eq}
use Rattle.sv_term.specs.Sorts.{Sort, NumSort, BoolSort, ArrSort, TupSort, Sorts, NoSorts, SortAnd, same_bool, is_in, height}

-- An array is a finite map with a default. Its entries stand in rising order of their indexes, and none has the default:
-- so two arrays that read the same at every index are one value.
mutual
  pub data Value : Type 0 where
    Number : (z : ℤ) → Value
    Flag : (b : Bool) → Value
    Array : (default : Value) (entries : Entries) → Value
    Tuple : (parts : Values) → Value

  pub data Values : Type 0 where
    NoValues : Values
    ValueAnd : (v : Value) (vs : Values) → Values

  pub data Entries : Type 0 where
    Empty : Entries
    Entry : (at : ℤ) (v : Value) (es : Entries) → Entries

abbrev mutual
  pub same_value : Value → Value → Bool
  same_value (Number y) (Number z) = int_eq y z
  same_value (Flag a) (Flag b) = same_bool a b
  same_value (Array d es) (Array e fs) = same_value d e && same_entries es fs
  same_value (Tuple us) (Tuple vs) = same_values us vs
  same_value _ _ = false

  pub same_values : Values → Values → Bool
  same_values NoValues NoValues = true
  same_values (ValueAnd u us) (ValueAnd v vs) = same_value u v && same_values us vs
  same_values _ _ = false

  pub same_entries : Entries → Entries → Bool
  same_entries Empty Empty = true
  same_entries (Entry i u es) (Entry j v fs) = int_eq i j && (same_value u v && same_entries es fs)
  same_entries _ _ = false

-- ---- parts of values, with something for what isn't there

abbrev pub number : Value → ℤ
number (Number z) = z
number _ = pos 0

abbrev pub flag : Value → Bool
flag (Flag b) = b
flag _ = false

abbrev pub value_at : ℕ → Values → Value
value_at k NoValues = Flag false
value_at zero (ValueAnd v vs) = v
value_at (suc k) (ValueAnd v vs) = value_at k vs

abbrev pub parts_of : Value → Values
parts_of (Tuple vs) = vs
parts_of _ = NoValues

abbrev pub default_of : Value → Value
default_of (Array d es) = d
default_of _ = Flag false

abbrev pub entries_of : Value → Entries
entries_of (Array d es) = es
entries_of _ = Empty

-- ---- reading and writing

abbrev pub entry : ℤ → Entries → Value → Value
entry i Empty d = d
entry i (Entry j v es) d = cond (int_eq i j) v (entry i es d)

abbrev pub read : ℤ → Value → Value
read i a = entry i (entries_of a) (default_of a)

abbrev pub without : ℤ → Entries → Entries
without i Empty = Empty
without i (Entry j v es) = cond (int_eq i j) es (Entry j v (without i es))

abbrev pub with_entry : ℤ → Value → Entries → Entries
with_entry i v Empty = Entry i v Empty
with_entry i v (Entry j w es) = cond (int_lt i j) (Entry i v (Entry j w es)) (cond (int_eq i j) (Entry i v es) (Entry j w (with_entry i v es)))

abbrev pub put : Value → ℤ → Value → Entries → Entries
put d i v es = cond (same_value v d) (without i es) (with_entry i v es)

abbrev pub write : ℤ → Value → Value → Value
write i v a = Array (default_of a) (put (default_of a) i v (entries_of a))

-- `a` at the indexes from 0 to n - 1, `b` at all others
abbrev pub mixed : ℕ → Value → Value → Value
mixed zero a b = b
mixed (suc n) a b = write (pos n) (read (pos n) a) (mixed n a b)

abbrev pub total : Entries → ℤ
total Empty = pos 0
total (Entry i v es) = number v +ℤ total es

-- the sum of the entries that differ from the default 0; 0 where the default is another
abbrev pub sum : Value → ℤ
sum a = cond (same_value (default_of a) (Number (pos 0))) (total (entries_of a)) (pos 0)

-- ---- numbers

abbrev pub as_nat : ℤ → ℕ
as_nat (pos n) = n
as_nat (negsuc n) = 0

-- toward zero; 0 where the divisor is 0
abbrev pub quotient : ℤ → ℤ → ℤ
quotient a b = cond (int_eq b (pos 0)) (pos 0) (int_div a b)

abbrev pub remainder : ℤ → ℤ → ℤ
remainder a b = cond (int_eq b (pos 0)) (pos 0) (int_rem a b)

-- what is left of z modulo m, from 0 to m - 1
abbrev pub residue : ℕ → ℤ → ℕ
residue m (pos n) = n % m
residue m (negsuc n) = m - 1 - n % m

-- the number of that range that equals z modulo 2 ^ n
abbrev pub wrapped : Bool → ℕ → ℤ → ℤ
wrapped g n z = let r = residue (2 ^ n) z in cond (nat_le r (height g n)) (pos r) (pos r -ℤ pos (2 ^ n))

-- ---- values of a sort

abbrev pub Each : (Value → Type 0) → Entries → Type 0
Each P Empty = Unit {0}
Each P (Entry i v es) = P v × Each P es

abbrev pub IsAbove : ℤ → Entries → Type 0
IsAbove k Empty = Unit {0}
IsAbove k (Entry i v es) = (k <ℤ i) × IsAbove k es

-- the indexes rise
abbrev pub IsRising : Entries → Type 0
IsRising Empty = Unit {0}
IsRising (Entry i v es) = IsAbove i es × IsRising es

abbrev pub IsOther : Value → Value → Type 0
IsOther d v = same_value v d ≡ false

abbrev mutual
  pub IsOf : Sort → Value → Type 0
  IsOf (NumSort r) (Number z) = is_in r z ≡ true
  IsOf BoolSort (Flag b) = Unit {0}
  IsOf (ArrSort s) (Array d es) = IsOf s d × Each (IsOf s) es × IsRising es × Each (IsOther d) es
  IsOf (TupSort ss) (Tuple vs) = AreOf ss vs
  IsOf (NumSort r) _ = ⊥
  IsOf BoolSort _ = ⊥
  IsOf (ArrSort s) _ = ⊥
  IsOf (TupSort ss) _ = ⊥

  pub AreOf : Sorts → Values → Type 0
  AreOf NoSorts NoValues = Unit {0}
  AreOf (SortAnd s ss) (ValueAnd v vs) = IsOf s v × AreOf ss vs
  AreOf NoSorts (ValueAnd v vs) = ⊥
  AreOf (SortAnd s ss) NoValues = ⊥

-- 0 for a number outside its range
abbrev pub fitted : Sort → Value → Value
fitted (NumSort r) v = cond (is_in r (number v)) v (Number (pos 0))
fitted _ v = v

abbrev pub all_fitted : Sorts → Values → Values
all_fitted (SortAnd s ss) (ValueAnd v vs) = ValueAnd (fitted s v) (all_fitted ss vs)
all_fitted _ vs = vs

-- ---- arrays of numbers have the default 0, at any depth

abbrev pub HasZero : Sort → Value → Type 0
HasZero (NumSort r) d = d ≡ Number (pos 0)
HasZero _ d = Unit {0}

abbrev mutual
  pub IsZeroed : Sort → Value → Type 0
  IsZeroed (NumSort r) v = Unit {0}
  IsZeroed BoolSort v = Unit {0}
  IsZeroed (ArrSort s) (Array d es) = HasZero s d × IsZeroed s d × Each (IsZeroed s) es
  IsZeroed (TupSort ss) (Tuple vs) = AreZeroed ss vs
  IsZeroed (ArrSort s) _ = ⊥
  IsZeroed (TupSort ss) _ = ⊥

  pub AreZeroed : Sorts → Values → Type 0
  AreZeroed NoSorts vs = Unit {0}
  AreZeroed (SortAnd s ss) (ValueAnd v vs) = IsZeroed s v × AreZeroed ss vs
  AreZeroed (SortAnd s ss) NoValues = ⊥
