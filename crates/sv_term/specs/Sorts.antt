-- Believed: the sorts of terms, which of them count as one, and the numbers of a range. Hold it against the README's table of sorts, and two's complement for signed ranges.
use Rattle.std.specs.Prelude.{ℕ, zero, suc, ◌-◌, ◌^◌, Bool, true, false, cond, ◌&&◌, ◌||◌, nat_eq, nat_le, ℤ, pos, neg_ℤ, int_le}

-- any whole number; at least 0; the range of a signed or unsigned type of that many bits
pub data Range : Type 0 where
  Any : Range
  Low : Range
  Bits : (signed : Bool) (bits : ℕ) → Range

mutual
  pub data Sort : Type 0 where
    NumSort : (r : Range) → Sort
    BoolSort : Sort
    ArrSort : (element : Sort) → Sort
    TupSort : (parts : Sorts) → Sort

  pub data Sorts : Type 0 where
    NoSorts : Sorts
    SortAnd : (s : Sort) (ss : Sorts) → Sorts

-- ---- tests of equality

abbrev pub same_bool : Bool → Bool → Bool
same_bool true true = true
same_bool false false = true
same_bool _ _ = false

abbrev pub same_range : Range → Range → Bool
same_range Any Any = true
same_range Low Low = true
same_range (Bits g n) (Bits h k) = same_bool g h && nat_eq n k
same_range _ _ = false

abbrev mutual
  pub same_sort : Sort → Sort → Bool
  same_sort (NumSort r) (NumSort q) = same_range r q
  same_sort BoolSort BoolSort = true
  same_sort (ArrSort s) (ArrSort t) = same_sort s t
  same_sort (TupSort ss) (TupSort ts) = same_sorts ss ts
  same_sort _ _ = false

  pub same_sorts : Sorts → Sorts → Bool
  same_sorts NoSorts NoSorts = true
  same_sorts (SortAnd s ss) (SortAnd t ts) = same_sort s t && same_sorts ss ts
  same_sorts _ _ = false

-- ---- kinds and parts of sorts

abbrev pub is_num : Sort → Bool
is_num (NumSort r) = true
is_num _ = false

abbrev pub is_bool : Sort → Bool
is_bool BoolSort = true
is_bool _ = false

abbrev pub is_array : Sort → Bool
is_array (ArrSort s) = true
is_array _ = false

abbrev pub is_tuple : Sort → Bool
is_tuple (TupSort ss) = true
is_tuple _ = false

-- no array and no tuple
abbrev pub is_flat : Sort → Bool
is_flat s = is_num s || is_bool s

abbrev pub element : Sort → Sort
element (ArrSort s) = s
element _ = BoolSort

abbrev pub parts : Sort → Sorts
parts (TupSort ss) = ss
parts _ = NoSorts

abbrev pub count : Sorts → ℕ
count NoSorts = 0
count (SortAnd s ss) = suc (count ss)

abbrev pub sort_at : ℕ → Sorts → Sort
sort_at k NoSorts = BoolSort
sort_at zero (SortAnd s ss) = s
sort_at (suc k) (SortAnd s ss) = sort_at k ss

-- one sort, where two sorts of numbers count as one
abbrev pub matches : Sort → Sort → Bool
matches s t = (is_num s && is_num t) || same_sort s t

abbrev pub all_match : Sorts → Sorts → Bool
all_match NoSorts NoSorts = true
all_match (SortAnd s ss) (SortAnd t ts) = matches s t && all_match ss ts
all_match _ _ = false

-- each range of bits has 1 to 120
abbrev pub is_range : Range → Bool
is_range (Bits g n) = nat_le 1 n && nat_le n 120
is_range _ = true

abbrev mutual
  pub is_sort : Sort → Bool
  is_sort (NumSort r) = is_range r
  is_sort BoolSort = true
  is_sort (ArrSort s) = is_sort s
  is_sort (TupSort ss) = are_sorts ss

  pub are_sorts : Sorts → Bool
  are_sorts NoSorts = true
  are_sorts (SortAnd s ss) = is_sort s && are_sorts ss

-- ---- ranges

-- how far the range goes below and above 0
abbrev pub depth : Bool → ℕ → ℕ
depth signed n = cond signed (2 ^ (n - 1)) 0

abbrev pub height : Bool → ℕ → ℕ
height signed n = cond signed (2 ^ (n - 1)) (2 ^ n) - 1

abbrev pub is_in : Range → ℤ → Bool
is_in Any z = true
is_in Low z = int_le (pos 0) z
is_in (Bits g n) z = int_le (neg_ℤ (pos (depth g n))) z && int_le z (pos (height g n))
