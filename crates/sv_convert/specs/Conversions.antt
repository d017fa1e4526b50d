-- Believed: which types convert to which, by themselves and where the text says so, and which numbers a type holds. Hold it against Solidity's documentation, "Types", "Conversions between Elementary Types" and "Conversions between Literals and Elementary Types".
use Rattle.std.specs.Prelude.{ℕ, ◌==◌, ◌-◌, ◌^◌, ◌&&◌, ◌||◌, Bool, true, false, cond, not, nat_le, nat_lt, List, [], slice_index_or}
use Rattle.std.specs.List.{list_any}
use Rattle.sv_text_type.specs.declared.text_type.TextType.{TextType}
use Rattle.sv_text_type.specs.declared.text_type.TextType.TheVariants as t
use Rattle.sv_text_type.specs.TextTypeParts.{same_type}
use Rattle.sv_convert.specs.declared.convert.Setting.{Setting}
use Rattle.sv_convert.specs.declared.convert.Setting.TheVariants.{Code, Annotation}

-- ---- kinds of types

abbrev pub is_integer : TextType → Bool
is_integer (t.Uint n) = true
is_integer (t.Int n) = true
is_integer _ = false

abbrev pub is_signed : TextType → Bool
is_signed (t.Int n) = true
is_signed _ = false

abbrev pub is_enum : TextType → Bool
is_enum (t.Enum e) = true
is_enum _ = false

abbrev pub is_bool : TextType → Bool
is_bool t.Bool = true
is_bool _ = false

-- payable or not
abbrev pub is_address : TextType → Bool
is_address (t.Address payable) = true
is_address _ = false

abbrev pub is_contract : TextType → Bool
is_contract (t.Contract c) = true
is_contract _ = false

-- as wide as an address
abbrev pub is_uint160 : TextType → Bool
is_uint160 (t.Uint n) = n == 160
is_uint160 _ = false

-- in annotations integers of all types mix
abbrev pub mixes : Setting → Bool
mixes Code = false
mixes Annotation = true

-- ---- from type to type

-- contract b is among the bases of contract c, where each contract has the list of its bases, direct and indirect
abbrev pub derives : List (List ℕ) → ℕ → ℕ → Bool
derives bases c b = list_any (λ x. x == b) (slice_index_or bases c [])

-- a value of the first type is one of the second as it stands
abbrev pub converts : List (List ℕ) → TextType → TextType → Bool
converts bases (t.Uint m) (t.Uint n) = nat_le m n
converts bases (t.Int m) (t.Int n) = nat_le m n
converts bases (t.Address payable) (t.Address wanted) = payable || not wanted
converts bases (t.Contract c) (t.Contract b) = c == b || derives bases c b
converts bases from to = same_type from to

-- an address, or a contract that the wanted one derives from
abbrev pub turns_to_contract : List (List ℕ) → TextType → ℕ → Bool
turns_to_contract bases (t.Address payable) b = true
turns_to_contract bases (t.Contract c) b = derives bases b c
turns_to_contract bases _ b = false

-- the text may turn a value of the first type into another one of the second, by the name of the second
abbrev pub turns : Setting → List (List ℕ) → TextType → TextType → Bool
turns setting bases from (t.Uint n) = is_integer from || is_enum from || (is_address from && n == 160)
turns setting bases from (t.Int n) = is_integer from || is_enum from
turns setting bases from (t.Enum e) = is_integer from
turns setting bases from (t.Address payable) = is_address from || is_contract from || (is_uint160 from && not payable && not (mixes setting))
turns setting bases from (t.Contract b) = turns_to_contract bases from b
turns setting bases from to = false

abbrev pub converts_by_name : Setting → List (List ℕ) → TextType → TextType → Bool
converts_by_name setting bases from to = converts bases from to || turns setting bases from to

-- ---- from numbers, which are negative where the flag says so

-- `uintN` holds 0 to 2^N - 1, `intN` holds -2^(N - 1) to 2^(N - 1) - 1
abbrev pub holds : TextType → Bool → ℕ → Bool
holds (t.Uint n) negative m = (not negative || m == 0) && nat_lt m (2 ^ n)
holds (t.Int n) negative m = cond negative (nat_le m (2 ^ (n - 1))) (nat_lt m (2 ^ (n - 1)))
holds _ negative m = false

-- a literal takes the type; in annotations it needn't fit
abbrev pub takes_number : Setting → TextType → Bool → ℕ → Bool
takes_number setting to negative m = cond (mixes setting) (is_integer to) (holds to negative m)

-- a literal that is converted by the name of the type: to an enum it needn't be a member, and to an address 0 is always one
abbrev pub takes_by_name : Setting → TextType → Bool → ℕ → Bool
takes_by_name setting (t.Enum e) negative m = true
takes_by_name setting (t.Address payable) negative m = cond (payable || mixes setting) (m == 0) ((not negative || m == 0) && nat_lt m (2 ^ 160))
takes_by_name setting to negative m = holds to negative m
