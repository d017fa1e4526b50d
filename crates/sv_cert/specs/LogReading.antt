-- Serves the proof: a reader of words and lines, which the code follows step by step.
use Rattle.std.specs.Prelude.{ℕ, zero, suc, Bool, true, false, cond, not, ◌+◌, ◌<◌, ◌^◌, ◌*◌, ◌&&◌, ◌||◌, nat_eq, nat_lt, List, [], ◌∷◌, ◌++◌, ◌≡◌, length, codes, Option, Some, None, find, ℤ, pos, negsuc}
use Rattle.std.specs.List.{slice_split}
use Rattle.std.specs.Str.{all_ascii_digits, bytes_eq}
use Rattle.std.specs.Char.{is_ascii_digit}
use Rattle.std.specs.Str.Parse.{digits_value}
use Rattle.sv_term.specs.Sorts.{Range, Any, Low, Bits, Sort, NumSort, BoolSort, ArrSort, TupSort, Sorts, NoSorts, SortAnd}
use Rattle.sv_log.specs.LogEntries.{Monomial, Row, Kind, LitKind, TruthKind, VarKind, AddKind, SubKind, MulKind, DivKind, ModKind, WrapKind, LeKind, EqKind, NotKind, AndKind, OrKind, IteKind, SelKind, StoKind, ConstKind, MixKind, TupKind, GetKind, SumKind, Part, TermPart, SortPart, NumberPart, FlagPart, LogNode, Slot, SignSlot, FlagSlot, NumberSlot, SortSlot, TermSlot, TermsSlot, slots_of, Entry, AddTerm, AddFact, Linear, Combine, Divide, SplitOn, Cut, CloseAt, Clash}
use Rattle.sv_log.specs.LogRows.{monomial, row}
use Rattle.sv_cert.specs.LogText.{Word, name_of}

infixl 10 ◌>>=◌
abbrev pub ◌>>=◌ : {A B : Type 0} → Option A → (A → Option B) → Option B
None >>= f = None
(Some a) >>= f = f a

-- ---- numbers

-- the first byte is a digit, and no 0 before others
abbrev pub starts_plainly : Word → Bool
starts_plainly [] = false
starts_plainly (c ∷ cs) = is_ascii_digit c && (not (nat_eq c 48) || nat_eq (length cs) 0)

-- digits without a 0 before others
abbrev pub is_numeral : Word → Bool
is_numeral [] = false
is_numeral (c ∷ cs) = all_ascii_digits (c ∷ cs) && starts_plainly (c ∷ cs)

-- the number of a word, below a limit
unfoldable pub numeral : ℕ → Word → Option ℕ
numeral limit w = cond (is_numeral w && nat_lt (digits_value 10 w) limit) (Some (digits_value 10 w)) None

abbrev pub index : Word → Option ℕ
index w = numeral (2 ^ 64) w

abbrev pub negated : ℕ → Option ℤ
negated zero = None
negated (suc n) = Some (negsuc n)

abbrev pub negative : Word → Option ℤ
negative ds = numeral (2 ^ 127 + 1) ds >>= negated

abbrev pub positive : Word → Option ℤ
positive ds = numeral (2 ^ 127) ds >>= (λ n. Some (pos n))

unfoldable pub integer : Word → Option ℤ
integer [] = None
integer (c ∷ cs) = cond (nat_eq c 45) (negative cs) (positive (c ∷ cs))

abbrev pub sign_byte : ℕ → Option Bool
sign_byte c = cond (nat_eq c 43) (Some true) (cond (nat_eq c 45) (Some false) None)

unfoldable pub sign : Word → Option Bool
sign [] = None
sign (c ∷ []) = sign_byte c
sign (c ∷ d ∷ cs) = None

abbrev pub flag_byte : ℕ → Option Bool
flag_byte c = cond (nat_eq c 49) (Some true) (cond (nat_eq c 48) (Some false) None)

unfoldable pub flag : Word → Option Bool
flag [] = None
flag (c ∷ []) = flag_byte c
flag (c ∷ d ∷ cs) = None

-- ---- sorts: one byte after another, with the brackets that are open

pub data Open : Type 0 where
  InArray : Open
  InTuple : (before : List Sort) → Open

pub data Reading : Type 0 where
  -- a sort is to begin
  Wanted : Reading
  -- a tuple has begun, and may end at once
  Begun : Reading
  -- the letter of a range, and these digits
  Digits : (signed : Bool) (ds : Word) → Reading
  Done : (s : Sort) → Reading
  Refused : Reading

-- the innermost bracket first
pub record SortState : Type 0 where
  pub brackets : List Open
  pub reading : Reading

abbrev pub at : List Open → Reading → SortState
at k r = record { brackets = k; reading = r }

abbrev pub sorts_in : List Sort → Sorts
sorts_in [] = NoSorts
sorts_in (s ∷ ss) = SortAnd s (sorts_in ss)

-- the first byte of a sort
abbrev pub begin_sort : List Open → ℕ → SortState
begin_sort k c =
    cond (nat_eq c 110) (at k (Done (NumSort Any))) (
    cond (nat_eq c 108) (at k (Done (NumSort Low))) (
    cond (nat_eq c 98) (at k (Done BoolSort)) (
    cond (nat_eq c 91) (at (InArray ∷ k) Wanted) (
    cond (nat_eq c 40) (at k Begun) (
    cond (nat_eq c 117) (at k (Digits false [])) (
    cond (nat_eq c 105) (at k (Digits true [])) (at k Refused)))))))

-- the byte behind a sort
abbrev pub end_sort : List Open → Sort → ℕ → SortState
end_sort [] s c = at [] Refused
end_sort (InArray ∷ k) s c = cond (nat_eq c 93) (at k (Done (ArrSort s))) (at k Refused)
end_sort (InTuple ss ∷ k) s c =
    cond (nat_eq c 41) (at k (Done (TupSort (sorts_in (ss ++ s ∷ []))))) (
    cond (nat_eq c 44) (at (InTuple (ss ++ s ∷ []) ∷ k) Wanted) (at k Refused))

abbrev pub bits_sort : Bool → Option ℕ → Option Sort
bits_sort signed None = None
bits_sort signed (Some n) = Some (NumSort (Bits signed n))

-- the sort that is read, if one is
abbrev pub sort_of_reading : Reading → Option Sort
sort_of_reading Wanted = None
sort_of_reading Begun = None
sort_of_reading (Digits signed ds) = bits_sort signed (numeral (2 ^ 16) ds)
sort_of_reading (Done s) = Some s
sort_of_reading Refused = None

abbrev pub end_of : List Open → Option Sort → ℕ → SortState
end_of k None c = at k Refused
end_of k (Some s) c = end_sort k s c

abbrev pub step_at : List Open → Reading → ℕ → SortState
step_at k Wanted c = begin_sort k c
step_at k Begun c = cond (nat_eq c 41) (at k (Done (TupSort NoSorts))) (begin_sort (InTuple [] ∷ k) c)
step_at k (Digits signed ds) c = cond (is_ascii_digit c) (at k (Digits signed (ds ++ c ∷ []))) (end_of k (bits_sort signed (numeral (2 ^ 16) ds)) c)
step_at k (Done s) c = end_sort k s c
step_at k Refused c = at k Refused

abbrev pub step : SortState → ℕ → SortState
step st c = step_at st.brackets st.reading c

abbrev pub run : SortState → Word → SortState
run st [] = st
run st (c ∷ cs) = run (step st c) cs

abbrev pub none_open : List Open → Option Sort → Option Sort
none_open [] s = s
none_open (o ∷ k) s = None

abbrev pub sort_end : SortState → Option Sort
sort_end st = none_open st.brackets (sort_of_reading st.reading)

-- the sort that a word of any length stands for
unfoldable pub whole_sort : Word → Option Sort
whole_sort w = sort_end (run (at [] Wanted) w)

unfoldable pub sort_in : Word → Option Sort
sort_in w = cond (nat_lt 10000 (length w)) None (whole_sort w)

-- ---- the words of a line, each reader up to the line's end

abbrev pub each : {A : Type 0} → (Word → Option A) → List Word → Option (List A)
each f [] = Some []
each f (w ∷ ws) = f w >>= (λ a. each f ws >>= (λ rest. Some (a ∷ rest)))

-- the next word, and what is read from the others
abbrev pub first : {A B : Type 0} → (Word → Option A) → List Word → (A → List Word → Option B) → Option B
first f [] next = None
first f (w ∷ ws) next = f w >>= (λ a. next a ws)

abbrev pub ended : {A : Type 0} → List Word → A → Option A
ended [] a = Some a
ended (w ∷ ws) a = None

abbrev pub monomials : List Word → Option (List Monomial)
monomials [] = Some []
monomials (w ∷ []) = None
monomials (w ∷ v ∷ ws) = integer w >>= (λ k. index v >>= (λ x. monomials ws >>= (λ ps. Some (monomial k x ∷ ps))))

abbrev pub row_from : ℤ → List Word → Option Row
row_from k ws = monomials ws >>= (λ ps. Some (row k ps))

abbrev pub row_in : List Word → Option Row
row_in ws = first integer ws row_from

abbrev pub number_part : Word → Option Part
number_part w = numeral (2 ^ 128) w >>= (λ m. Some (NumberPart m))

abbrev pub term_part : Word → Option Part
term_part w = index w >>= (λ n. Some (TermPart n))

abbrev pub part_in : Slot → Word → Option Part
part_in SignSlot w = sign w >>= (λ b. Some (FlagPart (not b)))
part_in FlagSlot w = flag w >>= (λ b. Some (FlagPart b))
part_in NumberSlot w = number_part w
part_in SortSlot w = sort_in w >>= (λ s. Some (SortPart s))
part_in TermSlot w = term_part w
part_in TermsSlot w = term_part w

abbrev pub parts_in : List Slot → List Word → Option (List Part)
parts_in [] ws = ended ws []
parts_in (TermsSlot ∷ xs) ws = each term_part ws
parts_in (x ∷ xs) ws = first (part_in x) ws (λ p rest. parts_in xs rest >>= (λ ps. Some (p ∷ ps)))

abbrev pub all_kinds : List Kind
all_kinds =
    LitKind ∷ TruthKind ∷ VarKind ∷ AddKind ∷ SubKind ∷ MulKind ∷ DivKind ∷ ModKind ∷ WrapKind ∷ LeKind ∷ EqKind
    ∷ NotKind ∷ AndKind ∷ OrKind ∷ IteKind ∷ SelKind ∷ StoKind ∷ ConstKind ∷ MixKind ∷ TupKind ∷ GetKind ∷ SumKind ∷ []

unfoldable pub kind_in : Word → Option Kind
kind_in w = find (λ kind. bytes_eq (name_of kind) w) all_kinds

abbrev pub node_from : Kind → List Part → LogNode
node_from kind ps = record { kind = kind; parts = ps }

abbrev pub node_of : Kind → List Word → Option LogNode
node_of kind ws = parts_in (slots_of kind) ws >>= (λ ps. Some (node_from kind ps))

abbrev pub node_in : List Word → Option LogNode
node_in ws = first kind_in ws node_of

-- ---- entries, behind their first word

abbrev pub term_in : List Word → Option Entry
term_in ws = node_in ws >>= (λ node. Some (AddTerm node))

abbrev pub fact_from : ℕ → Bool → ℕ → List Word → Option Entry
fact_from rule sign n ws = each index ws >>= (λ from. Some (AddFact rule sign n from))

abbrev pub fact_term : ℕ → Bool → List Word → Option Entry
fact_term rule sign ws = first index ws (fact_from rule sign)

abbrev pub fact_sign : ℕ → List Word → Option Entry
fact_sign rule ws = first sign ws (fact_term rule)

abbrev pub fact_in : List Word → Option Entry
fact_in ws = first (numeral (2 ^ 8)) ws fact_sign

abbrev pub linear_row : ℕ → Bool → List Word → Option Entry
linear_row p forward ws = row_in ws >>= (λ r. Some (Linear p forward r))

abbrev pub linear_sign : ℕ → List Word → Option Entry
linear_sign p ws = first sign ws (linear_row p)

abbrev pub linear_in : List Word → Option Entry
linear_in ws = first index ws linear_sign

abbrev pub combine_row : ℤ → ℕ → ℤ → ℕ → List Word → Option Entry
combine_row m p n q ws = row_in ws >>= (λ r. Some (Combine m p n q r))

abbrev pub combine_second : ℤ → ℕ → ℤ → List Word → Option Entry
combine_second m p n ws = first index ws (combine_row m p n)

abbrev pub combine_times : ℤ → ℕ → List Word → Option Entry
combine_times m p ws = first integer ws (combine_second m p)

abbrev pub combine_first : ℤ → List Word → Option Entry
combine_first m ws = first index ws (combine_times m)

abbrev pub combine_in : List Word → Option Entry
combine_in ws = first integer ws combine_first

abbrev pub divide_row : ℤ → ℕ → List Word → Option Entry
divide_row d p ws = row_in ws >>= (λ r. Some (Divide d p r))

abbrev pub divide_item : ℤ → List Word → Option Entry
divide_item d ws = first index ws (divide_row d)

abbrev pub divide_in : List Word → Option Entry
divide_in ws = first integer ws divide_item

abbrev pub split_end : ℕ → List Word → Option Entry
split_end n ws = ended ws (SplitOn n)

abbrev pub split_in : List Word → Option Entry
split_in ws = first index ws split_end

abbrev pub clash_end : ℕ → ℕ → List Word → Option Entry
clash_end p q ws = ended ws (Clash p q)

abbrev pub close_end : ℕ → List Word → Option Entry
close_end p [] = Some (CloseAt p)
close_end p (w ∷ ws) = first index (w ∷ ws) (clash_end p)

abbrev pub close_in : List Word → Option Entry
close_in ws = first index ws close_end

abbrev pub entry_by : Word → List Word → Option Entry
entry_by k ws =
    cond (bytes_eq k (codes "t")) (term_in ws) (
    cond (bytes_eq k (codes "f")) (fact_in ws) (
    cond (bytes_eq k (codes "l")) (linear_in ws) (
    cond (bytes_eq k (codes "k")) (combine_in ws) (
    cond (bytes_eq k (codes "g")) (divide_in ws) (
    cond (bytes_eq k (codes "s")) (split_in ws) (
    cond (bytes_eq k (codes "x")) (ended ws Cut) (
    cond (bytes_eq k (codes "c")) (close_in ws) None)))))))

abbrev pub entry_in : List Word → Option Entry
entry_in [] = None
entry_in (k ∷ ws) = entry_by k ws

abbrev pub words_in : List ℕ → List Word
words_in line = slice_split (λ b. nat_eq b 32) line

-- the entry of a line, which is given without its newline
abbrev pub entry_of_line : List ℕ → Option Entry
entry_of_line line = entry_in (words_in line)
