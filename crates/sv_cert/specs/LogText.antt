-- Believed: the text of a log. Hold it against the format in the README.
use Rattle.std.specs.Prelude.{ℕ, Bool, true, false, cond, not, nat_lt, ◌+◌, ◌≤◌, ◌<◌, ◌^◌, List, [], ◌∷◌, ◌++◌, ◌≡◌, length, map, codes, ℤ}
use Rattle.std.specs.List.{All, concat, join_with_byte, list_all}
use Rattle.std.specs.Fmt.{decimal, signed_decimal}
use Rattle.sv_num.specs.Range.{IsI128}
use Rattle.sv_term.specs.Sorts.{Range, Any, Low, Bits, Sort, NumSort, BoolSort, ArrSort, TupSort, Sorts, NoSorts, SortAnd}
use Rattle.sv_log.specs.LogEntries.{Monomial, Row, Kind, LitKind, TruthKind, VarKind, AddKind, SubKind, MulKind, DivKind, ModKind, WrapKind, LeKind, EqKind, NotKind, AndKind, OrKind, IteKind, SelKind, StoKind, ConstKind, MixKind, TupKind, GetKind, SumKind, Part, TermPart, SortPart, NumberPart, FlagPart, LogNode, Slot, SignSlot, slots_of, TermsSlot, suits, Entry, AddTerm, AddFact, Linear, Combine, Divide, SplitOn, Cut, CloseAt, Clash}

abbrev pub Word : Type 0
Word = List ℕ

-- ---- words

abbrev pub name_of : Kind → Word
name_of LitKind = codes "lit"
name_of TruthKind = codes "truth"
name_of VarKind = codes "var"
name_of AddKind = codes "add"
name_of SubKind = codes "sub"
name_of MulKind = codes "mul"
name_of DivKind = codes "div"
name_of ModKind = codes "mod"
name_of WrapKind = codes "wrap"
name_of LeKind = codes "le"
name_of EqKind = codes "eq"
name_of NotKind = codes "not"
name_of AndKind = codes "and"
name_of OrKind = codes "or"
name_of IteKind = codes "ite"
name_of SelKind = codes "sel"
name_of StoKind = codes "sto"
name_of ConstKind = codes "const"
name_of MixKind = codes "mix"
name_of TupKind = codes "tup"
name_of GetKind = codes "get"
name_of SumKind = codes "sum"

-- `+` for true
abbrev pub sign_word : Bool → Word
sign_word b = cond b (codes "+") (codes "-")

abbrev pub flag_word : Bool → Word
flag_word b = cond b (codes "1") (codes "0")

abbrev pub range_word : Range → Word
range_word Any = codes "n"
range_word Low = codes "l"
range_word (Bits signed n) = cond signed (codes "i") (codes "u") ++ decimal n

abbrev mutual
  pub sort_word : Sort → Word
  sort_word (NumSort r) = range_word r
  sort_word BoolSort = codes "b"
  sort_word (ArrSort s) = codes "[" ++ (sort_word s ++ codes "]")
  sort_word (TupSort ss) = codes "(" ++ (sorts_word ss ++ codes ")")

  pub sorts_word : Sorts → Word
  sorts_word NoSorts = []
  sorts_word (SortAnd s NoSorts) = sort_word s
  sorts_word (SortAnd s (SortAnd t ts)) = sort_word s ++ (codes "," ++ sorts_word (SortAnd t ts))

-- the flag of a literal is true for `-`
abbrev pub part_word : Slot → Part → Word
part_word x (TermPart n) = decimal n
part_word x (SortPart s) = sort_word s
part_word x (NumberPart m) = decimal m
part_word SignSlot (FlagPart b) = cond b (codes "-") (codes "+")
part_word x (FlagPart b) = flag_word b

abbrev pub part_words : List Slot → List Part → List Word
part_words [] ps = []
part_words (TermsSlot ∷ xs) ps = map (part_word TermsSlot) ps
part_words (x ∷ xs) [] = []
part_words (x ∷ xs) (p ∷ ps) = part_word x p ∷ part_words xs ps

abbrev pub monomial_words : List Monomial → List Word
monomial_words [] = []
monomial_words (p ∷ ps) = signed_decimal p.factor ∷ decimal p.column ∷ monomial_words ps

abbrev pub row_words : Row → List Word
row_words r = signed_decimal r.constant ∷ monomial_words r.parts

-- ---- lines

abbrev pub words_of : Entry → List Word
words_of (AddTerm node) = codes "t" ∷ name_of node.kind ∷ part_words (slots_of node.kind) node.parts
words_of (AddFact rule sign n from) = codes "f" ∷ decimal rule ∷ sign_word sign ∷ decimal n ∷ map decimal from
words_of (Linear p forward r) = codes "l" ∷ decimal p ∷ sign_word forward ∷ row_words r
words_of (Combine m p n q r) = codes "k" ∷ signed_decimal m ∷ decimal p ∷ signed_decimal n ∷ decimal q ∷ row_words r
words_of (Divide d p r) = codes "g" ∷ signed_decimal d ∷ decimal p ∷ row_words r
words_of (SplitOn n) = codes "s" ∷ decimal n ∷ []
words_of Cut = codes "x" ∷ []
words_of (CloseAt p) = codes "c" ∷ decimal p ∷ []
words_of (Clash p q) = codes "c" ∷ decimal p ∷ decimal q ∷ []

-- the words with a space between each two, and a newline
abbrev pub line_of : Entry → List ℕ
line_of e = join_with_byte 32 (words_of e) ++ 10 ∷ []

abbrev pub text_of : List Entry → List ℕ
text_of es = concat (map line_of es)

-- ---- the numbers that a line may have

abbrev pub HasRange : Range → Type 0
HasRange (Bits signed n) = n < 2 ^ 16
HasRange r = Unit {0}

abbrev mutual
  pub HasRanges : Sort → Type 0
  HasRanges (NumSort r) = HasRange r
  HasRanges BoolSort = Unit {0}
  HasRanges (ArrSort s) = HasRanges s
  HasRanges (TupSort ss) = HaveRanges ss

  pub HaveRanges : Sorts → Type 0
  HaveRanges NoSorts = Unit {0}
  HaveRanges (SortAnd s ss) = HasRanges s × HaveRanges ss

abbrev pub IsIndex : ℕ → Type 0
IsIndex n = n < 2 ^ 64

-- the text of a sort has at most 10,000 bytes, so that none nests deeper than 5,000
abbrev pub is_short : Part → Bool
is_short (SortPart s) = not (nat_lt 10000 (length (sort_word s)))
is_short p = true

abbrev pub are_short : List Part → Bool
are_short ps = list_all is_short ps

abbrev pub IsPart : Part → Type 0
IsPart (TermPart n) = IsIndex n
IsPart (SortPart s) = HasRanges s × (is_short (SortPart s) ≡ true)
IsPart (NumberPart m) = m < 2 ^ 128
IsPart (FlagPart b) = Unit {0}

abbrev pub AreParts : List Part → Type 0
AreParts [] = Unit {0}
AreParts (p ∷ ps) = IsPart p × AreParts ps

abbrev pub AreIndexes : List ℕ → Type 0
AreIndexes [] = Unit {0}
AreIndexes (n ∷ ns) = IsIndex n × AreIndexes ns

abbrev pub AreMonomials : List Monomial → Type 0
AreMonomials [] = Unit {0}
AreMonomials (p ∷ ps) = IsI128 p.factor × IsIndex p.column × AreMonomials ps

abbrev pub IsRow : Row → Type 0
IsRow r = IsI128 r.constant × AreMonomials r.parts

-- each number is of its type, and a node has the parts that it takes
abbrev pub IsEntry : Entry → Type 0
IsEntry (AddTerm node) = (suits node.kind node.parts ≡ true) × AreParts node.parts
IsEntry (AddFact rule sign n from) = (rule < 2 ^ 8) × IsIndex n × AreIndexes from
IsEntry (Linear p forward r) = IsIndex p × IsRow r
IsEntry (Combine m p n q r) = IsI128 m × IsIndex p × IsI128 n × IsIndex q × IsRow r
IsEntry (Divide d p r) = IsI128 d × IsIndex p × IsRow r
IsEntry (SplitOn n) = IsIndex n
IsEntry Cut = Unit {0}
IsEntry (CloseAt p) = IsIndex p
IsEntry (Clash p q) = IsIndex p × IsIndex q

abbrev pub AreEntries : List Entry → Type 0
AreEntries [] = Unit {0}
AreEntries (e ∷ es) = IsEntry e × AreEntries es

-- so many lines of the text are entries, and what follows is something that begins with no entry's line
pub record IsFaultyAfter (text : List ℕ) (count : ℕ) : Type 0 where
  pub before : List Entry
  pub rest : List ℕ
  pub text_is : text ≡ text_of before ++ rest
  pub entries : AreEntries before
  pub size : length before ≡ count
  pub some : rest ≡ [] → ⊥
  pub none : (e : Entry) (more : List ℕ) → IsEntry e → rest ≡ line_of e ++ more → ⊥
