-- Lines of entries, one after another, and the first that is none.
use Rattle.std.proofs.Common.{ℕ, zero, suc, ◌+◌, ◌^◌, ◌<◌, ◌≤◌, Bool, true, false, cond, not, ◌&&◌, nat_eq, nat_lt, List, [], ◌∷◌, ◌++◌, length, map, ◌≡◌, refl, sym, ap, ap₂, ◌∙◌, subst, arith, Option, None, Some, append_assoc}
use Rattle.std.specs.Prelude.{codes}
use Rattle.std.specs.List.{list_all, slice_split, onto_first, join_with_byte, concat}
use Rattle.std.specs.Char.{is_ascii_digit}
use Rattle.std.specs.Fmt.{decimal, signed_decimal}
use Rattle.std.specs.Str.{all_ascii_digits}
use Rattle.std.proofs.lemmas.Bool.Decides.{nat_tests}
use Rattle.std.proofs.lemmas.Int.{ints}
use Rattle.std.proofs.lemmas.List.Splits.{join_with_byte-slice_split}
use lib.IntN.{ℤ, pos, negsuc, neg_ℤ}
use lib.Signed.{◌≤ℤ◌, ◌<ℤ◌}
use Rattle.sv_num.specs.Range.{IsI128}
use Rattle.sv_term.specs.Sorts.{Range, Any, Low, Bits, Sort, NumSort, BoolSort, ArrSort, TupSort, Sorts, NoSorts, SortAnd}
use Rattle.sv_term.proofs.Same.{both_true, and_true, same_nat}
use Rattle.sv_log.specs.LogEntries.{Monomial, Row, Kind, LitKind, TruthKind, VarKind, AddKind, SubKind, MulKind, DivKind, ModKind, WrapKind, LeKind, EqKind, NotKind, AndKind, OrKind, IteKind, SelKind, StoKind, ConstKind, MixKind, TupKind, GetKind, SumKind, Part, TermPart, SortPart, NumberPart, FlagPart, LogNode, Slot, SignSlot, FlagSlot, NumberSlot, SortSlot, TermSlot, TermsSlot, slots_of, Entry, AddTerm, AddFact, Linear, Combine, Divide, SplitOn, Cut, CloseAt, Clash}
use Rattle.sv_cert.specs.LogText.{Word, name_of, sign_word, range_word, sort_word, sorts_word, part_word, part_words, monomial_words, row_words, words_of, line_of, text_of, HasRanges, HaveRanges, IsIndex, IsPart, AreParts, AreIndexes, AreMonomials, IsRow, IsEntry, AreEntries, IsFaultyAfter}
use Rattle.sv_cert.specs.LogReading.{entry_in, words_in, entry_of_line}
use Rattle.sv_cert.specs.LogTextLaws.{TextsAreExact}
use Rattle.sv_cert.proofs.Numerals.{lt_true, true_lt, all_digits_decimal, below_limit, above_limit}
use Rattle.sv_cert.proofs.EntryTexts.{entry_of_words, words_of_entry}

-- ---- words have neither spaces nor newlines

abbrev pub is_clean : Word → Bool
is_clean w = list_all (λ c. nat_lt 32 c) w

clean_append : (v w : Word) → is_clean v ≡ true → is_clean w ≡ true → is_clean (v ++ w) ≡ true
clean_append [] w f g = g
clean_append (c ∷ v) w f g =
    let b = both_true (nat_lt 32 c) (is_clean v) f in
    and_true (nat_lt 32 c) (is_clean (v ++ w)) b.0 (clean_append v w b.1 g)

digit_clean : (c : ℕ) → is_ascii_digit c ≡ true → nat_lt 32 c ≡ true
digit_clean c e = grind (arith, nat_tests)

digits_clean : (w : Word) → all_ascii_digits w ≡ true → is_clean w ≡ true
digits_clean [] e = refl
digits_clean (c ∷ cs) e =
    let b = both_true (is_ascii_digit c) (all_ascii_digits cs) e in
    and_true (nat_lt 32 c) (is_clean cs) (digit_clean c b.0) (digits_clean cs b.1)

decimal_clean : (n : ℕ) → n < 10 ^ 64 → is_clean (decimal n) ≡ true
decimal_clean n h = digits_clean (decimal n) (all_digits_decimal n h)

index_clean : (n : ℕ) → IsIndex n → is_clean (decimal n) ≡ true
index_clean n h = decimal_clean n (omega arith)

integer_clean : (z : ℤ) → IsI128 z → is_clean (signed_decimal z) ≡ true
integer_clean (pos n) h = let l = below_limit n h.1 in decimal_clean n (omega (arith, l))
integer_clean (negsuc n) h = let l = above_limit n h.0 in decimal_clean (suc n) (omega (arith, l))

sign_clean : (b : Bool) → is_clean (sign_word b) ≡ true
sign_clean true = refl
sign_clean false = refl

mutual
  sort_clean : (s : Sort) → HasRanges s → is_clean (sort_word s) ≡ true
  sort_clean (NumSort Any) h = refl
  sort_clean (NumSort Low) h = refl
  sort_clean (NumSort (Bits true n)) h = decimal_clean n (omega arith)
  sort_clean (NumSort (Bits false n)) h = decimal_clean n (omega arith)
  sort_clean BoolSort h = refl
  sort_clean (ArrSort s) h = clean_append (sort_word s) (codes "]") (sort_clean s h) refl
  sort_clean (TupSort ss) h = clean_append (sorts_word ss) (codes ")") (sorts_clean ss h) refl

  sorts_clean : (ss : Sorts) → HaveRanges ss → is_clean (sorts_word ss) ≡ true
  sorts_clean NoSorts h = refl
  sorts_clean (SortAnd s NoSorts) h = sort_clean s h.0
  sorts_clean (SortAnd s (SortAnd t ts)) h = clean_append (sort_word s) (codes "," ++ sorts_word (SortAnd t ts)) (sort_clean s h.0) (sorts_clean (SortAnd t ts) h.1)

name_clean : (kind : Kind) → is_clean (name_of kind) ≡ true
name_clean LitKind = refl
name_clean TruthKind = refl
name_clean VarKind = refl
name_clean AddKind = refl
name_clean SubKind = refl
name_clean MulKind = refl
name_clean DivKind = refl
name_clean ModKind = refl
name_clean WrapKind = refl
name_clean LeKind = refl
name_clean EqKind = refl
name_clean NotKind = refl
name_clean AndKind = refl
name_clean OrKind = refl
name_clean IteKind = refl
name_clean SelKind = refl
name_clean StoKind = refl
name_clean ConstKind = refl
name_clean MixKind = refl
name_clean TupKind = refl
name_clean GetKind = refl
name_clean SumKind = refl

part_clean : (x : Slot) (p : Part) → IsPart p → is_clean (part_word x p) ≡ true
part_clean x (TermPart n) h = index_clean n h
part_clean x (SortPart s) h = sort_clean s h.0
part_clean x (NumberPart m) h = decimal_clean m (omega arith)
part_clean SignSlot (FlagPart true) h = refl
part_clean SignSlot (FlagPart false) h = refl
part_clean FlagSlot (FlagPart true) h = refl
part_clean FlagSlot (FlagPart false) h = refl
part_clean NumberSlot (FlagPart true) h = refl
part_clean NumberSlot (FlagPart false) h = refl
part_clean SortSlot (FlagPart true) h = refl
part_clean SortSlot (FlagPart false) h = refl
part_clean TermSlot (FlagPart true) h = refl
part_clean TermSlot (FlagPart false) h = refl
part_clean TermsSlot (FlagPart true) h = refl
part_clean TermsSlot (FlagPart false) h = refl

abbrev are_clean : List Word → Bool
are_clean ws = list_all is_clean ws

map_clean : (ps : List Part) → AreParts ps → are_clean (map (part_word TermsSlot) ps) ≡ true
map_clean [] h = refl
map_clean (p ∷ ps) h = and_true (is_clean (part_word TermsSlot p)) (are_clean (map (part_word TermsSlot) ps)) (part_clean TermsSlot p h.0) (map_clean ps h.1)

parts_clean : (xs : List Slot) (ps : List Part) → AreParts ps → are_clean (part_words xs ps) ≡ true
parts_clean [] ps h = refl
parts_clean (TermsSlot ∷ xs) ps h = map_clean ps h
parts_clean (SignSlot ∷ xs) [] h = refl
parts_clean (FlagSlot ∷ xs) [] h = refl
parts_clean (NumberSlot ∷ xs) [] h = refl
parts_clean (SortSlot ∷ xs) [] h = refl
parts_clean (TermSlot ∷ xs) [] h = refl
parts_clean (SignSlot ∷ xs) (p ∷ ps) h = and_true _ _ (part_clean SignSlot p h.0) (parts_clean xs ps h.1)
parts_clean (FlagSlot ∷ xs) (p ∷ ps) h = and_true _ _ (part_clean FlagSlot p h.0) (parts_clean xs ps h.1)
parts_clean (NumberSlot ∷ xs) (p ∷ ps) h = and_true _ _ (part_clean NumberSlot p h.0) (parts_clean xs ps h.1)
parts_clean (SortSlot ∷ xs) (p ∷ ps) h = and_true _ _ (part_clean SortSlot p h.0) (parts_clean xs ps h.1)
parts_clean (TermSlot ∷ xs) (p ∷ ps) h = and_true _ _ (part_clean TermSlot p h.0) (parts_clean xs ps h.1)

indexes_clean : (ns : List ℕ) → AreIndexes ns → are_clean (map decimal ns) ≡ true
indexes_clean [] h = refl
indexes_clean (n ∷ ns) h = and_true (is_clean (decimal n)) (are_clean (map decimal ns)) (index_clean n h.0) (indexes_clean ns h.1)

monomials_clean : (ps : List Monomial) → AreMonomials ps → are_clean (monomial_words ps) ≡ true
monomials_clean [] h = refl
monomials_clean (p ∷ ps) h = and_true _ _ (integer_clean p.factor h.0) (and_true _ _ (index_clean p.column h.1) (monomials_clean ps h.2))

row_clean : (r : Row) → IsRow r → are_clean (row_words r) ≡ true
row_clean r h = and_true _ _ (integer_clean r.constant h.0) (monomials_clean r.parts h.1)

words_clean : (e : Entry) → IsEntry e → are_clean (words_of e) ≡ true
words_clean (AddTerm node) h = and_true (is_clean (name_of node.kind)) (are_clean (part_words (slots_of node.kind) node.parts)) (name_clean node.kind) (parts_clean (slots_of node.kind) node.parts h.1)
words_clean (AddFact rule sign n from) h = and_true _ _ (decimal_clean rule (omega (arith, h.0))) (and_true _ _ (sign_clean sign) (and_true _ _ (index_clean n h.1) (indexes_clean from h.2)))
words_clean (Linear p forward r) h = and_true _ _ (index_clean p h.0) (and_true _ _ (sign_clean forward) (row_clean r h.1))
words_clean (Combine m p n q r) h = and_true _ _ (integer_clean m h.0) (and_true _ _ (index_clean p h.1) (and_true _ _ (integer_clean n h.2) (and_true _ _ (index_clean q h.3) (row_clean r h.4))))
words_clean (Divide d p r) h = and_true _ _ (integer_clean d h.0) (and_true _ _ (index_clean p h.1) (row_clean r h.2))
words_clean (SplitOn n) h = and_true _ _ (index_clean n h) refl
words_clean Cut h = refl
words_clean (CloseAt p) h = and_true _ _ (index_clean p h) refl
words_clean (Clash p q) h = and_true _ _ (index_clean p h.0) (and_true _ _ (index_clean q h.1) refl)

-- ---- a line and its words

not_space : (c : ℕ) → nat_lt 32 c ≡ true → nat_eq c 32 ≡ false
not_space c e = grind (arith, nat_tests)

not_newline : (c : ℕ) → nat_lt 32 c ≡ true → nat_eq c 10 ≡ false
not_newline c e = grind (arith, nat_tests)

abbrev is_space : ℕ → Bool
is_space b = nat_eq b 32

split_last : (w : Word) → is_clean w ≡ true → slice_split is_space w ≡ w ∷ []
split_last [] e = refl
split_last (c ∷ cs) e =
    let b = both_true (nat_lt 32 c) (is_clean cs) e in
    ap (λ t. cond t ([] ∷ slice_split is_space cs) (onto_first c (slice_split is_space cs))) (not_space c b.0)
    ∙ ap (onto_first c) (split_last cs b.1)

split_word : (w rest : Word) → is_clean w ≡ true → slice_split is_space (w ++ 32 ∷ rest) ≡ w ∷ slice_split is_space rest
split_word [] rest e = refl
split_word (c ∷ cs) rest e =
    let b = both_true (nat_lt 32 c) (is_clean cs) e in
    ap (λ t. cond t ([] ∷ slice_split is_space (cs ++ 32 ∷ rest)) (onto_first c (slice_split is_space (cs ++ 32 ∷ rest)))) (not_space c b.0)
    ∙ ap (onto_first c) (split_word cs rest b.1)

split_words : (w : Word) (ws : List Word) → are_clean (w ∷ ws) ≡ true → slice_split is_space (join_with_byte 32 (w ∷ ws)) ≡ w ∷ ws
split_words w [] e = split_last w (both_true (is_clean w) true e).0
split_words w (v ∷ ws) e =
    let b = both_true (is_clean w) (are_clean (v ∷ ws)) e in
    split_word w (join_with_byte 32 (v ∷ ws)) b.0 ∙ ap (λ vs. w ∷ vs) (split_words v ws b.1)

split_line : (e : Entry) → are_clean (words_of e) ≡ true → words_in (join_with_byte 32 (words_of e)) ≡ words_of e
split_line (AddTerm node) c = split_words _ _ c
split_line (AddFact rule sign n from) c = split_words _ _ c
split_line (Linear p forward r) c = split_words _ _ c
split_line (Combine m p n q r) c = split_words _ _ c
split_line (Divide d p r) c = split_words _ _ c
split_line (SplitOn n) c = split_words _ _ c
split_line Cut c = split_words _ _ c
split_line (CloseAt p) c = split_words _ _ c
split_line (Clash p q) c = split_words _ _ c

-- an entry's words in a row
abbrev pub bare_line : Entry → List ℕ
bare_line e = join_with_byte 32 (words_of e)

pub entry_of_its_line : (e : Entry) → IsEntry e → entry_of_line (bare_line e) ≡ Some e
entry_of_its_line e h = ap entry_in (split_line e (words_clean e h)) ∙ entry_of_words e h

pub record LineBack (line : List ℕ) (e : Entry) : Type 0 where
  pub text : bare_line e ≡ line
  pub within : IsEntry e

pub line_of_its_entry : (line : List ℕ) (e : Entry) → entry_of_line line ≡ Some e → LineBack line e
line_of_its_entry line e h =
    let r = words_of_entry (words_in line) e h in
    record { text = ap (join_with_byte 32) r.text ∙ join_with_byte-slice_split 32 line; within = r.within }

-- ---- newlines

abbrev pub is_one_line : List ℕ → Bool
is_one_line w = list_all (λ c. not (nat_eq c 10)) w

one_line_append : (v w : List ℕ) → is_one_line v ≡ true → is_one_line w ≡ true → is_one_line (v ++ w) ≡ true
one_line_append [] w f g = g
one_line_append (c ∷ v) w f g =
    let b = both_true (not (nat_eq c 10)) (is_one_line v) f in
    and_true (not (nat_eq c 10)) (is_one_line (v ++ w)) b.0 (one_line_append v w b.1 g)

one_line_word : (w : Word) → is_clean w ≡ true → is_one_line w ≡ true
one_line_word [] e = refl
one_line_word (c ∷ cs) e =
    let b = both_true (nat_lt 32 c) (is_clean cs) e in
    and_true (not (nat_eq c 10)) (is_one_line cs) (ap not (not_newline c b.0)) (one_line_word cs b.1)

one_line_words : (ws : List Word) → are_clean ws ≡ true → is_one_line (join_with_byte 32 ws) ≡ true
one_line_words [] e = refl
one_line_words (w ∷ []) e = one_line_word w (both_true (is_clean w) true e).0
one_line_words (w ∷ v ∷ ws) e =
    let b = both_true (is_clean w) (are_clean (v ∷ ws)) e in
    one_line_append w (32 ∷ join_with_byte 32 (v ∷ ws)) (one_line_word w b.0) (one_line_words (v ∷ ws) b.1)

one_line_entry : (e : Entry) → IsEntry e → is_one_line (bare_line e) ≡ true
one_line_entry e h = one_line_words (words_of e) (words_clean e h)

-- a text has one first line
pub first_line_one : (a b c d : List ℕ) → is_one_line a ≡ true → is_one_line b ≡ true → a ++ 10 ∷ c ≡ b ++ 10 ∷ d → (a ≡ b) × (c ≡ d)
first_line_one [] [] c d f g e = (refl, cc e)
first_line_one [] (y ∷ b) c d f g e =
    let t = both_true (not (nat_eq y 10)) (is_one_line b) g in
    let i : 10 ≡ y = cc e in
    absurd (not_both (nat_eq y 10) t.0 (ap (λ x. nat_eq x 10) (sym i)))
  where
    not_both : (b : Bool) → not b ≡ true → b ≡ true → ⊥
    not_both true f g = cc f
    not_both false f g = cc g
first_line_one (x ∷ a) [] c d f g e =
    let t = both_true (not (nat_eq x 10)) (is_one_line a) f in
    let i : x ≡ 10 = cc e in
    absurd (not_both (nat_eq x 10) t.0 (ap (λ x. nat_eq x 10) i))
  where
    not_both : (b : Bool) → not b ≡ true → b ≡ true → ⊥
    not_both true f g = cc f
    not_both false f g = cc g
first_line_one (x ∷ a) (y ∷ b) c d f g e =
    let t = both_true (not (nat_eq x 10)) (is_one_line a) f in
    let u = both_true (not (nat_eq y 10)) (is_one_line b) g in
    let i : x ≡ y = cc e in
    let j : a ++ 10 ∷ c ≡ b ++ 10 ∷ d = cc e in
    let r = first_line_one a b c d t.1 u.1 j in
    (ap₂ (λ z zs. z ∷ zs) i r.0, r.1)

pub line_more : (e : Entry) (more : List ℕ) → line_of e ++ more ≡ bare_line e ++ 10 ∷ more
line_more e more = append_assoc (bare_line e) (10 ∷ []) more

-- two texts that begin with an entry's line each, and are one, begin with one entry
lines_one : (e f : Entry) (xs ys : List ℕ) → IsEntry e → IsEntry f → line_of e ++ xs ≡ line_of f ++ ys → (e ≡ f) × (xs ≡ ys)
lines_one e f xs ys h k i =
    let r = first_line_one (bare_line e) (bare_line f) xs ys (one_line_entry e h) (one_line_entry f k) (sym (line_more e xs) ∙ (i ∙ line_more f ys)) in
    let s : Some e ≡ Some f = sym (entry_of_its_line e h) ∙ (ap entry_of_line r.0 ∙ entry_of_its_line f k) in
    (cc s, r.1)

line_some : (e : Entry) (more : List ℕ) → [] ≡ line_of e ++ more → ⊥
line_some e more i = go (bare_line e) (i ∙ line_more e more)
  where
    go : (b : List ℕ) → [] ≡ b ++ 10 ∷ more → ⊥
    go [] j = absurd (nil_cons _ _ j)
      where
        nil_cons : (x : ℕ) (xs : List ℕ) → [] ≡ x ∷ xs → ⊥
        nil_cons x xs k = let f = ap length k in omega (arith, f)
    go (c ∷ cs) j = absurd (let f = ap length j in omega (arith, f))

-- ---- texts

pub text_of_snoc : (es : List Entry) (e : Entry) → text_of (es ++ e ∷ []) ≡ text_of es ++ line_of e
text_of_snoc [] e = nil_right (line_of e)
  where
    nil_right : (w : List ℕ) → w ++ [] ≡ w
    nil_right [] = refl
    nil_right (c ∷ w) = ap (λ v. c ∷ v) (nil_right w)
text_of_snoc (f ∷ es) e = ap (λ w. line_of f ++ w) (text_of_snoc es e) ∙ sym (append_assoc (line_of f) (text_of es) (line_of e))

pub entries_snoc : (es : List Entry) (e : Entry) → AreEntries es → IsEntry e → AreEntries (es ++ e ∷ [])
entries_snoc [] e h k = (k, tt)
entries_snoc (f ∷ es) e h k = (h.0, entries_snoc es e h.1 k)

texts_one : (es fs : List Entry) → AreEntries es → AreEntries fs → text_of es ≡ text_of fs → es ≡ fs
texts_one [] [] h k i = refl
texts_one [] (f ∷ fs) h k i = absurd (line_some f (text_of fs) i)
texts_one (e ∷ es) [] h k i = absurd (line_some e (text_of es) (sym i))
texts_one (e ∷ es) (f ∷ fs) h k i =
    let r = lines_one e f (text_of es) (text_of fs) h.0 k.0 i in
    ap₂ (λ x xs. x ∷ xs) r.0 (texts_one es fs h.1 k.1 r.1)

no_fault : (es before : List Entry) (rest : List ℕ) → AreEntries es → AreEntries before → text_of es ≡ text_of before ++ rest → (rest ≡ [] → ⊥) → ((e : Entry) (more : List ℕ) → IsEntry e → rest ≡ line_of e ++ more → ⊥) → ⊥
no_fault [] [] rest h k i some none = some (sym i)
no_fault (e ∷ es) [] rest h k i some none = none e (text_of es) h.0 (sym i)
no_fault [] (f ∷ fs) rest h k i some none = line_some f (text_of fs ++ rest) (i ∙ append_assoc (line_of f) (text_of fs) rest)
no_fault (e ∷ es) (f ∷ fs) rest h k i some none =
    let r = lines_one e f (text_of es) (text_of fs ++ rest) h.0 k.0 (i ∙ append_assoc (line_of f) (text_of fs) rest) in
    no_fault es fs rest h.1 k.1 r.1 some none

abbrev NoneBegins : List ℕ → Type 0
NoneBegins rest = (e : Entry) (more : List ℕ) → IsEntry e → rest ≡ line_of e ++ more → ⊥

same_count : (es fs : List Entry) (r s : List ℕ) → AreEntries es → AreEntries fs → text_of es ++ r ≡ text_of fs ++ s → NoneBegins r → NoneBegins s → length es ≡ length fs
same_count [] [] r s h k i m n = refl
same_count [] (f ∷ fs) r s h k i m n = absurd (m f (text_of fs ++ s) k.0 (i ∙ append_assoc (line_of f) (text_of fs) s))
same_count (e ∷ es) [] r s h k i m n = absurd (n e (text_of es ++ r) h.0 (sym i ∙ append_assoc (line_of e) (text_of es) r))
same_count (e ∷ es) (f ∷ fs) r s h k i m n =
    let j = lines_one e f (text_of es ++ r) (text_of fs ++ s) h.0 k.0 (sym (append_assoc (line_of e) (text_of es) r) ∙ (i ∙ append_assoc (line_of f) (text_of fs) s)) in
    let c = same_count es fs r s h.1 k.1 j.1 m n in
    omega (arith, c)

pub texts_are_exact : TextsAreExact
texts_are_exact = record {
  one = texts_one;
  whole = λ es n h f. no_fault es f.before f.rest h f.entries f.text_is f.some f.none;
  first = λ text m n f g. sym f.size ∙ (same_count f.before g.before f.rest g.rest f.entries g.entries (sym f.text_is ∙ g.text_is) f.none g.none ∙ g.size);
}

-- ---- the first line that is no entry

-- the next line is whole, and is no entry
pub faulty_line : (text : List ℕ) (before : List Entry) (rest line more : List ℕ) → text ≡ text_of before ++ rest → AreEntries before
    → rest ≡ line ++ 10 ∷ more → is_one_line line ≡ true → entry_of_line line ≡ None → IsFaultyAfter text (length before)
faulty_line text before rest line more t h i o n = record {
  before = before;
  rest = rest;
  text_is = t;
  entries = h;
  size = refl;
  some = λ e. full line (sym e ∙ i);
  none = λ e after k j.
      let r = first_line_one line (bare_line e) more after o (one_line_entry e k) (sym i ∙ (j ∙ line_more e after)) in
      clash (sym n ∙ (ap entry_of_line r.0 ∙ entry_of_its_line e k));
}
  where
    full : (w : List ℕ) → [] ≡ w ++ 10 ∷ more → ⊥
    full [] e = absurd (let f = ap length e in omega (arith, f))
    full (c ∷ w) e = absurd (let f = ap length e in omega (arith, f))

    clash : {e : Entry} → None ≡ Some e → ⊥
    clash e = absurd (none_some e)
      where
        none_some : {e : Entry} → None ≡ Some e → ⊥
        none_some {e = x} i = let b : false ≡ true = ap (λ o. is_there o) i in absurd (differ b)
          where
            is_there : Option Entry → Bool
            is_there None = false
            is_there (Some x) = true

            differ : false ≡ true → ⊥
            differ i = cc i

-- the last piece has no newline
pub faulty_end : (text : List ℕ) (before : List Entry) (rest : List ℕ) → text ≡ text_of before ++ rest → AreEntries before
    → (rest ≡ [] → ⊥) → is_one_line rest ≡ true → IsFaultyAfter text (length before)
faulty_end text before rest t h s o = record {
  before = before;
  rest = rest;
  text_is = t;
  entries = h;
  size = refl;
  some = s;
  none = λ e more k j. cut rest (bare_line e) more o (j ∙ line_more e more);
}
  where
    cut : (w b more : List ℕ) → is_one_line w ≡ true → w ≡ b ++ 10 ∷ more → ⊥
    cut w [] more o i = absurd (bad (subst (λ v. is_one_line v ≡ true) i o))
      where
        bad : false ≡ true → ⊥
        bad e = cc e
    cut [] (c ∷ b) more o i = absurd (let f = ap length i in omega (arith, f))
    cut (x ∷ w) (c ∷ b) more o i =
        let t = both_true (not (nat_eq x 10)) (is_one_line w) o in
        let j : w ≡ b ++ 10 ∷ more = cc i in
        cut w b more t.1 j
