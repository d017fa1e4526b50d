-- An entry and its words give each other.
use Rattle.std.proofs.Common.{ℕ, zero, suc, ◌^◌, ◌<◌, ◌≤◌, Bool, true, false, cond, not, ◌&&◌, nat_eq, List, [], ◌∷◌, ◌++◌, map, ◌≡◌, refl, sym, ap, ap₂, ◌∙◌, subst, arith, Option, None, Some, lit≤}
use Rattle.std.specs.Prelude.{codes, find}
use Rattle.std.specs.List.{list_all}
use Rattle.std.specs.Fmt.{decimal, signed_decimal}
use Rattle.std.specs.Str.{bytes_eq}
use Rattle.std.proofs.lemmas.Slice.Eq.{bytes_eq-Decides}
use lib.IntN.{ℤ}
use Rattle.sv_num.specs.Range.{IsI128}
use Rattle.sv_term.proofs.Same.{both_true, and_true, same_nat}
use Rattle.sv_log.specs.LogEntries.{Monomial, Row, Kind, LitKind, TruthKind, VarKind, AddKind, SubKind, MulKind, DivKind, ModKind, WrapKind, LeKind, EqKind, NotKind, AndKind, OrKind, IteKind, SelKind, StoKind, ConstKind, MixKind, TupKind, GetKind, SumKind, Part, TermPart, SortPart, NumberPart, FlagPart, LogNode, Slot, SignSlot, FlagSlot, NumberSlot, SortSlot, TermSlot, TermsSlot, slots_of, fills, fill, suits, Entry, AddTerm, AddFact, Linear, Combine, Divide, SplitOn, Cut, CloseAt, Clash}
use Rattle.sv_log.specs.LogRows.{monomial, row}
use Rattle.sv_cert.specs.LogText.{Word, name_of, sign_word, flag_word, part_word, part_words, monomial_words, row_words, words_of, IsIndex, IsPart, AreParts, AreIndexes, AreMonomials, IsRow, IsEntry}
use Rattle.sv_cert.specs.LogReading.{◌>>=◌, numeral, index, integer, sign, flag, sort_in, each, first, ended, monomials, row_from, row_in, number_part, term_part, part_in, parts_in, all_kinds, kind_in, node_from, node_of, node_in, term_in, fact_from, fact_term, fact_sign, fact_in, linear_row, linear_sign, linear_in, combine_row, combine_second, combine_times, combine_first, combine_in, divide_row, divide_item, divide_in, split_end, split_in, clash_end, close_end, close_in, entry_by, entry_in}
use Rattle.sv_cert.proofs.Numerals.{numeral_decimal, numeral_back, integer_decimal, integer_back, bind_some, bind_is}
use Rattle.sv_cert.proofs.SortTexts.{sort_in_word, word_of_sort, ranges_of_sort, short_of_sort}

-- ---- words

index_decimal : (n : ℕ) → IsIndex n → index (decimal n) ≡ Some n
index_decimal n h = numeral_decimal (2 ^ 64) n h (lit≤ tt)

index_back : (w : Word) (n : ℕ) → index w ≡ Some n → (decimal n ≡ w) × IsIndex n
index_back w n e = numeral_back (2 ^ 64) w n (lit≤ tt) e

sign_of_word : (b : Bool) → sign (sign_word b) ≡ Some b
unfolding sign
sign_of_word true = refl
sign_of_word false = refl

flag_of_word : (b : Bool) → flag (flag_word b) ≡ Some b
unfolding flag
flag_of_word true = refl
flag_of_word false = refl

same_bytes : (v w : Word) → bytes_eq v w ≡ true → v ≡ w
same_bytes v w e = (bytes_eq-Decides v w).0 e

-- what a choice of two bytes reads
choice_back : (c p q : ℕ) (b : Bool) → cond (nat_eq c p) (Some true) (cond (nat_eq c q) (Some false) None) ≡ Some b → cond b p q ≡ c
choice_back c p q b e = go (nat_eq c p) refl e
  where
    other : (t : Bool) → nat_eq c q ≡ t → cond t (Some false) None ≡ Some b → cond b p q ≡ c
    other true f i = let is : false ≡ b = cc i in ap (λ x. cond x p q) (sym is) ∙ sym (same_nat c q f)
    other false f i = cc i

    go : (t : Bool) → nat_eq c p ≡ t → cond t (Some true) (cond (nat_eq c q) (Some false) None) ≡ Some b → cond b p q ≡ c
    go true f i = let is : true ≡ b = cc i in ap (λ x. cond x p q) (sym is) ∙ sym (same_nat c p f)
    go false f i = other (nat_eq c q) refl i

one_byte : (b : Bool) (p q : ℕ) → cond b (p ∷ []) (q ∷ []) ≡ cond b p q ∷ []
one_byte true p q = refl
one_byte false p q = refl

word_of_sign : (w : Word) (b : Bool) → sign w ≡ Some b → sign_word b ≡ w
unfolding sign
word_of_sign [] b e = cc e
word_of_sign (c ∷ []) b e = one_byte b 43 45 ∙ ap (λ x. x ∷ []) (choice_back c 43 45 b e)
word_of_sign (c ∷ d ∷ cs) b e = cc e

word_of_flag : (w : Word) (b : Bool) → flag w ≡ Some b → flag_word b ≡ w
unfolding flag
word_of_flag [] b e = cc e
word_of_flag (c ∷ []) b e = one_byte b 49 48 ∙ ap (λ x. x ∷ []) (choice_back c 49 48 b e)
word_of_flag (c ∷ d ∷ cs) b e = cc e

-- ---- the first word

record First {A B : Type 0} (f : Word → Option A) (ws : List Word) (next : A → List Word → Option B) (b : B) : Type 0 where
  word : Word
  rest : List Word
  value : A
  is : word ∷ rest ≡ ws
  read : f word ≡ Some value
  goes : next value rest ≡ Some b

first_some : {A B : Type 0} (f : Word → Option A) (ws : List Word) (next : A → List Word → Option B) (b : B) → first f ws next ≡ Some b → First f ws next b
first_some f [] next b e = cc e
first_some {A = A} {B = B} f (w ∷ ws) next b e = go (f w) refl e
  where
    go : (o : Option A) → f w ≡ o → (o >>= (λ a. next a ws)) ≡ Some b → First f (w ∷ ws) next b
    go None r i = cc i
    go (Some a) r i = record { word = w; rest = ws; value = a; is = refl; read = r; goes = i }

first_is : {A B : Type 0} (f : Word → Option A) (w : Word) (ws : List Word) (next : A → List Word → Option B) (a : A) (r : Option B) → f w ≡ Some a → next a ws ≡ r → first f (w ∷ ws) next ≡ r
first_is f w ws next a r e g = ap (λ o. o >>= (λ x. next x ws)) e ∙ g

ended_some : {A : Type 0} (ws : List Word) (a b : A) → ended ws a ≡ Some b → ([] ≡ ws) × (a ≡ b)
ended_some [] a b e = (refl, cc e)
ended_some (w ∷ ws) a b e = cc e

-- ---- all words

each_index : (ns : List ℕ) → AreIndexes ns → each index (map decimal ns) ≡ Some ns
each_index [] h = refl
each_index (n ∷ ns) h =
    bind_is (index (decimal n)) n (λ a. each index (map decimal ns) >>= (λ rest. Some (a ∷ rest))) (Some (n ∷ ns)) (index_decimal n h.0)
    (bind_is (each index (map decimal ns)) ns (λ rest. Some (n ∷ rest)) (Some (n ∷ ns)) (each_index ns h.1) refl)

index_each : (ws : List Word) (ns : List ℕ) → each index ws ≡ Some ns → (map decimal ns ≡ ws) × AreIndexes ns
index_each [] ns e = let is : [] ≡ ns = cc e in (ap (map decimal) (sym is), subst AreIndexes is tt)
index_each (w ∷ ws) ns e =
    let x = bind_some (index w) (λ a. each index ws >>= (λ rest. Some (a ∷ rest))) ns e in
    let y = bind_some (each index ws) (λ rest. Some (x.0 ∷ rest)) ns x.2 in
    let i = index_back w x.0 x.1 in
    let r = index_each ws y.0 y.1 in
    let is : x.0 ∷ y.0 ≡ ns = cc y.2 in
    (ap (map decimal) (sym is) ∙ ap₂ (λ v vs. v ∷ vs) i.0 r.0, subst AreIndexes is (i.1, r.1))

monomials_of : (ps : List Monomial) → AreMonomials ps → monomials (monomial_words ps) ≡ Some ps
monomials_of [] h = refl
monomials_of (p ∷ ps) h =
    bind_is (integer (signed_decimal p.factor)) p.factor (λ k. index (decimal p.column) >>= (λ x. monomials (monomial_words ps) >>= (λ qs. Some (monomial k x ∷ qs)))) (Some (p ∷ ps)) (integer_decimal p.factor h.0)
    (bind_is (index (decimal p.column)) p.column (λ x. monomials (monomial_words ps) >>= (λ qs. Some (monomial p.factor x ∷ qs))) (Some (p ∷ ps)) (index_decimal p.column h.1)
    (bind_is (monomials (monomial_words ps)) ps (λ qs. Some (monomial p.factor p.column ∷ qs)) (Some (p ∷ ps)) (monomials_of ps h.2) refl))

words_of_monomials : (ws : List Word) (ps : List Monomial) → monomials ws ≡ Some ps → (monomial_words ps ≡ ws) × AreMonomials ps
words_of_monomials [] ps e = let is : [] ≡ ps = cc e in (ap monomial_words (sym is), subst AreMonomials is tt)
words_of_monomials (w ∷ []) ps e = cc e
words_of_monomials (w ∷ v ∷ ws) ps e =
    let x = bind_some (integer w) (λ k. index v >>= (λ x. monomials ws >>= (λ qs. Some (monomial k x ∷ qs)))) ps e in
    let y = bind_some (index v) (λ c. monomials ws >>= (λ qs. Some (monomial x.0 c ∷ qs))) ps x.2 in
    let z = bind_some (monomials ws) (λ qs. Some (monomial x.0 y.0 ∷ qs)) ps y.2 in
    let i = integer_back w x.0 x.1 in
    let j = index_back v y.0 y.1 in
    let r = words_of_monomials ws z.0 z.1 in
    let is : monomial x.0 y.0 ∷ z.0 ≡ ps = cc z.2 in
    (ap monomial_words (sym is) ∙ (ap₂ (λ a b. a ∷ b) i.0 (ap₂ (λ a b. a ∷ b) j.0 r.0)), subst AreMonomials is (i.1, j.1, r.1))

row_of_words : (r : Row) → IsRow r → row_in (row_words r) ≡ Some r
row_of_words r h =
    first_is integer (signed_decimal r.constant) (monomial_words r.parts) row_from r.constant (Some r) (integer_decimal r.constant h.0)
    (bind_is (monomials (monomial_words r.parts)) r.parts (λ ps. Some (row r.constant ps)) (Some r) (monomials_of r.parts h.1) refl)

words_of_row : (ws : List Word) (r : Row) → row_in ws ≡ Some r → (row_words r ≡ ws) × IsRow r
words_of_row ws r e =
    let x = first_some integer ws row_from r e in
    let y = bind_some (monomials x.rest) (λ ps. Some (row x.value ps)) r x.goes in
    let i = integer_back x.word x.value x.read in
    let m = words_of_monomials x.rest y.0 y.1 in
    let is : row x.value y.0 ≡ r = cc y.2 in
    (ap row_words (sym is) ∙ (ap₂ (λ a b. a ∷ b) i.0 m.0 ∙ x.is), subst IsRow is (i.1, m.1))

-- ---- the parts of a node

part_of_word : (x : Slot) (p : Part) → fills x p ≡ true → IsPart p → part_in x (part_word x p) ≡ Some p
part_of_word SignSlot (FlagPart true) f h = bind_is (sign (codes "-")) false (λ b. Some (FlagPart (not b))) (Some (FlagPart true)) (sign_of_word false) refl
part_of_word SignSlot (FlagPart false) f h = bind_is (sign (codes "+")) true (λ b. Some (FlagPart (not b))) (Some (FlagPart false)) (sign_of_word true) refl
part_of_word FlagSlot (FlagPart b) f h = bind_is (flag (flag_word b)) b (λ b. Some (FlagPart b)) (Some (FlagPart b)) (flag_of_word b) refl
part_of_word NumberSlot (NumberPart m) f h = bind_is (numeral (2 ^ 128) (decimal m)) m (λ m. Some (NumberPart m)) (Some (NumberPart m)) (numeral_decimal (2 ^ 128) m h (lit≤ tt)) refl
part_of_word SortSlot (SortPart s) f h = bind_is (sort_in (part_word SortSlot (SortPart s))) s (λ s. Some (SortPart s)) (Some (SortPart s)) (sort_in_word s h.0 h.1) refl
part_of_word TermSlot (TermPart n) f h = bind_is (index (decimal n)) n (λ n. Some (TermPart n)) (Some (TermPart n)) (index_decimal n h) refl
part_of_word TermsSlot (TermPart n) f h = bind_is (index (decimal n)) n (λ n. Some (TermPart n)) (Some (TermPart n)) (index_decimal n h) refl
part_of_word x p f h = cc f

record Part_back (x : Slot) (w : Word) (p : Part) : Type 0 where
  word : part_word x p ≡ w
  fills_it : fills x p ≡ true
  within : IsPart p

word_of_part : (x : Slot) (w : Word) (p : Part) → part_in x w ≡ Some p → Part_back x w p
word_of_part SignSlot w p e =
    let x = bind_some (sign w) (λ b. Some (FlagPart (not b))) p e in
    let is : FlagPart (not x.0) ≡ p = cc x.2 in
    subst (Part_back SignSlot w) is (record { word = turned x.0 ∙ word_of_sign w x.0 x.1; fills_it = refl; within = tt })
  where
    turned : (b : Bool) → cond (not b) (codes "-") (codes "+") ≡ sign_word b
    turned true = refl
    turned false = refl
word_of_part FlagSlot w p e =
    let x = bind_some (flag w) (λ b. Some (FlagPart b)) p e in
    let is : FlagPart x.0 ≡ p = cc x.2 in
    subst (Part_back FlagSlot w) is (record { word = word_of_flag w x.0 x.1; fills_it = refl; within = tt })
word_of_part NumberSlot w p e =
    let x = bind_some (numeral (2 ^ 128) w) (λ m. Some (NumberPart m)) p e in
    let b = numeral_back (2 ^ 128) w x.0 (lit≤ tt) x.1 in
    let is : NumberPart x.0 ≡ p = cc x.2 in
    subst (Part_back NumberSlot w) is (record { word = b.0; fills_it = refl; within = b.1 })
word_of_part SortSlot w p e =
    let x = bind_some (sort_in w) (λ s. Some (SortPart s)) p e in
    let is : SortPart x.0 ≡ p = cc x.2 in
    subst (Part_back SortSlot w) is (record { word = word_of_sort w x.0 x.1; fills_it = refl; within = (ranges_of_sort w x.0 x.1, short_of_sort w x.0 x.1) })
word_of_part TermSlot w p e =
    let x = bind_some (index w) (λ n. Some (TermPart n)) p e in
    let b = index_back w x.0 x.1 in
    let is : TermPart x.0 ≡ p = cc x.2 in
    subst (Part_back TermSlot w) is (record { word = b.0; fills_it = refl; within = b.1 })
word_of_part TermsSlot w p e =
    let x = bind_some (index w) (λ n. Some (TermPart n)) p e in
    let b = index_back w x.0 x.1 in
    let is : TermPart x.0 ≡ p = cc x.2 in
    subst (Part_back TermsSlot w) is (record { word = b.0; fills_it = refl; within = b.1 })

each_term : (ps : List Part) → list_all (fills TermsSlot) ps ≡ true → AreParts ps → each term_part (map (part_word TermsSlot) ps) ≡ Some ps
each_term [] f h = refl
each_term (p ∷ ps) f h =
    let b = both_true (fills TermsSlot p) (list_all (fills TermsSlot) ps) f in
    bind_is (term_part (part_word TermsSlot p)) p (λ a. each term_part (map (part_word TermsSlot) ps) >>= (λ rest. Some (a ∷ rest))) (Some (p ∷ ps)) (part_of_word TermsSlot p b.0 h.0)
    (bind_is (each term_part (map (part_word TermsSlot) ps)) ps (λ rest. Some (p ∷ rest)) (Some (p ∷ ps)) (each_term ps b.1 h.1) refl)

pub record Parts_back (words : List Part → List Word) (fits : List Part → Bool) (ws : List Word) (ps : List Part) : Type 0 where
  pub text : words ps ≡ ws
  pub fits_it : fits ps ≡ true
  pub within : AreParts ps

term_each : (ws : List Word) (ps : List Part) → each term_part ws ≡ Some ps → Parts_back (map (part_word TermsSlot)) (list_all (fills TermsSlot)) ws ps
term_each [] ps e =
    let is : [] ≡ ps = cc e in
    subst (Parts_back (map (part_word TermsSlot)) (list_all (fills TermsSlot)) []) is (record { text = refl; fits_it = refl; within = tt })
term_each (w ∷ ws) ps e =
    let x = bind_some (term_part w) (λ a. each term_part ws >>= (λ rest. Some (a ∷ rest))) ps e in
    let y = bind_some (each term_part ws) (λ rest. Some (x.0 ∷ rest)) ps x.2 in
    let i = word_of_part TermsSlot w x.0 x.1 in
    let r = term_each ws y.0 y.1 in
    let is : x.0 ∷ y.0 ≡ ps = cc y.2 in
    subst (Parts_back (map (part_word TermsSlot)) (list_all (fills TermsSlot)) (w ∷ ws)) is (record {
      text = ap₂ (λ v vs. v ∷ vs) i.word r.text;
      fits_it = and_true (fills TermsSlot x.0) (list_all (fills TermsSlot) y.0) i.fills_it r.fits_it;
      within = (i.within, r.within);
    })

more_parts : (x : Slot) (xs : List Slot) (p : Part) (ps : List Part) → part_in x (part_word x p) ≡ Some p → parts_in xs (part_words xs ps) ≡ Some ps
    → first (part_in x) (part_word x p ∷ part_words xs ps) (λ p rest. parts_in xs rest >>= (λ ps. Some (p ∷ ps))) ≡ Some (p ∷ ps)
more_parts x xs p ps e g =
    first_is (part_in x) (part_word x p) (part_words xs ps) (λ p rest. parts_in xs rest >>= (λ ps. Some (p ∷ ps))) p (Some (p ∷ ps)) e
    (bind_is (parts_in xs (part_words xs ps)) ps (λ qs. Some (p ∷ qs)) (Some (p ∷ ps)) g refl)

parts_of_words : (xs : List Slot) (ps : List Part) → fill xs ps ≡ true → AreParts ps → parts_in xs (part_words xs ps) ≡ Some ps
parts_of_words [] [] f h = refl
parts_of_words [] (p ∷ ps) f h = cc f
parts_of_words (TermsSlot ∷ xs) ps f h = each_term ps f h
parts_of_words (SignSlot ∷ xs) [] f h = cc f
parts_of_words (FlagSlot ∷ xs) [] f h = cc f
parts_of_words (NumberSlot ∷ xs) [] f h = cc f
parts_of_words (SortSlot ∷ xs) [] f h = cc f
parts_of_words (TermSlot ∷ xs) [] f h = cc f
parts_of_words (SignSlot ∷ xs) (p ∷ ps) f h = let b = both_true (fills SignSlot p) (fill xs ps) f in more_parts SignSlot xs p ps (part_of_word SignSlot p b.0 h.0) (parts_of_words xs ps b.1 h.1)
parts_of_words (FlagSlot ∷ xs) (p ∷ ps) f h = let b = both_true (fills FlagSlot p) (fill xs ps) f in more_parts FlagSlot xs p ps (part_of_word FlagSlot p b.0 h.0) (parts_of_words xs ps b.1 h.1)
parts_of_words (NumberSlot ∷ xs) (p ∷ ps) f h = let b = both_true (fills NumberSlot p) (fill xs ps) f in more_parts NumberSlot xs p ps (part_of_word NumberSlot p b.0 h.0) (parts_of_words xs ps b.1 h.1)
parts_of_words (SortSlot ∷ xs) (p ∷ ps) f h = let b = both_true (fills SortSlot p) (fill xs ps) f in more_parts SortSlot xs p ps (part_of_word SortSlot p b.0 h.0) (parts_of_words xs ps b.1 h.1)
parts_of_words (TermSlot ∷ xs) (p ∷ ps) f h = let b = both_true (fills TermSlot p) (fill xs ps) f in more_parts TermSlot xs p ps (part_of_word TermSlot p b.0 h.0) (parts_of_words xs ps b.1 h.1)

record More (x : Slot) (xs : List Slot) (ws : List Word) (ps : List Part) : Type 0 where
  part : Part
  parts : List Part
  are : part ∷ parts ≡ ps
  text : part_word x part ∷ part_words xs parts ≡ ws
  fits_it : (fills x part && fill xs parts) ≡ true
  within : IsPart part × AreParts parts

more_back : (x : Slot) (xs : List Slot) (ws : List Word) (ps : List Part)
    → ((ws : List Word) (ps : List Part) → parts_in xs ws ≡ Some ps → Parts_back (part_words xs) (fill xs) ws ps)
    → first (part_in x) ws (λ p rest. parts_in xs rest >>= (λ ps. Some (p ∷ ps))) ≡ Some ps → More x xs ws ps
more_back x xs ws ps back e =
    let y = first_some (part_in x) ws (λ p rest. parts_in xs rest >>= (λ ps. Some (p ∷ ps))) ps e in
    let z = bind_some (parts_in xs y.rest) (λ qs. Some (y.value ∷ qs)) ps y.goes in
    let i = word_of_part x y.word y.value y.read in
    let r = back y.rest z.0 z.1 in
    record {
      part = y.value;
      parts = z.0;
      are = cc z.2;
      text = ap₂ (λ v vs. v ∷ vs) i.word r.text ∙ y.is;
      fits_it = and_true (fills x y.value) (fill xs z.0) i.fills_it r.fits_it;
      within = (i.within, r.within);
    }

pub words_of_parts : (xs : List Slot) (ws : List Word) (ps : List Part) → parts_in xs ws ≡ Some ps → Parts_back (part_words xs) (fill xs) ws ps
words_of_parts [] ws ps e =
    let x = ended_some ws [] ps e in
    subst (Parts_back (part_words []) (fill []) ws) x.1 (record { text = x.0; fits_it = refl; within = tt })
words_of_parts (TermsSlot ∷ xs) ws ps e = let r = term_each ws ps e in record { text = r.text; fits_it = r.fits_it; within = r.within }
words_of_parts (SignSlot ∷ xs) ws ps e = let m = more_back SignSlot xs ws ps (λ w p i. words_of_parts xs w p i) e in subst (Parts_back (part_words (SignSlot ∷ xs)) (fill (SignSlot ∷ xs)) ws) m.are (record { text = m.text; fits_it = m.fits_it; within = m.within })
words_of_parts (FlagSlot ∷ xs) ws ps e = let m = more_back FlagSlot xs ws ps (λ w p i. words_of_parts xs w p i) e in subst (Parts_back (part_words (FlagSlot ∷ xs)) (fill (FlagSlot ∷ xs)) ws) m.are (record { text = m.text; fits_it = m.fits_it; within = m.within })
words_of_parts (NumberSlot ∷ xs) ws ps e = let m = more_back NumberSlot xs ws ps (λ w p i. words_of_parts xs w p i) e in subst (Parts_back (part_words (NumberSlot ∷ xs)) (fill (NumberSlot ∷ xs)) ws) m.are (record { text = m.text; fits_it = m.fits_it; within = m.within })
words_of_parts (SortSlot ∷ xs) ws ps e = let m = more_back SortSlot xs ws ps (λ w p i. words_of_parts xs w p i) e in subst (Parts_back (part_words (SortSlot ∷ xs)) (fill (SortSlot ∷ xs)) ws) m.are (record { text = m.text; fits_it = m.fits_it; within = m.within })
words_of_parts (TermSlot ∷ xs) ws ps e = let m = more_back TermSlot xs ws ps (λ w p i. words_of_parts xs w p i) e in subst (Parts_back (part_words (TermSlot ∷ xs)) (fill (TermSlot ∷ xs)) ws) m.are (record { text = m.text; fits_it = m.fits_it; within = m.within })

-- ---- nodes

kind_of_word : (kind : Kind) → kind_in (name_of kind) ≡ Some kind
unfolding kind_in
kind_of_word LitKind = refl
kind_of_word TruthKind = refl
kind_of_word VarKind = refl
kind_of_word AddKind = refl
kind_of_word SubKind = refl
kind_of_word MulKind = refl
kind_of_word DivKind = refl
kind_of_word ModKind = refl
kind_of_word WrapKind = refl
kind_of_word LeKind = refl
kind_of_word EqKind = refl
kind_of_word NotKind = refl
kind_of_word AndKind = refl
kind_of_word OrKind = refl
kind_of_word IteKind = refl
kind_of_word SelKind = refl
kind_of_word StoKind = refl
kind_of_word ConstKind = refl
kind_of_word MixKind = refl
kind_of_word TupKind = refl
kind_of_word GetKind = refl
kind_of_word SumKind = refl

found_passes : {A : Type 0} (test : A → Bool) (xs : List A) (x : A) → find test xs ≡ Some x → test x ≡ true
found_passes test [] x e = cc e
found_passes {A = A} test (y ∷ ys) x e = go (test y) refl (λ i. found_passes test ys x i) e
  where
    go : (b : Bool) → test y ≡ b → (find test ys ≡ Some x → test x ≡ true) → cond b (Some y) (find test ys) ≡ Some x → test x ≡ true
    go true t r i = let is : y ≡ x = cc i in ap test (sym is) ∙ t
    go false t r i = r i

name_of_kind : (w : Word) (kind : Kind) → kind_in w ≡ Some kind → name_of kind ≡ w
unfolding kind_in
name_of_kind w kind e = same_bytes (name_of kind) w (found_passes (λ k. bytes_eq (name_of k) w) all_kinds kind e)

abbrev node_words : LogNode → List Word
node_words node = name_of node.kind ∷ part_words (slots_of node.kind) node.parts

node_of_words : (node : LogNode) → suits node.kind node.parts ≡ true → AreParts node.parts → node_in (node_words node) ≡ Some node
node_of_words node f h =
    first_is kind_in (name_of node.kind) (part_words (slots_of node.kind) node.parts) node_of node.kind (Some node) (kind_of_word node.kind)
    (bind_is (parts_in (slots_of node.kind) (part_words (slots_of node.kind) node.parts)) node.parts (λ ps. Some (node_from node.kind ps)) (Some node) (parts_of_words (slots_of node.kind) node.parts f h) refl)

record Node_back (ws : List Word) (node : LogNode) : Type 0 where
  text : node_words node ≡ ws
  suited : suits node.kind node.parts ≡ true
  within : AreParts node.parts

words_of_node : (ws : List Word) (node : LogNode) → node_in ws ≡ Some node → Node_back ws node
words_of_node ws node e =
    let x = first_some kind_in ws node_of node e in
    let y = bind_some (parts_in (slots_of x.value) x.rest) (λ ps. Some (node_from x.value ps)) node x.goes in
    let i = name_of_kind x.word x.value x.read in
    let r = words_of_parts (slots_of x.value) x.rest y.0 y.1 in
    let is : node_from x.value y.0 ≡ node = cc y.2 in
    subst (Node_back ws) is (record { text = ap₂ (λ v vs. v ∷ vs) i r.text ∙ x.is; suited = r.fits_it; within = r.within })

-- ---- entries

row_more : (ws : List Word) (make : Row → Entry) (r : Row) → row_in ws ≡ Some r → (row_in ws >>= (λ r. Some (make r))) ≡ Some (make r)
row_more ws make r e = bind_is (row_in ws) r (λ r. Some (make r)) (Some (make r)) e refl

pub entry_of_words : (e : Entry) → IsEntry e → entry_in (words_of e) ≡ Some e
entry_of_words (AddTerm node) h =
    bind_is (node_in (node_words node)) node (λ node. Some (AddTerm node)) (Some (AddTerm node)) (node_of_words node h.0 h.1) refl
entry_of_words (AddFact rule sgn n from) h =
    first_is (numeral (2 ^ 8)) (decimal rule) (sign_word sgn ∷ decimal n ∷ map decimal from) fact_sign rule (Some (AddFact rule sgn n from)) (numeral_decimal (2 ^ 8) rule h.0 (lit≤ tt))
    (first_is sign (sign_word sgn) (decimal n ∷ map decimal from) (fact_term rule) sgn (Some (AddFact rule sgn n from)) (sign_of_word sgn)
    (first_is index (decimal n) (map decimal from) (fact_from rule sgn) n (Some (AddFact rule sgn n from)) (index_decimal n h.1)
    (bind_is (each index (map decimal from)) from (λ from. Some (AddFact rule sgn n from)) (Some (AddFact rule sgn n from)) (each_index from h.2) refl)))
entry_of_words (Linear p forward r) h =
    first_is index (decimal p) (sign_word forward ∷ row_words r) linear_sign p (Some (Linear p forward r)) (index_decimal p h.0)
    (first_is sign (sign_word forward) (row_words r) (linear_row p) forward (Some (Linear p forward r)) (sign_of_word forward)
    (row_more (row_words r) (Linear p forward) r (row_of_words r h.1)))
entry_of_words (Combine m p n q r) h =
    first_is integer (signed_decimal m) (decimal p ∷ signed_decimal n ∷ decimal q ∷ row_words r) combine_first m (Some (Combine m p n q r)) (integer_decimal m h.0)
    (first_is index (decimal p) (signed_decimal n ∷ decimal q ∷ row_words r) (combine_times m) p (Some (Combine m p n q r)) (index_decimal p h.1)
    (first_is integer (signed_decimal n) (decimal q ∷ row_words r) (combine_second m p) n (Some (Combine m p n q r)) (integer_decimal n h.2)
    (first_is index (decimal q) (row_words r) (combine_row m p n) q (Some (Combine m p n q r)) (index_decimal q h.3)
    (row_more (row_words r) (Combine m p n q) r (row_of_words r h.4)))))
entry_of_words (Divide d p r) h =
    first_is integer (signed_decimal d) (decimal p ∷ row_words r) divide_item d (Some (Divide d p r)) (integer_decimal d h.0)
    (first_is index (decimal p) (row_words r) (divide_row d) p (Some (Divide d p r)) (index_decimal p h.1)
    (row_more (row_words r) (Divide d p) r (row_of_words r h.2)))
entry_of_words (SplitOn n) h = first_is index (decimal n) [] split_end n (Some (SplitOn n)) (index_decimal n h) refl
entry_of_words Cut h = refl
entry_of_words (CloseAt p) h = first_is index (decimal p) [] close_end p (Some (CloseAt p)) (index_decimal p h) refl
entry_of_words (Clash p q) h =
    first_is index (decimal p) (decimal q ∷ []) close_end p (Some (Clash p q)) (index_decimal p h.0)
    (first_is index (decimal q) [] (clash_end p) q (Some (Clash p q)) (index_decimal q h.1) refl)

-- the words are the entry's, and its numbers are of their types
pub record EntryBack (ws : List Word) (e : Entry) : Type 0 where
  pub text : words_of e ≡ ws
  pub within : IsEntry e

cons : Word → List Word → List Word
cons w ws = w ∷ ws

fact_back : (ws : List Word) (e : Entry) → fact_in ws ≡ Some e → EntryBack (codes "f" ∷ ws) e
fact_back ws e h =
    let x = first_some (numeral (2 ^ 8)) ws fact_sign e h in
    let y = first_some sign x.rest (fact_term x.value) e x.goes in
    let z = first_some index y.rest (fact_from x.value y.value) e y.goes in
    let u = bind_some (each index z.rest) (λ from. Some (AddFact x.value y.value z.value from)) e z.goes in
    let a = numeral_back (2 ^ 8) x.word x.value (lit≤ tt) x.read in
    let c = index_back z.word z.value z.read in
    let d = index_each z.rest u.0 u.1 in
    let is : AddFact x.value y.value z.value u.0 ≡ e = cc u.2 in
    subst (EntryBack (codes "f" ∷ ws)) is (record {
      text = ap (λ vs. codes "f" ∷ vs) (ap₂ (λ v vs. v ∷ vs) a.0 (ap₂ (λ v vs. v ∷ vs) (word_of_sign y.word y.value y.read) (ap₂ (λ v vs. v ∷ vs) c.0 d.0 ∙ z.is) ∙ y.is) ∙ x.is);
      within = (a.1, c.1, d.1);
    })

linear_back : (ws : List Word) (e : Entry) → linear_in ws ≡ Some e → EntryBack (codes "l" ∷ ws) e
linear_back ws e h =
    let x = first_some index ws linear_sign e h in
    let y = first_some sign x.rest (linear_row x.value) e x.goes in
    let u = bind_some (row_in y.rest) (λ r. Some (Linear x.value y.value r)) e y.goes in
    let a = index_back x.word x.value x.read in
    let d = words_of_row y.rest u.0 u.1 in
    let is : Linear x.value y.value u.0 ≡ e = cc u.2 in
    subst (EntryBack (codes "l" ∷ ws)) is (record {
      text = ap (λ vs. codes "l" ∷ vs) (ap₂ (λ v vs. v ∷ vs) a.0 (ap₂ (λ v vs. v ∷ vs) (word_of_sign y.word y.value y.read) d.0 ∙ y.is) ∙ x.is);
      within = (a.1, d.1);
    })

combine_back : (ws : List Word) (e : Entry) → combine_in ws ≡ Some e → EntryBack (codes "k" ∷ ws) e
combine_back ws e h =
    let x = first_some integer ws combine_first e h in
    let y = first_some index x.rest (combine_times x.value) e x.goes in
    let z = first_some integer y.rest (combine_second x.value y.value) e y.goes in
    let v = first_some index z.rest (combine_row x.value y.value z.value) e z.goes in
    let u = bind_some (row_in v.rest) (λ r. Some (Combine x.value y.value z.value v.value r)) e v.goes in
    let a = integer_back x.word x.value x.read in
    let b = index_back y.word y.value y.read in
    let c = integer_back z.word z.value z.read in
    let d = index_back v.word v.value v.read in
    let f = words_of_row v.rest u.0 u.1 in
    let is : Combine x.value y.value z.value v.value u.0 ≡ e = cc u.2 in
    subst (EntryBack (codes "k" ∷ ws)) is (record {
      text = ap (λ vs. codes "k" ∷ vs) (ap₂ (λ v vs. v ∷ vs) a.0 (ap₂ (λ v vs. v ∷ vs) b.0 (ap₂ (λ v vs. v ∷ vs) c.0 (ap₂ (λ v vs. v ∷ vs) d.0 f.0 ∙ v.is) ∙ z.is) ∙ y.is) ∙ x.is);
      within = (a.1, b.1, c.1, d.1, f.1);
    })

divide_back : (ws : List Word) (e : Entry) → divide_in ws ≡ Some e → EntryBack (codes "g" ∷ ws) e
divide_back ws e h =
    let x = first_some integer ws divide_item e h in
    let y = first_some index x.rest (divide_row x.value) e x.goes in
    let u = bind_some (row_in y.rest) (λ r. Some (Divide x.value y.value r)) e y.goes in
    let a = integer_back x.word x.value x.read in
    let b = index_back y.word y.value y.read in
    let d = words_of_row y.rest u.0 u.1 in
    let is : Divide x.value y.value u.0 ≡ e = cc u.2 in
    subst (EntryBack (codes "g" ∷ ws)) is (record {
      text = ap (λ vs. codes "g" ∷ vs) (ap₂ (λ v vs. v ∷ vs) a.0 (ap₂ (λ v vs. v ∷ vs) b.0 d.0 ∙ y.is) ∙ x.is);
      within = (a.1, b.1, d.1);
    })

term_back : (ws : List Word) (e : Entry) → term_in ws ≡ Some e → EntryBack (codes "t" ∷ ws) e
term_back ws e h =
    let u = bind_some (node_in ws) (λ node. Some (AddTerm node)) e h in
    let n = words_of_node ws u.0 u.1 in
    let is : AddTerm u.0 ≡ e = cc u.2 in
    subst (EntryBack (codes "t" ∷ ws)) is (record { text = ap (λ vs. codes "t" ∷ vs) n.text; within = (n.suited, n.within) })

split_back : (ws : List Word) (e : Entry) → split_in ws ≡ Some e → EntryBack (codes "s" ∷ ws) e
split_back ws e h =
    let x = first_some index ws split_end e h in
    let u = ended_some x.rest (SplitOn x.value) e x.goes in
    let a = index_back x.word x.value x.read in
    subst (EntryBack (codes "s" ∷ ws)) u.1 (record { text = ap (λ vs. codes "s" ∷ vs) (ap₂ (λ v vs. v ∷ vs) a.0 u.0 ∙ x.is); within = a.1 })

cut_back : (ws : List Word) (e : Entry) → ended ws Cut ≡ Some e → EntryBack (codes "x" ∷ ws) e
cut_back ws e h =
    let u = ended_some ws Cut e h in
    subst (EntryBack (codes "x" ∷ ws)) u.1 (record { text = ap (λ vs. codes "x" ∷ vs) u.0; within = tt })

close_back : (ws : List Word) (e : Entry) → close_in ws ≡ Some e → EntryBack (codes "c" ∷ ws) e
close_back ws e h =
    let x = first_some index ws close_end e h in
    let a = index_back x.word x.value x.read in
    go x.word x.value x.rest x.is a x.goes
  where
    go : (w : Word) (p : ℕ) (rest : List Word) → w ∷ rest ≡ ws → (decimal p ≡ w) × IsIndex p → close_end p rest ≡ Some e → EntryBack (codes "c" ∷ ws) e
    go w p [] i a g =
        let is : CloseAt p ≡ e = cc g in
        subst (EntryBack (codes "c" ∷ ws)) is (record { text = ap (λ vs. codes "c" ∷ vs) (ap (λ v. v ∷ []) a.0 ∙ i); within = a.1 })
    go w p (v ∷ vs) i a g =
        let y = first_some index (v ∷ vs) (clash_end p) e g in
        let u = ended_some y.rest (Clash p y.value) e y.goes in
        let b = index_back y.word y.value y.read in
        subst (EntryBack (codes "c" ∷ ws)) u.1 (record { text = ap (λ vs. codes "c" ∷ vs) (ap₂ (λ v vs. v ∷ vs) a.0 (ap₂ (λ v vs. v ∷ vs) b.0 u.0 ∙ y.is) ∙ i); within = (a.1, b.1) })

picked : (k p : Word) (ws : List Word) (e : Entry) (x y : Option Entry) → (x ≡ Some e → EntryBack (p ∷ ws) e) → (y ≡ Some e → EntryBack (k ∷ ws) e) → cond (bytes_eq k p) x y ≡ Some e → EntryBack (k ∷ ws) e
picked k p ws e x y f g h = go (bytes_eq k p) refl h
  where
    go : (b : Bool) → bytes_eq k p ≡ b → cond b x y ≡ Some e → EntryBack (k ∷ ws) e
    go true t i = subst (λ w. EntryBack (w ∷ ws) e) (sym (same_bytes k p t)) (f i)
    go false t i = g i

pub words_of_entry : (ws : List Word) (e : Entry) → entry_in ws ≡ Some e → EntryBack ws e
words_of_entry [] e h = cc h
words_of_entry (k ∷ ws) e h =
    picked k (codes "t") ws e _ _ (term_back ws e) (
    picked k (codes "f") ws e _ _ (fact_back ws e) (
    picked k (codes "l") ws e _ _ (linear_back ws e) (
    picked k (codes "k") ws e _ _ (combine_back ws e) (
    picked k (codes "g") ws e _ _ (divide_back ws e) (
    picked k (codes "s") ws e _ _ (split_back ws e) (
    picked k (codes "x") ws e _ _ (cut_back ws e) (
    picked k (codes "c") ws e _ None (close_back ws e) (λ i. cc i)))))))) h
