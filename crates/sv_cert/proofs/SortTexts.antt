-- A sort and its text give each other.
use Rattle.std.proofs.Common.{ℕ, zero, suc, ◌+◌, ◌^◌, ◌<◌, ◌≤◌, Bool, true, false, cond, not, ◌&&◌, nat_eq, nat_lt, List, [], ◌∷◌, ◌++◌, length, ◌≡◌, refl, sym, ap, ap₂, ◌∙◌, subst, arith, Option, None, Some, lit≤, append_assoc, append-nil}
use Rattle.std.specs.Prelude.{codes}
use Rattle.std.specs.Char.{is_ascii_digit}
use Rattle.std.specs.Fmt.{decimal}
use Rattle.std.specs.Str.{all_ascii_digits}
use Rattle.sv_term.specs.Sorts.{Range, Any, Low, Bits, Sort, NumSort, BoolSort, ArrSort, TupSort, Sorts, NoSorts, SortAnd}
use Rattle.sv_term.proofs.Same.{both_true, same_nat}
use Rattle.sv_log.specs.LogEntries.{SortPart}
use Rattle.sv_cert.specs.LogText.{Word, range_word, sort_word, sorts_word, is_short, HasRange, HasRanges, HaveRanges}
use Rattle.sv_cert.specs.LogReading.{numeral, Open, InArray, InTuple, Reading, Wanted, Begun, Digits, Done, Refused, SortState, at, sorts_in, begin_sort, end_sort, bits_sort, sort_of_reading, end_of, step_at, step, run, none_open, sort_end, whole_sort, sort_in}
use Rattle.sv_cert.proofs.Numerals.{numeral_decimal, numeral_back, all_digits_decimal}

-- ---- from a sort to its text and back

pub run_append : (st : SortState) (xs ys : Word) → run st (xs ++ ys) ≡ run (run st xs) ys
run_append st [] ys = refl
run_append st (x ∷ xs) ys = run_append (step st x) xs ys

digits_run : (k : List Open) (g : Bool) (ds es : Word) → all_ascii_digits es ≡ true → run (at k (Digits g ds)) es ≡ at k (Digits g (ds ++ es))
digits_run k g ds [] e = ap (λ xs. at k (Digits g xs)) (sym (append-nil ds))
digits_run k g ds (c ∷ cs) e =
    let b = both_true (is_ascii_digit c) (all_ascii_digits cs) e in
    ap (λ t. run (cond t (at k (Digits g (ds ++ c ∷ []))) (end_of k (bits_sort g (numeral (2 ^ 16) ds)) c)) cs) b.0
    ∙ (digits_run k g (ds ++ c ∷ []) cs b.1 ∙ ap (λ xs. at k (Digits g xs)) (append_assoc ds (c ∷ []) cs))

-- what has been read is a sort, and these brackets are open
record Stands (st : SortState) (k : List Open) (s : Sort) : Type 0 where
  brackets : st.brackets ≡ k
  sort : sort_of_reading st.reading ≡ Some s

ends_at : (k : List Open) (r : Reading) (s : Sort) (c : ℕ) → is_ascii_digit c ≡ false → sort_of_reading r ≡ Some s → step_at k r c ≡ end_sort k s c
ends_at k Wanted s c d e = cc e
ends_at k Begun s c d e = cc e
ends_at k (Digits g ds) s c d e =
    ap (λ b. cond b (at k (Digits g (ds ++ c ∷ []))) (end_of k (bits_sort g (numeral (2 ^ 16) ds)) c)) d
    ∙ ap (λ o. end_of k o c) e
ends_at k (Done t) s c d e = ap (λ o. end_of k o c) e
ends_at k Refused s c d e = cc e

ends : (st : SortState) (k : List Open) (s : Sort) (c : ℕ) → is_ascii_digit c ≡ false → Stands st k s → step st c ≡ end_sort k s c
ends st k s c d h = ends_at st.brackets st.reading s c d h.sort ∙ ap (λ j. end_sort j s c) h.brackets

abbrev listed : Sorts → List Sort
listed NoSorts = []
listed (SortAnd s ss) = s ∷ listed ss

sorts_listed : (ss : Sorts) → sorts_in (listed ss) ≡ ss
sorts_listed NoSorts = refl
sorts_listed (SortAnd s ss) = ap (λ ts. SortAnd s ts) (sorts_listed ss)

begun_run : (k : List Open) (s : Sort) (rest : Word) → run (at k Begun) (sort_word s ++ rest) ≡ run (at (InTuple [] ∷ k) Wanted) (sort_word s ++ rest)
begun_run k (NumSort Any) rest = refl
begun_run k (NumSort Low) rest = refl
begun_run k (NumSort (Bits true n)) rest = refl
begun_run k (NumSort (Bits false n)) rest = refl
begun_run k BoolSort rest = refl
begun_run k (ArrSort s) rest = refl
begun_run k (TupSort ss) rest = refl

begun_words : (k : List Open) (s : Sort) (ss : Sorts) → run (at k Begun) (sorts_word (SortAnd s ss) ++ codes ")") ≡ run (at (InTuple [] ∷ k) Wanted) (sorts_word (SortAnd s ss) ++ codes ")")
begun_words k s NoSorts = begun_run k s (codes ")")
begun_words k s (SortAnd t ts) =
    ap (run (at k Begun)) (append_assoc (sort_word s) (codes "," ++ sorts_word (SortAnd t ts)) (codes ")"))
    ∙ (begun_run k s ((codes "," ++ sorts_word (SortAnd t ts)) ++ codes ")")
    ∙ ap (run (at (InTuple [] ∷ k) Wanted)) (sym (append_assoc (sort_word s) (codes "," ++ sorts_word (SortAnd t ts)) (codes ")"))))

-- the rest of a tuple is read up to its end
abbrev ReadsTuple : List Open → List Sort → Sorts → Type 0
ReadsTuple k ss NoSorts = Unit {0}
ReadsTuple k ss (SortAnd t ts) = run (at (InTuple ss ∷ k) Wanted) (sorts_word (SortAnd t ts) ++ codes ")") ≡ at k (Done (TupSort (sorts_in (ss ++ listed (SortAnd t ts)))))

bits_stand : (g : Bool) (n : ℕ) → n < 2 ^ 16 → (k : List Open) → Stands (run (at k (Digits g [])) (decimal n)) k (NumSort (Bits g n))
bits_stand g n h k =
    let r = digits_run k g [] (decimal n) (all_digits_decimal n (omega arith)) in
    record {
      brackets = ap (λ st. st.brackets) r;
      sort = ap (λ st. sort_of_reading st.reading) r ∙ ap (bits_sort g) (numeral_decimal (2 ^ 16) n h (lit≤ tt));
    }

done_stands : (st : SortState) (k : List Open) (s : Sort) → st ≡ at k (Done s) → Stands st k s
done_stands st k s e = record { brackets = ap (λ x. x.brackets) e; sort = ap (λ x. sort_of_reading x.reading) e }

mutual
  sort_stands : (s : Sort) → HasRanges s → (k : List Open) → Stands (run (at k Wanted) (sort_word s)) k s
  sort_stands (NumSort Any) h k = record { brackets = refl; sort = refl }
  sort_stands (NumSort Low) h k = record { brackets = refl; sort = refl }
  sort_stands (NumSort (Bits true n)) h k = bits_stand true n h k
  sort_stands (NumSort (Bits false n)) h k = bits_stand false n h k
  sort_stands BoolSort h k = record { brackets = refl; sort = refl }
  sort_stands (ArrSort s) h k =
      done_stands (run (at k Wanted) (sort_word (ArrSort s))) k (ArrSort s)
      (run_append (at (InArray ∷ k) Wanted) (sort_word s) (codes "]")
      ∙ ends (run (at (InArray ∷ k) Wanted) (sort_word s)) (InArray ∷ k) s 93 refl (sort_stands s h (InArray ∷ k)))
  sort_stands (TupSort NoSorts) h k = record { brackets = refl; sort = refl }
  sort_stands (TupSort (SortAnd s ss)) h k =
      done_stands (run (at k Wanted) (sort_word (TupSort (SortAnd s ss)))) k (TupSort (SortAnd s ss))
      (begun_words k s ss ∙ (tuple_stands (SortAnd s ss) h k [] ∙ ap (λ ts. at k (Done (TupSort ts))) (sorts_listed (SortAnd s ss))))

  tuple_stands : (ss : Sorts) → HaveRanges ss → (k : List Open) (before : List Sort) → ReadsTuple k before ss
  tuple_stands NoSorts h k before = tt
  tuple_stands (SortAnd s NoSorts) h k before =
      run_append (at (InTuple before ∷ k) Wanted) (sort_word s) (codes ")")
      ∙ ends (run (at (InTuple before ∷ k) Wanted) (sort_word s)) (InTuple before ∷ k) s 41 refl (sort_stands s h.0 (InTuple before ∷ k))
  tuple_stands (SortAnd s (SortAnd t ts)) h k before =
      ap (run (at (InTuple before ∷ k) Wanted)) (append_assoc (sort_word s) (codes "," ++ sorts_word (SortAnd t ts)) (codes ")"))
      ∙ (run_append (at (InTuple before ∷ k) Wanted) (sort_word s) ((codes "," ++ sorts_word (SortAnd t ts)) ++ codes ")")
      ∙ (ap (λ st. run st (sorts_word (SortAnd t ts) ++ codes ")"))
      (ends (run (at (InTuple before ∷ k) Wanted) (sort_word s)) (InTuple before ∷ k) s 44 refl (sort_stands s h.0 (InTuple before ∷ k)))
      ∙ (tuple_stands (SortAnd t ts) h.1 k (before ++ s ∷ [])
      ∙ ap (λ xs. at k (Done (TupSort (sorts_in xs)))) (append_assoc before (s ∷ []) (listed (SortAnd t ts))))))

whole_word : (s : Sort) → HasRanges s → whole_sort (sort_word s) ≡ Some s
unfolding whole_sort
whole_word s h =
    let e = sort_stands s h [] in
    ap (λ k. none_open k (sort_of_reading (run (at [] Wanted) (sort_word s)).reading)) e.brackets ∙ e.sort

-- ---- from a text to its sort and back

abbrev commas : List Sort → Word
commas [] = []
commas (s ∷ ss) = sort_word s ++ (codes "," ++ commas ss)

abbrev bracket_text : List Open → Word
bracket_text [] = []
bracket_text (InArray ∷ k) = bracket_text k ++ codes "["
bracket_text (InTuple ss ∷ k) = bracket_text k ++ (codes "(" ++ commas ss)

abbrev reading_text : Reading → Word
reading_text Wanted = []
reading_text Begun = codes "("
reading_text (Digits g ds) = cond g (codes "i") (codes "u") ++ ds
reading_text (Done s) = sort_word s
reading_text Refused = []

abbrev shown : SortState → Word
shown st = bracket_text st.brackets ++ reading_text st.reading

abbrev pub GoesOn : Reading → Type 0
GoesOn Refused = ⊥
GoesOn r = Unit {0}

-- what is read after the byte is what was read before it, and the byte
abbrev Adds : Word → ℕ → SortState → Type 0
Adds w c st = GoesOn st.reading → shown st ≡ w ++ c ∷ []

by_test : (P : SortState → Type 0) (b : Bool) (x y : SortState) → (b ≡ true → P x) → P y → P (cond b x y)
by_test P true x y f g = f refl
by_test P false x y f g = g

begin_adds : (k : List Open) (c : ℕ) → Adds (bracket_text k) c (begin_sort k c)
begin_adds k c =
    by_test P (nat_eq c 110) _ _ (λ e g. byte 110 e) (
    by_test P (nat_eq c 108) _ _ (λ e g. byte 108 e) (
    by_test P (nat_eq c 98) _ _ (λ e g. byte 98 e) (
    by_test P (nat_eq c 91) _ _ (λ e g. append-nil (bracket_text k ++ codes "[") ∙ byte 91 e) (
    by_test P (nat_eq c 40) _ _ (λ e g. byte 40 e) (
    by_test P (nat_eq c 117) _ _ (λ e g. byte 117 e) (
    by_test P (nat_eq c 105) _ _ (λ e g. byte 105 e) (λ g. absurd g)))))))
  where
    P : SortState → Type 0
    P st = Adds (bracket_text k) c st

    byte : (d : ℕ) → nat_eq c d ≡ true → bracket_text k ++ d ∷ [] ≡ bracket_text k ++ c ∷ []
    byte d e = ap (λ x. bracket_text k ++ x ∷ []) (sym (same_nat c d e))

regroup4 : (a b c d : Word) → a ++ (b ++ (c ++ d)) ≡ ((a ++ b) ++ c) ++ d
regroup4 a b c d = simp append_assoc

regroup_last : (a b c d e : Word) → a ++ (b ++ ((c ++ d) ++ e)) ≡ ((a ++ (b ++ c)) ++ d) ++ e
regroup_last a b c d e = simp append_assoc

regroup_more : (a b c d e : Word) → a ++ (b ++ (c ++ (d ++ e))) ≡ ((a ++ (b ++ c)) ++ d) ++ e
regroup_more a b c d e = simp append_assoc

regroup3 : (a b c d : Word) → a ++ (b ++ (c ++ d)) ≡ (a ++ (b ++ c)) ++ d
regroup3 a b c d = simp append_assoc

commas_snoc : (ss : List Sort) (s : Sort) → commas (ss ++ s ∷ []) ≡ commas ss ++ (sort_word s ++ codes ",")
commas_snoc [] s = refl
commas_snoc (x ∷ xs) s =
    ap (λ w. sort_word x ++ (codes "," ++ w)) (commas_snoc xs s)
    ∙ sym (append_assoc (sort_word x) (codes "," ++ commas xs) (sort_word s ++ codes ","))

sorts_snoc : (ss : List Sort) (s : Sort) → sorts_word (sorts_in (ss ++ s ∷ [])) ≡ commas ss ++ sort_word s
sorts_snoc [] s = refl
sorts_snoc (x ∷ []) s = sym (append_assoc (sort_word x) (codes ",") (sort_word s))
sorts_snoc (x ∷ y ∷ ys) s =
    ap (λ w. sort_word x ++ (codes "," ++ w)) (sorts_snoc (y ∷ ys) s)
    ∙ sym (append_assoc (sort_word x) (codes "," ++ commas (y ∷ ys)) (sort_word s))

end_adds : (k : List Open) (s : Sort) (c : ℕ) → Adds (bracket_text k ++ sort_word s) c (end_sort k s c)
end_adds [] s c = λ g. absurd g
end_adds (InArray ∷ k) s c =
    by_test (Adds ((bracket_text k ++ codes "[") ++ sort_word s) c) (nat_eq c 93) _ _
    (λ e g. regroup4 (bracket_text k) (codes "[") (sort_word s) (codes "]") ∙ ap (λ x. ((bracket_text k ++ codes "[") ++ sort_word s) ++ x ∷ []) (sym (same_nat c 93 e)))
    (λ g. absurd g)
end_adds (InTuple ss ∷ k) s c =
    by_test (Adds ((bracket_text k ++ (codes "(" ++ commas ss)) ++ sort_word s) c) (nat_eq c 41) _ _
    (λ e g. ap (λ w. bracket_text k ++ (codes "(" ++ (w ++ codes ")"))) (sorts_snoc ss s)
    ∙ (regroup_last (bracket_text k) (codes "(") (commas ss) (sort_word s) (codes ")")
    ∙ ap (λ x. ((bracket_text k ++ (codes "(" ++ commas ss)) ++ sort_word s) ++ x ∷ []) (sym (same_nat c 41 e))))
    (by_test (Adds ((bracket_text k ++ (codes "(" ++ commas ss)) ++ sort_word s) c) (nat_eq c 44) _ _
    (λ e g. append-nil (bracket_text k ++ (codes "(" ++ commas (ss ++ s ∷ [])))
    ∙ (ap (λ w. bracket_text k ++ (codes "(" ++ w)) (commas_snoc ss s)
    ∙ (regroup_more (bracket_text k) (codes "(") (commas ss) (sort_word s) (codes ",")
    ∙ ap (λ x. ((bracket_text k ++ (codes "(" ++ commas ss)) ++ sort_word s) ++ x ∷ []) (sym (same_nat c 44 e)))))
    (λ g. absurd g))

digits_add : (k : List Open) (g : Bool) (ds : Word) (c : ℕ) (o : Option ℕ) → numeral (2 ^ 16) ds ≡ o → Adds (bracket_text k ++ (cond g (codes "i") (codes "u") ++ ds)) c (end_of k (bits_sort g o) c)
digits_add k g ds c None e h = absurd h
digits_add k g ds c (Some n) e h =
    end_adds k (NumSort (Bits g n)) c h
    ∙ ap (λ w. (bracket_text k ++ (cond g (codes "i") (codes "u") ++ w)) ++ c ∷ []) (numeral_back (2 ^ 16) ds n (lit≤ tt) e).0

step_adds : (k : List Open) (r : Reading) (c : ℕ) → Adds (shown (at k r)) c (step_at k r c)
step_adds k Wanted c = λ g. begin_adds k c g ∙ ap (λ w. w ++ c ∷ []) (sym (append-nil (bracket_text k)))
step_adds k Begun c =
    by_test (Adds (bracket_text k ++ codes "(") c) (nat_eq c 41) _ _
    (λ e g. sym (append_assoc (bracket_text k) (codes "(") (codes ")")) ∙ ap (λ x. (bracket_text k ++ codes "(") ++ x ∷ []) (sym (same_nat c 41 e)))
    (begin_adds (InTuple [] ∷ k) c)
step_adds k (Digits g ds) c =
    by_test (Adds (bracket_text k ++ (cond g (codes "i") (codes "u") ++ ds)) c) (is_ascii_digit c) _ _
    (λ e h. regroup3 (bracket_text k) (cond g (codes "i") (codes "u")) ds (c ∷ []))
    (digits_add k g ds c (numeral (2 ^ 16) ds) refl)
step_adds k (Done s) c = end_adds k s c
step_adds k Refused c = λ g. absurd g

went_on : (k : List Open) (r : Reading) (c : ℕ) → GoesOn (step_at k r c).reading → GoesOn r
went_on k Refused c h = h
went_on k Wanted c h = tt
went_on k Begun c h = tt
went_on k (Digits g ds) c h = tt
went_on k (Done s) c h = tt

pub goes_before : (st : SortState) (w : Word) → GoesOn (run st w).reading → GoesOn st.reading
goes_before st [] h = h
goes_before st (c ∷ w) h = went_on st.brackets st.reading c (goes_before (step st c) w h)

run_adds : (st : SortState) (w : Word) → GoesOn (run st w).reading → shown (run st w) ≡ shown st ++ w
run_adds st [] h = sym (append-nil (shown st))
run_adds st (c ∷ w) h =
    run_adds (step st c) w h
    ∙ (ap (λ x. x ++ w) (step_adds st.brackets st.reading c (goes_before (step st c) w h)) ∙ append_assoc (shown st) (c ∷ []) w)

word_of_whole : (w : Word) (s : Sort) → whole_sort w ≡ Some s → sort_word s ≡ w
unfolding whole_sort
word_of_whole w s e = go (run (at [] Wanted) w).brackets (run (at [] Wanted) w).reading refl refl e
  where
    text : (r : Reading) → (run (at [] Wanted) w).brackets ≡ [] → (run (at [] Wanted) w).reading ≡ r → GoesOn r → reading_text r ≡ w
    text r b f g =
        ap₂ (λ k q. bracket_text k ++ reading_text q) (sym b) (sym f)
        ∙ run_adds (at [] Wanted) w (subst GoesOn (sym f) g)

    digits : (g : Bool) (ds : Word) (o : Option ℕ) → numeral (2 ^ 16) ds ≡ o → bits_sort g o ≡ Some s → cond g (codes "i") (codes "u") ++ ds ≡ w → sort_word s ≡ w
    digits g ds None n i t = cc i
    digits g ds (Some n) m i t =
        let is : NumSort (Bits g n) ≡ s = cc i in
        ap sort_word (sym is) ∙ (ap (λ x. cond g (codes "i") (codes "u") ++ x) (numeral_back (2 ^ 16) ds n (lit≤ tt) m).0 ∙ t)

    go : (k : List Open) (r : Reading) → (run (at [] Wanted) w).brackets ≡ k → (run (at [] Wanted) w).reading ≡ r → none_open k (sort_of_reading r) ≡ Some s → sort_word s ≡ w
    go (o ∷ k) r b f i = cc i
    go [] Wanted b f i = cc i
    go [] Begun b f i = cc i
    go [] (Digits g ds) b f i = digits g ds (numeral (2 ^ 16) ds) refl i (text (Digits g ds) b f tt)
    go [] (Done t) b f i = let is : t ≡ s = cc i in ap sort_word (sym is) ∙ text (Done t) b f tt
    go [] Refused b f i = cc i

-- ---- the ranges of a sort that was read

abbrev AllRanges : List Sort → Type 0
AllRanges [] = Unit {0}
AllRanges (s ∷ ss) = HasRanges s × AllRanges ss

abbrev OpenRanges : List Open → Type 0
OpenRanges [] = Unit {0}
OpenRanges (InArray ∷ k) = OpenRanges k
OpenRanges (InTuple ss ∷ k) = AllRanges ss × OpenRanges k

abbrev ReadingRanges : Reading → Type 0
ReadingRanges (Done s) = HasRanges s
ReadingRanges r = Unit {0}

abbrev Ranges : SortState → Type 0
Ranges st = OpenRanges st.brackets × ReadingRanges st.reading

all_snoc : (ss : List Sort) (s : Sort) → AllRanges ss → HasRanges s → AllRanges (ss ++ s ∷ [])
all_snoc [] s a h = (h, tt)
all_snoc (x ∷ xs) s a h = (a.0, all_snoc xs s a.1 h)

all_in : (ss : List Sort) → AllRanges ss → HaveRanges (sorts_in ss)
all_in [] a = tt
all_in (s ∷ ss) a = (a.0, all_in ss a.1)

begin_ranges : (k : List Open) (c : ℕ) → OpenRanges k → Ranges (begin_sort k c)
begin_ranges k c h =
    by_test Ranges (nat_eq c 110) _ _ (λ e. (h, tt)) (
    by_test Ranges (nat_eq c 108) _ _ (λ e. (h, tt)) (
    by_test Ranges (nat_eq c 98) _ _ (λ e. (h, tt)) (
    by_test Ranges (nat_eq c 91) _ _ (λ e. (h, tt)) (
    by_test Ranges (nat_eq c 40) _ _ (λ e. (h, tt)) (
    by_test Ranges (nat_eq c 117) _ _ (λ e. (h, tt)) (
    by_test Ranges (nat_eq c 105) _ _ (λ e. (h, tt)) (h, tt)))))))

end_ranges : (k : List Open) (s : Sort) (c : ℕ) → OpenRanges k → HasRanges s → Ranges (end_sort k s c)
end_ranges [] s c h r = (tt, tt)
end_ranges (InArray ∷ k) s c h r = by_test Ranges (nat_eq c 93) _ _ (λ e. (h, r)) (h, tt)
end_ranges (InTuple ss ∷ k) s c h r =
    by_test Ranges (nat_eq c 41) _ _ (λ e. (h.1, all_in (ss ++ s ∷ []) (all_snoc ss s h.0 r)))
    (by_test Ranges (nat_eq c 44) _ _ (λ e. ((all_snoc ss s h.0 r, h.1), tt)) (h.1, tt))

digits_ranges : (k : List Open) (g : Bool) (ds : Word) (c : ℕ) (o : Option ℕ) → OpenRanges k → numeral (2 ^ 16) ds ≡ o → Ranges (end_of k (bits_sort g o) c)
digits_ranges k g ds c None h e = (h, tt)
digits_ranges k g ds c (Some n) h e = end_ranges k (NumSort (Bits g n)) c h (numeral_back (2 ^ 16) ds n (lit≤ tt) e).1

step_ranges : (k : List Open) (r : Reading) (c : ℕ) → OpenRanges k → ReadingRanges r → Ranges (step_at k r c)
step_ranges k Wanted c h r = begin_ranges k c h
step_ranges k Begun c h r = by_test Ranges (nat_eq c 41) _ _ (λ e. (h, tt)) (begin_ranges (InTuple [] ∷ k) c (tt, h))
step_ranges k (Digits g ds) c h r = by_test Ranges (is_ascii_digit c) _ _ (λ e. (h, tt)) (digits_ranges k g ds c (numeral (2 ^ 16) ds) h refl)
step_ranges k (Done s) c h r = end_ranges k s c h r
step_ranges k Refused c h r = (h, tt)

run_ranges : (st : SortState) (w : Word) → Ranges st → Ranges (run st w)
run_ranges st [] h = h
run_ranges st (c ∷ w) h = run_ranges (step st c) w (step_ranges st.brackets st.reading c h.0 h.1)

ranges_of_whole : (w : Word) (s : Sort) → whole_sort w ≡ Some s → HasRanges s
unfolding whole_sort
ranges_of_whole w s e = go (run (at [] Wanted) w).brackets (run (at [] Wanted) w).reading (run_ranges (at [] Wanted) w (tt, tt)).1 e
  where
    digits : (g : Bool) (ds : Word) (o : Option ℕ) → numeral (2 ^ 16) ds ≡ o → bits_sort g o ≡ Some s → HasRanges s
    digits g ds None n i = cc i
    digits g ds (Some n) m i =
        let is : NumSort (Bits g n) ≡ s = cc i in
        subst HasRanges is (numeral_back (2 ^ 16) ds n (lit≤ tt) m).1

    go : (k : List Open) (r : Reading) → ReadingRanges r → none_open k (sort_of_reading r) ≡ Some s → HasRanges s
    go (o ∷ k) r h i = cc i
    go [] Wanted h i = cc i
    go [] Begun h i = cc i
    go [] (Digits g ds) h i = digits g ds (numeral (2 ^ 16) ds) refl i
    go [] (Done t) h i = let is : t ≡ s = cc i in subst HasRanges is h
    go [] Refused h i = cc i

-- ---- sorts whose text isn't too long

pub sort_in_word : (s : Sort) → HasRanges s → is_short (SortPart s) ≡ true → sort_in (sort_word s) ≡ Some s
unfolding sort_in
sort_in_word s h l = ap (λ b. cond b None (whole_sort (sort_word s))) (denied (nat_lt 10000 (length (sort_word s))) l) ∙ whole_word s h
  where
    denied : (b : Bool) → not b ≡ true → b ≡ false
    denied true e = cc e
    denied false e = refl

-- a word that is read isn't too long
pub whole_of_sort : (w : Word) (s : Sort) → sort_in w ≡ Some s → (nat_lt 10000 (length w) ≡ false) × (whole_sort w ≡ Some s)
unfolding sort_in
whole_of_sort w s e = go (nat_lt 10000 (length w)) refl e
  where
    go : (b : Bool) → nat_lt 10000 (length w) ≡ b → cond b None (whole_sort w) ≡ Some s → (nat_lt 10000 (length w) ≡ false) × (whole_sort w ≡ Some s)
    go true f i = cc i
    go false f i = (f, i)

pub word_of_sort : (w : Word) (s : Sort) → sort_in w ≡ Some s → sort_word s ≡ w
word_of_sort w s e = word_of_whole w s (whole_of_sort w s e).1

pub ranges_of_sort : (w : Word) (s : Sort) → sort_in w ≡ Some s → HasRanges s
ranges_of_sort w s e = ranges_of_whole w s (whole_of_sort w s e).1

pub short_of_sort : (w : Word) (s : Sort) → sort_in w ≡ Some s → is_short (SortPart s) ≡ true
short_of_sort w s e = ap (λ v. not (nat_lt 10000 (length v))) (word_of_sort w s e) ∙ ap not (whole_of_sort w s e).0
