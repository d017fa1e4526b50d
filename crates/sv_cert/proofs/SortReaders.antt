-- What reading a sort byte by byte rests on.
use Rattle.std.proofs.Common.{ℕ, zero, suc, ◌+◌, ◌<◌, ◌≤◌, ◌^◌, Bool, true, false, cond, nat_eq, nat_lt, List, [], ◌∷◌, ◌++◌, length, get_or, take, map, reverse, drop, ◌≡◌, refl, sym, ap, ap₂, ◌∙◌, subst, arith, Option, None, Some, Result, Ok, Err}
use Rattle.std.proofs.lemmas.Bool.{lt-ltb, ltb-true}
use Rattle.std.proofs.lemmas.List.{take_more, take_all, take-append-drop, reverse-append, map-append, length-reverse, length-map}
use Rattle.sv_term.specs.Sorts.{Sort, NumSort, BoolSort, ArrSort, TupSort, Sorts, NoSorts, SortAnd}
use Rattle.sv_term.proofs.Same.{same_nat, nat_same}
use Rattle.sv_term.specs.Banks.{range_of}
use Rattle.sv_cert.specs.LogText.{Word}
use Rattle.sv_cert.specs.LogReading as r
use Rattle.sv_cert.specs.LogSteps.{Gives}
use Rattle.sv_cert.specs.PlainNodes.{plain_sort, sort_layer, sorts_from}
use Rattle.sv_cert.specs.SortSteps.{plain_bracket, plain_brackets, plain_reading, Comes}
use Rattle.sv_cert.specs.declared.read.brackets.Bracket.{Bracket}
use Rattle.sv_cert.specs.declared.read.brackets.Bracket.TheVariants as b
use Rattle.sv_cert.specs.declared.read.brackets.Reading.{Reading}
use Rattle.sv_cert.specs.declared.read.brackets.Reading.TheVariants as d
use Rattle.sv_cert.specs.declared.sort.LogSort.{LogSort}
use Rattle.sv_cert.specs.declared.sort.LogSort.TheVariants as v
use Rattle.sv_cert.specs.declared.sort.LogSort.TheOpen.{LogSort-F}
use Rattle.sv_cert.specs.declared.sort.LogSort.TheFolds.{fold-roll-LogSort}
use Rattle.sv_cert.specs.declared.read.stop.Stop.{Stop}
use Rattle.sv_cert.specs.declared.read.stop.Stop.TheVariants.{NoEntry, NoMemory}
use Rattle.sv_cert.proofs.SortTexts.{run_append, goes_before, GoesOn}

pub pushed : (bs : List Bracket) (b : Bracket) → plain_brackets (bs ++ b ∷ []) ≡ plain_bracket b ∷ plain_brackets bs
unfolding plain_brackets
pushed bs b = ap reverse (map-append plain_bracket bs (b ∷ [])) ∙ reverse-append (map plain_bracket bs) (plain_bracket b ∷ [])

pub none_pushed : plain_brackets [] ≡ []
unfolding plain_brackets
none_pushed = refl

-- the innermost bracket is taken away
pub popped : (bs rest : List Bracket) (b : Bracket) → bs ≡ rest ++ b ∷ [] → plain_brackets bs ≡ plain_bracket b ∷ plain_brackets rest
popped bs rest b e = ap plain_brackets e ∙ pushed rest b

some_open : (bs : List Bracket) → plain_brackets bs ≡ [] → bs ≡ []
unfolding plain_brackets
some_open bs e =
    let l : length bs ≡ 0 = sym (length-map bs plain_bracket) ∙ (sym (length-reverse (map plain_bracket bs)) ∙ ap length e) in
    go bs l
  where
    go : (bs : List Bracket) → length bs ≡ 0 → bs ≡ []
    go [] l = refl
    go (b ∷ bs) l = absurd (omega (arith, l))

differs : (c d : ℕ) → (c ≡ d → ⊥) → nat_eq c d ≡ false
differs c d n = go (nat_eq c d) refl
  where
    go : (t : Bool) → nat_eq c d ≡ t → t ≡ false
    go true e = absurd (n (same_nat c d e))
    go false e = refl

pub array_is : (s : LogSort) → plain_sort (v.Arr s) ≡ ArrSort (plain_sort s)
array_is s = ap plain_sort (sym (v.rolls-Arr s)) ∙ fold-roll-LogSort Sort sort_layer (LogSort-F.Arr s)

pub tuple_is : (ss : List LogSort) → plain_sort (v.Tup ss) ≡ TupSort (sorts_from (map plain_sort ss))
tuple_is ss = ap plain_sort (sym (v.rolls-Tup ss)) ∙ fold-roll-LogSort Sort sort_layer (LogSort-F.Tup ss)

sorts_same : (ss : List Sort) → sorts_from ss ≡ r.sorts_in ss
sorts_same [] = refl
sorts_same (s ∷ ss) = ap (λ x. SortAnd s x) (sorts_same ss)

-- a tuple with one more part
pub tuple_more : (ss : List LogSort) (s : LogSort) → plain_sort (v.Tup (ss ++ s ∷ [])) ≡ TupSort (r.sorts_in (map plain_sort ss ++ plain_sort s ∷ []))
tuple_more ss s = tuple_is (ss ++ s ∷ []) ∙ ap TupSort (sorts_same (map plain_sort (ss ++ s ∷ [])) ∙ ap r.sorts_in (map-append plain_sort ss (s ∷ [])))

-- ---- one byte

pub array_begins : (bs : List Bracket) (c : ℕ) → c ≡ 91 → r.begin_sort (plain_brackets bs) c ≡ r.at (plain_brackets (bs ++ b.Array ∷ [])) r.Wanted
array_begins bs c e = ap (r.begin_sort (plain_brackets bs)) e ∙ ap (λ k. r.at k r.Wanted) (sym (pushed bs b.Array))

pub part_ends : (bs : List Bracket) (ss : List LogSort) (s : LogSort) (c : ℕ) → c ≡ 44
    → r.end_sort (r.InTuple (map plain_sort ss) ∷ plain_brackets bs) (plain_sort s) c ≡ r.at (plain_brackets (bs ++ b.Tuple (ss ++ s ∷ []) ∷ [])) r.Wanted
part_ends bs ss s c e =
    ap (r.end_sort (r.InTuple (map plain_sort ss) ∷ plain_brackets bs) (plain_sort s)) e
    ∙ (ap (λ ts. r.at (r.InTuple ts ∷ plain_brackets bs) r.Wanted) (sym (map-append plain_sort ss (s ∷ []))) ∙ ap (λ k. r.at k r.Wanted) (sym (pushed bs (b.Tuple (ss ++ s ∷ [])))))

pub tuple_begins : (bs mid now : List Bracket) (ss : List LogSort) (c : ℕ) (o : Result Reading Stop) → (c ≡ 41 → ⊥) → mid ≡ bs ++ b.Tuple ss ∷ [] → ss ≡ []
    → Comes (r.begin_sort (plain_brackets mid) c) o now → Comes (r.step_at (plain_brackets bs) r.Begun c) o now
tuple_begins bs mid now ss c o n m e h =
    subst (λ st. Comes st o now)
    (ap (λ k. r.begin_sort k c) (ap plain_brackets m ∙ (pushed bs (b.Tuple ss) ∙ ap (λ xs. r.InTuple (map plain_sort xs) ∷ plain_brackets bs) e))
    ∙ ap (λ t. cond t (r.at (plain_brackets bs) (r.Done (TupSort NoSorts))) (r.begin_sort (r.InTuple [] ∷ plain_brackets bs) c)) (sym (differs c 41 n))) h

pub none_ends : (bs : List Bracket) (s : LogSort) (c : ℕ) → bs ≡ [] → (r.end_sort (plain_brackets bs) (plain_sort s) c).reading ≡ r.Refused
none_ends bs s c e = ap (λ k. (r.end_sort k (plain_sort s) c).reading) (ap plain_brackets e ∙ none_pushed)

pub array_ends : (bs rest : List Bracket) (s t : LogSort) (c : ℕ) → bs ≡ rest ++ b.Array ∷ [] → c ≡ 93 → t ≡ s
    → r.end_sort (plain_brackets bs) (plain_sort s) c ≡ r.at (plain_brackets rest) (r.Done (plain_sort (v.Arr t)))
array_ends bs rest s t c e h same =
    ap (λ k. r.end_sort k (plain_sort s) c) (popped bs rest b.Array e)
    ∙ (ap (λ x. r.end_sort (r.InArray ∷ plain_brackets rest) (plain_sort s) x) h
    ∙ ap (λ x. r.at (plain_brackets rest) (r.Done x)) (ap (λ x. ArrSort (plain_sort x)) (sym same) ∙ sym (array_is t)))

pub array_goes_on : (bs rest : List Bracket) (s : LogSort) (c : ℕ) → bs ≡ rest ++ b.Array ∷ [] → (c ≡ 93 → ⊥) → (r.end_sort (plain_brackets bs) (plain_sort s) c).reading ≡ r.Refused
array_goes_on bs rest s c e n =
    ap (λ k. (r.end_sort k (plain_sort s) c).reading) (popped bs rest b.Array e)
    ∙ ap (λ t. (cond t (r.at (plain_brackets rest) (r.Done (ArrSort (plain_sort s)))) (r.at (plain_brackets rest) r.Refused)).reading) (differs c 93 n)

pub tuple_ends : (bs rest now : List Bracket) (ss : List LogSort) (s : LogSort) (c : ℕ) (o : Result Reading Stop) → bs ≡ rest ++ b.Tuple ss ∷ []
    → Comes (r.end_sort (r.InTuple (map plain_sort ss) ∷ plain_brackets rest) (plain_sort s) c) o now → Comes (r.end_sort (plain_brackets bs) (plain_sort s) c) o now
tuple_ends bs rest now ss s c o e h = subst (λ k. Comes (r.end_sort k (plain_sort s) c) o now) (sym (popped bs rest (b.Tuple ss) e)) h

-- ---- byte after byte

pub record SortSoFar (w : Word) (i : ℕ) (bs : List Bracket) (reading : Reading) : Type 0 where
  pub short : length w ≤ 10000
  pub state : r.run (r.at [] r.Wanted) (take i w) ≡ r.at (plain_brackets bs) (plain_reading reading)

pub sort_begins : (w : Word) (bs : List Bracket) → length w ≤ 10000 → bs ≡ [] → SortSoFar w 0 bs d.Wanted
sort_begins w bs l e = record { short = l; state = ap (λ k. r.at k r.Wanted) (sym (ap plain_brackets e ∙ none_pushed)) }

one_more : (w : Word) (i c : ℕ) (bs : List Bracket) (reading : Reading) → SortSoFar w i bs reading → i < length w → c ≡ get_or w i 0
    → r.run (r.at [] r.Wanted) (take (i + 1) w) ≡ r.step_at (plain_brackets bs) (plain_reading reading) c
one_more w i c bs reading h l e =
    ap (r.run (r.at [] r.Wanted)) (take_more w i 0 l)
    ∙ (run_append (r.at [] r.Wanted) (take i w) (get_or w i 0 ∷ [])
    ∙ (ap (λ st. r.step st (get_or w i 0)) h.state ∙ ap (r.step_at (plain_brackets bs) (plain_reading reading)) (sym e)))

pub sort_more : (w : Word) (i c : ℕ) (bs now : List Bracket) (reading next : Reading) → SortSoFar w i bs reading → i < length w → c ≡ get_or w i 0
    → Comes (r.step_at (plain_brackets bs) (plain_reading reading) c) (Ok next) now → SortSoFar w (i + 1) now next
sort_more w i c bs now reading next h l e k = record { short = h.short; state = one_more w i c bs reading h l e ∙ k }

refused : (st : r.SortState) → (GoesOn st.reading → ⊥) → r.sort_end st ≡ None
refused st n = go st.brackets st.reading n
  where
    go : (k : List r.Open) (x : r.Reading) → (GoesOn x → ⊥) → r.none_open k (r.sort_of_reading x) ≡ None
    go k r.Wanted n = absurd (n tt)
    go k r.Begun n = absurd (n tt)
    go k (r.Digits g ds) n = absurd (n tt)
    go k (r.Done s) n = absurd (n tt)
    go [] r.Refused n = refl
    go (o ∷ k) r.Refused n = refl

in_whole : (w : Word) → length w ≤ 10000 → r.sort_in w ≡ r.whole_sort w
unfolding r.sort_in
in_whole w l = ap (λ t. cond t None (r.whole_sort w)) (go (nat_lt 10000 (length w)) refl)
  where
    go : (t : Bool) → nat_lt 10000 (length w) ≡ t → t ≡ false
    go true e = absurd (omega (arith, ltb-true 10000 (length w) e))
    go false e = refl

pub too_long : (w : Word) → 10000 < length w → r.sort_in w ≡ None
unfolding r.sort_in
too_long w l = ap (λ t. cond t None (r.whole_sort w)) (lt-ltb 10000 (length w) l)

stays_refused : (w : Word) (k : ℕ) → (r.run (r.at [] r.Wanted) (take k w)).reading ≡ r.Refused → r.whole_sort w ≡ None
unfolding r.whole_sort
stays_refused w k e =
    let whole : r.run (r.run (r.at [] r.Wanted) (take k w)) (drop k w) ≡ r.run (r.at [] r.Wanted) w =
    sym (run_append (r.at [] r.Wanted) (take k w) (drop k w)) ∙ ap (r.run (r.at [] r.Wanted)) (take-append-drop k w) in
    refused (r.run (r.at [] r.Wanted) w) (λ g. subst GoesOn e (goes_before (r.run (r.at [] r.Wanted) (take k w)) (drop k w) (subst (λ st. GoesOn st.reading) (sym whole) g)))

pub sort_stops : (w : Word) (i c : ℕ) (bs now : List Bracket) (reading : Reading) (e : Stop) → SortSoFar w i bs reading → i < length w → c ≡ get_or w i 0
    → Comes (r.step_at (plain_brackets bs) (plain_reading reading) c) (Err e) now → Gives plain_sort (Err e) (r.sort_in w)
sort_stops w i c bs now reading NoMemory h l m k = tt
sort_stops w i c bs now reading NoEntry h l m k =
    in_whole w h.short ∙ stays_refused w (i + 1) (ap (λ (st : r.SortState). st.reading) (one_more w i c bs reading h l m) ∙ k)

whole_is : (w : Word) (i : ℕ) (bs : List Bracket) (reading : Reading) → SortSoFar w i bs reading → length w ≤ i
    → r.sort_in w ≡ r.none_open (plain_brackets bs) (r.sort_of_reading (plain_reading reading))
unfolding r.whole_sort
whole_is w i bs reading h l = in_whole w h.short ∙ ap r.sort_end (ap (r.run (r.at [] r.Wanted)) (sym (take_all i w l)) ∙ h.state)

pub sort_ends : (w : Word) (i : ℕ) (bs : List Bracket) (reading : Reading) (o : Result LogSort Stop) → SortSoFar w i bs reading → length w ≤ i → bs ≡ []
    → Gives plain_sort o (r.sort_of_reading (plain_reading reading)) → Gives plain_sort o (r.sort_in w)
sort_ends w i bs reading o h l e g =
    subst (Gives plain_sort o) (sym (whole_is w i bs reading h l ∙ ap (λ k. r.none_open k (r.sort_of_reading (plain_reading reading))) (ap plain_brackets e ∙ none_pushed))) g

pub sort_is_open : (w : Word) (i : ℕ) (bs : List Bracket) (reading : Reading) → SortSoFar w i bs reading → length w ≤ i → (bs ≡ [] → ⊥) → r.sort_in w ≡ None
sort_is_open w i bs reading h l n = whole_is w i bs reading h l ∙ go (plain_brackets bs) refl
  where
    go : (k : List r.Open) → plain_brackets bs ≡ k → r.none_open k (r.sort_of_reading (plain_reading reading)) ≡ None
    go [] e = absurd (n (some_open bs e))
    go (o ∷ k) e = refl
