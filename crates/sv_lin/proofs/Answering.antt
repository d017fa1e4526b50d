-- The start of an elimination, and its answers.
use Rattle.std.proofs.Common.{ℕ, zero, suc, ◌+◌, ◌<◌, ◌≤◌, ◌^◌, ◌⊎◌, inl, inr, Bool, true, false, nat_eq, List, [], ◌∷◌, ◌++◌, map, length, take, get_or, reverse, ◌≡◌, refl, sym, ap, ap₂, ◌∙◌, subst, arith, append_assoc}
use Rattle.std.proofs.lemmas.List.{append-nil, map-append, reverse-append, reverse-reverse}
use Rattle.std.proofs.lemmas.List.Elements.{Contains-append_left, Contains-append_cases}
use Rattle.std.proofs.lemmas.Bool.Decides.{Decides-eqb}
use Rattle.std.proofs.lemmas.Option.{slice_get_within}
use Rattle.std.specs.List.{Contains}
use Rattle.std.specs.Global.{Vec}
use Rattle.std.specs.Prelude.{Result, Ok, Err, IfOk, Some, slice_get, slice_index_or}
use lib.IntN.{ℤ}
use Rattle.sv_log.specs.LogEntries.{Row, Entry, columns}
use Rattle.sv_log.specs.LogRows.{monomial}
use Rattle.sv_log.specs.Logs.{Bound, IsAbsurd}
use Rattle.sv_point.specs.NearestPoints.{IsRowOf}
use Rattle.sv_lin.specs.Eliminations.{made, in_force, AreDivided, HaveNoAbsurd, AreEntriesOn, IsContradiction, Placed, IsColumnOf, AreFrom, IsNearestIn, IsPoint, IsExcess, IsExceedingValue, AreNormal, IsSpent, AreExceedingRows}
use Rattle.sv_lin.specs.Completeness.{AreComplete}
use Rattle.sv_lin.specs.declared.place.Place.{Place}
use Rattle.sv_term.specs.declared.node.TermId.{TermId}
use Rattle.sv_lin.specs.EliminationAnswers.{placed_by, IsAnswer}
use Rattle.sv_lin.specs.Assembling.{IsPointBy, IsValueBy, AreSmall, StopsWith}
use Rattle.sv_lin.specs.declared.answer.Eliminated.{Eliminated}
use Rattle.sv_lin.specs.declared.answer.Eliminated.TheVariants as an
use Rattle.sv_cert.specs.declared.excess.Excess.TheVariants as ex
use Rattle.sv_lin.proofs.ColumnLists.{take_all}
use Rattle.sv_cert.specs.declared.log.Row.{Row as CodeRow}
use Rattle.sv_cert.specs.declared.log.Entry.{Entry as CodeEntry}
use Rattle.sv_cert.specs.PlainLogs.{plain_entry}
use Rattle.sv_lin.specs.declared.made.Made.{Made}
use Rattle.sv_lin.specs.declared.made.Outcome.{Outcome}
use Rattle.sv_lin.specs.declared.made.Outcome.TheVariants as out
use Rattle.sv_lin.specs.UnderWay.{entry_made, entries_of, given, force, EachColumn, IsUnderWay, Ends, RiseFrom, AreColumns}
use Rattle.sv_lin.proofs.Forces.{length_force, room}
use Rattle.sv_lin.specs.Placing.{placed, point_of, ArePlaced, StopsAt, AreOfColumns, Places}
use Rattle.sv_lin.specs.declared.point.Placing.{Placing}
use Rattle.sv_lin.specs.declared.point.Placing.TheVariants as pl
use Rattle.sv_lin.proofs.NewRows.{each_own, each_weaker, each_last}
use Rattle.sv_lin.proofs.Gathering.{rises_behind}
use Rattle.sv_lin.proofs.NearPoints.{nearest_without, met_if_near, placed_none}
use Rattle.sv_lin.proofs.Saturation.{complete_saturated}

-- ---- the start

no_entries : (rows : List Row) → AreEntriesOn rows []
no_entries rows = record { of_rows = tt; accepted = λ ts h. tt; no_absurd = λ r c. absurd (let l = c.1 in omega (arith, l)) }

pub started : (rows : List Row) (limit : ℕ) → length rows < 2 ^ 31 → AreNormal rows → 1 ≤ limit → limit ≤ 200000 → HaveNoAbsurd rows → IsUnderWay rows limit []
started rows limit few normal low high none = record {
  few = few;
  small = high;
  entries = no_entries rows;
  none = subst HaveNoAbsurd (sym (append-nil rows)) none;
  cheap = omega (arith, low);
  normal = subst AreNormal (sym (append-nil rows)) normal;
  within = λ r c.
      let d = subst (λ z. Contains z r) (append-nil rows) c in
      each_weaker (λ x. Contains (columns r.parts) x) (IsColumnOf rows) (λ x e. (r, d, e)) r.parts (each_own r.parts);
}

pub given_contradicts : (rows : List Row) (r : Row) → Contains rows r → IsAbsurd (Bound r) → IsContradiction rows []
given_contradicts rows r c a = record { entries = no_entries rows; row = r; absurd = a; place = inl c }

-- ---- columns

not_in : (cs : List ℕ) (x y : ℕ) → (y ≡ x → ⊥) → (Contains cs x → ⊥) → (k : ℕ) → k < length (y ∷ cs) → slice_index_or (y ∷ cs) k x ≡ x → ⊥
not_in cs x y n m zero l e = n e
not_in cs x y n m (suc k) l e = m (k, omega (arith, l), e)

decide : (cs : List ℕ) (x : ℕ) → Contains cs x ⊎ (Contains cs x → ⊥)
decide [] x = inr (λ c. let l = c.1 in omega (arith, l))
decide (y ∷ cs) x = go (nat_eq y x) refl (decide cs x)
  where
    go : (b : Bool) → nat_eq y x ≡ b → Contains cs x ⊎ (Contains cs x → ⊥) → Contains (y ∷ cs) x ⊎ (Contains (y ∷ cs) x → ⊥)
    go true e d = inl (0, omega arith, (Decides-eqb y x).0 e)
    go false e (inl c) = inl (suc c.0, let l = c.1 in omega (arith, l), c.2)
    go false e (inr m) = inr (λ c. not_in cs x y (λ d. let f = (Decides-eqb y x).1 d in let g : true ≡ false = sym f ∙ e in cc g) m c.0 c.1 c.2)

from_rises : (n : ℕ) (ps : List Placed) → RiseFrom n (map (λ p. p.column) ps) → AreFrom n ps
from_rises n [] h = tt
from_rises n (p ∷ ps) h = (h.0, from_rises (p.column + 1) ps h.1)

rises_before : (n : ℕ) (xs ys : List ℕ) → RiseFrom n (xs ++ ys) → RiseFrom n xs
rises_before n [] ys h = tt
rises_before n (x ∷ xs) ys h = (h.0, rises_before (x + 1) xs ys h.1)

floor : (n x : ℕ) (xs ys : List ℕ) → RiseFrom n (xs ++ x ∷ ys) → n ≤ x
floor n x [] ys h = h.0
floor n x (w ∷ xs) ys h = let a = floor (w + 1) x xs ys h.1 in let b = h.0 in omega (arith, a, b)

-- what stands before x is below it
pub below_split : (n : ℕ) (xs ys : List ℕ) (x y : ℕ) → RiseFrom n (xs ++ x ∷ ys) → Contains xs y → y < x
below_split n [] ys x y h c = absurd (let l = c.1 in omega (arith, l))
below_split n (z ∷ xs) ys x y h c = go c.0 c.1 c.2 (below_split (z + 1) xs ys x y h.1)
  where
    go : (k : ℕ) → k < length (z ∷ xs) → slice_index_or (z ∷ xs) k y ≡ y → (Contains xs y → y < x) → y < x
    go zero l e f = let a = floor (z + 1) x xs ys h.1 in omega (arith, a, e)
    go (suc k) l e f = f (k, omega (arith, l), e)

module _ (rows : List Row) (limit : ℕ) (es : List Entry) (w : IsUnderWay rows limit es) (cs : List ℕ) (c : AreColumns rows cs) where
  -- each column of a row in force is listed
  pub of_columns : AreOfColumns (in_force rows es) cs
  of_columns r i = each_weaker (IsColumnOf rows) (Contains cs) (λ x h. (c.each x).1 h) r.parts (w.within r i)

  greatest_listed : (x : ℕ) (k : ℤ) (r : Row) → Contains (in_force rows es) r → IsRowOf x k r → Contains cs x
  greatest_listed x k r i t = each_last (Contains cs) t.lows (monomial k x) (subst (EachColumn (Contains cs)) t.is (of_columns r i))

  module _ (complete : AreComplete (in_force rows es)) (divided : AreDivided (in_force rows es)) (ps : List Place) where
    nearest_anywhere : ArePlaced (in_force rows es) cs ps → (x : ℕ) → IsNearestIn (in_force rows es) (point_of ps) x
    nearest_anywhere p x = (
      p.reduced x,
      elim (decide cs x) [
        | inl i ↦ p.nearest x i
        | inr n ↦ nearest_without (in_force rows es) (point_of ps) x (λ k r i t. n (greatest_listed x k r i t))
            (placed_none (map placed ps) x (λ i. n (subst (λ z. Contains z x) p.columns i)))
      ],
    )

    pub is_point : ArePlaced (in_force rows es) cs ps → IsPoint rows es (map placed ps)
    is_point p = record {
      entries = w.entries;
      saturated = complete_saturated (in_force rows es) w.normal complete;
      divided = divided;
      lists = record {
        rising = from_rises 0 (map placed ps) (subst (RiseFrom 0) (sym p.columns) c.rising);
        each = λ x. (λ i. ((c.each x).0 (subst (λ z. Contains z x) p.columns i), tt), λ h. subst (λ z. Contains z x) (sym p.columns) ((c.each x).1 h.0));
      };
      nearest = nearest_anywhere p;
      meets = λ r i.
          let j = Contains-append_left rows (made es) r i in
          met_if_near (in_force rows es) (point_of ps) r w.normal w.none j (λ y k t. (nearest_anywhere p y).1);
    }

    module _ (i : ℕ) (s : StopsAt (in_force rows es) cs i ps) where
      listed_before : (y : ℕ) → Contains s.before y → Contains cs y
      listed_before y h = subst (λ z. Contains z y) (sym s.split) (Contains-append_left s.before (s.x ∷ s.after) y h)

      rising : RiseFrom 0 (s.before ++ s.x ∷ s.after)
      rising = subst (RiseFrom 0) s.split c.rising

      is_before : (y : ℕ) → y < s.x → Contains cs y → Contains s.before y
      is_before y l h = elim (Contains-append_cases s.before (s.x ∷ s.after) y (subst (λ z. Contains z y) s.split h)) [
        | inl a ↦ a
        | inr b ↦ absurd (not_behind b.0 b.1 b.2)
      ]
        where
          not_behind : (k : ℕ) → k < length (s.x ∷ s.after) → slice_index_or (s.x ∷ s.after) k y ≡ y → ⊥
          not_behind zero m e = omega (arith, l, e)
          not_behind (suc k) m e = let a = rises_behind 0 s.before s.after s.x y rising (k, omega (arith, m), e) in omega (arith, a, l)

      nearest_below : (y : ℕ) → y < s.x → IsNearestIn (in_force rows es) (point_of ps) y
      nearest_below y l = (
        s.placed.reduced y,
        elim (decide s.before y) [
          | inl h ↦ s.placed.nearest y h
          | inr n ↦ nearest_without (in_force rows es) (point_of ps) y (λ k r j t. n (is_before y l (greatest_listed y k r j t)))
              (placed_none (map placed ps) y (λ h. n (subst (λ z. Contains z y) s.placed.columns h)))
        ],
      )

      column_is : s.exceeds.0.column ≡ s.x
      column_is = s.exceeds.1

      pub exceeds_value : IsExceedingValue rows es i (map placed ps)
      exceeds_value = record {
        row = s.row;
        is = s.is;
        exceeds = s.exceeds.0;
        lists = record {
          rising = from_rises 0 (map placed ps) (subst (RiseFrom 0) (sym s.placed.columns) (rises_before 0 s.before (s.x ∷ s.after) rising));
          each = λ x. (
            λ h.
                let j = subst (λ z. Contains z x) s.placed.columns h in
                ((c.each x).0 (listed_before x j), subst (λ z. x < z) (sym column_is) (below_split 0 s.before s.after s.x x rising j)),
            λ h. subst (λ z. Contains z x) (sym s.placed.columns) (is_before x (subst (λ z. x < z) column_is h.1) ((c.each x).1 h.0)),
          );
        };
        nearest = λ x l. nearest_below x (subst (λ z. x < z) column_is l);
      }

pub is_excess : (rows : List Row) (limit : ℕ) (es : List Entry) → IsUnderWay rows limit es → AreDivided (in_force rows es) → IsExcess rows es
is_excess rows limit es w d = record { entries = w.entries; divided = d; none = w.none }

-- ---- entries as the code lists them

pub entries_begin : (es : List CodeEntry) (all left turned : List Made) → es ≡ [] → left ≡ all → turned ≡ reverse left → map plain_entry es ++ entries_of (reverse turned) ≡ entries_of all
entries_begin es all left turned e f g =
    ap (λ z. map plain_entry z ++ entries_of (reverse turned)) e
    ∙ (ap (λ z. entries_of (reverse z)) g ∙ (ap entries_of (reverse-reverse left) ∙ ap entries_of f))

pub entries_more : (es new : List CodeEntry) (all left rest : List Made) (m : Made) (e : CodeEntry) → map plain_entry es ++ entries_of (reverse left) ≡ entries_of all
    → left ≡ rest ++ m ∷ [] → new ≡ es ++ e ∷ [] → plain_entry e ≡ entry_made m → map plain_entry new ++ entries_of (reverse rest) ≡ entries_of all
entries_more es new all left rest m e h l n p =
    ap (λ z. map plain_entry z ++ entries_of (reverse rest)) n
    ∙ (ap (λ z. z ++ entries_of (reverse rest)) (map-append plain_entry es (e ∷ []))
    ∙ (append_assoc (map plain_entry es) (plain_entry e ∷ []) (entries_of (reverse rest))
    ∙ (ap (λ z. map plain_entry es ++ z ∷ entries_of (reverse rest)) p
    ∙ (ap (λ z. map plain_entry es ++ entries_of z) (sym (reverse-append rest (m ∷ [])))
    ∙ (ap (λ z. map plain_entry es ++ entries_of (reverse z)) (sym l) ∙ h)))))

pub entries_end : (es : List CodeEntry) (all left : List Made) → map plain_entry es ++ entries_of (reverse left) ≡ entries_of all → length left ≡ 0 → map plain_entry es ≡ entries_of all
entries_end es all [] h z = sym (append-nil (map plain_entry es)) ∙ h
entries_end es all (m ∷ left) h z = absurd (omega (arith, z))

-- ---- what an outcome says

pub at_contradiction : (rows : List Row) (limit : ℕ) (es : List Entry) (G : Type 0) (o : Outcome) → o ≡ out.Contradiction → Ends rows limit es G o → IsContradiction rows es
at_contradiction rows limit es G o e h = subst (Ends rows limit es G) e h

pub at_spent : (rows : List Row) (limit : ℕ) (es : List Entry) (G : Type 0) (o : Outcome) → o ≡ out.Spent → Ends rows limit es G o → IsSpent rows limit es
at_spent rows limit es G o e h = subst (Ends rows limit es G) e h

pub at_exceeds : (rows : List Row) (limit : ℕ) (es : List Entry) (G : Type 0) (o : Outcome) (i j : ℕ) → o ≡ out.Exceeds i j → Ends rows limit es G o → IsUnderWay rows limit es × AreExceedingRows (in_force rows es) i j × AreDivided (in_force rows es)
at_exceeds rows limit es G o i j e h = subst (Ends rows limit es G) e h

-- the number of a row in force is below 2^32
pub small_number : (rows : List CodeRow) (limit : ℕ) (ms : List Made) (i : ℕ) (r : Row) → IsUnderWay (given rows) limit (entries_of ms) → slice_get (force rows ms) i ≡ Some r → i < 2 ^ 32
small_number rows limit ms i r w e =
    let a = slice_get_within (force rows ms) i r e in
    let b = length_force rows ms in
    let c = room rows limit ms w in
    omega (arith, a, b, c)

pub at_all : (rows : List Row) (cs : List ℕ) (p : Placing) (ps : Vec Place) → p ≡ pl.All ps → Places rows cs p → ArePlaced rows cs ps.items
at_all rows cs p ps e h = subst (Places rows cs) e h

pub at_stop : (rows : List Row) (cs : List ℕ) (p : Placing) (i : ℕ) (ps : Vec Place) → p ≡ pl.Exceeds i ps → Places rows cs p → StopsAt rows cs i ps.items
at_stop rows cs p i ps e h = subst (Places rows cs) e h

-- ---- answers put together

pub point_answers : {E : Type 0} (r : Result Eliminated E) (rows : List Row) (es : List Entry) (ps : List Placed) → IfOk r (λ a. IsPointBy es ps a) → IsPoint rows es ps → IfOk r (λ a. (limit : ℕ) → IsAnswer rows limit a)
point_answers (Err e) rows es ps h p = tt
point_answers (Ok (an.Point fs qs)) rows es ps h p = λ limit. subst (λ z. IsPoint rows z (map placed_by qs)) (sym h.0) (subst (IsPoint rows es) (sym h.1) p)
point_answers (Ok (an.Contradiction fs)) rows es ps h p = absurd h
point_answers (Ok (an.Excess fs x)) rows es ps h p = absurd h
point_answers (Ok (an.Spent fs)) rows es ps h p = absurd h

pub value_answers : {E : Type 0} (r : Result Eliminated E) (rows : List Row) (es : List Entry) (i : ℕ) (ps : List Placed) → IfOk r (λ a. IsValueBy es i ps a) → IsExcess rows es → IsExceedingValue rows es i ps → IfOk r (λ a. (limit : ℕ) → IsAnswer rows limit a)
value_answers (Err e) rows es i ps h x v = tt
value_answers (Ok (an.Excess fs (ex.Value j qs))) rows es i ps h x v = λ limit. (
  subst (IsExcess rows) (sym h.0) x,
  subst (λ z. IsExceedingValue rows z j (map placed_by qs)) (sym h.0) (subst (λ z. IsExceedingValue rows es z (map placed_by qs)) (sym h.1) (subst (IsExceedingValue rows es i) (sym h.2) v)),
)
value_answers (Ok (an.Excess fs (ex.Rows j k))) rows es i ps h x v = absurd h
value_answers (Ok (an.Excess fs (ex.Literal t))) rows es i ps h x v = absurd h
value_answers (Ok (an.Excess fs (ex.Form t))) rows es i ps h x v = absurd h
value_answers (Ok (an.Excess fs (ex.Term t qs))) rows es i ps h x v = absurd h
value_answers (Ok (an.Contradiction fs)) rows es i ps h x v = absurd h
value_answers (Ok (an.Point fs qs)) rows es i ps h x v = absurd h
value_answers (Ok (an.Spent fs)) rows es i ps h x v = absurd h

pub stop_answers : {E : Type 0} (r : Result Eliminated E) (rows : List Row) (limit : ℕ) (es : List Entry) (G : Type 0) (o : Outcome) → (o ≡ out.On → ⊥) → IfOk r (λ a. StopsWith es o a) → Ends rows limit es G o → IfOk r (λ a. IsAnswer rows limit a)
stop_answers (Err e) rows limit es G o n h d = tt
stop_answers (Ok a) rows limit es G o n h d = go o a n h d
  where
    go : (o : Outcome) (a : Eliminated) → (o ≡ out.On → ⊥) → StopsWith es o a → Ends rows limit es G o → IsAnswer rows limit a
    go out.On a n h d = absurd (n refl)
    go out.Contradiction (an.Contradiction fs) n h d = subst (IsContradiction rows) (sym h) d
    go out.Contradiction (an.Point fs qs) n h d = absurd h
    go out.Contradiction (an.Excess fs x) n h d = absurd h
    go out.Contradiction (an.Spent fs) n h d = absurd h
    go out.Spent (an.Spent fs) n h d = subst (IsSpent rows limit) (sym h) d
    go out.Spent (an.Contradiction fs) n h d = absurd h
    go out.Spent (an.Point fs qs) n h d = absurd h
    go out.Spent (an.Excess fs x) n h d = absurd h
    go (out.Exceeds i j) (an.Excess fs (ex.Rows k l)) n h d = (
      subst (IsExcess rows) (sym h.0) (is_excess rows limit es d.0 d.2),
      subst (λ z. AreExceedingRows (in_force rows z) k l) (sym h.0) (subst (λ z. AreExceedingRows (in_force rows es) z l) (sym h.1) (subst (AreExceedingRows (in_force rows es) i) (sym h.2) d.1)),
    )
    go (out.Exceeds i j) (an.Excess fs (ex.Value k qs)) n h d = absurd h
    go (out.Exceeds i j) (an.Excess fs (ex.Literal t)) n h d = absurd h
    go (out.Exceeds i j) (an.Excess fs (ex.Form t)) n h d = absurd h
    go (out.Exceeds i j) (an.Excess fs (ex.Term t qs)) n h d = absurd h
    go (out.Exceeds i j) (an.Contradiction fs) n h d = absurd h
    go (out.Exceeds i j) (an.Point fs qs) n h d = absurd h
    go (out.Exceeds i j) (an.Spent fs) n h d = absurd h

pub small_outcome : (rows : List CodeRow) (limit : ℕ) (ms : List Made) (G : Type 0) (o : Outcome) → Ends (given rows) limit (entries_of ms) G o → AreSmall o
small_outcome rows limit ms G out.On d = tt
small_outcome rows limit ms G out.Contradiction d = tt
small_outcome rows limit ms G out.Spent d = tt
small_outcome rows limit ms G (out.Exceeds i j) d = (small_number rows limit ms i d.1.first d.0 d.1.is_first, small_number rows limit ms j d.1.second d.0 d.1.is_second)

map_more : {A B : Type 0} (f : A → B) (xs : List A) (i : ℕ) (d : A) → i < length xs → map f (take (i + 1) xs) ≡ map f (take i xs) ++ f (get_or xs i d) ∷ []
map_more f [] i d l = absurd (omega (arith, l))
map_more f (x ∷ xs) zero d l = refl
map_more f (x ∷ xs) (suc i) d l = ap (λ n. map f (take n (x ∷ xs))) (shifted i) ∙ ap (λ z. f x ∷ z) (map_more f xs i d (omega (arith, l)))
  where
    shifted : (i : ℕ) → suc i + 1 ≡ suc (i + 1)
    shifted i = omega arith

pub listed_more : (list new : List (TermId × ℤ × ℤ)) (places : List Place) (i : ℕ) (d : Place) (t : TermId × ℤ × ℤ) → map placed_by list ≡ map placed (take i places) → new ≡ list ++ t ∷ [] → i < length places
    → d ≡ get_or places i d → placed_by t ≡ placed d → map placed_by new ≡ map placed (take (i + 1) places)
listed_more list new places i d t h n l g e =
    ap (map placed_by) n ∙ (map-append placed_by list (t ∷ []) ∙ (ap₂ (λ x y. x ++ y ∷ []) h (e ∙ ap placed g) ∙ sym (map_more placed places i d l)))

pub listed_all : (list : List (TermId × ℤ × ℤ)) (places : List Place) (i : ℕ) → map placed_by list ≡ map placed (take i places) → length places ≤ i → map placed_by list ≡ map placed places
listed_all list places i h l = h ∙ ap (map placed) (take_all places i l)
