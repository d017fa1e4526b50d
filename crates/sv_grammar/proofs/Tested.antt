-- What the tests of alternatives say of the lists that they derive.
use Rattle.std.proofs.Common.{◌≡◌, ℕ, zero, suc, Bool, true, false, not, ◌&&◌, ◌||◌, List, [], ◌∷◌, ◌++◌, refl, sym, ap, ◌∙◌, ◌⊎◌, inl, inr, append_assoc}
use Rattle.sv_grammar.specs.Grammar.{Token, Part, side, Tree, left, right, none, some, nil, cons, pair, Derives, nothing_is, word_is, text_is, seq_is, left_is, right_is, none_is, some_is, nil_is, cons_is, one_is, other_is, side_is, elem}
use Rattle.sv_grammar.specs.Reading.{implies, subset, disjoint, nullable, first, chars}
use Rattle.sv_grammar.proofs.Sets.{and_true, and_both, or_true, or_left, or_right, implied, elem-subset, elem-disjoint, Cut, same, further, nearer, cut, begins_in, lies_in, not_empty, empty_two}
use Rattle.sv_grammar.proofs.Theory.{Checked, head_class, nullable_if, first_if, chars_if}
use Rattle.sv_grammar.proofs.Exactly.{DerivesSome, of_side}
use Rattle.sv_grammar.proofs.Tests.{filled, front, through, front_through, ends, keyed, single, seconds}

-- ---- looking through sides: the same lists, by other trees

module _ {S : Type 0} {rules : S → Part S} where
  filled_has : (r : S → Part S) → ((s : S) (xs : List Token) (t : Tree) → Derives rules (side s) xs t → DerivesSome rules (r s) xs) → {a : Part S} {xs : List Token} {t : Tree} → Derives rules a xs t → DerivesSome rules (filled r a) xs
  filled_has r has nothing_is = (_, nothing_is)
  filled_has r has (word_is h) = (_, word_is h)
  filled_has r has (text_is h) = (_, text_is h)
  filled_has r has (seq_is d k) = let p = filled_has r has d in let q = filled_has r has k in (pair p.0 q.0, seq_is p.1 q.1)
  filled_has r has (left_is d) = let p = filled_has r has d in (left p.0, left_is p.1)
  filled_has r has (right_is d) = let p = filled_has r has d in (right p.0, right_is p.1)
  filled_has r has none_is = (none, none_is)
  filled_has r has (some_is d) = let p = filled_has r has d in (some p.0, some_is p.1)
  filled_has r has nil_is = (nil, nil_is)
  filled_has r has (cons_is d k) = let p = filled_has r has d in let q = filled_has r has k in (cons p.0 q.0, cons_is p.1 q.1)
  filled_has r has (one_is d) = let p = filled_has r has d in (left p.0, one_is p.1)
  filled_has r has (other_is d) = let p = filled_has r has d in (right p.0, other_is p.1)
  filled_has r has (side_is {s} {xs} d) = has s xs _ (side_is d)

  pub through_has : (m : ℕ) (s : S) (xs : List Token) (t : Tree) → Derives rules (side s) xs t → DerivesSome rules (through rules m s) xs
  through_has zero s xs t d = (t, d)
  through_has (suc m) s xs t d = filled_has (through rules m) (through_has m) (of_side rules d).1

  front_rest : (v : Bool) (a b : Part S) {xs : List Token} → DerivesSome rules a xs → DerivesSome rules b xs → DerivesSome rules (elim v [ true ↦ a | false ↦ b ]) xs
  front_rest true a b p q = p
  front_rest false a b p q = q

  front_has : (empty : S → Bool) (r : S → Part S) → ((s : S) (xs : List Token) (t : Tree) → Derives rules (side s) xs t → DerivesSome rules (r s) xs) → {a : Part S} {xs : List Token} {t : Tree} → Derives rules a xs t → DerivesSome rules (front empty r a) xs
  front_has empty r has nothing_is = (_, nothing_is)
  front_has empty r has (word_is h) = (_, word_is h)
  front_has empty r has (text_is h) = (_, text_is h)
  front_has empty r has (seq_is {a} {b} {u} d k) =
      let p = front_has empty r has d in
      let q = front_rest (nullable empty a) (front empty r b) b (front_has empty r has k) (u, k) in
      (pair p.0 q.0, seq_is p.1 q.1)
  front_has empty r has (left_is d) = let p = front_has empty r has d in (left p.0, left_is p.1)
  front_has empty r has (right_is d) = let p = front_has empty r has d in (right p.0, right_is p.1)
  front_has empty r has none_is = (none, none_is)
  front_has empty r has (some_is d) = let p = front_has empty r has d in (some p.0, some_is p.1)
  front_has empty r has nil_is = (nil, nil_is)
  front_has empty r has (cons_is d k) = let p = front_has empty r has d in let q = front_has empty r has k in (cons p.0 q.0, cons_is p.1 q.1)
  front_has empty r has (one_is d) = let p = front_has empty r has d in (left p.0, one_is p.1)
  front_has empty r has (other_is d) = let p = front_has empty r has d in (right p.0, other_is p.1)
  front_has empty r has (side_is {s} {xs} d) = has s xs _ (side_is d)

  pub front_through_has : (empty : S → Bool) (m : ℕ) (s : S) (xs : List Token) (t : Tree) → Derives rules (side s) xs t → DerivesSome rules (front_through rules empty m s) xs
  front_through_has empty zero s xs t d = (t, d)
  front_through_has empty (suc m) s xs t d = front_has empty (front_through rules empty m) (front_through_has empty m) (of_side rules d).1

  pub looks_through : (m : ℕ) (a : Part S) {xs : List Token} {t : Tree} → Derives rules a xs t → DerivesSome rules (filled (through rules m) a) xs
  looks_through m a d = filled_has (through rules m) (through_has m) d

  pub looks_in_front : (empty : S → Bool) (m : ℕ) (a : Part S) {xs : List Token} {t : Tree} → Derives rules a xs t → DerivesSome rules (front empty (front_through rules empty m) a) xs
  looks_in_front empty m a d = front_has empty (front_through rules empty m) (front_through_has empty m) d

-- ---- lists without some classes

-- no token has one of the classes
pub record Free (ks : List ℕ) (xs : List Token) : Type 0 where
  pub holds : (u : List Token) (y : Token) (w : List Token) → xs ≡ u ++ y ∷ w → elem y.class ks ≡ true → ⊥

free_nil : (ks : List ℕ) → Free ks []
free_nil ks = record { holds = λ u y w e h. not_empty u y w e }

free_one : (ks cs : List ℕ) (k : Token) → elem k.class cs ≡ true → disjoint cs ks ≡ true → Free ks (k ∷ [])
free_one ks cs k h d = record { holds = at }
  where
    at : (u : List Token) (y : Token) (w : List Token) → k ∷ [] ≡ u ++ y ∷ w → elem y.class ks ≡ true → ⊥
    at [] y w e g = let same_k : k ≡ y = cc in elem-disjoint k.class cs ks d h (ap (λ z. elem z.class ks) same_k ∙ g)
    at (x ∷ u) y w e g = not_empty u y w (cc)

free_two : {ks : List ℕ} {xs ys : List Token} → Free ks xs → Free ks ys → Free ks (xs ++ ys)
free_two {ks} {xs} {ys} p q = record { holds = λ u y w e h. elim (lies_in xs ys u y w e) [ inl n ↦ p.holds u y n.0 n.1 h | inr n ↦ q.holds n.0 y w n.1 h ] }

-- ends with a token of one of the classes, and has such a token nowhere else
pub record Ended (ks : List ℕ) (xs : List Token) : Type 0 where
  pub body : List Token
  pub last : Token
  pub whole : xs ≡ body ++ last ∷ []
  pub within : elem last.class ks ≡ true
  pub free : Free ks body

-- has a token of a class in ks, and before it none of a class in ms
pub record Keyed (ks ms : List ℕ) (xs : List Token) : Type 0 where
  pub before : List Token
  pub key : Token
  pub behind : List Token
  pub whole : xs ≡ before ++ key ∷ behind
  pub within : elem key.class ks ≡ true
  pub free : Free ms before

-- a list that ends so is no beginning of another
pub ended_apart : {ks : List ℕ} {xs ys : List Token} → Ended ks xs → Ended ks ys → (y : Token) (w : List Token) → ys ≡ xs ++ y ∷ w → ⊥
ended_apart {ks} {xs} {ys} p q y w e = by_cut (cut q.body (q.last ∷ []) p.body (p.last ∷ y ∷ w) (sym q.whole ∙ e ∙ ap (λ v. v ++ y ∷ w) p.whole ∙ append_assoc p.body (p.last ∷ []) (y ∷ w)))
  where
    by_cut : Cut q.body (q.last ∷ []) p.body (p.last ∷ y ∷ w) → ⊥
    by_cut (same g h) = cc
    by_cut (further z m g h) = not_empty m p.last (y ∷ w) (cc)
    by_cut (nearer z m g h) = let same_k : p.last ≡ z = cc in q.free.holds p.body z m g (ap (λ k. elem k.class ks) (sym same_k) ∙ p.within)

-- two lists with keys do not begin alike up to the end of one
pub keyed_apart : {ka kb : List ℕ} {xs ys : List Token} → disjoint ka kb ≡ true → Keyed ka kb xs → Keyed kb ka ys → (v w : List Token) → xs ++ v ≡ ys ++ w → ⊥
keyed_apart {ka} {kb} {xs} {ys} d p q v w e =
    by_cut (cut p.before (p.key ∷ (p.behind ++ v)) q.before (q.key ∷ (q.behind ++ w))
    (sym (append_assoc p.before (p.key ∷ p.behind) v) ∙ ap (λ u. u ++ v) (sym p.whole) ∙ e ∙ ap (λ u. u ++ w) q.whole ∙ append_assoc q.before (q.key ∷ q.behind) w))
  where
    by_cut : Cut p.before (p.key ∷ (p.behind ++ v)) q.before (q.key ∷ (q.behind ++ w)) → ⊥
    by_cut (same g h) = let same_k : p.key ≡ q.key = cc in elem-disjoint p.key.class ka kb d p.within (ap (λ k. elem k.class kb) same_k ∙ q.within)
    by_cut (further z m g h) = let same_k : p.key ≡ z = cc in q.free.holds p.before z m g (ap (λ k. elem k.class ka) (sym same_k) ∙ p.within)
    by_cut (nearer z m g h) = let same_k : q.key ≡ z = cc in p.free.holds q.before z m g (ap (λ k. elem k.class kb) (sym same_k) ∙ q.within)

keyed_left : {ks ms : List ℕ} {xs : List Token} (ys : List Token) → Keyed ks ms xs → Keyed ks ms (xs ++ ys)
keyed_left ys p = record { before = p.before; key = p.key; behind = p.behind ++ ys; whole = ap (λ u. u ++ ys) p.whole ∙ append_assoc p.before (p.key ∷ p.behind) ys; within = p.within; free = p.free }

keyed_right : {ks ms : List ℕ} (xs : List Token) {ys : List Token} → Free ms xs → Keyed ks ms ys → Keyed ks ms (xs ++ ys)
keyed_right xs f p = record { before = xs ++ p.before; key = p.key; behind = p.behind; whole = ap (λ u. xs ++ u) p.whole ∙ sym (append_assoc xs p.before (p.key ∷ p.behind)); within = p.within; free = free_two f p.free }

abbrev pub KeyedIf : List ℕ → List ℕ → List Token → Bool → Type 0
KeyedIf ks ms xs must = Keyed ks ms xs ⊎ ((must ≡ false) × Free ms xs)

not_false : (b : Bool) → not b ≡ true → b ≡ false
not_false true h = cc
not_false false h = refl

-- what is keyed or free is that also where it need not be keyed
keyed_loosely : {ks ms : List ℕ} {xs : List Token} (must : Bool) → not must ≡ true → KeyedIf ks ms xs false → KeyedIf ks ms xs must
keyed_loosely must n (inl p) = inl p
keyed_loosely must n (inr p) = inr (not_false must n, p.1)

-- of two lists in a row
keyed_two : {ks ms : List ℕ} {xs ys : List Token} (must : Bool) → KeyedIf ks ms xs false → KeyedIf ks ms ys must → KeyedIf ks ms (xs ++ ys) must
keyed_two {xs} {ys} must (inl p) q = inl (keyed_left ys p)
keyed_two {xs} {ys} must (inr p) (inl q) = inl (keyed_right xs p.1 q)
keyed_two {xs} {ys} must (inr p) (inr q) = inr (q.0, free_two p.1 q.1)

keyed_surely : {ks ms : List ℕ} {xs : List Token} (ys : List Token) (must : Bool) → KeyedIf ks ms xs true → KeyedIf ks ms (xs ++ ys) must
keyed_surely ys must (inl p) = inl (keyed_left ys p)
keyed_surely ys must (inr p) = cc p.0

not_disjoint : (n : ℕ) (xs ys : List ℕ) → elem n xs ≡ true → elem n ys ≡ true → not (disjoint xs ys) ≡ true
not_disjoint n xs ys h k = by_test (disjoint xs ys) (λ d. elem-disjoint n xs ys d h k)
  where
    by_test : (v : Bool) → (v ≡ true → ⊥) → not v ≡ true
    by_test true g = absurd (g refl)
    by_test false g = refl

module _ {S : Type 0} {rules : S → Part S} {empty : S → Bool} {f c l : S → List ℕ} (ok : Checked rules empty f c l) where
  free_if : {a : Part S} {xs : List Token} {t : Tree} (ks : List ℕ) → disjoint (chars l a) ks ≡ true → Derives rules a xs t → Free ks xs
  free_if {a} ks h d = record { holds = λ u y w e g. elem-disjoint y.class (chars l a) ks h (chars_if ok d u y w e) g }

  word_ended : (ks cs : List ℕ) (k : Token) → elem k.class cs ≡ true → subset cs ks ≡ true → Ended ks (k ∷ [])
  word_ended ks cs k h s = record { body = []; last = k; whole = refl; within = elem-subset k.class cs ks s h; free = free_nil ks }

  pub ended_if : {a : Part S} {xs : List Token} {t : Tree} (ks : List ℕ) → Derives rules a xs t → ends l ks a ≡ true → Ended ks xs
  ended_if ks nothing_is h = cc
  ended_if ks (word_is {cs} {k} e) h = word_ended ks cs k e h
  ended_if ks (text_is {cs} {k} e) h = word_ended ks cs k e h
  ended_if ks (seq_is {a} {b} {xs} d k) h =
      let p = and_true (disjoint (chars l a) ks) (ends l ks b) h in
      let q = ended_if ks k p.1 in
      record { body = xs ++ q.body; last = q.last; whole = ap (λ u. xs ++ u) q.whole ∙ sym (append_assoc xs q.body (q.last ∷ [])); within = q.within; free = free_two (free_if ks p.0 d) q.free }
  ended_if ks (left_is {a} {b} d) h = ended_if ks d (and_true (ends l ks a) (ends l ks b) h).0
  ended_if ks (right_is {a} {b} d) h = ended_if ks d (and_true (ends l ks a) (ends l ks b) h).1
  ended_if ks none_is h = cc
  ended_if ks (some_is d) h = cc
  ended_if ks nil_is h = cc
  ended_if ks (cons_is d k) h = cc
  ended_if ks (one_is {a} {b} d) h = ended_if ks d (and_true (ends l ks a) (ends l ks b) h).0
  ended_if ks (other_is {a} {b} d) h = ended_if ks d (and_true (ends l ks a) (ends l ks b) h).1
  ended_if ks (side_is d) h = cc

  word_keyed : (ks ms cs : List ℕ) (k : Token) (must : Bool) → elem k.class cs ≡ true → (subset cs ks || (not must && disjoint cs ms)) ≡ true → KeyedIf ks ms (k ∷ []) must
  word_keyed ks ms cs k must e h = elim (or_true (subset cs ks) (not must && disjoint cs ms) h) [
    | inl s ↦ inl (record { before = []; key = k; behind = []; whole = refl; within = elem-subset k.class cs ks s e; free = free_nil ms })
    | inr s ↦ (let p = and_true (not must) (disjoint cs ms) s in inr (not_false must p.0, free_one ms cs k e p.1))
  ]

  pub keyed_if : {a : Part S} {xs : List Token} {t : Tree} (ks ms : List ℕ) → Derives rules a xs t → (must : Bool) → keyed l ks ms a must ≡ true → KeyedIf ks ms xs must
  keyed_if ks ms nothing_is must h = inr (not_false must h, free_nil ms)
  keyed_if ks ms (word_is {cs} {k} e) must h = word_keyed ks ms cs k must e h
  keyed_if ks ms (text_is {cs} {k} e) must h = word_keyed ks ms cs k must e h
  keyed_if ks ms (seq_is {a} {b} {xs} {ys} d k) must h = elim (or_true (keyed l ks ms a true) (keyed l ks ms a false && keyed l ks ms b must) h) [
    | inl e ↦ keyed_surely ys must (keyed_if ks ms d true e)
    | inr e ↦ (let p = and_true (keyed l ks ms a false) (keyed l ks ms b must) e in keyed_two must (keyed_if ks ms d false p.0) (keyed_if ks ms k must p.1))
  ]
  keyed_if ks ms (left_is {a} {b} d) must h = keyed_if ks ms d must (and_true (keyed l ks ms a must) (keyed l ks ms b must) h).0
  keyed_if ks ms (right_is {a} {b} d) must h = keyed_if ks ms d must (and_true (keyed l ks ms a must) (keyed l ks ms b must) h).1
  keyed_if ks ms (none_is {a}) must h = inr (not_false must (and_true (not must) (keyed l ks ms a false) h).0, free_nil ms)
  keyed_if ks ms (some_is {a} d) must h = let p = and_true (not must) (keyed l ks ms a false) h in keyed_loosely must p.0 (keyed_if ks ms d false p.1)
  keyed_if ks ms (nil_is {a}) must h = inr (not_false must (and_true (not must) (keyed l ks ms a false) h).0, free_nil ms)
  keyed_if ks ms (cons_is {a} d k) must h = let p = and_true (not must) (keyed l ks ms a false) h in keyed_two must (keyed_if ks ms d false p.1) (keyed_if ks ms k must h)
  keyed_if ks ms (one_is {a} {b} d) must h = keyed_if ks ms d must (and_true (keyed l ks ms a must) (keyed l ks ms b must) h).0
  keyed_if ks ms (other_is {a} {b} d) must h = keyed_if ks ms d must (and_true (keyed l ks ms a must) (keyed l ks ms b must) h).1
  keyed_if ks ms (side_is {s} d) must h = let p = and_true (not must) (disjoint (l s) ms) h in inr (not_false must p.0, free_if ms p.1 (side_is d))

  word_single : (cs ks : List ℕ) (k j : Token) → elem k.class ks ≡ true → k ∷ [] ≡ j ∷ [] → elem j.class cs ≡ true → not (disjoint ks cs) ≡ true
  word_single cs ks k j h e g = not_disjoint j.class ks cs (ap (λ n. elem n ks) (sym (head_class k j [] e)) ∙ h) g

  pub single_if : {a : Part S} {xs : List Token} {t : Tree} (cs : List ℕ) → Derives rules a xs t → (k : Token) → xs ≡ k ∷ [] → elem k.class cs ≡ true → single empty f cs a ≡ true
  single_if cs nothing_is k e h = cc
  single_if cs (word_is {cs = ks} {k = j} g) k e h = word_single cs ks j k g e h
  single_if cs (text_is {cs = ks} {k = j} g) k e h = word_single cs ks j k g e h
  single_if cs (seq_is {a} {b} {xs} {ys} d q) k e h = elim (begins_in xs ys k [] e) [
    | inl n ↦ (let two = empty_two n.0 ys (cc n.1) in let alone : xs ≡ k ∷ [] = n.1 ∙ ap (λ w. k ∷ w) two.0 in
        or_left (single empty f cs a && nullable empty b) (nullable empty a && single empty f cs b) (and_both (single empty f cs a) (nullable empty b) (single_if cs d k alone h) (nullable_if ok q two.1)))
    | inr n ↦ or_right (single empty f cs a && nullable empty b) (nullable empty a && single empty f cs b) (and_both (nullable empty a) (single empty f cs b) (nullable_if ok d n.0) (single_if cs q k n.1 h))
  ]
  single_if cs (left_is {a} {b} d) k e h = or_left (single empty f cs a) (single empty f cs b) (single_if cs d k e h)
  single_if cs (right_is {a} {b} d) k e h = or_right (single empty f cs a) (single empty f cs b) (single_if cs d k e h)
  single_if cs none_is k e h = cc
  single_if cs (some_is d) k e h = single_if cs d k e h
  single_if cs nil_is k e h = cc
  single_if cs (cons_is {a} {xs} {ys} d q) k e h = elim (begins_in xs ys k [] e) [
    | inl n ↦ (let two = empty_two n.0 ys (cc n.1) in let alone : xs ≡ k ∷ [] = n.1 ∙ ap (λ w. k ∷ w) two.0 in single_if cs d k alone h)
    | inr n ↦ single_if cs q k n.1 h
  ]
  single_if cs (one_is {a} {b} d) k e h = or_left (single empty f cs a) (single empty f cs b) (single_if cs d k e h)
  single_if cs (other_is {a} {b} d) k e h = or_right (single empty f cs a) (single empty f cs b) (single_if cs d k e h)
  single_if cs (side_is {s} d) k e h = not_disjoint k.class (f s) cs (first_if ok (side_is d) k [] e) h

  module _ (P : ℕ → Type 0) (good : List ℕ → Bool) (sure : (ks : List ℕ) (n : ℕ) → good ks ≡ true → elem n ks ≡ true → P n) (cs : List ℕ) where
    -- of two lists in a row
    seconds_two : (xs ys : List Token) (k j : Token) (w : List Token) (of : List ℕ) → xs ++ ys ≡ k ∷ j ∷ w
        → ((v : List Token) → xs ≡ k ∷ j ∷ v → P j.class) → (xs ≡ k ∷ [] → good of ≡ true) → (ys ≡ j ∷ w → elem j.class of ≡ true) → (xs ≡ [] → ys ≡ k ∷ j ∷ w → P j.class) → P j.class
    seconds_two [] ys k j w of e in_first alone begins in_second = in_second refl e
    seconds_two (x ∷ []) ys k j w of e in_first alone begins in_second = let same_k : x ≡ k = cc in sure of j.class (alone (ap (λ z. z ∷ []) same_k)) (begins (cc))
    seconds_two (x ∷ y ∷ v) ys k j w of e in_first alone begins in_second = in_first v (cc)

    pub seconds_if : {a : Part S} {xs : List Token} {t : Tree} → Derives rules a xs t → (k j : Token) (w : List Token) → xs ≡ k ∷ j ∷ w → elem k.class cs ≡ true → seconds empty f cs good a ≡ true → P j.class
    seconds_if nothing_is k j w e h s = cc
    seconds_if (word_is g) k j w e h s = cc
    seconds_if (text_is g) k j w e h s = cc
    seconds_if (seq_is {a} {b} {xs} {ys} d q) k j w e h s =
        let p = and_true (seconds empty f cs good a) _ s in
        let r = and_true (implies (single empty f cs a) (good (first empty f b))) (implies (nullable empty a) (seconds empty f cs good b)) p.1 in
        seconds_two xs ys k j w (first empty f b) e
        (λ v n. seconds_if d k j v n h p.0)
        (λ n. implied (single empty f cs a) (good (first empty f b)) r.0 (single_if cs d k n h))
        (λ n. first_if ok q j w n)
        (λ m n. seconds_if q k j w n h (implied (nullable empty a) (seconds empty f cs good b) r.1 (nullable_if ok d m)))
    seconds_if (left_is {a} {b} d) k j w e h s = seconds_if d k j w e h (and_true (seconds empty f cs good a) (seconds empty f cs good b) s).0
    seconds_if (right_is {a} {b} d) k j w e h s = seconds_if d k j w e h (and_true (seconds empty f cs good a) (seconds empty f cs good b) s).1
    seconds_if none_is k j w e h s = cc
    seconds_if (some_is d) k j w e h s = seconds_if d k j w e h s
    seconds_if nil_is k j w e h s = cc
    seconds_if (cons_is {a} {xs} {ys} d q) k j w e h s =
        let p = and_true (seconds empty f cs good a) (implies (single empty f cs a) (good (first empty f a))) s in
        seconds_two xs ys k j w (first empty f a) e
        (λ v n. seconds_if d k j v n h p.0)
        (λ n. implied (single empty f cs a) (good (first empty f a)) p.1 (single_if cs d k n h))
        (λ n. first_if ok q j w n)
        (λ m n. seconds_if q k j w n h s)
    seconds_if (one_is {a} {b} d) k j w e h s = seconds_if d k j w e h (and_true (seconds empty f cs good a) (seconds empty f cs good b) s).0
    seconds_if (other_is {a} {b} d) k j w e h s = seconds_if d k j w e h (and_true (seconds empty f cs good a) (seconds empty f cs good b) s).1
    seconds_if (side_is {s = s₁} d) k j w e h s = absurd (elem-disjoint k.class (f s₁) cs s (first_if ok (side_is d) k (j ∷ w) e) h)
