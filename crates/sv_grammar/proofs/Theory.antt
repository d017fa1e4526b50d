-- The tables of a checked grammar are right from above, and where one list goes on past another.
use Rattle.std.proofs.Common.{◌≡◌, ℕ, Bool, true, not, ◌&&◌, cond, List, [], ◌∷◌, ◌++◌, refl, sym, ap, ◌∙◌, ◌⊎◌, inl, inr, append_assoc}
use Rattle.std.proofs.lemmas.List.{append-nil}
use Rattle.sv_grammar.specs.Grammar.{Token, Part, nothing, word, text, seq, alt, opt, star, both, side, Tree, Derives, nothing_is, word_is, text_is, seq_is, left_is, right_is, none_is, some_is, nil_is, cons_is, one_is, other_is, side_is, elem}
use Rattle.sv_grammar.specs.Reading.{nullable, first, chars, cont, fine, subset, disjoint, implies, Apart, forks, OfEach, AllApart}
use Rattle.sv_grammar.proofs.Sets.{and_true, or_left, or_right, not_true, and_both, implied, elem-left, elem-right, elem-subset, elem-disjoint, each_left, each_right, Cut, same, further, nearer, cut, begins_in, lies_in, not_empty, empty_two}

-- the tables of a grammar are closed, and a token ahead tells what to do
pub record Checked {S : Type 0} (rules : S → Part S) (empty : S → Bool) (f c l : S → List ℕ) : Type 0 where
  pub firsts : (s : S) → subset (first empty f (rules s)) (f s) ≡ true
  pub conts : (s : S) → subset (cont empty f c (rules s)) (c s) ≡ true
  pub all_chars : (s : S) → subset (chars l (rules s)) (l s) ≡ true
  pub nulls : (s : S) → implies (nullable empty (rules s)) (empty s) ≡ true
  pub all_fine : (s : S) → fine empty f c (rules s) ≡ true

alone : (k : Token) (u : List Token) (y : Token) (w : List Token) → k ∷ [] ≡ u ++ y ∷ w → k.class ≡ y.class
alone k [] y w e = let same_k : k ≡ y = cc in ap (λ k. k.class) same_k
alone k (x ∷ u) y w e = absurd (not_empty u y w (cc))

pub elem_along : {m n : ℕ} (cs : List ℕ) → m ≡ n → elem m cs ≡ true → elem n cs ≡ true
elem_along cs e h = ap (λ k. elem k cs) (sym e) ∙ h

pub head_class : (k y : Token) (w : List Token) → k ∷ [] ≡ y ∷ w → k.class ≡ y.class
head_class k y w e = let same_k : k ≡ y = cc in ap (λ k. k.class) same_k

pub apart_left : {S : Type 0} (rules : S → Part S) (a b : Part S) → OfEach (λ k. Apart rules k.classes k.one k.other) (forks a ++ forks b) → AllApart rules a
apart_left rules a b r = each_left (λ k. Apart rules k.classes k.one k.other) (forks a) (forks b) r

pub apart_right : {S : Type 0} (rules : S → Part S) (a b : Part S) → OfEach (λ k. Apart rules k.classes k.one k.other) (forks a ++ forks b) → AllApart rules b
apart_right rules a b r = each_right (λ k. Apart rules k.classes k.one k.other) (forks a) (forks b) r

module _ {S : Type 0} {rules : S → Part S} {empty : S → Bool} {f c l : S → List ℕ} (ok : Checked rules empty f c l) where
  pub nullable_if : {a : Part S} {xs : List Token} {t : Tree} → Derives rules a xs t → xs ≡ [] → nullable empty a ≡ true
  nullable_if nothing_is e = refl
  nullable_if (word_is h) e = cc
  nullable_if (text_is h) e = cc
  nullable_if (seq_is {a} {b} {xs} {ys} d k) e = let two = empty_two xs ys e in let p = nullable_if d two.0 in let q = nullable_if k two.1 in and_both (nullable empty a) (nullable empty b) p q
  nullable_if (left_is {a} {b} d) e = or_left (nullable empty a) (nullable empty b) (nullable_if d e)
  nullable_if (right_is {a} {b} d) e = or_right (nullable empty a) (nullable empty b) (nullable_if d e)
  nullable_if none_is e = refl
  nullable_if (some_is d) e = refl
  nullable_if nil_is e = refl
  nullable_if (cons_is d k) e = refl
  nullable_if (one_is {a} {b} d) e = or_left (nullable empty a) (nullable empty b) (nullable_if d e)
  nullable_if (other_is {a} {b} d) e = or_right (nullable empty a) (nullable empty b) (nullable_if d e)
  nullable_if (side_is {s} d) e = implied (nullable empty (rules s)) (empty s) (ok.nulls s) (nullable_if d e)

  first_seq : (a b : Part S) (xs ys : List Token) (y : Token) (w : List Token) → xs ++ ys ≡ y ∷ w → (xs ≡ [] → nullable empty a ≡ true)
      → ((v : List Token) → xs ≡ y ∷ v → elem y.class (first empty f a) ≡ true) → (ys ≡ y ∷ w → elem y.class (first empty f b) ≡ true)
      → elem y.class (first empty f (seq a b)) ≡ true
  first_seq a b xs ys y w e none_a in_a in_b = elim (begins_in xs ys y w e) [
    | inl h ↦ elem-left y.class (first empty f a) (cond (nullable empty a) (first empty f b) []) (in_a h.0 h.1)
    | inr h ↦ elem-right y.class (first empty f a) (cond (nullable empty a) (first empty f b) []) (rw (none_a h.0) (in_b h.1))
  ]

  pub first_if : {a : Part S} {xs : List Token} {t : Tree} → Derives rules a xs t → (y : Token) (w : List Token) → xs ≡ y ∷ w → elem y.class (first empty f a) ≡ true
  first_if nothing_is y w e = cc
  first_if (word_is {cs} {k} h) y w e = elem_along cs (head_class k y w e) h
  first_if (text_is {cs} {k} h) y w e = elem_along cs (head_class k y w e) h
  first_if (seq_is {a} {b} {xs} {ys} d k) y w e = first_seq a b xs ys y w e (nullable_if d) (first_if d y) (first_if k y w)
  first_if (left_is {a} {b} d) y w e = elem-left y.class (first empty f a) (first empty f b) (first_if d y w e)
  first_if (right_is {a} {b} d) y w e = elem-right y.class (first empty f a) (first empty f b) (first_if d y w e)
  first_if none_is y w e = cc
  first_if (some_is d) y w e = first_if d y w e
  first_if nil_is y w e = cc
  first_if (cons_is {a} {xs} {ys} d k) y w e = elim (begins_in xs ys y w e) [ inl h ↦ first_if d y h.0 h.1 | inr h ↦ first_if k y w h.1 ]
  first_if (one_is {a} {b} d) y w e = elem-left y.class (first empty f a) (first empty f b) (first_if d y w e)
  first_if (other_is {a} {b} d) y w e = elem-right y.class (first empty f a) (first empty f b) (first_if d y w e)
  first_if (side_is {s} d) y w e = elem-subset y.class (first empty f (rules s)) (f s) (ok.firsts s) (first_if d y w e)

  pub chars_if : {a : Part S} {xs : List Token} {t : Tree} → Derives rules a xs t → (u : List Token) (y : Token) (w : List Token) → xs ≡ u ++ y ∷ w → elem y.class (chars l a) ≡ true
  chars_if nothing_is u y w e = absurd (not_empty u y w e)
  chars_if (word_is {cs} {k} h) u y w e = elem_along cs (alone k u y w e) h
  chars_if (text_is {cs} {k} h) u y w e = elem_along cs (alone k u y w e) h
  chars_if (seq_is {a} {b} {xs} {ys} d k) u y w e = elim (lies_in xs ys u y w e) [
    | inl h ↦ elem-left y.class (chars l a) (chars l b) (chars_if d u y h.0 h.1)
    | inr h ↦ elem-right y.class (chars l a) (chars l b) (chars_if k h.0 y w h.1)
  ]
  chars_if (left_is {a} {b} d) u y w e = elem-left y.class (chars l a) (chars l b) (chars_if d u y w e)
  chars_if (right_is {a} {b} d) u y w e = elem-right y.class (chars l a) (chars l b) (chars_if d u y w e)
  chars_if none_is u y w e = absurd (not_empty u y w e)
  chars_if (some_is d) u y w e = chars_if d u y w e
  chars_if nil_is u y w e = absurd (not_empty u y w e)
  chars_if (cons_is {a} {xs} {ys} d k) u y w e = elim (lies_in xs ys u y w e) [
    | inl h ↦ chars_if d u y h.0 h.1
    | inr h ↦ chars_if k h.0 y w h.1
  ]
  chars_if (one_is {a} {b} d) u y w e = elem-left y.class (chars l a) (chars l b) (chars_if d u y w e)
  chars_if (other_is {a} {b} d) u y w e = elem-right y.class (chars l a) (chars l b) (chars_if d u y w e)
  chars_if (side_is {s} d) u y w e = elem-subset y.class (chars l (rules s)) (l s) (ok.all_chars s) (chars_if d u y w e)

  -- the second goes on where the first ends, with a token that the part may go on with
  abbrev pub Longer : Part S → List Token → List Token → Type 0
  Longer a xs ys = (y : Token) (w : List Token) → ys ≡ xs ++ y ∷ w → elem y.class (cont empty f c a) ≡ true

  abbrev Far : Part S → Part S → Token → Type 0
  Far a b y = (elem y.class (cont empty f c b) ≡ true) ⊎ ((nullable empty b ≡ true) × (elem y.class (cont empty f c a) ≡ true))

  -- two lists that two parts in a row derive
  seq_far : (a b : Part S) {xs₁ ys₁ xs₂ ys₂ : List Token} {u₁ u₂ : Tree}
      → disjoint (cont empty f c a) (first empty f b) ≡ true
      → Longer a xs₁ xs₂ → Longer a xs₂ xs₁ → Longer b ys₁ ys₂
      → Derives rules b ys₁ u₁ → Derives rules b ys₂ u₂
      → (y : Token) (w : List Token) → xs₂ ++ ys₂ ≡ (xs₁ ++ ys₁) ++ y ∷ w
      → Far a b y
  seq_far a b {xs₁} {ys₁} {xs₂} {ys₂} {u₁} {u₂} apart far_1 far_2 far_b d₁ d₂ y w e = by_cut (cut xs₂ ys₂ xs₁ (ys₁ ++ y ∷ w) (e ∙ append_assoc xs₁ ys₁ (y ∷ w)))
    where
      after_first : (ys : List Token) → Derives rules b ys u₁ → (z : Token) (m : List Token) → ys ++ y ∷ w ≡ z ∷ m → elem z.class (cont empty f c a) ≡ true → Far a b y
      after_first [] d z m g h = let same_z : y ≡ z = cc in inr (nullable_if d refl, ap (λ k. elem k.class (cont empty f c a)) same_z ∙ h)
      after_first (q ∷ qs) d z m g h = absurd (elem-disjoint z.class (cont empty f c a) (first empty f b) apart h (first_if d z qs (cc)))

      by_cut : Cut xs₂ ys₂ xs₁ (ys₁ ++ y ∷ w) → Far a b y
      by_cut (same g h) = inl (far_b y w h)
      by_cut (further z m g h) = absurd (elem-disjoint z.class (cont empty f c a) (first empty f b) apart (far_2 z m g) (first_if d₂ z _ h))
      by_cut (nearer z m g h) = after_first ys₁ d₁ z (m ++ ys₂) h (far_1 z m g)

  abbrev pub Meets : Part S → List Token → List Token → Type 0
  Meets a xs ys = Longer a xs ys × Longer a ys xs

  nothing_longer : (a : Part S) (u : List Token) → Longer a u []
  nothing_longer a u y w e = absurd (not_empty u y w e)

  one_longer : (a : Part S) (j k : Token) → Longer a (j ∷ []) (k ∷ [])
  one_longer a j k y w e = cc

  -- two parts that begin with different tokens
  pub unlike : (a b : Part S) {xs ys : List Token} {t u : Tree} → disjoint (first empty f a) (first empty f b) ≡ true → not (nullable empty a) ≡ true → not (nullable empty b) ≡ true
      → Derives rules a xs t → Derives rules b ys u → (p q : List Token) → xs ++ p ≡ ys ++ q → ⊥
  unlike a b {xs} {ys} {t} {u} apart na nb d k p q e = heads xs ys d k e
    where
      heads : (xs ys : List Token) → Derives rules a xs t → Derives rules b ys u → xs ++ p ≡ ys ++ q → ⊥
      heads [] ys d k e = not_true (nullable empty a) na (nullable_if d refl)
      heads (x ∷ xs) [] d k e = not_true (nullable empty b) nb (nullable_if k refl)
      heads (x ∷ xs) (y ∷ ys) d k e = elem-disjoint x.class (first empty f a) (first empty f b) apart (first_if d x xs refl) (first_if k x ys (cc))

  unlike_longer : (a b p : Part S) {xs ys : List Token} {t u : Tree} → disjoint (first empty f a) (first empty f b) ≡ true → not (nullable empty a) ≡ true → not (nullable empty b) ≡ true
      → Derives rules a xs t → Derives rules b ys u → Meets p xs ys
  unlike_longer a b p {xs} {ys} apart na nb d k = (
    (λ y w e. absurd (unlike a b apart na nb d k (y ∷ w) [] (sym e ∙ sym (append-nil ys)))),
    (λ y w e. absurd (unlike a b apart na nb d k [] (y ∷ w) (append-nil xs ∙ e))),
  )

  seq_longer : (a b : Part S) {xs₁ ys₁ xs₂ ys₂ : List Token} {u₁ u₂ : Tree}
      → disjoint (cont empty f c a) (first empty f b) ≡ true
      → Meets a xs₁ xs₂ → Longer b ys₁ ys₂
      → Derives rules b ys₁ u₁ → Derives rules b ys₂ u₂ → Longer (seq a b) (xs₁ ++ ys₁) (xs₂ ++ ys₂)
  seq_longer a b apart m far_b d₁ d₂ y w e = elim (seq_far a b apart m.0 m.1 far_b d₁ d₂ y w e) [
    | inl h ↦ elem-left y.class (cont empty f c b) (cond (nullable empty b) (cont empty f c a) []) h
    | inr h ↦ elem-right y.class (cont empty f c b) (cond (nullable empty b) (cont empty f c a) []) (rw h.0 h.1)
  ]

  star_longer : (a : Part S) {xs₁ ys₁ xs₂ ys₂ : List Token} {u₁ u₂ : Tree}
      → disjoint (cont empty f c a) (first empty f a) ≡ true
      → Meets a xs₁ xs₂ → Longer (star a) ys₁ ys₂
      → Derives rules (star a) ys₁ u₁ → Derives rules (star a) ys₂ u₂ → Longer (star a) (xs₁ ++ ys₁) (xs₂ ++ ys₂)
  star_longer a apart m far_b d₁ d₂ y w e = elim (seq_far a (star a) apart m.0 m.1 far_b d₁ d₂ y w e) [
    | inl h ↦ h
    | inr h ↦ elem-right y.class (first empty f a) (cont empty f c a) h.1
  ]

  begin_longer : (a : Part S) {xs : List Token} {t : Tree} → Derives rules a xs t → (p : Part S) → ((y : Token) → elem y.class (first empty f a) ≡ true → elem y.class (cont empty f c p) ≡ true) → Meets p [] xs
  begin_longer a {xs} d p within = ((λ y w e. within y (first_if d y w e)), (λ y w e. absurd (not_empty xs y w e)))

  left_longer : (a p : Part S) {xs ys : List Token} → ((y : Token) → elem y.class (cont empty f c a) ≡ true → elem y.class (cont empty f c p) ≡ true) → Meets a xs ys → Meets p xs ys
  left_longer a p within m = ((λ y w e. within y (m.0 y w e)), (λ y w e. within y (m.1 y w e)))

  -- a `both` goes on as its alternatives do, or by one of its classes
  in_one : (k : List ℕ) (a b : Part S) (y : Token) → elem y.class (cont empty f c a) ≡ true → elem y.class (cont empty f c (both k a b)) ≡ true
  in_one k a b y h = elem-left y.class (cont empty f c a) (cont empty f c b ++ k) h

  in_other : (k : List ℕ) (a b : Part S) (y : Token) → elem y.class (cont empty f c b) ≡ true → elem y.class (cont empty f c (both k a b)) ≡ true
  in_other k a b y h = elem-right y.class (cont empty f c a) (cont empty f c b ++ k) (elem-left y.class (cont empty f c b) k h)

  in_classes : (k : List ℕ) (a b : Part S) (y : Token) → elem y.class k ≡ true → elem y.class (cont empty f c (both k a b)) ≡ true
  in_classes k a b y h = elem-right y.class (cont empty f c a) (cont empty f c b ++ k) (elem-right y.class (cont empty f c b) k h)

  both_longer : (k : List ℕ) (a b : Part S) {xs ys : List Token} {t u : Tree} → Apart rules k a b → Derives rules a xs t → Derives rules b ys u → Meets (both k a b) xs ys
  both_longer k a b p d q = ((λ y w e. in_classes k a b y (p.other_longer d q y w e)), (λ y w e. in_classes k a b y (p.one_longer d q y w e)))

  abbrev pub Fine : Part S → Type 0
  Fine a = fine empty f c a ≡ true

  pub seq_fine : (a b : Part S) → Fine (seq a b) → Fine a × Fine b × (disjoint (cont empty f c a) (first empty f b) ≡ true)
  seq_fine a b h =
      let p = and_true (fine empty f c a) (fine empty f c b && disjoint (cont empty f c a) (first empty f b)) h in
      let q = and_true (fine empty f c b) (disjoint (cont empty f c a) (first empty f b)) p.1 in
      (p.0, q.0, q.1)

  pub alt_fine : (a b : Part S) → Fine (alt a b) → Fine a × Fine b × (disjoint (first empty f a) (first empty f b) ≡ true) × (not (nullable empty a) ≡ true) × (not (nullable empty b) ≡ true)
  alt_fine a b h =
      let p = and_true (fine empty f c a) (fine empty f c b && (disjoint (first empty f a) (first empty f b) && (not (nullable empty a) && not (nullable empty b)))) h in
      let q = and_true (fine empty f c b) (disjoint (first empty f a) (first empty f b) && (not (nullable empty a) && not (nullable empty b))) p.1 in
      let r = and_true (disjoint (first empty f a) (first empty f b)) (not (nullable empty a) && not (nullable empty b)) q.1 in
      let n = and_true (not (nullable empty a)) (not (nullable empty b)) r.1 in
      (p.0, q.0, r.0, n.0, n.1)

  pub opt_fine : (a : Part S) → Fine (opt a) → Fine a × (not (nullable empty a) ≡ true) × (not (elem 0 (first empty f a)) ≡ true)
  opt_fine a h =
      let p = and_true (fine empty f c a) (not (nullable empty a) && not (elem 0 (first empty f a))) h in
      let q = and_true (not (nullable empty a)) (not (elem 0 (first empty f a))) p.1 in
      (p.0, q.0, q.1)

  pub star_fine : (a : Part S) → Fine (star a) → Fine a × (not (nullable empty a) ≡ true) × (not (elem 0 (first empty f a)) ≡ true) × (disjoint (cont empty f c a) (first empty f a) ≡ true)
  star_fine a h =
      let p = and_true (fine empty f c a) ((not (nullable empty a) && not (elem 0 (first empty f a))) && disjoint (cont empty f c a) (first empty f a)) h in
      let q = and_true (not (nullable empty a) && not (elem 0 (first empty f a))) (disjoint (cont empty f c a) (first empty f a)) p.1 in
      let r = and_true (not (nullable empty a)) (not (elem 0 (first empty f a))) q.0 in
      (p.0, r.0, r.1, q.1)

  pub both_fine : (k : List ℕ) (a b : Part S) → Fine (both k a b) → Fine a × Fine b
  both_fine k a b h = and_true (fine empty f c a) (fine empty f c b) h

  module _ (all_apart : (s : S) → AllApart rules (rules s)) where
    -- of two lists that a part derives, if one goes on where the other ends, it is by a token that the table allows
    pub meets : {a : Part S} {xs ys : List Token} {t u : Tree} → Derives rules a xs t → Derives rules a ys u → Fine a → AllApart rules a → Meets a xs ys
    meets nothing_is nothing_is h r = (nothing_longer nothing [], nothing_longer nothing [])
    meets (word_is {cs} {k} p) (word_is {k = j} q) h r = (one_longer (word cs) k j, one_longer (word cs) j k)
    meets (text_is {cs} {k} p) (text_is {k = j} q) h r = (one_longer (text cs) k j, one_longer (text cs) j k)
    meets (seq_is {a} {b} d₁ k₁) (seq_is d₂ k₂) h r =
        let p = seq_fine a b h in
        let m = meets d₁ d₂ p.0 (apart_left rules a b r) in
        let n = meets k₁ k₂ p.1 (apart_right rules a b r) in
        (seq_longer a b p.2 m n.0 k₁ k₂, seq_longer a b p.2 (m.1, m.0) n.1 k₂ k₁)
    meets (left_is {a} {b} d) (left_is k) h r =
        left_longer a (alt a b) (λ y e. elem-left y.class (cont empty f c a) (cont empty f c b) e) (meets d k (alt_fine a b h).0 (apart_left rules a b r))
    meets (left_is {a} {b} d) (right_is k) h r =
        let p = alt_fine a b h in unlike_longer a b (alt a b) p.2 p.3 p.4 d k
    meets (right_is {a} {b} d) (left_is k) h r =
        let p = alt_fine a b h in let m = unlike_longer a b (alt a b) p.2 p.3 p.4 k d in (m.1, m.0)
    meets (right_is {a} {b} d) (right_is k) h r =
        left_longer b (alt a b) (λ y e. elem-right y.class (cont empty f c a) (cont empty f c b) e) (meets d k (alt_fine a b h).1 (apart_right rules a b r))
    meets (none_is {a}) none_is h r = (nothing_longer (opt a) [], nothing_longer (opt a) [])
    meets (none_is {a}) (some_is k) h r = begin_longer a k (opt a) (λ y e. elem-left y.class (first empty f a) (cont empty f c a) e)
    meets (some_is {a} d) none_is h r = let m = begin_longer a d (opt a) (λ y e. elem-left y.class (first empty f a) (cont empty f c a) e) in (m.1, m.0)
    meets (some_is {a} d) (some_is k) h r =
        left_longer a (opt a) (λ y e. elem-right y.class (first empty f a) (cont empty f c a) e) (meets d k (opt_fine a h).0 r)
    meets (nil_is {a}) nil_is h r = (nothing_longer (star a) [], nothing_longer (star a) [])
    meets (nil_is {a}) (cons_is d k) h r = begin_longer (star a) (cons_is d k) (star a) (λ y e. elem-left y.class (first empty f a) (cont empty f c a) e)
    meets (cons_is {a} d k) nil_is h r = let m = begin_longer (star a) (cons_is d k) (star a) (λ y e. elem-left y.class (first empty f a) (cont empty f c a) e) in (m.1, m.0)
    meets (cons_is {a} d₁ k₁) (cons_is d₂ k₂) h r =
        let p = star_fine a h in
        let m = meets d₁ d₂ p.0 r in
        let n = meets k₁ k₂ h r in
        (star_longer a p.3 m n.0 k₁ k₂, star_longer a p.3 (m.1, m.0) n.1 k₂ k₁)
    meets (one_is {cs} {a} {b} d) (one_is k) h r =
        left_longer a (both cs a b) (in_one cs a b) (meets d k (both_fine cs a b h).0 (apart_left rules a b r.1))
    meets (one_is {cs} {a} {b} d) (other_is k) h r = both_longer cs a b r.0 d k
    meets (other_is {cs} {a} {b} d) (one_is k) h r = let m = both_longer cs a b r.0 k d in (m.1, m.0)
    meets (other_is {cs} {a} {b} d) (other_is k) h r =
        left_longer b (both cs a b) (in_other cs a b) (meets d k (both_fine cs a b h).1 (apart_right rules a b r.1))
    meets (side_is {s} d) (side_is k) h r =
        left_longer (rules s) (side s) (λ y e. elem-subset y.class (cont empty f c (rules s)) (c s) (ok.conts s) e) (meets d k (ok.all_fine s) (all_apart s))
