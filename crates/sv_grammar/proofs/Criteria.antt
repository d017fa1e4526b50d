-- Alternatives that pass the tests are apart.
use Rattle.std.proofs.Common.{◌≡◌, ℕ, Bool, true, not, ◌&&◌, List, [], ◌∷◌, ◌++◌, refl, sym, ◌∙◌, inl, inr}
use Rattle.std.proofs.lemmas.List.{append-nil}
use Rattle.sv_grammar.specs.Grammar.{Token, Part, nothing, word, text, seq, alt, opt, star, both, side, Tree, Derives, elem}
use Rattle.sv_grammar.specs.Reading.{subset, disjoint, nullable, first, chars, is_checked, Apart, Distinct, Fork, forks, OfEach, AllApart}
use Rattle.sv_grammar.proofs.Sets.{and_true, or_true, not_true, elem-subset, elem-disjoint}
use Rattle.sv_grammar.proofs.Theory.{Checked, nullable_if, first_if, chars_if, unlike}
use Rattle.sv_grammar.proofs.Exactly.{DerivesSome, of_alt, of_both}
use Rattle.sv_grammar.proofs.Checks.{tables}
use Rattle.sv_grammar.proofs.Tests.{lasts, ends, keys, keyed, single, seconds, differ, any_class, end_alike, keyed_by, tells_second, tells_apart, each_other, each_one, each_fork, inside, ahead, is_apart, are_apart}
use Rattle.sv_grammar.proofs.Tested.{looks_through, looks_in_front, KeyedIf, Keyed, keyed_apart, ended_apart, ended_if, keyed_if, single_if, seconds_if}

-- the second part derives each list of the first
abbrev pub Has : {S : Type 0} → (S → Part S) → Part S → Part S → Type 0
Has rules a p = (xs : List Token) (t : Tree) → Derives rules a xs t → DerivesSome rules p xs

module _ {S : Type 0} {rules : S → Part S} where
  pub apart_swap : {k : List ℕ} {a b : Part S} → Apart rules k a b → Apart rules k b a
  apart_swap p = record { other_longer = λ d q y w e. p.one_longer q d y w e; one_longer = λ d q y w e. p.other_longer q d y w e }

  pub distinct_swap : {a b : Part S} → Distinct rules a b → Distinct rules b a
  distinct_swap p = record { never = λ d q. p.never q d }

  pub apart_by_lists : {k : List ℕ} (a b p q : Part S) → Has rules a p → Has rules b q → Apart rules k p q → Apart rules k a b
  apart_by_lists {k} a b p q ha hb r = record {
    other_longer = λ {xs} {ys} {t} {u} d e y w g. r.other_longer (ha xs t d).1 (hb ys u e).1 y w g;
    one_longer = λ {xs} {ys} {t} {u} d e y w g. r.one_longer (ha xs t d).1 (hb ys u e).1 y w g;
  }

  apart_never : (k : List ℕ) {a b : Part S} → ((xs ys : List Token) (t u : Tree) → Derives rules a xs t → Derives rules b ys u → (v w : List Token) → xs ++ v ≡ ys ++ w → ⊥) → Apart rules k a b
  apart_never k h = record {
    other_longer = λ {xs} {ys} {t} {u} d e y w g. absurd (h xs ys t u d e (y ∷ w) [] (sym g ∙ sym (append-nil ys)));
    one_longer = λ {xs} {ys} {t} {u} d e y w g. absurd (h xs ys t u d e [] (y ∷ w) (append-nil xs ∙ g));
  }

  -- of either alternative
  pub apart_alt : {k : List ℕ} {a b c : Part S} → Apart rules k a b → Apart rules k a c → Apart rules k a (alt b c)
  apart_alt {k} {a} {b} {c} p q = record {
    other_longer = λ {xs} {ys} {t} {u} d e y w g. elim (of_alt rules e) [ inl n ↦ p.other_longer d n.1 y w g | inr n ↦ q.other_longer d n.1 y w g ];
    one_longer = λ {xs} {ys} {t} {u} d e y w g. elim (of_alt rules e) [ inl n ↦ p.one_longer d n.1 y w g | inr n ↦ q.one_longer d n.1 y w g ];
  }

  pub apart_both : {k m : List ℕ} {a b c : Part S} → Apart rules k a b → Apart rules k a c → Apart rules k a (both m b c)
  apart_both {k} {m} {a} {b} {c} p q = record {
    other_longer = λ {xs} {ys} {t} {u} d e y w g. elim (of_both rules e) [ inl n ↦ p.other_longer d n.1 y w g | inr n ↦ q.other_longer d n.1 y w g ];
    one_longer = λ {xs} {ys} {t} {u} d e y w g. elim (of_both rules e) [ inl n ↦ p.one_longer d n.1 y w g | inr n ↦ q.one_longer d n.1 y w g ];
  }

  pub distinct_alt : {a b c : Part S} → Distinct rules a b → Distinct rules a c → Distinct rules a (alt b c)
  distinct_alt p q = record { never = λ {xs} {t} {u} d e. elim (of_alt rules e) [ inl n ↦ p.never d n.1 | inr n ↦ q.never d n.1 ] }

  pub distinct_both : {m : List ℕ} {a b c : Part S} → Distinct rules a b → Distinct rules a c → Distinct rules a (both m b c)
  distinct_both p q = record { never = λ {xs} {t} {u} d e. elim (of_both rules e) [ inl n ↦ p.never d n.1 | inr n ↦ q.never d n.1 ] }

  module _ (good : Part S → Part S → Bool) (k : List ℕ) (sure : (a b : Part S) → good a b ≡ true → Apart rules k a b) where
    apart_each_other : (a b : Part S) → each_other good a b ≡ true → Apart rules k a b
    apart_each_other a nothing h = sure a nothing h
    apart_each_other a (word cs) h = sure a (word cs) h
    apart_each_other a (text cs) h = sure a (text cs) h
    apart_each_other a (seq b c) h = sure a (seq b c) h
    apart_each_other a (alt b c) h = elim (or_true (good a (alt b c)) (each_other good a b && each_other good a c) h) [
      | inl e ↦ sure a (alt b c) e
      | inr e ↦ (let p = and_true (each_other good a b) (each_other good a c) e in apart_alt (apart_each_other a b p.0) (apart_each_other a c p.1))
    ]
    apart_each_other a (opt b) h = sure a (opt b) h
    apart_each_other a (star b) h = sure a (star b) h
    apart_each_other a (both m b c) h = elim (or_true (good a (both m b c)) (each_other good a b && each_other good a c) h) [
      | inl e ↦ sure a (both m b c) e
      | inr e ↦ (let p = and_true (each_other good a b) (each_other good a c) e in apart_both (apart_each_other a b p.0) (apart_each_other a c p.1))
    ]
    apart_each_other a (side s) h = sure a (side s) h

    pub apart_each_one : (a b : Part S) → each_one good a b ≡ true → Apart rules k a b
    apart_each_one nothing b h = apart_each_other nothing b h
    apart_each_one (word cs) b h = apart_each_other (word cs) b h
    apart_each_one (text cs) b h = apart_each_other (text cs) b h
    apart_each_one (seq a c) b h = apart_each_other (seq a c) b h
    apart_each_one (alt a c) b h = elim (or_true (each_other good (alt a c) b) (each_one good a b && each_one good c b) h) [
      | inl e ↦ apart_each_other (alt a c) b e
      | inr e ↦ (let p = and_true (each_one good a b) (each_one good c b) e in apart_swap (apart_alt (apart_swap (apart_each_one a b p.0)) (apart_swap (apart_each_one c b p.1))))
    ]
    apart_each_one (opt a) b h = apart_each_other (opt a) b h
    apart_each_one (star a) b h = apart_each_other (star a) b h
    apart_each_one (both m a c) b h = elim (or_true (each_other good (both m a c) b) (each_one good a b && each_one good c b) h) [
      | inl e ↦ apart_each_other (both m a c) b e
      | inr e ↦ (let p = and_true (each_one good a b) (each_one good c b) e in apart_swap (apart_both (apart_swap (apart_each_one a b p.0)) (apart_swap (apart_each_one c b p.1))))
    ]
    apart_each_one (side s) b h = apart_each_other (side s) b h

module _ {S : Type 0} {rules : S → Part S} {empty : S → Bool} {f c l : S → List ℕ} (ok : Checked rules empty f c l) where
  abbrev NeverAlike : Part S → Part S → Type 0
  NeverAlike a b = (xs ys : List Token) (t u : Tree) → Derives rules a xs t → Derives rules b ys u → (v w : List Token) → xs ++ v ≡ ys ++ w → ⊥

  differ_never : (a b : Part S) → differ empty f a b ≡ true → NeverAlike a b
  differ_never a b h xs ys t u d e v w g =
      let p = and_true (disjoint (first empty f a) (first empty f b)) (not (nullable empty a) && not (nullable empty b)) h in
      let q = and_true (not (nullable empty a)) (not (nullable empty b)) p.1 in
      unlike ok a b p.0 q.0 q.1 d e v w g

  surely : {ks ms : List ℕ} {xs : List Token} → KeyedIf ks ms xs true → Keyed ks ms xs
  surely (inl p) = p
  surely (inr p) = cc p.0

  keyed_never : (ka kb : List ℕ) (a b : Part S) → keyed_by l ka kb a b ≡ true → NeverAlike a b
  keyed_never ka kb a b h xs ys t u d e v w g =
      let p = and_true (disjoint ka kb) (keyed l ka kb a true && keyed l kb ka b true) h in
      let q = and_true (keyed l ka kb a true) (keyed l kb ka b true) p.1 in
      keyed_apart p.0 (surely (keyed_if ok ka kb d true q.0)) (surely (keyed_if ok kb ka e true q.1)) v w g

  any_apart : (k : List ℕ) (a b : Part S) → any_class l k a b ≡ true → Apart rules k a b
  any_apart k a b h =
      let p = and_true (subset (chars l a) k) (subset (chars l b) k) h in
      record {
        other_longer = λ {xs} {ys} {t} {u} d e y w g. elem-subset y.class (chars l b) k p.1 (chars_if ok e xs y w g);
        one_longer = λ {xs} {ys} {t} {u} d e y w g. elem-subset y.class (chars l a) k p.0 (chars_if ok d ys y w g);
      }

  end_apart : (k : List ℕ) (a b : Part S) → end_alike l a b ≡ true → Apart rules k a b
  end_apart k a b h =
      let ks = lasts a ++ lasts b in
      let p = and_true (ends l ks a) (ends l ks b) h in
      record {
        other_longer = λ {xs} {ys} {t} {u} d e y w g. absurd (ended_apart (ended_if ok ks d p.0) (ended_if ok ks e p.1) y w g);
        one_longer = λ {xs} {ys} {t} {u} d e y w g. absurd (ended_apart (ended_if ok ks e p.1) (ended_if ok ks d p.0) y w g);
      }

  -- two parts that the second token tells
  module _ (k : List ℕ) (a b : Part S)
      (na : not (nullable empty a) ≡ true) (nb : not (nullable empty b) ≡ true)
      (longer : not (single empty f (first empty f a) b) ≡ true)
      (has : seconds empty f (first empty f a) (λ cs. subset cs k) b ≡ true)
      (lacks : seconds empty f (first empty f b) (λ cs. disjoint cs k) a ≡ true) where
    second_in : {ys : List Token} {u : Tree} → Derives rules b ys u → (x y : Token) (w : List Token) → ys ≡ x ∷ y ∷ w → elem x.class (first empty f a) ≡ true → elem y.class k ≡ true
    second_in d x y w e h = seconds_if ok (λ n. elem n k ≡ true) (λ cs. subset cs k) (λ ks n s g. elem-subset n ks k s g) (first empty f a) d x y w e h has

    second_out : {xs : List Token} {t : Tree} → Derives rules a xs t → (x y : Token) (w : List Token) → xs ≡ x ∷ y ∷ w → elem x.class (first empty f b) ≡ true → elem y.class k ≡ true → ⊥
    second_out d x y w e h g = seconds_if ok (λ n. elem n k ≡ true → ⊥) (λ cs. disjoint cs k) (λ ks n s i j. elem-disjoint n ks k s i j) (first empty f b) d x y w e h lacks g

    not_alone : {ys : List Token} {u : Tree} → Derives rules b ys u → (x : Token) → ys ≡ x ∷ [] → elem x.class (first empty f a) ≡ true → ⊥
    not_alone d x e h = not_true (single empty f (first empty f a) b) longer (single_if ok (first empty f a) d x e h)

    -- no list of the first begins as one of the second does, up to its end
    begins_not : (xs ys : List Token) (t u : Tree) → Derives rules a xs t → Derives rules b ys u → (w : List Token) → xs ≡ ys ++ w → ⊥
    begins_not xs [] t u d e w g = not_true (nullable empty b) nb (nullable_if ok e refl)
    begins_not xs (x ∷ []) t u d e w g = not_alone e x refl (first_if ok d x w g)
    begins_not xs (x ∷ y ∷ v) t u d e w g = second_out d x y (v ++ w) g (first_if ok e x (y ∷ v) refl) (second_in e x y v refl (first_if ok d x (y ∷ (v ++ w)) g))

    goes_on_in : (xs ys : List Token) (t u : Tree) → Derives rules a xs t → Derives rules b ys u → (y : Token) (w : List Token) → ys ≡ xs ++ y ∷ w → elem y.class k ≡ true
    goes_on_in [] ys t u d e y w g = absurd (not_true (nullable empty a) na (nullable_if ok d refl))
    goes_on_in (x ∷ []) ys t u d e y w g = second_in e x y w g (first_if ok d x [] refl)
    goes_on_in (x ∷ z ∷ v) ys t u d e y w g =
        absurd (second_out d x z v refl (first_if ok e x (z ∷ (v ++ y ∷ w)) g) (second_in e x z (v ++ y ∷ w) g (first_if ok d x (z ∷ v) refl)))

    second_apart : Apart rules k a b
    second_apart = record {
      other_longer = λ {xs} {ys} {t} {u} d e y w g. goes_on_in xs ys t u d e y w g;
      one_longer = λ {xs} {ys} {t} {u} d e y w g. absurd (begins_not xs ys t u d e (y ∷ w) g);
    }

  pub told_second : (k : List ℕ) (a b : Part S) → tells_second empty f k a b ≡ true → Apart rules k a b
  told_second k a b h =
      let p = and_true (not (nullable empty a) && not (nullable empty b)) _ h in
      let n = and_true (not (nullable empty a)) (not (nullable empty b)) p.0 in
      let q = and_true (not (single empty f (first empty f a) b)) _ p.1 in
      let r = and_true (seconds empty f (first empty f a) (λ cs. subset cs k) b) (seconds empty f (first empty f b) (λ cs. disjoint cs k) a) q.1 in
      second_apart k a b n.0 n.1 q.0 r.0 r.1

  pub told_apart : (k : List ℕ) (a b : Part S) → tells_apart empty f l k a b ≡ true → Apart rules k a b
  told_apart k a b h = elim (or_true (differ empty f a b) _ h) [
    | inl e ↦ apart_never k (differ_never a b e)
    | inr e ↦ elim (or_true (any_class l k a b) _ e) [
      | inl e ↦ any_apart k a b e
      | inr e ↦ elim (or_true (end_alike l a b) _ e) [
        | inl e ↦ end_apart k a b e
        | inr e ↦ elim (or_true (keyed_by l (keys empty a) (keys empty b) a b) _ e) [
          | inl e ↦ apart_never k (keyed_never (keys empty a) (keys empty b) a b e)
          | inr e ↦ elim (or_true (tells_second empty f k a b) (tells_second empty f k b a) e) [
            | inl e ↦ told_second k a b e
            | inr e ↦ apart_swap (told_second k b a e)
          ]
        ]
      ]
    ]
  ]

module _ {S : Type 0} (rules : S → Part S) (empty : S → Bool) (f c l : S → List ℕ) (rounds : ℕ) (all : (s : S) → is_checked rules empty f c l rounds s ≡ true) (m n : ℕ) where
  has_inside : (a : Part S) (xs : List Token) (t : Tree) → Derives rules a xs t → DerivesSome rules (inside rules empty f l m n a) xs
  has_inside a xs t d = looks_through m a d

  has_ahead : (a : Part S) (xs : List Token) (t : Tree) → Derives rules a xs t → DerivesSome rules (ahead rules empty f l m n a) xs
  has_ahead a xs t d = looks_in_front empty n a d

  -- alternatives that pass the test are apart
  pub apart_by : (k : List ℕ) (a b : Part S) → is_apart rules empty f l m n k a b ≡ true → Apart rules k a b
  apart_by k a b h =
      let ok = tables rules empty f c l rounds all in
      elim (or_true (each_one (tells_apart empty f l k) (inside rules empty f l m n a) (inside rules empty f l m n b)) _ h) [
        | inl e ↦ apart_by_lists a b _ _ (has_inside a) (has_inside b) (apart_each_one (tells_apart empty f l k) k (told_apart ok k) _ _ e)
        | inr e ↦ apart_by_lists a b _ _ (has_ahead a) (has_ahead b) (apart_each_one (tells_apart empty f l k) k (told_apart ok k) _ _ e)
      ]

  each_apart : (ks : List (Fork S)) → each_fork (λ k. is_apart rules empty f l m n k.classes k.one k.other) ks ≡ true → OfEach (λ k. Apart rules k.classes k.one k.other) ks
  each_apart [] h = tt
  each_apart (k ∷ ks) h = let p = and_true (is_apart rules empty f l m n k.classes k.one k.other) _ h in (apart_by k.classes k.one k.other p.0, each_apart ks p.1)

  -- a part whose alternatives all pass
  pub all_apart_by : (a : Part S) → are_apart rules empty f l m n a ≡ true → AllApart rules a
  all_apart_by a h = each_apart (forks a) h
