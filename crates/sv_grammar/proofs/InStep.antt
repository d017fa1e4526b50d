-- Two rows of parts compared token by token: a test that no list is derived by both.
use Rattle.std.proofs.Common.{◌≡◌, ℕ, zero, suc, Bool, true, false, not, ◌&&◌, ◌||◌, cond, List, [], ◌∷◌, ◌++◌, Some, refl, sym, ap, subst, ◌∙◌, ◌⊎◌, inl, inr, append_assoc}
use Rattle.std.specs.Prelude.{◌==◌, slice_get}
use Rattle.std.proofs.lemmas.List.{append-nil}
use Rattle.std.proofs.lemmas.Bool.{eqb-true}
use Rattle.sv_grammar.specs.Grammar.{Token, Part, nothing, word, text, seq, alt, opt, star, both, side, Tree, Derives, nothing_is, word_is, text_is, seq_is, left_is, right_is, none_is, some_is, nil_is, cons_is, one_is, other_is, side_is, elem}
use Rattle.sv_grammar.specs.Reading.{disjoint, is_filled, nullable, first, is_checked, Distinct, Fork, forks, OfEach, AllApart, AllDistinct}
use Rattle.sv_grammar.proofs.Sets.{and_true, or_true, not_true, and_both, elem-left, elem-right, elem-disjoint, Cut, same, further, nearer, cut, empty_two, begins_in}
use Rattle.sv_grammar.proofs.Theory.{Checked, nullable_if, first_if, meets}
use Rattle.sv_grammar.proofs.Checks.{tables}
use Rattle.sv_grammar.proofs.Tests.{each_fork}

-- the parts, one after the other, derive the tokens
pub data Row {S : Type 0} (rules : S → Part S) : List (Part S) → List Token → Type 0 where
  row_end : Row rules [] []
  row_more : {a : Part S} {ps : List (Part S)} {xs ys : List Token} {t : Tree} → Derives rules a xs t → Row rules ps ys → Row rules (a ∷ ps) (xs ++ ys)

-- No list of the one is a list of the other, where w. Else two that begin one list are the same.
pub record Parted {S : Type 0} (rules : S → Part S) (w : Bool) (ps bs : List (Part S)) : Type 0 where
  pub holds : (xs ys v u : List Token) → Row rules ps xs → Row rules bs ys → (w ≡ true → v ≡ []) → (w ≡ true → u ≡ []) → xs ++ v ≡ ys ++ u → (w ≡ false) × (xs ≡ ys)

module _ {S : Type 0} (empty : S → Bool) (f : S → List ℕ) where
  abbrev pub row_nullable : List (Part S) → Bool
  row_nullable [] = true
  row_nullable (a ∷ ps) = nullable empty a && row_nullable ps

  abbrev pub row_first : List (Part S) → List ℕ
  row_first [] = []
  row_first (a ∷ ps) = first empty f a ++ cond (nullable empty a) (row_first ps) []

-- The test, by the tables and numbers of the sides. Where the classes with which the two rows begin
-- do not tell them apart, the part at the head of one is opened. A token that both begin with is
-- taken off both, and so is a side. Two repetitions go round together, if what they repeat does.
module _ {S : Type 0} (rules : S → Part S) (empty : S → Bool) (f c : S → List ℕ) (num : S → ℕ) where
  -- the classes with which the rows begin tell them apart
  abbrev pub told_here : Bool → List (Part S) → List (Part S) → Bool
  told_here w ps bs = disjoint (row_first empty f ps) (row_first empty f bs) && cond w (not (row_nullable empty f ps && row_nullable empty f bs)) (not (row_nullable empty f ps) && not (row_nullable empty f bs))

  -- the same side at the head of both, after which it does not go on
  abbrev pub in_common : Bool → S → S → List (Part S) → List (Part S) → Bool
  in_common w s t ps qs =
      (num s == num t)
      && (disjoint (c s) (row_first empty f ps)
      && (disjoint (c s) (row_first empty f qs)
      && ((w || (not (is_filled (c s)) || not (row_nullable empty f ps)))
      && (w || (not (is_filled (c s)) || not (row_nullable empty f qs))))))

  module _ (go : Bool → List (Part S) → List (Part S) → Bool) (w : Bool) where
    abbrev pub on_end : List (Part S) → Bool
    on_end [] = not w
    on_end (b ∷ bs) = go w (b ∷ bs) []

    abbrev pub on_word : List (Part S) → List (Part S) → List (Part S) → Bool
    on_word row ps [] = false
    on_word row ps (word cs ∷ bs) = go w ps bs
    on_word row ps (text cs ∷ bs) = go w ps bs
    on_word row ps (b ∷ bs) = go w (b ∷ bs) row

    abbrev pub on_star : Part S → List (Part S) → List (Part S) → Bool
    on_star a ps (star b ∷ bs) = go false (a ∷ []) (b ∷ []) && (go w ps bs && (go w ps (b ∷ star b ∷ bs) && go w (a ∷ star a ∷ ps) bs))
    on_star a ps [] = go w ps [] && go w (a ∷ star a ∷ ps) []
    on_star a ps (word cs ∷ bs) = go w ps (word cs ∷ bs) && go w (a ∷ star a ∷ ps) (word cs ∷ bs)
    on_star a ps (text cs ∷ bs) = go w ps (text cs ∷ bs) && go w (a ∷ star a ∷ ps) (text cs ∷ bs)
    on_star a ps (b ∷ bs) = go w (b ∷ bs) (star a ∷ ps)

    abbrev pub on_side : S → List (Part S) → List (Part S) → Bool
    on_side s ps (side t ∷ bs) = elim (in_common w s t ps bs) [ true ↦ go w ps bs | false ↦ go w (rules s ∷ ps) (side t ∷ bs) ]
    on_side s ps [] = go w (rules s ∷ ps) []
    on_side s ps (word cs ∷ bs) = go w (rules s ∷ ps) (word cs ∷ bs)
    on_side s ps (text cs ∷ bs) = go w (rules s ∷ ps) (text cs ∷ bs)
    on_side s ps (star b ∷ bs) = go w (rules s ∷ ps) (star b ∷ bs)
    on_side s ps (b ∷ bs) = go w (b ∷ bs) (side s ∷ ps)

    abbrev pub on_step : List (Part S) → List (Part S) → Bool
    on_step [] bs = on_end bs
    on_step (nothing ∷ ps) bs = go w ps bs
    on_step (word cs ∷ ps) bs = on_word (word cs ∷ ps) ps bs
    on_step (text cs ∷ ps) bs = on_word (text cs ∷ ps) ps bs
    on_step (seq a b ∷ ps) bs = go w (a ∷ b ∷ ps) bs
    on_step (alt a b ∷ ps) bs = go w (a ∷ ps) bs && go w (b ∷ ps) bs
    on_step (opt a ∷ ps) bs = go w ps bs && go w (a ∷ ps) bs
    on_step (star a ∷ ps) bs = on_star a ps bs
    on_step (both k a b ∷ ps) bs = go w (a ∷ ps) bs && go w (b ∷ ps) bs
    on_step (side s ∷ ps) bs = on_side s ps bs

  -- in n steps
  abbrev pub in_step : ℕ → Bool → List (Part S) → List (Part S) → Bool
  in_step zero w ps bs = false
  in_step (suc n) w ps bs = elim (told_here w ps bs) [ true ↦ true | false ↦ on_step (in_step n) w ps bs ]

cancel : {A : Type 0} (p : List A) {r q : List A} → p ++ r ≡ p ++ q → r ≡ q
cancel [] e = e
cancel (x ∷ p) e = cancel p (cc)

-- each list of a row with the part at its head has a token for it
abbrev pub Steps : {S : Type 0} → (S → Part S) → Part S → Type 0
Steps {S} rules a = (ps : List (Part S)) (xs : List Token) → Row rules (a ∷ ps) xs → (k : Token) × (r : List Token) × (xs ≡ k ∷ r) × Row rules ps r

module _ {S : Type 0} {rules : S → Part S} where
  row_along : (ps : List (Part S)) {xs ys : List Token} → xs ≡ ys → Row rules ps xs → Row rules ps ys
  row_along ps e r = subst (λ zs. Row rules ps zs) e r

  pub row_one : {a : Part S} {xs : List Token} {t : Tree} → Derives rules a xs t → Row rules (a ∷ []) xs
  row_one {a} {xs} d = row_along (a ∷ []) (append-nil xs) (row_more d row_end)

  -- ---- the rows that a row is, by its head

  of_nothing : {ps : List (Part S)} {xs : List Token} → Row rules (nothing ∷ ps) xs → Row rules ps xs
  of_nothing (row_more nothing_is r) = r

  of_seq_row : {a b : Part S} {ps : List (Part S)} {xs : List Token} → Row rules (seq a b ∷ ps) xs → Row rules (a ∷ b ∷ ps) xs
  of_seq_row {a} {b} {ps} (row_more {ys} (seq_is {xs = p} {ys = q} d k) r) = row_along (a ∷ b ∷ ps) (sym (append_assoc p q ys)) (row_more d (row_more k r))

  of_alt_row : {a b : Part S} {ps : List (Part S)} {xs : List Token} → Row rules (alt a b ∷ ps) xs → Row rules (a ∷ ps) xs ⊎ Row rules (b ∷ ps) xs
  of_alt_row (row_more (left_is d) r) = inl (row_more d r)
  of_alt_row (row_more (right_is d) r) = inr (row_more d r)

  of_both_row : {k : List ℕ} {a b : Part S} {ps : List (Part S)} {xs : List Token} → Row rules (both k a b ∷ ps) xs → Row rules (a ∷ ps) xs ⊎ Row rules (b ∷ ps) xs
  of_both_row (row_more (one_is d) r) = inl (row_more d r)
  of_both_row (row_more (other_is d) r) = inr (row_more d r)

  of_opt_row : {a : Part S} {ps : List (Part S)} {xs : List Token} → Row rules (opt a ∷ ps) xs → Row rules ps xs ⊎ Row rules (a ∷ ps) xs
  of_opt_row (row_more none_is r) = inl r
  of_opt_row (row_more (some_is d) r) = inr (row_more d r)

  of_star_row : {a : Part S} {ps : List (Part S)} {xs : List Token} → Row rules (star a ∷ ps) xs → Row rules ps xs ⊎ Row rules (a ∷ star a ∷ ps) xs
  of_star_row (row_more nil_is r) = inl r
  of_star_row {a} {ps} (row_more {ys} (cons_is {xs = p} {ys = q} d k) r) = inr (row_along (a ∷ star a ∷ ps) (sym (append_assoc p q ys)) (row_more d (row_more k r)))

  of_side_row : {s : S} {ps : List (Part S)} {xs : List Token} → Row rules (side s ∷ ps) xs → Row rules (rules s ∷ ps) xs
  of_side_row (row_more (side_is d) r) = row_more d r

  of_word_row : {cs : List ℕ} {ps : List (Part S)} {xs : List Token} → Row rules (word cs ∷ ps) xs → (k : Token) × (r : List Token) × (xs ≡ k ∷ r) × Row rules ps r
  of_word_row (row_more {ys} (word_is {k} h) r) = (k, ys, refl, r)

  of_text_row : {cs : List ℕ} {ps : List (Part S)} {xs : List Token} → Row rules (text cs ∷ ps) xs → (k : Token) × (r : List Token) × (xs ≡ k ∷ r) × Row rules ps r
  of_text_row (row_more {ys} (text_is {k} h) r) = (k, ys, refl, r)

  -- ---- from rows to rows

  pub parted_swap : {w : Bool} {ps bs : List (Part S)} → Parted rules w ps bs → Parted rules w bs ps
  parted_swap p = record { holds = λ xs ys v u r q hv hu e. (let n = p.holds ys xs u v q r hu hv (sym e) in (n.0, sym n.1)) }

  parted_as : {w : Bool} {ps p : List (Part S)} (bs : List (Part S)) → ((xs : List Token) → Row rules ps xs → Row rules p xs) → Parted rules w p bs → Parted rules w ps bs
  parted_as bs is h = record { holds = λ xs ys v u r q hv hu e. h.holds xs ys v u (is xs r) q hv hu e }

  parted_or : {w : Bool} {ps p q : List (Part S)} (bs : List (Part S)) → ((xs : List Token) → Row rules ps xs → Row rules p xs ⊎ Row rules q xs) → Parted rules w p bs → Parted rules w q bs → Parted rules w ps bs
  parted_or bs is h g = record { holds = λ xs ys v u r k hv hu e. elim (is xs r) [ inl n ↦ h.holds xs ys v u n k hv hu e | inr n ↦ g.holds xs ys v u n k hv hu e ] }

  parted_words : {w : Bool} (a b : Part S) {ps bs : List (Part S)} → Steps rules a → Steps rules b → Parted rules w ps bs → Parted rules w (a ∷ ps) (b ∷ bs)
  parted_words {w} a b {ps} {bs} sa sb h = record { holds = held }
    where
      held : (xs ys v u : List Token) → Row rules (a ∷ ps) xs → Row rules (b ∷ bs) ys → (w ≡ true → v ≡ []) → (w ≡ true → u ≡ []) → xs ++ v ≡ ys ++ u → (w ≡ false) × (xs ≡ ys)
      held xs ys v u r q hv hu e =
          let p = sa ps xs r in
          let n = sb bs ys q in
          let g : p.0 ∷ (p.1 ++ v) ≡ n.0 ∷ (n.1 ++ u) = sym (ap (λ z. z ++ v) p.2) ∙ e ∙ ap (λ z. z ++ u) n.2 in
          let same_k : p.0 ≡ n.0 = cc in
          let m = h.holds p.1 n.1 v u p.3 n.3 hv hu (cc) in
          (m.0, p.2 ∙ ap (λ k. k ∷ p.1) same_k ∙ ap (λ z. n.0 ∷ z) m.1 ∙ sym n.2)

  parted_ends : Parted rules false [] []
  parted_ends = record { holds = λ xs ys v u r q hv hu e. (refl, nothing_left r ∙ sym (nothing_left q)) }
    where
      nothing_left : {xs : List Token} → Row rules [] xs → xs ≡ []
      nothing_left row_end = refl

  parted_stars : {w : Bool} (a b : Part S) (ps bs : List (Part S)) → Parted rules false (a ∷ []) (b ∷ []) → Parted rules w ps bs → Parted rules w ps (b ∷ star b ∷ bs) → Parted rules w (a ∷ star a ∷ ps) bs → Parted rules w (star a ∷ ps) (star b ∷ bs)
  parted_stars {w} a b ps bs one ends late early = record { holds = held }
    where
      stars : {x₁ : List Token} {t : Tree} → Derives rules (star a) x₁ t → {y₁ : List Token} {z : Tree} → Derives rules (star b) y₁ z → (x₂ y₂ v u : List Token) → Row rules ps x₂ → Row rules bs y₂ → (w ≡ true → v ≡ []) → (w ≡ true → u ≡ [])
          → (x₁ ++ x₂) ++ v ≡ (y₁ ++ y₂) ++ u → (w ≡ false) × (x₁ ++ x₂ ≡ y₁ ++ y₂)
      stars nil_is nil_is x₂ y₂ v u r q hv hu e = ends.holds x₂ y₂ v u r q hv hu e
      stars nil_is (cons_is {xs = p} {ys = k} d g) x₂ y₂ v u r q hv hu e = late.holds x₂ ((p ++ k) ++ y₂) v u r (row_along (b ∷ star b ∷ bs) (sym (append_assoc p k y₂)) (row_more d (row_more g q))) hv hu e
      stars (cons_is {xs = p} {ys = k} d g) nil_is x₂ y₂ v u r q hv hu e = early.holds ((p ++ k) ++ x₂) y₂ v u (row_along (a ∷ star a ∷ ps) (sym (append_assoc p k x₂)) (row_more d (row_more g r))) q hv hu e
      stars (cons_is {xs = p} {ys = k} d g) (cons_is {xs = p₂} {ys = k₂} d₂ g₂) x₂ y₂ v u r q hv hu e =
          let left_is_so : ((p ++ k) ++ x₂) ++ v ≡ p ++ ((k ++ x₂) ++ v) = ap (λ z. z ++ v) (append_assoc p k x₂) ∙ append_assoc p (k ++ x₂) v in
          let right_is_so : ((p₂ ++ k₂) ++ y₂) ++ u ≡ p₂ ++ ((k₂ ++ y₂) ++ u) = ap (λ z. z ++ u) (append_assoc p₂ k₂ y₂) ∙ append_assoc p₂ (k₂ ++ y₂) u in
          let whole : p ++ ((k ++ x₂) ++ v) ≡ p₂ ++ ((k₂ ++ y₂) ++ u) = sym left_is_so ∙ e ∙ right_is_so in
          let head = one.holds p p₂ ((k ++ x₂) ++ v) ((k₂ ++ y₂) ++ u) (row_one d) (row_one d₂) (λ h. cc) (λ h. cc) whole in
          let rest = cancel p (whole ∙ ap (λ z. z ++ ((k₂ ++ y₂) ++ u)) (sym head.1)) in
          let m = stars g g₂ x₂ y₂ v u r q hv hu rest in
          (m.0, append_assoc p k x₂ ∙ ap (λ z. z ++ (k ++ x₂)) head.1 ∙ ap (λ z. p₂ ++ z) m.1 ∙ sym (append_assoc p₂ k₂ y₂))

      open_left : {xs : List Token} → Row rules (star a ∷ ps) xs → (ys v u : List Token) → Row rules (star b ∷ bs) ys → (w ≡ true → v ≡ []) → (w ≡ true → u ≡ []) → xs ++ v ≡ ys ++ u → (w ≡ false) × (xs ≡ ys)
      open_left (row_more {ys = x₂} d r) ys v u (row_more {ys = y₂} k q) hv hu e = stars d k x₂ y₂ v u r q hv hu e

      held : (xs ys v u : List Token) → Row rules (star a ∷ ps) xs → Row rules (star b ∷ bs) ys → (w ≡ true → v ≡ []) → (w ≡ true → u ≡ []) → xs ++ v ≡ ys ++ u → (w ≡ false) × (xs ≡ ys)
      held xs ys v u r q hv hu e = open_left r ys v u q hv hu e

module _ {S : Type 0} {rules : S → Part S} {empty : S → Bool} {f c l : S → List ℕ} (ok : Checked rules empty f c l) (all_apart : (s : S) → AllApart rules (rules s)) (num : S → ℕ) (sides : List S) (back : (s : S) → slice_get sides (num s) ≡ Some s) where
  row_nullable_if : {ps : List (Part S)} {xs : List Token} → Row rules ps xs → xs ≡ [] → row_nullable empty f ps ≡ true
  row_nullable_if row_end e = refl
  row_nullable_if (row_more {a} {ps} {xs} {ys} d r) e = let two = empty_two xs ys e in and_both (nullable empty a) (row_nullable empty f ps) (nullable_if ok d two.0) (row_nullable_if r two.1)

  row_first_if : {ps : List (Part S)} {xs : List Token} → Row rules ps xs → (y : Token) (w : List Token) → xs ≡ y ∷ w → elem y.class (row_first empty f ps) ≡ true
  row_first_if row_end y w e = cc
  row_first_if (row_more {a} {ps} {xs} {ys} d r) y w e = elim (begins_in xs ys y w e) [
    | inl h ↦ elem-left y.class (first empty f a) (cond (nullable empty a) (row_first empty f ps) []) (first_if ok d y h.0 h.1)
    | inr h ↦ elem-right y.class (first empty f a) (cond (nullable empty a) (row_first empty f ps) []) (rw (nullable_if ok d h.0) (row_first_if r y w h.1))
  ]

  told_parted : (w : Bool) (ps qs : List (Part S)) → told_here rules empty f c num w ps qs ≡ true → Parted rules w ps qs
  told_parted w ps qs h = record { holds = λ xs ys v u r q hv hu e. absurd (never w p.1 xs ys v u r q hv hu e) }
    where
      p : (disjoint (row_first empty f ps) (row_first empty f qs) ≡ true) × (cond w (not (row_nullable empty f ps && row_nullable empty f qs)) (not (row_nullable empty f ps) && not (row_nullable empty f qs)) ≡ true)
      p = and_true (disjoint (row_first empty f ps) (row_first empty f qs)) _ h

      never : (w : Bool) → cond w (not (row_nullable empty f ps && row_nullable empty f qs)) (not (row_nullable empty f ps) && not (row_nullable empty f qs)) ≡ true
          → (xs ys v u : List Token) → Row rules ps xs → Row rules qs ys → (w ≡ true → v ≡ []) → (w ≡ true → u ≡ []) → xs ++ v ≡ ys ++ u → ⊥
      never true n [] [] v u r q hv hu e = not_true _ n (and_both (row_nullable empty f ps) (row_nullable empty f qs) (row_nullable_if r refl) (row_nullable_if q refl))
      never true n [] (y ∷ ys) v u r q hv hu e = let none : v ≡ [] = hv refl in cc
      never true n (x ∷ xs) [] v u r q hv hu e = let none : u ≡ [] = hu refl in cc
      never false n [] ys v u r q hv hu e = not_true (row_nullable empty f ps) (and_true (not (row_nullable empty f ps)) (not (row_nullable empty f qs)) n).0 (row_nullable_if r refl)
      never false n (x ∷ xs) [] v u r q hv hu e = not_true (row_nullable empty f qs) (and_true (not (row_nullable empty f ps)) (not (row_nullable empty f qs)) n).1 (row_nullable_if q refl)
      never w n (x ∷ xs) (y ∷ ys) v u r q hv hu e = elem-disjoint x.class (row_first empty f ps) (row_first empty f qs) p.0 (row_first_if r x xs refl) (row_first_if q x ys (cc))

  same_side : (s t : S) → (num s == num t) ≡ true → s ≡ t
  same_side s t h = let e : slice_get sides (num s) ≡ slice_get sides (num t) = ap (slice_get sides) (eqb-true (num s) (num t) h) in cc (back s, back t)

  -- nothing can follow where the side goes on
  no_more : (w : Bool) (s : S) (ps : List (Part S)) → disjoint (c s) (row_first empty f ps) ≡ true → (w || (not (is_filled (c s)) || not (row_nullable empty f ps))) ≡ true
      → (xs v : List Token) → Row rules ps xs → (w ≡ true → v ≡ []) → (z : Token) (m : List Token) → xs ++ v ≡ z ∷ m → elem z.class (c s) ≡ true → ⊥
  no_more true s ps d h [] v r hv z m e g = let none : v ≡ [] = hv refl in cc
  no_more false s ps d h [] v r hv z m e g = elim (or_true (not (is_filled (c s))) (not (row_nullable empty f ps)) h) [
    | inl n ↦ not_filled (c s) n g
    | inr n ↦ not_true (row_nullable empty f ps) n (row_nullable_if r refl)
  ]
    where
      not_filled : (cs : List ℕ) → not (is_filled cs) ≡ true → elem z.class cs ≡ true → ⊥
      not_filled [] n g = cc
      not_filled (k ∷ cs) n g = cc
  no_more w s ps d h (x ∷ xs) v r hv z m e g = let same_x : x ≡ z = cc in elem-disjoint z.class (c s) (row_first empty f ps) d g (row_first_if r z xs (ap (λ k. k ∷ xs) same_x))

  common_same : (w : Bool) (s : S) (ps qs : List (Part S)) → disjoint (c s) (row_first empty f ps) ≡ true → disjoint (c s) (row_first empty f qs) ≡ true
      → (w || (not (is_filled (c s)) || not (row_nullable empty f ps))) ≡ true → (w || (not (is_filled (c s)) || not (row_nullable empty f qs))) ≡ true
      → Parted rules w ps qs → Parted rules w (side s ∷ ps) (side s ∷ qs)
  common_same w s ps qs dp dq np nq g = record { holds = λ xs ys v u r q hv hu e. open_rows r q v u hv hu e }
    where
      cut_rows : (x₁ x₂ y₁ y₂ v u : List Token) {t z : Tree} → Derives rules (side s) x₁ t → Row rules ps x₂ → Derives rules (side s) y₁ z → Row rules qs y₂ → (w ≡ true → v ≡ []) → (w ≡ true → u ≡ []) → Cut x₁ (x₂ ++ v) y₁ (y₂ ++ u) → (w ≡ false) × (x₁ ++ x₂ ≡ y₁ ++ y₂)
      cut_rows x₁ x₂ y₁ y₂ v u d r k q hv hu (same a b) = let m = g.holds x₂ y₂ v u r q hv hu b in (m.0, ap (λ z. z ++ x₂) a ∙ ap (λ z. y₁ ++ z) m.1)
      cut_rows x₁ x₂ y₁ y₂ v u d r k q hv hu (further z m a b) = absurd (no_more w s ps dp np x₂ v r hv z _ b ((meets ok all_apart d k refl tt).0 z m a))
      cut_rows x₁ x₂ y₁ y₂ v u d r k q hv hu (nearer z m a b) = absurd (no_more w s qs dq nq y₂ u q hu z _ b ((meets ok all_apart d k refl tt).1 z m a))

      open_rows : {xs ys : List Token} → Row rules (side s ∷ ps) xs → Row rules (side s ∷ qs) ys → (v u : List Token) → (w ≡ true → v ≡ []) → (w ≡ true → u ≡ []) → xs ++ v ≡ ys ++ u → (w ≡ false) × (xs ≡ ys)
      open_rows (row_more {xs = x₁} {ys = x₂} d r) (row_more {xs = y₁} {ys = y₂} k q) v u hv hu e =
          cut_rows x₁ x₂ y₁ y₂ v u d r k q hv hu (cut x₁ (x₂ ++ v) y₁ (y₂ ++ u) (sym (append_assoc x₁ x₂ v) ∙ e ∙ append_assoc y₁ y₂ u))

  common_parted : (w : Bool) (s t : S) (ps qs : List (Part S)) → in_common rules empty f c num w s t ps qs ≡ true → Parted rules w ps qs → Parted rules w (side s ∷ ps) (side t ∷ qs)
  common_parted w s t ps qs h g =
      let p = and_true (num s == num t) _ h in
      let q = and_true (disjoint (c s) (row_first empty f ps)) _ p.1 in
      let r = and_true (disjoint (c s) (row_first empty f qs)) _ q.1 in
      let n = and_true (w || (not (is_filled (c s)) || not (row_nullable empty f ps))) (w || (not (is_filled (c s)) || not (row_nullable empty f qs))) r.1 in
      subst (λ x. Parted rules w (side s ∷ ps) (side x ∷ qs)) (same_side s t p.0) (common_same w s ps qs q.0 r.0 n.0 n.1 g)

  module _ (go : Bool → List (Part S) → List (Part S) → Bool) (sure : (w : Bool) (ps qs : List (Part S)) → go w ps qs ≡ true → Parted rules w ps qs) (w : Bool) where
    end_parted : (qs : List (Part S)) → on_end rules empty f c num go w qs ≡ true → Parted rules w [] qs
    end_parted [] h = subst (λ b. Parted rules b [] []) (sym (is_false w h)) parted_ends
      where
        is_false : (b : Bool) → not b ≡ true → b ≡ false
        is_false true h = cc
        is_false false h = refl
    end_parted (b ∷ bs) h = parted_swap (sure w (b ∷ bs) [] h)

    word_parted : (a : Part S) (ps qs : List (Part S)) → Steps rules a → on_word rules empty f c num go w (a ∷ ps) ps qs ≡ true → Parted rules w (a ∷ ps) qs
    word_parted a ps [] st h = cc
    word_parted a ps (word cs ∷ bs) st h = parted_words a (word cs) st (λ r xs. of_word_row) (sure w ps bs h)
    word_parted a ps (text cs ∷ bs) st h = parted_words a (text cs) st (λ r xs. of_text_row) (sure w ps bs h)
    word_parted a ps (b ∷ bs) st h = parted_swap (sure w (b ∷ bs) (a ∷ ps) h)

    star_open : (a : Part S) (ps qs : List (Part S)) → (go w ps qs && go w (a ∷ star a ∷ ps) qs) ≡ true → Parted rules w (star a ∷ ps) qs
    star_open a ps qs h = let p = and_true (go w ps qs) (go w (a ∷ star a ∷ ps) qs) h in parted_or qs (λ xs. of_star_row) (sure w ps qs p.0) (sure w (a ∷ star a ∷ ps) qs p.1)

    star_parted : (a : Part S) (ps qs : List (Part S)) → on_star rules empty f c num go w a ps qs ≡ true → Parted rules w (star a ∷ ps) qs
    star_parted a ps (star b ∷ bs) h =
        let p = and_true (go false (a ∷ []) (b ∷ [])) _ h in
        let q = and_true (go w ps bs) _ p.1 in
        let r = and_true (go w ps (b ∷ star b ∷ bs)) (go w (a ∷ star a ∷ ps) bs) q.1 in
        parted_stars a b ps bs (sure false (a ∷ []) (b ∷ []) p.0) (sure w ps bs q.0) (sure w ps (b ∷ star b ∷ bs) r.0) (sure w (a ∷ star a ∷ ps) bs r.1)
    star_parted a ps [] h = star_open a ps [] h
    star_parted a ps (word cs ∷ bs) h = star_open a ps (word cs ∷ bs) h
    star_parted a ps (text cs ∷ bs) h = star_open a ps (text cs ∷ bs) h
    star_parted a ps (b ∷ bs) h = parted_swap (sure w (b ∷ bs) (star a ∷ ps) h)

    side_open : (s : S) (ps qs : List (Part S)) → go w (rules s ∷ ps) qs ≡ true → Parted rules w (side s ∷ ps) qs
    side_open s ps qs h = parted_as qs (λ xs. of_side_row) (sure w (rules s ∷ ps) qs h)

    side_parted : (s : S) (ps qs : List (Part S)) → on_side rules empty f c num go w s ps qs ≡ true → Parted rules w (side s ∷ ps) qs
    side_parted s ps (side t ∷ bs) h = by_test (in_common rules empty f c num w s t ps bs) (λ e. e) h
      where
        by_test : (v : Bool) → (v ≡ true → in_common rules empty f c num w s t ps bs ≡ true) → elim v [ true ↦ go w ps bs | false ↦ go w (rules s ∷ ps) (side t ∷ bs) ] ≡ true → Parted rules w (side s ∷ ps) (side t ∷ bs)
        by_test true is h = common_parted w s t ps bs (is refl) (sure w ps bs h)
        by_test false is h = side_open s ps (side t ∷ bs) h
    side_parted s ps [] h = side_open s ps [] h
    side_parted s ps (word cs ∷ bs) h = side_open s ps (word cs ∷ bs) h
    side_parted s ps (text cs ∷ bs) h = side_open s ps (text cs ∷ bs) h
    side_parted s ps (star b ∷ bs) h = side_open s ps (star b ∷ bs) h
    side_parted s ps (b ∷ bs) h = parted_swap (sure w (b ∷ bs) (side s ∷ ps) h)

    step_parted : (ps qs : List (Part S)) → on_step rules empty f c num go w ps qs ≡ true → Parted rules w ps qs
    step_parted [] qs h = end_parted qs h
    step_parted (nothing ∷ ps) qs h = parted_as qs (λ xs. of_nothing) (sure w ps qs h)
    step_parted (word cs ∷ ps) qs h = word_parted (word cs) ps qs (λ r xs. of_word_row) h
    step_parted (text cs ∷ ps) qs h = word_parted (text cs) ps qs (λ r xs. of_text_row) h
    step_parted (seq a b ∷ ps) qs h = parted_as qs (λ xs. of_seq_row) (sure w (a ∷ b ∷ ps) qs h)
    step_parted (alt a b ∷ ps) qs h = let p = and_true (go w (a ∷ ps) qs) (go w (b ∷ ps) qs) h in parted_or qs (λ xs. of_alt_row) (sure w (a ∷ ps) qs p.0) (sure w (b ∷ ps) qs p.1)
    step_parted (opt a ∷ ps) qs h = let p = and_true (go w ps qs) (go w (a ∷ ps) qs) h in parted_or qs (λ xs. of_opt_row) (sure w ps qs p.0) (sure w (a ∷ ps) qs p.1)
    step_parted (star a ∷ ps) qs h = star_parted a ps qs h
    step_parted (both k a b ∷ ps) qs h = let p = and_true (go w (a ∷ ps) qs) (go w (b ∷ ps) qs) h in parted_or qs (λ xs. of_both_row) (sure w (a ∷ ps) qs p.0) (sure w (b ∷ ps) qs p.1)
    step_parted (side s ∷ ps) qs h = side_parted s ps qs h

  pub steps_parted : (n : ℕ) (w : Bool) (ps qs : List (Part S)) → in_step rules empty f c num n w ps qs ≡ true → Parted rules w ps qs
  steps_parted zero w ps qs h = cc
  steps_parted (suc n) w ps qs h = by_test (steps_parted n) (told_here rules empty f c num w ps qs) (λ e. e) h
    where
      by_test : ((w : Bool) (ps qs : List (Part S)) → in_step rules empty f c num n w ps qs ≡ true → Parted rules w ps qs) → (v : Bool) → (v ≡ true → told_here rules empty f c num w ps qs ≡ true)
          → elim v [ true ↦ true | false ↦ on_step rules empty f c num (in_step rules empty f c num n) w ps qs ] ≡ true → Parted rules w ps qs
      by_test sure true is h = told_parted w ps qs (is refl)
      by_test sure false is h = step_parted (in_step rules empty f c num n) sure w ps qs h

-- each `both` of the part has alternatives that part in n steps
abbrev pub all_in_step : {S : Type 0} → (S → Part S) → (S → Bool) → (S → List ℕ) → (S → List ℕ) → (S → ℕ) → ℕ → Part S → Bool
all_in_step rules empty f c num n a = each_fork (λ k. in_step rules empty f c num n true (k.one ∷ []) (k.other ∷ [])) (forks a)

module _ {S : Type 0} (rules : S → Part S) (empty : S → Bool) (f c l : S → List ℕ) (rounds : ℕ) (all : (s : S) → is_checked rules empty f c l rounds s ≡ true) (all_apart : (s : S) → AllApart rules (rules s))
    (num : S → ℕ) (sides : List S) (back : (s : S) → slice_get sides (num s) ≡ Some s) (n : ℕ) where
  -- alternatives that part in n steps derive no list both
  pub distinct_in_step : (a b : Part S) → in_step rules empty f c num n true (a ∷ []) (b ∷ []) ≡ true → Distinct rules a b
  distinct_in_step a b h =
      let p = steps_parted (tables rules empty f c l rounds all) all_apart num sides back n true (a ∷ []) (b ∷ []) h in
      record { never = λ {xs} {t} {u} d k. (let m = p.holds xs xs [] [] (row_one d) (row_one k) (λ e. refl) (λ e. refl) refl in cc m.0) }

  each_in_step : (ks : List (Fork S)) → each_fork (λ k. in_step rules empty f c num n true (k.one ∷ []) (k.other ∷ [])) ks ≡ true → OfEach (λ k. Distinct rules k.one k.other) ks
  each_in_step [] h = tt
  each_in_step (k ∷ ks) h = let p = and_true (in_step rules empty f c num n true (k.one ∷ []) (k.other ∷ [])) _ h in (distinct_in_step k.one k.other p.0, each_in_step ks p.1)

  pub all_distinct_in_step : (a : Part S) → all_in_step rules empty f c num n a ≡ true → AllDistinct rules a
  all_distinct_in_step a h = each_in_step (forks a) h
