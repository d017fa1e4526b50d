-- A grammar whose tables pass the test is read exactly.
use Rattle.std.proofs.Common.{◌≡◌, ℕ, zero, suc, Bool, true, List, [], ◌∷◌, refl, inl, inr}
use Rattle.sv_grammar.specs.Grammar.{Token, Part, nothing, word, text, seq, alt, opt, star, both, side, Tree, unit, left, right, none, nil, Derives, nothing_is, left_is, right_is, none_is, nil_is, one_is, other_is, side_is, Begins, elem}
use Rattle.sv_grammar.specs.Reading.{Outcome, Exact, subset, implies, first, cont, chars, nullable, fine, makes, nulls_at, firsts_at, made_at, is_checked, AllApart, Reads}
use Rattle.sv_grammar.proofs.Sets.{and_true, or_true, elem-subset, implied}
use Rattle.sv_grammar.proofs.Theory.{Checked}
use Rattle.sv_grammar.proofs.Exactly.{Live, word_made, text_made, nullable_has, begins_in_first, then_some, exact}

record Sound {S : Type 0} (rules : S → Part S) (empty : S → Bool) (f c l : S → List ℕ) (n : ℕ) (s : S) : Type 0 where
  pub firsts : subset (first empty f (rules s)) (f s) ≡ true
  pub conts : subset (cont empty f c (rules s)) (c s) ≡ true
  pub all_chars : subset (chars l (rules s)) (l s) ≡ true
  pub nulls : implies (nullable empty (rules s)) (empty s) ≡ true
  pub is_fine : fine empty f c (rules s) ≡ true
  pub empties : implies (empty s) (nulls_at rules n s) ≡ true
  pub starts : subset (f s) (firsts_at rules empty n s) ≡ true
  pub made : made_at rules n s ≡ true

module _ {S : Type 0} (rules : S → Part S) (empty : S → Bool) (f c l : S → List ℕ) (n : ℕ) where
  sound : (s : S) → is_checked rules empty f c l n s ≡ true → Sound rules empty f c l n s
  unfolding is_checked
  sound s h =
      let p₁ = and_true (subset (first empty f (rules s)) (f s)) _ h in
      let p₂ = and_true (subset (cont empty f c (rules s)) (c s)) _ p₁.1 in
      let p₃ = and_true (subset (chars l (rules s)) (l s)) _ p₂.1 in
      let p₄ = and_true (implies (nullable empty (rules s)) (empty s)) _ p₃.1 in
      let p₅ = and_true (fine empty f c (rules s)) _ p₄.1 in
      let p₆ = and_true (implies (empty s) (nulls_at rules n s)) _ p₅.1 in
      let p₇ = and_true (subset (f s) (firsts_at rules empty n s)) (made_at rules n s) p₆.1 in
      record { firsts = p₁.0; conts = p₂.0; all_chars = p₃.0; nulls = p₄.0; is_fine = p₅.0; empties = p₆.0; starts = p₇.0; made = p₇.1 }

  -- tables that pass the test are right
  pub tables : ((s : S) → is_checked rules empty f c l n s ≡ true) → Checked rules empty f c l
  tables all =
      let all_sound : (s : S) → Sound rules empty f c l n s = λ s. sound s (all s) in
      record { firsts = λ s. (all_sound s).firsts; conts = λ s. (all_sound s).conts; all_chars = λ s. (all_sound s).all_chars; nulls = λ s. (all_sound s).nulls; all_fine = λ s. (all_sound s).is_fine }

module _ {S : Type 0} (rules : S → Part S) where
  made_by : (m : S → Bool) → ((s : S) → m s ≡ true → Begins rules (side s) []) → (a : Part S) → makes m a ≡ true → Begins rules a []
  made_by m all nothing h = ([], unit, nothing_is)
  made_by m all (word cs) h = word_made rules cs h
  made_by m all (text cs) h = text_made rules cs h
  made_by m all (seq a b) h = let p = and_true (makes m a) (makes m b) h in then_some rules a b [] (made_by m all a p.0) (made_by m all b p.1)
  made_by m all (alt a b) h = elim (or_true (makes m a) (makes m b) h) [
    | inl e ↦ (let d = made_by m all a e in (d.0, left d.1, left_is d.2))
    | inr e ↦ (let d = made_by m all b e in (d.0, right d.1, right_is d.2))
  ]
  made_by m all (opt a) h = ([], none, none_is)
  made_by m all (star a) h = ([], nil, nil_is)
  made_by m all (both k a b) h = elim (or_true (makes m a) (makes m b) h) [
    | inl e ↦ (let d = made_by m all a e in (d.0, left d.1, one_is d.2))
    | inr e ↦ (let d = made_by m all b e in (d.0, right d.1, other_is d.2))
  ]
  made_by m all (side s) h = all s h

  made_all : (n : ℕ) (s : S) → made_at rules n s ≡ true → Begins rules (side s) []
  unfolding made_at
  made_all zero s h = cc
  made_all (suc n) s h = let d = made_by (made_at rules n) (made_all n) (rules s) h in (d.0, _, side_is d.2)

  nulls_all : (n : ℕ) (s : S) → nulls_at rules n s ≡ true → (t : Tree) × Derives rules (side s) [] t
  unfolding nulls_at
  nulls_all zero s h = cc
  nulls_all (suc n) s h = let d = nullable_has rules (nulls_all n) (rules s) h in (_, side_is d.1)

  starts_all : (empty : S → Bool) (f c : S → List ℕ) → ((s : S) → fine empty f c (rules s) ≡ true) → ((s : S) → Begins rules (side s) []) → ((s : S) → empty s ≡ true → (t : Tree) × Derives rules (side s) [] t)
      → (n : ℕ) (s : S) (k : Token) → elem k.class (firsts_at rules empty n s) ≡ true → Begins rules (side s) (k ∷ [])
  unfolding firsts_at
  starts_all empty f c all_fine made empties zero s k h = cc
  starts_all empty f c all_fine made empties (suc n) s k h =
      let d = begins_in_first {rules = rules} {empty = empty} {g = firsts_at rules empty n} (record { made = made; empties = empties; starts = starts_all empty f c all_fine made empties n }) f c (rules s) (all_fine s) k h in
      (d.0, _, side_is d.2)

module _ {S : Type 0} (rules : S → Part S) (empty : S → Bool) (f c l : S → List ℕ) (n : ℕ) (all : (s : S) → is_checked rules empty f c l n s ≡ true) where
  live : Live rules empty f
  live =
      let all_sound : (s : S) → Sound rules empty f c l n s = λ s. sound rules empty f c l n s (all s) in
      let made : (s : S) → Begins rules (side s) [] = λ s. made_all rules n s (all_sound s).made in
      let empties : (s : S) → empty s ≡ true → (t : Tree) × Derives rules (side s) [] t = λ s h. nulls_all rules n s (implied (empty s) (nulls_at rules n s) (all_sound s).empties h) in
      record { made = made; empties = empties; starts = λ s k h. starts_all rules empty f c (λ s. (all_sound s).is_fine) made empties n s k (elem-subset k.class (f s) (firsts_at rules empty n s) (all_sound s).starts h) }

  -- what is read by rules whose tables are right, and whose alternatives are apart, is exact
  pub reads_exactly : ((s : S) → AllApart rules (rules s)) → (s : S) (ts : List Token) (o : Outcome) → Reads rules empty f (side s) ts o → Exact rules (side s) ts o
  reads_exactly all_apart s ts o d = exact (tables rules empty f c l n all) live all_apart d (refl, tt)

  -- the same of any part
  pub part_exactly : ((s : S) → AllApart rules (rules s)) → (a : Part S) → fine empty f c a ≡ true → AllApart rules a
      → (ts : List Token) (o : Outcome) → Reads rules empty f a ts o → Exact rules a ts o
  part_exactly all_apart a is_fine apart ts o d = exact (tables rules empty f c l n all) live all_apart d (is_fine, apart)
