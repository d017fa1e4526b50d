-- In a checked grammar a list of tokens has at most one tree.
use Rattle.std.proofs.Common.{◌≡◌, ℕ, Bool, true, not, List, [], ◌++◌, refl, sym, ap}
use Rattle.sv_grammar.specs.Grammar.{Token, Part, alt, star, side, Tree, leaf, left, right, some, Derives, nothing_is, word_is, text_is, seq_is, left_is, right_is, none_is, some_is, nil_is, cons_is, one_is, other_is, side_is, extent_of}
use Rattle.sv_grammar.specs.Reading.{nullable, first, cont, disjoint, is_checked, Distinct, forks, OfEach, AllApart, AllDistinct}
use Rattle.sv_grammar.proofs.Sets.{not_true, elem-disjoint, each_left, each_right, Cut, same, further, nearer, cut, empty_two}
use Rattle.sv_grammar.proofs.Theory.{Checked, Fine, seq_fine, alt_fine, opt_fine, star_fine, both_fine, apart_left, apart_right, nullable_if, first_if, unlike, meets}
use Rattle.sv_grammar.proofs.Checks.{tables}
use Rattle.sv_grammar.proofs.Exactly.{along}

distinct_left : {S : Type 0} (rules : S → Part S) (a b : Part S) → OfEach (λ k. Distinct rules k.one k.other) (forks a ++ forks b) → AllDistinct rules a
distinct_left rules a b r = each_left (λ k. Distinct rules k.one k.other) (forks a) (forks b) r

distinct_right : {S : Type 0} (rules : S → Part S) (a b : Part S) → OfEach (λ k. Distinct rules k.one k.other) (forks a ++ forks b) → AllDistinct rules b
distinct_right rules a b r = each_right (λ k. Distinct rules k.one k.other) (forks a) (forks b) r

module _ {S : Type 0} {rules : S → Part S} {empty : S → Bool} {f c l : S → List ℕ} (ok : Checked rules empty f c l) (all_apart : (s : S) → AllApart rules (rules s)) (all_distinct : (s : S) → AllDistinct rules (rules s)) where
  -- two parts in a row cut a list in one way only
  pub one_cut : (a b : Part S) {xs₁ ys₁ xs₂ ys₂ : List Token} {t₁ t₂ u₁ u₂ : Tree} → Fine ok a → AllApart rules a → disjoint (cont empty f c a) (first empty f b) ≡ true
      → Derives rules a xs₁ t₁ → Derives rules b ys₁ u₁ → Derives rules a xs₂ t₂ → Derives rules b ys₂ u₂
      → xs₁ ++ ys₁ ≡ xs₂ ++ ys₂ → (xs₁ ≡ xs₂) × (ys₁ ≡ ys₂)
  one_cut a b {xs₁} {ys₁} {xs₂} {ys₂} h r apart d₁ k₁ d₂ k₂ e = by_cut (cut xs₁ ys₁ xs₂ ys₂ e)
    where
      by_cut : Cut xs₁ ys₁ xs₂ ys₂ → (xs₁ ≡ xs₂) × (ys₁ ≡ ys₂)
      by_cut (same p q) = (p, q)
      by_cut (further z m p q) = absurd (elem-disjoint z.class (cont empty f c a) (first empty f b) apart ((meets ok all_apart d₁ d₂ h r).0 z m p) (first_if ok k₁ z _ q))
      by_cut (nearer z m p q) = absurd (elem-disjoint z.class (cont empty f c a) (first empty f b) apart ((meets ok all_apart d₁ d₂ h r).1 z m p) (first_if ok k₂ z _ q))

  -- two parts that begin with different tokens derive no list both
  never_both : (a b : Part S) {xs ys : List Token} {t u : Tree} → Fine ok (alt a b) → Derives rules a xs t → Derives rules b ys u → xs ≡ ys → ⊥
  never_both a b {xs} {ys} h d k e = let p = alt_fine ok a b h in unlike ok a b p.2 p.3 p.4 d k [] [] (ap (λ w. w ++ []) e)

  not_nothing : (a : Part S) {xs : List Token} {t : Tree} → not (nullable empty a) ≡ true → Derives rules a xs t → xs ≡ [] → ⊥
  not_nothing a n d e = not_true (nullable empty a) n (nullable_if ok d e)

  pub same_tree : {a : Part S} {xs ys : List Token} {t u : Tree} → Derives rules a xs t → Derives rules a ys u → xs ≡ ys → Fine ok a → AllApart rules a → AllDistinct rules a → t ≡ u
  same_tree nothing_is nothing_is e h r o = refl
  same_tree (word_is p) (word_is q) e h r o = refl
  same_tree (text_is {k} p) (text_is {k = j} q) e h r o = let same_k : k ≡ j = cc in ap (λ k. leaf k.text) same_k
  same_tree (seq_is {a} {b} d₁ k₁) (seq_is d₂ k₂) e h r o =
      let p = seq_fine ok a b h in
      let q = one_cut a b p.0 (apart_left rules a b r) p.2 d₁ k₁ d₂ k₂ e in
      let m = same_tree d₁ d₂ q.0 p.0 (apart_left rules a b r) (distinct_left rules a b o) in
      let n = same_tree k₁ k₂ q.1 p.1 (apart_right rules a b r) (distinct_right rules a b o) in
      cc (m, n)
  same_tree (left_is {a} {b} d) (left_is k) e h r o = ap left (same_tree d k e (alt_fine ok a b h).0 (apart_left rules a b r) (distinct_left rules a b o))
  same_tree (left_is {a} {b} d) (right_is k) e h r o = absurd (never_both a b h d k e)
  same_tree (right_is {a} {b} d) (left_is k) e h r o = absurd (never_both a b h k d (sym e))
  same_tree (right_is {a} {b} d) (right_is k) e h r o = ap right (same_tree d k e (alt_fine ok a b h).1 (apart_right rules a b r) (distinct_right rules a b o))
  same_tree none_is none_is e h r o = refl
  same_tree (none_is {a}) (some_is k) e h r o = absurd (not_nothing a (opt_fine ok a h).1 k (sym e))
  same_tree (some_is {a} d) none_is e h r o = absurd (not_nothing a (opt_fine ok a h).1 d e)
  same_tree (some_is {a} d) (some_is k) e h r o = ap some (same_tree d k e (opt_fine ok a h).0 r o)
  same_tree nil_is nil_is e h r o = refl
  same_tree (nil_is {a}) (cons_is {xs} {ys} d k) e h r o = absurd (not_nothing a (star_fine ok a h).1 d (empty_two xs ys (sym e)).0)
  same_tree (cons_is {a} {xs} {ys} d k) nil_is e h r o = absurd (not_nothing a (star_fine ok a h).1 d (empty_two xs ys e).0)
  same_tree (cons_is {a} d₁ k₁) (cons_is d₂ k₂) e h r o =
      let p = star_fine ok a h in
      let q = one_cut a (star a) p.0 r p.3 d₁ k₁ d₂ k₂ e in
      let m = same_tree d₁ d₂ q.0 p.0 r o in
      let n = same_tree k₁ k₂ q.1 h r o in
      cc (m, n)
  same_tree (one_is {cs} {a} {b} d) (one_is k) e h r o = ap left (same_tree d k e (both_fine ok cs a b h).0 (apart_left rules a b r.1) (distinct_left rules a b o.1))
  same_tree (one_is {cs} {a} {b} d) (other_is k) e h r o = absurd (o.0.never (along rules a e d) k)
  same_tree (other_is {cs} {a} {b} d) (one_is k) e h r o = absurd (o.0.never k (along rules b e d))
  same_tree (other_is {cs} {a} {b} d) (other_is k) e h r o = ap right (same_tree d k e (both_fine ok cs a b h).1 (apart_right rules a b r.1) (distinct_right rules a b o.1))
  same_tree (side_is {s} d) (side_is k) e h r o =
      let m = same_tree d k e (ok.all_fine s) (all_apart s) (all_distinct s) in
      cc (ap extent_of e, m)

-- Where tables are right, alternatives are apart, and no list is derived by both alternatives of a
-- `both`, a list of tokens has at most one tree.
pub one_tree : {S : Type 0} (rules : S → Part S) (empty : S → Bool) (f c l : S → List ℕ) (n : ℕ) → ((s : S) → is_checked rules empty f c l n s ≡ true)
    → ((s : S) → AllApart rules (rules s)) → ((s : S) → AllDistinct rules (rules s))
    → {s : S} {xs : List Token} {t u : Tree} → Derives rules (side s) xs t → Derives rules (side s) xs u → t ≡ u
one_tree rules empty f c l n all all_apart all_distinct d k = same_tree (tables rules empty f c l n all) all_apart all_distinct d k refl refl tt tt
