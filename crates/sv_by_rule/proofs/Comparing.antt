-- Congruence: the arguments that differ, by number and as trees.
use Rattle.std.proofs.Common.{ℕ, suc, ◌<◌, Bool, true, false, cond, nat_eq, List, [], ◌∷◌, ◌≡◌, ◌↔◌, length, map, drop, get_or, drop-cons, add-one, length-drop, IsTrue, ◌+◌, refl, sym, ap, ◌∙◌, subst, arith}
use Rattle.std.proofs.lemmas.Bool.Decides.{Decides-eqb}
use Rattle.sv_term.specs.Terms.{Term, Eq, same_term}
use Rattle.sv_term.specs.FactRules.{Fact, Says, differing}
use Rattle.sv_term.proofs.Same.{term_is, term_self}
use Rattle.sv_log.specs.Logs.{AreFacts, nth_term, nth_terms}
use Rattle.sv_force.specs.InForce.{Held}
use Rattle.sv_branch.specs.BranchTrees.{item_of}
use Rattle.sv_pattern.specs.TermKinds.{AreApart}
use Rattle.sv_by_rule.specs.ItemFacts.{AreEqual, IsEquationAt, IsComparing}

drop_whole : (xs : List ℕ) → drop (length xs) xs ≡ []
drop_whole [] = refl
drop_whole (x ∷ xs) = drop_whole xs

module _ (ts : List Term) (items : List Held) where
  differ_same : (x y : ℕ) (xs ys : List ℕ) → x ≡ y → differing (nth_terms ts (x ∷ xs)) (nth_terms ts (y ∷ ys)) ≡ differing (nth_terms ts xs) (nth_terms ts ys)
  differ_same x y xs ys e =
      let own : same_term (nth_term ts x) (nth_term ts y) ≡ true = subst (λ j. same_term (nth_term ts x) (nth_term ts j) ≡ true) e (term_self (nth_term ts x)) in
      ap (λ b. cond b (differing (nth_terms ts xs) (nth_terms ts ys)) (Says true (Eq (nth_term ts x) (nth_term ts y)) ∷ differing (nth_terms ts xs) (nth_terms ts ys))) own

  apart_false : AreApart ts → (x y : ℕ) → x < length ts → y < length ts → (x ≡ y → ⊥) → same_term (nth_term ts x) (nth_term ts y) ≡ false
  apart_false apart x y l m n = go (same_term (nth_term ts x) (nth_term ts y)) refl
    where
      go : (b : Bool) → same_term (nth_term ts x) (nth_term ts y) ≡ b → b ≡ false
      go true e = absurd (n (apart x y l m (term_is (nth_term ts x) (nth_term ts y) e)))
      go false e = refl

  differ_other : AreApart ts → (x y : ℕ) (xs ys : List ℕ) → x < length ts → y < length ts → (x ≡ y → ⊥)
      → differing (nth_terms ts (x ∷ xs)) (nth_terms ts (y ∷ ys)) ≡ Says true (Eq (nth_term ts x) (nth_term ts y)) ∷ differing (nth_terms ts xs) (nth_terms ts ys)
  differ_other apart x y xs ys l m n =
      ap (λ b. cond b (differing (nth_terms ts xs) (nth_terms ts ys)) (Says true (Eq (nth_term ts x) (nth_term ts y)) ∷ differing (nth_terms ts xs) (nth_terms ts ys))) (apart_false apart x y l m n)

  abbrev pub Facts : List ℕ → List Fact → Type 0
  Facts from fs = AreFacts (map (item_of ts) items) from fs

  pub passes_same : (x y : ℕ) (xs ys left : List ℕ) → x ≡ y → AreEqual ts items left (x ∷ xs) (y ∷ ys) ↔ AreEqual ts items left xs ys
  passes_same x y xs ys left e = (
    λ d. (let l = d.0 in omega (arith, l), subst (Facts left) (differ_same x y xs ys e) d.1),
    λ d. (ap suc d.0, subst (Facts left) (sym (differ_same x y xs ys e)) d.1),
  )

  pub passes_other : AreApart ts → (x y : ℕ) (xs ys : List ℕ) (k : ℕ) (left : List ℕ) → x < length ts → y < length ts → (x ≡ y → ⊥) → IsEquationAt ts items k x y
      → AreEqual ts items (k ∷ left) (x ∷ xs) (y ∷ ys) ↔ AreEqual ts items left xs ys
  passes_other apart x y xs ys k left l m n e = (
    λ d. (let s = d.0 in omega (arith, s), (subst (Facts (k ∷ left)) (differ_other apart x y xs ys l m n) d.1).1),
    λ d. (ap suc d.0, subst (Facts (k ∷ left)) (sym (differ_other apart x y xs ys l m n)) (e, d.1)),
  )

  pub stops_other : AreApart ts → (x y : ℕ) (xs ys : List ℕ) (k : ℕ) (left : List ℕ) → x < length ts → y < length ts → (x ≡ y → ⊥) → (IsEquationAt ts items k x y → ⊥)
      → AreEqual ts items (k ∷ left) (x ∷ xs) (y ∷ ys) → ⊥
  stops_other apart x y xs ys k left l m n e d = e (subst (Facts (k ∷ left)) (differ_other apart x y xs ys l m n) d.1).0

  pub stops_end : AreApart ts → (x y : ℕ) (xs ys : List ℕ) → x < length ts → y < length ts → (x ≡ y → ⊥) → AreEqual ts items [] (x ∷ xs) (y ∷ ys) → ⊥
  stops_end apart x y xs ys l m n d = subst (Facts []) (differ_other apart x y xs ys l m n) d.1

  -- ---- by places

  split_at : (i : ℕ) (xs : List ℕ) → i < length xs → drop i xs ≡ get_or xs i 0 ∷ drop (i + 1) xs
  split_at i xs l = drop-cons xs i 0 l ∙ ap (λ j. get_or xs i 0 ∷ drop j xs) (sym (add-one i))

  module _ (apart : AreApart ts) (from xs ys : List ℕ) (taken i : ℕ) (c : IsComparing ts items from xs ys taken i) (l : i < length xs) where
    m : i < length ys
    m = let s = c.sizes in omega (arith, l, s)

    abbrev pub At : List ℕ → Type 0
    At left = AreEqual ts items left (drop i xs) (drop i ys)

    opened : (left : List ℕ) → At left → AreEqual ts items left (get_or xs i 0 ∷ drop (i + 1) xs) (get_or ys i 0 ∷ drop (i + 1) ys)
    opened left d = subst (λ us. AreEqual ts items left us (get_or ys i 0 ∷ drop (i + 1) ys)) (split_at i xs l) (subst (λ us. AreEqual ts items left (drop i xs) us) (split_at i ys m) d)

    closed : (left : List ℕ) → AreEqual ts items left (get_or xs i 0 ∷ drop (i + 1) xs) (get_or ys i 0 ∷ drop (i + 1) ys) → At left
    closed left d = subst (λ us. AreEqual ts items left us (drop i ys)) (sym (split_at i xs l)) (subst (λ us. AreEqual ts items left (get_or xs i 0 ∷ drop (i + 1) xs) us) (sym (split_at i ys m)) d)

    pub compare_same : get_or xs i 0 ≡ get_or ys i 0 → IsComparing ts items from xs ys taken (i + 1)
    compare_same e =
        let p = passes_same (get_or xs i 0) (get_or ys i 0) (drop (i + 1) xs) (drop (i + 1) ys) (drop taken from) e in
        record {
          same = (λ d. p.0 (opened (drop taken from) (c.same.0 d)), λ d. c.same.1 (closed (drop taken from) (p.1 d)));
          sizes = c.sizes;
          taken_there = c.taken_there;
        }

    module _ (a : get_or xs i 0 < length ts) (b : get_or ys i 0 < length ts) (n : get_or xs i 0 ≡ get_or ys i 0 → ⊥) where
      pub compare_other : taken < length from → IsEquationAt ts items (get_or from taken 0) (get_or xs i 0) (get_or ys i 0) → IsComparing ts items from xs ys (taken + 1) (i + 1)
      compare_other t e =
          let p = passes_other apart (get_or xs i 0) (get_or ys i 0) (drop (i + 1) xs) (drop (i + 1) ys) (get_or from taken 0) (drop (taken + 1) from) a b n e in
          record {
            same = (
              λ d. p.0 (subst (λ left. AreEqual ts items left (get_or xs i 0 ∷ drop (i + 1) xs) (get_or ys i 0 ∷ drop (i + 1) ys)) (split_at taken from t) (opened (drop taken from) (c.same.0 d))),
              λ d. c.same.1 (closed (drop taken from) (subst (λ left. AreEqual ts items left (get_or xs i 0 ∷ drop (i + 1) xs) (get_or ys i 0 ∷ drop (i + 1) ys)) (sym (split_at taken from t)) (p.1 d))),
            );
            sizes = c.sizes;
            taken_there = omega (arith, t);
          }

      pub compare_stops : taken < length from → (IsEquationAt ts items (get_or from taken 0) (get_or xs i 0) (get_or ys i 0) → ⊥) → AreEqual ts items from xs ys → ⊥
      compare_stops t e d =
          stops_other apart (get_or xs i 0) (get_or ys i 0) (drop (i + 1) xs) (drop (i + 1) ys) (get_or from taken 0) (drop (taken + 1) from) a b n e
          (subst (λ left. AreEqual ts items left (get_or xs i 0 ∷ drop (i + 1) xs) (get_or ys i 0 ∷ drop (i + 1) ys)) (split_at taken from t) (opened (drop taken from) (c.same.0 d)))

      pub compare_ends : taken ≡ length from → AreEqual ts items from xs ys → ⊥
      compare_ends t d =
          let none : drop taken from ≡ [] = ap (λ j. drop j from) t ∙ drop_whole from in
          stops_end apart (get_or xs i 0) (get_or ys i 0) (drop (i + 1) xs) (drop (i + 1) ys) a b n
          (subst (λ left. AreEqual ts items left (get_or xs i 0 ∷ drop (i + 1) xs) (get_or ys i 0 ∷ drop (i + 1) ys)) none (opened (drop taken from) (c.same.0 d)))

  no_more : (left : List ℕ) → Facts left [] → left ≡ []
  no_more [] h = refl
  no_more (k ∷ ks) h = absurd h

  pub compare_done : (from xs ys : List ℕ) (taken i : ℕ) → IsComparing ts items from xs ys taken i → i ≡ length xs → IsTrue (nat_eq taken (length from)) ↔ AreEqual ts items from xs ys
  compare_done from xs ys taken i c e =
      let first : drop i xs ≡ [] = ap (λ j. drop j xs) e ∙ drop_whole xs in
      let second : drop i ys ≡ [] = ap (λ j. drop j ys) (e ∙ c.sizes) ∙ drop_whole ys in (
        λ t.
            let all : taken ≡ length from = (Decides-eqb taken (length from)).0 t in
            let none : drop taken from ≡ [] = ap (λ j. drop j from) all ∙ drop_whole from in
            let done : AreEqual ts items [] [] [] = (refl, tt) in
            c.same.1 (subst (λ left. AreEqual ts items left (drop i xs) (drop i ys)) (sym none)
            (subst (λ us. AreEqual ts items [] us (drop i ys)) (sym first) (subst (λ us. AreEqual ts items [] [] us) (sym second) done))),
        λ d.
            let rest = subst (λ us. AreEqual ts items (drop taken from) us []) first (subst (λ us. AreEqual ts items (drop taken from) (drop i xs) us) second (c.same.0 d)) in
            let none : drop taken from ≡ [] = no_more (drop taken from) rest.1 in
            let sized : length (drop taken from) ≡ 0 = ap length none in
            let there = c.taken_there in
            (Decides-eqb taken (length from)).1 (omega (arith, sized, there, length-drop taken from)),
      )
