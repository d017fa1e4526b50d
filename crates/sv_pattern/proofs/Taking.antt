-- What each step of a pattern asks of numbers is what it asks of their trees.
use Rattle.std.proofs.Common.{Option, Some, None, MatchOption, ℕ, zero, suc, ◌+◌, ◌<◌, ◌≤◌, Bool, true, false, IsTrue, List, [], ◌∷◌, ◌++◌, ◌≡◌, ◌↔◌, length, map, slice_get, refl, sym, ap, ap₂, ◌∙◌, subst, arith}
use Rattle.std.specs.List.{All}
use Rattle.std.proofs.lemmas.Option.{none-some, same_Some}
use Rattle.std.proofs.lemmas.List.{length-append}
use Rattle.std.proofs.lemmas.List.Elements.{All-append, All-push, All-head, All-tail}
use Rattle.sv_term.specs.Terms.{Shape, Term, App, Terms, End, More, one, two, three, sort_of}
use Rattle.sv_term.specs.FactRules.{Fact, Says, in_range}
use Rattle.sv_log.specs.Logs.{nth_term, nth_terms}
use Rattle.sv_pattern.specs.TermKinds.{shape_by}
use Rattle.sv_pattern.specs.Patterns.{Follows, HasProperty, AreRelated, signed, fact_by, facts_by, trees_by}
use Rattle.sv_pattern.specs.NodeOpenings.{AreBelow, ArePremises, IsOpened, IsNotOpened, IsReady, Fails, Passes, IsBehind, IsNotBehind, IsNoPremise}
use Rattle.sv_pattern.specs.declared.numbers.Name.{Name}
use Rattle.sv_pattern.specs.declared.step.Sign.{Sign}
use Rattle.sv_pattern.specs.declared.step.Property.{Property}
use Rattle.sv_pattern.specs.declared.step.Relation.{Relation}
use Rattle.sv_pattern.specs.declared.step.Step.{Step}
use Rattle.sv_pattern.specs.declared.step.Step.TheVariants.{Concludes, Premise, One, Two, Three, Is, Are, InRange}
use Rattle.sv_pattern.proofs.NumberedTrees.{named_at, trees_added, same_back}

pub weaker : {X A B : Type 0} (P Q : X → Type 0) (o : Option X) → MatchOption o A P → (A → B) → ((x : X) → P x → Q x) → MatchOption o B Q
weaker P Q None h f g = f h
weaker P Q (Some x) h f g = g x h

module _ (ts : List Term) (sign : Bool) where
  -- the trees that follow from longer lists of names
  moved : (more : List Step) (fs : List Fact) (us vs : List Term) → us ≡ vs → Follows more sign fs us → Follows more sign fs vs
  moved more fs us vs e f = subst (λ x. Follows more sign fs x) e f

  -- ---- opening

  found_args : (ns : List ℕ) (k : ℕ) (x : Name) (n : ℕ) (us vs : Terms) → slice_get ns k ≡ Some n → nth_term ts n ≡ App (shape_by x) vs → slice_get (trees_by ts ns) k ≡ Some (App (shape_by x) us) → us ≡ vs
  found_args ns k x n us vs there is e = let own = named_at ts ns k n there in cc

  seen_args : (ns : List ℕ) (k : ℕ) (x : Name) (n : ℕ) (vs : Terms) → slice_get ns k ≡ Some n → nth_term ts n ≡ App (shape_by x) vs → slice_get (trees_by ts ns) k ≡ Some (App (shape_by x) vs)
  seen_args ns k x n vs there is = named_at ts ns k n there ∙ ap (λ t. Some t) is

  module _ (ns : List ℕ) (k : ℕ) (x : Name) (ps : List (Bool × ℕ)) where
    pub fails_one : IsNotOpened ts ns k x 1 → Fails ts sign (One k x) ps ns
    fails_one h = record { none = λ more f. h.none (More f.0 End) f.1 refl }

    pub fails_two : IsNotOpened ts ns k x 2 → Fails ts sign (Two k x) ps ns
    fails_two h = record { none = λ more f. h.none (More f.0 (More f.1 End)) f.2 refl }

    pub fails_three : IsNotOpened ts ns k x 3 → Fails ts sign (Three k x) ps ns
    fails_three h = record { none = λ more f. h.none (More f.0 (More f.1 (More f.2 End))) f.3 refl }

    module _ (new : List ℕ) (p : ArePremises ts ps) (b : AreBelow ts ns) where
      pub passes_one : IsOpened ts ns k x 1 new → Passes ts sign (One k x) ps ns ps new
      passes_one h = go h.args h.counted h.is h.below h.added
        where
          go : (args : List ℕ) → length args ≡ 1 → nth_term ts h.n ≡ App (shape_by x) (nth_terms ts args) → AreBelow ts args → new ≡ ns ++ args → Passes ts sign (One k x) ps ns ps new
          go [] l e w s = absurd (omega (arith, l))
          go (a ∷ []) l e w s =
              let all : trees_by ts new ≡ trees_by ts ns ++ nth_term ts a ∷ [] = ap (trees_by ts) s ∙ trees_added ts ns (a ∷ []) in
              record {
                same = λ more. (
                  λ f.
                      let own = found_args ns k x h.n (More f.0 End) (nth_terms ts (a ∷ [])) h.there e f.1 in
                      let first : f.0 ≡ nth_term ts a = cc own in
                      moved more (facts_by ts ps) _ _ (ap (λ t. trees_by ts ns ++ t ∷ []) first ∙ sym all) f.2,
                  λ f. (nth_term ts a, seen_args ns k x h.n (nth_terms ts (a ∷ [])) h.there e, moved more (facts_by ts ps) _ _ all f),
                );
                premises = p;
                terms = subst (AreBelow ts) (sym s) (All-append (λ m. m < length ts) ns (a ∷ []) b w);
                room = omega (arith, ap length s, length-append ns (a ∷ []));
              }
          go (a ∷ c ∷ more) l e w s = absurd (omega (arith, l))

      pub passes_two : IsOpened ts ns k x 2 new → Passes ts sign (Two k x) ps ns ps new
      passes_two h = go h.args h.counted h.is h.below h.added
        where
          go : (args : List ℕ) → length args ≡ 2 → nth_term ts h.n ≡ App (shape_by x) (nth_terms ts args) → AreBelow ts args → new ≡ ns ++ args → Passes ts sign (Two k x) ps ns ps new
          go [] l e w s = absurd (omega (arith, l))
          go (a ∷ []) l e w s = absurd (omega (arith, l))
          go (a ∷ c ∷ []) l e w s =
              let all : trees_by ts new ≡ trees_by ts ns ++ nth_term ts a ∷ nth_term ts c ∷ [] = ap (trees_by ts) s ∙ trees_added ts ns (a ∷ c ∷ []) in
              record {
                same = λ more. (
                  λ f.
                      let own = found_args ns k x h.n (More f.0 (More f.1 End)) (nth_terms ts (a ∷ c ∷ [])) h.there e f.2 in
                      let first : f.0 ≡ nth_term ts a = cc own in
                      let second : f.1 ≡ nth_term ts c = cc own in
                      moved more (facts_by ts ps) _ _ (ap₂ (λ t u. trees_by ts ns ++ t ∷ u ∷ []) first second ∙ sym all) f.3,
                  λ f. (nth_term ts a, nth_term ts c, seen_args ns k x h.n (nth_terms ts (a ∷ c ∷ [])) h.there e, moved more (facts_by ts ps) _ _ all f),
                );
                premises = p;
                terms = subst (AreBelow ts) (sym s) (All-append (λ m. m < length ts) ns (a ∷ c ∷ []) b w);
                room = omega (arith, ap length s, length-append ns (a ∷ c ∷ []));
              }
          go (a ∷ c ∷ d ∷ more) l e w s = absurd (omega (arith, l))

      pub passes_three : IsOpened ts ns k x 3 new → Passes ts sign (Three k x) ps ns ps new
      passes_three h = go h.args h.counted h.is h.below h.added
        where
          go : (args : List ℕ) → length args ≡ 3 → nth_term ts h.n ≡ App (shape_by x) (nth_terms ts args) → AreBelow ts args → new ≡ ns ++ args → Passes ts sign (Three k x) ps ns ps new
          go [] l e w s = absurd (omega (arith, l))
          go (a ∷ []) l e w s = absurd (omega (arith, l))
          go (a ∷ c ∷ []) l e w s = absurd (omega (arith, l))
          go (a ∷ c ∷ d ∷ []) l e w s =
              let all : trees_by ts new ≡ trees_by ts ns ++ nth_term ts a ∷ nth_term ts c ∷ nth_term ts d ∷ [] = ap (trees_by ts) s ∙ trees_added ts ns (a ∷ c ∷ d ∷ []) in
              record {
                same = λ more. (
                  λ f.
                      let own = found_args ns k x h.n (More f.0 (More f.1 (More f.2 End))) (nth_terms ts (a ∷ c ∷ d ∷ [])) h.there e f.3 in
                      let first : f.0 ≡ nth_term ts a = cc own in
                      let second : f.1 ≡ nth_term ts c = cc own in
                      let third : f.2 ≡ nth_term ts d = cc own in
                      let each : trees_by ts ns ++ f.0 ∷ f.1 ∷ f.2 ∷ [] ≡ trees_by ts ns ++ nth_term ts a ∷ nth_term ts c ∷ nth_term ts d ∷ [] = cc (first, second, third) in
                      moved more (facts_by ts ps) _ _ (each ∙ sym all) f.4,
                  λ f. (nth_term ts a, nth_term ts c, nth_term ts d, seen_args ns k x h.n (nth_terms ts (a ∷ c ∷ d ∷ [])) h.there e, moved more (facts_by ts ps) _ _ all f),
                );
                premises = p;
                terms = subst (AreBelow ts) (sym s) (All-append (λ m. m < length ts) ns (a ∷ c ∷ d ∷ []) b w);
                room = omega (arith, ap length s, length-append ns (a ∷ c ∷ d ∷ []));
              }
          go (a ∷ c ∷ d ∷ g ∷ more) l e w s = absurd (omega (arith, l))

  -- ---- premises

  pub fails_premise : (s : Sign) (ps : List (Bool × ℕ)) (ns : List ℕ) → IsNoPremise (signed s sign) ps → Fails ts sign (Premise s) ps ns
  fails_premise s [] ns h = record { none = λ more f. let e = f.2 in cc }
  fails_premise s (p ∷ ps) ns h = record {
    none = λ more f.
        let e = f.2 in
        let own : p.0 ≡ signed s sign = cc in
        h.none p.1 ps (ap (λ (b : Bool). (b, p.1) ∷ ps) own);
  }

  passed_premise : (s : Sign) (n : ℕ) (left : List (Bool × ℕ)) (ns new : List ℕ) → ArePremises ts ((signed s sign, n) ∷ left) → AreBelow ts ns → new ≡ ns ++ n ∷ [] → Passes ts sign (Premise s) ((signed s sign, n) ∷ left) ns left new
  passed_premise s n left ns new p b e =
      let all : trees_by ts new ≡ trees_by ts ns ++ nth_term ts n ∷ [] = ap (trees_by ts) e ∙ trees_added ts ns (n ∷ []) in
      record {
        same = λ more. (
          λ f.
              let q = f.2 in
              let own : f.0 ≡ nth_term ts n = cc in
              let rest : f.1 ≡ facts_by ts left = cc in
              subst (λ x. Follows more sign x (trees_by ts new)) rest (moved more f.1 _ _ (ap (λ t. trees_by ts ns ++ t ∷ []) own ∙ sym all) f.3),
          λ f. (nth_term ts n, facts_by ts left, refl, moved more (facts_by ts left) _ _ all f),
        );
        premises = All-tail (λ (q : Bool × ℕ). q.1 < length ts) (signed s sign, n) left p;
        terms = subst (AreBelow ts) (sym e) (All-push (λ m. m < length ts) ns n b (All-head (λ (q : Bool × ℕ). q.1 < length ts) (signed s sign, n) left p));
        room = omega (arith, ap length e, length-append ns (n ∷ []));
      }

  pub passes_premise : (s : Sign) (n : ℕ) (ps left : List (Bool × ℕ)) (ns new : List ℕ) → ArePremises ts ps → AreBelow ts ns → ps ≡ (signed s sign, n) ∷ left → new ≡ ns ++ n ∷ [] → Passes ts sign (Premise s) ps ns left new
  passes_premise s n ps left ns new p b e f =
      subst (λ qs. Passes ts sign (Premise s) qs ns left new) (sym e) (passed_premise s n left ns new (subst (ArePremises ts) e p) b f)

  -- ---- what is asked of one or two terms

  module _ (ps : List (Bool × ℕ)) (ns : List ℕ) (r : Bool) where
    pub fails_is : (q : Property) (k n : ℕ) → slice_get ns k ≡ Some n → IsTrue r ↔ HasProperty q (nth_term ts n) → r ≡ false → Fails ts sign (Is q k) ps ns
    fails_is q k n e h failed = record {
      none = λ more f.
          let own : f.0 ≡ nth_term ts n = same_Some _ _ (sym f.1 ∙ named_at ts ns k n e) in
          absurd (cc (failed, h.1 (subst (HasProperty q) own f.2)));
    }

    pub passes_is : (q : Property) (k n : ℕ) → slice_get ns k ≡ Some n → IsTrue r ↔ HasProperty q (nth_term ts n) → r ≡ true → ArePremises ts ps → AreBelow ts ns → Passes ts sign (Is q k) ps ns ps ns
    passes_is q k n e h held p b = record {
      same = λ more. (λ f. f.3, λ f. (nth_term ts n, named_at ts ns k n e, h.0 held, f));
      premises = p;
      terms = b;
      room = omega arith;
    }

    pub fails_are : (q : Relation) (j k m n : ℕ) → slice_get ns j ≡ Some m → slice_get ns k ≡ Some n → IsTrue r ↔ AreRelated q (nth_term ts m) (nth_term ts n) → r ≡ false → Fails ts sign (Are q j k) ps ns
    fails_are q j k m n d e h failed = record {
      none = λ more f.
          let first : f.0 ≡ nth_term ts m = same_Some _ _ (sym f.2 ∙ named_at ts ns j m d) in
          let second : f.1 ≡ nth_term ts n = same_Some _ _ (sym f.3 ∙ named_at ts ns k n e) in
          absurd (cc (failed, h.1 (subst (λ t. AreRelated q t (nth_term ts n)) first (subst (λ u. AreRelated q f.0 u) second f.4))));
    }

    pub passes_are : (q : Relation) (j k m n : ℕ) → slice_get ns j ≡ Some m → slice_get ns k ≡ Some n → IsTrue r ↔ AreRelated q (nth_term ts m) (nth_term ts n) → r ≡ true → ArePremises ts ps → AreBelow ts ns → Passes ts sign (Are q j k) ps ns ps ns
    passes_are q j k m n d e h held p b = record {
      same = λ more. (λ f. f.5, λ f. (nth_term ts m, nth_term ts n, named_at ts ns j m d, named_at ts ns k n e, h.0 held, f));
      premises = p;
      terms = b;
      room = omega arith;
    }

  -- ---- ranges

  module _ (ps : List (Bool × ℕ)) (ns : List ℕ) (j k m n : ℕ) (d : slice_get ns j ≡ Some m) (e : slice_get ns k ≡ Some n) where
    pub fails_range : IsNotBehind ts (in_range (sort_of (nth_term ts m)) (nth_term ts n)) ps → Fails ts sign (InRange j k) ps ns
    fails_range h = record {
      none = λ more f.
          let first : f.0 ≡ nth_term ts m = same_Some _ _ (sym f.3 ∙ named_at ts ns j m d) in
          let second : f.1 ≡ nth_term ts n = same_Some _ _ (sym f.4 ∙ named_at ts ns k n e) in
          h.none f.2 (f.5 ∙ ap₂ (λ t u. in_range (sort_of t) u ++ f.2) first second);
    }

    pub passes_range : (left : List (Bool × ℕ)) → AreBelow ts ns → IsBehind ts (in_range (sort_of (nth_term ts m)) (nth_term ts n)) ps left → Passes ts sign (InRange j k) ps ns left ns
    passes_range left b h = record {
      same = λ more. (
        λ f.
            let first : f.0 ≡ nth_term ts m = same_Some _ _ (sym f.3 ∙ named_at ts ns j m d) in
            let second : f.1 ≡ nth_term ts n = same_Some _ _ (sym f.4 ∙ named_at ts ns k n e) in
            let facts : in_range (sort_of (nth_term ts m)) (nth_term ts n) ++ f.2 ≡ in_range (sort_of (nth_term ts m)) (nth_term ts n) ++ facts_by ts left =
            sym (f.5 ∙ ap₂ (λ t u. in_range (sort_of t) u ++ f.2) first second) ∙ h.facts in
            subst (λ x. Follows more sign x (trees_by ts ns)) (same_back (in_range (sort_of (nth_term ts m)) (nth_term ts n)) f.2 (facts_by ts left) facts) f.6,
        λ f. (nth_term ts m, nth_term ts n, facts_by ts left, named_at ts ns j m d, named_at ts ns k n e, h.facts, f),
      );
      premises = h.below;
      terms = b;
      room = omega arith;
    }
