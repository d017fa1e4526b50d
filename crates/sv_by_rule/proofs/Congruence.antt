-- What congruence gives from items, by numbers.
use Rattle.std.proofs.Common.{ℕ, Bool, true, nat_eq, List, ◌≡◌, ◌↔◌, map, refl, sym, ap, ap₂, ◌∙◌, subst, arith}
use Rattle.std.proofs.lemmas.Bool.Decides.{Decides-eqb}
use Rattle.sv_term.specs.Terms.{Shape, Term, App, Terms, Eq}
use Rattle.sv_term.specs.FactRules.{Fact, Says, IsByRule, Instance, number_of, premises_of, conclusion_of, asks, differing, size, AndLeft, AndRight, NoOrLeft, NoOrRight, NotHolds, NotFails, OrElseRight, OrElseLeft, NoAndRight, NoAndLeft, IteThen, IteElse, NoIteThen, NoIteElse, EqRight, EqLeft, UnequalRight, UnequalLeft, Itself, Turned, Through, Chosen, Passed, ReadBack, ReadEqual, ReadOther, ReadConst, ReadWithin, ReadAbove, PartIs, ReadBelow, AtLeast, AtMost, WrapsNot, QuotientLow, QuotientHigh, QuotientHighNegative, QuotientLowNegative, RemainderIs, ProductOfHigh, ProductOfLow, ProductHighLow, ProductLowHigh, SumOfStore, SumOfNone, SumAtLeast, SumOverOne, SumOverTwo, Strict, Between, Alike}
use Rattle.sv_term.specs.FactRuleTest.{shape_of, args_of}
use Rattle.sv_log.specs.Logs.{AreFacts, nth_term, nth_terms}
use Rattle.sv_force.specs.InForce.{Held}
use Rattle.sv_branch.specs.BranchTrees.{item_of}
use Rattle.sv_pattern.specs.declared.numbers.Name.TheVariants as name
use Rattle.sv_pattern.specs.NodeOpenings.{IsTwo}
use Rattle.sv_pattern.proofs.NumberedTrees.{nth_size, node_is}
use Rattle.sv_by_rule.specs.ItemFacts.{AreEqual, IsGivenBy}

-- the parts of a rule that has the number of congruence
pub record IsCongruence (i : Instance) : Type 0 where
  pub x : Shape
  pub ts : Terms
  pub us : Terms
  pub is : i ≡ Alike x ts us

alike_only : (i : Instance) → number_of i ≡ 23 → IsCongruence i
alike_only (AndLeft p q) e = absurd (omega (arith, e))
alike_only (AndRight p q) e = absurd (omega (arith, e))
alike_only (NoOrLeft p q) e = absurd (omega (arith, e))
alike_only (NoOrRight p q) e = absurd (omega (arith, e))
alike_only (NotHolds p) e = absurd (omega (arith, e))
alike_only (NotFails p) e = absurd (omega (arith, e))
alike_only (OrElseRight p q) e = absurd (omega (arith, e))
alike_only (OrElseLeft p q) e = absurd (omega (arith, e))
alike_only (NoAndRight p q) e = absurd (omega (arith, e))
alike_only (NoAndLeft p q) e = absurd (omega (arith, e))
alike_only (IteThen c p q) e = absurd (omega (arith, e))
alike_only (IteElse c p q) e = absurd (omega (arith, e))
alike_only (NoIteThen c p q) e = absurd (omega (arith, e))
alike_only (NoIteElse c p q) e = absurd (omega (arith, e))
alike_only (EqRight sign p q) e = absurd (omega (arith, e))
alike_only (EqLeft sign p q) e = absurd (omega (arith, e))
alike_only (UnequalRight sign p q) e = absurd (omega (arith, e))
alike_only (UnequalLeft sign p q) e = absurd (omega (arith, e))
alike_only (Itself a) e = absurd (omega (arith, e))
alike_only (Turned a b) e = absurd (omega (arith, e))
alike_only (Through a b c) e = absurd (omega (arith, e))
alike_only (Chosen c a b) e = absurd (omega (arith, e))
alike_only (Passed c a b) e = absurd (omega (arith, e))
alike_only (ReadBack a i v) e = absurd (omega (arith, e))
alike_only (ReadEqual a i j v) e = absurd (omega (arith, e))
alike_only (ReadOther a i j v) e = absurd (omega (arith, e))
alike_only (ReadConst s v j) e = absurd (omega (arith, e))
alike_only (ReadWithin n a b j) e = absurd (omega (arith, e))
alike_only (ReadAbove n a b j) e = absurd (omega (arith, e))
alike_only (PartIs k s ts) e = absurd (omega (arith, e))
alike_only (ReadBelow n a b j) e = absurd (omega (arith, e))
alike_only (AtLeast t) e = absurd (omega (arith, e))
alike_only (AtMost t) e = absurd (omega (arith, e))
alike_only (WrapsNot g n a) e = absurd (omega (arith, e))
alike_only (QuotientLow a d) e = absurd (omega (arith, e))
alike_only (QuotientHigh a d) e = absurd (omega (arith, e))
alike_only (QuotientHighNegative a d) e = absurd (omega (arith, e))
alike_only (QuotientLowNegative a d) e = absurd (omega (arith, e))
alike_only (RemainderIs a d) e = absurd (omega (arith, e))
alike_only (ProductOfHigh a b) e = absurd (omega (arith, e))
alike_only (ProductOfLow a b) e = absurd (omega (arith, e))
alike_only (ProductHighLow a b) e = absurd (omega (arith, e))
alike_only (ProductLowHigh a b) e = absurd (omega (arith, e))
alike_only (SumOfStore a i v) e = absurd (omega (arith, e))
alike_only (SumOfNone s) e = absurd (omega (arith, e))
alike_only (SumAtLeast a) e = absurd (omega (arith, e))
alike_only (SumOverOne a i) e = absurd (omega (arith, e))
alike_only (SumOverTwo a i j) e = absurd (omega (arith, e))
alike_only (Strict a b) e = absurd (omega (arith, e))
alike_only (Between a b) e = absurd (omega (arith, e))
alike_only (Alike x ts us) e = record { x = x; ts = ts; us = us; is = refl }

-- what congruence gives
pub record Gives (fs : List Fact) (sign : Bool) (t : Term) : Type 0 where
  pub x : Shape
  pub first : Terms
  pub second : Terms
  pub sign_is : sign ≡ true
  pub term_is : t ≡ Eq (App x first) (App x second)
  pub facts : fs ≡ differing first second
  pub sizes : size first ≡ size second

gives_by : (fs : List Fact) (sign : Bool) (t : Term) → IsByRule 23 fs (Says sign t) → Gives fs sign t
gives_by fs sign t b =
    let c = alike_only b.0 b.1 in
    let whole : Says true (Eq (App c.x c.ts) (App c.x c.us)) ≡ Says sign t = ap conclusion_of (sym c.is) ∙ b.3 in
    let same : nat_eq (size c.ts) (size c.us) ≡ true = ap asks (sym c.is) ∙ b.4 in
    record {
      x = c.x;
      first = c.ts;
      second = c.us;
      sign_is = cc whole;
      term_is = cc whole;
      facts = sym b.2 ∙ ap premises_of c.is;
      sizes = (Decides-eqb (size c.ts) (size c.us)).0 same;
    }

module _ (ts : List Term) (items : List Held) (from : List ℕ) (n : ℕ) where
  module _ (a b : ℕ) (h : IsTwo ts n name.Eq a b) where
    pub alike_given : (xs ys : List ℕ) → shape_of (nth_term ts a) ≡ shape_of (nth_term ts b) → args_of (nth_term ts a) ≡ nth_terms ts xs → args_of (nth_term ts b) ≡ nth_terms ts ys
        → AreEqual ts items from xs ys ↔ IsGivenBy ts items 23 from true n
    alike_given xs ys same e f = (
      λ d.
          let one : nth_term ts a ≡ App (shape_of (nth_term ts a)) (nth_terms ts xs) = node_is (nth_term ts a) (shape_of (nth_term ts a)) (nth_terms ts xs) refl e in
          let two : nth_term ts b ≡ App (shape_of (nth_term ts a)) (nth_terms ts ys) = node_is (nth_term ts b) (shape_of (nth_term ts a)) (nth_terms ts ys) (sym same) f in
          let sized : size (nth_terms ts xs) ≡ size (nth_terms ts ys) = nth_size ts xs ∙ (d.0 ∙ sym (nth_size ts ys)) in (
            differing (nth_terms ts xs) (nth_terms ts ys),
            d.1,
            (
              Alike (shape_of (nth_term ts a)) (nth_terms ts xs) (nth_terms ts ys),
              refl,
              refl,
              ap (λ t. Says true t) (sym (h.is ∙ ap₂ (λ t u. Eq t u) one two)),
              (Decides-eqb (size (nth_terms ts xs)) (size (nth_terms ts ys))).1 sized,
            ),
          ),
      λ g.
          let c = gives_by g.0 true (nth_term ts n) g.2 in
          let both : Eq (App c.x c.first) (App c.x c.second) ≡ Eq (nth_term ts a) (nth_term ts b) = sym c.term_is ∙ h.is in
          let one : App c.x c.first ≡ nth_term ts a = cc both in
          let two : App c.x c.second ≡ nth_term ts b = cc both in
          let first : c.first ≡ nth_terms ts xs = ap args_of one ∙ e in
          let second : c.second ≡ nth_terms ts ys = ap args_of two ∙ f in
          let facts : g.0 ≡ differing (nth_terms ts xs) (nth_terms ts ys) = c.facts ∙ ap₂ differing first second in
          (sym (nth_size ts xs) ∙ (sym (ap size first) ∙ (c.sizes ∙ (ap size second ∙ nth_size ts ys))), subst (λ fs. AreFacts (map (item_of ts) items) from fs) facts g.1),
    )
