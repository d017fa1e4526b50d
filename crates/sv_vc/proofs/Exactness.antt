-- A condition is valid exactly where no run fails at its label.
use Rattle.std.proofs.Common.{ℕ, ◌+◌, ◌≡◌, Bool, true, false, cond, ◌&&◌, nat_eq, List, [], ◌∷◌, length, refl, subst, inl, inr, arith}
use Rattle.sv_core.specs.declared.label.Label.{Label}
use Rattle.sv_core.specs.declared.label.Site.{Site}
use Rattle.sv_core.specs.declared.label.Site.TheVariants as site
use Rattle.sv_term.specs.Sorts.{Sort}
use Rattle.sv_term.specs.Terms.{Term}
use Rattle.sv_term.specs.Terms as t
use Rattle.sv_term.specs.Models.{Look, Valid}
use Rattle.sv_term.proofs.Same.{both_true, and_true, same_nat, nat_same}
use Rattle.sv_gcl.specs.Commands.{Command, Fails, ComesTo, NoRunFails}
use Rattle.sv_vc.specs.Conjunctions.{all_after}
use Rattle.sv_vc.specs.ConditionWalk.{same_site, same_label, Found, walk, own, start, formulas, condition}
use Rattle.sv_vc.specs.ConditionsExact.{AllAreSorts, ConditionsAreExact}
use Rattle.sv_vc.proofs.Basics.{truth, store_of, AllBelow, as_model}
use Rattle.sv_vc.proofs.Good.{IsGood, good}
use Rattle.sv_vc.proofs.StoreModels.{given, zeros, zeros_model, own_below, own_suits, own_kinds, wide_all}
use Rattle.sv_vc.proofs.Ahead.{Begins, Some_of, IsRefuted, falsified}
use Rattle.sv_vc.proofs.Back.{Each, fails}

-- ---- labels

site_is : (s r : Site) → same_site s r ≡ true → s ≡ r
site_is (site.At p) (site.At q) e = let b = both_true (nat_eq p.line q.line) (nat_eq p.col q.col) e in λ i. site.At record { line = same_nat p.line q.line b.0 i; col = same_nat p.col q.col b.1 i }
site_is site.End site.End e = refl
site_is (site.At p) site.End e = cc e
site_is site.End (site.At q) e = cc e

site_self : (s : Site) → same_site s s ≡ true
site_self (site.At p) = and_true (nat_eq p.line p.line) (nat_eq p.col p.col) (nat_same p.line p.line refl) (nat_same p.col p.col refl)
site_self site.End = refl

pub same_label_is : (l k : Label) → same_label l k ≡ true → l ≡ k
same_label_is l k e =
    let a = both_true (same_site l.site k.site) (nat_eq l.kind k.kind && (nat_eq l.number k.number && nat_eq l.of k.of)) e in
    let b = both_true (nat_eq l.kind k.kind) (nat_eq l.number k.number && nat_eq l.of k.of) a.1 in
    let c = both_true (nat_eq l.number k.number) (nat_eq l.of k.of) b.1 in
    λ i. record { site = site_is l.site k.site a.0 i; kind = same_nat l.kind k.kind b.0 i; number = same_nat l.number k.number c.0 i; of = same_nat l.of k.of c.1 i }

label_self : (l : Label) → same_label l l ≡ true
label_self l =
    and_true (same_site l.site l.site) (nat_eq l.kind l.kind && (nat_eq l.number l.number && nat_eq l.of l.of)) (site_self l.site)
    (and_true (nat_eq l.kind l.kind) (nat_eq l.number l.number && nat_eq l.of l.of) (nat_same l.kind l.kind refl) (and_true (nat_eq l.number l.number) (nat_eq l.of l.of) (nat_same l.number l.number refl) (nat_same l.of l.of refl)))

pub label_same : (l k : Label) → l ≡ k → same_label l k ≡ true
label_same l k e = subst (λ z. same_label l z ≡ true) e (label_self l)

-- ---- conjunctions

after_true : (x : Term) (ys : List Term) (m : Look) → truth (all_after x ys) m ≡ true → (truth x m ≡ true) × Each (λ y. truth y m ≡ true) ys
after_true x [] m h = (h, tt)
after_true x (y ∷ ys) m h =
    let r = after_true (t.And x y) ys m h in
    let b = both_true (truth x m) (truth y m) r.0 in
    (b.0, (b.1, r.1))

true_after : (x : Term) (ys : List Term) (m : Look) → truth x m ≡ true → Each (λ y. truth y m ≡ true) ys → truth (all_after x ys) m ≡ true
true_after x [] m h g = h
true_after x (y ∷ ys) m h g = true_after (t.And x y) ys m (and_true (truth x m) (truth y m) h g.0) g.1

not_refuted : (l : Label) (fs : List Found) (m : Look) → Each (λ y. truth y m ≡ true) (formulas l fs) → Some_of (IsRefuted l m) fs → ⊥
not_refuted l [] m h r = r
not_refuted l (f ∷ fs) m h r =
    elim (same_label f.label l) as (λ b. same_label f.label l ≡ b → Each (λ y. truth y m ≡ true) (cond b (f.formula ∷ formulas l fs) (formulas l fs)) → ⊥) [
      | true ↦ λ e g. elim r [ inl a ↦ cc (a.1, g.0) | inr a ↦ not_refuted l fs m g.1 a ]
      | false ↦ λ e g. elim r [ inl a ↦ (let k : same_label f.label l ≡ true = label_same f.label l a.0 in cc) | inr a ↦ not_refuted l fs m g a ]
    ] refl h

is_true : (b : Bool) → (b ≡ false → ⊥) → b ≡ true
is_true true h = refl
is_true false h = absurd (h refl)

each_true : (l : Label) (fs : List Found) (m : Look) → Each (λ f. truth f.formula m ≡ false → f.label ≡ l → ⊥) fs → Each (λ y. truth y m ≡ true) (formulas l fs)
each_true l [] m h = tt
each_true l (f ∷ fs) m h =
    elim (same_label f.label l) as (λ b. same_label f.label l ≡ b → Each (λ y. truth y m ≡ true) (cond b (f.formula ∷ formulas l fs) (formulas l fs))) [
      | true ↦ λ e. (is_true (truth f.formula m) (λ q. h.0 q (same_label_is f.label l e)), each_true l fs m h.1)
      | false ↦ λ e. each_true l fs m h.1
    ] refl

zero_plus : (n : ℕ) → 0 + n ≡ n
zero_plus n = omega arith

module _ (vars : List Sort) (c : Command) (l : Label) (sorts : AllAreSorts vars) (w : IsGood vars c) where
  sound : Valid (condition vars c l) → NoRunFails vars c l
  sound v s h r =
      let g = given vars s 0 zeros zeros_model h in
      let b : Begins vars (t.Truth true) (start vars) g.model s =
      record {
        is_model = g.is_model;
        kinds = own_kinds vars;
        env = subst (λ k. AllBelow k (own vars 0)) (zero_plus (length vars)) (own_below vars 0);
        known = (tt, tt);
        holds = refl;
        store = g.store;
        suits = wide_all vars s h;
      } in
      let bad = falsified vars sorts l c (t.Truth true) (start vars) g.model s w b r in
      not_refuted l (walk vars c (t.Truth true) (start vars)).state.found bad.model (after_true (t.Truth true) _ bad.model (v (as_model bad.model bad.is_model))).1 bad.some

  complete : NoRunFails vars c l → Valid (condition vars c l)
  complete none m =
      true_after (t.Truth true) _ m.look refl
      (each_true l (walk vars c (t.Truth true) (start vars)).state.found m.look
      (fails vars m.look (λ n σ. (m.of_sort n σ, m.zeroed n σ)) (λ k. k ≡ l → ⊥) c (t.Truth true) (start vars) w (own_kinds vars)
      (λ k b r e. none (store_of (own vars 0) m.look) (own_suits vars 0 m.look (λ n σ. (m.of_sort n σ, m.zeroed n σ))) (subst (λ z. ComesTo vars c (store_of (own vars 0) m.look) (Fails z)) e r)) tt))

pub conditions_are_exact : ConditionsAreExact
conditions_are_exact vars c l sorts h w = (sound vars c l sorts (good vars c w h), complete vars c l sorts (good vars c w h))
