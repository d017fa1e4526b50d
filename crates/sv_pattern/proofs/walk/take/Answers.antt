use Rattle.std.proofs.Common.{Option, MatchOption, ℕ, ◌≡◌, ◌↔◌, Bool, true, false, List, [], ◌∷◌, ◌++◌, Some, slice_get, sym, ap, ◌∙◌, subst}
use Rattle.sv_log.specs.Logs.{nth_term}
use Rattle.std.proofs.lemmas.Bool.{MatchBool-at_true, MatchBool-at_false}
use Rattle.sv_term.specs.Terms.{Term}
use Rattle.sv_pattern.specs.NodeOpenings.{AreBelow, ArePremises, Fails, Passes, IsOpened, IsNotOpened}
use Rattle.sv_pattern.specs.declared.step.Step.{Step}
use Rattle.sv_pattern.specs.declared.step.Step.TheVariants.{Concludes, Premise, One, Two, Three, Is, Are, InRange}
use Rattle.sv_pattern.proofs.Taking.{weaker, fails_one, fails_two, fails_three, passes_one, passes_two, passes_three, fails_premise, passes_premise, fails_is, passes_is, fails_are, passes_are, fails_range, passes_range}
use Rattle.sv_pattern.proofs.walk.take.Goals as goal

-- the premises are left as they are
left_same : (ts : List Term) (sign : Bool) (step step' : Step) (ps left : List (Bool × ℕ)) (ns new : List ℕ) → step ≡ step' → left ≡ ps → Passes ts sign step' ps ns ps new → Passes ts sign step ps ns left new
left_same ts sign step step' ps left ns new e f p = subst (λ s. Passes ts sign s ps ns left new) (sym e) (subst (λ qs. Passes ts sign step' ps ns qs new) (sym f) p)

fails_same : (ts : List Term) (sign : Bool) (step step' : Step) (ps : List (Bool × ℕ)) (ns : List ℕ) → step ≡ step' → Fails ts sign step' ps ns → Fails ts sign step ps ns
fails_same ts sign step step' ps ns e p = subst (λ s. Fails ts sign s ps ns) (sym e) p

pub returns-in-Premise : goal.returns-in-Premise
returns-in-Premise g c =
    let ts = g.T.TermNumbers.trees c.args.terms.now in
    let ps = c.args.from.now in
    let ns = c.args.names.now.items in
    weaker _ _ c.take_premise.result c.take_premise.ensures
    (λ h. fails_same ts c.args.sign c.args.step (Premise c.in-Premise.wanted) ps ns c.in-Premise.is (fails_premise ts c.args.sign c.in-Premise.wanted ps ns h))
    (λ left h. subst (λ s. Passes ts c.args.sign s ps ns left.now c.take_premise.new.names.items) (sym c.in-Premise.is)
    (passes_premise ts c.args.sign c.in-Premise.wanted h.0 ps left.now ns c.take_premise.new.names.items c.requires.premises c.requires.terms h.1 h.2))

pub returns-in-One : goal.returns-in-One
returns-in-One g c =
    let ts = g.T.TermNumbers.trees c.args.terms.now in
    let ps = c.args.from.now in
    let ns = c.args.names.now.items in
    let new = c.open.new.names.items in
    let step = One c.in-One.k c.in-One.name in
    weaker _ _ c.kept-in-One.result c.kept-in-One.ensures
    (λ h. fails_same ts c.args.sign c.args.step step ps ns c.in-One.is (fails_one ts c.args.sign ns c.in-One.k c.in-One.name ps (MatchBool-at_false _ _ h c.open.ensures)))
    (λ left h. left_same ts c.args.sign c.args.step step ps left.now ns new c.in-One.is h.1
    (passes_one ts c.args.sign ns c.in-One.k c.in-One.name ps new c.requires.premises c.requires.terms (MatchBool-at_true _ _ h.0 c.open.ensures)))

pub returns-in-Two : goal.returns-in-Two
returns-in-Two g c =
    let ts = g.T.TermNumbers.trees c.args.terms.now in
    let ps = c.args.from.now in
    let ns = c.args.names.now.items in
    let new = c.open-in-Two.new.names.items in
    let step = Two c.in-Two.k c.in-Two.name in
    weaker _ _ c.kept-in-Two.result c.kept-in-Two.ensures
    (λ h. fails_same ts c.args.sign c.args.step step ps ns c.in-Two.is (fails_two ts c.args.sign ns c.in-Two.k c.in-Two.name ps (MatchBool-at_false _ _ h c.open-in-Two.ensures)))
    (λ left h. left_same ts c.args.sign c.args.step step ps left.now ns new c.in-Two.is h.1
    (passes_two ts c.args.sign ns c.in-Two.k c.in-Two.name ps new c.requires.premises c.requires.terms (MatchBool-at_true _ _ h.0 c.open-in-Two.ensures)))

pub returns-in-Three : goal.returns-in-Three
returns-in-Three g c =
    let ts = g.T.TermNumbers.trees c.args.terms.now in
    let ps = c.args.from.now in
    let ns = c.args.names.now.items in
    let new = c.open-in-Three.new.names.items in
    let step = Three c.in-Three.k c.in-Three.name in
    weaker _ _ c.kept-in-Three.result c.kept-in-Three.ensures
    (λ h. fails_same ts c.args.sign c.args.step step ps ns c.in-Three.is (fails_three ts c.args.sign ns c.in-Three.k c.in-Three.name ps (MatchBool-at_false _ _ h c.open-in-Three.ensures)))
    (λ left h. left_same ts c.args.sign c.args.step step ps left.now ns new c.in-Three.is h.1
    (passes_three ts c.args.sign ns c.in-Three.k c.in-Three.name ps new c.requires.premises c.requires.terms (MatchBool-at_true _ _ h.0 c.open-in-Three.ensures)))

pub returns-in_ok-n-in-Is : goal.returns-in_ok-n-in-Is
returns-in_ok-n-in-Is g c =
    let ts = g.T.TermNumbers.trees c.args.terms.now in
    let ps = c.args.from.now in
    let ns = c.args.names.now.items in
    let q = c.in-Is.property in
    let k = c.in-Is.k in
    let n = c.in_ok-n-in-Is.n in
    weaker _ _ c.kept-in-Is.result c.kept-in-Is.ensures
    (λ h. fails_same ts c.args.sign c.args.step (Is q k) ps ns c.in-Is.is (fails_is ts c.args.sign ps ns c.has_property.result q k n c.in_ok-n-in-Is.ensures c.has_property.ensures h))
    (λ left h. left_same ts c.args.sign c.args.step (Is q k) ps left.now ns ns c.in-Is.is h.1
    (passes_is ts c.args.sign ps ns c.has_property.result q k n c.in_ok-n-in-Is.ensures c.has_property.ensures h.0 c.requires.premises c.requires.terms))

pub returns-in_ok-n-in-Are : goal.returns-in_ok-n-in-Are
returns-in_ok-n-in-Are g c =
    let ts = g.T.TermNumbers.trees c.args.terms.now in
    let ps = c.args.from.now in
    let ns = c.args.names.now.items in
    let q = c.in-Are.relation in
    let j = c.in-Are.j in
    let k = c.in-Are.k in
    let m = c.in_ok-m-in-Are.m in
    let n = c.in_ok-n-in-Are.n in
    weaker _ _ c.kept-in-Are.result c.kept-in-Are.ensures
    (λ h. fails_same ts c.args.sign c.args.step (Are q j k) ps ns c.in-Are.is (fails_are ts c.args.sign ps ns c.are_related.result q j k m n c.in_ok-m-in-Are.ensures c.in_ok-n-in-Are.ensures c.are_related.ensures h))
    (λ left h. left_same ts c.args.sign c.args.step (Are q j k) ps left.now ns ns c.in-Are.is h.1
    (passes_are ts c.args.sign ps ns c.are_related.result q j k m n c.in_ok-m-in-Are.ensures c.in_ok-n-in-Are.ensures c.are_related.ensures h.0 c.requires.premises c.requires.terms))

pub returns-in_ok-v-in-InRange : goal.returns-in_ok-v-in-InRange
returns-in_ok-v-in-InRange g c =
    let ts = g.T.TermNumbers.trees c.args.terms.now in
    let ps = c.args.from.now in
    let ns = c.args.names.now.items in
    let j = c.in-InRange.j in
    let k = c.in-InRange.k in
    let m = c.in_ok-place-in-InRange.place in
    let n = c.in_ok-v-in-InRange.v in
    weaker _ _ c.after_range.result c.after_range.ensures
    (λ h. fails_same ts c.args.sign c.args.step (InRange j k) ps ns c.in-InRange.is (fails_range ts c.args.sign ps ns j k m n c.in_ok-place-in-InRange.ensures c.in_ok-v-in-InRange.ensures h))
    (λ left h. subst (λ s. Passes ts c.args.sign s ps ns left.now ns) (sym c.in-InRange.is)
    (passes_range ts c.args.sign ps ns j k m n c.in_ok-place-in-InRange.ensures c.in_ok-v-in-InRange.ensures left.now c.requires.terms h))
