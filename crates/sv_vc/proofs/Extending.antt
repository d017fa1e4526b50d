-- Variables that are added: versions of those of the command.
use Rattle.std.proofs.Common.{ℕ, zero, suc, ◌<◌, ◌≡◌, ◌⊎◌, inl, inr, List, [], ◌∷◌, ◌++◌, map, length, get_or, slice_get, Option, Some, refl, sym, ap, ◌∙◌, subst, append_assoc, append-nil, arith}
use Rattle.sv_term.specs.Sorts.{Sort}
use Rattle.sv_term.specs.Banks.{Nodes, IsSort, AreSorts, Keeps, StandsIn, sort, sort_list, wide}
use Rattle.sv_gcl.specs.declared.lowered.GVar.{GVar}
use Rattle.sv_gcl.specs.declared.lowered.Lowered.{Lowered}
use Rattle.sv_vc.specs.declared.state.Scope.{Scope}
use Rattle.sv_vc.specs.CodeStates.{sorts_of, AllFrom, Extends}
use Rattle.sv_vc.specs.Preparations.{names_of}
use Rattle.sv_vc.specs.AnsweredConditions.{IsVersion, AllVersions, AreVersions}
use Rattle.sv_term.proofs.BankGrowth.{keeps_on}
use Rattle.sv_vc.proofs.NodeSorts.{wide_twice}

pub extends_same : (s : Scope) (vs : List GVar) → Extends s vs vs
extends_same s vs = record { more = []; is = sym (append-nil vs); from = tt }

all_from : (s : Scope) (us vs : List GVar) → AllFrom s us → AllFrom s vs → AllFrom s (us ++ vs)
all_from s [] vs h g = g
all_from s (u ∷ us) vs h g = (h.0, all_from s us vs h.1 g)

pub extends_on : {s : Scope} {us vs ws : List GVar} → Extends s us vs → Extends s vs ws → Extends s us ws
extends_on {s} {us} {vs} {ws} a b = record { more = a.more ++ b.more; is = b.is ∙ (ap (λ z. z ++ b.more) a.is ∙ append_assoc us a.more b.more); from = all_from s a.more b.more a.from b.from }

pub extends_push : (s : Scope) (vs after : List GVar) (v : GVar) → after ≡ vs ++ v ∷ [] → (StandsIn s.given v ⊎ StandsIn s.joined v) → Extends s vs after
extends_push s vs after v e h = record { more = v ∷ []; is = e; from = (h, tt) }

pub stands_at : (vs : List GVar) (x : ℕ) (v : GVar) → v ≡ get_or vs x v → x < length vs → StandsIn vs v
stands_at [] x v e h = absurd (omega (arith, h))
stands_at (w ∷ vs) zero v e h = (0, ap Some (sym e))
stands_at (w ∷ vs) (suc x) v e h = let r = stands_at vs x v e (omega (arith, h)) in (suc r.0, r.1)

-- ---- what the added variables are

same_name : (a b : Option ℕ) (us vs : List (Option ℕ)) → a ∷ us ≡ b ∷ vs → (a ≡ b) × (us ≡ vs)
same_name a b us vs e = (cc, cc)

same_sort_list : (a b : Sort) (us vs : List Sort) → a ∷ us ≡ b ∷ vs → (a ≡ b) × (us ≡ vs)
same_sort_list a b us vs e = (cc, cc)

same_some : (a b : GVar) → Some a ≡ Some b → a ≡ b
same_some a b e = cc

-- the variable of which a joined one is a version
joined_from : (o a : Nodes) (vs ws : List GVar) (j : ℕ) (w : GVar) → names_of ws ≡ names_of vs → sort_list a (sorts_of ws) ≡ map wide (sort_list o (sorts_of vs)) → AreSorts a (sorts_of ws) → slice_get ws j ≡ Some w
    → (v : GVar) × StandsIn vs v × (w.name ≡ v.name) × (sort a w.sort ≡ wide (sort o v.sort)) × IsSort a w.sort
unfolding sort_list
joined_from o a vs [] j w n s h e = cc
joined_from o a [] (x ∷ ws) j w n s h e = cc
joined_from o a (v ∷ vs) (x ∷ ws) zero w n s h e =
    let same : x ≡ w = same_some x w e in (
      v,
      (0, refl),
      ap (λ z. z.name) (sym same) ∙ (same_name x.name v.name (names_of ws) (names_of vs) n).0,
      ap (λ z. sort a z.sort) (sym same) ∙ (same_sort_list (sort a x.sort) (wide (sort o v.sort)) (sort_list a (sorts_of ws)) (map wide (sort_list o (sorts_of vs))) s).0,
      subst (λ z. IsSort a z.sort) same h.0,
    )
joined_from o a (v ∷ vs) (x ∷ ws) (suc j) w n s h e =
    let r = joined_from o a vs ws j w (same_name x.name v.name (names_of ws) (names_of vs) n).1 (same_sort_list (sort a x.sort) (wide (sort o v.sort)) (sort_list a (sorts_of ws)) (map wide (sort_list o (sorts_of vs))) s).1 h.1 e in
    (r.0, (suc r.1.0, r.1.1), r.2, r.3, r.4)

given_within : (o : Nodes) (vs : List GVar) (j : ℕ) (v : GVar) → AreSorts o (sorts_of vs) → slice_get vs j ≡ Some v → IsSort o v.sort
given_within o [] j v h e = cc
given_within o (x ∷ vs) zero v h e = subst (λ z. IsSort o z.sort) (same_some x v e) h.0
given_within o (x ∷ vs) (suc j) v h e = given_within o vs j v h.1 e

module _ (l : Lowered) (a b : Nodes) (given joined : List GVar) (la : Keeps l.bank a) (ab : Keeps a b) (hv : AreSorts l.bank (sorts_of l.vars)) (hj : AreSorts a (sorts_of joined)) (given_is : given ≡ l.vars) (names : names_of joined ≡ names_of l.vars) (wides : sort_list a (sorts_of joined) ≡ map wide (sort_list l.bank (sorts_of l.vars))) where
  version : (v : GVar) → (StandsIn given v ⊎ StandsIn joined v) → IsVersion l b v
  version v (inl h) =
      let lb : Keeps l.bank b = keeps_on la ab in
      let at : slice_get l.vars h.0 ≡ Some v = ap (λ z. slice_get z h.0) (sym given_is) ∙ h.1 in
      let i : IsSort l.bank v.sort = given_within l.bank l.vars h.0 v hv at in
      record { one = v; given = (h.0, at); within = omega (arith, i, lb.kinds); name = refl; kind = ap wide (lb.sort_trees v.sort i) }
  version v (inr h) =
      let r = joined_from l.bank a l.vars joined h.0 v names wides hj h.1 in
      record { one = r.0; given = r.1; within = omega (arith, r.4, ab.kinds); name = r.2; kind = ap wide (ab.sort_trees v.sort r.4 ∙ r.3) ∙ wide_twice (sort l.bank r.0.sort) }

  all_versions : (vs : List GVar) → AllFrom record { given = given; joined = joined } vs → AllVersions l b vs
  all_versions [] h = tt
  all_versions (v ∷ vs) h = (version v h.0, all_versions vs h.1)

  pub are_versions : (vars : List GVar) → Extends record { given = given; joined = joined } l.vars vars → AreVersions l b vars
  are_versions vars e = record { more = e.more; is = e.is; versions = all_versions e.more e.from }
