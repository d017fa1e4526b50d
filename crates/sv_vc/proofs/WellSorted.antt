-- A walk keeps the sorts of what variables stand for, and what is to be shown are truth values.
use Rattle.std.proofs.Common.{ℕ, ◌≡◌, Bool, true, List, [], ◌∷◌, ◌++◌, refl, ◌∙◌}
use Rattle.sv_term.specs.Sorts.{Sort, BoolSort}
use Rattle.sv_term.specs.Terms.{Term}
use Rattle.sv_term.specs.Terms as t
use Rattle.sv_term.specs.Banks.{kind_of}
use Rattle.sv_gcl.specs.Commands.{Command, Commands, Assume, Check, Set, Forget, Seq, Choice, Nil, Cons, some_set}
use Rattle.sv_gcl.specs.FormedCommands.{IsFormed}
use Rattle.sv_vc.specs.ConditionsExact.{HasFitting}
use Rattle.sv_vc.specs.ConditionWalk.{Found, State, Walked, joint, after_joint, agreed, walk, walk_all, walk_any}
use Rattle.sv_vc.specs.CodeStates.{AllBool, IsWellSorted}
use Rattle.sv_vc.proofs.Good.{good}
use Rattle.sv_vc.proofs.Bounds.{as_long, kinds_after}

pub bool_push : (fs : List Found) (f : Found) → AllBool fs → kind_of f.formula ≡ BoolSort → AllBool (fs ++ f ∷ [])
bool_push [] f h e = (e, tt)
bool_push (g ∷ fs) f h e = (h.0, bool_push fs f h.1 e)

module _ (vars : List Sort) where
  mutual
    pub truths_after : (c : Command) (before : Term) (s : State) → AllBool s.found → AllBool (walk vars c before s).state.found
    truths_after (Assume f) before s h = h
    truths_after (Check l f) before s h = bool_push s.found _ h refl
    truths_after (Set x u) before s h = h
    truths_after (Forget x) before s h = h
    truths_after (Seq cs) before s h = truths_all cs before (t.Truth true) s h
    truths_after (Choice cs) before s h =
        truths_any cs before s.env (λ x. some_set cs x) (joint vars (some_set cs) 0 s.env s.next) _ record { env = s.env; next = after_joint (some_set cs) 0 s.env s.next; found = s.found } h

    truths_all : (cs : Commands) (before facts : Term) (s : State) → AllBool s.found → AllBool (walk_all vars cs before facts s).state.found
    truths_all Nil before facts s h = h
    truths_all (Cons c cs) before facts s h =
        let a : Walked = walk vars c (t.And before facts) s in
        truths_all cs before (t.And facts a.facts) a.state (truths_after c (t.And before facts) s h)

    truths_any : (cs : Commands) (before : Term) (env : List Term) (p : ℕ → Bool) (versions : List Term) (any : Term) (s : State) → AllBool s.found → AllBool (walk_any vars cs before env p versions any s).state.found
    truths_any Nil before env p versions any s h = h
    truths_any (Cons c cs) before env p versions any s h =
        let a : Walked = walk vars c before record { env = env; next = s.next; found = s.found } in
        truths_any cs before env p versions (t.Or any (agreed p 0 a.facts a.state.env versions)) a.state (truths_after c before record { env = env; next = s.next; found = s.found } h)

  pub sorted_after : (c : Command) (before : Term) (s : State) → IsFormed vars c → HasFitting c → IsWellSorted vars s → IsWellSorted vars (walk vars c before s).state
  sorted_after c before s w h g = record {
    size = as_long vars c before s ∙ g.size;
    kinds = kinds_after vars c before s (good vars c w h) g.kinds;
    truths = truths_after c before s g.truths;
  }
