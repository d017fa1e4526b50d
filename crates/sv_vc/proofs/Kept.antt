-- Commands and states, as the bank grows.
use Rattle.std.proofs.Common.{ℕ, zero, suc, ◌<◌, ◌≡◌, List, [], ◌∷◌, map, length, get_or, refl, sym, ap, ap₂, ◌∙◌, subst, arith}
use Rattle.sv_term.specs.Sorts.{Sort}
use Rattle.sv_term.specs.Terms.{Term}
use Rattle.sv_term.specs.Banks.{Nodes, AreTerms, IsBool, Keeps, wide}
use Rattle.sv_term.specs.declared.node.TermId.{TermId}
use Rattle.sv_gcl.specs.declared.command.Cmd.{Cmd}
use Rattle.sv_gcl.specs.Commands.{Command, Commands}
use Rattle.sv_gcl.specs.Commands as c
use Rattle.sv_gcl.specs.CommandShapes.{Shape, Shapes, Assume, Check, Set, Forget, Seq, Choice, Nil, Cons, shape, shaped, command, commands, IsIn, AreIn}
use Rattle.sv_gcl.specs.FormedCommands.{IsFormed, AreFormed}
use Rattle.sv_vc.specs.declared.answer.Condition.{Condition}
use Rattle.sv_vc.specs.declared.state.Scope.{Scope}
use Rattle.sv_vc.specs.declared.state.State.{State as CodeState}
use Rattle.sv_vc.specs.ConditionsExact.{HasFitting, HaveFitting}
use Rattle.sv_vc.specs.ConditionWalk.{Found, State}
use Rattle.sv_vc.specs.CodeStates.{sorts_of, formulas_of, found_of, state_of, sorts_in, IsScope, IsWellSorted, IsReady, IsMade, AreMade, MayWalk}

-- two states are one where their parts are
pub state_is : {us vs : List Term} {m n : ℕ} {fs gs : List Found} → us ≡ vs → m ≡ n → fs ≡ gs → (let s : State = record { env = us; next = m; found = fs } in s) ≡ (let s : State = record { env = vs; next = n; found = gs } in s)
state_is u v w = λ i. record { env = u i; next = v i; found = w i }

module _ (a b : Nodes) (k : Keeps a b) where
  mutual
    pub command_kept : (s : Shape) → IsIn a s → command b s ≡ command a s
    command_kept (Assume f) h = ap c.Assume (k.terms f h)
    command_kept (Check l f) h = ap (c.Check l) (k.terms f h)
    command_kept (Set x u) h = ap (c.Set x) (k.terms u h)
    command_kept (Forget x) h = refl
    command_kept (Seq xs) h = ap c.Seq (commands_kept xs h)
    command_kept (Choice xs) h = ap c.Choice (commands_kept xs h)

    pub commands_kept : (xs : Shapes) → AreIn a xs → commands b xs ≡ commands a xs
    commands_kept Nil h = refl
    commands_kept (Cons s xs) h = ap₂ c.Cons (command_kept s h.0) (commands_kept xs h.1)

  mutual
    pub in_kept : (s : Shape) → IsIn a s → IsIn b s
    in_kept (Assume f) h = omega (arith, k.size, h)
    in_kept (Check l f) h = omega (arith, k.size, h)
    in_kept (Set x u) h = omega (arith, k.size, h)
    in_kept (Forget x) h = tt
    in_kept (Seq xs) h = are_kept xs h
    in_kept (Choice xs) h = are_kept xs h

    pub are_kept : (xs : Shapes) → AreIn a xs → AreIn b xs
    are_kept Nil h = tt
    are_kept (Cons s xs) h = (in_kept s h.0, are_kept xs h.1)

  pub found_kept : (cs : List Condition) → AreTerms a (formulas_of cs) → found_of b cs ≡ found_of a cs
  found_kept [] h = refl
  found_kept (x ∷ cs) h = ap₂ (λ y ys. record { label = x.label; formula = y } ∷ ys) (k.terms x.formula h.0) (found_kept cs h.1)

  pub state_kept : (s : CodeState) → AreTerms a s.env → AreTerms a (formulas_of s.found) → state_of b s ≡ state_of a s
  state_kept s h f = state_is (k.lists s.env h) refl (found_kept s.found f)

  pub ready_kept : (vars : List Sort) (s : CodeState) → IsReady a vars s → IsReady b vars s
  ready_kept vars s r = record {
    env = k.within s.env r.env;
    found = k.within (formulas_of s.found) r.found;
    sorted = subst (IsWellSorted vars) (sym (state_kept s r.env r.found)) r.sorted;
  }

  pub made_kept : (vars : List Sort) (x : Shape) → IsMade a vars x → IsMade b vars x
  made_kept vars x m = record {
    within = in_kept x m.within;
    formed = subst (IsFormed vars) (sym (command_kept x m.within)) m.formed;
    fitting = subst HasFitting (sym (command_kept x m.within)) m.fitting;
  }

  pub all_made_kept : (vars : List Sort) (xs : Shapes) → AreMade a vars xs → AreMade b vars xs
  all_made_kept vars xs m = record {
    within = are_kept xs m.within;
    formed = subst (AreFormed vars) (sym (commands_kept xs m.within)) m.formed;
    fitting = subst HaveFitting (sym (commands_kept xs m.within)) m.fitting;
  }

  module _ (scope : Scope) (s : IsScope a scope) where
    pub sorts_same : sorts_in b scope ≡ sorts_in a scope
    sorts_same = k.sort_lists (sorts_of scope.given) s.given

    pub scope_kept : IsScope b scope
    scope_kept = record {
      given = k.sorts_within (sorts_of scope.given) s.given;
      joined = k.sorts_within (sorts_of scope.joined) s.joined;
      wides = k.sort_lists (sorts_of scope.joined) s.joined ∙ (s.wides ∙ ap (map wide) (sym sorts_same));
    }

    -- at the sorts that the later bank has
    pub made_later : (x : Shape) → IsMade a (sorts_in a scope) x → IsMade b (sorts_in b scope) x
    made_later x m = subst (λ vars. IsMade b vars x) (sym sorts_same) (made_kept (sorts_in a scope) x m)

    pub all_made_later : (xs : Shapes) → AreMade a (sorts_in a scope) xs → AreMade b (sorts_in b scope) xs
    all_made_later xs m = subst (λ vars. AreMade b vars xs) (sym sorts_same) (all_made_kept (sorts_in a scope) xs m)

    pub may_walk : (before : TermId) (t : CodeState) → IsBool b before → IsReady b (sorts_in a scope) t → MayWalk b scope before t
    may_walk before t h r = record { scope_is = scope_kept; known = h; ready = subst (λ vars. IsReady b vars t) (sym sorts_same) r }

-- ---- one command of a list

made_head : (b : Nodes) (vars : List Sort) (x : Shape) (xs : Shapes) → AreMade b vars (Cons x xs) → IsMade b vars x
made_head b vars x xs m = record { within = m.within.0; formed = m.formed.0; fitting = m.fitting.0 }

made_tail : (b : Nodes) (vars : List Sort) (x : Shape) (xs : Shapes) → AreMade b vars (Cons x xs) → AreMade b vars xs
made_tail b vars x xs m = record { within = m.within.1; formed = m.formed.1; fitting = m.fitting.1 }

pub made_at : (b : Nodes) (vars : List Sort) (cs : List Cmd) (i : ℕ) (y : Cmd) → i < length cs → y ≡ get_or cs i y → AreMade b vars (shaped (map shape cs)) → IsMade b vars (shape y)
made_at b vars [] i y h e m = absurd (omega (arith, h))
made_at b vars (x ∷ cs) zero y h e m = subst (λ z. IsMade b vars (shape z)) (sym e) (made_head b vars (shape x) (shaped (map shape cs)) m)
made_at b vars (x ∷ cs) (suc i) y h e m = made_at b vars cs i y (omega (arith, h)) e (made_tail b vars (shape x) (shaped (map shape cs)) m)
