-- A choice: its versions, and its branches.
use Rattle.std.proofs.Common.{ℕ, Bool, false, ◌<◌, ◌≡◌, List, length, sym, ap, ap₂, ◌∙◌, subst, arith}
use Rattle.sv_term.specs.Sorts.{Sort}
use Rattle.sv_term.specs.Terms.{Truth}
use Rattle.sv_term.specs.Banks.{Nodes, AreTerms, Keeps, term, term_list}
use Rattle.sv_term.specs.declared.node.TermId.{TermId}
use Rattle.sv_term.proofs.BankLists.{list_length}
use Rattle.sv_gcl.specs.Commands.{Commands, some_set}
use Rattle.sv_gcl.specs.Commands as c
use Rattle.sv_gcl.specs.CommandShapes.{Shapes, commands}
use Rattle.sv_gcl.specs.declared.lowered.GVar.{GVar}
use Rattle.sv_vc.specs.declared.state.Scope.{Scope}
use Rattle.sv_vc.specs.declared.state.State.{State as CodeState}
use Rattle.sv_vc.specs.ConditionWalk.{State, Walked, joint, after_joint, walk, walk_any}
use Rattle.sv_vc.specs.OpenTerms.{HasKinds}
use Rattle.sv_vc.specs.SetVariables.{some_shape_sets}
use Rattle.sv_vc.specs.JoinSteps.{MayJoinAll}
use Rattle.sv_vc.specs.CodeStates.{found_of, state_of, sorts_in, marked, AreMade, MayWalk, MayBranch, Gives, GivesAny}
use Rattle.sv_vc.proofs.Bounds.{env_any, joint_length, versions_kinds}
use Rattle.sv_vc.proofs.Kept.{state_is, state_kept, commands_kept, sorts_same}
use Rattle.sv_vc.proofs.SettingSteps.{some_same}
use Rattle.sv_vc.proofs.StepLemmas.{scope_long, joined_long}
use Rattle.sv_vc.proofs.Turns.{marks_are}

module _ (o : Nodes) (scope : Scope) (xs : Shapes) (before : TermId) (s : CodeState) (made : AreMade o (sorts_in o scope) xs) (may : MayWalk o scope before s) (marks : List Bool) (size : length marks ≡ length s.env) (is : (x : ℕ) → x < length s.env → marked marks x ≡ some_shape_sets xs x) where
  abbrev pub V : List Sort
  V = sorts_in o scope

  env_long : length s.env ≡ length V
  env_long = sym (list_length o s.env) ∙ may.ready.sorted.size

  -- the marks say what the branches set
  marked_is : marked marks ≡ some_set (commands o xs)
  marked_is = marks_are V marks (commands o xs) made.formed (size ∙ env_long) (λ x h. is x (omega (arith, h, env_long)) ∙ some_same o xs x)

  pub may_join : (env : List TermId) → env ≡ s.env → MayJoinAll o scope marks env
  may_join env e = record {
    scope_is = may.scope_is;
    within = subst (AreTerms o) (sym e) may.ready.env;
    marks_size = size ∙ ap length (sym e);
    scope_size = joined_long o scope may.scope_is ∙ (sym (scope_long o scope) ∙ (sym env_long ∙ ap length (sym e)));
  }

  module _ (a : Nodes) (env joined : List TermId) (vars : List GVar) (same : env ≡ s.env) (oa : Keeps o a) (within : AreTerms a joined) (terms : term_list a joined ≡ joint V (marked marks) 0 (term_list o env) (length s.vars)) (next : length vars ≡ after_joint (marked marks) 0 (term_list o env) (length s.vars)) where
    sorts_now : sorts_in a scope ≡ V
    sorts_now = sorts_same o a oa scope may.scope_is

    env_now : term_list a env ≡ term_list o s.env
    env_now = ap (term_list a) same ∙ oa.lists s.env may.ready.env

    versions_now : term_list a joined ≡ joint V (some_set (commands o xs)) 0 (term_list o s.env) (length s.vars)
    versions_now = terms ∙ ap₂ (λ p us. joint V p 0 us (length s.vars)) marked_is (ap (term_list o) same)

    next_now : length vars ≡ after_joint (some_set (commands o xs)) 0 (term_list o s.env) (length s.vars)
    next_now = next ∙ ap₂ (λ p us. after_joint p 0 us (length s.vars)) marked_is (ap (term_list o) same)

    pub may_branch : MayBranch a scope marks env joined
    may_branch = record {
      marks_size = size ∙ ap length (sym same);
      env_within = subst (AreTerms a) (sym same) (oa.within s.env may.ready.env);
      env_size = ap length same ∙ (env_long ∙ ap length (sym sorts_now));
      env_kinds = subst (λ vs. HasKinds vs (term_list a env)) (sym sorts_now) (subst (HasKinds V) (sym env_now) may.ready.sorted.kinds);
      joined_within = within;
      joined_size = sym (list_length a joined) ∙ (ap length versions_now ∙ (joint_length V (some_set (commands o xs)) 0 (term_list o s.env) (length s.vars) ∙ (list_length o s.env ∙ ap length (sym same))));
      joined_kinds = subst (λ vs. HasKinds vs (term_list a joined)) (sym sorts_now) (subst (HasKinds V) (sym versions_now) (versions_kinds V (some_set (commands o xs)) (term_list o s.env) (length s.vars) may.ready.sorted.kinds));
    }

    abbrev pub branches : Walked
    branches = walk_any (sorts_in a scope) (commands a xs) (term a before) (term_list a env) (marked marks) (term_list a joined) (Truth false) (state_of a record { env = s.env; vars = vars; found = s.found })

    abbrev pub begins : State
    begins = record { env = term_list o s.env; next = after_joint (some_set (commands o xs)) 0 (term_list o s.env) (length s.vars); found = found_of o s.found }

    abbrev pub whole : Walked
    whole = walk V (c.Choice (commands o xs)) (term o before) (state_of o s)

    branches_are : branches ≡ whole
    branches_are =
        ap₂ (λ vs ys. walk_any vs ys (term a before) (term_list a env) (marked marks) (term_list a joined) (Truth false) (state_of a record { env = s.env; vars = vars; found = s.found })) sorts_now (commands_kept o a oa xs made.within)
        ∙ (ap₂ (λ x us. walk_any V (commands o xs) x us (marked marks) (term_list a joined) (Truth false) (state_of a record { env = s.env; vars = vars; found = s.found })) (oa.terms before may.known.within) env_now
        ∙ (ap₂ (λ p us. walk_any V (commands o xs) (term o before) (term_list o s.env) p us (Truth false) (state_of a record { env = s.env; vars = vars; found = s.found })) marked_is versions_now
        ∙ ap (walk_any V (commands o xs) (term o before) (term_list o s.env) (some_set (commands o xs)) (joint V (some_set (commands o xs)) 0 (term_list o s.env) (length s.vars)) (Truth false)) start_now))
      where
        start_now : state_of a record { env = s.env; vars = vars; found = s.found } ≡ begins
        start_now = state_is (oa.lists s.env may.ready.env) next_now (ap (λ w. w.found) (state_kept o a oa s may.ready.env may.ready.found))

    -- what the choice gives, once each variable is its version
    pub chosen : (b : Nodes) (k : TermId) (t : CodeState) → Keeps a b → GivesAny b t k branches → Gives b record { env = joined; vars = t.vars; found = t.found } k whole
    chosen b k t ab g = record {
      truth = g.truth;
      facts = g.facts ∙ ap (λ w. w.facts) branches_are;
      env = ab.within joined within;
      found = g.found;
      state = state_is
          (ab.lists joined within ∙ (versions_now ∙ sym (env_any V (commands o xs) (term o before) (term_list o s.env) (some_set (commands o xs)) (joint V (some_set (commands o xs)) 0 (term_list o s.env) (length s.vars)) (Truth false) begins)))
          (g.next ∙ ap (λ w. w.state.next) branches_are)
          (g.found_is ∙ ap (λ w. w.state.found) branches_are);
    }
