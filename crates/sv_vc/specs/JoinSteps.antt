-- Serves the proof: versions that join the branches of a choice, one by one and together.
use Rattle.std.specs.Prelude.{ℕ, ◌+◌, ◌<◌, ◌≤◌, Bool, cond, List, ◌≡◌, length, map, IfOk, Result}
use Rattle.sv_text.specs.declared.no_memory.NoMemory.{NoMemory}
use Rattle.sv_term.specs.Terms.{Var, And, Eq}
use Rattle.sv_term.specs.Banks.{Nodes, IsTerm, IsBool, AreTerms, Keeps, Stands, term, term_list, wide, kind_of}
use Rattle.sv_term.specs.declared.node.TermId.{TermId}
use Rattle.sv_gcl.specs.declared.lowered.GVar.{GVar}
use Rattle.sv_gcl.specs.Commands.{var_sort}
use Rattle.sv_vc.specs.declared.state.Scope.{Scope}
use Rattle.sv_vc.specs.ConditionWalk.{joint, after_joint, agreed}
use Rattle.sv_vc.specs.CodeStates.{IsScope, Extends, sorts_in, marked}

pub record MayJoin (b : Nodes) (scope : Scope) (x : ℕ) (now : TermId) : Type 0 where
  pub scope_is : IsScope b scope
  pub variable : x < length scope.joined
  pub within : IsTerm b now

-- one version
pub record JoinsOne (old : Nodes) (scope : Scope) (is_set : Bool) (x : ℕ) (now : TermId) (vars : List GVar) (r : Result TermId NoMemory) (new : Nodes) (after : List GVar) : Type 0 where
  pub kept : Keeps old new
  pub stands : IfOk r (λ k. Stands new k (cond is_set (Var (length vars) (wide (var_sort (sorts_in old scope) x))) (term old now)))
  pub next : IfOk r (λ k. length after ≡ cond is_set (length vars + 1) (length vars))
  pub size : IfOk r (λ k. length new.nodes ≤ length old.nodes + 1)
  pub extends : IfOk r (λ k. Extends scope vars after)

pub record MayJoinAll (b : Nodes) (scope : Scope) (marks : List Bool) (env : List TermId) : Type 0 where
  pub scope_is : IsScope b scope
  pub within : AreTerms b env
  pub marks_size : length marks ≡ length env
  pub scope_size : length scope.joined ≡ length env

-- a version of each variable
pub record Joins (old : Nodes) (scope : Scope) (marks : List Bool) (env : List TermId) (vars : List GVar) (r : Result (List TermId) NoMemory) (new : Nodes) (after : List GVar) : Type 0 where
  pub kept : Keeps old new
  pub within : IfOk r (AreTerms new)
  pub terms : IfOk r (λ ks. term_list new ks ≡ joint (sorts_in old scope) (marked marks) 0 (term_list old env) (length vars))
  pub next : IfOk r (λ ks. length after ≡ after_joint (marked marks) 0 (term_list old env) (length vars))
  pub size : IfOk r (λ ks. length new.nodes ≤ length old.nodes + length env)
  pub extends : IfOk r (λ ks. Extends scope vars after)

-- that one variable is its version
pub record AgreesOne (old : Nodes) (is_set : Bool) (facts a b : TermId) (r : Result TermId NoMemory) (new : Nodes) : Type 0 where
  pub kept : Keeps old new
  pub truth : IfOk r (IsBool new)
  pub is : IfOk r (λ k. term new k ≡ cond is_set (And (term old facts) (Eq (term old a) (term old b))) (term old facts))
  pub size : IfOk r (λ k. length new.nodes ≤ length old.nodes + 2)

pub record MayAgree (b : Nodes) (marks : List Bool) (facts : TermId) (env versions : List TermId) : Type 0 where
  pub truth : IsBool b facts
  pub env_within : AreTerms b env
  pub versions_within : AreTerms b versions
  pub marks_size : length marks ≡ length env
  pub versions_size : length versions ≡ length env
  pub kinds : map kind_of (term_list b versions) ≡ map kind_of (term_list b env)

-- that all are
pub record Agrees (old : Nodes) (marks : List Bool) (facts : TermId) (env versions : List TermId) (r : Result TermId NoMemory) (new : Nodes) : Type 0 where
  pub kept : Keeps old new
  pub truth : IfOk r (IsBool new)
  pub is : IfOk r (λ k. term new k ≡ agreed (marked marks) 0 (term old facts) (term_list old env) (term_list old versions))
  pub size : IfOk r (λ k. length new.nodes ≤ length old.nodes + (length env + length env))
