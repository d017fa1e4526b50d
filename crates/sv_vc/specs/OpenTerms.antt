-- Serves the proof: terms whose variables stand for terms of their sorts, and what is known of terms that were replaced.
use Rattle.std.specs.Prelude.{ℕ, zero, suc, ◌+◌, ◌≤◌, false, cond, List, ◌≡◌, length, map, slice_get, slice_index_or, Option, Some, is_some, IfOk, Result}
use Rattle.sv_text.specs.declared.no_memory.NoMemory.{NoMemory}
use Rattle.sv_term.specs.Sorts.{Sort}
use Rattle.sv_term.specs.Terms.{Term, Truth, sort_of}
use Rattle.sv_term.specs.Banks.{Nodes, IsTerm, AreTerms, Keeps, Stands, term, term_list, wide, args}
use Rattle.sv_term.specs.declared.node.TermId.{TermId}
use Rattle.sv_term.specs.declared.node.Node.{Node}
use Rattle.sv_gcl.specs.Commands.{var_sort}
use Rattle.sv_gcl.specs.FormedCommands.{IsOver}
use Rattle.sv_vc.specs.Replacing.{replaced}

-- each variable stands for a term of its sort
abbrev pub HasKinds : List Sort → List Term → Type 0
HasKinds vars env = (n : ℕ) → wide (sort_of (slice_index_or env n (Truth false))) ≡ wide (var_sort vars n)

-- over some variables, each of which stands for a term of its sort
pub record IsOpen (x : Term) (env : List Term) : Type 0 where
  pub vars : List Sort
  pub over : IsOver vars x
  pub kinds : HasKinds vars env
  pub size : length env ≡ length vars

-- what stands at the numbers of terms was replaced
pub record Remembers (b : Nodes) (env : List Term) (memo : ℕ → Option TermId) : Type 0 where
  pub at : (k r : TermId) → memo k.0 ≡ Some r → IsTerm b k × Stands b r (replaced (term b k) env)

-- how many numbers below have nothing
abbrev pub missing : (ℕ → Option TermId) → ℕ → ℕ
missing memo zero = 0
missing memo (suc n) = cond (is_some (memo n)) 0 1 + missing memo n

pub record MayReplace (b : Nodes) (env : List TermId) (memo : ℕ → Option TermId) (t : TermId) : Type 0 where
  pub within : IsTerm b t
  pub env_within : AreTerms b env
  pub open_is : IsOpen (term b t) (term_list b env)
  pub remembers : Remembers b (term_list b env) memo

-- what is remembered changes at numbers up to n alone, and each new term is paid for by one; `more` may be owed
pub record Pays (old new : Nodes) (n : ℕ) (more : ℕ) (memo now : ℕ → Option TermId) : Type 0 where
  pub above : (k : ℕ) → n ≤ k → now k ≡ memo k
  pub size : (k : ℕ) → n ≤ k → length new.nodes + missing now k ≤ length old.nodes + missing memo k + more

pub record Replaces (old : Nodes) (env : List TermId) (memo : ℕ → Option TermId) (t : TermId) (n more : ℕ) (r : Result TermId NoMemory) (new : Nodes) (now : ℕ → Option TermId) : Type 0 where
  pub kept : Keeps old new
  pub stands : IfOk r (λ k. Stands new k (replaced (term old t) (term_list old env)))
  pub remembers : IfOk r (λ k. Remembers new (term_list old env) now)
  pub pays : IfOk r (λ k. Pays old new n more memo now)

-- the arguments of the node of t
pub record ReplacesArgs (old : Nodes) (env : List TermId) (memo : ℕ → Option TermId) (t : TermId) (r : Result (List TermId) NoMemory) (new : Nodes) (now : ℕ → Option TermId) : Type 0 where
  pub kept : Keeps old new
  pub within : IfOk r (λ ks. AreTerms new ks)
  pub terms : IfOk r (λ ks. (x : Node) → slice_get old.nodes t.0 ≡ Some x → term_list new ks ≡ map (λ k. replaced (term old k) (term_list old env)) (args x))
  pub remembers : IfOk r (λ k. Remembers new (term_list old env) now)
  pub pays : IfOk r (λ k. Pays old new t.0 0 memo now)
