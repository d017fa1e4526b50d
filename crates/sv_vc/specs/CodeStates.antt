-- Serves the proof: what the state of the code stands for, and what a walk of the code gives.
use Rattle.std.specs.Prelude.{ℕ, ◌+◌, ◌≤◌, Bool, List, [], ◌∷◌, ◌≡◌, ◌⊎◌, ◌++◌, length, map, slice_index_or, IfOk, Result, false}
use Rattle.sv_text.specs.declared.no_memory.NoMemory.{NoMemory}
use Rattle.sv_term.specs.Sorts.{Sort, BoolSort}
use Rattle.sv_term.specs.Terms.{Truth}
use Rattle.sv_term.specs.Banks.{Nodes, IsBool, AreTerms, AreSorts, Keeps, StandsIn, term, term_list, sort_list, wide, kind_of}
use Rattle.sv_term.specs.declared.node.SortId.{SortId}
use Rattle.sv_term.specs.declared.node.TermId.{TermId}
use Rattle.sv_gcl.specs.declared.command.Cmd.{Cmd}
use Rattle.sv_gcl.specs.declared.lowered.GVar.{GVar}
use Rattle.sv_gcl.specs.CommandShapes.{Shape, Shapes, Assume, Check, Set, Forget, Seq, Choice, Nil, Cons, shape, shaped, command, commands, IsIn, AreIn}
use Rattle.sv_gcl.specs.FormedCommands.{IsFormed, AreFormed}
use Rattle.sv_vc.specs.declared.answer.Condition.{Condition}
use Rattle.sv_vc.specs.declared.state.Scope.{Scope}
use Rattle.sv_vc.specs.declared.state.State.{State as CodeState}
use Rattle.sv_vc.specs.ConditionWalk.{Found, State, Walked, walk, walk_any}
use Rattle.sv_vc.specs.ConditionsExact.{HasFitting, HaveFitting}
use Rattle.sv_vc.specs.OpenTerms.{HasKinds}

-- commands of the code as plain data
abbrev pub shapes_of : List Cmd → Shapes
shapes_of cmds = shaped (map shape cmds)

abbrev pub sorts_of : List GVar → List SortId
sorts_of vs = map (λ v. v.sort) vs

abbrev pub formulas_of : List Condition → List TermId
formulas_of cs = map (λ c. c.formula) cs

abbrev pub found_of : Nodes → List Condition → List Found
found_of b [] = []
found_of b (c ∷ cs) = record { label = c.label; formula = term b c.formula } ∷ found_of b cs

abbrev pub state_of : Nodes → CodeState → State
state_of b s = record { env = term_list b s.env; next = length s.vars; found = found_of b s.found }

-- the sorts of the variables of the command
abbrev pub sorts_in : Nodes → Scope → List Sort
sorts_in b s = sort_list b (sorts_of s.given)

-- the variables that a list marks
abbrev pub marked : List Bool → ℕ → Bool
marked bs x = slice_index_or bs x false

pub record IsScope (b : Nodes) (s : Scope) : Type 0 where
  pub given : AreSorts b (sorts_of s.given)
  pub joined : AreSorts b (sorts_of s.joined)
  pub wides : sort_list b (sorts_of s.joined) ≡ map wide (sort_list b (sorts_of s.given))

abbrev pub AllBool : List Found → Type 0
AllBool [] = Unit {0}
AllBool (f ∷ fs) = (kind_of f.formula ≡ BoolSort) × AllBool fs

-- each variable stands for a term of its sort, and what is to be shown are truth values
pub record IsWellSorted (vars : List Sort) (s : State) : Type 0 where
  pub size : length s.env ≡ length vars
  pub kinds : HasKinds vars s.env
  pub truths : AllBool s.found

pub record IsReady (b : Nodes) (vars : List Sort) (s : CodeState) : Type 0 where
  pub env : AreTerms b s.env
  pub found : AreTerms b (formulas_of s.found)
  pub sorted : IsWellSorted vars (state_of b s)

-- a command of the bank
pub record IsMade (b : Nodes) (vars : List Sort) (x : Shape) : Type 0 where
  pub within : IsIn b x
  pub formed : IsFormed vars (command b x)
  pub fitting : HasFitting (command b x)

pub record AreMade (b : Nodes) (vars : List Sort) (xs : Shapes) : Type 0 where
  pub within : AreIn b xs
  pub formed : AreFormed vars (commands b xs)
  pub fitting : HaveFitting (commands b xs)

-- where a walk may begin
pub record MayWalk (b : Nodes) (scope : Scope) (before : TermId) (s : CodeState) : Type 0 where
  pub scope_is : IsScope b scope
  pub known : IsBool b before
  pub ready : IsReady b (sorts_in b scope) s

pub record Gives (b : Nodes) (s : CodeState) (k : TermId) (w : Walked) : Type 0 where
  pub truth : IsBool b k
  pub facts : term b k ≡ w.facts
  pub env : AreTerms b s.env
  pub found : AreTerms b (formulas_of s.found)
  pub state : state_of b s ≡ w.state

pub record MayWalkAll (b : Nodes) (scope : Scope) (xs : Shapes) (before : TermId) (s : CodeState) : Type 0 where
  pub made : AreMade b (sorts_in b scope) xs
  pub begins : MayWalk b scope before s

-- ---- the variables that a walk adds

-- versions of those of the command
abbrev pub AllFrom : Scope → List GVar → Type 0
AllFrom s [] = Unit {0}
AllFrom s (v ∷ vs) = (StandsIn s.given v ⊎ StandsIn s.joined v) × AllFrom s vs

pub record Extends (s : Scope) (old new : List GVar) : Type 0 where
  pub more : List GVar
  pub is : new ≡ old ++ more
  pub from : AllFrom s more

-- ---- how many terms a walk adds

abbrev mutual
  -- over so many variables, an `And` for each check of a label counted beside
  pub cost : ℕ → Shape → ℕ
  cost n (Assume f) = f.0 + 1
  cost n (Check l f) = f.0 + 5
  cost n (Set x t) = t.0 + 2
  cost n (Forget x) = 2
  cost n (Seq xs) = costs n xs + 1
  cost n (Choice xs) = costs n xs + (n + 1)

  pub costs : ℕ → Shapes → ℕ
  costs n Nil = 0
  costs n (Cons x xs) = cost n x + (n + n + 2) + costs n xs

-- terms, and formulas that are still to be joined
abbrev pub load : Nodes → CodeState → ℕ
load b s = length b.nodes + length s.found

-- ---- what a walk of the code comes to

pub record Walks (old : Nodes) (scope : Scope) (x : Shape) (before : TermId) (s : CodeState) (r : Result TermId NoMemory) (new : Nodes) (t : CodeState) : Type 0 where
  pub kept : Keeps old new
  pub gives : IfOk r (λ k. Gives new t k (walk (sorts_in old scope) (command old x) (term old before) (state_of old s)))
  pub size : IfOk r (λ k. load new t ≤ load old s + cost (length scope.given) x)
  pub extends : IfOk r (λ k. Extends scope s.vars t.vars)

-- where the branches of a choice may begin: what the variables stand for before it, and their versions
pub record MayBranch (b : Nodes) (scope : Scope) (marks : List Bool) (env joined : List TermId) : Type 0 where
  pub marks_size : length marks ≡ length env
  pub env_within : AreTerms b env
  pub env_size : length env ≡ length (sorts_in b scope)
  pub env_kinds : HasKinds (sorts_in b scope) (term_list b env)
  pub joined_within : AreTerms b joined
  pub joined_size : length joined ≡ length env
  pub joined_kinds : HasKinds (sorts_in b scope) (term_list b joined)

-- what branches give, whatever the variables stand for then
pub record GivesAny (b : Nodes) (s : CodeState) (k : TermId) (w : Walked) : Type 0 where
  pub truth : IsBool b k
  pub facts : term b k ≡ w.facts
  pub found : AreTerms b (formulas_of s.found)
  pub next : length s.vars ≡ w.state.next
  pub found_is : found_of b s.found ≡ w.state.found

pub record WalksAny (old : Nodes) (scope : Scope) (xs : Shapes) (before : TermId) (s : CodeState) (marks : List Bool) (env joined : List TermId) (r : Result TermId NoMemory) (new : Nodes) (t : CodeState) : Type 0 where
  pub kept : Keeps old new
  pub gives : IfOk r (λ k. GivesAny new t k (walk_any (sorts_in old scope) (commands old xs) (term old before) (term_list old env) (marked marks) (term_list old joined) (Truth false) (state_of old s)))
  pub size : IfOk r (λ k. load new t ≤ load old s + (costs (length scope.given) xs + 1))
  pub extends : IfOk r (λ k. Extends scope s.vars t.vars)

pub record MayChoose (b : Nodes) (scope : Scope) (cmds : List Cmd) (before : TermId) (s : CodeState) (marks : List Bool) (env joined : List TermId) : Type 0 where
  pub made : AreMade b (sorts_in b scope) (shapes_of cmds)
  pub begins : MayWalk b scope before s
  pub branches : MayBranch b scope marks env joined
