-- Serves the proof: what is found of a node, by numbers.
use Rattle.std.specs.Prelude.{ℕ, ◌+◌, ◌<◌, ◌≤◌, Bool, true, List, [], ◌∷◌, ◌++◌, ◌≡◌, ◌↔◌, length, slice_get, Some, MatchBool}
use Rattle.std.specs.List.{All}
use Rattle.sv_term.specs.Terms.{Term, App, Terms, End, More, two, term_at}
use Rattle.sv_term.specs.FactRuleTest.{args_of}
use Rattle.sv_term.specs.FactRules.{Fact, size}
use Rattle.sv_log.specs.Logs.{nth_term, nth_terms}
use Rattle.sv_pattern.specs.TermKinds.{shape_by}
use Rattle.sv_pattern.specs.Patterns.{Follows, AreRelated, facts_by, trees_by}
use Rattle.sv_pattern.specs.declared.step.Relation.{Relation}
use Rattle.sv_pattern.specs.declared.numbers.Name.{Name}
use Rattle.sv_pattern.specs.declared.step.Step.{Step}
use Rattle.sv_pattern.specs.declared.step.Step.TheVariants.{Concludes, Premise, One, Two, Three, Is, Are, InRange}

-- the tree is a node of that name with the two arguments
pub record IsTwo (ts : List Term) (n : ℕ) (x : Name) (a b : ℕ) : Type 0 where
  pub first : a < length ts
  pub second : b < length ts
  pub is : nth_term ts n ≡ two (shape_by x) (nth_term ts a) (nth_term ts b)

pub record IsNoTwo (ts : List Term) (n : ℕ) (x : Name) : Type 0 where
  pub none : (a b : Term) → nth_term ts n ≡ two (shape_by x) a b → ⊥

-- ---- steps

abbrev pub AreBelow : List Term → List ℕ → Type 0
AreBelow ts ns = All (λ n. n < length ts) ns

abbrev pub ArePremises : List Term → List (Bool × ℕ) → Type 0
ArePremises ts ps = All (λ (p : Bool × ℕ). p.1 < length ts) ps

-- how many terms the steps name at most
abbrev pub named_by : Step → ℕ
named_by (Premise s) = 1
named_by (One k x) = 1
named_by (Two k x) = 2
named_by (Three k x) = 3
named_by _ = 0

abbrev pub named : List Step → ℕ
named [] = 0
named (s ∷ more) = named_by s + named more

-- the named term is a node of that name with so many arguments, and these are named
pub record IsOpened (ts : List Term) (ns : List ℕ) (k : ℕ) (x : Name) (count : ℕ) (new : List ℕ) : Type 0 where
  pub n : ℕ
  pub args : List ℕ
  pub there : slice_get ns k ≡ Some n
  pub is : nth_term ts n ≡ App (shape_by x) (nth_terms ts args)
  pub counted : length args ≡ count
  pub below : AreBelow ts args
  pub added : new ≡ ns ++ args

pub record IsNotOpened (ts : List Term) (ns : List ℕ) (k : ℕ) (x : Name) (count : ℕ) : Type 0 where
  pub none : (us : Terms) → slice_get (trees_by ts ns) k ≡ Some (App (shape_by x) us) → size us ≡ count → ⊥

abbrev pub CanOpen : List Term → List ℕ → ℕ → Type 0
CanOpen ts ns count = AreBelow ts ns × (length ns + count ≤ 16)

abbrev pub Opened : List Term → List ℕ → ℕ → Name → ℕ → List ℕ → Bool → Type 0
Opened ts ns k x count new found = MatchBool found (IsOpened ts ns k x count new) (IsNotOpened ts ns k x count)

pub record IsReady (ts : List Term) (steps : List Step) (ps : List (Bool × ℕ)) (ns : List ℕ) : Type 0 where
  pub premises : ArePremises ts ps
  pub terms : AreBelow ts ns
  pub room : length ns + named steps ≤ 16

-- a step doesn't hold, or it holds exactly where the others do of what is left
pub record Fails (ts : List Term) (sign : Bool) (step : Step) (ps : List (Bool × ℕ)) (ns : List ℕ) : Type 0 where
  pub none : (more : List Step) → Follows (step ∷ more) sign (facts_by ts ps) (trees_by ts ns) → ⊥

pub record Passes (ts : List Term) (sign : Bool) (step : Step) (ps : List (Bool × ℕ)) (ns : List ℕ) (left : List (Bool × ℕ)) (new : List ℕ) : Type 0 where
  pub same : (more : List Step) → Follows (step ∷ more) sign (facts_by ts ps) (trees_by ts ns) ↔ Follows more sign (facts_by ts left) (trees_by ts new)
  pub premises : ArePremises ts left
  pub terms : AreBelow ts new
  pub room : length new ≤ length ns + named_by step

-- the premises begin with these facts
pub record IsBehind (ts : List Term) (fs : List Fact) (ps left : List (Bool × ℕ)) : Type 0 where
  pub facts : facts_by ts ps ≡ fs ++ facts_by ts left
  pub below : ArePremises ts left

pub record IsNotBehind (ts : List Term) (fs : List Fact) (ps : List (Bool × ℕ)) : Type 0 where
  pub none : (gs : List Fact) → facts_by ts ps ≡ fs ++ gs → ⊥

-- there is no next premise of that sign
pub record IsNoPremise (sign : Bool) (ps : List (Bool × ℕ)) : Type 0 where
  pub none : (n : ℕ) (qs : List (Bool × ℕ)) → ps ≡ (sign, n) ∷ qs → ⊥

pub record CanFollow (ts : List Term) (steps : List Step) (ps : List (Bool × ℕ)) (n : ℕ) : Type 0 where
  pub premises : ArePremises ts ps
  pub within : n < length ts
  pub room : named steps < 16

-- the first steps are taken, and the rest is left
pub record IsFollowing (ts : List Term) (steps : List Step) (sign : Bool) (ps : List (Bool × ℕ)) (n : ℕ) (rest : List Step) (left : List (Bool × ℕ)) (ns : List ℕ) : Type 0 where
  pub same : Follows steps sign (facts_by ts ps) (nth_term ts n ∷ []) ↔ Follows rest sign (facts_by ts left) (trees_by ts ns)
  pub ready : IsReady ts rest left ns

-- the k-th argument of a tree
pub record IsArgument (ts : List Term) (t k n : ℕ) : Type 0 where
  pub within : k < size (args_of (nth_term ts t))
  pub is : term_at k (args_of (nth_term ts t)) ≡ nth_term ts n

-- the only argument of a tree
pub record HasOnly (ts : List Term) (m t : ℕ) : Type 0 where
  pub within : t < length ts
  pub is : args_of (nth_term ts m) ≡ More (nth_term ts t) End

pub record HasNotOne (t : Term) : Type 0 where
  pub none : (u : Term) → args_of t ≡ More u End → ⊥

-- the next premise has that sign, and its term is named
abbrev pub TakesOne : Bool → List (Bool × ℕ) → List (Bool × ℕ) → List ℕ → List ℕ → Type 0
TakesOne sign ps left ns new = (n : ℕ) × (ps ≡ (sign, n) ∷ left) × (new ≡ ns ++ n ∷ [])

abbrev pub AreThere : List Term → ℕ → ℕ → Type 0
AreThere ts m n = (m < length ts) × (n < length ts)

abbrev pub RelatedAt : List Term → Relation → ℕ → ℕ → Type 0
RelatedAt ts r m n = AreRelated r (nth_term ts m) (nth_term ts n)

abbrev pub HasArgument : List Term → ℕ → ℕ → Type 0
HasArgument ts m n = args_of (nth_term ts m) ≡ More (nth_term ts n) End
