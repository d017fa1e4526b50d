-- Believed: commands over terms, stores, and what a run of a command comes to. Hold it against the README's table of commands.
use Rattle.std.specs.Prelude.{ℕ, Bool, true, false, ◌||◌, nat_eq, List, [], ◌∷◌, ◌≡◌, ◌⊎◌, slice_index_or, slice_set}
use Rattle.sv_core.specs.declared.label.Label.{Label}
use Rattle.sv_term.specs.Sorts.{Sort, BoolSort}
use Rattle.sv_term.specs.Values.{Value, Flag, flag, IsOf, IsZeroed}
use Rattle.sv_term.specs.Terms.{Term}
use Rattle.sv_term.specs.Models.{Look, value_by}

mutual
  pub data Command : Type 0 where
    Assume : (f : Term) → Command
    Check : (l : Label) (f : Term) → Command
    Set : (x : ℕ) (t : Term) → Command
    Forget : (x : ℕ) → Command
    Seq : (cs : Commands) → Command
    Choice : (cs : Commands) → Command

  pub data Commands : Type 0 where
    Nil : Commands
    Cons : (c : Command) (cs : Commands) → Commands

-- ---- stores

-- a value for each variable
abbrev pub Store : Type 0
Store = List Value

-- a term reads the variables of the store by their numbers
abbrev pub in_store : Store → Look
in_store s n σ = slice_index_or s n (Flag false)

abbrev pub value_in : Store → Term → Value
value_in s t = value_by (in_store s) t

abbrev pub truth_in : Store → Term → Bool
truth_in s t = flag (value_in s t)

abbrev pub var_sort : List Sort → ℕ → Sort
var_sort vars x = slice_index_or vars x BoolSort

-- a value that a model may give to a variable of the sort
abbrev pub Suits : Sort → Value → Type 0
Suits σ v = IsOf σ v × IsZeroed σ v

-- the stores from which a run starts
abbrev pub AllSuit : List Sort → Store → Type 0
AllSuit [] [] = Unit {0}
AllSuit [] (v ∷ s) = ⊥
AllSuit (σ ∷ vars) [] = ⊥
AllSuit (σ ∷ vars) (v ∷ s) = Suits σ v × AllSuit vars s

-- ---- runs

-- a run ends with a store or fails at a label
pub data Outcome : Type 0 where
  Ends : (s : Store) → Outcome
  Fails : (l : Label) → Outcome

abbrev mutual
  -- some run of the command, from the store, comes to this
  pub ComesTo : List Sort → Command → Store → Outcome → Type 0
  ComesTo vars (Assume f) s o = (truth_in s f ≡ true) × (o ≡ Ends s)
  ComesTo vars (Check l f) s o = ((truth_in s f ≡ true) × (o ≡ Ends s)) ⊎ ((truth_in s f ≡ false) × (o ≡ Fails l))
  ComesTo vars (Set x t) s o = o ≡ Ends (slice_set s x (value_in s t))
  ComesTo vars (Forget x) s o = (v : Value) × Suits (var_sort vars x) v × (o ≡ Ends (slice_set s x v))
  ComesTo vars (Seq cs) s o = AllComeTo vars cs s o
  ComesTo vars (Choice cs) s o = OneComesTo vars cs s o

  -- one after another, up to the first that fails
  pub AllComeTo : List Sort → Commands → Store → Outcome → Type 0
  AllComeTo vars Nil s o = o ≡ Ends s
  AllComeTo vars (Cons c cs) s o = ((t : Store) × ComesTo vars c s (Ends t) × AllComeTo vars cs t o) ⊎ ((l : Label) × (o ≡ Fails l) × ComesTo vars c s (Fails l))

  pub OneComesTo : List Sort → Commands → Store → Outcome → Type 0
  OneComesTo vars Nil s o = ⊥
  OneComesTo vars (Cons c cs) s o = ComesTo vars c s o ⊎ OneComesTo vars cs s o

abbrev pub NoRunFails : List Sort → Command → Label → Type 0
NoRunFails vars c l = (s : Store) → AllSuit vars s → ComesTo vars c s (Fails l) → ⊥

-- ---- what a command sets

abbrev mutual
  -- whether it sets or forgets the variable
  pub sets : Command → ℕ → Bool
  sets (Assume f) x = false
  sets (Check l f) x = false
  sets (Set y t) x = nat_eq y x
  sets (Forget y) x = nat_eq y x
  sets (Seq cs) x = some_set cs x
  sets (Choice cs) x = some_set cs x

  pub some_set : Commands → ℕ → Bool
  some_set Nil x = false
  some_set (Cons c cs) x = sets c x || some_set cs x

abbrev pub UnsetStays : Type 0
UnsetStays = (vars : List Sort) (c : Command) (s t : Store) (x : ℕ) → sets c x ≡ false → ComesTo vars c s (Ends t) → slice_index_or t x (Flag false) ≡ slice_index_or s x (Flag false)
