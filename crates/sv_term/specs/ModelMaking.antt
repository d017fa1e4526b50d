-- Believed: what models can be made of, arrays made from entries, and what a value depends on, as laws. Hold it against the sentence above it.
use Rattle.std.specs.Prelude.{ℕ, false, cond, ◌≡◌, List, [], ◌∷◌, ℤ, pos}
use Rattle.std.specs.Ordering.{int_eq}
use Rattle.sv_term.specs.Sorts.{Sort, NumSort, BoolSort, ArrSort, TupSort, Sorts, NoSorts, SortAnd}
use Rattle.sv_term.specs.Values.{Value, Number, Flag, Array, Tuple, Values, NoValues, ValueAnd, Entries, Empty, Entry, read, write, IsOf, IsZeroed}
use Rattle.sv_term.specs.Terms.{Shape, VarNode, Term, App, Terms, End, More}
use Rattle.sv_term.specs.Models.{Look, Model, value_by}

-- the value 0 of each sort
abbrev mutual
  pub zero_value : Sort → Value
  zero_value (NumSort r) = Number (pos 0)
  zero_value BoolSort = Flag false
  zero_value (ArrSort s) = Array (zero_value s) Empty
  zero_value (TupSort ss) = Tuple (zero_values ss)

  pub zero_values : Sorts → Values
  zero_values NoSorts = NoValues
  zero_values (SortAnd s ss) = ValueAnd (zero_value s) (zero_values ss)

-- any choice of values extends to a model that keeps those that fit
abbrev pub ModelsExtend : Type 0
ModelsExtend = (f : ℕ → Sort → Value) → (m : Model) × ((n : ℕ) (s : Sort) → IsOf s (f n s) → IsZeroed s (f n s) → m.look n s ≡ f n s)

-- ---- an array from a default and a list of entries, of which the first at an index counts

abbrev pub gathered : Value → List (ℤ × Value) → Value
gathered d [] = Array d Empty
gathered d (e ∷ es) = write e.0 e.1 (gathered d es)

abbrev pub first_at : ℤ → Value → List (ℤ × Value) → Value
first_at i d [] = d
first_at i d (e ∷ es) = cond (int_eq i e.0) e.1 (first_at i d es)

abbrev pub AllOf : Sort → List (ℤ × Value) → Type 0
AllOf s [] = Unit {0}
AllOf s (e ∷ es) = IsOf s e.1 × AllOf s es

pub record IsGathered (s : Sort) (d : Value) (es : List (ℤ × Value)) : Type 0 where
  pub of_sort : IsOf (ArrSort s) (gathered d es)
  pub reads : (i : ℤ) → read i (gathered d es) ≡ first_at i d es

abbrev pub GatheredReads : Type 0
GatheredReads = (s : Sort) (d : Value) (es : List (ℤ × Value)) → IsOf s d → AllOf s es → IsGathered s d es

-- ---- what a value depends on

abbrev pub AgreeNode : Look → Look → Shape → Type 0
AgreeNode f g (VarNode n s) = f n s ≡ g n s
AgreeNode f g _ = Unit {0}

-- the same values for the variables of a term
abbrev mutual
  pub Agree : Look → Look → Term → Type 0
  Agree f g (App x ts) = AgreeNode f g x × AgreeAll f g ts

  pub AgreeAll : Look → Look → Terms → Type 0
  AgreeAll f g End = Unit {0}
  AgreeAll f g (More t ts) = Agree f g t × AgreeAll f g ts

abbrev pub ValuesAgree : Type 0
ValuesAgree = (f g : Look) (t : Term) → Agree f g t → value_by f t ≡ value_by g t

-- ---- the other way round: an array is gathered from its own entries

abbrev pub listed : Entries → List (ℤ × Value)
listed Empty = []
listed (Entry i v es) = (i, v) ∷ listed es

abbrev pub ArraysAreGathered : Type 0
ArraysAreGathered = (s : Sort) (d : Value) (es : Entries) → IsOf (ArrSort s) (Array d es) → gathered d (listed es) ≡ Array d es
