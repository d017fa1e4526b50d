-- Serves the proof: what the code knows of a sort when it asks whether a node fits.
use Rattle.std.specs.Prelude.{ℕ, Bool, true, false, nat_eq, List, ◌≡◌}
use Rattle.sv_term.specs.Sorts.{Any, Sort, NumSort, BoolSort, is_array, is_tuple, element, parts, count}
use Rattle.sv_term.specs.Terms.{sort_of, sorts_of}
use Rattle.sv_term.specs.Banks.{Nodes, sort, term, wide, all_wide, kind_of, IsSort, IsTerm, AreTerms, args_by, parts_by}
use Rattle.sv_term.specs.declared.node.SortId.{SortId}
use Rattle.sv_term.specs.declared.node.TermId.{TermId}
use Rattle.sv_term.specs.declared.bank.fitting.Kind.{Kind}
use Rattle.sv_term.specs.declared.bank.fitting.Kind.TheVariants as k

-- the sort is of the kind
abbrev pub IsOfKind : Nodes → Sort → Kind → Type 0
IsOfKind b x k.Missing = ⊥
IsOfKind b x k.Num = wide x ≡ NumSort Any
IsOfKind b x k.Bool = wide x ≡ BoolSort
IsOfKind b x (k.Arr s) = IsSort b s × (sort b s ≡ x) × (is_array x ≡ true)
IsOfKind b x (k.Tup s) = IsSort b s × (sort b s ≡ x) × (is_tuple x ≡ true)

-- the sort of the term is, and no term is of the kind Missing
abbrev pub HasKind : Nodes → TermId → Kind → Type 0
HasKind b t k.Missing = IsTerm b t → ⊥
HasKind b t k.Num = IsTerm b t × IsOfKind b (sort_of (term b t)) k.Num
HasKind b t k.Bool = IsTerm b t × IsOfKind b (sort_of (term b t)) k.Bool
HasKind b t (k.Arr s) = IsTerm b t × IsOfKind b (sort_of (term b t)) (k.Arr s)
HasKind b t (k.Tup s) = IsTerm b t × IsOfKind b (sort_of (term b t)) (k.Tup s)

-- the elements of the sort are of the kind, and those of no array are Missing
abbrev pub HasElements : Nodes → Sort → Kind → Type 0
HasElements b x k.Missing = is_array x ≡ false
HasElements b x k.Num = (is_array x ≡ true) × IsOfKind b (element x) k.Num
HasElements b x k.Bool = (is_array x ≡ true) × IsOfKind b (element x) k.Bool
HasElements b x (k.Arr s) = (is_array x ≡ true) × IsOfKind b (element x) (k.Arr s)
HasElements b x (k.Tup s) = (is_array x ≡ true) × IsOfKind b (element x) (k.Tup s)

-- the elements of an array's sort are of the kind, and those of another kind Missing
abbrev pub HasItems : Nodes → Kind → Kind → Type 0
HasItems b (k.Arr s) e = HasElements b (sort b s) e
HasItems b k.Missing e = e ≡ k.Missing
HasItems b k.Num e = e ≡ k.Missing
HasItems b k.Bool e = e ≡ k.Missing
HasItems b (k.Tup s) e = e ≡ k.Missing

abbrev pub IsKnown : Nodes → Kind → Type 0
IsKnown b (k.Arr s) = IsSort b s
IsKnown b (k.Tup s) = IsSort b s
IsKnown b _ = Unit {0}

abbrev pub same_kind : Kind → Kind → Bool
same_kind k.Num k.Num = true
same_kind k.Bool k.Bool = true
same_kind (k.Arr s) (k.Arr t) = nat_eq s.0 t.0
same_kind (k.Tup s) (k.Tup t) = nat_eq s.0 t.0
same_kind _ _ = false

abbrev pub is_arr : Kind → Bool
is_arr (k.Arr s) = true
is_arr _ = false

-- how many parts a tuple of the kind has
abbrev pub count_of : Nodes → Kind → ℕ
count_of b (k.Tup s) = count (parts (sort b s))
count_of b _ = 0

-- a part of a tuple's sort against an argument
pub record IsPart (b : Nodes) (k : SortId) (t : TermId) : Type 0 where
  pub within : IsTerm b t
  pub kin : wide (sort b k) ≡ kind_of (term b t)

pub record AreParts (b : Nodes) (ks : List SortId) (ts : List TermId) : Type 0 where
  pub within : AreTerms b ts
  pub kin : all_wide (parts_by (sort b) ks) ≡ all_wide (sorts_of (args_by (term b) ts))
