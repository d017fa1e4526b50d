-- Believed: what a number of a bank stands for, and what a bank keeps. Hold it against the README's table of nodes; which nodes fit is a law.
use Rattle.std.specs.Prelude.{ℕ, ◌<◌, ◌≤◌, true, false, List, [], ◌∷◌, ◌++◌, ◌≡◌, length, take, map, slice_index_or, slice_get, Some}
use Rattle.sv_term.specs.Sorts.{Range, Sort, NumSort, BoolSort, ArrSort, TupSort, Sorts, NoSorts, SortAnd, is_num, is_array, is_tuple, element, parts, count}
use Rattle.sv_term.specs.Sorts as d
use Rattle.sv_term.specs.Terms.{Term, Terms, End, More, sort_of, sorts_of}
use Rattle.sv_term.specs.Terms as t
use Rattle.sv_term.specs.declared.node.Range.TheVariants as r
use Rattle.sv_term.specs.declared.node.Range as range
use Rattle.sv_term.specs.declared.node.SortId.{SortId}
use Rattle.sv_term.specs.declared.node.TermId.{TermId}
use Rattle.sv_term.specs.declared.node.SortNode.{SortNode}
use Rattle.sv_term.specs.declared.node.SortNode.TheVariants as s
use Rattle.sv_term.specs.declared.node.Node.{Node}
use Rattle.sv_term.specs.declared.node.Node.TheVariants as n

-- ---- what contracts see of a bank

-- the node of a sort as plain data
pub data SortRow : Type 0 where
  NumRow : (r : Range) → SortRow
  BoolRow : SortRow
  ArrRow : (element : SortId) → SortRow
  TupRow : (parts : List SortId) → SortRow

abbrev pub range_of : range.Range → Range
range_of r.Any = d.Any
range_of r.Low = d.Low
range_of (r.Bits signed bits) = d.Bits signed bits

abbrev pub row_of : SortNode → SortRow
row_of (s.Num r) = NumRow (range_of r)
row_of s.Bool = BoolRow
row_of (s.Arr k) = ArrRow k
row_of (s.Tup ks) = TupRow ks.items

-- its sorts and its nodes, by number
pub record Nodes : Type 0 where
  pub sorts : List SortRow
  pub nodes : List Node

-- ---- trees

abbrev pub parts_by : (SortId → Sort) → List SortId → Sorts
parts_by f [] = NoSorts
parts_by f (k ∷ ks) = SortAnd (f k) (parts_by f ks)

-- the sort of a row, by the sorts of its parts
abbrev pub sort_by : (SortId → Sort) → SortRow → Sort
sort_by f (NumRow r) = NumSort r
sort_by f BoolRow = BoolSort
sort_by f (ArrRow k) = ArrSort (f k)
sort_by f (TupRow ks) = TupSort (parts_by f ks)

abbrev pub args_by : (TermId → Term) → List TermId → Terms
args_by g [] = End
args_by g (k ∷ ks) = More (g k) (args_by g ks)

-- the term of a node, by the sorts and terms of its parts
abbrev pub term_by : (SortId → Sort) → (TermId → Term) → Node → Term
term_by f g (n.Lit negative m) = t.Lit negative m
term_by f g (n.Truth b) = t.Truth b
term_by f g (n.Var x k) = t.Var x (f k)
term_by f g (n.Add a b) = t.Add (g a) (g b)
term_by f g (n.Sub a b) = t.Sub (g a) (g b)
term_by f g (n.Mul a b) = t.Mul (g a) (g b)
term_by f g (n.Div a b) = t.Div (g a) (g b)
term_by f g (n.Mod a b) = t.Mod (g a) (g b)
term_by f g (n.Wrap signed bits a) = t.Wrap signed bits (g a)
term_by f g (n.Le a b) = t.Le (g a) (g b)
term_by f g (n.Eq a b) = t.Eq (g a) (g b)
term_by f g (n.Not p) = t.Not (g p)
term_by f g (n.And p q) = t.And (g p) (g q)
term_by f g (n.Or p q) = t.Or (g p) (g q)
term_by f g (n.Ite c a b) = t.Ite (g c) (g a) (g b)
term_by f g (n.Sel a i) = t.Sel (g a) (g i)
term_by f g (n.Sto a i v) = t.Sto (g a) (g i) (g v)
term_by f g (n.Const k v) = t.Const (f k) (g v)
term_by f g (n.Mix k a b) = t.Mix (g k) (g a) (g b)
term_by f g (n.Tup k ks) = t.Tup (f k) (args_by g ks)
term_by f g (n.Get k a) = t.Get k (g a)
term_by f g (n.Sum a) = t.Sum (g a)

abbrev pub sort_in : List Sort → SortId → Sort
sort_in ss k = slice_index_or ss k.0 (NumSort d.Any)

abbrev pub term_in : List Term → TermId → Term
term_in ts k = slice_index_or ts k.0 (t.Truth false)

-- the sorts of the rows, each by those before it, after given ones
abbrev pub sorts_from : List Sort → List SortRow → List Sort
sorts_from ss [] = ss
sorts_from ss (x ∷ xs) = sorts_from (ss ++ sort_by (sort_in ss) x ∷ []) xs

abbrev pub terms_from : List Sort → List Term → List Node → List Term
terms_from ss ts [] = ts
terms_from ss ts (x ∷ xs) = terms_from ss (ts ++ term_by (sort_in ss) (term_in ts) x ∷ []) xs

-- the sort and the term that a number stands for
unfoldable pub sort : Nodes → SortId → Sort
sort b k = sort_in (sorts_from [] b.sorts) k

unfoldable pub term : Nodes → TermId → Term
term b k = term_in (terms_from (sorts_from [] b.sorts) [] b.nodes) k

-- those of a list of numbers
unfoldable pub sort_list : Nodes → List SortId → List Sort
sort_list b ks = map (sort b) ks

unfoldable pub term_list : Nodes → List TermId → List Term
term_list b ks = map (term b) ks

-- the tree that a node stands for
abbrev pub tree : Nodes → Node → Term
tree b x = term_by (sort b) (term b) x

abbrev pub sort_tree : Nodes → SortRow → Sort
sort_tree b x = sort_by (sort b) x

-- ---- numbers in the bank

abbrev pub IsSort : Nodes → SortId → Type 0
IsSort b k = k.0 < length b.sorts

abbrev pub AreSorts : Nodes → List SortId → Type 0
AreSorts b [] = Unit {0}
AreSorts b (k ∷ ks) = IsSort b k × AreSorts b ks

abbrev pub IsTerm : Nodes → TermId → Type 0
IsTerm b k = k.0 < length b.nodes

abbrev pub AreTerms : Nodes → List TermId → Type 0
AreTerms b [] = Unit {0}
AreTerms b (k ∷ ks) = IsTerm b k × AreTerms b ks

-- the sorts and the arguments that a node names
abbrev pub sorts_named : Node → List SortId
sorts_named (n.Var x k) = k ∷ []
sorts_named (n.Const k v) = k ∷ []
sorts_named (n.Tup k ks) = k ∷ []
sorts_named _ = []

abbrev pub args : Node → List TermId
args (n.Lit negative m) = []
args (n.Truth b) = []
args (n.Var x k) = []
args (n.Add a b) = a ∷ b ∷ []
args (n.Sub a b) = a ∷ b ∷ []
args (n.Mul a b) = a ∷ b ∷ []
args (n.Div a b) = a ∷ b ∷ []
args (n.Mod a b) = a ∷ b ∷ []
args (n.Wrap signed bits a) = a ∷ []
args (n.Le a b) = a ∷ b ∷ []
args (n.Eq a b) = a ∷ b ∷ []
args (n.Not p) = p ∷ []
args (n.And p q) = p ∷ q ∷ []
args (n.Or p q) = p ∷ q ∷ []
args (n.Ite c a b) = c ∷ a ∷ b ∷ []
args (n.Sel a i) = a ∷ i ∷ []
args (n.Sto a i v) = a ∷ i ∷ v ∷ []
args (n.Const k v) = v ∷ []
args (n.Mix k a b) = k ∷ a ∷ b ∷ []
args (n.Tup k ks) = ks
args (n.Get k a) = a ∷ []
args (n.Sum a) = a ∷ []

pub record IsNamed (b : Nodes) (x : Node) : Type 0 where
  pub sorts : AreSorts b (sorts_named x)
  pub terms : AreTerms b (args x)

-- ---- nodes that fit

-- the sort as nodes look at it: two sorts of numbers count as one
abbrev pub wide : Sort → Sort
wide (NumSort r) = NumSort d.Any
wide BoolSort = BoolSort
wide (ArrSort s) = ArrSort s
wide (TupSort ss) = TupSort ss

abbrev pub all_wide : Sorts → Sorts
all_wide NoSorts = NoSorts
all_wide (SortAnd s ss) = SortAnd (wide s) (all_wide ss)

abbrev pub kind_of : Term → Sort
kind_of x = wide (sort_of x)

-- a term of the bank that is a number, a truth value, an array
pub record IsNumber (b : Nodes) (k : TermId) : Type 0 where
  pub within : IsTerm b k
  pub number : kind_of (term b k) ≡ NumSort d.Any

pub record IsBool (b : Nodes) (k : TermId) : Type 0 where
  pub within : IsTerm b k
  pub truth : kind_of (term b k) ≡ BoolSort

pub record IsArray (b : Nodes) (k : TermId) : Type 0 where
  pub within : IsTerm b k
  pub array : is_array (kind_of (term b k)) ≡ true

-- two terms of the bank of one sort
pub record AreKin (b : Nodes) (x y : TermId) : Type 0 where
  pub left : IsTerm b x
  pub right : IsTerm b y
  pub kin : kind_of (term b x) ≡ kind_of (term b y)

-- a term that may stand in an array
pub record IsElement (b : Nodes) (a v : TermId) : Type 0 where
  pub within : IsTerm b v
  pub kin : wide (element (kind_of (term b a))) ≡ kind_of (term b v)

-- a term that may stand everywhere in an array of the sort
pub record FillsSort (b : Nodes) (k : SortId) (v : TermId) : Type 0 where
  pub sort_within : IsSort b k
  pub array : is_array (sort b k) ≡ true
  pub within : IsTerm b v
  pub kin : wide (element (sort b k)) ≡ kind_of (term b v)

-- terms that may be the parts of a tuple of the sort
pub record ArePartsOf (b : Nodes) (k : SortId) (ks : List TermId) : Type 0 where
  pub sort_within : IsSort b k
  pub tuple : is_tuple (sort b k) ≡ true
  pub within : AreTerms b ks
  pub kin : all_wide (parts (sort b k)) ≡ all_wide (sorts_of (args_by (term b) ks))

-- a tuple that has a part of that number
pub record HasPart (b : Nodes) (k : ℕ) (a : TermId) : Type 0 where
  pub within : IsTerm b a
  pub tuple : is_tuple (kind_of (term b a)) ≡ true
  pub part : k < count (parts (kind_of (term b a)))

-- an array of numbers
pub record IsSummed (b : Nodes) (a : TermId) : Type 0 where
  pub within : IsTerm b a
  pub array : is_array (kind_of (term b a)) ≡ true
  pub number : is_num (element (kind_of (term b a))) ≡ true

abbrev pub Fits : Nodes → Node → Type 0
Fits b (n.Lit negative m) = Unit {0}
Fits b (n.Truth v) = Unit {0}
Fits b (n.Var x k) = IsSort b k
Fits b (n.Add x y) = IsNumber b x × IsNumber b y
Fits b (n.Sub x y) = IsNumber b x × IsNumber b y
Fits b (n.Mul x y) = IsNumber b x × IsNumber b y
Fits b (n.Div x y) = IsNumber b x × IsNumber b y
Fits b (n.Mod x y) = IsNumber b x × IsNumber b y
Fits b (n.Wrap signed bits x) = IsNumber b x × (1 ≤ bits) × (bits ≤ 120)
Fits b (n.Le x y) = IsNumber b x × IsNumber b y
Fits b (n.Eq x y) = AreKin b x y
Fits b (n.Not p) = IsBool b p
Fits b (n.And p q) = IsBool b p × IsBool b q
Fits b (n.Or p q) = IsBool b p × IsBool b q
Fits b (n.Ite c x y) = IsBool b c × AreKin b x y
Fits b (n.Sel a i) = IsArray b a × IsNumber b i
Fits b (n.Sto a i v) = IsArray b a × IsNumber b i × IsElement b a v
Fits b (n.Const k v) = FillsSort b k v
Fits b (n.Mix k x y) = IsNumber b k × IsArray b x × AreKin b x y
Fits b (n.Tup k ks) = ArePartsOf b k ks
Fits b (n.Get k a) = HasPart b k a
Fits b (n.Sum a) = IsSummed b a

abbrev pub SortFits : Nodes → SortRow → Type 0
SortFits b (NumRow d.Any) = Unit {0}
SortFits b (NumRow d.Low) = Unit {0}
SortFits b (NumRow (d.Bits signed bits)) = (1 ≤ bits) × (bits ≤ 120)
SortFits b BoolRow = Unit {0}
SortFits b (ArrRow k) = IsSort b k
SortFits b (TupRow ks) = AreSorts b ks

-- ---- what a bank keeps

-- numbers that were given keep their nodes, and so what they stand for
pub record Keeps (old new : Nodes) : Type 0 where
  pub nodes : take (length old.nodes) new.nodes ≡ old.nodes
  pub sorts : take (length old.sorts) new.sorts ≡ old.sorts
  pub size : length old.nodes ≤ length new.nodes
  pub kinds : length old.sorts ≤ length new.sorts
  pub terms : (k : TermId) → IsTerm old k → term new k ≡ term old k
  pub sort_trees : (k : SortId) → IsSort old k → sort new k ≡ sort old k
  pub within : (ks : List TermId) → AreTerms old ks → AreTerms new ks
  pub lists : (ks : List TermId) → AreTerms old ks → term_list new ks ≡ term_list old ks
  pub sorts_within : (ks : List SortId) → AreSorts old ks → AreSorts new ks
  pub sort_lists : (ks : List SortId) → AreSorts old ks → sort_list new ks ≡ sort_list old ks

-- the number k of the bank stands for the tree
pub record Stands (b : Nodes) (k : TermId) (x : Term) : Type 0 where
  pub within : IsTerm b k
  pub is : term b k ≡ x

pub record IsKind (b : Nodes) (k : SortId) (s : Sort) : Type 0 where
  pub within : IsSort b k
  pub is : sort b k ≡ s

-- x stands somewhere in the list
abbrev pub StandsIn : {A : Type 0} → List A → A → Type 0
StandsIn xs x = (j : ℕ) × (slice_get xs j ≡ Some x)

-- ---- what every bank meets

abbrev pub AreBelow : ℕ → List TermId → Type 0
AreBelow m [] = Unit {0}
AreBelow m (k ∷ ks) = (k.0 < m) × AreBelow m ks

abbrev pub SortsAreBelow : ℕ → List SortId → Type 0
SortsAreBelow m [] = Unit {0}
SortsAreBelow m (k ∷ ks) = (k.0 < m) × SortsAreBelow m ks

abbrev pub sort_parts : SortRow → List SortId
sort_parts (NumRow r) = []
sort_parts BoolRow = []
sort_parts (ArrRow k) = k ∷ []
sort_parts (TupRow ks) = ks

-- a node in its place: its arguments come before it and fit, and the number stands for its tree
pub record IsPlaced (b : Nodes) (k : TermId) (x : Node) : Type 0 where
  pub above : AreBelow k.0 (args x)
  pub fits : Fits b x
  pub is : term b k ≡ tree b x

pub record IsPlacedSort (b : Nodes) (k : SortId) (x : SortRow) : Type 0 where
  pub above : SortsAreBelow k.0 (sort_parts x)
  pub fits : SortFits b x
  pub is : sort b k ≡ sort_tree b x

-- nothing stands at two numbers
abbrev pub AllDiffer : {A : Type 0} → List A → Type 0
AllDiffer xs = (j k : ℕ) → j < length xs → k < length xs → slice_get xs j ≡ slice_get xs k → j ≡ k

pub record IsSound (b : Nodes) : Type 0 where
  pub nodes : (k : TermId) (x : Node) → slice_get b.nodes k.0 ≡ Some x → IsPlaced b k x
  pub sorts : (k : SortId) (x : SortRow) → slice_get b.sorts k.0 ≡ Some x → IsPlacedSort b k x
  pub nodes_differ : AllDiffer b.nodes
  pub sorts_differ : AllDiffer b.sorts

-- beside each node stands the number of its sort
abbrev pub KindsAre : Nodes → List (Node × SortId) → Type 0
KindsAre b es = (k : TermId) (e : Node × SortId) → slice_get es k.0 ≡ Some e → IsKind b e.1 (sort_of (term b k))
