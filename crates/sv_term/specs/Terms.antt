-- Believed: terms as trees of nodes, their sorts, which nodes fit, and which terms are plain. Hold it against the README's table of nodes.
use Rattle.std.specs.Prelude.{ℕ, zero, suc, Bool, true, false, cond, not, ◌&&◌, ◌||◌, nat_eq, nat_lt}
use Rattle.sv_term.specs.Sorts.{Any, Bits, Sort, NumSort, BoolSort, Sorts, NoSorts, SortAnd, same_bool, same_sort, is_num, is_bool, is_array, is_tuple, is_flat, element, parts, count, sort_at, matches, all_match, is_sort, is_range}

-- a node without its arguments: its name with its sorts and numbers
pub data Shape : Type 0 where
  LitNode : (neg : Bool) (m : ℕ) → Shape
  TruthNode : (b : Bool) → Shape
  VarNode : (n : ℕ) (s : Sort) → Shape
  AddNode : Shape
  SubNode : Shape
  MulNode : Shape
  DivNode : Shape
  ModNode : Shape
  WrapNode : (signed : Bool) (bits : ℕ) → Shape
  LeNode : Shape
  EqNode : Shape
  NotNode : Shape
  AndNode : Shape
  OrNode : Shape
  IteNode : Shape
  SelNode : Shape
  StoNode : Shape
  ConstNode : (s : Sort) → Shape
  MixNode : Shape
  TupNode : (s : Sort) → Shape
  GetNode : (k : ℕ) → Shape
  SumNode : Shape

mutual
  pub data Term : Type 0 where
    App : (node : Shape) (args : Terms) → Term

  pub data Terms : Type 0 where
    End : Terms
    More : (t : Term) (ts : Terms) → Terms

-- ---- the nodes by name

abbrev pub none : Shape → Term
none x = App x End

abbrev pub one : Shape → Term → Term
one x a = App x (More a End)

abbrev pub two : Shape → Term → Term → Term
two x a b = App x (More a (More b End))

abbrev pub three : Shape → Term → Term → Term → Term
three x a b c = App x (More a (More b (More c End)))

abbrev pub Lit : Bool → ℕ → Term
Lit neg m = none (LitNode neg m)

abbrev pub Truth : Bool → Term
Truth b = none (TruthNode b)

abbrev pub Var : ℕ → Sort → Term
Var n s = none (VarNode n s)

abbrev pub Add : Term → Term → Term
Add a b = two AddNode a b

abbrev pub Sub : Term → Term → Term
Sub a b = two SubNode a b

abbrev pub Mul : Term → Term → Term
Mul a b = two MulNode a b

abbrev pub Div : Term → Term → Term
Div a b = two DivNode a b

abbrev pub Mod : Term → Term → Term
Mod a b = two ModNode a b

abbrev pub Wrap : Bool → ℕ → Term → Term
Wrap g n a = one (WrapNode g n) a

abbrev pub Le : Term → Term → Term
Le a b = two LeNode a b

abbrev pub Eq : Term → Term → Term
Eq a b = two EqNode a b

abbrev pub Not : Term → Term
Not p = one NotNode p

abbrev pub And : Term → Term → Term
And p q = two AndNode p q

abbrev pub Or : Term → Term → Term
Or p q = two OrNode p q

abbrev pub Ite : Term → Term → Term → Term
Ite c a b = three IteNode c a b

abbrev pub Sel : Term → Term → Term
Sel a i = two SelNode a i

abbrev pub Sto : Term → Term → Term → Term
Sto a i v = three StoNode a i v

abbrev pub Const : Sort → Term → Term
Const s v = one (ConstNode s) v

abbrev pub Mix : Term → Term → Term → Term
Mix n a b = three MixNode n a b

abbrev pub Tup : Sort → Terms → Term
Tup s ts = App (TupNode s) ts

abbrev pub Get : ℕ → Term → Term
Get k t = one (GetNode k) t

abbrev pub Sum : Term → Term
Sum a = one SumNode a

abbrev pub zero_lit : Term
zero_lit = Lit false 0

-- ---- tests of equality

abbrev pub same_shape : Shape → Shape → Bool
same_shape (LitNode g m) (LitNode h n) = same_bool g h && nat_eq m n
same_shape (TruthNode b) (TruthNode c) = same_bool b c
same_shape (VarNode n s) (VarNode k t) = nat_eq n k && same_sort s t
same_shape AddNode AddNode = true
same_shape SubNode SubNode = true
same_shape MulNode MulNode = true
same_shape DivNode DivNode = true
same_shape ModNode ModNode = true
same_shape (WrapNode g n) (WrapNode h k) = same_bool g h && nat_eq n k
same_shape LeNode LeNode = true
same_shape EqNode EqNode = true
same_shape NotNode NotNode = true
same_shape AndNode AndNode = true
same_shape OrNode OrNode = true
same_shape IteNode IteNode = true
same_shape SelNode SelNode = true
same_shape StoNode StoNode = true
same_shape (ConstNode s) (ConstNode t) = same_sort s t
same_shape MixNode MixNode = true
same_shape (TupNode s) (TupNode t) = same_sort s t
same_shape (GetNode k) (GetNode n) = nat_eq k n
same_shape SumNode SumNode = true
same_shape _ _ = false

abbrev mutual
  pub same_term : Term → Term → Bool
  same_term (App x ts) (App y us) = same_shape x y && same_terms ts us

  pub same_terms : Terms → Terms → Bool
  same_terms End End = true
  same_terms (More t ts) (More u us) = same_term t u && same_terms ts us
  same_terms End (More u us) = false
  same_terms (More t ts) End = false

-- ---- sorts

-- the sort of a node over arguments of these sorts
abbrev pub sort_node : Shape → Sorts → Sort
sort_node (LitNode g m) ss = NumSort Any
sort_node (TruthNode b) ss = BoolSort
sort_node (VarNode n s) ss = s
sort_node AddNode ss = NumSort Any
sort_node SubNode ss = NumSort Any
sort_node MulNode ss = NumSort Any
sort_node DivNode ss = NumSort Any
sort_node ModNode ss = NumSort Any
sort_node (WrapNode g n) ss = NumSort (Bits g n)
sort_node LeNode ss = BoolSort
sort_node EqNode ss = BoolSort
sort_node NotNode ss = BoolSort
sort_node AndNode ss = BoolSort
sort_node OrNode ss = BoolSort
sort_node IteNode ss = cond (same_sort (sort_at 1 ss) (sort_at 2 ss)) (sort_at 1 ss) (NumSort Any)
sort_node SelNode ss = element (sort_at 0 ss)
sort_node StoNode ss = sort_at 0 ss
sort_node (ConstNode s) ss = s
sort_node MixNode ss = sort_at 1 ss
sort_node (TupNode s) ss = s
sort_node (GetNode k) ss = sort_at k (parts (sort_at 0 ss))
sort_node SumNode ss = NumSort Any

abbrev mutual
  pub sort_of : Term → Sort
  sort_of (App x ts) = sort_node x (sorts_of ts)

  pub sorts_of : Terms → Sorts
  sorts_of End = NoSorts
  sorts_of (More t ts) = SortAnd (sort_of t) (sorts_of ts)

-- ---- fitting

abbrev pub of_none : Bool → Sorts → Bool
of_none b NoSorts = b
of_none b _ = false

abbrev pub of_one : (Sort → Bool) → Sorts → Bool
of_one f (SortAnd a NoSorts) = f a
of_one f _ = false

abbrev pub of_two : (Sort → Sort → Bool) → Sorts → Bool
of_two f (SortAnd a (SortAnd b NoSorts)) = f a b
of_two f _ = false

abbrev pub of_three : (Sort → Sort → Sort → Bool) → Sorts → Bool
of_three f (SortAnd a (SortAnd b (SortAnd c NoSorts))) = f a b c
of_three f _ = false

abbrev pub both_num : Sort → Sort → Bool
both_num a b = is_num a && is_num b

abbrev pub both_bool : Sort → Sort → Bool
both_bool a b = is_bool a && is_bool b

-- whether a node fits arguments of these sorts
abbrev pub fits_node : Shape → Sorts → Bool
fits_node (LitNode g m) ss = of_none true ss
fits_node (TruthNode b) ss = of_none true ss
fits_node (VarNode n s) ss = of_none (is_sort s) ss
fits_node AddNode ss = of_two both_num ss
fits_node SubNode ss = of_two both_num ss
fits_node MulNode ss = of_two both_num ss
fits_node DivNode ss = of_two both_num ss
fits_node ModNode ss = of_two both_num ss
fits_node (WrapNode g n) ss = of_one (λ a. is_num a && is_range (Bits g n)) ss
fits_node LeNode ss = of_two both_num ss
fits_node EqNode ss = of_two matches ss
fits_node NotNode ss = of_one is_bool ss
fits_node AndNode ss = of_two both_bool ss
fits_node OrNode ss = of_two both_bool ss
fits_node IteNode ss = of_three (λ c a b. is_bool c && matches a b) ss
fits_node SelNode ss = of_two (λ a i. is_array a && is_num i) ss
fits_node StoNode ss = of_three (λ a i v. (is_array a && is_num i) && matches (element a) v) ss
fits_node (ConstNode s) ss = of_one (λ v. (is_array s && is_sort s) && matches (element s) v) ss
fits_node MixNode ss = of_three (λ n a b. (is_num n && is_array a) && same_sort a b) ss
fits_node (TupNode s) ss = (is_tuple s && is_sort s) && all_match (parts s) ss
fits_node (GetNode k) ss = of_one (λ t. is_tuple t && nat_lt k (count (parts t))) ss
fits_node SumNode ss = of_one (λ a. is_array a && is_num (element a)) ss

abbrev mutual
  pub fits : Term → Bool
  fits (App x ts) = all_fit ts && fits_node x (sorts_of ts)

  pub all_fit : Terms → Bool
  all_fit End = true
  all_fit (More t ts) = fits t && all_fit ts

abbrev pub term_at : ℕ → Terms → Term
term_at k End = Truth false
term_at zero (More t ts) = t
term_at (suc k) (More t ts) = term_at k ts

-- ---- plain terms

abbrev pub plain_node : Shape → Terms → Bool
plain_node (VarNode n s) ts = true
plain_node (ConstNode s) ts = same_term (term_at 0 ts) zero_lit || not (is_num (sort_at 0 (sorts_of ts)))
plain_node StoNode ts = true
plain_node SelNode ts = true
plain_node (GetNode k) ts = true
plain_node IteNode ts = true
plain_node MixNode ts = true
plain_node (TupNode s) ts = true
plain_node _ ts = false

-- a plain term, and terms whose arrays and tuples are plain
abbrev mutual
  pub is_plain : Term → Bool
  is_plain (App x ts) = plain_node x ts && all_plain ts

  pub all_plain : Terms → Bool
  all_plain End = true
  all_plain (More t ts) = (is_flat (sort_of t) || is_plain t) && all_plain ts
