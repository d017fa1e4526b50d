-- The tests of equality tell what they say.
use Rattle.std.proofs.Common.{ℕ, Bool, true, false, ◌&&◌, ◌||◌, nat_eq, ◌≡◌, ◌⊎◌, inl, inr, ℤ, refl, ap, ap₂}
use Rattle.std.specs.Ordering.{int_eq}
use Rattle.std.proofs.lemmas.Bool.Decides.{Decides-int_eq, Decides-eqb}
use Rattle.sv_term.specs.Sorts.{Range, Any, Low, Bits, Sort, NumSort, BoolSort, ArrSort, TupSort, Sorts, NoSorts, SortAnd, same_bool, same_range, same_sort, same_sorts}
use Rattle.sv_term.specs.Values.{Value, Number, Flag, Array, Tuple, Values, NoValues, ValueAnd, Entries, Empty, Entry, same_value, same_values, same_entries}
use Rattle.sv_term.specs.Terms.{Shape, LitNode, TruthNode, VarNode, AddNode, SubNode, MulNode, DivNode, ModNode, WrapNode, LeNode, EqNode, NotNode, AndNode, OrNode, IteNode, SelNode, StoNode, ConstNode, MixNode, TupNode, GetNode, SumNode, Term, App, Terms, End, More, same_shape, same_term, same_terms}

pub both_true : (a b : Bool) → (a && b) ≡ true → (a ≡ true) × (b ≡ true)
both_true true b e = (refl, e)
both_true false b e = cc e

pub and_true : (a b : Bool) → a ≡ true → b ≡ true → (a && b) ≡ true
and_true true b e f = f
and_true false b e f = cc e

pub or_true : (a b : Bool) → (a || b) ≡ true → (a ≡ true) ⊎ (b ≡ true)
or_true true b e = inl refl
or_true false b e = inr e

pub same_int : (i j : ℤ) → int_eq i j ≡ true → i ≡ j
same_int i j e = (Decides-int_eq i j).0 e

pub int_same : (i j : ℤ) → i ≡ j → int_eq i j ≡ true
int_same i j e = (Decides-int_eq i j).1 e

pub int_other : (i j : ℤ) → (i ≡ j → ⊥) → int_eq i j ≡ false
int_other i j n = go (int_eq i j) refl
  where
    go : (b : Bool) → int_eq i j ≡ b → b ≡ false
    go true e = absurd (n ((Decides-int_eq i j).0 e))
    go false e = refl

pub same_nat : (m n : ℕ) → nat_eq m n ≡ true → m ≡ n
same_nat m n e = (Decides-eqb m n).0 e

pub nat_same : (m n : ℕ) → m ≡ n → nat_eq m n ≡ true
nat_same m n e = (Decides-eqb m n).1 e

pub same_bool_is : (a b : Bool) → same_bool a b ≡ true → a ≡ b
same_bool_is true true e = refl
same_bool_is false false e = refl
same_bool_is true false e = cc e
same_bool_is false true e = cc e

pub bool_self : (a : Bool) → same_bool a a ≡ true
bool_self true = refl
bool_self false = refl

pub range_is : (r q : Range) → same_range r q ≡ true → r ≡ q
range_is Any Any e = refl
range_is Low Low e = refl
range_is (Bits g n) (Bits h k) e = let b = both_true _ _ e in ap₂ Bits (same_bool_is g h b.0) (same_nat n k b.1)
range_is _ _ e = cc e

pub range_self : (r : Range) → same_range r r ≡ true
range_self Any = refl
range_self Low = refl
range_self (Bits g n) = and_true _ _ (bool_self g) (nat_same n n refl)

mutual
  pub sort_is : (s t : Sort) → same_sort s t ≡ true → s ≡ t
  sort_is (NumSort r) (NumSort q) e = ap NumSort (range_is r q e)
  sort_is BoolSort BoolSort e = refl
  sort_is (ArrSort s) (ArrSort t) e = ap ArrSort (sort_is s t e)
  sort_is (TupSort ss) (TupSort ts) e = ap TupSort (sorts_are ss ts e)
  sort_is _ _ e = cc e

  pub sorts_are : (ss ts : Sorts) → same_sorts ss ts ≡ true → ss ≡ ts
  sorts_are NoSorts NoSorts e = refl
  sorts_are (SortAnd s ss) (SortAnd t ts) e = let b = both_true _ _ e in ap₂ SortAnd (sort_is s t b.0) (sorts_are ss ts b.1)
  sorts_are _ _ e = cc e

mutual
  pub sort_self : (s : Sort) → same_sort s s ≡ true
  sort_self (NumSort r) = range_self r
  sort_self BoolSort = refl
  sort_self (ArrSort s) = sort_self s
  sort_self (TupSort ss) = sorts_self ss

  pub sorts_self : (ss : Sorts) → same_sorts ss ss ≡ true
  sorts_self NoSorts = refl
  sorts_self (SortAnd s ss) = and_true _ _ (sort_self s) (sorts_self ss)

entry_by : (i j : ℤ) (u v : Value) (es fs : Entries) → i ≡ j → u ≡ v → es ≡ fs → Entry i u es ≡ Entry j v fs
entry_by i j u v es fs e f g = cc (e, f, g)

mutual
  pub value_is : (u v : Value) → same_value u v ≡ true → u ≡ v
  value_is (Number y) (Number z) e = ap Number (same_int y z e)
  value_is (Flag a) (Flag b) e = ap Flag (same_bool_is a b e)
  value_is (Array d es) (Array f fs) e = let b = both_true _ _ e in ap₂ Array (value_is d f b.0) (entries_are es fs b.1)
  value_is (Tuple us) (Tuple vs) e = ap Tuple (values_are us vs e)
  value_is _ _ e = cc e

  pub values_are : (us vs : Values) → same_values us vs ≡ true → us ≡ vs
  values_are NoValues NoValues e = refl
  values_are (ValueAnd u us) (ValueAnd v vs) e = let b = both_true _ _ e in ap₂ ValueAnd (value_is u v b.0) (values_are us vs b.1)
  values_are _ _ e = cc e

  pub entries_are : (es fs : Entries) → same_entries es fs ≡ true → es ≡ fs
  entries_are Empty Empty e = refl
  entries_are (Entry i u es) (Entry j v fs) e =
      let b = both_true _ _ e in
      let c = both_true _ _ b.1 in
      entry_by i j u v es fs (same_int i j b.0) (value_is u v c.0) (entries_are es fs c.1)
  entries_are _ _ e = cc e

mutual
  pub value_self : (v : Value) → same_value v v ≡ true
  value_self (Number z) = int_same z z refl
  value_self (Flag b) = bool_self b
  value_self (Array d es) = and_true _ _ (value_self d) (entries_self es)
  value_self (Tuple vs) = values_self vs

  pub values_self : (vs : Values) → same_values vs vs ≡ true
  values_self NoValues = refl
  values_self (ValueAnd v vs) = and_true _ _ (value_self v) (values_self vs)

  pub entries_self : (es : Entries) → same_entries es es ≡ true
  entries_self Empty = refl
  entries_self (Entry i v es) = and_true _ _ (int_same i i refl) (and_true _ _ (value_self v) (entries_self es))

pub shape_is : (x y : Shape) → same_shape x y ≡ true → x ≡ y
shape_is (LitNode g m) (LitNode h n) e = let b = both_true _ _ e in ap₂ LitNode (same_bool_is g h b.0) (same_nat m n b.1)
shape_is (TruthNode b) (TruthNode c) e = ap TruthNode (same_bool_is b c e)
shape_is (VarNode n s) (VarNode k t) e = let b = both_true _ _ e in ap₂ VarNode (same_nat n k b.0) (sort_is s t b.1)
shape_is AddNode AddNode e = refl
shape_is SubNode SubNode e = refl
shape_is MulNode MulNode e = refl
shape_is DivNode DivNode e = refl
shape_is ModNode ModNode e = refl
shape_is (WrapNode g n) (WrapNode h k) e = let b = both_true _ _ e in ap₂ WrapNode (same_bool_is g h b.0) (same_nat n k b.1)
shape_is LeNode LeNode e = refl
shape_is EqNode EqNode e = refl
shape_is NotNode NotNode e = refl
shape_is AndNode AndNode e = refl
shape_is OrNode OrNode e = refl
shape_is IteNode IteNode e = refl
shape_is SelNode SelNode e = refl
shape_is StoNode StoNode e = refl
shape_is (ConstNode s) (ConstNode t) e = ap ConstNode (sort_is s t e)
shape_is MixNode MixNode e = refl
shape_is (TupNode s) (TupNode t) e = ap TupNode (sort_is s t e)
shape_is (GetNode k) (GetNode n) e = ap GetNode (same_nat k n e)
shape_is SumNode SumNode e = refl
shape_is _ _ e = cc e

pub shape_self : (x : Shape) → same_shape x x ≡ true
shape_self (LitNode g m) = and_true _ _ (bool_self g) (nat_same m m refl)
shape_self (TruthNode b) = bool_self b
shape_self (VarNode n s) = and_true _ _ (nat_same n n refl) (sort_self s)
shape_self (WrapNode g n) = and_true _ _ (bool_self g) (nat_same n n refl)
shape_self (ConstNode s) = sort_self s
shape_self (TupNode s) = sort_self s
shape_self (GetNode k) = nat_same k k refl
shape_self _ = refl

mutual
  pub term_is : (t u : Term) → same_term t u ≡ true → t ≡ u
  term_is (App x ts) (App y us) e = let b = both_true _ _ e in ap₂ App (shape_is x y b.0) (terms_are ts us b.1)

  pub terms_are : (ts us : Terms) → same_terms ts us ≡ true → ts ≡ us
  terms_are End End e = refl
  terms_are (More t ts) (More u us) e = let b = both_true _ _ e in ap₂ More (term_is t u b.0) (terms_are ts us b.1)
  terms_are _ _ e = cc e

mutual
  pub term_self : (t : Term) → same_term t t ≡ true
  term_self (App x ts) = and_true _ _ (shape_self x) (terms_self ts)

  pub terms_self : (ts : Terms) → same_terms ts ts ≡ true
  terms_self End = refl
  terms_self (More t ts) = and_true _ _ (term_self t) (terms_self ts)
