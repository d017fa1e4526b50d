-- The nodes that fit are those whose trees fit.
use Rattle.std.proofs.Common.{ℕ, zero, suc, ◌<◌, ◌≤◌, true, ◌&&◌, nat_lt, nat_le, List, [], ◌∷◌, ◌≡◌, ◌↔◌, length, refl, sym, ap, ap₂, ◌∙◌, subst, arith}
use Rattle.std.proofs.lemmas.Bool.Decides.{nat_tests}
use Rattle.sv_term.specs.Sorts.{Any, Low, Bits, Sort, NumSort, BoolSort, ArrSort, TupSort, Sorts, NoSorts, SortAnd, same_sort, is_num, is_bool, is_array, is_tuple, is_sort, are_sorts, is_range, element, parts, count, matches, all_match}
use Rattle.sv_term.specs.Terms.{Shape, Term, Terms, End, More, App, one, two, three, sort_of, sorts_of, fits_node, fits, all_fit}
use Rattle.sv_term.specs.Terms as t
use Rattle.sv_term.specs.Banks.{Nodes, SortRow, NumRow, BoolRow, ArrRow, TupRow, sort, term, tree, sort_tree, parts_by, args_by, wide, all_wide, IsSort, AreSorts, IsTerm, AreTerms, args, sort_parts, IsNamed, IsNumber, IsBool, IsArray, AreKin, Fits, SortFits, AreBelow, SortsAreBelow, IsSound}
use Rattle.sv_term.specs.Sorts as d
use Rattle.sv_term.specs.declared.node.SortId.{SortId}
use Rattle.sv_term.specs.declared.node.TermId.{TermId}
use Rattle.sv_term.specs.declared.node.Node.{Node}
use Rattle.sv_term.specs.declared.node.Node.TheVariants as n
use Rattle.sv_term.proofs.Same.{both_true, and_true, sort_is}
use Rattle.sv_term.proofs.BankLists.{here}
use Rattle.sv_term.proofs.NodeTrees.{fits_sorts, fits_terms, are_below}
use Rattle.sv_term.proofs.Wide.{array_wide, tuple_wide, number_of_wide, wide_number, bool_of_wide, wide_bool, same_wide, wide_same}

-- ---- sorts and lists of sorts

pub all_match_wide : (ss ts : Sorts) → all_wide ss ≡ all_wide ts → all_match ss ts ≡ true
all_match_wide NoSorts NoSorts e = refl
all_match_wide (SortAnd s ss) (SortAnd u us) e = and_true (matches s u) (all_match ss us) (wide_same s u (cc e)) (all_match_wide ss us (cc e))
all_match_wide NoSorts (SortAnd u us) e = cc e
all_match_wide (SortAnd s ss) NoSorts e = cc e

pub all_wide_match : (ss ts : Sorts) → all_match ss ts ≡ true → all_wide ss ≡ all_wide ts
all_wide_match NoSorts NoSorts e = refl
all_wide_match (SortAnd s ss) (SortAnd u us) e = let p = both_true (matches s u) (all_match ss us) e in ap₂ SortAnd (same_wide s u p.0) (all_wide_match ss us p.1)
all_wide_match NoSorts (SortAnd u us) e = cc e
all_wide_match (SortAnd s ss) NoSorts e = cc e

array_of : (s : Sort) → is_array (wide s) ≡ true → is_array s ≡ true
array_of s e = ap is_array (sym (array_wide s e)) ∙ e

of_array : (s : Sort) → is_array s ≡ true → is_array (wide s) ≡ true
of_array (ArrSort s) e = refl
of_array (NumSort r) e = cc e
of_array BoolSort e = cc e
of_array (TupSort ss) e = cc e

wide_of_array : (s : Sort) → is_array s ≡ true → wide s ≡ s
wide_of_array s e = array_wide s (of_array s e)

tuple_of : (s : Sort) → is_tuple (wide s) ≡ true → is_tuple s ≡ true
tuple_of s e = ap is_tuple (sym (tuple_wide s e)) ∙ e

of_tuple : (s : Sort) → is_tuple s ≡ true → is_tuple (wide s) ≡ true
of_tuple (TupSort ss) e = refl
of_tuple (NumSort r) e = cc e
of_tuple BoolSort e = cc e
of_tuple (ArrSort s) e = cc e

wide_of_tuple : (s : Sort) → is_tuple s ≡ true → wide s ≡ s
wide_of_tuple s e = tuple_wide s (of_tuple s e)

-- two arrays that count as one sort have one
same_arrays : (s u : Sort) → is_array s ≡ true → wide s ≡ wide u → same_sort s u ≡ true
same_arrays (ArrSort s) u e f = wide_same (ArrSort s) u f
same_arrays (NumSort r) u e f = cc e
same_arrays BoolSort u e f = cc e
same_arrays (TupSort ss) u e f = cc e

le_true : (a b : ℕ) → a ≤ b → nat_le a b ≡ true
le_true a b h = grind (arith, nat_tests)

le_of : (a b : ℕ) → nat_le a b ≡ true → a ≤ b
le_of a b h = grind (arith, nat_tests)

lt_true : (a b : ℕ) → a < b → nat_lt a b ≡ true
lt_true a b h = grind (arith, nat_tests)

lt_of : (a b : ℕ) → nat_lt a b ≡ true → a < b
lt_of a b h = grind (arith, nat_tests)

-- ---- terms of one, two and three arguments

one_fit : (x : Shape) (u : Term) → fits u ≡ true → fits_node x (SortAnd (sort_of u) NoSorts) ≡ true → fits (one x u) ≡ true
one_fit x u f h = and_true (fits u && true) (fits_node x (SortAnd (sort_of u) NoSorts)) (and_true (fits u) true f refl) h

two_fit : (x : Shape) (u v : Term) → fits u ≡ true → fits v ≡ true → fits_node x (SortAnd (sort_of u) (SortAnd (sort_of v) NoSorts)) ≡ true → fits (two x u v) ≡ true
two_fit x u v f g h = and_true (fits u && (fits v && true)) (fits_node x (SortAnd (sort_of u) (SortAnd (sort_of v) NoSorts))) (and_true (fits u) (fits v && true) f (and_true (fits v) true g refl)) h

three_fit : (x : Shape) (u v w : Term) → fits u ≡ true → fits v ≡ true → fits w ≡ true → fits_node x (SortAnd (sort_of u) (SortAnd (sort_of v) (SortAnd (sort_of w) NoSorts))) ≡ true → fits (three x u v w) ≡ true
three_fit x u v w f g k h =
    and_true (fits u && (fits v && (fits w && true))) (fits_node x (SortAnd (sort_of u) (SortAnd (sort_of v) (SortAnd (sort_of w) NoSorts))))
    (and_true (fits u) (fits v && (fits w && true)) f (and_true (fits v) (fits w && true) g (and_true (fits w) true k refl))) h

-- what the node asks of the sorts of its arguments
asked : (x : Shape) (ts : Terms) → fits (App x ts) ≡ true → fits_node x (sorts_of ts) ≡ true
asked x ts e = (both_true (all_fit ts) (fits_node x (sorts_of ts)) e).1

module _ (b : Nodes) where
  all_fit_args : (m : ℕ) (ks : List TermId) → ((k : TermId) → k.0 < m → IsTerm b k → fits (term b k) ≡ true) → AreBelow m ks → AreTerms b ks → all_fit (args_by (term b) ks) ≡ true
  all_fit_args m [] h l i = refl
  all_fit_args m (k ∷ ks) h l i = and_true (fits (term b k)) (all_fit (args_by (term b) ks)) (h k l.0 i.0) (all_fit_args m ks h l.1 i.1)

  nums_asked : (x y : TermId) → IsNumber b x → IsNumber b y → (is_num (sort_of (term b x)) && is_num (sort_of (term b y))) ≡ true
  nums_asked x y i j = and_true (is_num (sort_of (term b x))) (is_num (sort_of (term b y))) (number_of_wide (sort_of (term b x)) i.number) (number_of_wide (sort_of (term b y)) j.number)

  bools_asked : (x y : TermId) → IsBool b x → IsBool b y → (is_bool (sort_of (term b x)) && is_bool (sort_of (term b y))) ≡ true
  bools_asked x y i j = and_true (is_bool (sort_of (term b x))) (is_bool (sort_of (term b y))) (bool_of_wide (sort_of (term b x)) i.truth) (bool_of_wide (sort_of (term b y)) j.truth)

  -- where the arguments fit and the named sorts are sorts, the tree of a node that fits does
  module _ (m : ℕ) (good : (k : TermId) → k.0 < m → IsTerm b k → fits (term b k) ≡ true) (fine : (k : SortId) → IsSort b k → is_sort (sort b k) ≡ true) where
    pub tree_fits : (x : Node) → AreBelow m (args x) → Fits b x → fits (tree b x) ≡ true
    tree_fits (n.Lit negative m) l i = refl
    tree_fits (n.Truth v) l i = refl
    tree_fits (n.Var x k) l i = fine k i
    tree_fits (n.Add x y) l i = two_fit t.AddNode (term b x) (term b y) (good x l.0 i.0.within) (good y l.1.0 i.1.within) (nums_asked x y i.0 i.1)
    tree_fits (n.Sub x y) l i = two_fit t.SubNode (term b x) (term b y) (good x l.0 i.0.within) (good y l.1.0 i.1.within) (nums_asked x y i.0 i.1)
    tree_fits (n.Mul x y) l i = two_fit t.MulNode (term b x) (term b y) (good x l.0 i.0.within) (good y l.1.0 i.1.within) (nums_asked x y i.0 i.1)
    tree_fits (n.Div x y) l i = two_fit t.DivNode (term b x) (term b y) (good x l.0 i.0.within) (good y l.1.0 i.1.within) (nums_asked x y i.0 i.1)
    tree_fits (n.Mod x y) l i = two_fit t.ModNode (term b x) (term b y) (good x l.0 i.0.within) (good y l.1.0 i.1.within) (nums_asked x y i.0 i.1)
    tree_fits (n.Le x y) l i = two_fit t.LeNode (term b x) (term b y) (good x l.0 i.0.within) (good y l.1.0 i.1.within) (nums_asked x y i.0 i.1)
    tree_fits (n.And x y) l i = two_fit t.AndNode (term b x) (term b y) (good x l.0 i.0.within) (good y l.1.0 i.1.within) (bools_asked x y i.0 i.1)
    tree_fits (n.Or x y) l i = two_fit t.OrNode (term b x) (term b y) (good x l.0 i.0.within) (good y l.1.0 i.1.within) (bools_asked x y i.0 i.1)
    tree_fits (n.Wrap signed bits x) l i =
        one_fit (t.WrapNode signed bits) (term b x) (good x l.0 i.0.within)
        (and_true (is_num (sort_of (term b x))) (nat_le 1 bits && nat_le bits 120) (number_of_wide (sort_of (term b x)) i.0.number) (and_true (nat_le 1 bits) (nat_le bits 120) (le_true 1 bits i.1) (le_true bits 120 i.2)))
    tree_fits (n.Eq x y) l i = two_fit t.EqNode (term b x) (term b y) (good x l.0 i.left) (good y l.1.0 i.right) (wide_same (sort_of (term b x)) (sort_of (term b y)) i.kin)
    tree_fits (n.Not p) l i = one_fit t.NotNode (term b p) (good p l.0 i.within) (bool_of_wide (sort_of (term b p)) i.truth)
    tree_fits (n.Ite c x y) l i =
        three_fit t.IteNode (term b c) (term b x) (term b y) (good c l.0 i.0.within) (good x l.1.0 i.1.left) (good y l.1.1.0 i.1.right)
        (and_true (is_bool (sort_of (term b c))) (matches (sort_of (term b x)) (sort_of (term b y))) (bool_of_wide (sort_of (term b c)) i.0.truth) (wide_same (sort_of (term b x)) (sort_of (term b y)) i.1.kin))
    tree_fits (n.Sel x y) l i =
        two_fit t.SelNode (term b x) (term b y) (good x l.0 i.0.within) (good y l.1.0 i.1.within)
        (and_true (is_array (sort_of (term b x))) (is_num (sort_of (term b y))) (array_of (sort_of (term b x)) i.0.array) (number_of_wide (sort_of (term b y)) i.1.number))
    tree_fits (n.Sto x y v) l i =
        three_fit t.StoNode (term b x) (term b y) (term b v) (good x l.0 i.0.within) (good y l.1.0 i.1.within) (good v l.1.1.0 i.2.within)
        (and_true (is_array (sort_of (term b x)) && is_num (sort_of (term b y))) (matches (element (sort_of (term b x))) (sort_of (term b v)))
        (and_true (is_array (sort_of (term b x))) (is_num (sort_of (term b y))) (array_of (sort_of (term b x)) i.0.array) (number_of_wide (sort_of (term b y)) i.1.number))
        (wide_same (element (sort_of (term b x))) (sort_of (term b v)) (ap (λ z. wide (element z)) (sym (array_wide (sort_of (term b x)) i.0.array)) ∙ i.2.kin)))
    tree_fits (n.Const k v) l i =
        one_fit (t.ConstNode (sort b k)) (term b v) (good v l.0 i.within)
        (and_true (is_array (sort b k) && is_sort (sort b k)) (matches (element (sort b k)) (sort_of (term b v)))
        (and_true (is_array (sort b k)) (is_sort (sort b k)) i.array (fine k i.sort_within)) (wide_same (element (sort b k)) (sort_of (term b v)) i.kin))
    tree_fits (n.Mix k x y) l i =
        three_fit t.MixNode (term b k) (term b x) (term b y) (good k l.0 i.0.within) (good x l.1.0 i.1.within) (good y l.1.1.0 i.2.right)
        (and_true (is_num (sort_of (term b k)) && is_array (sort_of (term b x))) (same_sort (sort_of (term b x)) (sort_of (term b y)))
        (and_true (is_num (sort_of (term b k))) (is_array (sort_of (term b x))) (number_of_wide (sort_of (term b k)) i.0.number) (array_of (sort_of (term b x)) i.1.array))
        (same_arrays (sort_of (term b x)) (sort_of (term b y)) (array_of (sort_of (term b x)) i.1.array) i.2.kin))
    tree_fits (n.Tup k ks) l i =
        and_true (all_fit (args_by (term b) ks)) ((is_tuple (sort b k) && is_sort (sort b k)) && all_match (parts (sort b k)) (sorts_of (args_by (term b) ks)))
        (all_fit_args m ks good l i.within)
        (and_true (is_tuple (sort b k) && is_sort (sort b k)) (all_match (parts (sort b k)) (sorts_of (args_by (term b) ks)))
        (and_true (is_tuple (sort b k)) (is_sort (sort b k)) i.tuple (fine k i.sort_within)) (all_match_wide (parts (sort b k)) (sorts_of (args_by (term b) ks)) i.kin))
    tree_fits (n.Get j x) l i =
        one_fit (t.GetNode j) (term b x) (good x l.0 i.within)
        (and_true (is_tuple (sort_of (term b x))) (nat_lt j (count (parts (sort_of (term b x))))) (tuple_of (sort_of (term b x)) i.tuple)
        (lt_true j (count (parts (sort_of (term b x)))) (subst (λ z. j < count (parts z)) (tuple_wide (sort_of (term b x)) i.tuple) i.part)))
    tree_fits (n.Sum x) l i =
        one_fit t.SumNode (term b x) (good x l.0 i.within)
        (and_true (is_array (sort_of (term b x))) (is_num (element (sort_of (term b x)))) (array_of (sort_of (term b x)) i.array) (ap (λ z. is_num (element z)) (sym (array_wide (sort_of (term b x)) i.array)) ∙ i.number))

  -- ---- and back

  as_number : (x : TermId) → IsTerm b x → is_num (sort_of (term b x)) ≡ true → IsNumber b x
  as_number x w e = record { within = w; number = wide_number (sort_of (term b x)) e }

  as_bool : (x : TermId) → IsTerm b x → is_bool (sort_of (term b x)) ≡ true → IsBool b x
  as_bool x w e = record { within = w; truth = wide_bool (sort_of (term b x)) e }

  as_array : (x : TermId) → IsTerm b x → is_array (sort_of (term b x)) ≡ true → IsArray b x
  as_array x w e = record { within = w; array = of_array (sort_of (term b x)) e }

  as_kin : (x y : TermId) → IsTerm b x → IsTerm b y → matches (sort_of (term b x)) (sort_of (term b y)) ≡ true → AreKin b x y
  as_kin x y w v e = record { left = w; right = v; kin = same_wide (sort_of (term b x)) (sort_of (term b y)) e }

  as_numbers : (x y : TermId) → IsTerm b x → IsTerm b y → (is_num (sort_of (term b x)) && is_num (sort_of (term b y))) ≡ true → IsNumber b x × IsNumber b y
  as_numbers x y w v e = let p = both_true (is_num (sort_of (term b x))) (is_num (sort_of (term b y))) e in (as_number x w p.0, as_number y v p.1)

  as_bools : (x y : TermId) → IsTerm b x → IsTerm b y → (is_bool (sort_of (term b x)) && is_bool (sort_of (term b y))) ≡ true → IsBool b x × IsBool b y
  as_bools x y w v e = let p = both_true (is_bool (sort_of (term b x))) (is_bool (sort_of (term b y))) e in (as_bool x w p.0, as_bool y v p.1)

  pub fits_back : (x : Node) → IsNamed b x → fits (tree b x) ≡ true → Fits b x
  fits_back (n.Lit negative m) w e = tt
  fits_back (n.Truth v) w e = tt
  fits_back (n.Var x k) w e = w.sorts.0
  fits_back (n.Add x y) w e = as_numbers x y w.terms.0 w.terms.1.0 (asked t.AddNode (args_by (term b) (x ∷ y ∷ [])) e)
  fits_back (n.Sub x y) w e = as_numbers x y w.terms.0 w.terms.1.0 (asked t.SubNode (args_by (term b) (x ∷ y ∷ [])) e)
  fits_back (n.Mul x y) w e = as_numbers x y w.terms.0 w.terms.1.0 (asked t.MulNode (args_by (term b) (x ∷ y ∷ [])) e)
  fits_back (n.Div x y) w e = as_numbers x y w.terms.0 w.terms.1.0 (asked t.DivNode (args_by (term b) (x ∷ y ∷ [])) e)
  fits_back (n.Mod x y) w e = as_numbers x y w.terms.0 w.terms.1.0 (asked t.ModNode (args_by (term b) (x ∷ y ∷ [])) e)
  fits_back (n.Le x y) w e = as_numbers x y w.terms.0 w.terms.1.0 (asked t.LeNode (args_by (term b) (x ∷ y ∷ [])) e)
  fits_back (n.And x y) w e = as_bools x y w.terms.0 w.terms.1.0 (asked t.AndNode (args_by (term b) (x ∷ y ∷ [])) e)
  fits_back (n.Or x y) w e = as_bools x y w.terms.0 w.terms.1.0 (asked t.OrNode (args_by (term b) (x ∷ y ∷ [])) e)
  fits_back (n.Wrap signed bits x) w e =
      let p = both_true (is_num (sort_of (term b x))) (nat_le 1 bits && nat_le bits 120) (asked (t.WrapNode signed bits) (args_by (term b) (x ∷ [])) e) in
      let q = both_true (nat_le 1 bits) (nat_le bits 120) p.1 in
      (as_number x w.terms.0 p.0, le_of 1 bits q.0, le_of bits 120 q.1)
  fits_back (n.Eq x y) w e = as_kin x y w.terms.0 w.terms.1.0 (asked t.EqNode (args_by (term b) (x ∷ y ∷ [])) e)
  fits_back (n.Not p) w e = as_bool p w.terms.0 (asked t.NotNode (args_by (term b) (p ∷ [])) e)
  fits_back (n.Ite c x y) w e =
      let p = both_true (is_bool (sort_of (term b c))) (matches (sort_of (term b x)) (sort_of (term b y))) (asked t.IteNode (args_by (term b) (c ∷ x ∷ y ∷ [])) e) in
      (as_bool c w.terms.0 p.0, as_kin x y w.terms.1.0 w.terms.1.1.0 p.1)
  fits_back (n.Sel x y) w e =
      let p = both_true (is_array (sort_of (term b x))) (is_num (sort_of (term b y))) (asked t.SelNode (args_by (term b) (x ∷ y ∷ [])) e) in
      (as_array x w.terms.0 p.0, as_number y w.terms.1.0 p.1)
  fits_back (n.Sto x y v) w e =
      let p = both_true (is_array (sort_of (term b x)) && is_num (sort_of (term b y))) (matches (element (sort_of (term b x))) (sort_of (term b v))) (asked t.StoNode (args_by (term b) (x ∷ y ∷ v ∷ [])) e) in
      let q = both_true (is_array (sort_of (term b x))) (is_num (sort_of (term b y))) p.0 in (
        as_array x w.terms.0 q.0,
        as_number y w.terms.1.0 q.1,
        record { within = w.terms.1.1.0; kin = ap (λ z. wide (element z)) (wide_of_array (sort_of (term b x)) q.0) ∙ same_wide (element (sort_of (term b x))) (sort_of (term b v)) p.1 },
      )
  fits_back (n.Const k v) w e =
      let p = both_true (is_array (sort b k) && is_sort (sort b k)) (matches (element (sort b k)) (sort_of (term b v))) (asked (t.ConstNode (sort b k)) (args_by (term b) (v ∷ [])) e) in
      record { sort_within = w.sorts.0; array = (both_true (is_array (sort b k)) (is_sort (sort b k)) p.0).0; within = w.terms.0; kin = same_wide (element (sort b k)) (sort_of (term b v)) p.1 }
  fits_back (n.Mix k x y) w e =
      let p = both_true (is_num (sort_of (term b k)) && is_array (sort_of (term b x))) (same_sort (sort_of (term b x)) (sort_of (term b y))) (asked t.MixNode (args_by (term b) (k ∷ x ∷ y ∷ [])) e) in
      let q = both_true (is_num (sort_of (term b k))) (is_array (sort_of (term b x))) p.0 in (
        as_number k w.terms.0 q.0,
        as_array x w.terms.1.0 q.1,
        record { left = w.terms.1.0; right = w.terms.1.1.0; kin = ap wide (sort_is (sort_of (term b x)) (sort_of (term b y)) p.1) },
      )
  fits_back (n.Tup k ks) w e =
      let p = both_true (is_tuple (sort b k) && is_sort (sort b k)) (all_match (parts (sort b k)) (sorts_of (args_by (term b) ks))) (asked (t.TupNode (sort b k)) (args_by (term b) ks) e) in
      record { sort_within = w.sorts.0; tuple = (both_true (is_tuple (sort b k)) (is_sort (sort b k)) p.0).0; within = w.terms; kin = all_wide_match (parts (sort b k)) (sorts_of (args_by (term b) ks)) p.1 }
  fits_back (n.Get j x) w e =
      let p = both_true (is_tuple (sort_of (term b x))) (nat_lt j (count (parts (sort_of (term b x))))) (asked (t.GetNode j) (args_by (term b) (x ∷ [])) e) in
      record {
        within = w.terms.0;
        tuple = of_tuple (sort_of (term b x)) p.0;
        part = subst (λ z. j < count (parts z)) (sym (wide_of_tuple (sort_of (term b x)) p.0)) (lt_of j (count (parts (sort_of (term b x)))) p.1);
      }
  fits_back (n.Sum x) w e =
      let p = both_true (is_array (sort_of (term b x))) (is_num (element (sort_of (term b x)))) (asked t.SumNode (args_by (term b) (x ∷ [])) e) in
      record { within = w.terms.0; array = of_array (sort_of (term b x)) p.0; number = ap (λ z. is_num (element z)) (wide_of_array (sort_of (term b x)) p.0) ∙ p.1 }

-- ---- every term of a bank fits

module _ (b : Nodes) (sound : IsSound b) where
  parts_fine : (m : ℕ) (ks : List SortId) → ((k : SortId) → k.0 < m → IsSort b k → is_sort (sort b k) ≡ true) → SortsAreBelow m ks → AreSorts b ks → are_sorts (parts_by (sort b) ks) ≡ true
  parts_fine m [] h l i = refl
  parts_fine m (k ∷ ks) h l i = and_true (is_sort (sort b k)) (are_sorts (parts_by (sort b) ks)) (h k l.0 i.0) (parts_fine m ks h l.1 i.1)

  row_fine : (m : ℕ) (x : SortRow) → ((k : SortId) → k.0 < m → IsSort b k → is_sort (sort b k) ≡ true) → SortsAreBelow m (sort_parts x) → SortFits b x → is_sort (sort_tree b x) ≡ true
  row_fine m (NumRow d.Any) h l i = refl
  row_fine m (NumRow d.Low) h l i = refl
  row_fine m (NumRow (d.Bits signed bits)) h l i = and_true (nat_le 1 bits) (nat_le bits 120) (le_true 1 bits i.0) (le_true bits 120 i.1)
  row_fine m BoolRow h l i = refl
  row_fine m (ArrRow k) h l i = h k l.0 i
  row_fine m (TupRow ks) h l i = parts_fine m ks h l i

  fine_below : (m : ℕ) (k : SortId) → k.0 < m → IsSort b k → is_sort (sort b k) ≡ true
  fine_below zero k l i = absurd (omega (arith, l))
  fine_below (suc m) k l i =
      let x = here b.sorts k.0 i in
      let p = sound.sorts k x.0 x.1 in
      ap is_sort p.is ∙ row_fine k.0 x.0 (λ j lj ij. fine_below m j (omega (arith, l, lj)) ij) p.above p.fits

  pub sorts_fine : (k : SortId) → IsSort b k → is_sort (sort b k) ≡ true
  sorts_fine k i = fine_below (suc k.0) k (omega arith) i

  terms_below : (m : ℕ) (k : TermId) → k.0 < m → IsTerm b k → fits (term b k) ≡ true
  terms_below zero k l i = absurd (omega (arith, l))
  terms_below (suc m) k l i =
      let x = here b.nodes k.0 i in
      let p = sound.nodes k x.0 x.1 in
      ap fits p.is ∙ tree_fits b k.0 (λ j lj ij. terms_below m j (omega (arith, l, lj)) ij) sorts_fine x.0 p.above p.fits

  -- every term of a bank fits
  pub terms_fit : (k : TermId) → IsTerm b k → fits (term b k) ≡ true
  terms_fit k i = terms_below (suc k.0) k (omega arith) i

  -- a node fits exactly where its sorts and arguments are in the bank and its tree fits
  pub fits_is : (x : Node) → Fits b x ↔ (IsNamed b x × (fits (tree b x) ≡ true))
  fits_is x = (
    λ i. (
      record { sorts = fits_sorts b x i; terms = fits_terms b x i },
      tree_fits b (length b.nodes) (λ k l w. terms_fit k w) sorts_fine x (are_below b (length b.nodes) (omega arith) (args x) (fits_terms b x i)) i,
    ),
    λ c. fits_back b x c.0 c.1,
  )
