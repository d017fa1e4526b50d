-- The tests of equality of nodes tell what they say.
use Rattle.std.proofs.Common.{ℕ, Bool, true, false, cond, nat_eq, get_or, List, [], ◌∷◌, ◌≡◌, map, slice_get, Some, refl, sym, ap, ap₂, ◌∙◌, subst}
use Rattle.std.specs.Ordering.{on}
use Rattle.std.specs.Cmp.Lexicographic.{pointwise}
use Rattle.sv_term.specs.Sorts.{same_bool}
use Rattle.sv_term.specs.Sorts as d
use Rattle.sv_term.specs.Ids.{id_decides}
use Rattle.sv_term.specs.NodeKeys.{key_of, tuple_args}
use Rattle.sv_term.specs.Banks.{StandsIn, NumRow, ArrRow, TupRow, range_of, row_of}
use Rattle.sv_term.specs.declared.node.SortId.{SortId}
use Rattle.sv_term.specs.declared.node.TermId.{TermId}
use Rattle.sv_term.specs.declared.node.Range as range
use Rattle.sv_term.specs.declared.node.Range.TheVariants as r
use Rattle.sv_term.specs.declared.node.SortNode.{SortNode}
use Rattle.sv_term.specs.declared.node.SortNode.TheVariants as s
use Rattle.sv_term.specs.declared.node.Node.{Node}
use Rattle.sv_term.specs.declared.node.Node.TheVariants as n
use Rattle.sv_term.specs.contracts.node.NodePartialEq.TheImpl.{eq-value}
use Rattle.sv_term.specs.contracts.node.SortNodePartialEq.TheImpl as sorts
use Rattle.sv_term.specs.contracts.node.RangePartialEq.TheImpl as ranges
use Rattle.sv_term.proofs.Keyed.{get_map}
use Rattle.sv_term.proofs.Same.{both_true, and_true, same_nat, nat_same, same_bool_is, bool_self}

pub id_is : (j k : TermId) → nat_eq j.0 k.0 ≡ true → j ≡ k
id_is j k e = (id_decides j k).0 e

pub sort_id_is : (j k : SortId) → nat_eq j.0 k.0 ≡ true → j ≡ k
sort_id_is j k e = λ i. record { 0 = same_nat j.0 k.0 e i }

ids_are : (js ks : List TermId) → pointwise (on (λ (k : TermId). k.0) nat_eq) js ks ≡ true → js ≡ ks
ids_are [] [] e = refl
ids_are [] (k ∷ ks) e = cc
ids_are (j ∷ js) [] e = cc
ids_are (j ∷ js) (k ∷ ks) e = let p = both_true (nat_eq j.0 k.0) (pointwise (on (λ (k : TermId). k.0) nat_eq) js ks) e in ap₂ (λ x xs. x ∷ xs) (id_is j k p.0) (ids_are js ks p.1)

ids_self : (ks : List TermId) → pointwise (on (λ (k : TermId). k.0) nat_eq) ks ks ≡ true
ids_self [] = refl
ids_self (k ∷ ks) = and_true (nat_eq k.0 k.0) (pointwise (on (λ (k : TermId). k.0) nat_eq) ks ks) (nat_same k.0 k.0 refl) (ids_self ks)

numbers_are : (js ks : List ℕ) → pointwise nat_eq js ks ≡ true → js ≡ ks
numbers_are [] [] e = refl
numbers_are [] (k ∷ ks) e = cc
numbers_are (j ∷ js) [] e = cc
numbers_are (j ∷ js) (k ∷ ks) e = let p = both_true (nat_eq j k) (pointwise nat_eq js ks) e in ap₂ (λ x xs. x ∷ xs) (same_nat j k p.0) (numbers_are js ks p.1)

numbers_self : (ks : List ℕ) → pointwise nat_eq ks ks ≡ true
numbers_self [] = refl
numbers_self (k ∷ ks) = and_true (nat_eq k k) (pointwise nat_eq ks ks) (nat_same k k refl) (numbers_self ks)

-- ---- a node by its key and the arguments of a tuple

abbrev number : ℕ → List ℕ → ℕ
number k ks = get_or ks k 0

abbrev sort : ℕ → List ℕ → SortId
sort k ks = record { 0 = number k ks }

abbrev term : ℕ → List ℕ → TermId
term k ks = record { 0 = number k ks }

abbrev made : List ℕ → List TermId → Node
made ks ts =
    cond (nat_eq (number 0 ks) 0) (n.Lit (nat_eq (number 1 ks) 1) (number 2 ks))
    (cond (nat_eq (number 0 ks) 1) (n.Truth (nat_eq (number 1 ks) 1))
    (cond (nat_eq (number 0 ks) 2) (n.Var (number 1 ks) (sort 2 ks))
    (cond (nat_eq (number 0 ks) 3) (n.Add (term 1 ks) (term 2 ks))
    (cond (nat_eq (number 0 ks) 4) (n.Sub (term 1 ks) (term 2 ks))
    (cond (nat_eq (number 0 ks) 5) (n.Mul (term 1 ks) (term 2 ks))
    (cond (nat_eq (number 0 ks) 6) (n.Div (term 1 ks) (term 2 ks))
    (cond (nat_eq (number 0 ks) 7) (n.Mod (term 1 ks) (term 2 ks))
    (cond (nat_eq (number 0 ks) 8) (n.Wrap (nat_eq (number 1 ks) 1) (number 2 ks) (term 3 ks))
    (cond (nat_eq (number 0 ks) 9) (n.Le (term 1 ks) (term 2 ks))
    (cond (nat_eq (number 0 ks) 10) (n.Eq (term 1 ks) (term 2 ks))
    (cond (nat_eq (number 0 ks) 11) (n.Not (term 1 ks))
    (cond (nat_eq (number 0 ks) 12) (n.And (term 1 ks) (term 2 ks))
    (cond (nat_eq (number 0 ks) 13) (n.Or (term 1 ks) (term 2 ks))
    (cond (nat_eq (number 0 ks) 14) (n.Ite (term 1 ks) (term 2 ks) (term 3 ks))
    (cond (nat_eq (number 0 ks) 15) (n.Sel (term 1 ks) (term 2 ks))
    (cond (nat_eq (number 0 ks) 16) (n.Sto (term 1 ks) (term 2 ks) (term 3 ks))
    (cond (nat_eq (number 0 ks) 17) (n.Const (sort 1 ks) (term 2 ks))
    (cond (nat_eq (number 0 ks) 18) (n.Mix (term 1 ks) (term 2 ks) (term 3 ks))
    (cond (nat_eq (number 0 ks) 19) (n.Tup (sort 1 ks) ts)
    (cond (nat_eq (number 0 ks) 20) (n.Get (number 1 ks) (term 2 ks))
    (n.Sum (term 1 ks))))))))))))))))))))))

made_is : (x : Node) → made (key_of x) (tuple_args x) ≡ x
made_is (n.Lit true m) = refl
made_is (n.Lit false m) = refl
made_is (n.Truth true) = refl
made_is (n.Truth false) = refl
made_is (n.Var x k) = refl
made_is (n.Add a b) = refl
made_is (n.Sub a b) = refl
made_is (n.Mul a b) = refl
made_is (n.Div a b) = refl
made_is (n.Mod a b) = refl
made_is (n.Wrap true bits a) = refl
made_is (n.Wrap false bits a) = refl
made_is (n.Le a b) = refl
made_is (n.Eq a b) = refl
made_is (n.Not p) = refl
made_is (n.And p q) = refl
made_is (n.Or p q) = refl
made_is (n.Ite c a b) = refl
made_is (n.Sel a i) = refl
made_is (n.Sto a i v) = refl
made_is (n.Const k v) = refl
made_is (n.Mix k a b) = refl
made_is (n.Tup k ks) = refl
made_is (n.Get k a) = refl
made_is (n.Sum a) = refl

-- two nodes that the test finds equal are one
pub node_is : (x y : Node) → (eq-value).it x y ≡ true → x ≡ y
node_is x y e =
    let p = both_true (pointwise nat_eq (key_of x) (key_of y)) (pointwise (on (λ (k : TermId). k.0) nat_eq) (tuple_args x) (tuple_args y)) e in
    let keys : key_of x ≡ key_of y = numbers_are (key_of x) (key_of y) p.0 in
    let args : tuple_args x ≡ tuple_args y = ids_are (tuple_args x) (tuple_args y) p.1 in
    sym (made_is x) ∙ (ap₂ made keys args ∙ made_is y)

pub node_self : (x : Node) → (eq-value).it x x ≡ true
node_self x = and_true (pointwise nat_eq (key_of x) (key_of x)) (pointwise (on (λ (k : TermId). k.0) nat_eq) (tuple_args x) (tuple_args x)) (numbers_self (key_of x)) (ids_self (tuple_args x))

-- ---- sorts

range_is : (q p : range.Range) → (ranges.eq-value).it q p ≡ true → range_of q ≡ range_of p
range_is r.Any r.Any e = refl
range_is r.Low r.Low e = refl
range_is (r.Bits a j) (r.Bits b k) e = let p = both_true (same_bool a b) (nat_eq j k) e in ap₂ d.Bits (same_bool_is a b p.0) (same_nat j k p.1)
range_is _ _ e = cc e

range_found : (q p : range.Range) → range_of q ≡ range_of p → (ranges.eq-value).it q p ≡ true
range_found r.Any r.Any e = refl
range_found r.Low r.Low e = refl
range_found (r.Bits a j) (r.Bits b k) e =
    let f : a ≡ b = cc e in
    let g : j ≡ k = cc e in
    and_true (same_bool a b) (nat_eq j k) (subst (λ c. same_bool a c ≡ true) f (bool_self a)) (nat_same j k g)
range_found _ _ e = cc e

sort_ids_are : (js ks : List SortId) → pointwise (on (λ (k : SortId). k.0) nat_eq) js ks ≡ true → js ≡ ks
sort_ids_are [] [] e = refl
sort_ids_are [] (k ∷ ks) e = cc
sort_ids_are (j ∷ js) [] e = cc
sort_ids_are (j ∷ js) (k ∷ ks) e = let p = both_true (nat_eq j.0 k.0) (pointwise (on (λ (k : SortId). k.0) nat_eq) js ks) e in ap₂ (λ x xs. x ∷ xs) (sort_id_is j k p.0) (sort_ids_are js ks p.1)

sort_ids_self : (ks : List SortId) → pointwise (on (λ (k : SortId). k.0) nat_eq) ks ks ≡ true
sort_ids_self [] = refl
sort_ids_self (k ∷ ks) = and_true (nat_eq k.0 k.0) (pointwise (on (λ (k : SortId). k.0) nat_eq) ks ks) (nat_same k.0 k.0 refl) (sort_ids_self ks)

-- two nodes of sorts that the test finds equal are one as plain data
pub sort_node_is : (x y : SortNode) → (sorts.eq-value).it x y ≡ true → row_of x ≡ row_of y
sort_node_is (s.Num q) (s.Num p) e = ap NumRow (range_is q p e)
sort_node_is s.Bool s.Bool e = refl
sort_node_is (s.Arr j) (s.Arr k) e = ap ArrRow (sort_id_is j k e)
sort_node_is (s.Tup js) (s.Tup ks) e = ap TupRow (sort_ids_are js.items ks.items e)
sort_node_is _ _ e = cc e

pub sort_node_found : (x y : SortNode) → row_of x ≡ row_of y → (sorts.eq-value).it x y ≡ true
sort_node_found (s.Num q) (s.Num p) e = range_found q p (cc e)
sort_node_found s.Bool s.Bool e = refl
sort_node_found (s.Arr j) (s.Arr k) e = let f : j ≡ k = cc e in nat_same j.0 k.0 (ap (λ z. z.0) f)
sort_node_found (s.Tup js) (s.Tup ks) e = let f : js.items ≡ ks.items = cc e in subst (λ z. pointwise (on (λ (k : SortId). k.0) nat_eq) js.items z ≡ true) f (sort_ids_self js.items)
sort_node_found _ _ e = cc e

-- ---- what is not there is found equal to nothing

pub absent_rows : (ks : List SortNode) (y : SortNode) → (StandsIn (map row_of ks) (row_of y) → ⊥) → (j : ℕ) (x : SortNode) → slice_get ks j ≡ Some x → (sorts.eq-value).it y x ≡ false
absent_rows ks y h j x a = go ((sorts.eq-value).it y x) refl
  where
    go : (b : Bool) → (sorts.eq-value).it y x ≡ b → b ≡ false
    go true e = absurd (h (j, get_map row_of ks j x a ∙ ap Some (sym (sort_node_is y x e))))
    go false e = refl

pub absent_keys : (ks : List Node) (y : Node) → (StandsIn ks y → ⊥) → (j : ℕ) (x : Node) → slice_get ks j ≡ Some x → (eq-value).it y x ≡ false
absent_keys ks y h j x a = go ((eq-value).it y x) refl
  where
    go : (b : Bool) → (eq-value).it y x ≡ b → b ≡ false
    go true e = absurd (h (j, a ∙ ap Some (sym (node_is y x e))))
    go false e = refl
