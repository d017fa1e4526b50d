-- The tests of kinds say whether a node fits.
use Rattle.std.proofs.Common.{ℕ, suc, ◌<◌, Bool, true, false, ◌&&◌, nat_eq, List, [], ◌∷◌, ◌≡◌, ◌↔◌, length, refl, sym, ap, ap₂, ◌∙◌, subst, true≢false, IsTrue, arith}
use Rattle.sv_term.specs.Sorts.{Any, Sort, NumSort, BoolSort, ArrSort, TupSort, Sorts, NoSorts, SortAnd, is_array, is_tuple, element, parts, count}
use Rattle.sv_term.specs.Terms.{sort_of}
use Rattle.sv_term.specs.Banks.{Nodes, sort, term, wide, all_wide, kind_of, parts_by, IsSort, IsTerm, IsNumber, IsBool, IsArray, AreKin, IsElement, FillsSort, ArePartsOf, HasPart, IsSummed, IsKind, IsSound}
use Rattle.sv_term.specs.NodeKinds.{IsOfKind, HasKind, HasElements, HasItems, IsKnown, AreParts, IsPart, same_kind, is_arr, count_of}
use Rattle.sv_term.specs.declared.node.SortId.{SortId}
use Rattle.sv_term.specs.declared.node.TermId.{TermId}
use Rattle.sv_term.specs.declared.bank.fitting.Kind.{Kind}
use Rattle.sv_term.specs.declared.bank.fitting.Kind.TheVariants as k
use Rattle.sv_term.proofs.Same.{both_true, and_true, same_nat, nat_same}
use Rattle.sv_term.proofs.NodeEquality.{sort_id_is}
use Rattle.sv_term.proofs.Wide.{array_wide, number_of_wide, wide_number}
use Rattle.sv_term.proofs.Distinct.{sorts_apart}

pub both_say : {A B : Type 0} (p q r : Bool) → (IsTrue p ↔ A) → (IsTrue q ↔ B) → r ≡ (p && q) → IsTrue r ↔ (A × B)
both_say p q r f g e = (λ h. let s = both_true p q (sym e ∙ h) in (f.0 s.0, g.0 s.1), λ h. e ∙ and_true p q (f.1 h.0) (g.1 h.1))

-- ---- what a kind says of a sort

-- the sort with its parts left out
abbrev bare : Sort → Sort
bare (NumSort r) = NumSort Any
bare BoolSort = BoolSort
bare (ArrSort s) = ArrSort BoolSort
bare (TupSort ss) = TupSort NoSorts

abbrev bare_kind : Kind → Sort
bare_kind k.Missing = BoolSort
bare_kind k.Num = NumSort Any
bare_kind k.Bool = BoolSort
bare_kind (k.Arr s) = ArrSort BoolSort
bare_kind (k.Tup s) = TupSort NoSorts

bare_array : (x : Sort) → is_array x ≡ true → bare (wide x) ≡ ArrSort BoolSort
bare_array (ArrSort s) e = refl
bare_array (NumSort r) e = cc e
bare_array BoolSort e = cc e
bare_array (TupSort ss) e = cc e

bare_tuple : (x : Sort) → is_tuple x ≡ true → bare (wide x) ≡ TupSort NoSorts
bare_tuple (TupSort ss) e = refl
bare_tuple (NumSort r) e = cc e
bare_tuple BoolSort e = cc e
bare_tuple (ArrSort s) e = cc e

bare_is : (b : Nodes) (x : Sort) (l : Kind) → IsOfKind b x l → bare (wide x) ≡ bare_kind l
bare_is b x k.Missing h = absurd h
bare_is b x k.Num h = ap bare h
bare_is b x k.Bool h = ap bare h
bare_is b x (k.Arr s) h = bare_array x h.2
bare_is b x (k.Tup s) h = bare_tuple x h.2

wide_array : (x : Sort) → is_array x ≡ true → wide x ≡ x
wide_array (ArrSort s) e = refl
wide_array (NumSort r) e = cc e
wide_array BoolSort e = cc e
wide_array (TupSort ss) e = cc e

wide_tuple : (x : Sort) → is_tuple x ≡ true → wide x ≡ x
wide_tuple (TupSort ss) e = refl
wide_tuple (NumSort r) e = cc e
wide_tuple BoolSort e = cc e
wide_tuple (ArrSort s) e = cc e

array_still : (x : Sort) → is_array x ≡ true → is_array (wide x) ≡ true
array_still x e = ap is_array (wide_array x e) ∙ e

-- two kinds are the same exactly where their sorts count as one
pub record Same (r : Bool) (x y : Sort) : Type 0 where
  pub there : r ≡ true → wide x ≡ wide y
  pub back : wide x ≡ wide y → r ≡ true

differ : (b : Nodes) (x y : Sort) (l m : Kind) → IsOfKind b x l → IsOfKind b y m → wide x ≡ wide y → bare_kind l ≡ bare_kind m
differ b x y l m h g e = sym (bare_is b x l h) ∙ (ap bare e ∙ bare_is b y m g)

pub kinds_same : (b : Nodes) → IsSound b → (x y : Sort) (l m : Kind) → IsOfKind b x l → IsOfKind b y m → Same (same_kind l m) x y
kinds_same b sound x y k.Num k.Num h g = record { there = λ e. h ∙ sym g; back = λ e. refl }
kinds_same b sound x y k.Bool k.Bool h g = record { there = λ e. h ∙ sym g; back = λ e. refl }
kinds_same b sound x y (k.Arr s) (k.Arr t) h g = record {
  there = λ e. ap wide (sym h.1 ∙ (ap (sort b) (sort_id_is s t e) ∙ g.1));
  back = λ e. nat_same s.0 t.0 (ap (λ z. z.0) (sorts_apart b sound s t h.0 g.0 (h.1 ∙ (sym (wide_array x h.2) ∙ (e ∙ (wide_array y g.2 ∙ sym g.1))))));
}
kinds_same b sound x y (k.Tup s) (k.Tup t) h g = record {
  there = λ e. ap wide (sym h.1 ∙ (ap (sort b) (sort_id_is s t e) ∙ g.1));
  back = λ e. nat_same s.0 t.0 (ap (λ z. z.0) (sorts_apart b sound s t h.0 g.0 (h.1 ∙ (sym (wide_tuple x h.2) ∙ (e ∙ (wide_tuple y g.2 ∙ sym g.1))))));
}
kinds_same b sound x y k.Missing m h g = absurd h
kinds_same b sound x y l k.Missing h g = absurd g
kinds_same b sound x y l m h g = record { there = λ e. cc e; back = λ e. let f : bare_kind l ≡ bare_kind m = differ b x y l m h g e in cc f }

missing_left : (m : Kind) → same_kind k.Missing m ≡ false
missing_left m = refl

missing_right : (l : Kind) → same_kind l k.Missing ≡ false
missing_right k.Missing = refl
missing_right k.Num = refl
missing_right k.Bool = refl
missing_right (k.Arr s) = refl
missing_right (k.Tup s) = refl

-- ---- kinds of terms

pub has_kind : (b : Nodes) (t : TermId) (s : SortId) (l : Kind) → IsTerm b t → IsKind b s (sort_of (term b t)) → IsOfKind b (sort b s) l → HasKind b t l
has_kind b t s k.Missing i h g = absurd g
has_kind b t s k.Num i h g = (i, subst (λ x. IsOfKind b x k.Num) h.is g)
has_kind b t s k.Bool i h g = (i, subst (λ x. IsOfKind b x k.Bool) h.is g)
has_kind b t s (k.Arr n) i h g = (i, subst (λ x. IsOfKind b x (k.Arr n)) h.is g)
has_kind b t s (k.Tup n) i h g = (i, subst (λ x. IsOfKind b x (k.Tup n)) h.is g)

pub known : (b : Nodes) (t : TermId) (l : Kind) → HasKind b t l → IsKnown b l
known b t k.Missing h = tt
known b t k.Num h = tt
known b t k.Bool h = tt
known b t (k.Arr s) h = h.1.0
known b t (k.Tup s) h = h.1.0

-- either the term is not there, or its sort is of the kind
pub record Of (b : Nodes) (t : TermId) (l : Kind) : Type 0 where
  pub within : IsTerm b t
  pub kind : IsOfKind b (sort_of (term b t)) l

of_kind : (b : Nodes) (t : TermId) (l : Kind) → HasKind b t l → IsTerm b t → Of b t l
of_kind b t k.Missing h i = absurd (h i)
of_kind b t k.Num h i = record { within = h.0; kind = h.1 }
of_kind b t k.Bool h i = record { within = h.0; kind = h.1 }
of_kind b t (k.Arr s) h i = record { within = h.0; kind = h.1 }
of_kind b t (k.Tup s) h i = record { within = h.0; kind = h.1 }

seen : (b : Nodes) (t : TermId) (l m : Kind) → HasKind b t l → same_kind m l ≡ true → Of b t l
seen b t k.Missing m h e = absurd (true≢false (sym e ∙ missing_right m))
seen b t k.Num m h e = record { within = h.0; kind = h.1 }
seen b t k.Bool m h e = record { within = h.0; kind = h.1 }
seen b t (k.Arr s) m h e = record { within = h.0; kind = h.1 }
seen b t (k.Tup s) m h e = record { within = h.0; kind = h.1 }

seen_left : (b : Nodes) (t : TermId) (l m : Kind) → HasKind b t l → same_kind l m ≡ true → Of b t l
seen_left b t k.Missing m h e = cc e
seen_left b t k.Num m h e = record { within = h.0; kind = h.1 }
seen_left b t k.Bool m h e = record { within = h.0; kind = h.1 }
seen_left b t (k.Arr s) m h e = record { within = h.0; kind = h.1 }
seen_left b t (k.Tup s) m h e = record { within = h.0; kind = h.1 }

-- ---- what the tests say

module _ (b : Nodes) (sound : IsSound b) where
  pub number_says : (t : TermId) (l : Kind) (r : Bool) → HasKind b t l → r ≡ same_kind l k.Num → IsTrue r ↔ IsNumber b t
  number_says t l r h e = (
    λ f. let o = seen_left b t l k.Num h (sym e ∙ f) in record { within = o.within; number = (kinds_same b sound (sort_of (term b t)) (NumSort Any) l k.Num o.kind refl).there (sym e ∙ f) },
    λ i. let o = of_kind b t l h i.within in e ∙ (kinds_same b sound (sort_of (term b t)) (NumSort Any) l k.Num o.kind refl).back i.number,
  )

  pub truth_says : (t : TermId) (l : Kind) (r : Bool) → HasKind b t l → r ≡ same_kind l k.Bool → IsTrue r ↔ IsBool b t
  truth_says t l r h e = (
    λ f. let o = seen_left b t l k.Bool h (sym e ∙ f) in record { within = o.within; truth = (kinds_same b sound (sort_of (term b t)) BoolSort l k.Bool o.kind refl).there (sym e ∙ f) },
    λ i. let o = of_kind b t l h i.within in e ∙ (kinds_same b sound (sort_of (term b t)) BoolSort l k.Bool o.kind refl).back i.truth,
  )

  pub kin_says : (s t : TermId) (l m : Kind) (r : Bool) → HasKind b s l → HasKind b t m → r ≡ same_kind l m → IsTrue r ↔ AreKin b s t
  kin_says s t l m r h g e = (
    λ f.
        let o = seen_left b s l m h (sym e ∙ f) in
        let p = seen b t m l g (sym e ∙ f) in
        record { left = o.within; right = p.within; kin = (kinds_same b sound (sort_of (term b s)) (sort_of (term b t)) l m o.kind p.kind).there (sym e ∙ f) },
    λ i.
        let o = of_kind b s l h i.left in
        let p = of_kind b t m g i.right in
        e ∙ (kinds_same b sound (sort_of (term b s)) (sort_of (term b t)) l m o.kind p.kind).back i.kin,
  )

  pub part_says : (s : SortId) (t : TermId) (l m : Kind) (r : Bool) → IsOfKind b (sort b s) l → HasKind b t m → r ≡ same_kind l m → IsTrue r ↔ IsPart b s t
  part_says s t l m r h g e = (
    λ f. let p = seen b t m l g (sym e ∙ f) in record { within = p.within; kin = (kinds_same b sound (sort b s) (sort_of (term b t)) l m h p.kind).there (sym e ∙ f) },
    λ i. let p = of_kind b t m g i.within in e ∙ (kinds_same b sound (sort b s) (sort_of (term b t)) l m h p.kind).back i.kin,
  )

arr_kind : (b : Nodes) (t : TermId) (l : Kind) → HasKind b t l → is_arr l ≡ true → IsArray b t
arr_kind b t (k.Arr s) h e = record { within = h.0; array = array_still (sort_of (term b t)) h.1.2 }
arr_kind b t k.Missing h e = cc e
arr_kind b t k.Num h e = cc e
arr_kind b t k.Bool h e = cc e
arr_kind b t (k.Tup s) h e = cc e

kind_arr : (b : Nodes) (t : TermId) (l : Kind) → HasKind b t l → IsArray b t → is_arr l ≡ true
kind_arr b t (k.Arr s) h i = refl
kind_arr b t k.Missing h i = absurd (h i.within)
kind_arr b t k.Num h i = let f : is_array (NumSort Any) ≡ true = ap is_array (sym h.1) ∙ i.array in cc f
kind_arr b t k.Bool h i = let f : is_array BoolSort ≡ true = ap is_array (sym h.1) ∙ i.array in cc f
kind_arr b t (k.Tup s) h i =
    let n : is_array (sort_of (term b t)) ≡ true = ap is_array (sym (array_wide (sort_of (term b t)) i.array)) ∙ i.array in
    let f : TupSort NoSorts ≡ ArrSort BoolSort = sym (bare_is b (sort_of (term b t)) (k.Tup s) h.1) ∙ bare_array (sort_of (term b t)) n in
    cc f

pub array_says : (b : Nodes) (t : TermId) (l : Kind) (r : Bool) → HasKind b t l → r ≡ is_arr l → IsTrue r ↔ IsArray b t
array_says b t l r h e = (λ f. arr_kind b t l h (sym e ∙ f), λ i. e ∙ kind_arr b t l h i)

-- ---- elements

elements_of : (b : Nodes) (x : Sort) (e : Kind) → HasElements b x e → is_array x ≡ true → IsOfKind b (element x) e
elements_of b x k.Missing h i = true≢false (sym i ∙ h)
elements_of b x k.Num h i = h.1
elements_of b x k.Bool h i = h.1
elements_of b x (k.Arr s) h i = h.1
elements_of b x (k.Tup s) h i = h.1

elements_array : (b : Nodes) (x : Sort) (e m : Kind) → HasElements b x e → same_kind e m ≡ true → is_array x ≡ true
elements_array b x k.Missing m h q = cc q
elements_array b x k.Num m h q = h.0
elements_array b x k.Bool m h q = h.0
elements_array b x (k.Arr s) m h q = h.0
elements_array b x (k.Tup s) m h q = h.0

pub record ItemsOf (b : Nodes) (a : TermId) (e : Kind) : Type 0 where
  pub array : IsArray b a
  pub kind : IsOfKind b (element (kind_of (term b a))) e

no_items : (b : Nodes) (a : TermId) (e m : Kind) → e ≡ k.Missing → same_kind e m ≡ true → ItemsOf b a e
no_items b a e m g q = absurd (true≢false (sym q ∙ ap (λ z. same_kind z m) g))

element_seen : (b : Nodes) (a : TermId) (l e m : Kind) → HasKind b a l → HasItems b l e → same_kind e m ≡ true → ItemsOf b a e
element_seen b a (k.Arr s) e m h g q = record {
  array = record { within = h.0; array = array_still (sort_of (term b a)) h.1.2 };
  kind = subst (λ x. IsOfKind b (element x) e) (h.1.1 ∙ sym (wide_array (sort_of (term b a)) h.1.2)) (elements_of b (sort b s) e g (elements_array b (sort b s) e m g q));
}
element_seen b a k.Missing e m h g q = no_items b a e m g q
element_seen b a k.Num e m h g q = no_items b a e m g q
element_seen b a k.Bool e m h g q = no_items b a e m g q
element_seen b a (k.Tup s) e m h g q = no_items b a e m g q

element_back : (b : Nodes) (a : TermId) (l e : Kind) → HasKind b a l → HasItems b l e → IsArray b a → IsOfKind b (element (kind_of (term b a))) e
element_back b a (k.Arr s) e h g i =
    subst (λ x. IsOfKind b (element x) e) (h.1.1 ∙ sym (wide_array (sort_of (term b a)) h.1.2)) (elements_of b (sort b s) e g (ap is_array h.1.1 ∙ h.1.2))
element_back b a k.Missing e h g i = absurd (true≢false (sym (kind_arr b a k.Missing h i)))
element_back b a k.Num e h g i = absurd (true≢false (sym (kind_arr b a k.Num h i)))
element_back b a k.Bool e h g i = absurd (true≢false (sym (kind_arr b a k.Bool h i)))
element_back b a (k.Tup s) e h g i = absurd (true≢false (sym (kind_arr b a (k.Tup s) h i)))

module _ (b : Nodes) (sound : IsSound b) where
  pub stores_say : (a i v : TermId) (l e m : Kind) (n r : Bool) → HasKind b a l → HasItems b l e → HasKind b v m → (IsTrue n ↔ IsNumber b i) → r ≡ (n && same_kind e m) → IsTrue r ↔ (IsArray b a × IsNumber b i × IsElement b a v)
  stores_say a i v l e m n r h g hv nm q = (
    λ f.
        let s = both_true n (same_kind e m) (sym q ∙ f) in
        let o = element_seen b a l e m h g s.1 in
        let p = seen b v m e hv s.1 in
        (o.array, nm.0 s.0, record { within = p.within; kin = (kinds_same b sound (element (kind_of (term b a))) (sort_of (term b v)) e m o.kind p.kind).there s.1 }),
    λ c.
        let p = of_kind b v m hv c.2.within in
        q ∙ and_true n (same_kind e m) (nm.1 c.1) ((kinds_same b sound (element (kind_of (term b a))) (sort_of (term b v)) e m (element_back b a l e h g c.0) p.kind).back c.2.kin),
  )

  pub fills_say : (s : SortId) (v : TermId) (e m : Kind) (r : Bool) → IsSort b s → HasElements b (sort b s) e → HasKind b v m → r ≡ same_kind e m → IsTrue r ↔ FillsSort b s v
  fills_say s v e m r w g hv q = (
    λ f.
        let z = sym q ∙ f in
        let y = elements_array b (sort b s) e m g z in
        let p = seen b v m e hv z in
        record { sort_within = w; array = y; within = p.within; kin = (kinds_same b sound (element (sort b s)) (sort_of (term b v)) e m (elements_of b (sort b s) e g y) p.kind).there z },
    λ c.
        let p = of_kind b v m hv c.within in
        q ∙ (kinds_same b sound (element (sort b s)) (sort_of (term b v)) e m (elements_of b (sort b s) e g c.array) p.kind).back c.kin,
  )

  pub sums_say : (a : TermId) (l e : Kind) (r : Bool) → HasKind b a l → HasItems b l e → r ≡ same_kind e k.Num → IsTrue r ↔ IsSummed b a
  sums_say a l e r h g q = (
    λ f.
        let z = sym q ∙ f in
        let o = element_seen b a l e k.Num h g z in
        record {
          within = o.array.within;
          array = o.array.array;
          number = number_of_wide (element (kind_of (term b a))) ((kinds_same b sound (element (kind_of (term b a))) (NumSort Any) e k.Num o.kind refl).there z);
        },
    λ c.
        let i : IsArray b a = record { within = c.within; array = c.array } in
        q ∙ (kinds_same b sound (element (kind_of (term b a))) (NumSort Any) e k.Num (element_back b a l e h g i) refl).back (wide_number (element (kind_of (term b a))) c.number),
  )

-- ---- parts

pub part_says_so : (b : Nodes) (a : TermId) (l : Kind) (j n : ℕ) → HasKind b a l → n ≡ count_of b l → (j < n) ↔ HasPart b j a
part_says_so b a (k.Tup s) j n h e = (
  λ q. record {
    within = h.0;
    tuple = ap is_tuple (wide_tuple (sort_of (term b a)) h.1.2) ∙ h.1.2;
    part = subst (λ z. j < count (parts z)) (h.1.1 ∙ sym (wide_tuple (sort_of (term b a)) h.1.2)) (subst (λ z. j < z) e q);
  },
  λ i. subst (λ z. j < z) (sym e) (subst (λ z. j < count (parts z)) (sym (h.1.1 ∙ sym (wide_tuple (sort_of (term b a)) h.1.2))) i.part),
)
part_says_so b a k.Missing j n h e = (λ q. absurd (none j n e q), λ i. absurd (h i.within))
  where
    none : (j n : ℕ) → n ≡ 0 → j < n → ⊥
    none j n e q = omega (arith, e, q)
part_says_so b a k.Num j n h e = (λ q. absurd (none j n e q), λ i. absurd (true≢false (sym (ap is_tuple (sym h.1) ∙ i.tuple))))
  where
    none : (j n : ℕ) → n ≡ 0 → j < n → ⊥
    none j n e q = omega (arith, e, q)
part_says_so b a k.Bool j n h e = (λ q. absurd (none j n e q), λ i. absurd (true≢false (sym (ap is_tuple (sym h.1) ∙ i.tuple))))
  where
    none : (j n : ℕ) → n ≡ 0 → j < n → ⊥
    none j n e q = omega (arith, e, q)
part_says_so b a (k.Arr s) j n h e = (λ q. absurd (none j n e q), λ i. absurd (true≢false (sym (other (sort_of (term b a)) h.1.2 i.tuple))))
  where
    none : (j n : ℕ) → n ≡ 0 → j < n → ⊥
    none j n e q = omega (arith, e, q)

    other : (x : Sort) → is_array x ≡ true → is_tuple (wide x) ≡ true → false ≡ true
    other (ArrSort s) e f = f
    other (NumSort r) e f = cc e
    other BoolSort e f = cc e
    other (TupSort ss) e f = cc e

pub no_parts : (b : Nodes) → AreParts b [] []
no_parts b = record { within = tt; kin = refl }

pub more_parts : (b : Nodes) (s : SortId) (ss : List SortId) (t : TermId) (ts : List TermId) → (IsPart b s t × AreParts b ss ts) ↔ AreParts b (s ∷ ss) (t ∷ ts)
more_parts b s ss t ts = (
  λ c. record { within = (c.0.within, c.1.within); kin = ap₂ SortAnd c.0.kin c.1.kin },
  λ c. (record { within = c.within.0; kin = cc (c.kin) }, record { within = c.within.1; kin = cc (c.kin) }),
)

pub fewer_args : (b : Nodes) (s : SortId) (ss : List SortId) → AreParts b (s ∷ ss) [] → ⊥
fewer_args b s ss c = true≢false (sym (ap is_none c.kin))
  where
    is_none : Sorts → Bool
    is_none NoSorts = true
    is_none (SortAnd x xs) = false

pub fewer_parts : (b : Nodes) (t : TermId) (ts : List TermId) → AreParts b [] (t ∷ ts) → ⊥
fewer_parts b t ts c = true≢false (ap is_none c.kin)
  where
    is_none : Sorts → Bool
    is_none NoSorts = true
    is_none (SortAnd x xs) = false

pub parts_say : (b : Nodes) (s : SortId) (ss : List SortId) (ts : List TermId) (p q r : Bool) → IsSort b s → p ≡ is_tuple (sort b s) → parts (sort b s) ≡ parts_by (sort b) ss → (IsTrue q ↔ AreParts b ss ts) → r ≡ (p && q) → IsTrue r ↔ ArePartsOf b s ts
parts_say b s ss ts p q r w e f g h = (
  λ y.
      let z = both_true p q (sym h ∙ y) in
      let o = g.0 z.1 in
      record { sort_within = w; tuple = sym e ∙ z.0; within = o.within; kin = ap all_wide f ∙ o.kin },
  λ c. h ∙ and_true p q (e ∙ c.tuple) (g.1 record { within = c.within; kin = ap all_wide (sym f) ∙ c.kin }),
)

pub not_there : {A B : Type 0} (r : Bool) → (IsTrue r ↔ A) → r ≡ false → (B → A) → IsTrue false ↔ B
not_there r f e g = (λ h. absurd (true≢false (sym h)), λ c. absurd (true≢false (sym (f.1 (g c)) ∙ e)))

pub no_more_parts : (b : Nodes) (ss : List SortId) (ts : List TermId) (r : Bool) → length ss < 1 → r ≡ nat_eq (length ts) 0 → IsTrue r ↔ AreParts b ss ts
no_more_parts b [] [] r l e = (λ q. no_parts b, λ c. e)
no_more_parts b [] (t ∷ ts) r l e = (λ q. absurd (longer (length ts) (same_nat (suc (length ts)) 0 (sym e ∙ q))), λ c. absurd (fewer_parts b t ts c))
  where
    longer : (k : ℕ) → suc k ≡ 0 → ⊥
    longer k e = omega arith
no_more_parts b (s ∷ ss) ts r l e = absurd (omega (arith, l))
