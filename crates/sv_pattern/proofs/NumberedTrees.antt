-- Lists of numbers and the trees that they stand for.
use Rattle.std.proofs.Common.{Option, Some, None, ℕ, zero, suc, ◌+◌, ◌<◌, ◌≤◌, Bool, true, false, ◌&&◌, nat_lt, List, [], ◌∷◌, ◌++◌, ◌≡◌, ◌↔◌, IsTrue, nat_eq, length, map, slice_get, refl, sym, ap, ap₂, ◌∙◌, subst, arith}
use Rattle.std.specs.Option.{option_map}
use Rattle.std.specs.List.{All}
use Rattle.std.proofs.lemmas.Option.{slice_get-map, slice_get_within, slice_get-get_or, get_or_from_slice_get, none-some, same_Some}
use Rattle.std.proofs.lemmas.Bool.Decides.{Decides-ltb, Decides-eqb}
use Rattle.std.proofs.lemmas.List.Elements.{All-weaker}
use Rattle.sv_term.specs.Sorts.{Sort, Sorts, NoSorts, SortAnd, parts, count, all_match, matches, is_tuple, is_sort}
use Rattle.sv_term.specs.Terms.{Shape, LitNode, TruthNode, VarNode, AddNode, SubNode, MulNode, DivNode, ModNode, WrapNode, LeNode, EqNode, NotNode, AndNode, OrNode, IteNode, SelNode, StoNode, ConstNode, MixNode, SumNode, Term, App, Terms, End, More, Tup, Get, Truth, TupNode, GetNode, sort_of, sorts_of, fits, all_fit, fits_node, term_at}
use Rattle.sv_term.specs.FactRules.{size}
use Rattle.sv_term.proofs.Same.{both_true}
use Rattle.sv_log.specs.Logs.{nth_term, nth_terms}
use Rattle.sv_term.specs.FactRuleTest.{shape_of, args_of}
use Rattle.sv_pattern.specs.TermKinds.{shape_by, kind_of, HasArgs, AreApart}
use Rattle.sv_pattern.specs.Patterns.{AreRelated, trees_by}
use Rattle.sv_pattern.specs.NodeOpenings.{AreBelow, IsArgument, HasOnly, HasNotOne, IsOpened, IsNotOpened}
use Rattle.sv_pattern.specs.declared.numbers.Name.{Name}
use Rattle.sv_pattern.specs.declared.numbers.Name.TheVariants as n
use Rattle.sv_pattern.specs.declared.numbers.Kind.TheVariants as k
use Rattle.sv_pattern.specs.declared.step.Relation.TheVariants.{IsPart}

pub same_back : {A : Type 0} (xs ys zs : List A) → xs ++ ys ≡ xs ++ zs → ys ≡ zs
same_back [] ys zs e = e
same_back (x ∷ xs) ys zs e = same_back xs ys zs (cc e)

pub nth_size : (ts : List Term) (ns : List ℕ) → size (nth_terms ts ns) ≡ length ns
nth_size ts [] = refl
nth_size ts (n ∷ ns) = ap suc (nth_size ts ns)

pub named_at : (ts : List Term) (ns : List ℕ) (k n : ℕ) → slice_get ns k ≡ Some n → slice_get (trees_by ts ns) k ≡ Some (nth_term ts n)
named_at ts ns k n e = slice_get-map (nth_term ts) ns k ∙ ap (λ x. option_map (nth_term ts) x) e

pub named_none : (ts : List Term) (ns : List ℕ) (k : ℕ) → slice_get ns k ≡ None → slice_get (trees_by ts ns) k ≡ None
named_none ts ns k e = slice_get-map (nth_term ts) ns k ∙ ap (λ x. option_map (nth_term ts) x) e

pub trees_added : (ts : List Term) (ns ms : List ℕ) → trees_by ts (ns ++ ms) ≡ trees_by ts ns ++ trees_by ts ms
trees_added ts [] ms = refl
trees_added ts (n ∷ ns) ms = ap (λ x. nth_term ts n ∷ x) (trees_added ts ns ms)

pub below_named : (ts : List Term) (ns : List ℕ) (k n : ℕ) → AreBelow ts ns → slice_get ns k ≡ Some n → n < length ts
below_named ts ns k n b e = subst (λ j. j < length ts) (get_or_from_slice_get ns k n n e) (b k n (slice_get_within ns k n e))

-- ---- arguments

pub argument_at : (ts : List Term) (ns : List ℕ) (k n : ℕ) → slice_get ns k ≡ Some n → (k < size (nth_terms ts ns)) × (term_at k (nth_terms ts ns) ≡ nth_term ts n)
argument_at ts [] k n e = absurd (none-some n e)
argument_at ts (m ∷ ns) zero n e = let s : m ≡ n = same_Some m n e in (omega arith, ap (nth_term ts) s)
argument_at ts (m ∷ ns) (suc k) n e = let r = argument_at ts ns k n e in (omega (arith, r.0), r.1)

pub no_argument : (ts : List Term) (ns : List ℕ) (k : ℕ) → slice_get ns k ≡ None → k < size (nth_terms ts ns) → ⊥
no_argument ts [] k e l = omega (arith, l)
no_argument ts (m ∷ ns) zero e l = cc e
no_argument ts (m ∷ ns) (suc k) e l = no_argument ts ns k e (omega (arith, l))

-- ---- a part that is read is there

all_counted : (ss : Sorts) (us : Terms) → all_match ss (sorts_of us) ≡ true → count ss ≡ size us
all_counted NoSorts End e = refl
all_counted (SortAnd s ss) (More u us) e = ap suc (all_counted ss us (both_true _ _ e).1)
all_counted NoSorts (More u us) e = cc e
all_counted (SortAnd s ss) End e = cc e

pub part_within : (k : ℕ) (s : Sort) (us : Terms) → fits (Get k (Tup s us)) ≡ true → k < size us
part_within k s us e =
    let g = both_true (all_fit (More (Tup s us) End)) (is_tuple s && nat_lt k (count (parts s))) e in
    let tuple = both_true (fits (Tup s us)) true g.0 in
    let inner = both_true (all_fit us) ((is_tuple s && is_sort s) && all_match (parts s) (sorts_of us)) tuple.0 in
    let all = both_true (is_tuple s && is_sort s) (all_match (parts s) (sorts_of us)) inner.1 in
    let l = both_true (is_tuple s) (nat_lt k (count (parts s))) g.1 in
    let below : k < count (parts s) = (Decides-ltb k (count (parts s))).0 l.1 in
    let same : count (parts s) ≡ size us = all_counted (parts s) us all.1 in
    omega (arith, below, same)

-- ---- nodes

pub node_is : (t : Term) (x : Shape) (us : Terms) → shape_of t ≡ x → args_of t ≡ us → t ≡ App x us
node_is (App y vs) x us e f = ap₂ App e f

module _ (ts : List Term) where
  pub opened : (ns new args : List ℕ) (k m : ℕ) (x : Name) (count : ℕ) → m < length ts → slice_get ns k ≡ Some m → shape_of (nth_term ts m) ≡ shape_by x → HasArgs ts m args → length args ≡ count → new ≡ ns ++ args → IsOpened ts ns k x count new
  opened ns new args k m x count w e s h l a = record {
    n = m;
    args = args;
    there = e;
    is = node_is (nth_term ts m) (shape_by x) (nth_terms ts args) s h.trees;
    counted = l;
    below = All-weaker (λ j. j < m) (λ j. j < length ts) (λ j b. omega (arith, b, w)) args h.below;
    added = a;
  }

  pub miscounted : (ns args : List ℕ) (k m : ℕ) (x : Name) (count : ℕ) → slice_get ns k ≡ Some m → HasArgs ts m args → (length args ≡ count → ⊥) → IsNotOpened ts ns k x count
  miscounted ns args k m x count e h l = record {
    none = λ us there sized.
        let own : nth_term ts m ≡ App (shape_by x) us = same_Some _ _ (sym (named_at ts ns k m e) ∙ there) in
        let args_are : nth_terms ts args ≡ us = sym h.trees ∙ ap args_of own in
        l (sym (nth_size ts args) ∙ (ap size args_are ∙ sized));
  }

  -- ---- one argument, and the k-th

  pub only_is : (args : List ℕ) (m t : ℕ) → m < length ts → HasArgs ts m args → length args ≡ 1 → slice_get args 0 ≡ Some t → HasOnly ts m t
  only_is [] m t w h l e = absurd (omega (arith, l))
  only_is (a ∷ []) m t w h l e =
      let same : a ≡ t = same_Some a t e in
      record {
        within = let b = h.below 0 0 (omega arith) in subst (λ j. j < length ts) same (omega (arith, b, w));
        is = h.trees ∙ ap (λ j. More (nth_term ts j) End) same;
      }
  only_is (a ∷ b ∷ args) m t w h l e = absurd (omega (arith, l))

  pub not_only : (args : List ℕ) (m : ℕ) → HasArgs ts m args → (length args ≡ 1 → ⊥) → HasNotOne (nth_term ts m)
  not_only args m h l = record { none = λ u e. l (sym (nth_size ts args) ∙ ap size (sym h.trees ∙ e)) }

  below_at : (args : List ℕ) (t k own : ℕ) → HasArgs ts t args → slice_get args k ≡ Some own → own < t
  below_at args t k own h e = subst (λ j. j < t) (get_or_from_slice_get args k own own e) (h.below k own (slice_get_within args k own e))

  pub argument_some : AreApart ts → (args : List ℕ) (t k n own : ℕ) → t < length ts → n < length ts → HasArgs ts t args → slice_get args k ≡ Some own → IsTrue (nat_eq own n) ↔ IsArgument ts t k n
  argument_some apart args t k n own w v h e =
      let r = argument_at ts args k own e in
      let sizes : size (args_of (nth_term ts t)) ≡ size (nth_terms ts args) = ap size h.trees in
      let reads : term_at k (args_of (nth_term ts t)) ≡ nth_term ts own = ap (term_at k) h.trees ∙ r.1 in
      let b = below_at args t k own h e in (
        λ s. record { within = omega (arith, sizes, r.0); is = reads ∙ ap (nth_term ts) ((Decides-eqb own n).0 s) },
        λ i. (Decides-eqb own n).1 (apart own n (omega (arith, b, w)) v (sym reads ∙ i.is)),
      )

  pub argument_none : (args : List ℕ) (t k n : ℕ) → HasArgs ts t args → slice_get args k ≡ None → IsArgument ts t k n → ⊥
  argument_none args t k n h e i = no_argument ts args k e (let s : size (args_of (nth_term ts t)) ≡ size (nth_terms ts args) = ap size h.trees in omega (arith, s, i.within))

-- ---- kinds

pub get_kind : (x : Shape) (j : ℕ) → kind_of x ≡ k.Get j → x ≡ GetNode j
get_kind (GetNode i) j e = let s : i ≡ j = cc e in ap GetNode s
get_kind (LitNode g m) j e = cc e
get_kind (TruthNode b) j e = cc e
get_kind (VarNode m s) j e = cc e
get_kind AddNode j e = cc e
get_kind SubNode j e = cc e
get_kind MulNode j e = cc e
get_kind DivNode j e = cc e
get_kind ModNode j e = cc e
get_kind (WrapNode g m) j e = cc e
get_kind LeNode j e = cc e
get_kind EqNode j e = cc e
get_kind NotNode j e = cc e
get_kind AndNode j e = cc e
get_kind OrNode j e = cc e
get_kind IteNode j e = cc e
get_kind SelNode j e = cc e
get_kind StoNode j e = cc e
get_kind (ConstNode s) j e = cc e
get_kind MixNode j e = cc e
get_kind (TupNode s) j e = cc e
get_kind SumNode j e = cc e

pub tup_kind : (x : Shape) → kind_of x ≡ k.Tup → (s : Sort) × (x ≡ TupNode s)
tup_kind (TupNode s) e = (s, refl)
tup_kind (LitNode g m) e = cc e
tup_kind (TruthNode b) e = cc e
tup_kind (VarNode m s) e = cc e
tup_kind AddNode e = cc e
tup_kind SubNode e = cc e
tup_kind MulNode e = cc e
tup_kind DivNode e = cc e
tup_kind ModNode e = cc e
tup_kind (WrapNode g m) e = cc e
tup_kind LeNode e = cc e
tup_kind EqNode e = cc e
tup_kind NotNode e = cc e
tup_kind AndNode e = cc e
tup_kind OrNode e = cc e
tup_kind IteNode e = cc e
tup_kind SelNode e = cc e
tup_kind StoNode e = cc e
tup_kind (ConstNode s) e = cc e
tup_kind MixNode e = cc e
tup_kind (GetNode j) e = cc e
tup_kind SumNode e = cc e

pub part_is : (ts : List Term) (m n t j : ℕ) (r : Bool) → kind_of (shape_of (nth_term ts m)) ≡ k.Get j → HasOnly ts m t → kind_of (shape_of (nth_term ts t)) ≡ k.Tup → fits (nth_term ts m) ≡ true
    → IsTrue r ↔ IsArgument ts t j n → IsTrue r ↔ AreRelated IsPart (nth_term ts m) (nth_term ts n)
part_is ts m n t j r e h q fit both =
    let tuple = tup_kind (shape_of (nth_term ts t)) q in
    let own : nth_term ts t ≡ Tup tuple.0 (args_of (nth_term ts t)) = node_is (nth_term ts t) (TupNode tuple.0) (args_of (nth_term ts t)) tuple.1 refl in
    let outer : nth_term ts m ≡ Get j (nth_term ts t) = node_is (nth_term ts m) (GetNode j) (More (nth_term ts t) End) (get_kind (shape_of (nth_term ts m)) j e) h.is in
    let whole : nth_term ts m ≡ Get j (Tup tuple.0 (args_of (nth_term ts t))) = outer ∙ ap (λ u. Get j u) own in (
      λ s. (j, tuple.0, args_of (nth_term ts t), whole, sym (both.0 s).is),
      λ i.
          let parts_same : Get i.0 (Tup i.1 i.2) ≡ Get j (nth_term ts t) = sym i.3 ∙ outer in
          let index : i.0 ≡ j = cc parts_same in
          let inner : Tup i.1 i.2 ≡ nth_term ts t = cc parts_same in
          let args_same : i.2 ≡ args_of (nth_term ts t) = ap args_of inner in
          let w : i.0 < size i.2 = part_within i.0 i.1 i.2 (ap fits (sym i.3) ∙ fit) in
          both.1 (record {
            within = let z : size i.2 ≡ size (args_of (nth_term ts t)) = ap size args_same in omega (arith, w, index, z);
            is = ap₂ (λ x us. term_at x us) (sym index) (sym args_same) ∙ sym i.4;
          }),
    )

pub not_get : (ts : List Term) (m n : ℕ) → ((j : ℕ) → kind_of (shape_of (nth_term ts m)) ≡ k.Get j → ⊥) → AreRelated IsPart (nth_term ts m) (nth_term ts n) → ⊥
not_get ts m n other i = other i.0 (ap (λ t. kind_of (shape_of t)) i.3)
