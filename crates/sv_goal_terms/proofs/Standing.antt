-- Where the walk over a condition stands, and what its steps do.
use Rattle.std.proofs.Common.{ℕ, zero, suc, ◌<◌, ◌≤◌, ◌+◌, ◌*◌, ◌≢◌, Bool, true, false, List, [], ◌∷◌, ◌++◌, ◌≡◌, ◌⊎◌, inl, inr, ◌||◌, length, take, set, map, reverse, replicate, slice_get, get_or, Option, Some, None, MatchOption, refl, sym, ap, ◌∙◌, subst, arith, nat_eq}
use Rattle.std.specs.Option.{is_some}
use Rattle.std.specs.List.{list_any, sum_by}
use Rattle.std.proofs.lemmas.List.{get_or-set_same, get_or-set_other, length-set, map-append, reverse-append, length-replicate}
use Rattle.std.proofs.lemmas.List.Sums.{sum_by-set}
use Rattle.sv_term.specs.Terms.{Shape, LitNode, TruthNode, VarNode, AddNode, SubNode, MulNode, DivNode, ModNode, WrapNode, LeNode, EqNode, NotNode, AndNode, OrNode, IteNode, SelNode, StoNode, ConstNode, MixNode, TupNode, GetNode, SumNode, Term, App, Terms, same_term}
use Rattle.sv_term.specs.Sorts.{Sort}
use Rattle.sv_term.specs.Banks.{Nodes, IsTerm, AreTerms, AreBelow, IsPlaced, args, args_by, term_by, sort, term, term_list, tree}
use Rattle.sv_term.specs.declared.node.TermId.{TermId}
use Rattle.sv_term.specs.declared.node.SortId.{SortId}
use Rattle.sv_term.specs.declared.node.Node.{Node}
use Rattle.sv_term.specs.declared.node.Node.TheVariants as n
use Rattle.std.proofs.lemmas.Bool.Decides.{Decides-eqb}
use Rattle.sv_term.proofs.Same.{term_is, term_self}
use Rattle.sv_term.proofs.BankLists.{at_end, of_push, within_get}
use Rattle.sv_log.specs.Logs.{with_terms_of}
use Rattle.sv_goal_terms.specs.GoalNumbers.{Numbered, has_number, HaveNumbers, IsMissing}
use Rattle.sv_goal_terms.specs.declared.walk.Missing.{Missing}
use Rattle.sv_goal_terms.specs.declared.walk.Open.{Open}
use Rattle.sv_goal_terms.proofs.WalkLaws.{has, Has, HasAll, IsComplete, parent_goes_on, ends, complete_more}

-- ---- the tree of a node is its shape over the trees of its arguments

shape_by : (SortId → Sort) → Node → Shape
shape_by f (n.Lit negative m) = LitNode negative m
shape_by f (n.Truth b) = TruthNode b
shape_by f (n.Var x k) = VarNode x (f k)
shape_by f (n.Add a b) = AddNode
shape_by f (n.Sub a b) = SubNode
shape_by f (n.Mul a b) = MulNode
shape_by f (n.Div a b) = DivNode
shape_by f (n.Mod a b) = ModNode
shape_by f (n.Wrap signed bits a) = WrapNode signed bits
shape_by f (n.Le a b) = LeNode
shape_by f (n.Eq a b) = EqNode
shape_by f (n.Not p) = NotNode
shape_by f (n.And p q) = AndNode
shape_by f (n.Or p q) = OrNode
shape_by f (n.Ite c a b) = IteNode
shape_by f (n.Sel a i) = SelNode
shape_by f (n.Sto a i v) = StoNode
shape_by f (n.Const k v) = ConstNode (f k)
shape_by f (n.Mix k a b) = MixNode
shape_by f (n.Tup k ks) = TupNode (f k)
shape_by f (n.Get k a) = GetNode k
shape_by f (n.Sum a) = SumNode

is_app : (f : SortId → Sort) (g : TermId → Term) (x : Node) → (s : Shape) × (term_by f g x ≡ App s (args_by g (args x)))
is_app f g (n.Lit negative m) = (LitNode negative m, refl)
is_app f g (n.Truth b) = (TruthNode b, refl)
is_app f g (n.Var x k) = (VarNode x (f k), refl)
is_app f g (n.Add a b) = (AddNode, refl)
is_app f g (n.Sub a b) = (SubNode, refl)
is_app f g (n.Mul a b) = (MulNode, refl)
is_app f g (n.Div a b) = (DivNode, refl)
is_app f g (n.Mod a b) = (ModNode, refl)
is_app f g (n.Wrap signed bits a) = (WrapNode signed bits, refl)
is_app f g (n.Le a b) = (LeNode, refl)
is_app f g (n.Eq a b) = (EqNode, refl)
is_app f g (n.Not p) = (NotNode, refl)
is_app f g (n.And p q) = (AndNode, refl)
is_app f g (n.Or p q) = (OrNode, refl)
is_app f g (n.Ite c a b) = (IteNode, refl)
is_app f g (n.Sel a i) = (SelNode, refl)
is_app f g (n.Sto a i v) = (StoNode, refl)
is_app f g (n.Const k v) = (ConstNode (f k), refl)
is_app f g (n.Mix k a b) = (MixNode, refl)
is_app f g (n.Tup k ks) = (TupNode (f k), refl)
is_app f g (n.Get k a) = (GetNode k, refl)
is_app f g (n.Sum a) = (SumNode, refl)

-- ---- where the walk stands

abbrev pub begun : TermId → ℕ → Open
begun k n = record { term = k; next = n }

-- the terms whose walk has begun, the innermost first, once they are walked over
abbrev pub finish : Nodes → List Open → List Term → List Term
finish b [] ts = ts
finish b (f ∷ fs) ts = finish b fs (with_terms_of ts (term b f.term))

abbrev pub AreAbove : ℕ → List Open → Type 0
AreAbove k [] = Unit {0}
AreAbove k (f ∷ fs) = (k < f.term.0) × AreAbove k fs

abbrev pub HasFirst : Nodes → List (Option ℕ) → Open → Type 0
HasFirst b ns f = (x : Node) → slice_get b.nodes f.term.0 ≡ Some x → HaveNumbers ns (take f.next (args x))

-- each is a term without a number, inside of those behind it, and its first arguments have numbers
abbrev pub AreOpen : Nodes → List (Option ℕ) → List Open → Type 0
AreOpen b ns [] = Unit {0}
AreOpen b ns (f ∷ fs) = IsTerm b f.term × (has_number ns f.term ≡ false) × HasFirst b ns f × AreAbove f.term.0 fs × AreOpen b ns fs

pub record Standing (b : Nodes) (goal : TermId) (order : List TermId) (ns : List (Option ℕ)) (fs : List Open) : Type 0 where
  pub numbered : Numbered order ns
  pub within : AreTerms b order
  pub size : length ns ≡ length b.nodes
  pub complete : IsComplete (term_list b order)
  pub opened : AreOpen b ns fs
  pub rest : finish b fs (term_list b order) ≡ with_terms_of [] (term b goal)

-- what a bank ensures of each of its numbers
pub record Sound (b : Nodes) : Type 0 where
  pub one : (j k : TermId) → IsTerm b j → IsTerm b k → term b j ≡ term b k → j ≡ k

-- ---- terms that have numbers stand in the list

list_is : (b : Nodes) (ks : List TermId) → term_list b ks ≡ map (term b) ks
unfolding term_list
list_is b ks = refl

id_is : (j k : TermId) → j.0 ≡ k.0 → j ≡ k
id_is j k e = ap (λ (x : ℕ). of_number x) e
  where
    of_number : ℕ → TermId
    of_number x = record { 0 = x }

or_first : (a b : Bool) → a ≡ true → (a || b) ≡ true
or_first true b e = refl
or_first false b e = cc e

or_second : (a b : Bool) → b ≡ true → (a || b) ≡ true
or_second true b e = refl
or_second false b e = e

or_neither : (a b : Bool) → a ≡ false → b ≡ false → (a || b) ≡ false
or_neither true b e f = cc e
or_neither false b e f = f

in_list : (g : TermId → Term) (order : List TermId) (n : ℕ) (k : TermId) → slice_get order n ≡ Some k → Has (map g order) (g k)
in_list g [] n k e = cc e
in_list g (j ∷ order) zero k e =
    let same : j ≡ k = cc e in
    or_first _ _ (ap (λ (i : TermId). same_term (g k) (g i)) same ∙ term_self (g k))
in_list g (j ∷ order) (suc n) k e = or_second _ _ (in_list g order n k e)

not_in_list : (b : Nodes) → Sound b → (order : List TermId) (k : TermId) → AreTerms b order → IsTerm b k → ((n : ℕ) → slice_get order n ≡ Some k → ⊥) → has (map (term b) order) (term b k) ≡ false
not_in_list b s [] k w i none = refl
not_in_list b s (j ∷ order) k w i none = or_neither _ _ (go (same_term (term b k) (term b j)) refl) (not_in_list b s order k w.1 i (λ n e. none (suc n) e))
  where
    go : (c : Bool) → same_term (term b k) (term b j) ≡ c → c ≡ false
    go false e = refl
    go true e = absurd (none 0 (ap Some (sym (s.one k j i w.0 (term_is _ _ e)))))

found : (order : List TermId) (ns : List (Option ℕ)) (k : TermId) → Numbered order ns → has_number ns k ≡ true → (n : ℕ) × (slice_get order n ≡ Some k)
found order ns k h e = go (get_or ns k.0 None) refl e
  where
    go : (o : Option ℕ) → get_or ns k.0 None ≡ o → is_some o ≡ true → (n : ℕ) × (slice_get order n ≡ Some k)
    go None f e = cc e
    go (Some n) f e = (n, h.placed k n f)

have_in : (g : TermId → Term) (order : List TermId) (ns : List (Option ℕ)) → Numbered order ns → (ks : List TermId) → HaveNumbers ns ks → HasAll (map g order) (args_by g ks)
have_in g order ns h [] e = tt
have_in g order ns h (k ∷ ks) e = let f = found order ns k h e.0 in (in_list g order f.0 k f.1, have_in g order ns h ks e.1)

-- ---- one number more

apart : (ns : List (Option ℕ)) (j k : TermId) → has_number ns j ≡ false → (n : ℕ) → get_or ns k.0 None ≡ Some n → k.0 ≢ j.0
apart ns j k e n f q = cc (e, f, q, ap (λ (i : ℕ). is_some (get_or ns i None)) q, ap is_some f)

kept_get : (order : List TermId) (k : TermId) (n : ℕ) (j : TermId) → slice_get order n ≡ Some j → slice_get (order ++ k ∷ []) n ≡ Some j
kept_get [] k n j e = cc e
kept_get (i ∷ order) k zero j e = e
kept_get (i ∷ order) k (suc n) j e = kept_get order k n j e

decide : {A : Type 0} (m n : ℕ) → (m ≡ n → A) → (m ≢ n → A) → A
decide {A = A} m n f g = go (nat_eq m n) refl
  where
    go : (b : Bool) → nat_eq m n ≡ b → A
    go true e = f ((Decides-eqb m n).0 e)
    go false e = g (λ q. cc (e, (Decides-eqb m n).1 q))

module _ (order : List TermId) (ns : List (Option ℕ)) (k : TermId) (room : k.0 < length ns) (lacks : has_number ns k ≡ false) where
  more : List (Option ℕ)
  more = set ns k.0 (Some (length order))

  pub numbered_more : Numbered order ns → Numbered (order ++ k ∷ []) (set ns k.0 (Some (length order)))
  numbered_more h = record {
    placed = λ j n e. decide j.0 k.0
        (λ q. let at : Some (length order) ≡ Some n = sym (get_or-set_same ns k.0 (Some (length order)) None room) ∙ ap (λ (i : ℕ). get_or (set ns k.0 (Some (length order))) i None) (sym q) ∙ e in
        subst (λ (i : TermId). slice_get (order ++ k ∷ []) n ≡ Some i) (sym (id_is j k q)) (at_end order k n (cc at)))
        (λ q. kept_get order k n j (h.placed j n (sym (get_or-set_other ns k.0 j.0 (Some (length order)) None q) ∙ e)));
    named = λ j n e. sides j n (of_push order k n j e);
  }
    where
      sides : (j : TermId) (n : ℕ) → ((n < length order) × (slice_get order n ≡ Some j)) ⊎ ((n ≡ length order) × (j ≡ k)) → get_or (set ns k.0 (Some (length order))) j.0 None ≡ Some n
      sides j n (inl l) = get_or-set_other ns k.0 j.0 (Some (length order)) None (apart ns k j lacks n (h.named j n l.1)) ∙ h.named j n l.1
      sides j n (inr r) = ap (λ (i : TermId). get_or (set ns k.0 (Some (length order))) i.0 None) r.1 ∙ get_or-set_same ns k.0 (Some (length order)) None room ∙ ap Some (sym r.0)

  pub have_kept : (ks : List TermId) → HaveNumbers ns ks → HaveNumbers (set ns k.0 (Some (length order))) ks
  have_kept [] h = tt
  have_kept (j ∷ ks) h = (
    decide j.0 k.0
        (λ q. ap is_some (ap (λ (i : ℕ). get_or (set ns k.0 (Some (length order))) i None) q ∙ get_or-set_same ns k.0 (Some (length order)) None room))
        (λ q. ap is_some (get_or-set_other ns k.0 j.0 (Some (length order)) None q) ∙ h.0),
    have_kept ks h.1,
  )

  pub open_kept : (b : Nodes) (fs : List Open) → AreAbove k.0 fs → AreOpen b ns fs → AreOpen b (set ns k.0 (Some (length order))) fs
  open_kept b [] a o = tt
  open_kept b (f ∷ fs) a o = (
    o.0,
    ap is_some (get_or-set_other ns k.0 f.term.0 (Some (length order)) None (let l = a.0 in omega (arith, l))) ∙ o.1,
    λ x e. have_kept (take f.next (args x)) (o.2 x e),
    o.3,
    open_kept b fs a.1 o.4,
  )

-- ---- the measure

abbrev pub lacking : Option ℕ → ℕ
lacking None = 1
lacking (Some n) = 0

abbrev pub innermost : List Open → ℕ
innermost [] = 0
innermost (f ∷ fs) = suc f.term.0

abbrev pub left : List (Option ℕ) → List Open → ℕ
left ns fs = sum_by lacking ns * suc (length ns) + innermost fs

plus_none : (m : ℕ) → m + 0 ≡ m
plus_none m = omega arith

one_less : (ns : List (Option ℕ)) (k n : ℕ) → k < length ns → is_some (get_or ns k None) ≡ false → sum_by lacking (set ns k (Some n)) + 1 ≡ sum_by lacking ns
one_less ns k n l e = go (get_or ns k None) refl e
  where
    go : (o : Option ℕ) → get_or ns k None ≡ o → is_some o ≡ false → sum_by lacking (set ns k (Some n)) + 1 ≡ sum_by lacking ns
    go (Some m) q e = cc e
    go None q e = let s = sum_by-set lacking ns k (Some n) None l in ap (λ o. sum_by lacking (set ns k (Some n)) + lacking o) (sym q) ∙ s ∙ plus_none (sum_by lacking ns)

less_left : (a c l t u : ℕ) → a + 1 ≡ c → t ≤ l → a * suc l + t < c * suc l + suc u
less_left a c l t u e h = subst (λ (m : ℕ). a * suc l + t < m * suc l + suc u) e (grind arith)

-- ---- the steps

module _ (b : Nodes) (goal : TermId) (sound : Sound b) (order : List TermId) (ns : List (Option ℕ)) (f : Open) (fs : List Open) (x : Node)
    (st : Standing b goal order ns (f ∷ fs)) (at : slice_get b.nodes f.term.0 ≡ Some x) (p : IsPlaced b f.term x) where
  is_tree : (s : Shape) × (term b f.term ≡ App s (args_by (term b) (args x)))
  is_tree = let a = is_app (sort b) (term b) x in (a.0, p.is ∙ a.1)

  below_arg : (ks : List TermId) (n : ℕ) (k : TermId) → AreBelow f.term.0 ks → slice_get ks n ≡ Some k → k.0 < f.term.0
  below_arg [] n k h e = cc e
  below_arg (j ∷ ks) zero k h e = let same : j ≡ k = cc e in subst (λ (i : TermId). i.0 < f.term.0) same h.0
  below_arg (j ∷ ks) (suc n) k h e = below_arg ks n k h.1 e

  above_arg : (k : TermId) → k.0 < f.term.0 → (gs : List Open) → AreAbove f.term.0 gs → AreAbove k.0 gs
  above_arg k l [] h = tt
  above_arg k l (g ∷ gs) h = (let m = h.0 in omega (arith, l, m), above_arg k l gs h.1)

  only : (y : Node) → slice_get b.nodes f.term.0 ≡ Some y → x ≡ y
  only y e = cc (at, e)

  all_in : (ks : List TermId) → HaveNumbers ns ks → HasAll (term_list b order) (args_by (term b) ks)
  all_in ks h = subst (λ l. HasAll l (args_by (term b) ks)) (sym (list_is b order)) (have_in (term b) order ns st.numbered ks h)

  pub push_step : (m : Missing) → IsMissing ns (args x) m → Standing b goal order ns (begun m.arg 0 ∷ begun f.term m.place ∷ fs)
  push_step m h =
      let less = below_arg (args x) m.place m.arg p.above h.is in
      record {
        numbered = st.numbered;
        within = st.within;
        size = st.size;
        complete = st.complete;
        opened = (
          let l = st.opened.0 in omega (arith, l, less),
          h.lacks,
          λ y e. tt,
          (less, above_arg m.arg less fs st.opened.3),
          (st.opened.0, st.opened.1, λ y e. subst (λ (z : Node). HaveNumbers ns (take m.place (args z))) (only y e) h.before, st.opened.3, st.opened.4),
        );
        rest = ap (finish b fs)
            (ap (with_terms_of (with_terms_of (term_list b order) (term b m.arg))) is_tree.1
            ∙ parent_goes_on (term b) (term_list b order) is_tree.0 (args x) m.place m.arg st.complete (all_in (take m.place (args x)) h.before) h.is
            ∙ ap (with_terms_of (term_list b order)) (sym is_tree.1))
            ∙ st.rest;
      }

  pub push_less : (m : Missing) → IsMissing ns (args x) m → left ns (begun m.arg 0 ∷ begun f.term m.place ∷ fs) < left ns (f ∷ fs)
  push_less m h = let less = below_arg (args x) m.place m.arg p.above h.is in omega (arith, less)

  missing_numbers : has (map (term b) order) (term b f.term) ≡ false
  missing_numbers = not_in_list b sound order f.term st.within st.opened.0 (λ n e. cc (st.opened.1, ap is_some (st.numbered.named f.term n e)))

  fits_room : f.term.0 < length ns
  fits_room = let l = st.opened.0 in let s = st.size in omega (arith, l, s)

  pushed : term_list b (order ++ f.term ∷ []) ≡ term_list b order ++ term b f.term ∷ []
  pushed = list_is b (order ++ f.term ∷ []) ∙ map-append (term b) order (f.term ∷ []) ∙ ap (λ l. l ++ term b f.term ∷ []) (sym (list_is b order))

  within_more : (ks : List TermId) → AreTerms b ks → AreTerms b (ks ++ f.term ∷ [])
  within_more [] h = (st.opened.0, tt)
  within_more (k ∷ ks) h = (h.0, within_more ks h.1)

  pub end_step : HaveNumbers ns (args x) → Standing b goal (order ++ f.term ∷ []) (set ns f.term.0 (Some (length order))) fs
  end_step h =
      let ended : with_terms_of (term_list b order) (term b f.term) ≡ term_list b order ++ term b f.term ∷ [] =
      ap (with_terms_of (term_list b order)) is_tree.1
      ∙ ends (term b) (term_list b order) is_tree.0 (args_by (term b) (args x)) st.complete (all_in (args x) h)
      (ap (has (term_list b order)) (sym is_tree.1) ∙ ap (λ l. has l (term b f.term)) (list_is b order) ∙ missing_numbers)
      ∙ ap (λ t. term_list b order ++ t ∷ []) (sym is_tree.1) in
      record {
        numbered = numbered_more order ns f.term fits_room st.opened.1 st.numbered;
        within = within_more order st.within;
        size = length-set ns f.term.0 (Some (length order)) ∙ st.size;
        complete = subst (λ l. IsComplete l) (ap (λ t. term_list b order ++ t ∷ []) (sym is_tree.1) ∙ sym pushed)
            (complete_more (term_list b order) is_tree.0 (args_by (term b) (args x)) st.complete (all_in (args x) h));
        opened = open_kept order ns f.term fits_room st.opened.1 b fs st.opened.3 st.opened.4;
        rest = ap (finish b fs) (pushed ∙ sym ended) ∙ st.rest;
      }

  pub end_less : left (set ns f.term.0 (Some (length order))) fs < left ns (f ∷ fs)
  end_less = let size = length-set ns f.term.0 (Some (length order)) in
      subst (λ (l : ℕ). sum_by lacking (set ns f.term.0 (Some (length order))) * suc l + innermost fs < left ns (f ∷ fs)) (sym size)
      (less_left _ _ (length ns) (innermost fs) f.term.0 (one_less ns f.term.0 (length order) fits_room st.opened.1) (low fs st.opened.4))
    where
      low : (gs : List Open) → AreOpen b ns gs → innermost gs ≤ length ns
      low [] h = omega arith
      low (g ∷ gs) h = let l = h.0 in let s = st.size in omega (arith, l, s)

-- ---- the beginning and the end

starts : (b : Nodes) (goal : TermId) (ns : List (Option ℕ)) → IsTerm b goal → length ns ≡ length b.nodes → ((k : ℕ) → get_or ns k None ≡ None) → Standing b goal [] ns (begun goal 0 ∷ [])
starts b goal ns i size none = record {
  numbered = record { placed = λ k n e. cc (e, none k.0); named = λ k n e. cc e };
  within = tt;
  size = size;
  complete = subst (λ l. IsComplete l) (sym (list_is b [])) (λ x us h. cc h);
  opened = (i, ap is_some (none goal.0), λ x e. tt, tt, tt);
  rest = ap (λ l. with_terms_of l (term b goal)) (list_is b []);
}

pub is_done : (b : Nodes) (goal : TermId) (order : List TermId) (ns : List (Option ℕ)) → Standing b goal order ns [] → term_list b order ≡ with_terms_of [] (term b goal)
is_done b goal order ns st = st.rest

-- ---- the list in the order in which it was put

pub last_first : (items init : List Open) (f : Open) → items ≡ init ++ f ∷ [] → reverse items ≡ f ∷ reverse init
last_first items init f e = ap reverse e ∙ reverse-append init (f ∷ [])

pub below_room : (k m : ℕ) (ks : List TermId) → k ≤ m → AreBelow k ks → AreBelow m ks
below_room k m [] l h = tt
below_room k m (j ∷ ks) l h = (let i = h.0 in omega (arith, i, l), below_room k m ks l h.1)

pub none_there : (n k : ℕ) → get_or {A = Option ℕ} (replicate n None) k None ≡ None
none_there zero k = refl
none_there (suc n) zero = refl
none_there (suc n) (suc k) = none_there n k

pub as_length : (ns : List (Option ℕ)) (n m : ℕ) → ns ≡ replicate n None → n ≡ m → length ns ≡ m
as_length ns n m e f = ap length e ∙ length-replicate n None ∙ f

-- the steps of the loop, over the list in the order in which it was put
module _ (b : Nodes) (goal : TermId) (one : (j k : TermId) → IsTerm b j → IsTerm b k → term b j ≡ term b k → j ≡ k) (order : List TermId) (ns : List (Option ℕ)) (items init : List Open) (f : Open) (x : Node)
    (st : Standing b goal order ns (reverse items)) (e : items ≡ init ++ f ∷ []) (at : slice_get b.nodes f.term.0 ≡ Some x) (p : IsPlaced b f.term x) where
  front : reverse items ≡ f ∷ reverse init
  front = last_first items init f e

  here : Standing b goal order ns (f ∷ reverse init)
  here = subst (λ (l : List Open). Standing b goal order ns l) front st

  pub place_there : AreBelow (length ns) (args x)
  place_there = let l = here.opened.0 in let s = here.size in below_room f.term.0 (length ns) (args x) (omega (arith, l, s)) p.above

  module _ (m : Missing) (h : IsMissing ns (args x) m) (mid new : List Open) (e1 : mid ≡ init ++ begun f.term m.place ∷ []) (e2 : new ≡ mid ++ begun m.arg 0 ∷ []) where
    new_front : reverse new ≡ begun m.arg 0 ∷ begun f.term m.place ∷ reverse init
    new_front = last_first new mid (begun m.arg 0) e2 ∙ ap (λ (l : List Open). begun m.arg 0 ∷ l) (last_first mid init (begun f.term m.place) e1)

    pub pushes : Standing b goal order ns (reverse new)
    pushes = subst (λ (l : List Open). Standing b goal order ns l) (sym new_front) (push_step b goal (record { one = one }) order ns f (reverse init) x here at p m h)

    pub pushes_less : left ns (reverse new) < left ns (reverse items)
    pushes_less = subst (λ (l : List Open). left ns l < left ns (reverse items)) (sym new_front)
        (subst (λ (l : List Open). left ns (begun m.arg 0 ∷ begun f.term m.place ∷ reverse init) < left ns l) (sym front)
        (push_less b goal (record { one = one }) order ns f (reverse init) x here at p m h))

  module _ (h : HaveNumbers ns (args x)) (n : ℕ) (order2 : List TermId) (is_length : n ≡ length order) (put : order2 ≡ order ++ f.term ∷ []) where
    pub finishes : Standing b goal order2 (set ns f.term.0 (Some n)) (reverse init)
    finishes = subst (λ (l : List TermId). Standing b goal l (set ns f.term.0 (Some n)) (reverse init)) (sym put)
        (subst (λ (i : ℕ). Standing b goal (order ++ f.term ∷ []) (set ns f.term.0 (Some i)) (reverse init)) (sym is_length)
        (end_step b goal (record { one = one }) order ns f (reverse init) x here at p h))

    pub finishes_less : left (set ns f.term.0 (Some n)) (reverse init) < left ns (reverse items)
    finishes_less = subst (λ (i : ℕ). left (set ns f.term.0 (Some i)) (reverse init) < left ns (reverse items)) (sym is_length)
        (subst (λ (l : List Open). left (set ns f.term.0 (Some (length order))) (reverse init) < left ns l) (sym front)
        (end_less b goal (record { one = one }) order ns f (reverse init) x here at p))

pub begins : (b : Nodes) (goal : TermId) (order : List TermId) (ns : List (Option ℕ)) (items : List Open) → IsTerm b goal → length ns ≡ length b.nodes
    → ((k : ℕ) → get_or ns k None ≡ None) → order ≡ [] → items ≡ begun goal 0 ∷ [] → Standing b goal order ns (reverse items)
begins b goal order ns items i size none e f =
    subst (λ (l : List TermId). Standing b goal l ns (reverse items)) (sym e)
    (subst (λ (l : List Open). Standing b goal [] ns l) (sym (ap reverse f)) (starts b goal ns i size none))
