-- What a bank meets is kept as it grows.
use Rattle.std.proofs.Common.{ℕ, suc, ◌+◌, ◌<◌, List, [], ◌∷◌, ◌++◌, ◌≡◌, ◌⊎◌, inl, inr, length, slice_get, Some, refl, sym, ap, ap₂, ◌∙◌, subst, length-append, take, take_all, arith}
use Rattle.std.proofs.lemmas.List.{get_or_append_left, get_or_push, take_at, take-take}
use Rattle.sv_term.specs.Sorts.{Sort, NumSort, BoolSort, ArrSort, TupSort, Sorts, is_num, is_array, is_tuple, element, parts, count}
use Rattle.sv_term.specs.Sorts as d
use Rattle.sv_term.specs.Terms.{Term, sort_of, sorts_of}
use Rattle.sv_term.specs.Terms as t
use Rattle.sv_term.specs.Banks.{Nodes, SortRow, NumRow, BoolRow, ArrRow, TupRow, sort_in, term_in, sort_by, term_by, sorts_from, terms_from, sort, term, tree, sort_tree, IsSort, AreSorts, IsTerm, AreTerms, sorts_named, args, sort_parts, wide, all_wide, kind_of, IsNumber, IsBool, IsArray, AreKin, IsElement, FillsSort, ArePartsOf, HasPart, IsSummed, Fits, SortFits, Keeps, Stands, IsKind, IsPlaced, IsPlacedSort, AllDiffer, IsSound, KindsAre}
use Rattle.sv_term.specs.declared.node.SortId.{SortId}
use Rattle.sv_term.specs.declared.node.TermId.{TermId}
use Rattle.sv_term.specs.declared.node.Node.{Node}
use Rattle.sv_term.specs.declared.node.Node.TheVariants as n
use Rattle.sv_term.proofs.BankLists.{of_push, within_get, here, lists_within, lists_kept, sorts_within, sorts_kept}
use Rattle.sv_term.proofs.NodeTrees.{AgreeOn, EachIs, args_same, sort_same, term_same, agree_on, fits_sorts, fits_terms, sort_fits_sorts, are_below, sorts_are_below, each_term, each_sort}

-- ---- lists of trees

length_terms : (ss : List Sort) (ts : List Term) (ns : List Node) → length (terms_from ss ts ns) ≡ length ts + length ns
length_terms ss ts [] = omega arith
length_terms ss ts (x ∷ ns) = omega (arith, length_terms ss (ts ++ term_by (sort_in ss) (term_in ts) x ∷ []) ns, length-append ts (term_by (sort_in ss) (term_in ts) x ∷ []))

terms_push : (ss : List Sort) (ts : List Term) (ns : List Node) (x : Node) → terms_from ss ts (ns ++ x ∷ []) ≡ terms_from ss ts ns ++ term_by (sort_in ss) (term_in (terms_from ss ts ns)) x ∷ []
terms_push ss ts [] x = refl
terms_push ss ts (y ∷ ns) x = terms_push ss (ts ++ term_by (sort_in ss) (term_in ts) y ∷ []) ns x

length_sorts : (ss : List Sort) (xs : List SortRow) → length (sorts_from ss xs) ≡ length ss + length xs
length_sorts ss [] = omega arith
length_sorts ss (x ∷ xs) = omega (arith, length_sorts (ss ++ sort_by (sort_in ss) x ∷ []) xs, length-append ss (sort_by (sort_in ss) x ∷ []))

sorts_push : (ss : List Sort) (xs : List SortRow) (x : SortRow) → sorts_from ss (xs ++ x ∷ []) ≡ sorts_from ss xs ++ sort_by (sort_in (sorts_from ss xs)) x ∷ []
sorts_push ss [] x = refl
sorts_push ss (y ∷ xs) x = sorts_push (ss ++ sort_by (sort_in ss) y ∷ []) xs x

-- ---- from bank to bank

pub keeps_same : (b : Nodes) → Keeps b b
keeps_same b = record {
  nodes = take_all (length b.nodes) b.nodes (omega arith);
  sorts = take_all (length b.sorts) b.sorts (omega arith);
  size = omega arith;
  kinds = omega arith;
  terms = λ k h. refl;
  sort_trees = λ k h. refl;
  within = λ ks h. h;
  lists = λ ks h. refl;
  sorts_within = λ ks h. h;
  sort_lists = λ ks h. refl;
}

pub keeps_on : {a b c : Nodes} → Keeps a b → Keeps b c → Keeps a c
keeps_on {a} {b} {c} h g = record {
  nodes = sym (take-take (length a.nodes) (length b.nodes) c.nodes h.size) ∙ (ap (take (length a.nodes)) g.nodes ∙ h.nodes);
  sorts = sym (take-take (length a.sorts) (length b.sorts) c.sorts h.kinds) ∙ (ap (take (length a.sorts)) g.sorts ∙ h.sorts);
  size = omega (arith, h.size, g.size);
  kinds = omega (arith, h.kinds, g.kinds);
  terms = λ k i. g.terms k (omega (arith, h.size)) ∙ h.terms k i;
  sort_trees = λ k i. g.sort_trees k (omega (arith, h.kinds)) ∙ h.sort_trees k i;
  within = λ ks i. g.within ks (h.within ks i);
  lists = λ ks i. g.lists ks (h.within ks i) ∙ h.lists ks i;
  sorts_within = λ ks i. g.sorts_within ks (h.sorts_within ks i);
  sort_lists = λ ks i. g.sort_lists ks (h.sorts_within ks i) ∙ h.sort_lists ks i;
}

-- ---- what fits goes on to fit, and stands for the same

module _ (a b : Nodes) (h : Keeps a b) where
  pub term_within : (k : TermId) → IsTerm a k → IsTerm b k
  term_within k i = omega (arith, h.size, i)

  pub sort_within : (k : SortId) → IsSort a k → IsSort b k
  sort_within k i = omega (arith, h.kinds, i)

  pub number_kept : (k : TermId) → IsNumber a k → IsNumber b k
  number_kept k i = record { within = term_within k i.within; number = ap kind_of (h.terms k i.within) ∙ i.number }

  pub bool_kept : (k : TermId) → IsBool a k → IsBool b k
  bool_kept k i = record { within = term_within k i.within; truth = ap kind_of (h.terms k i.within) ∙ i.truth }

  pub array_kept : (k : TermId) → IsArray a k → IsArray b k
  array_kept k i = record { within = term_within k i.within; array = ap (λ z. is_array (kind_of z)) (h.terms k i.within) ∙ i.array }

  pub kin_kept : (x y : TermId) → AreKin a x y → AreKin b x y
  kin_kept x y i = record { left = term_within x i.left; right = term_within y i.right; kin = ap kind_of (h.terms x i.left) ∙ (i.kin ∙ sym (ap kind_of (h.terms y i.right))) }

  pub element_kept : (x y : TermId) → IsTerm a x → IsElement a x y → IsElement b x y
  element_kept x y j i = record { within = term_within y i.within; kin = ap (λ z. wide (element (kind_of z))) (h.terms x j) ∙ (i.kin ∙ sym (ap kind_of (h.terms y i.within))) }

  fills_kept : (k : SortId) (v : TermId) → FillsSort a k v → FillsSort b k v
  fills_kept k v i = record {
    sort_within = sort_within k i.sort_within;
    array = ap is_array (h.sort_trees k i.sort_within) ∙ i.array;
    within = term_within v i.within;
    kin = ap (λ z. wide (element z)) (h.sort_trees k i.sort_within) ∙ (i.kin ∙ sym (ap kind_of (h.terms v i.within)));
  }

  agree_terms : (ks : List TermId) → AreTerms a ks → AgreeOn (term b) (term a) ks
  agree_terms ks i = agree_on (IsTerm a) (term b) (term a) h.terms ks (each_term a ks i)

  agree_sorts : (ks : List SortId) → AreSorts a ks → AgreeOn (sort b) (sort a) ks
  agree_sorts ks i = agree_on (IsSort a) (sort b) (sort a) h.sort_trees ks (each_sort a ks i)

  parts_kept : (k : SortId) (ks : List TermId) → ArePartsOf a k ks → ArePartsOf b k ks
  parts_kept k ks i = record {
    sort_within = sort_within k i.sort_within;
    tuple = ap is_tuple (h.sort_trees k i.sort_within) ∙ i.tuple;
    within = h.within ks i.within;
    kin = ap (λ z. all_wide (parts z)) (h.sort_trees k i.sort_within) ∙ (i.kin ∙ sym (ap (λ z. all_wide (sorts_of z)) (args_same (term b) (term a) ks (agree_terms ks i.within))));
  }

  part_kept : (k : ℕ) (x : TermId) → HasPart a k x → HasPart b k x
  part_kept k x i = record {
    within = term_within x i.within;
    tuple = ap (λ z. is_tuple (kind_of z)) (h.terms x i.within) ∙ i.tuple;
    part = subst (λ z. k < count (parts (kind_of z))) (sym (h.terms x i.within)) i.part;
  }

  summed_kept : (x : TermId) → IsSummed a x → IsSummed b x
  summed_kept x i = record {
    within = term_within x i.within;
    array = ap (λ z. is_array (kind_of z)) (h.terms x i.within) ∙ i.array;
    number = ap (λ z. is_num (element (kind_of z))) (h.terms x i.within) ∙ i.number;
  }

  pub fits_kept : (x : Node) → Fits a x → Fits b x
  fits_kept (n.Lit negative m) i = tt
  fits_kept (n.Truth v) i = tt
  fits_kept (n.Var x k) i = sort_within k i
  fits_kept (n.Add x y) i = (number_kept x i.0, number_kept y i.1)
  fits_kept (n.Sub x y) i = (number_kept x i.0, number_kept y i.1)
  fits_kept (n.Mul x y) i = (number_kept x i.0, number_kept y i.1)
  fits_kept (n.Div x y) i = (number_kept x i.0, number_kept y i.1)
  fits_kept (n.Mod x y) i = (number_kept x i.0, number_kept y i.1)
  fits_kept (n.Wrap signed bits x) i = (number_kept x i.0, i.1, i.2)
  fits_kept (n.Le x y) i = (number_kept x i.0, number_kept y i.1)
  fits_kept (n.Eq x y) i = kin_kept x y i
  fits_kept (n.Not p) i = bool_kept p i
  fits_kept (n.And x y) i = (bool_kept x i.0, bool_kept y i.1)
  fits_kept (n.Or x y) i = (bool_kept x i.0, bool_kept y i.1)
  fits_kept (n.Ite c x y) i = (bool_kept c i.0, kin_kept x y i.1)
  fits_kept (n.Sel x y) i = (array_kept x i.0, number_kept y i.1)
  fits_kept (n.Sto x j v) i = (array_kept x i.0, number_kept j i.1, element_kept x v i.0.within i.2)
  fits_kept (n.Const k v) i = fills_kept k v i
  fits_kept (n.Mix k x y) i = (number_kept k i.0, array_kept x i.1, kin_kept x y i.2)
  fits_kept (n.Tup k ks) i = parts_kept k ks i
  fits_kept (n.Get k x) i = part_kept k x i
  fits_kept (n.Sum x) i = summed_kept x i

  pub tree_kept : (x : Node) → Fits a x → tree b x ≡ tree a x
  tree_kept x i = term_same (sort b) (sort a) (term b) (term a) x (agree_sorts (sorts_named x) (fits_sorts a x i)) (agree_terms (args x) (fits_terms a x i))

  pub placed_kept : (k : TermId) (x : Node) → IsTerm a k → IsPlaced a k x → IsPlaced b k x
  placed_kept k x j i = record { above = i.above; fits = fits_kept x i.fits; is = h.terms k j ∙ (i.is ∙ sym (tree_kept x i.fits)) }

  pub sort_fits_kept : (x : SortRow) → SortFits a x → SortFits b x
  sort_fits_kept (NumRow d.Any) i = tt
  sort_fits_kept (NumRow d.Low) i = tt
  sort_fits_kept (NumRow (d.Bits signed bits)) i = i
  sort_fits_kept BoolRow i = tt
  sort_fits_kept (ArrRow k) i = sort_within k i
  sort_fits_kept (TupRow ks) i = h.sorts_within ks i

  pub sort_tree_kept : (x : SortRow) → SortFits a x → sort_tree b x ≡ sort_tree a x
  sort_tree_kept x i = sort_same (sort b) (sort a) x (agree_sorts (sort_parts x) (sort_fits_sorts a x i))

  pub placed_sort_kept : (k : SortId) (x : SortRow) → IsSort a k → IsPlacedSort a k x → IsPlacedSort b k x
  placed_sort_kept k x j i = record { above = i.above; fits = sort_fits_kept x i.fits; is = h.sort_trees k j ∙ (i.is ∙ sym (sort_tree_kept x i.fits)) }

  pub kind_kept : (k : SortId) (s : Sort) → IsKind a k s → IsKind b k s
  kind_kept k s i = record { within = sort_within k i.within; is = h.sort_trees k i.within ∙ i.is }

-- ---- nothing stands twice, with one more that was not there

pub differ_push : {A : Type 0} → (xs : List A) (y : A) → AllDiffer xs → ((j : ℕ) → slice_get xs j ≡ Some y → ⊥) → AllDiffer (xs ++ y ∷ [])
differ_push xs y h absent j k lj lk e = go (of_push xs y j (here_of j lj).0 (here_of j lj).1) (of_push xs y k (here_of j lj).0 (sym e ∙ (here_of j lj).1))
  where
    here_of : (j : ℕ) → j < length (xs ++ y ∷ []) → (x : _) × (slice_get (xs ++ y ∷ []) j ≡ Some x)
    here_of j l = here (xs ++ y ∷ []) j l

    go : ((j < length xs) × (slice_get xs j ≡ Some (here_of j lj).0)) ⊎ ((j ≡ length xs) × ((here_of j lj).0 ≡ y))
        → ((k < length xs) × (slice_get xs k ≡ Some (here_of j lj).0)) ⊎ ((k ≡ length xs) × ((here_of j lj).0 ≡ y)) → j ≡ k
    go (inl a) (inl b) = h j k a.0 b.0 (a.1 ∙ sym b.1)
    go (inl a) (inr b) = absurd (absent j (a.1 ∙ ap Some b.1))
    go (inr a) (inl b) = absurd (absent k (b.1 ∙ ap Some a.1))
    go (inr a) (inr b) = a.0 ∙ sym b.0

-- ---- one more term

module _ (old new : Nodes) (y : Node) (sorts : new.sorts ≡ old.sorts) (nodes : new.nodes ≡ old.nodes ++ y ∷ []) where
  all_terms : terms_from (sorts_from [] new.sorts) [] new.nodes
      ≡ terms_from (sorts_from [] old.sorts) [] old.nodes ++ term_by (sort_in (sorts_from [] old.sorts)) (term_in (terms_from (sorts_from [] old.sorts) [] old.nodes)) y ∷ []
  all_terms = ap₂ (λ ss ns. terms_from (sorts_from [] ss) [] ns) sorts nodes ∙ terms_push (sorts_from [] old.sorts) [] old.nodes y

  added_terms : (k : TermId) → IsTerm old k → term new k ≡ term old k
  unfolding term
  added_terms k h =
      ap (λ ts. term_in ts k) all_terms
      ∙ get_or_append_left (terms_from (sorts_from [] old.sorts) [] old.nodes) _ (t.Truth _) k.0 (omega (arith, length_terms (sorts_from [] old.sorts) [] old.nodes))

  added_sorts : (k : SortId) → sort new k ≡ sort old k
  unfolding sort
  added_sorts k = ap (λ ss. sort_in (sorts_from [] ss) k) sorts

  pub keeps_added : Keeps old new
  keeps_added = record {
    nodes = ap (take (length old.nodes)) nodes ∙ take_at old.nodes (y ∷ []) (length old.nodes) refl;
    sorts = ap (take (length old.sorts)) sorts ∙ take_all (length old.sorts) old.sorts (omega arith);
    size = omega (arith, ap length nodes, length-append old.nodes (y ∷ []));
    kinds = omega (arith, ap length sorts);
    terms = added_terms;
    sort_trees = λ k h. added_sorts k;
    within = lists_within old new (omega (arith, ap length nodes, length-append old.nodes (y ∷ [])));
    lists = lists_kept old new added_terms;
    sorts_within = sorts_within old new (omega (arith, ap length sorts));
    sort_lists = sorts_kept old new (λ k h. added_sorts k);
  }

  built_tree : term_by (sort_in (sorts_from [] old.sorts)) (term_in (terms_from (sorts_from [] old.sorts) [] old.nodes)) y ≡ tree old y
  unfolding sort term
  built_tree = refl

  pub stands_added : (k : TermId) → k.0 ≡ length old.nodes → Stands new k (tree old y)
  unfolding term
  stands_added k e = record {
    within = omega (arith, ap length nodes, length-append old.nodes (y ∷ []));
    is = ap (λ ts. term_in ts k) all_terms
        ∙ (get_or_push (terms_from (sorts_from [] old.sorts) [] old.nodes) _ (t.Truth _) k.0 (omega (arith, length_terms (sorts_from [] old.sorts) [] old.nodes)) ∙ built_tree);
  }

  module _ (fits : Fits old y) (sound : IsSound old) (absent : (j : ℕ) → slice_get old.nodes j ≡ Some y → ⊥) where
    placed : (k : TermId) (x : Node) → ((k.0 < length old.nodes) × (slice_get old.nodes k.0 ≡ Some x)) ⊎ ((k.0 ≡ length old.nodes) × (x ≡ y)) → IsPlaced new k x
    placed k x c =
        elim c [
          | inl l ↦ placed_kept old new keeps_added k x l.0 (sound.nodes k x l.1)
          | inr r ↦ subst (IsPlaced new k) (sym r.1) record {
            above = are_below old k.0 (omega (arith, r.0)) (args y) (fits_terms old y fits);
            fits = fits_kept old new keeps_added y fits;
            is = (stands_added k r.0).is ∙ sym (tree_kept old new keeps_added y fits);
          }
        ]

    pub sound_added : IsSound new
    sound_added = record {
      nodes = λ k x e. placed k x (of_push old.nodes y k.0 x (sym (ap (λ z. slice_get z k.0) nodes) ∙ e));
      sorts = λ k x e. placed_sort_kept old new keeps_added k x (within_get old.sorts k.0 x (sym (ap (λ z. slice_get z k.0) sorts) ∙ e)) (sound.sorts k x (sym (ap (λ z. slice_get z k.0) sorts) ∙ e));
      nodes_differ = subst AllDiffer (sym nodes) (differ_push old.nodes y sound.nodes_differ absent);
      sorts_differ = subst AllDiffer (sym sorts) sound.sorts_differ;
    }

    pub kinds_added : (es fs : List (Node × SortId)) (s : SortId) → fs ≡ es ++ (y, s) ∷ [] → length es ≡ length old.nodes → KindsAre old es → IsKind old s (sort_of (tree old y)) → KindsAre new fs
    kinds_added es fs s made size kinds kind k e at = go (of_push es (y, s) k.0 e (sym (ap (λ z. slice_get z k.0) made) ∙ at))
      where
        go : ((k.0 < length es) × (slice_get es k.0 ≡ Some e)) ⊎ ((k.0 ≡ length es) × (e ≡ (y, s))) → IsKind new e.1 (sort_of (term new k))
        go (inl l) =
            let i = kinds k e l.1 in
            subst (λ z. IsKind new e.1 (sort_of z)) (sym (keeps_added.terms k (omega (arith, l.0, size)))) (kind_kept old new keeps_added e.1 (sort_of (term old k)) i)
        go (inr r) =
            let i = kind_kept old new keeps_added s (sort_of (tree old y)) kind in
            subst (λ z. IsKind new z.1 (sort_of (term new k))) (sym r.1) (subst (λ z. IsKind new s (sort_of z)) (sym (stands_added k (omega (arith, r.0, size))).is) i)

-- ---- one more sort

module _ (ss es : List Sort) where
  longer_at : (k : SortId) → k.0 < length ss → sort_in (ss ++ es) k ≡ sort_in ss k
  longer_at k h = get_or_append_left ss es (NumSort _) k.0 h

  longer : (ts : List Term) (xs : List Node) → EachIs (λ x. EachIs (λ k. k.0 < length ss) (sorts_named x)) xs → terms_from (ss ++ es) ts xs ≡ terms_from ss ts xs
  longer ts [] h = refl
  longer ts (x ∷ xs) h =
      ap (λ u. terms_from (ss ++ es) (ts ++ u ∷ []) xs) (term_same (sort_in (ss ++ es)) (sort_in ss) (term_in ts) (term_in ts) x (agree_on (λ k. k.0 < length ss) (sort_in (ss ++ es)) (sort_in ss) longer_at (sorts_named x) h.0) (own (args x)))
      ∙ longer (ts ++ term_by (sort_in ss) (term_in ts) x ∷ []) xs h.1
    where
      own : (ks : List TermId) → AgreeOn (term_in ts) (term_in ts) ks
      own [] = tt
      own (k ∷ ks) = (refl, own ks)

named_in : (b : Nodes) (m : ℕ) → length b.sorts ≡ m → (xs : List Node) → ((k : ℕ) (x : Node) → slice_get xs k ≡ Some x → Fits b x) → EachIs (λ x. EachIs (λ k. k.0 < m) (sorts_named x)) xs
named_in b m e [] h = tt
named_in b m e (x ∷ xs) h = (go (sorts_named x) (fits_sorts b x (h 0 x refl)), named_in b m e xs (λ j z f. h (suc j) z f))
  where
    go : (ks : List SortId) → AreSorts b ks → EachIs (λ k. k.0 < m) ks
    go [] i = tt
    go (k ∷ ks) i = (omega (arith, e, i.0), go ks i.1)

module _ (old new : Nodes) (y : SortRow) (nodes : new.nodes ≡ old.nodes) (sorts : new.sorts ≡ old.sorts ++ y ∷ []) (fits : SortFits old y) (sound : IsSound old) where
  all_sorts : sorts_from [] new.sorts ≡ sorts_from [] old.sorts ++ sort_by (sort_in (sorts_from [] old.sorts)) y ∷ []
  all_sorts = ap (sorts_from []) sorts ∙ sorts_push [] old.sorts y

  room : length (sorts_from [] old.sorts) ≡ length old.sorts
  room = omega (arith, length_sorts [] old.sorts)

  grown_sorts : (k : SortId) → IsSort old k → sort new k ≡ sort old k
  unfolding sort
  grown_sorts k h = ap (λ ss. sort_in ss k) all_sorts ∙ get_or_append_left (sorts_from [] old.sorts) _ (NumSort _) k.0 (omega (arith, room, h))

  grown_terms : (k : TermId) → term new k ≡ term old k
  unfolding term
  grown_terms k =
      ap (λ ts. term_in ts k)
      (ap₂ (λ ss ns. terms_from ss [] ns) all_sorts nodes
      ∙ longer (sorts_from [] old.sorts) (sort_by (sort_in (sorts_from [] old.sorts)) y ∷ []) [] old.nodes
      (named_in old (length (sorts_from [] old.sorts)) (sym room) old.nodes (λ j z e. (sound.nodes record { 0 = j } z e).fits)))

  pub keeps_sorted : Keeps old new
  keeps_sorted = record {
    nodes = ap (take (length old.nodes)) nodes ∙ take_all (length old.nodes) old.nodes (omega arith);
    sorts = ap (take (length old.sorts)) sorts ∙ take_at old.sorts (y ∷ []) (length old.sorts) refl;
    size = omega (arith, ap length nodes);
    kinds = omega (arith, ap length sorts, length-append old.sorts (y ∷ []));
    terms = λ k h. grown_terms k;
    sort_trees = grown_sorts;
    within = lists_within old new (omega (arith, ap length nodes));
    lists = lists_kept old new (λ k h. grown_terms k);
    sorts_within = sorts_within old new (omega (arith, ap length sorts, length-append old.sorts (y ∷ [])));
    sort_lists = sorts_kept old new grown_sorts;
  }

  built_kind : sort_by (sort_in (sorts_from [] old.sorts)) y ≡ sort_tree old y
  unfolding sort
  built_kind = refl

  pub kind_sorted : (k : SortId) → k.0 ≡ length old.sorts → IsKind new k (sort_tree old y)
  unfolding sort
  kind_sorted k e = record {
    within = omega (arith, ap length sorts, length-append old.sorts (y ∷ []));
    is = ap (λ ss. sort_in ss k) all_sorts ∙ (get_or_push (sorts_from [] old.sorts) _ (NumSort _) k.0 (omega (arith, room)) ∙ built_kind);
  }

  placed_sort : (k : SortId) (x : SortRow) → ((k.0 < length old.sorts) × (slice_get old.sorts k.0 ≡ Some x)) ⊎ ((k.0 ≡ length old.sorts) × (x ≡ y)) → IsPlacedSort new k x
  placed_sort k x c =
      elim c [
        | inl l ↦ placed_sort_kept old new keeps_sorted k x l.0 (sound.sorts k x l.1)
        | inr r ↦ subst (IsPlacedSort new k) (sym r.1) record {
          above = sorts_are_below old k.0 (omega (arith, r.0)) (sort_parts y) (sort_fits_sorts old y fits);
          fits = sort_fits_kept old new keeps_sorted y fits;
          is = (kind_sorted k r.0).is ∙ sym (sort_tree_kept old new keeps_sorted y fits);
        }
      ]

  pub sound_sorted : ((j : ℕ) → slice_get old.sorts j ≡ Some y → ⊥) → IsSound new
  sound_sorted absent = record {
    nodes = λ k x e. placed_kept old new keeps_sorted k x (within_get old.nodes k.0 x (sym (ap (λ z. slice_get z k.0) nodes) ∙ e)) (sound.nodes k x (sym (ap (λ z. slice_get z k.0) nodes) ∙ e));
    sorts = λ k x e. placed_sort k x (of_push old.sorts y k.0 x (sym (ap (λ z. slice_get z k.0) sorts) ∙ e));
    nodes_differ = subst AllDiffer (sym nodes) sound.nodes_differ;
    sorts_differ = subst AllDiffer (sym sorts) (differ_push old.sorts y sound.sorts_differ absent);
  }

  pub kinds_sorted : (es : List (Node × SortId)) → length es ≡ length old.nodes → KindsAre old es → KindsAre new es
  kinds_sorted es size kinds k e at =
      let within : IsTerm old k = omega (arith, within_get es k.0 e at, size) in
      subst (λ z. IsKind new e.1 (sort_of z)) (sym (keeps_sorted.terms k within)) (kind_kept old new keeps_sorted e.1 (sort_of (term old k)) (kinds k e at))
