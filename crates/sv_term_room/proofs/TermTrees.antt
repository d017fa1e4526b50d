-- What rows stand for: at a place, behind a push, with more sorts and with fewer; and that each term has one number.
use Rattle.std.proofs.Common.{Some, ℕ, zero, suc, ◌+◌, ◌<◌, ◌≤◌, true, List, [], ◌∷◌, ◌++◌, ◌≡◌, length, take, drop, get_or, slice_get, refl, sym, ap, ap₂, ◌∙◌, subst, arith}
use Rattle.std.specs.List.{All, Contains}
use Rattle.std.proofs.lemmas.List.{length-append, length-take-le, take-append-drop}
use Rattle.std.proofs.lemmas.List.Elements.{All-push}
use Rattle.std.proofs.lemmas.Option.{slice_get_within, slice_get-get_or, same_Some, none-some}
use Rattle.sv_term.specs.Sorts.{Sort}
use Rattle.sv_term.specs.Terms.{Term, App, Terms, End, More, sort_of, fits}
use Rattle.sv_term.specs.Terms as t
use Rattle.sv_log.specs.Logs.{nth_term, nth_terms}
use Rattle.sv_sort_room.specs.BuiltLists.{built, AreNew}
use Rattle.sv_sort_room.specs.SortCells.{nth_sort}
use Rattle.sv_sort_room.proofs.Building.{contains_at, at_contains, Differ, built_length, built_append, built_take, new_push, new_at, new_differ}
use Rattle.sv_sort_room.proofs.CellTrees as c
use Rattle.sv_term_room.specs.TermRows.{TermNode, term_node, TermRow, term_row, nodes_of, shape_by, tree_by, trees_by, HasSort, AreBelow, IsLow}
use Rattle.sv_term_room.specs.TermKeeping.{IsRow, AreRows}
use Rattle.sv_term_room.specs.declared.shape.Shape.{Shape}
use Rattle.sv_term_room.specs.declared.shape.Shape.TheVariants as s

-- ---- terms of longer lists

pub nth_front : (ts more : List Term) (k : ℕ) → k < length ts → nth_term (ts ++ more) k ≡ nth_term ts k
nth_front [] more k l = absurd (omega (arith, l))
nth_front (x ∷ ts) more zero l = refl
nth_front (x ∷ ts) more (suc k) l = nth_front ts more k (omega (arith, l))

pub get_nth : (ts : List Term) (k : ℕ) → k < length ts → slice_get ts k ≡ Some (nth_term ts k)
get_nth [] k l = absurd (omega (arith, l))
get_nth (x ∷ ts) zero l = refl
get_nth (x ∷ ts) (suc k) l = get_nth ts k (omega (arith, l))

pub nth_got : (ts : List Term) (k : ℕ) (x : Term) → slice_get ts k ≡ Some x → nth_term ts k ≡ x
nth_got [] k x e = absurd (none-some x e)
nth_got (y ∷ ts) zero x e = same_Some y x e
nth_got (y ∷ ts) (suc k) x e = nth_got ts k x e

pub below_more : (m n : ℕ) (ks : List ℕ) → m ≤ n → AreBelow m ks → AreBelow n ks
below_more m n ks l h i d w = let g = h i d w in omega (arith, l, g)

below_rest : (n k : ℕ) (ks : List ℕ) → AreBelow n (k ∷ ks) → (k < n) × AreBelow n ks
below_rest n k ks h = (h 0 k (omega arith), λ i d l. h (suc i) d (omega (arith, l)))

pub nths_front : (ts more : List Term) (ks : List ℕ) → AreBelow (length ts) ks → nth_terms (ts ++ more) ks ≡ nth_terms ts ks
nths_front ts more [] h = refl
nths_front ts more (k ∷ ks) h = let g = below_rest (length ts) k ks h in ap₂ More (nth_front ts more k g.0) (nths_front ts more ks g.1)

abbrev pub AreApart : List Term → Type 0
AreApart ts = (i j : ℕ) → i < length ts → j < length ts → nth_term ts i ≡ nth_term ts j → i ≡ j

nths_same : (ts : List Term) → AreApart ts → (js ks : List ℕ) → AreBelow (length ts) js → AreBelow (length ts) ks → nth_terms ts js ≡ nth_terms ts ks → js ≡ ks
nths_same ts a [] [] h g e = refl
nths_same ts a [] (k ∷ ks) h g e = absurd (cc)
nths_same ts a (j ∷ js) [] h g e = absurd (cc)
nths_same ts a (j ∷ js) (k ∷ ks) h g e =
    let x = below_rest (length ts) j js h in
    let y = below_rest (length ts) k ks g in
    let first : nth_term ts j ≡ nth_term ts k = cc in
    let rest : nth_terms ts js ≡ nth_terms ts ks = cc in
    ap₂ (λ u v. u ∷ v) (a j k x.0 y.0 first) (nths_same ts a js ks x.1 y.1 rest)

-- ---- shapes by longer lists of sorts

pub shape_front : (ss more : List Sort) (x : Shape) → HasSort (length ss) x → shape_by (ss ++ more) x ≡ shape_by ss x
shape_front ss more (s.Var x k) h = ap (λ z. t.VarNode x z) (c.nth_front ss more k h)
shape_front ss more (s.Const k) h = ap t.ConstNode (c.nth_front ss more k h)
shape_front ss more (s.Tup k) h = ap t.TupNode (c.nth_front ss more k h)
shape_front ss more _ h = refl

pub has_more : (m n : ℕ) (x : Shape) → m ≤ n → HasSort m x → HasSort n x
has_more m n (s.Var x k) l h = omega (arith, l, h)
has_more m n (s.Const k) l h = omega (arith, l, h)
has_more m n (s.Tup k) l h = omega (arith, l, h)
has_more m n _ l h = tt

pub has_both : (a b n : ℕ) (x : Shape) → ((k : ℕ) → k < a → k < b → k < n) → HasSort a x → HasSort b x → HasSort n x
has_both a b n (s.Var x k) l h g = l k h g
has_both a b n (s.Const k) l h g = l k h g
has_both a b n (s.Tup k) l h g = l k h g
has_both a b n _ l h g = tt

abbrev SortsDiffer : List Sort → Type 0
SortsDiffer ss = (j k : ℕ) → j < length ss → k < length ss → nth_sort ss j ≡ nth_sort ss k → j ≡ k

shape_same : (ss : List Sort) → SortsDiffer ss → (x y : Shape) → HasSort (length ss) x → HasSort (length ss) y → shape_by ss x ≡ shape_by ss y → x ≡ y
shape_same ss d (s.Lit g m) (s.Lit h n) i j e = ap₂ s.Lit (cc e) (cc e)
shape_same ss d (s.Truth b) (s.Truth f) i j e = ap s.Truth (cc e)
shape_same ss d (s.Var n k) (s.Var m q) i j e = ap₂ s.Var (cc e) (d k q i j (cc e))
shape_same ss d s.Add s.Add i j e = refl
shape_same ss d s.Sub s.Sub i j e = refl
shape_same ss d s.Mul s.Mul i j e = refl
shape_same ss d s.Div s.Div i j e = refl
shape_same ss d s.Mod s.Mod i j e = refl
shape_same ss d (s.Wrap g m) (s.Wrap h n) i j e = ap₂ s.Wrap (cc e) (cc e)
shape_same ss d s.Le s.Le i j e = refl
shape_same ss d s.Eq s.Eq i j e = refl
shape_same ss d s.Not s.Not i j e = refl
shape_same ss d s.And s.And i j e = refl
shape_same ss d s.Or s.Or i j e = refl
shape_same ss d s.Ite s.Ite i j e = refl
shape_same ss d s.Sel s.Sel i j e = refl
shape_same ss d s.Sto s.Sto i j e = refl
shape_same ss d (s.Const k) (s.Const q) i j e = ap s.Const (d k q i j (cc e))
shape_same ss d s.Mix s.Mix i j e = refl
shape_same ss d (s.Tup k) (s.Tup q) i j e = ap s.Tup (d k q i j (cc e))
shape_same ss d (s.Get k) (s.Get q) i j e = ap s.Get (cc e)
shape_same ss d s.Sum s.Sum i j e = refl
shape_same ss d _ _ i j e = cc e

-- ---- trees of rows

tree_front : (ss : List Sort) (ts more : List Term) (node : TermNode) → AreBelow (length ts) node.args → tree_by ss (ts ++ more) node ≡ tree_by ss ts node
tree_front ss ts more node h = ap (λ x. App (shape_by ss node.shape) x) (nths_front ts more node.args h)

tree_wider : (ss more : List Sort) (ts : List Term) (node : TermNode) → HasSort (length ss) node.shape → tree_by (ss ++ more) ts node ≡ tree_by ss ts node
tree_wider ss more ts node h = ap (λ x. App x (nth_terms ts node.args)) (shape_front ss more node.shape h)

abbrev pub tree : List Sort → List Term → TermRow → Term
tree ss ts r = tree_by ss ts r.node

module _ (ss : List Sort) where
  pub trees_length : (rows : List TermRow) → length (trees_by ss rows) ≡ length rows
  unfolding trees_by
  trees_length rows = let n = built_length (tree ss) [] rows in omega (arith, n)

  pub trees_push : (rows : List TermRow) (r : TermRow) → trees_by ss (rows ++ r ∷ []) ≡ trees_by ss rows ++ tree_by ss (trees_by ss rows) r.node ∷ []
  unfolding trees_by
  trees_push rows r = built_append (tree ss) [] rows (r ∷ [])

  trees_take : (n : ℕ) (rows : List TermRow) → take n (trees_by ss rows) ≡ trees_by ss (take n rows)
  unfolding trees_by
  trees_take n rows = let o : 0 + n ≡ n = omega arith in ap (λ x. take x (built (tree ss) [] rows)) (sym o) ∙ built_take (tree ss) [] n rows

  module _ (rows : List TermRow) (h : AreRows ss rows) where
    placed : (k : ℕ) (r : TermRow) → slice_get rows k ≡ Some r → IsRow ss (trees_by ss (take k rows)) r × (slice_get (trees_by ss rows) k ≡ Some (tree_by ss (trees_by ss (take k rows)) r.node))
    unfolding trees_by
    placed k r e =
        let g = new_at (tree ss) (IsRow ss) [] rows k r h e in
        let o : 0 + k ≡ k = omega arith in
        (g.0, ap (λ x. slice_get (built (tree ss) [] rows) x) (sym o) ∙ g.1)

    -- a row's arguments have smaller numbers, and its number stands for its tree
    pub row_at : (k : ℕ) (r : TermRow) → slice_get rows k ≡ Some r → AreBelow k r.node.args × (nth_term (trees_by ss rows) k ≡ tree_by ss (trees_by ss rows) r.node) × (IsLow (length ss) r)
        × (nth_sort ss r.sort ≡ sort_of (nth_term (trees_by ss rows) k))
    row_at k r e =
        let g = placed k r e in
        let w = slice_get_within rows k r e in
        let cut : trees_by ss (take k rows) ≡ take k (trees_by ss rows) = sym (trees_take k rows) in
        let all = trees_length rows in
        let size : length (trees_by ss (take k rows)) ≡ k = ap length cut ∙ length-take-le k (trees_by ss rows) (omega (arith, w, all)) in
        let below : AreBelow k r.node.args = subst (λ n. AreBelow n r.node.args) size g.0.args_below in
        let own : nth_term (trees_by ss rows) k ≡ tree_by ss (trees_by ss (take k rows)) r.node = nth_got (trees_by ss rows) k _ g.1 in
        let long : tree_by ss (trees_by ss rows) r.node ≡ tree_by ss (trees_by ss (take k rows)) r.node =
        sym (ap (λ x. tree_by ss x r.node) (take-append-drop k (trees_by ss rows)))
        ∙ (ap (λ x. tree_by ss (x ++ drop k (trees_by ss rows)) r.node) (sym cut) ∙ tree_front ss (trees_by ss (take k rows)) (drop k (trees_by ss rows)) r.node g.0.args_below) in
        (below, own ∙ sym long, g.0.low, g.0.sort_is ∙ ap sort_of (sym own))

    trees_differ : Differ (trees_by ss rows)
    unfolding trees_by
    trees_differ = new_differ (tree ss) (IsRow ss) [] rows (λ j k x e f. absurd (none-some x e)) h

    pub trees_apart : AreApart (trees_by ss rows)
    trees_apart i j l m e = trees_differ i j (nth_term (trees_by ss rows) i) (get_nth (trees_by ss rows) i l) (get_nth (trees_by ss rows) j m ∙ ap (λ x. Some x) (sym e))

-- ---- a node that is there, or isn't

got_from : (rows : List TermRow) (k : ℕ) (node : TermNode) → slice_get (nodes_of rows) k ≡ Some node → (r : TermRow) × (slice_get rows k ≡ Some r) × (r.node ≡ node)
got_from [] k node e = absurd (none-some node e)
got_from (r ∷ rows) zero node e = (r, refl, same_Some r.node node e)
got_from (r ∷ rows) (suc k) node e = got_from rows k node e

pub got_node : (rows : List TermRow) (k : ℕ) (r : TermRow) → slice_get rows k ≡ Some r → slice_get (nodes_of rows) k ≡ Some r.node
got_node [] k r e = absurd (none-some r e)
got_node (q ∷ rows) zero r e = ap (λ (x : TermRow). Some x.node) (same_Some q r e)
got_node (q ∷ rows) (suc k) r e = got_node rows k r e

module _ (ss : List Sort) (rows : List TermRow) (h : AreRows ss rows) where
  pub node_there : (k : ℕ) (node : TermNode) → slice_get (nodes_of rows) k ≡ Some node → (k < length rows) × (nth_term (trees_by ss rows) k ≡ tree_by ss (trees_by ss rows) node)
  node_there k node e =
      let g = got_from rows k node e in
      (slice_get_within rows k g.0 g.1, (row_at ss rows h k g.0 g.1).1 ∙ ap (λ x. tree_by ss (trees_by ss rows) x) g.2)

  node_same : SortsDiffer ss → (x y : TermNode) → AreBelow (length rows) x.args → AreBelow (length rows) y.args → HasSort (length ss) x.shape → HasSort (length ss) y.shape
      → tree_by ss (trees_by ss rows) x ≡ tree_by ss (trees_by ss rows) y → x ≡ y
  node_same d x y i j f g e =
      let n = trees_length ss rows in
      let shapes : shape_by ss x.shape ≡ shape_by ss y.shape = cc in
      let args : nth_terms (trees_by ss rows) x.args ≡ nth_terms (trees_by ss rows) y.args = cc in
      ap₂ term_node (shape_same ss d x.shape y.shape f g shapes)
      (nths_same (trees_by ss rows) (trees_apart ss rows h) x.args y.args (below_more _ _ x.args (omega (arith, n)) i) (below_more _ _ y.args (omega (arith, n)) j) args)

  pub node_absent : SortsDiffer ss → (node : TermNode) → AreBelow (length rows) node.args → HasSort (length ss) node.shape → (Contains (nodes_of rows) node → ⊥)
      → Contains (trees_by ss rows) (tree_by ss (trees_by ss rows) node) → ⊥
  node_absent d node i f n there =
      let a = at_contains (trees_by ss rows) (tree_by ss (trees_by ss rows) node) there in
      let size = trees_length ss rows in
      let within : a.0 < length rows = let w = slice_get_within (trees_by ss rows) a.0 _ a.1 in omega (arith, w, size) in
      let own : TermRow = get_or rows a.0 (term_row node 0) in
      let read : slice_get rows a.0 ≡ Some own = slice_get-get_or rows a.0 (term_row node 0) within in
      let r = row_at ss rows h a.0 own read in
      let same : own.node ≡ node = node_same d own.node node (below_more _ _ own.node.args (omega (arith, within)) r.0) i r.2.named f (sym r.1 ∙ nth_got (trees_by ss rows) a.0 _ a.1) in
      n (contains_at (nodes_of rows) a.0 node (got_node rows a.0 own read ∙ ap (λ x. Some x) same))

-- ---- a push

pub rows_push : (ss : List Sort) (rows : List TermRow) (r : TermRow) → AreRows ss rows → IsRow ss (trees_by ss rows) r → (Contains (trees_by ss rows) (tree_by ss (trees_by ss rows) r.node) → ⊥)
    → AreRows ss (rows ++ r ∷ [])
unfolding trees_by
rows_push ss rows r h p n = new_push (tree ss) (IsRow ss) [] rows r h p n

-- ---- more sorts, and fewer

abbrev Rows : List Sort → List Term → List TermRow → Type 0
Rows ss ts rows = AreNew (tree ss) (IsRow ss) ts rows

row_wider : (ss more : List Sort) (ts : List Term) (r : TermRow) → IsRow ss ts r → IsRow (ss ++ more) ts r
row_wider ss more ts r h =
    let size = length-append ss more in
    let e = tree_wider ss more ts r.node h.low.named in
    record {
      args_below = h.args_below;
      low = record { named = has_more _ _ r.node.shape (omega (arith, size)) h.low.named; own = omega (arith, size, h.low.own) };
      fitting = ap fits e ∙ h.fitting;
      sort_is = c.nth_front ss more r.sort h.low.own ∙ (h.sort_is ∙ ap sort_of (sym e));
    }

wider_from : (ss more : List Sort) (ts : List Term) (rows : List TermRow) → Rows ss ts rows → Rows (ss ++ more) ts rows
wider_from ss more ts [] h = tt
wider_from ss more ts (r ∷ rows) h =
    let e = tree_wider ss more ts r.node h.0.low.named in (
      row_wider ss more ts r h.0,
      (λ k. h.1 (subst (λ x. Contains ts x) e k)),
      subst (λ x. Rows (ss ++ more) (ts ++ x ∷ []) rows) (sym e) (wider_from ss more (ts ++ tree_by ss ts r.node ∷ []) rows h.2),
    )

built_wider : (ss more : List Sort) (ts : List Term) (rows : List TermRow) → Rows ss ts rows → built (tree (ss ++ more)) ts rows ≡ built (tree ss) ts rows
built_wider ss more ts [] h = refl
built_wider ss more ts (r ∷ rows) h =
    ap (λ x. built (tree (ss ++ more)) (ts ++ x ∷ []) rows) (tree_wider ss more ts r.node h.0.low.named) ∙ built_wider ss more (ts ++ tree_by ss ts r.node ∷ []) rows h.2

pub rows_wider : (ss more : List Sort) (rows : List TermRow) → AreRows ss rows → AreRows (ss ++ more) rows
rows_wider ss more rows h = wider_from ss more [] rows h

pub trees_wider : (ss more : List Sort) (rows : List TermRow) → AreRows ss rows → trees_by (ss ++ more) rows ≡ trees_by ss rows
unfolding trees_by
trees_wider ss more rows h = built_wider ss more [] rows h

row_narrower : (ss more : List Sort) (ts : List Term) (r : TermRow) → IsLow (length ss) r → IsRow (ss ++ more) ts r → IsRow ss ts r
row_narrower ss more ts r l h =
    let e = tree_wider ss more ts r.node l.named in
    record {
      args_below = h.args_below;
      low = l;
      fitting = ap fits (sym e) ∙ h.fitting;
      sort_is = sym (c.nth_front ss more r.sort l.own) ∙ (h.sort_is ∙ ap sort_of e);
    }

narrower_from : (ss more : List Sort) (ts : List Term) (rows : List TermRow) → All (IsLow (length ss)) rows → Rows (ss ++ more) ts rows → Rows ss ts rows
narrower_from ss more ts [] l h = tt
narrower_from ss more ts (r ∷ rows) l h =
    let own : IsLow (length ss) r = l 0 r (omega arith) in
    let e = tree_wider ss more ts r.node own.named in (
      row_narrower ss more ts r own h.0,
      (λ k. h.1 (subst (λ x. Contains ts x) (sym e) k)),
      narrower_from ss more (ts ++ tree_by ss ts r.node ∷ []) rows (λ i d w. l (suc i) d (omega (arith, w))) (subst (λ x. Rows (ss ++ more) (ts ++ x ∷ []) rows) e h.2),
    )

pub rows_narrower : (ss more : List Sort) (rows : List TermRow) → All (IsLow (length ss)) rows → AreRows (ss ++ more) rows → AreRows ss rows
rows_narrower ss more rows l h = narrower_from ss more [] rows l h

-- ---- what holds of all rows

low_from : (ss : List Sort) (ts : List Term) (rows : List TermRow) → Rows ss ts rows → All (IsLow (length ss)) rows
low_from ss ts [] h i d l = absurd (omega (arith, l))
low_from ss ts (r ∷ rows) h zero d l = h.0.low
low_from ss ts (r ∷ rows) h (suc i) d l = low_from ss (ts ++ tree_by ss ts r.node ∷ []) rows h.2 i d (omega (arith, l))

pub rows_low : (ss : List Sort) (rows : List TermRow) → AreRows ss rows → All (IsLow (length ss)) rows
rows_low ss rows h = low_from ss [] rows h

fit_from : (ss : List Sort) (ts : List Term) (rows : List TermRow) → All (λ x. fits x ≡ true) ts → Rows ss ts rows → All (λ x. fits x ≡ true) (built (tree ss) ts rows)
fit_from ss ts [] f h = f
fit_from ss ts (r ∷ rows) f h = fit_from ss (ts ++ tree_by ss ts r.node ∷ []) rows (All-push (λ x. fits x ≡ true) ts (tree_by ss ts r.node) f h.0.fitting) h.2

pub rows_fit : (ss : List Sort) (rows : List TermRow) → AreRows ss rows → All (λ x. fits x ≡ true) (trees_by ss rows)
unfolding trees_by
rows_fit ss rows h = fit_from ss [] rows (λ i d l. absurd (omega (arith, l))) h
