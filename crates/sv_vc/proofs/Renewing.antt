-- A node whose arguments were replaced: it fits, and stands for the replaced term.
use Rattle.std.proofs.Common.{ℕ, zero, suc, ◌<◌, ◌≡◌, ◌↔◌, true, false, List, [], ◌∷◌, length, map, take, get_or, slice_get, Option, Some, None, refl, sym, ap, ap₂, ◌∙◌, subst, arith}
use Rattle.std.proofs.lemmas.List.{length-map}
use Rattle.sv_term.specs.Sorts.{Sort}
use Rattle.sv_term.specs.Terms.{Term, Terms, App, End, More, Truth, VarNode, fits}
use Rattle.sv_term.specs.Terms as t
use Rattle.sv_term.specs.Banks.{Nodes, IsTerm, AreTerms, AreSorts, Keeps, Stands, IsPlaced, IsNamed, AreBelow, Fits, sort, term, term_list, args, args_by, tree}
use Rattle.sv_term.specs.declared.node.SortId.{SortId}
use Rattle.sv_term.specs.declared.node.TermId.{TermId}
use Rattle.sv_term.specs.declared.node.Node.{Node}
use Rattle.sv_term.specs.declared.node.Node.TheVariants as n
use Rattle.sv_term.proofs.BankLists.{list_length, list_at, within_at}
use Rattle.sv_term.proofs.NodeTrees.{fits_sorts, fits_terms}
use Rattle.sv_gcl.specs.FormedCommands.{IsOver, AreOver}
use Rattle.sv_vc.specs.NodeShapes.{IsLike, node_shape, variable_in}
use Rattle.sv_vc.specs.Replacing.{replaced, all_replaced}
use Rattle.sv_vc.specs.OpenTerms.{IsOpen, Remembers, MayReplace}
use Rattle.sv_vc.proofs.Basics.{in_env, fits_replaced}
use Rattle.sv_vc.proofs.ListSteps.{below_at}
use Rattle.sv_vc.proofs.NodeArgs.{tree_is, inner_is, as_terms, args_listed, replaced_listed}

-- ---- variables

var_node : (x : ℕ) (y : Node) → variable_in y ≡ Some x → (k : SortId) × (y ≡ n.Var x k)
var_node x (n.Lit negative m) e = cc
var_node x (n.Truth b) e = cc
var_node x (n.Var z k) e = let same : z ≡ x = cc in (k, ap (λ w. n.Var w k) same)
var_node x (n.Add a b) e = cc
var_node x (n.Sub a b) e = cc
var_node x (n.Mul a b) e = cc
var_node x (n.Div a b) e = cc
var_node x (n.Mod a b) e = cc
var_node x (n.Wrap signed bits a) e = cc
var_node x (n.Le a b) e = cc
var_node x (n.Eq a b) e = cc
var_node x (n.Not p) e = cc
var_node x (n.And p q) e = cc
var_node x (n.Or p q) e = cc
var_node x (n.Ite c a b) e = cc
var_node x (n.Sel a i) e = cc
var_node x (n.Sto a i v) e = cc
var_node x (n.Const k v) e = cc
var_node x (n.Mix k a b) e = cc
var_node x (n.Tup k ks) e = cc
var_node x (n.Get k a) e = cc
var_node x (n.Sum a) e = cc

module _ (b : Nodes) (k : TermId) (x : ℕ) (y : Node) (p : IsPlaced b k y) (e : variable_in y ≡ Some x) where
  var_tree : (s : Sort) × (term b k ≡ t.Var x s)
  var_tree = let v = var_node x y e in (sort b v.0, p.is ∙ ap (tree b) v.1)

  pub var_within : (env : List TermId) → IsOpen (term b k) (term_list b env) → x < length env
  var_within env o =
      let over : IsOver o.vars (t.Var x var_tree.0) = subst (IsOver o.vars) var_tree.1 o.over in
      omega (arith, over.0.0, o.size, list_length b env)

  pub var_stands : (env : List TermId) → IsOpen (term b k) (term_list b env) → AreTerms b env → Stands b (get_or env x record { 0 = 0 }) (replaced (term b k) (term_list b env))
  var_stands env o h = record {
    within = within_at b env x record { 0 = 0 } h (var_within env o);
    is = sym (list_at b env x (Truth false) record { 0 = 0 } (var_within env o)) ∙ ap (λ z. replaced z (term_list b env)) (sym var_tree.1);
  }

-- ---- arguments

over_arg : (b : Nodes) (vars : List Sort) (ks : List TermId) (i : ℕ) → AreOver vars (args_by (term b) ks) → i < length ks → IsOver vars (term b (get_or ks i record { 0 = 0 }))
over_arg b vars [] i h l = absurd (omega (arith, l))
over_arg b vars (k ∷ ks) zero h l = h.0
over_arg b vars (k ∷ ks) (suc i) h l = over_arg b vars ks i h.1 (omega (arith, l))

-- an argument of an open term is open
pub arg_open : (b : Nodes) (k : TermId) (x : Node) (env : List Term) (i : ℕ) → IsPlaced b k x → IsOpen (term b k) env → i < length (args x) → IsOpen (term b (get_or (args x) i record { 0 = 0 })) env
arg_open b k x env i p o l =
    let over : IsOver o.vars (App (node_shape (sort b) x) (args_by (term b) (args x))) = subst (IsOver o.vars) (p.is ∙ tree_is (sort b) (term b) x) o.over in
    record { vars = o.vars; over = over_arg b o.vars (args x) i over.1 l; kinds = o.kinds; size = o.size }

args_kept : (o b : Nodes) (env : List Term) (ks : List TermId) → Keeps o b → AreTerms o ks → map (λ k. replaced (term o k) env) ks ≡ map (λ k. replaced (term b k) env) ks
args_kept o b env [] k h = refl
args_kept o b env (j ∷ ks) k h = ap₂ (λ y ys. y ∷ ys) (ap (λ z. replaced z env) (sym (k.terms j h.0))) (args_kept o b env ks k h.1)

-- a node that stands at a number of an old bank stands there in a later one
pub node_kept : {A : Type 0} (xs ys : List A) (k : ℕ) → take (length xs) ys ≡ xs → k < length xs → slice_get ys k ≡ slice_get xs k
node_kept [] ys k e l = absurd (omega (arith, l))
node_kept (x ∷ xs) [] k e l = cc
node_kept (x ∷ xs) (y ∷ ys) zero e l = cc
node_kept (x ∷ xs) (y ∷ ys) (suc k) e l = node_kept xs ys k (let rest : take (length xs) ys ≡ xs = cc in rest) (omega (arith, l))

some_same : (x y : Node) → Some x ≡ Some y → x ≡ y
some_same x y e = cc

-- ---- fitting terms

pub env_fits : (b : Nodes) (env : List TermId) → AreTerms b env → ((k : TermId) → IsTerm b k → fits (term b k) ≡ true) → (i : ℕ) → fits (in_env (term_list b env) i) ≡ true
unfolding term_list
env_fits b [] h s i = refl
env_fits b (k ∷ ks) h s zero = s k h.0
env_fits b (k ∷ ks) h s (suc i) = env_fits b ks h.1 s i

module _ (o b : Nodes) (k : TermId) (env : List TermId) (x y : Node) (kept : Keeps o b) (within : IsTerm o k) (old : slice_get o.nodes k.0 ≡ Some x) (new : slice_get b.nodes k.0 ≡ Some y) where
  pub node_same : y ≡ x
  node_same = some_same y x (sym new ∙ (node_kept o.nodes b.nodes k.0 kept.nodes within ∙ old))

  module _ (ks : List TermId) (px : IsPlaced o k x) (terms : term_list b ks ≡ map (λ j. replaced (term o j) (term_list o env)) (args x)) where
    pub args_long : length ks ≡ length (args y)
    args_long = sym (list_length b ks) ∙ (ap length terms ∙ (length-map (args x) (λ j. replaced (term o j) (term_list o env)) ∙ ap (λ z. length (args z)) (sym node_same)))

    module _ (z : Node) (py : IsPlaced b k y) (inner : variable_in x ≡ None) (like : IsLike y ks z) where
      pub renewed : tree b z ≡ replaced (term o k) (term_list o env)
      renewed =
          let e : List Term = term_list o env in
          let listed : args_by (term b) (args z) ≡ all_replaced (args_by (term b) (args y)) e =
          ap (args_by (term b)) like.args_are ∙ (args_listed b ks ∙ (ap as_terms terms ∙ (ap as_terms (args_kept o b e (args x) kept (fits_terms o x px.fits)) ∙ (ap (λ w. as_terms (map (λ j. replaced (term b j) e) (args w))) (sym node_same) ∙ sym (replaced_listed (term b) (args y) e))))) in
          tree_is (sort b) (term b) z
          ∙ (ap₂ App (like.shape_is (sort b)) listed
          ∙ (sym (inner_is (sort b) (term b) y e (ap variable_in node_same ∙ inner)) ∙ (ap (λ w. replaced w e) (sym py.is) ∙ ap (λ w. replaced w e) (kept.terms k within))))

      pub renewed_fits : AreTerms o env → AreTerms b ks → IsOpen (term o k) (term_list o env) → ((j : TermId) → IsTerm b j → fits (term b j) ≡ true) → ((w : Node) → Fits b w ↔ (IsNamed b w × (fits (tree b w) ≡ true))) → Fits b z
      renewed_fits he hk open_is sound nodes =
          let fine : (i : ℕ) → fits (in_env (term_list o env) i) ≡ true = λ i. ap (λ e. fits (in_env e i)) (sym (kept.lists env he)) ∙ env_fits b env (kept.within env he) sound i in
          let fit : fits (term o k) ≡ true = ap fits (sym (kept.terms k within)) ∙ sound k (omega (arith, within, kept.size)) in
          (nodes z).1 (
            record { sorts = subst (AreSorts b) (sym like.sorts_are) (fits_sorts b y py.fits); terms = subst (AreTerms b) (sym like.args_are) hk },
            ap fits renewed ∙ fits_replaced open_is.vars (term_list o env) open_is.kinds fine (term o k) open_is.over fit,
          )

-- ---- one argument of a node

module _ (o b : Nodes) (k : TermId) (x : Node) (env : List TermId) (kept : Keeps o b) (p : IsPlaced o k x) (he : AreTerms o env) (items : List TermId) (i : ℕ) (same : items ≡ args x) (l : i < length items) where
  arg_within : IsTerm o (get_or items i record { 0 = 0 })
  arg_within = within_at o items i record { 0 = 0 } (subst (AreTerms o) (sym same) (fits_terms o x p.fits)) l

  pub arg_below : (get_or items i record { 0 = 0 }).0 < k.0
  arg_below = below_at k.0 items i (subst (AreBelow k.0) (sym same) p.above) l

  pub may_replace : (memo : ℕ → Option TermId) → IsOpen (term o k) (term_list o env) → Remembers b (term_list o env) memo → MayReplace b env memo (get_or items i record { 0 = 0 })
  may_replace memo open_at r =
      let old : IsOpen (term o (get_or items i record { 0 = 0 })) (term_list o env) =
      subst (λ z. IsOpen (term o (get_or z i record { 0 = 0 })) (term_list o env)) (sym same) (arg_open o k x (term_list o env) i p open_at (subst (λ z. i < length z) same l)) in
      record {
        within = omega (arith, arg_within, kept.size);
        env_within = kept.within env he;
        open_is = subst (λ e. IsOpen (term b (get_or items i record { 0 = 0 })) e) (sym (kept.lists env he)) (subst (λ z. IsOpen z (term_list o env)) (sym (kept.terms (get_or items i record { 0 = 0 }) arg_within)) old);
        remembers = subst (λ e. Remembers b e memo) (sym (kept.lists env he)) r;
      }

  -- what stands for it, in terms of the old bank
  pub arg_is : (c : Nodes) (one : TermId) → Stands c one (replaced (term b (get_or items i record { 0 = 0 })) (term_list b env)) → term c one ≡ replaced (term o (get_or items i record { 0 = 0 })) (term_list o env)
  arg_is c one s = s.is ∙ ap₂ replaced (kept.terms (get_or items i record { 0 = 0 }) arg_within) (kept.lists env he)
