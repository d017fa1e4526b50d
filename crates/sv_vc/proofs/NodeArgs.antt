-- Nodes with other arguments, and the terms that they stand for.
use Rattle.std.proofs.Common.{List, [], ◌∷◌, ◌≡◌, length, map, get_or, None, refl, ap, arith}
use Rattle.sv_term.specs.Sorts.{Sort}
use Rattle.sv_term.specs.Terms.{Term, Terms, App, End, More}
use Rattle.sv_term.specs.Banks.{Nodes, term, term_list, args, args_by, term_by}
use Rattle.sv_term.specs.declared.node.SortId.{SortId}
use Rattle.sv_term.specs.declared.node.TermId.{TermId}
use Rattle.sv_term.specs.declared.node.Node.{Node}
use Rattle.sv_term.specs.declared.node.Node.TheVariants as n
use Rattle.sv_vc.specs.NodeShapes.{node_shape, variable_in}
use Rattle.sv_vc.specs.Replacing.{replaced, all_replaced}

pub none_is : (ks : List TermId) → length ks ≡ 0 → [] ≡ ks
none_is [] h = refl
none_is (k ∷ ks) h = absurd (omega (arith, h))

pub one_is : (ks : List TermId) → length ks ≡ 1 → get_or ks 0 record { 0 = 0 } ∷ [] ≡ ks
one_is [] h = absurd (omega (arith, h))
one_is (k ∷ ks) h = ap (λ z. k ∷ z) (none_is ks (omega (arith, h)))

pub two_is : (ks : List TermId) → length ks ≡ 2 → get_or ks 0 record { 0 = 0 } ∷ get_or ks 1 record { 0 = 0 } ∷ [] ≡ ks
two_is [] h = absurd (omega (arith, h))
two_is (k ∷ ks) h = ap (λ z. k ∷ z) (one_is ks (omega (arith, h)))

pub three_is : (ks : List TermId) → length ks ≡ 3 → get_or ks 0 record { 0 = 0 } ∷ get_or ks 1 record { 0 = 0 } ∷ get_or ks 2 record { 0 = 0 } ∷ [] ≡ ks
three_is [] h = absurd (omega (arith, h))
three_is (k ∷ ks) h = ap (λ z. k ∷ z) (two_is ks (omega (arith, h)))

-- ---- a node as its shape and its arguments

pub tree_is : (f : SortId → Sort) (g : TermId → Term) (x : Node) → term_by f g x ≡ App (node_shape f x) (args_by g (args x))
tree_is f g (n.Lit negative m) = refl
tree_is f g (n.Truth b) = refl
tree_is f g (n.Var x k) = refl
tree_is f g (n.Add a b) = refl
tree_is f g (n.Sub a b) = refl
tree_is f g (n.Mul a b) = refl
tree_is f g (n.Div a b) = refl
tree_is f g (n.Mod a b) = refl
tree_is f g (n.Wrap signed bits a) = refl
tree_is f g (n.Le a b) = refl
tree_is f g (n.Eq a b) = refl
tree_is f g (n.Not p) = refl
tree_is f g (n.And p q) = refl
tree_is f g (n.Or p q) = refl
tree_is f g (n.Ite c a b) = refl
tree_is f g (n.Sel a i) = refl
tree_is f g (n.Sto a i v) = refl
tree_is f g (n.Const k v) = refl
tree_is f g (n.Mix k a b) = refl
tree_is f g (n.Tup k ks) = refl
tree_is f g (n.Get k a) = refl
tree_is f g (n.Sum a) = refl

pub inner_is : (f : SortId → Sort) (g : TermId → Term) (x : Node) (env : List Term) → variable_in x ≡ None → replaced (term_by f g x) env ≡ App (node_shape f x) (all_replaced (args_by g (args x)) env)
inner_is f g (n.Lit negative m) env h = refl
inner_is f g (n.Truth b) env h = refl
inner_is f g (n.Var x k) env h = cc
inner_is f g (n.Add a b) env h = refl
inner_is f g (n.Sub a b) env h = refl
inner_is f g (n.Mul a b) env h = refl
inner_is f g (n.Div a b) env h = refl
inner_is f g (n.Mod a b) env h = refl
inner_is f g (n.Wrap signed bits a) env h = refl
inner_is f g (n.Le a b) env h = refl
inner_is f g (n.Eq a b) env h = refl
inner_is f g (n.Not p) env h = refl
inner_is f g (n.And p q) env h = refl
inner_is f g (n.Or p q) env h = refl
inner_is f g (n.Ite c a b) env h = refl
inner_is f g (n.Sel a i) env h = refl
inner_is f g (n.Sto a i v) env h = refl
inner_is f g (n.Const k v) env h = refl
inner_is f g (n.Mix k a b) env h = refl
inner_is f g (n.Tup k ks) env h = refl
inner_is f g (n.Get k a) env h = refl
inner_is f g (n.Sum a) env h = refl

abbrev pub as_terms : List Term → Terms
as_terms [] = End
as_terms (x ∷ xs) = More x (as_terms xs)

pub args_listed : (b : Nodes) (ks : List TermId) → args_by (term b) ks ≡ as_terms (term_list b ks)
unfolding term_list
args_listed b [] = refl
args_listed b (k ∷ ks) = ap (More (term b k)) (args_listed b ks)

pub replaced_listed : (g : TermId → Term) (ks : List TermId) (env : List Term) → all_replaced (args_by g ks) env ≡ as_terms (map (λ k. replaced (g k) env) ks)
replaced_listed g [] env = refl
replaced_listed g (k ∷ ks) env = ap (More (replaced (g k) env)) (replaced_listed g ks env)
