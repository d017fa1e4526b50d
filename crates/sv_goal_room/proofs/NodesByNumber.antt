-- The tree of a node is that of its shape by number over the trees of its arguments.
use Rattle.std.proofs.Common.{ℕ, zero, suc, ◌+◌, ◌<◌, ◌≤◌, List, [], ◌∷◌, ◌++◌, ◌≡◌, length, take, slice_get, Some, refl, sym, ap, ◌∙◌, arith}
use Rattle.sv_term.specs.Sorts.{Sort}
use Rattle.sv_term.specs.Terms.{Term, App, End, More, VarNode, ConstNode, TupNode, sort_of}
use Rattle.sv_term.specs.Banks.{Nodes, IsPlaced, args, args_by, sort, term, tree, term_by}
use Rattle.sv_term.specs.declared.node.SortId.{SortId}
use Rattle.sv_term.specs.declared.node.TermId.{TermId}
use Rattle.sv_term.specs.declared.node.Node.{Node}
use Rattle.sv_term.specs.declared.node.Node.TheVariants as n
use Rattle.sv_sort_room.specs.SortCells.{nth_sort}
use Rattle.sv_term_room.specs.TermRows.{shape_by, HasSort}
use Rattle.sv_room.specs.HeldRooms.{arg_count, args_of, args_in}
use Rattle.sv_goal_room.specs.GoalFilling.{shape_for}

pub shape_tree : (ss : List Sort) (f : SortId → Sort) (g : TermId → Term) (x : Node) (k : ℕ) → nth_sort ss k ≡ sort_of (term_by f g x) → term_by f g x ≡ App (shape_by ss (shape_for x k)) (args_by g (args x))
shape_tree ss f g (n.Var y j) k e = ap (λ z. App (VarNode y z) End) (sym e)
shape_tree ss f g (n.Const j v) k e = ap (λ z. App (ConstNode z) (More (g v) End)) (sym e)
shape_tree ss f g (n.Tup j ks) k e = ap (λ z. App (TupNode z) (args_by g ks)) (sym e)
shape_tree ss f g _ k e = refl

pub has_sort : (x : Node) (k count : ℕ) → k < count → HasSort count (shape_for x k)
has_sort (n.Var y j) k count l = l
has_sort (n.Const j v) k count l = l
has_sort (n.Tup j ks) k count l = l
has_sort _ k count l = tt

-- ---- how many arguments

pub count_args : (g : TermId → Term) (ks : List TermId) → arg_count (args_by g ks) ≡ length ks
count_args g [] = refl
count_args g (k ∷ ks) = let r = count_args g ks in omega (arith, r)

pub args_push : (ts : List Term) (t : Term) → args_in (ts ++ t ∷ []) ≡ args_in ts + args_of t
args_push [] t = omega arith
args_push (u ∷ ts) t = let r = args_push ts t in omega (arith, r)

pub args_until : (ts : List Term) (m : ℕ) (t : Term) → slice_get ts m ≡ Some t → args_in (take m ts) + args_of t ≤ args_in ts
args_until [] m t e = cc e
args_until (u ∷ ts) zero t e = let same : u ≡ t = cc e in let r = ap args_of same in omega (arith, r)
args_until (u ∷ ts) (suc m) t e = let r = args_until ts m t e in omega (arith, r)

-- the term of a node has the arguments of the node, and as many
pub node_tree : (b : Nodes) (k : TermId) (x : Node) (p : IsPlaced b k x) → term b k ≡ App (shape_by (sort_of (tree b x) ∷ []) (shape_for x 0)) (args_by (term b) (args x))
node_tree b k x p = p.is ∙ shape_tree (sort_of (tree b x) ∷ []) (sort b) (term b) x 0 refl

pub node_args : (b : Nodes) (k : TermId) (x : Node) → IsPlaced b k x → args_of (term b k) ≡ length (args x)
node_args b k x p = ap args_of (node_tree b k x p) ∙ count_args (term b) (args x)
