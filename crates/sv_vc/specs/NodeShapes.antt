-- Serves the proof: a node of a bank as a node without its arguments, and the arguments.
use Rattle.std.specs.Prelude.{ℕ, List, ◌≡◌, Option, Some, None}
use Rattle.sv_term.specs.Sorts.{Sort}
use Rattle.sv_term.specs.Terms.{Shape, LitNode, TruthNode, VarNode, AddNode, SubNode, MulNode, DivNode, ModNode, WrapNode, LeNode, EqNode, NotNode, AndNode, OrNode, IteNode, SelNode, StoNode, ConstNode, MixNode, TupNode, GetNode, SumNode}
use Rattle.sv_term.specs.Banks.{args, sorts_named}
use Rattle.sv_term.specs.declared.node.SortId.{SortId}
use Rattle.sv_term.specs.declared.node.TermId.{TermId}
use Rattle.sv_term.specs.declared.node.Node.{Node}
use Rattle.sv_term.specs.declared.node.Node.TheVariants as n

abbrev pub node_shape : (SortId → Sort) → Node → Shape
node_shape f (n.Lit negative m) = LitNode negative m
node_shape f (n.Truth b) = TruthNode b
node_shape f (n.Var x k) = VarNode x (f k)
node_shape f (n.Add a b) = AddNode
node_shape f (n.Sub a b) = SubNode
node_shape f (n.Mul a b) = MulNode
node_shape f (n.Div a b) = DivNode
node_shape f (n.Mod a b) = ModNode
node_shape f (n.Wrap signed bits a) = WrapNode signed bits
node_shape f (n.Le a b) = LeNode
node_shape f (n.Eq a b) = EqNode
node_shape f (n.Not p) = NotNode
node_shape f (n.And p q) = AndNode
node_shape f (n.Or p q) = OrNode
node_shape f (n.Ite c a b) = IteNode
node_shape f (n.Sel a i) = SelNode
node_shape f (n.Sto a i v) = StoNode
node_shape f (n.Const k v) = ConstNode (f k)
node_shape f (n.Mix k a b) = MixNode
node_shape f (n.Tup k ks) = TupNode (f k)
node_shape f (n.Get k a) = GetNode k
node_shape f (n.Sum a) = SumNode

-- y is x with other arguments
pub record IsLike (x : Node) (ks : List TermId) (y : Node) : Type 0 where
  pub args_are : args y ≡ ks
  pub sorts_are : sorts_named y ≡ sorts_named x
  pub shape_is : (f : SortId → Sort) → node_shape f y ≡ node_shape f x

abbrev pub variable_in : Node → Option ℕ
variable_in (n.Var x k) = Some x
variable_in _ = None
