-- Believed: what is asked of a term by its number. Hold it against the comments at `TermNumbers`.
use Rattle.std.specs.Prelude.{ℕ, ◌<◌, Bool, true, false, List, [], ◌∷◌, ◌≡◌, length}
use Rattle.std.specs.List.{All}
use Rattle.sv_term.specs.Sorts.{NumSort, is_num, is_range}
use Rattle.sv_term.specs.Terms.{Shape, LitNode, TruthNode, VarNode, AddNode, SubNode, MulNode, DivNode, ModNode, WrapNode, LeNode, EqNode, NotNode, AndNode, OrNode, IteNode, SelNode, StoNode, ConstNode, MixNode, TupNode, GetNode, SumNode, Term, sort_of, fits}
use Rattle.sv_term.specs.FactRuleTest.{args_of}
use Rattle.sv_term.specs.Banks.{range_of}
use Rattle.sv_term.specs.declared.node.Range as range
use Rattle.sv_log.specs.Logs.{nth_term, nth_terms}
use Rattle.sv_pattern.specs.declared.numbers.Name.{Name}
use Rattle.sv_pattern.specs.declared.numbers.Name.TheVariants as n
use Rattle.sv_pattern.specs.declared.numbers.Kind.{Kind}
use Rattle.sv_pattern.specs.declared.numbers.Kind.TheVariants as k

abbrev pub shape_by : Name → Shape
shape_by n.Add = AddNode
shape_by n.Sub = SubNode
shape_by n.Mul = MulNode
shape_by n.Div = DivNode
shape_by n.Mod = ModNode
shape_by n.Le = LeNode
shape_by n.Eq = EqNode
shape_by n.Not = NotNode
shape_by n.And = AndNode
shape_by n.Or = OrNode
shape_by n.Ite = IteNode
shape_by n.Sel = SelNode
shape_by n.Sto = StoNode
shape_by n.Mix = MixNode
shape_by n.Sum = SumNode

abbrev pub kind_of : Shape → Kind
kind_of (LitNode neg m) = k.Lit neg m
kind_of (TruthNode b) = k.Truth b
kind_of (VarNode x s) = k.Var
kind_of AddNode = k.Bare n.Add
kind_of SubNode = k.Bare n.Sub
kind_of MulNode = k.Bare n.Mul
kind_of DivNode = k.Bare n.Div
kind_of ModNode = k.Bare n.Mod
kind_of (WrapNode g m) = k.Wrap
kind_of LeNode = k.Bare n.Le
kind_of EqNode = k.Bare n.Eq
kind_of NotNode = k.Bare n.Not
kind_of AndNode = k.Bare n.And
kind_of OrNode = k.Bare n.Or
kind_of IteNode = k.Bare n.Ite
kind_of SelNode = k.Bare n.Sel
kind_of StoNode = k.Bare n.Sto
kind_of (ConstNode s) = k.Const
kind_of MixNode = k.Bare n.Mix
kind_of (TupNode s) = k.Tup
kind_of (GetNode j) = k.Get j
kind_of SumNode = k.Bare n.Sum

-- the arguments of the n-th tree have these numbers, which are smaller than n
pub record HasArgs (ts : List Term) (n : ℕ) (args : List ℕ) : Type 0 where
  pub trees : args_of (nth_term ts n) ≡ nth_terms ts args
  pub below : All (λ k. k < n) args

-- a range of bits has 1 to 120
pub record HasRange (t : Term) (r : range.Range) : Type 0 where
  pub sort : sort_of t ≡ NumSort (range_of r)
  pub sound : is_range (range_of r) ≡ true

abbrev pub HasNoRange : Term → Type 0
HasNoRange t = is_num (sort_of t) ≡ false

-- no two numbers stand for one term
abbrev pub AreApart : List Term → Type 0
AreApart ts = (i j : ℕ) → i < length ts → j < length ts → nth_term ts i ≡ nth_term ts j → i ≡ j

abbrev pub AllFit : List Term → Type 0
AllFit ts = (i : ℕ) → i < length ts → fits (nth_term ts i) ≡ true
