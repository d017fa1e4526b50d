-- Believed: models, the value of a term in a model, and validity. Hold it against the README's table of nodes.
use Rattle.std.specs.Prelude.{ℕ, Bool, true, cond, not, ◌&&◌, ◌||◌, ◌≡◌, pos, neg_ℤ, ◌+ℤ◌, ◌-ℤ◌, ◌*ℤ◌, int_le}
use Rattle.sv_term.specs.Sorts.{Sort, element, parts, sort_at, is_bool}
use Rattle.sv_term.specs.Values.{Value, Number, Flag, Array, Tuple, Values, NoValues, ValueAnd, Empty, same_value, number, flag, value_at, parts_of, read, write, mixed, sum, as_nat, quotient, remainder, wrapped, fitted, all_fitted, IsOf, IsZeroed}
use Rattle.sv_term.specs.Terms.{Shape, LitNode, TruthNode, VarNode, AddNode, SubNode, MulNode, DivNode, ModNode, WrapNode, LeNode, EqNode, NotNode, AndNode, OrNode, IteNode, SelNode, StoNode, ConstNode, MixNode, TupNode, GetNode, SumNode, Term, App, Terms, End, More, sort_of, sorts_of, fits}

-- a value for each variable of each sort
abbrev pub Look : Type 0
Look = ℕ → Sort → Value

-- the value of a node over these values; `e` is the sort of the elements of its first argument, where that is an array
abbrev pub meaning : Look → Shape → Sort → Values → Value
meaning f (LitNode neg n) e vs = Number (cond neg (neg_ℤ (pos n)) (pos n))
meaning f (TruthNode b) e vs = Flag b
meaning f (VarNode n s) e vs = f n s
meaning f AddNode e vs = Number (number (value_at 0 vs) +ℤ number (value_at 1 vs))
meaning f SubNode e vs = Number (number (value_at 0 vs) -ℤ number (value_at 1 vs))
meaning f MulNode e vs = Number (number (value_at 0 vs) *ℤ number (value_at 1 vs))
meaning f DivNode e vs = Number (quotient (number (value_at 0 vs)) (number (value_at 1 vs)))
meaning f ModNode e vs = Number (remainder (number (value_at 0 vs)) (number (value_at 1 vs)))
meaning f (WrapNode g n) e vs = Number (wrapped g n (number (value_at 0 vs)))
meaning f LeNode e vs = Flag (int_le (number (value_at 0 vs)) (number (value_at 1 vs)))
meaning f EqNode e vs = Flag (same_value (value_at 0 vs) (value_at 1 vs))
meaning f NotNode e vs = Flag (not (flag (value_at 0 vs)))
meaning f AndNode e vs = Flag (flag (value_at 0 vs) && flag (value_at 1 vs))
meaning f OrNode e vs = Flag (flag (value_at 0 vs) || flag (value_at 1 vs))
meaning f IteNode e vs = cond (flag (value_at 0 vs)) (value_at 1 vs) (value_at 2 vs)
meaning f SelNode e vs = read (number (value_at 1 vs)) (value_at 0 vs)
meaning f StoNode e vs = write (number (value_at 1 vs)) (fitted e (value_at 2 vs)) (value_at 0 vs)
meaning f (ConstNode s) e vs = Array (fitted (element s) (value_at 0 vs)) Empty
meaning f MixNode e vs = mixed (as_nat (number (value_at 0 vs))) (value_at 1 vs) (value_at 2 vs)
meaning f (TupNode s) e vs = Tuple (all_fitted (parts s) vs)
meaning f (GetNode k) e vs = value_at k (parts_of (value_at 0 vs))
meaning f SumNode e vs = Number (sum (value_at 0 vs))

abbrev mutual
  pub value_by : Look → Term → Value
  value_by f (App x ts) = meaning f x (element (sort_at 0 (sorts_of ts))) (values_by f ts)

  pub values_by : Look → Terms → Values
  values_by f End = NoValues
  values_by f (More t ts) = ValueAnd (value_by f t) (values_by f ts)

-- A model gives each variable a value of its sort; in it each array of numbers, at any depth, has the default 0.
pub record Model : Type 0 where
  pub look : ℕ → Sort → Value
  pub of_sort : (n : ℕ) (s : Sort) → IsOf s (look n s)
  pub zeroed : (n : ℕ) (s : Sort) → IsZeroed s (look n s)

abbrev pub value : Model → Term → Value
value m t = value_by m.look t

abbrev pub values : Model → Terms → Values
values m ts = values_by m.look ts

abbrev pub truth : Model → Term → Bool
truth m t = flag (value m t)

-- a term that fits, of sort Bool
abbrev pub is_claim : Term → Bool
is_claim t = fits t && is_bool (sort_of t)

-- true in every model
abbrev pub Valid : Term → Type 0
Valid t = (m : Model) → truth m t ≡ true
