-- Serves the proof: how contracts, histories and what one sees of marks are written in the examples.
use Rattle.std.specs.Prelude.{ℕ, suc, Bool, true, false, ◌&&◌, List, [], ◌∷◌, map, Option, Some, None, ℤ, pos}
use Rattle.sv_text.specs.declared.place.Place.{Place}
use Rattle.sv_type.specs.declared.info.TypeInfo.{TypeInfo}
use Rattle.sv_type.specs.declared.info.TypeInfo.TheVariants as info
use Rattle.sv_type.specs.StorageTrees.{Tree, Num, Struct, Arr, Map, Trees, End, Field, sum}
use Rattle.sv_core.specs.declared.contract.LocalInfo.{LocalInfo}
use Rattle.sv_core.specs.declared.contract.VarKind.TheVariants as variable
use Rattle.sv_core.specs.declared.expr.Loc.TheVariants as loc
use Rattle.sv_core.specs.declared.expr.Op.{Op}
use Rattle.sv_core.specs.declared.expr.EnvName.TheVariants as env
use Rattle.sv_core.specs.PlainCode as code
use Rattle.sv_core.specs.PlainCode.{Expr, Kind, Act, Stmts}
use Rattle.sv_core.specs.PlainCore.{Contract, Function, Variable, Constructor}
use Rattle.sv_sem.specs.States.{Held, Value}
use Rattle.sv_sem.specs.AnnotationTruth.{true_limits, holds, at_view, at_state, at_end, Reading}
use Rattle.sv_sem.specs.Adversary.{Visits, Event, Comes, Events, NoEvent, ThenEvent, Reply, AReply, Replies, NoReply, ThenReply, Mark, AtState, AtEnd, Broken}
use Rattle.sv_sem.specs.RunParts.{results_of}
use Rattle.sv_sem.specs.Histories.{History, marks_of}

-- ---- types, by their numbers in `types`

abbrev pub bool : ℕ
bool = 0

abbrev pub uint : ℕ
uint = 1

abbrev pub address : ℕ
address = 2

abbrev pub payable : ℕ
payable = 3

abbrev pub balances : ℕ
balances = 4

-- bool, uint256, address, address payable, mapping(address => uint256), and others behind them
abbrev pub types_and : List TypeInfo → List TypeInfo
types_and more = info.Bool ∷ info.Uint 256 ∷ info.Address false ∷ info.Address true ∷ info.Mapping 2 1 ∷ more

-- ---- expressions

abbrev pub at : ℕ → ℕ → Place
at line col = record { line = line; col = col }

abbrev pub node : ℕ → Kind → Expr
node t kind = code.Node (at 0 0) t kind

abbrev pub num : ℕ → Expr
num n = node uint (code.Num false n)

abbrev pub local : ℕ → ℕ → Expr
local t k = node t (code.Local k)

abbrev pub var : ℕ → ℕ → Expr
var t k = node t (code.State k)

abbrev pub element : ℕ → Expr → Expr → Expr
element t a i = node t (code.Index a i)

abbrev pub member : ℕ → Expr → ℕ → Expr
member t a k = node t (code.Field a k)

abbrev pub sender : Expr
sender = node address (code.Env env.Sender)

abbrev pub value : Expr
value = node uint (code.Env env.Value)

abbrev pub balance : Expr
balance = node uint (code.Env env.Balance)

abbrev pub sum_of : ℕ → Expr
sum_of k = node uint (code.Sum k)

abbrev pub test : Op → Expr → Expr → Expr
test o a b = node bool (code.Binary o a b)

abbrev pub compute : Op → Expr → Expr → Expr
compute o a b = node uint (code.Binary o a b)

-- ---- statements, and their places where a check stands there

abbrev pub body_from : ℕ → List Act → Stmts
body_from n [] = code.Done
body_from n (a ∷ more) = code.Then (code.Numbered n (at n 9) a) (body_from (suc n) more)

abbrev pub body : List Act → Stmts
body acts = body_from 1 acts

-- ---- contracts of one contract in the line

abbrev pub param : ℕ → LocalInfo
param t = record { name = Some 90; t = t; loc = loc.Value }

abbrev pub in_storage : ℕ → LocalInfo
in_storage t = record { name = Some 90; t = t; loc = loc.Storage }

abbrev pub in_memory : ℕ → LocalInfo
in_memory t = record { name = Some 90; t = t; loc = loc.Memory }

abbrev pub state_of : ℕ → Variable
state_of t = record { name = 80; owner = 0; t = t; kind = variable.State; init = None }

abbrev pub plain_ctor : Constructor
plain_ctor = record { owner = 0; payable = false; locals = []; params = 0; base_args = []; body = code.Done }

abbrev pub external : ℕ → Bool → List LocalInfo → ℕ → List Act → Function
external name payable locals params acts = record { name = name; owner = 0; public = true; payable = payable; top = true; locals = locals; params = params; results = 0; uses = []; pre = []; post = []; body = body acts }

abbrev pub contract : List TypeInfo → List Variable → List Function → List Expr → Contract
contract types vars funcs invariants = record { name = 70; number = 0; line = 0 ∷ []; owners = 70 ∷ []; types = types; vars = vars; ctors = plain_ctor ∷ []; funcs = funcs; mods = []; invariants = invariants }

-- ---- histories

abbrev pub events : List Event → Events
events [] = NoEvent
events (e ∷ es) = ThenEvent e (events es)

abbrev pub replies : List Reply → Replies
replies [] = NoReply
replies (r ∷ rs) = ThenReply r (replies rs)

abbrev pub numbers : List ℕ → List Tree
numbers = map (λ n. Num (pos n))

-- a call of function f by a sender with a value: its gas, its arguments, and the replies that its calls meet
abbrev pub call_of : ℕ → ℕ → ℕ → ℕ → List ℕ → List Reply → Event
call_of f from sent gas args rs = Comes (Visits f (numbers args) from sent 5 6 gas (replies rs))

abbrev pub success : List Event → Reply
success during = AReply true [] (events during)

abbrev pub failure : List Event → Reply
failure during = AReply false [] (events during)

-- construction by account 1 without value, from a balance
abbrev pub history : ℕ → List Event → History
history balance list = record { this = 100; balance = balance; value = 0; sender = 1; time = 5; number = 6; gas = 50; args = []; list = events list }

-- ---- what one sees of marks

pub data Seen : Type 0 where
  -- whether all invariants hold, a number for each variable, and the balance
  InState : (good : Bool) (vars : List ℤ) (balance : ℕ) → Seen
  -- the name of the function, whether its preconditions held at the entry and its postconditions at the end, and its results
  AtAnEnd : (name : ℕ) (pre post : Bool) (results : List ℤ) → Seen
  AssertFailed : Seen

-- a number, the sum of a mapping, the length of an array, or the first field of a struct
abbrev mutual
  pub shown : Tree → ℤ
  shown (Num n) = n
  shown (Struct ts) = shown_first ts
  shown (Arr n es d) = n
  shown (Map es d) = sum (Map es d)

  pub shown_first : Trees → ℤ
  shown_first End = pos 0
  shown_first (Field t ts) = shown t

abbrev pub is_true : Option Bool → Bool
is_true (Some b) = b
is_true None = false

abbrev pub all_true : Contract → Reading → List Expr → Bool
all_true core r [] = true
all_true core r (e ∷ es) = is_true (holds (true_limits core) core r e) && all_true core r es

abbrev pub shown_held : Held → ℤ
shown_held (Value z) = z
shown_held _ = pos 0

abbrev pub seen : Contract → ℕ → Mark → Seen
seen core this (AtState s) = InState (all_true core (at_state this s) core.invariants) (map shown s.vars) s.balance
seen core this (AtEnd f entry end) = AtAnEnd f.name (all_true core (at_view entry) f.pre) (all_true core (at_end f.params entry end) f.post) (map shown_held (results_of f end))
seen core this Broken = AssertFailed

abbrev pub seen_in : Contract → History → List Seen
seen_in core h = map (seen core h.this) (marks_of core h)

-- what holds at a mark, and what doesn't
abbrev pub good : List ℕ → ℕ → Seen
good vars balance = InState true (map pos vars) balance

abbrev pub bad : List ℕ → ℕ → Seen
bad vars balance = InState false (map pos vars) balance

abbrev pub end_of : ℕ → Seen
end_of name = AtAnEnd name true true []
