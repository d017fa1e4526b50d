-- Believed: visits, gifts, the construction, and histories. Hold it against Solidity's documentation, "Contracts", "Receive Ether Function", "Constructors" and "Multiple Inheritance and Linearization".
use Rattle.std.specs.Prelude.{ℕ, suc, ◌+◌, Bool, false, not, nat_lt, nat_eq, ◌&&◌, ◌||◌, if◌then◌else◌, cond, List, [], ◌∷◌, ◌++◌, map, reverse, take, Option, Some, None, slice_get}
use Rattle.sv_type.specs.Shapes.{shape_of}
use Rattle.sv_type.specs.StorageTrees.{Tree}
use Rattle.sv_type.specs.TypedTrees.{default}
use Rattle.sv_type.specs.Memory.{empty_memory}
use Rattle.sv_core.specs.declared.contract.LocalInfo.{LocalInfo}
use Rattle.sv_core.specs.PlainCode as code
use Rattle.sv_core.specs.PlainCode.{Expr}
use Rattle.sv_core.specs.PlainCore.{Contract, Function, Constructor, Given, Variable}
use Rattle.sv_sem.specs.States.{Held, State, View, root, more_balance, with_state, with_locals, from_some, with_some}
use Rattle.sv_sem.specs.NamedParts.{assign, ToPath}
use Rattle.sv_sem.specs.TrueValues.{value}
use Rattle.sv_sem.specs.Adversary.{Visit, Visits, Event, Comes, Gift, Events, NoEvent, ThenEvent, Reply, AReply, Replies, NoReply, ThenReply, Mark, AtState, After, Meeting}
use Rattle.sv_sem.specs.RunParts.{Outcome, Ends, Reverted, Done, Config, Ran, Runner, Rec, Setting, ran, reverted, viewed, next, with_option, func_at, bound, entered, end_marks}
use Rattle.sv_sem.specs.Effects.{run_function, taken, all_fit, finished, same_view}
use Rattle.sv_sem.specs.Runs.{run, with_values}

-- ---- visits

-- a call from outside reaches public functions that nothing overrides. One with a value above 0 reverts at once where the function
-- isn't payable
abbrev pub may_enter : Function → ℕ → Bool
may_enter f v = f.public && (f.top && (f.payable || not (nat_lt 0 v)))

abbrev pub param_types : List LocalInfo → ℕ → List ℕ
param_types ls n = map (λ l. l.t) (take n ls)

abbrev pub visited_by : Outcome → Function → View → Ran → After
visited_by (Ends how) f entry r = record { state = r.config.view.state; marks = r.marks ++ end_marks f entry r.config.view }
visited_by Reverted f entry r = record { state = entry.state; marks = r.marks }

-- from the entry, at which the value isn't credited yet. A visit that reverts gives back the state of its start
abbrev pub visited : Contract → Function → ℕ → List Meeting → View → After
visited core f gas ms entry =
    let r = run_function core (run gas) f (record { view = with_state (more_balance entry.frame.value entry.state) entry; gas = gas; replies = ms }) in
    visited_by r.outcome f entry r

-- a memory that holds only the arguments
abbrev pub from_outside : Contract → Function → List Tree → View → View
from_outside core f args c = let k = taken core (param_types f.locals f.params) args c in entered core f k.held k.view

abbrev pub outside_view : State → ℕ → ℕ → ℕ → ℕ → ℕ → View
outside_view s this sender value time number =
    record { state = s; frame = record { locals = []; around = []; memory = empty_memory; sender = sender; value = value; time = time; number = number; this = this } }

abbrev mutual
  pub visit : Contract → ℕ → Visit → State → After
  visit core this (Visits f args sender value time number gas replies) s =
      if may_enter (func_at core f) value && all_fit core (param_types (func_at core f).locals (func_at core f).params) args
      then visited core (func_at core f) gas (meetings core this replies) (from_outside core (func_at core f) args (outside_view s this sender value time number))
      else record { state = s; marks = [] }

  pub event : Contract → ℕ → Event → State → After
  event core this (Comes v) s = visit core this v s
  event core this (Gift n) s = record { state = more_balance n s; marks = [] }

  -- one after another
  pub events : Contract → ℕ → Events → State → After
  events core this NoEvent s = record { state = s; marks = [] }
  events core this (ThenEvent e es) s =
      let first = event core this e s in
      let others = events core this es first.state in
      record { state = others.state; marks = first.marks ++ others.marks }

  pub meeting : Contract → ℕ → Reply → Meeting
  meeting core this (AReply ok results during) = record { ok = ok; results = results; during = events core this during }

  pub meetings : Contract → ℕ → Replies → List Meeting
  meetings core this NoReply = []
  meetings core this (ThenReply r rs) = meeting core this r ∷ meetings core this rs

-- ---- construction

-- the locals of constructors whose arguments are known, by their places in the line
pub record Prepared : Type 0 where
  pub owner : ℕ
  pub locals : List Held

abbrev pub prepared_at : ℕ → List Prepared → Option (List Held)
prepared_at k [] = None
prepared_at k (p ∷ ps) = cond (nat_eq k p.owner) (Some p.locals) (prepared_at k ps)

abbrev pub no_constructor : Constructor
no_constructor = record { owner = 0; payable = false; locals = []; params = 0; base_args = []; body = code.Done }

abbrev pub ctor_at : Contract → ℕ → Constructor
ctor_at core k = from_some no_constructor (slice_get core.ctors k)

abbrev pub in_ctor : Contract → Constructor → Setting
in_ctor core k = record { core = core; locals = k.locals; results = 0 }

-- in the locals of a constructor, which are unassigned where it takes no arguments
abbrev pub ctor_view : Contract → Constructor → List Prepared → View → View
ctor_view core k ps c = with_locals (from_some (bound core k.locals k.params [] c).held (prepared_at k.owner ps)) c

-- the arguments that a constructor gives to its bases, in order of the text
abbrev pub run_given : Contract → Rec → Constructor → List Given → List Prepared → Config → (List Prepared → Runner) → Ran
run_given core rec k [] ps g go = go ps g
run_given core rec k (x ∷ xs) ps g go =
    with_values (in_ctor core k) rec x.args (viewed (ctor_view core k ps g.view) g) (λ hs h.
    let base = ctor_at core x.base in
    let b = bound core base.locals base.params hs h.view in
    run_given core rec k xs (record { owner = x.base; locals = b.held } ∷ ps) (viewed b.view h) go)

-- contract by contract, from the most derived
abbrev pub run_all_given : Contract → Rec → List Constructor → List Prepared → Config → (List Prepared → Runner) → Ran
run_all_given core rec [] ps g go = go ps g
run_all_given core rec (k ∷ ks) ps g go = run_given core rec k k.base_args ps g (λ qs h. run_all_given core rec ks qs h go)

-- the variables that begin with a value, from the first
abbrev pub init_one : Contract → ℕ → ℕ → Option Expr → View → Option View
init_one core k t None c = Some c
init_one core k t (Some e) c = with_some (value core c [] e) (λ h. assign core [] t (ToPath (root k)) h c)

abbrev pub init_all : Contract → ℕ → List Variable → View → Option View
init_all core k [] c = Some c
init_all core k (v ∷ vs) c = with_some (init_one core k v.t v.init c) (λ d. init_all core (suc k) vs d)

-- the bodies, from the most base
abbrev pub run_bodies : Contract → Rec → List Constructor → List Prepared → Runner
run_bodies core rec [] ps g = ran (Ends Done) g
run_bodies core rec (k ∷ ks) ps g = next (finished same_view (rec (in_ctor core k) reverted k.body (viewed (ctor_view core k ps g.view) g))) (run_bodies core rec ks ps)

-- all arguments of bases, then all initialisers, then the bodies
abbrev pub run_construction : Contract → Rec → List Prepared → Runner
run_construction core rec ps g =
    run_all_given core rec (reverse core.ctors) ps g (λ qs h.
    with_option (init_all core 0 core.vars h.view) h (λ c. run_bodies core rec core.ctors qs (viewed c h)))

-- the contract's own constructor, which is the last
abbrev pub own_of : List Constructor → Constructor
own_of [] = no_constructor
own_of (k ∷ []) = k
own_of (k ∷ j ∷ ks) = own_of (j ∷ ks)

abbrev pub own_ctor : Contract → Constructor
own_ctor core = own_of core.ctors

-- default trees
abbrev pub default_state : Contract → ℕ → State
default_state core balance = record { vars = map (λ v. default (shape_of core.types v.t)) core.vars; balance = balance }

-- what the own constructor starts with: its arguments, in a view of nothing but them
abbrev pub prepared_own : Contract → List Held → View → List Prepared
prepared_own core hs c = record { owner = (own_ctor core).owner; locals = (bound core (own_ctor core).locals (own_ctor core).params hs c).held } ∷ []

abbrev pub bound_view : Contract → List Held → View → View
bound_view core hs c = (bound core (own_ctor core).locals (own_ctor core).params hs c).view

-- ---- histories

pub record History : Type 0 where
  pub this : ℕ
  pub balance : ℕ
  pub value : ℕ
  pub sender : ℕ
  pub time : ℕ
  pub number : ℕ
  pub gas : ℕ
  pub args : List Tree
  pub list : Events

-- each ends in a state at which the invariants are to hold, also where it reverted
abbrev pub transactions : Contract → ℕ → Events → State → List Mark
transactions core this NoEvent s = []
transactions core this (ThenEvent e es) s =
    let first = event core this e s in
    first.marks ++ AtState first.state ∷ transactions core this es first.state

-- where the construction reverts, the history ends
abbrev pub history_by : Contract → ℕ → Events → Outcome → Ran → List Mark
history_by core this list (Ends how) r = r.marks ++ AtState r.config.view.state ∷ transactions core this list r.config.view.state
history_by core this list Reverted r = r.marks

abbrev pub constructed : Contract → ℕ → List Held → View → Ran
constructed core gas hs c = run_construction core (run gas) (prepared_own core hs c) (record { view = bound_view core hs c; gas = gas; replies = [] })

-- the value is credited before the constructor runs
abbrev pub construction : Contract → History → Ran
construction core h =
    let k = taken core (param_types (own_ctor core).locals (own_ctor core).params) h.args (outside_view (default_state core (h.balance + h.value)) h.this h.sender h.value h.time h.number) in
    constructed core h.gas k.held k.view

abbrev pub may_construct : Contract → History → Bool
may_construct core h = ((own_ctor core).payable || not (nat_lt 0 h.value)) && all_fit core (param_types (own_ctor core).locals (own_ctor core).params) h.args

-- the marks of a history
abbrev pub marks_of : Contract → History → List Mark
marks_of core h =
    if may_construct core h
    then (let r = construction core h in history_by core h.this h.list r.outcome r)
    else []
