-- Believed: how a run of statements ends, how one goes on, and how frames are entered and left. Hold it against Solidity's documentation, "Function Calls" and "Function Modifiers".
use Rattle.std.specs.Prelude.{ℕ, zero, suc, ◌+◌, false, if◌then◌else◌, List, [], ◌∷◌, ◌++◌, map, take, drop, Option, Some, None, slice_get, pos}
use Rattle.sv_core.specs.declared.contract.LocalInfo.{LocalInfo}
use Rattle.sv_core.specs.declared.expr.Loc.{Loc}
use Rattle.sv_core.specs.declared.expr.Loc.TheVariants as loc
use Rattle.sv_core.specs.PlainCode as code
use Rattle.sv_core.specs.PlainCode.{Stmts}
use Rattle.sv_core.specs.PlainCore.{Contract, Function, Modifier}
use Rattle.sv_sem.specs.States.{Held, Value, Unset, View, set_local, from_some}
use Rattle.sv_sem.specs.NamedParts.{Kept, KeptAll, new_default, moved, all_moved, unassigned, loc_of}
use Rattle.sv_sem.specs.Adversary.{Mark, AtState, AtEnd, Meeting}

-- ---- how a run ends

pub data End : Type 0 where
  Done : End
  Broke : End
  Continued : End
  Returned : End

pub data Outcome : Type 0 where
  Ends : (how : End) → Outcome
  Reverted : Outcome

-- what a run starts from and leaves: the view, the gas, and the replies that later calls meet
pub record Config : Type 0 where
  pub view : View
  pub gas : ℕ
  pub replies : List Meeting

pub record Ran : Type 0 where
  pub outcome : Outcome
  pub config : Config
  pub marks : List Mark

abbrev pub Runner : Type 0
Runner = Config → Ran

abbrev pub ran : Outcome → Config → Ran
ran o g = record { outcome = o; config = g; marks = [] }

abbrev pub reverted : Config → Ran
reverted g = ran Reverted g

abbrev pub viewed : View → Config → Config
viewed c g = record g { view = c }

abbrev pub ended : End → View → Config → Ran
ended how c g = ran (Ends how) (viewed c g)

-- marks that were made before
abbrev pub marked : List Mark → Ran → Ran
marked ms r = record r { marks = ms ++ r.marks }

abbrev pub next_by : Outcome → Ran → Runner → Ran
next_by (Ends Done) r go = marked r.marks (go r.config)
next_by o r go = r

-- goes on where a run is done
abbrev pub next : Ran → Runner → Ran
next r go = next_by r.outcome r go

-- goes on with what there is, or reverts
abbrev pub with_option : {A : Type 0} → Option A → Config → (A → Ran) → Ran
with_option None g go = reverted g
with_option (Some x) g go = go x

-- takes one unit of gas, or reverts
abbrev pub paid_by : ℕ → Config → Runner → Ran
paid_by zero g go = reverted g
paid_by (suc n) g go = go (record g { gas = n })

abbrev pub paid : Config → Runner → Ran
paid g go = paid_by g.gas g go

-- ---- bodies

-- whose body runs: the contract, the locals of the body, and the place of its first result
pub record Setting : Type 0 where
  pub core : Contract
  pub locals : List LocalInfo
  pub results : ℕ

-- how statements are run: in a setting, with what stands for `_`
abbrev pub Rec : Type 0
Rec = Setting → Runner → Stmts → Runner

abbrev pub no_function : Function
no_function = record { name = 0; owner = 0; public = false; payable = false; top = false; locals = []; params = 0; results = 0; uses = []; pre = []; post = []; body = code.Done }

abbrev pub func_at : Contract → ℕ → Function
func_at core f = from_some no_function (slice_get core.funcs f)

abbrev pub no_modifier : Modifier
no_modifier = record { name = 0; owner = 0; locals = []; params = 0; body = code.Done }

abbrev pub modifier_at : Contract → ℕ → Modifier
modifier_at core m = from_some no_modifier (slice_get core.mods m)

abbrev pub in_function : Contract → Function → Setting
in_function core f = record { core = core; locals = f.locals; results = f.params }

abbrev pub in_modifier : Contract → Modifier → Setting
in_modifier core m = record { core = core; locals = m.locals; results = 0 }

-- ---- entering

-- arguments into the first n locals, the others unassigned
abbrev pub bound : Contract → List LocalInfo → ℕ → List Held → View → KeptAll
bound core ls n hs c =
    let m = all_moved core (take n ls) hs c in
    record { held = m.held ++ map unassigned (drop n ls); view = m.view }

abbrev pub result_made_by : Contract → ℕ → Loc → View → Kept
result_made_by core t loc.Memory c = new_default core t c
result_made_by core t loc.Storage c = record { held = Unset; view = c }
result_made_by core t loc.Value c = record { held = Value (pos 0); view = c }

-- results begin as defaults, those in memory as new objects
abbrev pub results_made : Contract → List LocalInfo → View → KeptAll
results_made core [] c = record { held = []; view = c }
results_made core (l ∷ ls) c =
    let first = result_made_by core l.t l.loc c in
    let others = results_made core ls first.view in
    record { held = first.held ∷ others.held; view = others.view }

-- the view at the entry of a function: its arguments, the defaults of its results, and the rest of its locals
abbrev pub entered : Contract → Function → List Held → View → View
entered core f hs c =
    let args = all_moved core (take f.params f.locals) hs c in
    let results = results_made core (take f.results (drop f.params f.locals)) args.view in
    record (results.view) {
      frame = record (results.view.frame) {
        locals = args.held ++ results.held ++ map unassigned (drop (f.params + f.results) f.locals);
        around = [];
      };
    }

-- ---- leaving

abbrev pub results_of : Function → View → List Held
results_of f c = take f.results (drop f.params c.frame.locals)

-- back in the caller, with the state and the memory that the callee leaves
abbrev pub back_in : View → View → View
back_in caller callee = record { state = callee.state; frame = record (caller.frame) { memory = callee.frame.memory } }

abbrev pub end_marks : Function → View → View → List Mark
end_marks f entry end = AtEnd f entry end ∷ (if f.public then AtState end.state ∷ [] else [])

-- into the body of a modifier, whose function keeps its locals around it
abbrev pub into_modifier : List Held → View → View
into_modifier own c = record c { frame = record (c.frame) { locals = own; around = c.frame.locals } }

-- at the `_`: the rest runs in the function's frame
abbrev pub at_rest : View → View
at_rest c = record c { frame = record (c.frame) { locals = c.frame.around; around = [] } }

-- back after the `_`, in the modifier's own locals
abbrev pub after_rest : List Held → View → View
after_rest own c = record c { frame = record (c.frame) { locals = own; around = c.frame.locals } }

-- ---- several values into locals, each copied into memory where it is due

abbrev pub type_by : Option LocalInfo → ℕ
type_by None = 0
type_by (Some l) = l.t

abbrev pub type_at : List LocalInfo → ℕ → ℕ
type_at ls k = type_by (slice_get ls k)

abbrev pub into_local : Contract → List LocalInfo → ℕ → Held → View → View
into_local core ls k h c = let m = moved core (type_at ls k) (loc_of (slice_get ls k)) h c in set_local k m.held m.view

abbrev pub into_results : Contract → List LocalInfo → ℕ → List Held → View → View
into_results core ls k [] c = c
into_results core ls k (h ∷ hs) c = into_results core ls (suc k) hs (into_local core ls k h c)

abbrev pub into_slots : Contract → List LocalInfo → List (Option ℕ) → List Held → View → View
into_slots core ls (Some k ∷ slots) (h ∷ hs) c = into_slots core ls slots hs (into_local core ls k h c)
into_slots core ls (None ∷ slots) (h ∷ hs) c = into_slots core ls slots hs c
into_slots core ls _ _ c = c
