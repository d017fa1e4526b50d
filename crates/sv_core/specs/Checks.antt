-- Believed: which checks the text of a function holds, and the list of its labels. Hold it against the tables of `docs/labels.md`.
use Rattle.std.specs.Prelude.{◌+◌, ◌++◌, if◌then◌else◌, ℕ, List, [], ◌∷◌, Option, Some, None, Contains, length, map, slice_get, zero, suc}
use Rattle.std.specs.List.Sorted.{IsStrictlySortedBy}
use Rattle.std.specs.Ordering.{nat_cmp, ordering_then}
use Rattle.std.specs.declared.cmp.Ordering.{Ordering}
use Rattle.sv_text.specs.declared.place.Place.{Place}
use Rattle.sv_core.specs.declared.label.FuncId.{FuncId}
use Rattle.sv_core.specs.declared.label.FuncId.TheVariants.{Constructor, Function, Gift}
use Rattle.sv_core.specs.declared.label.Label.{Label}
use Rattle.sv_core.specs.declared.label.Site.{Site}
use Rattle.sv_core.specs.declared.label.Site.TheVariants.{At, End}
use Rattle.sv_core.specs.declared.tally.Callee.{Callee}
use Rattle.sv_core.specs.declared.tally.Tally.{Tally}
use Rattle.sv_core.specs.LabelTexts.{site_order}
use Rattle.sv_core.specs.PlainCode as code
use Rattle.sv_core.specs.PlainCode.{Expr, Kind, Exprs, Maybe, Stmt, Act, Stmts, Arms, exprs}
use Rattle.sv_core.specs.PlainCore.{Contract, Use, Given}
use Rattle.sv_core.specs.PlainCore as plain

-- what a call of a function checks depends on its name, on how many preconditions it has, and on whether it is public
abbrev pub callee_of : plain.Function → Callee
callee_of f = record { name = f.name; pre = length f.pre; public = f.public }

-- what the checks of a contract depend on: its name, how many invariants it has, and its functions
abbrev pub tally_of : Contract → Tally
tally_of c = record { name = c.name; invariants = length c.invariants; callees = map callee_of c.funcs }

-- a check for each annotation of a list of n
abbrev pub numbered : Site → ℕ → ℕ → ℕ → List Label
numbered site kind name zero = []
numbered site kind name (suc n) = numbered site kind name n ++ record { site = site; kind = kind; number = n + 1; «of» = name } ∷ []

-- a call from inside checks the function's preconditions, and the invariants where it is public
abbrev pub callee_checks : Tally → Place → Option Callee → List Label
callee_checks t place (Some f) = numbered (At place) 1 f.name f.pre ++ (if f.public then numbered (At place) 2 f.name t.invariants else [])
callee_checks t place None = []

abbrev pub call_checks : Tally → Place → ℕ → List Label
call_checks t place f = callee_checks t place (slice_get t.callees f)

-- a call of another account checks the invariants
abbrev pub outside_checks : Tally → Place → List Label
outside_checks t place = numbered (At place) 3 t.name t.invariants

abbrev pub assert_check : Tally → Place → List Label
assert_check t place = record { site = At place; kind = 4; number = 0; «of» = t.name } ∷ []

-- a loop checks each of its n invariants on entry and after a turn
abbrev pub loop_checks : Tally → Place → ℕ → List Label
loop_checks t place n = numbered (At place) 5 t.name n ++ numbered (At place) 6 t.name n

-- the checks of an expression and all its parts
abbrev mutual
  pub expr_checks : Tally → Expr → List Label
  expr_checks t (code.Node place type kind) = kind_checks t place kind

  pub kind_checks : Tally → Place → Kind → List Label
  kind_checks t place (code.Field a k) = expr_checks t a
  kind_checks t place (code.Index a i) = expr_checks t a ++ expr_checks t i
  kind_checks t place (code.Length a) = expr_checks t a
  kind_checks t place (code.Unary op a) = expr_checks t a
  kind_checks t place (code.Binary op a b) = expr_checks t a ++ expr_checks t b
  kind_checks t place (code.Cond c a b) = expr_checks t c ++ expr_checks t a ++ expr_checks t b
  kind_checks t place (code.Convert a) = expr_checks t a
  kind_checks t place (code.Call f args) = call_checks t place f ++ all_checks t args
  kind_checks t place (code.Outside how target value args results) = outside_checks t place ++ expr_checks t target ++ maybe_checks t value ++ all_checks t args
  kind_checks t place (code.Push a value) = expr_checks t a ++ maybe_checks t value
  kind_checks t place (code.Pop a) = expr_checks t a
  kind_checks t place (code.Make fields) = all_checks t fields
  kind_checks t place (code.NewArray n) = expr_checks t n
  kind_checks t place (code.Copy to a) = expr_checks t a
  kind_checks t place (code.Old a) = expr_checks t a
  kind_checks t place _ = []

  pub all_checks : Tally → Exprs → List Label
  all_checks t code.Nil = []
  all_checks t (code.Cons e es) = expr_checks t e ++ all_checks t es

  pub maybe_checks : Tally → Maybe → List Label
  maybe_checks t code.Nothing = []
  maybe_checks t (code.Just e) = expr_checks t e

abbrev pub list_checks : Tally → List Expr → List Label
list_checks t es = all_checks t (exprs es)

-- the checks of a statement and all its parts. The invariants of a loop are no code: they hold none themselves
abbrev mutual
  pub stmt_checks : Tally → Stmt → List Label
  stmt_checks t (code.Numbered n place act) = act_checks t place act

  pub act_checks : Tally → Place → Act → List Label
  act_checks t place (code.Set a e) = expr_checks t a ++ expr_checks t e
  act_checks t place (code.Update a op e) = expr_checks t a ++ expr_checks t e
  act_checks t place (code.Delete a) = expr_checks t a
  act_checks t place (code.Do e) = expr_checks t e
  act_checks t place (code.Many slots e) = expr_checks t e
  act_checks t place (code.If arms otherwise) = arms_checks t arms ++ body_checks t otherwise
  act_checks t place (code.Loop notes test body update) = loop_checks t place (length notes) ++ expr_checks t test ++ body_checks t body ++ body_checks t update
  act_checks t place (code.Return values) = list_checks t values
  act_checks t place (code.Require e) = expr_checks t e
  act_checks t place (code.Assert e) = assert_check t place ++ expr_checks t e
  act_checks t place (code.Revert values) = list_checks t values
  act_checks t place (code.Emit values) = list_checks t values
  act_checks t place (code.Frame body) = body_checks t body
  act_checks t place _ = []

  pub body_checks : Tally → Stmts → List Label
  body_checks t code.Done = []
  body_checks t (code.Then s ss) = stmt_checks t s ++ body_checks t ss

  pub arms_checks : Tally → Arms → List Label
  arms_checks t code.NoArm = []
  arms_checks t (code.Arm test body more) = expr_checks t test ++ body_checks t body ++ arms_checks t more

-- the checks of the text of the modifiers that are used, with the arguments that they are given
abbrev pub modifier_checks : Tally → Option plain.Modifier → List Label
modifier_checks t (Some m) = body_checks t m.body
modifier_checks t None = []

abbrev pub uses_checks : Tally → List plain.Modifier → List Use → List Label
uses_checks t mods [] = []
uses_checks t mods (u ∷ us) = list_checks t u.args ++ modifier_checks t (slice_get mods u.which) ++ uses_checks t mods us

-- at the end of a public function, of the constructor and of a gift the invariants are checked
abbrev pub invariants_at_end : Tally → List Label
invariants_at_end t = numbered End 7 t.name t.invariants

abbrev pub ends_checks : Tally → plain.Function → List Label
ends_checks t f = (if f.public then invariants_at_end t else []) ++ numbered End 8 t.name (length f.post)

abbrev pub function_checks : Tally → List plain.Modifier → Option plain.Function → List Label
function_checks t mods (Some f) = uses_checks t mods f.uses ++ body_checks t f.body ++ ends_checks t f
function_checks t mods None = []

-- the checks of the constructors, with the arguments that they give to their bases
abbrev pub given_checks : Tally → List Given → List Label
given_checks t [] = []
given_checks t (g ∷ gs) = list_checks t g.args ++ given_checks t gs

abbrev pub ctors_checks : Tally → List plain.Constructor → List Label
ctors_checks t [] = []
ctors_checks t (k ∷ ks) = given_checks t k.base_args ++ body_checks t k.body ++ ctors_checks t ks

-- the checks that the text of a function holds, one for each time it stands there
abbrev pub checks_of : Contract → FuncId → List Label
checks_of c Constructor = ctors_checks (tally_of c) c.ctors ++ invariants_at_end (tally_of c)
checks_of c (Function k) = function_checks (tally_of c) c.mods (slice_get c.funcs k)
checks_of c Gift = invariants_at_end (tally_of c)

-- by place, kind and number; where two calls of different functions share a place, by the functions' names
abbrev pub full_order : Label → Label → Ordering
full_order a b = ordering_then (site_order a.site b.site) (ordering_then (nat_cmp a.kind b.kind) (ordering_then (nat_cmp a.number b.number) (nat_cmp a.«of» b.«of»)))

-- the labels of a function: each check of its text once, in the order of labels
pub record AreLabels (c : Contract) (f : FuncId) (list : List Label) : Type 0 where
  pub in_order : IsStrictlySortedBy full_order list
  pub all : (l : Label) → Contains (checks_of c f) l → Contains list l
  pub only : (l : Label) → Contains list l → Contains (checks_of c f) l
