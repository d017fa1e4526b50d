-- Serves the proof: the labels that were found so far, followed by those of a part of the text.
use Rattle.std.specs.Prelude.{List, [], ◌∷◌, ◌++◌, Option, Some, None, length, slice_get}
use Rattle.sv_text.specs.declared.place.Place.{Place}
use Rattle.sv_core.specs.declared.label.Label.{Label}
use Rattle.sv_core.specs.declared.label.FuncId.{FuncId}
use Rattle.sv_core.specs.declared.label.FuncId.TheVariants.{Constructor, Function, Gift}
use Rattle.sv_core.specs.declared.tally.Tally.{Tally}
use Rattle.sv_core.specs.PlainCode as code
use Rattle.sv_core.specs.PlainCode.{Expr, Kind, Exprs, Maybe, Stmt, Act, Stmts, Arms, OneArm, exprs}
use Rattle.sv_core.specs.PlainCore.{Contract, Use, Given}
use Rattle.sv_core.specs.PlainCore as plain
use Rattle.sv_core.specs.Checks.{call_checks, outside_checks, assert_check, loop_checks, ends_checks, invariants_at_end}

abbrev mutual
  pub after_expr : Tally → Expr → List Label → List Label
  after_expr t (code.Node place type kind) found = after_kind t place kind found

  pub after_kind : Tally → Place → Kind → List Label → List Label
  after_kind t place (code.Field a k) found = after_expr t a found
  after_kind t place (code.Index a i) found = after_expr t i (after_expr t a found)
  after_kind t place (code.Length a) found = after_expr t a found
  after_kind t place (code.Unary op a) found = after_expr t a found
  after_kind t place (code.Binary op a b) found = after_expr t b (after_expr t a found)
  after_kind t place (code.Cond c a b) found = after_expr t b (after_expr t a (after_expr t c found))
  after_kind t place (code.Convert a) found = after_expr t a found
  after_kind t place (code.Call f args) found = after_all t args (found ++ call_checks t place f)
  after_kind t place (code.Outside how target value args results) found = after_all t args (after_maybe t value (after_expr t target (found ++ outside_checks t place)))
  after_kind t place (code.Push a value) found = after_maybe t value (after_expr t a found)
  after_kind t place (code.Pop a) found = after_expr t a found
  after_kind t place (code.Make fields) found = after_all t fields found
  after_kind t place (code.NewArray n) found = after_expr t n found
  after_kind t place (code.Copy to a) found = after_expr t a found
  after_kind t place (code.Old a) found = after_expr t a found
  after_kind t place _ found = found

  pub after_all : Tally → Exprs → List Label → List Label
  after_all t code.Nil found = found
  after_all t (code.Cons e es) found = after_all t es (after_expr t e found)

  pub after_maybe : Tally → Maybe → List Label → List Label
  after_maybe t code.Nothing found = found
  after_maybe t (code.Just e) found = after_expr t e found

abbrev mutual
  pub after_stmt : Tally → Stmt → List Label → List Label
  after_stmt t (code.Numbered n place act) found = after_act t place act found

  pub after_act : Tally → Place → Act → List Label → List Label
  after_act t place (code.Set a e) found = after_expr t e (after_expr t a found)
  after_act t place (code.Update a op e) found = after_expr t e (after_expr t a found)
  after_act t place (code.Delete a) found = after_expr t a found
  after_act t place (code.Do e) found = after_expr t e found
  after_act t place (code.Many slots e) found = after_expr t e found
  after_act t place (code.If arms otherwise) found = after_body t otherwise (after_arms t arms found)
  after_act t place (code.Loop notes test body update) found = after_body t update (after_body t body (after_expr t test (found ++ loop_checks t place (length notes))))
  after_act t place (code.Return values) found = after_all t (exprs values) found
  after_act t place (code.Require e) found = after_expr t e found
  after_act t place (code.Assert e) found = after_expr t e (found ++ assert_check t place)
  after_act t place (code.Revert values) found = after_all t (exprs values) found
  after_act t place (code.Emit values) found = after_all t (exprs values) found
  after_act t place (code.Frame body) found = after_body t body found
  after_act t place _ found = found

  pub after_body : Tally → Stmts → List Label → List Label
  after_body t code.Done found = found
  after_body t (code.Then s ss) found = after_body t ss (after_stmt t s found)

  pub after_arms : Tally → Arms → List Label → List Label
  after_arms t code.NoArm found = found
  after_arms t (code.Arm test body more) found = after_arms t more (after_body t body (after_expr t test found))

-- a condition and what it guards
abbrev pub after_arm : Tally → OneArm → List Label → List Label
after_arm t a found = after_body t a.body (after_expr t a.test found)

abbrev pub after_modifier : Tally → Option plain.Modifier → List Label → List Label
after_modifier t (Some m) found = after_body t m.body found
after_modifier t None found = found

abbrev pub after_uses : Tally → List plain.Modifier → List Use → List Label → List Label
after_uses t mods [] found = found
after_uses t mods (u ∷ us) found = after_uses t mods us (after_modifier t (slice_get mods u.which) (after_all t (exprs u.args) found))

abbrev pub after_text : Tally → List plain.Modifier → plain.Function → List Label → List Label
after_text t mods f found = after_body t f.body (after_uses t mods f.uses found) ++ ends_checks t f

abbrev pub after_function : Tally → List plain.Modifier → Option plain.Function → List Label → List Label
after_function t mods (Some f) found = after_text t mods f found
after_function t mods None found = found

abbrev pub after_given : Tally → List Given → List Label → List Label
after_given t [] found = found
after_given t (g ∷ gs) found = after_given t gs (after_all t (exprs g.args) found)

abbrev pub after_ctors : Tally → List plain.Constructor → List Label → List Label
after_ctors t [] found = found
after_ctors t (k ∷ ks) found = after_ctors t ks (after_body t k.body (after_given t k.base_args found))

abbrev pub after_checks : Tally → Contract → FuncId → List Label → List Label
after_checks t c Constructor found = after_ctors t c.ctors found ++ invariants_at_end t
after_checks t c (Function k) found = after_function t c.mods (slice_get c.funcs k) found
after_checks t c Gift found = found ++ invariants_at_end t
