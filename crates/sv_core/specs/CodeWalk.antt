-- Serves the proof: what walks over Rust's values add to the labels and the texts that there are.
use Rattle.std.specs.Prelude.{ℕ, List, ◌++◌, Option, option_map, map, slice_get}
use Rattle.sv_text.specs.declared.place.Place.{Place}
use Rattle.sv_core.specs.declared.contract.Core.{Core}
use Rattle.sv_core.specs.declared.contract.FuncInfo.{FuncInfo}
use Rattle.sv_core.specs.declared.contract.CtorInfo.{CtorInfo}
use Rattle.sv_core.specs.declared.contract.BaseArgs.{BaseArgs}
use Rattle.sv_core.specs.declared.contract.ModInfo.{ModInfo}
use Rattle.sv_core.specs.declared.contract.ModUse.{ModUse}
use Rattle.sv_core.specs.declared.expr.CExpr.{CExpr}
use Rattle.sv_core.specs.declared.expr.CKind.{CKind}
use Rattle.sv_core.specs.declared.label.FuncId.{FuncId}
use Rattle.sv_core.specs.declared.label.Label.{Label}
use Rattle.sv_core.specs.declared.stat.Stat.{Stat}
use Rattle.sv_core.specs.declared.stat.Arm.{Arm}
use Rattle.sv_core.specs.declared.stat.StatKind.{StatKind}
use Rattle.sv_core.specs.declared.tally.Tally.{Tally}
use Rattle.sv_core.specs.PlainCode.{maybe, arms, plain_expr, plain_kind, plain_stat, plain_act, plain_arm}
use Rattle.sv_core.specs.PlainCore.{plain_core, plain_func, plain_ctor, plain_given, plain_mod, plain_use}
use Rattle.sv_core.specs.LabelTexts.{defined_by, text_of_function}
use Rattle.sv_core.specs.Checks.{ends_checks}
use Rattle.sv_core.specs.CheckWalk.{after_kind, after_maybe, after_stmt, after_act, after_arm, after_arms, after_modifier, after_uses, after_text, after_function, after_given, after_ctors, after_checks}

-- ---- labels

abbrev pub with_kind : Tally → Place → CKind → List Label → List Label
with_kind t place kind = after_kind t place (plain_kind kind)

abbrev pub with_maybe : Tally → Option CExpr → List Label → List Label
with_maybe t e = after_maybe t (maybe (option_map plain_expr e))

abbrev pub with_stat : Tally → Stat → List Label → List Label
with_stat t s = after_stmt t (plain_stat s)

abbrev pub with_act : Tally → Place → StatKind → List Label → List Label
with_act t place kind = after_act t place (plain_act kind)

abbrev pub with_arm : Tally → Arm → List Label → List Label
with_arm t arm = after_arm t (plain_arm arm)

abbrev pub with_arms : Tally → List Arm → List Label → List Label
with_arms t list = after_arms t (arms (map plain_arm list))

abbrev pub with_mod : Tally → List ModInfo → ℕ → List Label → List Label
with_mod t mods which = after_modifier t (slice_get (map plain_mod mods) which)

abbrev pub with_use : Tally → List ModInfo → List ModUse → List Label → List Label
with_use t mods uses = after_uses t (map plain_mod mods) (map plain_use uses)

abbrev pub with_ends : Tally → FuncInfo → List Label → List Label
with_ends t f found = found ++ ends_checks t (plain_func f)

abbrev pub with_text : Tally → List ModInfo → FuncInfo → List Label → List Label
with_text t mods f = after_text t (map plain_mod mods) (plain_func f)

abbrev pub with_function : Tally → Core → ℕ → List Label → List Label
with_function t c k = after_function t (map plain_mod c.mods) (slice_get (map plain_func c.funcs) k)

abbrev pub with_given : Tally → List BaseArgs → List Label → List Label
with_given t given = after_given t (map plain_given given)

abbrev pub with_ctors : Tally → List CtorInfo → List Label → List Label
with_ctors t ctors = after_ctors t (map plain_ctor ctors)

abbrev pub with_checks : Tally → Core → FuncId → List Label → List Label
with_checks t c f = after_checks t (plain_core c) f

-- ---- texts

abbrev pub function_name : List (List ℕ) → Core → ℕ → List ℕ
function_name names c k = text_of_function names (plain_core c) (slice_get (map plain_func c.funcs) k)

abbrev pub owner_name : List (List ℕ) → Core → FuncInfo → List ℕ
owner_name names c f = defined_by names (plain_core c) (plain_func f)
