-- Believed: what the name of each declaration means, by number: how many declarations of its kind begin before it in the text. Hold it against `src/target.rt`.
use Rattle.std.specs.Prelude.{ℕ, ◌+◌, Bool, true, false, nat_lt, ◌&&◌, Option, Some, None, List, map}
use Rattle.std.specs.List.{count_by, sum}
use Rattle.sv_decl.specs.declared.data.Callable.{Callable}
use Rattle.sv_decl.specs.declared.data.Callable.TheVariants as callable
use Rattle.sv_decl.specs.declared.data.Declaration.{Declaration}
use Rattle.sv_decl.specs.declared.data.DeclarationKind.{DeclarationKind}
use Rattle.sv_decl.specs.declared.data.DeclarationKind.TheVariants as kind
use Rattle.sv_decl.specs.declared.data.DeclaredContract.{DeclaredContract}
use Rattle.sv_decl.specs.declared.data.DeclaredText.{DeclaredText}
use Rattle.sv_target.specs.declared.target.Counted.{Counted}
use Rattle.sv_target.specs.declared.target.Counted.TheVariants as with
use Rattle.sv_target.specs.declared.target.Target.{Target}
use Rattle.sv_target.specs.declared.target.Target.TheVariants as means
use Rattle.sv_target.specs.declared.target.Targets.{Targets}

-- ---- what is counted together

-- a constructor, `receive` and `fallback` can't be named
abbrev pub counted_callable : Callable → Option Counted
counted_callable callable.Function = Some with.Functions
counted_callable callable.Modifier = Some with.Modifiers
counted_callable callable.Constructor = None
counted_callable callable.Special = None

abbrev pub counted : DeclarationKind → Option Counted
counted (kind.Variable of_type words value) = Some with.Variables
counted (kind.Callable s) = counted_callable s.callable
counted (kind.Struct fields) = Some with.StructsAndEnums
counted (kind.Enum names) = Some with.StructsAndEnums
counted (kind.Event params) = Some with.Events
counted (kind.Error params) = Some with.Errors

abbrev pub is_same : Counted → Counted → Bool
is_same with.Variables with.Variables = true
is_same with.Functions with.Functions = true
is_same with.Modifiers with.Modifiers = true
is_same with.StructsAndEnums with.StructsAndEnums = true
is_same with.Events with.Events = true
is_same with.Errors with.Errors = true
is_same a b = false

-- ---- how many begin before this byte

abbrev pub is_counted : Counted → Option Counted → Bool
is_counted k None = false
is_counted k (Some own) = is_same own k

abbrev pub is_earlier : Counted → ℕ → Declaration → Bool
is_earlier k byte d = is_counted k (counted d.kind) && nat_lt d.spot.span.from byte

abbrev pub earlier_in : Counted → ℕ → List DeclaredContract → ℕ
earlier_in k byte contracts = sum (map (λ (c : DeclaredContract). count_by (is_earlier k byte) c.declarations) contracts)

abbrev pub number_of : DeclaredText → Counted → ℕ → ℕ
number_of text k byte = earlier_in k byte text.contracts + count_by (is_earlier k byte) text.outside

-- ---- what names mean

abbrev pub target : Counted → ℕ → Target
target with.Variables n = means.Var n
target with.Functions n = means.Func n
target with.Modifiers n = means.Modifier n
target with.StructsAndEnums n = means.Named n
target with.Events n = means.Event n
target with.Errors n = means.Error n

abbrev pub numbered : DeclaredText → ℕ → Option Counted → Option Target
numbered text byte None = None
numbered text byte (Some k) = Some (target k (number_of text k byte))

abbrev pub target_of : DeclaredText → Declaration → Option Target
target_of text d = numbered text d.spot.span.from (counted d.kind)

abbrev pub targets_inside : DeclaredText → List DeclaredContract → List (List (Option Target))
targets_inside text = map (λ c. map (target_of text) c.declarations)

-- of each declaration of the table
abbrev pub targets : DeclaredText → Targets
targets text = record { inside = targets_inside text text.contracts; outside = map (target_of text) text.outside }
