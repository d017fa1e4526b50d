-- Believed: when a function stays without a body in a contract that can be made. Hold it against the rule Abstract of docs/language.md.
use Rattle.std.specs.Prelude.{ℕ, ◌+◌, Bool, true, false, nat_eq, not, cond, ◌&&◌, ◌||◌, Option, Some, None, List, [], ◌∷◌, slice_get}
use Rattle.sv_decl.specs.declared.data.Callable.{Callable}
use Rattle.sv_decl.specs.declared.data.Callable.TheVariants as callable
use Rattle.sv_decl.specs.declared.data.Declaration.{Declaration}
use Rattle.sv_decl.specs.declared.data.DeclarationKind.{DeclarationKind}
use Rattle.sv_decl.specs.declared.data.DeclarationKind.TheVariants as kind
use Rattle.sv_decl.specs.declared.data.DeclaredContract.{DeclaredContract}
use Rattle.sv_decl.specs.declared.data.Standing.{Standing}
use Rattle.sv_decl.specs.declared.data.Standing.TheVariants as standing
use Rattle.sv_decl.specs.declared.data.Word.{Word}
use Rattle.sv_decl.specs.declared.data.Word.TheVariants as word

-- ---- functions and public variables by name

abbrev pub is_public_word : Word → Bool
is_public_word word.Public = true
is_public_word word.Private = false
is_public_word word.Internal = false
is_public_word word.External = false
is_public_word word.Pure = false
is_public_word word.View = false
is_public_word word.Payable = false
is_public_word word.Virtual = false
is_public_word word.Override = false
is_public_word word.Constant = false
is_public_word word.Immutable = false

abbrev pub has_public : List Word → Bool
has_public [] = false
has_public (w ∷ ws) = is_public_word w || has_public ws

abbrev pub is_function : Callable → Bool
is_function callable.Function = true
is_function callable.Constructor = false
is_function callable.Special = false
is_function callable.Modifier = false

abbrev pub is_function_kind : DeclarationKind → Bool
is_function_kind (kind.Callable s) = is_function s.callable
is_function_kind (kind.Variable of_type words value) = false
is_function_kind (kind.Struct fields) = false
is_function_kind (kind.Enum names) = false
is_function_kind (kind.Event params) = false
is_function_kind (kind.Error params) = false

abbrev pub is_public_variable : DeclarationKind → Bool
is_public_variable (kind.Variable of_type words value) = has_public words
is_public_variable (kind.Callable s) = false
is_public_variable (kind.Struct fields) = false
is_public_variable (kind.Enum names) = false
is_public_variable (kind.Event params) = false
is_public_variable (kind.Error params) = false

abbrev pub is_name : ℕ → Option ℕ → Bool
is_name name None = false
is_name name (Some n) = nat_eq n name

abbrev pub has_name : ℕ → Declaration → Bool
has_name name d = is_name name d.name

abbrev pub declares_function : ℕ → List Declaration → Bool
declares_function name [] = false
declares_function name (d ∷ ds) = (has_name name d && is_function_kind d.kind) || declares_function name ds

abbrev pub declares_public : ℕ → List Declaration → Bool
declares_public name [] = false
declares_public name (d ∷ ds) = (has_name name d && is_public_variable d.kind) || declares_public name ds

abbrev pub declared_in : Option DeclaredContract → List Declaration
declared_in None = []
declared_in (Some c) = c.declarations

abbrev pub declarations_of : List DeclaredContract → ℕ → List Declaration
declarations_of contracts c = declared_in (slice_get contracts c)

-- ---- along a line, which goes from the most basic contract to the most derived

-- the last contract of the line that declares a function of the name, or the one from before
abbrev pub last_from : List DeclaredContract → ℕ → Option ℕ → List ℕ → Option ℕ
last_from contracts name before [] = before
last_from contracts name before (c ∷ cs) = last_from contracts name (cond (declares_function name (declarations_of contracts c)) (Some c) before) cs

abbrev pub has_variable : List DeclaredContract → ℕ → List ℕ → Bool
has_variable contracts name [] = false
has_variable contracts name (c ∷ cs) = declares_public name (declarations_of contracts c) || has_variable contracts name cs

-- the function of the name that counts in the line is that of contract d, and no public variable has the name
abbrev pub counts_in : List DeclaredContract → ℕ → ℕ → List ℕ → Bool
counts_in contracts d name line = is_name d (last_from contracts name None line) && not (has_variable contracts name line)

abbrev pub counts_in_any : List DeclaredContract → ℕ → ℕ → Option (List ℕ) → Bool
counts_in_any contracts d name None = false
counts_in_any contracts d name (Some line) = counts_in contracts d name line

-- ---- the rule

abbrev pub is_concrete : Standing → Bool
is_concrete standing.Concrete = true
is_concrete standing.Abstract = false
is_concrete standing.Interface = false

abbrev pub is_made : Option DeclaredContract → Bool
is_made None = false
is_made (Some c) = is_concrete c.standing

-- in the line of one of the contracts from number n on that is neither abstract nor an interface
abbrev pub lacks_from : List DeclaredContract → ℕ → ℕ → ℕ → List (Option (List ℕ)) → Bool
lacks_from contracts d name n [] = false
lacks_from contracts d name n (l ∷ ls) = (is_made (slice_get contracts n) && counts_in_any contracts d name l) || lacks_from contracts d name (n + 1) ls

-- a function without a body
abbrev pub is_bodiless : DeclarationKind → Bool
is_bodiless (kind.Callable s) = is_function s.callable && not s.has_body
is_bodiless (kind.Variable of_type words value) = false
is_bodiless (kind.Struct fields) = false
is_bodiless (kind.Enum names) = false
is_bodiless (kind.Event params) = false
is_bodiless (kind.Error params) = false

abbrev pub lacks_named : List DeclaredContract → List (Option (List ℕ)) → ℕ → Option ℕ → Bool
lacks_named contracts lines d None = false
lacks_named contracts lines d (Some name) = lacks_from contracts d name 0 lines

-- a declaration of contract d breaks the rule
abbrev pub lacks_body : List DeclaredContract → List (Option (List ℕ)) → ℕ → Declaration → Bool
lacks_body contracts lines d f = is_bodiless f.kind && lacks_named contracts lines d f.name
