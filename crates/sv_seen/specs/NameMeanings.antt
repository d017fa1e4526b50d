-- Believed: what a name means at a place. Hold it against Solidity's documentation, "Scoping and Declarations" and "Visibility and Getters", and docs/names.md, "Names at a place".
use Rattle.std.specs.Prelude.{ℕ, ◌+◌, Bool, true, false, nat_eq, cond, ◌&&◌, ◌||◌, Option, Some, None, List, [], ◌∷◌, slice_get, codes, bytes_eq}
use Rattle.sv_decl.specs.declared.data.Declaration.{Declaration}
use Rattle.sv_decl.specs.declared.data.DeclarationKind.{DeclarationKind}
use Rattle.sv_decl.specs.declared.data.DeclarationKind.TheVariants as kind
use Rattle.sv_decl.specs.declared.data.DeclaredContract.{DeclaredContract}
use Rattle.sv_decl.specs.declared.data.DeclaredText.{DeclaredText}
use Rattle.sv_decl.specs.declared.data.Word.{Word}
use Rattle.sv_decl.specs.declared.data.Word.TheVariants as word
use Rattle.sv_member.specs.declared.seen.Hit.{Hit}
use Rattle.sv_member.specs.SeenNames.{has_name, declarations_of, seen_by}
use Rattle.sv_target.specs.declared.target.Target.{Target}
use Rattle.sv_target.specs.declared.target.Target.TheVariants as means
use Rattle.sv_target.specs.TargetNumbers.{target_of}
use Rattle.sv_local_names.specs.declared.names.Local.{Local}
use Rattle.sv_local_names.specs.LocalScopes.{Locals, or_else, found}
use Rattle.sv_seen.specs.declared.outlook.Within.{Within}
use Rattle.sv_seen.specs.declared.outlook.Within.TheVariants as within
use Rattle.sv_seen.specs.declared.outlook.Outlook.{Outlook}
use Rattle.sv_seen.specs.declared.wanted.Wanted.{Wanted}
use Rattle.sv_seen.specs.declared.wanted.Wanted.TheVariants as wanted

-- ---- in contracts: an external function can't be named by its name alone

abbrev pub is_external_word : Word → Bool
is_external_word word.External = true
is_external_word w = false

abbrev pub has_external : List Word → Bool
has_external [] = false
has_external (w ∷ ws) = is_external_word w || has_external ws

abbrev pub is_external : DeclarationKind → Bool
is_external (kind.Callable s) = has_external s.words
is_external k = false

abbrev pub meant : DeclaredText → Declaration → Option Target
meant text d = cond (is_external d.kind) None (target_of text d)

abbrev pub meant_there : DeclaredText → Option Declaration → Option Target
meant_there text None = None
meant_there text (Some d) = meant text d

abbrev pub meant_at : DeclaredText → Hit → Option Target
meant_at text h = meant_there text (slice_get (declarations_of text.contracts h.contract) h.at)

-- by the last of these that can be named
abbrev pub last_meant : DeclaredText → List Hit → Option Target
last_meant text [] = None
last_meant text (h ∷ hs) = or_else (last_meant text hs) (meant_at text h)

-- what contract c means by the name, where it sees the names of these contracts, the most derived last
abbrev pub in_contract : DeclaredText → List ℕ → ℕ → ℕ → Option Target
in_contract text line c name = last_meant text (seen_by text.contracts c name line)

-- ---- outside of all contracts

-- the first contract of the name, of contracts of which the first has this number
abbrev pub contract_from : ℕ → ℕ → List DeclaredContract → Option ℕ
contract_from name n [] = None
contract_from name n (c ∷ cs) = cond (nat_eq c.name name) (Some n) (contract_from name (n + 1) cs)

abbrev pub outside_named : DeclaredText → ℕ → List Declaration → Option Target
outside_named text name [] = None
outside_named text name (d ∷ ds) = cond (has_name name d) (target_of text d) (outside_named text name ds)

abbrev pub of_contract : Option ℕ → Option Target
of_contract None = None
of_contract (Some c) = Some (means.Contract c)

abbrev pub in_text : DeclaredText → ℕ → Option Target
in_text text name = or_else (of_contract (contract_from name 0 text.contracts)) (outside_named text name text.outside)

-- ---- what is built in

abbrev pub is_plain : List ℕ → Bool
is_plain text = bytes_eq text (codes "msg") || (bytes_eq text (codes "block") || (bytes_eq text (codes "require") || (bytes_eq text (codes "assert") || bytes_eq text (codes "revert"))))

-- the value at the entry of the function
abbrev pub is_old : List ℕ → Bool
is_old text = bytes_eq text (codes "__verifier_old_uint") || (bytes_eq text (codes "__verifier_old_int") || (bytes_eq text (codes "__verifier_old_bool") || bytes_eq text (codes "__verifier_old_address")))

-- the sum over a mapping
abbrev pub is_sum : List ℕ → Bool
is_sum text = bytes_eq text (codes "__verifier_sum_uint") || bytes_eq text (codes "__verifier_sum_int")

-- in annotations there is more
abbrev pub is_builtin : Bool → List ℕ → Bool
is_builtin in_annotation text = is_plain text || (in_annotation && (is_old text || is_sum text))

-- ---- at a place

-- what is around
pub record Surroundings : Type 0 where
  pub text : DeclaredText
  -- none outside of all contracts
  pub contract : Option ℕ
  -- the contracts whose names the contract sees, the most derived last
  pub line : List ℕ
  pub locals : Locals
  pub within : Within

abbrev pub is_annotation : Within → Bool
is_annotation within.Code = false
is_annotation within.Annotation = true
is_annotation within.Entry = true

-- results have no value yet
abbrev pub hides_results : Within → Bool
hides_results within.Code = false
hides_results within.Annotation = false
hides_results within.Entry = true

abbrev pub builtin : Within → ℕ → List ℕ → Option Target
builtin w name spelling = cond (is_builtin (is_annotation w) spelling) (Some (means.Builtin name)) None

abbrev pub in_optional : DeclaredText → List ℕ → Option ℕ → ℕ → Option Target
in_optional text line None name = None
in_optional text line (Some c) name = in_contract text line c name

abbrev pub around : Surroundings → ℕ → Option Target
around s name = in_optional s.text s.line s.contract name

-- of a name that no local has
abbrev pub outer : Surroundings → ℕ → List ℕ → Option Target
outer s name spelling = or_else (around s name) (or_else (in_text s.text name) (builtin s.within name spelling))

-- a result is unknown at the entry, whatever else has its name
abbrev pub local_or : Within → Option Target → Option Local → Option Target
local_or w t None = t
local_or w t (Some l) = cond (l.is_result && hides_results w) None (Some (means.Local l.number))

-- what a name with this spelling means there, the innermost first; none where it is unknown
abbrev pub seen : Surroundings → ℕ → List ℕ → Option Target
seen s name spelling = local_or s.within (outer s name spelling) (found name s.locals)

abbrev pub surroundings : Outlook → Surroundings
surroundings o = record { text = o.text.now; contract = o.contract; line = o.line.now; locals = o.locals.now; within = o.within }

-- ---- what is wanted

abbrev pub is_type : Target → Bool
is_type (means.Contract n) = true
is_type (means.Named n) = true
is_type t = false

abbrev pub fits : Wanted → Target → Bool
fits wanted.Operand t = true
fits wanted.Type t = is_type t
fits wanted.Base (means.Contract n) = true
fits wanted.Contract (means.Contract n) = true
fits wanted.Modifier (means.Modifier n) = true
fits wanted.Event (means.Event n) = true
fits wanted.Error (means.Error n) = true
fits w t = false

-- a base is looked for outside of contracts, since it is what the contract sees by
abbrev pub looked_up : Surroundings → Wanted → ℕ → List ℕ → Option Target
looked_up s wanted.Base name spelling = in_text s.text name
looked_up s w name spelling = seen s name spelling

abbrev pub fitting : Wanted → Option Target → Option Target
fitting w None = None
fitting w (Some t) = cond (fits w t) (Some t) None

-- what a name means that stands there as this; none where it is unknown, or means something of another kind
abbrev pub named : Surroundings → Wanted → ℕ → List ℕ → Option Target
named s w name spelling = fitting w (looked_up s w name spelling)
