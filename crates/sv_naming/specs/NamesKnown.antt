-- Believed: what is known of names at a place of a text, what changes it, and what a name means there. Hold it against docs/names.md, "Names at a place", and Solidity's documentation, "Scoping and Declarations".
use Rattle.std.specs.Prelude.{ℕ, ◌+◌, ◌-◌, Bool, true, false, nat_lt, nat_eq, not, cond, Option, Some, None, List, [], ◌∷◌, ◌++◌, slice_index_or}
use Rattle.sv_text.specs.declared.span.Span.{Span}
use Rattle.sv_decl.specs.declared.data.DeclaredText.{DeclaredText}
use Rattle.sv_target.specs.declared.target.Target.{Target}
use Rattle.sv_target.specs.declared.target.Target.TheVariants as means
use Rattle.sv_local_names.specs.LocalScopes.{Locals, no_locals, entered, left, declared}
use Rattle.sv_seen.specs.declared.outlook.Within.{Within}
use Rattle.sv_seen.specs.declared.outlook.Within.TheVariants as within
use Rattle.sv_seen.specs.declared.wanted.Wanted.{Wanted}
use Rattle.sv_seen.specs.declared.wanted.Wanted.TheVariants as wanted
use Rattle.sv_seen.specs.NameMeanings.{Surroundings, named, in_contract}
use Rattle.sv_naming.specs.declared.naming.Bind.{Bind}
use Rattle.sv_naming.specs.declared.naming.Naming.{Naming}

pub record Known : Type 0 where
  -- the texts of names, what the text declares, and for each contract the contracts whose names it sees
  pub names : List (List ℕ)
  pub text : DeclaredText
  pub lines : List (List ℕ)
  -- how many contracts end before the place, and whether one is around it
  pub ended : ℕ
  pub in_contract : Bool
  -- how many parameters the function has that was entered last, and whether it is a constructor
  pub params : ℕ
  pub in_constructor : Bool
  pub locals : Locals
  -- the annotation around
  pub note : Within
  -- how many values at the entry are around
  pub entries : ℕ
  -- the names so far, each with what it means
  pub binds : List Bind

abbrev pub nothing_known : List (List ℕ) → DeclaredText → List (List ℕ) → Known
nothing_known names text lines = record { names = names; text = text; lines = lines; ended = 0; in_contract = false; params = 0; in_constructor = false; locals = no_locals; note = within.Code; entries = 0; binds = [] }

abbrev pub known_of : Naming → Known
known_of n = record { names = n.names.now; text = n.text.now; lines = n.lines.now; ended = n.ended; in_contract = n.in_contract; params = n.params; in_constructor = n.in_constructor; locals = n.locals; note = n.note; entries = n.entries; binds = n.binds }

-- ---- what changes it

abbrev pub contract_entered : Known → Known
contract_entered k = record k { in_contract = true }

abbrev pub contract_left : Known → Known
contract_left k = record k { ended = k.ended + 1; in_contract = false }

-- the scope of the parameters and the results; their function has no other locals yet
abbrev pub function_entered : ℕ → Bool → Known → Known
function_entered params in_constructor k = record k { params = params; in_constructor = in_constructor; locals = entered no_locals }

-- behind the parameters of a function its results are declared
abbrev pub param_declared : Option ℕ → Known → Known
param_declared name k = record k { locals = declared name (not (nat_lt k.locals.count k.params)) k.locals }

abbrev pub local_declared : ℕ → Known → Known
local_declared name k = record k { locals = declared (Some name) false k.locals }

abbrev pub scope_entered : Known → Known
scope_entered k = record k { locals = entered k.locals }

abbrev pub scope_left : Known → Known
scope_left k = record k { locals = left k.locals }

abbrev pub note_entered : Within → Known → Known
note_entered w k = record k { note = w }

abbrev pub note_left : Known → Known
note_left k = record k { note = within.Code }

abbrev pub entry_entered : Known → Known
entry_entered k = record k { entries = k.entries + 1 }

abbrev pub entry_left : Known → Known
entry_left k = record k { entries = k.entries - 1 }

-- ---- what a name means

abbrev pub contract_of : Bool → ℕ → Option ℕ
contract_of true ended = Some ended
contract_of false ended = None

-- in an annotation what is said of the entry sees what a precondition sees; in code the word isn't special
abbrev pub within_of : Within → ℕ → Within
within_of within.Code entries = within.Code
within_of within.Entry entries = within.Entry
within_of within.Annotation entries = cond (nat_eq entries 0) within.Annotation within.Entry

abbrev pub sees : Known → ℕ → List ℕ
sees k c = slice_index_or k.lines c []

abbrev pub around : Known → Surroundings
around k = record { text = k.text; contract = contract_of k.in_contract k.ended; line = sees k k.ended; locals = k.locals; within = within_of k.note k.entries }

abbrev pub text_of : List (List ℕ) → ℕ → List ℕ
text_of names n = slice_index_or names n []

abbrev pub meaning : Known → Wanted → ℕ → Option Target
meaning k w name = named (around k) w name (text_of k.names name)

-- ---- names that are used

abbrev pub bind : Span → Option Target → List Bind
bind at None = []
bind at (Some t) = record { use_at = at; to = t } ∷ []

abbrev pub used : Wanted → ℕ → Span → Known → Known
used w name at k = record k { binds = k.binds ++ bind at (meaning k w name) }

-- ---- types of contracts, as `C.S`

abbrev pub is_named : Option Target → Bool
is_named (Some (means.Named n)) = true
is_named t = false

abbrev pub member_of : Known → ℕ → Option Target → Option Target
member_of k member (Some (means.Contract c)) = in_contract k.text (sees k c) c member
member_of k member t = None

-- the name means a contract that has a struct or an enum of the other name, its own or inherited
abbrev pub has_type : Known → ℕ → ℕ → Bool
has_type k name member = is_named (member_of k member (meaning k wanted.Contract name))
