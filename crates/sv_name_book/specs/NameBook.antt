-- Believed: what each node of a text changes of what is known of names, and when it names something unknown. Hold it against docs/names.md, "Names at a place", and Solidity's documentation, "Scoping and Declarations": which node opens a scope, and behind which node a name is seen.
use Rattle.std.specs.Prelude.{ℕ, Bool, true, false, cond, not, ◌&&◌, Option, Some, None, List, [], ◌∷◌, length, codes, bytes_eq}
use Rattle.std.specs.Option.{is_some}
use Rattle.sv_ast.specs.declared.contract.Params.{Params}
use Rattle.sv_ast.specs.declared.simple.SlotKind.{SlotKind}
use Rattle.sv_ast.specs.declared.simple.SlotKind.TheVariants as slot
use Rattle.sv_plain.specs.PlainExprs.{Kind, PlainForm}
use Rattle.sv_plain.specs.PlainStmts.{Stmt, Stated, StmtForm, For}
use Rattle.sv_book.specs.Books.{Book, Table, Seen}
use Rattle.sv_rule.specs.declared.fault.Rule.{Rule}
use Rattle.sv_rule.specs.declared.fault.Rule.TheVariants as rule
use Rattle.sv_rule.specs.declared.fault.Fault.{Fault}
use Rattle.sv_rule.specs.RuleFaults.{first}
use Rattle.sv_visit.specs.Sites.{Site, Expression, PlainUse, Annotation, Declaring, Filling, Stating, Bracing, Bare, OfContract, OfFunction, OfConstructor, OfSpecial, OfModifier, OfParam, OfOver}
use Rattle.sv_annotation.specs.Openings.{calls_old}
use Rattle.sv_form_book.specs.SitePlaces.{site_place}
use Rattle.sv_seen.specs.declared.outlook.Within.{Within}
use Rattle.sv_seen.specs.declared.outlook.Within.TheVariants as within_is
use Rattle.sv_seen.specs.declared.wanted.Wanted.TheVariants as wanted
use Rattle.sv_naming.specs.NamesKnown.{Known, contract_entered, contract_left, function_entered, param_declared, local_declared, scope_entered, scope_left, note_entered, note_left, entry_entered, entry_left, text_of, meaning, used, has_type}
use Rattle.sv_name_book.specs.declared.uses.TypeNames.{TypeNames}
use Rattle.sv_name_book.specs.declared.uses.Use.{Use}
use Rattle.sv_name_book.specs.NameUses.{use_at, plain_use, plain_names}

-- ---- what the parts of a node know

abbrev pub is_for_form : StmtForm → Bool
is_for_form (For notes keyword start condition step body) = true
is_for_form s = false

-- its header is a scope
abbrev pub is_for : Stmt → Bool
is_for (Stated at form) = is_for_form form

abbrev pub params_count : Option Params → ℕ
params_count None = 0
params_count (Some p) = length p.params

abbrev pub note_within : List ℕ → Within
note_within word = cond (bytes_eq word (codes "precondition")) within_is.Entry within_is.Annotation

-- what stands in an expression that begins with a call of `old` speaks of the entry
abbrev pub old_entered : Kind → Known → Known
old_entered kind k = cond (calls_old k.names kind) (entry_entered k) k

-- a contract, a function with its parameters and results, a block, the header of a `for` and a body without braces are scopes; an annotation, and a call of
-- `old`, change what is seen
abbrev pub within : Known → Site → Known
within k (OfContract c) = contract_entered k
within k (OfFunction f) = function_entered (length f.params.params) false k
within k (OfConstructor f) = function_entered (length f.params.params) true k
within k (OfSpecial f) = function_entered 0 false k
within k (OfModifier m) = function_entered (params_count m.params) false k
within k (Annotation n) = note_entered (note_within (text_of k.names n.word)) k
within k (Expression role at kind) = old_entered kind k
within k (Stating s) = cond (is_for s) (scope_entered k) k
within k (Bracing b) = scope_entered k
within k (Bare s) = scope_entered k
within k s = k

-- ---- what is known behind a node

abbrev pub slot_declared : Option SlotKind → Known → Known
slot_declared (Some (slot.Decl of_type location name)) k = local_declared name k
slot_declared s k = k

abbrev pub old_left : Kind → Known → Known
old_left kind k = cond (calls_old k.names kind) (entry_left k) k

abbrev pub changed : Site → Known → Known
changed (OfContract c) k = contract_left k
changed (OfFunction f) k = scope_left k
changed (OfConstructor f) k = scope_left k
changed (OfSpecial f) k = scope_left k
changed (OfModifier m) k = scope_left k
changed (OfParam p) k = param_declared p.name k
changed (Declaring d) k = local_declared d.name k
changed (Filling s) k = slot_declared s.kind k
changed (Annotation n) k = note_left k
changed (Expression role at kind) k = old_left kind k
changed (Stating s) k = cond (is_for s) (scope_left k) k
changed (Bracing b) k = scope_left k
changed (Bare s) k = scope_left k
changed s k = k

abbrev pub optional_used : Option Use → Known → Known
optional_used None k = k
optional_used (Some u) k = used u.wanted u.name u.at k

-- the name that a node uses is noted, with what it means
abbrev pub past : Known → Site → Known
past k s = changed s (optional_used (use_at k.in_constructor s) k)

-- ---- when something is unknown

abbrev pub is_use_known : Known → Option Use → Bool
is_use_known k None = true
is_use_known k (Some u) = is_some (meaning k u.wanted u.name)

abbrev pub are_contracts : Known → List ℕ → Bool
are_contracts k [] = true
are_contracts k (n ∷ ns) = is_some (meaning k wanted.Contract n) && are_contracts k ns

abbrev pub is_type_known : Known → Option TypeNames → Bool
is_type_known k None = true
is_type_known k (Some t) = has_type k t.contract t.member

-- of a type `C.S` both names
abbrev pub is_plain_known : Known → PlainForm → Bool
is_plain_known k p = is_use_known k (plain_use p) && is_type_known k (plain_names p)

-- the contracts in `override(A, B)` have no place of their own
abbrev pub is_known : Known → Site → Bool
is_known k (PlainUse p) = is_plain_known k p
is_known k (OfOver o) = are_contracts k o.names
is_known k s = is_use_known k (use_at k.in_constructor s)

-- ---- the rule Unknown, of names, as a group of its own

abbrev pub breaks : Rule → Seen Known Site → Bool
breaks rule.Unknown s = not (is_known s.known s.site)
breaks r s = false

abbrev pub fault : Rule → Seen Known Site → Fault
fault r s = record { rule = r; place = site_place s.site }

abbrev pub names_table : Table (Seen Known Site) Rule Fault
names_table = record { rules = rule.Unknown ∷ []; breaks = breaks; fault = fault; first = first }

abbrev pub names_book : Book Known Site Rule Fault
names_book = record { within = within; past = past; table = names_table }
