-- Serves the proof: why a text isn't read as a contract.
use Rattle.std.specs.Prelude.{◌≡◌, ℕ, List, Option, Some, None}
use Rattle.sv_cli.specs.Due.{IsRefused}
use Rattle.sv_cli.specs.TextTrees.{IsTreeless, BeginsTree, place_behind}
use Rattle.sv_cli.specs.declared.due.Unread.{Unread}
use Rattle.sv_cli.specs.declared.due.Unread.TheVariants.{Refused, NoMemory}
use Rattle.sv_report.specs.declared.refusal.Refusal.{Refusal}
use Rattle.sv_report.specs.declared.refusal.Refusal.TheVariants as refusal
use Rattle.sv_first_form.specs.declared.form_error.FormError.{FormError}
use Rattle.sv_first_form.specs.declared.form_error.FormError.TheVariants as form
use Rattle.sv_lex.specs.Lexing.{GivesFirst, Scanned}
use Rattle.sv_lex.specs.Limits.{IsDeep, IsOut}
use Rattle.sv_lex.specs.declared.fault.LexFault.{LexFault}
use Rattle.sv_lex.specs.declared.fault.LexFault.TheVariants as lex

abbrev pub IsUnread : List ℕ → Unread → Type 0
IsUnread text (Refused why) = IsRefused text why
IsUnread text NoMemory = Unit {0}

-- the first left-out token refuses the text, or else the first deep token
abbrev pub GivesRefusal : Scanned → Option Refusal → Type 0
GivesRefusal tokens None = GivesFirst IsOut tokens None × GivesFirst IsDeep tokens None
GivesRefusal tokens (Some (refusal.Out place)) = GivesFirst IsOut tokens (Some place)
GivesRefusal tokens (Some (refusal.Deep place)) = GivesFirst IsOut tokens None × GivesFirst IsDeep tokens (Some place)
GivesRefusal tokens (Some _) = ⊥

-- the tokens have no tree, and the place is where no tree goes on
abbrev pub GivesNoTree : Scanned → Unread → Type 0
GivesNoTree tokens (Refused (refusal.Syntax place)) =
    IsTreeless tokens.source tokens.list × (reach : ℕ) × BeginsTree tokens.source tokens.list reach
    × (place ≡ place_behind tokens.source tokens.list reach)
GivesNoTree tokens (Refused _) = ⊥
GivesNoTree tokens NoMemory = Unit {0}

-- what a fault of the tokens, and a fault of the form, is for the text
abbrev pub from_lex : LexFault → Unread
from_lex lex.Long = Refused refusal.Long
from_lex (lex.Char place) = Refused (refusal.Char place)
from_lex (lex.Unclosed place) = Refused (refusal.Unclosed place)
from_lex (lex.Many place) = Refused (refusal.Many place)
from_lex lex.NoMemory = NoMemory

abbrev pub from_form : FormError → Unread
from_form form.Unbuilt = Refused refusal.Unbuilt
from_form form.NoMemory = NoMemory
