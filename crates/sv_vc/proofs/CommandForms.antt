-- Commands of the code, form by form, and walks that want of memory stops.
use Rattle.std.proofs.Common.{ℕ, Bool, ◌≡◌, List, map, sym, ap, ◌∙◌, subst, Ok, Err}
use Rattle.std.specs.Prelude.{Result, IsErr}
use Rattle.sv_text.specs.declared.no_memory.NoMemory.{NoMemory}
use Rattle.sv_core.specs.declared.label.Label.{Label}
use Rattle.sv_term.specs.Sorts.{Sort}
use Rattle.sv_term.specs.Banks.{Nodes, Keeps}
use Rattle.sv_term.specs.declared.node.TermId.{TermId}
use Rattle.sv_gcl.specs.declared.command.Cmd.{Cmd}
use Rattle.sv_gcl.specs.declared.command.Cmd.TheVariants as v
use Rattle.sv_gcl.specs.declared.command.Cmd.TheOpen.{Cmd-F}
use Rattle.sv_gcl.specs.declared.command.Cmd.TheFolds.{fold-roll-Cmd}
use Rattle.sv_gcl.specs.CommandShapes.{Shape, Shapes, Assume, Check, Set, Forget, Seq, Choice, shape, shaped, layer}
use Rattle.sv_vc.specs.declared.state.Scope.{Scope}
use Rattle.sv_vc.specs.declared.state.State.{State}
use Rattle.sv_vc.specs.CodeStates.{IsMade, AreMade, Walks, WalksAny}

pub assume_shape : (f : TermId) → shape (v.Assume f) ≡ Assume f
assume_shape f = ap shape (sym (v.rolls-Assume f)) ∙ fold-roll-Cmd Shape layer (Cmd-F.Assume f)

pub check_shape : (l : Label) (f : TermId) → shape (v.Check l f) ≡ Check l f
check_shape l f = ap shape (sym (v.rolls-Check l f)) ∙ fold-roll-Cmd Shape layer (Cmd-F.Check l f)

pub set_shape : (x : ℕ) (t : TermId) → shape (v.Set x t) ≡ Set x t
set_shape x t = ap shape (sym (v.rolls-Set x t)) ∙ fold-roll-Cmd Shape layer (Cmd-F.Set x t)

pub forget_shape : (x : ℕ) → shape (v.Forget x) ≡ Forget x
forget_shape x = ap shape (sym (v.rolls-Forget x)) ∙ fold-roll-Cmd Shape layer (Cmd-F.Forget x)

pub seq_shape : (cs : List Cmd) → shape (v.Seq cs) ≡ Seq (shaped (map shape cs))
seq_shape cs = ap shape (sym (v.rolls-Seq cs)) ∙ fold-roll-Cmd Shape layer (Cmd-F.Seq cs)

pub choice_shape : (cs : List Cmd) → shape (v.Choice cs) ≡ Choice (shaped (map shape cs))
choice_shape cs = ap shape (sym (v.rolls-Choice cs)) ∙ fold-roll-Cmd Shape layer (Cmd-F.Choice cs)

pub seq_made : (b : Nodes) (vars : List Sort) (xs : Shapes) → IsMade b vars (Seq xs) → AreMade b vars xs
seq_made b vars xs m = record { within = m.within; formed = m.formed; fitting = m.fitting }

pub choice_made : (b : Nodes) (vars : List Sort) (xs : Shapes) → IsMade b vars (Choice xs) → AreMade b vars xs
choice_made b vars xs m = record { within = m.within; formed = m.formed; fitting = m.fitting }

-- the same walk of the same command
pub walked_as : {old new : Nodes} {scope : Scope} {x y : Shape} {before : TermId} {s t : State} {r : Result TermId NoMemory} → x ≡ y → Walks old scope y before s r new t → Walks old scope x before s r new t
walked_as {old} {new} {scope} {x} {y} {before} {s} {t} {r} e w = subst (λ z. Walks old scope z before s r new t) (sym e) w

pub stopped : (old new : Nodes) (scope : Scope) (x : Shape) (before : TermId) (s t : State) (r : Result TermId NoMemory) → IsErr r → Keeps old new → Walks old scope x before s r new t
stopped old new scope x before s t (Err e) h k = record { kept = k; gives = tt; size = tt; extends = tt }
stopped old new scope x before s t (Ok y) h k = absurd (cc h)

pub stopped_any : (old new : Nodes) (scope : Scope) (xs : Shapes) (before : TermId) (s t : State) (marks : List Bool) (env joined : List TermId) (r : Result TermId NoMemory) → IsErr r → Keeps old new → WalksAny old scope xs before s marks env joined r new t
stopped_any old new scope xs before s t marks env joined (Err e) h k = record { kept = k; gives = tt; size = tt; extends = tt }
stopped_any old new scope xs before s t marks env joined (Ok y) h k = absurd (cc h)
