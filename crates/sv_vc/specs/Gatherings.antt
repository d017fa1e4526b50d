-- Serves the proof: the conjunction of the formulas of each label.
use Rattle.std.specs.Prelude.{◌+◌, ◌≤◌, List, [], ◌∷◌, ◌≡◌, length, map, IfOk, Result, Option, true}
use Rattle.std.specs.Option.{unwrap_or}
use Rattle.sv_text.specs.declared.no_memory.NoMemory.{NoMemory}
use Rattle.sv_core.specs.declared.label.Label.{Label}
use Rattle.sv_term.specs.Terms.{Truth}
use Rattle.sv_term.specs.Banks.{Nodes, IsBool, AreTerms, Keeps, Stands, term}
use Rattle.sv_term.specs.declared.node.TermId.{TermId}
use Rattle.sv_vc.specs.declared.answer.Condition.{Condition}
use Rattle.sv_vc.specs.Conjunctions.{conjunction_of}
use Rattle.sv_vc.specs.ConditionWalk.{Found, formulas}
use Rattle.sv_vc.specs.CodeStates.{formulas_of, found_of, AllBool}

-- what is held for a label, where `nothing` is `true`
abbrev pub held : (Label → Option TermId) → TermId → Label → TermId
held m nothing l = unwrap_or (m l) nothing

pub record MayGather (b : Nodes) (found : List Condition) (nothing : TermId) : Type 0 where
  pub nothing_is : Stands b nothing (Truth true)
  pub within : AreTerms b (formulas_of found)
  pub truths : AllBool (found_of b found)

-- a term is the conjunction of the formulas of the label
pub record IsConjunction (b : Nodes) (fs : List Found) (l : Label) (k : TermId) : Type 0 where
  pub truth : IsBool b k
  pub is : term b k ≡ conjunction_of (formulas l fs)

pub record IsHeld (b : Nodes) (m : Label → Option TermId) (nothing : TermId) (fs : List Found) : Type 0 where
  pub at : (l : Label) → IsConjunction b fs l (held m nothing l)

pub record Gathers (old : Nodes) (found : List Condition) (nothing : TermId) (m : Label → Option TermId) (new : Nodes) : Type 0 where
  pub holds : IsHeld new m nothing (found_of old found)
  pub size : length new.nodes ≤ length old.nodes + length found

abbrev pub AllConjunctions : Nodes → List Found → List Condition → Type 0
AllConjunctions b fs [] = Unit {0}
AllConjunctions b fs (c ∷ cs) = IsConjunction b fs c.label c.formula × AllConjunctions b fs cs

abbrev pub labels_of : List Condition → List Label
labels_of cs = map (λ c. c.label) cs

pub record Lists (old : Nodes) (labels : List Label) (found : List Condition) (r : Result (List Condition) NoMemory) (new : Nodes) : Type 0 where
  pub kept : Keeps old new
  pub labels_are : IfOk r (λ cs. labels_of cs ≡ labels)
  pub conjunctions : IfOk r (λ cs. AllConjunctions new (found_of old found) cs)
  pub size : IfOk r (λ cs. length new.nodes ≤ length old.nodes + length found)
