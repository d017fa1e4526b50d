-- Believed: when a contract is safe. Hold it against the promise of a line `C: holds`, in docs/promises.md.
use Rattle.std.specs.Prelude.{ℕ, List, [], ◌∷◌}
use Rattle.sv_core.specs.PlainCore.{Contract}
use Rattle.sv_sem.specs.AnnotationTruth.{true_limits, AllHold, at_view, at_state, at_end}
use Rattle.sv_sem.specs.Adversary.{Mark, AtState, AtEnd, Broken}
use Rattle.sv_sem.specs.Histories.{History, marks_of}

-- a state meets every invariant; an end whose entry met all preconditions meets all postconditions; no assert fails
abbrev pub IsGood : Contract → ℕ → Mark → Type 0
IsGood core this (AtState s) = AllHold (true_limits core) core (at_state this s) core.invariants
IsGood core this (AtEnd f entry end) = AllHold (true_limits core) core (at_view entry) f.pre → AllHold (true_limits core) core (at_end f.params entry end) f.post
IsGood core this Broken = ⊥

abbrev pub AreGood : Contract → ℕ → List Mark → Type 0
AreGood core this [] = Unit {0}
AreGood core this (m ∷ ms) = IsGood core this m × AreGood core this ms

-- in every history every mark is good
abbrev pub Safe : Contract → Type 0
Safe core = (h : History) → AreGood core h.this (marks_of core h)
