-- Serves the proof: how items are kept, the parts of all rows one after another.
use Rattle.std.specs.Prelude.{ℕ, ◌≤◌, List, [], ◌∷◌, ◌≡◌, map, length, slice_range, ℤ}
use Rattle.sv_log.specs.LogRows.{row}
use Rattle.sv_row.specs.RowParts.{monomials}
use Rattle.sv_force.specs.InForce.{Held, FactOn, RowOf}
use Rattle.sv_force.specs.Codes.{code_of}
use Rattle.sv_force.specs.declared.force.Kind.{Kind}
use Rattle.sv_force.specs.declared.force.Kind.TheVariants as k
use Rattle.sv_force.specs.declared.force.Slot.{Slot}

abbrev pub held_of : List (ℤ × ℕ) → Kind → Held
held_of ps (k.Fact sign term) = FactOn sign term
held_of ps (k.Row constant) = RowOf (row constant (monomials ps))

-- the item that a slot keeps
abbrev pub numbered : List (ℤ × ℕ) → Slot → Held
numbered parts s = held_of (slice_range parts s.start s.end) s.kind

abbrev pub IsSized : Kind → ℕ → ℕ → Type 0
IsSized (k.Fact sign term) start end = start ≡ end
IsSized (k.Row constant) start end = start ≤ end

-- the slots' parts stand one after another, from a place to another
abbrev pub AreStacked : ℕ → List Slot → ℕ → Type 0
AreStacked from [] to = from ≡ to
AreStacked from (s ∷ ss) to = (s.start ≡ from) × IsSized s.kind s.start s.end × AreStacked s.end ss to

pub record IsStored (parts : List (ℤ × ℕ)) (slots : List Slot) (codes : List ℕ) : Type 0 where
  pub stacked : AreStacked 0 slots (length parts)
  pub coded : codes ≡ map code_of (map (numbered parts) slots)
