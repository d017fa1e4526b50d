-- Serves the proof: how the lists are kept, one after another.
use Rattle.std.specs.Prelude.{ℕ, ◌≤◌, List, [], ◌∷◌, ◌≡◌, slice_range}
use Rattle.sv_list_room.specs.declared.room.Span.{Span}

-- the list that a span keeps
abbrev pub spanned : List ℕ → Span → List ℕ
spanned numbers s = slice_range numbers s.start s.end

-- the spans stand one after another, from a place to another
abbrev pub AreStacked : ℕ → List Span → ℕ → Type 0
AreStacked from [] to = from ≡ to
AreStacked from (s ∷ ss) to = (s.start ≡ from) × (s.start ≤ s.end) × AreStacked s.end ss to
