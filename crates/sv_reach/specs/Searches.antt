-- Serves the proof: what entering nodes does to a search.
use Rattle.std.specs.Prelude.{ℕ, true, cond, List, [], ◌∷◌, ◌++◌, slice_index_or, slice_set}
use Rattle.sv_reach.specs.declared.reach.Search.{Search}

-- a number that is no node counts as met
abbrev pub entered : ℕ → Search → Search
entered a s = cond (slice_index_or s.met a true) s (record { met = slice_set s.met a true; waiting = s.waiting ++ a ∷ [] })

abbrev pub all_entered : List ℕ → Search → Search
all_entered [] s = s
all_entered (a ∷ as') s = all_entered as' (entered a s)
