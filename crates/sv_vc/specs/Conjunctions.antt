-- Serves the proof: the conjunction of a list of terms.
use Rattle.std.specs.Prelude.{true, List, [], ◌∷◌}
use Rattle.sv_term.specs.Terms.{Term, Truth, And}

abbrev pub all_after : Term → List Term → Term
all_after x [] = x
all_after x (y ∷ ys) = all_after (And x y) ys

abbrev pub conjunction_of : List Term → Term
conjunction_of ys = all_after (Truth true) ys
