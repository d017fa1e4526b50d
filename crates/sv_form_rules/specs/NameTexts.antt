-- Believed: the text of a name; one that isn't in the list has an empty text. Hold it against `Names` of `sv_text`.
use Rattle.std.specs.Prelude.{ℕ, List, [], slice_index_or}

abbrev pub text_of : List (List ℕ) → ℕ → List ℕ
text_of names n = slice_index_or names n []
