-- Believed: what the law of passes says. Hold it against the sentence above it.
use Rattle.sv_book.specs.Walks.{Walk}
use Rattle.sv_book.specs.Books.{Book, Least, Orders, seen}
use Rattle.sv_book.specs.Visits.{visit, begun}

-- a pass that begins where nothing was broken ends with the answer of the group, wherever the faults are ordered
abbrev pub LeastIsFound : {C S K F : Type 0} → Book C S K F → Type 0
LeastIsFound {C = C} {S = S} book = Orders book.table.first → (c : C) (w : Walk S) → Least book.table (seen book c w) (visit book w (begun c)).least
