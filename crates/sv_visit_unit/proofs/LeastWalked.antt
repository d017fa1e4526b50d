-- The answer of a group behind a walk over a text.
use Rattle.std.proofs.Common.{◌≡◌, Result, Ok, Err, OnOk, sym, subst, ap, ◌∙◌}
use Rattle.sv_book.specs.Walks.{Walk}
use Rattle.sv_book.specs.Books.{Book, Least, Orders, seen}
use Rattle.sv_book.specs.Visits.{State, Walked, visit, begun}
use Rattle.sv_book.proofs.Finds.{least_found}

pub least_walked : {C S K F E : Type 0} (book : Book C S K F) (orders : Orders book.table.first) (w : Walk S) (r : Result (Unit {0}) E) (before after : State C F) → before ≡ begun before.known → Walked book w r before after → OnOk r (Least book.table (seen book before.known w) after.least)
least_walked book orders w (Ok u) before after begins walked = subst (λ st. Least book.table (seen book before.known w) st.least) (sym (walked ∙ ap (visit book w) begins)) (least_found book orders before.known w)
least_walked book orders w (Err e) before after begins walked = tt
