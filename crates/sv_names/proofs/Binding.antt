-- What a pass knows behind a walk is what is known behind it.
use Rattle.std.proofs.Common.{◌≡◌, ◌∙◌, refl, ap}
use Rattle.sv_book.specs.Walks.{Walk, Walks, Node, Group, End, Part}
use Rattle.sv_book.specs.Books.{Book, behind, behind_in}
use Rattle.sv_book.specs.Visits.{State, visit, visit_in, opened, begun}

mutual
  known_visited : {C S K F : Type 0} (book : Book C S K F) (w : Walk S) (st : State C F) → (visit book w st).known ≡ behind book st.known w
  known_visited book (Node s ps) st = ap (λ c. book.past c s) (known_visited_in book ps (opened book s st))
  known_visited book (Group ps) st = known_visited_in book ps st

  known_visited_in : {C S K F : Type 0} (book : Book C S K F) (ws : Walks S) (st : State C F) → (visit_in book ws st).known ≡ behind_in book st.known ws
  known_visited_in book End st = refl
  known_visited_in book (Part w ws) st = known_visited_in book ws (visit book w st) ∙ ap (λ c. behind_in book c ws) (known_visited book w st)

-- read off what is known
pub read_behind : {C S K F X : Type 0} (book : Book C S K F) (f : C → X) (w : Walk S) (c d : C) (before after : State C F) → c ≡ d → before ≡ begun c → after ≡ visit book w before → f after.known ≡ f (behind book d w)
read_behind book f w c d before after e b h = ap (λ st. f st.known) h ∙ (ap f (known_visited book w before) ∙ (ap (λ st. f (behind book st.known w)) b ∙ ap (λ k. f (behind book k w)) e))
