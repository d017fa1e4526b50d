-- What a push of the next term needs, and what it leaves.
use Rattle.std.proofs.Common.{ℕ, suc, ◌<◌, true, List, [], ◌∷◌, ◌++◌, ◌≡◌, length, map, take, slice_get, Some, refl, sym, ap, ◌∙◌, subst, arith}
use Rattle.std.specs.List.{Contains}
use Rattle.sv_term.specs.Terms.{App, sort_of, fits}
use Rattle.sv_term.specs.Banks.{Nodes, IsTerm, IsPlaced, IsKind, args, args_by, sort, term, term_list}
use Rattle.sv_term.specs.declared.node.SortId.{SortId}
use Rattle.sv_term.specs.declared.node.TermId.{TermId}
use Rattle.sv_term.specs.declared.node.Node.{Node}
use Rattle.sv_log.specs.Logs.{nth_terms}
use Rattle.sv_sort_room.specs.SortCells.{sorts_of, IsNumber}
use Rattle.sv_sort_room.proofs.Building.{contains_at, at_contains}
use Rattle.sv_bank_sorts.specs.SortNumbering.{number_at}
use Rattle.sv_term_room.specs.TermRows.{TermRows, term_node, term_row, with_row, shape_by, terms_of, tree_of, IsNewTerm, HasRoom}
use Rattle.sv_term_room.specs.declared.shape.Shape.{Shape}
use Rattle.sv_room.specs.HeldRooms as held
use Rattle.sv_goal_terms.proofs.WalkLaws.{Has, HasAll}
use Rattle.sv_goal_room.specs.GoalFilling.{shape_for, AreAmong, ArePlaces, IsNext, IsPut}
use Rattle.sv_goal_room.proofs.GoalOrder.{mapped, has_at, HasArgs, IsGrown, grown_from_none, places_below, within_order, all_there, args_within}
use Rattle.sv_goal_room.proofs.NodesByNumber.{shape_tree, node_tree, has_sort, count_args}

pub list_map : (b : Nodes) (ks : List TermId) → term_list b ks ≡ map (term b) ks
unfolding term_list
list_map b ks = refl

pub places_length : (order ks : List TermId) (ns : List ℕ) → ArePlaces order ks ns → length ns ≡ length ks
places_length order [] [] p = refl
places_length order [] (n ∷ ns) p = absurd p
places_length order (k ∷ ks) [] p = absurd p
places_length order (k ∷ ks) (n ∷ ns) p = ap suc (places_length order ks ns p.1)

module _ (b : Nodes) (order : List TermId) (numbers : List ℕ) (k : TermId) (v : TermRows) (next : IsNext b order numbers k v) where
  pub next_is_term : IsTerm b k
  next_is_term = within_order b order k next.ordered.within (contains_at order (length v.rows) k next.place)

  all_grown : IsGrown (map (term b) order)
  all_grown = subst IsGrown (sym next.ordered.terms ∙ list_map b order) (grown_from_none next.ordered.goal)

  at_place : slice_get (map (term b) order) (length v.rows) ≡ Some (term b k)
  at_place = mapped (term b) order (length v.rows) k next.place

  before : terms_of v ≡ take (length v.rows) (map (term b) order)
  before = next.before ∙ ap (take (length v.rows)) (list_map b order)

  module _ (x : Node) (p : IsPlaced b k x) where
    args_stand : HasAll (take (length v.rows) (map (term b) order)) (args_by (term b) (args x))
    args_stand = subst (HasArgs (take (length v.rows) (map (term b) order))) (node_tree b k x p) (all_grown (length v.rows) (term b k) at_place).0

    pub args_among : ((j k : TermId) → IsTerm b j → IsTerm b k → term b j ≡ term b k → j ≡ k) → AreAmong order (args x)
    args_among one =
        let i = next_is_term in
        all_there b one order next.ordered.within (length v.rows) (args x) (args_within b k.0 (args x) (omega (arith, i)) p.above) args_stand

  module _ (s : SortId) (kind : IsKind b s (sort_of (term b k))) where
    pub sort_number : (s.0 < length numbers) × IsNumber v.cells (number_at numbers s) (sort_of (term b k))
    sort_number = next.numbered k s (contains_at order (length v.rows) k next.place) kind

  module _ (x : Node) (p : IsPlaced b k x) (s : SortId) (kind : IsKind b s (sort_of (term b k))) (ns : List ℕ) (places : ArePlaces order (args x) ns) where
    own : IsNumber v.cells (number_at numbers s) (sort_of (term b k))
    own = (sort_number s kind).1

    tree : term b k ≡ App (shape_by (sorts_of v.cells) (shape_for x (number_at numbers s))) (args_by (term b) (args x))
    tree = p.is ∙ shape_tree (sorts_of v.cells) (sort b) (term b) x (number_at numbers s) (own.is ∙ ap sort_of p.is)

    tree_is : tree_of v (shape_for x (number_at numbers s)) ns ≡ term b k
    tree_is =
        let below = places_below (term b) order (length v.rows) all_grown (args x) ns places (args_stand x p) in
        ap (λ us. App (shape_by (sorts_of v.cells) (shape_for x (number_at numbers s))) us) (ap (λ l. nth_terms l ns) before ∙ below.1) ∙ sym tree

    absent : Contains (terms_of v) (tree_of v (shape_for x (number_at numbers s)) ns) → ⊥
    absent c =
        let a = at_contains (terms_of v) (tree_of v (shape_for x (number_at numbers s)) ns) c in
        let there : Has (take (length v.rows) (map (term b) order)) (term b k) =
        has_at (take (length v.rows) (map (term b) order)) a.0 (term b k) (ap (λ l. slice_get l a.0) (sym before) ∙ a.1 ∙ ap Some tree_is) in
        let none = (all_grown (length v.rows) (term b k) at_place).1 in
        cc (there, none)

    count : length ns ≡ held.args_of (term b k)
    count = places_length order (args x) ns places ∙ sym (ap held.args_of tree ∙ count_args (term b) (args x))

    pub new_term : fits (term b k) ≡ true → (shape : Shape) → shape ≡ shape_for x (number_at numbers s) → IsNewTerm v shape ns (number_at numbers s)
    new_term fit shape e = subst (λ z. IsNewTerm v z ns (number_at numbers s)) (sym e) (record {
      args_there = (places_below (term b) order (length v.rows) all_grown (args x) ns places (args_stand x p)).0;
      sort_there = has_sort x (number_at numbers s) (length v.cells) own.within;
      tree_fits = ap fits tree_is ∙ fit;
      own_sort = record { within = own.within; is = own.is ∙ ap sort_of (sym tree_is) };
      absent = absent;
    })

    pub has_room : HasRoom v (length ns) 0
    has_room =
        let n = count in
        let a = next.args in
        let c = next.sorts in
        record { terms = next.terms; arguments = omega (arith, n, a); kinds = omega (arith, c) }

    pub is_put : (shape : Shape) → shape ≡ shape_for x (number_at numbers s) → (new : TermRows) → new ≡ with_row (term_row (term_node shape ns) (number_at numbers s)) v
        → terms_of new ≡ terms_of v ++ tree_of v shape ns ∷ [] → IsPut b k v new
    is_put shape e new r t = record {
      terms = t ∙ ap (λ z. terms_of v ++ tree_of v z ns ∷ []) e ∙ ap (λ z. terms_of v ++ z ∷ []) tree_is;
      row = term_row (term_node shape ns) (number_at numbers s);
      rows = r;
      args = count;
    }
