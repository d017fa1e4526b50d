-- A node that is offered: its tree while sorts are taken in, what a push needs, and that the room is put back.
use Rattle.std.proofs.Common.{Some, ℕ, suc, ◌+◌, ◌<◌, ◌≤◌, true, ◌&&◌, List, [], ◌∷◌, ◌++◌, ◌≡◌, ◌⊎◌, inl, inr, length, take, drop, refl, sym, ap, ap₂, ◌∙◌, subst, arith}
use Rattle.std.specs.List.{All, Contains}
use Rattle.std.proofs.lemmas.List.{take-append-drop}
use Rattle.std.proofs.lemmas.Option.{get_or_from_slice_get}
use Rattle.sv_term.specs.Sorts.{Sort}
use Rattle.sv_term.specs.Terms.{Term, App, fits, all_fit, fits_node, sort_of}
use Rattle.sv_term.proofs.Same.{both_true, and_true}
use Rattle.sv_log.specs.LogEntries.{LogNode, shape_of, terms_among}
use Rattle.sv_log.specs.Logs.{nth_term, nth_terms}
use Rattle.sv_log.specs.Logs as g
use Rattle.sv_sort_room.specs.SortCells.{sort_by, sorts_of, IsNumber, Extends}
use Rattle.sv_sort_room.specs.declared.cell.Cell.{Cell}
use Rattle.sv_sort_room.proofs.Building.{contains_at}
use Rattle.sv_sort_room.proofs.CellTrees.{sorts_length, extends_self}
use Rattle.sv_list_room.specs.NumberLists.{numbers_in}
use Rattle.sv_term_room.specs.TermRows.{TermRows, term_node, term_row, with_cells, with_row, shape_by, terms_of, tree_of, HasSort, AreBelow, IsTermNumber, IsNewTerm, HasRoom, AreKept, IsLow, args_of}
use Rattle.sv_term_room.specs.declared.shape.Shape.{Shape}
use Rattle.sv_term_room.specs.declared.shape.Shape.TheVariants as s
use Rattle.sv_term_room.proofs.TermTrees.{shape_front, has_more, get_nth}
use Rattle.sv_node_sort.specs.NeededSorts.{AreNamed, Needs, kinds_of}
use Rattle.sv_node_sort.specs.declared.needed.Needed.{Needed}
use Rattle.sv_node_sort.specs.declared.needed.Needed.TheVariants as n
use Rattle.sv_log_sort.specs.TakenSorts.{Grows}
use Rattle.sv_log_shape.specs.LoggedShapes.{cells_in, NeverFits, IsShapeOf}
use Rattle.sv_log_sort.proofs.Growing.{extends_through}
use Rattle.sv_new_term.specs.Offers.{IsFitting, IsLonger, IsAddable, IsNodeOffer, IsOffered, IsOffer}
use Rattle.sv_new_term.specs.declared.entry.Outcome.{Outcome}
use Rattle.sv_new_term.specs.declared.entry.Outcome.TheVariants as o

-- ---- a node over terms that fit

all_args_fit : (v : TermRows) → AreKept v → (args : List ℕ) → AreBelow (length v.rows) args → all_fit (nth_terms (terms_of v) args) ≡ true
all_args_fit v k [] h = refl
all_args_fit v k (a ∷ args) h =
    let size = k.size in
    let l : a < length (terms_of v) = let w = h 0 a (omega arith) in omega (arith, w, size) in
    let own : fits (nth_term (terms_of v) a) ≡ true =
    ap fits (sym (get_or_from_slice_get (terms_of v) a (nth_term (terms_of v) a) (nth_term (terms_of v) a) (get_nth (terms_of v) a l))) ∙ k.fitting a (nth_term (terms_of v) a) l in
    and_true _ _ own (all_args_fit v k args (λ i d w. h (suc i) d (omega (arith, w))))

pub fits_tree : (v : TermRows) → AreKept v → (shape : Shape) (args : List ℕ) → AreBelow (length v.rows) args → fits (tree_of v shape args) ≡ fits_node (shape_by (sorts_of v.cells) shape) (kinds_of v args)
fits_tree v k shape args h = ap (λ b. b && fits_node (shape_by (sorts_of v.cells) shape) (kinds_of v args)) (all_args_fit v k args h)

pub there : (v : TermRows) → AreKept v → (m : ℕ) (x : Term) → IsTermNumber v m x → Contains (terms_of v) x
there v k m x h = let size = k.size in contains_at (terms_of v) m x (get_nth (terms_of v) m (omega (arith, size, h.within)) ∙ ap (λ y. Some y) h.is)

-- ---- the tree while sorts are taken in

named_has : (ss : List Sort) (x : Shape) → AreNamed ss x → HasSort (length ss) x
named_has ss (s.Var x k) h = h.0
named_has ss (s.Const k) h = h.0
named_has ss (s.Tup k) h = h.0
named_has ss _ h = tt

pub named_there : (cells : List Cell) (x : Shape) → AreNamed (sorts_of cells) x → HasSort (length cells) x
named_there cells x h = subst (λ m. HasSort m x) (sorts_length cells) (named_has (sorts_of cells) x h)

longer : (old new : List Cell) → Extends old new → sorts_of new ≡ sorts_of old ++ drop (length old) (sorts_of new)
longer old new x = sym (take-append-drop (length old) (sorts_of new)) ∙ ap (λ y. y ++ drop (length old) (sorts_of new)) x.sorts

pub tree_kept : (old mid : TermRows) (shape : Shape) (args : List ℕ) → Extends old.cells mid.cells → terms_of mid ≡ terms_of old → AreNamed (sorts_of old.cells) shape → tree_of mid shape args ≡ tree_of old shape args
tree_kept old mid shape args x e h =
    ap₂ (λ y ts. App y (nth_terms ts args))
    (ap (λ y. shape_by y shape) (longer old.cells mid.cells x) ∙ shape_front (sorts_of old.cells) (drop (length old.cells) (sorts_of mid.cells)) shape (named_has (sorts_of old.cells) shape h)) e

-- ---- a push

pub addable : (v : TermRows) (shape : Shape) (args : List ℕ) (m : Needed) → AreKept v → AreBelow (length v.rows) args × AreNamed (sorts_of v.cells) shape → Needs (sorts_of v.cells) shape (kinds_of v args) m
    → (Contains (terms_of v) (tree_of v shape args) → ⊥) → HasRoom v (length args) 1 → IsAddable v shape args m
addable v shape args m k h d a r = record {
  args_there = h.0;
  sort_there = h.1;
  tree_fits = fits_tree v k shape args h.0 ∙ d.fitting;
  needs = d;
  absent = a;
  room = r;
}

pub new_there : (v : TermRows) (shape : Shape) (args : List ℕ) (k : ℕ) → IsAddable v shape args (n.There k) → IsNewTerm v shape args k
new_there v shape args k a =
    let size = sorts_length v.cells in
    record {
      args_there = a.args_there;
      sort_there = subst (λ m. HasSort m shape) size (named_has (sorts_of v.cells) shape a.sort_there);
      tree_fits = a.tree_fits;
      own_sort = record { within = omega (arith, size, a.needs.there); is = a.needs.sort };
      absent = a.absent;
    }

pub new_of : (old mid : TermRows) (shape : Shape) (args : List ℕ) (cell : Cell) (k : ℕ) → IsAddable old shape args (n.Of cell) → Extends old.cells mid.cells → mid ≡ with_cells mid.cells old → terms_of mid ≡ terms_of old
    → IsNumber mid.cells k (sort_by (sorts_of old.cells) cell) → IsNewTerm mid shape args k
new_of old mid shape args cell k a x r e i =
    let tree = tree_kept old mid shape args x e a.sort_there in
    let size = sorts_length old.cells in
    let rows : length mid.rows ≡ length old.rows = ap (λ (v : TermRows). length v.rows) r in
    let has : HasSort (length old.cells) shape = subst (λ m. HasSort m shape) size (named_has (sorts_of old.cells) shape a.sort_there) in
    record {
      args_there = subst (λ m. AreBelow m args) (sym rows) a.args_there;
      sort_there = has_more (length old.cells) (length mid.cells) shape x.size has;
      tree_fits = ap fits tree ∙ a.tree_fits;
      own_sort = record { within = i.within; is = i.is ∙ (a.needs.sort ∙ ap sort_of (sym tree)) };
      absent = λ c. a.absent (subst (λ ts. Contains ts (tree_of old shape args)) e (subst (λ y. Contains (terms_of mid) y) tree c));
    }

pub room_there : (v : TermRows) (args : ℕ) → HasRoom v args 1 → HasRoom v args 0
room_there v args h = record { terms = h.terms; arguments = h.arguments; kinds = omega (arith, h.kinds) }

pub room_of : (old mid : TermRows) (args : ℕ) → mid ≡ with_cells mid.cells old → length mid.cells ≤ length old.cells + 1 → HasRoom old args 1 → HasRoom mid args 0
room_of old mid args r l h =
    let a = ap (λ (v : TermRows). length v.rows) r in
    let b = ap (λ (v : TermRows). v.room) r in
    let c = ap (λ (v : TermRows). numbers_in (args_of v.rows)) r in
    let d = ap (λ (v : TermRows). v.args_room) r in
    let e = ap (λ (v : TermRows). v.sorts_room) r in
    record { terms = omega (arith, a, b, h.terms); arguments = omega (arith, c, d, h.arguments); kinds = omega (arith, e, l, h.kinds) }

pub longer_there : (old new : TermRows) (shape : Shape) (args : List ℕ) (k sorts : ℕ) → new ≡ with_row (term_row (term_node shape args) k) old → terms_of new ≡ terms_of old ++ tree_of old shape args ∷ [] → IsLonger old new (tree_of old shape args) args sorts
longer_there old new shape args k sorts r t = record {
  terms = t;
  row = term_row (term_node shape args) k;
  rows = ap (λ (v : TermRows). v.rows) r;
  row_args = refl;
  cells = subst (λ x. Extends old.cells x) (sym (ap (λ (v : TermRows). v.cells) r)) (extends_self old.cells);
  cells_size = let e = ap (λ (v : TermRows). length v.cells) r in omega (arith, e);
  rooms = (ap (λ (v : TermRows). v.room) r, ap (λ (v : TermRows). v.args_room) r, ap (λ (v : TermRows). v.sorts_room) r);
}

pub longer_of : (old mid new : TermRows) (shape : Shape) (args : List ℕ) (m k : ℕ) (x : Term) → Grows old mid m → tree_of mid shape args ≡ x → IsLonger mid new (tree_of mid shape args) args k → IsLonger old new x args (m + k)
longer_of old mid new shape args m k x h tree w = record {
  terms = w.terms ∙ ap₂ (λ ts y. ts ++ y ∷ []) h.terms tree;
  row = w.row;
  rows = w.rows ∙ ap (λ (v : TermRows). v.rows ++ w.row ∷ []) h.rest;
  row_args = w.row_args;
  cells = extends_through old.cells mid.cells new.cells h.cells w.cells;
  cells_size = omega (arith, h.size, w.cells_size);
  rooms = (
    w.rooms.0 ∙ ap (λ (v : TermRows). v.room) h.rest,
    w.rooms.1 ∙ ap (λ (v : TermRows). v.args_room) h.rest,
    w.rooms.2 ∙ ap (λ (v : TermRows). v.sorts_room) h.rest,
  );
}

-- ---- a node by its number, and the node of the log

module _ (old mid : TermRows) (node : LogNode) (shape : Shape) (args : List ℕ) (grows : Grows old mid (cells_in node.parts)) (is : IsShapeOf mid.cells (shape_of node) shape) (e : args ≡ terms_among node.parts) where
  tree : tree_of mid shape args ≡ g.built (terms_of old) node
  tree = ap (λ y. App y (nth_terms (terms_of mid) args)) is.is ∙ ap₂ (λ ts ks. App (shape_of node) (nth_terms ts ks)) grows.terms e

  fitting : fits (tree_of mid shape args) ≡ true → IsFitting (terms_of old) node
  fitting h = record { number = is.number; tree_fits = ap fits (sym tree) ∙ h }

  there_still : Contains (terms_of mid) (tree_of mid shape args) → Contains (terms_of old) (g.built (terms_of old) node)
  there_still c = subst (λ ts. Contains ts (g.built (terms_of old) node)) grows.terms (subst (λ y. Contains (terms_of mid) y) tree c)

  there_before : Contains (terms_of old) (g.built (terms_of old) node) → Contains (terms_of mid) (tree_of mid shape args)
  there_before c = subst (λ y. Contains (terms_of mid) y) (sym tree) (subst (λ ts. Contains ts (g.built (terms_of old) node)) (sym grows.terms) c)

  pub offered_from : (new : TermRows) (offer : Outcome) → IsNodeOffer mid new shape args offer → IsOffered old new node offer
  offered_from new o.Unfit h = (subst (λ v. Grows old v (cells_in node.parts)) (sym h.0) grows, λ f. cc (sym h.1 ∙ (ap fits tree ∙ f.tree_fits)))
  offered_from new o.There h = (subst (λ v. Grows old v (cells_in node.parts)) (sym h.0) grows, fitting h.1, there_still h.2)
  offered_from new o.Added h = (
    fitting h.0,
    (λ c. h.1 (there_before c)),
    subst (λ ks. IsLonger old new (g.built (terms_of old) node) ks (cells_in node.parts + 1)) e
        (longer_of old mid new shape args (cells_in node.parts) 1 (g.built (terms_of old) node) grows tree h.2),
  )

pub never_fitting : (ts : List Term) (node : LogNode) → NeverFits (shape_of node) → IsFitting ts node → ⊥
never_fitting ts node h f = h _ f.number (both_true (all_fit (nth_terms ts (terms_among node.parts))) _ f.tree_fits).1

pub restored : (old mid new : TermRows) (k count : ℕ) → count ≡ length old.cells → Grows old mid k → new ≡ with_cells (take count mid.cells) mid → new ≡ old
restored old mid new k count c h e =
    e ∙ (ap (λ x. with_cells (take x mid.cells) mid) c ∙ (ap (with_cells (take (length old.cells) mid.cells)) h.rest ∙ ap (λ x. with_cells x old) h.cells.cells))

pub low_still : (old mid : TermRows) (k count : ℕ) → count ≡ length old.cells → Grows old mid k → AreKept old → All (IsLow count) mid.rows
low_still old mid k count c h a =
    subst (λ rows. All (IsLow count) rows) (sym (ap (λ (v : TermRows). v.rows) h.rest)) (subst (λ m. All (IsLow m) old.rows) (sym c) a.low)

pub settled : (old mid new : TermRows) (node : LogNode) (r : Outcome) (count : ℕ) → count ≡ length old.cells → new ≡ with_cells (take count mid.cells) mid → (r ≡ o.Unfit) ⊎ (r ≡ o.There) → IsOffered old mid node r → IsOffer old new node r
settled old mid new node o.Unfit count c e w h = (restored old mid new (cells_in node.parts) count c h.0 e, h.1)
settled old mid new node o.There count c e w h = (restored old mid new (cells_in node.parts) count c h.0 e, h.1, h.2)
settled old mid new node o.Added count c e (inl w) h = absurd (cc w)
settled old mid new node o.Added count c e (inr w) h = absurd (cc w)
