-- What the fields of a room say of the rows that callers see.
use Rattle.std.proofs.Common.{Some, ℕ, zero, suc, ◌+◌, ◌<◌, ◌≤◌, List, [], ◌∷◌, ◌++◌, ◌≡◌, length, map, take, drop, get_or, slice_get, refl, sym, ap, ap₂, ◌∙◌, subst, arith}
use Rattle.std.specs.List.{All, Contains}
use Rattle.std.proofs.lemmas.List.{length-append, length-take, take-append-drop}
use Rattle.std.proofs.lemmas.Option.{slice_get_read, slice_get-get_or, same_Some, none-some}
use Rattle.sv_term.specs.Terms.{sort_of}
use Rattle.sv_log.specs.Logs.{nth_term}
use Rattle.sv_list_room.specs.NumberLists.{numbers_in, NumberLists, number_lists}
use Rattle.sv_table.specs.Places as t
use Rattle.sv_table.specs.Places.{Places}
use Rattle.sv_sort_room.specs.SortCells.{nth_sort, sorts_of, IsNumber, Extends, DifferBySort}
use Rattle.sv_sort_room.specs.declared.cell.Cell.{Cell}
use Rattle.sv_sort_room.proofs.CellTrees.{sorts_length, sorts_take}
use Rattle.sv_term_room.specs.TermRows.{TermNode, term_node, TermRow, term_row, TermRows, term_rows, with_row, nodes_of, args_of, trees_by, terms_of, tree_of, HasSort, AreBelow, IsLow, IsNodeAt, IsTermNumber, IsNewTerm, HasRoom, AreKept}
use Rattle.sv_term_room.specs.TermKeeping.{paired, IsRow, AreRows, IsStored}
use Rattle.sv_term_room.specs.NodeCodes.{code_of}
use Rattle.sv_term_room.specs.declared.room.Head.{Head}
use Rattle.sv_term_room.specs.declared.shape.Shape.{Shape}
use Rattle.sv_term_room.proofs.TermTrees.{below_more, has_both, trees_length, trees_push, row_at, trees_apart, got_node, node_there, node_absent, rows_push, rows_wider, trees_wider, rows_narrower, rows_low, rows_fit}

-- ---- heads with their arguments

paired_size : (hs : List Head) (nss : List (List ℕ)) → length nss ≡ length hs → length (paired hs nss) ≡ length hs
paired_size [] nss e = refl
paired_size (h ∷ hs) [] e = absurd (omega (arith, e))
paired_size (h ∷ hs) (ns ∷ nss) e = ap suc (paired_size hs nss (omega (arith, e)))

paired_args : (hs : List Head) (nss : List (List ℕ)) → length nss ≡ length hs → args_of (paired hs nss) ≡ nss
paired_args [] [] e = refl
paired_args [] (ns ∷ nss) e = absurd (omega (arith, e))
paired_args (h ∷ hs) [] e = absurd (omega (arith, e))
paired_args (h ∷ hs) (ns ∷ nss) e = ap (λ x. ns ∷ x) (paired_args hs nss (omega (arith, e)))

paired_at : (hs : List Head) (nss : List (List ℕ)) (k : ℕ) (h : Head) (ns : List ℕ) → slice_get hs k ≡ Some h → slice_get nss k ≡ Some ns
    → slice_get (paired hs nss) k ≡ Some (term_row (term_node h.shape ns) h.sort)
paired_at [] nss k h ns e f = absurd (none-some h e)
paired_at (g ∷ hs) [] k h ns e f = absurd (none-some ns f)
paired_at (g ∷ hs) (ms ∷ nss) zero h ns e f =
    let one : g ≡ h = cc in
    let two : ms ≡ ns = cc in
    ap₂ (λ (x : Head) y. Some (term_row (term_node x.shape y) x.sort)) one two
paired_at (g ∷ hs) (ms ∷ nss) (suc k) h ns e f = paired_at hs nss k h ns e f

paired_push : (hs : List Head) (nss : List (List ℕ)) (h : Head) (ns : List ℕ) → length nss ≡ length hs
    → paired (hs ++ h ∷ []) (nss ++ ns ∷ []) ≡ paired hs nss ++ term_row (term_node h.shape ns) h.sort ∷ []
paired_push [] [] h ns e = refl
paired_push [] (ms ∷ nss) h ns e = absurd (omega (arith, e))
paired_push (g ∷ hs) [] h ns e = absurd (omega (arith, e))
paired_push (g ∷ hs) (ms ∷ nss) h ns e = ap (λ x. term_row (term_node g.shape ms) g.sort ∷ x) (paired_push hs nss h ns (omega (arith, e)))

map_push : {A B : Type 0} → (f : A → B) (xs : List A) (x : A) → map f (xs ++ x ∷ []) ≡ map f xs ++ f x ∷ []
map_push f [] x = refl
map_push f (y ∷ xs) x = ap (λ z. f y ∷ z) (map_push f xs x)

-- ---- sorts by cells

sorts_differ : (cells : List Cell) → DifferBySort cells → (j k : ℕ) → j < length (sorts_of cells) → k < length (sorts_of cells) → nth_sort (sorts_of cells) j ≡ nth_sort (sorts_of cells) k → j ≡ k
sorts_differ cells d j k l m e = let n = sorts_length cells in d j k (omega (arith, l, n)) (omega (arith, m, n)) e

low_cells : (cells : List Cell) (r : TermRow) → IsLow (length (sorts_of cells)) r → IsLow (length cells) r
low_cells cells r l = subst (λ n. IsLow n r) (sorts_length cells) l

cells_low : (cells : List Cell) (r : TermRow) → IsLow (length cells) r → IsLow (length (sorts_of cells)) r
cells_low cells r l = subst (λ n. IsLow n r) (sym (sorts_length cells)) l

module _ (hs : List Head) (nss : List (List ℕ)) (cells : List Cell) (codes : List ℕ) (room args_room sorts_room : ℕ) (now : TermRows)
    (view : term_rows (paired hs nss) cells room args_room sorts_room ≡ now) (st : IsStored hs nss cells codes) where
  pub rows_now : AreRows (sorts_of now.cells) now.rows
  rows_now = subst (λ (v : TermRows). AreRows (sorts_of v.cells) v.rows) view st.rows

  pub size_now : length now.rows ≡ length hs
  size_now = ap (λ (v : TermRows). length v.rows) (sym view) ∙ paired_size hs nss st.sizes

  pub lists_now : length now.rows ≡ length nss
  lists_now = size_now ∙ sym st.sizes

  pub args_now : numbers_in (args_of now.rows) ≡ numbers_in nss
  args_now = ap (λ (v : TermRows). numbers_in (args_of v.rows)) (sym view) ∙ ap numbers_in (paired_args hs nss st.sizes)

  pub coded_now : codes ≡ map code_of (nodes_of now.rows)
  coded_now = st.coded ∙ ap (λ (v : TermRows). map code_of (nodes_of v.rows)) view

  pub row_there : (k : ℕ) (h : Head) (ns : List ℕ) → k < length now.rows → h ≡ get_or hs k h → slice_get nss k ≡ Some ns → slice_get now.rows k ≡ Some (term_row (term_node h.shape ns) h.sort)
  row_there k h ns l e f =
      let size = size_now in
      subst (λ (v : TermRows). slice_get v.rows k ≡ Some (term_row (term_node h.shape ns) h.sort)) view
      (paired_at hs nss k h ns (slice_get_read hs (length hs) k h refl (omega (arith, l, size)) e) f)

  pub node_at : (k : ℕ) (h : Head) (ns : List ℕ) → k < length now.rows → h ≡ get_or hs k h → slice_get nss k ≡ Some ns → IsNodeAt now k h.shape ns
  node_at k h ns l e f =
      let there = row_there k h ns l e f in
      let r = row_at (sorts_of now.cells) now.rows rows_now k _ there in
      record {
        sort = h.sort;
        there = there;
        args_below = r.0;
        sort_there = (low_cells now.cells _ r.2).named;
        tree = r.1;
      }

  pub sort_at : (k : ℕ) (h : Head) → k < length now.rows → h ≡ get_or hs k h → IsNumber now.cells h.sort (sort_of (nth_term (terms_of now) k))
  sort_at k h l e =
      let size = lists_now in
      let there = row_there k h (get_or nss k []) l e (slice_get-get_or nss k [] (omega (arith, l, size))) in
      let r = row_at (sorts_of now.cells) now.rows rows_now k _ there in
      record {
        within = (low_cells now.cells _ r.2).own;
        is = r.3;
      }

  pub cells_same : now.cells ≡ cells
  cells_same = ap (λ (v : TermRows). v.cells) (sym view)

  pub differ_now : DifferBySort cells → DifferBySort now.cells
  differ_now d = subst DifferBySort (sym cells_same) d

  pub kept : DifferBySort cells → AreKept now
  kept d =
      record {
        fitting = rows_fit (sorts_of now.cells) now.rows rows_now;
        apart = trees_apart (sorts_of now.cells) now.rows rows_now;
        sorts_apart = differ_now d;
        low = λ i r l. low_cells now.cells (get_or now.rows i r) (rows_low (sorts_of now.cells) now.rows rows_now i r l);
        size = trees_length (sorts_of now.cells) now.rows;
      }

  -- ---- room

  pub room_of : (args sorts : ℕ) → HasRoom now args sorts → (length nss < room) × (numbers_in nss + args ≤ args_room) × (length cells + sorts ≤ sorts_room)
  room_of args sorts h =
      let a = lists_now in
      let b = args_now in
      let c = ap (λ (v : TermRows). v.room) (sym view) in
      let d = ap (λ (v : TermRows). v.args_room) (sym view) in
      let e = ap (λ (v : TermRows). v.sorts_room) (sym view) in
      let f = ap length cells_same in
      (omega (arith, a, c, h.terms), omega (arith, b, d, h.arguments), omega (arith, e, f, h.kinds))

  pub has_room : (args sorts : ℕ) → length nss < room → numbers_in nss + args ≤ args_room → length cells + sorts ≤ sorts_room → HasRoom now args sorts
  has_room args sorts l m n =
      let a = lists_now in
      let b = args_now in
      let c = ap (λ (v : TermRows). v.room) (sym view) in
      let d = ap (λ (v : TermRows). v.args_room) (sym view) in
      let e = ap (λ (v : TermRows). v.sorts_room) (sym view) in
      let f = ap length cells_same in
      record {
        terms = omega (arith, a, c, l);
        arguments = omega (arith, b, d, m);
        kinds = omega (arith, e, f, n);
      }

  -- ---- a node that is sought

  pub own_node : (k : ℕ) (h : Head) (ns : List ℕ) → k < length now.rows → h ≡ get_or hs k h → slice_get nss k ≡ Some ns → slice_get (nodes_of now.rows) k ≡ Some (term_node h.shape ns)
  own_node k h ns l e f = got_node now.rows k _ (row_there k h ns l e f)

  pub shape_here : (k : ℕ) (h : Head) (shape : Shape) (args : List ℕ) → k < length now.rows → h ≡ get_or hs k h → slice_get (nodes_of now.rows) k ≡ Some (term_node shape args) → h.shape ≡ shape
  shape_here k h shape args l e f =
      let size = lists_now in
      let own = own_node k h (get_or nss k []) l e (slice_get-get_or nss k [] (omega (arith, l, size))) in
      ap (λ (n : TermNode). n.shape) (same_Some _ _ (sym own ∙ f))

  pub args_here : (k : ℕ) (h : Head) (ns : List ℕ) (shape : Shape) (args : List ℕ) → k < length now.rows → h ≡ get_or hs k h → slice_get nss k ≡ Some ns
      → slice_get (nodes_of now.rows) k ≡ Some (term_node shape args) → ns ≡ args
  args_here k h ns shape args l e f g = ap (λ (n : TermNode). n.args) (same_Some _ _ (sym (own_node k h ns l e f) ∙ g))

  pub found : (k : ℕ) (shape : Shape) (args : List ℕ) → slice_get (nodes_of now.rows) k ≡ Some (term_node shape args) → IsTermNumber now k (tree_of now shape args)
  found k shape args e =
      let g = node_there (sorts_of now.cells) now.rows rows_now k (term_node shape args) e in
      record { within = g.0; is = g.1 }

  pub found_none : DifferBySort cells → (shape : Shape) (args : List ℕ) → AreBelow (length now.rows) args → HasSort (length now.cells) shape
      → (Contains (nodes_of now.rows) (term_node shape args) → ⊥) → Contains (terms_of now) (tree_of now shape args) → ⊥
  found_none d shape args b k n =
      node_absent (sorts_of now.cells) now.rows rows_now (sorts_differ now.cells (differ_now d)) (term_node shape args) b
      (subst (λ m. HasSort m shape) (sym (sorts_length now.cells)) k) n

  -- ---- a push

  module _ (shape : Shape) (args : List ℕ) (sort : ℕ) (new : IsNewTerm now shape args sort) (hs_new : List Head) (nss_new : List (List ℕ)) (codes_new : List ℕ)
      (heads_are : hs_new ≡ hs ++ record { shape = shape; sort = sort } ∷ []) (lists_are : nss_new ≡ nss ++ args ∷ []) (codes_are : codes_new ≡ codes ++ code_of (term_node shape args) ∷ []) where
    pub pushed_rows : paired hs_new nss_new ≡ paired hs nss ++ term_row (term_node shape args) sort ∷ []
    pushed_rows = ap₂ paired heads_are lists_are ∙ paired_push hs nss (record { shape = shape; sort = sort }) args st.sizes

    row_is : IsNewTerm (term_rows (paired hs nss) cells room args_room sorts_room) shape args sort
        → IsRow (sorts_of cells) (trees_by (sorts_of cells) (paired hs nss)) (term_row (term_node shape args) sort)
    row_is n =
        let size = trees_length (sorts_of cells) (paired hs nss) in
        record {
          args_below = below_more _ _ args (omega (arith, size)) n.args_there;
          low = cells_low cells _ (record { named = n.sort_there; own = n.own_sort.within });
          fitting = n.tree_fits;
          sort_is = n.own_sort.is;
        }

    pub pushed_stored : IsStored hs_new nss_new cells codes_new
    pushed_stored =
        let n : IsNewTerm (term_rows (paired hs nss) cells room args_room sorts_room) shape args sort = subst (λ v. IsNewTerm v shape args sort) (sym view) new in
        let a = ap length heads_are ∙ length-append hs (record { shape = shape; sort = sort } ∷ []) in
        let b = ap length lists_are ∙ length-append nss (args ∷ []) in
        record {
          sizes = omega (arith, a, b, st.sizes);
          rows = subst (AreRows (sorts_of cells)) (sym pushed_rows) (rows_push (sorts_of cells) (paired hs nss) (term_row (term_node shape args) sort) st.rows (row_is n) n.absent);
          coded = codes_are ∙ (ap (λ x. x ++ code_of (term_node shape args) ∷ []) st.coded
              ∙ (sym (map_push code_of (nodes_of (paired hs nss)) (term_node shape args))
              ∙ (ap (map code_of) (sym (map_push (λ (r : TermRow). r.node) (paired hs nss) (term_row (term_node shape args) sort))) ∙ ap (λ x. map code_of (nodes_of x)) (sym pushed_rows))));
        }

pub pushed_terms : (r : TermRow) (now : TermRows) → terms_of (with_row r now) ≡ terms_of now ++ tree_of now r.node.shape r.node.args ∷ []
pushed_terms r now = trees_push (sorts_of now.cells) now.rows r

pub view_pushed : (hs new : List Head) (lists lists_new : NumberLists) (places places_new : Places) (shape : Shape) (args codes : List ℕ) (sort : ℕ) (now : TermRows) (cells : List Cell) (sorts_room : ℕ)
    → term_rows (paired hs lists.lists) cells places.room lists.numbers_room sorts_room ≡ now → length lists.lists ≡ length hs
    → new ≡ hs ++ record { shape = shape; sort = sort } ∷ [] → lists_new ≡ number_lists (lists.lists ++ args ∷ []) lists.room lists.numbers_room → places_new ≡ t.places codes places.room
    → term_rows (paired new lists_new.lists) cells places_new.room lists_new.numbers_room sorts_room ≡ with_row (term_row (term_node shape args) sort) now
view_pushed hs new lists lists_new places places_new shape args codes sort now cells sorts_room view sizes heads ls ps =
    let rows : paired new lists_new.lists ≡ paired hs lists.lists ++ term_row (term_node shape args) sort ∷ [] =
    ap₂ paired heads (ap (λ (x : NumberLists). x.lists) ls) ∙ paired_push hs lists.lists (record { shape = shape; sort = sort }) args sizes in
    let room : places_new.room ≡ places.room = ap (λ (p : Places). p.room) ps in
    let args_room : lists_new.numbers_room ≡ lists.numbers_room = ap (λ (x : NumberLists). x.numbers_room) ls in
    ap (λ x. term_rows x cells places_new.room lists_new.numbers_room sorts_room) rows
    ∙ (ap₂ (λ x y. term_rows (paired hs lists.lists ++ term_row (term_node shape args) sort ∷ []) cells x y sorts_room) room args_room
    ∙ ap (with_row (term_row (term_node shape args) sort)) view)

-- ---- more sorts, and fewer

longer : (old new : List Cell) → Extends old new → sorts_of new ≡ sorts_of old ++ drop (length old) (sorts_of new)
longer old new x = sym (take-append-drop (length old) (sorts_of new)) ∙ ap (λ y. y ++ drop (length old) (sorts_of new)) x.sorts

pub stored_more : (hs : List Head) (nss : List (List ℕ)) (old new : List Cell) (codes : List ℕ) → Extends old new → IsStored hs nss old codes → IsStored hs nss new codes
stored_more hs nss old new codes x st = record {
  sizes = st.sizes;
  rows = subst (λ y. AreRows y (paired hs nss)) (sym (longer old new x)) (rows_wider (sorts_of old) (drop (length old) (sorts_of new)) (paired hs nss) st.rows);
  coded = st.coded;
}

pub terms_more : (old new : List Cell) (rows : List TermRow) → Extends old new → AreRows (sorts_of old) rows → trees_by (sorts_of new) rows ≡ trees_by (sorts_of old) rows
terms_more old new rows x h = ap (λ y. trees_by y rows) (longer old new x) ∙ trees_wider (sorts_of old) (drop (length old) (sorts_of new)) rows h

low_taken : (count : ℕ) (cells : List Cell) (rows : List TermRow) → All (IsLow count) rows → AreRows (sorts_of cells) rows → All (IsLow (length (sorts_of (take count cells)))) rows
low_taken count cells rows l h i r w =
    let a = l i r w in
    let b = low_cells cells (get_or rows i r) (rows_low (sorts_of cells) rows h i r w) in
    let size = length-take count cells in
    cells_low (take count cells) (get_or rows i r) (record {
      named = has_both count (length cells) (length (take count cells)) (get_or rows i r).node.shape (λ k x y. omega (arith, size, x, y)) a.named b.named;
      own = omega (arith, size, a.own, b.own);
    })

whole : (count : ℕ) (cells : List Cell) → sorts_of cells ≡ sorts_of (take count cells) ++ drop count (sorts_of cells)
whole count cells = sym (take-append-drop count (sorts_of cells)) ∙ ap (λ y. y ++ drop count (sorts_of cells)) (sorts_take count cells)

rows_less : (count : ℕ) (cells : List Cell) (rows : List TermRow) → All (IsLow count) rows → AreRows (sorts_of cells) rows → AreRows (sorts_of (take count cells)) rows
rows_less count cells rows l h =
    rows_narrower (sorts_of (take count cells)) (drop count (sorts_of cells)) rows (low_taken count cells rows l h) (subst (λ y. AreRows y rows) (whole count cells) h)

pub terms_less : (count : ℕ) (cells : List Cell) (rows : List TermRow) → All (IsLow count) rows → AreRows (sorts_of cells) rows → trees_by (sorts_of (take count cells)) rows ≡ trees_by (sorts_of cells) rows
terms_less count cells rows l h =
    sym (ap (λ y. trees_by y rows) (whole count cells) ∙ trees_wider (sorts_of (take count cells)) (drop count (sorts_of cells)) rows (rows_less count cells rows l h))

pub stored_less : (count : ℕ) (hs : List Head) (nss : List (List ℕ)) (cells new : List Cell) (codes : List ℕ) → new ≡ take count cells → All (IsLow count) (paired hs nss)
    → IsStored hs nss cells codes → IsStored hs nss new codes
stored_less count hs nss cells new codes e l st = record {
  sizes = st.sizes;
  rows = subst (λ y. AreRows (sorts_of y) (paired hs nss)) (sym e) (rows_less count cells (paired hs nss) l st.rows);
  coded = st.coded;
}
