-- The room while the terms of a goal are put into it, one after another.
use Rattle.std.proofs.Common.{ℕ, suc, ◌+◌, ◌<◌, ◌≤◌, List, [], ◌∷◌, ◌++◌, ◌≡◌, length, map, take, slice_get, slice_index_or, Some, refl, sym, ap, ◌∙◌, subst, arith}
use Rattle.std.specs.List.{Contains}
use Rattle.std.proofs.lemmas.List.{length-take-le, map-append}
use Rattle.std.proofs.lemmas.Option.{slice_get_within, slice_get-get_or}
use Rattle.sv_term.specs.Banks.{Nodes, SortRow, IsTerm, AreTerms, term, term_list}
use Rattle.sv_term.specs.declared.node.TermId.{TermId}
use Rattle.sv_log.specs.Logs.{with_terms_of}
use Rattle.sv_list_room.specs.NumberLists.{numbers_in}
use Rattle.sv_sort_room.specs.SortCells.{nth_sort, sorts_of}
use Rattle.sv_sort_room.specs.declared.cell.Cell.{Cell}
use Rattle.sv_sort_room.proofs.CellTrees.{sorts_length}
use Rattle.sv_bank_sorts.specs.SortNumbering.{taken_by_all, number_at}
use Rattle.sv_term_room.specs.TermRows.{TermRow, TermRows, term_rows, with_row, with_cells, trees_by, args_of, terms_of, IsTermNumber}
use Rattle.sv_term_room.proofs.TermTrees.{trees_length, nth_got}
use Rattle.sv_room.specs.HeldRooms as held
use Rattle.sv_room.specs.HeldRooms.{args_in}
use Rattle.sv_room.specs.declared.room.Room.{Room}
use Rattle.sv_goal_terms.proofs.WalkLaws.{Has}
use Rattle.sv_goal_room.specs.GoalRooms.{HasMore, TakesArgs}
use Rattle.sv_goal_room.specs.GoalFilling.{AreNumbered, IsOrder, IsFilled, IsBegun, IsNext, IsPut, ArePut}
use Rattle.sv_goal_room.proofs.GoalOrder.{mapped, mapped_take, take_more, take_whole, holds_goal, one_is_there}
use Rattle.sv_goal_room.proofs.NodesByNumber.{args_push, args_until}
use Rattle.sv_goal_room.proofs.Putting.{list_map}

no_terms : (b : Nodes) → term_list b [] ≡ []
unfolding term_list
no_terms b = refl

no_trees : (v : TermRows) → v.rows ≡ [] → terms_of v ≡ []
unfolding trees_by
no_trees v e = ap (λ rows. trees_by (sorts_of v.cells) rows) e

list_length : (b : Nodes) (ks : List TermId) → length (term_list b ks) ≡ length ks
list_length b ks = ap length (list_map b ks) ∙ go ks
  where
    go : (xs : List TermId) → length (map (term b) xs) ≡ length xs
    go [] = refl
    go (x ∷ xs) = ap suc (go xs)

list_take : (b : Nodes) (n : ℕ) (ks : List TermId) → term_list b (take n ks) ≡ take n (term_list b ks)
list_take b n ks = list_map b (take n ks) ∙ mapped_take (term b) n ks ∙ ap (take n) (sym (list_map b ks))

list_at : (b : Nodes) (ks : List TermId) (n : ℕ) (k : TermId) → slice_get ks n ≡ Some k → slice_get (term_list b ks) n ≡ Some (term b k)
list_at b ks n k e = ap (λ l. slice_get l n) (list_map b ks) ∙ mapped (term b) ks n k e

pub list_more : (b : Nodes) (ks : List TermId) (n : ℕ) (k : TermId) → slice_get ks n ≡ Some k → term_list b (take (n + 1) ks) ≡ term_list b (take n ks) ++ term b k ∷ []
list_more b ks n k e =
    let one : n + 1 ≡ suc n = omega arith in
    ap (λ i. term_list b (take i ks)) one
    ∙ ap (term_list b) (take_more ks n k e)
    ∙ list_map b (take n ks ++ k ∷ [])
    ∙ map-append (term b) (take n ks) (k ∷ [])
    ∙ ap (λ l. l ++ term b k ∷ []) (sym (list_map b (take n ks)))

args_row : (rows : List TermRow) (r : TermRow) → numbers_in (args_of (rows ++ r ∷ [])) ≡ numbers_in (args_of rows) + length r.node.args
args_row [] r = omega arith
args_row (q ∷ rows) r = let e = args_row rows r in omega (arith, e)

-- ---- the count of arguments

pub args_count_more : (b : Nodes) (ks : List TermId) (i : ℕ) (k : TermId) (sum n more : ℕ) → slice_get ks i ≡ Some k → sum ≡ args_in (term_list b (take i ks)) → n ≡ held.args_of (term b k) → more ≡ sum + n
    → more ≡ args_in (term_list b (take (i + 1) ks))
args_count_more b ks i k sum n more at e f g =
    let p = args_push (term_list b (take i ks)) (term b k) in
    let l = ap args_in (list_more b ks i k at) in
    omega (arith, e, f, g, p, l)

pub args_count_all : (b : Nodes) (ks : List TermId) (i sum : ℕ) → i ≡ length ks → sum ≡ args_in (term_list b (take i ks)) → sum ≡ args_in (term_list b ks)
args_count_all b ks i sum l e = e ∙ ap (λ n. args_in (term_list b (take n ks))) l ∙ ap (λ xs. args_in (term_list b xs)) (take_whole ks)

pub args_count_none : (b : Nodes) → 0 ≡ args_in (term_list b [])
args_count_none b = sym (ap args_in (no_terms b))

-- ---- the room

module _ (b : Nodes) (order : List TermId) (cells : List Cell) (more : Room) (old : TermRows) (begun : IsBegun b order cells more old) where
  same_size : length old.cells ≡ length cells
  same_size = let n = sorts_length old.cells in let m = sorts_length cells in let e = ap length begun.kinds in omega (arith, n, m, e)

  pub put_none : ArePut b (take 0 order) old old
  put_none = record {
    terms = no_trees old begun.none ∙ sym (no_terms b);
    args = ap (λ rows. numbers_in (args_of rows)) begun.none ∙ args_count_none b;
    rest = refl;
  }

  module _ (i : ℕ) (now : TermRows) (put : ArePut b (take i order) old now) where
    rest_cells : now.cells ≡ old.cells
    rest_cells = ap (λ (v : TermRows). v.cells) put.rest

    count_of : i ≤ length order → length now.rows ≡ i
    count_of l =
        let a = trees_length (sorts_of now.cells) now.rows in
        let e = ap length put.terms in
        let n = list_length b (take i order) in
        let t = length-take-le i order l in
        omega (arith, a, e, n, t)

    numbered_now : (numbers : List ℕ) → AreNumbered b order cells numbers → AreNumbered b order now.cells numbers
    numbered_now numbers h k s c kind =
        let r = h k s c kind in
        let w = r.1.within in
        let size = same_size in
        let same = ap (λ (l : List Cell). length l) rest_cells in (
          r.0,
          record {
            within = omega (arith, w, size, same);
            is = ap (λ l. nth_sort (sorts_of l) (number_at numbers s)) rest_cells ∙ ap (λ ss. nth_sort ss (number_at numbers s)) begun.kinds ∙ r.1.is;
          },
        )

    module _ (k : TermId) (at : slice_get order i ≡ Some k) where
      within : i < length order
      within = slice_get_within order i k at

      count : length now.rows ≡ i
      count = let l = within in count_of (omega (arith, l))

      pub next_one : (numbers : List ℕ) → IsOrder b order → AreNumbered b order cells numbers → IsNext b order numbers k now
      next_one numbers o h =
          let l = within in
          let c = count in
          let size = same_size in
          let room = ap (λ (v : TermRows). v.room) put.rest in
          let args_room = ap (λ (v : TermRows). v.args_room) put.rest in
          let sorts_room = ap (λ (v : TermRows). v.sorts_room) put.rest in
          let same = ap (λ (l : List Cell). length l) rest_cells in
          let taken = put.args in
          let front = ap args_in (list_take b i order) in
          let until = args_until (term_list b order) i (term b k) (list_at b order i k at) in
          let t = begun.terms in
          let a = begun.args in
          let q = begun.sorts in
          record {
            ordered = o;
            place = ap (slice_get order) c ∙ at;
            before = put.terms ∙ list_take b i order ∙ ap (λ n. take n (term_list b order)) (sym c);
            numbered = numbered_now numbers h;
            terms = omega (arith, l, c, room, t);
            args = omega (arith, taken, front, until, args_room, a);
            sorts = omega (arith, same, sorts_room, q);
          }

      pub one_more : (new : TermRows) → IsPut b k now new → ArePut b (take (i + 1) order) old new
      one_more new h =
          let rows = ap (λ (v : TermRows). v.rows) h.rows in
          let e = ap (λ rs. numbers_in (args_of rs)) rows in
          let r = args_row now.rows h.row in
          let own = h.args in
          let taken = put.args in
          let l = ap args_in (list_more b order i k at) in
          let p = args_push (term_list b (take i order)) (term b k) in
          record {
            terms = h.terms ∙ ap (λ ts. ts ++ term b k ∷ []) put.terms ∙ sym (list_more b order i k at);
            args = omega (arith, e, r, own, taken, l, p);
            rest = h.rows ∙ ap (with_row h.row) put.rest ∙ ap (λ rs. term_rows rs old.cells old.room old.args_room old.sorts_room) (sym rows);
          }

    pub put_all : i ≡ length order → ArePut b order old now
    put_all l = subst (λ ks. ArePut b ks old now) (ap (λ n. take n order) l ∙ take_whole order) put

  module _ (now : TermRows) (put : ArePut b order old now) where
    all_count : length now.rows ≡ length order
    all_count = let a = trees_length (sorts_of now.cells) now.rows in let e = ap length put.terms in let n = list_length b order in omega (arith, a, e, n)

    pub takes_args : TakesArgs now
    takes_args = put.args ∙ ap args_in (sym put.terms)

    pub few_cells : (rows : List SortRow) → length cells ≤ taken_by_all rows → length now.cells ≤ taken_by_all rows
    few_cells rows l = let size = same_size in let e = ap (λ (v : TermRows). length v.cells) put.rest in omega (arith, l, size, e)

    pub has_more : HasMore now more
    has_more =
        let c = all_count in
        let room = ap (λ (v : TermRows). v.room) put.rest in
        let args_room = ap (λ (v : TermRows). v.args_room) put.rest in
        let sorts_room = ap (λ (v : TermRows). v.sorts_room) put.rest in
        let same = ap (λ (v : TermRows). length v.cells) put.rest in
        let taken = put.args in
        let t = begun.terms in
        let a = begun.args in
        let q = begun.sorts in
        record {
          terms = omega (arith, c, room, t);
          args = omega (arith, taken, args_room, a);
          sorts = omega (arith, same, sorts_room, q);
        }

-- ---- the beginning, and the whole

pub begins : (b : Nodes) (order : List TermId) (cells : List Cell) (more : Room) (mid new : TermRows) (room args sorts : ℕ) → mid ≡ term_rows [] [] room args sorts → new ≡ with_cells new.cells mid
    → sorts_of new.cells ≡ sorts_of cells → room ≡ length order + more.terms → args ≡ args_in (term_list b order) + more.args → sorts ≡ length cells + more.sorts → IsBegun b order cells more new
begins b order cells more mid new room args sorts e f kinds i j k =
    let size : length new.cells ≡ length cells = let n = sorts_length new.cells in let m = sorts_length cells in let g = ap length kinds in omega (arith, n, m, g) in
    record {
      none = ap (λ (v : TermRows). v.rows) f ∙ ap (λ (v : TermRows). v.rows) e;
      kinds = kinds;
      terms = ap (λ (v : TermRows). v.room) f ∙ ap (λ (v : TermRows). v.room) e ∙ i;
      args = ap (λ (v : TermRows). v.args_room) f ∙ ap (λ (v : TermRows). v.args_room) e ∙ j;
      sorts = ap (λ (v : TermRows). v.sorts_room) f ∙ ap (λ (v : TermRows). v.sorts_room) e ∙ k ∙ ap (λ n. n + more.sorts) (sym size);
    }

-- the numbers and the list as the code has them
module _ (b : Nodes) (order ids : List TermId) (e : ids ≡ order) (o : IsOrder b order) (cells : List Cell) (more : Room) (old : TermRows) (begun : IsBegun b ids cells more old) where
  over_order : IsBegun b order cells more old
  over_order = subst (λ l. IsBegun b l cells more old) e begun

  pub fills_none : ArePut b [] old old
  fills_none = put_none b order cells more old over_order

  module _ (i : ℕ) (now : TermRows) (put : ArePut b (take i ids) old now) where
    so_far : ArePut b (take i order) old now
    so_far = subst (λ l. ArePut b (take i l) old now) e put

    module _ (d : TermId) (l : i < length ids) where
      at : slice_get order i ≡ Some (slice_index_or ids i d)
      at = ap (λ xs. slice_get xs i) (sym e) ∙ slice_get-get_or ids i d l

      pub fills_next : (numbers list : List ℕ) → list ≡ numbers → AreNumbered b ids cells numbers → IsNext b order list (slice_index_or ids i d) now
      fills_next numbers list f h =
          next_one b order cells more old over_order i now so_far (slice_index_or ids i d) at list o
          (subst (λ ns. AreNumbered b order cells ns) (sym f) (subst (λ xs. AreNumbered b xs cells numbers) e h))

      pub fills_more : (new : TermRows) → IsPut b (slice_index_or ids i d) now new → ArePut b (take (i + 1) ids) old new
      fills_more new h = subst (λ xs. ArePut b (take (i + 1) xs) old new) (sym e) (one_more b order cells more old over_order i now so_far (slice_index_or ids i d) at new h)

    pub fills_all : i ≡ length ids → length cells ≤ taken_by_all b.sorts → IsFilled b order more now
    fills_all l few =
        let all = put_all b order cells more old over_order i now so_far (l ∙ ap length e) in
        record {
          terms = all.terms;
          args = takes_args b order cells more old over_order now all;
          sorts = few_cells b order cells more old over_order now all b.sorts few;
          room = has_more b order cells more old over_order now all;
        }

pub goal_there : (b : Nodes) → ((j k : TermId) → IsTerm b j → IsTerm b k → term b j ≡ term b k → j ≡ k) → (goal : TermId) (order : List TermId) → term_list b order ≡ with_terms_of [] (term b goal) → AreTerms b order
    → IsTerm b goal → Contains order goal
goal_there b one goal order e within i = one_is_there b one order within goal i (subst (λ ts. Has ts (term b goal)) (sym e ∙ list_map b order) (holds_goal (term b goal)))

pub goal_number : (b : Nodes) (order : List TermId) (more : Room) (v : TermRows) → IsFilled b order more v → (goal : TermId) (n : ℕ) → slice_get order n ≡ Some goal → IsTermNumber v n (term b goal)
goal_number b order more v h goal n e =
    let l = slice_get_within order n goal e in
    let a = trees_length (sorts_of v.cells) v.rows in
    let c = ap length h.terms in
    let m = list_length b order in
    record {
      within = omega (arith, l, a, c, m);
      is = nth_got (terms_of v) n (term b goal) (ap (λ ts. slice_get ts n) h.terms ∙ list_at b order n goal e);
    }
