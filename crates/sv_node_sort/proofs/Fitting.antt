-- Nodes that don't fit over so many terms, answers by a test, and sorts that are one where their numbers are.
use Rattle.std.proofs.Common.{Option, Some, None, MatchOption, ℕ, zero, suc, ◌+◌, ◌<◌, ◌≤◌, Bool, true, false, cond, ◌&&◌, nat_eq, List, [], ◌∷◌, ◌≡◌, length, drop, get_or, refl, sym, ap, ap₂, ◌∙◌, subst, arith}
use Rattle.sv_term.specs.Sorts.{Sort, BoolSort, ArrSort, TupSort, NumSort, Any, Sorts, SortAnd, same_sort, is_num, is_array, is_tuple, count, parts, sort_at}
use Rattle.sv_term.specs.Terms.{fits_node, sort_node, sort_of}
use Rattle.std.proofs.lemmas.Bool.Decides.{Decides-ltb}
use Rattle.sv_log.specs.Logs.{nth_term}
use Rattle.sv_term.proofs.Same.{sort_is, sort_self, same_nat, nat_same}
use Rattle.sv_sort_room.specs.SortCells.{nth_sort, sorts_of, IsNumber, DifferBySort}
use Rattle.sv_sort_room.specs.declared.cell.Cell.{Cell}
use Rattle.sv_sort_room.proofs.CellTrees.{sorts_length}
use Rattle.sv_term_room.specs.TermRows.{TermRows, shape_by, terms_of}
use Rattle.sv_term_room.specs.declared.shape.Shape.{Shape}
use Rattle.sv_term_room.specs.declared.shape.Shape.TheVariants as s
use Rattle.sv_node_sort.specs.NeededSorts.{AreNamed, IsNoTuple, Misfits, Needs, IsFrom, sort_from, IsElement, kinds_of, has_parts, IsNext, no_kinds, one_kind, two_kinds, three_kinds}
use Rattle.sv_node_sort.specs.declared.needed.Needed.{Needed}
use Rattle.sv_node_sort.specs.declared.needed.Needed.TheVariants as n

-- ---- nodes that don't fit over so many terms

pub none_misfits : (ss : List Sort) (x : Shape) → IsNoTuple x → ((a : Bool) (b : ℕ) → x ≡ s.Lit a b → ⊥) → ((a : Bool) → x ≡ s.Truth a → ⊥) → ((a b : ℕ) → x ≡ s.Var a b → ⊥) → Misfits ss x no_kinds
none_misfits ss (s.Lit g m) t a b c = absurd (a g m refl)
none_misfits ss (s.Truth g) t a b c = absurd (b g refl)
none_misfits ss (s.Var m k) t a b c = absurd (c m k refl)
none_misfits ss (s.Tup k) t a b c = absurd t
none_misfits ss _ t a b c = refl

pub one_misfits : (ss : List Sort) (x : Shape) (i : ℕ) → IsNoTuple x → ((a : Bool) (b : ℕ) → x ≡ s.Wrap a b → ⊥) → (x ≡ s.Not → ⊥) → ((a : ℕ) → x ≡ s.Const a → ⊥) → ((a : ℕ) → x ≡ s.Get a → ⊥) → (x ≡ s.Sum → ⊥)
    → Misfits ss x (one_kind ss i)
one_misfits ss (s.Wrap g m) i t a b c d e = absurd (a g m refl)
one_misfits ss s.Not i t a b c d e = absurd (b refl)
one_misfits ss (s.Const k) i t a b c d e = absurd (c k refl)
one_misfits ss (s.Get k) i t a b c d e = absurd (d k refl)
one_misfits ss s.Sum i t a b c d e = absurd (e refl)
one_misfits ss (s.Tup k) i t a b c d e = absurd t
one_misfits ss _ i t a b c d e = refl

pub two_misfits : (ss : List Sort) (x : Shape) (i j : ℕ) → IsNoTuple x → (x ≡ s.Add → ⊥) → (x ≡ s.Sub → ⊥) → (x ≡ s.Mul → ⊥) → (x ≡ s.Div → ⊥) → (x ≡ s.Mod → ⊥)
    → (x ≡ s.Le → ⊥) → (x ≡ s.Eq → ⊥) → (x ≡ s.And → ⊥) → (x ≡ s.Or → ⊥) → (x ≡ s.Sel → ⊥) → Misfits ss x (two_kinds ss i j)
two_misfits ss s.Add i j t a b c d e f g h k l = absurd (a refl)
two_misfits ss s.Sub i j t a b c d e f g h k l = absurd (b refl)
two_misfits ss s.Mul i j t a b c d e f g h k l = absurd (c refl)
two_misfits ss s.Div i j t a b c d e f g h k l = absurd (d refl)
two_misfits ss s.Mod i j t a b c d e f g h k l = absurd (e refl)
two_misfits ss s.Le i j t a b c d e f g h k l = absurd (f refl)
two_misfits ss s.Eq i j t a b c d e f g h k l = absurd (g refl)
two_misfits ss s.And i j t a b c d e f g h k l = absurd (h refl)
two_misfits ss s.Or i j t a b c d e f g h k l = absurd (k refl)
two_misfits ss s.Sel i j t a b c d e f g h k l = absurd (l refl)
two_misfits ss (s.Tup m) i j t a b c d e f g h k l = absurd t
two_misfits ss _ i j t a b c d e f g h k l = refl

pub three_misfits : (ss : List Sort) (x : Shape) (i j k : ℕ) → IsNoTuple x → (x ≡ s.Ite → ⊥) → (x ≡ s.Sto → ⊥) → (x ≡ s.Mix → ⊥) → Misfits ss x (three_kinds ss i j k)
three_misfits ss s.Ite i j k t a b c = absurd (a refl)
three_misfits ss s.Sto i j k t a b c = absurd (b refl)
three_misfits ss s.Mix i j k t a b c = absurd (c refl)
three_misfits ss (s.Tup m) i j k t a b c = absurd t
three_misfits ss _ i j k t a b c = refl

pub many_misfit : (ss : List Sort) (x : Shape) (a b c d : Sort) (rest : Sorts) → IsNoTuple x → Misfits ss x (SortAnd a (SortAnd b (SortAnd c (SortAnd d rest))))
many_misfit ss (s.Tup m) a b c d rest t = absurd t
many_misfit ss _ a b c d rest t = refl

-- ---- answers by a test

pub answered : (ss : List Sort) (x : Shape) (kinds : Sorts) (r : Option Needed) (b : Bool) (m : Needed) → r ≡ cond b (Some m) None → b ≡ fits_node (shape_by ss x) kinds → IsFrom ss m
    → sort_from ss m ≡ sort_node (shape_by ss x) kinds → MatchOption r (Misfits ss x kinds) (Needs ss x kinds)
answered ss x kinds r true m o e f g = subst (λ z. MatchOption z (Misfits ss x kinds) (Needs ss x kinds)) (sym o) (record { fitting = sym e; there = f; sort = g })
answered ss x kinds r false m o e f g = subst (λ z. MatchOption z (Misfits ss x kinds) (Needs ss x kinds)) (sym o) (sym e)

pub entry_answered : (cells : List Cell) (a i own : ℕ) (r : Option Needed) (b : Bool) → IsElement cells a own → b ≡ is_num (nth_sort (sorts_of cells) i) → r ≡ cond b (Some (n.There own)) None
    → MatchOption r (Misfits (sorts_of cells) s.Sel (two_kinds (sorts_of cells) a i)) (Needs (sorts_of cells) s.Sel (two_kinds (sorts_of cells) a i))
entry_answered cells a i own r b e f o =
    let size = sorts_length cells in
    answered (sorts_of cells) s.Sel (two_kinds (sorts_of cells) a i) r b (n.There own) o (f ∙ sym (ap (λ z. is_array z && is_num (nth_sort (sorts_of cells) i)) e.is)) (omega (arith, size, e.within))
    (sym (ap (λ z. sort_node (shape_by (sorts_of cells) s.Sel) (SortAnd z (one_kind (sorts_of cells) i))) e.is))

-- ---- sorts by number

pub named_const : (ss : List Sort) (x : Shape) (k : ℕ) → x ≡ s.Const k → AreNamed ss x → k < length ss
named_const ss x k e h = (subst (AreNamed ss) e h).0

pub same_number : (cells : List Cell) → DifferBySort cells → (j k : ℕ) → j < length cells → k < length cells → nat_eq j k ≡ same_sort (nth_sort (sorts_of cells) j) (nth_sort (sorts_of cells) k)
same_number cells d j k l m = go (nat_eq j k) refl
  where
    no : (b : Bool) → same_sort (nth_sort (sorts_of cells) j) (nth_sort (sorts_of cells) k) ≡ b → nat_eq j k ≡ false → false ≡ same_sort (nth_sort (sorts_of cells) j) (nth_sort (sorts_of cells) k)
    no true e f = let t = nat_same j k (d j k l m (sort_is (nth_sort (sorts_of cells) j) (nth_sort (sorts_of cells) k) e)) in absurd (cc (f, t))
    no false e f = sym e

    go : (b : Bool) → nat_eq j k ≡ b → b ≡ same_sort (nth_sort (sorts_of cells) j) (nth_sort (sorts_of cells) k)
    go true e = sym (subst (λ x. same_sort (nth_sort (sorts_of cells) j) (nth_sort (sorts_of cells) x) ≡ true) (same_nat j k e) (sort_self (nth_sort (sorts_of cells) j)))
    go false e = no (same_sort (nth_sort (sorts_of cells) j) (nth_sort (sorts_of cells) k)) refl e

pub joined_same : (cells : List Cell) (a b : ℕ) → a < length cells → same_sort (nth_sort (sorts_of cells) a) (nth_sort (sorts_of cells) b) ≡ true
    → (a < length (sorts_of cells)) × (nth_sort (sorts_of cells) a ≡ cond (same_sort (nth_sort (sorts_of cells) a) (nth_sort (sorts_of cells) b)) (nth_sort (sorts_of cells) a) (NumSort Any))
joined_same cells a b l e = let size = sorts_length cells in (omega (arith, l, size), sym (ap (λ z. cond z (nth_sort (sorts_of cells) a) (NumSort Any)) e))

pub named_tuple : (ss : List Sort) (x : Shape) (k : ℕ) → x ≡ s.Tup k → AreNamed ss x → k < length ss
named_tuple ss x k e h = (subst (AreNamed ss) e h).0

pub no_tuple : (x : Shape) → ((k : ℕ) → x ≡ s.Tup k → ⊥) → IsNoTuple x
no_tuple (s.Tup k) n = n k refl
no_tuple _ n = tt

-- ---- parts of tuples

tuple_of : (t : Sort) (k : ℕ) → k < count (parts t) → is_tuple t ≡ true
tuple_of (TupSort ss) k l = refl
tuple_of (NumSort r) k l = absurd (omega (arith, l))
tuple_of BoolSort k l = absurd (omega (arith, l))
tuple_of (ArrSort t) k l = absurd (omega (arith, l))

pub part_needs : (cells : List Cell) (t k part : ℕ) → (k < count (parts (nth_sort (sorts_of cells) t))) × IsNumber cells part (sort_at k (parts (nth_sort (sorts_of cells) t)))
    → Needs (sorts_of cells) (s.Get k) (one_kind (sorts_of cells) t) (n.There part)
part_needs cells t k part h =
    let size = sorts_length cells in
    record {
      fitting = ap₂ (λ x y. x && y) (tuple_of (nth_sort (sorts_of cells) t) k h.0) ((Decides-ltb k (count (parts (nth_sort (sorts_of cells) t)))).1 h.0);
      there = omega (arith, size, h.1.within);
      sort = h.1.is;
    }

drop_one : (xs : List ℕ) (i : ℕ) → i < length xs → drop i xs ≡ get_or xs i 0 ∷ drop (suc i) xs
drop_one [] i l = absurd (omega (arith, l))
drop_one (x ∷ xs) zero l = refl
drop_one (x ∷ xs) (suc i) l = drop_one xs i (omega (arith, l))

pub next_parts : (v : TermRows) (args : List ℕ) (i at kind rest : ℕ) → i < length args → nth_sort (sorts_of v.cells) kind ≡ sort_of (nth_term (terms_of v) (get_or args i 0))
    → IsNext (sorts_of v.cells) at kind rest → has_parts (nth_sort (sorts_of v.cells) at) (kinds_of v (drop i args)) ≡ has_parts (nth_sort (sorts_of v.cells) rest) (kinds_of v (drop (i + 1) args))
next_parts v args i at kind rest l f g =
    ap (λ x. has_parts (nth_sort (sorts_of v.cells) at) (kinds_of v x)) (drop_one args i l)
    ∙ (ap (λ x. has_parts (nth_sort (sorts_of v.cells) at) (SortAnd x (kinds_of v (drop (suc i) args)))) (sym f)
    ∙ (g.goes_on (kinds_of v (drop (suc i) args)) ∙ ap (λ m. has_parts (nth_sort (sorts_of v.cells) rest) (kinds_of v (drop m args))) one_more))
  where
    one_more : suc i ≡ i + 1
    one_more = omega arith

-- ---- more than three terms

pub many_args : (v : TermRows) (x : Shape) (args : List ℕ) → IsNoTuple x → 4 ≤ length args → Misfits (sorts_of v.cells) x (kinds_of v args)
many_args v x [] t l = absurd (omega (arith, l))
many_args v x (a ∷ []) t l = absurd (omega (arith, l))
many_args v x (a ∷ (b ∷ [])) t l = absurd (omega (arith, l))
many_args v x (a ∷ (b ∷ (c ∷ []))) t l = absurd (omega (arith, l))
many_args v x (a ∷ (b ∷ (c ∷ (d ∷ args)))) t l = many_misfit (sorts_of v.cells) x _ _ _ _ (kinds_of v args) t
