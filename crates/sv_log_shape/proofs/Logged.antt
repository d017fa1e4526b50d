-- The shape of a node by its parts: the sort among them, and numbers that no shape may have.
use Rattle.std.proofs.Common.{Option, Some, None, MatchOption, ℕ, ◌<◌, ◌≤◌, Bool, true, false, nat_le, List, [], ◌∷◌, ◌≡◌, ◌⊎◌, inl, inr, length, refl, ap, ◌∙◌, subst, arith}
use Rattle.std.proofs.lemmas.Bool.Decides.{leb_tells}
use Rattle.sv_term.specs.Sorts.{Sort, Sorts, NoSorts, SortAnd, is_num, is_range, Bits, is_sort}
use Rattle.sv_term.specs.Terms.{fits_node}
use Rattle.sv_term.specs.Terms as t
use Rattle.sv_term.proofs.Same.{both_true}
use Rattle.sv_log.specs.LogEntries as l
use Rattle.sv_log.specs.LogEntries.{Part, TermPart, SortPart, NumberPart, FlagPart, Kind, LogNode, Slot, NumberSlot, SortSlot, TermSlot, TermsSlot, fill, suits, shape_of, flag_among, number_among, sort_among, HasNumber}
use Rattle.sv_sort_room.specs.SortCells.{nth_sort, sorts_of}
use Rattle.sv_sort_room.specs.declared.cell.Cell.{Cell}
use Rattle.sv_sort_room.proofs.CellTrees.{sorts_length}
use Rattle.sv_term_room.specs.declared.shape.Shape.{Shape}
use Rattle.sv_log_sort.specs.TakenSorts.{IsTaken}
use Rattle.sv_log_shape.specs.LoggedShapes.{IsTakenAmong, NeverFits, IsShapeOf, shape_with, CantHold, MayName, IsHeld}

abbrev node : Kind → List Part → LogNode
node kind ps = record { kind = kind; parts = ps }

shape_is : (kind : Kind) (ps : List Part) → shape_with kind (flag_among ps) (number_among ps) (sort_among ps) ≡ shape_of (node kind ps)
shape_is l.LitKind ps = refl
shape_is l.TruthKind ps = refl
shape_is l.VarKind ps = refl
shape_is l.AddKind ps = refl
shape_is l.SubKind ps = refl
shape_is l.MulKind ps = refl
shape_is l.DivKind ps = refl
shape_is l.ModKind ps = refl
shape_is l.WrapKind ps = refl
shape_is l.LeKind ps = refl
shape_is l.EqKind ps = refl
shape_is l.NotKind ps = refl
shape_is l.AndKind ps = refl
shape_is l.OrKind ps = refl
shape_is l.IteKind ps = refl
shape_is l.SelKind ps = refl
shape_is l.StoKind ps = refl
shape_is l.ConstKind ps = refl
shape_is l.MixKind ps = refl
shape_is l.TupKind ps = refl
shape_is l.GetKind ps = refl
shape_is l.SumKind ps = refl

-- ---- the sort among the parts

taken_second : (cells : List Cell) (ps : List Part) (k : ℕ) → fill (NumberSlot ∷ SortSlot ∷ []) ps ≡ true → IsTakenAmong cells ps k → IsTaken cells (sort_among ps) k
taken_second cells (NumberPart m ∷ (SortPart s ∷ ps)) k e h = h
taken_second cells _ k e h = cc e

taken_first : (cells : List Cell) (x : Slot) (ps : List Part) (k : ℕ) → fill (SortSlot ∷ x ∷ []) ps ≡ true → IsTakenAmong cells ps k → IsTaken cells (sort_among ps) k
taken_first cells x (SortPart s ∷ ps) k e h = h
taken_first cells x _ k e h = cc e

with_sort : (kind : Kind) (cells : List Cell) (ps : List Part) (g : Bool) (m k : ℕ) → suits kind ps ≡ true → IsTakenAmong cells ps k
    → shape_with kind g m (nth_sort (sorts_of cells) k) ≡ shape_with kind g m (sort_among ps)
with_sort l.VarKind cells ps g m k e h = ap (λ x. t.VarNode m x) (taken_second cells ps k e h).number.is
with_sort l.ConstKind cells ps g m k e h = ap t.ConstNode (taken_first cells TermSlot ps k e h).number.is
with_sort l.TupKind cells ps g m k e h = ap t.TupNode (taken_first cells TermsSlot ps k e h).number.is
with_sort _ cells ps g m k e h = refl

named : (cells : List Cell) (s : Sort) (k : ℕ) → IsTaken cells s k → (k < length (sorts_of cells)) × (is_sort (nth_sort (sorts_of cells) k) ≡ true)
named cells s k h = let size = sorts_length cells in (omega (arith, size, h.number.within), ap is_sort h.number.is ∙ h.good)

may_name : (kind : Kind) (cells : List Cell) (ps : List Part) (k : ℕ) → suits kind ps ≡ true → IsTakenAmong cells ps k → MayName kind (sorts_of cells) k
may_name l.VarKind cells ps k e h = named cells _ k (taken_second cells ps k e h)
may_name l.ConstKind cells ps k e h = named cells _ k (taken_first cells TermSlot ps k e h)
may_name l.TupKind cells ps k e h = named cells _ k (taken_first cells TermsSlot ps k e h)
may_name _ cells ps k e h = tt

-- ---- numbers that no shape may have

le_of : (a b : ℕ) → nat_le a b ≡ true → a ≤ b
le_of a b e = go (leb_tells a b)
  where
    go : ((nat_le a b ≡ true) × (a ≤ b)) ⊎ ((nat_le a b ≡ false) × (b < a)) → a ≤ b
    go (inl h) = h.1
    go (inr h) = absurd (cc (e, h.0))

wrap_never : (g : Bool) (m : ℕ) → (m < 1) ⊎ (120 < m) → (kinds : Sorts) → fits_node (t.WrapNode g m) kinds ≡ true → ⊥
wrap_never g m o NoSorts e = cc e
wrap_never g m o (SortAnd a (SortAnd b kinds)) e = cc e
wrap_never g m o (SortAnd a NoSorts) e = go o
  where
    both : (nat_le 1 m ≡ true) × (nat_le m 120 ≡ true)
    both = both_true (nat_le 1 m) (nat_le m 120) (both_true (is_num a) (is_range (Bits g m)) e).1

    go : (m < 1) ⊎ (120 < m) → ⊥
    go (inl h) = let l = le_of 1 m both.0 in absurd (omega (arith, l, h))
    go (inr h) = let l = le_of m 120 both.1 in absurd (omega (arith, l, h))

never : (kind : Kind) (g : Bool) (m : ℕ) (s : Sort) → CantHold kind m → NeverFits (shape_with kind g m s)
never l.VarKind g m s c kinds h e = absurd (omega (arith, c, h))
never l.GetKind g m s c kinds h e = absurd (omega (arith, c, h))
never l.WrapKind g m s c kinds h e = wrap_never g m c kinds e
never _ g m s c kinds h e = c

-- ---- together

pub told : (kind : Kind) (ps qs : List Part) (g : Bool) (m k : ℕ) (cells : List Cell) (r : Option Shape) → qs ≡ ps → g ≡ flag_among qs → m ≡ number_among qs → IsTakenAmong cells qs k → suits kind ps ≡ true
    → MatchOption r (CantHold kind m) (IsHeld kind g m k) → MatchOption r (NeverFits (shape_of (node kind ps))) (IsShapeOf cells (shape_of (node kind ps)))
told kind ps qs g m k cells r e f n taken suit held =
    go r (subst (λ x. MatchOption r (CantHold kind x) (IsHeld kind (flag_among ps) x k)) number (subst (λ x. MatchOption r (CantHold kind m) (IsHeld kind x m k)) flag held))
  where
    flag : g ≡ flag_among ps
    flag = f ∙ ap flag_among e

    number : m ≡ number_among ps
    number = n ∙ ap number_among e

    own : IsTakenAmong cells ps k
    own = subst (λ x. IsTakenAmong cells x k) e taken

    go : (o : Option Shape) → MatchOption o (CantHold kind (number_among ps)) (IsHeld kind (flag_among ps) (number_among ps) k)
        → MatchOption o (NeverFits (shape_of (node kind ps))) (IsShapeOf cells (shape_of (node kind ps)))
    go None c = subst NeverFits (shape_is kind ps) (never kind (flag_among ps) (number_among ps) (sort_among ps) c)
    go (Some x) h = record {
      is = h.is (sorts_of cells) ∙ (with_sort kind cells ps (flag_among ps) (number_among ps) k suit own ∙ shape_is kind ps);
      named = h.named (sorts_of cells) (may_name kind cells ps k suit own);
      number = subst HasNumber (shape_is kind ps) (h.number (sort_among ps));
    }
