-- Reading after writing, and types.
use Rattle.std.proofs.Common.{ℕ, zero, suc, ◌<◌, ◌≡◌, ◌⊎◌, Bool, true, false, cond, List, [], ◌∷◌, ℤ, refl, sym, ap, ◌∙◌, subst, inl, inr, arith}
use Rattle.std.specs.Ordering.{int_eq}
use Rattle.std.proofs.lemmas.Bool.Decides.{Decides-int_eq}
use Rattle.sv_type.specs.Shapes.{Fields, Fixed, Dynamic, Mapping, Shapes, NoShapes, ShapeAnd, shape_of_field, count}
use Rattle.sv_type.specs.StorageTrees.{Tree, Num, Struct, Arr, Map, Trees, End, Field, Entries, Empty, Entry, Step, At, Index, field, with_field, entry, child, with_child, read, write}
use Rattle.sv_type.specs.TypedTrees.{Fits, AllFit, Each}
use Rattle.sv_type_laws.specs.TreeLaws.{ReadsBack, LeavesOthers, KeepsType, ReadsItsType}

pub int_same : (i j : ℤ) → i ≡ j → int_eq i j ≡ true
int_same i j e = (Decides-int_eq i j).1 e

pub int_other : (i j : ℤ) → (i ≡ j → ⊥) → int_eq i j ≡ false
int_other i j n = go (int_eq i j) refl
  where
    go : (b : Bool) → int_eq i j ≡ b → b ≡ false
    go true e = absurd (n ((Decides-int_eq i j).0 e))
    go false e = refl

field_same : (k : ℕ) (u : Tree) (ts : Trees) → (field k (with_field k u ts) ≡ u) ⊎ (with_field k u ts ≡ ts)
field_same k u End = inr refl
field_same zero u (Field t ts) = inl refl
field_same (suc k) u (Field t ts) = elim (field_same k u ts) [ inl e ↦ inl e | inr e ↦ inr (ap (Field t) e) ]

field_other : (j k : ℕ) (u : Tree) (ts : Trees) → (j ≡ k → ⊥) → field k (with_field j u ts) ≡ field k ts
field_other j k u End n = refl
field_other zero zero u (Field t ts) n = absurd (n refl)
field_other zero (suc k) u (Field t ts) n = refl
field_other (suc j) zero u (Field t ts) n = refl
field_other (suc j) (suc k) u (Field t ts) n = field_other j k u ts (λ e. n (ap suc e))

-- a child after a write at the same step, where the step stays on the tree
child_same : (s : Step) (u t : Tree) → (child s (with_child s u t) ≡ u) ⊎ (with_child s u t ≡ t)
child_same (At k) u (Struct ts) = elim (field_same k u ts) [ inl e ↦ inl e | inr e ↦ inr (ap Struct e) ]
child_same (Index i) u (Arr n es d) = inl (rw (int_same i i refl) refl)
child_same (Index i) u (Map es d) = inl (rw (int_same i i refl) refl)
child_same (At k) u (Num n) = inr refl
child_same (At k) u (Arr n es d) = inr refl
child_same (At k) u (Map es d) = inr refl
child_same (Index i) u (Num n) = inr refl
child_same (Index i) u (Struct ts) = inr refl

index_other : (i j : ℤ) (u t : Tree) → (i ≡ j → ⊥) → child (Index j) (with_child (Index i) u t) ≡ child (Index j) t
index_other i j u (Arr m es d) n = rw (int_other j i (λ e. n (sym e))) refl
index_other i j u (Map es d) n = rw (int_other j i (λ e. n (sym e))) refl
index_other i j u (Num m) n = refl
index_other i j u (Struct ts) n = refl

at_other : (j k : ℕ) (u t : Tree) → (j ≡ k → ⊥) → child (At k) (with_child (At j) u t) ≡ child (At k) t
at_other j k u (Struct ts) n = field_other j k u ts n
at_other j k u (Num m) n = refl
at_other j k u (Arr m es d) n = refl
at_other j k u (Map es d) n = refl

-- below a step that both paths take
through : (s : Step) (q : List Step) (u t : Tree) → read q u ≡ read q (child s t) → read q (child s (with_child s u t)) ≡ read q (child s t)
through s q u t h = elim (child_same s u t) [ inl e ↦ ap (read q) e ∙ h | inr e ↦ ap (λ z. read q (child s z)) e ]

pub leaves_others : LeavesOthers
leaves_others [] q t v h = absurd h
leaves_others (s ∷ p) [] t v h = absurd h
leaves_others (At j ∷ p) (At k ∷ q) t v h =
    elim h [
      | inl x ↦ subst (λ z. read (At z ∷ q) (write (At j ∷ p) v t) ≡ read (At z ∷ q) t) x.0 (through (At j) q _ t (leaves_others p q (child (At j) t) v x.1))
      | inr n ↦ ap (read q) (at_other j k _ t n)
    ]
leaves_others (Index i ∷ p) (Index j ∷ q) t v h =
    elim h [
      | inl x ↦ subst (λ z. read (Index z ∷ q) (write (Index i ∷ p) v t) ≡ read (Index z ∷ q) t) x.0 (through (Index i) q _ t (leaves_others p q (child (Index i) t) v x.1))
      | inr n ↦ ap (read q) (index_other i j _ t n)
    ]
leaves_others (At j ∷ p) (Index i ∷ q) t v h = absurd h
leaves_others (Index i ∷ p) (At j ∷ q) t v h = absurd h

-- ---- types

fit_field : (k : ℕ) (ss : Shapes) (ts : Trees) → k < count ss → AllFit ss ts → Fits (shape_of_field k ss) (field k ts)
fit_field k NoShapes End h f = absurd (omega arith)
fit_field k NoShapes (Field t ts) h f = absurd f
fit_field k (ShapeAnd s ss) End h f = absurd f
fit_field zero (ShapeAnd s ss) (Field t ts) h f = f.0
fit_field (suc k) (ShapeAnd s ss) (Field t ts) h f = fit_field k ss ts (omega arith) f.1

either : (P : Tree → Type 0) (b : Bool) (x y : Tree) → P x → P y → P (cond b x y)
either P true x y p q = p
either P false x y p q = q

pub fit_entry : (P : Tree → Type 0) (i : ℤ) (es : Entries) (d : Tree) → Each P es → P d → P (entry i es d)
fit_entry P i Empty d f p = p
fit_entry P i (Entry j t es) d f p = either P (int_eq i j) t (entry i es d) f.0 (fit_entry P i es d f.1 p)

fit_with_field : (k : ℕ) (ss : Shapes) (ts : Trees) (u : Tree) → k < count ss → AllFit ss ts → Fits (shape_of_field k ss) u → AllFit ss (with_field k u ts)
fit_with_field k NoShapes End u h f g = f
fit_with_field k NoShapes (Field t ts) u h f g = absurd f
fit_with_field k (ShapeAnd s ss) End u h f g = absurd f
fit_with_field zero (ShapeAnd s ss) (Field t ts) u h f g = (g, f.1)
fit_with_field (suc k) (ShapeAnd s ss) (Field t ts) u h f g = (f.0, fit_with_field k ss ts u (omega arith) f.1 g)

field_back : (k : ℕ) (ss : Shapes) (ts : Trees) (u : Tree) → k < count ss → AllFit ss ts → field k (with_field k u ts) ≡ u
field_back k NoShapes End u h f = absurd (omega arith)
field_back k NoShapes (Field t ts) u h f = absurd f
field_back k (ShapeAnd s ss) End u h f = absurd f
field_back zero (ShapeAnd s ss) (Field t ts) u h f = refl
field_back (suc k) (ShapeAnd s ss) (Field t ts) u h f = field_back k ss ts u (omega arith) f.1

pub keeps_type : KeepsType
keeps_type [] s r t v l f g = subst (λ z. Fits z v) (sym l) g
keeps_type (At k ∷ p) (Fields id ss) r (Struct ts) v l f g = fit_with_field k ss ts _ l.0 f (keeps_type p (shape_of_field k ss) r (field k ts) v l.1 (fit_field k ss ts l.0 f) g)
keeps_type (At k ∷ p) (Fields id ss) r t v l f g = absurd f
keeps_type (At k ∷ p) s r t v l f g = absurd l
keeps_type (Index i ∷ p) (Fixed id n s) r (Arr m es d) v l f g = (f.0, (keeps_type p s r (entry i es d) v l (fit_entry (Fits s) i es d f.1 f.2) g, f.1), f.2, f.3)
keeps_type (Index i ∷ p) (Dynamic id s) r (Arr m es d) v l f g = (f.0, (keeps_type p s r (entry i es d) v l (fit_entry (Fits s) i es d f.1 f.2) g, f.1), f.2, f.3)
keeps_type (Index i ∷ p) (Mapping id s) r (Map es d) v l f g = ((keeps_type p s r (entry i es d) v l (fit_entry (Fits s) i es d f.0 f.1) g, f.0), f.1, f.2)
keeps_type (Index i ∷ p) (Fixed id n s) r t v l f g = absurd f
keeps_type (Index i ∷ p) (Dynamic id s) r t v l f g = absurd f
keeps_type (Index i ∷ p) (Mapping id s) r t v l f g = absurd f
keeps_type (Index i ∷ p) s r t v l f g = absurd l

here : (i : ℤ) (x y : Tree) → cond (int_eq i i) x y ≡ x
here i x y = rw (int_same i i refl) refl

pub reads_back : ReadsBack
reads_back [] s r t v l f = refl
reads_back (At k ∷ p) (Fields id ss) r (Struct ts) v l f = ap (read p) (field_back k ss ts _ l.0 f) ∙ reads_back p (shape_of_field k ss) r (field k ts) v l.1 (fit_field k ss ts l.0 f)
reads_back (At k ∷ p) (Fields id ss) r t v l f = absurd f
reads_back (At k ∷ p) s r t v l f = absurd l
reads_back (Index i ∷ p) (Fixed id n s) r (Arr m es d) v l f = ap (read p) (here i _ _) ∙ reads_back p s r (entry i es d) v l (fit_entry (Fits s) i es d f.1 f.2)
reads_back (Index i ∷ p) (Dynamic id s) r (Arr m es d) v l f = ap (read p) (here i _ _) ∙ reads_back p s r (entry i es d) v l (fit_entry (Fits s) i es d f.1 f.2)
reads_back (Index i ∷ p) (Mapping id s) r (Map es d) v l f = ap (read p) (here i _ _) ∙ reads_back p s r (entry i es d) v l (fit_entry (Fits s) i es d f.0 f.1)
reads_back (Index i ∷ p) (Fixed id n s) r t v l f = absurd f
reads_back (Index i ∷ p) (Dynamic id s) r t v l f = absurd f
reads_back (Index i ∷ p) (Mapping id s) r t v l f = absurd f
reads_back (Index i ∷ p) s r t v l f = absurd l

pub reads_its_type : ReadsItsType
reads_its_type [] s r t l f = subst (λ z. Fits z t) l f
reads_its_type (At k ∷ p) (Fields id ss) r (Struct ts) l f = reads_its_type p (shape_of_field k ss) r (field k ts) l.1 (fit_field k ss ts l.0 f)
reads_its_type (At k ∷ p) (Fields id ss) r t l f = absurd f
reads_its_type (At k ∷ p) s r t l f = absurd l
reads_its_type (Index i ∷ p) (Fixed id n s) r (Arr m es d) l f = reads_its_type p s r (entry i es d) l (fit_entry (Fits s) i es d f.1 f.2)
reads_its_type (Index i ∷ p) (Dynamic id s) r (Arr m es d) l f = reads_its_type p s r (entry i es d) l (fit_entry (Fits s) i es d f.1 f.2)
reads_its_type (Index i ∷ p) (Mapping id s) r (Map es d) l f = reads_its_type p s r (entry i es d) l (fit_entry (Fits s) i es d f.0 f.1)
reads_its_type (Index i ∷ p) (Fixed id n s) r t l f = absurd f
reads_its_type (Index i ∷ p) (Dynamic id s) r t l f = absurd f
reads_its_type (Index i ∷ p) (Mapping id s) r t l f = absurd f
reads_its_type (Index i ∷ p) s r t l f = absurd l
