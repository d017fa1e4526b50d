-- What clearing and copying leave.
use Rattle.std.proofs.Common.{ℕ, zero, suc, ◌-◌, ◌^◌, ◌<◌, ◌≡◌, Bool, true, false, cond, not, ◌&&◌, ◌||◌, List, [], ◌∷◌, ℤ, pos, negsuc, neg_ℤ, refl, sym, ap, ◌∙◌, subst, arith, true≢false}
use Rattle.std.specs.Ordering.{int_eq}
use Rattle.std.proofs.lemmas.Bool.Decides.{Decides-int_eq}
use Rattle.std.proofs.lemmas.Int.{ints}
use Rattle.std.specs.Prelude.{int_le}
use Rattle.sv_type.specs.Shapes.{Kind, Unsigned, Signed, Truth, Account, Member, Shape, Number, Fields, Fixed, Dynamic, Mapping, Shapes, NoShapes, ShapeAnd, is_well_typed, least, greatest, has_least, has_greatest}
use Rattle.sv_type.specs.StorageTrees.{Tree, Num, Struct, Arr, Map, Trees, End, Field, Entries, Step, At, Index, field, entry, read, face}
use Rattle.sv_type.specs.TypedTrees.{Fits, AllFit, Each, has_default, default, defaults, as_nat, filled, cleared, all_cleared, over, all_over, have_no_mapping, Below}
use Rattle.sv_type_laws.specs.TreeLaws.{DefaultsFit, ClearedFits, CopiesRead, AssignmentsRead, ReadsAsItsSource}
use Rattle.sv_type_laws.proofs.Writes.{int_same, fit_entry}

-- ---- 0 is of every type

le_zero : (n : ℕ) → int_le (pos 0) (pos n) ≡ true
le_zero n = grind arith

neg_le : (n : ℕ) → int_le (neg_ℤ (pos n)) (pos 0) ≡ true
neg_le zero = refl
neg_le (suc n) = refl

either : (a b : Bool) → b ≡ true → (a || b) ≡ true
either true b e = refl
either false b e = e

pub both : (a b : Bool) → a ≡ true → b ≡ true → (a && b) ≡ true
both true b e f = f
both false b e f = absurd (true≢false (sym e))

least_below : (kind : Kind) → int_le (least kind) (pos 0) ≡ true
least_below (Unsigned bits) = refl
least_below (Signed bits) = neg_le (2 ^ (bits - 1))
least_below Truth = refl
least_below Account = refl
least_below (Member members) = refl

greatest_above : (kind : Kind) → int_le (pos 0) (greatest kind) ≡ true
greatest_above (Unsigned bits) = le_zero (2 ^ bits - 1)
greatest_above (Signed bits) = le_zero (2 ^ (bits - 1) - 1)
greatest_above Truth = refl
greatest_above Account = le_zero (2 ^ 160 - 1)
greatest_above (Member members) = refl

zero_is_of : (kind : Kind) → is_well_typed kind (pos 0) ≡ true
zero_is_of kind =
    both (not (has_least kind) || int_le (least kind) (pos 0)) (not (has_greatest kind) || int_le (pos 0) (greatest kind))
    (either (not (has_least kind)) (int_le (least kind) (pos 0)) (least_below kind))
    (either (not (has_greatest kind)) (int_le (pos 0) (greatest kind)) (greatest_above kind))

-- ---- defaults and clearing

zero_default : (s : Shape) → has_default s (default s) ≡ true
zero_default (Number id (Unsigned bits)) = refl
zero_default (Number id (Signed bits)) = refl
zero_default (Number id Truth) = refl
zero_default (Number id Account) = refl
zero_default (Number id (Member members)) = refl
zero_default (Fields id ss) = refl
zero_default (Fixed id n s) = refl
zero_default (Dynamic id s) = refl
zero_default (Mapping id s) = refl

mutual
  pub defaults_fit : DefaultsFit
  defaults_fit (Number id kind) = zero_is_of kind
  defaults_fit (Fields id ss) = all_defaults_fit ss
  defaults_fit (Fixed id n s) = (refl, tt, defaults_fit s, zero_default s)
  defaults_fit (Dynamic id s) = (refl, tt, defaults_fit s, zero_default s)
  defaults_fit (Mapping id s) = (tt, defaults_fit s, zero_default s)

  all_defaults_fit : (ss : Shapes) → AllFit ss (defaults ss)
  all_defaults_fit NoShapes = tt
  all_defaults_fit (ShapeAnd s ss) = (defaults_fit s, all_defaults_fit ss)

each_filled : (P : Tree → Type 0) (n : ℕ) (f : ℤ → Tree) (es : Entries) → ((i : ℤ) → P (f i)) → Each P es → Each P (filled n f es)
each_filled P zero f es h e = e
each_filled P (suc n) f es h e = (h (pos n), each_filled P n f es h e)

mutual
  pub cleared_fits : ClearedFits
  cleared_fits (Number id kind) t f = zero_is_of kind
  cleared_fits (Fields id ss) (Struct ts) f = all_cleared_fit ss ts f
  cleared_fits (Fixed id n s) (Arr m es d) f =
      (f.0, each_filled (Fits s) (as_nat m) (λ i. cleared s (entry i es d)) es (λ i. cleared_fits s (entry i es d) (fit_entry (Fits s) i es d f.1 f.2)) f.1, f.2, f.3)
  cleared_fits (Dynamic id s) (Arr m es d) f =
      (refl, each_filled (Fits s) (as_nat m) (λ i. cleared s (entry i es d)) es (λ i. cleared_fits s (entry i es d) (fit_entry (Fits s) i es d f.1 f.2)) f.1, f.2, f.3)
  cleared_fits (Mapping id s) t f = f
  cleared_fits (Fields id ss) (Num n) f = absurd f
  cleared_fits (Fields id ss) (Arr m es d) f = absurd f
  cleared_fits (Fields id ss) (Map es d) f = absurd f
  cleared_fits (Fixed id n s) (Num k) f = absurd f
  cleared_fits (Fixed id n s) (Struct ts) f = absurd f
  cleared_fits (Fixed id n s) (Map es d) f = absurd f
  cleared_fits (Dynamic id s) (Num k) f = absurd f
  cleared_fits (Dynamic id s) (Struct ts) f = absurd f
  cleared_fits (Dynamic id s) (Map es d) f = absurd f

  all_cleared_fit : (ss : Shapes) (ts : Trees) → AllFit ss ts → AllFit ss (all_cleared ss ts)
  all_cleared_fit NoShapes ts f = f
  all_cleared_fit (ShapeAnd s ss) (Field t ts) f = (cleared_fits s t f.0, all_cleared_fit ss ts f.1)
  all_cleared_fit (ShapeAnd s ss) End f = absurd f

-- ---- copies

below : (k n : ℕ) → k < suc n → (k ≡ n → ⊥) → k < n
below zero zero h d = absurd (d refl)
below zero (suc n) h d = omega arith
below (suc k) zero h d = absurd (omega arith)
below (suc k) (suc n) h d = let e : k < n = below k n (omega arith) (λ e. d (ap suc e)) in omega (arith, e)

pub at_filled : (n : ℕ) (f : ℤ → Tree) (es : Entries) (d : Tree) (k : ℕ) → k < n → entry (pos k) (filled n f es) d ≡ f (pos k)
at_filled zero f es d k h = absurd (omega arith)
at_filled (suc n) f es d k h = go (int_eq (pos k) (pos n)) refl (at_filled n f es d k)
  where
    apart : int_eq (pos k) (pos n) ≡ false → k ≡ n → ⊥
    apart e q = true≢false (sym (int_same (pos k) (pos n) (ap pos q)) ∙ e)

    go : (b : Bool) → int_eq (pos k) (pos n) ≡ b → (k < n → entry (pos k) (filled n f es) d ≡ f (pos k)) → cond b (f (pos n)) (entry (pos k) (filled n f es) d) ≡ f (pos k)
    go true e ih = ap f (sym ((Decides-int_eq (pos k) (pos n)).0 e))
    go false e ih = ih (below k n h (apart e))

pub and_left : (a b : Bool) → (a && b) ≡ true → a ≡ true
and_left true b e = refl
and_left false b e = absurd (true≢false (sym e))

pub and_right : (a b : Bool) → (a && b) ≡ true → b ≡ true
and_right true b e = e
and_right false b e = absurd (true≢false (sym e))

-- one array copied over another
array_reads : (s : Shape) (l : ℤ) (es fs : Entries) (d e : Tree) → ((i : ℤ) → ReadsAsItsSource (over s (entry i es d) (entry i fs e)) (entry i es d)) → (p : List Step) → Below p (Arr l es d) → face (read p (Arr l (filled (as_nat l) (λ i. over s (entry i es d) (entry i fs e)) fs) e)) ≡ face (read p (Arr l es d))
array_reads s l es fs d e each [] h = refl
array_reads s l es fs d e each (At k ∷ p) h = refl
array_reads s (pos n) es fs d e each (Index (pos k) ∷ p) h =
    let within : k < n = omega (arith, ints, h.1) in
    subst (λ z. face (read p z) ≡ face (read p (entry (pos k) es d))) (sym (at_filled n (λ i. over s (entry i es d) (entry i fs e)) fs e k within)) (each (pos k) p h.2)
array_reads s (negsuc n) es fs d e each (Index (pos k) ∷ p) h = absurd (omega (arith, ints, h.1))
array_reads s l es fs d e each (Index (negsuc k) ∷ p) h = absurd (omega (arith, ints, h.0))

pub struct_reads : (ts us : Trees) → ((k : ℕ) (p : List Step) → Below p (field k ts) → face (read p (field k us)) ≡ face (read p (field k ts))) → ReadsAsItsSource (Struct us) (Struct ts)
struct_reads ts us each [] h = refl
struct_reads ts us each (At k ∷ p) h = each k p h
struct_reads ts us each (Index i ∷ p) h = refl

mutual
  pub copies_read : CopiesRead
  copies_read (Number id kind) t u f g h = λ p b. refl
  copies_read (Fields id ss) (Struct ts) (Struct us) f g h = struct_reads ts (all_over ss ts us) (fields_read ss ts us f g h)
  copies_read (Fields id ss) (Struct ts) u f g h = absurd g
  copies_read (Fields id ss) t u f g h = absurd f
  copies_read (Fixed id n s) (Arr l es d) (Arr m fs e) f g h =
      array_reads s l es fs d e (λ i. copies_read s (entry i es d) (entry i fs e) (fit_entry (Fits s) i es d f.1 f.2) (fit_entry (Fits s) i fs e g.1 g.2) h)
  copies_read (Fixed id n s) (Arr l es d) u f g h = absurd g
  copies_read (Fixed id n s) t u f g h = absurd f
  copies_read (Dynamic id s) (Arr l es d) (Arr m fs e) f g h =
      array_reads s l es fs d e (λ i. copies_read s (entry i es d) (entry i fs e) (fit_entry (Fits s) i es d f.1 f.2) (fit_entry (Fits s) i fs e g.1 g.2) h)
  copies_read (Dynamic id s) (Arr l es d) u f g h = absurd g
  copies_read (Dynamic id s) t u f g h = absurd f
  copies_read (Mapping id s) t u f g h = absurd (true≢false (sym h))

  fields_read : (ss : Shapes) (ts us : Trees) → AllFit ss ts → AllFit ss us → have_no_mapping ss ≡ true → (k : ℕ) (p : List Step) → Below p (field k ts) → face (read p (field k (all_over ss ts us))) ≡ face (read p (field k ts))
  fields_read NoShapes End End f g h k p b = refl
  fields_read NoShapes End (Field u us) f g h k p b = absurd g
  fields_read NoShapes (Field t ts) us f g h k p b = absurd f
  fields_read (ShapeAnd s ss) (Field t ts) (Field u us) f g h zero p b = copies_read s t u f.0 g.0 (and_left _ _ h) p b
  fields_read (ShapeAnd s ss) (Field t ts) (Field u us) f g h (suc k) p b = fields_read ss ts us f.1 g.1 (and_right _ _ h) k p b
  fields_read (ShapeAnd s ss) (Field t ts) End f g h k p b = absurd g
  fields_read (ShapeAnd s ss) End us f g h k p b = absurd f

pub assignments_read : AssignmentsRead
assignments_read s t u f g h = copies_read s t (cleared s u) f (cleared_fits s u g) h
