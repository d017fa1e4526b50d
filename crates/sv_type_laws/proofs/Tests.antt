-- The test of being of a type.
use Rattle.std.proofs.Common.{◌≡◌, ◌↔◌, Bool, true, false, ◌&&◌, pos, refl, sym, true≢false}
use Rattle.std.proofs.lemmas.Bool.Decides.{Decides-int_eq}
use Rattle.sv_type.specs.Shapes.{Number, Fields, Fixed, Dynamic, Mapping, Shapes, NoShapes, ShapeAnd}
use Rattle.sv_type.specs.StorageTrees.{Tree, Num, Struct, Arr, Map, Trees, End, Field, Entries, Empty, Entry}
use Rattle.sv_type.specs.TypedTrees.{Fits, AllFit, Each, fits, all_fit, each}
use Rattle.sv_type_laws.specs.TreeLaws.{TestIsExact}
use Rattle.sv_type_laws.proofs.Copies.{both, and_left, and_right}

pair : {A B : Type 0} (a b : Bool) → (a ≡ true) ↔ A → (b ≡ true) ↔ B → ((a && b) ≡ true) ↔ (A × B)
pair a b f g = (λ h. (f.0 (and_left a b h), g.0 (and_right a b h)), λ h. both a b (f.1 h.0) (g.1 h.1))

itself : (a : Bool) → (a ≡ true) ↔ (a ≡ true)
itself a = (λ h. h, λ h. h)

never : (false ≡ true) ↔ ⊥
never = (λ h. true≢false (sym h), λ h. absurd h)

four : {A B C D : Type 0} (a b c d : Bool) → (a ≡ true) ↔ A → (b ≡ true) ↔ B → (c ≡ true) ↔ C → (d ≡ true) ↔ D → ((a && (b && (c && d))) ≡ true) ↔ (A × B × C × D)
four a b c d f g h i = (
  λ e. (f.0 (and_left a _ e), g.0 (and_left b _ (and_right a _ e)), h.0 (and_left c d (and_right b _ (and_right a _ e))), i.0 (and_right c d (and_right b _ (and_right a _ e)))),
  λ e. both a _ (f.1 e.0) (both b _ (g.1 e.1) (both c d (h.1 e.2) (i.1 e.3))),
)

three : {B C D : Type 0} (b c d : Bool) → (b ≡ true) ↔ B → (c ≡ true) ↔ C → (d ≡ true) ↔ D → ((b && (c && d)) ≡ true) ↔ (B × C × D)
three b c d g h i = (
  λ e. (g.0 (and_left b _ e), h.0 (and_left c d (and_right b _ e)), i.0 (and_right c d (and_right b _ e))),
  λ e. both b _ (g.1 e.0) (both c d (h.1 e.1) (i.1 e.2)),
)

each_exact : (p : Tree → Bool) (P : Tree → Type 0) → ((t : Tree) → (p t ≡ true) ↔ P t) → (es : Entries) → (each p es ≡ true) ↔ Each P es
each_exact p P f Empty = (λ h. tt, λ h. refl)
each_exact p P f (Entry i t es) = pair (p t) (each p es) (f t) (each_exact p P f es)

mutual
  pub test_is_exact : TestIsExact
  test_is_exact (Number id kind) (Num n) = itself _
  test_is_exact (Fields id ss) (Struct ts) = all_exact ss ts
  test_is_exact (Fixed id n s) (Arr m es d) = four _ _ _ _ (Decides-int_eq m (pos n)) (each_exact (fits s) (Fits s) (test_is_exact s) es) (test_is_exact s d) (itself _)
  test_is_exact (Dynamic id s) (Arr m es d) = four _ _ _ _ (itself _) (each_exact (fits s) (Fits s) (test_is_exact s) es) (test_is_exact s d) (itself _)
  test_is_exact (Mapping id s) (Map es d) = three _ _ _ (each_exact (fits s) (Fits s) (test_is_exact s) es) (test_is_exact s d) (itself _)
  test_is_exact (Number id kind) t = never
  test_is_exact (Fields id ss) t = never
  test_is_exact (Fixed id n s) t = never
  test_is_exact (Dynamic id s) t = never
  test_is_exact (Mapping id s) t = never

  all_exact : (ss : Shapes) (ts : Trees) → (all_fit ss ts ≡ true) ↔ AllFit ss ts
  all_exact NoShapes End = (λ h. tt, λ h. refl)
  all_exact (ShapeAnd s ss) (Field t ts) = pair _ _ (test_is_exact s t) (all_exact ss ts)
  all_exact NoShapes (Field t ts) = never
  all_exact (ShapeAnd s ss) End = never
