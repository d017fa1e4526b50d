-- Believed: the trees and the paths of a type, its default, and clearing and copying of trees. Hold it against Solidity's documentation, "Reference Types", "delete" and "Members of arrays".
use Rattle.std.specs.Prelude.{◌≡◌, ℕ, zero, suc, ◌<◌, Bool, true, false, ◌&&◌, List, [], ◌∷◌, ℤ, pos, negsuc, ◌≤ℤ◌, ◌<ℤ◌, int_le}
use Rattle.std.specs.Ordering.{int_eq}
use Rattle.sv_type.specs.Shapes.{Truth, Shape, Number, Fields, Fixed, Dynamic, Mapping, Shapes, NoShapes, ShapeAnd, is_well_typed, shape_of_field, count}
use Rattle.sv_type.specs.StorageTrees.{Tree, Num, Struct, Arr, Map, Trees, End, Field, Entries, Empty, Entry, Step, At, Index, entry, number, child, length_of}

-- ---- trees of a type

abbrev pub Each : (Tree → Type 0) → Entries → Type 0
Each P Empty = Unit {0}
Each P (Entry i t es) = P t × Each P es

-- the default of integers, addresses, contracts and enums is 0; that of other elements is any tree of their type
abbrev pub has_default : Shape → Tree → Bool
has_default (Number id Truth) d = true
has_default (Number id kind) d = int_eq (number d) (pos 0)
has_default _ d = true

-- the tree is well typed
abbrev mutual
  pub Fits : Shape → Tree → Type 0
  Fits (Number id kind) (Num n) = is_well_typed kind n ≡ true
  Fits (Fields id ss) (Struct ts) = AllFit ss ts
  Fits (Fixed id n s) (Arr m es d) = (m ≡ pos n) × Each (Fits s) es × Fits s d × (has_default s d ≡ true)
  Fits (Dynamic id s) (Arr m es d) = (int_le (pos 0) m ≡ true) × Each (Fits s) es × Fits s d × (has_default s d ≡ true)
  Fits (Mapping id s) (Map es d) = Each (Fits s) es × Fits s d × (has_default s d ≡ true)
  Fits (Number id kind) _ = ⊥
  Fits (Fields id ss) _ = ⊥
  Fits (Fixed id n s) _ = ⊥
  Fits (Dynamic id s) _ = ⊥
  Fits (Mapping id s) _ = ⊥

  pub AllFit : Shapes → Trees → Type 0
  AllFit NoShapes End = Unit {0}
  AllFit (ShapeAnd s ss) (Field t ts) = Fits s t × AllFit ss ts
  AllFit NoShapes (Field t ts) = ⊥
  AllFit (ShapeAnd s ss) End = ⊥

-- the same, as a test
abbrev pub each : (Tree → Bool) → Entries → Bool
each p Empty = true
each p (Entry i t es) = p t && each p es

abbrev mutual
  pub fits : Shape → Tree → Bool
  fits (Number id kind) (Num n) = is_well_typed kind n
  fits (Fields id ss) (Struct ts) = all_fit ss ts
  fits (Fixed id n s) (Arr m es d) = int_eq m (pos n) && (each (fits s) es && (fits s d && has_default s d))
  fits (Dynamic id s) (Arr m es d) = int_le (pos 0) m && (each (fits s) es && (fits s d && has_default s d))
  fits (Mapping id s) (Map es d) = each (fits s) es && (fits s d && has_default s d)
  fits (Number id kind) _ = false
  fits (Fields id ss) _ = false
  fits (Fixed id n s) _ = false
  fits (Dynamic id s) _ = false
  fits (Mapping id s) _ = false

  pub all_fit : Shapes → Trees → Bool
  all_fit NoShapes End = true
  all_fit (ShapeAnd s ss) (Field t ts) = fits s t && all_fit ss ts
  all_fit NoShapes (Field t ts) = false
  all_fit (ShapeAnd s ss) End = false

-- the path leads from a tree of the first type to one of the second. Its indexes are any whole numbers
abbrev pub Leads : List Step → Shape → Shape → Type 0
Leads [] s t = s ≡ t
Leads (At k ∷ p) (Fields id ss) t = (k < count ss) × Leads p (shape_of_field k ss) t
Leads (Index i ∷ p) (Fixed id n s) t = Leads p s t
Leads (Index i ∷ p) (Dynamic id s) t = Leads p s t
Leads (Index i ∷ p) (Mapping id s) t = Leads p s t
Leads (_ ∷ p) _ t = ⊥

-- ---- defaults

abbrev mutual
  pub default : Shape → Tree
  default (Number id kind) = Num (pos 0)
  default (Fields id ss) = Struct (defaults ss)
  default (Fixed id n s) = Arr (pos n) Empty (default s)
  default (Dynamic id s) = Arr (pos 0) Empty (default s)
  default (Mapping id s) = Map Empty (default s)

  pub defaults : Shapes → Trees
  defaults NoShapes = End
  defaults (ShapeAnd s ss) = Field (default s) (defaults ss)

-- ---- clearing and copying

abbrev pub as_nat : ℤ → ℕ
as_nat (pos n) = n
as_nat (negsuc n) = 0

-- the entries at 0 to n - 1 by a rule, in front of the others
abbrev pub filled : ℕ → (ℤ → Tree) → Entries → Entries
filled zero f es = es
filled (suc n) f es = Entry (pos n) (f (pos n)) (filled n f es)

-- what `delete` leaves: the default. A mapping stays; an array is cleared below its length, keeps what stands past it, and
-- has length 0 where it is dynamic
abbrev mutual
  pub cleared : Shape → Tree → Tree
  cleared (Number id kind) t = Num (pos 0)
  cleared (Fields id ss) (Struct ts) = Struct (all_cleared ss ts)
  cleared (Fixed id n s) (Arr m es d) = Arr m (filled (as_nat m) (λ i. cleared s (entry i es d)) es) d
  cleared (Dynamic id s) (Arr m es d) = Arr (pos 0) (filled (as_nat m) (λ i. cleared s (entry i es d)) es) d
  cleared _ t = t

  pub all_cleared : Shapes → Trees → Trees
  all_cleared (ShapeAnd s ss) (Field t ts) = Field (cleared s t) (all_cleared ss ts)
  all_cleared _ ts = ts

-- the first tree written over the second: an array gets the length and the elements below it, and keeps what stands past it.
-- A mapping is never copied, and stays
abbrev mutual
  pub over : Shape → Tree → Tree → Tree
  over (Number id kind) t u = t
  over (Fields id ss) (Struct ts) (Struct us) = Struct (all_over ss ts us)
  over (Fixed id n s) (Arr l es d) (Arr m fs e) = Arr l (filled (as_nat l) (λ i. over s (entry i es d) (entry i fs e)) fs) e
  over (Dynamic id s) (Arr l es d) (Arr m fs e) = Arr l (filled (as_nat l) (λ i. over s (entry i es d) (entry i fs e)) fs) e
  over _ t u = u

  pub all_over : Shapes → Trees → Trees → Trees
  all_over (ShapeAnd s ss) (Field t ts) (Field u us) = Field (over s t u) (all_over ss ts us)
  all_over _ ts us = us

-- whole assignment: the source, written over the old tree once that is cleared
abbrev pub assigned : Shape → Tree → Tree → Tree
assigned s source old = over s source (cleared s old)

-- ---- what a copy keeps

-- no mapping in it, so that it may be copied
abbrev mutual
  pub has_no_mapping : Shape → Bool
  has_no_mapping (Number id kind) = true
  has_no_mapping (Fields id ss) = have_no_mapping ss
  has_no_mapping (Fixed id n s) = has_no_mapping s
  has_no_mapping (Dynamic id s) = has_no_mapping s
  has_no_mapping (Mapping id s) = false

  pub have_no_mapping : Shapes → Bool
  have_no_mapping NoShapes = true
  have_no_mapping (ShapeAnd s ss) = has_no_mapping s && have_no_mapping ss

-- each index of the path is one of an element below the length of its array
abbrev pub Below : List Step → Tree → Type 0
Below [] t = Unit {0}
Below (At k ∷ p) t = Below p (child (At k) t)
Below (Index i ∷ p) t = (pos 0 ≤ℤ i) × (i <ℤ length_of t) × Below p (child (Index i) t)
