-- The places of types in a table whose types differ.
use Rattle.std.proofs.Common.{ℕ, zero, suc, ◌<◌, ◌&&◌, ◌||◌, Bool, true, false, nat_eq, List, [], ◌∷◌, ◌++◌, ◌≡◌, ◌⊎◌, inl, inr, length, slice_get, get_or, position, Some, Contains, refl, sym, ap, ap₂, ◌∙◌, subst, if◌then◌else◌, arith}
use Rattle.std.specs.List.{list_any}
use Rattle.std.proofs.lemmas.List.Quantifiers.{position-Some}
use Rattle.std.proofs.lemmas.Option.{slice_get_cases, same_Some, slice_get_within}
use Rattle.std.proofs.lemmas.Bool.Decides.{Decides-eqb}
use Rattle.indexmap.specs.IndexSet.{insert_key}
use Rattle.sv_text_type.specs.declared.text_type.TypeId.{TypeId}
use Rattle.sv_text_type.specs.declared.text_type.TextType.{TextType}
use Rattle.sv_text_type.specs.declared.text_type.TextType.TheVariants as t
use Rattle.sv_text_type.specs.contracts.text_type.TextTypePartialEq.TheImpl.{eq-value}
use Rattle.sv_text_type.specs.TextTypeParts.{HasParts, IsOrdered, AreDistinct, same_type}

both : (a b : Bool) → (a && b) ≡ true → (a ≡ true) × (b ≡ true)
both true b e = (refl, e)
both false b e = cc e

same : (m n : ℕ) → nat_eq m n ≡ true → m ≡ n
same m n e = (Decides-eqb m n).0 e

same_id : (p q : TypeId) → nat_eq p.0 q.0 ≡ true → p ≡ q
same_id p q e = λ i. record { 0 = same p.0 q.0 e i }

-- two types that the test finds equal are one
pub type_is : (x y : TextType) → (eq-value).it x y ≡ true → x ≡ y
type_is (t.Uint m) (t.Uint n) e = ap t.Uint (same m n e)
type_is (t.Int m) (t.Int n) e = ap t.Int (same m n e)
type_is t.Bool t.Bool e = refl
type_is (t.Address true) (t.Address true) e = refl
type_is (t.Address false) (t.Address false) e = refl
type_is t.Text t.Text e = refl
type_is (t.Contract m) (t.Contract n) e = ap t.Contract (same m n e)
type_is (t.Enum m) (t.Enum n) e = ap t.Enum (same m n e)
type_is (t.Struct m) (t.Struct n) e = ap t.Struct (same m n e)
type_is (t.Fixed p m) (t.Fixed q n) e = let s = both (nat_eq p.0 q.0) (nat_eq m n) e in ap₂ t.Fixed (same_id p q s.0) (same m n s.1)
type_is (t.Dynamic p) (t.Dynamic q) e = ap t.Dynamic (same_id p q e)
type_is (t.Mapping p a) (t.Mapping q b) e = let s = both (nat_eq p.0 q.0) (nat_eq a.0 b.0) e in ap₂ t.Mapping (same_id p q s.0) (same_id a b s.1)
type_is _ _ e = cc e

pub type_self : (x : TextType) → (eq-value).it x x ≡ true
type_self (t.Uint m) = (Decides-eqb m m).1 refl
type_self (t.Int m) = (Decides-eqb m m).1 refl
type_self t.Bool = refl
type_self (t.Address true) = refl
type_self (t.Address false) = refl
type_self t.Text = refl
type_self (t.Contract m) = (Decides-eqb m m).1 refl
type_self (t.Enum m) = (Decides-eqb m m).1 refl
type_self (t.Struct m) = (Decides-eqb m m).1 refl
type_self (t.Fixed p m) = ap₂ (λ a b. a && b) ((Decides-eqb p.0 p.0).1 refl) ((Decides-eqb m m).1 refl)
type_self (t.Dynamic p) = (Decides-eqb p.0 p.0).1 refl
type_self (t.Mapping p a) = ap₂ (λ a b. a && b) ((Decides-eqb p.0 p.0).1 refl) ((Decides-eqb a.0 a.0).1 refl)

pub type_test : (x y : TextType) → (eq-value).it x y ≡ same_type x y
type_test (t.Uint m) (t.Uint n) = refl
type_test (t.Int m) (t.Int n) = refl
type_test t.Bool t.Bool = refl
type_test (t.Address true) (t.Address q) = refl
type_test (t.Address false) (t.Address q) = refl
type_test t.Text t.Text = refl
type_test (t.Contract m) (t.Contract n) = refl
type_test (t.Enum m) (t.Enum n) = refl
type_test (t.Struct m) (t.Struct n) = refl
type_test (t.Fixed p m) (t.Fixed q n) = refl
type_test (t.Dynamic p) (t.Dynamic q) = refl
type_test (t.Mapping p a) (t.Mapping q b) = refl
type_test _ _ = refl

-- the type at the place that was found
pub type_at : (x : TextType) (ts : List TextType) (i : ℕ) → i < length ts → position (λ k. (eq-value).it x k) ts ≡ Some i → slice_get ts i ≡ Some x
type_at x ts i lt e =
    elim (slice_get_cases ts i).1 [
      | inl w ↦ w.2 ∙ ap Some (sym (type_is x w.0 (subst (λ k. (eq-value).it x k ≡ true) w.3 (position-Some _ ts i w.0 e).1)))
      | inr w ↦ absurd (omega (arith, lt, w.0))
    ]

none_passes : (x : TextType) (ts : List TextType) → ((j : ℕ) → slice_get ts j ≡ Some x → ⊥) → list_any (λ k. (eq-value).it x k) ts ≡ false
none_passes x [] h = refl
none_passes x (y ∷ ts) h = go ((eq-value).it x y) refl (none_passes x ts (λ j a. h (suc j) a))
  where
    go : (b : Bool) → (eq-value).it x y ≡ b → list_any (λ k. (eq-value).it x k) ts ≡ false → (b || list_any (λ k. (eq-value).it x k) ts) ≡ false
    go true e rest = absurd (h 0 (ap Some (sym (type_is x y e))))
    go false e rest = rest

absent_at : (x : TextType) (ts : List TextType) → (Contains ts x → ⊥) → (j : ℕ) → slice_get ts j ≡ Some x → ⊥
absent_at x ts absent j e = absent (j, slice_get_within ts j x e, go)
  where
    go : get_or ts j x ≡ x
    go = get_or_is ts j e
      where
        get_or_is : (ts : List TextType) (j : ℕ) → slice_get ts j ≡ Some x → get_or ts j x ≡ x
        get_or_is [] j e = refl
        get_or_is (y ∷ ts) zero e = same_Some y x e
        get_or_is (y ∷ ts) (suc j) e = get_or_is ts j e

-- a type that isn't there goes last
pub put_last : (x : TextType) (ts now : List TextType) → (Contains ts x → ⊥) → now ≡ insert_key (eq-value).it ts x → now ≡ ts ++ x ∷ []
put_last x ts now absent is = is ∙ ap (λ b. if b then ts else ts ++ x ∷ []) (none_passes x ts (absent_at x ts absent))

pub last_at : (x : TextType) (ts : List TextType) → slice_get (ts ++ x ∷ []) (length ts) ≡ Some x
last_at x [] = refl
last_at x (y ∷ ts) = last_at x ts

-- a place of the longer list is one of the list, or the last
place_of : (x y : TextType) (ts : List TextType) (j : ℕ) → slice_get (ts ++ x ∷ []) j ≡ Some y → (slice_get ts j ≡ Some y) ⊎ ((j ≡ length ts) × (x ≡ y))
place_of x y [] zero e = inr (refl, same_Some x y e)
place_of x y [] (suc j) e = cc e
place_of x y (z ∷ ts) zero e = inl e
place_of x y (z ∷ ts) (suc j) e =
    elim (place_of x y ts j e) [
      | inl w ↦ inl w
      | inr w ↦ inr (ap suc w.0, w.1)
    ]

pub stays_ordered : (x : TextType) (ts : List TextType) → HasParts (length ts) x → IsOrdered ts → IsOrdered (ts ++ x ∷ [])
stays_ordered x ts parts ordered n y e =
    elim (place_of x y ts n e) [
      | inl w ↦ ordered n y w
      | inr w ↦ subst (λ m. HasParts m y) (sym w.0) (subst (HasParts (length ts)) w.1 parts)
    ]

pub stays_distinct : (x : TextType) (ts : List TextType) → (Contains ts x → ⊥) → AreDistinct ts → AreDistinct (ts ++ x ∷ [])
stays_distinct x ts absent distinct j k y e f =
    elim (place_of x y ts j e) [
      | inl v ↦ elim (place_of x y ts k f) [
        | inl w ↦ distinct j k y v w
        | inr w ↦ absurd (absent_at x ts absent j (v ∙ ap Some (sym w.1)))
      ]
      | inr v ↦ elim (place_of x y ts k f) [
        | inl w ↦ absurd (absent_at x ts absent k (w ∙ ap Some (sym v.1)))
        | inr w ↦ v.0 ∙ sym w.0
      ]
    ]
