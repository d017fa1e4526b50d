-- The numbers of sorts that the code finds for a node.
use Rattle.std.proofs.Common.{ℕ, zero, suc, ◌<◌, Bool, true, false, cond, nat_eq, List, [], ◌∷◌, ◌≡◌, length, get_or, refl, sym, ap, ◌∙◌, subst, true≢false, arith}
use Rattle.sv_term.specs.Sorts.{Sort, NumSort, TupSort, Any, same_sort, is_tuple, parts, count, sort_at}
use Rattle.sv_term.specs.Banks.{Nodes, TupRow, sort, wide, parts_by, IsSort, AreSorts, IsKind, IsPlacedSort}
use Rattle.sv_term.specs.declared.node.SortId.{SortId}
use Rattle.sv_term.proofs.Same.{sort_is, sort_self, nat_same}
use Rattle.sv_term.proofs.NodeEquality.{sort_id_is}
use Rattle.sv_term.proofs.Wide.{tuple_wide, count_parts, part_at}

-- two terms of one sort
pub one_kind : (b : Nodes) (j k : SortId) (x y : Sort) → IsKind b j x → IsKind b k y → nat_eq j.0 k.0 ≡ true → IsKind b j (cond (same_sort x y) x (NumSort Any))
one_kind b j k x y g h e =
    let s : x ≡ y = sym g.is ∙ (ap (sort b) (sort_id_is j k e) ∙ h.is) in
    subst (λ z. IsKind b j (cond z x (NumSort Any))) (sym (subst (λ z. same_sort x z ≡ true) s (sort_self x))) g

-- two terms whose sorts have two numbers
pub two_kinds : (old new : Nodes) (i j k : SortId) (x y : Sort) → IsKind old k y → ((m : SortId) → IsKind old m x → m ≡ j) → nat_eq j.0 k.0 ≡ false → IsKind new i (NumSort Any) → IsKind new i (cond (same_sort x y) x (NumSort Any))
two_kinds old new i j k x y h only e g = go (same_sort x y) refl
  where
    go : (c : Bool) → same_sort x y ≡ c → IsKind new i (cond c x (NumSort Any))
    go true s =
        let one : k ≡ j = only k (record { within = h.within; is = h.is ∙ sym (sort_is x y s) }) in
        absurd (true≢false (sym (nat_same j.0 k.0 (ap (λ z. z.0) (sym one))) ∙ e))
    go false s = g

-- the sort of a tuple's term, by the parts that its node names
tuple_parts : (b : Nodes) (s : SortId) (t : Sort) (ks : List SortId) → IsKind b s t → IsPlacedSort b s (TupRow ks) → t ≡ TupSort (parts_by (sort b) ks)
tuple_parts b s t ks k p = sym k.is ∙ p.is

pub part_room : (b : Nodes) (s : SortId) (t : Sort) (ks : List SortId) (k : ℕ) → IsKind b s t → IsPlacedSort b s (TupRow ks) → is_tuple (wide t) ≡ true → k < count (parts (wide t)) → k < length ks
part_room b s t ks k i p e h =
    let f = tuple_parts b s t ks i p in
    subst (λ n. k < n) (ap (λ z. count (parts z)) (tuple_wide t e ∙ f) ∙ count_parts (sort b) ks) h

within_any : (b : Nodes) (ks : List SortId) (n : ℕ) (d : SortId) → AreSorts b ks → n < length ks → IsSort b (get_or ks n d)
within_any b [] n d i h = absurd (omega arith)
within_any b (k ∷ ks) zero d i h = i.0
within_any b (k ∷ ks) (suc n) d i h = within_any b ks n d i.1 (omega (arith, h))

pub part_kind : (b : Nodes) (s : SortId) (t : Sort) (ks : List SortId) (k : ℕ) (d : SortId) → IsKind b s t → IsPlacedSort b s (TupRow ks) → is_tuple (wide t) ≡ true → k < count (parts (wide t)) → IsKind b (get_or ks k d) (sort_at k (parts t))
part_kind b s t ks k d i p e h =
    let room = part_room b s t ks k i p e h in
    record {
      within = within_any b ks k d p.fits room;
      is = sym (ap (λ z. sort_at k (parts z)) (tuple_parts b s t ks i p) ∙ part_at (sort b) ks k d room);
    }
