-- The innermost split, kept last: how it is read, and what a push, a change and a cut leave.
use Rattle.std.proofs.Common.{ℕ, zero, suc, ◌+◌, ◌-◌, ◌<◌, ◌≤◌, Bool, true, false, cond, IsTrue, List, [], ◌∷◌, ◌++◌, ◌≡◌, ◌⊎◌, inl, inr, length, map, reverse, take, get_or, slice_set, refl, sym, ap, ap₂, ◌∙◌, subst, arith}
use Rattle.std.proofs.lemmas.List.{map_push, reverse-append, length-append, length-map, length-reverse, take-append-le, take_all, length-take-le, take_more}
use Rattle.std.proofs.Math.Seq.{get_or-append_seam, set-append_seam}
use Rattle.std.specs.Bool.{Decides}
use Rattle.sv_branch.specs.OpenBranches as b
use Rattle.sv_force.specs.InForce.{FactOn, Force}
use Rattle.sv_branch.specs.OpenBranches.{IsInFirstHalf, AreNested, open_around, standing, with_items, turned}
use Rattle.sv_branch.specs.Stacks.{plain_split, stacked}
use Rattle.sv_branch.specs.declared.branch.OpenSplit.{OpenSplit}

pub stacked_push : (ps : List OpenSplit) (p : OpenSplit) → stacked (ps ++ p ∷ []) ≡ plain_split p ∷ stacked ps
stacked_push ps p = ap reverse (map_push plain_split ps p) ∙ reverse-append (map plain_split ps) (plain_split p ∷ [])

pub stacked_length : (ps : List OpenSplit) → length (stacked ps) ≡ length ps
stacked_length ps = length-reverse (map plain_split ps) ∙ length-map ps plain_split

-- a list is empty or has a last member
pub record HasLast (ps : List OpenSplit) : Type 0 where
  pub front : List OpenSplit
  pub last : OpenSplit
  pub is : ps ≡ front ++ last ∷ []

pub has_last : (ps : List OpenSplit) → (ps ≡ []) ⊎ HasLast ps
has_last [] = inl refl
has_last (p ∷ ps) = go (has_last ps)
  where
    go : (ps ≡ []) ⊎ HasLast ps → (p ∷ ps ≡ []) ⊎ HasLast (p ∷ ps)
    go (inl e) = inr (record { front = []; last = p; is = ap (λ x. p ∷ x) e })
    go (inr h) = inr (record { front = p ∷ h.front; last = h.last; is = ap (λ x. p ∷ x) h.is })

module _ (ps front : List OpenSplit) (last : OpenSplit) (is : ps ≡ front ++ last ∷ []) where
  pub length_last : length ps ≡ length front + 1
  length_last = ap length is ∙ (length-append front (last ∷ []) ∙ omega arith)

  pub read_last : (k : ℕ) (d : OpenSplit) → k ≡ length front → get_or ps k d ≡ last
  read_last k d e = ap (λ x. get_or ps x d) e ∙ (ap (λ x. get_or x (length front) d) is ∙ get_or-append_seam front last [] d)

  pub stacked_last : stacked ps ≡ plain_split last ∷ stacked front
  stacked_last = ap stacked is ∙ stacked_push front last

  pub take_front : (k : ℕ) → k ≤ length front → take k ps ≡ take k front
  take_front k l = ap (λ x. take k x) is ∙ take-append-le k front (last ∷ []) l

-- ---- the innermost split

pub first_half_last : (ps : List OpenSplit) (h : HasLast ps) → Decides (cond h.last.second false true) (IsInFirstHalf (stacked ps))
first_half_last ps h = subst (λ x. Decides (cond h.last.second false true) (IsInFirstHalf x)) (sym (stacked_last ps h.front h.last h.is)) (go h.last.second)
  where
    go : (s : Bool) → Decides (cond s false true) (s ≡ false)
    go true = (λ t. cc t, λ f. cc f)
    go false = (λ t. refl, λ f. refl)

pub half_has_last : (ps : List OpenSplit) → IsInFirstHalf (stacked ps) → HasLast ps
half_has_last ps h = go (has_last ps)
  where
    go : (ps ≡ []) ⊎ HasLast ps → HasLast ps
    go (inl e) = absurd (subst (λ x. IsInFirstHalf (stacked x)) e h)
    go (inr l) = l

-- ---- nesting

pub nested_more : (n m : ℕ) (ps : List b.OpenSplit) → AreNested n ps → n ≤ m → AreNested m ps
nested_more n m [] h l = tt
nested_more n m (p ∷ ps) h l = (omega (arith, h.0, l), h.1)

pub nested_around : (n : ℕ) (ps : List b.OpenSplit) → AreNested n ps → AreNested n (open_around ps)
nested_around n [] h = tt
nested_around n (p ∷ ps) h = go p.second (nested_around n ps (nested_more p.before n ps h.1 (omega (arith, h.0))))
  where
    go : (s : Bool) → AreNested n (open_around ps) → AreNested n (cond s (open_around ps) (p ∷ ps))
    go true g = g
    go false g = h

-- ---- a cut

module _ (ps : List OpenSplit) (n : ℕ) (s : OpenSplit) (h : HasLast ps) (at : n ≡ length h.front) (read : s ≡ get_or ps n s) where
  last_is : s ≡ h.last
  last_is = read ∙ read_last ps h.front h.last h.is n s at

  pub now_stacked : stacked ps ≡ plain_split s ∷ stacked h.front
  now_stacked = stacked_last ps h.front h.last h.is ∙ ap (λ x. plain_split x ∷ stacked h.front) (sym last_is)

  pub changed_stacked : (t : OpenSplit) → stacked (slice_set ps n t) ≡ plain_split t ∷ stacked h.front
  changed_stacked t =
      ap (λ x. stacked (slice_set x n t)) h.is
      ∙ (ap (λ x. stacked (slice_set (h.front ++ h.last ∷ []) x t)) at ∙ (ap stacked (set-append_seam h.front h.last [] t) ∙ stacked_push h.front t))

  module _ (f g : Force) (room : ℕ) (closed : Bool) (is : g ≡ with_items (take s.before f.items ++ FactOn false s.term ∷ []) f) where
    pub cut_is : standing g (stacked (slice_set ps n (record { term = s.term; before = s.before; second = true }))) room false ≡ turned (standing f (stacked ps) room closed) (stacked ps)
    cut_is =
        ap₂ (λ x y. standing x y room false) is (changed_stacked (record { term = s.term; before = s.before; second = true }))
        ∙ sym (ap (λ x. turned (standing f (stacked ps) room closed) x) now_stacked)

    pub cut_nested : AreNested (length f.items) (stacked ps) → length f.items ≤ f.room
        → AreNested (length g.items) (stacked (slice_set ps n (record { term = s.term; before = s.before; second = true }))) × (length g.items ≤ g.room)
    cut_nested nested room =
        let old : AreNested (length f.items) (plain_split s ∷ stacked h.front) = subst (AreNested (length f.items)) now_stacked nested in
        let long : length g.items ≡ s.before + 1 =
        ap (λ (x : Force). length x.items) is
        ∙ (length-append (take s.before f.items) (FactOn false s.term ∷ []) ∙ ap (λ x. x + 1) (length-take-le s.before f.items (omega (arith, old.0)))) in
        let size : g.room ≡ f.room = ap (λ (x : Force). x.room) is in (
          subst (AreNested (length g.items)) (sym (changed_stacked (record { term = s.term; before = s.before; second = true }))) (omega (arith, long), old.1),
          omega (arith, long, old.0, room, size),
        )

-- ---- a closing

pub take_last : (ps : List OpenSplit) (n : ℕ) (s : OpenSplit) → 0 < n → n ≤ length ps → s ≡ get_or ps (n - 1) s → stacked (take n ps) ≡ plain_split s ∷ stacked (take (n - 1) ps)
take_last ps n s some l read =
    let more : take (n - 1 + 1) ps ≡ take (n - 1) ps ++ get_or ps (n - 1) s ∷ [] = take_more ps (n - 1) s (omega arith) in
    let same : n ≡ n - 1 + 1 = omega arith in
    ap (λ x. stacked (take x ps)) same ∙ (ap stacked more ∙ (ap (λ x. stacked (take (n - 1) ps ++ x ∷ [])) (sym read) ∙ stacked_push (take (n - 1) ps) s))

pub around_second : (p : b.OpenSplit) (ps : List b.OpenSplit) → p.second ≡ true → open_around (p ∷ ps) ≡ open_around ps
around_second p ps e = ap (λ x. cond x (open_around ps) (p ∷ ps)) e

pub around_first : (p : b.OpenSplit) (ps : List b.OpenSplit) → p.second ≡ false → open_around (p ∷ ps) ≡ p ∷ ps
around_first p ps e = ap (λ x. cond x (open_around ps) (p ∷ ps)) e
