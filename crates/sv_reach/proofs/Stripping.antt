-- Marking a node whose successors are all marked keeps marks off rings; what a step owes.
use Rattle.std.proofs.Common.{ℕ, zero, suc, ◌≡◌, ◌∙◌, ◌+◌, ◌<◌, ◌≤◌, ◌⊎◌, inl, inr, Bool, true, false, cond, ◌&&◌, List, [], ◌∷◌, length, get_or, replicate, slice_index_or, slice_set, refl, sym, ap, subst, arith}
use Rattle.std.specs.List.{Contains, list_all}
use Rattle.std.proofs.lemmas.List.{get_or_default, get_or_past, get_or-set_same, get_or-set_other, length-set, length-replicate}
use Rattle.std.proofs.lemmas.List.Elements.{Contains-append_cases}
use Rattle.std.proofs.lemmas.Bool.{cases_lt, cases_eq}
use Rattle.sv_reach.specs.Paths.{HasEdge, Path, IsOnRing}
use Rattle.sv_reach.specs.Strips.{OffRings, left, owed}
use Rattle.sv_reach.proofs.Searching.{is_one, is_node}
use Rattle.sv_reach.proofs.Following.{none_met}

abbrev pub IsOff : List Bool → ℕ → Type 0
IsOff ms a = get_or ms a false ≡ true

-- where a node is stripped, so are its successors, and it is on no ring
pub record Stripped (g : List (List ℕ)) (ms : List Bool) : Type 0 where
  pub size : length ms ≡ length g
  pub closed : (a b : ℕ) → IsOff ms a → HasEdge g a b → IsOff ms b
  pub free : (a : ℕ) → IsOff ms a → IsOnRing g a → ⊥

pub off_rings : (g : List (List ℕ)) (ms : List Bool) → Stripped g ms → OffRings g ms
off_rings g ms s = (s.size, λ a m r. s.free a m r)

pub at_first : (g : List (List ℕ)) (ms : List Bool) → ms ≡ replicate (length g) false → Stripped g ms
at_first g ms e = record {
  size = ap length e ∙ length-replicate (length g) false;
  closed = λ a b m h. absurd (no a m);
  free = λ a m r. no a m;
}
  where
    no : (a : ℕ) → IsOff ms a → ⊥
    no a m = let f = none_met (length g) a in cc

all_of : (p : ℕ → Bool) (xs : List ℕ) (b : ℕ) → list_all p xs ≡ true → Contains xs b → p b ≡ true
all_of p [] b h c = absurd (omega (arith, c.1))
all_of p (x ∷ xs) b h c = go (all_of p xs b) (p x) refl h
  where
    go : (list_all p xs ≡ true → Contains xs b → p b ≡ true) → (q : Bool) → p x ≡ q → q && list_all p xs ≡ true → p b ≡ true
    go later true e k = elim (Contains-append_cases (x ∷ []) xs b c) [
      | inl d ↦ subst (λ y. p y ≡ true) (is_one x b d) e
      | inr d ↦ later k d
    ]
    go later false e k = absurd cc

along : (g : List (List ℕ)) (ms : List Bool) → Stripped g ms → (n a b : ℕ) → Path g n a b → IsOff ms a → IsOff ms b
along g ms s zero a b p m = subst (IsOff ms) p m
along g ms s (suc n) a b p m = along g ms s n p.0 b p.2 (s.closed a p.0 m p.1)

stripped_next : (g : List (List ℕ)) (a : ℕ) (ms : List Bool) → get_or ms a true ≡ false → ((b : ℕ) → HasEdge g a b → IsOff ms b) → Stripped g ms → Stripped g (slice_set ms a true)
stripped_next g a ms h all s =
    let new = slice_set ms a true in
    let l : a < length ms = is_node ms a h in
    let here : IsOff new a = get_or-set_same ms a true false l in
    let kept : (b : ℕ) → IsOff ms b → IsOff new b = λ b m. elim (cases_eq b a) [ inl e ↦ subst (IsOff new) (sym e) here | inr n ↦ get_or-set_other ms a b true false n ∙ m ] in
    let was : (b : ℕ) → IsOff new b → (b ≡ a) ⊎ IsOff ms b = λ b m. elim (cases_eq b a) [ inl e ↦ inl e | inr n ↦ inr (sym (get_or-set_other ms a b true false n) ∙ m) ] in
    let not : IsOff ms a → ⊥ = λ m. (let d = get_or_default ms a true false l in cc) in
    let ring : IsOnRing g a → ⊥ = λ r. not (along g ms s r.0 r.1.0 a r.1.2 (all r.1.0 r.1.1)) in
    record {
      size = length-set ms a true ∙ s.size;
      closed = λ b c m e. elim (was b m) [
        | inl i ↦ kept c (all c (subst (λ x. HasEdge g x c) i e))
        | inr k ↦ kept c (s.closed b c k e)
      ];
      free = λ b m r. elim (was b m) [
        | inl i ↦ ring (subst (IsOnRing g) i r)
        | inr k ↦ s.free b k r
      ];
    }

pub left_strips : (g : List (List ℕ)) (a : ℕ) (ms : List Bool) → Stripped g ms → Stripped g (left g a ms)
left_strips g a ms s = go (get_or ms a true) refl
  where
    p : ℕ → Bool
    p b = get_or ms b true

    next : List ℕ
    next = slice_index_or g a []

    off : list_all p next ≡ true → (b : ℕ) → HasEdge g a b → IsOff ms b
    off k b e = sym (get_or_default ms b true false (omega (arith, e.0, s.size))) ∙ all_of p next b k e.1

    inner : get_or ms a true ≡ false → (c : Bool) → list_all p next ≡ c → Stripped g (cond c (slice_set ms a true) ms)
    inner h true k = stripped_next g a ms h (off k) s
    inner h false k = s

    go : (c : Bool) → get_or ms a true ≡ c → Stripped g (cond c ms (cond (list_all p next) (slice_set ms a true) ms))
    go true e = s
    go false e = inner e (list_all p next) refl

-- ---- what is owed

pub owed_less : (ms : List Bool) (g : List (List ℕ)) (a : ℕ) → get_or ms a true ≡ false → owed (slice_set ms a true) g + length (slice_index_or g a []) + 1 ≤ owed ms g
owed_less [] g a h = absurd cc
owed_less (m ∷ ms) [] zero h = now m ms h
  where
    now : (b : Bool) (bs : List Bool) → b ≡ false → owed (true ∷ bs) [] + 0 + 1 ≤ owed (b ∷ bs) []
    now true bs e = absurd cc
    now false bs e = omega arith
owed_less (m ∷ ms) (next ∷ g) zero h = now m ms h
  where
    now : (b : Bool) (bs : List Bool) → b ≡ false → owed (true ∷ bs) (next ∷ g) + length next + 1 ≤ owed (b ∷ bs) (next ∷ g)
    now true bs e = absurd cc
    now false bs e = omega arith
owed_less (m ∷ ms) [] (suc a) h = omega (arith, owed_less ms [] a h)
owed_less (m ∷ ms) (next ∷ g) (suc a) h = omega (arith, owed_less ms g a h)
