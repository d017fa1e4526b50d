-- A search follows paths: what it keeps, and that it ends with what is reached.
use Rattle.std.proofs.Common.{ℕ, zero, suc, ◌≡◌, ◌∙◌, ◌+◌, ◌<◌, ◌⊎◌, inl, inr, true, false, List, [], ◌∷◌, ◌++◌, length, get_or, replicate, slice_index_or, refl, sym, ap, subst, arith, length-append}
use Rattle.std.specs.List.{Contains}
use Rattle.std.proofs.lemmas.List.{get_or_past, length-replicate}
use Rattle.std.proofs.lemmas.List.Elements.{Contains-append_left, Contains-push, Contains-push_cases}
use Rattle.std.proofs.lemmas.Bool.{cases_lt}
use Rattle.sv_reach.specs.declared.reach.Search.{Search}
use Rattle.sv_reach.specs.Paths.{HasEdge, Path, IsReached, AreMarks}
use Rattle.sv_reach.specs.Searches.{all_entered}
use Rattle.sv_reach.proofs.Searching.{IsMet, unmet, all_enter}

-- ---- paths

pub edge_from : (g : List (List ℕ)) (a b : ℕ) → HasEdge g a b → a < length g
edge_from g a b e = elim (cases_lt a (length g)) [
  | inl l ↦ l
  | inr l ↦ absurd (let none = ap length (get_or_past g a [] l) in omega (arith, none, e.1.1))
]

pub one_more : (g : List (List ℕ)) (n a b c : ℕ) → Path g n a b → HasEdge g b c → Path g (suc n) a c
one_more g zero a b c p e = (c, subst (λ x. HasEdge g x c) (sym p) e, refl)
one_more g (suc n) a b c p e = (p.0, p.1, one_more g n p.0 b c p.2 e)

pub reached_next : (g : List (List ℕ)) (starts : List ℕ) (a b : ℕ) → IsReached g starts a → HasEdge g a b → IsReached g starts b
reached_next g starts a b r e = (r.0, r.1, (suc r.2.0, one_more g r.2.0 r.0 a b r.2.1 e))

-- ---- what a search keeps

pub record Follows (g : List (List ℕ)) (starts : List ℕ) (s : Search) : Type 0 where
  pub size : length s.met ≡ length g
  pub reached : (a : ℕ) → IsMet s a → IsReached g starts a
  pub begun : (a : ℕ) → a < length g → Contains starts a → IsMet s a
  pub waits : (a : ℕ) → Contains s.waiting a → IsMet s a
  pub followed : (a : ℕ) → IsMet s a → Contains s.waiting a ⊎ ((b : ℕ) → HasEdge g a b → IsMet s b)

pub none_met : (n a : ℕ) → get_or (replicate n false) a false ≡ false
none_met zero a = refl
none_met (suc n) zero = refl
none_met (suc n) (suc a) = none_met n a

never : (s : Search) (n a : ℕ) → s.met ≡ replicate n false → IsMet s a → ⊥
never s n a e m = let f = none_met n a in cc

no_item : (xs : List ℕ) (a : ℕ) → xs ≡ [] → Contains xs a → ⊥
no_item xs a e c = omega (arith, ap length e, c.1)

pub at_first : (g : List (List ℕ)) (starts : List ℕ) (s : Search) → s.met ≡ replicate (length g) false → s.waiting ≡ [] → Follows g starts (all_entered starts s)
at_first g starts s e w =
    let n = all_enter starts s in
    let size : length s.met ≡ length g = ap length e ∙ length-replicate (length g) false in
    record {
      size = n.size ∙ size;
      reached = λ a m. elim (n.only a m) [ inl k ↦ absurd (never s (length g) a e k) | inr k ↦ (a, k.0, (zero, refl)) ];
      begun = λ a l c. n.all a (omega (arith, l, size)) c;
      waits = λ a c. elim (n.waits a c) [ inl k ↦ absurd (no_item s.waiting a w k) | inr k ↦ k ];
      followed = λ a m. elim (n.only a m) [ inl k ↦ absurd (never s (length g) a e k) | inr k ↦ inl k.1 ];
    }

-- a node that waited last is followed
pub followed_next : (g : List (List ℕ)) (starts : List ℕ) (s t : Search) (a : ℕ) → s.waiting ≡ t.waiting ++ a ∷ [] → s.met ≡ t.met → Follows g starts s → Follows g starts (all_entered (slice_index_or g a []) t)
followed_next g starts s t a e same f =
    let next = slice_index_or g a [] in
    let n = all_enter next t in
    let u = all_entered next t in
    let to = λ (b : ℕ) (m : IsMet t b). subst (λ x. get_or x b false ≡ true) (sym same) m in
    let from = λ (b : ℕ) (m : IsMet s b). subst (λ x. get_or x b false ≡ true) same m in
    let size : length t.met ≡ length g = ap length (sym same) ∙ f.size in
    let waited = λ (b : ℕ) (c : Contains (t.waiting ++ a ∷ []) b). subst (λ x. Contains x b) (sym e) c in
    let here : IsMet s a = f.waits a (waited a (Contains-push t.waiting a)) in
    let ends : (b : ℕ) → HasEdge g a b → IsMet u b = λ b h. n.all b (omega (arith, h.0, size)) h.1 in
    record {
      size = n.size ∙ size;
      reached = λ b m. elim (n.only b m) [
        | inl k ↦ f.reached b (to b k)
        | inr k ↦ reached_next g starts a b (f.reached a here) (node g b u (n.size ∙ size) m, k.0)
      ];
      begun = λ b l c. n.kept b (from b (f.begun b l c));
      waits = λ b c. elim (n.waits b c) [
        | inl k ↦ n.kept b (from b (f.waits b (waited b (Contains-append_left t.waiting (a ∷ []) b k))))
        | inr k ↦ k
      ];
      followed = λ b m. elim (n.only b m) [
        | inl k ↦ elim (f.followed b (to b k)) [
          | inl w ↦ elim (Contains-push_cases t.waiting a b (subst (λ x. Contains x b) e w)) [
            | inl v ↦ inl (n.still b v)
            | inr v ↦ inr (subst (λ x. (d : ℕ) → HasEdge g x d → IsMet u d) v ends)
          ]
          | inr all ↦ inr (λ d h. n.kept d (from d (all d h)))
        ]
        | inr k ↦ inl k.1
      ];
    }
  where
    node : (g : List (List ℕ)) (b : ℕ) (u : Search) → length u.met ≡ length g → IsMet u b → b < length g
    node g b u size m = elim (cases_lt b (length u.met)) [ inl l ↦ omega (arith, l, size) | inr l ↦ absurd (let none = get_or_past u.met b false l in cc) ]

-- ---- at the end

closed : (g : List (List ℕ)) (starts : List ℕ) (s : Search) → Follows g starts s → s.waiting ≡ [] → (n a b : ℕ) → Path g n a b → IsMet s a → IsMet s b
closed g starts s f e zero a b p m = subst (IsMet s) p m
closed g starts s f e (suc n) a b p m = elim (f.followed a m) [
  | inl w ↦ absurd (no_item s.waiting a e w)
  | inr all ↦ closed g starts s f e n p.0 b p.2 (all p.0 p.1)
]

path_met : (g : List (List ℕ)) (starts : List ℕ) (s : Search) → Follows g starts s → s.waiting ≡ [] → (n a b : ℕ) → b < length g → Contains starts a → Path g n a b → IsMet s b
path_met g starts s f e zero a b l c p = f.begun b l (subst (Contains starts) p c)
path_met g starts s f e (suc n) a b l c p = closed g starts s f e (suc n) a b p (f.begun a (edge_from g a p.0 p.1) c)

pub at_last : (g : List (List ℕ)) (starts : List ℕ) (s : Search) → Follows g starts s → s.waiting ≡ [] → AreMarks (length g) (IsReached g starts) s.met
at_last g starts s f e = (f.size, λ b l. (λ m. f.reached b m, λ r. path_met g starts s f e r.2.0 r.0 b l r.1 r.2.1))

-- ---- less is left to do

pub less_left : (g : List (List ℕ)) (s t : Search) (a : ℕ) → s.waiting ≡ t.waiting ++ a ∷ [] → s.met ≡ t.met → (next : List ℕ) → unmet (all_entered next t).met + length (all_entered next t).waiting < unmet s.met + length s.waiting
less_left g s t a e same next = omega (arith, (all_enter next t).work, ap unmet same, ap length e, length-append t.waiting (a ∷ []))
