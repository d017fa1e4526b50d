-- A merge holds what its lists hold, once, and there is one merge at most.
use Rattle.std.proofs.Common.{ℕ, ◌≡◌, ◌∙◌, ◌⊎◌, inl, inr, Bool, true, false, cond, not, nat_eq, Option, Some, List, [], ◌∷◌, ◌++◌, map, reverse, slice_index_or, refl, sym, ap, subst}
use Rattle.std.proofs.lemmas.Bool.{cases_eq, eqb-true, eqb-false, eq-eqb, or_left, or_right, and_parts, not-true}
use Rattle.sv_lines.specs.Lines.{has, in_tail, takes, pick, pick_from, headless, without, all_empty, Merged, to_merge}
use Rattle.sv_orders.proofs.Members.{Has, Once, has_reverse, reverse_has}

abbrev pub InSome : ℕ → List (List ℕ) → Type 0
InSome d [] = ⊥
InSome d (l ∷ ls) = Has d l ⊎ InSome d ls

has_true : (d : ℕ) (xs : List ℕ) → Has d xs → has d xs ≡ true
has_true d [] h = absurd h
has_true d (x ∷ xs) (inl e) = or_left (nat_eq x d) (has d xs) (eq-eqb x d e)
has_true d (x ∷ xs) (inr h) = or_right (nat_eq x d) (has d xs) (has_true d xs h)

-- ---- a head that is taken

kept : (h d : ℕ) (l : List ℕ) → (d ≡ h → ⊥) → Has d l → Has d (headless h l)
kept h d [] n m = m
kept h d (x ∷ xs) n m = go (nat_eq x h) refl m
  where
    go : (b : Bool) → nat_eq x h ≡ b → Has d (x ∷ xs) → Has d (cond b xs (x ∷ xs))
    go true e (inl k) = absurd (n (sym k ∙ eqb-true x h e))
    go true e (inr k) = k
    go false e k = k

was : (h d : ℕ) (l : List ℕ) → Has d (headless h l) → Has d l
was h d [] m = m
was h d (x ∷ xs) m = go (nat_eq x h) m
  where
    go : (b : Bool) → Has d (cond b xs (x ∷ xs)) → Has d (x ∷ xs)
    go true k = inr k
    go false k = k

gone : (h : ℕ) (l : List ℕ) → in_tail h l ≡ false → Has h (headless h l) → ⊥
gone h [] t m = m
gone h (x ∷ xs) t m = go (nat_eq x h) refl m
  where
    behind : Has h xs → ⊥
    behind k = let e = has_true h xs k in cc

    go : (b : Bool) → nat_eq x h ≡ b → Has h (cond b xs (x ∷ xs)) → ⊥
    go true e k = behind k
    go false e (inl k) = eqb-false x h e k
    go false e (inr k) = behind k

all_kept : (h d : ℕ) (ls : List (List ℕ)) → (d ≡ h → ⊥) → InSome d ls → InSome d (without h ls)
all_kept h d [] n m = m
all_kept h d (l ∷ ls) n (inl k) = inl (kept h d l n k)
all_kept h d (l ∷ ls) n (inr k) = inr (all_kept h d ls n k)

all_were : (h d : ℕ) (ls : List (List ℕ)) → InSome d (without h ls) → InSome d ls
all_were h d [] m = m
all_were h d (l ∷ ls) (inl k) = inl (was h d l k)
all_were h d (l ∷ ls) (inr k) = inr (all_were h d ls k)

all_gone : (h : ℕ) (ls : List (List ℕ)) → takes h ls ≡ true → InSome h (without h ls) → ⊥
all_gone h [] t m = m
all_gone h (l ∷ ls) t (inl k) = gone h l (not-true (in_tail h l) (and_parts (not (in_tail h l)) (takes h ls) t).0) k
all_gone h (l ∷ ls) t (inr k) = all_gone h ls (and_parts (not (in_tail h l)) (takes h ls) t).1 k

picked : (all ls : List (List ℕ)) (h : ℕ) → pick_from all ls ≡ Some h → (takes h all ≡ true) × InSome h ls
picked all [] h e = absurd cc
picked all ([] ∷ ls) h e = let r = picked all ls h e in (r.0, inr r.1)
picked all ((x ∷ t) ∷ ls) h e = go (takes x all) refl e (picked all ls h)
  where
    go : (b : Bool) → takes x all ≡ b → cond b (Some x) (pick_from all ls) ≡ Some h → (pick_from all ls ≡ Some h → (takes h all ≡ true) × InSome h ls) → (takes h all ≡ true) × InSome h ((x ∷ t) ∷ ls)
    go true f k rec = let s : x ≡ h = cc k in (subst (λ z. takes z all ≡ true) s f, inl (inl s))
    go false f k rec = let r = rec k in (r.0, inr r.1)

nothing_in : (ls : List (List ℕ)) (d : ℕ) → all_empty ls ≡ true → InSome d ls → ⊥
nothing_in [] d e m = m
nothing_in ([] ∷ ls) d e (inl k) = k
nothing_in ([] ∷ ls) d e (inr k) = nothing_in ls d e k
nothing_in ((x ∷ t) ∷ ls) d e m = absurd cc

-- ---- merges

pub merged_from : (ls : List (List ℕ)) (m : List ℕ) → Merged ls m → (d : ℕ) → Has d m → InSome d ls
merged_from ls [] p d h = absurd h
merged_from ls (x ∷ m) p d (inl e) = subst (λ z. InSome z ls) e (picked ls ls x p.0).1
merged_from ls (x ∷ m) p d (inr h) = all_were x d ls (merged_from (without x ls) m p.1 d h)

pub merged_all : (ls : List (List ℕ)) (m : List ℕ) → Merged ls m → (d : ℕ) → InSome d ls → Has d m
merged_all ls [] p d i = absurd (nothing_in ls d p i)
merged_all ls (x ∷ m) p d i = elim (cases_eq d x) [ inl e ↦ inl (sym e) | inr n ↦ inr (merged_all (without x ls) m p.1 d (all_kept x d ls n i)) ]

pub merged_once : (ls : List (List ℕ)) (m : List ℕ) → Merged ls m → Once m
merged_once ls [] p = tt
merged_once ls (x ∷ m) p = (λ h. all_gone x ls (picked ls ls x p.0).0 (merged_from (without x ls) m p.1 x h), merged_once (without x ls) m p.1)

pub merged_one : (ls : List (List ℕ)) (m n : List ℕ) → Merged ls m → Merged ls n → m ≡ n
merged_one ls [] [] p q = refl
merged_one ls [] (y ∷ n) p q = absurd (nothing_in ls y p (picked ls ls y q.0).1)
merged_one ls (x ∷ m) [] p q = absurd (nothing_in ls x q (picked ls ls x p.0).1)
merged_one ls (x ∷ m) (y ∷ n) p q =
    let e : y ≡ x = same (pick ls) p.0 q.0 in
    ap (λ z. x ∷ z) (merged_one (without x ls) m n p.1 (subst (λ z. Merged (without z ls) n) e q.1)) ∙ ap (λ z. z ∷ n) (sym e)
  where
    same : (r : Option ℕ) → r ≡ Some x → r ≡ Some y → y ≡ x
    same r a b = cc (a, b)

-- ---- the lists that make an order

of_each : (f : ℕ → List ℕ) (xs last : List ℕ) (d : ℕ) → InSome d (map f xs ++ last ∷ []) → ((b : ℕ) × Has b xs × Has d (f b)) ⊎ Has d last
of_each f [] last d (inl k) = inr k
of_each f [] last d (inr k) = absurd k
of_each f (x ∷ xs) last d (inl k) = inl (x, inl refl, k)
of_each f (x ∷ xs) last d (inr k) = elim (of_each f xs last d k) [ inl r ↦ inl (r.0, inr r.1, r.2) | inr r ↦ inr r ]

in_each : (f : ℕ → List ℕ) (xs last : List ℕ) (b d : ℕ) → Has b xs → Has d (f b) → InSome d (map f xs ++ last ∷ [])
in_each f [] last b d h k = absurd h
in_each f (x ∷ xs) last b d (inl e) k = inl (subst (λ z. Has d (f z)) (sym e) k)
in_each f (x ∷ xs) last b d (inr h) k = inr (in_each f xs last b d h k)

in_last : (f : ℕ → List ℕ) (xs last : List ℕ) (d : ℕ) → Has d last → InSome d (map f xs ++ last ∷ [])
in_last f [] last d h = inl h
in_last f (x ∷ xs) last d h = inr (in_last f xs last d h)

pub from_bases : (table : List (List ℕ)) (bases : List ℕ) (d : ℕ) → InSome d (to_merge table bases) → ((b : ℕ) × Has b bases × Has d (slice_index_or table b [])) ⊎ Has d bases
from_bases table bases d i = elim (of_each (λ b. slice_index_or table b []) (reverse bases) (reverse bases) d i) [
  | inl r ↦ inl (r.0, reverse_has bases r.0 r.1, r.2)
  | inr r ↦ inr (reverse_has bases d r)
]

pub by_order : (table : List (List ℕ)) (bases : List ℕ) (b d : ℕ) → Has b bases → Has d (slice_index_or table b []) → InSome d (to_merge table bases)
by_order table bases b d h k = in_each (λ b. slice_index_or table b []) (reverse bases) (reverse bases) b d (has_reverse bases b h) k
