-- What entries, parts and sorts take together, as a loop adds it up.
use Rattle.std.proofs.Common.{ℕ, ◌+◌, ◌<◌, ◌≤◌, ◌≡◌, List, [], ◌∷◌, ◌++◌, length, map, take, get_or, refl, sym, ap, ap₂, ◌∙◌, arith}
use Rattle.std.proofs.lemmas.List.{take_more, take_all, map-append}
use Rattle.sv_term.specs.Sorts.{Sort}
use Rattle.sv_cert.specs.PlainNodes.{plain_sort, sorts_from}
use Rattle.sv_cert.specs.declared.sort.LogSort.{LogSort}
use Rattle.sv_room.specs.Rooms.{room, none, both, total, capped, capped_room}
use Rattle.sv_room.specs.Needs.{cells_of, cells_of_all}
use Rattle.sv_room.specs.declared.room.Room.{Room}
use Rattle.sv_room.proofs.Capping.{capped_sum}

pub same_room : (a b c d e f a' b' c' d' e' f' : ℕ) → a ≡ a' → b ≡ b' → c ≡ c' → d ≡ d' → e ≡ e' → f ≡ f' → room a b c d e f ≡ room a' b' c' d' e' f'
same_room a b c d e f a' b' c' d' e' f' p q r s t u = cc (p, q, r, s, t, u)

pub both_none : (r : Room) → both r none ≡ r
both_none r = same_room _ _ _ _ _ _ _ _ _ _ _ _ (omega arith) (omega arith) (omega arith) (omega arith) (omega arith) (omega arith)

pub none_both : (r : Room) → both none r ≡ r
none_both r = same_room _ _ _ _ _ _ _ _ _ _ _ _ (omega arith) (omega arith) (omega arith) (omega arith) (omega arith) (omega arith)

pub both_both : (r s t : Room) → both r (both s t) ≡ both (both r s) t
both_both r s t = same_room _ _ _ _ _ _ _ _ _ _ _ _ (omega arith) (omega arith) (omega arith) (omega arith) (omega arith) (omega arith)

pub capped_both : (r s : Room) → capped_room (both (capped_room r) (capped_room s)) ≡ capped_room (both r s)
capped_both r s = same_room _ _ _ _ _ _ _ _ _ _ _ _
    (capped_sum r.terms s.terms) (capped_sum r.args s.args) (capped_sum r.sorts s.sorts) (capped_sum r.items s.items) (capped_sum r.coefficients s.coefficients) (capped_sum r.splits s.splits)

module _ {A : Type 0} (need : A → Room) where
  pub total_append : (xs ys : List A) → total need (xs ++ ys) ≡ both (total need xs) (total need ys)
  total_append [] ys = sym (none_both (total need ys))
  total_append (x ∷ xs) ys = ap (both (need x)) (total_append xs ys) ∙ both_both (need x) (total need xs) (total need ys)

  pub total_one : (xs : List A) (x : A) → total need (xs ++ x ∷ []) ≡ both (total need xs) (need x)
  total_one xs x = total_append xs (x ∷ []) ∙ ap (both (total need xs)) (both_none (need x))

module _ {A B : Type 0} (need : B → Room) (f : A → B) where
  -- a loop adds up what each takes: its next round, and its end
  pub total_more : (xs : List A) (i : ℕ) (x : A) (now step next : Room) → i < length xs → x ≡ get_or xs i x → now ≡ capped_room (total need (map f (take i xs)))
      → step ≡ capped_room (need (f x)) → next ≡ capped_room (both now step) → next ≡ capped_room (total need (map f (take (i + 1) xs)))
  total_more xs i x now step next l e p q r =
      let taken = map f (take i xs) in
      r ∙ (ap₂ (λ a b. capped_room (both a b)) p q
      ∙ (capped_both (total need taken) (need (f x))
      ∙ ap capped_room (sym (ap (λ ys. total need (map f ys)) (take_more xs i x l ∙ ap (λ y. take i xs ++ y ∷ []) (sym e)) ∙ (ap (total need) (map-append f (take i xs) (x ∷ [])) ∙ total_one need taken (f x))))))

  pub total_all : (xs : List A) (i : ℕ) (now : Room) → length xs ≤ i → now ≡ capped_room (total need (map f (take i xs))) → now ≡ capped_room (total need (map f xs))
  total_all xs i now l p = p ∙ ap (λ ys. capped_room (total need (map f ys))) (take_all i xs l)

-- ---- the parts of a tuple

cells_append : (ss : List Sort) (s : Sort) → cells_of_all (sorts_from (ss ++ s ∷ [])) ≡ cells_of_all (sorts_from ss) + (cells_of s + 1)
cells_append [] s = omega arith
cells_append (r ∷ ss) s = omega (arith, cells_append ss s)

sum_moved : (a b : ℕ) → a + b + 1 ≡ a + (b + 1)
sum_moved a b = omega arith

pub cells_more : (xs : List LogSort) (i : ℕ) (x : LogSort) (now more both next : ℕ) → i < length xs → x ≡ get_or xs i x → now ≡ capped (cells_of_all (sorts_from (map plain_sort (take i xs))))
    → more ≡ capped (cells_of (plain_sort x)) → both ≡ capped (now + more) → next ≡ capped (both + 1) → next ≡ capped (cells_of_all (sorts_from (map plain_sort (take (i + 1) xs))))
cells_more xs i x now more both next l e p q r s =
    let cells = cells_of (plain_sort x) in
    let taken = map plain_sort (take i xs) in
    let before = cells_of_all (sorts_from taken) in
    s ∙ (ap (λ a. capped (a + 1)) (r ∙ (ap₂ (λ a b. capped (a + b)) p q ∙ capped_sum before cells))
    ∙ (capped_sum (before + cells) 1
    ∙ ap capped (sum_moved before cells ∙ sym (ap (λ ys. cells_of_all (sorts_from (map plain_sort ys))) (take_more xs i x l ∙ ap (λ y. take i xs ++ y ∷ []) (sym e))
    ∙ (ap (λ ys. cells_of_all (sorts_from ys)) (map-append plain_sort (take i xs) (x ∷ [])) ∙ cells_append taken (plain_sort x))))))

pub cells_all : (xs : List LogSort) (i : ℕ) (now : ℕ) → length xs ≤ i → now ≡ capped (cells_of_all (sorts_from (map plain_sort (take i xs)))) → now ≡ capped (cells_of_all (sorts_from (map plain_sort xs)))
cells_all xs i now l p = p ∙ ap (λ ys. capped (cells_of_all (sorts_from (map plain_sort ys)))) (take_all i xs l)
