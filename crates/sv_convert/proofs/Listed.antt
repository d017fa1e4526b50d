-- The list at a place, and no list past the end.
use Rattle.std.proofs.Common.{ℕ, zero, suc, Bool, false, List, [], ◌∷◌, ◌≡◌, Some, None, slice_get, get_or, refl, ap, sym, ◌∙◌}
use Rattle.std.specs.List.{list_any}
use Rattle.std.proofs.lemmas.Option.{get_or_from_slice_get}

past_end : (xs : List (List ℕ)) (n : ℕ) → slice_get xs n ≡ None → get_or xs n [] ≡ []
past_end [] n e = refl
past_end (x ∷ xs) zero e = cc e
past_end (x ∷ xs) (suc n) e = past_end xs n e

pub none_listed : (p : ℕ → Bool) (xs : List (List ℕ)) (n : ℕ) → None ≡ slice_get xs n → false ≡ list_any p (get_or xs n [])
none_listed p xs n e = sym (ap (λ l. list_any p l) (past_end xs n (sym e)))

pub listed : (p : ℕ → Bool) (xs : List (List ℕ)) (n : ℕ) (line items : List ℕ) (b : Bool) → Some line ≡ slice_get xs n → items ≡ line → b ≡ list_any p items → b ≡ list_any p (get_or xs n [])
listed p xs n line items b e f g = g ∙ (ap (λ l. list_any p l) f ∙ sym (ap (λ l. list_any p l) (get_or_from_slice_get xs n line [] (sym e))))
