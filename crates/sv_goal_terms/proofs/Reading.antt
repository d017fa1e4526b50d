-- What a number beside a term says.
use Rattle.std.proofs.Common.{ℕ, zero, suc, ◌<◌, List, [], ◌∷◌, ◌≡◌, length, slice_get, slice_index_or, get_or, Option, Some, None, MatchOption, sym, ap, ◌∙◌, subst, arith}
use Rattle.std.specs.List.{Contains}
use Rattle.sv_term.specs.declared.node.TermId.{TermId}
use Rattle.sv_goal_terms.specs.GoalNumbers.{Numbered}

got : (xs : List TermId) (n : ℕ) (d k : TermId) → n < length xs → slice_index_or xs n d ≡ k → slice_get xs n ≡ Some k
got [] n d k l e = absurd (omega (arith, l))
got (x ∷ xs) zero d k l e = ap Some e
got (x ∷ xs) (suc n) d k l e = got xs n d k (omega (arith, l)) e

pub number_is : (order list : List TermId) (ns : List (Option ℕ)) (k : TermId) → order ≡ list → Numbered order ns → (o : Option ℕ) → o ≡ get_or ns k.0 None
    → MatchOption o (Contains list k → ⊥) (λ n. slice_get list n ≡ Some k)
number_is order list ns k same h None e = λ c. cc (e, h.named k c.0 (ap (λ (l : List TermId). slice_get l c.0) same ∙ got list c.0 k k c.1 c.2))
number_is order list ns k same h (Some n) e = ap (λ (l : List TermId). slice_get l n) (sym same) ∙ h.placed k n (sym e)
