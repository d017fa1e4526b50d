-- Lists that are cut in front of an element.
use Rattle.std.proofs.Common.{◌≡◌, List, [], ◌∷◌, ◌++◌, length, refl, sym, ap, ◌∙◌, arith, length-append}
use Rattle.sv_lex.specs.Limits.{IsFirst}
use Rattle.sv_lex.specs.Tokens.{Lexeme}

-- two cuts of a list, each in front of an element: at one place, or one before the other
data Cuts (a b : List Lexeme) (t u : Lexeme) : Type 0 where
  alike : a ≡ b → t ≡ u → Cuts a b t u
  before : (back : List Lexeme) → b ≡ a ++ t ∷ back → Cuts a b t u
  behind : (back : List Lexeme) → a ≡ b ++ u ∷ back → Cuts a b t u

cuts : (a b xs ys : List Lexeme) (t u : Lexeme) → a ++ t ∷ xs ≡ b ++ u ∷ ys → Cuts a b t u
cuts [] [] xs ys t u e = alike refl cc
cuts [] (w ∷ b) xs ys t u e = let head : w ≡ t = cc in before b (ap (λ (l : Lexeme). l ∷ b) head)
cuts (v ∷ a) [] xs ys t u e = let head : v ≡ u = cc in behind a (ap (λ (l : Lexeme). l ∷ a) head)
cuts (v ∷ a) (w ∷ b) xs ys t u e =
    let head : v ≡ w = cc in
    let tail : a ++ t ∷ xs ≡ b ++ u ∷ ys = cc in
    elim (cuts a b xs ys t u tail) [
      | alike same there ↦ alike (ap (λ (l : List Lexeme). v ∷ l) same ∙ ap (λ (l : Lexeme). l ∷ b) head) there
      | before back is ↦ before back (ap (λ (l : Lexeme). l ∷ b) (sym head) ∙ ap (λ (l : List Lexeme). v ∷ l) is)
      | behind back is ↦ behind back (ap (λ (l : Lexeme). l ∷ a) head ∙ ap (λ (l : List Lexeme). w ∷ l) is)
    ]

same_size : (a b back : List Lexeme) (t : Lexeme) → length a ≡ length b → b ≡ a ++ t ∷ back → ⊥
same_size a b back t size is = omega (arith, ap (λ (l : List Lexeme). length l) is, length-append a (t ∷ back))

-- the element in front of which a list is cut, behind so many
pub one_there : (a b xs ys : List Lexeme) (t u : Lexeme) → length a ≡ length b → a ++ t ∷ xs ≡ b ++ u ∷ ys → t ≡ u
one_there a b xs ys t u size e =
    elim (cuts a b xs ys t u e) [
      | alike same there ↦ there
      | before back is ↦ absurd (same_size a b back t size is)
      | behind back is ↦ absurd (same_size b a back u (sym size) is)
    ]

pub one_first : (Such : List Lexeme → Lexeme → Type 0) (list a b : List Lexeme) (t u : Lexeme) → IsFirst Such list a t → IsFirst Such list b u → t ≡ u
one_first Such list a b t u first other =
    elim (cuts a b first.after other.after t u (sym first.cut ∙ other.cut)) [
      | alike same there ↦ there
      | before back is ↦ absurd (other.none_before a back t is first.such)
      | behind back is ↦ absurd (first.none_before b back u is other.such)
    ]
