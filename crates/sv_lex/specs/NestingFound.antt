-- Serves the proof: what the code finds of a token's nesting.
use Rattle.std.specs.Prelude.{◌≡◌, ℕ, ◌+◌, ◌≤◌, true, false, if◌then◌else◌, List, [], ◌∷◌}
use Rattle.sv_lex.specs.Limits.{opens_bracket, closes_bracket, opened, restarts, HasNo, IsDeep}
use Rattle.sv_lex.specs.Tokens.{Lexeme}
use Rattle.sv_lex.specs.declared.nesting.Bracket.{Bracket}
use Rattle.sv_lex.specs.declared.nesting.Bracket.TheVariants.{Opens, Closes, None}

abbrev pub IsBracket : Lexeme → Bracket → Type 0
IsBracket t Opens = opens_bracket t ≡ true
IsBracket t Closes = (opens_bracket t ≡ false) × (closes_bracket t ≡ true)
IsBracket t None = (opens_bracket t ≡ false) × (closes_bracket t ≡ false)

-- how many tokens stand behind the last at which the count begins anew, where so many stand before them
abbrev pub in_a_row : ℕ → List Lexeme → ℕ
in_a_row n [] = n
in_a_row n (t ∷ ts) = in_a_row (if restarts t then 0 else n + 1) ts

-- what the code knows behind these tokens: none of them is too deep
pub record IsShallow (before : List Lexeme) (brackets row : ℕ) : Type 0 where
  pub none : HasNo IsDeep before
  pub brackets_are : brackets ≡ opened 0 before
  pub row_is : row ≡ in_a_row 0 before
  pub brackets_fit : brackets ≤ 64
  pub row_fits : row ≤ 1000
