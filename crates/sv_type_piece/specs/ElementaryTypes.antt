-- Believed: which elementary type each name stands for. Hold it against Solidity's documentation, "Booleans" and "Integers": `uint` and `int` are `uint256` and `int256`, and the others have their width in bits in the name.
use Rattle.std.specs.Prelude.{ℕ, if◌then◌else◌, Option, Some, None, List, [], ◌∷◌, ◌++◌, map, codes, zip}
use Rattle.sv_ast.specs.Classes.{is_same, sizes}
use Rattle.sv_text_type.specs.declared.text_type.TextType.{TextType}
use Rattle.sv_text_type.specs.declared.text_type.TextType.TheVariants as t

-- a name and what it stands for
pub record SpelledType : Type 0 where
  pub spelled : List ℕ
  pub stands_for : TextType

abbrev pub stands : List ℕ → TextType → SpelledType
stands name type = record { spelled = name; stands_for = type }

-- in the order of `sizes`, which has them as texts
abbrev pub widths : List ℕ
widths =
    8 ∷ 16 ∷ 24 ∷ 32 ∷ 40 ∷ 48 ∷ 56 ∷ 64 ∷ 72 ∷ 80 ∷ 88 ∷ 96 ∷ 104 ∷ 112 ∷ 120 ∷ 128 ∷
    136 ∷ 144 ∷ 152 ∷ 160 ∷ 168 ∷ 176 ∷ 184 ∷ 192 ∷ 200 ∷ 208 ∷ 216 ∷ 224 ∷ 232 ∷ 240 ∷ 248 ∷ 256 ∷ []

unfoldable pub elementary_rows : List SpelledType
elementary_rows =
    stands (codes "bool") t.Bool ∷ stands (codes "uint") (t.Uint 256) ∷ stands (codes "int") (t.Int 256) ∷
    (map (λ w. stands (codes "uint" ++ w.0) (t.Uint w.1)) (zip sizes widths) ++ map (λ w. stands (codes "int" ++ w.0) (t.Int w.1)) (zip sizes widths))

abbrev pub found_in : List ℕ → List SpelledType → Option TextType
found_in text [] = None
found_in text (r ∷ rs) = if is_same text r.spelled then Some r.stands_for else found_in text rs

abbrev pub elementary_type : List ℕ → Option TextType
elementary_type text = found_in text elementary_rows
