-- Serves the proof: the numbers by which shapes are compared, and the codes by which nodes are found. Any function of a node would do for a code.
use Rattle.std.specs.Prelude.{ℕ, ◌+◌, ◌*◌, ◌%◌, ◌^◌, cond, List, [], ◌∷◌}
use Rattle.sv_term_room.specs.TermRows.{TermNode}
use Rattle.sv_term_room.specs.declared.shape.Shape.{Shape}
use Rattle.sv_term_room.specs.declared.shape.Shape.TheVariants as s

abbrev pub key_of : Shape → List ℕ
key_of (s.Lit negative m) = 0 ∷ cond negative 1 0 ∷ m ∷ []
key_of (s.Truth b) = 1 ∷ cond b 1 0 ∷ 0 ∷ []
key_of (s.Var x k) = 2 ∷ x ∷ k ∷ []
key_of s.Add = 3 ∷ 0 ∷ 0 ∷ []
key_of s.Sub = 4 ∷ 0 ∷ 0 ∷ []
key_of s.Mul = 5 ∷ 0 ∷ 0 ∷ []
key_of s.Div = 6 ∷ 0 ∷ 0 ∷ []
key_of s.Mod = 7 ∷ 0 ∷ 0 ∷ []
key_of (s.Wrap signed bits) = 8 ∷ cond signed 1 0 ∷ bits ∷ []
key_of s.Le = 9 ∷ 0 ∷ 0 ∷ []
key_of s.Eq = 10 ∷ 0 ∷ 0 ∷ []
key_of s.Not = 11 ∷ 0 ∷ 0 ∷ []
key_of s.And = 12 ∷ 0 ∷ 0 ∷ []
key_of s.Or = 13 ∷ 0 ∷ 0 ∷ []
key_of s.Ite = 14 ∷ 0 ∷ 0 ∷ []
key_of s.Sel = 15 ∷ 0 ∷ 0 ∷ []
key_of s.Sto = 16 ∷ 0 ∷ 0 ∷ []
key_of (s.Const k) = 17 ∷ k ∷ 0 ∷ []
key_of s.Mix = 18 ∷ 0 ∷ 0 ∷ []
key_of (s.Tup k) = 19 ∷ k ∷ 0 ∷ []
key_of (s.Get k) = 20 ∷ k ∷ 0 ∷ []
key_of s.Sum = 21 ∷ 0 ∷ 0 ∷ []

unfoldable pub mixed : ℕ → ℕ → ℕ
mixed code number = (code * 0x9E37_79B9_7F4A_7C15 % 2 ^ 64 + number) % 2 ^ 64

unfoldable pub low : ℕ → ℕ
low number = number % 2 ^ 64

abbrev pub mixed_all : ℕ → List ℕ → ℕ
mixed_all code [] = code
mixed_all code (n ∷ ns) = mixed_all (mixed code n) ns

abbrev pub lows : List ℕ → List ℕ
lows [] = []
lows (n ∷ ns) = low n ∷ lows ns

abbrev pub code_from : List ℕ → ℕ
code_from [] = 0
code_from (n ∷ ns) = mixed_all (low n) (lows ns)

abbrev pub code_of : TermNode → ℕ
code_of node = mixed_all (code_from (key_of node.shape)) node.args
