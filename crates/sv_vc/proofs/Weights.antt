-- How large a command is: the measure of the walk.
use Rattle.std.proofs.Common.{ℕ, zero, suc, ◌+◌, ◌<◌, ◌≡◌, List, [], ◌∷◌, map, length, get_or, ap, arith}
use Rattle.sv_gcl.specs.declared.command.Cmd.{Cmd}
use Rattle.sv_gcl.specs.CommandShapes.{Shape, Shapes, Assume, Check, Set, Forget, Seq, Choice, Nil, Cons, shape, shaped}

abbrev mutual
  pub weight : Shape → ℕ
  weight (Assume f) = 0
  weight (Check l f) = 0
  weight (Set x t) = 0
  weight (Forget x) = 0
  weight (Seq xs) = suc (weights xs)
  weight (Choice xs) = suc (suc (weights xs))

  pub weights : Shapes → ℕ
  weights Nil = 0
  weights (Cons x xs) = suc (weight x + weights xs)

pub weight_at : (cs : List Cmd) (i : ℕ) (y : Cmd) → i < length cs → y ≡ get_or cs i y → weight (shape y) < weights (shaped (map shape cs))
weight_at [] i y h e = absurd (omega (arith, h))
weight_at (x ∷ cs) zero y h e = (let same : weight (shape y) ≡ weight (shape x) = ap (λ z. weight (shape z)) e in omega (arith, same))
weight_at (x ∷ cs) (suc i) y h e = omega (arith, weight_at cs i y (omega (arith, h)) e)
