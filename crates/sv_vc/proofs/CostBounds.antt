-- What a walk costs is within the bound of the conditions.
use Rattle.std.proofs.Common.{ℕ, ◌+◌, ◌*◌, ◌≤◌, ◌≡◌, length, arith}
use Rattle.std.proofs.Math.Nat.{add-mul, mul_left_comm}
use Rattle.sv_term.specs.Banks.{Nodes}
use Rattle.sv_gcl.specs.CommandShapes.{Shape, Shapes, Assume, Check, Set, Forget, Seq, Choice, Nil, Cons, IsIn, AreIn}
use Rattle.sv_vc.specs.CodeStates.{cost, costs}
use Rattle.sv_vc.specs.AnsweredConditions.{count, counts}

one_more : (c k : ℕ) → (c + 1) * k ≡ c * k + k
one_more c k = grind arith

one_time : (k : ℕ) → 1 * k ≡ k
one_time k = omega arith

module _ (b : Nodes) (n k : ℕ) (h : length b.nodes + (n + n + n + 7) ≤ k) where
  mutual
    cost_bounded : (x : Shape) → IsIn b x → cost n x + (n + n + 2) ≤ count x * k
    cost_bounded (Assume f) i = omega (arith, h, i, one_time k)
    cost_bounded (Check l f) i = omega (arith, h, i, one_time k)
    cost_bounded (Set x t) i = omega (arith, h, i, one_time k)
    cost_bounded (Forget x) i = omega (arith, h, one_time k)
    cost_bounded (Seq xs) i = omega (arith, h, costs_bounded xs i, one_more (counts xs) k)
    cost_bounded (Choice xs) i = omega (arith, h, costs_bounded xs i, one_more (counts xs) k)

    costs_bounded : (xs : Shapes) → AreIn b xs → costs n xs ≤ counts xs * k
    costs_bounded Nil i = omega arith
    costs_bounded (Cons x xs) i = omega (arith, cost_bounded x i.0, costs_bounded xs i.1, add-mul (count x) (counts xs) k)

sixteen : (cost n c l w : ℕ) → cost ≤ c * (7 * w) → n + 1 ≤ w → cost + n + 1 ≤ 16 * ((c + l + 1) * w)
sixteen cost n c l w h i = omega (arith, h, i, mul_left_comm c 7 w, add-mul (c + l) 1 w, add-mul c l w, one_time w)

-- the walk, the variables and one term beside
pub within_bound : (b : Nodes) (n labels : ℕ) (x : Shape) → IsIn b x → cost n x + n + 1 ≤ 16 * ((count x + labels + 1) * (n + length b.nodes + 1))
within_bound b n labels x i =
    let w : cost n x + (n + n + 2) ≤ count x * (7 * (n + length b.nodes + 1)) = cost_bounded b n (7 * (n + length b.nodes + 1)) (omega arith) x i in
    sixteen (cost n x) n (count x) labels (n + length b.nodes + 1) (less (cost n x) (n + n + 2) (count x * (7 * (n + length b.nodes + 1))) w) (omega arith)
  where
    less : (a c d : ℕ) → a + c ≤ d → a ≤ d
    less a c d h = omega (arith, h)
