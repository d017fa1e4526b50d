-- Serves the proof: how much a row can weigh, so that its numbers fit.
use Rattle.std.specs.Prelude.{ℕ, zero, suc, ◌*◌, ◌^◌}

-- the magnitude that no number reaches
unfoldable pub weight_limit : ℕ
weight_limit = 2 ^ 127

-- the most that the row of a variable weighs after so many assignments: a number is below 10^18, and a sum has four items at most
unfoldable pub most_after : ℕ → ℕ
most_after zero = 10 ^ 18
most_after (suc n) = 4 * most_after n
