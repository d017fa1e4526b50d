-- Serves the proof: which variables a command of the code sets.
use Rattle.std.specs.Prelude.{ℕ, Bool, false, ◌||◌, nat_eq}
use Rattle.sv_gcl.specs.CommandShapes.{Shape, Shapes, Assume, Check, Set, Forget, Seq, Choice, Nil, Cons}

abbrev mutual
  pub shape_sets : Shape → ℕ → Bool
  shape_sets (Assume f) x = false
  shape_sets (Check l f) x = false
  shape_sets (Set y t) x = nat_eq y x
  shape_sets (Forget y) x = nat_eq y x
  shape_sets (Seq xs) x = some_shape_sets xs x
  shape_sets (Choice xs) x = some_shape_sets xs x

  pub some_shape_sets : Shapes → ℕ → Bool
  some_shape_sets Nil x = false
  some_shape_sets (Cons c xs) x = shape_sets c x || some_shape_sets xs x
