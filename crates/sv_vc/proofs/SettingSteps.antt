-- Which variables a list of commands sets, command by command.
use Rattle.std.proofs.Common.{ℕ, Bool, true, false, ◌||◌, ◌+◌, ◌<◌, ◌≤◌, ◌≡◌, List, map, length, get_or, drop, refl, sym, ap, ap₂, ◌∙◌}
use Rattle.std.proofs.lemmas.List.{drop_more, drop_all}
use Rattle.sv_term.specs.Banks.{Nodes}
use Rattle.sv_gcl.specs.declared.command.Cmd.{Cmd}
use Rattle.sv_gcl.specs.Commands.{sets, some_set}
use Rattle.sv_gcl.specs.CommandShapes.{Shape, Shapes, Assume, Check, Set, Forget, Seq, Choice, Nil, Cons, shape, shaped, command, commands}
use Rattle.sv_vc.specs.SetVariables.{shape_sets, some_shape_sets}

pub sets_more : (xs : List Cmd) (i x : ℕ) (y : Cmd) → i < length xs → y ≡ get_or xs i y → some_shape_sets (shaped (map shape (drop i xs))) x ≡ (shape_sets (shape y) x || some_shape_sets (shaped (map shape (drop (i + 1) xs))) x)
sets_more xs i x y h e = ap (λ z. some_shape_sets (shaped (map shape z)) x) (drop_more xs i y h) ∙ ap (λ z. shape_sets (shape z) x || some_shape_sets (shaped (map shape (drop (i + 1) xs))) x) (sym e)

pub sets_here : (xs : List Cmd) (i x : ℕ) (y : Cmd) (all : Bool) → i < length xs → y ≡ get_or xs i y → shape_sets (shape y) x ≡ true → some_shape_sets (shaped (map shape (drop i xs))) x ≡ all → true ≡ all
sets_here xs i x y all h e f g = sym (ap (λ b. b || some_shape_sets (shaped (map shape (drop (i + 1) xs))) x) f) ∙ (sym (sets_more xs i x y h e) ∙ g)

pub sets_next : (xs : List Cmd) (i x : ℕ) (y : Cmd) (all : Bool) → i < length xs → y ≡ get_or xs i y → shape_sets (shape y) x ≡ false → some_shape_sets (shaped (map shape (drop i xs))) x ≡ all → some_shape_sets (shaped (map shape (drop (i + 1) xs))) x ≡ all
sets_next xs i x y all h e f g = sym (ap (λ b. b || some_shape_sets (shaped (map shape (drop (i + 1) xs))) x) f) ∙ (sym (sets_more xs i x y h e) ∙ g)

pub sets_end : (xs : List Cmd) (i x : ℕ) (all : Bool) → length xs ≤ i → some_shape_sets (shaped (map shape (drop i xs))) x ≡ all → false ≡ all
sets_end xs i x all h g = sym (ap (λ z. some_shape_sets (shaped (map shape z)) x) (drop_all i xs h)) ∙ g

-- ---- the same of the commands that stand in a bank

mutual
  sets_same : (b : Nodes) (s : Shape) (x : ℕ) → shape_sets s x ≡ sets (command b s) x
  sets_same b (Assume f) x = refl
  sets_same b (Check l f) x = refl
  sets_same b (Set y t) x = refl
  sets_same b (Forget y) x = refl
  sets_same b (Seq xs) x = some_same b xs x
  sets_same b (Choice xs) x = some_same b xs x

  pub some_same : (b : Nodes) (xs : Shapes) (x : ℕ) → some_shape_sets xs x ≡ some_set (commands b xs) x
  some_same b Nil x = refl
  some_same b (Cons c xs) x = ap₂ (λ y z. y || z) (sets_same b c x) (some_same b xs x)
