-- Believed: a branch of a log by numbers: what is in force, the open splits, and what a split, a cut and a closing do. Hold it against the state in the definitions of `sv_log`.
use Rattle.std.specs.Prelude.{ℕ, ◌<◌, Bool, true, false, cond, List, [], ◌∷◌, ◌++◌, ◌≡◌, length, take}
use Rattle.sv_force.specs.InForce.{Held, FactOn, Force, force}

-- an open split: the number of its term, how many items were in force before it, and whether it is in its second half
pub record OpenSplit : Type 0 where
  pub term : ℕ
  pub before : ℕ
  pub second : Bool

abbrev pub open_split : ℕ → ℕ → Bool → OpenSplit
open_split term before second = record { term = term; before = before; second = second }

-- what is in force, the open splits with the innermost first, for how many there is room, and whether the branch is closed
pub record Standing : Type 0 where
  pub force : Force
  pub splits : List OpenSplit
  pub room : ℕ
  pub closed : Bool

abbrev pub standing : Force → List OpenSplit → ℕ → Bool → Standing
standing force splits room closed = record { force = force; splits = splits; room = room; closed = closed }

abbrev pub IsInFirstHalf : List OpenSplit → Type 0
IsInFirstHalf [] = ⊥
IsInFirstHalf (p ∷ ps) = p.second ≡ false

-- each split has more items before it than the one around it, and fewer than there are
abbrev pub AreNested : ℕ → List OpenSplit → Type 0
AreNested n [] = Unit {0}
AreNested n (p ∷ ps) = (p.before < n) × AreNested p.before ps

-- ---- what a call leaves

abbrev pub with_items : List Held → Force → Force
with_items items f = force items f.room f.parts_room

abbrev pub with_held : Held → Standing → Standing
with_held h b = standing (with_items (b.force.items ++ h ∷ []) b.force) b.splits b.room b.closed

-- a split on the term of that number
abbrev pub opened : ℕ → Standing → Standing
opened n b =
    standing (with_items (b.force.items ++ FactOn true n ∷ []) b.force) (open_split n (length b.force.items) false ∷ b.splits) b.room b.closed

-- the second half of the innermost split, after what was in force before it
abbrev pub turned : Standing → List OpenSplit → Standing
turned b [] = b
turned b (p ∷ ps) =
    standing (with_items (take p.before b.force.items ++ FactOn false p.term ∷ []) b.force) (open_split p.term p.before true ∷ ps) b.room false

-- when a branch closes whose split is in its second half, the branch around it is closed too
abbrev pub open_around : List OpenSplit → List OpenSplit
open_around [] = []
open_around (p ∷ ps) = cond p.second (open_around ps) (p ∷ ps)

abbrev pub shut : Standing → Standing
shut b = standing b.force (open_around b.splits) b.room true
