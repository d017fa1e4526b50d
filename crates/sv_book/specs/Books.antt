-- Believed: rules asked of the nodes of a text, which of them count, and the answer of a group of rules. Hold it against docs/language.md on the order in which faults count.
use Rattle.std.specs.Prelude.{◌≡◌, ◌⊎◌, Bool, true, false, Option, Some, None, List, [], ◌∷◌}
use Rattle.sv_book.specs.Walks.{Walk, Walks, Node, Group, End, Part}

-- a site and what is known there
pub record Seen (C S : Type 0) : Type 0 where
  pub known : C
  pub site : S

-- rules asked of sites: S are the sites, K the rules, F the faults
pub record Table (S K F : Type 0) : Type 0 where
  pub rules : List K
  pub breaks : K → S → Bool
  pub fault : K → S → F
  -- which of two faults counts
  pub first : F → F → Bool

-- a group of rules, and what is known where they are asked, which is a C
pub record Book (C S K F : Type 0) : Type 0 where
  -- what the first part of a node knows, from what is known before the node
  pub within : C → S → C
  -- what is known behind a node, from what is known behind its parts
  pub past : C → S → C
  pub table : Table (Seen C S) K F

-- ---- what is known at each node

abbrev mutual
  -- behind a walk
  pub behind : {C S K F : Type 0} → Book C S K F → C → Walk S → C
  behind book c (Node s parts) = book.past (behind_in book (book.within c s) parts) s
  behind book c (Group parts) = behind_in book c parts

  pub behind_in : {C S K F : Type 0} → Book C S K F → C → Walks S → C
  behind_in book c End = c
  behind_in book c (Part w ws) = behind_in book (behind book c w) ws

abbrev pub seen_at : {C S : Type 0} → C → S → Seen C S
seen_at c s = record { known = c; site = s }

abbrev mutual
  -- a walk, each node with what is known behind its parts
  pub seen : {C S K F : Type 0} → Book C S K F → C → Walk S → Walk (Seen C S)
  seen book c (Node s parts) = Node (seen_at (behind_in book (book.within c s) parts) s) (seen_in book (book.within c s) parts)
  seen book c (Group parts) = Group (seen_in book c parts)

  pub seen_in : {C S K F : Type 0} → Book C S K F → C → Walks S → Walks (Seen C S)
  seen_in book c End = End
  seen_in book c (Part w ws) = Part (seen book c w) (seen_in book (behind book c w) ws)

-- ---- what it is to be broken

abbrev pub OneOf : {X : Type 0} → List X → X → Type 0
OneOf [] x = ⊥
OneOf (y ∷ ys) x = (x ≡ y) ⊎ OneOf ys x

-- a node breaks a rule, with the fault f
abbrev pub Breaks : {S K F : Type 0} → Table S K F → S → F → Type 0
Breaks {K = K} table s f = (k : K) × OneOf table.rules k × (table.breaks k s ≡ true) × (f ≡ table.fault k s)

-- a broken rule counts at a node whose parts break none of the group
abbrev mutual
  pub Broken : {S K F : Type 0} → Table S K F → Walk S → F → Type 0
  Broken {F = F} table (Node s parts) f = (Breaks table s f × ((g : F) → Broken_in table parts g → ⊥)) ⊎ Broken_in table parts f
  Broken table (Group parts) f = Broken_in table parts f

  pub Broken_in : {S K F : Type 0} → Table S K F → Walks S → F → Type 0
  Broken_in table End f = ⊥
  Broken_in table (Part w ws) f = Broken table w f ⊎ Broken_in table ws f

-- the answer of a group: none of its rules is broken, or the fault that counts before all others
abbrev pub Least : {S K F : Type 0} → Table S K F → Walk S → Option F → Type 0
Least {F = F} table w None = (f : F) → Broken table w f → ⊥
Least {F = F} table w (Some f) = Broken table w f × ((g : F) → Broken table w g → table.first f g ≡ true)

-- the order of faults is one
pub record Orders {F : Type 0} (first : F → F → Bool) : Type 0 where
  pub same : (f : F) → first f f ≡ true
  pub along : (f g h : F) → first f g ≡ true → first g h ≡ true → first f h ≡ true
  pub either : (f g : F) → first f g ≡ false → first g f ≡ true
