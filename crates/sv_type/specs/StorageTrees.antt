-- Believed: storage as trees, paths, reading and writing at a path, and the sum of a mapping. Hold it against Solidity's documentation, "Layout of State Variables in Storage" and "Reference Types": what is read is what was written there last, or the default.
use Rattle.std.specs.Prelude.{◌≡◌, ℕ, zero, suc, Bool, false, ◌||◌, cond, List, [], ◌∷◌, ℤ, pos, ◌+ℤ◌}
use Rattle.std.specs.Ordering.{int_eq}

-- a number, a struct, an array or a mapping. Entries are a finite map, of which the first at an index counts; all other
-- indexes have the default. An array keeps entries past its length
mutual
  pub data Tree : Type 0 where
    Num : (n : ℤ) → Tree
    Struct : (fields : Trees) → Tree
    Arr : (length : ℤ) (entries : Entries) (default : Tree) → Tree
    Map : (entries : Entries) (default : Tree) → Tree

  pub data Trees : Type 0 where
    End : Trees
    Field : (t : Tree) (ts : Trees) → Trees

  pub data Entries : Type 0 where
    Empty : Entries
    Entry : (at : ℤ) (t : Tree) (es : Entries) → Entries

-- into a field, by its number from 0, or to an index, which may be any whole number
pub data Step : Type 0 where
  At : (k : ℕ) → Step
  Index : (i : ℤ) → Step

abbrev pub nil : Tree
nil = Num (pos 0)

-- ---- one step

abbrev pub field : ℕ → Trees → Tree
field k End = nil
field zero (Field t ts) = t
field (suc k) (Field t ts) = field k ts

abbrev pub with_field : ℕ → Tree → Trees → Trees
with_field k v End = End
with_field zero v (Field t ts) = Field v ts
with_field (suc k) v (Field t ts) = Field t (with_field k v ts)

abbrev pub entry : ℤ → Entries → Tree → Tree
entry i Empty d = d
entry i (Entry j t es) d = cond (int_eq i j) t (entry i es d)

abbrev pub child : Step → Tree → Tree
child (At k) (Struct ts) = field k ts
child (Index i) (Arr n es d) = entry i es d
child (Index i) (Map es d) = entry i es d
child _ _ = nil

abbrev pub with_child : Step → Tree → Tree → Tree
with_child (At k) v (Struct ts) = Struct (with_field k v ts)
with_child (Index i) v (Arr n es d) = Arr n (Entry i v es) d
with_child (Index i) v (Map es d) = Map (Entry i v es) d
with_child _ v t = t

-- ---- a path of steps

abbrev pub read : List Step → Tree → Tree
read [] t = t
read (s ∷ p) t = read p (child s t)

abbrev pub write : List Step → Tree → Tree → Tree
write [] v t = v
write (s ∷ p) v t = with_child s (write p v (child s t)) t

-- ---- what stands at the top of a tree

abbrev pub number : Tree → ℤ
number (Num n) = n
number _ = pos 0

abbrev pub length_of : Tree → ℤ
length_of (Arr n es d) = n
length_of _ = pos 0

abbrev pub with_length : ℤ → Tree → Tree
with_length n (Arr m es d) = Arr n es d
with_length n t = t

abbrev pub entries_of : Tree → Entries
entries_of (Arr n es d) = es
entries_of (Map es d) = es
entries_of _ = Empty

-- ---- equality by reading

-- what one sees of a tree without going into it
pub data Face : Type 0 where
  ANumber : (n : ℤ) → Face
  AStruct : Face
  AnArray : (length : ℤ) → Face
  AMapping : Face

abbrev pub face : Tree → Face
face (Num n) = ANumber n
face (Struct ts) = AStruct
face (Arr n es d) = AnArray n
face (Map es d) = AMapping

-- two trees that read alike at each path: how their entries are listed is seen by nothing
abbrev pub ReadAlike : Tree → Tree → Type 0
ReadAlike t u = (p : List Step) → face (read p t) ≡ face (read p u)

-- ---- sums

-- each index counts once, by its first entry; `seen` are the indexes that were counted
abbrev pub sum_from : (ℤ → Bool) → Entries → ℤ
sum_from seen Empty = pos 0
sum_from seen (Entry i t es) = cond (seen i) (pos 0) (number t) +ℤ sum_from (λ j. seen j || int_eq j i) es

-- the sum of the entries of a mapping whose default is 0
abbrev pub sum : Tree → ℤ
sum t = sum_from (λ j. false) (entries_of t)
