-- Objects that a copy into memory makes stand for a tree that reads as its source.
use Rattle.std.proofs.Common.{ℕ, zero, suc, ◌<◌, ◌≤◌, ◌≡◌, Bool, true, false, ◌&&◌, List, [], ◌∷◌, Some, ℤ, pos, negsuc, refl, sym, ap, ◌∙◌, arith, true≢false, nat_eq}
use Rattle.std.proofs.lemmas.Int.{ints}
use Rattle.std.proofs.lemmas.Bool.{eq-eqb, ne_eqb}
use Rattle.sv_type.specs.Shapes.{Shape, Number, Fields, Fixed, Dynamic, Mapping, Shapes, NoShapes, ShapeAnd}
use Rattle.sv_type.specs.StorageTrees.{Tree, Num, Struct, Arr, Map, Trees, End, Field, Entries, Empty, Step, At, Index, nil, field, entry, read, face, number}
use Rattle.sv_type.specs.TypedTrees.{Fits, AllFit, Below}
use Rattle.sv_type.specs.Memory.{Memory, Made, MadeAll, find, object_at, fresh, elements, into, all_into, tree_of, trees_of, is_memory_shape, are_memory_shapes}
use Rattle.sv_type_laws.specs.TreeLaws.{ReadsAsItsSource, CopiesInto}
use Rattle.sv_type_laws.proofs.Copies.{at_filled, struct_reads, and_left, and_right}

-- the second memory has the objects of the first
record Extends (m n : Memory) : Type 0 where
  grows : m.count ≤ n.count
  keeps : (t r : ℕ) → r < m.count → find t r m.objects ≡ find t r n.objects

same : (m : Memory) → Extends m m
same m = record { grows = omega arith; keeps = λ t r h. refl }

join : (m n k : Memory) → Extends m n → Extends n k → Extends m k
join m n k a b = record { grows = omega (arith, a.grows, b.grows); keeps = λ t r h. a.keeps t r h ∙ b.keeps t r (omega (arith, h, a.grows)) }

other : (a : Bool) (r n : ℕ) → r < n → (a && nat_eq r n) ≡ false
other false r n h = refl
other true r n h = ne_eqb r n (λ q. omega (arith, h, q))

extends_fresh : (t : ℕ) (cells : Tree) (m : Memory) → Extends m (fresh t cells m).memory
extends_fresh t cells m = record { grows = omega arith; keeps = λ u r h. sym (rw (other (nat_eq u t) r m.count h) refl) }

mutual
  extends : (s : Shape) (t : Tree) (m : Memory) → Extends m (into s t m).memory
  extends (Number id kind) t m = same m
  extends (Fields id ss) (Struct ts) m = join m (all_into ss ts m).memory _ (extends_all ss ts m) (extends_fresh id _ _)
  extends (Fields id ss) (Num n) m = same m
  extends (Fields id ss) (Arr n es d) m = same m
  extends (Fields id ss) (Map es d) m = same m
  extends (Fixed id n s) t m = extends_fresh id _ m
  extends (Dynamic id s) t m = extends_fresh id _ m
  extends (Mapping id s) t m = same m

  extends_all : (ss : Shapes) (ts : Trees) (m : Memory) → Extends m (all_into ss ts m).memory
  extends_all NoShapes ts m = same m
  extends_all (ShapeAnd s ss) End m = same m
  extends_all (ShapeAnd s ss) (Field t ts) m = join m (into s t m).memory _ (extends s t m) (extends_all ss ts (into s t m).memory)

-- ---- what stands for a tree, in each memory that has the objects

record Stands (s : Shape) (t : Tree) (made : Made) : Type 0 where
  tree : Tree
  found : (n : Memory) → Extends made.memory n → tree_of n s made.reference ≡ Some tree
  reads : ReadsAsItsSource tree t

record AllStand (ss : Shapes) (ts : Trees) (made : MadeAll) : Type 0 where
  trees : Trees
  found : (n : Memory) → Extends made.memory n → trees_of n ss made.cells ≡ Some trees
  reads : (k : ℕ) (p : List Step) → Below p (field k ts) → face (read p (field k trees)) ≡ face (read p (field k ts))

itself : (n : ℕ) → nat_eq n n ≡ true
itself n = eq-eqb n n refl

-- the new object is found
new_one : (t : ℕ) (cells : Tree) (m n : Memory) → Extends (fresh t cells m).memory n → object_at t (pos m.count) n ≡ Some cells
new_one t cells m n e = sym (e.keeps t m.count (omega arith)) ∙ rw (itself t, itself m.count) refl

elements_read : (l : ℤ) (es : Entries) (d : Tree) → ReadsAsItsSource (elements (Arr l es d)) (Arr l es d)
elements_read l es d [] h = refl
elements_read l es d (At k ∷ p) h = refl
elements_read (pos n) es d (Index (pos k) ∷ p) h =
    let within : k < n = omega (arith, ints, h.1) in
    ap (λ z. face (read p z)) (at_filled n (λ i. entry i es d) Empty nil k within)
elements_read (negsuc n) es d (Index (pos k) ∷ p) h = absurd (omega (arith, ints, h.1))
elements_read l es d (Index (negsuc k) ∷ p) h = absurd (omega (arith, ints, h.0))

a_struct : (id : ℕ) (n : Memory) (ss : Shapes) (r : ℤ) (cells us : Trees) → object_at id r n ≡ Some (Struct cells) → trees_of n ss cells ≡ Some us → tree_of n (Fields id ss) r ≡ Some (Struct us)
a_struct id n ss r cells us o t = rw (o) (rw (t) refl)

two : (n : Memory) (s : Shape) (ss : Shapes) (c : Tree) (cs : Trees) (u : Tree) (us : Trees) → tree_of n s (number c) ≡ Some u → trees_of n ss cs ≡ Some us → trees_of n (ShapeAnd s ss) (Field c cs) ≡ Some (Field u us)
two n s ss c cs u us a b = rw (a) (rw (b) refl)

field_reads : (t u : Tree) (ts us : Trees) → ReadsAsItsSource u t → ((k : ℕ) (p : List Step) → Below p (field k ts) → face (read p (field k us)) ≡ face (read p (field k ts)))
    → (k : ℕ) (p : List Step) → Below p (field k (Field t ts)) → face (read p (field k (Field u us))) ≡ face (read p (field k (Field t ts)))
field_reads t u ts us f g zero p b = f p b
field_reads t u ts us f g (suc k) p b = g k p b

mutual
  stands : (s : Shape) (t : Tree) (m : Memory) → Fits s t → is_memory_shape s ≡ true → Stands s t (into s t m)
  stands (Number id kind) (Num z) m f h = record { tree = Num z; found = λ n e. refl; reads = λ p b. refl }
  stands (Number id kind) t m f h = absurd f
  stands (Fields id ss) (Struct ts) m f h =
      let a = all_stand ss ts m f h in
      record {
        tree = Struct a.trees;
        found = λ n e. a_struct id n ss (pos (all_into ss ts m).memory.count) (all_into ss ts m).cells a.trees (new_one id _ (all_into ss ts m).memory n e) (a.found n (join (all_into ss ts m).memory _ n (extends_fresh id _ _) e));
        reads = struct_reads ts a.trees a.reads;
      }
  stands (Fields id ss) t m f h = absurd f
  stands (Fixed id k s) (Arr l es d) m f h = record { tree = elements (Arr l es d); found = λ n e. new_one id _ m n e; reads = elements_read l es d }
  stands (Fixed id k s) t m f h = absurd f
  stands (Dynamic id s) (Arr l es d) m f h = record { tree = elements (Arr l es d); found = λ n e. new_one id _ m n e; reads = elements_read l es d }
  stands (Dynamic id s) t m f h = absurd f
  stands (Mapping id s) t m f h = absurd (true≢false (sym h))

  all_stand : (ss : Shapes) (ts : Trees) (m : Memory) → AllFit ss ts → are_memory_shapes ss ≡ true → AllStand ss ts (all_into ss ts m)
  all_stand NoShapes End m f h = record { trees = End; found = λ n e. refl; reads = λ k p b. refl }
  all_stand NoShapes (Field t ts) m f h = absurd f
  all_stand (ShapeAnd s ss) End m f h = absurd f
  all_stand (ShapeAnd s ss) (Field t ts) m f h =
      let a = stands s t m f.0 (and_left _ _ h) in
      let b = all_stand ss ts (into s t m).memory f.1 (and_right _ _ h) in
      record {
        trees = Field a.tree b.trees;
        found = λ n e. two n s ss (Num (into s t m).reference) _ a.tree b.trees (a.found n (join (into s t m).memory _ n (extends_all ss ts (into s t m).memory) e)) (b.found n e);
        reads = field_reads t a.tree ts b.trees a.reads b.reads;
      }

pub copies_into : CopiesInto
copies_into s t m f h = let a = stands s t m f h in (a.tree, a.found (into s t m).memory (same (into s t m).memory), a.reads)
