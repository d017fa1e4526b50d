-- Serves the proof: the numbers by which nodes are compared and hashed, and that the test of equality is an equivalence which hashing respects.
use Rattle.std.specs.Prelude.{ℕ, Bool, cond, ◌++◌, nat_eq, List, [], ◌∷◌}
use Rattle.std.specs.Ordering.{on, eq_of_both}
use Rattle.std.specs.Cmp.{IsEquivalence, and_equiv, on_equiv, nat_eq_equiv}
use Rattle.std.specs.Cmp.Lexicographic.{pointwise, lists_equiv}
use Rattle.std.specs.Hash as fed
use Rattle.std.specs.Hash.{HashWrites, Alike, and-Alike, on_Alike, items_Alike, same_Alike}
use Rattle.std.proofs.lemmas.Bool.Decides.{Decides-eqb}
use Rattle.sv_term.specs.Ids.{id_decides}
use Rattle.sv_term.specs.declared.node.TermId.{TermId}
use Rattle.sv_term.specs.declared.node.Node.{Node}
use Rattle.sv_term.specs.declared.node.Node.TheVariants as n

-- the kind, and up to three numbers
abbrev pub key_of : Node → List ℕ
key_of (n.Lit negative m) = 0 ∷ cond negative 1 0 ∷ m ∷ 0 ∷ []
key_of (n.Truth b) = 1 ∷ cond b 1 0 ∷ 0 ∷ 0 ∷ []
key_of (n.Var x k) = 2 ∷ x ∷ k.0 ∷ 0 ∷ []
key_of (n.Add a b) = 3 ∷ a.0 ∷ b.0 ∷ 0 ∷ []
key_of (n.Sub a b) = 4 ∷ a.0 ∷ b.0 ∷ 0 ∷ []
key_of (n.Mul a b) = 5 ∷ a.0 ∷ b.0 ∷ 0 ∷ []
key_of (n.Div a b) = 6 ∷ a.0 ∷ b.0 ∷ 0 ∷ []
key_of (n.Mod a b) = 7 ∷ a.0 ∷ b.0 ∷ 0 ∷ []
key_of (n.Wrap signed bits a) = 8 ∷ cond signed 1 0 ∷ bits ∷ a.0 ∷ []
key_of (n.Le a b) = 9 ∷ a.0 ∷ b.0 ∷ 0 ∷ []
key_of (n.Eq a b) = 10 ∷ a.0 ∷ b.0 ∷ 0 ∷ []
key_of (n.Not p) = 11 ∷ p.0 ∷ 0 ∷ 0 ∷ []
key_of (n.And p q) = 12 ∷ p.0 ∷ q.0 ∷ 0 ∷ []
key_of (n.Or p q) = 13 ∷ p.0 ∷ q.0 ∷ 0 ∷ []
key_of (n.Ite c a b) = 14 ∷ c.0 ∷ a.0 ∷ b.0 ∷ []
key_of (n.Sel a i) = 15 ∷ a.0 ∷ i.0 ∷ 0 ∷ []
key_of (n.Sto a i v) = 16 ∷ a.0 ∷ i.0 ∷ v.0 ∷ []
key_of (n.Const k v) = 17 ∷ k.0 ∷ v.0 ∷ 0 ∷ []
key_of (n.Mix k a b) = 18 ∷ k.0 ∷ a.0 ∷ b.0 ∷ []
key_of (n.Tup k ks) = 19 ∷ k.0 ∷ 0 ∷ 0 ∷ []
key_of (n.Get k a) = 20 ∷ k ∷ a.0 ∷ 0 ∷ []
key_of (n.Sum a) = 21 ∷ a.0 ∷ 0 ∷ 0 ∷ []

-- the arguments of a tuple, and none of another node
abbrev pub tuple_args : Node → List TermId
tuple_args (n.Tup k ks) = ks
tuple_args _ = []

abbrev pub same_node : Node → Node → Bool
same_node = eq_of_both (on key_of (pointwise nat_eq)) (on tuple_args (pointwise (on (λ (k : TermId). k.0) nat_eq)))

pub node_equiv : IsEquivalence same_node
node_equiv = and_equiv (on_equiv key_of (lists_equiv nat_eq_equiv)) (on_equiv tuple_args (lists_equiv (on_equiv (λ (k : TermId). k.0) nat_eq_equiv)))

abbrev pub hashed : Node → HashWrites
hashed x = fed.slice fed.u128 (key_of x) ++ fed.slice (λ (k : TermId). fed.usize k.0) (tuple_args x)

pub hashed_alike : Alike same_node hashed
hashed_alike = and-Alike (on_Alike key_of (items_Alike (same_Alike fed.u128 Decides-eqb))) (on_Alike tuple_args (items_Alike (same_Alike (λ (k : TermId). fed.usize k.0) id_decides)))
