-- A clone of a node is that node, and one of a sort's node the same as plain data.
use Rattle.std.proofs.Common.{◌≡◌, List, [], ◌∷◌, map, refl, ap, ap₂}
use Rattle.std.specs.List.{AllZip}
use Rattle.sv_term.specs.Banks.{NumRow, ArrRow, TupRow, range_of, row_of}
use Rattle.sv_term.specs.declared.node.SortId.{SortId}
use Rattle.sv_term.specs.declared.node.SortNode.{SortNode}
use Rattle.sv_term.specs.declared.node.SortNode.TheVariants as s
use Rattle.sv_term.specs.declared.node.Node.{Node}
use Rattle.sv_term.specs.contracts.node.NodeClone.TheImpl.{is_clone-value}
use Rattle.sv_term.specs.contracts.node.SortNodeClone.TheImpl as sorts

ids_clone : (js ks : List SortId) → AllZip (λ j k. k ≡ j) js ks → ks ≡ js
ids_clone [] [] h = refl
ids_clone (j ∷ js) (k ∷ ks) h = ap₂ (λ z zs. z ∷ zs) h.0 (ids_clone js ks h.1)
ids_clone [] (k ∷ ks) h = absurd h
ids_clone (j ∷ js) [] h = absurd h

row_clone : (x y : SortNode) → (sorts.is_clone-value).it x y → row_of y ≡ row_of x
row_clone (s.Num q) (s.Num p) h = ap (λ z. NumRow (range_of z)) h
row_clone s.Bool s.Bool h = refl
row_clone (s.Arr j) (s.Arr k) h = ap ArrRow h
row_clone (s.Tup js) (s.Tup ks) h = ap TupRow (ids_clone js.items ks.items h.0)
row_clone _ _ h = absurd h

pub rows_clone : (ks ls : List SortNode) → AllZip (sorts.is_clone-value).it ks ls → map row_of ls ≡ map row_of ks
rows_clone [] [] h = refl
rows_clone (k ∷ ks) (l ∷ ls) h = ap₂ (λ z zs. z ∷ zs) (row_clone k l h.0) (rows_clone ks ls h.1)
rows_clone [] (l ∷ ls) h = absurd h
rows_clone (k ∷ ks) [] h = absurd h

pub entries_clone : (es fs : List (Node × SortId)) → AllZip (λ p q. (is_clone-value).it p.0 q.0 × (q.1 ≡ p.1)) es fs → fs ≡ es
entries_clone [] [] h = refl
entries_clone (e ∷ es) (f ∷ fs) h = ap₂ (λ z zs. z ∷ zs) (λ i. (h.0.0 i, h.0.1 i)) (entries_clone es fs h.1)
entries_clone [] (f ∷ fs) h = absurd h
entries_clone (e ∷ es) [] h = absurd h
