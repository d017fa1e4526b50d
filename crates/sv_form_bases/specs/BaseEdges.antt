-- Serves the proof: each contract's name with each of its bases, as the edges of a graph of names.
use Rattle.std.specs.Prelude.{ℕ, List, [], ◌∷◌, ◌++◌}
use Rattle.sv_ast.specs.declared.contract.Base.{Base}
use Rattle.sv_ast.specs.declared.unit.UnitItem.{UnitItem}
use Rattle.sv_ast.specs.declared.unit.UnitItem.TheVariants as item
use Rattle.sv_form_book.specs.FormBases.{name_of, bases_of}
use Rattle.sv_form_bases.specs.declared.graph.Edge.{Edge}

abbrev pub base_edges : ℕ → List Base → List Edge
base_edges c [] = []
base_edges c (b ∷ bs) = record { from = c; to = b.name } ∷ base_edges c bs

abbrev pub item_edges : UnitItem → List Edge
item_edges (item.Contract k) = base_edges (name_of k.kind) (bases_of k.kind)
item_edges _ = []

abbrev pub edges_of : List UnitItem → List Edge
edges_of [] = []
edges_of (i ∷ is) = item_edges i ++ edges_of is
