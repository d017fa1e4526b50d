-- Believed: the trees of structs, enums, events and errors. Hold it against the types of `src/unit.rt`, and docs/grammar.md.
use Rattle.std.specs.Prelude.{map}
use Rattle.sv_grammar.specs.Grammar.{Tree, unit, name, node}
use Rattle.sv_ast.specs.Trees.{extent, ◌⊗◌, optional, optional_word, several, commas, optional_commas}
use Rattle.sv_ast.specs.ExprTrees.{type_tree}
use Rattle.sv_ast.specs.declared.unit.Struct.{Struct}
use Rattle.sv_ast.specs.declared.unit.Field.{Field}
use Rattle.sv_ast.specs.declared.unit.Enum.{Enum}
use Rattle.sv_ast.specs.declared.unit.Event.{Event}
use Rattle.sv_ast.specs.declared.unit.EvPar.{EvPar}
use Rattle.sv_ast.specs.declared.unit.Error.{Error}
use Rattle.sv_ast.specs.declared.unit.ErPar.{ErPar}

abbrev pub field_tree : Field → Tree
field_tree f = node (extent f.span f.place) (type_tree f.of_type ⊗ name f.name ⊗ unit)

abbrev pub struct_tree : Struct → Tree
struct_tree s = node (extent s.span s.place) (unit ⊗ name s.name ⊗ unit ⊗ several (map field_tree s.fields) ⊗ unit)

abbrev pub enum_tree : Enum → Tree
enum_tree e = node (extent e.span e.place) (unit ⊗ name e.name ⊗ unit ⊗ commas (map name e.members) ⊗ unit)

abbrev pub ev_par_tree : EvPar → Tree
ev_par_tree p = node (extent p.span p.place) (type_tree p.of_type ⊗ optional_word p.is_indexed ⊗ optional name p.name)

abbrev pub event_tree : Event → Tree
event_tree e =
    node (extent e.span e.place)
    (unit ⊗ name e.name ⊗ unit ⊗ optional_commas (map ev_par_tree e.params) ⊗ unit ⊗ optional_word e.is_anonymous ⊗ unit)

abbrev pub er_par_tree : ErPar → Tree
er_par_tree p = node (extent p.span p.place) (type_tree p.of_type ⊗ optional name p.name)

abbrev pub error_tree : Error → Tree
error_tree e = node (extent e.span e.place) (unit ⊗ name e.name ⊗ unit ⊗ optional_commas (map er_par_tree e.params) ⊗ unit ⊗ unit)
