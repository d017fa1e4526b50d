-- Believed: the trees of contracts and of what is declared in them. Hold it against the types of `src/contract.rt`, and docs/grammar.md.
use Rattle.std.specs.Prelude.{List, [], ◌∷◌, map, Option, Some, None}
use Rattle.sv_grammar.specs.Grammar.{Tree, unit, name, none, some, node}
use Rattle.sv_grammar.specs.ListTrees.{list_tree}
use Rattle.sv_ast.specs.Trees.{extent, ◌⊗◌, nth, last, optional, optional_word, commas, optional_commas}
use Rattle.sv_ast.specs.ExprTrees.{expr_tree, type_tree, args_tree}
use Rattle.sv_ast.specs.SimpleTrees.{note_tree, location_tree}
use Rattle.sv_ast.specs.StmtTrees.{block_tree}
use Rattle.sv_ast.specs.DeclarationTrees.{struct_tree, enum_tree, event_tree, error_tree}
use Rattle.sv_ast.specs.declared.contract.Contract.{Contract}
use Rattle.sv_ast.specs.declared.contract.ContractKind.{ContractKind}
use Rattle.sv_ast.specs.declared.contract.ContractKind.TheVariants as contract_kind
use Rattle.sv_ast.specs.declared.contract.Bases.{Bases}
use Rattle.sv_ast.specs.declared.contract.Base.{Base}
use Rattle.sv_ast.specs.declared.contract.Part.{Part}
use Rattle.sv_ast.specs.declared.contract.PartKind.{PartKind}
use Rattle.sv_ast.specs.declared.contract.PartKind.TheVariants as part_kind
use Rattle.sv_ast.specs.declared.contract.Variable.{Variable}
use Rattle.sv_ast.specs.declared.contract.VariableWord.{VariableWord}
use Rattle.sv_ast.specs.declared.contract.VariableWord.TheVariants as variable_word
use Rattle.sv_ast.specs.declared.contract.VarWord.{VarWord}
use Rattle.sv_ast.specs.declared.contract.VarWordKind.{VarWordKind}
use Rattle.sv_ast.specs.declared.contract.VarWordKind.TheVariants as var_word
use Rattle.sv_ast.specs.declared.contract.Function.{Function}
use Rattle.sv_ast.specs.declared.contract.Ctor.{Ctor}
use Rattle.sv_ast.specs.declared.contract.Special.{Special}
use Rattle.sv_ast.specs.declared.contract.Modifier.{Modifier}
use Rattle.sv_ast.specs.declared.contract.ModifierWord.{ModifierWord}
use Rattle.sv_ast.specs.declared.contract.ModifierWord.TheVariants as modifier_word
use Rattle.sv_ast.specs.declared.contract.Head.{Head}
use Rattle.sv_ast.specs.declared.contract.HeadKind.{HeadKind}
use Rattle.sv_ast.specs.declared.contract.HeadKind.TheVariants as head_kind
use Rattle.sv_ast.specs.declared.contract.Over.{Over}
use Rattle.sv_ast.specs.declared.contract.Params.{Params}
use Rattle.sv_ast.specs.declared.contract.Param.{Param}
use Rattle.sv_ast.specs.declared.stmt.Block.{Block}

-- ---- functions and modifiers

abbrev pub param_tree : Param → Tree
param_tree p =
    node (extent p.span p.place) (type_tree p.of_type ⊗ optional location_tree p.location ⊗ optional name p.name)

abbrev pub params_tree : Params → Tree
params_tree p = node (extent p.span p.place) (unit ⊗ optional_commas (map param_tree p.params) ⊗ unit)

abbrev pub over_names_tree : List Tree → Tree
over_names_tree [] = none
over_names_tree (t ∷ ts) = some (unit ⊗ commas (t ∷ ts) ⊗ unit)

abbrev pub over_tree : Over → Tree
over_tree o = node (extent o.span o.place) (unit ⊗ over_names_tree (map name o.names))

abbrev pub head_kind_tree : HeadKind → Tree
head_kind_tree head_kind.Public = nth 0 unit
head_kind_tree head_kind.Private = nth 1 unit
head_kind_tree head_kind.Internal = nth 2 unit
head_kind_tree head_kind.External = nth 3 unit
head_kind_tree head_kind.Pure = nth 4 unit
head_kind_tree head_kind.View = nth 5 unit
head_kind_tree head_kind.Payable = nth 6 unit
head_kind_tree head_kind.Virtual = nth 7 unit
head_kind_tree (head_kind.Over o) = nth 8 (over_tree o)
head_kind_tree (head_kind.Use n args) = last 9 (name n ⊗ optional args_tree args)

abbrev pub head_tree : Head → Tree
head_tree h = node (extent h.span h.place) (head_kind_tree h.kind)

abbrev pub modifier_word_tree : ModifierWord → Tree
modifier_word_tree modifier_word.Virtual = nth 0 unit
modifier_word_tree (modifier_word.Over o) = last 1 (over_tree o)

abbrev pub modifier_tree : Modifier → Tree
modifier_tree m =
    node (extent m.span m.place)
    (unit ⊗ name m.name ⊗ optional params_tree m.params ⊗ list_tree (map modifier_word_tree m.words) ⊗ block_tree m.body)

abbrev pub special_tree : Special → Tree
special_tree s =
    node (extent s.span s.place)
    (list_tree (map note_tree s.notes) ⊗ name s.word ⊗ unit ⊗ unit ⊗ list_tree (map head_tree s.heads) ⊗ block_tree s.body)

abbrev pub ctor_tree : Ctor → Tree
ctor_tree c =
    node (extent c.span c.place)
    (list_tree (map note_tree c.notes) ⊗ unit ⊗ params_tree c.params ⊗ list_tree (map head_tree c.heads) ⊗ block_tree c.body)

-- a body, or `;`
abbrev pub function_body_tree : Option Block → Tree
function_body_tree (Some b) = nth 0 (block_tree b)
function_body_tree None = last 1 unit

abbrev pub function_tree : Function → Tree
function_tree f =
    node (extent f.span f.place)
    (list_tree (map note_tree f.notes) ⊗ unit ⊗ name f.name ⊗ params_tree f.params ⊗ list_tree (map head_tree f.heads)
    ⊗ optional (λ p. unit ⊗ params_tree p) f.results ⊗ function_body_tree f.body)

-- ---- variables

abbrev pub var_word_kind_tree : VarWordKind → Tree
var_word_kind_tree var_word.Public = nth 0 unit
var_word_kind_tree var_word.Private = nth 1 unit
var_word_kind_tree var_word.Internal = nth 2 unit
var_word_kind_tree var_word.Constant = nth 3 unit
var_word_kind_tree var_word.Immutable = last 4 unit

abbrev pub var_word_tree : VarWord → Tree
var_word_tree w = node (extent w.span w.place) (var_word_kind_tree w.kind)

abbrev pub variable_word_tree : VariableWord → Tree
variable_word_tree (variable_word.Word w) = nth 0 (var_word_tree w)
variable_word_tree (variable_word.Over o) = last 1 (over_tree o)

abbrev pub variable_tree : Variable → Tree
variable_tree v =
    node (extent v.span v.place)
    (type_tree v.of_type ⊗ list_tree (map variable_word_tree v.words) ⊗ name v.name
    ⊗ optional (λ e. unit ⊗ expr_tree e) v.value ⊗ unit)

-- ---- contracts

abbrev pub part_kind_tree : PartKind → Tree
part_kind_tree (part_kind.Variable v) = nth 0 (variable_tree v)
part_kind_tree (part_kind.Function f) = nth 1 (function_tree f)
part_kind_tree (part_kind.Ctor c) = nth 2 (ctor_tree c)
part_kind_tree (part_kind.Special s) = nth 3 (special_tree s)
part_kind_tree (part_kind.Modifier m) = nth 4 (modifier_tree m)
part_kind_tree (part_kind.Struct s) = nth 5 (struct_tree s)
part_kind_tree (part_kind.Enum e) = nth 6 (enum_tree e)
part_kind_tree (part_kind.Event e) = nth 7 (event_tree e)
part_kind_tree (part_kind.Error e) = last 8 (error_tree e)

abbrev pub part_tree : Part → Tree
part_tree p = node (extent p.span p.place) (part_kind_tree p.kind)

abbrev pub base_tree : Base → Tree
base_tree b = node (extent b.span b.place) (name b.name ⊗ optional args_tree b.args)

abbrev pub base_list_tree : List Tree → Tree
base_list_tree [] = none
base_list_tree (t ∷ ts) = some (unit ⊗ commas (t ∷ ts))

abbrev pub bases_tree : Bases → Tree
bases_tree b = node (extent b.span b.place) (base_list_tree (map base_tree b.bases))

abbrev pub contract_kind_tree : ContractKind → Tree
contract_kind_tree (contract_kind.Contract notes is_abstract n bases parts) =
    nth 0 (list_tree (map note_tree notes) ⊗ optional_word is_abstract ⊗ unit ⊗ name n ⊗ bases_tree bases ⊗ unit ⊗ list_tree (map part_tree parts) ⊗ unit)
contract_kind_tree (contract_kind.Interface n bases parts) =
    last 1 (unit ⊗ name n ⊗ bases_tree bases ⊗ unit ⊗ list_tree (map part_tree parts) ⊗ unit)

abbrev pub contract_tree : Contract → Tree
contract_tree c = node (extent c.span c.place) (contract_kind_tree c.kind)
