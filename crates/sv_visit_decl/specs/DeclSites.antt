-- Believed: the nodes of the declarations of a contract, each once; what a part knows is what is declared before it, so the parameters and the results of a function come before its annotations and its words. Hold it against `src/contract.rt` and `src/unit.rt` of `sv_ast`.
use Rattle.std.specs.Prelude.{List, [], ◌∷◌, Option, Some, None}
use Rattle.sv_ast.specs.declared.post.Args.{Args}
use Rattle.sv_ast.specs.declared.stmt.Block.{Block}
use Rattle.sv_ast.specs.declared.unit.Struct.{Struct}
use Rattle.sv_ast.specs.declared.unit.Field.{Field}
use Rattle.sv_ast.specs.declared.unit.Enum.{Enum}
use Rattle.sv_ast.specs.declared.unit.Event.{Event}
use Rattle.sv_ast.specs.declared.unit.EvPar.{EvPar}
use Rattle.sv_ast.specs.declared.unit.Error.{Error}
use Rattle.sv_ast.specs.declared.unit.ErPar.{ErPar}
use Rattle.sv_ast.specs.declared.contract.Variable.{Variable}
use Rattle.sv_ast.specs.declared.contract.VarWord.{VarWord}
use Rattle.sv_ast.specs.declared.contract.VariableWord.{VariableWord}
use Rattle.sv_ast.specs.declared.contract.VariableWord.TheVariants as word
use Rattle.sv_ast.specs.declared.contract.Over.{Over}
use Rattle.sv_ast.specs.declared.contract.Params.{Params}
use Rattle.sv_ast.specs.declared.contract.Param.{Param}
use Rattle.sv_ast.specs.declared.contract.Head.{Head}
use Rattle.sv_ast.specs.declared.contract.HeadKind.{HeadKind}
use Rattle.sv_ast.specs.declared.contract.HeadKind.TheVariants as head
use Rattle.sv_ast.specs.declared.contract.ModifierWord.{ModifierWord}
use Rattle.sv_ast.specs.declared.contract.ModifierWord.TheVariants as modifier_word
use Rattle.sv_ast.specs.declared.contract.Function.{Function}
use Rattle.sv_ast.specs.declared.contract.Ctor.{Ctor}
use Rattle.sv_ast.specs.declared.contract.Special.{Special}
use Rattle.sv_ast.specs.declared.contract.Modifier.{Modifier}
use Rattle.sv_ast.specs.declared.contract.Part.{Part as PartNode}
use Rattle.sv_ast.specs.declared.contract.PartKind.{PartKind}
use Rattle.sv_ast.specs.declared.contract.PartKind.TheVariants as part
use Rattle.sv_plain.specs.ExprFolds.{plain_type_expr, plain_args}
use Rattle.sv_plain.specs.PlainStmts.{plain_block}
use Rattle.sv_book.specs.Walks.{Walk, Walks, Node, Group, End, Part}
use Rattle.sv_visit.specs.Sites.{Site, OfStruct, OfField, OfEnum, OfEvent, OfEventParam, OfError, OfErrorParam, OfVariable, OfWord, OfOver, OfParam, OfFunction, OfConstructor, OfSpecial, OfModifier, OfHead}
use Rattle.sv_visit.specs.ExprSites.{type_walk, args_walk}
use Rattle.sv_visit_simple.specs.SimpleSites.{optional_parts, notes_parts}
use Rattle.sv_visit_stmt.specs.StmtSites.{block_walk}
use Rattle.sv_visit_decl.specs.declared.judge.DeclNode.{DeclNode}
use Rattle.sv_visit_decl.specs.declared.judge.DeclNode.TheVariants as node
use Rattle.sv_visit_decl.specs.declared.judge.FunctionNode.{FunctionNode}
use Rattle.sv_visit_decl.specs.declared.judge.FunctionNode.TheVariants as function_node

-- the node that a call of a judge speaks of
abbrev pub decl_site : DeclNode → Site
decl_site (node.Struct s) = OfStruct s.now
decl_site (node.Field f) = OfField f.now
decl_site (node.Enum e) = OfEnum e.now
decl_site (node.Event e) = OfEvent e.now
decl_site (node.EventParam p) = OfEventParam p.now
decl_site (node.Error e) = OfError e.now
decl_site (node.ErrorParam p) = OfErrorParam p.now
decl_site (node.Variable v) = OfVariable v.now
decl_site (node.Word w) = OfWord w.now
decl_site (node.Over o) = OfOver o.now
decl_site (node.Param p) = OfParam p.now

abbrev pub function_site : FunctionNode → Site
function_site (function_node.Function f) = OfFunction f.now
function_site (function_node.Constructor f) = OfConstructor f.now
function_site (function_node.Special f) = OfSpecial f.now
function_site (function_node.Modifier m) = OfModifier m.now
function_site (function_node.Head h) = OfHead h.now

-- ---- structs, enums, events and errors

abbrev pub field_walk : Field → Walk Site
field_walk f = Node (OfField f) (Part (type_walk (plain_type_expr f.of_type)) End)

abbrev pub fields_parts : List Field → Walks Site
fields_parts [] = End
fields_parts (f ∷ fs) = Part (field_walk f) (fields_parts fs)

abbrev pub struct_walk : Struct → Walk Site
struct_walk s = Node (OfStruct s) (fields_parts s.fields)

abbrev pub enum_walk : Enum → Walk Site
enum_walk e = Node (OfEnum e) End

abbrev pub event_param_walk : EvPar → Walk Site
event_param_walk p = Node (OfEventParam p) (Part (type_walk (plain_type_expr p.of_type)) End)

abbrev pub event_params_parts : List EvPar → Walks Site
event_params_parts [] = End
event_params_parts (p ∷ ps) = Part (event_param_walk p) (event_params_parts ps)

abbrev pub event_walk : Event → Walk Site
event_walk e = Node (OfEvent e) (event_params_parts e.params)

abbrev pub error_param_walk : ErPar → Walk Site
error_param_walk p = Node (OfErrorParam p) (Part (type_walk (plain_type_expr p.of_type)) End)

abbrev pub error_params_parts : List ErPar → Walks Site
error_params_parts [] = End
error_params_parts (p ∷ ps) = Part (error_param_walk p) (error_params_parts ps)

abbrev pub error_walk : Error → Walk Site
error_walk e = Node (OfError e) (error_params_parts e.params)

-- ---- variables

-- the names in its brackets are no nodes
abbrev pub over_walk : Over → Walk Site
over_walk o = Node (OfOver o) End

abbrev pub plain_word_walk : VarWord → Walk Site
plain_word_walk w = Node (OfWord w) End

abbrev pub word_walk : VariableWord → Walk Site
word_walk (word.Word w) = plain_word_walk w
word_walk (word.Over o) = over_walk o

abbrev pub words_parts : List VariableWord → Walks Site
words_parts [] = End
words_parts (w ∷ ws) = Part (word_walk w) (words_parts ws)

abbrev pub variable_walk : Variable → Walk Site
variable_walk v = Node (OfVariable v) (Part (type_walk (plain_type_expr v.of_type)) (Part (Group (words_parts v.words)) (Part (Group (optional_parts v.value)) End)))

-- ---- functions and modifiers

abbrev pub param_walk : Param → Walk Site
param_walk p = Node (OfParam p) (Part (type_walk (plain_type_expr p.of_type)) End)

abbrev pub params_parts : List Param → Walks Site
params_parts [] = End
params_parts (p ∷ ps) = Part (param_walk p) (params_parts ps)

abbrev pub optional_params : Option Params → Walks Site
optional_params None = End
optional_params (Some p) = params_parts p.params

abbrev pub optional_args : Option Args → Walks Site
optional_args None = End
optional_args (Some args) = Part (args_walk (plain_args args)) End

abbrev pub head_parts : HeadKind → Walks Site
head_parts head.Public = End
head_parts head.Private = End
head_parts head.Internal = End
head_parts head.External = End
head_parts head.Pure = End
head_parts head.View = End
head_parts head.Payable = End
head_parts head.Virtual = End
head_parts (head.Over o) = Part (over_walk o) End
head_parts (head.Use n args) = optional_args args

abbrev pub head_walk : Head → Walk Site
head_walk h = Node (OfHead h) (head_parts h.kind)

abbrev pub heads_parts : List Head → Walks Site
heads_parts [] = End
heads_parts (h ∷ hs) = Part (head_walk h) (heads_parts hs)

-- the word `virtual` is no node
abbrev pub modifier_word_walk : ModifierWord → Walk Site
modifier_word_walk modifier_word.Virtual = Group End
modifier_word_walk (modifier_word.Over o) = over_walk o

abbrev pub modifier_words_parts : List ModifierWord → Walks Site
modifier_words_parts [] = End
modifier_words_parts (w ∷ ws) = Part (modifier_word_walk w) (modifier_words_parts ws)

abbrev pub optional_block : Option Block → Walks Site
optional_block None = End
optional_block (Some b) = Part (block_walk (plain_block b)) End

abbrev pub function_parts : Function → Walks Site
function_parts f = Part (Group (params_parts f.params.params)) (Part (Group (optional_params f.results)) (Part (Group (notes_parts f.notes)) (Part (Group (heads_parts f.heads)) (Part (Group (optional_block f.body)) End))))

abbrev pub function_walk : Function → Walk Site
function_walk f = Node (OfFunction f) (function_parts f)

abbrev pub constructor_parts : Ctor → Walks Site
constructor_parts f = Part (Group (params_parts f.params.params)) (Part (Group (notes_parts f.notes)) (Part (Group (heads_parts f.heads)) (Part (block_walk (plain_block f.body)) End)))

abbrev pub constructor_walk : Ctor → Walk Site
constructor_walk f = Node (OfConstructor f) (constructor_parts f)

abbrev pub special_parts : Special → Walks Site
special_parts f = Part (Group (notes_parts f.notes)) (Part (Group (heads_parts f.heads)) (Part (block_walk (plain_block f.body)) End))

abbrev pub special_walk : Special → Walk Site
special_walk f = Node (OfSpecial f) (special_parts f)

abbrev pub modifier_parts : Modifier → Walks Site
modifier_parts m = Part (Group (optional_params m.params)) (Part (Group (modifier_words_parts m.words)) (Part (block_walk (plain_block m.body)) End))

abbrev pub modifier_walk : Modifier → Walk Site
modifier_walk m = Node (OfModifier m) (modifier_parts m)

-- ---- all declarations of a contract

abbrev pub part_walk : PartKind → Walk Site
part_walk (part.Variable v) = variable_walk v
part_walk (part.Function f) = function_walk f
part_walk (part.Ctor f) = constructor_walk f
part_walk (part.Special f) = special_walk f
part_walk (part.Modifier m) = modifier_walk m
part_walk (part.Struct s) = struct_walk s
part_walk (part.Enum e) = enum_walk e
part_walk (part.Event e) = event_walk e
part_walk (part.Error e) = error_walk e

abbrev pub parts_parts : List PartNode → Walks Site
parts_parts [] = End
parts_parts (p ∷ ps) = Part (part_walk p.kind) (parts_parts ps)
