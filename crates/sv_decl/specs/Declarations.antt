-- Believed: the declarations of a contract and of a text, each with its parts, in order of the text. Hold it against `src/contract.rt` and `src/unit.rt` of `sv_ast`.
use Rattle.std.specs.Prelude.{ℕ, Bool, true, false, is_some, List, [], ◌∷◌, Option, Some, None}
use Rattle.std.specs.List.{filter_map}
use Rattle.sv_text.specs.declared.span.Span.{Span}
use Rattle.sv_ast.specs.declared.expr.Expr.{Expr as ExprNode}
use Rattle.sv_ast.specs.declared.contract.Contract.{Contract}
use Rattle.sv_ast.specs.declared.contract.ContractKind.{ContractKind}
use Rattle.sv_ast.specs.declared.contract.ContractKind.TheVariants as contract
use Rattle.sv_ast.specs.declared.contract.Ctor.{Ctor}
use Rattle.sv_ast.specs.declared.contract.Function.{Function}
use Rattle.sv_ast.specs.declared.contract.Head.{Head}
use Rattle.sv_ast.specs.declared.contract.Modifier.{Modifier}
use Rattle.sv_ast.specs.declared.contract.Params.{Params}
use Rattle.sv_ast.specs.declared.contract.Part.{Part}
use Rattle.sv_ast.specs.declared.contract.PartKind.{PartKind}
use Rattle.sv_ast.specs.declared.contract.PartKind.TheVariants as part
use Rattle.sv_ast.specs.declared.contract.Special.{Special}
use Rattle.sv_ast.specs.declared.contract.Variable.{Variable}
use Rattle.sv_ast.specs.declared.stmt.Block.{Block}
use Rattle.sv_ast.specs.declared.unit.Enum.{Enum}
use Rattle.sv_ast.specs.declared.unit.Error.{Error}
use Rattle.sv_ast.specs.declared.unit.Event.{Event}
use Rattle.sv_ast.specs.declared.unit.FileConst.{FileConst}
use Rattle.sv_ast.specs.declared.unit.Struct.{Struct}
use Rattle.sv_ast.specs.declared.unit.Unit.{Unit as Text}
use Rattle.sv_ast.specs.declared.unit.UnitItem.{UnitItem}
use Rattle.sv_ast.specs.declared.unit.UnitItem.TheVariants as item
use Rattle.sv_plain.specs.declared.spot.Spot.{Spot}
use Rattle.sv_plain.specs.ExprFolds.{spot, plain_expr, plain_type_expr}
use Rattle.sv_decl.specs.declared.data.Callable.{Callable}
use Rattle.sv_decl.specs.declared.data.Callable.TheVariants as callable
use Rattle.sv_decl.specs.declared.data.Declaration.{Declaration}
use Rattle.sv_decl.specs.declared.data.DeclarationKind.{DeclarationKind}
use Rattle.sv_decl.specs.declared.data.DeclarationKind.TheVariants as kind
use Rattle.sv_decl.specs.declared.data.DeclaredContract.{DeclaredContract}
use Rattle.sv_decl.specs.declared.data.DeclaredText.{DeclaredText}
use Rattle.sv_decl.specs.declared.data.Member.{Member}
use Rattle.sv_decl.specs.declared.data.Named.{Named}
use Rattle.sv_decl.specs.declared.data.Signature.{Signature}
use Rattle.sv_decl.specs.declared.data.Standing.{Standing}
use Rattle.sv_decl.specs.declared.data.Standing.TheVariants as standing
use Rattle.sv_decl.specs.declared.data.Word.{Word}
use Rattle.sv_decl.specs.declared.data.Word.TheVariants as word
use Rattle.sv_decl.specs.TypePieces.{expr_span, type_pieces}
use Rattle.sv_decl.specs.DeclaredParts.{base_use, head_use, head_word, variable_word, modifier_word, param_member, field_member, event_member, error_member}

abbrev pub declaration : Option ℕ → DeclarationKind → Spot → Declaration
declaration n k at = record { name = n; kind = k; spot = at }

-- ---- what has a body

abbrev pub members : Option Params → List Member
members None = []
members (Some p) = filter_map param_member p.params

abbrev pub signature : Callable → List Member → List Member → List Head → Bool → Signature
signature c ps rs heads body = record { callable = c; params = ps; results = rs; words = filter_map head_word heads; uses = filter_map head_use heads; has_body = body }

abbrev pub function_of : Function → Declaration
function_of f = declaration (Some f.name) (kind.Callable (signature callable.Function (filter_map param_member f.params.params) (members f.results) f.heads (is_some f.body))) (spot f.span f.place)

abbrev pub constructor_of : Ctor → Declaration
constructor_of f = declaration None (kind.Callable (signature callable.Constructor (filter_map param_member f.params.params) [] f.heads true)) (spot f.span f.place)

abbrev pub special_of : Special → Declaration
special_of f = declaration (Some f.word) (kind.Callable (signature callable.Special [] [] f.heads true)) (spot f.span f.place)

abbrev pub modifier_of : Modifier → Declaration
modifier_of m = declaration (Some m.name) (kind.Callable (record { callable = callable.Modifier; params = members m.params; results = []; words = filter_map modifier_word m.words; uses = []; has_body = true })) (spot m.span m.place)

-- ---- what has none

abbrev pub value_span : Option ExprNode → Option Span
value_span None = None
value_span (Some e) = Some (expr_span (plain_expr e))

abbrev pub variable_of : Variable → Declaration
variable_of v = declaration (Some v.name) (kind.Variable (type_pieces (plain_type_expr v.of_type)) (filter_map variable_word v.words) (value_span v.value)) (spot v.span v.place)

abbrev pub constant_of : FileConst → Declaration
constant_of c = declaration (Some c.name) (kind.Variable (type_pieces (plain_type_expr c.of_type)) (word.Constant ∷ []) (Some (expr_span (plain_expr c.value)))) (spot c.span c.place)

abbrev pub struct_of : Struct → Declaration
struct_of s = declaration (Some s.name) (kind.Struct (filter_map field_member s.fields)) (spot s.span s.place)

abbrev pub enum_of : Enum → Declaration
enum_of e = declaration (Some e.name) (kind.Enum e.members) (spot e.span e.place)

abbrev pub event_of : Event → Declaration
event_of e = declaration (Some e.name) (kind.Event (filter_map event_member e.params)) (spot e.span e.place)

abbrev pub error_of : Error → Declaration
error_of e = declaration (Some e.name) (kind.Error (filter_map error_member e.params)) (spot e.span e.place)

-- ---- contracts and the whole text

abbrev pub part_kind_of : PartKind → Declaration
part_kind_of (part.Variable v) = variable_of v
part_kind_of (part.Function f) = function_of f
part_kind_of (part.Ctor f) = constructor_of f
part_kind_of (part.Special f) = special_of f
part_kind_of (part.Modifier m) = modifier_of m
part_kind_of (part.Struct s) = struct_of s
part_kind_of (part.Enum e) = enum_of e
part_kind_of (part.Event e) = event_of e
part_kind_of (part.Error e) = error_of e

abbrev pub part_of : Part → Option Declaration
part_of p = Some (part_kind_of p.kind)

abbrev pub standing_of : Bool → Standing
standing_of true = standing.Abstract
standing_of false = standing.Concrete

abbrev pub contract_kind_of : Spot → ContractKind → DeclaredContract
contract_kind_of at (contract.Contract notes is_abstract n bases parts) = record { name = n; standing = standing_of is_abstract; bases = filter_map base_use bases.bases; declarations = filter_map part_of parts; spot = at }
contract_kind_of at (contract.Interface n bases parts) = record { name = n; standing = standing.Interface; bases = filter_map base_use bases.bases; declarations = filter_map part_of parts; spot = at }

-- what an item of a text declares, if it is a contract
abbrev pub contract_of : UnitItem → Option DeclaredContract
contract_of (item.Contract c) = Some (contract_kind_of (spot c.span c.place) c.kind)
contract_of (item.Pragma n) = None
contract_of (item.Struct s) = None
contract_of (item.Enum e) = None
contract_of (item.Event e) = None
contract_of (item.Error e) = None
contract_of (item.FileConst c) = None

-- what it declares otherwise
abbrev pub outside_of : UnitItem → Option Declaration
outside_of (item.Contract c) = None
outside_of (item.Pragma n) = None
outside_of (item.Struct s) = Some (struct_of s)
outside_of (item.Enum e) = Some (enum_of e)
outside_of (item.Event e) = Some (event_of e)
outside_of (item.Error e) = Some (error_of e)
outside_of (item.FileConst c) = Some (constant_of c)

abbrev pub declared_text : Text → DeclaredText
declared_text u = record { contracts = filter_map contract_of u.items; outside = filter_map outside_of u.items }
