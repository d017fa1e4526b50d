-- Believed: what is noted of parameters, fields, words, and names with arguments. Hold it against `src/contract.rt` and `src/unit.rt` of `sv_ast`.
use Rattle.std.specs.Prelude.{ℕ, ◌+◌, Option, Some, None}
use Rattle.sv_text.specs.declared.span.Span.{Span}
use Rattle.sv_text.specs.declared.place.Place.{Place}
use Rattle.sv_ast.specs.declared.post.Args.{Args as ArgsNode}
use Rattle.sv_ast.specs.declared.types.TypeExpr.{TypeExpr}
use Rattle.sv_ast.specs.declared.types.Where.{Where}
use Rattle.sv_ast.specs.declared.types.WhereKind.{WhereKind}
use Rattle.sv_ast.specs.declared.unit.Field.{Field}
use Rattle.sv_ast.specs.declared.unit.EvPar.{EvPar}
use Rattle.sv_ast.specs.declared.unit.ErPar.{ErPar}
use Rattle.sv_ast.specs.declared.contract.Base.{Base}
use Rattle.sv_ast.specs.declared.contract.Param.{Param}
use Rattle.sv_ast.specs.declared.contract.Head.{Head}
use Rattle.sv_ast.specs.declared.contract.HeadKind.{HeadKind}
use Rattle.sv_ast.specs.declared.contract.HeadKind.TheVariants as head
use Rattle.sv_ast.specs.declared.contract.ModifierWord.{ModifierWord}
use Rattle.sv_ast.specs.declared.contract.ModifierWord.TheVariants as modifier
use Rattle.sv_ast.specs.declared.contract.VarWordKind.{VarWordKind}
use Rattle.sv_ast.specs.declared.contract.VarWordKind.TheVariants as var
use Rattle.sv_ast.specs.declared.contract.VariableWord.{VariableWord}
use Rattle.sv_ast.specs.declared.contract.VariableWord.TheVariants as variable
use Rattle.sv_plain.specs.declared.spot.Spot.{Spot}
use Rattle.sv_plain.specs.PlainExprs.{Args, Given as Arguing, ArgsKind, Positional, Named as ByName, Exprs, NoExpr, MoreExprs, NamedArgs, NoArg, MoreArgs}
use Rattle.sv_plain.specs.ExprFolds.{spot, plain_args, plain_type_expr}
use Rattle.sv_decl.specs.declared.data.Given.{Given}
use Rattle.sv_decl.specs.declared.data.Member.{Member}
use Rattle.sv_decl.specs.declared.data.Named.{Named}
use Rattle.sv_decl.specs.declared.data.Word.{Word}
use Rattle.sv_decl.specs.declared.data.Word.TheVariants as word
use Rattle.sv_decl.specs.TypePieces.{type_pieces}

-- ---- names with arguments

abbrev pub exprs_count : Exprs → ℕ
exprs_count NoExpr = 0
exprs_count (MoreExprs e es) = exprs_count es + 1

abbrev pub named_count : NamedArgs → ℕ
named_count NoArg = 0
named_count (MoreArgs a more) = named_count more + 1

abbrev pub args_count : ArgsKind → ℕ
args_count (Positional es) = exprs_count es
args_count (ByName args) = named_count args

abbrev pub given_args : Args → Given
given_args (Arguing at kind) = record { count = args_count kind; spot = at }

abbrev pub given : Option ArgsNode → Option Given
given None = None
given (Some a) = Some (given_args (plain_args a))

abbrev pub use_of : ℕ → Option ArgsNode → Spot → Named
use_of n args at = record { name = n; given = given args; spot = at }

abbrev pub base_use : Base → Option Named
base_use b = Some (use_of b.name b.args (spot b.span b.place))

abbrev pub kind_use : Spot → HeadKind → Option Named
kind_use at (head.Use n args) = Some (use_of n args at)
kind_use at head.Public = None
kind_use at head.Private = None
kind_use at head.Internal = None
kind_use at head.External = None
kind_use at head.Pure = None
kind_use at head.View = None
kind_use at head.Payable = None
kind_use at head.Virtual = None
kind_use at (head.Over o) = None

abbrev pub head_use : Head → Option Named
head_use h = kind_use (spot h.span h.place) h.kind

-- ---- words

abbrev pub head_kind_word : HeadKind → Option Word
head_kind_word head.Public = Some word.Public
head_kind_word head.Private = Some word.Private
head_kind_word head.Internal = Some word.Internal
head_kind_word head.External = Some word.External
head_kind_word head.Pure = Some word.Pure
head_kind_word head.View = Some word.View
head_kind_word head.Payable = Some word.Payable
head_kind_word head.Virtual = Some word.Virtual
head_kind_word (head.Over o) = Some word.Override
head_kind_word (head.Use n args) = None

abbrev pub head_word : Head → Option Word
head_word h = head_kind_word h.kind

abbrev pub var_word : VarWordKind → Word
var_word var.Public = word.Public
var_word var.Private = word.Private
var_word var.Internal = word.Internal
var_word var.Constant = word.Constant
var_word var.Immutable = word.Immutable

abbrev pub variable_word : VariableWord → Option Word
variable_word (variable.Word w) = Some (var_word w.kind)
variable_word (variable.Over o) = Some word.Override

abbrev pub modifier_word : ModifierWord → Option Word
modifier_word modifier.Virtual = Some word.Virtual
modifier_word (modifier.Over o) = Some word.Override

-- ---- parameters and fields

abbrev pub where_kind : Option Where → Option WhereKind
where_kind None = None
where_kind (Some w) = Some w.kind

abbrev pub member : Option ℕ → TypeExpr → Option WhereKind → Spot → Member
member n t location at = record { name = n; of_type = type_pieces (plain_type_expr t); location = location; spot = at }

abbrev pub param_member : Param → Option Member
param_member p = Some (member p.name p.of_type (where_kind p.location) (spot p.span p.place))

abbrev pub field_member : Field → Option Member
field_member f = Some (member (Some f.name) f.of_type None (spot f.span f.place))

abbrev pub event_member : EvPar → Option Member
event_member p = Some (member p.name p.of_type None (spot p.span p.place))

abbrev pub error_member : ErPar → Option Member
error_member p = Some (member p.name p.of_type None (spot p.span p.place))
