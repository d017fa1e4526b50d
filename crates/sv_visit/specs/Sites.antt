-- Believed: the nodes of which rules are asked, by kinds. Hold it against docs/grammar.md: a level that adds nothing to its only part has no node, and an atom with all its suffixes is one.
use Rattle.sv_ast.specs.declared.note.Note.{Note}
use Rattle.sv_ast.specs.declared.simple.Simple.{Simple}
use Rattle.sv_ast.specs.declared.simple.Action.{Action}
use Rattle.sv_ast.specs.declared.simple.Decl.{Decl}
use Rattle.sv_ast.specs.declared.simple.Slot.{Slot}
use Rattle.sv_ast.specs.declared.unit.Unit.{Unit as Text}
use Rattle.sv_ast.specs.declared.unit.FileConst.{FileConst}
use Rattle.sv_ast.specs.declared.unit.Struct.{Struct}
use Rattle.sv_ast.specs.declared.unit.Field.{Field}
use Rattle.sv_ast.specs.declared.unit.Enum.{Enum}
use Rattle.sv_ast.specs.declared.unit.Event.{Event}
use Rattle.sv_ast.specs.declared.unit.EvPar.{EvPar}
use Rattle.sv_ast.specs.declared.unit.Error.{Error}
use Rattle.sv_ast.specs.declared.unit.ErPar.{ErPar}
use Rattle.sv_ast.specs.declared.contract.Contract.{Contract}
use Rattle.sv_ast.specs.declared.contract.Base.{Base}
use Rattle.sv_ast.specs.declared.contract.Variable.{Variable}
use Rattle.sv_ast.specs.declared.contract.VarWord.{VarWord}
use Rattle.sv_ast.specs.declared.contract.Over.{Over}
use Rattle.sv_ast.specs.declared.contract.Function.{Function}
use Rattle.sv_ast.specs.declared.contract.Ctor.{Ctor}
use Rattle.sv_ast.specs.declared.contract.Special.{Special}
use Rattle.sv_ast.specs.declared.contract.Modifier.{Modifier}
use Rattle.sv_ast.specs.declared.contract.Head.{Head}
use Rattle.sv_ast.specs.declared.contract.Param.{Param}
use Rattle.sv_plain.specs.declared.spot.Spot.{Spot}
use Rattle.sv_plain.specs.PlainExprs.{Kind, TypeForm, PlainForm, Args}
use Rattle.sv_plain.specs.PlainStmts.{Stmt, Block}
use Rattle.sv_visit.specs.declared.judge.Role.{Role}

pub data Site : Type 0 where
  -- of expressions and types
  Expression : (role : Role) (spot : Spot) (kind : Kind) → Site
  TypeUse : (type : TypeForm) → Site
  -- without brackets
  PlainUse : (plain : PlainForm) → Site
  Arguing : (args : Args) → Site
  -- of statements
  Annotation : (note : Note) → Site
  Acting : (action : Action) → Site
  Declaring : (decl : Decl) → Site
  Filling : (slot : Slot) → Site
  -- what ends with `;`
  Simply : (s : Simple) → Site
  Stating : (s : Stmt) → Site
  Bracing : (block : Block) → Site
  -- a body without braces
  Bare : (s : Simple) → Site
  -- of declarations
  OfText : (text : Text) → Site
  OfConstant : (constant : FileConst) → Site
  OfStruct : (struct : Struct) → Site
  OfField : (field : Field) → Site
  OfEnum : (enum : Enum) → Site
  OfEvent : (event : Event) → Site
  OfEventParam : (param : EvPar) → Site
  OfError : (error : Error) → Site
  OfErrorParam : (param : ErPar) → Site
  OfContract : (contract : Contract) → Site
  OfBase : (base : Base) → Site
  OfVariable : (variable : Variable) → Site
  OfWord : (word : VarWord) → Site
  OfOver : (over : Over) → Site
  OfFunction : (function : Function) → Site
  OfConstructor : (constructor : Ctor) → Site
  OfSpecial : (special : Special) → Site
  OfModifier : (modifier : Modifier) → Site
  OfHead : (head : Head) → Site
  OfParam : (param : Param) → Site
