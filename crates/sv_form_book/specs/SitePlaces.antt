-- Believed: the place of each node: that of its first byte, and 1:1 for the text. Hold it against docs/language.md, "Rules".
use Rattle.sv_text.specs.declared.place.Place.{Place}
use Rattle.sv_plain.specs.PlainExprs.{TypeForm, Typed, PlainForm, Simply as SimplyPlain, Args, Given}
use Rattle.sv_plain.specs.PlainStmts.{Stmt, Stated, Block, Braces}
use Rattle.sv_visit.specs.Sites.{Site, Expression, TypeUse, PlainUse, Arguing, Annotation, Acting, Declaring, Filling, Simply, Stating, Bracing, Bare, OfText, OfConstant, OfStruct, OfField, OfEnum, OfEvent, OfEventParam, OfError, OfErrorParam, OfContract, OfBase, OfVariable, OfWord, OfOver, OfFunction, OfConstructor, OfSpecial, OfModifier, OfHead, OfParam}

abbrev pub type_place : TypeForm → Place
type_place (Typed at p ls) = at.place

abbrev pub plain_place : PlainForm → Place
plain_place (SimplyPlain at k) = at.place

abbrev pub args_place : Args → Place
args_place (Given at k) = at.place

abbrev pub stmt_place : Stmt → Place
stmt_place (Stated at k) = at.place

abbrev pub block_place : Block → Place
block_place (Braces at ss) = at.place

abbrev pub site_place : Site → Place
site_place (Expression role at kind) = at.place
site_place (TypeUse t) = type_place t
site_place (PlainUse p) = plain_place p
site_place (Arguing args) = args_place args
site_place (Annotation note) = note.place
site_place (Acting action) = action.place
site_place (Declaring decl) = decl.place
site_place (Filling slot) = slot.place
site_place (Simply s) = s.place
site_place (Stating s) = stmt_place s
site_place (Bracing b) = block_place b
site_place (Bare s) = s.place
site_place (OfText text) = record { line = 1; col = 1 }
site_place (OfConstant constant) = constant.place
site_place (OfStruct struct) = struct.place
site_place (OfField field) = field.place
site_place (OfEnum enum) = enum.place
site_place (OfEvent event) = event.place
site_place (OfEventParam param) = param.place
site_place (OfError error) = error.place
site_place (OfErrorParam param) = param.place
site_place (OfContract contract) = contract.place
site_place (OfBase base) = base.place
site_place (OfVariable variable) = variable.place
site_place (OfWord word) = word.place
site_place (OfOver over) = over.place
site_place (OfFunction function) = function.place
site_place (OfConstructor constructor) = constructor.place
site_place (OfSpecial special) = special.place
site_place (OfModifier modifier) = modifier.place
site_place (OfHead head) = head.place
site_place (OfParam param) = param.place
