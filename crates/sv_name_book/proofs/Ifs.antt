-- A statement with a condition is no `for`.
use Rattle.std.proofs.Common.{◌≡◌, false, Option, Some, None, refl, ap}
use Rattle.sv_ast.specs.declared.stmt.Else.{Else as ElseNode}
use Rattle.sv_ast.specs.declared.stmt.If.{If as IfNode, out-If}
use Rattle.sv_plain.specs.PlainStmts.{plain_if}
use Rattle.sv_plain.proofs.StmtViews.{if_only, if_else}
use Rattle.sv_name_book.specs.NameBook.{is_for_form}

no_for : (s : IfNode) (o : Option ElseNode) → (out-If s).otherwise ≡ o → is_for_form (plain_if s) ≡ false
no_for s None h = ap is_for_form (if_only s h)
no_for s (Some e) h = ap is_for_form (if_else s e h)

pub if_is_no_for : (s : IfNode) → is_for_form (plain_if s) ≡ false
if_is_no_for s = no_for s (out-If s).otherwise refl
