-- A statement with a condition is neither a loop nor an unchecked block.
use Rattle.std.proofs.Common.{◌≡◌, false, Option, Some, None, refl, ap}
use Rattle.sv_ast.specs.declared.stmt.Else.{Else as ElseNode}
use Rattle.sv_ast.specs.declared.stmt.If.{If as IfNode, out-If}
use Rattle.sv_plain.specs.PlainStmts.{plain_if}
use Rattle.sv_plain.proofs.StmtViews.{if_only, if_else}
use Rattle.sv_form_book.specs.FormKnown.{is_loop_form}
use Rattle.sv_form_book.specs.FormRules.{is_unchecked_form}

no_loop : (s : IfNode) (o : Option ElseNode) → (out-If s).otherwise ≡ o → is_loop_form (plain_if s) ≡ false
no_loop s None h = ap is_loop_form (if_only s h)
no_loop s (Some e) h = ap is_loop_form (if_else s e h)

pub if_is_no_loop : (s : IfNode) → is_loop_form (plain_if s) ≡ false
if_is_no_loop s = no_loop s (out-If s).otherwise refl

not_unchecked : (s : IfNode) (o : Option ElseNode) → (out-If s).otherwise ≡ o → is_unchecked_form (plain_if s) ≡ false
not_unchecked s None h = ap is_unchecked_form (if_only s h)
not_unchecked s (Some e) h = ap is_unchecked_form (if_else s e h)

pub if_is_not_unchecked : (s : IfNode) → is_unchecked_form (plain_if s) ≡ false
if_is_not_unchecked s = not_unchecked s (out-If s).otherwise refl
