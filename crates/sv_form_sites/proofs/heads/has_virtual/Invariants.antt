use Rattle.std.proofs.Common.{◌≡◌, length}
use Rattle.sv_form_book.specs.FormRules.{has_virtual}
use Rattle.sv_form_sites.proofs.heads.has_virtual.Given as goal

abbrev pub decreases-words : goal.decreases-words
decreases-words l = length l.left

abbrev pub invariant-words : goal.invariant-words
invariant-words l = has_virtual l.left ≡ has_virtual l.fn.list
