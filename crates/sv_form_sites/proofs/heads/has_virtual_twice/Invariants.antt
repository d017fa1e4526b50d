use Rattle.std.proofs.Common.{◌≡◌, length}
use Rattle.sv_form_book.specs.FormRules.{has_virtual_twice}
use Rattle.sv_form_sites.proofs.heads.has_virtual_twice.Given as goal

abbrev pub decreases-words : goal.decreases-words
decreases-words l = length l.left

abbrev pub invariant-words : goal.invariant-words
invariant-words l = has_virtual_twice l.left ≡ has_virtual_twice l.fn.list
