use Rattle.std.proofs.Common.{◌≡◌, length}
use Rattle.sv_form_book.specs.FormRules.{any_whole}
use Rattle.sv_form_sites.proofs.contracts.any_whole.Given as goal

abbrev pub decreases-items : goal.decreases-items
decreases-items l = length l.left

abbrev pub invariant-items : goal.invariant-items
invariant-items l = any_whole l.left ≡ any_whole l.fn.items
