use Rattle.std.proofs.Common.{◌≡◌, ◌++◌, take, map}
use Rattle.sv_cert.specs.LogText.{sorts_word}
use Rattle.sv_cert.specs.PlainNodes.{plain_sort, sorts_from}
use Rattle.sv_cert.proofs.text_sort.+add_sort.Given as goal

abbrev pub invariant-add_sorts-loop-i : goal.invariant-add_sorts-loop-i
invariant-add_sorts-loop-i l = l.text.items ≡ l.initial.text.items ++ sorts_word (sorts_from (map plain_sort (take l.i l.sorts)))
