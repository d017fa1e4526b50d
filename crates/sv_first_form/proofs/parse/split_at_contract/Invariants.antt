use Rattle.std.proofs.Common.{Contains, map, take}
use Rattle.sv_first_form.specs.FormParts.{contract_word}
use Rattle.sv_first_form.specs.FormSymbols.{symbol}
use Rattle.sv_first_form.proofs.parse.split_at_contract.Given as goal

abbrev pub invariant-loop-at : goal.invariant-loop-at
invariant-loop-at l = Contains (map symbol (take l.at l.tokens)) contract_word → ⊥
