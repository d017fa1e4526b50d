use Rattle.std.proofs.Common.{◌≡◌, drop}
use Rattle.sv_naming.specs.NamesKnown.{known_of}
use Rattle.sv_name_book.specs.NameBook.{are_contracts}
use Rattle.sv_name_book.proofs.asks.are_contracts.Given as goal

abbrev pub invariant-loop-name : goal.invariant-loop-name
invariant-loop-name l = are_contracts (known_of l.n) (drop l.name-index l.names) ≡ are_contracts (known_of l.n) l.names
