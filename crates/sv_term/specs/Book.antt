-- Believed: what contracts see of a book of rules. Hold it against the field that it reads.
use Rattle.std.specs.Prelude.{List, map, string_bytes, ℕ}
use Rattle.sv_term.specs.declared.book.RuleBook.{RuleBook}

-- the names of its rules, in order
abbrev pub names : RuleBook → List (List ℕ)
names book = map string_bytes book.rule_names.items
