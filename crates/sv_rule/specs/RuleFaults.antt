-- Believed: the numbers of the rules, and which of two faults counts. Hold it against the table of rules in docs/language.md.
use Rattle.std.specs.Prelude.{ℕ, Bool, ◌&&◌, ◌||◌, nat_eq, nat_lt, nat_le}
use Rattle.sv_rule.specs.declared.fault.Rule.{Rule}
use Rattle.sv_rule.specs.declared.fault.Rule.TheVariants as rule
use Rattle.sv_rule.specs.declared.fault.Fault.{Fault}

abbrev pub number : Rule → ℕ
number rule.NoContract = 1
number rule.WideLiteral = 2
number rule.AddressLiteral = 3
number rule.Unchecked = 4
number rule.Note = 5
number rule.Placeholder = 6
number rule.Jump = 7
number rule.Assign = 8
number rule.Head = 9
number rule.Power = 10
number rule.Duplicate = 11
number rule.Unknown = 12
number rule.Line = 13
number rule.Override = 14
number rule.Overload = 15
number rule.Abstract = 16
number rule.Cycle = 17
number rule.BaseArgs = 18
number rule.Types = 19
number rule.Arity = 20
number rule.Location = 21
number rule.Mapping = 22
number rule.NotFlat = 23
number rule.WideConstant = 24
number rule.ConstExpr = 25
number rule.Immutable = 26
number rule.Value = 27
number rule.Target = 28
number rule.Use = 29
number rule.Sum = 30
number rule.Order = 31
number rule.Mutability = 32
number rule.CtorCall = 33
number rule.PayableCall = 34
number rule.StorageResult = 35
number rule.Recursion = 36
number rule.Size = 37

-- by the first number, and where these are the same, by the rest
abbrev pub lex : ℕ → ℕ → Bool → Bool
lex a b rest = nat_lt a b || (nat_eq a b && rest)

-- whether the first fault counts: by line, by column, by the number of the rule
abbrev pub first : Fault → Fault → Bool
first e f = lex e.place.line f.place.line (lex e.place.col f.place.col (nat_le (number e.rule) (number f.rule)))
