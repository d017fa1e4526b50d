-- Believed: what the parser of whole texts answers. Hold it against docs/grammar.md, and what the README promises of a fault.
use Rattle.std.specs.Prelude.{◌≡◌, ℕ, List, Result, Ok, Err}
use Rattle.sv_grammar.specs.Grammar.{Tree, Derives, side}
use Rattle.sv_grammar.specs.Reach.{Reaches}
use Rattle.sv_ast.specs.Syntax as s
use Rattle.sv_ast.specs.Syntax.{rules}
use Rattle.sv_ast.specs.UnitTrees.{unit_tree}
use Rattle.sv_ast.specs.declared.unit.Unit.{Unit as UnitNode}
use Rattle.sv_lex.specs.Lexing.{Scanned}
use Rattle.sv_parse_expr.specs.Answers.{IsTreeOf, place_of_token}
use Rattle.sv_parse_expr.specs.Given.{tokens_of}
use Rattle.sv_parse_expr.specs.declared.parse_fault.ParseFault.{ParseFault}
use Rattle.sv_parse_expr.specs.declared.parse_fault.ParseFault.TheVariants.{Syntax, NoMemory}

-- the tokens have no tree
abbrev pub HasNoTree : Scanned → Type 0
HasNoTree text = (t : Tree) → Derives rules (side s.unit) (tokens_of text) t → ⊥

-- the tree of all tokens; or else, with `reach` the greatest position up to which the tokens begin a text that has a tree,
-- the place of the token at `reach`, or of the end of the text where no token is left
abbrev pub AnswersUnit : Scanned → List (List ℕ) → Result UnitNode ParseFault → Type 0
AnswersUnit text names (Ok u) = IsTreeOf names (side s.unit) (tokens_of text) (unit_tree u)
AnswersUnit text names (Err (Syntax place)) =
    HasNoTree text × (reach : ℕ) × Reaches rules (side s.unit) (tokens_of text) 0 reach × (place ≡ place_of_token text reach)
AnswersUnit text names (Err NoMemory) = Unit {0}
