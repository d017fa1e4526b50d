-- Serves the proof: parts that are read exactly, and what is answered where a part is not read.
use Rattle.std.specs.Prelude.{◌≡◌, ℕ, List, map, Result}
use denote.Ref.{MutBor}
use Rattle.sv_grammar.specs.Grammar.{Part, Token, Tree}
use Rattle.sv_grammar.specs.Reading.{Outcome, Reads, Exact}
use Rattle.sv_ast.specs.Syntax.{Side, rules}
use Rattle.sv_ast.specs.Firsts.{nulls, firsts}
use Rattle.sv_lex.specs.Lexing.{Scanned}
use Rattle.sv_read.specs.Here.{AreNamed, Here, token_by}
use Rattle.sv_read.specs.declared.symbol.Symbol.{Symbol}
use Rattle.sv_read.specs.PartReading as cursor
use Rattle.sv_parse_expr.specs.Answers.{Answers, place_of_token}
use Rattle.sv_parse_expr.specs.Given.{tokens_of}
use Rattle.sv_read.specs.declared.parse_error.ParseError.{ParseError}
use Rattle.sv_read.specs.declared.parse_error.ParseError.TheVariants as error
use Rattle.sv_parse_expr.specs.declared.parse_fault.ParseFault.{ParseFault}
use Rattle.sv_parse_expr.specs.declared.parse_fault.ParseFault.TheVariants as fault

-- what is read of the part is what its longest viable prefix is
abbrev pub IsReadExactly : Part Side → Type 0
IsReadExactly a = (tokens : List Token) (o : Outcome) → Reads rules nulls firsts a tokens o → Exact rules a tokens o

-- by what the function answers, it reads the part
abbrev pub IsReadBy : {X : Type 0} → (X → Tree) → Part Side → (MutBor Here → Result X ParseError → MutBor Here → Type 0) → Type 0
IsReadBy {X} tree a post = (old new : MutBor Here) (r : Result X ParseError) → post old r new → cursor.Reads tree a old.now r new.now

-- the answer is that of each part that the function reads
abbrev pub AnswersBy : {X : Type 0} → (MutBor Here → Result X ParseError → MutBor Here → Type 0) → Scanned → ℕ → List (List ℕ) → Result (X × ℕ) ParseFault → Type 0
AnswersBy {X} post text from names result = (tree : X → Tree) (a : Part Side) → IsReadExactly a → IsReadBy tree a post → Answers tree a text from names result

-- the error, with its place
abbrev pub fault_of : Scanned → ParseError → ParseFault
fault_of text (error.Syntax at) = fault.Syntax (place_of_token text at)
fault_of text error.NoMemory = fault.NoMemory

-- the symbols show the tokens, by names of the list
abbrev pub Show : List (List ℕ) → List Symbol → Scanned → Type 0
Show names symbols text = (map (token_by names) symbols ≡ tokens_of text) × AreNamed names symbols
