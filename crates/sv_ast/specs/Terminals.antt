-- Believed: the number of each class of tokens, and how words and punctuation are spelled. Hold it against docs/grammar.md, the words and the punctuation in quotes.
use Rattle.std.specs.Prelude.{ℕ, suc, List, [], ◌∷◌, codes}
use denote.Enum.Declared.{tag_of}
use Rattle.sv_ast.specs.contracts.class.Class.{the_type}
use Rattle.sv_ast.specs.declared.class.Class.{Class}
use Rattle.sv_ast.specs.declared.class.Class.TheVariants as k

-- The number by which a token has its class: the first variant of `Class` is 1, and so on. 0 is no class, and stands for the end of the tokens.
abbrev pub code : Class → ℕ
code c = suc (tag_of the_type c)

pub record Spelling : Type 0 where
  pub spelled : List ℕ
  pub class : Class

abbrev pub is_spelled : Class → List ℕ → Spelling
is_spelled class spelled = record { spelled = spelled; class = class }

-- the words that stand in quotes in the grammar
unfoldable pub words : List Spelling
words =
    is_spelled k.Abstract (codes "abstract") ∷ is_spelled k.Address (codes "address") ∷
    is_spelled k.Anonymous (codes "anonymous") ∷ is_spelled k.Break (codes "break") ∷
    is_spelled k.Calldata (codes "calldata") ∷ is_spelled k.Constant (codes "constant") ∷
    is_spelled k.Constructor (codes "constructor") ∷ is_spelled k.Continue (codes "continue") ∷
    is_spelled k.Contract (codes "contract") ∷ is_spelled k.Days (codes "days") ∷ is_spelled k.Delete (codes "delete") ∷
    is_spelled k.Else (codes "else") ∷ is_spelled k.Emit (codes "emit") ∷ is_spelled k.Enum (codes "enum") ∷
    is_spelled k.Error (codes "error") ∷ is_spelled k.Ether (codes "ether") ∷ is_spelled k.Event (codes "event") ∷
    is_spelled k.External (codes "external") ∷ is_spelled k.Fallback (codes "fallback") ∷ is_spelled k.False (codes "false") ∷
    is_spelled k.For (codes "for") ∷ is_spelled k.Function (codes "function") ∷ is_spelled k.Gwei (codes "gwei") ∷
    is_spelled k.Hours (codes "hours") ∷ is_spelled k.If (codes "if") ∷ is_spelled k.Immutable (codes "immutable") ∷
    is_spelled k.Indexed (codes "indexed") ∷ is_spelled k.Interface (codes "interface") ∷
    is_spelled k.Internal (codes "internal") ∷ is_spelled k.Is (codes "is") ∷ is_spelled k.Mapping (codes "mapping") ∷
    is_spelled k.Memory (codes "memory") ∷ is_spelled k.Minutes (codes "minutes") ∷ is_spelled k.Modifier (codes "modifier") ∷
    is_spelled k.New (codes "new") ∷ is_spelled k.Override (codes "override") ∷ is_spelled k.Payable (codes "payable") ∷
    is_spelled k.Private (codes "private") ∷ is_spelled k.Public (codes "public") ∷ is_spelled k.Pure (codes "pure") ∷
    is_spelled k.Receive (codes "receive") ∷ is_spelled k.Return (codes "return") ∷ is_spelled k.Returns (codes "returns") ∷
    is_spelled k.Revert (codes "revert") ∷ is_spelled k.Seconds (codes "seconds") ∷ is_spelled k.Storage (codes "storage") ∷
    is_spelled k.String (codes "string") ∷ is_spelled k.Struct (codes "struct") ∷ is_spelled k.Super (codes "super") ∷
    is_spelled k.This (codes "this") ∷ is_spelled k.True (codes "true") ∷ is_spelled k.Type (codes "type") ∷
    is_spelled k.Unchecked (codes "unchecked") ∷ is_spelled k.Value (codes "value") ∷ is_spelled k.View (codes "view") ∷
    is_spelled k.Virtual (codes "virtual") ∷ is_spelled k.Weeks (codes "weeks") ∷ is_spelled k.Wei (codes "wei") ∷
    is_spelled k.While (codes "while") ∷ is_spelled k.Underscore (codes "_") ∷ []

-- the punctuation of the grammar
unfoldable pub marks : List Spelling
marks =
    is_spelled k.LParen (codes "(") ∷ is_spelled k.RParen (codes ")") ∷ is_spelled k.LBracket (codes "[") ∷
    is_spelled k.RBracket (codes "]") ∷ is_spelled k.LBrace (codes "{") ∷ is_spelled k.RBrace (codes "}") ∷
    is_spelled k.Comma (codes ",") ∷ is_spelled k.Dot (codes ".") ∷ is_spelled k.Question (codes "?") ∷
    is_spelled k.Colon (codes ":") ∷ is_spelled k.Arrow (codes "=>") ∷ is_spelled k.Equals (codes "=") ∷
    is_spelled k.Same (codes "==") ∷ is_spelled k.Unequal (codes "!=") ∷ is_spelled k.Less (codes "<") ∷
    is_spelled k.Greater (codes ">") ∷ is_spelled k.AtMost (codes "<=") ∷ is_spelled k.AtLeast (codes ">=") ∷
    is_spelled k.Plus (codes "+") ∷ is_spelled k.Minus (codes "-") ∷ is_spelled k.Times (codes "*") ∷
    is_spelled k.Divide (codes "/") ∷ is_spelled k.Remainder (codes "%") ∷ is_spelled k.Power (codes "**") ∷
    is_spelled k.Increment (codes "++") ∷ is_spelled k.Decrement (codes "--") ∷ is_spelled k.PlusEquals (codes "+=") ∷
    is_spelled k.MinusEquals (codes "-=") ∷ is_spelled k.TimesEquals (codes "*=") ∷ is_spelled k.DivideEquals (codes "/=") ∷
    is_spelled k.RemainderEquals (codes "%=") ∷ is_spelled k.AndAnd (codes "&&") ∷ is_spelled k.OrOr (codes "||") ∷
    is_spelled k.Bang (codes "!") ∷ is_spelled k.Semicolon (codes ";") ∷ []
