-- Believed: the contracts of the first form, and the tokens that each is written in. Hold it against docs/language.md.
use Rattle.std.specs.Prelude.{◌≡◌, ◌≢◌, ℕ, ◌^◌, ◌<◌, ◌≤◌, ◌⊎◌, List, [], ◌∷◌, ◌++◌, All, AllPairs, Contains, codes, length, map, slice_get, unwrap_or}
use Rattle.std.specs.Fmt.{decimal}
use Rattle.std.specs.List.{AllPass, flat_map}
use Rattle.sv_first_form.specs.FormSymbols.{Symbol}
use Rattle.sv_first_form.specs.declared.contract.Act.{Act}
use Rattle.sv_first_form.specs.declared.contract.Act.TheVariants.{Assign, Require}
use Rattle.sv_first_form.specs.declared.contract.Contract.{Contract}
use Rattle.sv_first_form.specs.declared.contract.Equation.{Equation}
use Rattle.sv_first_form.specs.declared.contract.Function.{Function}
use Rattle.sv_first_form.specs.declared.contract.Item.{Item}
use Rattle.sv_first_form.specs.declared.contract.Item.TheVariants.{Variable, Number as NumberItem}
use Rattle.sv_lex.specs.Bytes.{is_letter}
use Rattle.sv_lex.specs.declared.tok.Tok.TheVariants.{Word, Number, Punct, Note, End}

-- single tokens
abbrev pub word : List ℕ → Symbol
word text = record { kind = Word; text = text }

abbrev pub number : ℕ → Symbol
number n = record { kind = Number; text = decimal n }

abbrev pub mark : List ℕ → Symbol
mark text = record { kind = Punct; text = text }

abbrev pub note : Symbol
note = record { kind = Note; text = codes "invariant" }

abbrev pub note_end : Symbol
note_end = record { kind = End; text = [] }

-- the name of a variable
abbrev pub name_at : List (List ℕ) → ℕ → List ℕ
name_at names v = unwrap_or (slice_get names v) []

-- the tokens of an item, of a sum, and of the claim that two sums are equal, where the variables have these names
abbrev pub item_token : List (List ℕ) → Item → Symbol
item_token names (Variable v) = word (name_at names v)
item_token names (NumberItem n) = number n

abbrev pub more_tokens : List (List ℕ) → List Item → List Symbol
more_tokens names items = flat_map (λ item. mark (codes "+") ∷ item_token names item ∷ []) items

abbrev pub sum_tokens : List (List ℕ) → List Item → List Symbol
sum_tokens names [] = []
sum_tokens names (item ∷ items) = item_token names item ∷ more_tokens names items

abbrev pub equation_tokens : List (List ℕ) → Equation → List Symbol
equation_tokens names e = sum_tokens names e.left ++ mark (codes "==") ∷ sum_tokens names e.right

abbrev pub note_tokens : List (List ℕ) → Equation → List Symbol
note_tokens names e = note ∷ equation_tokens names e ++ note_end ∷ []

abbrev pub variable_tokens : List ℕ → List Symbol
variable_tokens name = word (codes "uint256") ∷ word name ∷ mark (codes ";") ∷ []

abbrev pub act_tokens : List (List ℕ) → Act → List Symbol
act_tokens names (Assign v sum) = word (name_at names v) ∷ mark (codes "=") ∷ sum_tokens names sum ++ mark (codes ";") ∷ []
act_tokens names (Require e) =
    word (codes "require") ∷ mark (codes "(") ∷ equation_tokens names e ++ mark (codes ")") ∷ mark (codes ";") ∷ []

abbrev pub function_tokens : List (List ℕ) → Function → List Symbol
function_tokens names f =
    word (codes "function") ∷ word f.name ∷ mark (codes "(") ∷ mark (codes ")") ∷ word (codes "public") ∷ mark (codes "{")
    ∷ flat_map (act_tokens names) f.acts ++ mark (codes "}") ∷ []

abbrev pub contract_tokens : Contract → List Symbol
contract_tokens c =
    flat_map (note_tokens c.variables) c.invariants
    ++ (word (codes "contract") ∷ word c.name ∷ mark (codes "{") ∷ flat_map variable_tokens c.variables
    ++ (flat_map (function_tokens c.variables) c.functions ++ mark (codes "}") ∷ []))

-- the words of one to eight letters that are no names
unfoldable pub reserved : List (List ℕ)
reserved =
    codes "abstract" ∷ codes "address" ∷ codes "bool" ∷ codes "break" ∷ codes "calldata" ∷ codes "constant" ∷ codes "continue" ∷ codes "contract" ∷
    codes "days" ∷ codes "delete" ∷ codes "else" ∷ codes "emit" ∷ codes "enum" ∷ codes "ether" ∷ codes "event" ∷ codes "external" ∷ codes "fallback" ∷
    codes "false" ∷ codes "for" ∷ codes "function" ∷ codes "gwei" ∷ codes "hours" ∷ codes "if" ∷ codes "indexed" ∷ codes "int" ∷ codes "internal" ∷
    codes "is" ∷ codes "mapping" ∷ codes "memory" ∷ codes "minutes" ∷ codes "modifier" ∷ codes "new" ∷ codes "override" ∷ codes "payable" ∷
    codes "pragma" ∷ codes "private" ∷ codes "public" ∷ codes "pure" ∷ codes "receive" ∷ codes "return" ∷ codes "returns" ∷ codes "seconds" ∷
    codes "storage" ∷ codes "string" ∷ codes "struct" ∷ codes "super" ∷ codes "this" ∷ codes "true" ∷ codes "type" ∷ codes "uint" ∷ codes "view" ∷
    codes "virtual" ∷ codes "weeks" ∷ codes "wei" ∷ codes "while" ∷ codes "after" ∷ codes "alias" ∷ codes "apply" ∷ codes "auto" ∷ codes "case" ∷
    codes "copyof" ∷ codes "default" ∷ codes "define" ∷ codes "final" ∷ codes "in" ∷ codes "inline" ∷ codes "let" ∷ codes "macro" ∷ codes "match" ∷
    codes "mutable" ∷ codes "null" ∷ codes "of" ∷ codes "partial" ∷ codes "promise" ∷ codes "sealed" ∷ codes "sizeof" ∷ codes "static" ∷
    codes "supports" ∷ codes "switch" ∷ codes "typedef" ∷ codes "typeof" ∷ codes "var" ∷ codes "abi" ∷ codes "addmod" ∷ codes "assembly" ∷ codes "byte" ∷
    codes "bytes" ∷ codes "callcode" ∷ codes "catch" ∷ codes "do" ∷ codes "fixed" ∷ codes "gasleft" ∷ codes "hex" ∷ codes "import" ∷ codes "library" ∷
    codes "mulmod" ∷ codes "suicide" ∷ codes "try" ∷ codes "tx" ∷ codes "ufixed" ∷ codes "unicode" ∷ codes "using" ∷ codes "assert" ∷ codes "block" ∷
    codes "error" ∷ codes "msg" ∷ codes "require" ∷ codes "revert" ∷ codes "value" ∷ []

-- a name: one to eight letters, and not reserved
pub record IsName (text : List ℕ) : Type 0 where
  pub letters : AllPass is_letter text
  pub size : (1 ≤ length text) × (length text ≤ 8)
  pub free : Contains reserved text → ⊥

-- an item of n variables: one of them, or a number of at most 18 digits
abbrev pub IsItem : ℕ → Item → Type 0
IsItem n (Variable v) = v < n
IsItem n (NumberItem k) = k < 10 ^ 18

-- a variable and at most three more items
abbrev pub IsSide : ℕ → List Item → Type 0
IsSide n [] = ⊥
IsSide n (NumberItem k ∷ items) = ⊥
IsSide n (Variable v ∷ items) = (v < n) × All (IsItem n) items × (length items ≤ 3)

-- a side, or a number alone
abbrev pub IsValue : ℕ → List Item → Type 0
IsValue n sum = IsSide n sum ⊎ ((k : ℕ) × (sum ≡ NumberItem k ∷ []) × (k < 10 ^ 18))

abbrev pub IsEquation : ℕ → Equation → Type 0
IsEquation n e = IsSide n e.left × IsSide n e.right

abbrev pub IsAct : ℕ → Act → Type 0
IsAct n (Assign v sum) = (v < n) × IsValue n sum
IsAct n (Require e) = IsEquation n e

-- at most 16 acts
abbrev pub IsFunction : ℕ → Function → Type 0
IsFunction n f = All (IsAct n) f.acts × (length f.acts ≤ 16)

-- the names that a contract declares
abbrev pub names_of : Contract → List (List ℕ)
names_of c = c.variables ++ c.name ∷ map (λ f. f.name) c.functions

-- a contract of the first form: its names are names and all differ, and each part is of its form
pub record IsContract (c : Contract) : Type 0 where
  pub names : All IsName (names_of c)
  pub distinct : AllPairs (λ x y. x ≢ y) (names_of c)
  pub invariants : All (IsEquation (length c.variables)) c.invariants
  pub functions : All (IsFunction (length c.variables)) c.functions

-- the tokens are those of this contract, which has the first form
pub record StandsFor (tokens : List Symbol) (c : Contract) : Type 0 where
  pub spelled : tokens ≡ contract_tokens c
  pub form : IsContract c
