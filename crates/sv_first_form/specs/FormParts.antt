-- Serves the proof: the parts of a contract of the first form.
use Rattle.std.specs.Prelude.{◌≡◌, ◌≢◌, ℕ, ◌<◌, ◌^◌, List, [], ◌∷◌, ◌++◌, All, AllPairs, Contains, codes, length, Result, Ok, Err}
use Rattle.std.specs.List.{flat_map}
use Rattle.sv_first_form.specs.FirstForm.{IsName, IsContract, IsItem, IsSide, IsValue, IsEquation, IsAct, IsFunction, word, number, mark, name_at, item_token, sum_tokens, equation_tokens, note_tokens, variable_tokens, act_tokens, function_tokens, contract_tokens}
use Rattle.sv_first_form.specs.FormReading.{Part, Begins, anything, parts, at_most}
use Rattle.sv_first_form.specs.FormSymbols.{Symbol}
use Rattle.sv_first_form.specs.declared.contract.Act.{Act}
use Rattle.sv_first_form.specs.declared.contract.Act.TheVariants.{Assign, Require}
use Rattle.sv_first_form.specs.declared.contract.Contract.{Contract}
use Rattle.sv_first_form.specs.declared.contract.Equation.{Equation}
use Rattle.sv_first_form.specs.declared.contract.Function.{Function}
use Rattle.sv_first_form.specs.declared.contract.Item.{Item}
use Rattle.sv_first_form.specs.declared.form_error.FormError.{FormError}
use Rattle.sv_first_form.specs.declared.form_error.FormError.TheVariants.{Unbuilt, NoMemory}
use Rattle.sv_first_form.specs.declared.parse.header.Header.{Header}

-- names that all differ
pub record AreNames (names : List (List ℕ)) : Type 0 where
  pub each : All IsName names
  pub distinct : AllPairs (λ x y. x ≢ y) names

unfoldable pub variable_part : List (List ℕ) → Part ℕ
variable_part names = record { print = λ v. word (name_at names v) ∷ []; Formed = λ v. v < length names; Stops = anything }

unfoldable pub number_part : Part ℕ
number_part = record { print = λ n. number n ∷ []; Formed = λ n. n < 10 ^ 18; Stops = anything }

unfoldable pub item_part : List (List ℕ) → Part Item
item_part names = record { print = λ item. item_token names item ∷ []; Formed = IsItem (length names); Stops = anything }

-- a further item of a sum, with the plus before it
unfoldable pub further_part : List (List ℕ) → Part Item
further_part names = record { print = λ item. mark (codes "+") ∷ item_token names item ∷ []; Formed = IsItem (length names); Stops = anything }

-- no plus follows
abbrev pub EndsSum : List Symbol → Type 0
EndsSum ts = Begins (mark (codes "+")) ts → ⊥

-- the items after the first
abbrev pub further_items : List (List ℕ) → Part (List Item)
further_items names = at_most 3 (parts (further_part names) EndsSum)

unfoldable pub side_part : List (List ℕ) → Part (List Item)
side_part names = record { print = sum_tokens names; Formed = IsSide (length names); Stops = EndsSum }

unfoldable pub value_part : List (List ℕ) → Part (List Item)
value_part names = record { print = sum_tokens names; Formed = IsValue (length names); Stops = EndsSum }

unfoldable pub equation_part : List (List ℕ) → Part Equation
equation_part names = record { print = equation_tokens names; Formed = IsEquation (length names); Stops = EndsSum }

unfoldable pub note_part : List (List ℕ) → Part Equation
note_part names = record { print = note_tokens names; Formed = IsEquation (length names); Stops = anything }

unfoldable pub declaration_part : Part (List ℕ)
declaration_part = record { print = variable_tokens; Formed = λ _. Unit {0}; Stops = anything }

-- an act that is no `require`
abbrev pub IsAssignment : Act → Type 0
IsAssignment (Assign v sum) = Unit {0}
IsAssignment (Require e) = ⊥

unfoldable pub assignment_part : List (List ℕ) → Part Act
assignment_part names = record { print = act_tokens names; Formed = λ a. IsAct (length names) a × IsAssignment a; Stops = anything }

unfoldable pub requirement_part : List (List ℕ) → Part Act
requirement_part names = record { print = act_tokens names; Formed = λ a. IsAct (length names) a × (IsAssignment a → ⊥); Stops = anything }

unfoldable pub act_part : List (List ℕ) → Part Act
act_part names = record { print = act_tokens names; Formed = IsAct (length names); Stops = anything }

unfoldable pub function_part : List (List ℕ) → Part Function
function_part names = record { print = function_tokens names; Formed = IsFunction (length names); Stops = anything }

-- the acts of a function end before its brace, the declarations and the functions before another token, the notes at the end
abbrev pub EndsActs : List Symbol → Type 0
EndsActs ts = Begins (mark (codes "}")) ts

abbrev pub EndsDeclarations : List Symbol → Type 0
EndsDeclarations ts = Begins (word (codes "uint256")) ts → ⊥

abbrev pub EndsFunctions : List Symbol → Type 0
EndsFunctions ts = Begins (word (codes "function")) ts → ⊥

abbrev pub EndsNotes : List Symbol → Type 0
EndsNotes ts = ts ≡ []

abbrev pub acts_part : List (List ℕ) → Part (List Act)
acts_part names = at_most 16 (parts (act_part names) EndsActs)

abbrev pub declarations_part : Part (List (List ℕ))
declarations_part = parts declaration_part EndsDeclarations

abbrev pub functions_part : List (List ℕ) → Part (List Function)
functions_part names = parts (function_part names) EndsFunctions

abbrev pub notes_part : List (List ℕ) → Part (List Equation)
notes_part names = parts (note_part names) EndsNotes

-- what stands before the functions
unfoldable pub header_part : Part Header
header_part = record {
  print = λ h. word (codes "contract") ∷ word h.name ∷ mark (codes "{") ∷ flat_map variable_tokens h.variables;
  Formed = λ _. Unit {0};
  Stops = EndsDeclarations;
}

-- the end of the tokens
unfoldable pub at_end : Part (Unit {0})
at_end = record { print = λ _. []; Formed = λ _. Unit {0}; Stops = λ ts. ts ≡ [] }

-- the functions, the closing brace and the end of the tokens
unfoldable pub body_part : List (List ℕ) → Part (List Function)
body_part names = record {
  print = λ functions. flat_map (function_tokens names) functions ++ mark (codes "}") ∷ [];
  Formed = All (IsFunction (length names));
  Stops = λ ts. ts ≡ [];
}

-- a whole contract
unfoldable pub contract_part : Part Contract
contract_part = record { print = contract_tokens; Formed = IsContract; Stops = λ ts. ts ≡ [] }

-- why texts are not added to names
pub data FailsToName (names texts : List (List ℕ)) : FormError → Type 0 where
  is_refused : (AreNames (names ++ texts) → ⊥) → FailsToName names texts Unbuilt
  has_no_memory : FailsToName names texts NoMemory

-- the texts are added to the names, which they leave names that all differ, or why not
abbrev pub Declares : List (List ℕ) → List (List ℕ) → Result (Unit {0}) FormError → List (List ℕ) → Type 0
Declares old texts (Ok _) new = (new ≡ old ++ texts) × AreNames new
Declares old texts (Err e) new = FailsToName old texts e

-- the word that begins a contract
abbrev pub contract_word : Symbol
contract_word = word (codes "contract")

-- the tokens, cut before the word that begins a contract
pub record IsOpened (tokens before rest : List Symbol) : Type 0 where
  pub cut : tokens ≡ before ++ rest
  pub begins : Begins contract_word rest
  pub lacks : Contains before contract_word → ⊥
