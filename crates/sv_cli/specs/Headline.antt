-- Believed: each line `C: holds` that the program writes is true of every history of the contract C. Hold it against docs/promises.md.
use Rattle.std.specs.Prelude.{◌≡◌, ◌==◌, ℕ, true, not, List, [], ◌∷◌, ◌++◌, codes, Some}
use Rattle.std.specs.List.{list_all}
use Rattle.std.specs.declared.option.Option.{Option}
use Rattle.sv_cli.specs.Answered.{IsReadTo}
use Rattle.sv_cli.specs.Due.{HasForm}
use Rattle.sv_first_form.specs.declared.contract.Contract.{Contract}
use Rattle.sv_first_judge.specs.History.{Safe}

-- a line begins after these bytes: they are none, or end with a newline
abbrev pub IsAtLineStart : List ℕ → Type 0
IsAtLineStart [] = Unit {0}
IsAtLineStart (b ∷ []) = b ≡ 10
IsAtLineStart (_ ∷ b ∷ bs) = IsAtLineStart (b ∷ bs)

-- the bytes have this line
pub record HasLine (bytes line : List ℕ) : Type 0 where
  pub before : List ℕ
  pub after : List ℕ
  pub place : bytes ≡ before ++ (line ++ 10 ∷ after)
  pub begins : IsAtLineStart before
  pub no_newline : list_all (λ b. not (b == 10)) line ≡ true

-- the text stands for a contract of this name, which is safe
pub record IsSafeFor (text name : List ℕ) : Type 0 where
  pub contract : Contract
  pub form : HasForm text contract
  pub name_is : contract.name ≡ name
  pub safe : Safe contract

-- where the sink tells its bytes: each line `C: holds` among those that were added is true of the contract C of the text that was read
abbrev pub HoldsTruly : Option (List ℕ) → Option (List ℕ) → Option (List ℕ) → Option (List ℕ) → Type 0
HoldsTruly left left' (Some held) (Some held') =
    (added name : List ℕ) → held' ≡ held ++ added → HasLine added (name ++ codes ": holds")
    → (text : List ℕ) × IsReadTo left left' text × IsSafeFor text name
HoldsTruly left left' _ _ = Unit {0}
