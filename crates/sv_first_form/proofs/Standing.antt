-- What a list of tokens stands for, from the whole contract in front of them.
use Rattle.std.proofs.Common.{◌≡◌, List, [], sym, ◌∙◌, refl, Result, Ok, Err, IfOk}
use Rattle.std.proofs.lemmas.List.{append-nil}
use Rattle.std.specs.Result.{IsErrOf}
use Rattle.sv_first_form.specs.FirstForm.{StandsFor, contract_tokens}
use Rattle.sv_first_form.specs.FormParts.{contract_part}
use Rattle.sv_first_form.specs.FormReading.{IsFirst, Fails, ReadsPart, is_unbuilt, no_memory}
use Rattle.sv_first_form.specs.FormSymbols.{Symbol}
use Rattle.sv_first_form.specs.declared.contract.Contract.{Contract}
use Rattle.sv_first_form.specs.declared.form_error.FormError.{FormError}
use Rattle.sv_first_form.specs.declared.form_error.FormError.TheVariants.{Unbuilt}

pub stands : {ts : List Symbol} {c : Contract} → IsFirst contract_part ts c [] → StandsFor ts c
unfolding contract_part
stands {ts} {c} first = record { spelled = first.spelled ∙ append-nil (contract_tokens c); form = first.formed }

pub stands_alone : {ts : List Symbol} {c : Contract} → IsFirst contract_part ts c [] → (other : Contract) → StandsFor ts other → other ≡ c
unfolding contract_part
stands_alone first other standing = (first.only other [] standing.form refl (standing.spelled ∙ sym (append-nil (contract_tokens other)))).0

pub none_stands : {ts : List Symbol} {e : FormError} → Fails contract_part ts e → e ≡ Unbuilt → (other : Contract) → StandsFor ts other → ⊥
unfolding contract_part
none_stands (is_unbuilt absent) same other standing = absent.none other [] standing.form refl (standing.spelled ∙ sym (append-nil (contract_tokens other)))
none_stands no_memory same other standing = cc

-- what was read is what the tokens stand for, and nothing else is
pub meaning_of : (ts : List Symbol) (r : Result Contract FormError) → ReadsPart contract_part ts r [] → IfOk r (λ c. StandsFor ts c)
meaning_of ts (Ok c) first = stands first
meaning_of ts (Err e) fails = tt

pub only_of : (ts : List Symbol) (r : Result Contract FormError) → ReadsPart contract_part ts r []
    → IfOk r (λ c. (other : Contract) → StandsFor ts other → other ≡ c)
only_of ts (Ok c) first = stands_alone first
only_of ts (Err e) fails = tt

pub unbuilt_of : (ts : List Symbol) (r : Result Contract FormError) → ReadsPart contract_part ts r []
    → IsErrOf r Unbuilt → (other : Contract) → StandsFor ts other → ⊥
unbuilt_of ts (Ok c) first is = cc
unbuilt_of ts (Err e) fails is = let same : e ≡ Unbuilt = cc in none_stands fails same
