-- A variable and a number in front of tokens, from the text of the first token.
use Rattle.std.proofs.Common.{◌≡◌, ◌≢◌, ℕ, ◌<◌, ◌^◌, List, [], ◌∷◌, length, sym, ap, ◌∙◌, subst, arith, Some, slice_get, get_or, unwrap_or, Contains, inl, inr}
use Rattle.std.specs.Fmt.{decimal}
use Rattle.std.proofs.lemmas.Bool.{cases_order}
use Rattle.std.proofs.lemmas.Fmt.{decimal_injective}
use Rattle.std.proofs.lemmas.List.Elements.{Contains-get_or}
use Rattle.std.proofs.lemmas.Option.{slice_get_within, unwrap_or-slice_get}
use Rattle.sv_first_form.specs.FirstForm.{name_at}
use Rattle.sv_first_form.specs.FormParts.{AreNames, variable_part, number_part}
use Rattle.sv_first_form.specs.FormReading.{IsFirst, Fails, is_unbuilt, no_memory, any_text}
use Rattle.sv_first_form.specs.FormSymbols.{Symbol, symbol_with}
use Rattle.sv_first_form.specs.declared.form_error.FormError.{FormError}
use Rattle.sv_first_form.specs.declared.form_error.FormError.TheVariants.{Unbuilt}
use Rattle.sv_lex.specs.declared.tok.Tok.TheVariants.{Word, Number}

-- one place has one name
pub same_place : (names : List (List ℕ)) (v w : ℕ) → AreNames names → v < length names → w < length names → name_at names v ≡ name_at names w → v ≡ w
same_place names v w are v_in w_in e =
    let same : get_or names v [] ≡ get_or names w [] = sym (unwrap_or-slice_get names v []) ∙ e ∙ unwrap_or-slice_get names w [] in
    elim (cases_order v w) [
      | inl equal ↦ equal
      | inr (inl below) ↦ absurd (are.distinct v w [] below w_in same)
      | inr (inr above) ↦ absurd (are.distinct w v [] above v_in (sym same))
    ]

module _ (names : List (List ℕ)) {ts us : List Symbol} {text : List ℕ} where
  pub variable_first : {v : ℕ} → AreNames names → slice_get names v ≡ Some text → IsFirst (any_text Word) ts text us → IsFirst (variable_part names) ts v us
  unfolding any_text variable_part
  variable_first {v} are at first =
      let named : name_at names v ≡ text = ap (λ o. unwrap_or o []) at in
      let within : v < length names = slice_get_within names v text at in
      record {
        spelled = first.spelled ∙ ap (λ t. symbol_with Word t ∷ us) (sym named);
        formed = within;
        only = λ w more formed stops e.
            let same = first.only (name_at names w) more tt tt e in
            (same_place names w v are formed within (same.0 ∙ sym named), same.1);
      }

  pub variable_unknown : (Contains names text → ⊥) → IsFirst (any_text Word) ts text us → Fails (variable_part names) ts Unbuilt
  unfolding any_text variable_part
  variable_unknown unknown first = is_unbuilt (record {
    none = λ w more formed stops e.
        let same = first.only (name_at names w) more tt tt e in
        unknown (subst (Contains names) (sym (unwrap_or-slice_get names w []) ∙ same.0) (Contains-get_or names w [] formed));
  })

pub variable_fails : (names : List (List ℕ)) {ts : List Symbol} {e : FormError} → Fails (any_text Word) ts e → Fails (variable_part names) ts e
unfolding any_text variable_part
variable_fails names (is_unbuilt absent) = is_unbuilt (record { none = λ w more formed stops e. absent.none (name_at names w) more tt tt e })
variable_fails names no_memory = no_memory

module _ {ts us : List Symbol} {text : List ℕ} where
  pub number_first : {n : ℕ} → text ≡ decimal n → n < 10 ^ 18 → IsFirst (any_text Number) ts text us → IsFirst number_part ts n us
  unfolding any_text number_part
  number_first {n} written small first = record {
    spelled = first.spelled ∙ ap (λ t. symbol_with Number t ∷ us) written;
    formed = small;
    only = λ m more formed stops e.
        let same = first.only (decimal m) more tt tt e in
        (decimal_injective m n (omega arith) (omega arith) (same.0 ∙ written), same.1);
  }

  pub number_unknown : ((n : ℕ) → n < 10 ^ 18 → text ≢ decimal n) → IsFirst (any_text Number) ts text us → Fails number_part ts Unbuilt
  unfolding any_text number_part
  number_unknown unknown first = is_unbuilt (record {
    none = λ m more formed stops e. unknown m formed (sym (first.only (decimal m) more tt tt e).0);
  })

pub number_fails : {ts : List Symbol} {e : FormError} → Fails (any_text Number) ts e → Fails number_part ts e
unfolding any_text number_part
number_fails (is_unbuilt absent) = is_unbuilt (record { none = λ m more formed stops e. absent.none (decimal m) more tt tt e })
number_fails no_memory = no_memory
