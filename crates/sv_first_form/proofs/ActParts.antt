-- Statements in front of tokens, from the parts that they are read by.
use Rattle.std.proofs.Common.{◌≡◌, ℕ, ◌<◌, ◌≤◌, List, [], ◌++◌, codes, Contains, length, refl, sym, ap, ◌∙◌, subst, arith, Result, Ok, Err, get_or}
use Rattle.std.proofs.lemmas.Option.{unwrap_or-slice_get}
use Rattle.std.proofs.lemmas.List.Elements.{All-get_or}
use Rattle.sv_first_form.proofs.Repeats.{GoesOn}
use Rattle.sv_first_form.proofs.Sequences.{IsLike, like_first, like_fails, Precedes, same_kind, same_text}
use Rattle.sv_first_form.specs.FirstForm.{IsName, reserved, mark, word, name_at, act_tokens, IsAct}
use Rattle.sv_first_form.specs.FormParts.{AreNames, variable_part, value_part, equation_part, IsAssignment, assignment_part, requirement_part, act_part, EndsActs}
use Rattle.sv_first_form.specs.FormReading.{Part, IsFirst, Fails, ReadsPart, Begins, exact, both}
use Rattle.sv_first_form.specs.FormSymbols.{Symbol, symbol_with}
use Rattle.sv_first_form.specs.declared.contract.Act.{Act}
use Rattle.sv_first_form.specs.declared.contract.Act.TheVariants.{Assign, Require}
use Rattle.sv_first_form.specs.declared.contract.Equation.{Equation}
use Rattle.sv_first_form.specs.declared.contract.Item.{Item}
use Rattle.sv_first_form.specs.declared.form_error.FormError.{FormError}
use Rattle.sv_lex.specs.declared.tok.Tok.{Tok}
use Rattle.sv_lex.specs.declared.tok.Tok.TheVariants.{Word, Punct, End}

-- what ends a sum
pub value_precedes : (names : List (List ℕ)) (kind : Tok) (text : List ℕ) → (symbol_with kind text ≡ mark (codes "+") → ⊥) → Precedes (value_part names) (exact (symbol_with kind text))
unfolding value_part exact
value_precedes names kind text differs = record { before = λ y more formed stops begins. let same : symbol_with kind text ≡ mark (codes "+") = cc begins.1 in differs same }

pub equation_precedes : (names : List (List ℕ)) (kind : Tok) (text : List ℕ) → (symbol_with kind text ≡ mark (codes "+") → ⊥) → Precedes (equation_part names) (exact (symbol_with kind text))
unfolding equation_part exact
equation_precedes names kind text differs = record { before = λ y more formed stops begins. let same : symbol_with kind text ≡ mark (codes "+") = cc begins.1 in differs same }

pub equation_precedes_both : {Y : Type 0} (names : List (List ℕ)) (kind : Tok) (text : List ℕ) (q : Part Y) → (symbol_with kind text ≡ mark (codes "+") → ⊥) → Precedes (equation_part names) (both (exact (symbol_with kind text)) q)
unfolding equation_part both exact
equation_precedes_both names kind text q differs = record { before = λ y more formed stops begins. let same : symbol_with kind text ≡ mark (codes "+") = cc begins.1 in differs same }

-- what ends a sum is no plus
pub equals_is_no_plus : symbol_with Punct (codes "==") ≡ mark (codes "+") → ⊥
equals_is_no_plus e = let texts = ap (λ (t : Symbol). t.text) e in cc

pub bracket_is_no_plus : symbol_with Punct (codes ")") ≡ mark (codes "+") → ⊥
bracket_is_no_plus e = let texts = ap (λ (t : Symbol). t.text) e in cc

pub semicolon_is_no_plus : symbol_with Punct (codes ";") ≡ mark (codes "+") → ⊥
semicolon_is_no_plus e = let texts = ap (λ (t : Symbol). t.text) e in cc

pub end_is_no_plus : symbol_with End [] ≡ mark (codes "+") → ⊥
end_is_no_plus e = let texts = ap (λ (t : Symbol). t.text) e in cc

-- assignments
abbrev pub assignment_steps : List (List ℕ) → Part (ℕ × (Unit {0} × (List Item × Unit {0})))
assignment_steps names = both (variable_part names) (both (exact (mark (codes "="))) (both (value_part names) (exact (mark (codes ";")))))

assignment_like : (names : List (List ℕ)) {ts : List Symbol} → IsLike (assignment_steps names) (assignment_part names) (λ p. Assign p.0 p.1.1.0) ts
unfolding both exact variable_part value_part assignment_part
assignment_like names {ts} =
    let from : (y : Act) (more : List Symbol) → IsAct (length names) y × IsAssignment y → ts ≡ act_tokens names y ++ more → (p : ℕ × (Unit {0} × (List Item × Unit {0}))) × (y ≡ Assign p.0 p.1.1.0) × (assignment_steps names).Formed p =
    λ y more. elim y as (λ y. IsAct (length names) y × IsAssignment y → ts ≡ act_tokens names y ++ more → (p : ℕ × (Unit {0} × (List Item × Unit {0}))) × (y ≡ Assign p.0 p.1.1.0) × (assignment_steps names).Formed p) [
      | Assign v sum ↦ λ formed e. ((v, (tt, (sum, tt))), refl, (formed.0.0, (tt, (formed.0.1, tt))))
      | Require claim ↦ λ formed e. absurd formed.1
    ] in
    record { prints = λ p. refl; forms = λ p formed. ((formed.0, formed.1.1.0), tt); from = from; stops = λ more stops. tt }

-- requirements
abbrev pub requirement_steps : List (List ℕ) → Part (Unit {0} × (Unit {0} × (Equation × (Unit {0} × Unit {0}))))
requirement_steps names = both (exact (word (codes "require"))) (both (exact (mark (codes "("))) (both (equation_part names) (both (exact (mark (codes ")"))) (exact (mark (codes ";"))))))

requirement_like : (names : List (List ℕ)) {ts : List Symbol} → IsLike (requirement_steps names) (requirement_part names) (λ p. Require p.1.1.0) ts
unfolding both exact equation_part requirement_part
requirement_like names {ts} =
    let from : (y : Act) (more : List Symbol) → IsAct (length names) y × (IsAssignment y → ⊥) → ts ≡ act_tokens names y ++ more → (p : Unit {0} × (Unit {0} × (Equation × (Unit {0} × Unit {0})))) × (y ≡ Require p.1.1.0) × (requirement_steps names).Formed p =
    λ y more. elim y as (λ y. IsAct (length names) y × (IsAssignment y → ⊥) → ts ≡ act_tokens names y ++ more → (p : Unit {0} × (Unit {0} × (Equation × (Unit {0} × Unit {0})))) × (y ≡ Require p.1.1.0) × (requirement_steps names).Formed p) [
      | Assign v sum ↦ λ formed e. absurd (formed.1 tt)
      | Require claim ↦ λ formed e. ((tt, (tt, (claim, (tt, tt)))), refl, (tt, (tt, (formed.0, (tt, tt)))))
    ] in
    record { prints = λ p. refl; forms = λ p formed. (formed.1.1.0, λ none. none); from = from; stops = λ more stops. tt }

module _ (names : List (List ℕ)) {ts : List Symbol} where
  pub assignment_first : {v : ℕ} {sum : List Item} {us : List Symbol} → IsFirst (assignment_steps names) ts (v, (tt, (sum, tt))) us → IsFirst (assignment_part names) ts (Assign v sum) us
  assignment_first first = like_first (assignment_like names) first

  pub assignment_fails : {e : FormError} → Fails (assignment_steps names) ts e → Fails (assignment_part names) ts e
  assignment_fails fault = like_fails (assignment_like names) fault

  pub requirement_first : {claim : Equation} {us : List Symbol} → IsFirst (requirement_steps names) ts (tt, (tt, (claim, (tt, tt)))) us → IsFirst (requirement_part names) ts (Require claim) us
  requirement_first first = like_first (requirement_like names) first

  pub requirement_fails : {e : FormError} → Fails (requirement_steps names) ts e → Fails (requirement_part names) ts e
  requirement_fails fault = like_fails (requirement_like names) fault

-- the words that are no variable
pub name_is_free : (names : List (List ℕ)) (v : ℕ) (text : List ℕ) → AreNames names → v < length names → Contains reserved text → name_at names v ≡ text → ⊥
name_is_free names v text are within held named =
    let name : IsName (get_or names v []) = All-get_or IsName names v [] within are.each in
    let same : get_or names v [] ≡ text = sym (unwrap_or-slice_get names v []) ∙ named in
    name.free (subst (Contains reserved) (sym same) held)

pub require_is_reserved : Contains reserved (codes "require")
unfolding reserved
require_is_reserved = (106, omega arith, refl)

pub contract_is_reserved : Contains reserved (codes "contract")
unfolding reserved
contract_is_reserved = (7, omega arith, refl)

-- acts
requirement_act_like : (names : List (List ℕ)) {ts : List Symbol} → AreNames names → Begins (word (codes "require")) ts → IsLike (requirement_part names) (act_part names) (λ a. a) ts
unfolding requirement_part act_part
requirement_act_like names {ts} are begins =
    let from : (y : Act) (more : List Symbol) → IsAct (length names) y → ts ≡ act_tokens names y ++ more → (x : Act) × (y ≡ x) × (IsAct (length names) x × (IsAssignment x → ⊥)) =
    λ y more. elim y as (λ y. IsAct (length names) y → ts ≡ act_tokens names y ++ more → (x : Act) × (y ≡ x) × (IsAct (length names) x × (IsAssignment x → ⊥))) [
      | Assign v sum ↦ λ formed e. absurd (name_is_free names v (codes "require") are formed.0 require_is_reserved (same_text (sym e ∙ begins.1)))
      | Require claim ↦ λ formed e. (Require claim, refl, (formed, λ none. none))
    ] in
    record { prints = λ a. refl; forms = λ a formed. formed.0; from = from; stops = λ more stops. tt }

assignment_act_like : (names : List (List ℕ)) {ts : List Symbol} → (Begins (word (codes "require")) ts → ⊥) → IsLike (assignment_part names) (act_part names) (λ a. a) ts
unfolding assignment_part act_part
assignment_act_like names {ts} other =
    let from : (y : Act) (more : List Symbol) → IsAct (length names) y → ts ≡ act_tokens names y ++ more → (x : Act) × (y ≡ x) × (IsAct (length names) x × IsAssignment x) =
    λ y more. elim y as (λ y. IsAct (length names) y → ts ≡ act_tokens names y ++ more → (x : Act) × (y ≡ x) × (IsAct (length names) x × IsAssignment x)) [
      | Assign v sum ↦ λ formed e. (Assign v sum, refl, (formed, tt))
      | Require claim ↦ λ formed e. absurd (other (_, e))
    ] in
    record { prints = λ a. refl; forms = λ a formed. formed.0; from = from; stops = λ more stops. tt }

pub requirement_reads : (names : List (List ℕ)) (r : Result Act FormError) {ts : List Symbol} (us : List Symbol) → AreNames names → Begins (word (codes "require")) ts → ReadsPart (requirement_part names) ts r us → ReadsPart (act_part names) ts r us
requirement_reads names (Ok act) us are begins first = like_first (requirement_act_like names are begins) first
requirement_reads names (Err e) us are begins fault = like_fails (requirement_act_like names are begins) fault

pub assignment_reads : (names : List (List ℕ)) (r : Result Act FormError) {ts : List Symbol} (us : List Symbol) → (Begins (word (codes "require")) ts → ⊥) → ReadsPart (assignment_part names) ts r us → ReadsPart (act_part names) ts r us
assignment_reads names (Ok act) us other first = like_first (assignment_act_like names other) first
assignment_reads names (Err e) us other fault = like_fails (assignment_act_like names other) fault

act_tokens_some : (names : List (List ℕ)) (a : Act) → 1 ≤ length (act_tokens names a)
act_tokens_some names (Assign v sum) = omega arith
act_tokens_some names (Require claim) = omega arith

act_apart : (names : List (List ℕ)) (a : Act) (more : List Symbol) → EndsActs (act_tokens names a ++ more) → ⊥
act_apart names (Assign v sum) more ended = let differ : Word ≡ Punct = same_kind ended.1 in cc
act_apart names (Require claim) more ended = let differ : Word ≡ Punct = same_kind ended.1 in cc

pub act_goes_on : (names : List (List ℕ)) → GoesOn (act_part names) EndsActs
unfolding act_part
act_goes_on names = record { some = act_tokens_some names; ends = λ more. tt; apart = λ a more formed ended. act_apart names a more ended }
