-- Items, sums and equations in front of tokens, from the parts that they are read by.
use Rattle.std.proofs.Common.{◌≡◌, ℕ, ◌<◌, ◌^◌, List, [], ◌∷◌, ◌++◌, codes, length, refl, sym, ap, ◌∙◌, arith, inl, inr, Result, Ok, Err}
use Rattle.sv_first_form.proofs.Repeats.{GoesOn}
use Rattle.sv_first_form.proofs.Sequences.{IsLike, like_first, like_fails, Precedes, both_first, both_fails_late, same_kind}
use Rattle.sv_first_form.specs.FirstForm.{mark, item_token, sum_tokens, IsItem, IsSide, IsValue, name_at, word}
use Rattle.sv_first_form.specs.FormParts.{variable_part, number_part, item_part, further_part, side_part, value_part, equation_part, EndsSum, further_items}
use Rattle.sv_first_form.specs.FormReading.{Part, IsFirst, Fails, ReadsPart, BeginsKind, exact, any_text, both, parts, at_most}
use Rattle.sv_first_form.specs.FormSymbols.{Symbol, symbol_with}
use Rattle.sv_first_form.specs.declared.contract.Item.{Item}
use Rattle.sv_first_form.specs.declared.contract.Item.TheVariants.{Variable, Number as NumberItem}
use Rattle.sv_first_form.specs.declared.form_error.FormError.{FormError}
use Rattle.sv_lex.specs.declared.tok.Tok.{Tok}
use Rattle.sv_lex.specs.declared.tok.Tok.TheVariants.{Word, Number}

-- what may follow anything may stand before any part
pub exact_precedes : {Y : Type 0} (t : Symbol) (q : Part Y) → Precedes (exact t) q
unfolding exact
exact_precedes t q = record { before = λ y more formed stops. tt }

pub text_precedes : {Y : Type 0} (kind : Tok) (q : Part Y) → Precedes (any_text kind) q
unfolding any_text
text_precedes kind q = record { before = λ y more formed stops. tt }

pub variable_precedes : {Y : Type 0} (names : List (List ℕ)) (q : Part Y) → Precedes (variable_part names) q
unfolding variable_part
variable_precedes names q = record { before = λ y more formed stops. tt }

-- items
variable_like : (names : List (List ℕ)) {ts : List Symbol} → BeginsKind Word ts → IsLike (variable_part names) (item_part names) Variable ts
unfolding variable_part item_part
variable_like names {ts} (text, (after, begins)) =
    let from : (y : Item) (more : List Symbol) → IsItem (length names) y → ts ≡ item_token names y ∷ more → (v : ℕ) × (y ≡ Variable v) × (v < length names) =
    λ y more. elim y as (λ y. IsItem (length names) y → ts ≡ item_token names y ∷ more → (v : ℕ) × (y ≡ Variable v) × (v < length names)) [
      | Variable v ↦ λ formed e. (v, refl, formed)
      | NumberItem n ↦ λ formed e. let differ : Word ≡ Number = same_kind (sym begins ∙ e) in cc
    ] in
    record { prints = λ v. refl; forms = λ v formed. formed; from = from; stops = λ more stops. tt }

number_like : (names : List (List ℕ)) {ts : List Symbol} → (BeginsKind Word ts → ⊥) → IsLike number_part (item_part names) NumberItem ts
unfolding number_part item_part
number_like names {ts} other =
    let from : (y : Item) (more : List Symbol) → IsItem (length names) y → ts ≡ item_token names y ∷ more → (n : ℕ) × (y ≡ NumberItem n) × (n < 10 ^ 18) =
    λ y more. elim y as (λ y. IsItem (length names) y → ts ≡ item_token names y ∷ more → (n : ℕ) × (y ≡ NumberItem n) × (n < 10 ^ 18)) [
      | Variable v ↦ λ formed e. absurd (other (name_at names v, (more, e)))
      | NumberItem n ↦ λ formed e. (n, refl, formed)
    ] in
    record { prints = λ n. refl; forms = λ n formed. formed; from = from; stops = λ more stops. tt }

module _ (names : List (List ℕ)) {ts : List Symbol} where
  pub variable_item_first : {v : ℕ} {us : List Symbol} → BeginsKind Word ts → IsFirst (variable_part names) ts v us → IsFirst (item_part names) ts (Variable v) us
  variable_item_first word first = like_first (variable_like names word) first

  pub variable_item_fails : {e : FormError} → BeginsKind Word ts → Fails (variable_part names) ts e → Fails (item_part names) ts e
  variable_item_fails word fault = like_fails (variable_like names word) fault

  pub number_item_first : {n : ℕ} {us : List Symbol} → (BeginsKind Word ts → ⊥) → IsFirst number_part ts n us → IsFirst (item_part names) ts (NumberItem n) us
  number_item_first other first = like_first (number_like names other) first

  pub number_item_fails : {e : FormError} → (BeginsKind Word ts → ⊥) → Fails number_part ts e → Fails (item_part names) ts e
  number_item_fails other fault = like_fails (number_like names other) fault

-- further items
further_like : (names : List (List ℕ)) {ts : List Symbol} → IsLike (both (exact (mark (codes "+"))) (item_part names)) (further_part names) (λ p. p.1) ts
unfolding both exact item_part further_part
further_like names = record { prints = λ p. refl; forms = λ p formed. formed.1; from = λ y more formed e. ((tt, y), refl, (tt, formed)); stops = λ more stops. tt }

module _ (names : List (List ℕ)) {ts : List Symbol} where
  pub further_first : {item : Item} {us : List Symbol} → IsFirst (both (exact (mark (codes "+"))) (item_part names)) ts (tt, item) us → IsFirst (further_part names) ts item us
  further_first first = like_first (further_like names) first

  pub further_fails : {e : FormError} → Fails (both (exact (mark (codes "+"))) (item_part names)) ts e → Fails (further_part names) ts e
  further_fails fault = like_fails (further_like names) fault

pub further_goes_on : (names : List (List ℕ)) → GoesOn (further_part names) EndsSum
unfolding further_part
further_goes_on names = record {
  some = λ item. omega arith;
  ends = λ more. tt;
  apart = λ item more formed stops. stops (item_token names item ∷ more, refl);
}

-- sides
side_like : (names : List (List ℕ)) {ts : List Symbol} → IsLike (both (variable_part names) (further_items names)) (side_part names) (λ p. Variable p.0 ∷ p.1) ts
unfolding both variable_part at_most parts further_part side_part
side_like names {ts} =
    let from : (y : List Item) (more : List Symbol) → IsSide (length names) y → ts ≡ sum_tokens names y ++ more → (p : ℕ × List Item) × (y ≡ Variable p.0 ∷ p.1) × (both (variable_part names) (further_items names)).Formed p =
    λ y more. elim y as (λ y. IsSide (length names) y → ts ≡ sum_tokens names y ++ more → (p : ℕ × List Item) × (y ≡ Variable p.0 ∷ p.1) × (both (variable_part names) (further_items names)).Formed p) [
      | [] ↦ λ formed e. absurd formed
      | NumberItem k ∷ items ↦ λ formed e. absurd formed
      | Variable v ∷ items ↦ λ formed e. ((v, items), refl, (formed.0, (formed.1, formed.2)))
    ] in
    record { prints = λ p. refl; forms = λ p formed. (formed.0, formed.1.0, formed.1.1); from = from; stops = λ more stops. stops }

module _ (names : List (List ℕ)) {ts : List Symbol} where
  pub side_first : {v : ℕ} {items : List Item} {us : List Symbol} → IsFirst (both (variable_part names) (further_items names)) ts (v, items) us → IsFirst (side_part names) ts (Variable v ∷ items) us
  side_first first = like_first (side_like names) first

  pub side_fails : {e : FormError} → Fails (both (variable_part names) (further_items names)) ts e → Fails (side_part names) ts e
  side_fails fault = like_fails (side_like names) fault

-- values
side_value_like : (names : List (List ℕ)) {ts : List Symbol} → (BeginsKind Number ts → ⊥) → IsLike (side_part names) (value_part names) (λ s. s) ts
unfolding side_part value_part
side_value_like names {ts} other =
    let from : (y : List Item) (more : List Symbol) → IsValue (length names) y → ts ≡ sum_tokens names y ++ more → (x : List Item) × (y ≡ x) × IsSide (length names) x =
    λ y more formed e. elim formed [
      | inl side ↦ (y, refl, side)
      | inr (k, written, small) ↦ absurd (other (_, (more, e ∙ ap (λ s. sum_tokens names s ++ more) written)))
    ] in
    record { prints = λ s. refl; forms = λ s formed. inl formed; from = from; stops = λ more stops. stops }

no_side_here : (names : List (List ℕ)) {ts : List Symbol} → BeginsKind Number ts → (y : List Item) (more : List Symbol) → IsSide (length names) y → ts ≡ sum_tokens names y ++ more → ⊥
no_side_here names begins [] more formed e = formed
no_side_here names begins (NumberItem k ∷ items) more formed e = formed
no_side_here names (text, (after, begins)) (Variable v ∷ items) more formed e = let differ : Number ≡ Word = same_kind (sym begins ∙ e) in cc

number_value_like : (names : List (List ℕ)) {ts : List Symbol} → BeginsKind Number ts → IsLike number_part (value_part names) (λ n. NumberItem n ∷ []) ts
unfolding number_part value_part
number_value_like names {ts} begins =
    let from : (y : List Item) (more : List Symbol) → IsValue (length names) y → ts ≡ sum_tokens names y ++ more → (n : ℕ) × (y ≡ NumberItem n ∷ []) × (n < 10 ^ 18) =
    λ y more formed e. elim formed [
      | inl side ↦ absurd (no_side_here names begins y more side e)
      | inr alone ↦ alone
    ] in
    record { prints = λ n. refl; forms = λ n formed. inr (n, refl, formed); from = from; stops = λ more stops. tt }

module _ (names : List (List ℕ)) {ts : List Symbol} where
  pub side_value_first : {sum : List Item} {us : List Symbol} → (BeginsKind Number ts → ⊥) → IsFirst (side_part names) ts sum us → IsFirst (value_part names) ts sum us
  side_value_first other first = like_first (side_value_like names other) first

  pub side_value_fails : {e : FormError} → (BeginsKind Number ts → ⊥) → Fails (side_part names) ts e → Fails (value_part names) ts e
  side_value_fails other fault = like_fails (side_value_like names other) fault

  pub number_value_first : {n : ℕ} {us : List Symbol} → BeginsKind Number ts → IsFirst number_part ts n us → IsFirst (value_part names) ts (NumberItem n ∷ []) us
  number_value_first begins first = like_first (number_value_like names begins) first

  pub number_value_fails : {e : FormError} → BeginsKind Number ts → Fails number_part ts e → Fails (value_part names) ts e
  number_value_fails begins fault = like_fails (number_value_like names begins) fault

-- equations
pub side_precedes : {Y : Type 0} (names : List (List ℕ)) (kind : Tok) (text : List ℕ) (q : Part Y) → (symbol_with kind text ≡ mark (codes "+") → ⊥) → Precedes (side_part names) (both (exact (symbol_with kind text)) q)
unfolding side_part both exact
side_precedes names kind text q differs = record { before = λ y more formed stops begins. let same : symbol_with kind text ≡ mark (codes "+") = cc begins.1 in differs same }

abbrev pub equation_steps : List (List ℕ) → Part (List Item × (Unit {0} × List Item))
equation_steps names = both (side_part names) (both (exact (mark (codes "=="))) (side_part names))

equation_like : (names : List (List ℕ)) {ts : List Symbol} → IsLike (equation_steps names) (equation_part names) (λ p. record { left = p.0; right = p.1.1 }) ts
unfolding both exact side_part equation_part
equation_like names = record {
  prints = λ p. refl;
  forms = λ p formed. (formed.0, formed.1.1);
  from = λ y more formed e. ((y.left, (tt, y.right)), refl, (formed.0, (tt, formed.1)));
  stops = λ more stops. stops;
}

module _ (names : List (List ℕ)) {ts : List Symbol} where
  pub equation_first : {left right : List Item} {us : List Symbol} → IsFirst (equation_steps names) ts (left, (tt, right)) us → IsFirst (equation_part names) ts (record { left = left; right = right }) us
  equation_first first = like_first (equation_like names) first

  pub equation_fails : {e : FormError} → Fails (equation_steps names) ts e → Fails (equation_part names) ts e
  equation_fails fault = like_fails (equation_like names) fault

-- a part that is read last, with what its reading answers
pub further_reads : (names : List (List ℕ)) (r : Result Item FormError) {ts us : List Symbol} (vs : List Symbol) → IsFirst (exact (mark (codes "+"))) ts tt us → ReadsPart (item_part names) us r vs → ReadsPart (further_part names) ts r vs
further_reads names (Ok item) vs plus first = further_first names (both_first (exact_precedes _ _) plus first)
further_reads names (Err e) vs plus fault = further_fails names (both_fails_late (exact_precedes _ _) plus fault)

pub side_value_reads : (names : List (List ℕ)) (r : Result (List Item) FormError) {ts : List Symbol} (us : List Symbol) → (BeginsKind Number ts → ⊥) → ReadsPart (side_part names) ts r us → ReadsPart (value_part names) ts r us
side_value_reads names (Ok sum) us other first = side_value_first names other first
side_value_reads names (Err e) us other fault = side_value_fails names other fault
