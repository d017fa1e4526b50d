-- Notes, headers and functions in front of tokens, from the parts that they are read by.
use Rattle.std.proofs.Common.{ℕ, List, codes, refl, arith}
use Rattle.sv_first_form.proofs.Repeats.{GoesOn}
use Rattle.sv_first_form.proofs.Sequences.{IsLike, like_first, like_fails, Precedes}
use Rattle.sv_first_form.specs.FirstForm.{mark, word, note, note_end}
use Rattle.sv_first_form.specs.FormParts.{equation_part, note_part, declaration_part, declarations_part, header_part, act_part, acts_part, function_part, EndsDeclarations, EndsFunctions, EndsNotes}
use Rattle.sv_first_form.specs.FormReading.{Part, IsFirst, Fails, exact, any_text, both, parts, at_most}
use Rattle.sv_first_form.specs.FormSymbols.{Symbol}
use Rattle.sv_first_form.specs.declared.contract.Act.{Act}
use Rattle.sv_first_form.specs.declared.contract.Equation.{Equation}
use Rattle.sv_first_form.specs.declared.form_error.FormError.{FormError}
use Rattle.sv_lex.specs.declared.tok.Tok.TheVariants.{Word}

-- notes
abbrev pub note_steps : List (List ℕ) → Part (Unit {0} × (Equation × Unit {0}))
note_steps names = both (exact note) (both (equation_part names) (exact note_end))

note_like : (names : List (List ℕ)) {ts : List Symbol} → IsLike (note_steps names) (note_part names) (λ p. p.1.0) ts
unfolding both exact equation_part note_part
note_like names = record {
  prints = λ p. refl;
  forms = λ p formed. formed.1.0;
  from = λ y more formed e. ((tt, (y, tt)), refl, (tt, (formed, tt)));
  stops = λ more stops. tt;
}

module _ (names : List (List ℕ)) {ts : List Symbol} where
  pub note_first : {claim : Equation} {us : List Symbol} → IsFirst (note_steps names) ts (tt, (claim, tt)) us → IsFirst (note_part names) ts claim us
  note_first first = like_first (note_like names) first

  pub note_fails : {e : FormError} → Fails (note_steps names) ts e → Fails (note_part names) ts e
  note_fails fault = like_fails (note_like names) fault

pub note_goes_on : (names : List (List ℕ)) → GoesOn (note_part names) EndsNotes
unfolding note_part
note_goes_on names = record { some = λ claim. omega arith; ends = λ more. tt; apart = λ claim more formed ended. cc }

-- declarations
abbrev pub declaration_steps : Part (Unit {0} × (List ℕ × Unit {0}))
declaration_steps = both (exact (word (codes "uint256"))) (both (any_text Word) (exact (mark (codes ";"))))

declaration_like : {ts : List Symbol} → IsLike declaration_steps declaration_part (λ p. p.1.0) ts
unfolding both exact any_text declaration_part
declaration_like = record {
  prints = λ p. refl;
  forms = λ p formed. tt;
  from = λ y more formed e. ((tt, (y, tt)), refl, (tt, (tt, tt)));
  stops = λ more stops. tt;
}

module _ {ts : List Symbol} where
  pub declaration_first : {name : List ℕ} {us : List Symbol} → IsFirst declaration_steps ts (tt, (name, tt)) us → IsFirst declaration_part ts name us
  declaration_first first = like_first declaration_like first

  pub declaration_fails : {e : FormError} → Fails declaration_steps ts e → Fails declaration_part ts e
  declaration_fails fault = like_fails declaration_like fault

pub declaration_goes_on : GoesOn declaration_part EndsDeclarations
unfolding declaration_part
declaration_goes_on = record { some = λ name. omega arith; ends = λ more. tt; apart = λ name more formed ended. ended (_, refl) }

-- the header
abbrev pub header_steps : Part (Unit {0} × (List ℕ × (Unit {0} × List (List ℕ))))
header_steps = both (exact (word (codes "contract"))) (both (any_text Word) (both (exact (mark (codes "{"))) declarations_part))

header_like : {ts : List Symbol} → IsLike header_steps header_part (λ p. record { name = p.1.0; variables = p.1.1.1 }) ts
unfolding both exact any_text parts declaration_part header_part
header_like = record {
  prints = λ p. refl;
  forms = λ p formed. tt;
  from = λ y more formed e. ((tt, (y.name, (tt, y.variables))), refl, (tt, (tt, (tt, λ k d within. tt))));
  stops = λ more stops. stops;
}

module _ {ts : List Symbol} where
  pub header_first : {name : List ℕ} {variables : List (List ℕ)} {us : List Symbol} → IsFirst header_steps ts (tt, (name, (tt, variables))) us → IsFirst header_part ts (record { name = name; variables = variables }) us
  header_first first = like_first header_like first

  pub header_fails : {e : FormError} → Fails header_steps ts e → Fails header_part ts e
  header_fails fault = like_fails header_like fault

-- functions
abbrev pub function_steps : List (List ℕ) → Part (Unit {0} × (List ℕ × (Unit {0} × (Unit {0} × (Unit {0} × (Unit {0} × (List Act × Unit {0})))))))
function_steps names =
    both (exact (word (codes "function"))) (both (any_text Word) (both (exact (mark (codes "("))) (both (exact (mark (codes ")")))
    (both (exact (word (codes "public"))) (both (exact (mark (codes "{"))) (both (acts_part names) (exact (mark (codes "}")))))))))

function_like : (names : List (List ℕ)) {ts : List Symbol} → IsLike (function_steps names) (function_part names) (λ p. record { name = p.1.0; acts = p.1.1.1.1.1.1.0 }) ts
unfolding both exact any_text at_most parts act_part function_part
function_like names = record {
  prints = λ p. refl;
  forms = λ p formed. formed.1.1.1.1.1.1.0;
  from = λ y more formed e. ((tt, (y.name, (tt, (tt, (tt, (tt, (y.acts, tt))))))), refl, (tt, (tt, (tt, (tt, (tt, (tt, (formed, tt))))))));
  stops = λ more stops. tt;
}

module _ (names : List (List ℕ)) {ts : List Symbol} where
  pub function_first : {name : List ℕ} {acts : List Act} {us : List Symbol} → IsFirst (function_steps names) ts (tt, (name, (tt, (tt, (tt, (tt, (acts, tt))))))) us → IsFirst (function_part names) ts (record { name = name; acts = acts }) us
  function_first first = like_first (function_like names) first

  pub function_fails : {e : FormError} → Fails (function_steps names) ts e → Fails (function_part names) ts e
  function_fails fault = like_fails (function_like names) fault

pub function_goes_on : (names : List (List ℕ)) → GoesOn (function_part names) EndsFunctions
unfolding function_part
function_goes_on names = record { some = λ f. omega arith; ends = λ more. tt; apart = λ f more formed ended. ended (_, refl) }

pub acts_precede : (names : List (List ℕ)) → Precedes (acts_part names) (exact (mark (codes "}")))
unfolding at_most parts exact
acts_precede names = record { before = λ y more formed stops. (more, refl) }
