-- A line `C: holds` of what is due for a text is true of every history of the contract C.
use Rattle.std.proofs.Common.{◌≡◌, ◌==◌, ℕ, inl, inr, not, Bool, true, false, List, [], ◌∷◌, ◌++◌, All, map, codes, Option, Some, None, refl, sym, ap, subst, ◌∙◌, arith, append_assoc, append-nil}
use Rattle.std.specs.Fmt.{decimal}
use Rattle.std.specs.List.{list_all, AllPass}
use Rattle.std.proofs.lemmas.List.{append_cancel_left, append_cancel_right}
use Rattle.std.proofs.lemmas.List.Elements.{All-nil, All-cons, All-head, All-tail, All-push, All-map}
use Rattle.sv_cli.proofs.Lines.{is_free, and_both, free-append, free-decimal, free_verdict, verdict_end, not_newline, line_cases, no_line, line_of_front, last, last-append}
use Rattle.sv_cli.specs.Answered.{IsReadTo, IsDueFrom}
use Rattle.sv_cli.specs.Due.{IsDue}
use Rattle.sv_cli.specs.Due.IsDue.{IsError, IsReported}
use Rattle.sv_cli.specs.Headline.{HasLine, IsSafeFor, HoldsTruly}
use Rattle.sv_io.specs.Moved.{IsWritten, IsCutShort}
use Rattle.sv_report.specs.Refusals.{error_text, kind_text, place_of}
use Rattle.sv_report.specs.Report.{lines_text, last_text}
use Rattle.sv_report.specs.declared.ended.Ended.{Ended}
use Rattle.sv_report.specs.declared.refusal.Refusal.{Refusal}
use Rattle.sv_report.specs.declared.refusal.Refusal.TheVariants.{Long, Char, Unclosed, Many, Out, Deep, Syntax, Unbuilt}
use Rattle.sv_first_form.specs.FirstForm.{IsName, IsContract}
use Rattle.sv_first_form.specs.declared.contract.Contract.{Contract}
use Rattle.sv_first_form.specs.declared.contract.Function.{Function}
use Rattle.sv_first_judge.proofs.Soundness.{verified_is_safe}
use Rattle.sv_first_judge.specs.Judging.{Judged, judged_of, judged_function, known_at_construction, known_at_entry}
use Rattle.sv_first_judge.specs.Verdict.{verdict_text, is_verified}
use Rattle.sv_first_judge.specs.declared.verdict.Verdict.{Verdict}
use Rattle.sv_lex.specs.Bytes.{is_letter}
use Rattle.sv_text.specs.declared.place.Place.{Place}

-- names have no newline
letters_free : (text : List ℕ) → AllPass is_letter text → is_free text ≡ true
letters_free [] letters = refl
letters_free (b ∷ text) letters =
    and_both (not (b == 10)) (is_free text)
    (not_newline b (λ e. no (sym (All-head (λ (x : ℕ). is_letter x ≡ true) b text letters) ∙ ap is_letter e)))
    (letters_free text (All-tail (λ (x : ℕ). is_letter x ≡ true) b text letters))
  where
    no : true ≡ false → ⊥
    no h = cc

-- so do all that are judged
judged_free : (c : Contract) → IsContract c → All (λ (j : Judged). is_free j.name ≡ true) (judged_of c)
judged_free c is =
    let P : Judged → Type 0 = λ j. is_free j.name ≡ true in
    let named : All IsName (c.variables ++ c.name ∷ map (λ (f : Function). f.name) c.functions) = is.names in
    All-cons P (record { name = codes "constructor"; end = known_at_construction }) (map (judged_function c) c.functions ++ record { name = codes "(gift)"; end = known_at_entry c } ∷ []) refl
    (All-push P (map (judged_function c) c.functions) (record { name = codes "(gift)"; end = known_at_entry c })
    (All-map P (judged_function c) c.functions (functions_free c.functions (names_after c.variables c.name (map (λ (f : Function). f.name) c.functions) named))) refl)
  where
    names_after : (vs : List (List ℕ)) (x : List ℕ) (ys : List (List ℕ)) → All IsName (vs ++ x ∷ ys) → All IsName ys
    names_after [] x ys all = All-tail IsName x ys all
    names_after (v ∷ vs) x ys all = names_after vs x ys (All-tail IsName v (vs ++ x ∷ ys) all)

    functions_free : (fs : List Function) → All IsName (map (λ (f : Function). f.name) fs) → All (λ (f : Function). is_free f.name ≡ true) fs
    functions_free [] all = All-nil (λ (f : Function). is_free f.name ≡ true)
    functions_free (f ∷ fs) all =
        All-cons (λ (g : Function). is_free g.name ≡ true) f fs
        (letters_free f.name (All-head IsName f.name (map (λ (g : Function). g.name) fs) all).letters)
        (functions_free fs (All-tail IsName f.name (map (λ (g : Function). g.name) fs) all))

contract_free : (c : Contract) → IsContract c → is_free c.name ≡ true
contract_free c is = letters_free c.name (name_at c.variables c.name (map (λ (f : Function). f.name) c.functions) is.names).letters
  where
    name_at : (vs : List (List ℕ)) (x : List ℕ) (ys : List (List ℕ)) → All IsName (vs ++ x ∷ ys) → IsName x
    name_at [] x ys all = All-head IsName x ys all
    name_at (v ∷ vs) x ys all = name_at vs x ys (All-tail IsName v (vs ++ x ∷ ys) all)

-- no line of a verdict says that a contract holds
after_lines : (contract name t : List ℕ) (js : List Judged) (vs : List Verdict) → is_free contract ≡ true → All (λ (j : Judged). is_free j.name ≡ true) js
    → HasLine (lines_text contract js vs ++ t) (name ++ codes ": holds") → HasLine t (name ++ codes ": holds")
after_lines contract name t [] vs free frees has = has
after_lines contract name t (j ∷ js) [] free frees has = has
after_lines contract name t (j ∷ js) (v ∷ vs) free frees has =
    let front : List ℕ = contract ++ codes "." ++ j.name ++ codes ": " in
    let body : List ℕ = front ++ verdict_text v in
    let rest : List ℕ = lines_text contract js vs ++ t in
    let same : lines_text contract (j ∷ js) (v ∷ vs) ++ t ≡ body ++ 10 ∷ rest =
    append_assoc (body ++ codes "\n") (lines_text contract js vs) t ∙ append_assoc body (codes "\n") rest in
    let body_free : is_free body ≡ true =
    free-append front (verdict_text v)
    (free-append (contract ++ codes "." ++ j.name) (codes ": ")
    (free-append (contract ++ codes ".") j.name (free-append contract (codes ".") free refl) (All-head (λ (i : Judged). is_free i.name ≡ true) j js frees)) refl)
    (free_verdict v) in
    elim (line_cases body rest (name ++ codes ": holds") body_free (subst (λ (l : List ℕ). HasLine l (name ++ codes ": holds")) same has)) [
      | inl is ↦ absurd (verdict_end front name v is)
      | inr later ↦ after_lines contract name t js vs free (All-tail (λ (i : Judged). is_free i.name ≡ true) j js frees) later
    ]

-- the last line says so of this contract, and only where all verdicts are verified
last_line : (contract name : List ℕ) (holds : Bool) → is_free contract ≡ true → HasLine (last_text contract holds) (name ++ codes ": holds")
    → (holds ≡ true) × (contract ≡ name)
last_line contract name true free has =
    let body : List ℕ = contract ++ codes ": " ++ codes "holds" in
    let body_free = free-append (contract ++ codes ": ") (codes "holds") (free-append contract (codes ": ") free refl) refl in
    elim (line_cases body [] (name ++ codes ": holds") body_free has) [
      | inl is ↦ (refl, sym (append_cancel_right name contract (codes ": holds") (is ∙ append_assoc contract (codes ": ") (codes "holds"))))
      | inr later ↦ absurd (no_line _ later)
    ]
last_line contract name false free has =
    let body : List ℕ = contract ++ codes ": " ++ codes "unheld" in
    let body_free = free-append (contract ++ codes ": ") (codes "unheld") (free-append contract (codes ": ") free refl) refl in
    elim (line_cases body [] (name ++ codes ": holds") body_free has) [
      | inl is ↦ absurd (omega (arith, ap last is, last-append name 58 (codes " holds"), last-append (contract ++ codes ": ") 117 (codes "nheld")))
      | inr later ↦ absurd (no_line _ later)
    ]

-- no error line says that a contract holds
free_kind : (refusal : Refusal) → is_free (kind_text refusal) ≡ true
free_kind Long = refl
free_kind (Char place) = refl
free_kind (Unclosed place) = refl
free_kind (Many place) = refl
free_kind (Out place) = refl
free_kind (Deep place) = refl
free_kind (Syntax place) = refl
free_kind Unbuilt = refl

-- the kind begins with a byte, and doesn't end with an `s`
kind_end : (refusal : Refusal) → (first : ℕ) × (rest : List ℕ) × (kind_text refusal ≡ first ∷ rest) × (last (first ∷ rest) ≡ 115 → ⊥)
kind_end Long = (76, codes "ong", refl, λ e. omega arith)
kind_end (Char place) = (67, codes "har", refl, λ e. omega arith)
kind_end (Unclosed place) = (85, codes "nclosed", refl, λ e. omega arith)
kind_end (Many place) = (77, codes "any", refl, λ e. omega arith)
kind_end (Out place) = (79, codes "ut", refl, λ e. omega arith)
kind_end (Deep place) = (68, codes "eep", refl, λ e. omega arith)
kind_end (Syntax place) = (83, codes "yntax", refl, λ e. omega arith)
kind_end Unbuilt = (85, codes "nbuilt", refl, λ e. omega arith)

error_end : (refusal : Refusal) (name : List ℕ) → HasLine (error_text refusal) (name ++ codes ": holds") → ⊥
error_end refusal name has =
    let place : Place = place_of refusal in
    let front : List ℕ = codes "error " ++ decimal place.line ++ codes ":" ++ decimal place.col ++ codes " " in
    let front_free : is_free front ≡ true =
    free-append (codes "error " ++ decimal place.line ++ codes ":" ++ decimal place.col) (codes " ")
    (free-append (codes "error " ++ decimal place.line ++ codes ":") (decimal place.col)
    (free-append (codes "error " ++ decimal place.line) (codes ":") (free-append (codes "error ") (decimal place.line) refl (free-decimal place.line)) refl)
    (free-decimal place.col)) refl in
    let end = kind_end refusal in
    elim (line_cases (front ++ kind_text refusal) [] (name ++ codes ": holds") (free-append front (kind_text refusal) front_free (free_kind refusal)) has) [
      | inl is ↦ end.3 (sym (last-append front end.0 end.1) ∙ ap (λ (k : List ℕ). last (front ++ k)) (sym end.2) ∙ sym (ap last is) ∙ last-append name 58 (codes " holds"))
      | inr later ↦ no_line _ later
    ]

-- a line `C: holds` of what is due for a text is true
pub due_holds : (text due name : List ℕ) (ended : Ended) → IsDue text due ended → HasLine due (name ++ codes ": holds") → IsSafeFor text name
due_holds text due name ended (IsError refusal refused is e) has =
    absurd (error_end refusal name (subst (λ (l : List ℕ). HasLine l (name ++ codes ": holds")) is has))
due_holds text due name ended (IsReported c means reports) has =
    let is : IsContract c = means.meaning.form in
    let there = subst (λ (l : List ℕ). HasLine l (name ++ codes ": holds")) reports.text has in
    let end = last_line c.name name (list_all is_verified reports.verdicts) (contract_free c is)
    (after_lines c.name name (last_text c.name (list_all is_verified reports.verdicts)) (judged_of c) reports.verdicts (contract_free c is) (judged_free c is) there) in
    record {
      contract = c;
      form = record { tokens = means.tokens; read = means.plain.within.read; meaning = means.meaning };
      name_is = end.1;
      safe = verified_is_safe c reports.verdicts is reports.judged end.0;
    }

-- what was written is all or a front of what was due
abbrev IsFrontOf : List ℕ → List ℕ → Type 0
IsFrontOf added due = (rest : List ℕ) × (due ≡ added ++ rest)

front_holds : (left left' : Option (List ℕ)) (due added name : List ℕ) (ended : Ended) → IsDueFrom left left' due ended → IsFrontOf added due
    → HasLine added (name ++ codes ": holds") → (text : List ℕ) × IsReadTo left left' text × IsSafeFor text name
front_holds left left' due added name ended is_due front has = (
  is_due.text,
  is_due.read,
  due_holds is_due.text due name ended is_due.due_is
      (subst (λ (l : List ℕ). HasLine l (name ++ codes ": holds")) (sym front.1) (line_of_front added front.0 (name ++ codes ": holds") has)),
)

-- the clause of the program, by what it wrote: nothing, all that was due, or a front of it
pub nothing_written : (left left' held : Option (List ℕ)) → HoldsTruly left left' held held
nothing_written left left' None = tt
nothing_written left left' (Some held) = λ added name is has.
    absurd (no_line (name ++ codes ": holds") (subst (λ (l : List ℕ). HasLine l (name ++ codes ": holds")) (none_added held added is) has))
  where
    none_added : (held added : List ℕ) → held ≡ held ++ added → added ≡ []
    none_added held added is = sym (append_cancel_left held [] added (append-nil held ∙ is))

pub all_written : (left left' held held' : Option (List ℕ)) (due : List ℕ) (ended : Ended) → IsDueFrom left left' due ended → IsWritten held held' due
    → HoldsTruly left left' held held'
all_written left left' None held' due ended is_due written = tt
all_written left left' (Some held) None due ended is_due written = tt
all_written left left' (Some held) (Some held') due ended is_due written = λ added name is has.
    let same : held' ≡ held ++ due = cc in
    let all : due ≡ added = append_cancel_left held due added (sym same ∙ is) in
    front_holds left left' due added name ended is_due ([], all ∙ sym (append-nil added)) has

pub part_written : (left left' held held' : Option (List ℕ)) (due : List ℕ) (ended : Ended) → IsDueFrom left left' due ended → IsCutShort held held' due
    → HoldsTruly left left' held held'
part_written left left' None held' due ended is_due written = tt
part_written left left' (Some held) None due ended is_due written = tt
part_written left left' (Some held) (Some held') due ended is_due written = λ added name is has.
    let same : held' ≡ held ++ written.0 = some_same held' (held ++ written.0) written.4 in
    let front : written.0 ≡ added = append_cancel_left held written.0 added (sym same ∙ is) in
    front_holds left left' due added name ended is_due (written.1, written.3 ∙ ap (λ (f : List ℕ). f ++ written.1) front) has
  where
    some_same : (x y : List ℕ) → Some x ≡ Some y → x ≡ y
    some_same x y e = cc
