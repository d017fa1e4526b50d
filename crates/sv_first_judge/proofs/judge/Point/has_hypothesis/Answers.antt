use Rattle.std.proofs.Common.{◌++◌, ⊎_elim, List, sym, subst, ◌∙◌}
use Rattle.std.specs.Prelude.{Any}
use Rattle.std.proofs.lemmas.Bool.{false≢true}
use Rattle.sv_first_judge.specs.LinearForm.{LinearForm}
use Rattle.sv_first_judge.specs.Rows.{Agree, form_of}
use Rattle.sv_first_judge.specs.declared.row.Row.{Row}
use Rattle.sv_first_judge.proofs.PointLemmas.{Any-map, Any-from_map, Any-append_left, Any-append_right, Any-append_cases}
use Rattle.sv_first_judge.proofs.judge.Point.has_hypothesis.Goals as goal

pub returns-then-agrees_with_any : goal.returns-then-agrees_with_any
returns-then-agrees_with_any c =
    let point = c.args.self.now in
    let P : LinearForm → Type 0 = λ other. Agree (form_of c.args.row.now) other in
    let Q : Row → Type 0 = λ other. Agree (form_of c.args.row.now) (form_of other) in
    (λ t. Any-map form_of P (point.invariants.now ++ point.required) (Any-append_left Q point.invariants.now point.required (c.agrees_with_any.ensures.0 t)), λ h. c.if-agrees_with_any.true)

pub returns-else-agrees_with_any : goal.returns-else-agrees_with_any
returns-else-agrees_with_any c =
    let point = c.args.self.now in
    let P : LinearForm → Type 0 = λ other. Agree (form_of c.args.row.now) other in
    let Q : Row → Type 0 = λ other. Agree (form_of c.args.row.now) (form_of other) in
    let R : List Row → Type 0 = λ rows. Any Q rows in
    let required = c.agrees_with_any-else-agrees_with_any.ensures in (
      λ t. Any-map form_of P (point.invariants.now ++ point.required) (Any-append_right Q point.invariants.now point.required (subst R c.as_slice.ensures (required.0 t))),
      λ h.
          ⊎_elim
          (λ among. absurd (false≢true (sym c.if-agrees_with_any.false ∙ c.agrees_with_any.ensures.1 among)))
          (λ among. required.1 (subst R (sym c.as_slice.ensures) among))
          (Any-append_cases Q point.invariants.now point.required (Any-from_map form_of P (point.invariants.now ++ point.required) h)),
    )
