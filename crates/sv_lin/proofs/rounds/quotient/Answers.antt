use Rattle.std.proofs.Common.{refl, sym, ◌∙◌, rules}
use Rattle.std.specs.Prelude.{FitsSigned}
use Rattle.std.proofs.lemmas.Int.{to_z-of_z}
use mir.Syntax.{w128}
use Rattle.sv_cert.specs.PlainLogs.{plain_row}
use Rattle.sv_lin.specs.UnderWay.{force}
use Rattle.sv_lin.proofs.Making.{two_is_positive, divisor_same, quotient_is, no_quotient}
use Rattle.sv_lin.proofs.rounds.quotient.Goals as goal

pub divided-requires : goal.divided-requires
divided-requires c =
    let f : FitsSigned w128 c.in-Some.by = search rules in
    let d = to_z-of_z w128 c.in-Some.by f in record {
      positive = two_is_positive c.in-Some.by _ d c.in-Some.ensures.0;
      divides = (divisor_same c.in-Some.by _ c.as_slice.result.now c.as_slice-2.result.now d (c.as_slice-2.ensures ∙ sym c.as_slice.ensures) c.in-Some.ensures.1).divides;
    }

pub ceil_div-constant-requires : goal.ceil_div-constant-requires
ceil_div-constant-requires c =
    let f : FitsSigned w128 c.in-Some.by = search rules in
    two_is_positive c.in-Some.by _ (to_z-of_z w128 c.in-Some.by f) c.in-Some.ensures.0

pub returns : goal.returns
returns c =
    let f : FitsSigned w128 c.in-Some.by = search rules in
    let g : FitsSigned w128 c.row-row.result.now.constant = search rules in
    let h : FitsSigned w128 c.ceil_div-constant.result = search rules in (
      _,
      refl,
      plain_row c.row-row.result.now,
      c.row-row.ensures,
      quotient_is c.row-row.result.now c.in-Some.by _ _ c.ceil_div-constant.result _ c.as_slice-2.result.now c.in_ok-parts.parts.items c.from_vec.result
          (to_z-of_z w128 c.in-Some.by f) (to_z-of_z w128 c.row-row.result.now.constant g) (to_z-of_z w128 c.ceil_div-constant.result h) c.in-Some.ensures.0
          c.as_slice-2.ensures c.from_vec.ensures c.in_ok-parts.ensures c.ceil_div-constant.ensures,
      divisor_same c.in-Some.by _ c.as_slice.result.now c.row-row.result.now.parts (to_z-of_z w128 c.in-Some.by f) (sym c.as_slice.ensures) c.in-Some.ensures.1,
    )

pub returns-in_default : goal.returns-in_default
returns-in_default c =
    no_quotient (force c.args.rows.now c.args.work.now.made.items) c.args.number c.row-row.result.now c.as_slice.result.now c.row-row.ensures c.as_slice.ensures c.in_default.ensures
