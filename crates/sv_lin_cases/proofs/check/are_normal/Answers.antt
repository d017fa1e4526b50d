use Rattle.std.proofs.Common.{true, ◌≡◌, inl, inr, subst, arith, rules}
use Rattle.sv_cert.specs.PlainLogs.{plain_row}
use Rattle.sv_lin.specs.Eliminations.{IsNormalRow}
use Rattle.sv_lin_cases.proofs.NormalRowTests.{one_past, none_left, normal_by}
use Rattle.sv_lin_cases.proofs.check.are_normal.Goals as goal

pub loop-row-init : goal.loop-row-init
loop-row-init c r h = inr h

pub loop-row-preserved : goal.loop-row-preserved
loop-row-preserved c r h = elim (c.loop-row.invariant r h) [
  | inl f ↦ inl f
  | inr d ↦ elim (one_past plain_row c.args.rows.now c.loop-row.row-index c.row-item.result r (omega arith) c.row-item.is d) [
    | inl e ↦ inl (subst IsNormalRow e (normal_by c.row-item.result c.as_slice.result.now c.as_slice.ensures (c.is_normal.ensures (let b : c.is_normal.result ≡ true = search rules in b))))
    | inr g ↦ inr g
  ]
]

pub returns : goal.returns
returns c t r h = elim (c.loop-row.invariant r h) [ inl f ↦ f | inr d ↦ absurd (none_left plain_row c.args.rows.now c.loop-row.row-index r (omega arith) d) ]
