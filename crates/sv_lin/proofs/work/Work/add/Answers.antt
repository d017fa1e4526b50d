use Rattle.std.proofs.Common.{ℕ, ◌+◌, ◌/◌, ◌≡◌, List, [], ◌∷◌, ◌++◌, length, sym, ap, ap₂, ◌∙◌, subst, arith}
use Rattle.std.proofs.lemmas.List.{map-append, length-map}
use Rattle.sv_log.specs.LogEntries.{cost_of, cost_of_log}
use Rattle.sv_cert.specs.declared.log.Row.{Row as CodeRow}
use Rattle.sv_cert.specs.PlainLogs.{plain_row, plain_monomial}
use Rattle.sv_lin.specs.Eliminations.{IsContradiction, IsSpent}
use Rattle.sv_lin.specs.declared.made.Made.{Made}
use Rattle.sv_lin.specs.declared.made.Origin.{Origin}
use Rattle.sv_lin.specs.UnderWay.{entry_by, entry_made, entries_of, IsUnderWay}
use Rattle.sv_lin.proofs.Entering.{cost_push, contradicts, spends, goes_on}
use Rattle.sv_lin.proofs.Forces.{adds, cost_by}
use Rattle.sv_lin.proofs.work.Work.add.Goals as goal

new_entries : (old new : List Made) (g : Origin) (r : CodeRow) → new ≡ old ++ record { origin = g; row = r } ∷ [] → entries_of new ≡ entries_of old ++ entry_by g (plain_row r) ∷ []
new_entries old new g r e = ap entries_of e ∙ map-append entry_made old (record { origin = g; row = r } ∷ [])

new_cost : (old : List Made) (g : Origin) (r : CodeRow) (k n : ℕ) → k ≡ cost_of_log (entries_of old) → n ≡ length r.parts → cost_of_log (entries_of old) + cost_of (entry_by g (plain_row r)) ≡ k + 1 + n / 16
new_cost old g r k n e f =
    ap₂ (λ x y. x + y) (sym e) (cost_by g (plain_row r) ∙ ap (λ l. 1 + l / 16) (length-map r.parts plain_monomial ∙ sym f)) ∙ regrouped k (n / 16)
  where
    regrouped : (k m : ℕ) → k + (1 + m) ≡ k + 1 + m
    regrouped k m = omega arith

counted : (old new : List Made) (g : Origin) (r : CodeRow) (k n : ℕ) → k ≡ cost_of_log (entries_of old) → n ≡ length r.parts → new ≡ old ++ record { origin = g; row = r } ∷ []
    → k + 1 + n / 16 ≡ cost_of_log (entries_of new)
counted old new g r k n e f h =
    sym (new_cost old g r k n e f) ∙ (sym (cost_push (entries_of old) (entry_by g (plain_row r))) ∙ sym (ap cost_of_log (new_entries old new g r h)))

pub invariant_of-self-2 : goal.invariant_of-self-2
invariant_of-self-2 c = record {
  counted = counted c.args.self.now.made.items c.push.new.self.items c.args.origin c.args.row c.args.self.now.cost c.len.result c.args.self.now.counted c.len.ensures c.in_ok-push.ensures.items;
}

pub returns-then-absurd : goal.returns-then-absurd
returns-then-absurd c rows w s =
    subst (IsContradiction rows) (sym (new_entries c.args.self.now.made.items c.push.new.self.items c.args.origin c.args.row c.in_ok-push.ensures.items))
    (contradicts rows c.args.limit (entries_of c.args.self.now.made.items) w (entry_by c.args.origin (plain_row c.args.row)) (plain_row c.args.row) (adds c.args.origin (plain_row c.args.row)) s c.if-absurd.ensures)

pub returns-then-cost-limit : goal.returns-then-cost-limit
returns-then-cost-limit c rows w s =
    let e = new_entries c.args.self.now.made.items c.push.new.self.items c.args.origin c.args.row c.in_ok-push.ensures.items in
    let n = new_cost c.args.self.now.made.items c.args.origin c.args.row c.args.self.now.cost c.len.result c.args.self.now.counted c.len.ensures in
    let l = c.if-cost-limit.true in (
      subst (IsUnderWay rows c.args.limit) (sym e)
          (goes_on rows c.args.limit (entries_of c.args.self.now.made.items) w (entry_by c.args.origin (plain_row c.args.row)) (plain_row c.args.row) (adds c.args.origin (plain_row c.args.row)) s c.if-absurd.ensures
          (omega (arith, n, l))),
      e,
    )

pub returns-else-cost-limit : goal.returns-else-cost-limit
returns-else-cost-limit c rows w s =
    let e = new_entries c.args.self.now.made.items c.push.new.self.items c.args.origin c.args.row c.in_ok-push.ensures.items in
    let n = new_cost c.args.self.now.made.items c.args.origin c.args.row c.args.self.now.cost c.len.result c.args.self.now.counted c.len.ensures in
    let l = c.if-cost-limit.false in
    subst (IsSpent rows c.args.limit) (sym e)
    (spends rows c.args.limit (entries_of c.args.self.now.made.items) w (entry_by c.args.origin (plain_row c.args.row)) (plain_row c.args.row) (adds c.args.origin (plain_row c.args.row)) s (omega (arith, n, l)))
