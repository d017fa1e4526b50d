use Rattle.std.proofs.Common.{ℕ, ◌≡◌, length, sym, ap, ◌∙◌, arith}
use Rattle.sv_term.specs.FactRules.{size}
use Rattle.sv_log.specs.Logs.{nth_terms}
use Rattle.sv_pattern.proofs.NumberedTrees.{nth_size}
use Rattle.sv_pattern.proofs.related.has_one.Goals as goal

pub returns-in_default-2 : goal.returns-in_default-2
returns-in_default-2 g c =
    let args = c.args-2.result.now in
    let trees = g.T.TermNumbers.trees c.args.terms.now in (
      λ h. cc h,
      λ e.
          let s : size (nth_terms trees args) ≡ 1 = ap size (sym c.args-2.ensures.trees ∙ e) in
          absurd (omega (arith, s, nth_size trees args, c.in_default.len_at_least)),
    )
