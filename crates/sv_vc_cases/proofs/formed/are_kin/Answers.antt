use Rattle.std.proofs.Common.{◌≡◌, ◌∙◌, true, sym, ap, rules}
use Rattle.sv_term.specs.Banks.{sort, wide}
use Rattle.sv_vc_cases.proofs.formed.are_kin.Goals as goal

pub returns-then-is_same : goal.returns-then-is_same
returns-then-is_same c h = ap (λ z. wide (sort c.args.bank.now z)) (c.is_same.ensures (let b : c.is_same.result ≡ true = search rules in b))

pub returns : goal.returns
returns c h = c.is_number_sort.ensures (let b : c.is_number_sort.result ≡ true = search rules in b) ∙ sym (c.is_number_sort-2.ensures h)
