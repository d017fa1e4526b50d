use Rattle.sv_term.proofs.KindTests.{both_say}
use Rattle.sv_term.proofs.bank.Bank.wraps.Goals as goal

pub returns : goal.returns
returns c =
    let f = both_say c.is_number-left.result c.is_width-right.result c.both.result c.is_number-left.ensures c.is_width-right.ensures c.both.ensures in
    (λ h. let x = f.0 h in (x.0, x.1.0, x.1.1), λ i. f.1 (i.0, (i.1, i.2)))
