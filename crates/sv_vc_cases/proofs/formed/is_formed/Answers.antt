use Rattle.std.proofs.Common.{◌≡◌, true, length, subst, rules}
use Rattle.sv_gcl.specs.CommandShapes.{shape}
use Rattle.sv_term.specs.Banks.{AreSorts}
use Rattle.sv_vc_cases.specs.FormedTests.{AreFine, IsSettled, sorts_of}
use Rattle.sv_vc_cases.proofs.FormedTests.{lowered}
use Rattle.sv_vc_cases.proofs.formed.is_formed.Goals as goal

pub is_settled-requires : goal.is_settled-requires
is_settled-requires c = c.sorts_are_there.ensures (let b : c.sorts_are_there.result ≡ true = search rules in b)

pub returns : goal.returns
returns c h =
    let sorts : AreSorts c.args.l.now.bank (sorts_of c.as_slice-vars.result.now) = c.sorts_are_there.ensures (let b : c.sorts_are_there.result ≡ true = search rules in b) in
    let fine : AreFine c.args.l.now.bank c.as_slice-vars.result.now (length c.args.l.now.bank.nodes) = c.terms_are_fine.ensures (let b : c.terms_are_fine.result ≡ true = search rules in b) in
    lowered c.args.l.now
    (subst (λ z. AreSorts c.args.l.now.bank (sorts_of z)) c.as_slice-vars.ensures sorts)
    (subst (λ z. AreFine c.args.l.now.bank z (length c.args.l.now.bank.nodes)) c.as_slice-vars.ensures fine)
    (subst (λ z. IsSettled c.args.l.now.bank z (shape c.args.l.now.cmd)) c.as_slice-vars.ensures (c.is_settled.ensures h))
