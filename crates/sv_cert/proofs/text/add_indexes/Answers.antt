use Rattle.std.proofs.Common.{◌≡◌, ◌++◌, ◌∷◌, ◌∙◌, sym, ap}
use Rattle.std.specs.Fmt.{decimal}
use Rattle.sv_cert.proofs.Writers.{flat_all, spaced_flat}
use Rattle.sv_cert.proofs.text.add_indexes.Goals as goal

pub returns : goal.returns
returns c =
    flat_all (λ n. 32 ∷ decimal n) c.args.ns.now c.loop-n.n-index c.args.text.now.items c.loop-n.text.items c.loop-n-test.false c.loop-n.invariant
    ∙ ap (λ w. c.args.text.now.items ++ w) (sym (spaced_flat decimal c.args.ns.now))
