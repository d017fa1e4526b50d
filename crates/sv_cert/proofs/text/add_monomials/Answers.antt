use Rattle.std.proofs.Common.{◌++◌, ◌∙◌, sym, ap}
use Rattle.sv_cert.proofs.Writers.{flat_all, monomial_text, monomials_flat}
use Rattle.sv_cert.proofs.text.add_monomials.Goals as goal

pub returns : goal.returns
returns c =
    flat_all monomial_text c.args.parts.now c.loop-factor.factor-index c.args.text.now.items c.loop-factor.text.items c.loop-factor-test.false c.loop-factor.invariant
    ∙ ap (λ w. c.args.text.now.items ++ w) (sym (monomials_flat c.args.parts.now))
