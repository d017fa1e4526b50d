use Rattle.std.proofs.Common.{◌≡◌, ◌++◌, take}
use Rattle.std.specs.List.{flat_map}
use Rattle.sv_cert.proofs.Writers.{monomial_text}
use Rattle.sv_cert.proofs.text.add_monomials.Given as goal

abbrev pub invariant-loop-factor : goal.invariant-loop-factor
invariant-loop-factor l = l.text.items ≡ l.initial.text.items ++ flat_map monomial_text (take l.factor-index l.parts)
