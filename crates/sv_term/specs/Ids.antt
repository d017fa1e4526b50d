-- Serves the proof: two numbers of terms are equal exactly where what they hold is.
use Rattle.std.specs.Prelude.{nat_eq, ◌≡◌}
use Rattle.std.specs.Bool.{Decides}
use Rattle.std.proofs.Common.{ap}
use Rattle.std.proofs.lemmas.Bool.Decides.{Decides-eqb}
use Rattle.sv_term.specs.declared.node.TermId.{TermId}

pub id_decides : (j k : TermId) → Decides (nat_eq j.0 k.0) (j ≡ k)
id_decides j k = (λ e. λ i. record { 0 = (Decides-eqb j.0 k.0).0 e i }, λ e. (Decides-eqb j.0 k.0).1 (ap (λ z. z.0) e))
