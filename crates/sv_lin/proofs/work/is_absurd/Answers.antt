use Rattle.std.proofs.Common.{Bool, true, false, IsTrue, List, [], ◌∷◌, map, ◌≡◌, refl, ap, MatchBool, rules}
use Rattle.std.specs.Prelude.{ℤ, ℕ, pos, ◌<ℤ◌, ◌↔◌}
use Rattle.sv_cert.specs.PlainLogs.{plain_monomial}
use Rattle.sv_lin.proofs.work.is_absurd.Goals as goal

empty : (b : Bool) (ps : List (ℤ × ℕ)) (k : ℤ) → IsTrue b ↔ (ps ≡ []) → pos 0 <ℤ k
    → MatchBool b ((map plain_monomial ps ≡ []) × (pos 0 <ℤ k)) (((map plain_monomial ps ≡ []) × (pos 0 <ℤ k)) → ⊥)
empty true ps k h l = (ap (map plain_monomial) (h.0 refl), l)
empty false [] k h l = absurd (let e : false ≡ true = h.1 refl in cc e)
empty false (p ∷ ps) k h l = λ a. let e = a.0 in absurd (cc e)

pub returns-then-row-gt0 : goal.returns-then-row-gt0
returns-then-row-gt0 c = empty c.is_empty.result c.args.row.now.parts c.args.row.now.constant c.is_empty.ensures (search rules)
