use Rattle.std.proofs.Common.{◌≡◌, ◌++◌, ◌∷◌, [], length, arith, ap, ◌∙◌, refl}
use Rattle.sv_table.specs.Places.{Places}
use Rattle.sv_force.specs.InForce.{FactOn}
use Rattle.sv_force.specs.declared.force.Kind.TheVariants as k
use Rattle.sv_force.proofs.Storing.{stored_pushed}
use Rattle.sv_force.proofs.force.InForce.push_fact.Goals as goal

pub invariant_of-self : goal.invariant_of-self
invariant_of-self c =
    let slots : c.push.new.self.items ≡ c.self.inside.slots.items ++ record { kind = k.Fact c.args.sign c.args.term; start = c.len-end.result; end = c.len-end.result } ∷ [] = grind (arith, c.push.ensures.items, c.push.ensures.succeeds) in
    let used : c.len-end.result ≡ length c.self.inside.parts.items = omega (arith, c.self.inside.parts.ok.0, c.len-end.ensures) in
    let codes = ap (λ (p : Places). p.codes) c.push-2.ensures ∙ ap (λ x. c.self.inside.table.codes ++ x ∷ []) c.fact_code.ensures in
    let room = ap (λ (p : Places). p.room) c.push-2.ensures in (
      stored_pushed _ _ _ _ _ _ _ (FactOn c.args.sign c.args.term) c.self.invariant.0 (λ x y l. refl) used refl used refl slots codes,
      omega (arith, room, c.self.invariant.1, c.push.ensures.capacity),
      c.self.invariant.2,
      c.self.invariant.3,
    )
