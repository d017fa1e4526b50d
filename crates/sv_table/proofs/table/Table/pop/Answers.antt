use Rattle.std.proofs.Common.{◌≡◌, ◌≤◌, ◌++◌, ◌∷◌, [], length, arith}
use Rattle.std.proofs.lemmas.List.{length_push}
use Rattle.sv_table.proofs.ChainLaws.{popped_by}
use Rattle.sv_table.proofs.table.Table.pop.Goals as goal

pub invariant_of-self : goal.invariant_of-self
invariant_of-self c =
    let codes : c.self.inside.codes.items ≡ c.pop.new.self.items ++ c.unwrap-code.result ∷ [] = grind (arith, c.pop.ensures.items, c.unwrap-code.ensures) in
    let links : c.self.inside.links.items ≡ c.pop-2.new.self.items ++ c.unwrap-link.result ∷ [] = grind (arith, c.pop-2.ensures.items, c.unwrap-link.ensures) in
    let width : c.len.result ≡ length c.self.inside.heads.items = omega (arith, c.self.inside.heads.ok.0, c.len.ensures) in
    let fewer : length c.pop.new.self.items ≤ length c.self.inside.codes.items = rw codes (omega (arith, length_push c.pop.new.self.items c.unwrap-code.result)) in (
      popped_by _ _ _ c.self.invariant.0 _ _ _ _ _ codes links width,
      omega (arith, fewer, c.self.invariant.1),
      omega (arith, c.self.invariant.2, c.pop.ensures.capacity),
      omega (arith, c.self.invariant.3, c.pop-2.ensures.capacity),
    )
