use Rattle.std.proofs.Common.{◌≡◌, ◌+◌, ◌<◌, ◌++◌, ◌∷◌, [], length, arith}
use Rattle.std.proofs.lemmas.List.{length_push}
use Rattle.sv_table.proofs.ChainLaws.{pushed_by, room_left}
use Rattle.sv_table.proofs.table.Table.push.Goals as goal

pub invariant_of-self : goal.invariant_of-self
invariant_of-self c =
    let links : c.push.new.self.items ≡ c.self.inside.links.items ++ c.index.result.now ∷ [] = grind (arith, c.push.ensures.items, c.push.ensures.succeeds) in
    let codes : c.push-2.new.self.items ≡ c.self.inside.codes.items ++ c.args.code ∷ [] = grind (arith, c.push-2.ensures.items, c.push-2.ensures.succeeds) in
    let width : c.len.result ≡ length c.self.inside.heads.items = omega (arith, c.self.inside.heads.ok.0, c.len.ensures) in
    let count : c.len-2.result ≡ length c.push-2.new.self.items = omega (arith, c.push-2.new.self.ok.0, c.len-2.ensures) in
    let room : length c.self.inside.codes.items < c.self.inside.room = room_left _ _ c.self.view_is c.requires in
    let more : length c.push-2.new.self.items ≡ length c.self.inside.codes.items + 1 = rw codes (length_push c.self.inside.codes.items c.args.code) in (
      pushed_by _ _ _ c.self.invariant.0 _ _ _ _ _ _ codes links width c.index.ensures count,
      omega (arith, more, room),
      omega (arith, c.self.invariant.2, c.push-2.ensures.capacity),
      omega (arith, c.self.invariant.3, c.push.ensures.capacity),
    )
