use Rattle.std.proofs.Common.{rules, ◌≡◌, ◌+◌, ◌++◌, ◌∷◌, ◌↔◌, IsTrue, [], Bool, List, sym, subst}
use Rattle.sv_reach.specs.Paths.{AreMarks, IsOnRing}
use Rattle.sv_reach.proofs.Returning.{one_mark_more}
use Rattle.sv_reach.proofs.rings.on_a_ring.Goals as goal

pub loop-next-preserved : goal.loop-next-preserved
loop-next-preserved c =
    let g = c.args.graph.now in
    let n = c.loop-next.next-index in
    let marks = c.loop-next.marks in
    let mark = c.in_ok-mark.mark in
    let is : IsTrue mark ↔ IsOnRing g c.len.result = search rules in
    let len : c.len.result ≡ n = search rules in
    let e : c.push.new.self ≡ marks ++ mark ∷ [] = search rules in
    subst (λ (ms : List Bool). AreMarks (n + 1) (IsOnRing g) ms) (sym e)
    (one_mark_more (IsOnRing g) n marks mark c.loop-next.invariant (subst (λ x. IsTrue mark ↔ IsOnRing g x) len is))
