use Rattle.std.proofs.Common.{rules, ◌≡◌, ◌↔◌, Bool, IsTrue, List, ℕ, [], false, length, get_or, slice_index_or, sym, subst}
use Rattle.sv_reach.specs.Paths.{AreMarks, IsReached, IsOnRing}
use Rattle.sv_reach.proofs.Returning.{ring_found}
use Rattle.sv_reach.proofs.rings.leads_back.Goals as goal

pub returns : goal.returns
returns c =
    let g = c.args.graph.now in
    let all : AreMarks (length g) (IsReached g c.args.next.now) c.in_ok-met.met = search rules in
    let mark : c.is_marked-2.result ≡ get_or c.in_ok-met.met c.args.node false = search rules in
    ring_found g c.args.node c.args.next.now c.in_ok-met.met c.is_marked-2.result c.requires.0.0 c.requires.0.1 all mark
