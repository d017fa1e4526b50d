use Rattle.std.proofs.Common.{rules, ◌≡◌, [], replicate}
use Rattle.sv_form_bases.specs.EdgeGraphs.{room_from, linked_all}
use Rattle.sv_form_bases.proofs.Linking.{is_graph}
use Rattle.sv_form_bases.proofs.graph.graph_of.Goals as goal

pub returns : goal.returns
returns c =
    let made : c.link_all.new.graph.items ≡ linked_all c.args.edges.now (replicate (room_from 0 c.args.edges.now) []) = search rules in
    is_graph c.args.edges.now c.link_all.new.graph.items made
