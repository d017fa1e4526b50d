use Rattle.std.proofs.Common.{subst}
use Rattle.sv_sort_room.proofs.Seeking.{Sought, sought_from, sought_next, sought_end}
use Rattle.sv_term_room.specs.TermRows.{term_node, nodes_of}
use Rattle.sv_term_room.specs.NodeCodes.{code_of}
use Rattle.sv_term_room.proofs.TermRooms.{coded_now, found, found_none}
use Rattle.sv_term_room.proofs.room.TermRoom.find.Goals as goal

pub loop-at-init : goal.loop-at-init
loop-at-init c = sought_from code_of _ (term_node c.args.shape c.args.args.now) _ (coded_now _ _ _ _ _ _ _ _ c.self.view_is c.self.invariant.0) _ _ c.node_code.ensures c.last-at.ensures

pub loop-at-preserved : goal.loop-at-preserved
loop-at-preserved c =
    let there = subst (λ x. Sought code_of (nodes_of c.args.self.now.rows) (term_node c.args.shape c.args.args.now) x) c.in-Some.is c.loop-at.invariant in
    (sought_next code_of _ (term_node c.args.shape c.args.args.now) _ (coded_now _ _ _ _ _ _ _ _ c.self.view_is c.self.invariant.0) _ _ there
    (λ e. cc (c.if-has_node.false, c.has_node.ensures.1 e)) c.before-at.ensures).0

pub returns-then-has_node : goal.returns-then-has_node
returns-then-has_node c = found _ _ _ _ _ _ _ _ c.self.view_is c.self.invariant.0 c.in-Some.place c.args.shape c.args.args.now (c.has_node.ensures.0 c.if-has_node.true)

pub returns : goal.returns
returns c =
    found_none _ _ _ _ _ _ _ _ c.self.view_is c.self.invariant.0 c.is_sound.ensures c.args.shape c.args.args.now c.requires.args c.requires.sort
    (sought_end code_of _ (term_node c.args.shape c.args.args.now) _ (coded_now _ _ _ _ _ _ _ _ c.self.view_is c.self.invariant.0)
    (subst (λ x. Sought code_of (nodes_of c.args.self.now.rows) (term_node c.args.shape c.args.args.now) x) c.in_default.is c.loop-at.invariant))
