use Rattle.std.proofs.Common.{◌∙◌, ◌≡◌, List, [], ◌∷◌, length, take, slice_get, None, sym, ap, subst, arith, ℕ}
use Rattle.std.proofs.lemmas.Grind.{common_steps}
use Rattle.std.proofs.lemmas.Option.{slice_get_within}
use Rattle.std.proofs.lemmas.List.{length-append}
use Rattle.sv_term.specs.Banks.{args}
use Rattle.sv_goal_room.specs.GoalFilling.{ArePlaces}
use Rattle.sv_goal_room.proofs.GoalOrder.{places_none, places_more, places_all, at_among, has_number, number_is, at_length}
use Rattle.sv_goal_room.proofs.node.arg_numbers.Goals as goal

pub loop-arg-init : goal.loop-arg-init
loop-arg-init c = subst (λ (l : List ℕ). ArePlaces c.args.terms.now (take (length l) (args c.args.node.now)) l) (sym c.new-numbers.ensures.items) (places_none c.args.terms.now (args c.args.node.now))

pub unwrap-requires : goal.unwrap-requires
unwrap-requires c = has_number c.args.terms.now c.in-Some.arg c.number_of.result c.number_of.ensures (at_among c.args.terms.now (args c.args.node.now) c.len.result c.in-Some.arg c.requires (sym c.arg.ensures.is ∙ c.in-Some.is))

pub loop-arg-smaller : goal.loop-arg-smaller
loop-arg-smaller c =
    let w = slice_get_within (args c.args.node.now) c.len.result c.in-Some.arg (sym c.arg.ensures.is ∙ c.in-Some.is) in
    let more = ap (λ (l : List ℕ). length l) c.in_ok-push.ensures.items in
    let one = length-append c.loop-arg.numbers.items (c.unwrap.result ∷ []) in
    omega (arith, w, more, one, c.len.ensures)

pub loop-arg-preserved : goal.loop-arg-preserved
loop-arg-preserved c =
    let at = at_length (args c.args.node.now) c.len.result c.in-Some.arg c.loop-arg.numbers.items (grind (arith, common_steps)) (sym c.arg.ensures.is ∙ c.in-Some.is) in
    subst (λ (l : List ℕ). ArePlaces c.args.terms.now (take (length l) (args c.args.node.now)) l) (sym c.in_ok-push.ensures.items)
    (places_more c.args.terms.now (args c.args.node.now) c.loop-arg.numbers.items c.in-Some.arg c.unwrap.result c.loop-arg.invariant at
    (number_is c.args.terms.now c.in-Some.arg c.number_of.result c.number_of.ensures c.unwrap.result (grind (arith, common_steps))))

pub returns-in_err-push : goal.returns-in_err-push
returns-in_err-push c = grind (arith, common_steps)

pub returns : goal.returns
returns c =
    let past : slice_get (args c.args.node.now) (length c.loop-arg.numbers.items) ≡ None = ap (slice_get (args c.args.node.now)) (grind (arith, common_steps)) ∙ sym c.arg.ensures.is ∙ c.in_default.is in
    places_all c.args.terms.now (args c.args.node.now) c.loop-arg.numbers.items c.loop-arg.invariant past
