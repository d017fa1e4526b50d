use Rattle.std.proofs.Common.{◌∙◌, ap, map, arith}
use Rattle.sv_lin.specs.EliminationAnswers.{placed_by}
use Rattle.sv_lin.proofs.Answering.{listed_more, listed_all}
use Rattle.sv_lin.proofs.elimination.listed.Goals as goal

pub loop-place-preserved : goal.loop-place-preserved
loop-place-preserved c = listed_more c.loop-place.list.items c.push.new.self.items c.args.places.now c.loop-place.place-index c.place-item.result c.triple.result c.loop-place.invariant c.in_ok-push.ensures.items (omega arith) c.place-item.is c.triple.ensures

pub returns : goal.returns
returns c = listed_all c.from_vec.result c.args.places.now c.loop-place.place-index (ap (map placed_by) c.from_vec.ensures ∙ c.loop-place.invariant) (omega arith)
