use Rattle.std.proofs.Common.{refl, ◌∙◌}
use Rattle.sv_new_term.proofs.Offering.{fits_tree, there, named_there, addable}
use Rattle.sv_new_term.proofs.by_number.offer_node.Goals as goal

pub find-requires-clause-sort : goal.find-requires-clause-sort
find-requires-clause-sort c = named_there c.args.room.now.cells c.args.shape c.requires.node.1

pub add-requires : goal.add-requires
add-requires c = addable c.args.room.now c.args.shape c.args.args.now c.in-Some.needed c.is_sound.ensures c.requires.node c.in-Some.ensures c.in-None-find.ensures c.requires.room

pub returns-in-Some-find : goal.returns-in-Some-find
returns-in-Some-find c = (
  refl,
  fits_tree c.args.room.now c.is_sound.ensures c.args.shape c.args.args.now c.requires.node.0 ∙ c.in-Some.ensures.fitting,
  there c.args.room.now c.is_sound.ensures c.in-Some-find.field-0 _ c.in-Some-find.ensures,
)

pub returns-in-None-find : goal.returns-in-None-find
returns-in-None-find c = (
  fits_tree c.args.room.now c.is_sound.ensures c.args.shape c.args.args.now c.requires.node.0 ∙ c.in-Some.ensures.fitting,
  (λ x. c.in-None-find.ensures x),
  c.add.ensures,
)
