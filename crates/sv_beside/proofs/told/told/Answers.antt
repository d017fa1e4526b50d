use Rattle.std.proofs.Common.{sym, ◌∙◌}
use Rattle.sv_beside.proofs.Telling.{two_of_sum, two_of_difference, two_of_product, two_of_comparison, two_of_equation, told_literal, told_sum, told_difference, told_product, told_comparison, told_equation}
use Rattle.sv_beside.proofs.told.told.Goals as goal

pub pair-a-requires : goal.pair-a-requires
pair-a-requires c = two_of_sum c.args.terms.now c.is_sound.ensures c.args.n c.node-shape.result.0 c.node-shape.result.1.now c.requires c.node-shape.ensures c.in-Add.is

pub pair-a-requires-in-Sub : goal.pair-a-requires-in-Sub
pair-a-requires-in-Sub c = two_of_difference c.args.terms.now c.is_sound.ensures c.args.n c.node-shape.result.0 c.node-shape.result.1.now c.requires c.node-shape.ensures c.in-Sub.is

pub pair-a-requires-in-Mul : goal.pair-a-requires-in-Mul
pair-a-requires-in-Mul c = two_of_product c.args.terms.now c.is_sound.ensures c.args.n c.node-shape.result.0 c.node-shape.result.1.now c.requires c.node-shape.ensures c.in-Mul.is

pub pair-a-requires-in-Le : goal.pair-a-requires-in-Le
pair-a-requires-in-Le c = two_of_comparison c.args.terms.now c.is_sound.ensures c.args.n c.node-shape.result.0 c.node-shape.result.1.now c.requires c.node-shape.ensures c.in-Le.is

pub pair-a-requires-in-Eq : goal.pair-a-requires-in-Eq
pair-a-requires-in-Eq c = two_of_equation c.args.terms.now c.is_sound.ensures c.args.n c.node-shape.result.0 c.node-shape.result.1.now c.requires c.node-shape.ensures c.in-Eq.is

pub returns-in-Lit : goal.returns-in-Lit
returns-in-Lit c = told_literal c.args.terms.now c.is_sound.ensures c.args.n c.node-shape.result.0 c.node-shape.result.1.now c.requires c.node-shape.ensures c.in-Lit.negative c.in-Lit.m c.in-Lit.is

pub returns-in-Add : goal.returns-in-Add
returns-in-Add c = told_sum c.args.terms.now c.is_sound.ensures c.args.n c.node-shape.result.0 c.node-shape.result.1.now c.requires c.node-shape.ensures _ _ c.pair-a.ensures c.in-Add.is

pub returns-in-Sub : goal.returns-in-Sub
returns-in-Sub c = told_difference c.args.terms.now c.is_sound.ensures c.args.n c.node-shape.result.0 c.node-shape.result.1.now c.requires c.node-shape.ensures _ _ c.pair-a-in-Sub.ensures c.in-Sub.is

pub returns-in-Mul : goal.returns-in-Mul
returns-in-Mul c = told_product c.args.terms.now c.is_sound.ensures c.args.n c.node-shape.result.0 c.node-shape.result.1.now c.requires c.node-shape.ensures _ _ c.pair-a-in-Mul.ensures c.in-Mul.is

pub returns-in-Le : goal.returns-in-Le
returns-in-Le c = told_comparison c.args.terms.now c.is_sound.ensures c.args.n c.node-shape.result.0 c.node-shape.result.1.now c.requires c.node-shape.ensures _ _ c.pair-a-in-Le.ensures c.in-Le.is

pub returns-then-is_num : goal.returns-then-is_num
returns-then-is_num c = told_equation c.args.terms.now c.is_sound.ensures c.args.n c.node-shape.result.0 c.node-shape.result.1.now c.requires c.node-shape.ensures _ _ c.pair-a-in-Eq.ensures c.in-Eq.is (sym c.is_num.ensures ∙ c.if-is_num.true)
