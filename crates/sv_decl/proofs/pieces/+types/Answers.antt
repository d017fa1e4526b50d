use Rattle.std.proofs.Common.{arith}
use Rattle.sv_decl.proofs.Views.{noted}
use Rattle.sv_decl.proofs.pieces.+types.Goals as goal

pub add_parts-returns-in-Elementary : goal.add_parts-returns-in-Elementary
add_parts-returns-in-Elementary t c = grind (arith, noted)

pub add_parts-returns-in-Address : goal.add_parts-returns-in-Address
add_parts-returns-in-Address t c = grind (arith, noted)

pub add_parts-returns-in-String : goal.add_parts-returns-in-String
add_parts-returns-in-String t c = grind (arith, noted)

pub add_parts-returns-in-Named : goal.add_parts-returns-in-Named
add_parts-returns-in-Named t c = grind (arith, noted)

pub add_parts-returns-in_ok-add_type-in-Mapping : goal.add_parts-returns-in_ok-add_type-in-Mapping
add_parts-returns-in_ok-add_type-in-Mapping t c = grind (arith, noted)

pub add_type-returns : goal.add_type-returns
add_type-returns t c = grind (arith, noted)
