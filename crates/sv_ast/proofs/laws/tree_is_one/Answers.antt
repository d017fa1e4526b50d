use Rattle.sv_ast.proofs.Exactly.{tree_is_one, notes_are_one}
use Rattle.sv_ast.proofs.Named.{named_one}
use Rattle.sv_ast.proofs.laws.tree_is_one.Goals as goal

pub returns : goal.returns
returns c = record { derived = tree_is_one; named = λ s. named_one (tree_is_one s); notes = notes_are_one; named_notes = named_one notes_are_one }
