-- Serves the proof: parts of the rule of arguments.
use Rattle.sv_grammar.specs.Grammar.{Part, opt, side}
use Rattle.sv_ast.specs.declared.class.Class.TheVariants as k
use Rattle.sv_ast.specs.Syntax.{Side, expr, quoted, id, listed, ◌⊙◌, ◌∣◌}

-- an argument with its name
abbrev pub named : Part Side
named = id ⊙ quoted k.Colon ⊙ side expr

-- what follows the `(`
abbrev pub args_part : Part Side
args_part = opt (listed (side expr)) ⊙ quoted k.RParen ∣ quoted k.LBrace ⊙ opt (listed named) ⊙ quoted k.RBrace ⊙ quoted k.RParen
