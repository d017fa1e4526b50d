-- Serves the proof: the branches of an `if`, from an `else` on.
use Rattle.std.specs.Prelude.{ℕ, ◌-◌, ◌≤◌, List, [], ◌∷◌, map, length}
use Rattle.std.specs.Option.{option_map}
use Rattle.sv_grammar.specs.Grammar.{opt, side, Tree, some, extent_of}
use Rattle.sv_grammar.specs.Reach.{between}
use Rattle.sv_ast.specs.Syntax as s
use Rattle.sv_ast.specs.StmtTrees.{Branch, branches_tree, else_if_tree, else_tree}
use Rattle.sv_read.specs.Here.{Here}
use Rattle.sv_read.specs.PartReading.{Gives, Fails}
use Rattle.sv_read.specs.declared.parse_error.ParseError.{ParseError}
use Rattle.sv_parse_stmt.specs.declared.if_stmt.Branches as code

-- the offset behind the last byte of the tokens up to the cursor
abbrev pub end_at : Here → ℕ
end_at h = (extent_of (between h.given.tokens (h.at - 1) h.at)).to

-- the tree of the branches, which end at the cursor
abbrev pub ended_tree : Here → code.Branches → Tree
ended_tree h b = branches_tree (end_at h) (map else_if_tree b.else_ifs) (option_map else_tree b.otherwise)

-- these branches, and then what follows them
abbrev pub branches_on : ℕ → List Branch → Tree → Tree
branches_on end [] t = t
branches_on end (b ∷ bs) t = some (b end (branches_on end bs t))

-- with these branches in front, what is read from now on is what is read from the start
pub record Branches (start : Here) (bs : List Branch) (now : Here) : Type 0 where
  pub gives : (t : Tree) (new : Here) → new.at ≤ length new.given.tokens → Gives (opt (side s.else_part)) now t new → Gives (opt (side s.else_part)) start (branches_on (end_at new) bs t) new
  pub fails : (e : ParseError) → Fails (opt (side s.else_part)) now e → Fails (opt (side s.else_part)) start e
