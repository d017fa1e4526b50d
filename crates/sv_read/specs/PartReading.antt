-- Serves the proof: what a function gives that reads a part of the grammar from where the cursor stands.
use Rattle.std.specs.Prelude.{◌≡◌, ℕ, ◌≤◌, List, ◌∷◌, map, drop, length, Result, Ok, Err}
use Rattle.sv_grammar.specs.Grammar.{Part, Tree, unit, pair, star, seq}
use Rattle.sv_grammar.specs.Named.{Spells}
use Rattle.sv_grammar.specs.Reading as r
use Rattle.sv_grammar.specs.Reading.{found, fault}
use Rattle.sv_grammar.specs.ListTrees.{append_trees}
use Rattle.sv_ast.specs.Syntax.{Side, rules, quoted}
use Rattle.sv_ast.specs.declared.class.Class.TheVariants as k
use Rattle.sv_ast.specs.Firsts.{nulls, firsts}
use Rattle.sv_read.specs.Here.{Here}
use Rattle.sv_read.specs.declared.parse_error.ParseError.{ParseError}
use Rattle.sv_read.specs.declared.parse_error.ParseError.TheVariants.{Syntax, NoMemory}

-- the part is read, by the tree, and the cursor stands behind it
pub record Gives (a : Part Side) (old : Here) (t : Tree) (new : Here) : Type 0 where
  pub same : new.given ≡ old.given
  pub derivation : Tree
  pub spelled : Spells old.given.names t derivation
  pub read : r.Reads rules nulls firsts a (drop old.at old.given.tokens) (found derivation (drop new.at old.given.tokens))
  pub ordered : old.at ≤ new.at

-- the part is not read: up to the position of the error, or memory ran out
pub data Fails (a : Part Side) (old : Here) : ParseError → Type 0 where
  fails_at : {to : ℕ} → r.Reads rules nulls firsts a (drop old.at old.given.tokens) (fault (drop to old.given.tokens)) → old.at ≤ to → to ≤ length old.given.tokens
      → Fails a old (Syntax to)
  no_memory : Fails a old NoMemory

-- the answer of a reader, and where it leaves the cursor
abbrev pub Reads : {X : Type 0} → (X → Tree) → Part Side → Here → Result X ParseError → Here → Type 0
Reads tree a old (Ok x) new = Gives a old (tree x) new
Reads tree a old (Err e) new = Fails a old e

-- the tree of a part that has no value
abbrev pub no_tree : Unit {0} → Tree
no_tree x = unit

-- the trees of two parts in a row
abbrev pub pair_tree : {X Y : Type 0} → (X → Tree) → (Y → Tree) → X × Y → Tree
pair_tree one two p = pair (one p.0) (two p.1)

-- with these trees in front, what is read from now on is what is read from the start
pub record Repeats (a : Part Side) (start : Here) (ts : List Tree) (now : Here) : Type 0 where
  pub gives : (t : Tree) (new : Here) → Gives (star a) now t new → Gives (star a) start (append_trees ts t) new
  pub fails : (e : ParseError) → Fails (star a) now e → Fails (star a) start e
  pub ordered : start.at ≤ now.at

-- one part, and then others with a comma before each
pub record Lists (a : Part Side) (start : Here) (ts : List Tree) (now : Here) : Type 0 where
  pub mid : Here
  pub first : Tree
  pub others : List Tree
  pub is : ts ≡ first ∷ others
  pub given : Gives a start first mid
  pub repeats : Repeats (seq (quoted k.Comma) a) mid (map (pair unit) others) now
