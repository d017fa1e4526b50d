-- Serves the proof: where what nests may be read, and function values that read it.
use Rattle.std.specs.Prelude.{ℕ, ◌<◌, ◌≤◌, Bool, true, false, ◌&&◌, ◌||◌, Result}
use denote.Ref.{MutBor}
use Rattle.sv_grammar.specs.Grammar.{Part, Tree, nothing, word, text, seq, alt, opt, star, both, side}
use Rattle.sv_grammar.specs.Reading.{nullable}
use Rattle.sv_ast.specs.Syntax.{Side}
use Rattle.sv_ast.specs.Firsts.{nulls}
use Rattle.sv_read.specs.Here.{Here}
use Rattle.sv_read.specs.PartReading.{Reads}
use Rattle.sv_read.specs.declared.parse_error.ParseError.{ParseError}

-- the part may come to one of these sides before it has read a token
abbrev pub leads : (Side → Bool) → Part Side → Bool
leads inner nothing = false
leads inner (word cs) = false
leads inner (text cs) = false
leads inner (seq a b) = leads inner a || (nullable nulls a && leads inner b)
leads inner (alt a b) = leads inner a || leads inner b
leads inner (opt a) = leads inner a
leads inner (star a) = leads inner a
leads inner (both k a b) = leads inner a || leads inner b
leads inner (side s) = inner s

-- the position is at or behind the other, and behind it where that is asked for
abbrev pub IsBehind : Bool → ℕ → ℕ → Type 0
IsBehind true floor at = floor < at
IsBehind false floor at = floor ≤ at

-- A part may be read here that comes to what nests before it has read a token, or doesn't: what nests may be read behind the floor.
pub record MayRead (may_nest : Type 0) (floor : ℕ) (is_led : Bool) (at : ℕ) : Type 0 where
  pub nests : may_nest
  pub behind : IsBehind is_led floor at

-- the function value may be called at each position behind the floor, and reads the part there
pub record Nests {X : Type 0} (tree : X → Tree) (a : Part Side) (floor : ℕ) (pre : MutBor Here → Type 0) (post : MutBor Here → Result X ParseError → MutBor Here → Type 0) : Type 0 where
  pub callable : (old : MutBor Here) → floor < old.now.at → pre old
  pub reads : (old new : MutBor Here) (r : Result X ParseError) → floor < old.now.at → post old r new → Reads tree a old.now r new.now
