-- Serves the proof: what nests in statements, parts of rules, and the tree of a statement that its first word tells.
use Rattle.std.specs.Prelude.{ℕ, Bool, true, false, List, [], ◌∷◌, ◌++◌, map}
use Rattle.sv_grammar.specs.Grammar.{Tree, unit, name}
use Rattle.sv_ast.specs.Terminals.{code}
use Rattle.sv_ast.specs.declared.class.Class.TheVariants as k
use Rattle.sv_ast.specs.Syntax.{Side, stmt, ids}
use Rattle.sv_ast.specs.Trees.{◌⊗◌}
use Rattle.sv_ast.specs.ExprTrees.{args_tree}
use Rattle.sv_ast.specs.SimpleTrees.{return_tree}
use Rattle.sv_ast.specs.declared.post.Args.{Args}
use Rattle.sv_ast.specs.declared.simple.Return.{Return}
use Rattle.sv_read.specs.EitherTree.{either_tree}
use Rattle.sv_read.specs.declared.either.Either.{Either}

-- what is read by who reads what nests, behind the first token of what holds it
abbrev pub inner : Side → Bool
inner stmt = true
inner _ = false

-- the classes by which a declaration in a slot goes on in place of a name alone
abbrev pub but_name : List ℕ
but_name = map code (k.Dot ∷ k.LBracket ∷ k.Storage ∷ k.Memory ∷ k.Calldata ∷ []) ++ ids

-- a word, a name and arguments
abbrev pub called_tree : {W : Type 0} → W × ℕ × Args → Tree
called_tree s = unit ⊗ name s.1 ⊗ args_tree s.2

-- a return, one of three words alone, or one of two with a name and arguments
abbrev pub told_tree : {A B C D E : Type 0} → Either Return (Either A (Either B (Either C (Either (D × ℕ × Args) (E × ℕ × Args))))) → Tree
told_tree = either_tree return_tree (either_tree (λ _. unit) (either_tree (λ _. unit) (either_tree (λ _. unit) (either_tree called_tree called_tree))))
