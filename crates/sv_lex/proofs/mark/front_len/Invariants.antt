-- The text begins with none of the fronts before the index.
use Rattle.std.proofs.Common.{List, ℕ, Bor, map}
use Rattle.sv_lex.proofs.MarkLemmas.{NoneFits}
use Rattle.sv_lex.proofs.mark.front_len.Given as goal

abbrev pub invariant-loop-front : goal.invariant-loop-front
invariant-loop-front l = NoneFits (map (λ (front : Bor (List ℕ)). front.now) l.fronts) l.text l.front-index
