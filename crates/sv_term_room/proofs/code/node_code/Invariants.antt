use Rattle.std.proofs.Common.{◌≡◌, ◌∷◌, [], drop}
use Rattle.sv_term_room.specs.NodeCodes.{code_from, mixed_all}
use Rattle.sv_term_room.proofs.code.node_code.Given as goal

-- what is left to mix in
abbrev pub invariant-loop-number : goal.invariant-loop-number
invariant-loop-number l = mixed_all (code_from (l.kind ∷ l.first ∷ l.second ∷ [])) l.args ≡ mixed_all l.code (drop l.number-index l.args)
