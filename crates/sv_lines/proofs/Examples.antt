-- Orders that are computed.
use Rattle.std.proofs.Common.{◌≡◌, [], ◌∷◌, refl, None}
use Rattle.sv_lines.specs.Lines.{pick, to_merge, IsOrder}

-- a diamond: D is B, C with B is A, C is A; the base named last comes first
diamond : IsOrder ((0 ∷ []) ∷ (1 ∷ 0 ∷ []) ∷ (2 ∷ 0 ∷ []) ∷ []) 3 (1 ∷ 2 ∷ []) (3 ∷ 2 ∷ 1 ∷ 0 ∷ [])
diamond = (2 ∷ 1 ∷ 0 ∷ [], refl, (refl, (refl, (refl, refl))))

-- C is B, A with B is A: no head can be taken
crossed : pick (to_merge ((0 ∷ []) ∷ (1 ∷ 0 ∷ []) ∷ []) (1 ∷ 0 ∷ [])) ≡ None
crossed = refl
