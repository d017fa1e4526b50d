-- The definitions on rows worked by hand.
use Rattle.std.proofs.Common.{ℕ, zero, suc, [], ◌∷◌, ◌≡◌, refl, pos, negsuc}
use Rattle.sv_log.specs.LogRows.{monomial}
use Rattle.sv_fraction.specs.Fractions.{Ratio, ratio}
use Rattle.sv_point.specs.NearestPoints.{worth}

-- 5 + 2·x at x = -5/2 is 0
half : (worth (λ x. ratio (negsuc 4) (pos 2)) (pos 5) (monomial (pos 2) 0 ∷ [])).top ≡ pos 0
half = refl

abbrev point : ℕ → Ratio
point zero = ratio (pos 1) (pos 2)
point (suc n) = ratio (pos 3) (pos 4)

-- 1 + 3·x - 2·y at x = 1/2, y = 3/4: (1·2 + 3·1)/2 is 5/2, and (5·4 - 2·3·2)/8 is 8/8
two_columns : worth point (pos 1) (monomial (pos 3) 0 ∷ monomial (negsuc 1) 1 ∷ []) ≡ ratio (pos 8) (pos 8)
two_columns = refl
