-- Believed: answers of elimination worked by hand. Hold it against what is told beside each.
use Rattle.std.specs.Prelude.{◌^◌, List, [], ◌∷◌, pos, negsuc, neg_ℤ}
use Rattle.sv_log.specs.LogEntries.{Row, Entry, Combine}
use Rattle.sv_log.specs.LogRows.{monomial, row}
use Rattle.sv_fraction.specs.Fractions.{ratio}
use Rattle.sv_lin.specs.Eliminations.{Placed, IsContradiction, IsPoint, IsSpent, AreExceedingRows, IsExceedingValue, IsExcess}

abbrev pub placed_zero : Placed
placed_zero = record { column = 0; value = ratio (pos 0) (pos 1) }

-- x <= 0, with x as column 0
abbrev pub at_most_zero : Row
at_most_zero = row (pos 0) (monomial (pos 1) 0 ∷ [])

-- 1 - x <= 0
abbrev pub at_least_one : Row
at_least_one = row (pos 1) (monomial (negsuc 0) 0 ∷ [])

-- once the one and once the other make 1 <= 0
abbrev pub into_one : List Entry
into_one = Combine (pos 1) 0 (pos 1) 1 (row (pos 1) []) ∷ []

-- -2^127 + x <= 0, whose bound is the negative of -2^127
abbrev pub at_most_the_border : Row
at_most_the_border = row (neg_ℤ (pos (2 ^ 127))) (monomial (pos 1) 0 ∷ [])

-- 2^126 + x + 3 y <= 0 and 1 + x - 2 y <= 0, with y as column 1: twice the first has the constant 2^127
abbrev pub large : Row
large = row (pos (2 ^ 126)) (monomial (pos 1) 0 ∷ monomial (pos 3) 1 ∷ [])

abbrev pub small : Row
small = row (pos 1) (monomial (pos 1) 0 ∷ monomial (negsuc 1) 1 ∷ [])

-- 2 x <= 0
abbrev pub twice_at_most_zero : Row
twice_at_most_zero = row (pos 0) (monomial (pos 2) 0 ∷ [])

pub record WorkedRows : Type 0 where
  -- x <= 0 and 1 - x <= 0 contradict
  pub contradict : IsContradiction (at_most_zero ∷ at_least_one ∷ []) into_one
  -- no point meets both
  pub no_point : (es : List Entry) (ps : List Placed) → IsPoint (at_most_zero ∷ at_least_one ∷ []) es ps → ⊥
  -- with the limit 1 the same entry has spent it
  pub spent : IsSpent (at_most_zero ∷ at_least_one ∷ []) 1 into_one
  -- x <= 0 has the nearest point 0, without entries
  pub point : IsPoint (at_most_zero ∷ []) [] (placed_zero ∷ [])
  -- and not -1, which the row allows
  pub not_nearest : (es : List Entry) → IsPoint (at_most_zero ∷ []) es (record { column = 0; value = ratio (negsuc 0) (pos 1) } ∷ []) → ⊥
  -- 2 x <= 0 has to be divided by 2
  pub not_undivided : (ps : List Placed) → IsPoint (twice_at_most_zero ∷ []) [] ps → ⊥
  -- each column is listed
  pub not_left_out : (es : List Entry) → IsPoint (at_most_zero ∷ []) es [] → ⊥
  -- a bound of 2^127 is too large
  pub value : IsExceedingValue (at_most_the_border ∷ []) [] 0 []
  -- a multiple with 2^127 is too large
  pub exceeding : AreExceedingRows (large ∷ small ∷ []) 0 1
  pub excess : IsExcess (large ∷ small ∷ []) []
