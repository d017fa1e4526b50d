use Rattle.std.proofs.Common.{◌+◌, length}
use Rattle.sv_row.specs.RowParts.{monomials, IsNormal}
use Rattle.sv_derived.specs.RowSums.{IsSumOf}
use Rattle.sv_derived.proofs.sum.is_sum.Given as goal

-- the claim on all parts is the claim on those that are left
abbrev pub invariant-loop-x : goal.invariant-loop-x
invariant-loop-x l = record {
  own : IsNormal (monomials l.own_left);
  other : IsNormal (monomials l.other_left);
  down : IsSumOf l.m (monomials l.own) l.n (monomials l.other) (monomials l.made) → IsSumOf l.m (monomials l.own_left) l.n (monomials l.other_left) (monomials l.made_left);
  up : IsSumOf l.m (monomials l.own_left) l.n (monomials l.other_left) (monomials l.made_left) → IsSumOf l.m (monomials l.own) l.n (monomials l.other) (monomials l.made);
}

abbrev pub decreases-loop-x : goal.decreases-loop-x
decreases-loop-x l = length l.own_left + length l.other_left
