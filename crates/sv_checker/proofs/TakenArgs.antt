-- The arguments of the first terms of a room.
use Rattle.std.proofs.Common.{ℕ, zero, suc, ◌+◌, List, [], ◌∷◌, ◌≡◌, length, take, slice_get, Some, ap, ◌∙◌, arith}
use Rattle.sv_list_room.specs.NumberLists.{numbers_in}
use Rattle.sv_term_room.specs.TermRows.{TermRow, args_of}

pub args_more : (rows : List TermRow) (n : ℕ) (r : TermRow) → slice_get rows n ≡ Some r → numbers_in (args_of (take (n + 1) rows)) ≡ numbers_in (args_of (take n rows)) + length r.node.args
args_more [] n r e = absurd (cc e)
args_more (q ∷ rows) zero r e = let s : q ≡ r = cc e in let l = ap (λ (x : TermRow). length x.node.args) s in omega (arith, l)
args_more (q ∷ rows) (suc n) r e =
    let h = args_more rows n r e in
    let s : suc n + 1 ≡ suc (n + 1) = omega arith in
    ap (λ k. numbers_in (args_of (take k (q ∷ rows)))) s ∙ (let x : length q.node.args + numbers_in (args_of (take (n + 1) rows)) ≡ length q.node.args + numbers_in (args_of (take n rows)) + length r.node.args = omega (arith, h) in x)
