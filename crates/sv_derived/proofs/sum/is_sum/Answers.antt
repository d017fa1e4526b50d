use Rattle.std.proofs.Common.{false, refl, rules}
use Rattle.std.specs.Prelude.{FitsSigned}
use Rattle.std.proofs.lemmas.Int.{to_z-of_z}
use mir.Syntax.{w128}
use Rattle.sv_row.specs.RowParts.{monomials}
use Rattle.sv_derived.specs.RowSums.{IsSumOf}
use Rattle.sv_derived.proofs.Cancelling.{refuses}
use Rattle.sv_derived.proofs.Walking.{read_claim, claim_read, unfit, differs, on, back, fewer_left, fewer_pairs, ended}
use Rattle.sv_derived.proofs.sum.is_sum.Goals as goal

pub loop-x-init : goal.loop-x-init
loop-x-init c = record { own = c.requires.normal.0; other = c.requires.normal.1; down = λ s. s; up = λ s. s }

pub least_column-requires : goal.least_column-requires
least_column-requires c = (c.loop-x.invariant.own, c.loop-x.invariant.other)

pub at_column-k-requires : goal.at_column-k-requires
at_column-k-requires c = (c.loop-x.invariant.own, c.in-Some.ensures.first)

pub at_column-l-requires : goal.at_column-l-requires
at_column-l-requires c = (c.loop-x.invariant.other, c.in-Some.ensures.second)

pub returns-in_default-combine : goal.returns-in_default-combine
returns-in_default-combine c =
    let im = to_z-of_z w128 c.args.m c.ranges.m in
    let jn = to_z-of_z w128 c.args.n c.ranges.n in
    let f : FitsSigned w128 c.at_column-k.result.0 = search rules in
    let g : FitsSigned w128 c.at_column-l.result.0 = search rules in
    refuses (IsSumOf c.args.m (monomials c.args.own.now) c.args.n (monomials c.args.other.now) (monomials c.args.made.now)) false refl
    (λ s. unfit c.args.m c.args.n _ _ im jn c.requires.positive.0 c.requires.positive.1 c.in-Some.x (monomials c.loop-x.own_left.now) (monomials c.loop-x.other_left.now)
    c.at_column-k.result.0 c.at_column-l.result.0 _ _ (to_z-of_z w128 c.at_column-k.result.0 f) (to_z-of_z w128 c.at_column-l.result.0 g)
    (monomials c.at_column-k.result.1.now) (monomials c.at_column-l.result.1.now) c.at_column-k.ensures c.at_column-l.ensures (monomials c.loop-x.made_left.now)
    (λ h. cc (c.in_default-combine.ensures.exact.1 h)) (c.loop-x.invariant.down (read_claim c.args.m c.args.n _ _ im jn _ _ _ s)))

pub returns-in_default-behind : goal.returns-in_default-behind
returns-in_default-behind c =
    let im = to_z-of_z w128 c.args.m c.ranges.m in
    let jn = to_z-of_z w128 c.args.n c.ranges.n in
    let f : FitsSigned w128 c.at_column-k.result.0 = search rules in
    let g : FitsSigned w128 c.at_column-l.result.0 = search rules in
    let i : FitsSigned w128 c.in-Some-combine.number = search rules in
    refuses (IsSumOf c.args.m (monomials c.args.own.now) c.args.n (monomials c.args.other.now) (monomials c.args.made.now)) false refl
    (λ s. differs c.args.m c.args.n _ _ im jn c.requires.positive.0 c.requires.positive.1 c.in-Some.x (monomials c.loop-x.own_left.now) (monomials c.loop-x.other_left.now)
    c.at_column-k.result.0 c.at_column-l.result.0 _ _ (to_z-of_z w128 c.at_column-k.result.0 f) (to_z-of_z w128 c.at_column-l.result.0 g)
    (monomials c.at_column-k.result.1.now) (monomials c.at_column-l.result.1.now) c.at_column-k.ensures c.at_column-l.ensures (monomials c.loop-x.made_left.now)
    c.in-Some-combine.number _ (to_z-of_z w128 c.in-Some-combine.number i) c.in-Some-combine.ensures.value c.in_default-behind.ensures
    (c.loop-x.invariant.down (read_claim c.args.m c.args.n _ _ im jn _ _ _ s)))

pub loop-x-smaller : goal.loop-x-smaller
loop-x-smaller c =
    let im = to_z-of_z w128 c.args.m c.ranges.m in
    let jn = to_z-of_z w128 c.args.n c.ranges.n in
    fewer_pairs c.loop-x.own_left.now c.loop-x.other_left.now c.at_column-k.result.1.now c.at_column-l.result.1.now
    (fewer_left c.args.m c.args.n _ _ im jn c.requires.positive.0 c.requires.positive.1 c.in-Some.x (monomials c.loop-x.own_left.now) (monomials c.loop-x.other_left.now)
    c.at_column-k.result.0 c.at_column-l.result.0 _ _ refl refl (monomials c.at_column-k.result.1.now) (monomials c.at_column-l.result.1.now) c.at_column-k.ensures c.at_column-l.ensures c.in-Some.ensures)

pub loop-x-preserved : goal.loop-x-preserved
loop-x-preserved c =
    let im = to_z-of_z w128 c.args.m c.ranges.m in
    let jn = to_z-of_z w128 c.args.n c.ranges.n in
    let f : FitsSigned w128 c.at_column-k.result.0 = search rules in
    let g : FitsSigned w128 c.at_column-l.result.0 = search rules in
    let i : FitsSigned w128 c.in-Some-combine.number = search rules in
    record {
      own = c.at_column-k.ensures.normal;
      other = c.at_column-l.ensures.normal;
      down = λ s. on c.args.m c.args.n _ _ im jn c.requires.positive.0 c.requires.positive.1 c.in-Some.x (monomials c.loop-x.own_left.now) (monomials c.loop-x.other_left.now)
          c.at_column-k.result.0 c.at_column-l.result.0 _ _ (to_z-of_z w128 c.at_column-k.result.0 f) (to_z-of_z w128 c.at_column-l.result.0 g)
          (monomials c.at_column-k.result.1.now) (monomials c.at_column-l.result.1.now) c.at_column-k.ensures c.at_column-l.ensures (monomials c.loop-x.made_left.now) (monomials c.in-Some-behind.rest.now)
          c.in-Some-combine.number _ (to_z-of_z w128 c.in-Some-combine.number i) c.in-Some-combine.ensures.value c.in-Some-behind.ensures (c.loop-x.invariant.down s);
      up = λ s. c.loop-x.invariant.up (back c.args.m c.args.n _ _ im jn c.requires.positive.0 c.requires.positive.1 c.in-Some.x (monomials c.loop-x.own_left.now) (monomials c.loop-x.other_left.now)
          c.at_column-k.result.0 c.at_column-l.result.0 _ _ (to_z-of_z w128 c.at_column-k.result.0 f) (to_z-of_z w128 c.at_column-l.result.0 g)
          (monomials c.at_column-k.result.1.now) (monomials c.at_column-l.result.1.now) c.at_column-k.ensures c.at_column-l.ensures (monomials c.loop-x.made_left.now) (monomials c.in-Some-behind.rest.now)
          c.in-Some-combine.number _ (c.in-Some-combine.ensures.exact.0 refl) (to_z-of_z w128 c.in-Some-combine.number i) c.in-Some-combine.ensures.value c.in-Some-behind.ensures s);
    }

pub returns : goal.returns
returns c =
    let im = to_z-of_z w128 c.args.m c.ranges.m in
    let jn = to_z-of_z w128 c.args.n c.ranges.n in
    let d = ended _ _ c.loop-x.own_left.now c.loop-x.other_left.now c.loop-x.made_left.now c.is_empty.result c.in_default.ensures.0 c.in_default.ensures.1 c.is_empty.ensures in
    ((λ t. claim_read c.args.m c.args.n _ _ im jn _ _ _ (c.loop-x.invariant.up (d.0 t))), λ s. d.1 (c.loop-x.invariant.down (read_claim c.args.m c.args.n _ _ im jn _ _ _ s)))
