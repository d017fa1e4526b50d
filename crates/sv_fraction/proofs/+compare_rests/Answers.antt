use Rattle.std.proofs.Common.{◌<◌, ◌≡◌, ◌/◌, ◌%◌, sym, arith}
use Rattle.sv_fraction.proofs.Comparing.{less, rest_less, rest_same, none_left, none_both, turned}
use Rattle.sv_fraction.proofs.+compare_rests.Goals as goal

pub returns-then-own-others : goal.returns-then-own-others
returns-then-own-others t c = less c.args.a c.args.b c.args.c c.args.d c.requires.first c.requires.second c.if-own-others.true

pub returns-then-others-own : goal.returns-then-others-own
returns-then-others-own t c = less c.args.c c.args.d c.args.a c.args.b c.requires.second c.requires.first c.if-others-own.true

pub returns-then-others_rest-eq0 : goal.returns-then-others_rest-eq0
returns-then-others_rest-eq0 t c = let e : c.args.a / c.args.b ≡ c.args.c / c.args.d = omega (arith, c.if-own-others.false, c.if-others-own.false) in
    rest_same c.args.a c.args.b c.args.c c.args.d c.requires.first c.requires.second e (none_both _ _ _ _ c.if-own_rest-eq0.true c.if-others_rest-eq0.true)

pub returns-else-others_rest-eq0 : goal.returns-else-others_rest-eq0
returns-else-others_rest-eq0 t c = let e : c.args.a / c.args.b ≡ c.args.c / c.args.d = omega (arith, c.if-own-others.false, c.if-others-own.false) in
    let l : 0 < c.args.c % c.args.d = omega (arith, c.if-others_rest-eq0.false) in
    rest_less c.args.a c.args.b c.args.c c.args.d c.requires.first c.requires.second e (none_left _ _ _ _ c.if-own_rest-eq0.true l c.requires.first)

pub returns-then-others_rest-eq0-2 : goal.returns-then-others_rest-eq0-2
returns-then-others_rest-eq0-2 t c = let e : c.args.a / c.args.b ≡ c.args.c / c.args.d = omega (arith, c.if-own-others.false, c.if-others-own.false) in
    let l : 0 < c.args.a % c.args.b = omega (arith, c.if-own_rest-eq0.false) in
    rest_less c.args.c c.args.d c.args.a c.args.b c.requires.second c.requires.first (sym e) (none_left _ _ _ _ c.if-others_rest-eq0-2.true l c.requires.second)

pub returns-else-others_rest-eq0-2 : goal.returns-else-others_rest-eq0-2
returns-else-others_rest-eq0-2 t c = let e : c.args.a / c.args.b ≡ c.args.c / c.args.d = omega (arith, c.if-own-others.false, c.if-others-own.false) in
    turned c.args.a c.args.b c.args.c c.args.d c.requires.first c.requires.second e c.compare_rests.result c.compare_rests.ensures
