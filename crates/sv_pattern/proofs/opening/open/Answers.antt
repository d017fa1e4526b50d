use Rattle.std.proofs.Common.{ℕ, ◌≡◌, length, arith}
use Rattle.sv_pattern.proofs.NumberedTrees.{below_named, opened, miscounted}
use Rattle.sv_pattern.proofs.opening.open.Goals as goal

pub returns-then-args-count : goal.returns-then-args-count
returns-then-args-count g c =
    let other : length c.args-args.result.now ≡ c.args.count → ⊥ = (λ e. c.if-args-count.true e) in
    miscounted (g.T.TermNumbers.trees c.args.terms.now) c.args.names.now.items c.args-args.result.now c.args.k c.in-Some.n c.args.name c.args.count c.in-Some.ensures c.args-args.ensures other

pub returns : goal.returns
returns g c =
    opened (g.T.TermNumbers.trees c.args.terms.now) c.args.names.now.items c.append.new.registers.items c.args-args.result.now c.args.k c.in-Some.n c.args.name c.args.count
    (below_named (g.T.TermNumbers.trees c.args.terms.now) c.args.names.now.items c.args.k c.in-Some.n c.requires.0 c.in-Some.ensures) c.in-Some.ensures (c.is_named.ensures.0 c.if-not-is_named.false) c.args-args.ensures c.if-args-count.false c.append.ensures
