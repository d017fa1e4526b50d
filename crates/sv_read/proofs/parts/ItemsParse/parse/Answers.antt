use Rattle.std.proofs.Common.{sym, ◌∙◌, ap, length, arith}
use Rattle.sv_read.specs.PartReading.{no_memory}
use Rattle.sv_read.proofs.Exits.{left_by}
use Rattle.sv_read.proofs.Moving.{moves}
use Rattle.sv_read.proofs.Reading.{repeats_push, repeats_end, fails_repeats}
use Rattle.sv_read.proofs.Nesting.{may_on}
use Rattle.sv_read.proofs.parts.ItemsParse.parse.Goals as goal

pub more-smaller : goal.more-smaller
more-smaller g c =
    let moved = moves g.met.A.Begins.filled c.in_ok-parse.ensures in
    let same = ap (λ given. length given.tokens) c.in_ok-parse.ensures.same in
    omega arith

pub more-preserved : goal.more-preserved
more-preserved g c = repeats_push g.A.Parse.tree c.more.items c.push.new.self c.in_ok-parse.field-0 c.in_ok-push.ensures.ok c.more.invariant (sym c.begins.ensures ∙ c.more-test.true) c.in_ok-parse.ensures

pub returns-in_err-parse : goal.returns-in_err-parse
returns-in_err-parse g c = left_by _ _ _ _ _ _ c.from_residual.ensures (fails_repeats c.more.invariant (sym c.begins.ensures ∙ c.more-test.true) c.in_err-parse.ensures)

pub returns-in_err-push : goal.returns-in_err-push
returns-in_err-push g c = left_by _ _ _ _ _ _ c.from_residual-in_err-push.ensures no_memory

pub returns : goal.returns
returns g c = repeats_end c.more.invariant (sym c.begins.ensures ∙ c.more-test.false)

pub parse-requires : goal.parse-requires
parse-requires g c = may_on c.requires c.more.invariant.ordered
