use Rattle.std.proofs.Common.{sym, ◌∙◌, ap, length, arith, refl}
use Rattle.sv_read.specs.PartReading.{no_memory}
use Rattle.sv_read.proofs.Exits.{left_by}
use Rattle.sv_read.proofs.Moving.{moves}
use Rattle.sv_read.proofs.Reading.{fails_seq}
use Rattle.sv_read.proofs.Lists.{lists_begin, lists_push, lists_end, fails_lists_word, fails_lists}
use Rattle.sv_read.proofs.Nesting.{may_first}
use Rattle.sv_read.proofs.listed.ListedParse.parse.Goals as goal

pub returns-in_err-first : goal.returns-in_err-first
returns-in_err-first g c = left_by _ _ _ _ _ _ c.from_residual.ensures (fails_seq c.in_err-first.ensures)

pub returns : goal.returns
returns g c = lists_end c.more.invariant (sym c.sees.ensures ∙ c.more-test.false)

pub returns-in_err-push : goal.returns-in_err-push
returns-in_err-push g c = left_by _ _ _ _ _ _ c.from_residual-in_err-push.ensures no_memory

pub returns-in_err-expect : goal.returns-in_err-expect
returns-in_err-expect g c = left_by _ _ _ _ _ _ c.from_residual-in_err-expect.ensures (fails_lists_word c.more.invariant (sym c.sees.ensures ∙ c.more-test.true) c.in_err-expect.ensures)

pub returns-in_err-parse : goal.returns-in_err-parse
returns-in_err-parse g c = left_by _ _ _ _ _ _ c.from_residual-in_err-parse.ensures (fails_lists c.more.invariant (sym c.sees.ensures ∙ c.more-test.true) c.in_ok-expect.ensures c.in_err-parse.ensures)

pub returns-in_err-push-2 : goal.returns-in_err-push-2
returns-in_err-push-2 g c = left_by _ _ _ _ _ _ c.from_residual-in_err-push-2.ensures no_memory

pub more-init : goal.more-init
more-init g c = lists_begin g.A.Parse.tree c.new-items.result c.push.new.self c.in_ok-first.first c.new-items.ensures c.in_ok-push.ensures.ok c.in_ok-first.ensures

pub more-preserved : goal.more-preserved
more-preserved g c = lists_push g.A.Parse.tree c.more.items c.push-in-more.new.self c.in_ok-parse.field-0 c.in_ok-push-2.ensures.ok c.more.invariant (sym c.sees.ensures ∙ c.more-test.true) c.in_ok-expect.ensures c.in_ok-parse.ensures

pub more-smaller : goal.more-smaller
more-smaller g c =
    let moved = moves refl c.in_ok-expect.ensures in
    let further = c.in_ok-parse.ensures.ordered in
    let same = ap (λ given. length given.tokens) (c.in_ok-parse.ensures.same ∙ c.in_ok-expect.ensures.same) in
    omega arith

pub parse-requires : goal.parse-requires
parse-requires g c = may_first _ _ c.requires
