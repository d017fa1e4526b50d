use Rattle.std.proofs.Common.{sym, ◌∙◌, ap, map, length, arith, refl}
use Rattle.sv_grammar.specs.Grammar.{pair, unit}
use Rattle.sv_read.specs.PartReading.{no_memory}
use Rattle.sv_read.proofs.Exits.{left_by}
use Rattle.sv_read.proofs.Moving.{moves}
use Rattle.sv_read.proofs.Nesting.{may_behind}
use Rattle.sv_read.proofs.Reading.{map_push, gives_seq, fails_seq, fails_late, repeats_push, repeats_end, fails_repeats}
use Rattle.sv_read.proofs.listed.LedParse.parse.Goals as goal

pub parse-requires : goal.parse-requires
parse-requires g c =
    let ordered = c.more.invariant.ordered in
    let moved = (moves refl c.in_ok-word.ensures).0 in
    may_behind c.requires (omega arith)

pub more-preserved : goal.more-preserved
more-preserved g c =
    repeats_push (pair unit) (map g.A.Parse.tree c.more.items) (map g.A.Parse.tree c.push.new.self) (g.A.Parse.tree c.in_ok-parse.field-0)
    (ap (map g.A.Parse.tree) c.in_ok-push.ensures.ok ∙ map_push g.A.Parse.tree c.more.items c.in_ok-parse.field-0) c.more.invariant (sym c.sees_word.ensures ∙ c.more-test.true)
    (gives_seq c.in_ok-word.ensures c.in_ok-parse.ensures)

pub more-smaller : goal.more-smaller
more-smaller g c =
    let moved = moves refl c.in_ok-word.ensures in
    let further = c.in_ok-parse.ensures.ordered in
    let same = ap (λ given. length given.tokens) (c.in_ok-parse.ensures.same ∙ c.in_ok-word.ensures.same) in
    omega arith

pub returns-in_err-word : goal.returns-in_err-word
returns-in_err-word g c = left_by _ _ _ _ _ _ c.from_residual.ensures (fails_repeats c.more.invariant (sym c.sees_word.ensures ∙ c.more-test.true) (fails_seq c.in_err-word.ensures))

pub returns-in_err-parse : goal.returns-in_err-parse
returns-in_err-parse g c = left_by _ _ _ _ _ _ c.from_residual-in_err-parse.ensures (fails_repeats c.more.invariant (sym c.sees_word.ensures ∙ c.more-test.true) (fails_late c.in_ok-word.ensures c.in_err-parse.ensures))

pub returns-in_err-push : goal.returns-in_err-push
returns-in_err-push g c = left_by _ _ _ _ _ _ c.from_residual-in_err-push.ensures no_memory

pub returns : goal.returns
returns g c = repeats_end c.more.invariant (sym c.sees_word.ensures ∙ c.more-test.false)
