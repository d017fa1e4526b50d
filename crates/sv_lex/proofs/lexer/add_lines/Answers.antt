use Rattle.std.proofs.Common.{◌+◌, ◌-◌, length, sym, subst}
use Rattle.std.specs.Option.{option_copied}
use Rattle.std.proofs.lemmas.Result.{err_from_is_err_and}
use Rattle.sv_lex.specs.Collecting.{AddsUpTo, AddsLinesSoFar, IsSlice}
use Rattle.sv_lex.proofs.LoopLemmas.{lines_start, lines_here, lines_slice, lines_more, lines_stop}
use Rattle.sv_lex.proofs.lexer.add_lines.Goals as goal
use Rattle.sv_lex.proofs.lexer.add_lines.Goals.{In-Some}

pub loop-rest-init : goal.loop-rest-init
loop-rest-init c = lines_start c.args.is_starred c.args.at c.args.text.now c.args.collector.now c.requires.ready

-- where a line is left
so_far : (c : In-Some) → AddsUpTo c.args.is_starred c.args.at c.args.text.now c.in-Some.lines.now c.args.collector.now c.loop-rest.collector
so_far c =
    subst (λ r. AddsLinesSoFar c.args.is_starred c.args.at c.args.text.now c.args.collector.now c.loop-rest.collector (option_copied r)) c.in-Some.is c.loop-rest.invariant

pub add_line-requires-clause-slice : goal.add_line-requires-clause-slice
add_line-requires-clause-slice c =
    let s = so_far (goal.at.add_line-requires-clause-slice c).In-Some in
    subst (λ s. IsSlice s (c.args.at + length c.args.text.now - length c.in-Some.lines.now) c.split_line.result.0.now) (sym s.added.ready.source_is)
    (lines_slice c.args.collector.now.source.now c.args.is_starred c.args.at c.args.text.now c.in-Some.lines.now c.split_line.result.0.now (option_copied c.split_line.result.1)
    c.args.collector.now c.loop-rest.collector c.requires.slice s c.split_line.ensures)

pub returns-in_err-add_line : goal.returns-in_err-add_line
returns-in_err-add_line c =
    let s = so_far (goal.at.returns-in_err-add_line c).In-Some in
    let p = err_from_is_err_and c.from_residual.result c.from_residual.ensures.1 in
    record {
      adds = rw (p.1, p.2) (lines_stop c.args.is_starred c.args.at c.args.text.now c.in-Some.lines.now c.split_line.result.0.now (option_copied c.split_line.result.1)
          c.args.collector.now c.loop-rest.collector c.add_line.new.collector c.add_line.new.collector (c.args.at + length c.args.text.now - length c.in-Some.lines.now)
          c.in_err-add_line.field-0.0 s c.split_line.ensures
          (lines_here c.args.is_starred c.args.at c.args.text.now c.in-Some.lines.now c.args.collector.now c.loop-rest.collector s) c.in_err-add_line.ensures.adds);
    }

pub loop-rest-preserved : goal.loop-rest-preserved
loop-rest-preserved c =
    let s = so_far (goal.at.loop-rest-preserved c).In-Some in
    let adds = c.in_ok-add_line.ensures.adds in
    lines_more c.args.is_starred c.args.at c.args.text.now c.in-Some.lines.now c.split_line.result.0.now (option_copied c.split_line.result.1) c.args.collector.now
    c.loop-rest.collector c.add_line.new.collector (c.args.at + length c.args.text.now - length c.in-Some.lines.now) adds.0 s c.split_line.ensures
    (lines_here c.args.is_starred c.args.at c.args.text.now c.in-Some.lines.now c.args.collector.now c.loop-rest.collector s) adds.1 adds.2
