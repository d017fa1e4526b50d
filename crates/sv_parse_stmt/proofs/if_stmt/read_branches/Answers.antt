use Rattle.std.proofs.Common.{sym, ◌∙◌, ap, map, length, refl, arith, rules}
use Rattle.sv_ast.specs.StmtTrees.{else_if_tree, else_tree}
use Rattle.sv_ast.proofs.StmtLaws.{else_if_is, else_is}
use Rattle.sv_read.specs.PartReading.{no_memory}
use Rattle.sv_read.proofs.Exits.{left_by}
use Rattle.sv_parse_stmt.proofs.IfLemmas.{branches_begin, branches_push_one, fails_branch, fails_else, gives_last, fails_last, gives_no_last}
use Rattle.sv_read.proofs.Moving.{moves}
use Rattle.sv_read.proofs.Nesting.{may_on}
use Rattle.sv_parse_stmt.proofs.if_stmt.read_branches.Goals as goal

pub more-init : goal.more-init
more-init g c = record {
  branches = branches_begin c.new-else_ifs.result c.new-else_ifs.ensures;
  from = c.at-from.ensures.is;
  ordered = omega arith;
  within = rw c.at-from.ensures.is at c.at-from.ensures.within;
}

pub more-preserved : goal.more-preserved
more-preserved g c =
    let before = c.more.invariant.ordered in
    let word = c.in_ok-expect.ensures.ordered in
    let further = c.in_ok-condition.ensures.ordered in
    record {
      branches = branches_push_one c.more.else_ifs c.push.new.self _ c.in_ok-push.ensures.ok (λ to rest. else_if_is _ _ _ _ to rest) c.extent.ensures c.more.invariant.from c.more.invariant.branches (sym c.sees.ensures ∙ c.more-test.true)
          c.in_ok-expect.ensures (sym c.sees-in-more.ensures ∙ c.if-not-sees.false) c.in_ok-condition.ensures;
      from = c.at-from-in-more.ensures.is;
      ordered = omega arith;
      within = rw c.at-from-in-more.ensures.is at c.at-from-in-more.ensures.within;
    }

pub parse-requires : goal.parse-requires
parse-requires g c =
    let before = c.more.invariant.ordered in
    let word = c.in_ok-expect.ensures.ordered in
    may_on c.requires (omega arith)

pub returns-in_err-push : goal.returns-in_err-push
returns-in_err-push g c = left_by _ _ _ _ _ _ c.from_residual-in_err-push.ensures no_memory

pub more-smaller : goal.more-smaller
more-smaller g c =
    let moved = moves refl c.in_ok-expect.ensures in
    let further = c.in_ok-condition.ensures.ordered in
    let same = ap (λ given. length given.tokens) (c.in_ok-condition.ensures.same ∙ c.in_ok-expect.ensures.same) in
    omega arith

pub returns : goal.returns
returns g c = gives_no_last (map else_if_tree c.more.else_ifs) c.more.invariant.within c.more.invariant.branches (sym c.sees.ensures ∙ c.more-test.false)

pub returns-then-not-sees : goal.returns-then-not-sees
returns-then-not-sees g c =
    gives_last (map else_if_tree c.more.else_ifs) _ (λ to. else_is _ _ _ to) c.extent.ensures c.more.invariant.from (rw c.at-end.ensures.is at c.at-end.ensures.within) c.more.invariant.branches (sym c.sees.ensures ∙ c.more-test.true)
    c.in_ok-expect.ensures (sym c.sees-in-more.ensures ∙ c.if-not-sees.true) c.in_ok-body.ensures

pub returns-in_err-expect : goal.returns-in_err-expect
returns-in_err-expect g c = left_by _ _ _ _ _ _ c.from_residual.ensures (fails_else c.more.invariant.branches (sym c.sees.ensures ∙ c.more-test.true) c.in_err-expect.ensures)

pub returns-in_err-body : goal.returns-in_err-body
returns-in_err-body g c = left_by _ _ _ _ _ _ c.from_residual-in_err-body.ensures (fails_last c.more.invariant.branches (sym c.sees.ensures ∙ c.more-test.true) c.in_ok-expect.ensures (sym c.sees-in-more.ensures ∙ c.if-not-sees.true) c.in_err-body.ensures)

pub returns-in_err-condition : goal.returns-in_err-condition
returns-in_err-condition g c = left_by _ _ _ _ _ _ c.from_residual-in_err-condition.ensures (fails_branch c.more.invariant.branches (sym c.sees.ensures ∙ c.more-test.true) c.in_ok-expect.ensures (sym c.sees-in-more.ensures ∙ c.if-not-sees.false) c.in_err-condition.ensures)
