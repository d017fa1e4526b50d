use Rattle.std.proofs.Common.{◌<◌, length, arith}
use Rattle.sv_term.specs.Banks.{term, term_list}
use Rattle.sv_term.proofs.BankGrowth.{keeps_on}
use Rattle.sv_term.proofs.BankLists.{list_length}
use Rattle.sv_vc.specs.CodeStates.{marked}
use Rattle.sv_vc.proofs.JoiningSteps.{old_at, kin_at, agreed_step, agreed_end}
use Rattle.sv_vc.proofs.joining.agreement.Goals as goal

pub agreed_on-requires-clause-kin : goal.agreed_on-requires-clause-kin
agreed_on-requires-clause-kin c =
    let lt : c.loop-i.i < length c.args.env.now = omega arith in
    kin_at c.args.bank.now c.loop-i.bank c.args.env.now c.args.versions.now c.loop-i.i c.loop-i.invariant.kept c.requires.env_within c.requires.versions_within c.requires.kinds lt (omega (arith, lt, c.requires.versions_size))

pub loop-i-preserved : goal.loop-i-preserved
loop-i-preserved c =
    let in_env : c.loop-i.i < length c.args.env.now = omega arith in
    let in_versions : c.loop-i.i < length c.args.versions.now = omega (arith, in_env, c.requires.versions_size) in
    record {
      kept = keeps_on c.loop-i.invariant.kept c.in_ok-all.ensures.kept;
      truth = c.in_ok-all.ensures.truth;
      terms = agreed_step (marked c.args.marks.now) (term_list c.args.bank.now c.args.env.now) (term_list c.args.bank.now c.args.versions.now) c.loop-i.i (term c.loop-i.bank c.loop-i.all) (term c.agreed_on.new.bank c.in_ok-all.all) _ _ _
          (omega (arith, in_env, list_length c.args.bank.now c.args.env.now)) (omega (arith, in_versions, list_length c.args.bank.now c.args.versions.now)) c.in_ok-all.ensures.is
          (old_at c.args.bank.now c.loop-i.bank c.args.env.now c.loop-i.i c.loop-i.invariant.kept c.requires.env_within in_env) (old_at c.args.bank.now c.loop-i.bank c.args.versions.now c.loop-i.i c.loop-i.invariant.kept c.requires.versions_within in_versions) c.loop-i.invariant.terms;
      size = omega (arith, c.loop-i.invariant.size, c.in_ok-all.ensures.size);
    }

pub returns : goal.returns
returns c = record {
  kept = c.loop-i.invariant.kept;
  truth = c.loop-i.invariant.truth;
  is = agreed_end (marked c.args.marks.now) (term_list c.args.bank.now c.args.env.now) (term_list c.args.bank.now c.args.versions.now) c.loop-i.i (term c.loop-i.bank c.loop-i.all) _ (omega (arith, c.loop-i-test.false, list_length c.args.bank.now c.args.env.now)) c.loop-i.invariant.terms;
  size = omega (arith, c.loop-i.invariant.size, c.loop-i.auto.i-end);
}
