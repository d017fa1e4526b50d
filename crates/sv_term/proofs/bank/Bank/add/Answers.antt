use Rattle.std.proofs.Common.{rules, subst, sym}
use Rattle.sv_term.specs.Terms.{sort_of}
use Rattle.sv_term.specs.Banks.{IsKind, Stands}
use Rattle.sv_term.proofs.BankGrowth.{fits_kept, tree_kept}
use Rattle.sv_term.proofs.bank.Bank.add.Goals as goal

pub push-requires : goal.push-requires
push-requires c = record {
  fits = fits_kept c.args.self.now c.sort_for.new.self c.in_ok-sort.ensures.kept c.args.node c.requires;
  kind = subst (λ t. IsKind c.sort_for.new.self c.in_ok-sort.sort (sort_of t)) (sym (tree_kept c.args.self.now c.sort_for.new.self c.in_ok-sort.ensures.kept c.args.node c.requires)) c.in_ok-sort.ensures.kind;
  absent = search rules;
}

pub returns-clause-stands : goal.returns-clause-stands
returns-clause-stands c =
    subst (Stands c.push.new.self c.in_ok-push.field-0) (tree_kept c.args.self.now c.sort_for.new.self c.in_ok-sort.ensures.kept c.args.node c.requires) c.in_ok-push.ensures.stands
