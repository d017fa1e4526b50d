use Rattle.std.proofs.Common.{rules, sym}
use Rattle.sv_term.specs.Terms.{sort_of}
use Rattle.sv_term.specs.Banks.{term}
use Rattle.sv_term.proofs.BankGrowth.{keeps_same}
use Rattle.sv_term.proofs.SortNumbers.{one_kind, two_kinds}
use Rattle.sv_term.proofs.bank.Bank.joined_sort.Goals as goal

pub returns-then-eq : goal.returns-then-eq
returns-then-eq c = record {
  kept = keeps_same c.args.self.now;
  nodes = search rules;
  kind = one_kind c.args.self.now c.sort_of-left.result c.sort_of.result (sort_of (term c.args.self.now c.args.a)) (sort_of (term c.args.self.now c.args.b)) c.sort_of-left.ensures.kind c.sort_of.ensures.kind
      (sym c.if-eq.ensures);
}

pub returns : goal.returns
returns c = record {
  kept = search rules;
  nodes = search rules;
  kind = two_kinds c.args.self.now c.number_sort.new.self c.in_ok-number_sort.field-0 c.sort_of-left.result c.sort_of.result (sort_of (term c.args.self.now c.args.a)) (sort_of (term c.args.self.now c.args.b))
      c.sort_of.ensures.kind c.sort_of-left.ensures.only (sym c.if-eq.ensures) c.in_ok-number_sort.ensures.kind;
}
