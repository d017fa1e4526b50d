use Rattle.std.proofs.Common.{subst}
use Rattle.sv_term.specs.Banks.{IsSound}
use Rattle.sv_term.proofs.BankFits.{terms_fit, fits_is}
use Rattle.sv_term.proofs.Distinct.{sorts_apart, terms_apart}
use Rattle.sv_term.proofs.bank.Bank.is_sound.Goals as goal

pub returns : goal.returns
returns c =
    let sound : IsSound c.args.self.now = subst IsSound c.self.view_is c.self.invariant.0 in
    record {
      terms = terms_fit c.args.self.now sound;
      nodes = fits_is c.args.self.now sound;
      sorts_differ = sound.sorts_differ;
      nodes_differ = sound.nodes_differ;
      sort_number = sorts_apart c.args.self.now sound;
      term_number = terms_apart c.args.self.now sound;
    }
