use Rattle.std.proofs.Common.{◌≡◌, drop}
use Rattle.sv_term.specs.Terms.{all_plain}
use Rattle.sv_log.specs.Logs.{nth_terms}
use Rattle.sv_term_room.specs.TermRows.{terms_of}
use Rattle.sv_plain_terms.specs.PlainFlags.{args_plain_at}
use Rattle.sv_plain_terms.proofs.flags.are_plain.Given as goal

abbrev pub invariant-loop-k : goal.invariant-loop-k
invariant-loop-k l = record { same : args_plain_at (terms_of l.terms) l.n ≡ all_plain (nth_terms (terms_of l.terms) (drop l.k-index l.args)) }
