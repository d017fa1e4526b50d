use Rattle.std.proofs.Common.{rules}
use Rattle.sv_term.specs.Banks.{IsSort}
use Rattle.sv_term.proofs.KindTests.{parts_say}
use Rattle.sv_term.proofs.bank.Bank.are_parts.Goals as goal

pub returns : goal.returns
returns c =
    let within : IsSort c.args.self.now c.args.number = search rules in
    parts_say c.args.self.now c.args.number c.sort_parts-parts.result.now c.args.args.now c.is_tuple-tuple.result c.parts_match-matching.result c.both.result within
    c.is_tuple-tuple.ensures c.sort_parts-parts.ensures.parts c.parts_match-matching.ensures c.both.ensures
