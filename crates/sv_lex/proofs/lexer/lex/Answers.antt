use Rattle.std.proofs.Common.{◌≡◌, ℕ, ◌≤◌, Err, List, length, subst, arith}
use Rattle.sv_lex.specs.Collecting.{AddsText}
use Rattle.sv_lex.specs.declared.collector.Collector.{Collector}
use Rattle.sv_lex.specs.declared.fault.Flaw.{Flaw}
use Rattle.sv_lex.specs.declared.stop.Stop.{Stop}
use Rattle.sv_lex.specs.declared.stop.Stop.TheVariants.{Fault}
use Rattle.sv_lex.proofs.LoopLemmas.{whole}
use Rattle.sv_lex.proofs.TokenLaws.{fault_within}
use Rattle.sv_lex.proofs.lexer.lex.Goals as goal

-- a fault is in the text
stop_within : (text : List ℕ) (old new : Collector) (stop : Stop) (flaw : Flaw) (at : ℕ) → AddsText text old (Err stop) new → stop ≡ Fault flaw at → at ≤ length text
stop_within text old new stop flaw at adds is = fault_within text flaw at (subst (λ s. AddsText text old (Err s) new) is adds)

pub finished-requires : goal.finished-requires
finished-requires c =
    whole c.args.text.now c.new-collector.result c.add_text.new.collector c.new-collector.ensures.ready.source_is c.if-text-gt-LIMIT.false c.new-collector.ensures.collects
    c.in-Ok.ensures.adds

pub overflow_cast-at : goal.overflow_cast-at
overflow_cast-at c =
    let e = c.in-Err-Fault-Char-default in
    omega (
      arith,
      c.if-text-gt-LIMIT.false,
      stop_within c.args.text.now c.new-collector.result c.add_text.new.collector e.field-0 e.field-0-0 e.at e.ensures.adds e.field-0-is,
    )

pub place_of-requires-clause-within : goal.place_of-requires-clause-within
place_of-requires-clause-within c =
    let e = c.in-Err-Fault-Char-default in
    stop_within c.args.text.now c.new-collector.result c.add_text.new.collector e.field-0 e.field-0-0 e.at e.ensures.adds e.field-0-is

pub overflow_cast-at-in-Err-Fault-Unclosed-default : goal.overflow_cast-at-in-Err-Fault-Unclosed-default
overflow_cast-at-in-Err-Fault-Unclosed-default c =
    let e = c.in-Err-Fault-Unclosed-default in
    omega (
      arith,
      c.if-text-gt-LIMIT.false,
      stop_within c.args.text.now c.new-collector.result c.add_text.new.collector e.field-0 e.field-0-0 e.at e.ensures.adds e.field-0-is,
    )

pub place_of-requires-in-Err-Fault-Unclosed-default-clause-within : goal.place_of-requires-in-Err-Fault-Unclosed-default-clause-within
place_of-requires-in-Err-Fault-Unclosed-default-clause-within c =
    let e = c.in-Err-Fault-Unclosed-default in
    stop_within c.args.text.now c.new-collector.result c.add_text.new.collector e.field-0 e.field-0-0 e.at e.ensures.adds e.field-0-is
