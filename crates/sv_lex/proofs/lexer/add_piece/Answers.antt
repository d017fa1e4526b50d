use Rattle.std.proofs.Common.{◌+◌, length, refl, arith}
use Rattle.sv_lex.specs.TextReading.{piece_of}
use Rattle.sv_lex.proofs.CollectLemmas.{ready_later}
use Rattle.sv_lex.proofs.LoopLemmas.{piece_slice, piece_lines, piece_token, piece_plain}
use Rattle.sv_lex.proofs.lexer.add_piece.Goals as goal

pub returns-in-Token : goal.returns-in-Token
returns-in-Token c = record {
  adds = piece_token c.args.at c.args.shape.now c.in-Token.kind c.in-Token.bytes (c.args.at + length c.in-Token.bytes.now) c.args.collector.now c.push.new.self
      c.in-Token.is c.requires.stands.slice refl c.requires.ready c.in_ok-push.ensures.collects c.in_ok-push.ensures.ready;
}

pub add_lines-requires : goal.add_lines-requires
add_lines-requires c = record {
  ready = ready_later c.args.collector.now.source.now c.args.collector.now c.args.at (c.args.at + 3) (omega arith) c.requires.ready;
  slice = piece_slice c.args.collector.now.source.now c.args.at (piece_of c.args.shape.now) c.in-Some.field-0.text.now c.in-Some.field-0.is_starred c.in-Some.ensures c.requires.stands.slice;
}

pub returns-in-None : goal.returns-in-None
returns-in-None c = record {
  adds = piece_plain c.args.at c.args.shape.now c.args.collector.now c.in_default.not-Token c.in-None.ensures c.requires.ready;
}

pub returns-in-Some : goal.returns-in-Some
returns-in-Some c = record {
  adds = piece_lines c.args.at (piece_of c.args.shape.now) c.in-Some.field-0.text.now c.in-Some.field-0.is_starred c.args.collector.now c.add_lines.new.collector
      c.add_lines.result c.in-Some.ensures c.add_lines.ensures.adds;
}
