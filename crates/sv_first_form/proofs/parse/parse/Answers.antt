use Rattle.std.proofs.Common.{map}
use Rattle.sv_first_form.proofs.Standing.{meaning_of, only_of, unbuilt_of}
use Rattle.sv_first_form.specs.FormSymbols.{symbol}
use Rattle.sv_first_form.proofs.parse.parse.Goals as goal

pub returns-clause-meaning : goal.returns-clause-meaning
returns-clause-meaning c = meaning_of (map symbol c.args.tokens.now) c.parse_whole.result c.parse_whole.ensures

pub returns-clause-only : goal.returns-clause-only
returns-clause-only c = only_of (map symbol c.args.tokens.now) c.parse_whole.result c.parse_whole.ensures

pub returns-clause-unbuilt : goal.returns-clause-unbuilt
returns-clause-unbuilt c = unbuilt_of (map symbol c.args.tokens.now) c.parse_whole.result c.parse_whole.ensures
