use Rattle.std.proofs.Common.{arith}
use Rattle.std.proofs.lemmas.Grind.{common_steps}
use Rattle.sv_annotation.proofs.Parts.{fitting}
use Rattle.sv_annotation.proofs.language.+fitting.Goals as goal

pub applied_fits-fits-requires : goal.applied_fits-fits-requires
applied_fits-fits-requires t c = grind (arith, fitting)

pub applied_fits-suffixes_fit-requires : goal.applied_fits-suffixes_fit-requires
applied_fits-suffixes_fit-requires t c = grind (arith, fitting)

pub applied_fits-returns-then-fits : goal.applied_fits-returns-then-fits
applied_fits-returns-then-fits t c = grind (arith, fitting)

pub applied_fits-returns-else-fits : goal.applied_fits-returns-else-fits
applied_fits-returns-else-fits t c = grind (arith, fitting)

pub argument_fits-one_fits-requires : goal.argument_fits-one_fits-requires
argument_fits-one_fits-requires t c = grind (arith, fitting)

pub argument_fits-returns-in-Named : goal.argument_fits-returns-in-Named
argument_fits-returns-in-Named t c = grind (arith, fitting)

pub argument_fits-returns-in-Positional : goal.argument_fits-returns-in-Positional
argument_fits-returns-in-Positional t c = grind (arith, fitting)

pub both_fit-fits-requires : goal.both_fit-fits-requires
both_fit-fits-requires t c = grind (arith, fitting)

pub both_fit-fits-requires-then-fits : goal.both_fit-fits-requires-then-fits
both_fit-fits-requires-then-fits t c = grind (arith, fitting)

pub both_fit-returns-then-fits : goal.both_fit-returns-then-fits
both_fit-returns-then-fits t c = grind (arith, fitting)

pub both_fit-returns-else-fits : goal.both_fit-returns-else-fits
both_fit-returns-else-fits t c = grind (arith, fitting)

pub fits-kind_fits-requires : goal.fits-kind_fits-requires
fits-kind_fits-requires t c = grind (arith, fitting)

pub fits-returns : goal.fits-returns
fits-returns t c = grind (arith, fitting)

pub kind_fits-fits-requires : goal.kind_fits-fits-requires
kind_fits-fits-requires t c = grind (arith, fitting)

pub kind_fits-both_fit-requires : goal.kind_fits-both_fit-requires
kind_fits-both_fit-requires t c = grind (arith, fitting)

pub kind_fits-fits-requires-in-Chain : goal.kind_fits-fits-requires-in-Chain
kind_fits-fits-requires-in-Chain t c = grind (arith, fitting)

pub kind_fits-operands_fit-requires : goal.kind_fits-operands_fit-requires
kind_fits-operands_fit-requires t c = grind (arith, fitting)

pub kind_fits-fits-requires-then-not-steps : goal.kind_fits-fits-requires-then-not-steps
kind_fits-fits-requires-then-not-steps t c = grind (arith, fitting)

pub kind_fits-applied_fits-requires : goal.kind_fits-applied_fits-requires
kind_fits-applied_fits-requires t c = grind (arith, fitting)

pub kind_fits-fits-requires-in-Paren : goal.kind_fits-fits-requires-in-Paren
kind_fits-fits-requires-in-Paren t c = grind (arith, fitting)

pub kind_fits-returns-then-fits : goal.kind_fits-returns-then-fits
kind_fits-returns-then-fits t c = grind (arith, fitting)

pub kind_fits-returns-else-fits : goal.kind_fits-returns-else-fits
kind_fits-returns-else-fits t c = grind (arith, fitting)

pub kind_fits-returns-then-fits-2 : goal.kind_fits-returns-then-fits-2
kind_fits-returns-then-fits-2 t c = grind (arith, fitting)

pub kind_fits-returns-else-fits-2 : goal.kind_fits-returns-else-fits-2
kind_fits-returns-else-fits-2 t c = grind (arith, fitting)

pub kind_fits-returns-then-not-steps : goal.kind_fits-returns-then-not-steps
kind_fits-returns-then-not-steps t c = grind (arith, fitting)

pub kind_fits-returns-else-not-steps : goal.kind_fits-returns-else-not-steps
kind_fits-returns-else-not-steps t c = grind (arith, fitting)

pub kind_fits-returns-in-Applied : goal.kind_fits-returns-in-Applied
kind_fits-returns-in-Applied t c = grind (arith, fitting)

pub kind_fits-returns-in-Number : goal.kind_fits-returns-in-Number
kind_fits-returns-in-Number t c = grind (arith, fitting)

pub kind_fits-returns-in-Hexadecimal : goal.kind_fits-returns-in-Hexadecimal
kind_fits-returns-in-Hexadecimal t c = grind (arith, fitting)

pub kind_fits-returns-in-Text : goal.kind_fits-returns-in-Text
kind_fits-returns-in-Text t c = grind (arith, fitting)

pub kind_fits-returns-in-Truth : goal.kind_fits-returns-in-Truth
kind_fits-returns-in-Truth t c = grind (arith, fitting)

pub kind_fits-returns-in-Name : goal.kind_fits-returns-in-Name
kind_fits-returns-in-Name t c = grind (arith, fitting)

pub kind_fits-returns-in-Paren : goal.kind_fits-returns-in-Paren
kind_fits-returns-in-Paren t c = grind (arith, fitting)

pub kind_fits-returns-in_default : goal.kind_fits-returns-in_default
kind_fits-returns-in_default t c = grind (arith, fitting)

pub one_fits-fits-requires : goal.one_fits-fits-requires
one_fits-fits-requires t c = grind (arith, fitting)

pub one_fits-returns-in-None : goal.one_fits-returns-in-None
one_fits-returns-in-None t c = grind (arith, common_steps, fitting)

pub one_fits-returns-then-is_this : goal.one_fits-returns-then-is_this
one_fits-returns-then-is_this t c = grind (arith, fitting)

pub one_fits-returns-else-is_this : goal.one_fits-returns-else-is_this
one_fits-returns-else-is_this t c = grind (arith, fitting)

pub one_fits-returns-else-is_none : goal.one_fits-returns-else-is_none
one_fits-returns-else-is_none t c = grind (arith, fitting)

pub operands_fit-fits-requires : goal.operands_fit-fits-requires
operands_fit-fits-requires t c = grind (arith, fitting)

pub operands_fit-operands_fit-requires : goal.operands_fit-operands_fit-requires
operands_fit-operands_fit-requires t c = grind (arith, fitting)

pub operands_fit-returns-in-None : goal.operands_fit-returns-in-None
operands_fit-returns-in-None t c = grind (arith, fitting)

pub operands_fit-returns-then-fits : goal.operands_fit-returns-then-fits
operands_fit-returns-then-fits t c = grind (arith, fitting)

pub operands_fit-returns-else-fits : goal.operands_fit-returns-else-fits
operands_fit-returns-else-fits t c = grind (arith, fitting)

pub suffix_fits-fits-requires : goal.suffix_fits-fits-requires
suffix_fits-fits-requires t c = grind (arith, fitting)

pub suffix_fits-argument_fits-requires : goal.suffix_fits-argument_fits-requires
suffix_fits-argument_fits-requires t c = grind (arith, fitting)

pub suffix_fits-returns-then-takes_index : goal.suffix_fits-returns-then-takes_index
suffix_fits-returns-then-takes_index t c = grind (arith, fitting)

pub suffix_fits-returns-else-takes_index : goal.suffix_fits-returns-else-takes_index
suffix_fits-returns-else-takes_index t c = grind (arith, fitting)

pub suffix_fits-returns-in-Member : goal.suffix_fits-returns-in-Member
suffix_fits-returns-in-Member t c = grind (arith, fitting)

pub suffix_fits-returns-then-takes_call : goal.suffix_fits-returns-then-takes_call
suffix_fits-returns-then-takes_call t c = grind (arith, fitting)

pub suffix_fits-returns-else-takes_call : goal.suffix_fits-returns-else-takes_call
suffix_fits-returns-else-takes_call t c = grind (arith, fitting)

pub suffix_fits-returns-in-Value : goal.suffix_fits-returns-in-Value
suffix_fits-returns-in-Value t c = grind (arith, fitting)

pub suffix_fits-returns-in-Increment : goal.suffix_fits-returns-in-Increment
suffix_fits-returns-in-Increment t c = grind (arith, fitting)

pub suffix_fits-returns-in-Decrement : goal.suffix_fits-returns-in-Decrement
suffix_fits-returns-in-Decrement t c = grind (arith, fitting)

pub suffixes_fit-suffix_fits-requires : goal.suffixes_fit-suffix_fits-requires
suffixes_fit-suffix_fits-requires t c = grind (arith, fitting)

pub suffixes_fit-suffixes_fit-requires : goal.suffixes_fit-suffixes_fit-requires
suffixes_fit-suffixes_fit-requires t c = grind (arith, fitting)

pub suffixes_fit-returns-in-None : goal.suffixes_fit-returns-in-None
suffixes_fit-returns-in-None t c = grind (arith, common_steps, fitting)

pub suffixes_fit-returns-then-suffix_fits : goal.suffixes_fit-returns-then-suffix_fits
suffixes_fit-returns-then-suffix_fits t c = grind (arith, fitting)

pub suffixes_fit-returns-else-suffix_fits : goal.suffixes_fit-returns-else-suffix_fits
suffixes_fit-returns-else-suffix_fits t c = grind (arith, fitting)
