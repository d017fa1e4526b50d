use Rattle.std.proofs.Common.{arith}
use Rattle.std.proofs.lemmas.Grind.{common_steps}
use Rattle.sv_visit.proofs.Parts.{visiting}
use Rattle.sv_visit.proofs.exprs.+visiting.Goals as goal

pub walk_args-returns-in_err-before : goal.walk_args-returns-in_err-before
walk_args-returns-in_err-before g t c = grind (arith, visiting)

pub walk_args-walk_args_kind-requires : goal.walk_args-walk_args_kind-requires
walk_args-walk_args_kind-requires g t c κs within = grind (arith, visiting)

pub walk_args-returns-in_err-walk_args_kind : goal.walk_args-returns-in_err-walk_args_kind
walk_args-returns-in_err-walk_args_kind g t c = grind (arith, visiting)

pub walk_args-returns : goal.walk_args-returns
walk_args-returns g t c = grind (arith, visiting)

pub walk_args_kind-walk_exprs-requires : goal.walk_args_kind-walk_exprs-requires
walk_args_kind-walk_exprs-requires g t c κs within = grind (arith, visiting)

pub walk_args_kind-walk_named-requires : goal.walk_args_kind-walk_named-requires
walk_args_kind-walk_named-requires g t c κs within = grind (arith, visiting)

pub walk_args_kind-returns-in-Positional : goal.walk_args_kind-returns-in-Positional
walk_args_kind-returns-in-Positional g t c = grind (arith, visiting)

pub walk_args_kind-returns-in-Named : goal.walk_args_kind-returns-in-Named
walk_args_kind-returns-in-Named g t c = grind (arith, visiting)

pub walk_exprs-loop-e-init : goal.walk_exprs-loop-e-init
walk_exprs-loop-e-init g t c = grind (arith, visiting)

pub walk_exprs-offset_bounds-list-e-index : goal.walk_exprs-offset_bounds-list-e-index
walk_exprs-offset_bounds-list-e-index g t c = grind (arith, visiting)

pub walk_exprs-walk_expr-requires : goal.walk_exprs-walk_expr-requires
walk_exprs-walk_expr-requires g t c κs within = grind (arith, common_steps)

pub walk_exprs-returns-in_err-walk_expr : goal.walk_exprs-returns-in_err-walk_expr
walk_exprs-returns-in_err-walk_expr g t c = grind (arith, visiting)

pub walk_exprs-loop-e-smaller : goal.walk_exprs-loop-e-smaller
walk_exprs-loop-e-smaller g t c = grind (arith, visiting)

pub walk_exprs-loop-e-preserved : goal.walk_exprs-loop-e-preserved
walk_exprs-loop-e-preserved g t c = grind (arith, common_steps)

pub walk_exprs-returns : goal.walk_exprs-returns
walk_exprs-returns g t c = grind (arith, common_steps)

pub walk_kind-walk_expr-requires : goal.walk_kind-walk_expr-requires
walk_kind-walk_expr-requires g t c κs within = grind (arith, visiting)

pub walk_kind-returns-in_err-walk_expr-in-Choice : goal.walk_kind-returns-in_err-walk_expr-in-Choice
walk_kind-returns-in_err-walk_expr-in-Choice g t c = grind (arith, visiting)

pub walk_kind-walk_two-requires : goal.walk_kind-walk_two-requires
walk_kind-walk_two-requires g t c κs within = grind (arith, visiting)

pub walk_kind-walk_expr-requires-in-Chain : goal.walk_kind-walk_expr-requires-in-Chain
walk_kind-walk_expr-requires-in-Chain g t c κs within = grind (arith, visiting)

pub walk_kind-returns-in_err-walk_expr-in-Chain : goal.walk_kind-returns-in_err-walk_expr-in-Chain
walk_kind-returns-in_err-walk_expr-in-Chain g t c = grind (arith, visiting)

pub walk_kind-walk_rest-requires : goal.walk_kind-walk_rest-requires
walk_kind-walk_rest-requires g t c κs within = grind (arith, visiting)

pub walk_kind-walk_expr-requires-in-Prefix : goal.walk_kind-walk_expr-requires-in-Prefix
walk_kind-walk_expr-requires-in-Prefix g t c κs within = grind (arith, visiting)

pub walk_kind-walk_two-requires-in-Power : goal.walk_kind-walk_two-requires-in-Power
walk_kind-walk_two-requires-in-Power g t c κs within = grind (arith, visiting)

pub walk_kind-walk_expr-requires-in-Applied : goal.walk_kind-walk_expr-requires-in-Applied
walk_kind-walk_expr-requires-in-Applied g t c κs within = grind (arith, visiting)

pub walk_kind-returns-in_err-walk_expr-in-Applied : goal.walk_kind-returns-in_err-walk_expr-in-Applied
walk_kind-returns-in_err-walk_expr-in-Applied g t c = grind (arith, visiting)

pub walk_kind-walk_suffixes-requires : goal.walk_kind-walk_suffixes-requires
walk_kind-walk_suffixes-requires g t c κs within = grind (arith, visiting)

pub walk_kind-walk_type-requires : goal.walk_kind-walk_type-requires
walk_kind-walk_type-requires g t c κs within = grind (arith, visiting)

pub walk_kind-walk_type-requires-in-New : goal.walk_kind-walk_type-requires-in-New
walk_kind-walk_type-requires-in-New g t c κs within = grind (arith, visiting)

pub walk_kind-walk_expr-requires-in-Paren : goal.walk_kind-walk_expr-requires-in-Paren
walk_kind-walk_expr-requires-in-Paren g t c κs within = grind (arith, visiting)

pub walk_kind-returns-in_ok-walk_expr-in-Choice : goal.walk_kind-returns-in_ok-walk_expr-in-Choice
walk_kind-returns-in_ok-walk_expr-in-Choice g t c = grind (arith, visiting)

pub walk_kind-returns-in_ok-walk_expr-in-Chain : goal.walk_kind-returns-in_ok-walk_expr-in-Chain
walk_kind-returns-in_ok-walk_expr-in-Chain g t c = grind (arith, visiting)

pub walk_kind-returns-in-Prefix : goal.walk_kind-returns-in-Prefix
walk_kind-returns-in-Prefix g t c = grind (arith, visiting)

pub walk_kind-returns-in-Power : goal.walk_kind-returns-in-Power
walk_kind-returns-in-Power g t c = grind (arith, visiting)

pub walk_kind-returns-in_ok-walk_expr-in-Applied : goal.walk_kind-returns-in_ok-walk_expr-in-Applied
walk_kind-returns-in_ok-walk_expr-in-Applied g t c = grind (arith, visiting)

pub walk_kind-returns-in-Number : goal.walk_kind-returns-in-Number
walk_kind-returns-in-Number g t c = grind (arith, visiting)

pub walk_kind-returns-in-Hexadecimal : goal.walk_kind-returns-in-Hexadecimal
walk_kind-returns-in-Hexadecimal g t c = grind (arith, visiting)

pub walk_kind-returns-in-Text : goal.walk_kind-returns-in-Text
walk_kind-returns-in-Text g t c = grind (arith, visiting)

pub walk_kind-returns-in-Truth : goal.walk_kind-returns-in-Truth
walk_kind-returns-in-Truth g t c = grind (arith, visiting)

pub walk_kind-returns-in-Name : goal.walk_kind-returns-in-Name
walk_kind-returns-in-Name g t c = grind (arith, visiting)

pub walk_kind-returns-in-Elementary : goal.walk_kind-returns-in-Elementary
walk_kind-returns-in-Elementary g t c = grind (arith, visiting)

pub walk_kind-returns-in-Address : goal.walk_kind-returns-in-Address
walk_kind-returns-in-Address g t c = grind (arith, visiting)

pub walk_kind-returns-in-Payable : goal.walk_kind-returns-in-Payable
walk_kind-returns-in-Payable g t c = grind (arith, visiting)

pub walk_kind-returns-in-OfType : goal.walk_kind-returns-in-OfType
walk_kind-returns-in-OfType g t c = grind (arith, visiting)

pub walk_kind-returns-in-New : goal.walk_kind-returns-in-New
walk_kind-returns-in-New g t c = grind (arith, visiting)

pub walk_kind-returns-in-Super : goal.walk_kind-returns-in-Super
walk_kind-returns-in-Super g t c = grind (arith, visiting)

pub walk_kind-returns-in-This : goal.walk_kind-returns-in-This
walk_kind-returns-in-This g t c = grind (arith, visiting)

pub walk_kind-returns-in-Paren : goal.walk_kind-returns-in-Paren
walk_kind-returns-in-Paren g t c = grind (arith, visiting)

pub walk_length-walk_expr-requires : goal.walk_length-walk_expr-requires
walk_length-walk_expr-requires g t c κs within = grind (arith, visiting)

pub walk_length-returns-in-None : goal.walk_length-returns-in-None
walk_length-returns-in-None g t c = grind (arith, visiting)

pub walk_length-returns-in-Some : goal.walk_length-returns-in-Some
walk_length-returns-in-Some g t c = grind (arith, visiting)

pub walk_lengths-loop-d-init : goal.walk_lengths-loop-d-init
walk_lengths-loop-d-init g t c = grind (arith, visiting)

pub walk_lengths-offset_bounds-list-d-index : goal.walk_lengths-offset_bounds-list-d-index
walk_lengths-offset_bounds-list-d-index g t c = grind (arith, visiting)

pub walk_lengths-walk_length-requires : goal.walk_lengths-walk_length-requires
walk_lengths-walk_length-requires g t c κs within = grind (arith, common_steps)

pub walk_lengths-returns-in_err-walk_length : goal.walk_lengths-returns-in_err-walk_length
walk_lengths-returns-in_err-walk_length g t c = grind (arith, visiting)

pub walk_lengths-loop-d-smaller : goal.walk_lengths-loop-d-smaller
walk_lengths-loop-d-smaller g t c = grind (arith, visiting)

pub walk_lengths-loop-d-preserved : goal.walk_lengths-loop-d-preserved
walk_lengths-loop-d-preserved g t c = grind (arith, common_steps)

pub walk_lengths-returns : goal.walk_lengths-returns
walk_lengths-returns g t c = grind (arith, common_steps)

pub walk_named-loop-a-init : goal.walk_named-loop-a-init
walk_named-loop-a-init g t c = grind (arith, visiting)

pub walk_named-offset_bounds-list-a-index : goal.walk_named-offset_bounds-list-a-index
walk_named-offset_bounds-list-a-index g t c = grind (arith, visiting)

pub walk_named-walk_named_arg-requires : goal.walk_named-walk_named_arg-requires
walk_named-walk_named_arg-requires g t c κs within = grind (arith, common_steps)

pub walk_named-returns-in_err-walk_named_arg : goal.walk_named-returns-in_err-walk_named_arg
walk_named-returns-in_err-walk_named_arg g t c = grind (arith, visiting)

pub walk_named-loop-a-smaller : goal.walk_named-loop-a-smaller
walk_named-loop-a-smaller g t c = grind (arith, visiting)

pub walk_named-loop-a-preserved : goal.walk_named-loop-a-preserved
walk_named-loop-a-preserved g t c = grind (arith, common_steps)

pub walk_named-returns : goal.walk_named-returns
walk_named-returns g t c = grind (arith, common_steps)

pub walk_named_arg-walk_expr-requires : goal.walk_named_arg-walk_expr-requires
walk_named_arg-walk_expr-requires g t c κs within = grind (arith, visiting)

pub walk_named_arg-returns : goal.walk_named_arg-returns
walk_named_arg-returns g t c = grind (arith, visiting)

pub walk_plain_kind-walk_type-requires : goal.walk_plain_kind-walk_type-requires
walk_plain_kind-walk_type-requires g t c κs within = grind (arith, visiting)

pub walk_plain_kind-returns-in_err-walk_type-in-Mapping : goal.walk_plain_kind-returns-in_err-walk_type-in-Mapping
walk_plain_kind-returns-in_err-walk_type-in-Mapping g t c = grind (arith, visiting)

pub walk_plain_kind-walk_type-requires-in-Mapping : goal.walk_plain_kind-walk_type-requires-in-Mapping
walk_plain_kind-walk_type-requires-in-Mapping g t c κs within = grind (arith, visiting)

pub walk_plain-returns-in_err-before : goal.walk_plain-returns-in_err-before
walk_plain-returns-in_err-before g t c = grind (arith, visiting)

pub walk_plain-walk_plain_kind-requires : goal.walk_plain-walk_plain_kind-requires
walk_plain-walk_plain_kind-requires g t c κs within = grind (arith, visiting)

pub walk_plain-returns-in_err-walk_plain_kind : goal.walk_plain-returns-in_err-walk_plain_kind
walk_plain-returns-in_err-walk_plain_kind g t c = grind (arith, visiting)

pub walk_plain-returns : goal.walk_plain-returns
walk_plain-returns g t c = grind (arith, visiting)

pub walk_plain_kind-returns-in-Elementary : goal.walk_plain_kind-returns-in-Elementary
walk_plain_kind-returns-in-Elementary g t c = grind (arith, visiting)

pub walk_plain_kind-returns-in-Address : goal.walk_plain_kind-returns-in-Address
walk_plain_kind-returns-in-Address g t c = grind (arith, visiting)

pub walk_plain_kind-returns-in-String : goal.walk_plain_kind-returns-in-String
walk_plain_kind-returns-in-String g t c = grind (arith, visiting)

pub walk_plain_kind-returns-in-Named : goal.walk_plain_kind-returns-in-Named
walk_plain_kind-returns-in-Named g t c = grind (arith, visiting)

pub walk_plain_kind-returns-in_ok-walk_type-in-Mapping : goal.walk_plain_kind-returns-in_ok-walk_type-in-Mapping
walk_plain_kind-returns-in_ok-walk_type-in-Mapping g t c = grind (arith, visiting)

pub walk_rest-operands-init : goal.walk_rest-operands-init
walk_rest-operands-init g t c = grind (arith, visiting)

pub walk_rest-walk_expr-requires : goal.walk_rest-walk_expr-requires
walk_rest-walk_expr-requires g t c κs within = grind (arith, visiting)

pub walk_rest-returns-in_err-walk_expr : goal.walk_rest-returns-in_err-walk_expr
walk_rest-returns-in_err-walk_expr g t c = grind (arith, visiting)

pub walk_rest-operands-smaller : goal.walk_rest-operands-smaller
walk_rest-operands-smaller g t c = grind (arith, visiting)

pub walk_rest-operands-preserved : goal.walk_rest-operands-preserved
walk_rest-operands-preserved g t c = grind (arith, visiting)

pub walk_rest-returns : goal.walk_rest-returns
walk_rest-returns g t c = grind (arith, visiting)

pub walk_suffix-walk_expr-requires : goal.walk_suffix-walk_expr-requires
walk_suffix-walk_expr-requires g t c κs within = grind (arith, visiting)

pub walk_suffix-walk_args-requires : goal.walk_suffix-walk_args-requires
walk_suffix-walk_args-requires g t c κs within = grind (arith, visiting)

pub walk_suffix-walk_expr-requires-in-Value : goal.walk_suffix-walk_expr-requires-in-Value
walk_suffix-walk_expr-requires-in-Value g t c κs within = grind (arith, visiting)

pub walk_suffix-returns-in-Index : goal.walk_suffix-returns-in-Index
walk_suffix-returns-in-Index g t c = grind (arith, visiting)

pub walk_suffix-returns-in-Member : goal.walk_suffix-returns-in-Member
walk_suffix-returns-in-Member g t c = grind (arith, visiting)

pub walk_suffix-returns-in-Call : goal.walk_suffix-returns-in-Call
walk_suffix-returns-in-Call g t c = grind (arith, visiting)

pub walk_suffix-returns-in-Value : goal.walk_suffix-returns-in-Value
walk_suffix-returns-in-Value g t c = grind (arith, visiting)

pub walk_suffix-returns-in-Increment : goal.walk_suffix-returns-in-Increment
walk_suffix-returns-in-Increment g t c = grind (arith, visiting)

pub walk_suffix-returns-in-Decrement : goal.walk_suffix-returns-in-Decrement
walk_suffix-returns-in-Decrement g t c = grind (arith, visiting)

pub walk_suffixes-loop-s-init : goal.walk_suffixes-loop-s-init
walk_suffixes-loop-s-init g t c = grind (arith, visiting)

pub walk_suffixes-offset_bounds-list-s-index : goal.walk_suffixes-offset_bounds-list-s-index
walk_suffixes-offset_bounds-list-s-index g t c = grind (arith, visiting)

pub walk_suffixes-walk_suffix-requires : goal.walk_suffixes-walk_suffix-requires
walk_suffixes-walk_suffix-requires g t c κs within = grind (arith, common_steps)

pub walk_suffixes-returns-in_err-walk_suffix : goal.walk_suffixes-returns-in_err-walk_suffix
walk_suffixes-returns-in_err-walk_suffix g t c = grind (arith, visiting)

pub walk_suffixes-loop-s-smaller : goal.walk_suffixes-loop-s-smaller
walk_suffixes-loop-s-smaller g t c = grind (arith, visiting)

pub walk_suffixes-loop-s-preserved : goal.walk_suffixes-loop-s-preserved
walk_suffixes-loop-s-preserved g t c = grind (arith, common_steps)

pub walk_suffixes-returns : goal.walk_suffixes-returns
walk_suffixes-returns g t c = grind (arith, common_steps)

pub walk_two-walk_expr-requires : goal.walk_two-walk_expr-requires
walk_two-walk_expr-requires g t c κs within = grind (arith, visiting)

pub walk_two-returns-in_err-walk_expr : goal.walk_two-returns-in_err-walk_expr
walk_two-returns-in_err-walk_expr g t c = grind (arith, visiting)

pub walk_two-walk_expr-requires-2 : goal.walk_two-walk_expr-requires-2
walk_two-walk_expr-requires-2 g t c κs within = grind (arith, visiting)

pub walk_two-returns : goal.walk_two-returns
walk_two-returns g t c = grind (arith, visiting)

pub walk_type-returns-in_err-before : goal.walk_type-returns-in_err-before
walk_type-returns-in_err-before g t c = grind (arith, visiting)

pub walk_type-returns : goal.walk_type-returns
walk_type-returns g t c = grind (arith, visiting)

pub walk_type-walk_plain-requires : goal.walk_type-walk_plain-requires
walk_type-walk_plain-requires g t c κs within = grind (arith, visiting)

pub walk_type-returns-in_err-walk_plain : goal.walk_type-returns-in_err-walk_plain
walk_type-returns-in_err-walk_plain g t c = grind (arith, visiting)

pub walk_type-walk_lengths-requires : goal.walk_type-walk_lengths-requires
walk_type-walk_lengths-requires g t c κs within = grind (arith, visiting)

pub walk_expr-returns-in_err-before : goal.walk_expr-returns-in_err-before
walk_expr-returns-in_err-before g t c = grind (arith, visiting)

pub walk_expr-walk_kind-requires : goal.walk_expr-walk_kind-requires
walk_expr-walk_kind-requires g t c κs within = grind (arith, visiting)

pub walk_expr-returns-in_err-walk_kind : goal.walk_expr-returns-in_err-walk_kind
walk_expr-returns-in_err-walk_kind g t c = grind (arith, visiting)

pub walk_expr-returns : goal.walk_expr-returns
walk_expr-returns g t c = grind (arith, visiting)

pub walk_type-returns-in_err-walk_lengths : goal.walk_type-returns-in_err-walk_lengths
walk_type-returns-in_err-walk_lengths g t c = grind (arith, visiting)
