-- Believed: values of closed terms at edges, worked out by hand, and what the tests say of terms. Hold it against the README's table of nodes.
use Rattle.std.specs.Prelude.{ℕ, true, false, ◌≡◌, pos, negsuc, [], ◌∷◌}
use Rattle.sv_term.specs.Sorts.{Any, Low, Bits, Sort, NumSort, BoolSort, ArrSort, TupSort, NoSorts, SortAnd}
use Rattle.sv_term.specs.Values.{Number, Flag, Array, Empty, Entry}
use Rattle.sv_term.specs.Terms.{Term, End, More, Lit, Truth, Var, Add, Sub, Mul, Div, Mod, Wrap, Le, Eq, Not, And, Or, Ite, Sel, Sto, Const, Mix, Tup, Get, Sum, fits, sort_of, is_plain}
use Rattle.sv_term.specs.Models.{Model, value}
use Rattle.sv_term.specs.FactRules.{Says}
use Rattle.sv_term.specs.FactRuleTest.{is_by_rule}

abbrev pub num : ℕ → Term
num n = Lit false n

abbrev pub minus : ℕ → Term
minus n = Lit true n

-- arrays of unsigned bytes: 0 everywhere, and 7 everywhere
abbrev pub bytes : Sort
bytes = ArrSort (NumSort (Bits false 8))

abbrev pub zeros : Term
zeros = Const bytes (num 0)

abbrev pub sevens : Term
sevens = Const bytes (num 7)

pub record ValuesAtEdges (m : Model) : Type 0 where
  pub seven_by_two : value m (Div (num 7) (num 2)) ≡ Number (pos 3)
  pub seven_after_two : value m (Mod (num 7) (num 2)) ≡ Number (pos 1)
  pub seven_by_minus_two : value m (Div (num 7) (minus 2)) ≡ Number (negsuc 2)
  pub seven_after_minus_two : value m (Mod (num 7) (minus 2)) ≡ Number (pos 1)
  pub seven_by_zero : value m (Div (num 7) (num 0)) ≡ Number (pos 0)
  pub seven_after_zero : value m (Mod (num 7) (num 0)) ≡ Number (pos 0)
  pub minus_seven_by_two : value m (Div (minus 7) (num 2)) ≡ Number (negsuc 2)
  pub minus_seven_after_two : value m (Mod (minus 7) (num 2)) ≡ Number (negsuc 0)
  pub minus_seven_by_minus_two : value m (Div (minus 7) (minus 2)) ≡ Number (pos 3)
  pub minus_seven_after_minus_two : value m (Mod (minus 7) (minus 2)) ≡ Number (negsuc 0)
  pub minus_seven_by_zero : value m (Div (minus 7) (num 0)) ≡ Number (pos 0)
  pub minus_seven_after_zero : value m (Mod (minus 7) (num 0)) ≡ Number (pos 0)
  pub one_bit_of_two : value m (Wrap false 1 (num 2)) ≡ Number (pos 0)
  pub one_bit_of_three : value m (Wrap false 1 (num 3)) ≡ Number (pos 1)
  pub one_bit_of_minus_one : value m (Wrap false 1 (minus 1)) ≡ Number (pos 1)
  pub one_signed_bit_of_one : value m (Wrap true 1 (num 1)) ≡ Number (negsuc 0)
  pub one_signed_bit_of_two : value m (Wrap true 1 (num 2)) ≡ Number (pos 0)
  pub one_signed_bit_of_minus_one : value m (Wrap true 1 (minus 1)) ≡ Number (negsuc 0)
  pub byte_of_255 : value m (Wrap false 8 (num 255)) ≡ Number (pos 255)
  pub byte_of_256 : value m (Wrap false 8 (num 256)) ≡ Number (pos 0)
  pub byte_of_minus_one : value m (Wrap false 8 (minus 1)) ≡ Number (pos 255)
  pub signed_byte_of_127 : value m (Wrap true 8 (num 127)) ≡ Number (pos 127)
  pub signed_byte_of_128 : value m (Wrap true 8 (num 128)) ≡ Number (negsuc 127)
  pub signed_byte_of_minus_128 : value m (Wrap true 8 (minus 128)) ≡ Number (negsuc 127)
  pub signed_byte_of_minus_129 : value m (Wrap true 8 (minus 129)) ≡ Number (pos 127)
  pub widest_of_the_size : value m (Wrap false 120 (num 1329227995784915872903807060280344576)) ≡ Number (pos 0)
  pub widest_of_minus_one : value m (Wrap false 120 (minus 1)) ≡ Number (pos 1329227995784915872903807060280344575)
  pub widest_signed_of_the_half : value m (Wrap true 120 (num 664613997892457936451903530140172288)) ≡ Number (negsuc 664613997892457936451903530140172287)
  pub widest_signed_of_the_greatest : value m (Wrap true 120 (num 664613997892457936451903530140172287)) ≡ Number (pos 664613997892457936451903530140172287)
  pub widest_signed_below_the_least : value m (Wrap true 120 (minus 664613997892457936451903530140172289)) ≡ Number (pos 664613997892457936451903530140172287)
  pub stored_out_of_range : value m (Sel (Sto zeros (num 1) (num 300)) (num 1)) ≡ Number (pos 0)
  pub stored_at_the_edge : value m (Sel (Sto zeros (num 1) (num 255)) (num 1)) ≡ Number (pos 255)
  pub stored_elsewhere : value m (Sel (Sto zeros (num 1) (num 5)) (minus 1)) ≡ Number (pos 0)
  pub everywhere_out_of_range : value m (Const bytes (num 256)) ≡ Array (Number (pos 0)) Empty
  pub part_out_of_range : value m (Get 0 (Tup (TupSort (SortAnd (NumSort (Bits false 8)) NoSorts)) (More (num 256) End))) ≡ Number (pos 0)
  pub second_part : value m (Get 1 (Tup (TupSort (SortAnd BoolSort (SortAnd (NumSort Any) NoSorts))) (More (Truth true) (More (minus 5) End)))) ≡ Number (negsuc 4)
  pub stores_in_any_order : value m (Eq (Sto (Sto zeros (num 1) (num 5)) (minus 2) (num 6)) (Sto (Sto zeros (minus 2) (num 6)) (num 1) (num 5))) ≡ Flag true
  pub default_stored : value m (Eq (Sto (Sto zeros (num 1) (num 5)) (num 1) (num 0)) zeros) ≡ Flag true
  pub other_default : value m (Eq sevens zeros) ≡ Flag false
  pub sum_of_none : value m (Sum zeros) ≡ Number (pos 0)
  pub sum_of_two : value m (Sum (Sto (Sto zeros (num 1) (num 5)) (num 2) (num 6))) ≡ Number (pos 11)
  pub sum_without_the_shadowed : value m (Sum (Sto (Sto zeros (num 1) (num 5)) (num 1) (num 7))) ≡ Number (pos 7)
  pub sum_without_the_default : value m (Sum (Sto (Sto zeros (num 1) (num 5)) (num 1) (num 0))) ≡ Number (pos 0)
  pub sum_of_another_default : value m (Sum (Sto sevens (num 1) (num 5))) ≡ Number (pos 0)
  pub mix_of_below_none : value m (Eq (Mix (minus 3) sevens zeros) zeros) ≡ Flag true
  pub mix_of_none : value m (Eq (Mix (num 0) sevens zeros) zeros) ≡ Flag true
  pub mix_of_one : value m (Mix (num 1) sevens zeros) ≡ Array (Number (pos 0)) (Entry (pos 0) (Number (pos 7)) Empty)
  pub mix_of_many : value m (Sum (Mix (num 3) sevens (Sto zeros (num 5) (num 1)))) ≡ Number (pos 22)
  pub empty_tuples : value m (Eq (Tup (TupSort NoSorts) End) (Tup (TupSort NoSorts) End)) ≡ Flag true
  pub sums_and_differences : value m (Sub (Add (num 2) (minus 5)) (Mul (minus 3) (num 4))) ≡ Number (pos 9)
  pub order : value m (And (Le (minus 1) (num 0)) (Not (Le (num 1) (num 0)))) ≡ Flag true
  pub minus_zero : value m (Eq (minus 0) (num 0)) ≡ Flag true
  pub chosen : value m (Ite (Or (Truth false) (Truth true)) (num 1) (num 2)) ≡ Number (pos 1)

pub record TestsOfTerms : Type 0 where
  pub sort_of_two_ranges : sort_of (Ite (Truth true) (Var 0 (NumSort Low)) (num 1)) ≡ NumSort Any
  pub sort_of_one_range : sort_of (Ite (Truth true) (Var 0 (NumSort Low)) (Var 1 (NumSort Low))) ≡ NumSort Low
  pub store_fits : fits (Sto (Var 0 bytes) (num 1) (Var 1 (NumSort Low))) ≡ true
  pub arrays_of_two_ranges : fits (Eq (Var 0 bytes) (Var 1 (ArrSort (NumSort Any)))) ≡ false
  pub no_bits : fits (Var 0 (NumSort (Bits false 0))) ≡ false
  pub too_many_bits : fits (Wrap true 121 (num 0)) ≡ false
  pub plain_store : is_plain (Sto (Var 0 bytes) (num 1) (num 3)) ≡ true
  pub plain_zeros : is_plain zeros ≡ true
  pub sevens_are_not_plain : is_plain sevens ≡ false
  pub minus_zero_is_not_plain : is_plain (Const bytes (minus 0)) ≡ false
  pub read_back_of_a_byte : is_by_rule 30 [] (Says true (Eq (Sel (Sto (Var 0 bytes) (num 1) (Var 1 (NumSort (Bits false 8)))) (num 1)) (Var 1 (NumSort (Bits false 8))))) ≡ true
  pub read_back_of_a_number : is_by_rule 30 [] (Says true (Eq (Sel (Sto (Var 0 bytes) (num 1) (Var 1 (NumSort Any))) (num 1)) (Var 1 (NumSort Any)))) ≡ false
  pub read_back_in_range : is_by_rule 30 (Says true (Le (num 0) (Var 1 (NumSort Any))) ∷ Says true (Le (Var 1 (NumSort Any)) (num 255)) ∷ []) (Says true (Eq (Sel (Sto (Var 0 bytes) (num 1) (Var 1 (NumSort Any))) (num 1)) (Var 1 (NumSort Any)))) ≡ true
  pub quotient_by_five : is_by_rule 43 (Says true (Le (num 0) (Var 0 (NumSort Any))) ∷ []) (Says true (Le (Mul (num 5) (Div (Var 0 (NumSort Any)) (num 5))) (Var 0 (NumSort Any)))) ≡ true
  pub quotient_by_zero : is_by_rule 43 (Says true (Le (num 0) (Var 0 (NumSort Any))) ∷ []) (Says true (Le (Mul (num 0) (Div (Var 0 (NumSort Any)) (num 0))) (Var 0 (NumSort Any)))) ≡ false
  pub no_such_rule : is_by_rule 19 [] (Says true (Eq (num 0) (num 0))) ≡ false

abbrev pub ValuesAreWorked : Type 0
ValuesAreWorked = (m : Model) → ValuesAtEdges m
