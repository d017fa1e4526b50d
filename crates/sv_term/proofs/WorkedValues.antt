-- Values of closed terms, and tests of terms, by computing.
use Rattle.std.proofs.Common.{refl}
use Rattle.sv_term.specs.WorkedValues.{TestsOfTerms, ValuesAreWorked}

pub values_are_worked : ValuesAreWorked
values_are_worked m = record {
  seven_by_two = refl;
  seven_after_two = refl;
  seven_by_minus_two = refl;
  seven_after_minus_two = refl;
  seven_by_zero = refl;
  seven_after_zero = refl;
  minus_seven_by_two = refl;
  minus_seven_after_two = refl;
  minus_seven_by_minus_two = refl;
  minus_seven_after_minus_two = refl;
  minus_seven_by_zero = refl;
  minus_seven_after_zero = refl;
  one_bit_of_two = refl;
  one_bit_of_three = refl;
  one_bit_of_minus_one = refl;
  one_signed_bit_of_one = refl;
  one_signed_bit_of_two = refl;
  one_signed_bit_of_minus_one = refl;
  byte_of_255 = refl;
  byte_of_256 = refl;
  byte_of_minus_one = refl;
  signed_byte_of_127 = refl;
  signed_byte_of_128 = refl;
  signed_byte_of_minus_128 = refl;
  signed_byte_of_minus_129 = refl;
  widest_of_the_size = refl;
  widest_of_minus_one = refl;
  widest_signed_of_the_half = refl;
  widest_signed_of_the_greatest = refl;
  widest_signed_below_the_least = refl;
  stored_out_of_range = refl;
  stored_at_the_edge = refl;
  stored_elsewhere = refl;
  everywhere_out_of_range = refl;
  part_out_of_range = refl;
  second_part = refl;
  stores_in_any_order = refl;
  default_stored = refl;
  other_default = refl;
  sum_of_none = refl;
  sum_of_two = refl;
  sum_without_the_shadowed = refl;
  sum_without_the_default = refl;
  sum_of_another_default = refl;
  mix_of_below_none = refl;
  mix_of_none = refl;
  mix_of_one = refl;
  mix_of_many = refl;
  empty_tuples = refl;
  sums_and_differences = refl;
  order = refl;
  minus_zero = refl;
  chosen = refl;
}

pub tests_are_worked : TestsOfTerms
tests_are_worked = record {
  sort_of_two_ranges = refl;
  sort_of_one_range = refl;
  store_fits = refl;
  arrays_of_two_ranges = refl;
  no_bits = refl;
  too_many_bits = refl;
  plain_store = refl;
  plain_zeros = refl;
  sevens_are_not_plain = refl;
  minus_zero_is_not_plain = refl;
  read_back_of_a_byte = refl;
  read_back_of_a_number = refl;
  read_back_in_range = refl;
  quotient_by_five = refl;
  quotient_by_zero = refl;
  no_such_rule = refl;
}
