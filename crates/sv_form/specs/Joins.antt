-- Believed: what is made of two numbers. Hold it against the arithmetic of linear forms.
use Rattle.std.specs.Prelude.{ℤ, pos, negsuc, ◌+ℤ◌, ◌-ℤ◌, ◌*ℤ◌}
use Rattle.sv_form.specs.declared.node.Join.{Join}
use Rattle.sv_form.specs.declared.node.Join.TheVariants.{Sum, Difference, Multiple}

abbrev pub joined : Join → ℤ → ℤ → ℤ
joined Sum k l = k +ℤ l
joined Difference k l = k -ℤ l
joined (Multiple z) k l = z *ℤ k

abbrev pub first_factor : Join → ℤ
first_factor Sum = pos 1
first_factor Difference = pos 1
first_factor (Multiple z) = z

abbrev pub second_factor : Join → ℤ
second_factor Sum = pos 1
second_factor Difference = negsuc 0
second_factor (Multiple z) = pos 0
