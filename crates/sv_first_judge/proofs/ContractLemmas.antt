-- The sums of a contract of the first form are small.
use Rattle.std.proofs.Common.{◌<◌, ◌^◌, ⊎_elim, ℕ, List, [], ◌∷◌, length, sym, subst, arith}
use Rattle.std.specs.Prelude.{All}
use Rattle.std.proofs.lemmas.List.Elements.{All-cons, All-nil, All-weaker}
use Rattle.sv_first_form.specs.FirstForm.{IsItem, IsSide, IsValue, IsEquation, IsAct, IsFunction, IsContract}
use Rattle.sv_first_form.specs.declared.contract.Act.{Act}
use Rattle.sv_first_form.specs.declared.contract.Act.TheVariants.{Assign, Require}
use Rattle.sv_first_form.specs.declared.contract.Contract.{Contract}
use Rattle.sv_first_form.specs.declared.contract.Equation.{Equation}
use Rattle.sv_first_form.specs.declared.contract.Function.{Function}
use Rattle.sv_first_form.specs.declared.contract.Item.{Item}
use Rattle.sv_first_form.specs.declared.contract.Item.TheVariants.{Variable, Number}
use Rattle.sv_first_judge.specs.Assignments.{IsSmall, IsSum, HasSums}
use Rattle.sv_first_judge.specs.Points.{IsSmallAct, AreSmallActs}

small_item : (n : ℕ) (item : Item) → IsItem n item → IsSmall item
small_item n (Variable v) h = tt
small_item n (Number k) h = h

sum_of_side : (n : ℕ) (items : List Item) → IsSide n items → IsSum items
sum_of_side n [] h = absurd h
sum_of_side n (Number k ∷ items) h = absurd h
sum_of_side n (Variable v ∷ items) h = record {
  small = All-cons IsSmall (Variable v) items tt (All-weaker (IsItem n) IsSmall (small_item n) items h.1);
  few = omega (arith, h.2);
}

sum_of_number : (k : ℕ) → k < 10 ^ 18 → IsSum (Number k ∷ [])
sum_of_number k h = record { small = All-cons IsSmall (Number k) [] h (All-nil IsSmall); few = omega arith }

sum_of_value : (n : ℕ) (items : List Item) → IsValue n items → IsSum items
sum_of_value n items h =
    ⊎_elim (sum_of_side n items) (λ number. let P : List Item → Type 0 = λ xs. IsSum xs in subst P (sym number.1) (sum_of_number number.0 number.2)) h

sums_of_equation : (n : ℕ) (e : Equation) → IsEquation n e → HasSums e
sums_of_equation n e h = record { left = sum_of_side n e.left h.0; right = sum_of_side n e.right h.1 }

small_act : (n : ℕ) (act : Act) → IsAct n act → IsSmallAct act
small_act n (Assign v sum) h = sum_of_value n sum h.1
small_act n (Require e) h = sums_of_equation n e h

pub sums_of_contract : (c : Contract) → IsContract c → All HasSums c.invariants
sums_of_contract c h = All-weaker (IsEquation (length c.variables)) HasSums (sums_of_equation (length c.variables)) c.invariants h.invariants

small_acts : (n : ℕ) (f : Function) → IsFunction n f → AreSmallActs f.acts
small_acts n f h = record { small = All-weaker (IsAct n) IsSmallAct (small_act n) f.acts h.0; few = h.1 }

pub acts_of_contract : (c : Contract) → IsContract c → All (λ f. AreSmallActs f.acts) c.functions
acts_of_contract c h = All-weaker (IsFunction (length c.variables)) (λ f. AreSmallActs f.acts) (small_acts (length c.variables)) c.functions h.functions
