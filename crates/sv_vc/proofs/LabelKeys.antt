-- The order of labels tells them apart as the walk does.
use Rattle.std.proofs.Common.{◌≡◌, ◌∙◌, Bool, true, false, refl, sym, subst}
use Rattle.std.specs.Ordering.{is_eq}
use Rattle.sv_core.specs.declared.label.Label.{Label}
use Rattle.sv_core.specs.contracts.label.LabelOrd.TheImpl.{ghosts as label_ord}
use Rattle.sv_core.specs.contracts.label.LabelPartialEq.TheImpl.{ghosts as label_test}
use Rattle.sv_core.specs.contracts.label.LabelOrd.TheImpl.Laws.{matches_eq-law}
use Rattle.sv_core.specs.contracts.label.LabelEq.TheImpl.Laws.{laws-law}
use Rattle.sv_core.proofs.LabelOrders as labels
use Rattle.sv_vc.specs.ConditionWalk.{same_label}
use Rattle.sv_vc.proofs.Exactness.{same_label_is, label_same}

one_answer : (a b : Bool) → (a ≡ true → b ≡ true) → (b ≡ true → a ≡ true) → a ≡ b
one_answer true b h g = sym (h refl)
one_answer false true h g = g refl
one_answer false false h g = refl

tested : (a b : Label) → same_label a b ≡ true → label_test.eq a b ≡ true
tested a b h = subst (λ z. label_test.eq a z ≡ true) (same_label_is a b h) (laws-law.refl a)

pub label_key : (a b : Label) → is_eq (label_ord.cmp a b) ≡ same_label a b
label_key a b =
    one_answer (is_eq (label_ord.cmp a b)) (same_label a b)
    (λ h. label_same a b (labels.same_label a b (matches_eq-law a b ∙ h)))
    (λ h. sym (matches_eq-law a b) ∙ tested a b h)
