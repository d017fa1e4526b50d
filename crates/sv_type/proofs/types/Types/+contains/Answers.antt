use Rattle.std.proofs.Common.{◌≡◌, ◌≢◌, Bool, false, eqb, ◌∙◌, ◌<◌, ℕ, Some, length, get_or, refl, sym, ap, subst, arith, below_more}
use Rattle.std.proofs.lemmas.Bool.{eqb-false}
use Rattle.sv_type.specs.declared.info.TypeInfo.TheVariants.{Struct, Fixed, Dynamic, Mapping}
use Rattle.sv_type.specs.TypeParts.{ContainsType}
use Rattle.sv_type.proofs.Ways.{contains_by_one, contains_by_some, contains_by_none, contains_by_value, part_below, item_at, not_so, is_so, none_held}
use Rattle.sv_type.proofs.types.Types.+contains.Goals as goal

in_range : (p t arg n : ℕ) {part : ℕ} → arg ≡ t → arg < n → p < arg → part < n → (p < t) × ((p < n) × (part < n))
in_range p t arg n is within below part_within = (omega arith, (omega arith, part_within))

differ : {b : Bool} {x y : ℕ} → b ≡ eqb x y → b ≡ false → x ≢ y
differ {x = x} {y = y} is no_match same = eqb-false x y (sym is ∙ no_match) same

pub contains-requires : goal.contains-requires
contains-requires t c =
    let here = c.get.ensures.found ∙ ap Some c.in-Struct.is in
    let within : c.loop-field.field-index < length c.in-Struct.fields = subst (λ xs. c.loop-field.field-index < length xs) c.as_slice-field-items.ensures c.loop-field-test.true in
    let below = part_below c.args.self.now c.args.t (Struct c.in-Struct.fields) here c.get.ensures.ordered c.loop-field.field-index within in
    let is = item_at c.as_slice-field-items.result.now c.loop-field.field-index c.field-item.result c.field-item.is c.loop-field-test.true in
    let is' : get_or c.in-Struct.fields c.loop-field.field-index 0 ≡ c.field-item.result = subst (λ xs. get_or xs c.loop-field.field-index 0 ≡ c.field-item.result) c.as_slice-field-items.ensures is in
    let below' : c.field-item.result < c.args.t = subst (λ x. x < c.args.t) is' below in
    in_range _ _ c.args.t _ c.decreases c.requires.within below' c.requires.part_within

pub returns-then-contains : goal.returns-then-contains
returns-then-contains t c =
    let is = item_at c.as_slice-field-items.result.now c.loop-field.field-index c.field-item.result c.field-item.is c.loop-field-test.true in
    let deeper : ContainsType c.args.self.now (get_or c.in-Struct.fields c.loop-field.field-index 0) c.args.part =
    subst (λ x. ContainsType c.args.self.now x c.args.part) (sym is ∙ ap (λ xs. get_or xs c.loop-field.field-index 0) c.as_slice-field-items.ensures) (is_so c.contains.result c.if-contains.true c.contains.ensures) in
    contains_by_some c.args.self.now c.args.t (Struct c.in-Struct.fields) (c.get.ensures.found ∙ ap Some c.in-Struct.is) c.args.part c.loop-field.field-index
    (subst (λ xs. c.loop-field.field-index < length xs) c.as_slice-field-items.ensures c.loop-field-test.true) deeper

pub loop-field-preserved : goal.loop-field-preserved
loop-field-preserved t c =
    below_more _ _ c.loop-field.invariant
    (λ h. not_so c.contains.result c.if-contains.false c.contains.ensures
    (subst (λ x. ContainsType c.args.self.now x c.args.part) (item_at c.as_slice-field-items.result.now c.loop-field.field-index c.field-item.result c.field-item.is c.loop-field-test.true) h))

pub contains-requires-in-Fixed : goal.contains-requires-in-Fixed
contains-requires-in-Fixed t c =
    let below = part_below c.args.self.now c.args.t (Fixed c.in-Fixed.element c.in-Fixed.field-1) (c.get.ensures.found ∙ ap Some c.in-Fixed.is) c.get.ensures.ordered 0 (omega arith) in
    in_range _ _ c.args.t _ c.decreases c.requires.within below c.requires.part_within

pub contains-requires-in-Dynamic : goal.contains-requires-in-Dynamic
contains-requires-in-Dynamic t c =
    let below = part_below c.args.self.now c.args.t (Dynamic c.in-Dynamic.element) (c.get.ensures.found ∙ ap Some c.in-Dynamic.is) c.get.ensures.ordered 0 (omega arith) in
    in_range _ _ c.args.t _ c.decreases c.requires.within below c.requires.part_within

pub contains-requires-in-Mapping : goal.contains-requires-in-Mapping
contains-requires-in-Mapping t c =
    let below = part_below c.args.self.now c.args.t (Mapping c.in-Mapping.field-0 c.in-Mapping.value) (c.get.ensures.found ∙ ap Some c.in-Mapping.is) c.get.ensures.ordered 1 (omega arith) in
    in_range _ _ c.args.t _ c.decreases c.requires.within below c.requires.part_within

pub returns-after-loop-field : goal.returns-after-loop-field
returns-after-loop-field t c =
    let done = c.loop-field-test.false in
    let len = ap length c.as_slice-field-items.ensures in
    contains_by_none c.args.self.now c.args.t (Struct c.in-Struct.fields) (c.get.ensures.found ∙ ap Some c.in-Struct.is) c.args.part (differ c.eq.ensures c.if-eq.false)
    (λ k within deeper. c.loop-field.invariant k (omega arith) (subst (λ xs. ContainsType c.args.self.now (get_or xs k 0) c.args.part) (sym c.as_slice-field-items.ensures) deeper))

pub returns-in-Fixed : goal.returns-in-Fixed
returns-in-Fixed t c =
    contains_by_one c.args.self.now c.args.t (Fixed c.in-Fixed.element c.in-Fixed.field-1) (c.get.ensures.found ∙ ap Some c.in-Fixed.is)
    c.in-Fixed.element c.args.part c.contains-in-Fixed.result refl (differ c.eq.ensures c.if-eq.false) c.contains-in-Fixed.ensures

pub returns-in-Dynamic : goal.returns-in-Dynamic
returns-in-Dynamic t c =
    contains_by_one c.args.self.now c.args.t (Dynamic c.in-Dynamic.element) (c.get.ensures.found ∙ ap Some c.in-Dynamic.is)
    c.in-Dynamic.element c.args.part c.contains-in-Dynamic.result refl (differ c.eq.ensures c.if-eq.false) c.contains-in-Dynamic.ensures

pub returns-in-Mapping : goal.returns-in-Mapping
returns-in-Mapping t c =
    contains_by_one c.args.self.now c.args.t (Mapping c.in-Mapping.field-0 c.in-Mapping.value) (c.get.ensures.found ∙ ap Some c.in-Mapping.is)
    c.in-Mapping.value c.args.part c.contains-in-Mapping.result refl (differ c.eq.ensures c.if-eq.false) c.contains-in-Mapping.ensures

pub returns-in_default : goal.returns-in_default
returns-in_default t c =
    contains_by_value c.args.self.now c.args.t c.get.result.now c.get.ensures.found c.args.part (differ c.eq.ensures c.if-eq.false)
    (none_held c.get.result.now c.in_default.not-Struct c.in_default.not-Fixed c.in_default.not-Dynamic c.in_default.not-Mapping)
