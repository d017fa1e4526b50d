use Rattle.std.proofs.Common.{◌≡◌, ◌∙◌, ◌<◌, ◌↔◌, ℕ, true, false, true≢false, IsTrue, Some, length, get_or, refl, sym, ap, subst, arith, below_more}
use Rattle.sv_type.specs.declared.info.TypeInfo.TheVariants.{Struct, Fixed, Dynamic, Mapping}
use Rattle.sv_type.specs.TypeParts.{IsFlat}
use Rattle.sv_type.proofs.Ways.{flat_array, flat_by_one, flat_by_parts, flat_part, flat_value, part_below, item_at, not_so, is_so, none_held}
use Rattle.sv_type.proofs.types.Types.+is_flat.Goals as goal

in_range : (p t arg n : ℕ) → arg ≡ t → arg < n → p < arg → (p < t) × (p < n)
in_range p t arg n is within below = (omega arith, omega arith)

-- a flat type: true of it
so : {P : Type 0} → P → IsTrue true ↔ P
so p = (λ _. p, λ _. refl)

not_flat : {P : Type 0} → (P → ⊥) → IsTrue false ↔ P
not_flat never = (λ h. absurd (true≢false (sym h)), λ p. absurd (never p))

pub is_flat-requires : goal.is_flat-requires
is_flat-requires t c =
    let within : c.loop-field.field-index < length c.in-Struct.fields = subst (λ xs. c.loop-field.field-index < length xs) c.as_slice-field-items.ensures c.loop-field-test.true in
    let below = part_below c.args.self.now c.args.t (Struct c.in-Struct.fields) (c.get.ensures.found ∙ ap Some c.in-Struct.is) c.get.ensures.ordered c.loop-field.field-index within in
    let is = item_at c.as_slice-field-items.result.now c.loop-field.field-index c.field-item.result c.field-item.is c.loop-field-test.true in
    let is' : get_or c.in-Struct.fields c.loop-field.field-index 0 ≡ c.field-item.result = subst (λ xs. get_or xs c.loop-field.field-index 0 ≡ c.field-item.result) c.as_slice-field-items.ensures is in
    in_range _ _ c.args.t _ c.decreases c.requires (subst (λ x. x < c.args.t) is' below)

pub returns-then-not-is_flat : goal.returns-then-not-is_flat
returns-then-not-is_flat t c =
    let within : c.loop-field.field-index < length c.in-Struct.fields = subst (λ xs. c.loop-field.field-index < length xs) c.as_slice-field-items.ensures c.loop-field-test.true in
    let is = item_at c.as_slice-field-items.result.now c.loop-field.field-index c.field-item.result c.field-item.is c.loop-field-test.true in
    let is' : get_or c.in-Struct.fields c.loop-field.field-index 0 ≡ c.field-item.result = subst (λ xs. get_or xs c.loop-field.field-index 0 ≡ c.field-item.result) c.as_slice-field-items.ensures is in
    not_flat (λ flat. not_so c.is_flat.result c.if-not-is_flat.true c.is_flat.ensures
    (subst (IsFlat c.args.self.now) is' (flat_part c.args.self.now c.args.t (Struct c.in-Struct.fields) (c.get.ensures.found ∙ ap Some c.in-Struct.is) flat c.loop-field.field-index within)))

pub loop-field-preserved : goal.loop-field-preserved
loop-field-preserved t c =
    let is = item_at c.as_slice-field-items.result.now c.loop-field.field-index c.field-item.result c.field-item.is c.loop-field-test.true in
    let P : ℕ → Type 0 = λ k. IsFlat c.args.self.now (get_or c.as_slice-field-items.result.now k 0) in
    below_more P _ c.loop-field.invariant (subst (IsFlat c.args.self.now) (sym is) (is_so c.is_flat.result c.if-not-is_flat.false c.is_flat.ensures))

pub get-requires-in-Fixed : goal.get-requires-in-Fixed
get-requires-in-Fixed t c =
    let below = part_below c.args.self.now c.args.t (Fixed c.in-Fixed.element c.in-Fixed.field-1) (c.get.ensures.found ∙ ap Some c.in-Fixed.is) c.get.ensures.ordered 0 (omega arith) in
    (in_range c.in-Fixed.element c.args.t c.args.t (length c.args.self.now) refl c.requires below).1

pub get-requires-in-Dynamic : goal.get-requires-in-Dynamic
get-requires-in-Dynamic t c =
    let below = part_below c.args.self.now c.args.t (Dynamic c.in-Dynamic.element) (c.get.ensures.found ∙ ap Some c.in-Dynamic.is) c.get.ensures.ordered 0 (omega arith) in
    (in_range c.in-Dynamic.element c.args.t c.args.t (length c.args.self.now) refl c.requires below).1

pub is_flat-requires-in-Mapping : goal.is_flat-requires-in-Mapping
is_flat-requires-in-Mapping t c =
    let below = part_below c.args.self.now c.args.t (Mapping c.in-Mapping.field-0 c.in-Mapping.value) (c.get.ensures.found ∙ ap Some c.in-Mapping.is) c.get.ensures.ordered 1 (omega arith) in
    in_range _ _ c.args.t _ c.decreases c.requires below

pub returns-after-loop-field : goal.returns-after-loop-field
returns-after-loop-field t c =
    let done = c.loop-field-test.false in
    let len = ap length c.as_slice-field-items.ensures in
    so (flat_by_parts c.args.self.now c.args.t (Struct c.in-Struct.fields) (c.get.ensures.found ∙ ap Some c.in-Struct.is) refl
    (λ k within. subst (λ xs. IsFlat c.args.self.now (get_or xs k 0)) c.as_slice-field-items.ensures (c.loop-field.invariant k (omega arith))))

pub returns-in-Fixed : goal.returns-in-Fixed
returns-in-Fixed t c =
    subst (λ b. IsTrue b ↔ IsFlat c.args.self.now c.args.t) (sym c.is_value.ensures)
    (flat_array c.args.self.now c.args.t (Fixed c.in-Fixed.element c.in-Fixed.field-1) (c.get.ensures.found ∙ ap Some c.in-Fixed.is) c.in-Fixed.element c.get-in-Fixed.result.now c.get-in-Fixed.ensures.found refl refl)

pub returns-in-Dynamic : goal.returns-in-Dynamic
returns-in-Dynamic t c =
    subst (λ b. IsTrue b ↔ IsFlat c.args.self.now c.args.t) (sym c.is_value-in-Dynamic.ensures)
    (flat_array c.args.self.now c.args.t (Dynamic c.in-Dynamic.element) (c.get.ensures.found ∙ ap Some c.in-Dynamic.is) c.in-Dynamic.element c.get-in-Dynamic.result.now c.get-in-Dynamic.ensures.found refl refl)

pub returns-in-Mapping : goal.returns-in-Mapping
returns-in-Mapping t c =
    flat_by_one c.args.self.now c.args.t (Mapping c.in-Mapping.field-0 c.in-Mapping.value) (c.get.ensures.found ∙ ap Some c.in-Mapping.is)
    c.in-Mapping.value c.is_flat-in-Mapping.result refl refl c.is_flat-in-Mapping.ensures

pub returns-in_default : goal.returns-in_default
returns-in_default t c =
    so (flat_value c.args.self.now c.args.t c.get.result.now c.get.ensures.found
    (none_held c.get.result.now c.in_default.not-Struct c.in_default.not-Fixed c.in_default.not-Dynamic c.in_default.not-Mapping))
