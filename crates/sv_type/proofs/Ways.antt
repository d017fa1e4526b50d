-- What the parts of a type decide of the type.
use Rattle.std.proofs.Common.{◌≡◌, ◌≢◌, ◌∙◌, ◌<◌, ◌↔◌, Bool, true, false, IsTrue, ℕ, List, [], ◌∷◌, Some, None, length, get_or, slice_get, Contains, refl, sym, ap, subst, arith, zero, suc, true≢false}
use Rattle.std.proofs.lemmas.List.Elements.{Contains-get_or, All-get_or}
use Rattle.std.proofs.lemmas.Grind.{get_or_default_zero}
use Rattle.sv_type.specs.declared.info.TypeInfo.{TypeInfo}
use Rattle.sv_type.specs.declared.info.TypeInfo.TheVariants.{Struct, Fixed, Dynamic, Mapping}
use Rattle.sv_type.specs.TypeParts.{is_value, parts_of, held_by, IsOrdered, element_of, Holds, LeadsTo, ContainsType, IsValueType, IsFlat}

same_some : {A : Type 0} (o p : A) → Some o ≡ Some p → o ≡ p
same_some o p e = cc

only : (p q : ℕ) → Contains (p ∷ []) q → q ≡ p
only p q (k, within, is) = sym is ∙ go k within
  where
    go : (j : ℕ) → j < length (p ∷ []) → get_or (p ∷ []) j q ≡ p
    go zero h = refl
    go (suc j) h = absurd (omega arith)

value_holds_nothing : (info : TypeInfo) → is_value info ≡ true → (p : ℕ) → Contains (held_by info) p → ⊥
value_holds_nothing (Struct fields) value p held = true≢false (sym value)
value_holds_nothing (Fixed e n) value p held = true≢false (sym value)
value_holds_nothing (Dynamic e) value p held = true≢false (sym value)
value_holds_nothing (Mapping k v) value p held = true≢false (sym value)
value_holds_nothing _ value p (k, within, is) = omega arith

value_is_no_array : (info : TypeInfo) → is_value info ≡ true → (e : ℕ) → element_of info ≡ Some e → ⊥
value_is_no_array (Struct fields) value e is = true≢false (sym value)
value_is_no_array (Fixed x n) value e is = true≢false (sym value)
value_is_no_array (Dynamic x) value e is = true≢false (sym value)
value_is_no_array (Mapping k v) value e is = true≢false (sym value)
value_is_no_array _ value e is = let bad : None ≡ Some e = is in cc

-- what a lemma says of the parts of a type, a loop over its fields says of its items
pub item_at : (items : List ℕ) (k x : ℕ) → x ≡ get_or items k x → k < length items → get_or items k 0 ≡ x
item_at items k x is within = sym (get_or_default_zero items k x within) ∙ sym is

pub not_so : {P : Type 0} (b : Bool) → b ≡ false → IsTrue b ↔ P → P → ⊥
not_so b never (ahead, back) p = true≢false (sym (back p) ∙ never)

pub is_so : {P : Type 0} (b : Bool) → b ≡ true → IsTrue b ↔ P → P
is_so b always (ahead, back) = ahead always

-- a type of none of the kinds that have parts
pub none_held : (info : TypeInfo) → ((fields : List ℕ) → info ≡ Struct fields → ⊥) → ((e n : ℕ) → info ≡ Fixed e n → ⊥) → ((e : ℕ) → info ≡ Dynamic e → ⊥) → ((k v : ℕ) → info ≡ Mapping k v → ⊥) → is_value info ≡ true
none_held (Struct fields) s f d m = absurd (s fields refl)
none_held (Fixed e n) s f d m = absurd (f e n refl)
none_held (Dynamic e) s f d m = absurd (d e refl)
none_held (Mapping k v) s f d m = absurd (m k v refl)
none_held _ s f d m = refl

module _ (types : List TypeInfo) (t : ℕ) (info : TypeInfo) (here : slice_get types t ≡ Some info) where
  -- what the entry of a number says, any entry of it says
  of_entry : (P : TypeInfo → Type 0) (other : TypeInfo) → slice_get types t ≡ Some other → P other → P info
  of_entry P other there p = subst P (same_some other info (sym there ∙ here)) p

  held_here : (p : ℕ) → Holds types t p → Contains (held_by info) p
  held_here p (other, there, held) = of_entry (λ i. Contains (held_by i) p) other there held

  pub contains_deeper : (p part : ℕ) → Contains (held_by info) p → ContainsType types p part → ContainsType types t part
  contains_deeper p part held (way, leads) = (p ∷ way, ((info, here, held), leads))

  -- a type that contains another contains it in a part
  contains_in_part : (part : ℕ) → t ≢ part → ContainsType types t part → (p : ℕ) × Contains (held_by info) p × ContainsType types p part
  contains_in_part part differ ([], same) = absurd (differ same)
  contains_in_part part differ (p ∷ way, (held, leads)) = (p, held_here p held, (way, leads))

  no_way_down : (e : ℕ) (inner : TypeInfo) → slice_get types e ≡ Some inner → is_value inner ≡ true → (a x : ℕ) (way : List ℕ) → LeadsTo types e way a → (other : TypeInfo) → slice_get types a ≡ Some other → element_of other ≡ Some x → ⊥
  no_way_down e inner at value a x [] same other there element =
      value_is_no_array inner value x (subst (λ i. element_of i ≡ Some x) (same_some other inner (sym there ∙ ap (slice_get types) (sym same) ∙ at)) element)
  no_way_down e inner at value a x (p ∷ way) ((i, k, held), leads) other there element =
      value_holds_nothing inner value p (subst (λ j. Contains (held_by j) p) (same_some i inner (sym k ∙ at)) held)

  pub contains_itself : IsTrue true ↔ ContainsType types t t
  contains_itself = (λ _. ([], refl), λ _. refl)

  -- a type with one part
  pub contains_by_one : (p part : ℕ) (b : Bool) → held_by info ≡ p ∷ [] → t ≢ part → IsTrue b ↔ ContainsType types p part → IsTrue b ↔ ContainsType types t part
  contains_by_one p part b one differ (ahead, back) = (
    λ h. contains_deeper p part (subst (λ ps. Contains ps p) (sym one) (Contains-get_or (p ∷ []) 0 p (omega arith))) (ahead h),
    λ h. let (q, held, deeper) = contains_in_part part differ h in
        let same : q ≡ p = only p q (subst (λ ps. Contains ps q) one held) in
        back (subst (λ r. ContainsType types r part) same deeper),
  )

  -- a type with a list of parts, one of which contains the type
  pub contains_by_some : (part k : ℕ) → k < length (held_by info) → ContainsType types (get_or (held_by info) k 0) part → IsTrue true ↔ ContainsType types t part
  contains_by_some part k within deeper = (λ _. contains_deeper _ part (Contains-get_or (held_by info) k 0 within) deeper, λ _. refl)

  -- a type none of whose parts contains the type
  pub contains_by_none : (part : ℕ) → t ≢ part → ((k : ℕ) → k < length (held_by info) → ContainsType types (get_or (held_by info) k 0) part → ⊥) → IsTrue false ↔ ContainsType types t part
  contains_by_none part differ none = (
    λ h. absurd (true≢false (sym h)),
    λ h. let (q, (k, within, is), deeper) = contains_in_part part differ h in
        absurd (none k within (subst (λ r. ContainsType types r part) (sym is ∙ get_or_default_zero (held_by info) k q within) deeper)),
  )

  -- the parts stand before the type
  pub part_below : IsOrdered types → (k : ℕ) → k < length (parts_of info) → get_or (parts_of info) k 0 < t
  part_below ordered k within = All-get_or (λ p. p < t) (parts_of info) k 0 within (ordered t info here)

  array_of_value : (e : ℕ) (inner : TypeInfo) → slice_get types e ≡ Some inner → element_of info ≡ Some e → held_by info ≡ e ∷ [] → is_value inner ≡ true → (a x : ℕ) → ContainsType types t a → (other : TypeInfo) → slice_get types a ≡ Some other → element_of other ≡ Some x → IsValueType types x
  array_of_value e inner at is one value a x ([], same) other there element =
      let mine : element_of info ≡ Some x = of_entry (λ i. element_of i ≡ Some x) other (subst (λ n. slice_get types n ≡ Some other) (sym same) there) element in
      let x_is : e ≡ x = same_some e x (sym is ∙ mine) in
      subst (IsValueType types) x_is (inner, at, value)
  array_of_value e inner at is one value a x (p ∷ way, (held, leads)) other there element =
      let p_is : p ≡ e = only e p (subst (λ ps. Contains ps p) one (held_here p held)) in
      absurd (no_way_down e inner at value a x way (subst (λ q. LeadsTo types q way a) p_is leads) other there element)

  -- what an array's elements, which are values, decide of it
  pub flat_array : (e : ℕ) (inner : TypeInfo) → slice_get types e ≡ Some inner → element_of info ≡ Some e → held_by info ≡ e ∷ [] → IsTrue (is_value inner) ↔ IsFlat types t
  flat_array e inner at is one = (
    λ value a x deeper (other, there, element). array_of_value e inner at is one value a x deeper other there element,
    λ flat. let (other, there, value) = flat t e ([], refl) (info, here, is) in
        subst (λ i. is_value i ≡ true) (same_some other inner (sym there ∙ at)) value,
  )

  -- a type that is no array is flat where its parts are
  pub flat_by_parts : element_of info ≡ None → ((k : ℕ) → k < length (held_by info) → IsFlat types (get_or (held_by info) k 0)) → IsFlat types t
  flat_by_parts no_array flat a e ([], same) (other, there, element) =
      let none : element_of info ≡ Some e = of_entry (λ i. element_of i ≡ Some e) other (subst (λ n. slice_get types n ≡ Some other) (sym same) there) element in
      absurd (cc)
  flat_by_parts no_array flat a e (p ∷ way, (held, leads)) array =
      let (k, within, is) = held_here p held in
      subst (IsFlat types) (sym (get_or_default_zero (held_by info) k p within) ∙ is) (flat k within) a e (way, leads) array

  -- what a flat type holds is flat
  pub flat_part : IsFlat types t → (k : ℕ) → k < length (held_by info) → IsFlat types (get_or (held_by info) k 0)
  flat_part flat k within a e deeper array = flat a e (contains_deeper _ a (Contains-get_or (held_by info) k 0 within) deeper) array

  -- a value holds nothing
  pub contains_by_value : (part : ℕ) → t ≢ part → is_value info ≡ true → IsTrue false ↔ ContainsType types t part
  contains_by_value part differ value = (
    λ h. absurd (true≢false (sym h)),
    λ h. let (q, held, deeper) = contains_in_part part differ h in absurd (value_holds_nothing info value q held),
  )

  pub flat_value : is_value info ≡ true → IsFlat types t
  flat_value value a e (way, leads) (other, there, element) = absurd (no_way_down t info here value a e way leads other there element)

  -- a type with one part, which is no array
  pub flat_by_one : (p : ℕ) (b : Bool) → element_of info ≡ None → held_by info ≡ p ∷ [] → IsTrue b ↔ IsFlat types p → IsTrue b ↔ IsFlat types t
  flat_by_one p b no_array one (ahead, back) = (
    λ h. flat_by_parts no_array (λ k within. subst (IsFlat types) (sym (first k within)) (ahead h)),
    λ flat. back (subst (IsFlat types) (first 0 (subst (λ ps. 0 < length ps) (sym one) (omega arith))) (flat_part flat 0 (subst (λ ps. 0 < length ps) (sym one) (omega arith)))),
  )
    where
      first_of_one : (k : ℕ) → k < length (p ∷ []) → get_or (p ∷ []) k 0 ≡ p
      first_of_one zero h = refl
      first_of_one (suc k) h = absurd (omega arith)

      first : (k : ℕ) → k < length (held_by info) → get_or (held_by info) k 0 ≡ p
      first k within = subst (λ ps. k < length ps → get_or ps k 0 ≡ p) (sym one) (first_of_one k) within
