-- A list of keys that are seen as texts, searched for a text.
use Rattle.std.proofs.Common.{◌≡◌, ℕ, ◌<◌, true, false, List, [], ◌∷◌, ◌++◌, map, slice_get, position, Some, Contains, nat_eq, length, refl, sym, ap, ◌∙◌, subst, inl, inr, arith, true≢false, ◌||◌, option_map, if◌then◌else◌, ◌≢◌}
use Rattle.std.specs.List.{list_any}
use Rattle.std.proofs.lemmas.List.{map_push}
use Rattle.indexmap.specs.IndexSet.{insert_key}
use Rattle.std.specs.Cmp.Lexicographic.{same_text, pointwise}
use Rattle.std.proofs.lemmas.Cmp.{nat_list_eq_equiv}
use Rattle.std.proofs.lemmas.List.Quantifiers.{position-Some, all_pairs_push}
use Rattle.std.proofs.lemmas.List.Elements.{Contains-get_or}
use Rattle.std.specs.List.{AllPairs}
use Rattle.std.proofs.lemmas.Option.{slice_get_cases, slice_get-map}
use Rattle.std.proofs.lemmas.Map.Views.{list_any-from_Contains, Contains-from_any}

module _ {K : Type 0} (v : K → List ℕ) (q : List ℕ) where
  -- the key found by its place has the text
  pub text_at : (ks : List K) (i : ℕ) → i < length ks → position (λ k. pointwise nat_eq q (v k)) ks ≡ Some i → slice_get (map v ks) i ≡ Some q
  text_at ks i lt found =
      elim (slice_get_cases ks i).1 [
        | inl w ↦
            let hit : pointwise nat_eq q (v w.0) ≡ true = subst (λ k. pointwise nat_eq q (v k) ≡ true) w.3 (position-Some _ ks i w.0 found).1 in
            let same : q ≡ v w.0 = same_text q (v w.0) (sym hit) in
            slice_get-map v ks i ∙ ap (option_map v) w.2 ∙ ap Some (sym same)
        | inr w ↦ absurd (omega arith)
      ]

  any_map : (ks : List K) → list_any (pointwise nat_eq q) (map v ks) ≡ list_any (λ k. pointwise nat_eq q (v k)) ks
  any_map [] = refl
  any_map (k ∷ ks) = ap (λ b. pointwise nat_eq q (v k) || b) (any_map ks)

  -- a key passes exactly where the text is among those of the keys
  pub held_from_any : (ks : List K) → true ≡ list_any (λ k. pointwise nat_eq q (v k)) ks → Contains (map v ks) q
  held_from_any ks any = Contains-from_any (λ x y e. same_text x y (sym e)) q (map v ks) (any_map ks ∙ sym any)

  pub none_held : (ks : List K) → false ≡ list_any (λ k. pointwise nat_eq q (v k)) ks → Contains (map v ks) q → ⊥
  none_held ks none held = true≢false (sym (list_any-from_Contains nat_list_eq_equiv q (map v ks) held) ∙ any_map ks ∙ sym none)

  -- no key passes where no key has the text
  none_passes : (ks : List K) → (Contains (map v ks) q → ⊥) → false ≡ list_any (λ k. pointwise nat_eq q (v k)) ks
  none_passes ks absent =
      elim (list_any (λ k. pointwise nat_eq q (v k)) ks) as (λ any. any ≡ list_any (λ k. pointwise nat_eq q (v k)) ks → false ≡ any) [
        | true ↦ λ any. absurd (absent (held_from_any ks any))
        | false ↦ λ _. refl
      ] refl

  -- a key that was not there goes last
  pub pushed : (copy : K) (ks new : List K) → (Contains (map v ks) q → ⊥) → new ≡ insert_key (λ a b. pointwise nat_eq (v a) (v b)) ks copy → v copy ≡ q → map v new ≡ map v ks ++ q ∷ []
  pushed copy ks new absent made named =
      let none : false ≡ list_any (λ k. pointwise nat_eq (v copy) (v k)) ks =
      subst (λ t. false ≡ list_any (λ k. pointwise nat_eq t (v k)) ks) (sym named) (none_passes ks absent) in
      ap (map v) (made ∙ ap (λ b. if b then ks else ks ++ copy ∷ []) (sym none)) ∙ map_push v ks copy ∙ ap (λ t. map v ks ++ t ∷ []) named

-- what was put last is at the length
pub slice_get-push : {X : Type 0} (xs : List X) (y : X) → slice_get (xs ++ y ∷ []) (length xs) ≡ Some y
slice_get-push [] y = refl
slice_get-push (x ∷ xs) y = slice_get-push xs y

-- distinct texts stay distinct with one that was not among them
pub distinct-push : (xs : List (List ℕ)) (y : List ℕ) → AllPairs (λ a b. a ≢ b) xs → (Contains xs y → ⊥) → AllPairs (λ a b. a ≢ b) (xs ++ y ∷ [])
distinct-push xs y pairs absent = all_pairs_push (λ a b. a ≢ b) xs y pairs (λ k d lt e. absent (subst (Contains xs) e (Contains-get_or xs k d lt)))
