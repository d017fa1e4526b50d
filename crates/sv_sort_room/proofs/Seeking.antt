-- Looking for an item among those of its code, from the last on.
use Rattle.std.proofs.Common.{Option, Some, None, MatchOption, option_map, ℕ, suc, ◌<◌, ◌≤◌, ◌≢◌, Bool, true, false, nat_eq, nat_lt, List, ◌≡◌, length, map, get_or, slice_get, refl, sym, ap, ◌∙◌, subst, arith}
use Rattle.std.specs.List.{Contains}
use Rattle.std.proofs.lemmas.List.{length-map}
use Rattle.std.proofs.lemmas.Option.{slice_get-map, slice_get_within, slice_get-get_or, get_or_from_slice_get}
use Rattle.std.proofs.lemmas.Bool.Decides.{Decides-eqb, Decides-ltb}
use Rattle.sv_table.specs.Places.{HasNone, IsLast}

abbrev pub seen : Option ℕ → ℕ
seen None = 0
seen (Some k) = suc k

module _ {H : Type 0} (code_of : H → ℕ) where
  -- no place from there on has the item, and the place has its code
  pub record Sought (items : List H) (h : H) (at : Option ℕ) : Type 0 where
    pub none : (j : ℕ) → seen at ≤ j → slice_get items j ≡ Some h → ⊥
    pub place : MatchOption at (Unit {0}) (λ k. (k < length items) × (get_or (map code_of items) k 0 ≡ code_of h))

  code_at : (items : List H) (h : H) (j : ℕ) → slice_get items j ≡ Some h → get_or (map code_of items) j 0 ≡ code_of h
  code_at items h j e = get_or_from_slice_get (map code_of items) j (code_of h) 0 (slice_get-map code_of items j ∙ ap (λ x. option_map code_of x) e)

  module _ (items : List H) (h : H) (codes : List ℕ) (coded : codes ≡ map code_of items) where
    long : length codes ≡ length items
    long = ap length coded ∙ length-map items code_of

    sought_first : (at : Option ℕ) → MatchOption at (HasNone codes (code_of h) (length codes)) (IsLast codes (code_of h) (length codes)) → Sought items h at
    sought_first None none = record {
      none = λ j l e. none j (let w = slice_get_within items j h e in omega (arith, w, long)) (ap (λ x. get_or x j 0) coded ∙ code_at items h j e);
      place = tt;
    }
    sought_first (Some k) last = record {
      none = λ j l e. last.last j (omega (arith, l)) (let w = slice_get_within items j h e in omega (arith, w, long)) (ap (λ x. get_or x j 0) coded ∙ code_at items h j e);
      place = (omega (arith, last.below, long), ap (λ x. get_or x k 0) (sym coded) ∙ last.is);
    }

    pub sought_from : (code : ℕ) (at : Option ℕ) → code ≡ code_of h → MatchOption at (HasNone codes code (length codes)) (IsLast codes code (length codes)) → Sought items h at
    sought_from code at e found = sought_first at (subst (λ x. MatchOption at (HasNone codes x (length codes)) (IsLast codes x (length codes))) e found)

    pub sought_next : (k : ℕ) (at : Option ℕ) → Sought items h (Some k) → (slice_get items k ≡ Some h → ⊥)
        → MatchOption at (HasNone codes (get_or codes k 0) k) (IsLast codes (get_or codes k 0) k) → Sought items h at × (seen at < suc k)
    sought_next k at s other found = go at (subst (λ x. MatchOption at (HasNone codes x k) (IsLast codes x k)) same found)
      where
        same : get_or codes k 0 ≡ code_of h
        same = ap (λ x. get_or x k 0) coded ∙ s.place.1

        above : (j : ℕ) → k ≤ j → slice_get items j ≡ Some h → ⊥
        above j l e = order (nat_eq j k) refl
          where
            order : (b : Bool) → nat_eq j k ≡ b → ⊥
            order true t = other (subst (λ x. slice_get items x ≡ Some h) ((Decides-eqb j k).0 t) e)
            order false t = let apart : j ≢ k = (λ q. cc (t, (Decides-eqb j k).1 q)) in s.none j (omega arith) e

        sides : (j : ℕ) → (j < k → ⊥) → slice_get items j ≡ Some h → (b : Bool) → nat_lt j k ≡ b → ⊥
        sides j below e true t = below ((Decides-ltb j k).0 t)
        sides j below e false t = let no_less : j < k → ⊥ = (λ q. cc (t, (Decides-ltb j k).1 q)) in above j (omega arith) e

        go : (at : Option ℕ) → MatchOption at (HasNone codes (code_of h) k) (IsLast codes (code_of h) k) → Sought items h at × (seen at < suc k)
        go None none = (
          record {
            none = λ j l e. sides j (λ b. none j b (ap (λ x. get_or x j 0) coded ∙ code_at items h j e)) e (nat_lt j k) refl;
            place = tt;
          },
          omega arith,
        )
        go (Some i) last = (
          record {
            none = λ j l e. sides j (λ b. last.last j (omega (arith, l)) b (ap (λ x. get_or x j 0) coded ∙ code_at items h j e)) e (nat_lt j k) refl;
            place = (omega (arith, last.below, s.place.0), ap (λ x. get_or x i 0) (sym coded) ∙ last.is);
          },
          omega (arith, last.below),
        )

    pub sought_hit : (k : ℕ) → slice_get items k ≡ Some h → Contains items h
    sought_hit k e = (k, slice_get_within items k h e, get_or_from_slice_get items k h h e)

    pub sought_end : Sought items h None → Contains items h → ⊥
    sought_end s c = s.none c.0 (omega arith) (slice_get-get_or items c.0 h c.1 ∙ ap (λ x. Some x) c.2)
