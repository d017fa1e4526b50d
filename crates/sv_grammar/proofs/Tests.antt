-- Computed tests by which the alternatives of a `both` are apart.
use Rattle.std.proofs.Common.{ℕ, zero, suc, Bool, true, false, not, ◌&&◌, ◌||◌, cond, List, [], ◌∷◌, ◌++◌}
use Rattle.sv_grammar.specs.Grammar.{Part, nothing, word, text, seq, alt, opt, star, both, side}
use Rattle.sv_grammar.specs.Reading.{implies, subset, disjoint, nullable, first, chars, Fork, forks}

module _ {S : Type 0} where
  -- the part with r s in place of each side s
  abbrev pub filled : (S → Part S) → Part S → Part S
  filled r nothing = nothing
  filled r (word cs) = word cs
  filled r (text cs) = text cs
  filled r (seq a b) = seq (filled r a) (filled r b)
  filled r (alt a b) = alt (filled r a) (filled r b)
  filled r (opt a) = opt (filled r a)
  filled r (star a) = star (filled r a)
  filled r (both k a b) = both k (filled r a) (filled r b)
  filled r (side s) = r s

  -- the same where a list of the part may begin, and no further
  abbrev pub front : (S → Bool) → (S → Part S) → Part S → Part S
  front empty r nothing = nothing
  front empty r (word cs) = word cs
  front empty r (text cs) = text cs
  front empty r (seq a b) = seq (front empty r a) (elim (nullable empty a) [ true ↦ front empty r b | false ↦ b ])
  front empty r (alt a b) = alt (front empty r a) (front empty r b)
  front empty r (opt a) = opt (front empty r a)
  front empty r (star a) = star (front empty r a)
  front empty r (both k a b) = both k (front empty r a) (front empty r b)
  front empty r (side s) = r s

  -- each side, and the sides in its rule, looked through m layers deep
  abbrev pub through : (S → Part S) → ℕ → S → Part S
  through rules zero s = side s
  through rules (suc m) s = filled (through rules m) (rules s)

  abbrev pub front_through : (S → Part S) → (S → Bool) → ℕ → S → Part S
  front_through rules empty zero s = side s
  front_through rules empty (suc m) s = front empty (front_through rules empty m) (rules s)

  -- the classes of the words with which the part's lists end, where that is plain
  abbrev pub lasts : Part S → List ℕ
  lasts nothing = []
  lasts (word cs) = cs
  lasts (text cs) = cs
  lasts (seq a b) = lasts b
  lasts (alt a b) = lasts a ++ lasts b
  lasts (opt a) = []
  lasts (star a) = []
  lasts (both k a b) = lasts a ++ lasts b
  lasts (side s) = []

  -- each list of the part ends with one of the classes, which it has nowhere else
  abbrev pub ends : (S → List ℕ) → List ℕ → Part S → Bool
  ends l ks nothing = false
  ends l ks (word cs) = subset cs ks
  ends l ks (text cs) = subset cs ks
  ends l ks (seq a b) = disjoint (chars l a) ks && ends l ks b
  ends l ks (alt a b) = ends l ks a && ends l ks b
  ends l ks (opt a) = false
  ends l ks (star a) = false
  ends l ks (both k a b) = ends l ks a && ends l ks b
  ends l ks (side s) = false

  -- the classes of the first words that each list of the part has, where that is plain
  abbrev pub keys : (S → Bool) → Part S → List ℕ
  keys empty nothing = []
  keys empty (word cs) = cs
  keys empty (text cs) = cs
  keys empty (seq a b) = cond (nullable empty a) (keys empty b) (keys empty a)
  keys empty (alt a b) = keys empty a ++ keys empty b
  keys empty (opt a) = []
  keys empty (star a) = []
  keys empty (both k a b) = keys empty a ++ keys empty b
  keys empty (side s) = []

  -- each list of the part has a token of a class in ks and before it none of a class in ms;
  -- where `must` is false, the list may also have no token of a class in ms at all
  abbrev pub keyed : (S → List ℕ) → List ℕ → List ℕ → Part S → Bool → Bool
  keyed l ks ms nothing must = not must
  keyed l ks ms (word cs) must = subset cs ks || (not must && disjoint cs ms)
  keyed l ks ms (text cs) must = subset cs ks || (not must && disjoint cs ms)
  keyed l ks ms (seq a b) must = keyed l ks ms a true || (keyed l ks ms a false && keyed l ks ms b must)
  keyed l ks ms (alt a b) must = keyed l ks ms a must && keyed l ks ms b must
  keyed l ks ms (opt a) must = not must && keyed l ks ms a false
  keyed l ks ms (star a) must = not must && keyed l ks ms a false
  keyed l ks ms (both k a b) must = keyed l ks ms a must && keyed l ks ms b must
  keyed l ks ms (side s) must = not must && disjoint (l s) ms

  -- the part may derive one token alone, of a class in cs
  abbrev pub single : (S → Bool) → (S → List ℕ) → List ℕ → Part S → Bool
  single empty f cs nothing = false
  single empty f cs (word k) = not (disjoint k cs)
  single empty f cs (text k) = not (disjoint k cs)
  single empty f cs (seq a b) = (single empty f cs a && nullable empty b) || (nullable empty a && single empty f cs b)
  single empty f cs (alt a b) = single empty f cs a || single empty f cs b
  single empty f cs (opt a) = single empty f cs a
  single empty f cs (star a) = single empty f cs a
  single empty f cs (both k a b) = single empty f cs a || single empty f cs b
  single empty f cs (side s) = not (disjoint (f s) cs)

  -- what stands second in a list of the part that begins with a class in cs passes the test
  abbrev pub seconds : (S → Bool) → (S → List ℕ) → List ℕ → (List ℕ → Bool) → Part S → Bool
  seconds empty f cs good nothing = true
  seconds empty f cs good (word k) = true
  seconds empty f cs good (text k) = true
  seconds empty f cs good (seq a b) = seconds empty f cs good a && (implies (single empty f cs a) (good (first empty f b)) && implies (nullable empty a) (seconds empty f cs good b))
  seconds empty f cs good (alt a b) = seconds empty f cs good a && seconds empty f cs good b
  seconds empty f cs good (opt a) = seconds empty f cs good a
  seconds empty f cs good (star a) = seconds empty f cs good a && implies (single empty f cs a) (good (first empty f a))
  seconds empty f cs good (both k a b) = seconds empty f cs good a && seconds empty f cs good b
  seconds empty f cs good (side s) = disjoint (f s) cs

  -- ---- of two alternatives

  -- they begin with different classes
  abbrev pub differ : (S → Bool) → (S → List ℕ) → Part S → Part S → Bool
  differ empty f a b = disjoint (first empty f a) (first empty f b) && (not (nullable empty a) && not (nullable empty b))

  -- all classes of both are in the list
  abbrev pub any_class : (S → List ℕ) → List ℕ → Part S → Part S → Bool
  any_class l k a b = subset (chars l a) k && subset (chars l b) k

  -- their lists end with words that they have nowhere else
  abbrev pub end_alike : (S → List ℕ) → Part S → Part S → Bool
  end_alike l a b = ends l (lasts a ++ lasts b) a && ends l (lasts a ++ lasts b) b

  -- their lists have words of ka and kb, before which the words of the other never come
  abbrev pub keyed_by : (S → List ℕ) → List ℕ → List ℕ → Part S → Part S → Bool
  keyed_by l ka kb a b = disjoint ka kb && (keyed l ka kb a true && keyed l kb ka b true)

  -- where both begin alike, the second has another token, of a class in k, and the first has none of these there
  abbrev pub tells_second : (S → Bool) → (S → List ℕ) → List ℕ → Part S → Part S → Bool
  tells_second empty f k a b =
      (not (nullable empty a) && not (nullable empty b))
      && (not (single empty f (first empty f a) b)
      && (seconds empty f (first empty f a) (λ cs. subset cs k) b
      && seconds empty f (first empty f b) (λ cs. disjoint cs k) a))

  -- one of the tests that tell how the lists of two alternatives go on
  abbrev pub tells_apart : (S → Bool) → (S → List ℕ) → (S → List ℕ) → List ℕ → Part S → Part S → Bool
  tells_apart empty f l k a b =
      differ empty f a b
      || (any_class l k a b
      || (end_alike l a b
      || (keyed_by l (keys empty a) (keys empty b) a b
      || (tells_second empty f k a b
      || tells_second empty f k b a))))

  -- the test, or the test at each alternative of the second
  abbrev pub each_other : (Part S → Part S → Bool) → Part S → Part S → Bool
  each_other good a nothing = good a nothing
  each_other good a (word cs) = good a (word cs)
  each_other good a (text cs) = good a (text cs)
  each_other good a (seq b c) = good a (seq b c)
  each_other good a (alt b c) = good a (alt b c) || (each_other good a b && each_other good a c)
  each_other good a (opt b) = good a (opt b)
  each_other good a (star b) = good a (star b)
  each_other good a (both k b c) = good a (both k b c) || (each_other good a b && each_other good a c)
  each_other good a (side s) = good a (side s)

  -- and at each alternative of the first
  abbrev pub each_one : (Part S → Part S → Bool) → Part S → Part S → Bool
  each_one good nothing a = each_other good nothing a
  each_one good (word cs) a = each_other good (word cs) a
  each_one good (text cs) a = each_other good (text cs) a
  each_one good (seq b c) a = each_other good (seq b c) a
  each_one good (alt b c) a = each_other good (alt b c) a || (each_one good b a && each_one good c a)
  each_one good (opt b) a = each_other good (opt b) a
  each_one good (star b) a = each_other good (star b) a
  each_one good (both k b c) a = each_other good (both k b c) a || (each_one good b a && each_one good c a)
  each_one good (side s) a = each_other good (side s) a

  abbrev pub each_fork : (Fork S → Bool) → List (Fork S) → Bool
  each_fork good [] = true
  each_fork good (k ∷ ks) = good k && each_fork good ks

-- ---- the tests of a grammar: sides are looked through m layers deep, and n where a list may begin

module _ {S : Type 0} (rules : S → Part S) (empty : S → Bool) (f l : S → List ℕ) (m n : ℕ) where
  abbrev pub inside : Part S → Part S
  inside a = filled (through rules m) a

  abbrev pub ahead : Part S → Part S
  ahead a = front empty (front_through rules empty n) a

  abbrev pub is_apart : List ℕ → Part S → Part S → Bool
  is_apart k a b = each_one (tells_apart empty f l k) (inside a) (inside b) || each_one (tells_apart empty f l k) (ahead a) (ahead b)

  -- each `both` of the part passes
  abbrev pub are_apart : Part S → Bool
  are_apart a = each_fork (λ k. is_apart k.classes k.one k.other) (forks a)
