-- Believed: grammars as data, what a part derives and by which tree. Hold it against a textbook's context-free grammars and derivations.
use Rattle.std.specs.Prelude.{◌≡◌, ℕ, Bool, true, false, ◌||◌, ◌==◌, List, [], ◌∷◌, ◌++◌}

-- where tokens lie in their text: their bytes, and the line and the column of the first byte
pub record Extent : Type 0 where
  pub from : ℕ
  pub to : ℕ
  pub line : ℕ
  pub column : ℕ

-- a token: its class, its text, and where it lies; class 0 is the end of the tokens, and no class
pub record Token : Type 0 where
  pub class : ℕ
  pub text : List ℕ
  pub extent : Extent

-- where the last of the tokens ends
abbrev pub end_of : List Token → ℕ
end_of [] = 0
end_of (k ∷ []) = k.extent.to
end_of (k ∷ j ∷ ks) = end_of (j ∷ ks)

-- from where the first of the tokens begins up to where the last ends
abbrev pub extent_of : List Token → Extent
extent_of [] = record { from = 0; to = 0; line = 1; column = 1 }
extent_of (k ∷ ks) = record { from = k.extent.from; to = end_of (k ∷ ks); line = k.extent.line; column = k.extent.column }

-- the class is one of the list
abbrev pub elem : ℕ → List ℕ → Bool
elem c [] = false
elem c (x ∷ xs) = (c == x) || elem c xs

-- the right part of a rule, over the sides S
pub data Part (S : Type 0) : Type 0 where
  -- no token
  nothing : Part S
  -- a token of one of the classes
  word : List ℕ → Part S
  -- the same, whose text the tree keeps
  text : List ℕ → Part S
  -- the one and then the other
  seq : Part S → Part S → Part S
  -- one of the two
  alt : Part S → Part S → Part S
  -- once or not at all
  opt : Part S → Part S
  -- any number of times
  star : Part S → Part S
  -- One of the two, which derives exactly as `alt` does, and can be read as `alt`.
  -- The list only serves reading: where tokens of one alternative go on past the end of a list
  -- of tokens of the other, the next token's class is in the list.
  both : List ℕ → Part S → Part S → Part S
  -- what the rule of that left side says
  side : S → Part S

-- a derivation, as a tree
pub data Tree : Type 0 where
  -- of `nothing` and of `word`
  unit : Tree
  -- the text of a token
  leaf : List ℕ → Tree
  -- a text by its number in a list of names; a derivation has none
  name : ℕ → Tree
  -- of `seq`
  pair : Tree → Tree → Tree
  -- of the first alternative, and of the second
  left : Tree → Tree
  right : Tree → Tree
  -- of `opt`
  none : Tree
  some : Tree → Tree
  -- of `star`
  nil : Tree
  cons : Tree → Tree → Tree
  -- of a side, with where its tokens lie
  node : Extent → Tree → Tree

-- the part derives the tokens, by the tree
pub data Derives {S : Type 0} (rules : S → Part S) : Part S → List Token → Tree → Type 0 where
  nothing_is : Derives rules nothing [] unit
  word_is : {cs : List ℕ} {k : Token} → elem k.class cs ≡ true
      → Derives rules (word cs) (k ∷ []) unit
  text_is : {cs : List ℕ} {k : Token} → elem k.class cs ≡ true
      → Derives rules (text cs) (k ∷ []) (leaf k.text)
  seq_is : {a b : Part S} {xs ys : List Token} {t u : Tree} → Derives rules a xs t
      → Derives rules b ys u → Derives rules (seq a b) (xs ++ ys) (pair t u)
  left_is : {a b : Part S} {xs : List Token} {t : Tree} → Derives rules a xs t
      → Derives rules (alt a b) xs (left t)
  right_is : {a b : Part S} {xs : List Token} {t : Tree} → Derives rules b xs t
      → Derives rules (alt a b) xs (right t)
  none_is : {a : Part S} → Derives rules (opt a) [] none
  some_is : {a : Part S} {xs : List Token} {t : Tree} → Derives rules a xs t
      → Derives rules (opt a) xs (some t)
  nil_is : {a : Part S} → Derives rules (star a) [] nil
  cons_is : {a : Part S} {xs ys : List Token} {t u : Tree} → Derives rules a xs t
      → Derives rules (star a) ys u → Derives rules (star a) (xs ++ ys) (cons t u)
  one_is : {cs : List ℕ} {a b : Part S} {xs : List Token} {t : Tree} → Derives rules a xs t
      → Derives rules (both cs a b) xs (left t)
  other_is : {cs : List ℕ} {a b : Part S} {xs : List Token} {t : Tree} → Derives rules b xs t
      → Derives rules (both cs a b) xs (right t)
  side_is : {s : S} {xs : List Token} {t : Tree} → Derives rules (rules s) xs t
      → Derives rules (side s) xs (node (extent_of xs) t)

-- a viable prefix: the tokens begin a list that the part derives
abbrev pub Begins : {S : Type 0} → (S → Part S) → Part S → List Token → Type 0
Begins rules a xs = (more : List Token) × (t : Tree) × Derives rules a (xs ++ more) t
