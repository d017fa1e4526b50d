-- Serves the proof: how tokens are read, a token ahead, and the tests under which this is exact.
use Rattle.std.specs.Prelude.{◌≡◌, ℕ, zero, suc, ◌<◌, Bool, true, false, not, ◌&&◌, ◌||◌, cond, List, [], ◌∷◌, ◌++◌, length, ◌⊎◌}
use Rattle.sv_grammar.specs.ListTrees.{append_trees}
use Rattle.sv_grammar.specs.Grammar.{Token, Part, nothing, word, text, seq, alt, opt, star, both, side, Tree, unit, leaf, pair, left, right, none, some, nil, cons, node, Derives, Begins, elem, extent_of}

-- ---- what is to be shown of reading

-- what reading gives, with the tokens that are left
pub data Outcome : Type 0 where
  found : Tree → List Token → Outcome
  fault : List Token → Outcome

-- with the next token, what was used is no viable prefix
abbrev pub Stops : {S : Type 0} → (S → Part S) → Part S → List Token → List Token → Type 0
Stops rules a used rest = (x : Token) (more : List Token) → rest ≡ x ∷ more
    → Begins rules a (used ++ x ∷ []) → ⊥

-- the longest viable prefix of the tokens is derived, by this tree
pub record Found {S : Type 0} (rules : S → Part S) (a : Part S) (tokens : List Token) (t : Tree) (rest : List Token) : Type 0 where
  pub used : List Token
  pub whole : tokens ≡ used ++ rest
  pub derived : Derives rules a used t
  pub stops : Stops rules a used rest

-- the longest viable prefix of the tokens is not derived
pub record Fault {S : Type 0} (rules : S → Part S) (a : Part S) (tokens : List Token) (rest : List Token) : Type 0 where
  pub used : List Token
  pub whole : tokens ≡ used ++ rest
  pub begins : Begins rules a used
  pub underived : (t : Tree) → Derives rules a used t → ⊥
  pub stops : Stops rules a used rest

-- what reading gives is what the longest viable prefix is
abbrev pub Exact : {S : Type 0} → (S → Part S) → Part S → List Token → Outcome → Type 0
Exact rules a tokens (found t rest) = Found rules a tokens t rest
Exact rules a tokens (fault rest) = Fault rules a tokens rest

-- ---- tables: `empty` says which sides may derive no token, f what each begins with, c what may come
-- after a list that it derives where it goes on, l what its tokens may be

-- if the first, then the second
abbrev pub implies : Bool → Bool → Bool
implies a b = cond a b true

-- there is a class in the list
abbrev pub is_filled : List ℕ → Bool
is_filled [] = false
is_filled (c ∷ cs) = true

-- each class of the first list is in the second
abbrev pub subset : List ℕ → List ℕ → Bool
subset [] ys = true
subset (x ∷ xs) ys = elem x ys && subset xs ys

-- no class is in both lists
abbrev pub disjoint : List ℕ → List ℕ → Bool
disjoint [] ys = true
disjoint (x ∷ xs) ys = not (elem x ys) && disjoint xs ys

-- the part may derive no token
abbrev pub nullable : {S : Type 0} → (S → Bool) → Part S → Bool
nullable empty nothing = true
nullable empty (word cs) = false
nullable empty (text cs) = false
nullable empty (seq a b) = nullable empty a && nullable empty b
nullable empty (alt a b) = nullable empty a || nullable empty b
nullable empty (opt a) = true
nullable empty (star a) = true
nullable empty (both k a b) = nullable empty a || nullable empty b
nullable empty (side s) = empty s

-- what the part's lists begin with
abbrev pub first : {S : Type 0} → (S → Bool) → (S → List ℕ) → Part S → List ℕ
first empty f nothing = []
first empty f (word cs) = cs
first empty f (text cs) = cs
first empty f (seq a b) = first empty f a ++ cond (nullable empty a) (first empty f b) []
first empty f (alt a b) = first empty f a ++ first empty f b
first empty f (opt a) = first empty f a
first empty f (star a) = first empty f a
first empty f (both k a b) = first empty f a ++ first empty f b
first empty f (side s) = f s

-- what the part's tokens may be
abbrev pub chars : {S : Type 0} → (S → List ℕ) → Part S → List ℕ
chars l nothing = []
chars l (word cs) = cs
chars l (text cs) = cs
chars l (seq a b) = chars l a ++ chars l b
chars l (alt a b) = chars l a ++ chars l b
chars l (opt a) = chars l a
chars l (star a) = chars l a
chars l (both k a b) = chars l a ++ chars l b
chars l (side s) = l s

-- what may come after a list that the part derives, where the part goes on
abbrev pub cont : {S : Type 0} → (S → Bool) → (S → List ℕ) → (S → List ℕ) → Part S → List ℕ
cont empty f c nothing = []
cont empty f c (word cs) = []
cont empty f c (text cs) = []
cont empty f c (seq a b) = cont empty f c b ++ cond (nullable empty b) (cont empty f c a) []
cont empty f c (alt a b) = cont empty f c a ++ cont empty f c b
cont empty f c (opt a) = first empty f a ++ cont empty f c a
cont empty f c (star a) = first empty f a ++ cont empty f c a
cont empty f c (both k a b) = cont empty f c a ++ (cont empty f c b ++ k)
cont empty f c (side s) = c s

-- a token ahead tells what to do
abbrev pub fine : {S : Type 0} → (S → Bool) → (S → List ℕ) → (S → List ℕ) → Part S → Bool
fine empty f c nothing = true
fine empty f c (word cs) = is_filled cs
fine empty f c (text cs) = is_filled cs
fine empty f c (seq a b) = fine empty f c a
    && (fine empty f c b && disjoint (cont empty f c a) (first empty f b))
fine empty f c (alt a b) = fine empty f c a
    && (fine empty f c b && (disjoint (first empty f a) (first empty f b) && (not (nullable empty a) && not (nullable empty b))))
fine empty f c (opt a) = fine empty f c a
    && (not (nullable empty a) && not (elem 0 (first empty f a)))
fine empty f c (star a) = fine empty f c a
    && ((not (nullable empty a) && not (elem 0 (first empty f a))) && disjoint (cont empty f c a) (first empty f a))
fine empty f c (both k a b) = fine empty f c a && fine empty f c b
fine empty f c (side s) = true

-- which sides derive no token, found in n rounds
unfoldable pub nulls_at : {S : Type 0} → (S → Part S) → ℕ → S → Bool
nulls_at rules zero s = false
nulls_at rules (suc n) s = nullable (nulls_at rules n) (rules s)

-- what each side begins with, found in n rounds
unfoldable pub firsts_at : {S : Type 0} → (S → Part S) → (S → Bool) → ℕ → S → List ℕ
firsts_at rules empty zero s = []
firsts_at rules empty (suc n) s = first empty (firsts_at rules empty n) (rules s)

-- the part derives something, where the sides in m do
abbrev pub makes : {S : Type 0} → (S → Bool) → Part S → Bool
makes m nothing = true
makes m (word cs) = is_filled cs
makes m (text cs) = is_filled cs
makes m (seq a b) = makes m a && makes m b
makes m (alt a b) = makes m a || makes m b
makes m (opt a) = true
makes m (star a) = true
makes m (both k a b) = makes m a || makes m b
makes m (side s) = m s

-- which sides derive something, found in n rounds
unfoldable pub made_at : {S : Type 0} → (S → Part S) → ℕ → S → Bool
made_at rules zero s = false
made_at rules (suc n) s = makes (made_at rules n) (rules s)

-- the tables of a side are right, which takes n rounds to see, and its rule is fine
unfoldable pub is_checked : {S : Type 0} → (S → Part S) → (S → Bool) → (S → List ℕ)
    → (S → List ℕ) → (S → List ℕ) → ℕ → S → Bool
is_checked rules empty f c l n s =
    subset (first empty f (rules s)) (f s)
    && (subset (cont empty f c (rules s)) (c s)
    && (subset (chars l (rules s)) (l s)
    && (implies (nullable empty (rules s)) (empty s)
    && (fine empty f c (rules s)
    && (implies (empty s) (nulls_at rules n s)
    && (subset (f s) (firsts_at rules empty n s)
    && made_at rules n s))))))

-- ---- what is asked of each `both` besides

-- where a list of one alternative goes on past the end of a list of the other, it is by one of the classes
pub record Apart {S : Type 0} (rules : S → Part S) (classes : List ℕ) (a b : Part S) : Type 0 where
  pub other_longer : {xs ys : List Token} {t u : Tree} → Derives rules a xs t
      → Derives rules b ys u → (y : Token) (w : List Token) → ys ≡ xs ++ y ∷ w
      → elem y.class classes ≡ true
  pub one_longer : {xs ys : List Token} {t u : Tree} → Derives rules a xs t
      → Derives rules b ys u → (y : Token) (w : List Token) → xs ≡ ys ++ y ∷ w
      → elem y.class classes ≡ true

-- no list of tokens is derived by both
pub record Distinct {S : Type 0} (rules : S → Part S) (a b : Part S) : Type 0 where
  pub never : {xs : List Token} {t u : Tree} → Derives rules a xs t → Derives rules b xs u → ⊥

-- a `both`: its classes and its alternatives
pub record Fork (S : Type 0) : Type 0 where
  pub classes : List ℕ
  pub one : Part S
  pub other : Part S

-- each `both` of a part
abbrev pub forks : {S : Type 0} → Part S → List (Fork S)
forks nothing = []
forks (word cs) = []
forks (text cs) = []
forks (seq a b) = forks a ++ forks b
forks (alt a b) = forks a ++ forks b
forks (opt a) = forks a
forks (star a) = forks a
forks (both k a b) = record { classes = k; one = a; other = b } ∷ (forks a ++ forks b)
forks (side s) = []

-- what holds of each of the list, one after the other
abbrev pub OfEach : {A : Type 0} → (A → Type 0) → List A → Type 0
OfEach P [] = Unit {0}
OfEach P (x ∷ xs) = P x × OfEach P xs

-- the alternatives of each `both` of a part are apart
abbrev pub AllApart : {S : Type 0} → (S → Part S) → Part S → Type 0
AllApart rules a = OfEach (λ k. Apart rules k.classes k.one k.other) (forks a)

-- the alternatives of each `both` of a part derive no list both
abbrev pub AllDistinct : {S : Type 0} → (S → Part S) → Part S → Type 0
AllDistinct rules a = OfEach (λ k. Distinct rules k.one k.other) (forks a)

-- ---- reading

-- the class of the next token, and 0 at the end
abbrev pub next : List Token → ℕ
next [] = 0
next (k ∷ ks) = k.class

-- the tokens that are left
abbrev pub rest_of : Outcome → List Token
rest_of (found t rest) = rest
rest_of (fault rest) = rest

-- a tree was found
abbrev pub IsFound : Outcome → Type 0
IsFound (found t rest) = Unit {0}
IsFound (fault rest) = ⊥

-- the first reached further, or as far, and then found a tree if the second did
abbrev pub Beats : Outcome → Outcome → Type 0
Beats p q = (length (rest_of p) < length (rest_of q)) ⊎ ((length (rest_of p) ≡ length (rest_of q)) × (IsFound q → IsFound p))

-- the outcome with more around its tree
abbrev pub after : (Tree → Tree) → Outcome → Outcome
after f (found t rest) = found (f t) rest
after f (fault rest) = fault rest

-- what is read from the tokens; where the next token does not tell, both ways are read, and the better counts
pub data Reads {S : Type 0} (rules : S → Part S) (empty : S → Bool) (f : S → List ℕ) : Part S
    → List Token → Outcome → Type 0 where
  read_nothing : {ts : List Token} → Reads rules empty f nothing ts (found unit ts)
  read_word : {cs : List ℕ} {k : Token} {ts : List Token} → elem k.class cs ≡ true
      → Reads rules empty f (word cs) (k ∷ ts) (found unit ts)
  no_word : {cs : List ℕ} {ts : List Token} → elem (next ts) cs ≡ false
      → Reads rules empty f (word cs) ts (fault ts)
  read_text : {cs : List ℕ} {k : Token} {ts : List Token} → elem k.class cs ≡ true
      → Reads rules empty f (text cs) (k ∷ ts) (found (leaf k.text) ts)
  no_text : {cs : List ℕ} {ts : List Token} → elem (next ts) cs ≡ false
      → Reads rules empty f (text cs) ts (fault ts)
  read_seq : {a b : Part S} {ts us vs : List Token} {t u : Tree}
      → Reads rules empty f a ts (found t us) → Reads rules empty f b us (found u vs)
      → Reads rules empty f (seq a b) ts (found (pair t u) vs)
  late_seq : {a b : Part S} {ts us vs : List Token} {t : Tree}
      → Reads rules empty f a ts (found t us) → Reads rules empty f b us (fault vs)
      → Reads rules empty f (seq a b) ts (fault vs)
  no_seq : {a b : Part S} {ts us : List Token} → Reads rules empty f a ts (fault us)
      → Reads rules empty f (seq a b) ts (fault us)
  read_left : {a b : Part S} {ts : List Token} {o : Outcome}
      → elem (next ts) (first empty f a) ≡ true → Reads rules empty f a ts o
      → Reads rules empty f (alt a b) ts (after left o)
  read_right : {a b : Part S} {ts : List Token} {o : Outcome}
      → elem (next ts) (first empty f a) ≡ false → Reads rules empty f b ts o
      → Reads rules empty f (alt a b) ts (after right o)
  read_none : {a : Part S} {ts : List Token} → elem (next ts) (first empty f a) ≡ false
      → Reads rules empty f (opt a) ts (found none ts)
  read_some : {a : Part S} {ts : List Token} {o : Outcome}
      → elem (next ts) (first empty f a) ≡ true → Reads rules empty f a ts o
      → Reads rules empty f (opt a) ts (after some o)
  read_nil : {a : Part S} {ts : List Token} → elem (next ts) (first empty f a) ≡ false
      → Reads rules empty f (star a) ts (found nil ts)
  read_cons : {a : Part S} {ts us vs : List Token} {t u : Tree}
      → elem (next ts) (first empty f a) ≡ true → Reads rules empty f a ts (found t us)
      → Reads rules empty f (star a) us (found u vs)
      → Reads rules empty f (star a) ts (found (cons t u) vs)
  late_cons : {a : Part S} {ts us vs : List Token} {t : Tree}
      → elem (next ts) (first empty f a) ≡ true → Reads rules empty f a ts (found t us)
      → Reads rules empty f (star a) us (fault vs) → Reads rules empty f (star a) ts (fault vs)
  no_cons : {a : Part S} {ts us : List Token} → elem (next ts) (first empty f a) ≡ true
      → Reads rules empty f a ts (fault us) → Reads rules empty f (star a) ts (fault us)
  read_one : {k : List ℕ} {a b : Part S} {ts : List Token} {o p : Outcome}
      → Reads rules empty f a ts o → Reads rules empty f b ts p → Beats o p
      → Reads rules empty f (both k a b) ts (after left o)
  read_other : {k : List ℕ} {a b : Part S} {ts : List Token} {o p : Outcome}
      → Reads rules empty f a ts o → Reads rules empty f b ts p → Beats p o
      → Reads rules empty f (both k a b) ts (after right p)
  read_side : {s : S} {ts rest : List Token} {t : Tree} (used : List Token) → ts ≡ used ++ rest
      → Reads rules empty f (rules s) ts (found t rest)
      → Reads rules empty f (side s) ts (found (node (extent_of used) t) rest)
  no_side : {s : S} {ts rest : List Token} → Reads rules empty f (rules s) ts (fault rest)
      → Reads rules empty f (side s) ts (fault rest)

-- ---- loops

-- the outcome with the trees of several parts in front of its tree
abbrev pub after_all : List Tree → Outcome → Outcome
after_all xs (found t rest) = found (append_trees xs t) rest
after_all xs (fault rest) = fault rest

-- with the trees in front, what is read from now on is what is read from the start
pub record Loops {S : Type 0} (rules : S → Part S) (empty : S → Bool) (f : S → List ℕ) (a : Part S) (start : List Token) (xs : List Tree) (now : List Token) : Type 0 where
  pub holds : (o : Outcome) → Reads rules empty f (star a) now o
      → Reads rules empty f (star a) start (after_all xs o)
