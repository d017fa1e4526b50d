-- A small grammar that needs each of the tests, to show how the theory is used. No other file uses it.
use Rattle.std.proofs.Common.{◌≡◌, ℕ, Bool, true, false, List, [], ◌∷◌, Some, refl}
use Rattle.std.specs.Prelude.{slice_get}
use Rattle.sv_grammar.specs.Grammar.{Token, Part, word, text, seq, alt, opt, star, both, side, Tree, Derives}
use Rattle.sv_grammar.specs.Reading.{Outcome, Exact, Reads, is_checked, nulls_at, firsts_at, made_at, AllApart, AllDistinct}
use Rattle.sv_grammar.proofs.Checks.{reads_exactly}
use Rattle.sv_grammar.proofs.Trees.{one_tree}
use Rattle.sv_grammar.proofs.Criteria.{all_apart_by}
use Rattle.sv_grammar.proofs.InStep.{all_distinct_in_step}

data Side : Type 0 where
  item : Side
  while_loop : Side
  for_loop : Side
  error : Side
  fixed : Side
  simple : Side
  slot : Side
  kind : Side
  expr : Side
  suffix : Side

infixr 5 ◌⊙◌
abbrev ◌⊙◌ : Part Side → Part Side → Part Side
a ⊙ b = seq a b

-- 1 a name, 2 the name 'error', 3 ; 4 , 5 ( 6 ) 7 [ 8 ] 9 . 10 = 11 a number, 12 and 13 around a note,
-- 14 while, 15 for, 16 int, 17 memory, 18 constant, 19 do, 20 let, 21 new
abbrev tok : ℕ → Part Side
tok n = word (n ∷ [])

abbrev ids : List ℕ
ids = 1 ∷ 2 ∷ []

abbrev in_simple : List ℕ
in_simple = 5 ∷ 7 ∷ 8 ∷ 9 ∷ 10 ∷ 11 ∷ 16 ∷ 21 ∷ ids

abbrev rules : Side → Part Side
rules item = alt (both [] (side while_loop) (side for_loop)) (alt (both [] (side error) (side fixed)) (alt (tok 19 ⊙ side simple ⊙ tok 3) (tok 20 ⊙ side slot ⊙ star (tok 4 ⊙ side slot) ⊙ tok 3)))
rules while_loop = star (tok 12 ⊙ side expr ⊙ tok 13) ⊙ tok 14 ⊙ side expr ⊙ side item
rules for_loop = star (tok 12 ⊙ side expr ⊙ tok 13) ⊙ tok 15 ⊙ side slot ⊙ tok 3 ⊙ side item
rules error = tok 2 ⊙ text ids ⊙ tok 5 ⊙ tok 6 ⊙ tok 3
rules fixed = side kind ⊙ tok 18 ⊙ text ids ⊙ tok 3
rules simple = both in_simple (side kind ⊙ text ids) (side expr ⊙ tok 10 ⊙ side expr)
rules slot = opt (both (7 ∷ 17 ∷ ids) (side kind ⊙ opt (tok 17) ⊙ text ids) (text ids))
rules kind = text (16 ∷ ids) ⊙ star (tok 7 ⊙ opt (side expr) ⊙ tok 8)
rules expr = alt (text (11 ∷ ids) ⊙ star (side suffix)) (tok 21 ⊙ both (7 ∷ 9 ∷ []) (text ids ⊙ opt (tok 5)) (text ids ⊙ side suffix ⊙ opt (tok 5)))
rules suffix = alt (tok 7 ⊙ side expr ⊙ tok 8) (tok 9 ⊙ text ids)

abbrev nulls : Side → Bool
nulls slot = true
nulls s = false

abbrev firsts : Side → List ℕ
firsts item = 12 ∷ 14 ∷ 15 ∷ 16 ∷ 19 ∷ 20 ∷ ids
firsts while_loop = 12 ∷ 14 ∷ []
firsts for_loop = 12 ∷ 15 ∷ []
firsts error = 2 ∷ []
firsts simple = 11 ∷ 16 ∷ 21 ∷ ids
firsts expr = 11 ∷ 21 ∷ ids
firsts suffix = 7 ∷ 9 ∷ []
firsts s = 16 ∷ ids

abbrev conts : Side → List ℕ
conts simple = in_simple
conts slot = 7 ∷ 16 ∷ 17 ∷ ids
conts kind = 7 ∷ []
conts expr = 5 ∷ 7 ∷ 9 ∷ []
conts s = []

abbrev alphabets : Side → List ℕ
alphabets error = 3 ∷ 6 ∷ in_simple
alphabets fixed = 3 ∷ 18 ∷ in_simple
alphabets simple = in_simple
alphabets slot = 17 ∷ in_simple
alphabets kind = in_simple
alphabets expr = in_simple
alphabets suffix = in_simple
alphabets s = 3 ∷ 4 ∷ 6 ∷ 12 ∷ 13 ∷ 14 ∷ 15 ∷ 17 ∷ 18 ∷ 19 ∷ 20 ∷ in_simple

checked : (s : Side) → is_checked rules nulls firsts conts alphabets 6 s ≡ true
unfolding is_checked nulls_at firsts_at made_at
checked item = refl
checked s = refl

apart : (s : Side) → AllApart rules (rules s)
apart item = all_apart_by rules nulls firsts conts alphabets 6 checked 1 0 (rules item) refl
apart s = all_apart_by rules nulls firsts conts alphabets 6 checked 0 1 (rules s) refl

exactly : (s : Side) (ts : List Token) (o : Outcome) → Reads rules nulls firsts (side s) ts o → Exact rules (side s) ts o
exactly = reads_exactly rules nulls firsts conts alphabets 6 checked apart

abbrev sides : List Side
sides = item ∷ while_loop ∷ for_loop ∷ error ∷ fixed ∷ simple ∷ slot ∷ kind ∷ expr ∷ suffix ∷ []

abbrev number : Side → ℕ
number item = 0
number while_loop = 1
number for_loop = 2
number error = 3
number fixed = 4
number simple = 5
number slot = 6
number kind = 7
number expr = 8
number suffix = 9

numbered : (s : Side) → slice_get sides (number s) ≡ Some s
numbered item = refl
numbered s = refl

distinct : (s : Side) → AllDistinct rules (rules s)
distinct item = all_distinct_in_step rules nulls firsts conts alphabets 6 checked apart number sides numbered 30 (rules item) refl
distinct s = all_distinct_in_step rules nulls firsts conts alphabets 6 checked apart number sides numbered 30 (rules s) refl

unambiguous : (s : Side) (xs : List Token) (t u : Tree) → Derives rules (side s) xs t → Derives rules (side s) xs u → t ≡ u
unambiguous s xs t u = one_tree rules nulls firsts conts alphabets 6 checked apart distinct
