-- Lists that may be left out with the words around them: where these are there, so is one of the list.
use Rattle.std.proofs.Common.{◌≡◌, ℕ, List, [], ◌∷◌, refl}
use Rattle.sv_grammar.specs.Grammar.{Token, Part, Tree, opt, seq, unit, some}
use Rattle.sv_grammar.specs.Named.{Spells, unit_spells, pair_spells, some_spells}
use Rattle.sv_grammar.specs.Reading as r
use Rattle.sv_grammar.specs.Reading.{found}
use Rattle.sv_ast.specs.Firsts.{nulls, firsts}
use Rattle.sv_ast.specs.Syntax.{Side, rules}
use Rattle.sv_ast.specs.Trees.{◌⊗◌, commas}
use Rattle.sv_ast.specs.ContractTrees.{base_list_tree, over_names_tree}
use Rattle.sv_read.specs.Here.{Here}
use Rattle.sv_read.specs.PartReading.{Gives}

abbrev IsRead : Part Side → List Token → Tree → List Token → Type 0
IsRead a ts t us = r.Reads rules nulls firsts a ts (found t us)

-- a part of two parts has no tree of none
no_unit : {names : List (List ℕ)} {a b : Part Side} {ts us : List Token} {d : Tree} → Spells names unit d → IsRead (seq a b) ts d us → ⊥
no_unit unit_spells q = elim q [ ]

inside : (o : r.Outcome) (e : Tree) (us : List Token) → r.after some o ≡ found (some e) us → o ≡ found e us
inside (found t rest) e us h = cc h
inside (r.fault rest) e us h = cc h

of_read : {a : Part Side} {ts us : List Token} {e : Tree} {o : r.Outcome} → r.Reads rules nulls firsts (opt a) ts o → o ≡ found (some e) us → IsRead a ts e us
of_read (r.read_none n) h = cc h
of_read {us} {e} (r.read_some {o = o} n q) h = rw (inside o e us h) at q

-- the part was read that may be left out
of_some : {names : List (List ℕ)} {a : Part Side} {ts us : List Token} {t d : Tree} → Spells names (some t) d → IsRead (opt a) ts d us → (e : Tree) × Spells names t e × IsRead a ts e us
of_some (some_spells s) q = (_, s, of_read q refl)

-- the second of two parts is there
second_filled : {names : List (List ℕ)} {a b c : Part Side} {ts us : List Token} {d : Tree} → Spells names (unit ⊗ unit) d → IsRead (seq a (seq b c)) ts d us → ⊥
second_filled (pair_spells p q) (r.read_seq x y) = no_unit q y

second_of_three : {names : List (List ℕ)} {a b c d : Part Side} {ts us : List Token} {t : Tree} → Spells names (unit ⊗ unit ⊗ unit) t → IsRead (seq a (seq (seq b c) d)) ts t us → ⊥
second_of_three (pair_spells p (pair_spells q s)) (r.read_seq x (r.read_seq y z)) = no_unit q y

bases_filled : {a b c : Part Side} {old new : Here} (ts : List Tree) → Gives (opt (seq a (seq b c))) old (some (unit ⊗ commas ts)) new → base_list_tree ts ≡ some (unit ⊗ commas ts)
bases_filled [] p = let m = of_some p.spelled p.read in absurd (second_filled m.1 m.2)
bases_filled (t ∷ ts) p = refl

names_filled : {a b c d : Part Side} {old new : Here} (ts : List Tree) → Gives (opt (seq a (seq (seq b c) d))) old (some (unit ⊗ commas ts ⊗ unit)) new → over_names_tree ts ≡ some (unit ⊗ commas ts ⊗ unit)
names_filled [] p = let m = of_some p.spelled p.read in absurd (second_of_three m.1 m.2)
names_filled (t ∷ ts) p = refl

pub gives_bases : {a b c : Part Side} {old new : Here} (ts : List Tree) → Gives (opt (seq a (seq b c))) old (some (unit ⊗ commas ts)) new → Gives (opt (seq a (seq b c))) old (base_list_tree ts) new
gives_bases ts p = rw (bases_filled ts p) p

pub gives_names : {a b c d : Part Side} {old new : Here} (ts : List Tree) → Gives (opt (seq a (seq (seq b c) d))) old (some (unit ⊗ commas ts ⊗ unit)) new → Gives (opt (seq a (seq (seq b c) d))) old (over_names_tree ts) new
gives_names ts p = rw (names_filled ts p) p
