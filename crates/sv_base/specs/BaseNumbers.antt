-- Believed: which contract each base names, and when a contract or a base breaks the rule of lines. Hold it against the rule Line of docs/language.md.
use Rattle.std.specs.Prelude.{ℕ, ◌+◌, Bool, true, false, nat_eq, nat_lt, not, cond, ◌&&◌, ◌||◌, Option, Some, None, List, [], ◌∷◌, map, slice_get, slice_index_or}
use Rattle.std.specs.Option.{is_some}
use Rattle.sv_decl.specs.declared.data.DeclaredContract.{DeclaredContract}
use Rattle.sv_decl.specs.declared.data.Named.{Named}
use Rattle.sv_decl.specs.declared.data.Standing.{Standing}
use Rattle.sv_decl.specs.declared.data.Standing.TheVariants as standing

-- ---- numbers of bases

abbrev pub names_of : List DeclaredContract → List ℕ
names_of = map (λ c. c.name)

-- where the name stands first in the list, or the length of the list
abbrev pub first_at : ℕ → List ℕ → ℕ
first_at n [] = 0
first_at n (x ∷ xs) = cond (nat_eq x n) 0 (first_at n xs + 1)

abbrev pub base_numbers : List ℕ → List Named → List ℕ
base_numbers names = map (λ b. first_at b.name names)

abbrev pub numbers_in : List ℕ → List DeclaredContract → List (List ℕ)
numbers_in names = map (λ c. base_numbers names c.bases)

-- of each contract; a base that is no contract has a number behind the last
abbrev pub bases_of : List DeclaredContract → List (List ℕ)
bases_of contracts = numbers_in (names_of contracts) contracts

-- ---- the rule

-- a base that doesn't stand earlier in the text than contract c
abbrev pub stands_late : ℕ → ℕ → Bool
stands_late c base = not (nat_lt base c)

abbrev pub is_interface : Standing → Bool
is_interface standing.Interface = true
is_interface standing.Abstract = false
is_interface standing.Concrete = false

abbrev pub is_no_interface : Option DeclaredContract → Bool
is_no_interface None = false
is_no_interface (Some c) = not (is_interface c.standing)

abbrev pub is_contract : List DeclaredContract → ℕ → Bool
is_contract contracts number = is_no_interface (slice_get contracts number)

abbrev pub has_contract : List DeclaredContract → List ℕ → Bool
has_contract contracts [] = false
has_contract contracts (b ∷ bs) = is_contract contracts b || has_contract contracts bs

abbrev pub is_joining : List DeclaredContract → List ℕ → Option DeclaredContract → Bool
is_joining contracts bases None = false
is_joining contracts bases (Some c) = is_interface c.standing && has_contract contracts bases

-- contract c is an interface with a contract as a base
abbrev pub joins : List DeclaredContract → List ℕ → ℕ → Bool
joins contracts bases c = is_joining contracts bases (slice_get contracts c)

abbrev pub is_lineless : List (Option (List ℕ)) → ℕ → Bool
is_lineless lines c = not (is_some (slice_index_or lines c None))

abbrev pub breaks_line : List DeclaredContract → List (Option (List ℕ)) → List ℕ → ℕ → Bool
breaks_line contracts lines bases c = is_lineless lines c || joins contracts bases c
