-- Believed: the flags of a room's terms. Hold it against the definition of plain terms.
use Rattle.std.specs.Prelude.{ℕ, ◌<◌, Bool, not, ◌||◌, List, ◌≡◌, length, map, take}
use Rattle.sv_term.specs.Sorts.{is_flat, is_num, sort_at}
use Rattle.sv_term.specs.Terms.{Term, Terms, zero_lit, sort_of, sorts_of, same_term, term_at, is_plain, plain_node, all_plain}
use Rattle.sv_term.specs.FactRuleTest.{shape_of, args_of}
use Rattle.sv_log.specs.Logs.{nth_term}
use Rattle.sv_term_room.specs.TermRows.{TermRows, terms_of}

-- a flag for each term: whether it is plain
abbrev pub AreFlags : TermRows → List Bool → Type 0
AreFlags v flags = flags ≡ map is_plain (terms_of v)

-- a flag for each of the first n terms
abbrev pub AreFlagsBelow : TermRows → ℕ → List Bool → Type 0
AreFlagsBelow v n flags = flags ≡ map is_plain (take n (terms_of v))

-- ---- parts

abbrev pub CanFlag : TermRows → ℕ → List Bool → Type 0
CanFlag v n flags = (n < length v.rows) × AreFlagsBelow v n flags

abbrev pub plain_at : List Term → ℕ → Bool
plain_at ts n = plain_node (shape_of (nth_term ts n)) (args_of (nth_term ts n))

abbrev pub args_plain_at : List Term → ℕ → Bool
args_plain_at ts n = all_plain (args_of (nth_term ts n))

-- plain, or neither an array nor a tuple
abbrev pub arg_plain : Term → Bool
arg_plain t = is_flat (sort_of t) || is_plain t

-- what a constant array asks of its value
abbrev pub value_plain : Terms → Bool
value_plain us = same_term (term_at 0 us) zero_lit || not (is_num (sort_at 0 (sorts_of us)))
