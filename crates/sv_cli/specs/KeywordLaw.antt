-- Believed: what the law `keywords_are_one` says: the first form and the grammar agree on which words are no names. Hold it against docs/language.md.
use Rattle.std.specs.Prelude.{◌≡◌, ◌==◌, ◌||◌, ◌&&◌, ℕ, Bool, true, not, nat_lt, List, [], ◌∷◌, ◌++◌, codes, length, map}
use Rattle.std.specs.List.{list_all}
use Rattle.sv_ast.specs.Classes.{class_of_word, elementary_names, is_one_of, reserved_words}
use Rattle.sv_ast.specs.Terminals.{code, words}
use Rattle.sv_ast.specs.declared.class.Class.TheVariants as k
use Rattle.sv_first_form.specs.FirstForm.{reserved}
use Rattle.sv_lex.specs.Bytes.{is_letter}
use Rattle.sv_lex.specs.Limits.{left_out_words}

-- names that Solidity gives, and the word that begins a pragma
abbrev pub given_words : List (List ℕ)
given_words = codes "assert" ∷ codes "block" ∷ codes "msg" ∷ codes "pragma" ∷ codes "require" ∷ []

-- a word that is no name in the grammar, or is left out, or is given
abbrev pub is_taken : List ℕ → Bool
is_taken word = not (code (class_of_word word) == code k.Id) || (is_one_of left_out_words word || is_one_of given_words word)

-- every word that is taken
abbrev pub taken_words : List (List ℕ)
taken_words = map (λ s. s.spelled) words ++ (elementary_names ++ (reserved_words ++ (left_out_words ++ given_words)))

-- at most eight letters and nothing else, as a name of the first form has
abbrev pub is_short : List ℕ → Bool
is_short word = list_all is_letter word && nat_lt (length word) 9

-- each reserved word of the first form is taken, and each short word that is taken is reserved there
pub record KeywordsAreOne : Type 0 where
  pub each_is_taken : list_all is_taken reserved ≡ true
  pub each_is_reserved : list_all (λ word. not (is_short word) || is_one_of reserved word) taken_words ≡ true
