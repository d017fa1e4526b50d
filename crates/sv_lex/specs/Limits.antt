-- Believed: the first token that is left out, and the first that is nested too deeply or too far behind its statement's beginning. Hold it against docs/language.md on `Out` and `Deep`, and its lists of left-out words and operators.
use Rattle.std.specs.Prelude.{◌≡◌, ℕ, ◌+◌, ◌-◌, ◌<◌, ◌≤◌, ◌⊎◌, Bool, true, false, ◌||◌, if◌then◌else◌, List, [], ◌∷◌, ◌++◌, All, codes, length, nat_eq}
use Rattle.std.specs.List.{list_any}
use Rattle.std.specs.Cmp.Lexicographic.{pointwise}
use Rattle.sv_lex.specs.Tokens.{Lexeme}
use Rattle.sv_lex.specs.declared.tok.Tok.{Tok}
use Rattle.sv_lex.specs.declared.tok.Tok.TheVariants.{Word, Punct, End}

-- the text is one of these
abbrev pub is_among : List (List ℕ) → List ℕ → Bool
is_among texts text = list_any (pointwise nat_eq text) texts

-- the words of Solidity that are left out
unfoldable pub left_out_words : List (List ℕ)
left_out_words =
    codes "import" ∷ codes "library" ∷ codes "using" ∷ codes "assembly" ∷ codes "try" ∷ codes "catch" ∷ codes "do" ∷ codes "delegatecall" ∷
    codes "staticcall" ∷ codes "callcode" ∷ codes "selfdestruct" ∷ codes "suicide" ∷ codes "abi" ∷ codes "keccak256" ∷ codes "sha256" ∷
    codes "ripemd160" ∷ codes "ecrecover" ∷ codes "blockhash" ∷ codes "gasleft" ∷ codes "addmod" ∷ codes "mulmod" ∷ codes "tx" ∷ codes "bytes" ∷
    codes "byte" ∷ codes "fixed" ∷ codes "ufixed" ∷ codes "unicode" ∷ codes "hex" ∷ codes "transient" ∷ codes "bytes1" ∷ codes "bytes2" ∷
    codes "bytes3" ∷ codes "bytes4" ∷ codes "bytes5" ∷ codes "bytes6" ∷ codes "bytes7" ∷ codes "bytes8" ∷ codes "bytes9" ∷ codes "bytes10" ∷
    codes "bytes11" ∷ codes "bytes12" ∷ codes "bytes13" ∷ codes "bytes14" ∷ codes "bytes15" ∷ codes "bytes16" ∷ codes "bytes17" ∷ codes "bytes18" ∷
    codes "bytes19" ∷ codes "bytes20" ∷ codes "bytes21" ∷ codes "bytes22" ∷ codes "bytes23" ∷ codes "bytes24" ∷ codes "bytes25" ∷ codes "bytes26" ∷
    codes "bytes27" ∷ codes "bytes28" ∷ codes "bytes29" ∷ codes "bytes30" ∷ codes "bytes31" ∷ codes "bytes32" ∷ []

-- its operators that are left out
unfoldable pub left_out_marks : List (List ℕ)
left_out_marks =
    codes "&" ∷ codes "|" ∷ codes "^" ∷ codes "~" ∷ codes "<<" ∷ codes ">>" ∷ codes ">>>" ∷ codes "&=" ∷ codes "|=" ∷ codes "^=" ∷ codes "<<=" ∷
    codes ">>=" ∷ codes ">>>=" ∷ []

-- a word that is left out, or an operator
abbrev pub is_left_out : Tok → List ℕ → Bool
is_left_out Word text = is_among left_out_words text
is_left_out Punct text = is_among left_out_marks text
is_left_out _ text = false

-- the punctuation is one of these
abbrev pub is_mark_among : List (List ℕ) → Tok → List ℕ → Bool
is_mark_among texts Punct text = is_among texts text
is_mark_among texts _ text = false

abbrev pub opens_bracket : Lexeme → Bool
opens_bracket t = is_mark_among (codes "(" ∷ codes "[" ∷ codes "{" ∷ []) t.kind t.text

abbrev pub closes_bracket : Lexeme → Bool
closes_bracket t = is_mark_among (codes ")" ∷ codes "]" ∷ codes "}" ∷ []) t.kind t.text

-- how many brackets are open behind the tokens, where so many are before them; one is closed only where one is open
abbrev pub opened : ℕ → List Lexeme → ℕ
opened n [] = n
opened n (t ∷ ts) = opened (if opens_bracket t then n + 1 else (if closes_bracket t then n - 1 else n)) ts

-- `;`, `{`, `}` and End: behind these the count of tokens begins anew
abbrev pub is_end : Tok → Bool
is_end End = true
is_end _ = false

abbrev pub restarts : Lexeme → Bool
restarts t = is_end t.kind || is_mark_among (codes ";" ∷ codes "{" ∷ codes "}" ∷ []) t.kind t.text

-- the last 1,000 of the tokens, or more, have none of these
pub record IsLong (before : List Lexeme) : Type 0 where
  pub front : List Lexeme
  pub run : List Lexeme
  pub cut : before ≡ front ++ run
  pub long : 1000 ≤ length run
  pub unbroken : All (λ t. restarts t ≡ false) run

-- behind these tokens the token is nested in more than 64 brackets, or is the 1,001st since the last of these
abbrev pub IsDeep : List Lexeme → Lexeme → Type 0
IsDeep before t = (64 < opened 0 (before ++ t ∷ [])) ⊎ IsLong before

-- the token is left out
abbrev pub IsOut : List Lexeme → Lexeme → Type 0
IsOut before t = is_left_out t.kind t.text ≡ true

-- the first such token of the list, behind those before it
pub record IsFirst (Such : List Lexeme → Lexeme → Type 0) (list before : List Lexeme) (t : Lexeme) : Type 0 where
  pub after : List Lexeme
  pub cut : list ≡ before ++ t ∷ after
  pub such : Such before t
  pub none_before : (front back : List Lexeme) (u : Lexeme) → before ≡ front ++ u ∷ back → Such front u → ⊥

-- no token of the list is such
abbrev pub HasNo : (List Lexeme → Lexeme → Type 0) → List Lexeme → Type 0
HasNo Such list = (before after : List Lexeme) (t : Lexeme) → list ≡ before ++ t ∷ after → Such before t → ⊥
