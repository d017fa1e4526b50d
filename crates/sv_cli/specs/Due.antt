-- Believed: what is due for a text, its error line or the report of the contract that it stands for. Hold it against docs/report.md.
use Rattle.std.specs.Prelude.{◌≡◌, ℕ, ◌<◌, ◌≤◌, List, ◌∷◌, ◌++◌, length, map}
use Rattle.sv_report.specs.Refusals.{error_text}
use Rattle.sv_report.specs.Report.{Reports}
use Rattle.sv_report.specs.declared.ended.Ended.{Ended}
use Rattle.sv_report.specs.declared.ended.Ended.TheVariants.{Refused}
use Rattle.sv_report.specs.declared.refusal.Refusal.{Refusal}
use Rattle.sv_report.specs.declared.refusal.Refusal.TheVariants.{Long, Char, Unclosed, Many, Out, Deep, Syntax, Unbuilt}
use Rattle.sv_cli.specs.TextTrees.{HasTree, IsTreeless, BeginsTree, place_behind}
use Rattle.sv_first_form.specs.FirstForm.{StandsFor}
use Rattle.sv_first_form.specs.FormSymbols.{symbol_of}
use Rattle.sv_first_form.specs.declared.contract.Contract.{Contract}
use Rattle.sv_lex.specs.Faults.{FirstFault}
use Rattle.sv_lex.specs.Lexing.{limit, most_tokens, place_at}
use Rattle.sv_lex.specs.Limits.{IsDeep, IsFirst, IsOut, HasNo}
use Rattle.sv_lex.specs.Tokens.{Lexeme, Tokens}
use Rattle.sv_lex.specs.declared.fault.Flaw.TheVariants as flaw

-- the text has these tokens, and neither is over its limit
pub record HasTokens (text : List ℕ) (tokens : List Lexeme) : Type 0 where
  pub short : length text ≤ limit
  pub read : Tokens text tokens
  pub few : length tokens ≤ most_tokens

-- moreover no token is left out, and none is deep
pub record HasPlainTokens (text : List ℕ) (tokens : List Lexeme) : Type 0 where
  pub within : HasTokens text tokens
  pub none_out : HasNo IsOut tokens
  pub none_deep : HasNo IsDeep tokens

-- the text stands for this contract
pub record HasForm (text : List ℕ) (c : Contract) : Type 0 where
  pub tokens : List Lexeme
  pub read : Tokens text tokens
  pub meaning : StandsFor (map symbol_of tokens) c

-- the text has plain tokens, they have a tree, and the text stands for this contract and for no other
pub record Means (text : List ℕ) (c : Contract) : Type 0 where
  pub tokens : List Lexeme
  pub plain : HasPlainTokens text tokens
  pub tree : HasTree text tokens
  pub meaning : StandsFor (map symbol_of tokens) c
  pub only : (other : Contract) → HasForm text other → other ≡ c

-- the text is refused so; each case excludes those before it
pub data IsRefused (text : List ℕ) : Refusal → Type 0 where
  -- over the limit
  IsLong : limit < length text → IsRefused text Long
  -- a first fault
  HasChar : (at : ℕ) → length text ≤ limit → FirstFault text flaw.Char at → IsRefused text (Char (place_at text at))
  IsUnclosed : (at : ℕ) → length text ≤ limit → FirstFault text flaw.Unclosed at → IsRefused text (Unclosed (place_at text at))
  -- a token over the limit
  HasMany : (before after : List Lexeme) (t : Lexeme) → length text ≤ limit → Tokens text (before ++ t ∷ after) → length before ≡ most_tokens
      → IsRefused text (Many (place_at text t.at))
  -- a first token that is left out
  HasOut : (tokens before : List Lexeme) (t : Lexeme) → HasTokens text tokens → IsFirst IsOut tokens before t → IsRefused text (Out (place_at text t.at))
  -- a first token that is deep
  HasDeep : (tokens before : List Lexeme) (t : Lexeme) → HasTokens text tokens → HasNo IsOut tokens → IsFirst IsDeep tokens before t
      → IsRefused text (Deep (place_at text t.at))
  -- no tree: the first token such that the tokens up to and including it begin no list that has one, or the end of the text where all begin one
  HasNoTree : (tokens : List Lexeme) (reach : ℕ) → HasPlainTokens text tokens → IsTreeless text tokens → BeginsTree text tokens reach
      → IsRefused text (Syntax (place_behind text tokens reach))
  -- no contract
  IsUnbuilt : (tokens : List Lexeme) → HasPlainTokens text tokens → HasTree text tokens → ((c : Contract) → HasForm text c → ⊥) → IsRefused text Unbuilt

-- what is due for a text, and how the program ends where it is written: the error line of its refusal, or the report of its contract
pub data IsDue (text due : List ℕ) (ended : Ended) : Type 0 where
  IsError : (refusal : Refusal) → IsRefused text refusal → due ≡ error_text refusal → ended ≡ Refused → IsDue text due ended
  IsReported : (c : Contract) → Means text c → Reports c due ended → IsDue text due ended
