-- A text is read as a contract, or is refused: from what the calls that read it answer.
use Rattle.std.proofs.Common.{◌≡◌, ℕ, List, [], ◌∷◌, Some, None, Ok, Err, map, refl, sym, ap, subst, ◌∙◌}
use Rattle.std.specs.Result.{IsErrOf}
use Rattle.sv_cli.specs.Due.{HasTokens, HasPlainTokens, HasForm, Means, IsRefused}
use Rattle.sv_cli.specs.Due.IsRefused.{IsLong, HasChar, IsUnclosed, HasMany, HasOut, HasDeep, HasNoTree, IsUnbuilt}
use Rattle.sv_cli.specs.TextTrees.{HasTree, IsTreeless, BeginsTree, place_behind}
use Rattle.sv_cli.specs.Unread.{GivesNoTree, GivesRefusal, IsUnread, from_lex, from_form}
use Rattle.sv_cli.specs.declared.due.Unread.{Unread}
use Rattle.sv_cli.specs.declared.due.Unread.TheVariants as unread
use Rattle.sv_report.specs.declared.refusal.Refusal.{Refusal}
use Rattle.sv_report.specs.declared.refusal.Refusal.TheVariants as refusal
use Rattle.sv_first_form.specs.FirstForm.{StandsFor}
use Rattle.sv_first_form.specs.FormSymbols.{Symbol, symbol, symbol_of}
use Rattle.sv_first_form.specs.declared.contract.Contract.{Contract}
use Rattle.sv_first_form.specs.declared.form_error.FormError.{FormError}
use Rattle.sv_first_form.specs.declared.form_error.FormError.TheVariants as form
use Rattle.sv_lex.proofs.TokenLaws.{list_is_one}
use Rattle.sv_lex.specs.Lexing.{Answers, Scanned, shown, place_at}
use Rattle.sv_lex.specs.Tokens.{Lexeme, Tokens}
use Rattle.sv_lex.specs.declared.fault.LexFault.{LexFault}
use Rattle.sv_lex.specs.declared.fault.LexFault.TheVariants as lex
use Rattle.sv_lex.specs.declared.token.Token.{Token}
use Rattle.sv_text.specs.declared.place.Place.{Place}

-- a text without a list of tokens, or with too many
pub no_tokens : (text : List ℕ) (fault : LexFault) → Answers text (Err fault) → IsUnread text (from_lex fault)
no_tokens text lex.Long long = IsLong long
no_tokens text (lex.Char place) (short, at, first, there) = subst (λ (p : Place). IsRefused text (refusal.Char p)) (sym there) (HasChar at short first)
no_tokens text (lex.Unclosed place) (short, at, first, there) =
    subst (λ (p : Place). IsRefused text (refusal.Unclosed p)) (sym there) (IsUnclosed at short first)
no_tokens text (lex.Many place) (short, list, read, before, after, t, cut, size, there) =
    subst (λ (p : Place). IsRefused text (refusal.Many p)) (sym there) (HasMany before after t short (subst (Tokens text) cut read) size)
no_tokens text lex.NoMemory short = tt

-- a text with a list of tokens
module _ (text : List ℕ) (tokens : Scanned) (answers : Answers text (Ok tokens)) where
  pub has_tokens : HasTokens text tokens.list
  has_tokens = record { short = answers.0; read = answers.2; few = answers.3 }

  pub has_refusal : (why : Refusal) → GivesRefusal tokens (Some why) → IsRefused text why
  has_refusal (refusal.Out place) (before, t, first, there) =
      subst (λ (p : Place). IsRefused text (refusal.Out p)) (sym (there ∙ ap (λ (source : List ℕ). place_at source t.at) answers.1))
      (HasOut tokens.list before t has_tokens first)
  has_refusal (refusal.Deep place) (none_out, (before, t, first, there)) =
      subst (λ (p : Place). IsRefused text (refusal.Deep p)) (sym (there ∙ ap (λ (source : List ℕ). place_at source t.at) answers.1))
      (HasDeep tokens.list before t has_tokens none_out first)
  has_refusal refusal.Long never = absurd never
  has_refusal (refusal.Char place) never = absurd never
  has_refusal (refusal.Unclosed place) never = absurd never
  has_refusal (refusal.Many place) never = absurd never
  has_refusal (refusal.Syntax place) never = absurd never
  has_refusal refusal.Unbuilt never = absurd never

  pub has_plain : GivesRefusal tokens None → HasPlainTokens text tokens.list
  has_plain none = record { within = has_tokens; none_out = none.0; none_deep = none.1 }

  pub has_tree : HasTree tokens.source tokens.list → HasTree text tokens.list
  has_tree tree = subst (λ (source : List ℕ). HasTree source tokens.list) answers.1 tree

  pub no_tree : (why : Unread) → HasPlainTokens text tokens.list → GivesNoTree tokens why → IsUnread text why
  no_tree (unread.Refused (refusal.Syntax place)) plain (none, reach, begins, there) =
      subst (λ (p : Place). IsRefused text (refusal.Syntax p)) (sym (there ∙ ap (λ (source : List ℕ). place_behind source tokens.list reach) answers.1))
      (HasNoTree tokens.list reach plain (subst (λ (source : List ℕ). IsTreeless source tokens.list) answers.1 none)
      (subst (λ (source : List ℕ). BeginsTree source tokens.list reach) answers.1 begins))
  no_tree (unread.Refused refusal.Long) plain never = absurd never
  no_tree (unread.Refused (refusal.Char place)) plain never = absurd never
  no_tree (unread.Refused (refusal.Unclosed place)) plain never = absurd never
  no_tree (unread.Refused (refusal.Many place)) plain never = absurd never
  no_tree (unread.Refused (refusal.Out place)) plain never = absurd never
  no_tree (unread.Refused (refusal.Deep place)) plain never = absurd never
  no_tree (unread.Refused refusal.Unbuilt) plain never = absurd never
  no_tree unread.NoMemory plain free = tt

-- the symbols of tokens are those of the lexemes that they show
symbols : (slice : List Token) → map symbol slice ≡ map symbol_of (map shown slice)
symbols [] = refl
symbols (t ∷ ts) = ap (λ (ss : List Symbol). symbol t ∷ ss) (symbols ts)

module _ (slice : List Token) (list : List Lexeme) (shows : map shown slice ≡ list) where
  same_symbols : map symbol slice ≡ map symbol_of list
  same_symbols = symbols slice ∙ ap (λ (ls : List Lexeme). map symbol_of ls) shows

  module _ (text : List ℕ) (plain : HasPlainTokens text list) (tree : HasTree text list) where
    -- the text's own list is the only one
    stands_in : (c : Contract) → HasForm text c → StandsFor (map symbol slice) c
    stands_in c form = subst (λ (ss : List Symbol). StandsFor ss c)
        (ap (λ (ls : List Lexeme). map symbol_of ls) (list_is_one text form.tokens list form.read plain.within.read) ∙ sym same_symbols) form.meaning

    pub means : (c : Contract) → StandsFor (map symbol slice) c → ((other : Contract) → StandsFor (map symbol slice) other → other ≡ c) → Means text c
    means c standing only = record {
      tokens = list;
      plain = plain;
      tree = tree;
      meaning = subst (λ (ss : List Symbol). StandsFor ss c) same_symbols standing;
      only = λ other form. only other (stands_in other form);
    }

    pub no_form : (e : FormError) → (IsErrOf {T = Contract} (Err e) form.Unbuilt → (c : Contract) → StandsFor (map symbol slice) c → ⊥) → IsUnread text (from_form e)
    no_form form.Unbuilt none = IsUnbuilt list plain tree (λ c has. none refl c (stands_in c has))
    no_form form.NoMemory none = tt
