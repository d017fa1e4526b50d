-- Tokens that are cut before the first word `contract`.
use Rattle.std.proofs.Common.{◌≡◌, ℕ, suc, ◌<◌, ◌≤◌, List, ◌∷◌, ◌++◌, Contains, length, map, take, drop, get_or, sym, ap, subst, ◌∙◌, drop-cons}
use Rattle.std.proofs.lemmas.List.{map-append, take-append-drop, take_all}
use Rattle.sv_first_form.specs.FormParts.{IsOpened, contract_word}
use Rattle.sv_first_form.specs.FormSymbols.{Symbol, symbol}
use Rattle.sv_lex.specs.declared.token.Token.{Token}

module _ (tokens : List Token) (at : ℕ) (absent : Contains (map symbol (take at tokens)) contract_word → ⊥) where
  pub opened_at : (front back : List Token) (t : Token) → front ≡ take at tokens → back ≡ drop at tokens → at < length tokens
      → symbol (get_or tokens at t) ≡ contract_word → IsOpened (map symbol tokens) (map symbol front) (map symbol back)
  opened_at front back t in_front in_back within here = record {
    cut = ap (λ (ts : List Token). map symbol ts) (sym (take-append-drop at tokens) ∙ ap (λ ts. ts ++ drop at tokens) (sym in_front) ∙ ap (λ ts. front ++ ts) (sym in_back))
        ∙ map-append symbol front back;
    begins = (
      map symbol (drop (suc at) tokens),
      ap (λ (ts : List Token). map symbol ts) (in_back ∙ drop-cons tokens at t within)
          ∙ ap (λ (s : Symbol). s ∷ map symbol (drop (suc at) tokens)) here,
    );
    lacks = subst (λ (ts : List Token). Contains (map symbol ts) contract_word → ⊥) (sym in_front) absent;
  }

  pub none_at_end : length tokens ≤ at → Contains (map symbol tokens) contract_word → ⊥
  none_at_end past = subst (λ (ts : List Token). Contains (map symbol ts) contract_word → ⊥) (take_all at tokens past) absent
