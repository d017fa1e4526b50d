-- What is due for a text is one: a text has one first fault or one list of tokens, its tokens have a tree or one first fault, and it stands for
-- one contract.
use Rattle.std.proofs.Common.{◌≡◌, ℕ, ◌<◌, ◌≤◌, List, ◌∷◌, ◌++◌, length, refl, sym, ap, subst, ◌∙◌, arith, length-append}
use Rattle.sv_cli.proofs.Cuts.{one_there, one_first}
use Rattle.sv_cli.proofs.OneVerdict.{one_report}
use Rattle.sv_cli.specs.Due.{HasTokens, HasPlainTokens, HasForm, Means, IsDue, IsRefused}
use Rattle.sv_cli.specs.Due.IsDue.{IsError, IsReported}
use Rattle.sv_cli.specs.Due.IsRefused.{IsLong, HasChar, IsUnclosed, HasMany, HasOut, HasDeep, HasNoTree, IsUnbuilt}
use Rattle.sv_report.specs.Refusals.{error_text}
use Rattle.sv_report.specs.Report.{Reports}
use Rattle.sv_cli.specs.TextTrees.{HasTree, IsTreeless, BeginsTree, place_behind}
use Rattle.sv_report.specs.declared.ended.Ended.{Ended}
use Rattle.sv_report.specs.declared.ended.Ended.TheVariants.{Refused}
use Rattle.sv_report.specs.declared.refusal.Refusal.{Refusal}
use Rattle.sv_report.specs.declared.refusal.Refusal.TheVariants.{Long, Char, Unclosed, Many, Out, Deep, Syntax, Unbuilt}
use Rattle.sv_first_form.specs.declared.contract.Contract.{Contract}
use Rattle.sv_lex.proofs.TokenLaws.{list_is_one, fault_excludes_list, fault_is_one}
use Rattle.sv_lex.specs.Faults.{FirstFault}
use Rattle.sv_lex.specs.Lexing.{limit, most_tokens, place_at}
use Rattle.sv_lex.specs.Limits.{IsDeep, IsFirst, IsOut, HasNo}
use Rattle.sv_lex.specs.Tokens.{Lexeme, Tokens}
use Rattle.sv_lex.specs.declared.fault.Flaw.{Flaw}
use Rattle.sv_lex.specs.declared.fault.Flaw.TheVariants as flaw
use Rattle.sv_text.specs.declared.place.Place.{Place}

-- what is due, and how the program ends
abbrev Answer : Type 0
Answer = List ℕ × Ended

-- a claim of an answer is true of one answer at most
abbrev IsOne : (Answer → Type 0) → Type 0
IsOne P = (a b : Answer) → P a → P b → a ≡ b

-- the first of two claims, or the second where the first is true of no answer
data First (P Q : Answer → Type 0) (a : Answer) : Type 0 where
  here : P a → First P Q a
  later : ((b : Answer) → P b → ⊥) → Q a → First P Q a

first_is_one : (P Q : Answer → Type 0) → IsOne P → IsOne Q → IsOne (First P Q)
first_is_one P Q one_p one_q a b (here p) (here q) = one_p a b p q
first_is_one P Q one_p one_q a b (here p) (later none q) = absurd (none a p)
first_is_one P Q one_p one_q a b (later none p) (here q) = absurd (none b q)
first_is_one P Q one_p one_q a b (later none p) (later none' q) = one_q a b p q

-- the answer of a refusal
error : Refusal → Answer
error refusal = (error_text refusal, Refused)

fault : Flaw → Place → Refusal
fault flaw.Char place = Char place
fault flaw.Unclosed place = Unclosed place

module _ (text : List ℕ) where
  form_of : (c : Contract) → Means text c → HasForm text c
  form_of c means = record { tokens = means.tokens; read = means.plain.within.read; meaning = means.meaning }

  abbrev IsLongDue : Answer → Type 0
  IsLongDue a = (limit < length text) × (a ≡ error Long)

  abbrev IsFaultDue : Answer → Type 0
  IsFaultDue a = (why : Flaw) × (at : ℕ) × FirstFault text why at × (a ≡ error (fault why (place_at text at)))

  abbrev IsManyDue : Answer → Type 0
  IsManyDue a =
      (before : List Lexeme) × (after : List Lexeme) × (t : Lexeme) × Tokens text (before ++ t ∷ after) × (length before ≡ most_tokens)
      × (a ≡ error (Many (place_at text t.at)))

  -- such a token is the first
  abbrev IsFirstDue : (List Lexeme → Lexeme → Type 0) → (Place → Refusal) → Answer → Type 0
  IsFirstDue Such refusal a =
      (tokens : List Lexeme) × (before : List Lexeme) × (t : Lexeme) × Tokens text tokens × IsFirst Such tokens before t
      × (a ≡ error (refusal (place_at text t.at)))

  abbrev IsSyntaxDue : Answer → Type 0
  IsSyntaxDue a =
      (tokens : List Lexeme) × (reach : ℕ) × Tokens text tokens × IsTreeless text tokens × BeginsTree text tokens reach
      × (a ≡ error (Syntax (place_behind text tokens reach)))

  abbrev IsUnbuiltDue : Answer → Type 0
  IsUnbuiltDue a = ((c : Contract) → HasForm text c → ⊥) × (a ≡ error Unbuilt)

  abbrev IsReportDue : Answer → Type 0
  IsReportDue a = (c : Contract) × Means text c × Reports c a.0 a.1

  abbrev IsLast : Answer → Type 0
  IsLast = First IsUnbuiltDue IsReportDue

  abbrev IsByTree : Answer → Type 0
  IsByTree = First IsSyntaxDue IsLast

  abbrev IsInLimits : Answer → Type 0
  IsInLimits = First (IsFirstDue IsOut Out) (First (IsFirstDue IsDeep Deep) IsByTree)

  abbrev IsAny : Answer → Type 0
  IsAny = First IsLongDue (First IsFaultDue (First IsManyDue IsInLimits))

  one_long : IsOne IsLongDue
  one_long a b (long, is) (long', is') = is ∙ sym is'

  one_fault : IsOne IsFaultDue
  one_fault a b (why, at, first, is) (why', at', first', is') =
      let same = fault_is_one text why why' at at' first first' in
      is ∙ ap (λ (w : Flaw). error (fault w (place_at text at))) same.0 ∙ ap (λ (k : ℕ). error (fault why' (place_at text k))) same.1 ∙ sym is'

  one_many : IsOne IsManyDue
  one_many a b (front, back, t, read, size, is) (front', back', t', read', size', is') =
      let same = one_there front front' back back' t t' (size ∙ sym size') (list_is_one text _ _ read read') in
      is ∙ ap (λ (l : Lexeme). error (Many (place_at text l.at))) same ∙ sym is'

  one_such : (Such : List Lexeme → Lexeme → Type 0) (refusal : Place → Refusal) → IsOne (IsFirstDue Such refusal)
  one_such Such refusal a b (tokens, front, t, read, first, is) (tokens', front', t', read', first', is') =
      let there = subst (λ (l : List Lexeme). IsFirst Such l front' t') (list_is_one text tokens' tokens read' read) first' in
      let same = one_first Such tokens front front' t t' first there in
      is ∙ ap (λ (l : Lexeme). error (refusal (place_at text l.at))) same ∙ sym is'

  -- tokens begin a list that has a tree up to one place
  one_reach : (tokens : List Lexeme) (reach reach' : ℕ) → BeginsTree text tokens reach → BeginsTree text tokens reach' → reach ≡ reach'
  one_reach tokens reach reach' begins begins' =
      omega (arith, begins.greatest reach' begins'.after begins'.within begins'.begins, begins'.greatest reach begins.after begins.within begins.begins)

  one_syntax : IsOne IsSyntaxDue
  one_syntax a b (tokens, reach, read, none, begins, is) (tokens', reach', read', none', begins', is') =
      let same : tokens ≡ tokens' = list_is_one text tokens tokens' read read' in
      let there : BeginsTree text tokens reach' = subst (λ (l : List Lexeme). BeginsTree text l reach') (sym same) begins' in
      is ∙ ap (λ (k : ℕ). error (Syntax (place_behind text tokens k))) (one_reach tokens reach reach' begins there)
      ∙ ap (λ (l : List Lexeme). error (Syntax (place_behind text l reach'))) same ∙ sym is'

  one_unbuilt : IsOne IsUnbuiltDue
  one_unbuilt a b (none, is) (none', is') = is ∙ sym is'

  one_reported : IsOne IsReportDue
  one_reported a b (c, means, reports) (c', means', reports') =
      let same = means.only c' (form_of c' means') in
      let r = one_report c a.0 b.0 a.1 b.1 reports (subst (λ (x : Contract). Reports x b.0 b.1) same reports') in
      ap (λ (due : List ℕ). let x : Answer = (due, a.1) in x) r.0 ∙ ap (λ (ended : Ended). let x : Answer = (b.0, ended) in x) r.1

  one_any : IsOne IsAny
  one_any =
      first_is_one _ _ one_long (first_is_one _ _ one_fault (first_is_one _ _ one_many
      (first_is_one _ _ (one_such IsOut Out) (first_is_one _ _ (one_such IsDeep Deep)
      (first_is_one _ _ one_syntax (first_is_one _ _ one_unbuilt one_reported))))))

  -- what isn't so
  not_long : length text ≤ limit → (a : Answer) → IsLongDue a → ⊥
  not_long short a (long, is) = omega arith

  not_faulty : (tokens : List Lexeme) → Tokens text tokens → (a : Answer) → IsFaultDue a → ⊥
  not_faulty tokens read a (why, at, first, is) = fault_excludes_list text tokens why at read first

  not_many : (tokens : List Lexeme) → HasTokens text tokens → (a : Answer) → IsManyDue a → ⊥
  not_many tokens has a (front, back, t, read, size, is) =
      omega (arith, has.few, length-append front (t ∷ back), ap (λ (l : List Lexeme). length l) (list_is_one text _ tokens read has.read))

  not_such : (Such : List Lexeme → Lexeme → Type 0) (refusal : Place → Refusal) (tokens : List Lexeme) → Tokens text tokens → HasNo Such tokens
      → (a : Answer) → IsFirstDue Such refusal a → ⊥
  not_such Such refusal tokens read none a (tokens', front, t, read', first, is) =
      none front first.after t (list_is_one text tokens tokens' read read' ∙ first.cut) first.such

  not_treeless : (tokens : List Lexeme) → Tokens text tokens → HasTree text tokens → (a : Answer) → IsSyntaxDue a → ⊥
  not_treeless tokens read tree a (tokens', reach, read', none, begins, is) =
      let there : HasTree text tokens' = subst (HasTree text) (list_is_one text tokens tokens' read read') tree in
      none there.0 there.1

  within : (tokens : List Lexeme) → HasTokens text tokens → (a : Answer) → IsInLimits a → IsAny a
  within tokens has a due = later (not_long has.short) (later (not_faulty tokens has.read) (later (not_many tokens has) due))

  plainly : (tokens : List Lexeme) → HasPlainTokens text tokens → (a : Answer) → IsByTree a → IsAny a
  plainly tokens plain a due =
      within tokens plain.within a (later (not_such IsOut Out tokens plain.within.read plain.none_out)
      (later (not_such IsDeep Deep tokens plain.within.read plain.none_deep) due))

  by_tree : (tokens : List Lexeme) → HasPlainTokens text tokens → HasTree text tokens → (a : Answer) → IsLast a → IsAny a
  by_tree tokens plain tree a due = plainly tokens plain a (later (not_treeless tokens plain.within.read tree) due)

  refused : (refusal : Refusal) → IsRefused text refusal → IsAny (error refusal)
  unfolding fault
  refused _ (IsLong long) = here (long, refl)
  refused _ (HasChar at short first) = later (not_long short) (here (flaw.Char, at, first, refl))
  refused _ (IsUnclosed at short first) = later (not_long short) (here (flaw.Unclosed, at, first, refl))
  refused _ (HasMany front back t short read size) =
      later (not_long short) (later (not_faulty _ read) (here (front, back, t, read, size, refl)))
  refused _ (HasOut tokens front t has first) = within tokens has _ (here (tokens, front, t, has.read, first, refl))
  refused _ (HasDeep tokens front t has none first) =
      within tokens has _ (later (not_such IsOut Out tokens has.read none) (here (tokens, front, t, has.read, first, refl)))
  refused _ (HasNoTree tokens reach plain none begins) = plainly tokens plain _ (here (tokens, reach, plain.within.read, none, begins, refl))
  refused _ (IsUnbuilt tokens plain tree none) = by_tree tokens plain tree _ (here (none, refl))

  any_of : (due : List ℕ) (ended : Ended) → IsDue text due ended → IsAny (due, ended)
  unfolding error
  any_of due ended (IsError refusal why d e) =
      subst IsAny (sym (ap (λ (x : List ℕ). let a : Answer = (x, ended) in a) d ∙ ap (λ (x : Ended). let a : Answer = (error_text refusal, x) in a) e)) (refused refusal why)
  any_of due ended (IsReported c means reports) =
      by_tree means.tokens means.plain means.tree _ (later (λ a absent. absent.0 c (form_of c means)) (c, means, reports))

pub due_is_one : (text due other : List ℕ) (ended other_ended : Ended) → IsDue text due ended → IsDue text other other_ended
    → (due ≡ other) × (ended ≡ other_ended)
due_is_one text due other ended other_ended one another =
    let same = one_any text (due, ended) (other, other_ended) (any_of text due ended one) (any_of text other other_ended another) in
    (ap (λ (a : Answer). a.0) same, ap (λ (a : Answer). a.1) same)
