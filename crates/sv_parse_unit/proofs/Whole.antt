-- What was read of a text is all of it, or tokens are left.
use Rattle.std.proofs.Common.{◌≡◌, ℕ, zero, suc, ◌-◌, ◌<◌, ◌≤◌, List, [], ◌∷◌, Result, Ok, Err, IfOk, take, drop, length, refl, sym, ap, ◌∙◌, subst, arith}
use Rattle.std.specs.Prelude.{IfErr}
use Rattle.std.proofs.lemmas.List.{append-nil, length-map}
use Rattle.sv_grammar.specs.Grammar.{Token, Tree, Derives, Begins, side}
use Rattle.sv_grammar.specs.Reach.{between, Reaches}
use Rattle.sv_ast.specs.Syntax.{rules}
use Rattle.sv_ast.specs.Syntax as s
use Rattle.sv_ast.specs.UnitTrees.{unit_tree}
use Rattle.sv_ast.specs.declared.unit.Unit.{Unit as UnitNode}
use Rattle.sv_lex.specs.Lexing.{Scanned}
use Rattle.sv_parse_expr.specs.Answers.{Answers, IsTreeOf, place_of_token}
use Rattle.sv_parse_expr.specs.Given.{token_of, tokens_of}
use Rattle.sv_parse_expr.specs.declared.parse_fault.ParseFault.{ParseFault}
use Rattle.sv_parse_expr.specs.declared.parse_fault.ParseFault.TheVariants.{Syntax, NoMemory}
use Rattle.sv_parse_unit.specs.AnswersUnit.{AnswersUnit, HasNoTree}

take_all : {A : Type 0} (xs : List A) (n : ℕ) → length xs ≤ n → take n xs ≡ xs
take_all [] zero h = refl
take_all [] (suc n) h = refl
take_all (x ∷ xs) zero h = absurd (omega arith)
take_all (x ∷ xs) (suc n) h = ap (λ ys. x ∷ ys) (take_all xs n (omega arith))

drop_none : {A : Type 0} (xs : List A) → drop 0 xs ≡ xs
drop_none [] = refl
drop_none (x ∷ xs) = refl

all_between : (ts : List Token) (n : ℕ) → length ts ≤ n → between ts 0 n ≡ ts
all_between ts n h = ap (take (n - 0)) (drop_none ts) ∙ take_all ts (n - 0) (omega arith)

-- where all tokens have a tree, none is left
reaches_all : (ts : List Token) (reach : ℕ) (t : Tree) → Reaches rules (side s.unit) ts 0 reach → Derives rules (side s.unit) ts t → length ts ≤ reach
reaches_all ts reach t r d =
    let whole : Derives rules (side s.unit) ts t → Begins rules (side s.unit) ts = λ e. ([], t, subst (λ us. Derives rules (side s.unit) us t) (sym (append-nil ts)) e) in
    let same = all_between ts (length ts) (omega arith) in
    r.greatest (length ts) (omega arith) (omega arith) (subst (λ us. Begins rules (side s.unit) us) (sym same) (whole d))

none_beyond : (text : Scanned) (to : ℕ) → Reaches rules (side s.unit) (tokens_of text) 0 to → to < length text.list → HasNoTree text
none_beyond text to r h = λ t d. (
    let n = length-map text.list (token_of text.source) in
    let m = reaches_all (tokens_of text) to t r d in
    omega arith)

no_tree : (text : Scanned) (reach : ℕ) → Reaches rules (side s.unit) (tokens_of text) 0 reach → ((u : Tree) → Derives rules (side s.unit) (between (tokens_of text) 0 reach) u → ⊥) → HasNoTree text
no_tree text reach r n = λ t d. n t (subst (λ us. Derives rules (side s.unit) us t) (sym (all_between (tokens_of text) reach (reaches_all (tokens_of text) reach t r d))) d)

-- ---- answers

pub fault_is : (text : Scanned) (names : List (List ℕ)) (e : ParseFault) → Answers unit_tree (side s.unit) text 0 names (Err e) → AnswersUnit text names (Err e)
fault_is text names (Syntax place) p = (no_tree text p.0 p.1 p.2, p.0, p.1, p.3)
fault_is text names NoMemory p = tt

pub whole_is : (text : Scanned) (names : List (List ℕ)) (u : UnitNode) (to : ℕ) (r : Result UnitNode ParseFault)
    → Reaches rules (side s.unit) (tokens_of text) 0 to → IsTreeOf names (side s.unit) (between (tokens_of text) 0 to) (unit_tree u)
    → IfOk r (λ x. (x ≡ u) × (length text.list ≤ to)) → IfErr r (λ _. to < length text.list) → IfErr r (λ e. e ≡ Syntax (place_of_token text to))
    → AnswersUnit text names r
whole_is text names u to (Ok x) reached is ok left err =
    let n = length-map text.list (token_of text.source) in
    let h = ok.1 in
    rw ok.0 (subst (λ us. IsTreeOf names (side s.unit) us (unit_tree u)) (all_between (tokens_of text) to (omega arith)) is)
whole_is text names u to (Err e) reached is ok left err = rw err (none_beyond text to reached left, to, reached, refl)
