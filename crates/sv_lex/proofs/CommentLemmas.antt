-- The end of a block comment.
use Rattle.std.proofs.Common.{◌≡◌, ℕ, ◌+◌, ◌-◌, ◌<◌, ◌≤◌, List, ◌++◌, codes, length, take, drop, sym, ap, ◌∙◌, subst, arith, append_assoc, length-append}
use Rattle.std.proofs.lemmas.List.{take-append-drop, length-take-le, take_all, take_rest}
use Rattle.sv_lex.specs.Pieces.{IsOpen}
use Rattle.sv_lex.proofs.LongestLemmas.{rest_dropped}

-- no `*/` begins before the index
abbrev pub NoneBefore : List ℕ → ℕ → Type 0
NoneBefore text i = (k : ℕ) → k < i → (rest : List ℕ) → drop k text ≡ codes "*/" ++ rest → ⊥

-- then none ends there
pub open_before : (text : List ℕ) (i : ℕ) → i ≤ length text → NoneBefore text i → IsOpen (take i text)
open_before text i within none = λ front back e.
    let spelled : text ≡ front ++ (codes "*/" ++ (back ++ drop i text)) =
    sym (take-append-drop i text) ∙ ap (λ (bs : List ℕ). bs ++ drop i text) e ∙ append_assoc (front ++ codes "*/") back (drop i text) ∙ append_assoc front (codes "*/") (back ++ drop i text) in
    let fits : length (take i text) ≡ length front + 2 + length back = ap length e ∙ length-append (front ++ codes "*/") back ∙ ap (λ (n : ℕ). n + length back) (length-append front (codes "*/")) in
    none (length front) (omega (arith, fits, length-take-le i text within)) (back ++ drop i text) (rest_dropped text front (codes "*/" ++ (back ++ drop i text)) spelled)

pub open_text : (text : List ℕ) (i : ℕ) → length text ≤ i → NoneBefore text i → IsOpen text
open_text text i all none =
    subst IsOpen (take_all (length text) text (omega arith)) (open_before text (length text) (omega arith) (λ k less. none k (omega arith)))

-- where one begins, the text falls into three parts
pub parted : (text rest : List ℕ) (i : ℕ) → take (length text - i) (drop i text) ≡ codes "*/" ++ rest → text ≡ take i text ++ codes "*/" ++ rest
parted text rest i e =
    sym (take-append-drop i text) ∙ ap (λ (bs : List ℕ). take i text ++ bs) (sym (take_rest text i) ∙ e) ∙ sym (append_assoc (take i text) (codes "*/") rest)
