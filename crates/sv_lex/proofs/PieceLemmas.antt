-- What the readers of pieces share.
use Rattle.std.proofs.Common.{◌≡◌, ℕ, Bool, true, Some, List, [], ◌∷◌, take, drop, slice_get, sym, subst}
use Rattle.std.proofs.lemmas.List.{take-append-drop}
use Rattle.sv_lex.specs.Bytes.{DoesBegin}
use Rattle.sv_lex.specs.Forms.{IsToken, MayFollow}
use Rattle.sv_lex.specs.Pieces.{Piece, token, Starts}
use Rattle.sv_lex.specs.Faults.{IsStuck}
use Rattle.sv_lex.specs.declared.fault.Flaw.{Flaw}
use Rattle.sv_lex.specs.declared.tok.Tok.{Tok}

-- a flaw at the beginning of the text
pub stuck_here : (text : List ℕ) (flaw found : Flaw) (behind : ℕ) → found ≡ flaw → behind ≡ 0 → IsStuck text flaw 0 → IsStuck text found behind
stuck_here text flaw found behind e f h = subst (λ (n : ℕ). IsStuck text found n) (sym f) (subst (λ (x : Flaw). IsStuck text x 0) (sym e) h)

pub begins_with : (p : ℕ → Bool) (text : List ℕ) (b : ℕ) → Some b ≡ slice_get text 0 → p b ≡ true → DoesBegin p text
begins_with p [] b e h = cc
begins_with p (c ∷ text) b e h = let same : b ≡ c = cc in subst (λ (x : ℕ). p x ≡ true) same h

-- the text begins with the token of this length
pub token_starts : (kind : Tok) (text rest : List ℕ) (n : ℕ) (piece : Piece) → piece ≡ token kind (take n text) → rest ≡ drop n text
    → IsToken kind (take n text) → MayFollow kind (take n text) (drop n text) → Starts text piece rest
token_starts kind text rest n piece e f is follows =
    subst (λ (p : Piece). Starts text p rest) (sym e) (subst (λ (r : List ℕ). Starts text (token kind (take n text)) r) (sym f)
    (record { spelled = sym (take-append-drop n text); fits = (is, follows) }))
