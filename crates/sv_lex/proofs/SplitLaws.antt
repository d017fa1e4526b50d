-- A text splits in one way into pieces up to its end, or up to where it is stuck.
use Rattle.std.proofs.Common.{◌≡◌, ℕ, List, [], ◌∷◌, ◌++◌, refl, sym, ap₂, ◌∙◌, subst}
use Rattle.std.proofs.lemmas.List.{append_assoc}
use Rattle.sv_lex.specs.Faults.{IsStuck}
use Rattle.sv_lex.specs.Pieces.{Piece, written, all_written, Starts, Splits}
use Rattle.sv_lex.specs.declared.fault.Flaw.{Flaw}
use Rattle.sv_lex.proofs.PieceLaws.{piece_is_one, nothing_starts}
use Rattle.sv_lex.proofs.StuckLaws.{stuck_has_no_piece, nothing_is_stuck}

-- the first piece of a split, and the others
pub first_starts : (text : List ℕ) (p : Piece) (ps : List Piece) (rest : List ℕ) → Splits text (p ∷ ps) rest → Starts text p (all_written ps ++ rest)
first_starts text p ps rest h =
    record { spelled = h.spelled ∙ append_assoc (written p) (all_written ps) rest; fits = h.fit.0 }

pub others_split : (text : List ℕ) (p : Piece) (ps : List Piece) (rest : List ℕ) → Splits text (p ∷ ps) rest → Splits (all_written ps ++ rest) ps rest
others_split text p ps rest h = record { spelled = refl; fit = h.fit.1 }

-- two splits of a text that begin with a piece have it in common, and split what follows
pub same_first : (text : List ℕ) (p q : Piece) (ps qs : List Piece) (r s : List ℕ) → Splits text (p ∷ ps) r → Splits text (q ∷ qs) s
    → (p ≡ q) × Splits (all_written ps ++ r) ps r × Splits (all_written ps ++ r) qs s
same_first text p q ps qs r s h k =
    let same = piece_is_one text p q (all_written ps ++ r) (all_written qs ++ s) (first_starts text p ps r h) (first_starts text q qs s k) in
    (same.0, others_split text p ps r h, subst (λ (t : List ℕ). Splits t qs s) (sym same.1) (others_split text q qs s k))

pub nothing_splits : (text : List ℕ) (p : Piece) (ps : List Piece) (rest : List ℕ) → Splits text [] [] → Splits text (p ∷ ps) rest → ⊥
nothing_splits text p ps rest h k =
    nothing_starts p (all_written ps ++ rest) (subst (λ (t : List ℕ). Starts t p (all_written ps ++ rest)) h.spelled (first_starts text p ps rest k))

pub whole_split_is_one : (text : List ℕ) (ps qs : List Piece) → Splits text ps [] → Splits text qs [] → ps ≡ qs
whole_split_is_one text [] [] h k = refl
whole_split_is_one text [] (q ∷ qs) h k = absurd (nothing_splits text q qs [] h k)
whole_split_is_one text (p ∷ ps) [] h k = absurd (nothing_splits text p ps [] k h)
whole_split_is_one text (p ∷ ps) (q ∷ qs) h k =
    let same = same_first text p q ps qs [] [] h k in
    ap₂ (λ (x : Piece) (xs : List Piece). x ∷ xs) same.0 (whole_split_is_one (all_written ps ++ []) ps qs same.1 same.2)

-- a split up to where the text is stuck
pub record SplitsStuck (text : List ℕ) (ps : List Piece) (rest : List ℕ) (flaw : Flaw) (n : ℕ) : Type 0 where
  pub split : Splits text ps rest
  pub stuck : IsStuck rest flaw n

no_piece_first : (text : List ℕ) (rest : List ℕ) (flaw : Flaw) (n : ℕ) (q : Piece) (qs : List Piece) (s : List ℕ) → SplitsStuck text [] rest flaw n → Splits text (q ∷ qs) s → ⊥
no_piece_first text rest flaw n q qs s h k =
    stuck_has_no_piece text flaw n q (all_written qs ++ s) (subst (λ (t : List ℕ). IsStuck t flaw n) (sym h.split.spelled) h.stuck) (first_starts text q qs s k)

pub stuck_is_not_whole : (text : List ℕ) (ps qs : List Piece) (rest : List ℕ) (flaw : Flaw) (n : ℕ) → SplitsStuck text ps rest flaw n → Splits text qs [] → ⊥
stuck_is_not_whole text [] [] rest flaw n h k =
    nothing_is_stuck flaw n (subst (λ (t : List ℕ). IsStuck t flaw n) (sym h.split.spelled ∙ k.spelled) h.stuck)
stuck_is_not_whole text [] (q ∷ qs) rest flaw n h k = no_piece_first text rest flaw n q qs [] h k
stuck_is_not_whole text (p ∷ ps) [] rest flaw n h k = nothing_splits text p ps rest k h.split
stuck_is_not_whole text (p ∷ ps) (q ∷ qs) rest flaw n h k =
    let same = same_first text p q ps qs rest [] h.split k in
    stuck_is_not_whole (all_written ps ++ rest) ps qs rest flaw n (record { split = same.1; stuck = h.stuck }) same.2

pub stuck_split_is_one : (text : List ℕ) (ps qs : List Piece) (r s : List ℕ) (one other : Flaw) (n m : ℕ)
    → SplitsStuck text ps r one n → SplitsStuck text qs s other m → (ps ≡ qs) × (r ≡ s)
stuck_split_is_one text [] [] r s one other n m h k = (refl, sym h.split.spelled ∙ k.split.spelled)
stuck_split_is_one text [] (q ∷ qs) r s one other n m h k = absurd (no_piece_first text r one n q qs s h k.split)
stuck_split_is_one text (p ∷ ps) [] r s one other n m h k = absurd (no_piece_first text s other m p ps r k h.split)
stuck_split_is_one text (p ∷ ps) (q ∷ qs) r s one other n m h k =
    let same = same_first text p q ps qs r s h.split k.split in
    let others =
    stuck_split_is_one (all_written ps ++ r) ps qs r s one other n m (record { split = same.1; stuck = h.stuck }) (record { split = same.2; stuck = k.stuck }) in
    (ap₂ (λ (x : Piece) (xs : List Piece). x ∷ xs) same.0 others.0, others.1)
