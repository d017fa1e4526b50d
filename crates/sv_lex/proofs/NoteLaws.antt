-- Documentation gives one list of tokens, or has one first fault.
use Rattle.std.proofs.Common.{◌≡◌, ◌==◌, ℕ, ◌+◌, inl, inr, Bool, true, false, not, List, [], ◌∷◌, ◌++◌, Contains, codes, length, refl, sym, ap, ap₂, ◌∙◌, subst}
use Rattle.std.specs.List.{AllPass, list_all}
use Rattle.std.proofs.lemmas.Bool.{both_ways, not-true, not_from_true, not_from_false}
use Rattle.std.proofs.lemmas.List.Elements.{All-append, All-weaker, All-contains}
use Rattle.std.proofs.lemmas.List.Sums.{AllPass-from_list_all}
use Rattle.std.proofs.lemmas.List.{append_cancel_left, append_assoc}
use Rattle.sv_lex.specs.Bytes.{is_blank, is_star, DoesNotBegin}
use Rattle.sv_lex.specs.Faults.{IsStuck, LineFails, LinesFail}
use Rattle.sv_lex.specs.Pieces.{Piece, space, line_comment, block_comment, token, all_written, Splits}
use Rattle.sv_lex.specs.Tokens.{Lexeme, annotation_words, IsLead, Opening, Opens, content_at, documentation, is_starred, note_tokens, LineGives, plain, annotation, LinesGive, PieceGives}
use Rattle.sv_lex.specs.declared.fault.Flaw.{Flaw}
use Rattle.sv_lex.proofs.PieceLaws.{split_once, byte_of, rest_of, not_byte}
use Rattle.sv_lex.proofs.StuckLaws.{stuck_is_one}
use Rattle.sv_lex.proofs.SplitLaws.{whole_split_is_one, SplitsStuck, stuck_is_not_whole, stuck_split_is_one}

-- ---- the parts of an annotation line

-- other than `@`
abbrev is_not_at : ℕ → Bool
is_not_at b = not (b == 64)

other_than_at : (p : ℕ → Bool) → p 64 ≡ false → (bytes : List ℕ) → AllPass p bytes → AllPass is_not_at bytes
other_than_at p h bytes all =
    All-weaker (λ b. p b ≡ true) (λ b. is_not_at b ≡ true) (λ b k. not_from_false (b == 64) (not_byte 64 p h b k)) bytes all

lead_has_no_at : (starred : Bool) (lead : List ℕ) → IsLead starred lead → AllPass is_not_at lead
lead_has_no_at starred lead h =
    subst (AllPass is_not_at) (sym h.spelled)
    (All-append (λ b. is_not_at b ≡ true) (h.before ++ h.stars) h.after
    (All-append (λ b. is_not_at b ≡ true) h.before h.stars (other_than_at is_blank refl h.before h.blanks.0) (other_than_at is_star refl h.stars h.are_stars))
    (other_than_at is_blank refl h.after h.blanks.1))

-- the words have no blanks
each_word : (p : List ℕ → Bool) → list_all p annotation_words ≡ true → (word : List ℕ) → Contains annotation_words word → p word ≡ true
each_word p h word is = All-contains (λ w. p w ≡ true) annotation_words word (AllPass-from_list_all p annotation_words h) is

word_has_no_blank : (word : List ℕ) → Contains annotation_words word → AllPass (λ b. not (is_blank b)) word
word_has_no_blank word is =
    AllPass-from_list_all (λ b. not (is_blank b)) word (each_word (list_all (λ b. not (is_blank b))) refl word is)

abbrev begins_unblank : List ℕ → Bool
begins_unblank [] = false
begins_unblank (b ∷ _) = not (is_blank b)

word_begins_unblank : (word more : List ℕ) → Contains annotation_words word → DoesNotBegin is_blank (word ++ more)
word_begins_unblank [] more is = absurd (both_ways false refl (each_word begins_unblank refl [] is))
word_begins_unblank (b ∷ bs) more is = not-true (is_blank b) (each_word begins_unblank refl (b ∷ bs) is)

-- an annotation line from its left to its right
regroup : (a b c d e : List ℕ) → a ++ b ++ c ++ d ++ e ≡ a ++ (b ++ (c ++ (d ++ e)))
regroup a b c d e = simp append_assoc

abbrev pub laid : Opening → List ℕ
laid o = o.lead ++ (codes "@notice" ++ (o.between ++ (o.word ++ o.blank ∷ o.content)))

pub opening_is_laid : (starred : Bool) (line : List ℕ) (o : Opening) → Opens starred line o → line ≡ laid o
opening_is_laid starred line o h = h.spelled ∙ regroup o.lead (codes "@notice") o.between o.word (o.blank ∷ o.content)

pub opening_is_one : (starred : Bool) (line : List ℕ) (o o' : Opening) → Opens starred line o → Opens starred line o' → o ≡ o'
opening_is_one starred line o o' h k =
    let tail : List ℕ = o.between ++ (o.word ++ o.blank ∷ o.content) in
    let tail' : List ℕ = o'.between ++ (o'.word ++ o'.blank ∷ o'.content) in
    let leads =
    split_once is_not_at o.lead o'.lead (codes "@notice" ++ tail) (codes "@notice" ++ tail') (lead_has_no_at starred o.lead h.lead_is) (lead_has_no_at starred o'.lead k.lead_is)
    refl refl (sym (opening_is_laid starred line o h) ∙ opening_is_laid starred line o' k) in
    let betweens =
    split_once is_blank o.between o'.between (o.word ++ o.blank ∷ o.content) (o'.word ++ o'.blank ∷ o'.content) h.between_is.0 k.between_is.0
    (word_begins_unblank o.word (o.blank ∷ o.content) h.word_is) (word_begins_unblank o'.word (o'.blank ∷ o'.content) k.word_is)
    (append_cancel_left (codes "@notice") tail tail' leads.1) in
    let words =
    split_once (λ b. not (is_blank b)) o.word o'.word (o.blank ∷ o.content) (o'.blank ∷ o'.content) (word_has_no_blank o.word h.word_is) (word_has_no_blank o'.word k.word_is)
    (not_from_true (is_blank o.blank) h.blank_is) (not_from_true (is_blank o'.blank) k.blank_is) betweens.1 in
    let blanks = byte_of o.blank o'.blank o.content o'.content words.1 in
    let contents = rest_of o.blank o'.blank o.content o'.content words.1 in
    λ i. record { lead = leads.0 i; between = betweens.0 i; word = words.0 i; blank = blanks i; content = contents i }

-- ---- what lines give

-- what holds of the content of one opening of a line holds of that of another
content_of : (starred : Bool) (line : List ℕ) (o o' : Opening) (P : List ℕ → Type 0) → Opens starred line o → Opens starred line o' → P o'.content → P o.content
content_of starred line o o' P h k p = subst P (ap (λ (x : Opening). x.content) (opening_is_one starred line o' o k h)) p

pub line_gives_one : (starred : Bool) (at : ℕ) (line : List ℕ) (one other : List Lexeme) → LineGives starred at line one → LineGives starred at line other → one ≡ other
line_gives_one starred at line one other (plain none e) (plain none' f) = e ∙ sym f
line_gives_one starred at line one other (plain none e) (annotation o opens pieces split f) = absurd (none o opens)
line_gives_one starred at line one other (annotation o opens pieces split f) (plain none e) = absurd (none o opens)
line_gives_one starred at line one other (annotation o opens pieces split e) (annotation o' opens' pieces' split' f) =
    let openings = opening_is_one starred line o o' opens opens' in
    let same = whole_split_is_one o.content pieces pieces' split (content_of starred line o o' (λ t. Splits t pieces' []) opens opens' split') in
    e ∙ ap₂ (λ (x : Opening) (ps : List Piece). note_tokens at x ps) openings same ∙ sym f

pub lines_give_one : (starred : Bool) (at : ℕ) (lines : List (List ℕ)) (one other : List Lexeme) → LinesGive starred at lines one → LinesGive starred at lines other → one ≡ other
lines_give_one starred at [] one other h k = h ∙ sym k
lines_give_one starred at (line ∷ lines) one other h k =
    let firsts = line_gives_one starred at line h.0 k.0 h.3 k.3 in
    let others = lines_give_one starred (at + length line + 1) lines h.1 k.1 h.4 k.4 in
    h.2 ∙ ap₂ (λ (x y : List Lexeme). x ++ y) firsts others ∙ sym k.2

pub piece_gives_one : (at : ℕ) (piece : Piece) (one other : List Lexeme) → PieceGives at piece one → PieceGives at piece other → one ≡ other
piece_gives_one at (space b) one other h k = h ∙ sym k
piece_gives_one at (token kind bytes) one other h k = h ∙ sym k
piece_gives_one at (line_comment body) one other h k = lines_give_one false (at + 3) (documentation (line_comment body)) one other h k
piece_gives_one at (block_comment body) one other h k = lines_give_one true (at + 3) (documentation (block_comment body)) one other h k

-- ---- where lines fail

line_stuck : (starred : Bool) (at : ℕ) (line : List ℕ) (flaw : Flaw) (fault_at : ℕ) (h : LineFails starred at line flaw fault_at) → SplitsStuck h.opening.content h.pieces h.rest flaw h.behind
line_stuck starred at line flaw fault_at h = record { split = h.split; stuck = h.stuck }

pub line_fails_or_gives : (starred : Bool) (at : ℕ) (line : List ℕ) (flaw : Flaw) (fault_at : ℕ) (tokens : List Lexeme) → LineFails starred at line flaw fault_at → LineGives starred at line tokens → ⊥
line_fails_or_gives starred at line flaw fault_at tokens h (plain none e) = none h.opening h.opens
line_fails_or_gives starred at line flaw fault_at tokens h (annotation o opens pieces split e) =
    stuck_is_not_whole h.opening.content h.pieces pieces h.rest flaw h.behind (line_stuck starred at line flaw fault_at h)
    (content_of starred line h.opening o (λ t. Splits t pieces []) h.opens opens split)

pub line_fails_one : (starred : Bool) (at : ℕ) (line : List ℕ) (one other : Flaw) (n m : ℕ) → LineFails starred at line one n → LineFails starred at line other m → (one ≡ other) × (n ≡ m)
line_fails_one starred at line one other n m h k =
    let openings = opening_is_one starred line h.opening k.opening h.opens k.opens in
    let stuck =
    content_of starred line h.opening k.opening (λ t. SplitsStuck t k.pieces k.rest other k.behind) h.opens k.opens (line_stuck starred at line other m k) in
    let splits =
    stuck_split_is_one h.opening.content h.pieces k.pieces h.rest k.rest one other h.behind k.behind (line_stuck starred at line one n h) stuck in
    let flaws =
    stuck_is_one h.rest one other h.behind k.behind h.stuck (subst (λ (t : List ℕ). IsStuck t other k.behind) (sym splits.1) k.stuck) in
    let contents = ap (λ (x : Opening). content_at at x) openings in
    let lengths = ap (λ (ps : List Piece). length (all_written ps)) splits.0 in
    (flaws.0, h.place ∙ ap₂ (λ (a b : ℕ). a + b) (ap₂ (λ (a b : ℕ). a + b) contents lengths) flaws.1 ∙ sym k.place)

pub lines_fail_or_give : (starred : Bool) (at : ℕ) (lines : List (List ℕ)) (flaw : Flaw) (fault_at : ℕ) (tokens : List Lexeme) → LinesFail starred at lines flaw fault_at → LinesGive starred at lines tokens → ⊥
lines_fail_or_give starred at [] flaw fault_at tokens h k = h
lines_fail_or_give starred at (line ∷ lines) flaw fault_at tokens (inl h) k = line_fails_or_gives starred at line flaw fault_at k.0 h k.3
lines_fail_or_give starred at (line ∷ lines) flaw fault_at tokens (inr h) k =
    lines_fail_or_give starred (at + length line + 1) lines flaw fault_at k.1 h.2 k.4

pub lines_fail_one : (starred : Bool) (at : ℕ) (lines : List (List ℕ)) (one other : Flaw) (n m : ℕ) → LinesFail starred at lines one n → LinesFail starred at lines other m → (one ≡ other) × (n ≡ m)
lines_fail_one starred at [] one other n m h k = absurd h
lines_fail_one starred at (line ∷ lines) one other n m (inl h) (inl k) = line_fails_one starred at line one other n m h k
lines_fail_one starred at (line ∷ lines) one other n m (inl h) (inr k) = absurd (line_fails_or_gives starred at line one n k.0 h k.1)
lines_fail_one starred at (line ∷ lines) one other n m (inr h) (inl k) = absurd (line_fails_or_gives starred at line other m h.0 k h.1)
lines_fail_one starred at (line ∷ lines) one other n m (inr h) (inr k) = lines_fail_one starred (at + length line + 1) lines one other n m h.2 k.2

-- documentation that fails gives no tokens
pub piece_fails_or_gives : (at : ℕ) (piece : Piece) (flaw : Flaw) (fault_at : ℕ) (tokens : List Lexeme)
    → LinesFail (is_starred piece) (at + 3) (documentation piece) flaw fault_at → PieceGives at piece tokens → ⊥
piece_fails_or_gives at (space b) flaw fault_at tokens h k = h
piece_fails_or_gives at (token kind bytes) flaw fault_at tokens h k = h
piece_fails_or_gives at (line_comment body) flaw fault_at tokens h k = lines_fail_or_give false (at + 3) (documentation (line_comment body)) flaw fault_at tokens h k
piece_fails_or_gives at (block_comment body) flaw fault_at tokens h k = lines_fail_or_give true (at + 3) (documentation (block_comment body)) flaw fault_at tokens h k
