-- A text has one list of tokens or one first fault, and its tokens are slices of it.
use Rattle.std.proofs.Common.{◌≡◌, ℕ, ◌+◌, ◌-◌, ◌≤◌, ◌⊎◌, inl, inr, Bool, true, false, not, ◌&&◌, cond, List, [], ◌∷◌, ◌++◌, codes, length, take, drop, refl, sym, ap, ap₂, ◌∙◌, subst, arith}
use Rattle.std.specs.List.{All, slice_range}
use Rattle.std.proofs.lemmas.List.Elements.{All-nil, All-cons, All-append, All-weaker}
use Rattle.std.proofs.lemmas.List.{append_assoc, append-nil, length-append, take_at, drop_at}
use Rattle.sv_lex.specs.Bytes.{is_newline, is_slash, is_star}
use Rattle.sv_lex.specs.Faults.{LineFails, LinesFail, Fails, stuck, in_comment, FirstFault}
use Rattle.sv_lex.specs.TokenLaws.{ListIsOne, FaultExcludesList, FaultIsOne, Rise, TokensAreSlices}
use Rattle.sv_lex.specs.Pieces.{Piece, space, line_comment, block_comment, token, written, all_written, Starts, Splits}
use Rattle.sv_lex.specs.Tokens.{Lexeme, lexeme, put_before, lines_of, begins_with_slash, documentation, is_starred, Opening, Opens, word_at, content_at, tokens_among, note_tokens, LineGives, plain, annotation, LinesGive, PieceGives, Gives}
use Rattle.sv_lex.specs.declared.fault.Flaw.{Flaw}
use Rattle.sv_lex.specs.declared.tok.Tok.TheVariants.{Note, End}
use Rattle.sv_lex.proofs.PieceLaws.{append_once, piece_is_one, nothing_starts}
use Rattle.sv_lex.proofs.StuckLaws.{stuck_has_no_piece, stuck_is_one, stuck_within, nothing_is_stuck}
use Rattle.sv_lex.proofs.SplitLaws.{first_starts, same_first, nothing_splits, whole_split_is_one}
use Rattle.sv_lex.proofs.NoteLaws.{piece_gives_one, piece_fails_or_gives, lines_fail_one}

-- ---- one list of tokens

gives_one : (at : ℕ) (pieces : List Piece) (one other : List Lexeme) → Gives at pieces one → Gives at pieces other → one ≡ other
gives_one at [] one other h k = h ∙ sym k
gives_one at (p ∷ ps) one other h k =
    let firsts = piece_gives_one at p h.0 k.0 h.3 k.3 in
    let others = gives_one (at + length (written p)) ps h.1 k.1 h.4 k.4 in
    h.2 ∙ ap₂ (λ (x y : List Lexeme). x ++ y) firsts others ∙ sym k.2

pub list_is_one : ListIsOne
list_is_one text one other h k =
    let pieces = whole_split_is_one text h.pieces k.pieces h.split k.split in
    gives_one 0 h.pieces one other h.given (subst (λ (ps : List Piece). Gives 0 ps other) (sym pieces) k.given)

-- ---- one first fault

fails_or_gives : (at : ℕ) (text : List ℕ) (flaw : Flaw) (fault_at : ℕ) (p : Piece) (rest : List ℕ) (tokens : List Lexeme)
    → Fails at text flaw fault_at → Starts text p rest → PieceGives at p tokens → ⊥
fails_or_gives at text flaw fault_at p rest tokens (stuck behind h e) k g = stuck_has_no_piece text flaw behind p rest h k
fails_or_gives at text flaw fault_at p rest tokens (in_comment comment after starts h) k g =
    let same = (piece_is_one text comment p after rest starts k).0 in
    piece_fails_or_gives at p flaw fault_at tokens (subst (λ (q : Piece). LinesFail (is_starred q) (at + 3) (documentation q) flaw fault_at) same h) g

nothing_fails : (at : ℕ) (flaw : Flaw) (fault_at : ℕ) → Fails at [] flaw fault_at → ⊥
nothing_fails at flaw fault_at (stuck behind h e) = nothing_is_stuck flaw behind h
nothing_fails at flaw fault_at (in_comment comment after starts h) = nothing_starts comment after starts

fails_one : (at : ℕ) (text : List ℕ) (one other : Flaw) (n m : ℕ) → Fails at text one n → Fails at text other m → (one ≡ other) × (n ≡ m)
fails_one at text one other n m (stuck behind h e) (stuck behind' k f) =
    let same = stuck_is_one text one other behind behind' h k in
    (same.0, e ∙ ap (λ (x : ℕ). at + x) same.1 ∙ sym f)
fails_one at text one other n m (stuck behind h e) (in_comment comment after starts k) = absurd (stuck_has_no_piece text one behind comment after h starts)
fails_one at text one other n m (in_comment comment after starts h) (stuck behind k e) = absurd (stuck_has_no_piece text other behind comment after k starts)
fails_one at text one other n m (in_comment comment after starts h) (in_comment comment' after' starts' k) =
    let same = (piece_is_one text comment' comment after' after starts' starts).0 in
    lines_fail_one (is_starred comment) (at + 3) (documentation comment) one other n m h
    (subst (λ (q : Piece). LinesFail (is_starred q) (at + 3) (documentation q) other m) same k)

-- a fault behind pieces of a text that begins at the offset
record FailsBehind (at : ℕ) (text : List ℕ) (ps : List Piece) (rest : List ℕ) (flaw : Flaw) (fault_at : ℕ) : Type 0 where
  place : ℕ
  split : Splits text ps rest
  place_is : place ≡ at + length (all_written ps)
  fails : Fails place rest flaw fault_at

fails_here : (at : ℕ) (text rest : List ℕ) (flaw : Flaw) (fault_at : ℕ) → FailsBehind at text [] rest flaw fault_at → Fails at text flaw fault_at
fails_here at text rest flaw fault_at h =
    let here : h.place ≡ at = omega (arith, h.place_is) in
    subst (λ (t : List ℕ). Fails at t flaw fault_at) (sym h.split.spelled) (subst (λ (x : ℕ). Fails x rest flaw fault_at) here h.fails)

fails_later : (at : ℕ) (text later : List ℕ) (p : Piece) (ps : List Piece) (rest : List ℕ) (flaw : Flaw) (fault_at : ℕ) → FailsBehind at text (p ∷ ps) rest flaw fault_at
    → (q : Piece) → q ≡ p → Splits later ps rest → FailsBehind (at + length (written q)) later ps rest flaw fault_at
fails_later at text later p ps rest flaw fault_at h q e split =
    record {
      place = h.place;
      split = split;
      place_is = omega (arith, h.place_is, ap (λ (x : Piece). length (written x)) e, length-append (written p) (all_written ps));
      fails = h.fails;
    }

fails_or_gives_behind : (at : ℕ) (text : List ℕ) (ps qs : List Piece) (rest : List ℕ) (flaw : Flaw) (fault_at : ℕ) (list : List Lexeme)
    → FailsBehind at text ps rest flaw fault_at → Splits text qs [] → Gives at qs list → ⊥
fails_or_gives_behind at text [] [] rest flaw fault_at list h k g =
    nothing_fails at flaw fault_at (subst (λ (t : List ℕ). Fails at t flaw fault_at) k.spelled (fails_here at text rest flaw fault_at h))
fails_or_gives_behind at text [] (q ∷ qs) rest flaw fault_at list h k g =
    fails_or_gives at text flaw fault_at q (all_written qs ++ []) g.0 (fails_here at text rest flaw fault_at h) (first_starts text q qs [] k) g.3
fails_or_gives_behind at text (p ∷ ps) [] rest flaw fault_at list h k g = nothing_splits text p ps rest k h.split
fails_or_gives_behind at text (p ∷ ps) (q ∷ qs) rest flaw fault_at list h k g =
    let same = same_first text p q ps qs rest [] h.split k in
    fails_or_gives_behind (at + length (written q)) (all_written ps ++ rest) ps qs rest flaw fault_at g.1
    (fails_later at text (all_written ps ++ rest) p ps rest flaw fault_at h q (sym same.0) same.1) same.2 g.4

pub fault_excludes_list : FaultExcludesList
fault_excludes_list text list flaw at h k =
    fails_or_gives_behind 0 text k.pieces h.pieces k.rest flaw at list
    (record { place = length (all_written k.pieces); split = k.split; place_is = omega arith; fails = k.fails }) h.split h.given

fails_behind_one : (at : ℕ) (text : List ℕ) (ps qs : List Piece) (r s : List ℕ) (one other : Flaw) (n m : ℕ) (ts us : List Lexeme)
    → FailsBehind at text ps r one n → Gives at ps ts → FailsBehind at text qs s other m → Gives at qs us → (one ≡ other) × (n ≡ m)
fails_behind_one at text [] [] r s one other n m ts us h g k i =
    fails_one at text one other n m (fails_here at text r one n h) (fails_here at text s other m k)
fails_behind_one at text [] (q ∷ qs) r s one other n m ts us h g k i =
    absurd (fails_or_gives at text one n q (all_written qs ++ s) i.0 (fails_here at text r one n h) (first_starts text q qs s k.split) i.3)
fails_behind_one at text (p ∷ ps) [] r s one other n m ts us h g k i =
    absurd (fails_or_gives at text other m p (all_written ps ++ r) g.0 (fails_here at text s other m k) (first_starts text p ps r h.split) g.3)
fails_behind_one at text (p ∷ ps) (q ∷ qs) r s one other n m ts us h g k i =
    let same = same_first text p q ps qs r s h.split k.split in
    fails_behind_one (at + length (written p)) (all_written ps ++ r) ps qs r s one other n m g.1 i.1
    (fails_later at text (all_written ps ++ r) p ps r one n h p refl same.1) g.4
    (fails_later at text (all_written ps ++ r) q qs s other m k p same.0 same.2)
    (subst (λ (x : Piece). Gives (at + length (written x)) qs i.1) (sym same.0) i.4)

pub fault_is_one : FaultIsOne
fault_is_one text one other at at' h k =
    fails_behind_one 0 text h.pieces k.pieces h.rest k.rest one other at at' h.tokens k.tokens
    (record { place = length (all_written h.pieces); split = h.split; place_is = omega arith; fails = h.fails }) h.given
    (record { place = length (all_written k.pieces); split = k.split; place_is = omega arith; fails = k.fails }) k.given

-- ---- tokens are slices

-- these bytes stand in the text at the offset
pub record IsPart (text : List ℕ) (at : ℕ) (bytes : List ℕ) : Type 0 where
  pub before : List ℕ
  pub after : List ℕ
  pub spelled : text ≡ before ++ (bytes ++ after)
  pub place : at ≡ length before

pub part_front : (text : List ℕ) (at : ℕ) (x y : List ℕ) → IsPart text at (x ++ y) → IsPart text at x
part_front text at x y h =
    record {
      before = h.before;
      after = y ++ h.after;
      spelled = h.spelled ∙ ap (λ (z : List ℕ). h.before ++ z) (append_assoc x y h.after);
      place = h.place;
    }

pub part_back : (text : List ℕ) (at : ℕ) (x y : List ℕ) → IsPart text at (x ++ y) → IsPart text (at + length x) y
part_back text at x y h =
    record {
      before = h.before ++ x;
      after = h.after;
      spelled =
          h.spelled ∙ ap (λ (z : List ℕ). h.before ++ z) (append_assoc x y h.after) ∙ sym (append_assoc h.before x (y ++ h.after));
      place = omega (arith, h.place, length-append h.before x);
    }

pub part_end : (text : List ℕ) (at : ℕ) (x : List ℕ) → IsPart text at x → IsPart text (at + length x) []
part_end text at x h = part_back text at x [] (subst (IsPart text at) (sym (append-nil x)) h)

pub part_joined : (text : List ℕ) (at : ℕ) (x y : List ℕ) → IsPart text at x → IsPart text (at + length x) y → IsPart text at (x ++ y)
part_joined text at x y h k =
    let fronts : length (h.before ++ x) ≡ length k.before = omega (arith, h.place, k.place, length-append h.before x) in
    let rests =
    append_once (h.before ++ x) k.before h.after (y ++ k.after) fronts
    (append_assoc h.before x h.after ∙ sym h.spelled ∙ k.spelled) in
    record {
      before = h.before;
      after = k.after;
      spelled = h.spelled ∙ ap (λ (z : List ℕ). h.before ++ z) (ap (λ (z : List ℕ). x ++ z) rests.1 ∙ sym (append_assoc x y k.after));
      place = h.place;
    }

pub part_moved : (text : List ℕ) (at at' : ℕ) (x : List ℕ) → at ≡ at' → IsPart text at x → IsPart text at' x
part_moved text at at' x e h = subst (λ (n : ℕ). IsPart text n x) e h

pub part_within : (text : List ℕ) (at : ℕ) (x : List ℕ) → IsPart text at x → at + length x ≤ length text
part_within text at x h =
    omega (arith, h.place, ap length h.spelled, length-append h.before (x ++ h.after), length-append x h.after)

pub part_slice : (text : List ℕ) (at : ℕ) (x : List ℕ) → IsPart text at x → slice_range text at (at + length x) ≡ x
part_slice text at x h =
    let count : at + length x - at ≡ length x = omega arith in
    let rest : drop at text ≡ x ++ h.after = ap (drop at) h.spelled ∙ drop_at h.before (x ++ h.after) at (sym h.place) in
    ap₂ take count rest ∙ take_at x h.after (length x) refl

-- the spans of tokens rise from an offset to another
abbrev pub RisesTo : ℕ → List Lexeme → ℕ → Type 0
RisesTo from [] to = from ≤ to
RisesTo from (t ∷ ts) to = (from ≤ t.at) × RisesTo (t.at + length t.text) ts to

rises_from : (a b : ℕ) (ts : List Lexeme) (c : ℕ) → a ≤ b → RisesTo b ts c → RisesTo a ts c
rises_from a b [] c h k = omega arith
rises_from a b (t ∷ ts) c h k = let first = k.0 in (omega arith, k.1)

rises_upto : (a : ℕ) (ts : List Lexeme) (b c : ℕ) → RisesTo a ts b → b ≤ c → RisesTo a ts c
rises_upto a [] b c h k = omega arith
rises_upto a (t ∷ ts) b c h k = (h.0, rises_upto (t.at + length t.text) ts b c h.1 k)

rises_joined : (a b c : ℕ) (ts us : List Lexeme) → RisesTo a ts b → RisesTo b us c → RisesTo a (ts ++ us) c
rises_joined a b c [] us h k = rises_from a b us c h k
rises_joined a b c (t ∷ ts) us h k = (h.0, rises_joined (t.at + length t.text) b c ts us h.1 k)

rise : (a : ℕ) (ts : List Lexeme) (b : ℕ) → RisesTo a ts b → Rise a ts
rise a [] b h = tt
rise a (t ∷ ts) b h = (h.0, rise (t.at + length t.text) ts b h.1)

-- the tokens are parts of the text between two offsets, one behind another
pub record AreParts (text : List ℕ) (from : ℕ) (tokens : List Lexeme) (to : ℕ) : Type 0 where
  pub parts : All (λ t. IsPart text t.at t.text) tokens
  pub rises : RisesTo from tokens to

no_parts : (text : List ℕ) (from to : ℕ) (tokens : List Lexeme) → tokens ≡ [] → from ≤ to → AreParts text from tokens to
no_parts text from to tokens e h =
    subst (λ (ts : List Lexeme). AreParts text from ts to) (sym e) (record { parts = All-nil (λ t. IsPart text t.at t.text); rises = h })

one_part : (text : List ℕ) (from to : ℕ) (t : Lexeme) → IsPart text t.at t.text → from ≤ t.at → t.at + length t.text ≤ to → AreParts text from (t ∷ []) to
one_part text from to t h low high =
    record { parts = All-cons (λ t. IsPart text t.at t.text) t [] h (All-nil (λ t. IsPart text t.at t.text)); rises = (low, high) }

joined_parts : (text : List ℕ) (a b c : ℕ) (ts us : List Lexeme) → AreParts text a ts b → AreParts text b us c → AreParts text a (ts ++ us) c
joined_parts text a b c ts us h k =
    record { parts = All-append (λ t. IsPart text t.at t.text) ts us h.parts k.parts; rises = rises_joined a b c ts us h.rises k.rises }

wider_parts : (text : List ℕ) (a b c d : ℕ) (ts : List Lexeme) → a ≤ b → c ≤ d → AreParts text b ts c → AreParts text a ts d
wider_parts text a b c d ts low high h =
    record { parts = h.parts; rises = rises_upto a ts c d (rises_from a b ts c low h.rises) high }

-- the first of some pieces that stand at an offset, and the others
first_part : (text : List ℕ) (at : ℕ) (p : Piece) (ps : List Piece) → IsPart text at (all_written (p ∷ ps)) → IsPart text at (written p)
first_part text at p ps = part_front text at (written p) (all_written ps)

other_parts : (text : List ℕ) (at : ℕ) (p : Piece) (ps : List Piece) → IsPart text at (all_written (p ∷ ps)) → IsPart text (at + length (written p)) (all_written ps)
other_parts text at p ps = part_back text at (written p) (all_written ps)

-- tokens behind a piece that reach the end of the others do so from the piece's beginning
behind_piece : (text : List ℕ) (at : ℕ) (p : Piece) (ps : List Piece) (first others : List Lexeme)
    → AreParts text at first (at + length (written p)) → AreParts text (at + length (written p)) others (at + length (written p) + length (all_written ps))
    → AreParts text at (first ++ others) (at + length (all_written (p ∷ ps)))
behind_piece text at p ps first others h k =
    wider_parts text at at (at + length (written p) + length (all_written ps)) (at + length (all_written (p ∷ ps))) (first ++ others)
    (omega arith) (omega (arith, length-append (written p) (all_written ps)))
    (joined_parts text at (at + length (written p)) (at + length (written p) + length (all_written ps)) first others h k)

among_are_parts : (text : List ℕ) (at : ℕ) (ps : List Piece) → IsPart text at (all_written ps) → AreParts text at (tokens_among at ps) (at + length (all_written ps))
among_are_parts text at [] h = no_parts text at (at + 0) [] refl (omega arith)
among_are_parts text at (token kind bytes ∷ ps) h =
    behind_piece text at (token kind bytes) ps (lexeme kind bytes at ∷ []) (tokens_among (at + length bytes) ps)
    (one_part text at (at + length bytes) (lexeme kind bytes at) (first_part text at (token kind bytes) ps h) (omega arith) (omega arith))
    (among_are_parts text (at + length bytes) ps (other_parts text at (token kind bytes) ps h))
among_are_parts text at (space b ∷ ps) h =
    behind_piece text at (space b) ps [] (tokens_among (at + length (written (space b))) ps)
    (no_parts text at (at + length (written (space b))) [] refl (omega arith))
    (among_are_parts text (at + length (written (space b))) ps (other_parts text at (space b) ps h))
among_are_parts text at (line_comment body ∷ ps) h =
    behind_piece text at (line_comment body) ps [] (tokens_among (at + length (written (line_comment body))) ps)
    (no_parts text at (at + length (written (line_comment body))) [] refl (omega arith))
    (among_are_parts text (at + length (written (line_comment body))) ps (other_parts text at (line_comment body) ps h))
among_are_parts text at (block_comment body ∷ ps) h =
    behind_piece text at (block_comment body) ps [] (tokens_among (at + length (written (block_comment body))) ps)
    (no_parts text at (at + length (written (block_comment body))) [] refl (omega arith))
    (among_are_parts text (at + length (written (block_comment body))) ps (other_parts text at (block_comment body) ps h))

-- what stands before the word of an annotation line
abbrev before_word : Opening → List ℕ
before_word o = o.lead ++ codes "@notice" ++ o.between

line_length : (starred : Bool) (at : ℕ) (line : List ℕ) (o : Opening) → Opens starred line o → at + length line ≡ content_at at o + length o.content
line_length starred at line o h =
    omega (
      arith,
      ap length h.spelled,
      length-append (before_word o ++ o.word) (o.blank ∷ o.content),
      length-append (before_word o) o.word,
    )

word_is_part : (starred : Bool) (text : List ℕ) (at : ℕ) (line : List ℕ) (o : Opening) → Opens starred line o → IsPart text at line → IsPart text (word_at at o) (o.word ++ o.blank ∷ o.content)
word_is_part starred text at line o h k =
    part_back text at (before_word o) (o.word ++ o.blank ∷ o.content)
    (subst (IsPart text at) (h.spelled ∙ append_assoc (before_word o) o.word (o.blank ∷ o.content)) k)

content_is_part : (starred : Bool) (text : List ℕ) (at : ℕ) (line : List ℕ) (o : Opening) → Opens starred line o → IsPart text at line → IsPart text (content_at at o) o.content
content_is_part starred text at line o h k =
    let word_and_blank : List ℕ = o.word ++ o.blank ∷ [] in
    part_moved text (word_at at o + length (o.word ++ o.blank ∷ [])) (content_at at o) o.content (omega (arith, length-append o.word (o.blank ∷ [])))
    (part_back text (word_at at o) word_and_blank o.content
    (subst (IsPart text (word_at at o)) (sym (append_assoc o.word (o.blank ∷ []) o.content)) (word_is_part starred text at line o h k)))

note_is_parts : (starred : Bool) (text : List ℕ) (at : ℕ) (line : List ℕ) (o : Opening) (ps : List Piece) → Opens starred line o → Splits o.content ps [] → IsPart text at line
    → AreParts text at (note_tokens at o ps) (at + length line)
note_is_parts starred text at line o ps h split k =
    let start : ℕ = content_at at o in
    let content = content_is_part starred text at line o h k in
    let note : AreParts text at (lexeme Note o.word (word_at at o) ∷ []) start =
    one_part text at start (lexeme Note o.word (word_at at o)) (part_front text (word_at at o) o.word (o.blank ∷ o.content) (word_is_part starred text at line o h k))
    (omega arith) (omega arith) in
    let written_is : o.content ≡ all_written ps = split.spelled ∙ append-nil (all_written ps) in
    let among : AreParts text start (tokens_among start ps) (start + length o.content) =
    subst (λ (c : List ℕ). AreParts text start (tokens_among start ps) (start + length c)) (sym written_is)
    (among_are_parts text start ps (subst (IsPart text start) written_is content)) in
    let last : AreParts text (start + length o.content) (lexeme End [] (start + length o.content) ∷ []) (at + length line) =
    one_part text (start + length o.content) (at + length line) (lexeme End [] (start + length o.content)) (part_end text start o.content content)
    (omega arith) (omega (arith, line_length starred at line o h)) in
    joined_parts text at (start + length o.content) (at + length line) (lexeme Note o.word (word_at at o) ∷ tokens_among start ps) (lexeme End [] (start + length o.content) ∷ [])
    (joined_parts text at start (start + length o.content) (lexeme Note o.word (word_at at o) ∷ []) (tokens_among start ps) note among) last

line_is_parts : (starred : Bool) (text : List ℕ) (at : ℕ) (line : List ℕ) (tokens : List Lexeme) → LineGives starred at line tokens → IsPart text at line → AreParts text at tokens (at + length line)
line_is_parts starred text at line tokens (plain none e) k = no_parts text at (at + length line) tokens e (omega arith)
line_is_parts starred text at line tokens (annotation o opens ps split e) k =
    subst (λ (ts : List Lexeme). AreParts text at ts (at + length line)) (sym e) (note_is_parts starred text at line o ps opens split k)

-- lines stand in the text from an offset on, with a byte between two of them, and end at an offset or before
abbrev pub AreLines : List ℕ → ℕ → List (List ℕ) → ℕ → Type 0
AreLines text at [] to = ⊥
AreLines text at (line ∷ []) to = IsPart text at line × (at + length line ≤ to)
AreLines text at (line ∷ next ∷ lines) to = IsPart text at line × AreLines text (at + length line + 1) (next ∷ lines) to

lines_rise : (text : List ℕ) (at : ℕ) (lines : List (List ℕ)) (to : ℕ) → AreLines text at lines to → at ≤ to
lines_rise text at [] to h = absurd h
lines_rise text at (line ∷ []) to h = let end = h.1 in omega arith
lines_rise text at (line ∷ next ∷ lines) to h = let end = lines_rise text (at + length line + 1) (next ∷ lines) to h.1 in omega arith

lines_are_parts : (starred : Bool) (text : List ℕ) (at : ℕ) (lines : List (List ℕ)) (to : ℕ) (tokens : List Lexeme) → AreLines text at lines to → LinesGive starred at lines tokens → AreParts text at tokens to
lines_are_parts starred text at [] to tokens h k = absurd h
lines_are_parts starred text at (line ∷ []) to tokens h k =
    subst (λ (ts : List Lexeme). AreParts text at ts to) (sym k.2)
    (joined_parts text at (at + length line) to k.0 k.1 (line_is_parts starred text at line k.0 k.3 h.0) (no_parts text (at + length line) to k.1 k.4 h.1))
lines_are_parts starred text at (line ∷ next ∷ lines) to tokens h k =
    subst (λ (ts : List Lexeme). AreParts text at ts to) (sym k.2)
    (joined_parts text at (at + length line + 1) to k.0 k.1
    (wider_parts text at at (at + length line) (at + length line + 1) k.0 (omega arith) (omega arith) (line_is_parts starred text at line k.0 k.3 h.0))
    (lines_are_parts starred text (at + length line + 1) (next ∷ lines) to k.1 h.1 k.4))

line_ends_here : (text : List ℕ) (at : ℕ) (lines : List (List ℕ)) (to : ℕ) → IsPart text at [] → AreLines text (at + 1) lines to → AreLines text at ([] ∷ lines) to
line_ends_here text at [] to h k = absurd k
line_ends_here text at (line ∷ lines) to h k =
    let start : at + 1 ≡ at + 0 + 1 = omega arith in
    (h, subst (λ (n : ℕ). AreLines text n (line ∷ lines) to) start k)

line_goes_on : (text : List ℕ) (at b : ℕ) (lines : List (List ℕ)) (to : ℕ) → IsPart text at (b ∷ []) → AreLines text (at + 1) lines to → AreLines text at (put_before b lines) to
line_goes_on text at b [] to h k = absurd k
line_goes_on text at b (line ∷ []) to h k =
    let end = k.1 in
    (part_joined text at (b ∷ []) line h k.0, omega arith)
line_goes_on text at b (line ∷ next ∷ lines) to h k =
    let start : at + 1 + length line + 1 ≡ at + length (b ∷ line) + 1 = omega arith in
    (part_joined text at (b ∷ []) line h k.0, subst (λ (n : ℕ). AreLines text n (next ∷ lines) to) start k.1)

either_line : (v : Bool) (text : List ℕ) (at b : ℕ) (lines : List (List ℕ)) (to : ℕ) → IsPart text at (b ∷ []) → AreLines text (at + 1) lines to
    → AreLines text at (cond v ([] ∷ lines) (put_before b lines)) to
either_line true text at b lines to h k = line_ends_here text at lines to (part_front text at [] (b ∷ []) h) k
either_line false text at b lines to h k = line_goes_on text at b lines to h k

pub bytes_are_lines : (text : List ℕ) (at : ℕ) (bytes : List ℕ) (to : ℕ) → IsPart text at bytes → at + length bytes ≤ to → AreLines text at (lines_of bytes) to
bytes_are_lines text at [] to h k = (h, k)
bytes_are_lines text at (b ∷ bs) to h k =
    let end : at + 1 + length bs ≤ to = omega arith in
    either_line (is_newline b) text at b (lines_of bs) to (part_front text at (b ∷ []) bs h)
    (bytes_are_lines text (at + 1) bs to (part_back text at (b ∷ []) bs h) end)

-- a piece has no documentation lines, or they stand from its fourth byte on
perhaps_lines : (v : Bool) (text : List ℕ) (at : ℕ) (lines : List (List ℕ)) (to : ℕ) → AreLines text at lines to → (cond v lines [] ≡ []) ⊎ AreLines text at (cond v lines []) to
perhaps_lines true text at lines to h = inr h
perhaps_lines false text at lines to h = inl refl

pub documentation_is_lines : (text : List ℕ) (at : ℕ) (p : Piece) → IsPart text at (written p) → (documentation p ≡ []) ⊎ AreLines text (at + 3) (documentation p) (at + length (written p))
documentation_is_lines text at (space b) h = inl refl
documentation_is_lines text at (token kind bytes) h = inl refl
documentation_is_lines text at (line_comment []) h = inl refl
documentation_is_lines text at (line_comment (b ∷ bs)) h =
    perhaps_lines (is_slash b && not (begins_with_slash bs)) text (at + 3) (bs ∷ []) (at + length (written (line_comment (b ∷ bs))))
    (part_back text at (codes "//" ++ b ∷ []) bs h, omega arith)
documentation_is_lines text at (block_comment []) h = inl refl
documentation_is_lines text at (block_comment (b ∷ bs)) h =
    perhaps_lines (is_star b) text (at + 3) (lines_of bs) (at + length (written (block_comment (b ∷ bs))))
    (bytes_are_lines text (at + 3) bs (at + length (written (block_comment (b ∷ bs))))
    (part_front text (at + 3) bs (codes "*/") (part_back text at (codes "/*" ++ b ∷ []) (bs ++ codes "*/") h)) (omega (arith, length-append bs (codes "*/"))))

comment_is_parts : (starred : Bool) (text : List ℕ) (at : ℕ) (lines : List (List ℕ)) (to : ℕ) (tokens : List Lexeme)
    → (lines ≡ []) ⊎ AreLines text (at + 3) lines to → at ≤ to → LinesGive starred (at + 3) lines tokens → AreParts text at tokens to
comment_is_parts starred text at lines to tokens (inl e) low k =
    no_parts text at to tokens (subst (λ (ls : List (List ℕ)). LinesGive starred (at + 3) ls tokens) e k) low
comment_is_parts starred text at lines to tokens (inr h) low k =
    wider_parts text at (at + 3) to to tokens (omega arith) (omega arith) (lines_are_parts starred text (at + 3) lines to tokens h k)

piece_is_parts : (text : List ℕ) (at : ℕ) (p : Piece) (tokens : List Lexeme) → IsPart text at (written p) → PieceGives at p tokens → AreParts text at tokens (at + length (written p))
piece_is_parts text at (space b) tokens h k = no_parts text at (at + length (written (space b))) tokens k (omega arith)
piece_is_parts text at (token kind bytes) tokens h k =
    subst (λ (ts : List Lexeme). AreParts text at ts (at + length bytes)) (sym k) (one_part text at (at + length bytes) (lexeme kind bytes at) h (omega arith) (omega arith))
piece_is_parts text at (line_comment body) tokens h k =
    comment_is_parts false text at (documentation (line_comment body)) (at + length (written (line_comment body))) tokens (documentation_is_lines text at (line_comment body) h) (omega arith) k
piece_is_parts text at (block_comment body) tokens h k =
    comment_is_parts true text at (documentation (block_comment body)) (at + length (written (block_comment body))) tokens (documentation_is_lines text at (block_comment body) h) (omega arith) k

gives_parts : (text : List ℕ) (at : ℕ) (ps : List Piece) (list : List Lexeme) → IsPart text at (all_written ps) → Gives at ps list → AreParts text at list (at + length (all_written ps))
gives_parts text at [] list h k = no_parts text at (at + 0) list k (omega arith)
gives_parts text at (p ∷ ps) list h k =
    subst (λ (ts : List Lexeme). AreParts text at ts (at + length (all_written (p ∷ ps)))) (sym k.2)
    (behind_piece text at p ps k.0 k.1 (piece_is_parts text at p k.0 (first_part text at p ps h) k.3)
    (gives_parts text (at + length (written p)) ps k.1 (other_parts text at p ps h) k.4))

pub tokens_are_slices : TokensAreSlices
tokens_are_slices text list h =
    let whole : IsPart text 0 (all_written h.pieces) = record { before = []; after = []; spelled = h.split.spelled; place = refl } in
    let are = gives_parts text 0 h.pieces list whole h.given in (
      All-weaker (λ t. IsPart text t.at t.text) (λ t. (t.at + length t.text ≤ length text) × (slice_range text t.at (t.at + length t.text) ≡ t.text))
          (λ t k. (part_within text t.at t.text k, part_slice text t.at t.text k)) list are.parts,
      rise 0 list (0 + length (all_written h.pieces)) are.rises,
    )

-- ---- the first fault is within the text

line_fails_within : (starred : Bool) (at : ℕ) (line : List ℕ) (flaw : Flaw) (fault_at : ℕ) → LineFails starred at line flaw fault_at → fault_at ≤ at + length line
line_fails_within starred at line flaw fault_at h =
    omega (
      arith,
      h.place,
      line_length starred at line h.opening h.opens,
      ap length h.split.spelled,
      length-append (all_written h.pieces) h.rest,
      stuck_within h.rest flaw h.behind h.stuck,
    )

lines_fail_within : (starred : Bool) (text : List ℕ) (at : ℕ) (lines : List (List ℕ)) (to : ℕ) (flaw : Flaw) (fault_at : ℕ) → AreLines text at lines to → LinesFail starred at lines flaw fault_at → fault_at ≤ to
lines_fail_within starred text at [] to flaw fault_at h k = absurd k
lines_fail_within starred text at (line ∷ []) to flaw fault_at h (inl k) =
    let end = h.1 in
    omega (arith, line_fails_within starred at line flaw fault_at k)
lines_fail_within starred text at (line ∷ []) to flaw fault_at h (inr k) = absurd k.2
lines_fail_within starred text at (line ∷ next ∷ lines) to flaw fault_at h (inl k) =
    omega (arith, line_fails_within starred at line flaw fault_at k, lines_rise text (at + length line + 1) (next ∷ lines) to h.1)
lines_fail_within starred text at (line ∷ next ∷ lines) to flaw fault_at h (inr k) =
    lines_fail_within starred text (at + length line + 1) (next ∷ lines) to flaw fault_at h.1 k.2

pub comment_fails_within : (text : List ℕ) (at : ℕ) (p : Piece) (flaw : Flaw) (fault_at : ℕ) → IsPart text at (written p)
    → LinesFail (is_starred p) (at + 3) (documentation p) flaw fault_at → fault_at ≤ at + length (written p)
comment_fails_within text at p flaw fault_at h k =
    elim (documentation_is_lines text at p h) [
      | inl e ↦ absurd (subst (λ (ls : List (List ℕ)). LinesFail (is_starred p) (at + 3) ls flaw fault_at) e k)
      | inr lines ↦ lines_fail_within (is_starred p) text (at + 3) (documentation p) (at + length (written p)) flaw fault_at lines k
    ]

fails_within : (text front rest : List ℕ) (flaw : Flaw) (fault_at : ℕ) → text ≡ front ++ rest → Fails (length front) rest flaw fault_at → fault_at ≤ length text
fails_within text front rest flaw fault_at e (stuck behind h f) =
    omega (arith, f, ap length e, length-append front rest, stuck_within rest flaw behind h)
fails_within text front rest flaw fault_at e (in_comment comment after starts h) =
    let part : IsPart text (length front) (written comment) =
    record { before = front; after = after; spelled = e ∙ ap (λ (z : List ℕ). front ++ z) starts.spelled; place = refl } in
    omega (arith, comment_fails_within text (length front) comment flaw fault_at part h, part_within text (length front) (written comment) part)

pub fault_within : (text : List ℕ) (flaw : Flaw) (at : ℕ) → FirstFault text flaw at → at ≤ length text
fault_within text flaw at h = fails_within text (all_written h.pieces) h.rest flaw at h.split.spelled h.fails
