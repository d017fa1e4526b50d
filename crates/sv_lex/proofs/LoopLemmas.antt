-- Pieces, lines and tokens of a text, as they are read one after another.
use Rattle.std.proofs.Common.{◌≡◌, ◌≢◌, ℕ, ◌+◌, ◌-◌, ◌<◌, ◌≤◌, inl, inr, Bool, true, false, Option, Some, None, Result, Ok, Err, List, [], ◌∷◌, ◌++◌, Contains, codes, length, slice_range, Bor, refl, sym, ap, ap₂, ◌∙◌, subst, arith, append_assoc, append-nil, length-append}
use Rattle.std.proofs.lemmas.Grind.{flat_map-append}
use Rattle.sv_lex.specs.Annotations.{SplitsLine, IsNote, OpensAs}
use Rattle.sv_lex.specs.Collecting.{Collects, IsReady, Added, IsSlice, ContentFails, AddsContent, AddsLine, AddsLines, AddsPiece, AddsSoFar, AddsUpTo, AddsLinesSoFar, AddsTextSoFar, AddsText, IsWhole}
use Rattle.sv_lex.specs.Faults.{IsStuck, LineFails, LinesFail, FirstFault, stuck, in_comment}
use Rattle.sv_lex.specs.Forms.{IsWord, IsDecimal, IsHexadecimal, IsString, IsPragma, IsToken, marks}
use Rattle.sv_lex.specs.Lexing.{limit}
use Rattle.sv_lex.specs.Pieces.{Piece, space, line_comment, block_comment, token, written, all_written, Fits, Starts, AllFit, Splits}
use Rattle.sv_lex.specs.TextReading.{piece_of}
use Rattle.sv_lex.specs.Tokens.{Lexeme, lexeme, Tokens, Gives, PieceGives, LineGives, plain, annotation, LinesGive, lines_of, tokens_among, note_tokens, documentation, is_starred, Opening, Opens, word_at, content_at}
use Rattle.sv_lex.specs.declared.collector.Collector.{Collector}
use Rattle.sv_lex.specs.declared.documentation.Opening.{Opening as Found}
use Rattle.sv_lex.specs.declared.fault.Flaw.{Flaw}
use Rattle.sv_lex.specs.declared.piece.Shape.{Shape}
use Rattle.sv_lex.specs.declared.piece.Shape.TheVariants.{Space, LineComment, BlockComment, Token as TokenShape}
use Rattle.sv_lex.specs.declared.stop.Stop.{Stop}
use Rattle.sv_lex.specs.declared.stop.Stop.TheVariants.{Fault, NoMemory}
use Rattle.sv_lex.specs.declared.tok.Tok.{Tok}
use Rattle.sv_lex.specs.declared.tok.Tok.TheVariants.{Word, Number, Hex, Str, Punct, Pragma, Note, End}
use Rattle.sv_lex.proofs.CollectLemmas.{added_none, added_later, added_both, added_token, slice_inside}
use Rattle.sv_lex.proofs.NoteLemmas.{one_line, first_line, some_line}
use Rattle.sv_lex.proofs.PieceLaws.{wording, numbering, quoting, marking, absent, sort_of_numeral, sort_of_string, sort_of_mark, sort_of_pragma}

-- ---- pieces in a row, and one more

-- the tokens of a piece at an offset
abbrev pub tokens_of : ℕ → Piece → List Lexeme
tokens_of at (token kind bytes) = lexeme kind bytes at ∷ []
tokens_of at (space b) = []
tokens_of at (line_comment body) = []
tokens_of at (block_comment body) = []

tokens_cons : (at : ℕ) (p : Piece) (ps : List Piece) → tokens_among at (p ∷ ps) ≡ tokens_of at p ++ tokens_among (at + length (written p)) ps
tokens_cons at (token kind bytes) ps = refl
tokens_cons at (space b) ps = refl
tokens_cons at (line_comment body) ps = refl
tokens_cons at (block_comment body) ps = refl

written_push : (ps : List Piece) (p : Piece) → all_written (ps ++ p ∷ []) ≡ all_written ps ++ written p
written_push ps p = flat_map-append written ps (p ∷ []) ∙ ap (λ l. all_written ps ++ l) (append-nil (written p))

length_push : (ps : List Piece) (p : Piece) → length (all_written (ps ++ p ∷ [])) ≡ length (all_written ps) + length (written p)
length_push ps p = ap length (written_push ps p) ∙ length-append (all_written ps) (written p)

tokens_push : (at : ℕ) (ps : List Piece) (p : Piece) → tokens_among at (ps ++ p ∷ []) ≡ tokens_among at ps ++ tokens_of (at + length (all_written ps)) p
tokens_push at [] p =
    let here : at ≡ at + 0 = omega arith in tokens_cons at p [] ∙ append-nil (tokens_of at p) ∙ ap (λ n. tokens_of n p) here
tokens_push at (q ∷ ps) p =
    let there : at + length (written q) + length (all_written ps) ≡ at + length (all_written (q ∷ ps)) =
    omega (arith, length-append (written q) (all_written ps)) in
    tokens_cons at q (ps ++ p ∷ [])
    ∙ ap (λ l. tokens_of at q ++ l) (tokens_push (at + length (written q)) ps p)
    ∙ sym (append_assoc (tokens_of at q) (tokens_among (at + length (written q)) ps) (tokens_of (at + length (written q) + length (all_written ps)) p))
    ∙ ap₂ (λ l n. l ++ tokens_of n p) (sym (tokens_cons at q ps)) there

fit_push : (ps : List Piece) (rest after : List ℕ) (p : Piece) → AllFit ps rest → rest ≡ written p ++ after → Fits p after → AllFit (ps ++ p ∷ []) after
fit_push [] rest after p all is fits = (fits, tt)
fit_push (q ∷ ps) rest after p all is fits =
    let same : all_written ps ++ rest ≡ all_written (ps ++ p ∷ []) ++ after =
    ap (λ l. all_written ps ++ l) is ∙ sym (append_assoc (all_written ps) (written p) after) ∙ ap (λ l. l ++ after) (sym (written_push ps p)) in
    (subst (Fits q) same all.0, fit_push ps rest after p all.1 is fits)

pub splits_start : (text : List ℕ) → Splits text [] text
splits_start text = record { spelled = refl; fit = tt }

pub splits_push : (text rest after : List ℕ) (ps : List Piece) (p : Piece) → Splits text ps rest → Starts rest p after → Splits text (ps ++ p ∷ []) after
splits_push text rest after ps p split starts = record {
  spelled =
      split.spelled ∙ ap (λ l. all_written ps ++ l) starts.spelled ∙ sym (append_assoc (all_written ps) (written p) after) ∙ ap (λ l. l ++ after) (sym (written_push ps p));
  fit = fit_push ps rest after p split.fit starts.spelled starts.fits;
}

gives_push : (at : ℕ) (ps : List Piece) (p : Piece) (ts us : List Lexeme) → Gives at ps ts → PieceGives (at + length (all_written ps)) p us → Gives at (ps ++ p ∷ []) (ts ++ us)
gives_push at [] p ts us given one =
    let here : at + 0 ≡ at = omega arith in
    (us, [], ap (λ l. l ++ us) given ∙ sym (append-nil us), subst (λ n. PieceGives n p us) here one, refl)
gives_push at (q ∷ ps) p ts us given one =
    let there : at + length (all_written (q ∷ ps)) ≡ at + length (written q) + length (all_written ps) =
    omega (arith, length-append (written q) (all_written ps)) in (
      given.0,
      given.1 ++ us,
      ap (λ l. l ++ us) given.2 ∙ append_assoc given.0 given.1 us,
      given.3,
      gives_push (at + length (written q)) ps p given.1 us given.4 (subst (λ n. PieceGives n p us) there one),
    )

-- how many bytes stand before what is left
pub place_of_rest : (text rest : List ℕ) (ps : List Piece) → Splits text ps rest → length text ≡ length (all_written ps) + length rest
place_of_rest text rest ps split = ap length split.spelled ∙ length-append (all_written ps) rest

-- ---- a piece has some bytes

some_token : (kind : Tok) (bytes : List ℕ) → IsToken kind bytes → bytes ≢ []
some_token Word bytes is none = subst IsWord none is.0
some_token Number bytes is none = let sort : absent ≡ numbering = sort_of_numeral [] [] (inl (subst IsDecimal none is)) in cc
some_token Hex bytes is none = let sort : absent ≡ numbering = sort_of_numeral [] [] (inr (subst IsHexadecimal none is)) in cc
some_token Str bytes is none = let sort : absent ≡ quoting = sort_of_string [] [] (subst IsString none is) in cc
some_token Punct bytes is none = let sort : absent ≡ marking = sort_of_mark [] [] (subst (Contains marks) none is) in cc
some_token Pragma bytes is none = let sort : absent ≡ wording = sort_of_pragma [] [] (subst IsPragma none is) in cc
some_token Note bytes is none = is
some_token End bytes is none = is

some_piece : (p : Piece) (rest : List ℕ) → Fits p rest → written p ≢ []
some_piece (space b) rest fits none = cc
some_piece (line_comment body) rest fits none = cc
some_piece (block_comment body) rest fits none = cc
some_piece (token kind bytes) rest fits none = some_token kind bytes fits.0 none

some_length : (bytes : List ℕ) → bytes ≢ [] → 0 < length bytes
some_length [] some = absurd (some refl)
some_length (b ∷ bs) some = omega arith

pub starts_shorter : (text after : List ℕ) (p : Piece) → Starts text p after → length after < length text
starts_shorter text after p starts =
    omega (arith, ap length starts.spelled ∙ length-append (written p) after, some_length (written p) (some_piece p after starts.fits))

-- ---- the content of an annotation line

pub content_start : (at : ℕ) (text : List ℕ) (old : Collector) → IsReady old.source.now old at → AddsSoFar at text text old old
content_start at text old ready = record {
  pieces = [];
  split = splits_start text;
  added = added_later old old [] at (at + 0) (omega arith) (added_none old at ready);
}

-- what is left begins at this offset
pub content_here : (at : ℕ) (text rest : List ℕ) (old new : Collector) (s : AddsSoFar at text rest old new)
    → at + length text - length rest ≡ at + length (all_written s.pieces)
content_here at text rest old new s = omega (arith, place_of_rest text rest s.pieces s.split)

pub content_slice : (source : List ℕ) (at : ℕ) (text rest after : List ℕ) (old new : Collector) (p : Piece) → IsSlice source at text → AddsSoFar at text rest old new
    → Starts rest p after → IsSlice source (at + length text - length rest) (written p)
content_slice source at text rest after old new p slice s starts =
    subst (λ n. IsSlice source n (written p)) (sym (content_here at text rest old new s))
    (slice_inside source at text (all_written s.pieces) (written p) after slice (s.split.spelled ∙ ap (λ l. all_written s.pieces ++ l) starts.spelled))

content_more : (at : ℕ) (text rest after : List ℕ) (old mid new : Collector) (p : Piece) (s : AddsSoFar at text rest old mid) → Starts rest p after
    → Added old new (tokens_among at s.pieces ++ tokens_of (at + length (all_written s.pieces)) p) (at + length (all_written s.pieces) + length (written p)) → AddsSoFar at text after old new
content_more at text rest after old mid new p s starts added =
    let place : at + length (all_written s.pieces) + length (written p) ≡ at + length (all_written (s.pieces ++ p ∷ [])) = omega (arith, length_push s.pieces p) in record {
      pieces = s.pieces ++ p ∷ [];
      split = splits_push text rest after s.pieces p s.split starts;
      added = subst (λ ts. Added old new ts (at + length (all_written (s.pieces ++ p ∷ [])))) (sym (tokens_push at s.pieces p))
          (subst (λ n. Added old new (tokens_among at s.pieces ++ tokens_of (at + length (all_written s.pieces)) p) n) place added);
    }

-- behind a token
pub content_token : (at : ℕ) (text rest after : List ℕ) (old mid new : Collector) (kind : Tok) (bytes : List ℕ) (here to : ℕ)
    → IsSlice old.source.now at text → (s : AddsSoFar at text rest old mid) → Starts rest (token kind bytes) after
    → here ≡ at + length text - length rest → to ≡ here + length bytes
    → ((list : List Lexeme) → Collects mid.source.now list mid → Collects mid.source.now (list ++ lexeme kind (slice_range mid.source.now here to) here ∷ []) new)
    → IsReady mid.source.now new here → AddsSoFar at text after old new
content_token at text rest after old mid new kind bytes here to slice s starts here_is to_is collects ready =
    let place : here ≡ at + length (all_written s.pieces) = here_is ∙ content_here at text rest old mid s in
    let part = subst (λ n. IsSlice old.source.now n bytes) (sym here_is) (content_slice old.source.now at text rest after old mid (token kind bytes) slice s starts) in
    let one = added_token old mid new (tokens_among at s.pieces) kind bytes here to (subst (λ n. Added old mid (tokens_among at s.pieces) n) (sym place) s.added) part to_is collects ready in
    let end : to ≡ at + length (all_written s.pieces) + length bytes = omega arith in
    content_more at text rest after old mid new (token kind bytes) s starts
    (subst (λ n. Added old new (tokens_among at s.pieces ++ lexeme kind bytes n ∷ []) (at + length (all_written s.pieces) + length bytes)) place
    (subst (λ n. Added old new (tokens_among at s.pieces ++ lexeme kind bytes here ∷ []) n) end one))

-- behind another piece
pub no_tokens : (shape : Shape) (at : ℕ) → ((kind : Tok) (bytes : Bor (List ℕ)) → shape ≡ TokenShape kind bytes → ⊥) → tokens_of at (piece_of shape) ≡ []
no_tokens (Space b) at other = refl
no_tokens (LineComment body) at other = refl
no_tokens (BlockComment body) at other = refl
no_tokens (TokenShape kind bytes) at other = absurd (other kind bytes refl)

pub content_other : (at : ℕ) (text rest after : List ℕ) (old mid : Collector) (shape : Shape) → (s : AddsSoFar at text rest old mid) → Starts rest (piece_of shape) after
    → ((kind : Tok) (bytes : Bor (List ℕ)) → shape ≡ TokenShape kind bytes → ⊥) → AddsSoFar at text after old mid
content_other at text rest after old mid shape s starts other =
    let place = at + length (all_written s.pieces) in
    let same : tokens_among at s.pieces ≡ tokens_among at s.pieces ++ tokens_of place (piece_of shape) =
    sym (ap (λ l. tokens_among at s.pieces ++ l) (no_tokens shape place other) ∙ append-nil (tokens_among at s.pieces)) in
    content_more at text rest after old mid mid (piece_of shape) s starts
    (subst (λ ts. Added old mid ts (place + length (written (piece_of shape)))) same
    (added_later old mid (tokens_among at s.pieces) place (place + length (written (piece_of shape))) (omega arith) s.added))

pub content_stuck : (at : ℕ) (text rest : List ℕ) (old new : Collector) (flaw : Flaw) (behind : ℕ) → AddsSoFar at text rest old new → IsStuck rest flaw behind
    → ContentFails at text flaw (at + length text - length rest + behind)
content_stuck at text rest old new flaw behind s is = record {
  pieces = s.pieces;
  rest = rest;
  split = s.split;
  behind = behind;
  stuck = is;
  place = ap (λ n. n + behind) (content_here at text rest old new s);
}

-- ---- an annotation line

opening_word : (source : List ℕ) (starred : Bool) (at : ℕ) (line : List ℕ) (o : Opening) → Opens starred line o → IsSlice source at line → IsSlice source (word_at at o) o.word
opening_word source starred at line o opens slice =
    slice_inside source at line (o.lead ++ codes "@notice" ++ o.between) o.word (o.blank ∷ o.content) slice
    (opens.spelled ∙ append_assoc (o.lead ++ codes "@notice" ++ o.between) o.word (o.blank ∷ o.content))

opening_content : (source : List ℕ) (starred : Bool) (at : ℕ) (line : List ℕ) (o : Opening) → Opens starred line o → IsSlice source at line
    → IsSlice source (content_at at o) o.content
opening_content source starred at line o opens slice =
    let front : List ℕ = o.lead ++ codes "@notice" ++ o.between in
    let before : List ℕ = front ++ o.word ++ o.blank ∷ [] in
    let place : at + length before ≡ content_at at o = omega (arith, length-append (front ++ o.word) (o.blank ∷ []), length-append front o.word) in
    let cut : line ≡ before ++ (o.content ++ []) =
    opens.spelled ∙ sym (append_assoc (front ++ o.word) (o.blank ∷ []) o.content) ∙ ap (λ l. before ++ l) (sym (append-nil o.content)) in
    subst (λ n. IsSlice source n o.content) place (slice_inside source at line before o.content [] slice cut)

opening_end : (starred : Bool) (at : ℕ) (line : List ℕ) (o : Opening) → Opens starred line o → at + length line ≡ content_at at o + length o.content
opening_end starred at line o opens =
    let front : List ℕ = o.lead ++ codes "@notice" ++ o.between in
    omega (arith, ap length opens.spelled ∙ length-append (front ++ o.word) (o.blank ∷ o.content), length-append front o.word)

-- the offsets that the code counts
pub note_word : (starred : Bool) (at : ℕ) (line : List ℕ) (found : Found) (o : OpensAs starred line found) → at + found.before ≡ word_at at o.opening
note_word starred at line found o = omega (arith, o.before)

pub note_content : (starred : Bool) (at : ℕ) (line : List ℕ) (found : Found) (o : OpensAs starred line found)
    → at + found.before + length found.word.now + 1 ≡ content_at at o.opening
note_content starred at line found o = omega (arith, o.before, ap length o.word)

pub note_content_slice : (source : List ℕ) (starred : Bool) (at : ℕ) (line : List ℕ) (found : Found) (o : OpensAs starred line found) → IsSlice source at line
    → IsSlice source (at + found.before + length found.word.now + 1) found.content.now
note_content_slice source starred at line found o slice =
    subst (λ n. IsSlice source n found.content.now) (sym (note_content starred at line found o))
    (subst (λ l. IsSlice source (content_at at o.opening) l) (sym o.content) (opening_content source starred at line o.opening o.opens slice))

-- the Note is added
pub note_added : (starred : Bool) (at : ℕ) (line : List ℕ) (found : Found) (old new : Collector) (o : OpensAs starred line found)
    → IsSlice old.source.now at line → IsReady old.source.now old at
    → ((list : List Lexeme) → Collects old.source.now list old
    → Collects old.source.now (list ++ lexeme Note (slice_range old.source.now (at + found.before) (at + found.before + length found.word.now)) (at + found.before) ∷ []) new)
    → IsReady old.source.now new (at + found.before)
    → Added old new (lexeme Note o.opening.word (word_at at o.opening) ∷ []) (at + found.before + length found.word.now + 1)
note_added starred at line found old new o slice ready collects ready_new =
    let from = at + found.before in
    let to = at + found.before + length found.word.now in
    let place = note_word starred at line found o in
    let end : to ≡ from + length o.opening.word = ap (λ n. from + n) (ap length o.word) in
    let part = subst (λ n. IsSlice old.source.now n o.opening.word) (sym place) (opening_word old.source.now starred at line o.opening o.opens slice) in
    let one = added_token old old new [] Note o.opening.word from to (added_later old old [] at from (omega arith) (added_none old at ready)) part end collects ready_new in
    subst (λ n. Added old new (lexeme Note o.opening.word n ∷ []) (to + 1)) place
    (added_later old new (lexeme Note o.opening.word from ∷ []) to (to + 1) (omega arith) one)

-- then the tokens of the content, and the End
pub line_added : (starred : Bool) (at : ℕ) (line : List ℕ) (found : Found) (old mid last new : Collector) (o : OpensAs starred line found) (pieces : List Piece) (here end : ℕ)
    → here ≡ at + found.before + length found.word.now + 1 → end ≡ at + length line → IsSlice old.source.now at line
    → Added old mid (lexeme Note o.opening.word (word_at at o.opening) ∷ []) here
    → Splits found.content.now pieces [] → Added mid last (tokens_among here pieces) (here + length found.content.now)
    → ((list : List Lexeme) → Collects last.source.now list last → Collects last.source.now (list ++ lexeme End (slice_range last.source.now end end) end ∷ []) new)
    → IsReady last.source.now new end
    → (tokens : List Lexeme) × LineGives starred at line tokens × Added old new tokens (at + length line)
line_added starred at line found old mid last new o pieces here end here_is end_is slice first split second collects ready =
    let word = lexeme Note o.opening.word (word_at at o.opening) in
    let content = content_at at o.opening in
    let start : here ≡ content = here_is ∙ note_content starred at line found o in
    let stop : end ≡ content + length o.opening.content = end_is ∙ opening_end starred at line o.opening o.opens in
    let stop_here : here + length found.content.now ≡ end = omega (arith, ap length o.content) in
    let two = added_both old mid last (word ∷ []) (tokens_among here pieces) here (here + length found.content.now) first second in
    let nothing : IsSlice old.source.now end [] =
    subst (λ n. IsSlice old.source.now n []) (sym end_is) (slice_inside old.source.now at line line [] [] slice (sym (append-nil line))) in
    let ends : end ≡ end + 0 = omega arith in
    let three =
    added_token old last new (word ∷ tokens_among here pieces) End [] end end (subst (λ n. Added old last (word ∷ tokens_among here pieces) n) stop_here two) nothing ends
    collects ready in (
      note_tokens at o.opening pieces,
      annotation o.opening o.opens pieces (subst (λ l. Splits l pieces []) o.content split) refl,
      subst (λ n. Added old new (note_tokens at o.opening pieces) n) end_is
          (subst (λ n. Added old new (word ∷ tokens_among n pieces ++ lexeme End [] (content + length o.opening.content) ∷ []) end) start
          (subst (λ n. Added old new (word ∷ tokens_among here pieces ++ lexeme End [] n ∷ []) end) stop three)),
    )

-- a fault in the content
content_fault : (starred : Bool) (at : ℕ) (line : List ℕ) (found : Found) (flaw : Flaw) (fault_at : ℕ) → OpensAs starred line found
    → ContentFails (at + found.before + length found.word.now + 1) found.content.now flaw fault_at → LineFails starred at line flaw fault_at
content_fault starred at line found flaw fault_at o fails = record {
  opening = o.opening;
  opens = o.opens;
  pieces = fails.pieces;
  rest = fails.rest;
  split = subst (λ l. Splits l fails.pieces fails.rest) o.content fails.split;
  behind = fails.behind;
  stuck = fails.stuck;
  place = fails.place ∙ ap (λ n. n + length (all_written fails.pieces) + fails.behind) (note_content starred at line found o);
}

pub line_stops : (starred : Bool) (at : ℕ) (line : List ℕ) (found : Found) (old new mid last : Collector) (stop : Stop) → OpensAs starred line found
    → AddsContent (at + found.before + length found.word.now + 1) found.content.now mid (Err stop) last → AddsLine starred at line old (Err stop) new
line_stops starred at line found old new mid last (Fault flaw fault_at) o fails = content_fault starred at line found flaw fault_at o fails
line_stops starred at line found old new mid last NoMemory o fails = tt

-- a line that is no annotation line
pub no_note_added : (starred : Bool) (at : ℕ) (line : List ℕ) (old : Collector) → ((o : Opening) → Opens starred line o → ⊥) → IsReady old.source.now old at
    → (tokens : List Lexeme) × LineGives starred at line tokens × Added old old tokens (at + length line)
no_note_added starred at line old none ready = ([], plain none refl, added_later old old [] at (at + length line) (omega arith) (added_none old at ready))

-- ---- documentation lines

pub lines_start : (starred : Bool) (at : ℕ) (text : List ℕ) (old : Collector) → IsReady old.source.now old at → AddsUpTo starred at text text old old
lines_start starred at text old ready =
    let here : at + 0 ≡ at = omega arith in record {
      front = [];
      spelled = refl;
      tokens = [];
      added = added_later old old [] at (at + 0) (omega arith) (added_none old at ready);
      gives = λ others given. subst (λ n. LinesGive starred n (lines_of text) others) here given;
      fails = λ flaw fault_at failing. subst (λ n. LinesFail starred n (lines_of text) flaw fault_at) here failing;
    }

-- what is left begins at this offset
pub lines_here : (starred : Bool) (at : ℕ) (text rest : List ℕ) (old new : Collector) (u : AddsUpTo starred at text rest old new)
    → at + length text - length rest ≡ at + length u.front
lines_here starred at text rest old new u = omega (arith, ap length u.spelled ∙ length-append u.front rest)

-- what stands behind the first line
abbrev behind_line : Option (List ℕ) → List ℕ
behind_line None = []
behind_line (Some rest) = 10 ∷ rest

line_before : (lines line : List ℕ) (rest : Option (List ℕ)) → SplitsLine lines line rest → lines ≡ line ++ behind_line rest
line_before lines line None split = split.0 ∙ sym (append-nil line)
line_before lines line (Some rest) split = split.0

abbrev other_lines : Option (List ℕ) → List (List ℕ)
other_lines None = []
other_lines (Some rest) = lines_of rest

lines_are : (lines line : List ℕ) (rest : Option (List ℕ)) → SplitsLine lines line rest → lines_of lines ≡ line ∷ other_lines rest
lines_are lines line None split = ap lines_of split.0 ∙ one_line line split.1
lines_are lines line (Some rest) split = ap lines_of split.0 ∙ first_line line rest split.1

pub lines_slice : (source : List ℕ) (starred : Bool) (at : ℕ) (text lines line : List ℕ) (rest : Option (List ℕ)) (old new : Collector) → IsSlice source at text
    → AddsUpTo starred at text lines old new → SplitsLine lines line rest → IsSlice source (at + length text - length lines) line
lines_slice source starred at text lines line rest old new slice u split =
    subst (λ n. IsSlice source n line) (sym (lines_here starred at text lines old new u))
    (slice_inside source at text u.front line (behind_line rest) slice (u.spelled ∙ ap (λ l. u.front ++ l) (line_before lines line rest split)))

-- behind a line
pub lines_more : (starred : Bool) (at : ℕ) (text lines line : List ℕ) (rest : Option (List ℕ)) (old mid new : Collector) (here : ℕ) (tokens : List Lexeme)
    → (u : AddsUpTo starred at text lines old mid) → SplitsLine lines line rest → here ≡ at + length u.front
    → LineGives starred here line tokens → Added mid new tokens (here + length line) → AddsLinesSoFar starred at text old new rest
lines_more starred at text lines line None old mid new here tokens u split place given added =
    let line_gives : LinesGive starred (at + length u.front) (line ∷ []) tokens =
    (tokens, [], sym (append-nil tokens), subst (λ n. LineGives starred n line tokens) place given, refl) in
    let end : here + length line ≡ at + length text = omega (arith, place, ap length u.spelled ∙ length-append u.front lines, ap length split.0) in (
      u.tokens ++ tokens,
      u.gives tokens (subst (λ ls. LinesGive starred (at + length u.front) ls tokens) (sym (lines_are lines line None split)) line_gives),
      subst (λ n. Added old new (u.tokens ++ tokens) n) end
          (added_both old mid new u.tokens tokens here (here + length line) (subst (λ n. Added old mid u.tokens n) (sym place) u.added) added),
    )
lines_more starred at text lines line (Some rest) old mid new here tokens u split place given added =
    let front : List ℕ = u.front ++ line ++ 10 ∷ [] in
    let end : at + length u.front + length line + 1 ≡ at + length front =
    omega (arith, length-append (u.front ++ line) (10 ∷ []), length-append u.front line) in
    let later : here + length line ≤ at + length front = omega (arith, place) in
    let here_given = subst (λ n. LineGives starred n line tokens) place given in
    let same = sym (lines_are lines line (Some rest) split) in record {
      front = front;
      spelled =
          u.spelled ∙ ap (λ l. u.front ++ l) split.0 ∙ sym (append_assoc u.front line (10 ∷ rest)) ∙ sym (append_assoc (u.front ++ line) (10 ∷ []) rest);
      tokens = u.tokens ++ tokens;
      added = added_later old new (u.tokens ++ tokens) (here + length line) (at + length front) later
          (added_both old mid new u.tokens tokens here (here + length line) (subst (λ n. Added old mid u.tokens n) (sym place) u.added) added);
      gives = λ others h.
          let all : LinesGive starred (at + length u.front) (line ∷ lines_of rest) (tokens ++ others) =
          (tokens, others, refl, here_given, subst (λ n. LinesGive starred n (lines_of rest) others) (sym end) h) in
          subst (λ ts. LinesGive starred at (lines_of text) ts) (sym (append_assoc u.tokens tokens others))
          (u.gives (tokens ++ others) (subst (λ ls. LinesGive starred (at + length u.front) ls (tokens ++ others)) same all));
      fails = λ flaw fault_at h.
          let all : LinesFail starred (at + length u.front) (line ∷ lines_of rest) flaw fault_at =
          inr (tokens, here_given, subst (λ n. LinesFail starred n (lines_of rest) flaw fault_at) (sym end) h) in
          u.fails flaw fault_at (subst (λ ls. LinesFail starred (at + length u.front) ls flaw fault_at) same all);
    }

pub lines_stop : (starred : Bool) (at : ℕ) (text lines line : List ℕ) (rest : Option (List ℕ)) (old mid last new : Collector) (here : ℕ) (stop : Stop)
    → (u : AddsUpTo starred at text lines old mid) → SplitsLine lines line rest → here ≡ at + length u.front
    → AddsLine starred here line mid (Err stop) last → AddsLines starred at text old (Err stop) new
lines_stop starred at text lines line rest old mid last new here (Fault flaw fault_at) u split place fails =
    u.fails flaw fault_at (subst (λ ls. LinesFail starred (at + length u.front) ls flaw fault_at) (sym (lines_are lines line rest split))
    (inl (subst (λ n. LineFails starred n line flaw fault_at) place fails)))
lines_stop starred at text lines line rest old mid last new here NoMemory u split place fails = tt

-- ---- a piece

note_gives : (at : ℕ) (piece : Piece) (tokens : List Lexeme) → documentation piece ≢ [] → LinesGive (is_starred piece) (at + 3) (documentation piece) tokens → PieceGives at piece tokens
note_gives at (space b) tokens some given = absurd (some refl)
note_gives at (token kind bytes) tokens some given = absurd (some refl)
note_gives at (line_comment body) tokens some given = given
note_gives at (block_comment body) tokens some given = given

pub piece_slice : (source : List ℕ) (at : ℕ) (piece : Piece) (text : List ℕ) (starred : Bool) → IsNote piece text starred → IsSlice source at (written piece) → IsSlice source (at + 3) text
piece_slice source at piece text starred note slice =
    subst (λ n. IsSlice source (at + n) text) note.three (slice_inside source at (written piece) note.opener text note.closer slice note.spelled)

-- what is added for a documentation comment
pub piece_lines : (at : ℕ) (piece : Piece) (text : List ℕ) (starred : Bool) (old new : Collector) (result : Result (Unit {0}) Stop) → IsNote piece text starred
    → AddsLines starred (at + 3) text old result new → AddsPiece at piece old result new
piece_lines at piece text starred old new (Ok _) note (tokens, given, added) =
    let end : at + 3 + length text ≤ at + length (written piece) =
    omega (arith, ap length note.spelled ∙ length-append note.opener (text ++ note.closer), length-append text note.closer, note.three) in (
      tokens,
      note_gives at piece tokens (λ none. some_line text (sym note.lines ∙ none))
          (subst (λ s. LinesGive s (at + 3) (documentation piece) tokens) (sym note.starred_is)
          (subst (λ ls. LinesGive starred (at + 3) ls tokens) (sym note.lines) given)),
      added_later old new tokens (at + 3 + length text) (at + length (written piece)) end added,
    )
piece_lines at piece text starred old new (Err (Fault flaw fault_at)) note fails =
    subst (λ s. LinesFail s (at + 3) (documentation piece) flaw fault_at) (sym note.starred_is)
    (subst (λ ls. LinesFail starred (at + 3) ls flaw fault_at) (sym note.lines) fails)
piece_lines at piece text starred old new (Err NoMemory) note fails = tt

-- for a token, and for another piece without documentation
pub piece_token : (at : ℕ) (shape : Shape) (kind : Tok) (bytes : Bor (List ℕ)) (to : ℕ) (old new : Collector) → shape ≡ TokenShape kind bytes
    → IsSlice old.source.now at (written (piece_of shape)) → to ≡ at + length bytes.now → IsReady old.source.now old at
    → ((list : List Lexeme) → Collects old.source.now list old → Collects old.source.now (list ++ lexeme kind (slice_range old.source.now at to) at ∷ []) new)
    → IsReady old.source.now new at → AddsPiece at (piece_of shape) old (Ok tt) new
piece_token at shape kind bytes to old new is slice end ready collects ready_new =
    let same = ap piece_of is in
    subst (λ p. AddsPiece at p old (Ok tt) new) (sym same) (
      lexeme kind bytes.now at ∷ [],
      refl,
      subst (λ n. Added old new (lexeme kind bytes.now at ∷ []) n) end
          (added_token old old new [] kind bytes.now at to (added_none old at ready) (subst (λ p. IsSlice old.source.now at (written p)) same slice) end collects ready_new),
    )

nothing_given : (at : ℕ) (shape : Shape) → ((kind : Tok) (bytes : Bor (List ℕ)) → shape ≡ TokenShape kind bytes → ⊥) → documentation (piece_of shape) ≡ []
    → PieceGives at (piece_of shape) []
nothing_given at (Space b) other none = refl
nothing_given at (LineComment body) other none = subst (λ ls. LinesGive false (at + 3) ls []) (sym none) refl
nothing_given at (BlockComment body) other none = subst (λ ls. LinesGive true (at + 3) ls []) (sym none) refl
nothing_given at (TokenShape kind bytes) other none = absurd (other kind bytes refl)

pub piece_plain : (at : ℕ) (shape : Shape) (old : Collector) → ((kind : Tok) (bytes : Bor (List ℕ)) → shape ≡ TokenShape kind bytes → ⊥)
    → documentation (piece_of shape) ≡ [] → IsReady old.source.now old at → AddsPiece at (piece_of shape) old (Ok tt) old
piece_plain at shape old other none ready =
    ([], nothing_given at shape other none, added_later old old [] at (at + length (written (piece_of shape))) (omega arith) (added_none old at ready))

-- ---- a whole text

pub text_start : (text : List ℕ) (old : Collector) → IsReady old.source.now old 0 → AddsTextSoFar text text old old
text_start text old ready = record { pieces = []; split = splits_start text; tokens = []; given = refl; added = added_none old 0 ready }

pub text_here : (text rest : List ℕ) (old new : Collector) (s : AddsTextSoFar text rest old new) → length text - length rest ≡ length (all_written s.pieces)
text_here text rest old new s = omega (arith, place_of_rest text rest s.pieces s.split)

pub text_slice : (text rest after : List ℕ) (old new : Collector) (p : Piece) → AddsTextSoFar text rest old new → Starts rest p after
    → IsSlice text (length text - length rest) (written p)
text_slice text rest after old new p s starts = record {
  before = all_written s.pieces;
  after = after;
  spelled = s.split.spelled ∙ ap (λ l. all_written s.pieces ++ l) starts.spelled;
  place = text_here text rest old new s;
}

-- behind a piece
pub text_more : (text rest after : List ℕ) (old mid new : Collector) (p : Piece) (here : ℕ) (tokens : List Lexeme) (s : AddsTextSoFar text rest old mid) → Starts rest p after
    → here ≡ length text - length rest → PieceGives here p tokens → Added mid new tokens (here + length (written p)) → AddsTextSoFar text after old new
text_more text rest after old mid new p here tokens s starts here_is given added =
    let place : here ≡ length (all_written s.pieces) = here_is ∙ text_here text rest old mid s in
    let from : here ≡ 0 + length (all_written s.pieces) = omega arith in
    let end : here + length (written p) ≡ length (all_written (s.pieces ++ p ∷ [])) = omega (arith, length_push s.pieces p) in record {
      pieces = s.pieces ++ p ∷ [];
      split = splits_push text rest after s.pieces p s.split starts;
      tokens = s.tokens ++ tokens;
      given = gives_push 0 s.pieces p s.tokens tokens s.given (subst (λ n. PieceGives n p tokens) from given);
      added = subst (λ n. Added old new (s.tokens ++ tokens) n) end
          (added_both old mid new s.tokens tokens here (here + length (written p)) (subst (λ n. Added old mid s.tokens n) (sym place) s.added) added);
    }

-- a text in which no piece stands next, and one with a comment that has a fault
pub text_stuck : (text rest : List ℕ) (old new : Collector) (flaw : Flaw) (behind : ℕ) → AddsTextSoFar text rest old new → IsStuck rest flaw behind
    → FirstFault text flaw (length text - length rest + behind)
text_stuck text rest old new flaw behind s is = record {
  pieces = s.pieces;
  rest = rest;
  tokens = s.tokens;
  split = s.split;
  given = s.given;
  fails = stuck behind is (ap (λ n. n + behind) (text_here text rest old new s));
}

pub text_stops : (text rest after : List ℕ) (old mid last new : Collector) (p : Piece) (here : ℕ) (stop : Stop) (s : AddsTextSoFar text rest old mid) → Starts rest p after
    → here ≡ length text - length rest → AddsPiece here p mid (Err stop) last → AddsText text old (Err stop) new
text_stops text rest after old mid last new p here (Fault flaw fault_at) s starts here_is fails = record {
  pieces = s.pieces;
  rest = rest;
  tokens = s.tokens;
  split = s.split;
  given = s.given;
  fails = in_comment p after starts (subst (λ n. LinesFail (is_starred p) (n + 3) (documentation p) flaw fault_at) (here_is ∙ text_here text rest old mid s) fails);
}
text_stops text rest after old mid last new p here NoMemory s starts here_is fails = tt

pub text_end : (text rest : List ℕ) (old new : Collector) → AddsTextSoFar text rest old new → rest ≡ [] → AddsText text old (Ok tt) new
text_end text rest old new s none =
    let end : length (all_written s.pieces) ≡ length text = omega (arith, place_of_rest text rest s.pieces s.split, ap length none) in (
      s.tokens,
      record { pieces = s.pieces; split = subst (λ r. Splits text s.pieces r) none s.split; given = s.given },
      subst (λ n. Added old new s.tokens n) end s.added,
    )

-- all tokens of the text are collected
pub whole : (text : List ℕ) (old new : Collector) → old.source.now ≡ text → length text ≤ limit → Collects text [] old → AddsText text old (Ok tt) new → IsWhole new
whole text old new source short nothing (list, tokens, added) =
    let same : new.source.now ≡ text = added.ready.source_is ∙ source in record {
      list = list;
      tokens = subst (λ s. Tokens s list) (sym same) tokens;
      collects = subst (λ s. Collects s list new) (sym added.ready.source_is) (added.collects [] (subst (λ s. Collects s [] old) (sym source) nothing));
      short = subst (λ s. length s ≤ limit) (sym same) short;
    }
