-- Words and pragmas.
use Rattle.std.proofs.Common.{◌≡◌, ◌==◌, ℕ, ◌+◌, true, false, not, List, [], ◌∷◌, ◌++◌, length, take, drop, sym, ap, ◌∙◌, subst, append_assoc, length-append}
use Rattle.std.specs.List.{AllPass}
use Rattle.std.proofs.lemmas.Bool.{both_ways, or_left, not-true, not-false}
use Rattle.std.proofs.lemmas.List.{append-nil, nil_from_length}
use Rattle.std.proofs.lemmas.List.Elements.{All-tail}
use Rattle.std.proofs.lemmas.Slice.Eq.{bytes_eq-Decides}
use Rattle.std.specs.Str.{bytes_eq}
use Rattle.sv_lex.specs.Bytes.{is_digit, begins_word, continues_word, is_semicolon, DoesNotBegin, DoesBegin}
use Rattle.sv_lex.specs.Forms.{IsWord, IsPragma, pragma}
use Rattle.sv_lex.specs.Pieces.{token, Starts}
use Rattle.sv_lex.specs.Faults.{IsStuck, open_pragma}
use Rattle.sv_lex.specs.declared.fault.Flaw.TheVariants.{Unclosed}
use Rattle.sv_lex.specs.declared.tok.Tok.TheVariants.{Word}
use Rattle.sv_lex.proofs.LongestLemmas.{front_taken, rest_dropped}

-- the word characters with which the text begins are a word
pub word_is : (text word rest : List ℕ) → DoesBegin begins_word text → text ≡ word ++ rest → AllPass continues_word word → DoesNotBegin continues_word rest → IsWord word
word_is text [] rest begins e all stop = by rest (subst (DoesBegin begins_word) e begins) stop
  where
    by : (rest : List ℕ) → DoesBegin begins_word rest → DoesNotBegin continues_word rest → IsWord []
    by [] h k = absurd h
    by (b ∷ rest) h k = both_ways (continues_word b) k (or_left (begins_word b) (is_digit b) h)
word_is text (b ∷ word) rest begins e all stop = (subst (DoesBegin begins_word) e begins, All-tail (λ x. continues_word x ≡ true) b word all)

pub word_starts : (text word rest : List ℕ) → DoesBegin begins_word text → text ≡ word ++ rest → AllPass continues_word word → DoesNotBegin continues_word rest
    → not (bytes_eq word pragma) ≡ true → Starts text (token Word word) rest
word_starts text word rest begins e all stop other =
    record {
      spelled = e;
      fits = ((word_is text word rest begins e all stop, λ same. both_ways (bytes_eq word pragma) (not-true (bytes_eq word pragma) other) ((bytes_eq-Decides word pragma).1 same)), stop);
    }

is_pragma_word : (word : List ℕ) → not (bytes_eq word pragma) ≡ false → word ≡ pragma
is_pragma_word word h = (bytes_eq-Decides word pragma).0 (not-false (bytes_eq word pragma) h)

pub pragma_runs_out : (text word rest body after : List ℕ) → text ≡ word ++ rest → not (bytes_eq word pragma) ≡ false → DoesNotBegin continues_word rest
    → rest ≡ body ++ after → AllPass (λ b. not (is_semicolon b)) body → length after ≡ 0 → IsStuck text Unclosed 0
pragma_runs_out text word rest body after e same stop f unread none =
    let whole : rest ≡ body = f ∙ ap (λ (bs : List ℕ). body ++ bs) (nil_from_length after none) ∙ append-nil body in
    open_pragma rest (e ∙ ap (λ (bs : List ℕ). bs ++ rest) (is_pragma_word word same)) stop (subst (AllPass (λ b. not (is_semicolon b))) (sym whole) unread)

body_stops : (body after : List ℕ) → DoesNotBegin continues_word (body ++ after) → DoesNotBegin continues_word body
body_stops [] after h = tt
body_stops (b ∷ body) after h = h

semicolon_stops : (after : List ℕ) → (length after == 0) ≡ false → DoesNotBegin (λ b. not (is_semicolon b)) after → DoesBegin is_semicolon after
semicolon_stops [] some stop = cc
semicolon_stops (b ∷ after) some stop = not-false (is_semicolon b) stop

pub pragma_fits : (text word rest body after : List ℕ) → text ≡ word ++ rest → not (bytes_eq word pragma) ≡ false → DoesNotBegin continues_word rest
    → rest ≡ body ++ after → AllPass (λ b. not (is_semicolon b)) body → DoesNotBegin (λ b. not (is_semicolon b)) after → (length after == 0) ≡ false
    → IsPragma (take (length word + length body) text) × DoesBegin is_semicolon (drop (length word + length body) text)
pragma_fits text word rest body after e same stop f unread stops some =
    let n = length word + length body in
    let spelled : text ≡ (word ++ body) ++ after = e ∙ ap (λ (bs : List ℕ). word ++ bs) f ∙ sym (append_assoc word body after) in
    let long : length (word ++ body) ≡ n = length-append word body in
    let taken : take n text ≡ word ++ body = ap (λ (k : ℕ). take k text) (sym long) ∙ front_taken text (word ++ body) after spelled in
    let dropped : drop n text ≡ after = ap (λ (k : ℕ). drop k text) (sym long) ∙ rest_dropped text (word ++ body) after spelled in (
      record {
        body = body;
        spelled = taken ∙ ap (λ (bs : List ℕ). bs ++ body) (is_pragma_word word same);
        word_ends = body_stops body after (subst (DoesNotBegin continues_word) f stop);
        unread = unread;
      },
      subst (DoesBegin is_semicolon) (sym dropped) (semicolon_stops after some stops),
    )
