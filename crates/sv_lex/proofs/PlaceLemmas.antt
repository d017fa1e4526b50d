-- Places in a text, byte by byte.
use Rattle.std.proofs.Common.{◌≡◌, ℕ, ◌+◌, ◌-◌, ◌<◌, ◌≤◌, true, false, not, List, length, get_or, take, drop, arith, ap, ◌∙◌, length-take, length-drop}
use Rattle.std.specs.List.{suffix_len, slice_range}
use Rattle.std.proofs.lemmas.List.Sums.{count_by_more_no, count_by_more_yes, count_by-le-length, suffix_len-take_yes, suffix_len-take_no, suffix_len-le-length}
use Rattle.std.proofs.lemmas.List.{get_or-take, get_or-drop}
use Rattle.sv_text.specs.Place.{is_newline, line_of, column_of}

-- how many bytes stand behind the last newline
column_is : (text : List ℕ) (at : ℕ) → column_of text at ≡ suffix_len (λ b. not (is_newline b)) (take at text) + 1
column_is text at = let some = suffix_len-le-length (λ b. not (is_newline b)) (take at text) in omega (arith, length-drop (length (take at text) - suffix_len (λ b. not (is_newline b)) (take at text)) (take at text))

-- behind a newline a line begins
pub line_behind_newline : (text : List ℕ) (at : ℕ) → at < length text → is_newline (get_or text at 0) ≡ true → line_of text (at + 1) ≡ line_of text at + 1
line_behind_newline text at within newline = ap (λ n. n + 1) (count_by_more_yes is_newline text at 0 within newline)

pub column_behind_newline : (text : List ℕ) (at : ℕ) → at < length text → is_newline (get_or text at 0) ≡ true → column_of text (at + 1) ≡ 1
column_behind_newline text at within newline =
    column_is text (at + 1)
    ∙ ap (λ n. n + 1) (suffix_len-take_no (λ b. not (is_newline b)) text (at + 1) 0 (omega arith) (omega arith) (let back : at + 1 - 1 ≡ at = omega arith in rw back (ap not newline)))

-- behind another byte it goes on
pub line_goes_on : (text : List ℕ) (at : ℕ) → at < length text → is_newline (get_or text at 0) ≡ false → line_of text (at + 1) ≡ line_of text at
line_goes_on text at within other = ap (λ n. n + 1) (count_by_more_no is_newline text at 0 within other)

pub column_goes_on : (text : List ℕ) (at : ℕ) → at < length text → is_newline (get_or text at 0) ≡ false → column_of text (at + 1) ≡ column_of text at + 1
column_goes_on text at within other =
    let back : at + 1 - 1 ≡ at = omega arith in
    let more = rw back at (suffix_len-take_yes (λ b. not (is_newline b)) text (at + 1) 0 (omega arith) (omega arith) (rw back (ap not other))) in
    omega (arith, column_is text (at + 1), column_is text at, more)

-- a line and a column are at most one more than the offset
pub line_within : (text : List ℕ) (at : ℕ) → line_of text at ≤ at + 1
line_within text at = omega (arith, count_by-le-length is_newline (take at text), length-take at text)

pub column_within : (text : List ℕ) (at : ℕ) → column_of text at ≤ at + 1
column_within text at =
    let some = suffix_len-le-length (λ b. not (is_newline b)) (take at text) in omega (arith, column_is text at, some, length-take at text)

-- a byte of a range is a byte of the text
pub byte_of_range : (text : List ℕ) (from to i : ℕ) → i < to - from → get_or (slice_range text from to) i 0 ≡ get_or text (from + i) 0
byte_of_range text from to i within = get_or-take (to - from) (drop from text) i 0 within ∙ get_or-drop from text i 0
