-- Believed: where a byte of a text stands; lines and columns are counted from 1, columns in bytes. Hold it against docs/language.md on places.
use Rattle.std.specs.Prelude.{◌==◌, ◌+◌, Bool, List, count_by, length, take, ℕ}
use Rattle.std.specs.List.{after_last}

-- a line feed
abbrev pub is_newline : ℕ → Bool
is_newline b = b == 10

-- one more than the newlines before the byte at the offset
abbrev pub line_of : List ℕ → ℕ → ℕ
line_of text at = count_by is_newline (take at text) + 1

-- one more than the bytes after the last newline before that byte
abbrev pub column_of : List ℕ → ℕ → ℕ
column_of text at = length (after_last is_newline (take at text)) + 1
