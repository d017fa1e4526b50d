-- Serves the proof: what the code reads of a text.
use Rattle.std.specs.Prelude.{◌≡◌, ℕ, false, ◌||◌, List, [], ◌∷◌, Result, Ok, Err}
use Rattle.sv_lex.specs.Bytes.{is_separator, begins_word, is_digit, is_quote}
use Rattle.sv_lex.specs.Faults.{IsStuck}
use Rattle.sv_lex.specs.Pieces.{Piece, space, line_comment, block_comment, token, Starts}
use Rattle.sv_lex.specs.declared.piece.Shape.{Shape}
use Rattle.sv_lex.specs.declared.piece.Shape.TheVariants.{Space, LineComment, BlockComment, Token as TokenShape}
use Rattle.sv_lex.specs.declared.piece.Cut.{Cut}
use Rattle.sv_lex.specs.declared.piece.Stuck.{Stuck}

-- the piece that a shape stands for
abbrev pub piece_of : Shape → Piece
piece_of (Space b) = space b
piece_of (LineComment body) = line_comment body.now
piece_of (BlockComment body) = block_comment body.now
piece_of (TokenShape kind bytes) = token kind bytes.now

-- the text begins with the piece that was cut off
abbrev pub StartsCut : List ℕ → Cut → Type 0
StartsCut text cut = Starts text (piece_of cut.shape) cut.rest.now

-- the piece that the text begins with, or why there is none
abbrev pub ReadsPiece : List ℕ → Result Cut Stuck → Type 0
ReadsPiece text (Ok cut) = StartsCut text cut
ReadsPiece text (Err stuck) = IsStuck text stuck.flaw stuck.behind

-- no separator, word, number or string begins here
abbrev pub BeginsNothing : List ℕ → Type 0
BeginsNothing [] = ⊥
BeginsNothing (b ∷ _) = (is_separator b || (begins_word b || (is_digit b || is_quote b))) ≡ false
