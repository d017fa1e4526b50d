-- Serves the proof: what the code has found in a text so far.
use Rattle.std.specs.Prelude.{◌≡◌, ℕ, ◌+◌, ◌^◌, ◌<◌, ◌≤◌, Bool, List, [], ◌∷◌, ◌++◌, Option, Some, None, Result, Ok, Err, All, length, map}
use Rattle.sv_lex.specs.Faults.{IsStuck, LineFails, LinesFail, FirstFault}
use Rattle.sv_lex.specs.Lexing.{place_at, shown, IsOf, limit, most_tokens}
use Rattle.sv_lex.specs.Pieces.{Piece, Fits, Splits, all_written, written}
use Rattle.sv_lex.specs.Tokens.{Lexeme, Tokens, Gives, LineGives, LinesGive, PieceGives, tokens_among, documentation, is_starred, lines_of}
use Rattle.sv_lex.specs.declared.fault.Flaw.{Flaw}
use Rattle.sv_lex.specs.declared.collector.Collector.{Collector}
use Rattle.sv_lex.specs.declared.spot.Spot.{Spot}
use Rattle.sv_lex.specs.declared.stop.Stop.{Stop}
use Rattle.sv_lex.specs.declared.stop.Stop.TheVariants.{Fault, NoMemory}
use Rattle.sv_text.specs.declared.place.Place.{Place}

-- the spot is an offset of the text with its place
pub record IsSpot (text : List ℕ) (spot : Spot) : Type 0 where
  pub within : spot.at ≤ length text
  pub place : spot.place ≡ place_at text spot.at

-- the collector has this text, which is short, and its spot is not behind the offset
pub record IsReady (source : List ℕ) (collector : Collector) (at : ℕ) : Type 0 where
  pub source_is : collector.source.now ≡ source
  pub short : length source < 2 ^ 31
  pub spot_is : IsSpot source collector.spot
  pub ahead : collector.spot.at ≤ at

-- what is kept of a list of tokens: all where they are few enough, else the first, and the place of the next
abbrev pub Keeps : List ℕ → List Lexeme → Collector → Option Place → Type 0
Keeps source list collector None = (map shown collector.tokens.items ≡ list) × All (IsOf source) collector.tokens.items × (length list ≤ most_tokens)
Keeps source list collector (Some place) =
    (before : List Lexeme) × (after : List Lexeme) × (t : Lexeme) × (list ≡ before ++ t ∷ after) × (length before ≡ most_tokens) × (place ≡ place_at source t.at)

pub record Collects (source : List ℕ) (list : List Lexeme) (collector : Collector) : Type 0 where
  pub keeps : Keeps source list collector collector.over

-- these tokens are added, whatever list was collected before, and the collector is ready to go on at the offset
pub record Added (old new : Collector) (tokens : List Lexeme) (at : ℕ) : Type 0 where
  pub collects : (list : List Lexeme) → Collects old.source.now list old → Collects old.source.now (list ++ tokens) new
  pub ready : IsReady old.source.now new at

-- the bytes are a slice of the text at the offset
pub record IsSlice (source : List ℕ) (at : ℕ) (bytes : List ℕ) : Type 0 where
  pub before : List ℕ
  pub after : List ℕ
  pub spelled : source ≡ before ++ (bytes ++ after)
  pub place : at ≡ length before

-- the piece stands in the text at the offset, before some text that may stand behind it
pub record StandsAt (source : List ℕ) (at : ℕ) (piece : Piece) : Type 0 where
  pub slice : IsSlice source at (written piece)
  pub formed : (rest : List ℕ) × Fits piece rest

-- what is added for the content of an annotation line, for a documentation line, for documentation, for a piece and for a text
-- that begin at the offset, or where the first fault is
pub record ContentFails (at : ℕ) (content : List ℕ) (flaw : Flaw) (fault_at : ℕ) : Type 0 where
  pub pieces : List Piece
  pub rest : List ℕ
  pub split : Splits content pieces rest
  pub behind : ℕ
  pub stuck : IsStuck rest flaw behind
  pub place : fault_at ≡ at + length (all_written pieces) + behind

abbrev pub AddsContent : ℕ → List ℕ → Collector → Result (Unit {0}) Stop → Collector → Type 0
AddsContent at content old (Ok _) new = (pieces : List Piece) × Splits content pieces [] × Added old new (tokens_among at pieces) (at + length content)
AddsContent at content old (Err (Fault flaw fault_at)) new = ContentFails at content flaw fault_at
AddsContent at content old (Err NoMemory) new = Unit {0}

abbrev pub AddsLine : Bool → ℕ → List ℕ → Collector → Result (Unit {0}) Stop → Collector → Type 0
AddsLine starred at line old (Ok _) new = (tokens : List Lexeme) × LineGives starred at line tokens × Added old new tokens (at + length line)
AddsLine starred at line old (Err (Fault flaw fault_at)) new = LineFails starred at line flaw fault_at
AddsLine starred at line old (Err NoMemory) new = Unit {0}

abbrev pub AddsLines : Bool → ℕ → List ℕ → Collector → Result (Unit {0}) Stop → Collector → Type 0
AddsLines starred at text old (Ok _) new = (tokens : List Lexeme) × LinesGive starred at (lines_of text) tokens × Added old new tokens (at + length text)
AddsLines starred at text old (Err (Fault flaw fault_at)) new = LinesFail starred at (lines_of text) flaw fault_at
AddsLines starred at text old (Err NoMemory) new = Unit {0}

abbrev pub AddsPiece : ℕ → Piece → Collector → Result (Unit {0}) Stop → Collector → Type 0
AddsPiece at piece old (Ok _) new = (tokens : List Lexeme) × PieceGives at piece tokens × Added old new tokens (at + length (written piece))
AddsPiece at piece old (Err (Fault flaw fault_at)) new = LinesFail (is_starred piece) (at + 3) (documentation piece) flaw fault_at
AddsPiece at piece old (Err NoMemory) new = Unit {0}

abbrev pub AddsText : List ℕ → Collector → Result (Unit {0}) Stop → Collector → Type 0
AddsText text old (Ok _) new = (list : List Lexeme) × Tokens text list × Added old new list (length text)
AddsText text old (Err (Fault flaw fault_at)) new = FirstFault text flaw fault_at
AddsText text old (Err NoMemory) new = Unit {0}

-- the collector has all tokens of its text
pub record IsWhole (collector : Collector) : Type 0 where
  pub list : List Lexeme
  pub tokens : Tokens collector.source.now list
  pub collects : Collects collector.source.now list collector
  pub short : length collector.source.now ≤ limit

-- ---- what the code has added so far

-- for pieces that begin at the offset, and what is left of their text
pub record AddsSoFar (at : ℕ) (text rest : List ℕ) (old new : Collector) : Type 0 where
  pub pieces : List Piece
  pub split : Splits text pieces rest
  pub added : Added old new (tokens_among at pieces) (at + length (all_written pieces))

-- for documentation lines; the tokens and faults of the lines that are left are those of all lines
pub record AddsUpTo (starred : Bool) (at : ℕ) (text rest : List ℕ) (old new : Collector) : Type 0 where
  pub front : List ℕ
  pub spelled : text ≡ front ++ rest
  pub tokens : List Lexeme
  pub added : Added old new tokens (at + length front)
  pub gives : (others : List Lexeme) → LinesGive starred (at + length front) (lines_of rest) others → LinesGive starred at (lines_of text) (tokens ++ others)
  pub fails : (flaw : Flaw) (fault_at : ℕ) → LinesFail starred (at + length front) (lines_of rest) flaw fault_at → LinesFail starred at (lines_of text) flaw fault_at

abbrev pub AddsLinesSoFar : Bool → ℕ → List ℕ → Collector → Collector → Option (List ℕ) → Type 0
AddsLinesSoFar starred at text old new (Some rest) = AddsUpTo starred at text rest old new
AddsLinesSoFar starred at text old new None = (tokens : List Lexeme) × LinesGive starred at (lines_of text) tokens × Added old new tokens (at + length text)

-- for a whole text
pub record AddsTextSoFar (text rest : List ℕ) (old new : Collector) : Type 0 where
  pub pieces : List Piece
  pub split : Splits text pieces rest
  pub tokens : List Lexeme
  pub given : Gives 0 pieces tokens
  pub added : Added old new tokens (length (all_written pieces))
