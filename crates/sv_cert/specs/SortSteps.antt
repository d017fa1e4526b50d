-- Serves the proof: what a byte does to a sort that is being read.
use Rattle.std.specs.Prelude.{ℕ, List, [], ◌∷◌, map, reverse, ◌≡◌, Result, Ok, Err}
use Rattle.sv_cert.specs.PlainNodes.{plain_sort}
use Rattle.sv_cert.specs.LogReading as r
use Rattle.sv_cert.specs.declared.read.brackets.Bracket.{Bracket}
use Rattle.sv_cert.specs.declared.read.brackets.Bracket.TheVariants as b
use Rattle.sv_cert.specs.declared.read.brackets.Reading.{Reading}
use Rattle.sv_cert.specs.declared.read.brackets.Reading.TheVariants as c
use Rattle.sv_cert.specs.declared.read.stop.Stop.{Stop}
use Rattle.sv_cert.specs.declared.read.stop.Stop.TheVariants.{NoEntry, NoMemory}

abbrev pub plain_bracket : Bracket → r.Open
plain_bracket b.Array = r.InArray
plain_bracket (b.Tuple ss) = r.InTuple (map plain_sort ss)

-- the innermost bracket is the last of the code's, and the first here
unfoldable pub plain_brackets : List Bracket → List r.Open
plain_brackets bs = reverse (map plain_bracket bs)

abbrev pub plain_reading : Reading → r.Reading
plain_reading c.Wanted = r.Wanted
plain_reading c.Begun = r.Begun
plain_reading (c.Digits signed ds) = r.Digits signed ds
plain_reading (c.Done s) = r.Done (plain_sort s)

-- after a byte: what is read next, or that no sort goes on so
abbrev pub Comes : r.SortState → Result Reading Stop → List Bracket → Type 0
Comes st (Ok next) bs = st ≡ r.at (plain_brackets bs) (plain_reading next)
Comes st (Err NoEntry) bs = st.reading ≡ r.Refused
Comes st (Err NoMemory) bs = Unit {0}
