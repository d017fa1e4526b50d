-- Believed: the error lines. Hold it against docs/report.md.
use Rattle.std.specs.Prelude.{ℕ, List, ◌++◌, codes}
use Rattle.std.specs.Fmt.{decimal}
use Rattle.sv_report.specs.declared.refusal.Refusal.{Refusal}
use Rattle.sv_report.specs.declared.refusal.Refusal.TheVariants.{Long, Char, Unclosed, Many, Out, Deep, Syntax, Unbuilt}
use Rattle.sv_text.specs.declared.place.Place.{Place}

abbrev pub kind_text : Refusal → List ℕ
kind_text Long = codes "Long"
kind_text (Char place) = codes "Char"
kind_text (Unclosed place) = codes "Unclosed"
kind_text (Many place) = codes "Many"
kind_text (Out place) = codes "Out"
kind_text (Deep place) = codes "Deep"
kind_text (Syntax place) = codes "Syntax"
kind_text Unbuilt = codes "Unbuilt"

-- the place of a text that is refused as a whole is its first byte
abbrev pub beginning : Place
beginning = record { line = 1; col = 1 }

abbrev pub place_of : Refusal → Place
place_of Long = beginning
place_of (Char place) = place
place_of (Unclosed place) = place
place_of (Many place) = place
place_of (Out place) = place
place_of (Deep place) = place
place_of (Syntax place) = place
place_of Unbuilt = beginning

-- the line: `error`, the place's line and column, and the kind
abbrev pub error_text : Refusal → List ℕ
error_text refusal =
    codes "error " ++ decimal (place_of refusal).line ++ codes ":" ++ decimal (place_of refusal).col ++ codes " " ++ kind_text refusal ++ codes "\n"
