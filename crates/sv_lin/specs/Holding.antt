-- Serves the proof: what a step leaves, of the rows as the code holds them.
use Rattle.std.specs.Prelude.{ℕ, List, [], ◌∷◌, Option, MatchOption}
use Rattle.sv_log.specs.LogEntries.{Row}
use Rattle.sv_cert.specs.declared.log.Row.{Row as CodeRow}
use Rattle.sv_lin.specs.Eliminations.{AreExceedingRows, AreDivided}
use Rattle.sv_lin.specs.Completeness.{AreCompleteAt, AreComplete}
use Rattle.sv_lin.specs.declared.made.Made.{Made}
use Rattle.sv_lin.specs.declared.made.Outcome.{Outcome}
use Rattle.sv_lin.specs.declared.work.Work.{Work}
use Rattle.sv_lin.specs.UnderWay.{given, force, entries_of, IsUnderWay, Ends, Enters, GrowsBelow, GrowsUnder, ArePairs, AreAllPairs, CombinesPairs, CombinesAll, IsQuotient, IsSum}
use Rattle.sv_lin.specs.Quotients.{HasNoQuotient, AddsDivided, IsRowDivided}

abbrev pub held : List CodeRow → Work → List Row
held rows work = force rows work.made.items

abbrev pub IsOn : List CodeRow → ℕ → Work → Type 0
IsOn rows limit work = IsUnderWay (given rows) limit (entries_of work.made.items)

-- and each row in force was divided
abbrev pub IsOnDivided : List CodeRow → ℕ → Work → Type 0
IsOnDivided rows limit work = IsOn rows limit work × AreDivided (held rows work)

-- the step leaves the rows in force as Goal says, or elimination ends
abbrev pub Step : List CodeRow → ℕ → Work → Work → (List Row → List Row → Type 0) → Outcome → Type 0
Step rows limit old new Goal o = Ends (given rows) limit (entries_of new.made.items) (Goal (held rows old) (held rows new)) o

abbrev pub ArePairsOf : List CodeRow → Work → ℕ → List ℕ → Type 0
ArePairsOf rows work p qs = (x : ℕ) × ArePairs (held rows work) x p qs

abbrev pub AreAllPairsOf : List CodeRow → Work → List ℕ → List ℕ → Type 0
AreAllPairsOf rows work ps qs = (x : ℕ) × AreAllPairs (held rows work) x ps qs

abbrev pub EntersRow : Row → List Row → List Row → Type 0
EntersRow t before after = Enters before t after

-- row p is divided
abbrev pub DividesRow : ℕ → List Row → List Row → Type 0
DividesRow p before after = GrowsUnder p before after × AddsDivided before after × IsRowDivided p before after

abbrev pub DividesAll : List Row → List Row → Type 0
DividesAll before after = AreDivided after

abbrev pub CompletesColumn : ℕ → List Row → List Row → Type 0
CompletesColumn x before after = (GrowsBelow x before after × AreCompleteAt after x) × AreDivided after

abbrev pub CompletesAll : List Row → List Row → Type 0
CompletesAll before after = AreComplete after × AreDivided after

-- the row's quotient, or that it has none
abbrev pub IsQuotientOf : List Row → ℕ → Option Made → Type 0
IsQuotientOf rows p o = MatchOption o (HasNoQuotient rows p) (λ m. IsQuotient rows p m)

-- what the two rows make, or that it is too large
abbrev pub IsCombination : List Row → ℕ → ℕ → Option Made → Type 0
IsCombination rows p q o = MatchOption o (AreExceedingRows rows p q) (λ m. IsSum rows p q m)

abbrev pub CombinesPair : ℕ → ℕ → List Row → List Row → Type 0
CombinesPair p q before after = CombinesPairs p (q ∷ []) before after × AreDivided after

abbrev pub CombinesRow : ℕ → List ℕ → List Row → List Row → Type 0
CombinesRow p qs before after = CombinesPairs p qs before after × AreDivided after

abbrev pub Crosses : List ℕ → List ℕ → List Row → List Row → Type 0
Crosses ps qs before after = CombinesAll ps qs before after × AreDivided after
