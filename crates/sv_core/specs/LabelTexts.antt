-- Believed: the texts of labels and of functions, and the order of labels. Hold it against the tables of `docs/labels.md`.
use Rattle.std.specs.Prelude.{◌≡◌, ◌<◌, ◌==◌, ◌++◌, if◌then◌else◌, ℕ, List, [], Option, Some, None, codes, length, slice_get}
use Rattle.std.specs.Fmt.{decimal}
use Rattle.std.specs.Ordering.{nat_cmp, ordering_then}
use Rattle.std.specs.declared.cmp.Ordering.{Ordering}
use Rattle.std.specs.declared.cmp.Ordering.TheVariants.{Less, Equal, Greater}
use Rattle.sv_text.specs.declared.place.Place.{Place}
use Rattle.sv_core.specs.declared.label.FuncId.{FuncId}
use Rattle.sv_core.specs.declared.label.FuncId.TheVariants.{Constructor, Function, Gift}
use Rattle.sv_core.specs.declared.label.Label.{Label}
use Rattle.sv_core.specs.declared.label.Site.{Site}
use Rattle.sv_core.specs.declared.label.Site.TheVariants.{At, End}
use Rattle.sv_core.specs.PlainCore.{Contract}
use Rattle.sv_core.specs.PlainCore as plain

-- the text of a name
abbrev pub text_of : List (List ℕ) → ℕ → List ℕ
text_of names n = text (slice_get names n)
  where
    text : Option (List ℕ) → List ℕ
    text (Some bytes) = bytes
    text None = []

-- the number of an annotation between two texts, and a name behind them
abbrev pub row_text : List ℕ → ℕ → List ℕ → List ℕ → List ℕ
row_text front number back name = front ++ decimal number ++ back ++ name

-- what is checked: the table of checks, row by row, for the number of an annotation and the name of a function
abbrev pub check_text : ℕ → ℕ → List ℕ → List ℕ
check_text kind number name =
    if kind == 1 then row_text (codes "precondition ") number (codes " of ") name
    else (if kind == 2 then row_text (codes "invariant ") number (codes " before function ") name
    else (if kind == 3 then row_text (codes "invariant ") number (codes " before call") []
    else (if kind == 4 then codes "assert"
    else (if kind == 5 then row_text (codes "loop invariant ") number (codes " on entry") []
    else (if kind == 6 then row_text (codes "loop invariant ") number (codes " after turn") []
    else (if kind == 7 then row_text (codes "invariant ") number [] []
    else row_text (codes "postcondition ") number [] []))))))

-- where it is checked
abbrev pub site_text : Site → List ℕ
site_text (At place) = codes " at " ++ decimal place.line ++ codes ":" ++ decimal place.col
site_text End = codes " at end"

abbrev pub text_of_label : List (List ℕ) → Label → List ℕ
text_of_label names l = check_text l.kind l.number (text_of names l.of) ++ site_text l.site

abbrev pub owner_text : List (List ℕ) → Option ℕ → List ℕ
owner_text names (Some owner) = text_of names owner ++ codes "."
owner_text names None = []

-- the name of a function of which another of its name is more derived begins with its contract
abbrev pub defined_by : List (List ℕ) → Contract → plain.Function → List ℕ
defined_by names c f = if f.top then [] else owner_text names (slice_get c.owners f.owner)

abbrev pub text_of_function : List (List ℕ) → Contract → Option plain.Function → List ℕ
text_of_function names c (Some f) = defined_by names c f ++ text_of names f.name
text_of_function names c None = []

-- the name on a function's line
abbrev pub text_of_func : List (List ℕ) → Contract → FuncId → List ℕ
text_of_func names c Constructor = text_of names c.name ++ codes ".constructor"
text_of_func names c (Function k) = text_of names c.name ++ codes "." ++ text_of_function names c (slice_get c.funcs k)
text_of_func names c Gift = text_of names c.name ++ codes ".(gift)"

-- the names that a function's line is written with are in the list
abbrev pub HasOwnerName : List (List ℕ) → Contract → plain.Function → Type 0
HasOwnerName names c f = (owner : ℕ) → slice_get c.owners f.owner ≡ Some owner → owner < length names

abbrev pub HasFunctionNames : List (List ℕ) → Contract → ℕ → Type 0
HasFunctionNames names c k = (f : plain.Function) → slice_get c.funcs k ≡ Some f → (f.name < length names) × HasOwnerName names c f

abbrev pub HasNames : List (List ℕ) → Contract → FuncId → Type 0
HasNames names c (Function k) = (c.name < length names) × HasFunctionNames names c k
HasNames names c _ = c.name < length names

-- labels stand in the order of their places, those at the end last
abbrev pub place_order : Place → Place → Ordering
place_order p q = ordering_then (nat_cmp p.line q.line) (nat_cmp p.col q.col)

abbrev pub site_order : Site → Site → Ordering
site_order (At p) (At q) = place_order p q
site_order (At p) End = Less
site_order End (At q) = Greater
site_order End End = Equal

-- then of their kinds, then of their numbers
abbrev pub label_order : Label → Label → Ordering
label_order a b = ordering_then (site_order a.site b.site) (ordering_then (nat_cmp a.kind b.kind) (nat_cmp a.number b.number))
