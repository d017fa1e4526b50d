-- Believed: the names that have a meaning of their own in annotations, and what each of them takes. Hold it against docs/language.md, "Annotations", and Solidity's documentation, "Block and Transaction Properties", "Members of Address Types", "Type Information".
use Rattle.std.specs.Prelude.{ℕ, Bool, true, false, cond, not, ◌&&◌, ◌||◌, List, codes, bytes_eq}
use Rattle.sv_plain.specs.PlainExprs.{Expr, Node, Kind, Choice, Chain, Prefix, Power, Applied, Number, Hexadecimal, Text, Truth, Name, Elementary, Address, Payable, OfType, New, Super, This, Paren, Suffix, Suffixed, Suffixes, NoSuffix, MoreSuffixes, Step, Call}
use Rattle.sv_form_rules.specs.NameTexts.{text_of}
use Rattle.sv_annotation.specs.declared.openings.Opening.{Opening}
use Rattle.sv_annotation.specs.declared.openings.Opening.TheVariants as opening

-- ---- names by their spelling

-- the value at the entry of the function
abbrev pub is_old : List ℕ → Bool
is_old text = bytes_eq text (codes "__verifier_old_uint") || (bytes_eq text (codes "__verifier_old_int") || (bytes_eq text (codes "__verifier_old_bool") || bytes_eq text (codes "__verifier_old_address")))

-- the sum over a mapping
abbrev pub is_sum : List ℕ → Bool
is_sum text = bytes_eq text (codes "__verifier_sum_uint") || bytes_eq text (codes "__verifier_sum_int")

abbrev pub is_function : List ℕ → Bool
is_function text = is_old text || is_sum text

-- what `type(T)` has
abbrev pub is_limit : List ℕ → Bool
is_limit text = bytes_eq text (codes "max") || bytes_eq text (codes "min")

-- what `msg` has
abbrev pub is_of_message : List ℕ → Bool
is_of_message text = bytes_eq text (codes "sender") || bytes_eq text (codes "value")

-- ---- what an expression is behind its parentheses

abbrev mutual
  pub bare : Expr → Kind
  bare (Node at k) = bare_kind k

  pub bare_kind : Kind → Kind
  bare_kind (Paren e) = bare e
  bare_kind k = k

-- ---- what stands before suffixes

-- `sender` says whether `msg.sender` and `msg.value` may be named
abbrev pub name_opening : Bool → List ℕ → Opening
name_opening sender text = cond (is_function text) opening.Function (cond (bytes_eq text (codes "block")) opening.Block (cond (not sender && bytes_eq text (codes "msg")) opening.Message opening.Operand))

abbrev pub opening_of : List (List ℕ) → Bool → Kind → Opening
opening_of names sender (Name n) = name_opening sender (text_of names n)
opening_of names sender Address = opening.Address
opening_of names sender Payable = opening.Payable
opening_of names sender (OfType t) = opening.OfType
opening_of names sender _ = opening.Operand

-- ---- calls of `old`

abbrev pub is_call : Suffix → Bool
is_call (Suffixed at (Call args)) = true
is_call _ = false

abbrev pub begins_with_call : Suffixes → Bool
begins_with_call NoSuffix = false
begins_with_call (MoreSuffixes s ss) = is_call s

abbrev pub names_old : List (List ℕ) → Kind → Bool
names_old names (Name n) = is_old (text_of names n)
names_old names _ = false

-- the call of an `old` function
abbrev pub calls_old : List (List ℕ) → Kind → Bool
calls_old names (Applied e ss) = names_old names (bare e) && begins_with_call ss
calls_old names _ = false
