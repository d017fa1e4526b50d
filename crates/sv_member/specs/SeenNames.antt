-- Believed: what a contract sees by a name in the contracts of its line. Hold it against Solidity's documentation, "Visibility and Getters": a private declaration is seen in its own contract alone.
use Rattle.std.specs.Prelude.{ℕ, ◌+◌, Bool, true, false, nat_eq, not, cond, ◌&&◌, ◌||◌, Option, Some, None, List, [], ◌∷◌, ◌++◌, slice_get}
use Rattle.sv_decl.specs.declared.data.Declaration.{Declaration}
use Rattle.sv_decl.specs.declared.data.DeclarationKind.{DeclarationKind}
use Rattle.sv_decl.specs.declared.data.DeclarationKind.TheVariants as kind
use Rattle.sv_decl.specs.declared.data.DeclaredContract.{DeclaredContract}
use Rattle.sv_decl.specs.declared.data.Word.{Word}
use Rattle.sv_decl.specs.declared.data.Word.TheVariants as word
use Rattle.sv_member.specs.declared.seen.Hit.{Hit}

abbrev pub is_private_word : Word → Bool
is_private_word word.Private = true
is_private_word word.Public = false
is_private_word word.Internal = false
is_private_word word.External = false
is_private_word word.Pure = false
is_private_word word.View = false
is_private_word word.Payable = false
is_private_word word.Virtual = false
is_private_word word.Override = false
is_private_word word.Constant = false
is_private_word word.Immutable = false

abbrev pub has_private : List Word → Bool
has_private [] = false
has_private (w ∷ ws) = is_private_word w || has_private ws

-- structs, enums, events and errors have none
abbrev pub words_of : DeclarationKind → List Word
words_of (kind.Variable of_type words value) = words
words_of (kind.Callable s) = s.words
words_of (kind.Struct fields) = []
words_of (kind.Enum names) = []
words_of (kind.Event params) = []
words_of (kind.Error params) = []

abbrev pub is_private : Declaration → Bool
is_private d = has_private (words_of d.kind)

abbrev pub is_name : ℕ → Option ℕ → Bool
is_name name None = false
is_name name (Some n) = nat_eq n name

abbrev pub has_name : ℕ → Declaration → Bool
has_name name d = is_name name d.name

-- in a contract of its own, or in another
abbrev pub is_seen : Bool → ℕ → Declaration → Bool
is_seen own name d = has_name name d && (own || not (is_private d))

abbrev pub hit : ℕ → ℕ → Hit
hit c n = record { contract = c; at = n }

-- among the declarations of contract c, of which the first has this number
abbrev pub seen_from : Bool → ℕ → ℕ → ℕ → List Declaration → List Hit
seen_from own name c n [] = []
seen_from own name c n (d ∷ ds) = cond (is_seen own name d) (hit c n ∷ seen_from own name c (n + 1) ds) (seen_from own name c (n + 1) ds)

abbrev pub declared_in : Option DeclaredContract → List Declaration
declared_in None = []
declared_in (Some c) = c.declarations

abbrev pub declarations_of : List DeclaredContract → ℕ → List Declaration
declarations_of contracts c = declared_in (slice_get contracts c)

-- what contract c sees by the name, in the order of these contracts
abbrev pub seen_by : List DeclaredContract → ℕ → ℕ → List ℕ → List Hit
seen_by contracts c name [] = []
seen_by contracts c name (d ∷ ds) = seen_from (nat_eq d c) name d 0 (declarations_of contracts d) ++ seen_by contracts c name ds
