-- Believed: which of the words of a declaration the rules along lines ask for. Hold it against `src/data.rt` of `sv_decl`.
use Rattle.std.specs.Prelude.{Bool, true, false, List, []}
use Rattle.std.specs.List.{list_any}
use Rattle.sv_decl.specs.declared.data.Declaration.{Declaration}
use Rattle.sv_decl.specs.declared.data.DeclarationKind.{DeclarationKind}
use Rattle.sv_decl.specs.declared.data.DeclarationKind.TheVariants as kind
use Rattle.sv_decl.specs.declared.data.Word.{Word}
use Rattle.sv_decl.specs.declared.data.Word.TheVariants as word

-- structs, enums, events and errors have none
abbrev pub words_of : DeclarationKind → List Word
words_of (kind.Callable s) = s.words
words_of (kind.Variable of_type words value) = words
words_of _ = []

abbrev pub is_virtual_word : Word → Bool
is_virtual_word word.Virtual = true
is_virtual_word _ = false

abbrev pub is_override_word : Word → Bool
is_override_word word.Override = true
is_override_word _ = false

abbrev pub is_external_word : Word → Bool
is_external_word word.External = true
is_external_word _ = false

abbrev pub is_public_word : Word → Bool
is_public_word word.Public = true
is_public_word _ = false

abbrev pub is_virtual : Declaration → Bool
is_virtual f = list_any is_virtual_word (words_of f.kind)

abbrev pub is_override : Declaration → Bool
is_override f = list_any is_override_word (words_of f.kind)

abbrev pub is_external : Declaration → Bool
is_external f = list_any is_external_word (words_of f.kind)

abbrev pub is_public : Declaration → Bool
is_public f = list_any is_public_word (words_of f.kind)
