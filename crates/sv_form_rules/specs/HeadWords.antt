-- Believed: which words of a declaration contradict each other, or the same word again. Hold it against Solidity's documentation, "Function Visibility", "State Mutability", "Constant and Immutable State Variables", "Function Overriding".
use Rattle.std.specs.Prelude.{Bool, true, false, ◌||◌}
use Rattle.sv_form_rules.specs.declared.words.Word.{Word}
use Rattle.sv_form_rules.specs.declared.words.Word.TheVariants as word
use Rattle.sv_form_rules.specs.declared.words.Words.{Words}

abbrev pub is_visibility : Word → Bool
is_visibility word.Public = true
is_visibility word.Private = true
is_visibility word.Internal = true
is_visibility word.External = true
is_visibility _ = false

abbrev pub is_external : Word → Bool
is_external word.External = true
is_external _ = false

abbrev pub is_mutability : Word → Bool
is_mutability word.Pure = true
is_mutability word.View = true
is_mutability word.Payable = true
is_mutability _ = false

abbrev pub is_payable : Word → Bool
is_payable word.Payable = true
is_payable _ = false

abbrev pub virtual_word : Word → Bool
virtual_word word.Virtual = true
virtual_word _ = false

abbrev pub is_override : Word → Bool
is_override word.Override = true
is_override _ = false

abbrev pub is_constancy : Word → Bool
is_constancy word.Constant = true
is_constancy word.Immutable = true
is_constancy _ = false

-- no word stood yet
abbrev pub no_words : Words
no_words = record { visibility = false; external = false; mutability = false; payable = false; is_virtual = false; overriding = false; constancy = false }

-- the words that stood, and one more
abbrev pub with_word : Words → Word → Words
with_word ws w = record {
  visibility = ws.visibility || is_visibility w;
  external = ws.external || is_external w;
  mutability = ws.mutability || is_mutability w;
  payable = ws.payable || is_payable w;
  is_virtual = ws.is_virtual || virtual_word w;
  overriding = ws.overriding || is_override w;
  constancy = ws.constancy || is_constancy w;
}

-- whether a word may not stand behind those that stood: there is one visibility, one mutability, and so on
abbrev pub contradicts : Words → Word → Bool
contradicts ws word.Public = ws.visibility
contradicts ws word.Private = ws.visibility
contradicts ws word.Internal = ws.visibility
contradicts ws word.External = ws.visibility
contradicts ws word.Pure = ws.mutability
contradicts ws word.View = ws.mutability
contradicts ws word.Payable = ws.mutability
contradicts ws word.Virtual = ws.is_virtual
contradicts ws word.Override = ws.overriding
contradicts ws word.Constant = ws.constancy
contradicts ws word.Immutable = ws.constancy
