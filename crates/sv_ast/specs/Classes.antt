-- Believed: the class of a word, and that of a punctuation; which words are elementary types, and which are reserved. Hold it against Solidity's lists of types, keywords and reserved keywords.
use Rattle.std.specs.Prelude.{ℕ, Bool, List, [], ◌∷◌, ◌++◌, if◌then◌else◌, codes, map, nat_eq}
use Rattle.std.specs.List.{list_any}
use Rattle.std.specs.Cmp.Lexicographic.{pointwise}
use Rattle.sv_ast.specs.Terminals.{Spelling, words, marks}
use Rattle.sv_ast.specs.declared.class.Class.{Class}
use Rattle.sv_ast.specs.declared.class.Class.TheVariants as k

-- the texts are the same
abbrev pub is_same : List ℕ → List ℕ → Bool
is_same s t = pointwise nat_eq s t

-- the text is one of these
abbrev pub is_one_of : List (List ℕ) → List ℕ → Bool
is_one_of texts text = list_any (is_same text) texts

-- the class of the text by a table, and another class where the table does not have it
abbrev pub class_in : List Spelling → List ℕ → Class → Class
class_in [] text otherwise = otherwise
class_in (s ∷ ss) text otherwise = if is_same text s.spelled then s.class else class_in ss text otherwise

-- how many bits a sized integer has
unfoldable pub sizes : List (List ℕ)
sizes =
    codes "8" ∷ codes "16" ∷ codes "24" ∷ codes "32" ∷ codes "40" ∷ codes "48" ∷ codes "56" ∷ codes "64" ∷
    codes "72" ∷ codes "80" ∷ codes "88" ∷ codes "96" ∷ codes "104" ∷ codes "112" ∷ codes "120" ∷ codes "128" ∷
    codes "136" ∷ codes "144" ∷ codes "152" ∷ codes "160" ∷ codes "168" ∷ codes "176" ∷ codes "184" ∷ codes "192" ∷
    codes "200" ∷ codes "208" ∷ codes "216" ∷ codes "224" ∷ codes "232" ∷ codes "240" ∷ codes "248" ∷ codes "256" ∷ []

-- the elementary types
unfoldable pub elementary_names : List (List ℕ)
elementary_names =
    codes "bool" ∷ codes "uint" ∷ codes "int" ∷
    (map (λ size. codes "uint" ++ size) sizes ++ map (λ size. codes "int" ++ size) sizes)

-- words that no text may use
unfoldable pub reserved_words : List (List ℕ)
reserved_words =
    codes "after" ∷ codes "alias" ∷ codes "apply" ∷ codes "auto" ∷ codes "case" ∷ codes "copyof" ∷ codes "default" ∷
    codes "define" ∷ codes "final" ∷ codes "implements" ∷ codes "in" ∷ codes "inline" ∷ codes "let" ∷ codes "macro" ∷
    codes "match" ∷ codes "mutable" ∷ codes "null" ∷ codes "of" ∷ codes "partial" ∷ codes "promise" ∷
    codes "reference" ∷ codes "relocatable" ∷ codes "sealed" ∷ codes "sizeof" ∷ codes "static" ∷ codes "supports" ∷
    codes "switch" ∷ codes "typedef" ∷ codes "typeof" ∷ codes "var" ∷ []

-- a word of the grammar has its own class, and a word that is none of these is a name
unfoldable pub class_of_word : List ℕ → Class
class_of_word text =
    class_in words text (if is_one_of elementary_names text then k.Elementary else (if is_one_of reserved_words text then k.Other else k.Id))

-- punctuation of the grammar has its own class
unfoldable pub class_of_mark : List ℕ → Class
class_of_mark text = class_in marks text k.Other
