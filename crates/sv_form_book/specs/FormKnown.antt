-- Believed: what the first group of rules knows at a node of what stands around it. Hold it against docs/grammar.md: which node each of these begins and ends with.
use Rattle.std.specs.Prelude.{ℕ, Bool, true, false, cond, ◌+◌, ◌-◌, ◌^◌, nat_lt, Option, Some, None, List, codes, bytes_eq}
use Rattle.sv_ast.specs.declared.contract.ContractKind.{ContractKind}
use Rattle.sv_ast.specs.declared.contract.ContractKind.TheVariants as kind
use Rattle.sv_ast.specs.declared.contract.HeadKind.{HeadKind}
use Rattle.sv_ast.specs.declared.contract.HeadKind.TheVariants as head
use Rattle.sv_ast.specs.declared.contract.VarWordKind.{VarWordKind}
use Rattle.sv_ast.specs.declared.contract.VarWordKind.TheVariants as var
use Rattle.sv_ast.specs.declared.simple.SimpleKind.{SimpleKind}
use Rattle.sv_ast.specs.declared.simple.SimpleKind.TheVariants as simple
use Rattle.sv_ast.specs.declared.unit.UnitItem.{UnitItem}
use Rattle.sv_plain.specs.PlainStmts.{Stmt, Stated, StmtForm, InBraces, Unchecked, Simply as SimplyForm, If, While, For}
use Rattle.sv_visit.specs.Sites.{Site, Annotation, Simply, Stating, Bracing, OfContract, OfVariable, OfWord, OfOver, OfFunction, OfConstructor, OfSpecial, OfModifier, OfHead}
use Rattle.sv_form_rules.specs.declared.words.Word.{Word}
use Rattle.sv_form_rules.specs.declared.words.Word.TheVariants as word
use Rattle.sv_form_rules.specs.declared.words.Words.{Words}
use Rattle.sv_form_rules.specs.HeadWords.{no_words, with_word}
use Rattle.sv_form_rules.specs.NameTexts.{text_of}
use Rattle.sv_form_book.specs.declared.known.Owner.{Owner}
use Rattle.sv_form_book.specs.declared.known.Owner.TheVariants as owner
use Rattle.sv_form_book.specs.declared.known.Notes.{Notes}
use Rattle.sv_form_book.specs.declared.known.Notes.TheVariants as notes
use Rattle.sv_form_book.specs.declared.known.Inside.{Inside}
use Rattle.sv_form_book.specs.declared.known.Inside.TheVariants as inside
use Rattle.sv_form_book.specs.declared.known.Rests.{Rests}
use Rattle.sv_form_book.specs.declared.known.Rests.TheVariants as rests
use Rattle.sv_form_book.specs.FormBases.{name_of}

pub record Known : Type 0 where
  -- the texts of names, and what stands in the text
  pub names : List (List ℕ)
  pub items : List UnitItem
  -- the contract that was entered last
  pub contract : Option ℕ
  pub in_interface : Bool
  -- what was entered last of functions, constructors and modifiers
  pub owner : Owner
  -- what was entered last of all that takes annotations
  pub notes : Notes
  -- whether an annotation is around
  pub inside : Inside
  -- how many loops and how many blocks are around
  pub loops : ℕ
  pub blocks : ℕ
  -- how many `_` stood in the modifier
  pub rests : Rests
  -- the words of the declaration so far
  pub words : Words

-- ---- contracts

abbrev pub is_interface : ContractKind → Bool
is_interface (kind.Contract notes is_abstract name bases parts) = false
is_interface (kind.Interface name bases parts) = true

abbrev pub contract_in : Option ℕ → Site → Option ℕ
contract_in c (OfContract k) = Some (name_of k.kind)
contract_in c _ = c

abbrev pub interface_in : Bool → Site → Bool
interface_in b (OfContract k) = is_interface k.kind
interface_in b _ = b

-- ---- functions and modifiers

abbrev pub owner_in : Owner → Site → Owner
owner_in o (OfFunction f) = owner.Function
owner_in o (OfSpecial f) = owner.Function
owner_in o (OfConstructor f) = owner.Constructor
owner_in o (OfModifier m) = owner.Modifier
owner_in o _ = o

-- ---- loops and blocks: a tree is in memory, so fewer than 2^64 of its nodes nest

abbrev pub more : ℕ → ℕ
more n = cond (nat_lt n (2 ^ 64 - 1)) (n + 1) n

abbrev pub is_loop_form : StmtForm → Bool
is_loop_form (While ns k e b) = true
is_loop_form (For ns k i e a b) = true
is_loop_form _ = false

abbrev pub is_loop : Stmt → Bool
is_loop (Stated at k) = is_loop_form k

abbrev pub loops_in : ℕ → Site → ℕ
loops_in n (Stating s) = cond (is_loop s) (more n) n
loops_in n _ = n

abbrev pub loops_past : ℕ → Site → ℕ
loops_past n (Stating s) = cond (is_loop s) (n - 1) n
loops_past n _ = n

abbrev pub blocks_in : ℕ → Site → ℕ
blocks_in n (Bracing b) = more n
blocks_in n _ = n

abbrev pub blocks_past : ℕ → Site → ℕ
blocks_past n (Bracing b) = n - 1
blocks_past n _ = n

-- ---- annotations

abbrev pub notes_in : Notes → Site → Notes
notes_in o (OfContract k) = notes.Contract
notes_in o (OfFunction f) = notes.Function
notes_in o (OfSpecial f) = notes.Function
notes_in o (OfConstructor f) = notes.Constructor
notes_in o (Stating s) = cond (is_loop s) notes.Loop o
notes_in o _ = o

abbrev pub note_inside : List ℕ → Inside
note_inside text = cond (bytes_eq text (codes "postcondition")) inside.Postcondition inside.Another

abbrev pub inside_in : List (List ℕ) → Inside → Site → Inside
inside_in names i (Annotation n) = note_inside (text_of names n.word)
inside_in names i _ = i

abbrev pub inside_past : Inside → Site → Inside
inside_past i (Annotation n) = inside.Code
inside_past i _ = i

-- ---- placeholders

abbrev pub is_rest : SimpleKind → Bool
is_rest simple.Rest = true
is_rest _ = false

abbrev pub one_more : Rests → Rests
one_more rests.None = rests.One
one_more rests.One = rests.Several
one_more rests.Several = rests.Several

abbrev pub rests_in : Rests → Site → Rests
rests_in r (OfModifier m) = rests.None
rests_in r _ = r

abbrev pub rests_past : Rests → Site → Rests
rests_past r (Simply s) = cond (is_rest s.kind) (one_more r) r
rests_past r _ = r

-- ---- words

-- `override` is a node of its own, and a modifier that is used is no word
abbrev pub head_word : HeadKind → Option Word
head_word head.Public = Some word.Public
head_word head.Private = Some word.Private
head_word head.Internal = Some word.Internal
head_word head.External = Some word.External
head_word head.Pure = Some word.Pure
head_word head.View = Some word.View
head_word head.Payable = Some word.Payable
head_word head.Virtual = Some word.Virtual
head_word (head.Over o) = None
head_word (head.Use n args) = None

abbrev pub var_word : VarWordKind → Word
var_word var.Public = word.Public
var_word var.Private = word.Private
var_word var.Internal = word.Internal
var_word var.Constant = word.Constant
var_word var.Immutable = word.Immutable

abbrev pub with_optional : Words → Option Word → Words
with_optional ws None = ws
with_optional ws (Some w) = with_word ws w

abbrev pub words_in : Words → Site → Words
words_in ws (OfVariable v) = no_words
words_in ws (OfFunction f) = no_words
words_in ws (OfConstructor f) = no_words
words_in ws (OfSpecial f) = no_words
words_in ws (OfModifier m) = no_words
words_in ws _ = ws

abbrev pub words_past : Words → Site → Words
words_past ws (OfHead h) = with_optional ws (head_word h.kind)
words_past ws (OfWord w) = with_word ws (var_word w.kind)
words_past ws (OfOver o) = with_word ws word.Override
words_past ws _ = ws

-- ---- what the first part of a node knows, and what is known behind the node

abbrev pub within : Known → Site → Known
within k s = record {
  names = k.names;
  items = k.items;
  contract = contract_in k.contract s;
  in_interface = interface_in k.in_interface s;
  owner = owner_in k.owner s;
  notes = notes_in k.notes s;
  inside = inside_in k.names k.inside s;
  loops = loops_in k.loops s;
  blocks = blocks_in k.blocks s;
  rests = rests_in k.rests s;
  words = words_in k.words s;
}

abbrev pub past : Known → Site → Known
past k s = record {
  names = k.names;
  items = k.items;
  contract = k.contract;
  in_interface = k.in_interface;
  owner = k.owner;
  notes = k.notes;
  inside = inside_past k.inside s;
  loops = loops_past k.loops s;
  blocks = blocks_past k.blocks s;
  rests = rests_past k.rests s;
  words = words_past k.words s;
}

-- what is known before a text
abbrev pub nothing_around : List (List ℕ) → List UnitItem → Known
nothing_around names items = record {
  names = names;
  items = items;
  contract = None;
  in_interface = false;
  owner = owner.Function;
  notes = notes.Contract;
  inside = inside.Code;
  loops = 0;
  blocks = 0;
  rests = rests.None;
  words = no_words;
}
