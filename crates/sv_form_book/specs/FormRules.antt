-- Believed: the first group of rules, 1 to 10, each as a test of a node and of what stands around it. Hold it against the table in docs/language.md, and against the sections of Solidity's documentation that stand beside each rule.
use Rattle.std.specs.Prelude.{ℕ, Bool, true, false, not, ◌&&◌, ◌||◌, nat_eq, nat_lt, Option, Some, None, List, [], ◌∷◌, length, codes, bytes_eq}
use Rattle.sv_ast.specs.declared.contract.ContractKind.{ContractKind}
use Rattle.sv_ast.specs.declared.contract.ContractKind.TheVariants as kind
use Rattle.sv_ast.specs.declared.contract.HeadKind.{HeadKind}
use Rattle.sv_ast.specs.declared.contract.HeadKind.TheVariants as head
use Rattle.sv_ast.specs.declared.contract.ModifierWord.{ModifierWord}
use Rattle.sv_ast.specs.declared.contract.ModifierWord.TheVariants as modifier_word
use Rattle.sv_ast.specs.declared.simple.SimpleKind.{SimpleKind}
use Rattle.sv_ast.specs.declared.simple.SimpleKind.TheVariants as simple
use Rattle.sv_ast.specs.declared.stmt.Block.{Block as BlockNode}
use Rattle.sv_ast.specs.declared.unit.UnitItem.{UnitItem}
use Rattle.sv_ast.specs.declared.unit.UnitItem.TheVariants as item
use Rattle.sv_plain.specs.PlainExprs.{Kind}
use Rattle.sv_plain.specs.PlainStmts.{Stmt, Stated, StmtForm, InBraces, Unchecked, Simply as SimplyForm, If, While, For}
use Rattle.sv_plain.specs.ExprFolds.{plain_expr}
use Rattle.sv_book.specs.Books.{Book, Table, Seen}
use Rattle.sv_rule.specs.declared.fault.Rule.{Rule}
use Rattle.sv_rule.specs.declared.fault.Rule.TheVariants as rule
use Rattle.sv_rule.specs.declared.fault.Fault.{Fault}
use Rattle.sv_rule.specs.RuleFaults.{first}
use Rattle.sv_visit.specs.Sites.{Site, Expression, Annotation, Simply, Stating, Bracing, OfText, OfWord, OfOver, OfFunction, OfSpecial, OfModifier, OfHead}
use Rattle.sv_form_rules.specs.declared.words.Word.{Word}
use Rattle.sv_form_rules.specs.declared.words.Word.TheVariants as word
use Rattle.sv_form_rules.specs.declared.words.Words.{Words}
use Rattle.sv_form_rules.specs.HeadWords.{contradicts}
use Rattle.sv_form_rules.specs.NameTexts.{text_of}
use Rattle.sv_form_rules.specs.NodeRules.{is_wide, is_address_literal, assigns_inside, raises_others}
use Rattle.sv_annotation.specs.Openings.{calls_old}
use Rattle.sv_annotation.specs.AnnotationLanguage.{fits}
use Rattle.sv_form_book.specs.declared.known.Owner.{Owner}
use Rattle.sv_form_book.specs.declared.known.Owner.TheVariants as owner
use Rattle.sv_form_book.specs.declared.known.Notes.{Notes}
use Rattle.sv_form_book.specs.declared.known.Notes.TheVariants as notes
use Rattle.sv_form_book.specs.declared.known.Inside.{Inside}
use Rattle.sv_form_book.specs.declared.known.Inside.TheVariants as inside
use Rattle.sv_form_book.specs.declared.known.Rests.{Rests}
use Rattle.sv_form_book.specs.declared.known.Rests.TheVariants as rests
use Rattle.sv_form_book.specs.FormBases.{has_base}
use Rattle.sv_form_book.specs.FormKnown.{Known, is_rest, head_word, var_word, within, past}
use Rattle.sv_form_book.specs.SitePlaces.{site_place}

-- ---- 1, NoContract: "Abstract Contracts", "Interfaces"

abbrev pub is_whole_kind : ContractKind → Bool
is_whole_kind (kind.Contract notes is_abstract name bases parts) = not is_abstract
is_whole_kind (kind.Interface name bases parts) = false

abbrev pub is_whole : UnitItem → Bool
is_whole (item.Contract c) = is_whole_kind c.kind
is_whole _ = false

-- some contract is neither abstract nor an interface
abbrev pub any_whole : List UnitItem → Bool
any_whole [] = false
any_whole (i ∷ is) = is_whole i || any_whole is

abbrev pub has_no_contract : Site → Bool
has_no_contract (OfText text) = not (any_whole text.items)
has_no_contract _ = false

-- ---- 2, WideLiteral: "Rational and Integer Literals"

abbrev pub has_wide_literal : Known → Site → Bool
has_wide_literal k (Expression role at e) = is_wide k.names e
has_wide_literal k _ = false

-- ---- 3, AddressLiteral: "Address Literals"

abbrev pub has_address_literal : Known → Site → Bool
has_address_literal k (Expression role at e) = is_address_literal k.names e
has_address_literal k _ = false

-- ---- 4, Unchecked: "Checked or Unchecked Arithmetic"

abbrev pub is_unchecked_form : StmtForm → Bool
is_unchecked_form (Unchecked b) = true
is_unchecked_form _ = false

abbrev pub is_unchecked_stmt : Stmt → Bool
is_unchecked_stmt (Stated at s) = is_unchecked_form s

abbrev pub is_unchecked : Site → Bool
is_unchecked (Stating s) = is_unchecked_stmt s
is_unchecked _ = false

-- ---- 5, Note: docs/language.md, "Annotations"

-- which annotations a place takes
abbrev pub takes : Notes → List ℕ → Bool
takes notes.Contract text = bytes_eq text (codes "invariant")
takes notes.Loop text = bytes_eq text (codes "invariant")
takes notes.Function text = bytes_eq text (codes "precondition") || bytes_eq text (codes "postcondition")
takes notes.Constructor text = false

-- an invariant of a contract has no message
abbrev pub has_sender : Notes → Bool
has_sender notes.Contract = false
has_sender _ = true

-- in an annotation that is no postcondition
abbrev pub is_another : Inside → Bool
is_another inside.Another = true
is_another _ = false

abbrev pub misnotes : Known → Site → Bool
misnotes k (Annotation n) = not (takes k.notes (text_of k.names n.word) && fits k.names (has_sender k.notes) (plain_expr n.expr))
misnotes k (Expression role at e) = is_another k.inside && calls_old k.names e
misnotes k _ = false

-- ---- 6, Placeholder: "Function Modifiers"

abbrev pub is_modifier : Owner → Bool
is_modifier owner.Modifier = true
is_modifier _ = false

abbrev pub is_one : Rests → Bool
is_one rests.One = true
is_one _ = false

abbrev pub misplaces : Known → Site → Bool
misplaces k (Simply s) = is_rest s.kind && not (is_modifier k.owner && nat_eq k.loops 0)
misplaces k (OfModifier m) = not (is_one k.rests)
misplaces k _ = false

-- ---- 7, Jump: "Control Structures"

abbrev pub is_jump : SimpleKind → Bool
is_jump simple.Break = true
is_jump simple.Continue = true
is_jump _ = false

abbrev pub jumps_outside : Known → Site → Bool
jumps_outside k (Simply s) = is_jump s.kind && nat_eq k.loops 0
jumps_outside k _ = false

-- ---- 8, Assign: "Compound and Increment/Decrement Operators"

abbrev pub has_step_inside : Site → Bool
has_step_inside (Expression role at e) = assigns_inside role e
has_step_inside _ = false

-- ---- 9, Head: "Functions", "Interfaces", "Special Functions", "Function Modifiers", "Constructors"

abbrev pub word_contradicts : Words → Option Word → Bool
word_contradicts ws None = false
word_contradicts ws (Some w) = contradicts ws w

abbrev pub is_constructor : Owner → Bool
is_constructor owner.Constructor = true
is_constructor _ = false

-- a list of bases is passed once by a chain without rings, so there are as many at most as there are items
abbrev pub is_base_of : List UnitItem → Option ℕ → ℕ → Bool
is_base_of items None n = false
is_base_of items (Some c) n = has_base (length items) items n c

-- a modifier on a constructor that is no base
abbrev pub is_no_base : List UnitItem → Option ℕ → Owner → HeadKind → Bool
is_no_base items contract o (head.Use n args) = is_constructor o && not (is_base_of items contract n)
is_no_base items contract o _ = false

abbrev pub has_body : Option BlockNode → Bool
has_body None = false
has_body (Some b) = true

abbrev pub is_virtual_word : ModifierWord → Bool
is_virtual_word modifier_word.Virtual = true
is_virtual_word (modifier_word.Over o) = false

-- `virtual` stands in a list of words, or twice in it
abbrev pub has_virtual : List ModifierWord → Bool
has_virtual [] = false
has_virtual (w ∷ ws) = is_virtual_word w || has_virtual ws

abbrev pub has_virtual_twice : List ModifierWord → Bool
has_virtual_twice [] = false
has_virtual_twice (w ∷ ws) = (is_virtual_word w && has_virtual ws) || has_virtual_twice ws

abbrev pub misheads : Known → Site → Bool
-- a word that stands twice or contradicts an earlier one
misheads k (OfHead h) = word_contradicts k.words (head_word h.kind) || is_no_base k.items k.contract k.owner h.kind
misheads k (OfWord w) = contradicts k.words (var_word w.kind)
misheads k (OfOver o) = contradicts k.words word.Override
misheads k (OfModifier m) = has_virtual_twice m.words
-- a body in an interface
misheads k (Bracing b) = k.in_interface && nat_eq k.blocks 1
-- no visibility, or in a contract neither a body nor `virtual`
misheads k (OfFunction f) = not k.words.visibility || (not (has_body f.body) && not (k.in_interface || k.words.is_virtual))
-- `receive` is external and payable, `fallback` external
misheads k (OfSpecial f) = not (k.words.external && (k.words.payable || not (bytes_eq (text_of k.names f.word) (codes "receive"))))
misheads k _ = false

-- ---- 10, Power: "Exponentiation"

abbrev pub has_power_of_others : Site → Bool
has_power_of_others (Expression role at e) = raises_others e
has_power_of_others _ = false

-- ---- the group

abbrev pub breaks : Rule → Seen Known Site → Bool
breaks rule.NoContract s = has_no_contract s.site
breaks rule.WideLiteral s = has_wide_literal s.known s.site
breaks rule.AddressLiteral s = has_address_literal s.known s.site
breaks rule.Unchecked s = is_unchecked s.site
breaks rule.Note s = misnotes s.known s.site
breaks rule.Placeholder s = misplaces s.known s.site
breaks rule.Jump s = jumps_outside s.known s.site
breaks rule.Assign s = has_step_inside s.site
breaks rule.Head s = misheads s.known s.site
breaks rule.Power s = has_power_of_others s.site
breaks _ s = false

abbrev pub forms_table : Table (Seen Known Site) Rule Fault
forms_table = record {
  rules = rule.NoContract ∷ rule.WideLiteral ∷ rule.AddressLiteral ∷ rule.Unchecked ∷ rule.Note ∷ rule.Placeholder ∷ rule.Jump ∷ rule.Assign ∷ rule.Head ∷ rule.Power ∷ [];
  breaks = breaks;
  fault = λ r s. record { rule = r; place = site_place s.site };
  first = first;
}

abbrev pub forms_book : Book Known Site Rule Fault
forms_book = record { within = within; past = past; table = forms_table }
