-- Texts of the kind that the rules speak of, worked out by hand.
use Rattle.std.proofs.Common.{ℕ, ◌≡◌, Bool, true, false, Some, None, [], ◌∷◌, refl}
use Rattle.std.specs.Prelude.{codes}
use Rattle.sv_text.specs.declared.span.Span.{Span}
use Rattle.sv_text.specs.declared.place.Place.{Place}
use Rattle.sv_ast.specs.declared.post.Unit10Kind.TheVariants as kind
use Rattle.sv_ast.specs.declared.expr.UnaryOp.TheVariants as op
use Rattle.sv_visit.specs.declared.judge.Role.TheVariants as role
use Rattle.sv_plain.specs.declared.spot.Spot.{Spot}
use Rattle.sv_plain.specs.PlainExprs.{Expr, Node, Kind, Prefix, Power, Applied, Number, Hexadecimal, Name, Paren, Suffix, Suffixed, Suffixes, NoSuffix, MoreSuffixes, Member, Increment, Decrement}
use Rattle.sv_form_rules.specs.declared.words.Word.TheVariants as word
use Rattle.sv_form_rules.specs.NodeRules.{is_wide, is_address_literal, assigns_inside, raises_others}
use Rattle.sv_form_rules.specs.HeadWords.{no_words, with_word, contradicts}

-- ---- numbers

-- `1e38 ether`
ether_is_wide : (s : Span) (p : Place) → is_wide (codes "1e38" ∷ []) (Number 0 (Some (record { kind = kind.Ether; span = s; place = p }))) ≡ true
ether_is_wide s p = refl

-- 2^128, and one less
least_wide : is_wide (codes "340282366920938463463374607431768211456" ∷ []) (Number 0 None) ≡ true
least_wide = refl

greatest_narrow : is_wide (codes "340282366920938463463374607431768211455" ∷ []) (Number 0 None) ≡ false
greatest_narrow = refl

address : is_address_literal (codes "0x52908400098527886E0F7030069857D2E4169EE7" ∷ []) (Hexadecimal 0) ≡ true
address = refl

address_is_not_wide : is_wide (codes "0x52908400098527886E0F7030069857D2E4169EE7" ∷ []) (Hexadecimal 0) ≡ false
address_is_not_wide = refl

-- 40 digits of a small number, and a short number
small_address : is_address_literal (codes "0x0000000000000000000000000000000000000001" ∷ []) (Hexadecimal 0) ≡ true
small_address = refl

short_number : is_address_literal (codes "0xdead" ∷ []) (Hexadecimal 0) ≡ false
short_number = refl

-- 33 digits
wide_hexadecimal : is_wide (codes "0x100000000000000000000000000000000" ∷ []) (Hexadecimal 0) ≡ true
wide_hexadecimal = refl

-- ---- `++` and `--`

abbrev a : Spot → Expr
a at = Node at (Name 0)

abbrev increased : Spot → Suffixes → Kind
increased at ss = Applied (a at) (MoreSuffixes (Suffixed at Increment) ss)

-- `b = a++`, `a++;`, `a++.b;`
operand : (at : Spot) → assigns_inside role.Inner (increased at NoSuffix) ≡ true
operand at = refl

statement : (at : Spot) → assigns_inside role.Statement (increased at NoSuffix) ≡ false
statement at = refl

inside_a_statement : (at : Spot) → assigns_inside role.Statement (increased at (MoreSuffixes (Suffixed at (Member 1)) NoSuffix)) ≡ true
inside_a_statement at = refl

-- `b = ++a`, `++a;`, `b = -a`
operand_behind : (at : Spot) → assigns_inside role.Inner (Prefix op.Increment (a at)) ≡ true
operand_behind at = refl

statement_behind : (at : Spot) → assigns_inside role.Statement (Prefix op.Increment (a at)) ≡ false
statement_behind at = refl

minus : (at : Spot) → assigns_inside role.Inner (Prefix op.Negate (a at)) ≡ false
minus at = refl

-- ---- powers

abbrev two : Spot → Expr
two at = Node at (Number 0 None)

-- `a ** 2`
power_of_a_name : (at : Spot) → raises_others (Power (a at) (two at)) ≡ true
power_of_a_name at = refl

-- `2 ** (3 ** 2)`, `2 ** 3 ** 2`, `2 ** (3)`
power_in_parentheses : (at : Spot) → raises_others (Power (two at) (Node at (Paren (Node at (Power (two at) (two at)))))) ≡ true
power_in_parentheses at = refl

chain_of_powers : (at : Spot) → raises_others (Power (two at) (Node at (Power (two at) (two at)))) ≡ false
chain_of_powers at = refl

literal_in_parentheses : (at : Spot) → raises_others (Power (two at) (Node at (Paren (two at)))) ≡ false
literal_in_parentheses at = refl

-- ---- words

-- `public private`, `public public`, `public view`, `internal payable`
two_visibilities : contradicts (with_word no_words word.Public) word.Private ≡ true
two_visibilities = refl

one_visibility_twice : contradicts (with_word no_words word.Public) word.Public ≡ true
one_visibility_twice = refl

public_view : contradicts (with_word no_words word.Public) word.View ≡ false
public_view = refl

internal_payable : contradicts (with_word no_words word.Internal) word.Payable ≡ false
internal_payable = refl
