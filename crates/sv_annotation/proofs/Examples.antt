-- Expressions of annotations and others, worked out by hand.
use Rattle.std.proofs.Common.{ℕ, ◌≡◌, Bool, true, false, None, List, [], ◌∷◌, refl}
use Rattle.std.specs.Prelude.{codes}
use Rattle.sv_plain.specs.declared.spot.Spot.{Spot}
use Rattle.sv_plain.specs.declared.operator.Operator.TheVariants as op
use Rattle.sv_plain.specs.PlainExprs.{Expr, Node, Kind, Chain, Applied, Number, Text, Name, Elementary, Address, Payable, OfType, This, Paren, Operand, Operated, Operands, NoOperand, MoreOperands, Suffix, Suffixed, Suffixes, NoSuffix, MoreSuffixes, Step, Index, Member, Call, Args, Given, Positional, Exprs, NoExpr, MoreExprs, TypeForm}
use Rattle.sv_annotation.specs.Openings.{calls_old}
use Rattle.sv_annotation.specs.AnnotationLanguage.{fits}

abbrev names : List (List ℕ)
names = codes "a" ∷ codes "msg" ∷ codes "sender" ∷ codes "block" ∷ codes "timestamp" ∷ codes "__verifier_old_uint" ∷ codes "balance" ∷ codes "max" ∷ []

abbrev name : Spot → ℕ → Expr
name at n = Node at (Name n)

abbrev zero_at : Spot → Expr
zero_at at = Node at (Number 0 None)

abbrev applied : Spot → Expr → Suffixes → Expr
applied at e ss = Node at (Applied e ss)

abbrev member : Spot → ℕ → Suffixes → Suffixes
member at n ss = MoreSuffixes (Suffixed at (Member n)) ss

abbrev call : Spot → Exprs → Suffixes → Suffixes
call at es ss = MoreSuffixes (Suffixed at (Call (Given at (Positional es)))) ss

abbrev one : Expr → Exprs
one e = MoreExprs e NoExpr

-- `a[0] + a`, and a string, which another rule speaks of
sum : (at : Spot) → fits names false (Node at (Chain (applied at (name at 0) (MoreSuffixes (Suffixed at (Index (zero_at at))) NoSuffix)) (MoreOperands (Operated op.Add (name at 0)) NoOperand))) ≡ true
sum at = refl

string : (at : Spot) → fits names false (Node at (Text 0)) ≡ true
string at = refl

-- `a()`, `a(a)`
call_of_a_name : (at : Spot) → fits names true (applied at (name at 0) (call at NoExpr NoSuffix)) ≡ false
call_of_a_name at = refl

call_with_an_argument : (at : Spot) → fits names true (applied at (name at 0) (call at (one (name at 0)) NoSuffix)) ≡ false
call_with_an_argument at = refl

-- `msg.sender` in an invariant of a contract and elsewhere, `(msg).sender`, `msg.balance`
sender_of_nobody : (at : Spot) → fits names false (applied at (name at 1) (member at 2 NoSuffix)) ≡ false
sender_of_nobody at = refl

sender : (at : Spot) → fits names true (applied at (name at 1) (member at 2 NoSuffix)) ≡ true
sender at = refl

sender_in_parentheses : (at : Spot) → fits names false (applied at (Node at (Paren (name at 1))) (member at 2 NoSuffix)) ≡ false
sender_in_parentheses at = refl

-- `block.timestamp`
timestamp : (at : Spot) → fits names true (applied at (name at 3) (member at 4 NoSuffix)) ≡ false
timestamp at = refl

-- `address(this).balance`, `address(0)`, `address(a, a)`, `address`
balance : (at : Spot) → fits names false (applied at (Node at Address) (call at (one (Node at This)) (member at 6 NoSuffix))) ≡ true
balance at = refl

no_one : (at : Spot) → fits names false (applied at (Node at Address) (call at (one (zero_at at)) NoSuffix)) ≡ true
no_one at = refl

address_of_two : (at : Spot) → fits names false (applied at (Node at Address) (call at (MoreExprs (name at 0) (one (name at 0))) NoSuffix)) ≡ false
address_of_two at = refl

bare_address : (at : Spot) → fits names false (Node at Address) ≡ false
bare_address at = refl

-- `payable(a)`, `payable(this)`, `this`
payable : (at : Spot) → fits names false (applied at (Node at Payable) (call at (one (name at 0)) NoSuffix)) ≡ true
payable at = refl

payable_this : (at : Spot) → fits names false (applied at (Node at Payable) (call at (one (Node at This)) NoSuffix)) ≡ false
payable_this at = refl

this : (at : Spot) → fits names false (Node at This) ≡ false
this at = refl

-- `uint8(a)`
conversion : (at : Spot) → fits names false (applied at (Node at (Elementary 0)) (call at (one (name at 0)) NoSuffix)) ≡ false
conversion at = refl

-- `type(T).max`, `type(T)`, `type(T).a`
greatest : (at : Spot) (t : TypeForm) → fits names false (applied at (Node at (OfType t)) (member at 7 NoSuffix)) ≡ true
greatest at t = refl

bare_type : (at : Spot) (t : TypeForm) → fits names false (Node at (OfType t)) ≡ false
bare_type at t = refl

other_member : (at : Spot) (t : TypeForm) → fits names false (applied at (Node at (OfType t)) (member at 0 NoSuffix)) ≡ false
other_member at t = refl

-- `__verifier_old_uint(a)`, `(__verifier_old_uint)(a)`, `__verifier_old_uint(a)(a)`, `a(a)`
old : (at : Spot) → fits names false (applied at (name at 5) (call at (one (name at 0)) NoSuffix)) ≡ true
old at = refl

old_is_called : (at : Spot) → calls_old names (Applied (name at 5) (call at (one (name at 0)) NoSuffix)) ≡ true
old_is_called at = refl

old_in_parentheses : (at : Spot) → calls_old names (Applied (Node at (Paren (name at 5))) (call at (one (name at 0)) NoSuffix)) ≡ true
old_in_parentheses at = refl

old_twice : (at : Spot) → fits names false (applied at (name at 5) (call at (one (name at 0)) (call at (one (name at 0)) NoSuffix))) ≡ false
old_twice at = refl

no_old : (at : Spot) → calls_old names (Applied (name at 0) (call at (one (name at 0)) NoSuffix)) ≡ false
no_old at = refl
