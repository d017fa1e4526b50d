-- Believed: the table of the rules by which a fact follows from others, a case for each: its number, premises, conclusion and conditions. Hold it against the README's table of rules; that each is true is proved.
use Rattle.std.specs.Prelude.{ℕ, suc, ◌-◌, Bool, true, false, cond, not, ◌&&◌, nat_eq, nat_le, ◌≡◌, List, [], ◌∷◌}
use Rattle.sv_term.specs.Sorts.{Low, Bits, Sort, NumSort, same_sort, element, parts, sort_at, depth, height}
use Rattle.sv_term.specs.Terms.{Shape, Term, App, Terms, End, More, Lit, Add, Sub, Mul, Div, Mod, Wrap, Le, Eq, Not, And, Or, Ite, Sel, Sto, Const, Mix, Tup, Get, Sum, zero_lit, same_term, sort_of, term_at, is_plain}
use Rattle.sv_term.specs.Models.{Model, truth, is_claim}

-- a term of sort Bool with a sign
pub data Fact : Type 0 where
  Says : (sign : Bool) (t : Term) → Fact

abbrev pub IsTrueIn : Model → Fact → Type 0
IsTrueIn m (Says sign t) = truth m t ≡ sign

abbrev pub AreTrueIn : Model → List Fact → Type 0
AreTrueIn m [] = Unit {0}
AreTrueIn m (f ∷ fs) = IsTrueIn m f × AreTrueIn m fs

abbrev pub is_fact : Fact → Bool
is_fact (Says sign t) = is_claim t

abbrev pub are_facts : List Fact → Bool
are_facts [] = true
are_facts (f ∷ fs) = is_fact f && are_facts fs

-- ---- what the rows name

-- the bounds of a sort of numbers, as literals
abbrev pub least_lit : Sort → Term
least_lit (NumSort (Bits true n)) = Lit true (depth true n)
least_lit _ = zero_lit

abbrev pub greatest_lit : Sort → Term
greatest_lit (NumSort (Bits g n)) = Lit false (height g n)
greatest_lit _ = zero_lit

abbrev pub has_least : Sort → Bool
has_least (NumSort Low) = true
has_least (NumSort (Bits g n)) = true
has_least _ = false

abbrev pub has_greatest : Sort → Bool
has_greatest (NumSort (Bits g n)) = true
has_greatest _ = false

-- numbers from 0 on
abbrev pub is_low : Sort → Bool
is_low (NumSort Low) = true
is_low (NumSort (Bits false n)) = true
is_low _ = false

-- that v is in the range of a sort; nothing is asked where v has that very sort
abbrev pub range_facts : Sort → Term → List Fact
range_facts (NumSort Low) v = Says true (Le zero_lit v) ∷ []
range_facts (NumSort (Bits g n)) v = Says true (Le (least_lit (NumSort (Bits g n))) v) ∷ Says true (Le v (greatest_lit (NumSort (Bits g n)))) ∷ []
range_facts _ v = []

abbrev pub in_range : Sort → Term → List Fact
in_range s v = cond (same_sort s (sort_of v)) [] (range_facts s v)

-- the arguments that differ are equal
abbrev pub differing : Terms → Terms → List Fact
differing (More t ts) (More u us) = cond (same_term t u) (differing ts us) (Says true (Eq t u) ∷ differing ts us)
differing _ _ = []

abbrev pub size : Terms → ℕ
size End = 0
size (More t ts) = suc (size ts)

-- d times the quotient of a by the literal d
abbrev pub times : ℕ → Term → Term
times d a = Mul (Lit false d) (Div a (Lit false d))

-- ---- the rows

-- a rule with the terms that stand in it, one case for each row
pub data Instance : Type 0 where
  AndLeft : (p q : Term) → Instance
  AndRight : (p q : Term) → Instance
  NoOrLeft : (p q : Term) → Instance
  NoOrRight : (p q : Term) → Instance
  NotHolds : (p : Term) → Instance
  NotFails : (p : Term) → Instance
  OrElseRight : (p q : Term) → Instance
  OrElseLeft : (p q : Term) → Instance
  NoAndRight : (p q : Term) → Instance
  NoAndLeft : (p q : Term) → Instance
  IteThen : (c p q : Term) → Instance
  IteElse : (c p q : Term) → Instance
  NoIteThen : (c p q : Term) → Instance
  NoIteElse : (c p q : Term) → Instance
  EqRight : (sign : Bool) (p q : Term) → Instance
  EqLeft : (sign : Bool) (p q : Term) → Instance
  UnequalRight : (sign : Bool) (p q : Term) → Instance
  UnequalLeft : (sign : Bool) (p q : Term) → Instance
  Itself : (a : Term) → Instance
  Turned : (a b : Term) → Instance
  Through : (a b c : Term) → Instance
  Alike : (x : Shape) (ts us : Terms) → Instance
  Chosen : (c a b : Term) → Instance
  Passed : (c a b : Term) → Instance
  ReadBack : (a i v : Term) → Instance
  ReadEqual : (a i j v : Term) → Instance
  ReadOther : (a i j v : Term) → Instance
  ReadConst : (s : Sort) (v j : Term) → Instance
  ReadWithin : (n a b j : Term) → Instance
  ReadAbove : (n a b j : Term) → Instance
  PartIs : (k : ℕ) (s : Sort) (ts : Terms) → Instance
  ReadBelow : (n a b j : Term) → Instance
  AtLeast : (t : Term) → Instance
  AtMost : (t : Term) → Instance
  WrapsNot : (g : Bool) (n : ℕ) (a : Term) → Instance
  QuotientLow : (a : Term) (d : ℕ) → Instance
  QuotientHigh : (a : Term) (d : ℕ) → Instance
  QuotientHighNegative : (a : Term) (d : ℕ) → Instance
  QuotientLowNegative : (a : Term) (d : ℕ) → Instance
  RemainderIs : (a : Term) (d : ℕ) → Instance
  ProductOfHigh : (a b : Term) → Instance
  ProductOfLow : (a b : Term) → Instance
  ProductHighLow : (a b : Term) → Instance
  ProductLowHigh : (a b : Term) → Instance
  SumOfStore : (a i v : Term) → Instance
  SumOfNone : (s : Sort) → Instance
  SumAtLeast : (a : Term) → Instance
  SumOverOne : (a i : Term) → Instance
  SumOverTwo : (a i j : Term) → Instance
  Strict : (a b : Term) → Instance
  Between : (a b : Term) → Instance

abbrev pub number_of : Instance → ℕ
number_of (AndLeft p q) = 1
number_of (AndRight p q) = 2
number_of (NoOrLeft p q) = 3
number_of (NoOrRight p q) = 4
number_of (NotHolds p) = 5
number_of (NotFails p) = 6
number_of (OrElseRight p q) = 7
number_of (OrElseLeft p q) = 8
number_of (NoAndRight p q) = 9
number_of (NoAndLeft p q) = 10
number_of (IteThen c p q) = 11
number_of (IteElse c p q) = 12
number_of (NoIteThen c p q) = 13
number_of (NoIteElse c p q) = 14
number_of (EqRight sign p q) = 15
number_of (EqLeft sign p q) = 16
number_of (UnequalRight sign p q) = 17
number_of (UnequalLeft sign p q) = 18
number_of (Itself a) = 20
number_of (Turned a b) = 21
number_of (Through a b c) = 22
number_of (Alike x ts us) = 23
number_of (Chosen c a b) = 24
number_of (Passed c a b) = 25
number_of (ReadBack a i v) = 30
number_of (ReadEqual a i j v) = 31
number_of (ReadOther a i j v) = 32
number_of (ReadConst s v j) = 33
number_of (ReadWithin n a b j) = 34
number_of (ReadAbove n a b j) = 35
number_of (PartIs k s ts) = 36
number_of (ReadBelow n a b j) = 37
number_of (AtLeast t) = 40
number_of (AtMost t) = 41
number_of (WrapsNot g n a) = 42
number_of (QuotientLow a d) = 43
number_of (QuotientHigh a d) = 44
number_of (QuotientHighNegative a d) = 45
number_of (QuotientLowNegative a d) = 46
number_of (RemainderIs a d) = 47
number_of (ProductOfHigh a b) = 48
number_of (ProductOfLow a b) = 49
number_of (ProductHighLow a b) = 50
number_of (ProductLowHigh a b) = 51
number_of (SumOfStore a i v) = 52
number_of (SumOfNone s) = 53
number_of (SumAtLeast a) = 54
number_of (SumOverOne a i) = 55
number_of (SumOverTwo a i j) = 56
number_of (Strict a b) = 60
number_of (Between a b) = 61

abbrev pub premises_of : Instance → List Fact
premises_of (AndLeft p q) = Says true (And p q) ∷ []
premises_of (AndRight p q) = Says true (And p q) ∷ []
premises_of (NoOrLeft p q) = Says false (Or p q) ∷ []
premises_of (NoOrRight p q) = Says false (Or p q) ∷ []
premises_of (NotHolds p) = Says true (Not p) ∷ []
premises_of (NotFails p) = Says false (Not p) ∷ []
premises_of (OrElseRight p q) = Says true (Or p q) ∷ Says false p ∷ []
premises_of (OrElseLeft p q) = Says true (Or p q) ∷ Says false q ∷ []
premises_of (NoAndRight p q) = Says false (And p q) ∷ Says true p ∷ []
premises_of (NoAndLeft p q) = Says false (And p q) ∷ Says true q ∷ []
premises_of (IteThen c p q) = Says true (Ite c p q) ∷ Says true c ∷ []
premises_of (IteElse c p q) = Says true (Ite c p q) ∷ Says false c ∷ []
premises_of (NoIteThen c p q) = Says false (Ite c p q) ∷ Says true c ∷ []
premises_of (NoIteElse c p q) = Says false (Ite c p q) ∷ Says false c ∷ []
premises_of (EqRight sign p q) = Says true (Eq p q) ∷ Says sign p ∷ []
premises_of (EqLeft sign p q) = Says true (Eq p q) ∷ Says sign q ∷ []
premises_of (UnequalRight sign p q) = Says false (Eq p q) ∷ Says sign p ∷ []
premises_of (UnequalLeft sign p q) = Says false (Eq p q) ∷ Says sign q ∷ []
premises_of (Itself a) = []
premises_of (Turned a b) = Says true (Eq a b) ∷ []
premises_of (Through a b c) = Says true (Eq a b) ∷ Says true (Eq b c) ∷ []
premises_of (Alike x ts us) = differing ts us
premises_of (Chosen c a b) = Says true c ∷ []
premises_of (Passed c a b) = Says false c ∷ []
premises_of (ReadBack a i v) = in_range (element (sort_of a)) v
premises_of (ReadEqual a i j v) = Says true (Eq i j) ∷ in_range (element (sort_of a)) v
premises_of (ReadOther a i j v) = Says false (Eq i j) ∷ []
premises_of (ReadConst s v j) = in_range (element s) v
premises_of (ReadWithin n a b j) = Says false (Le n j) ∷ Says true (Le zero_lit j) ∷ []
premises_of (ReadAbove n a b j) = Says true (Le n j) ∷ []
premises_of (PartIs k s ts) = in_range (sort_at k (parts s)) (term_at k ts)
premises_of (ReadBelow n a b j) = Says false (Le zero_lit j) ∷ []
premises_of (AtLeast t) = []
premises_of (AtMost t) = []
premises_of (WrapsNot g n a) = in_range (NumSort (Bits g n)) a
premises_of (QuotientLow a d) = Says true (Le zero_lit a) ∷ []
premises_of (QuotientHigh a d) = Says true (Le zero_lit a) ∷ []
premises_of (QuotientHighNegative a d) = Says false (Le zero_lit a) ∷ []
premises_of (QuotientLowNegative a d) = Says false (Le zero_lit a) ∷ []
premises_of (RemainderIs a d) = []
premises_of (ProductOfHigh a b) = Says true (Le zero_lit a) ∷ Says true (Le zero_lit b) ∷ []
premises_of (ProductOfLow a b) = Says true (Le a zero_lit) ∷ Says true (Le b zero_lit) ∷ []
premises_of (ProductHighLow a b) = Says true (Le zero_lit a) ∷ Says true (Le b zero_lit) ∷ []
premises_of (ProductLowHigh a b) = Says true (Le a zero_lit) ∷ Says true (Le zero_lit b) ∷ []
premises_of (SumOfStore a i v) = in_range (element (sort_of a)) v
premises_of (SumOfNone s) = []
premises_of (SumAtLeast a) = []
premises_of (SumOverOne a i) = []
premises_of (SumOverTwo a i j) = Says false (Eq i j) ∷ []
premises_of (Strict a b) = Says false (Eq a b) ∷ Says true (Le a b) ∷ []
premises_of (Between a b) = Says true (Le a b) ∷ Says true (Le b a) ∷ []

abbrev pub conclusion_of : Instance → Fact
conclusion_of (AndLeft p q) = Says true p
conclusion_of (AndRight p q) = Says true q
conclusion_of (NoOrLeft p q) = Says false p
conclusion_of (NoOrRight p q) = Says false q
conclusion_of (NotHolds p) = Says false p
conclusion_of (NotFails p) = Says true p
conclusion_of (OrElseRight p q) = Says true q
conclusion_of (OrElseLeft p q) = Says true p
conclusion_of (NoAndRight p q) = Says false q
conclusion_of (NoAndLeft p q) = Says false p
conclusion_of (IteThen c p q) = Says true p
conclusion_of (IteElse c p q) = Says true q
conclusion_of (NoIteThen c p q) = Says false p
conclusion_of (NoIteElse c p q) = Says false q
conclusion_of (EqRight sign p q) = Says sign q
conclusion_of (EqLeft sign p q) = Says sign p
conclusion_of (UnequalRight sign p q) = Says (not sign) q
conclusion_of (UnequalLeft sign p q) = Says (not sign) p
conclusion_of (Itself a) = Says true (Eq a a)
conclusion_of (Turned a b) = Says true (Eq b a)
conclusion_of (Through a b c) = Says true (Eq a c)
conclusion_of (Alike x ts us) = Says true (Eq (App x ts) (App x us))
conclusion_of (Chosen c a b) = Says true (Eq (Ite c a b) a)
conclusion_of (Passed c a b) = Says true (Eq (Ite c a b) b)
conclusion_of (ReadBack a i v) = Says true (Eq (Sel (Sto a i v) i) v)
conclusion_of (ReadEqual a i j v) = Says true (Eq (Sel (Sto a i v) j) v)
conclusion_of (ReadOther a i j v) = Says true (Eq (Sel (Sto a i v) j) (Sel a j))
conclusion_of (ReadConst s v j) = Says true (Eq (Sel (Const s v) j) v)
conclusion_of (ReadWithin n a b j) = Says true (Eq (Sel (Mix n a b) j) (Sel a j))
conclusion_of (ReadAbove n a b j) = Says true (Eq (Sel (Mix n a b) j) (Sel b j))
conclusion_of (PartIs k s ts) = Says true (Eq (Get k (Tup s ts)) (term_at k ts))
conclusion_of (ReadBelow n a b j) = Says true (Eq (Sel (Mix n a b) j) (Sel b j))
conclusion_of (AtLeast t) = Says true (Le (least_lit (sort_of t)) t)
conclusion_of (AtMost t) = Says true (Le t (greatest_lit (sort_of t)))
conclusion_of (WrapsNot g n a) = Says true (Eq (Wrap g n a) a)
conclusion_of (QuotientLow a d) = Says true (Le (times d a) a)
conclusion_of (QuotientHigh a d) = Says true (Le a (Add (times d a) (Lit false (d - 1))))
conclusion_of (QuotientHighNegative a d) = Says true (Le a (times d a))
conclusion_of (QuotientLowNegative a d) = Says true (Le (Sub (times d a) (Lit false (d - 1))) a)
conclusion_of (RemainderIs a d) = Says true (Eq (Mod a (Lit false d)) (Sub a (times d a)))
conclusion_of (ProductOfHigh a b) = Says true (Le zero_lit (Mul a b))
conclusion_of (ProductOfLow a b) = Says true (Le zero_lit (Mul a b))
conclusion_of (ProductHighLow a b) = Says true (Le (Mul a b) zero_lit)
conclusion_of (ProductLowHigh a b) = Says true (Le (Mul a b) zero_lit)
conclusion_of (SumOfStore a i v) = Says true (Eq (Sum (Sto a i v)) (Add (Sum a) (Sub v (Sel a i))))
conclusion_of (SumOfNone s) = Says true (Eq (Sum (Const s zero_lit)) zero_lit)
conclusion_of (SumAtLeast a) = Says true (Le zero_lit (Sum a))
conclusion_of (SumOverOne a i) = Says true (Le (Sel a i) (Sum a))
conclusion_of (SumOverTwo a i j) = Says true (Le (Add (Sel a i) (Sel a j)) (Sum a))
conclusion_of (Strict a b) = Says false (Le b a)
conclusion_of (Between a b) = Says true (Eq a b)

-- the conditions on the terms
abbrev pub asks : Instance → Bool
asks (Alike x ts us) = nat_eq (size ts) (size us)
asks (AtLeast t) = has_least (sort_of t)
asks (AtMost t) = has_greatest (sort_of t)
asks (QuotientLow a d) = nat_le 1 d
asks (QuotientHigh a d) = nat_le 1 d
asks (QuotientHighNegative a d) = nat_le 1 d
asks (QuotientLowNegative a d) = nat_le 1 d
asks (RemainderIs a d) = nat_le 1 d
asks (SumOfStore a i v) = is_plain a
asks (SumAtLeast a) = is_plain a && is_low (element (sort_of a))
asks (SumOverOne a i) = is_plain a && is_low (element (sort_of a))
asks (SumOverTwo a i j) = is_plain a && is_low (element (sort_of a))
asks _ = true

-- an instance on terms that fit
pub record IsInstance (i : Instance) : Type 0 where
  pub asked : asks i ≡ true
  pub premises : are_facts (premises_of i) ≡ true
  pub conclusion : is_fact (conclusion_of i) ≡ true

-- the rule of this number gives the fact from the premises
abbrev pub IsByRule : ℕ → List Fact → Fact → Type 0
IsByRule r from to = (i : Instance) × (number_of i ≡ r) × (premises_of i ≡ from) × (conclusion_of i ≡ to) × (asks i ≡ true)

-- the conclusion of every instance is true wherever its premises are
abbrev pub InstancesAreTrue : Type 0
InstancesAreTrue = (m : Model) (i : Instance) → IsInstance i → AreTrueIn m (premises_of i) → IsTrueIn m (conclusion_of i)
