-- Believed: expressions and types as plain data: a constructor for each form, and none for a level of the grammar that adds nothing. Hold it against docs/grammar.md and the types of `sv_ast`.
use Rattle.std.specs.Prelude.{ℕ, Bool, Option, List, [], ◌∷◌}
use Rattle.sv_ast.specs.declared.expr.UnaryOp.{UnaryOp}
use Rattle.sv_ast.specs.declared.post.Unit10.{Unit10}
use Rattle.sv_plain.specs.declared.spot.Spot.{Spot}
use Rattle.sv_plain.specs.declared.operator.Operator.{Operator}

mutual
  -- an expression and where it lies
  pub data Expr : Type 0 where
    Node : (spot : Spot) (kind : Kind) → Expr

  pub data Kind : Type 0 where
    Choice : (test if_true if_false : Expr) → Kind
    -- operands of one level with operators between, which group to the left
    Chain : (first : Expr) (rest : Operands) → Kind
    Prefix : (op : UnaryOp) (operand : Expr) → Kind
    Power : (base exponent : Expr) → Kind
    -- with one suffix at least
    Applied : (head : Expr) (suffixes : Suffixes) → Kind
    Number : (digits : ℕ) (unit : Option Unit10) → Kind
    Hexadecimal : (digits : ℕ) → Kind
    Text : (text : ℕ) → Kind
    Truth : (value : Bool) → Kind
    Name : (name : ℕ) → Kind
    Elementary : (name : ℕ) → Kind
    Address : Kind
    Payable : Kind
    OfType : (type : TypeForm) → Kind
    New : (type : TypeForm) → Kind
    Super : Kind
    This : Kind
    Paren : (inner : Expr) → Kind

  pub data Operand : Type 0 where
    Operated : (op : Operator) (operand : Expr) → Operand

  pub data Operands : Type 0 where
    NoOperand : Operands
    MoreOperands : (o : Operand) (os : Operands) → Operands

  pub data Suffix : Type 0 where
    Suffixed : (spot : Spot) (step : Step) → Suffix

  pub data Suffixes : Type 0 where
    NoSuffix : Suffixes
    MoreSuffixes : (s : Suffix) (ss : Suffixes) → Suffixes

  pub data Step : Type 0 where
    Index : (index : Expr) → Step
    Member : (name : ℕ) → Step
    Call : (args : Args) → Step
    Value : (value : Expr) → Step
    Increment : Step
    Decrement : Step

  pub data Args : Type 0 where
    Given : (spot : Spot) (kind : ArgsKind) → Args

  pub data ArgsKind : Type 0 where
    Positional : (es : Exprs) → ArgsKind
    Named : (args : NamedArgs) → ArgsKind

  pub data Exprs : Type 0 where
    NoExpr : Exprs
    MoreExprs : (e : Expr) (es : Exprs) → Exprs

  pub data NamedArg : Type 0 where
    Arg : (name : ℕ) (value : Expr) → NamedArg

  pub data NamedArgs : Type 0 where
    NoArg : NamedArgs
    MoreArgs : (a : NamedArg) (more : NamedArgs) → NamedArgs

  pub data TypeForm : Type 0 where
    Typed : (spot : Spot) (plain : PlainForm) (lengths : Lengths) → TypeForm

  pub data PlainForm : Type 0 where
    Simply : (spot : Spot) (kind : PlainKind) → PlainForm

  pub data PlainKind : Type 0 where
    ElementaryType : (name : ℕ) → PlainKind
    AddressType : (is_payable : Bool) → PlainKind
    StringType : PlainKind
    NamedType : (name : ℕ) (member : Option ℕ) → PlainKind
    MappingType : (key : TypeForm) (key_name : Option ℕ) (value : TypeForm) (value_name : Option ℕ) → PlainKind

  pub data Length : Type 0 where
    Open : Length
    Of : (length : Expr) → Length

  pub data Lengths : Type 0 where
    NoLength : Lengths
    MoreLengths : (l : Length) (ls : Lengths) → Lengths

pub record Arms : Type 0 where
  pub if_true : Expr
  pub if_false : Expr

-- ---- lists

abbrev pub operands : List Operand → Operands
operands [] = NoOperand
operands (o ∷ os) = MoreOperands o (operands os)

abbrev pub suffixes : List Suffix → Suffixes
suffixes [] = NoSuffix
suffixes (s ∷ ss) = MoreSuffixes s (suffixes ss)

abbrev pub exprs : List Expr → Exprs
exprs [] = NoExpr
exprs (e ∷ es) = MoreExprs e (exprs es)

abbrev pub named_args : List NamedArg → NamedArgs
named_args [] = NoArg
named_args (a ∷ more) = MoreArgs a (named_args more)

abbrev pub lengths : List Length → Lengths
lengths [] = NoLength
lengths (l ∷ ls) = MoreLengths l (lengths ls)
