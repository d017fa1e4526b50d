-- Believed: the grammar, what each left side derives: `a ⊙ b` is a and then b, `a ∣ b` is one of the two, `opt a` is a or nothing, `star a` is any number of a, and `side s` is what the left side s derives. Hold it against docs/grammar.md, line by line.
use Rattle.std.specs.Prelude.{ℕ, zero, suc, List, [], ◌∷◌, ◌++◌, map}
use Rattle.sv_grammar.specs.Grammar.{Part, word, text, seq, alt, opt, star, both, side}
use Rattle.sv_ast.specs.Terminals.{code}
use Rattle.sv_ast.specs.declared.class.Class.{Class}
use Rattle.sv_ast.specs.declared.class.Class.TheVariants as k

-- ---- the left sides

pub data Side : Type 0 where
  unit : Side
  file_const : Side
  contract : Side
  bases : Side
  base : Side
  part : Side
  variable : Side
  var_word : Side
  function : Side
  ctor : Side
  special : Side
  modifier : Side
  head : Side
  over : Side
  struct : Side
  field : Side
  enum : Side
  event : Side
  ev_par : Side
  error : Side
  er_par : Side
  params : Side
  param : Side
  location : Side
  type : Side
  plain : Side
  note_line : Side
  block : Side
  stmt : Side
  body : Side
  if : Side
  while : Side
  while_word : Side
  for : Side
  for_word : Side
  simple : Side
  return : Side
  decl : Side
  tuple : Side
  slot : Side
  action : Side
  assign_op : Side
  args : Side
  expr : Side
  or : Side
  and : Side
  same : Side
  less : Side
  sum : Side
  prod : Side
  term : Side
  unary : Side
  power : Side
  post : Side
  atom : Side
  unit10 : Side
  -- What follows a body of an `if`, from the `else` on.
  else_part : Side
  -- What is applied to an expression that stands before it.
  suffix : Side
  -- The first suffix after `new` and a type: one that can't belong to the type, of one name or longer.
  after_name : Side
  after_longer : Side
  -- `new` with a type that is one name, and this type.
  new_name : Side
  name_type : Side
  name_plain : Side
  -- `new` with a longer type, and this type.
  new_longer : Side
  longer_type : Side
  longer_plain : Side

-- ---- how parts are written

-- the one and then the other
infixr 5 ◌⊙◌
abbrev pub ◌⊙◌ : Part Side → Part Side → Part Side
a ⊙ b = seq a b

-- one of the two
infixr 4 ◌∣◌
abbrev pub ◌∣◌ : Part Side → Part Side → Part Side
a ∣ b = alt a b

-- a token of the class
abbrev pub quoted : Class → Part Side
quoted c = word (code c ∷ [])

-- the same, whose text the tree keeps
abbrev pub kept : Class → Part Side
kept c = text (code c ∷ [])

-- the classes of a word that is no keyword and not `_`
abbrev pub ids : List ℕ
ids = map code (k.Id ∷ k.Error ∷ k.Revert ∷ k.Value ∷ [])

abbrev pub id : Part Side
id = text ids

-- one or more
abbrev pub several : Part Side → Part Side
several a = a ⊙ star a

-- one or more, with commas between
abbrev pub listed : Part Side → Part Side
listed a = a ⊙ star (quoted k.Comma ⊙ a)

abbrev pub below : ℕ → List ℕ
below zero = []
below (suc n) = n ∷ below n

-- each class but that of `;`, which is the last
unfoldable pub but_semicolon : List ℕ
but_semicolon = below (code k.Semicolon)

-- ---- parts that several rules have

-- the brackets of an array type
abbrev pub brackets : Part Side
brackets = quoted k.LBracket ⊙ opt (side expr) ⊙ quoted k.RBracket

-- a suffix that is neither an index nor a member
abbrev pub applied : Part Side
applied = side args ∣ quoted k.LBrace ⊙ quoted k.Value ⊙ quoted k.Colon ⊙ side expr ⊙ quoted k.RBrace ∣ quoted k.Increment ∣ quoted k.Decrement

abbrev pub member : Part Side
member = quoted k.Dot ⊙ id

-- ---- the rules

-- Where the next token does not tell which of two alternatives follows, they stand under `both`,
-- which derives as `∣` does. Its list serves reading alone.
abbrev pub rules : Side → Part Side
rules unit = star (kept k.Pragma ⊙ quoted k.Semicolon ∣ side contract ∣ side struct ∣ side enum ∣ side event ∣ both [] (side error) (side file_const))
rules file_const = side type ⊙ quoted k.Constant ⊙ id ⊙ quoted k.Equals ⊙ side expr ⊙ quoted k.Semicolon
rules contract =
    star (side note_line) ⊙ opt (quoted k.Abstract) ⊙ quoted k.Contract ⊙ id ⊙ side bases ⊙ quoted k.LBrace ⊙ star (side part) ⊙ quoted k.RBrace
    ∣ quoted k.Interface ⊙ id ⊙ side bases ⊙ quoted k.LBrace ⊙ star (side part) ⊙ quoted k.RBrace
rules bases = opt (quoted k.Is ⊙ listed (side base))
rules base = id ⊙ opt (side args)
rules part =
    both [] (side variable) (both [] (side function) (both [] (side ctor)
    (side special ∣ side modifier ∣ side struct ∣ side enum ∣ side event ∣ side error)))
rules variable = side type ⊙ star (side var_word ∣ side over) ⊙ id ⊙ opt (quoted k.Equals ⊙ side expr) ⊙ quoted k.Semicolon
rules var_word = quoted k.Public ∣ quoted k.Private ∣ quoted k.Internal ∣ quoted k.Constant ∣ quoted k.Immutable
rules function =
    star (side note_line) ⊙ quoted k.Function ⊙ id ⊙ side params ⊙ star (side head) ⊙ opt (quoted k.Returns ⊙ side params)
    ⊙ (side block ∣ quoted k.Semicolon)
rules ctor = star (side note_line) ⊙ quoted k.Constructor ⊙ side params ⊙ star (side head) ⊙ side block
-- the word is kept in the tree
rules special =
    star (side note_line) ⊙ text (map code (k.Receive ∷ k.Fallback ∷ [])) ⊙ quoted k.LParen ⊙ quoted k.RParen ⊙ star (side head) ⊙ side block
rules modifier = quoted k.Modifier ⊙ id ⊙ opt (side params) ⊙ star (quoted k.Virtual ∣ side over) ⊙ side block
rules head =
    quoted k.Public ∣ quoted k.Private ∣ quoted k.Internal ∣ quoted k.External ∣ quoted k.Pure ∣ quoted k.View
    ∣ quoted k.Payable ∣ quoted k.Virtual ∣ side over ∣ id ⊙ opt (side args)
rules over = quoted k.Override ⊙ opt (quoted k.LParen ⊙ listed id ⊙ quoted k.RParen)
rules struct = quoted k.Struct ⊙ id ⊙ quoted k.LBrace ⊙ several (side field) ⊙ quoted k.RBrace
rules field = side type ⊙ id ⊙ quoted k.Semicolon
rules enum = quoted k.Enum ⊙ id ⊙ quoted k.LBrace ⊙ listed id ⊙ quoted k.RBrace
rules event = quoted k.Event ⊙ id ⊙ quoted k.LParen ⊙ opt (listed (side ev_par)) ⊙ quoted k.RParen ⊙ opt (quoted k.Anonymous) ⊙ quoted k.Semicolon
rules ev_par = side type ⊙ opt (quoted k.Indexed) ⊙ opt id
rules error = quoted k.Error ⊙ id ⊙ quoted k.LParen ⊙ opt (listed (side er_par)) ⊙ quoted k.RParen ⊙ quoted k.Semicolon
rules er_par = side type ⊙ opt id
rules params = quoted k.LParen ⊙ opt (listed (side param)) ⊙ quoted k.RParen
rules param = side type ⊙ opt (side location) ⊙ opt id
rules location = quoted k.Storage ∣ quoted k.Memory ∣ quoted k.Calldata
rules type = side plain ⊙ star brackets
rules plain =
    kept k.Elementary ∣ quoted k.Address ⊙ opt (quoted k.Payable) ∣ quoted k.String ∣ id ⊙ opt (quoted k.Dot ⊙ id)
    ∣ quoted k.Mapping ⊙ quoted k.LParen ⊙ side type ⊙ opt id ⊙ quoted k.Arrow ⊙ side type ⊙ opt id ⊙ quoted k.RParen
rules note_line = kept k.Note ⊙ side expr ⊙ quoted k.NoteEnd
rules block = quoted k.LBrace ⊙ star (side stmt) ⊙ quoted k.RBrace
rules stmt =
    side block ∣ quoted k.Unchecked ⊙ side block ∣ side simple ⊙ quoted k.Semicolon ∣ side if
    ∣ both [] (side while) (side for)
rules body = side block ∣ side simple ⊙ quoted k.Semicolon
-- the `else if`s and the last `else` are parts of one another
rules if = quoted k.If ⊙ quoted k.LParen ⊙ side expr ⊙ quoted k.RParen ⊙ side body ⊙ opt (side else_part)
rules else_part =
    quoted k.Else
    ⊙ (quoted k.If ⊙ quoted k.LParen ⊙ side expr ⊙ quoted k.RParen ⊙ side body ⊙ opt (side else_part) ∣ side body)
rules while = star (side note_line) ⊙ side while_word ⊙ quoted k.LParen ⊙ side expr ⊙ quoted k.RParen ⊙ side body
rules while_word = quoted k.While
rules for =
    star (side note_line) ⊙ side for_word ⊙ quoted k.LParen ⊙ opt (both but_semicolon (side decl) (side action)) ⊙ quoted k.Semicolon
    ⊙ opt (side expr) ⊙ quoted k.Semicolon ⊙ opt (side action) ⊙ quoted k.RParen ⊙ side body
rules for_word = quoted k.For
rules simple =
    both but_semicolon (side decl) (both but_semicolon (side tuple) (both but_semicolon (side action)
    (side return ∣ quoted k.Break ∣ quoted k.Continue ∣ quoted k.Underscore ∣ quoted k.Emit ⊙ id ⊙ side args ∣ quoted k.Revert ⊙ id ⊙ side args)))
rules return =
    quoted k.Return
    ⊙ opt (both but_semicolon (side expr)
    (quoted k.LParen ⊙ side expr ⊙ quoted k.Comma ⊙ listed (side expr) ⊙ quoted k.RParen))
rules decl = side type ⊙ opt (side location) ⊙ id ⊙ opt (quoted k.Equals ⊙ side expr)
rules tuple = quoted k.LParen ⊙ side slot ⊙ quoted k.Comma ⊙ listed (side slot) ⊙ quoted k.RParen ⊙ quoted k.Equals ⊙ side expr
rules slot =
    opt (both (map code (k.Dot ∷ k.LBracket ∷ k.Storage ∷ k.Memory ∷ k.Calldata ∷ []) ++ ids)
    (side type ⊙ opt (side location) ⊙ id) id)
rules action = quoted k.Delete ⊙ side expr ∣ side expr ⊙ opt (side assign_op ⊙ side expr)
rules assign_op =
    quoted k.Equals ∣ quoted k.PlusEquals ∣ quoted k.MinusEquals ∣ quoted k.TimesEquals ∣ quoted k.DivideEquals ∣ quoted k.RemainderEquals
-- the `(` stands once, before both forms
rules args =
    quoted k.LParen
    ⊙ (opt (listed (side expr)) ⊙ quoted k.RParen
    ∣ quoted k.LBrace ⊙ opt (listed (id ⊙ quoted k.Colon ⊙ side expr)) ⊙ quoted k.RBrace ⊙ quoted k.RParen)
rules expr = side or ⊙ opt (quoted k.Question ⊙ side expr ⊙ quoted k.Colon ⊙ side expr)
rules or = side and ⊙ star (quoted k.OrOr ⊙ side and)
rules and = side same ⊙ star (quoted k.AndAnd ⊙ side same)
rules same = side less ⊙ star ((quoted k.Same ∣ quoted k.Unequal) ⊙ side less)
rules less = side sum ⊙ star ((quoted k.Less ∣ quoted k.Greater ∣ quoted k.AtMost ∣ quoted k.AtLeast) ⊙ side sum)
rules sum = side prod ⊙ star ((quoted k.Plus ∣ quoted k.Minus) ⊙ side prod)
rules prod = side term ⊙ star ((quoted k.Times ∣ quoted k.Divide ∣ quoted k.Remainder) ⊙ side term)
rules term = side unary ∣ side power
rules unary = (quoted k.Minus ∣ quoted k.Bang ∣ quoted k.Increment ∣ quoted k.Decrement) ⊙ (side unary ∣ side post)
rules power = side post ⊙ opt (quoted k.Power ⊙ side power)
-- The type after `new` takes as much as it can: where it is one name, no index and no member follows, and else no index.
rules post =
    side atom ⊙ star (side suffix)
    ∣ both (map code (k.Dot ∷ k.LBracket ∷ []))
    (side new_name ⊙ opt (side after_name ⊙ star (side suffix)))
    (side new_longer ⊙ opt (side after_longer ⊙ star (side suffix)))
-- without `new`
rules atom =
    kept k.Number ⊙ opt (side unit10) ∣ kept k.Hexadecimal ∣ kept k.StringLiteral ∣ quoted k.True ∣ quoted k.False ∣ id ∣ kept k.Elementary
    ∣ quoted k.Address ∣ quoted k.Payable ∣ quoted k.Type ⊙ quoted k.LParen ⊙ side type ⊙ quoted k.RParen
    ∣ quoted k.Super ∣ quoted k.This ∣ quoted k.LParen ⊙ side expr ⊙ quoted k.RParen
rules unit10 =
    quoted k.Wei ∣ quoted k.Gwei ∣ quoted k.Ether ∣ quoted k.Seconds ∣ quoted k.Minutes ∣ quoted k.Hours ∣ quoted k.Days ∣ quoted k.Weeks
-- the suffixes of a `post`
rules suffix = quoted k.LBracket ⊙ side expr ⊙ quoted k.RBracket ∣ member ∣ applied
rules after_name = applied
rules after_longer = member ∣ applied
-- `new` with its type, of one name or longer
rules new_name = quoted k.New ⊙ side name_type
rules name_type = side name_plain
rules name_plain = id
rules new_longer = quoted k.New ⊙ side longer_type
rules longer_type = both [] (side name_plain ⊙ several brackets) (side longer_plain ⊙ star brackets)
rules longer_plain =
    kept k.Elementary ∣ quoted k.Address ⊙ opt (quoted k.Payable) ∣ quoted k.String ∣ id ⊙ quoted k.Dot ⊙ id
    ∣ quoted k.Mapping ⊙ quoted k.LParen ⊙ side type ⊙ opt id ⊙ quoted k.Arrow ⊙ side type ⊙ opt id ⊙ quoted k.RParen
