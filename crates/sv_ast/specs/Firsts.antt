-- Serves the proof: how the sides begin; the check of the grammar proves these tables right. Printed by tools/grammar_tables.
use Rattle.std.specs.Prelude.{ℕ, Bool, true, false, List, [], ◌∷◌, map}
use Rattle.sv_ast.specs.Terminals.{code}
use Rattle.sv_ast.specs.declared.class.Class.{Class}
use Rattle.sv_ast.specs.declared.class.Class.TheVariants as k
use Rattle.sv_ast.specs.Syntax.{Side, unit, file_const, contract, bases, base, part, variable, var_word, function, ctor, special, modifier, head, over, struct, field, enum, event, ev_par, error, er_par, params, param, location, type, plain, note_line, block, stmt, body, if, while, while_word, for, for_word, simple, return, decl, tuple, slot, action, assign_op, args, expr, or, and, same, less, sum, prod, term, unary, power, post, atom, unit10, else_part, suffix, after_name, after_longer, new_name, name_type, name_plain, new_longer, longer_type, longer_plain}

-- the side may have no token
abbrev pub nulls : Side → Bool
nulls unit = true
nulls bases = true
nulls slot = true
nulls _ = false

-- ---- what a side may begin with

abbrev begins_of_file_const : List Class
begins_of_file_const = k.Id ∷ k.Elementary ∷ k.Address ∷ k.Error ∷ k.Mapping ∷ k.Revert ∷ k.String ∷ k.Value ∷ []

abbrev begins_of_expr : List Class
begins_of_expr =
    k.Id ∷ k.Number ∷ k.Hexadecimal ∷ k.StringLiteral ∷ k.Elementary ∷ k.Address ∷ k.Error ∷ k.False ∷ k.New ∷ k.Payable ∷ k.Revert ∷ k.Super ∷ k.This ∷ k.True ∷ k.Type ∷ k.Value ∷
    k.LParen ∷ k.Minus ∷ k.Increment ∷ k.Decrement ∷ k.Bang ∷ []

abbrev begins_of_power : List Class
begins_of_power =
    k.Id ∷ k.Number ∷ k.Hexadecimal ∷ k.StringLiteral ∷ k.Elementary ∷ k.Address ∷ k.Error ∷ k.False ∷ k.New ∷ k.Payable ∷ k.Revert ∷ k.Super ∷ k.This ∷ k.True ∷ k.Type ∷ k.Value ∷
    k.LParen ∷ []

abbrev pub begins : Side → List Class
begins unit =
    k.Id ∷ k.Elementary ∷ k.Pragma ∷ k.Note ∷ k.Abstract ∷ k.Address ∷ k.Contract ∷ k.Enum ∷ k.Error ∷ k.Event ∷ k.Interface ∷ k.Mapping ∷ k.Revert ∷ k.String ∷ k.Struct ∷
    k.Value ∷ []
begins file_const = begins_of_file_const
begins contract = k.Note ∷ k.Abstract ∷ k.Contract ∷ k.Interface ∷ []
begins bases = k.Is ∷ []
begins base = k.Id ∷ k.Error ∷ k.Revert ∷ k.Value ∷ []
begins part =
    k.Id ∷ k.Elementary ∷ k.Note ∷ k.Address ∷ k.Constructor ∷ k.Enum ∷ k.Error ∷ k.Event ∷ k.Fallback ∷ k.Function ∷ k.Mapping ∷ k.Modifier ∷ k.Receive ∷ k.Revert ∷ k.String ∷
    k.Struct ∷ k.Value ∷ []
begins variable = begins_of_file_const
begins var_word = k.Constant ∷ k.Immutable ∷ k.Internal ∷ k.Private ∷ k.Public ∷ []
begins function = k.Note ∷ k.Function ∷ []
begins ctor = k.Note ∷ k.Constructor ∷ []
begins special = k.Note ∷ k.Fallback ∷ k.Receive ∷ []
begins modifier = k.Modifier ∷ []
begins head = k.Id ∷ k.Error ∷ k.External ∷ k.Internal ∷ k.Override ∷ k.Payable ∷ k.Private ∷ k.Public ∷ k.Pure ∷ k.Revert ∷ k.Value ∷ k.View ∷ k.Virtual ∷ []
begins over = k.Override ∷ []
begins struct = k.Struct ∷ []
begins field = begins_of_file_const
begins enum = k.Enum ∷ []
begins event = k.Event ∷ []
begins ev_par = begins_of_file_const
begins error = k.Error ∷ []
begins er_par = begins_of_file_const
begins params = k.LParen ∷ []
begins param = begins_of_file_const
begins location = k.Calldata ∷ k.Memory ∷ k.Storage ∷ []
begins type = begins_of_file_const
begins plain = begins_of_file_const
begins note_line = k.Note ∷ []
begins block = k.LBrace ∷ []
begins stmt =
    k.Id ∷ k.Number ∷ k.Hexadecimal ∷ k.StringLiteral ∷ k.Elementary ∷ k.Note ∷ k.Address ∷ k.Break ∷ k.Continue ∷ k.Delete ∷ k.Emit ∷ k.Error ∷ k.False ∷ k.For ∷ k.If ∷
    k.Mapping ∷ k.New ∷ k.Payable ∷ k.Return ∷ k.Revert ∷ k.String ∷ k.Super ∷ k.This ∷ k.True ∷ k.Type ∷ k.Unchecked ∷ k.Value ∷ k.While ∷ k.Underscore ∷ k.LParen ∷ k.LBrace ∷
    k.Minus ∷ k.Increment ∷ k.Decrement ∷ k.Bang ∷ []
begins body =
    k.Id ∷ k.Number ∷ k.Hexadecimal ∷ k.StringLiteral ∷ k.Elementary ∷ k.Address ∷ k.Break ∷ k.Continue ∷ k.Delete ∷ k.Emit ∷ k.Error ∷ k.False ∷ k.Mapping ∷ k.New ∷ k.Payable ∷
    k.Return ∷ k.Revert ∷ k.String ∷ k.Super ∷ k.This ∷ k.True ∷ k.Type ∷ k.Value ∷ k.Underscore ∷ k.LParen ∷ k.LBrace ∷ k.Minus ∷ k.Increment ∷ k.Decrement ∷ k.Bang ∷ []
begins if = k.If ∷ []
begins while = k.Note ∷ k.While ∷ []
begins while_word = k.While ∷ []
begins for = k.Note ∷ k.For ∷ []
begins for_word = k.For ∷ []
begins simple =
    k.Id ∷ k.Number ∷ k.Hexadecimal ∷ k.StringLiteral ∷ k.Elementary ∷ k.Address ∷ k.Break ∷ k.Continue ∷ k.Delete ∷ k.Emit ∷ k.Error ∷ k.False ∷ k.Mapping ∷ k.New ∷ k.Payable ∷
    k.Return ∷ k.Revert ∷ k.String ∷ k.Super ∷ k.This ∷ k.True ∷ k.Type ∷ k.Value ∷ k.Underscore ∷ k.LParen ∷ k.Minus ∷ k.Increment ∷ k.Decrement ∷ k.Bang ∷ []
begins return = k.Return ∷ []
begins decl = begins_of_file_const
begins tuple = k.LParen ∷ []
begins slot = begins_of_file_const
begins action =
    k.Id ∷ k.Number ∷ k.Hexadecimal ∷ k.StringLiteral ∷ k.Elementary ∷ k.Address ∷ k.Delete ∷ k.Error ∷ k.False ∷ k.New ∷ k.Payable ∷ k.Revert ∷ k.Super ∷ k.This ∷ k.True ∷
    k.Type ∷ k.Value ∷ k.LParen ∷ k.Minus ∷ k.Increment ∷ k.Decrement ∷ k.Bang ∷ []
begins assign_op = k.Equals ∷ k.PlusEquals ∷ k.MinusEquals ∷ k.TimesEquals ∷ k.DivideEquals ∷ k.RemainderEquals ∷ []
begins args = k.LParen ∷ []
begins expr = begins_of_expr
begins or = begins_of_expr
begins and = begins_of_expr
begins same = begins_of_expr
begins less = begins_of_expr
begins sum = begins_of_expr
begins prod = begins_of_expr
begins term = begins_of_expr
begins unary = k.Minus ∷ k.Increment ∷ k.Decrement ∷ k.Bang ∷ []
begins power = begins_of_power
begins post = begins_of_power
begins atom =
    k.Id ∷ k.Number ∷ k.Hexadecimal ∷ k.StringLiteral ∷ k.Elementary ∷ k.Address ∷ k.Error ∷ k.False ∷ k.Payable ∷ k.Revert ∷ k.Super ∷ k.This ∷ k.True ∷ k.Type ∷ k.Value ∷
    k.LParen ∷ []
begins unit10 = k.Days ∷ k.Ether ∷ k.Gwei ∷ k.Hours ∷ k.Minutes ∷ k.Seconds ∷ k.Weeks ∷ k.Wei ∷ []
begins else_part = k.Else ∷ []
begins suffix = k.LParen ∷ k.LBracket ∷ k.LBrace ∷ k.Dot ∷ k.Increment ∷ k.Decrement ∷ []
begins after_name = k.LParen ∷ k.LBrace ∷ k.Increment ∷ k.Decrement ∷ []
begins after_longer = k.LParen ∷ k.LBrace ∷ k.Dot ∷ k.Increment ∷ k.Decrement ∷ []
begins new_name = k.New ∷ []
begins name_type = k.Id ∷ k.Error ∷ k.Revert ∷ k.Value ∷ []
begins name_plain = k.Id ∷ k.Error ∷ k.Revert ∷ k.Value ∷ []
begins new_longer = k.New ∷ []
begins longer_type = begins_of_file_const
begins longer_plain = begins_of_file_const

abbrev pub firsts : Side → List ℕ
firsts s = map code (begins s)
