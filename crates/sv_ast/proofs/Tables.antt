-- The tables of the grammar are right. Each number is a class of tokens, and 0 the end of the tokens. Printed by tools/grammar_tables.
use Rattle.std.proofs.Common.{◌≡◌, ℕ, List, [], ◌∷◌, true, Some, refl}
use Rattle.std.specs.Prelude.{slice_get}
use Rattle.sv_grammar.specs.Reading.{is_checked, nulls_at, firsts_at, made_at}
use Rattle.sv_ast.specs.Syntax.{Side, unit, file_const, contract, bases, base, part, variable, var_word, function, ctor, special, modifier, head, over, struct, field, enum, event, ev_par, error, er_par, params, param, location, type, plain, note_line, block, stmt, body, if, while, while_word, for, for_word, simple, return, decl, tuple, slot, action, assign_op, args, expr, or, and, same, less, sum, prod, term, unary, power, post, atom, unit10, else_part, suffix, after_name, after_longer, new_name, name_type, name_plain, new_longer, longer_type, longer_plain, rules, but_semicolon}
use Rattle.sv_ast.specs.Firsts.{nulls, firsts}

-- ---- what may come after tokens of a side, where the side goes on

abbrev conts_of_simple : List ℕ
conts_of_simple =
    0 ∷ 1 ∷ 2 ∷ 3 ∷ 4 ∷ 5 ∷ 6 ∷ 7 ∷ 8 ∷ 9 ∷ 10 ∷ 11 ∷ 12 ∷ 13 ∷ 14 ∷ 15 ∷ 16 ∷ 17 ∷ 18 ∷ 19 ∷ 20 ∷ 21 ∷ 22 ∷ 23 ∷ 24 ∷ 25 ∷ 26 ∷ 27 ∷ 28 ∷ 29 ∷ 30 ∷ 31 ∷ 32 ∷ 33 ∷ 34 ∷ 35 ∷ 36 ∷
    37 ∷ 38 ∷ 39 ∷ 40 ∷ 41 ∷ 42 ∷ 43 ∷ 44 ∷ 45 ∷ 46 ∷ 47 ∷ 48 ∷ 49 ∷ 50 ∷ 51 ∷ 52 ∷ 53 ∷ 54 ∷ 55 ∷ 56 ∷ 57 ∷ 58 ∷ 59 ∷ 60 ∷ 61 ∷ 62 ∷ 63 ∷ 64 ∷ 65 ∷ 66 ∷ 67 ∷ 68 ∷ 69 ∷ 70 ∷ 71 ∷
    72 ∷ 73 ∷ 74 ∷ 75 ∷ 76 ∷ 77 ∷ 78 ∷ 79 ∷ 80 ∷ 81 ∷ 82 ∷ 83 ∷ 84 ∷ 85 ∷ 86 ∷ 87 ∷ 88 ∷ 89 ∷ 90 ∷ 91 ∷ 92 ∷ 93 ∷ 94 ∷ 95 ∷ 96 ∷ 97 ∷ 98 ∷ 99 ∷ 100 ∷ 101 ∷ 102 ∷ 103 ∷ []

abbrev conts_of_tuple : List ℕ
conts_of_tuple = 19 ∷ 25 ∷ 32 ∷ 33 ∷ 42 ∷ 46 ∷ 54 ∷ 66 ∷ 67 ∷ 70 ∷ 72 ∷ 74 ∷ 77 ∷ 78 ∷ 82 ∷ 83 ∷ 84 ∷ 85 ∷ 86 ∷ 87 ∷ 88 ∷ 89 ∷ 90 ∷ 91 ∷ 92 ∷ 93 ∷ 94 ∷ 95 ∷ 101 ∷ 102 ∷ []

abbrev conts_of_term : List ℕ
conts_of_term = 19 ∷ 25 ∷ 32 ∷ 33 ∷ 42 ∷ 46 ∷ 54 ∷ 66 ∷ 67 ∷ 70 ∷ 72 ∷ 74 ∷ 77 ∷ 93 ∷ 94 ∷ 95 ∷ []

abbrev conts_of_unary : List ℕ
conts_of_unary = 19 ∷ 25 ∷ 32 ∷ 33 ∷ 42 ∷ 46 ∷ 54 ∷ 66 ∷ 67 ∷ 70 ∷ 72 ∷ 74 ∷ 77 ∷ 94 ∷ 95 ∷ []

abbrev pub conts : Side → List ℕ
conts unit = 1 ∷ 5 ∷ 6 ∷ 7 ∷ 10 ∷ 11 ∷ 18 ∷ 23 ∷ 24 ∷ 26 ∷ 37 ∷ 40 ∷ 53 ∷ 56 ∷ 57 ∷ 63 ∷ []
conts file_const = []
conts contract = []
conts bases = 39 ∷ 70 ∷ 76 ∷ []
conts base = 70 ∷ []
conts part = []
conts variable = []
conts var_word = []
conts function = []
conts ctor = []
conts special = []
conts modifier = []
conts head = 70 ∷ []
conts over = 70 ∷ []
conts struct = []
conts field = []
conts enum = []
conts event = []
conts ev_par = 1 ∷ 24 ∷ 36 ∷ 46 ∷ 53 ∷ 63 ∷ 72 ∷ 77 ∷ []
conts error = []
conts er_par = 1 ∷ 24 ∷ 46 ∷ 53 ∷ 63 ∷ 72 ∷ 77 ∷ []
conts params = []
conts param = 1 ∷ 14 ∷ 24 ∷ 41 ∷ 46 ∷ 53 ∷ 55 ∷ 63 ∷ 72 ∷ 77 ∷ []
conts location = []
conts type = 46 ∷ 72 ∷ 77 ∷ []
conts plain = 46 ∷ 77 ∷ []
conts note_line = []
conts block = []
conts stmt = 21 ∷ []
conts body = []
conts if = 21 ∷ []
conts while = []
conts while_word = []
conts for = []
conts for_word = []
conts simple = conts_of_simple
conts return = conts_of_simple
conts decl = 19 ∷ 25 ∷ 32 ∷ 33 ∷ 42 ∷ 46 ∷ 54 ∷ 66 ∷ 67 ∷ 70 ∷ 72 ∷ 74 ∷ 77 ∷ 78 ∷ 81 ∷ 82 ∷ 83 ∷ 84 ∷ 85 ∷ 86 ∷ 87 ∷ 88 ∷ 89 ∷ 90 ∷ 91 ∷ 92 ∷ 93 ∷ 94 ∷ 95 ∷ 101 ∷ 102 ∷ []
conts tuple = conts_of_tuple
conts slot = 1 ∷ 5 ∷ 11 ∷ 14 ∷ 24 ∷ 40 ∷ 41 ∷ 53 ∷ 55 ∷ 56 ∷ 63 ∷ 72 ∷ 77 ∷ []
conts action =
    19 ∷ 25 ∷ 32 ∷ 33 ∷ 42 ∷ 46 ∷ 54 ∷ 66 ∷ 67 ∷ 70 ∷ 72 ∷ 74 ∷ 77 ∷ 78 ∷ 81 ∷ 82 ∷ 83 ∷ 84 ∷ 85 ∷ 86 ∷ 87 ∷ 88 ∷ 89 ∷ 90 ∷ 91 ∷ 92 ∷ 93 ∷ 94 ∷ 95 ∷ 96 ∷ 97 ∷ 98 ∷ 99 ∷ 100 ∷ 101 ∷
    102 ∷ []
conts assign_op = []
conts args = []
conts expr = conts_of_tuple
conts or = 19 ∷ 25 ∷ 32 ∷ 33 ∷ 42 ∷ 46 ∷ 54 ∷ 66 ∷ 67 ∷ 70 ∷ 72 ∷ 74 ∷ 77 ∷ 82 ∷ 83 ∷ 84 ∷ 85 ∷ 86 ∷ 87 ∷ 88 ∷ 89 ∷ 90 ∷ 91 ∷ 92 ∷ 93 ∷ 94 ∷ 95 ∷ 101 ∷ 102 ∷ []
conts and = 19 ∷ 25 ∷ 32 ∷ 33 ∷ 42 ∷ 46 ∷ 54 ∷ 66 ∷ 67 ∷ 70 ∷ 72 ∷ 74 ∷ 77 ∷ 82 ∷ 83 ∷ 84 ∷ 85 ∷ 86 ∷ 87 ∷ 88 ∷ 89 ∷ 90 ∷ 91 ∷ 92 ∷ 93 ∷ 94 ∷ 95 ∷ 101 ∷ []
conts same = 19 ∷ 25 ∷ 32 ∷ 33 ∷ 42 ∷ 46 ∷ 54 ∷ 66 ∷ 67 ∷ 70 ∷ 72 ∷ 74 ∷ 77 ∷ 82 ∷ 83 ∷ 84 ∷ 85 ∷ 86 ∷ 87 ∷ 88 ∷ 89 ∷ 90 ∷ 91 ∷ 92 ∷ 93 ∷ 94 ∷ 95 ∷ []
conts less = 19 ∷ 25 ∷ 32 ∷ 33 ∷ 42 ∷ 46 ∷ 54 ∷ 66 ∷ 67 ∷ 70 ∷ 72 ∷ 74 ∷ 77 ∷ 84 ∷ 85 ∷ 86 ∷ 87 ∷ 88 ∷ 89 ∷ 90 ∷ 91 ∷ 92 ∷ 93 ∷ 94 ∷ 95 ∷ []
conts sum = 19 ∷ 25 ∷ 32 ∷ 33 ∷ 42 ∷ 46 ∷ 54 ∷ 66 ∷ 67 ∷ 70 ∷ 72 ∷ 74 ∷ 77 ∷ 88 ∷ 89 ∷ 90 ∷ 91 ∷ 92 ∷ 93 ∷ 94 ∷ 95 ∷ []
conts prod = 19 ∷ 25 ∷ 32 ∷ 33 ∷ 42 ∷ 46 ∷ 54 ∷ 66 ∷ 67 ∷ 70 ∷ 72 ∷ 74 ∷ 77 ∷ 90 ∷ 91 ∷ 92 ∷ 93 ∷ 94 ∷ 95 ∷ []
conts term = conts_of_term
conts unary = conts_of_unary
conts power = conts_of_term
conts post = conts_of_unary
conts atom = 19 ∷ 25 ∷ 32 ∷ 33 ∷ 42 ∷ 54 ∷ 66 ∷ 67 ∷ []
conts unit10 = []
conts else_part = 21 ∷ []
conts suffix = []
conts after_name = []
conts after_longer = []
conts new_name = []
conts name_type = []
conts name_plain = []
conts new_longer = 46 ∷ 72 ∷ []
conts longer_type = 46 ∷ 72 ∷ []
conts longer_plain = 46 ∷ []

-- ---- what tokens a side may have

abbrev all_chars_of_base : List ℕ
all_chars_of_base =
    1 ∷ 2 ∷ 3 ∷ 4 ∷ 5 ∷ 11 ∷ 19 ∷ 24 ∷ 25 ∷ 29 ∷ 32 ∷ 33 ∷ 40 ∷ 42 ∷ 44 ∷ 46 ∷ 53 ∷ 54 ∷ 56 ∷ 58 ∷ 59 ∷ 60 ∷ 61 ∷ 63 ∷ 66 ∷ 67 ∷ 70 ∷ 71 ∷ 72 ∷ 73 ∷ 74 ∷ 75 ∷ 76 ∷ 77 ∷ 78 ∷ 79 ∷
    80 ∷ 82 ∷ 83 ∷ 84 ∷ 85 ∷ 86 ∷ 87 ∷ 88 ∷ 89 ∷ 90 ∷ 91 ∷ 92 ∷ 93 ∷ 94 ∷ 95 ∷ 101 ∷ 102 ∷ 103 ∷ []

abbrev all_chars_of_field : List ℕ
all_chars_of_field =
    1 ∷ 2 ∷ 3 ∷ 4 ∷ 5 ∷ 11 ∷ 19 ∷ 24 ∷ 25 ∷ 29 ∷ 32 ∷ 33 ∷ 40 ∷ 42 ∷ 44 ∷ 46 ∷ 53 ∷ 54 ∷ 56 ∷ 58 ∷ 59 ∷ 60 ∷ 61 ∷ 63 ∷ 66 ∷ 67 ∷ 70 ∷ 71 ∷ 72 ∷ 73 ∷ 74 ∷ 75 ∷ 76 ∷ 77 ∷ 78 ∷ 79 ∷
    80 ∷ 82 ∷ 83 ∷ 84 ∷ 85 ∷ 86 ∷ 87 ∷ 88 ∷ 89 ∷ 90 ∷ 91 ∷ 92 ∷ 93 ∷ 94 ∷ 95 ∷ 101 ∷ 102 ∷ 103 ∷ 104 ∷ []

abbrev all_chars_of_params : List ℕ
all_chars_of_params =
    1 ∷ 2 ∷ 3 ∷ 4 ∷ 5 ∷ 11 ∷ 14 ∷ 19 ∷ 24 ∷ 25 ∷ 29 ∷ 32 ∷ 33 ∷ 40 ∷ 41 ∷ 42 ∷ 44 ∷ 46 ∷ 53 ∷ 54 ∷ 55 ∷ 56 ∷ 58 ∷ 59 ∷ 60 ∷ 61 ∷ 63 ∷ 66 ∷ 67 ∷ 70 ∷ 71 ∷ 72 ∷ 73 ∷ 74 ∷ 75 ∷ 76 ∷
    77 ∷ 78 ∷ 79 ∷ 80 ∷ 82 ∷ 83 ∷ 84 ∷ 85 ∷ 86 ∷ 87 ∷ 88 ∷ 89 ∷ 90 ∷ 91 ∷ 92 ∷ 93 ∷ 94 ∷ 95 ∷ 101 ∷ 102 ∷ 103 ∷ []

abbrev all_chars_of_block : List ℕ
all_chars_of_block =
    1 ∷ 2 ∷ 3 ∷ 4 ∷ 5 ∷ 7 ∷ 8 ∷ 11 ∷ 13 ∷ 14 ∷ 17 ∷ 19 ∷ 20 ∷ 21 ∷ 22 ∷ 24 ∷ 25 ∷ 29 ∷ 30 ∷ 32 ∷ 33 ∷ 34 ∷ 40 ∷ 41 ∷ 42 ∷ 44 ∷ 46 ∷ 51 ∷ 53 ∷ 54 ∷ 55 ∷ 56 ∷ 58 ∷ 59 ∷ 60 ∷ 61 ∷
    62 ∷ 63 ∷ 66 ∷ 67 ∷ 68 ∷ 69 ∷ 70 ∷ 71 ∷ 72 ∷ 73 ∷ 74 ∷ 75 ∷ 76 ∷ 77 ∷ 78 ∷ 79 ∷ 80 ∷ 81 ∷ 82 ∷ 83 ∷ 84 ∷ 85 ∷ 86 ∷ 87 ∷ 88 ∷ 89 ∷ 90 ∷ 91 ∷ 92 ∷ 93 ∷ 94 ∷ 95 ∷ 96 ∷ 97 ∷ 98 ∷
    99 ∷ 100 ∷ 101 ∷ 102 ∷ 103 ∷ 104 ∷ []

abbrev all_chars_of_decl : List ℕ
all_chars_of_decl =
    1 ∷ 2 ∷ 3 ∷ 4 ∷ 5 ∷ 11 ∷ 14 ∷ 19 ∷ 24 ∷ 25 ∷ 29 ∷ 32 ∷ 33 ∷ 40 ∷ 41 ∷ 42 ∷ 44 ∷ 46 ∷ 53 ∷ 54 ∷ 55 ∷ 56 ∷ 58 ∷ 59 ∷ 60 ∷ 61 ∷ 63 ∷ 66 ∷ 67 ∷ 70 ∷ 71 ∷ 72 ∷ 73 ∷ 74 ∷ 75 ∷ 76 ∷
    77 ∷ 78 ∷ 79 ∷ 80 ∷ 81 ∷ 82 ∷ 83 ∷ 84 ∷ 85 ∷ 86 ∷ 87 ∷ 88 ∷ 89 ∷ 90 ∷ 91 ∷ 92 ∷ 93 ∷ 94 ∷ 95 ∷ 101 ∷ 102 ∷ 103 ∷ []

abbrev pub all_chars : Side → List ℕ
all_chars unit =
    1 ∷ 2 ∷ 3 ∷ 4 ∷ 5 ∷ 6 ∷ 7 ∷ 8 ∷ 10 ∷ 11 ∷ 12 ∷ 13 ∷ 14 ∷ 15 ∷ 16 ∷ 17 ∷ 18 ∷ 19 ∷ 20 ∷ 21 ∷ 22 ∷ 23 ∷ 24 ∷ 25 ∷ 26 ∷ 27 ∷ 28 ∷ 29 ∷ 30 ∷ 31 ∷ 32 ∷ 33 ∷ 34 ∷ 35 ∷ 36 ∷ 37 ∷ 38 ∷
    39 ∷ 40 ∷ 41 ∷ 42 ∷ 43 ∷ 44 ∷ 45 ∷ 46 ∷ 47 ∷ 48 ∷ 49 ∷ 50 ∷ 51 ∷ 52 ∷ 53 ∷ 54 ∷ 55 ∷ 56 ∷ 57 ∷ 58 ∷ 59 ∷ 60 ∷ 61 ∷ 62 ∷ 63 ∷ 64 ∷ 65 ∷ 66 ∷ 67 ∷ 68 ∷ 69 ∷ 70 ∷ 71 ∷ 72 ∷ 73 ∷
    74 ∷ 75 ∷ 76 ∷ 77 ∷ 78 ∷ 79 ∷ 80 ∷ 81 ∷ 82 ∷ 83 ∷ 84 ∷ 85 ∷ 86 ∷ 87 ∷ 88 ∷ 89 ∷ 90 ∷ 91 ∷ 92 ∷ 93 ∷ 94 ∷ 95 ∷ 96 ∷ 97 ∷ 98 ∷ 99 ∷ 100 ∷ 101 ∷ 102 ∷ 103 ∷ 104 ∷ []
all_chars file_const =
    1 ∷ 2 ∷ 3 ∷ 4 ∷ 5 ∷ 11 ∷ 15 ∷ 19 ∷ 24 ∷ 25 ∷ 29 ∷ 32 ∷ 33 ∷ 40 ∷ 42 ∷ 44 ∷ 46 ∷ 53 ∷ 54 ∷ 56 ∷ 58 ∷ 59 ∷ 60 ∷ 61 ∷ 63 ∷ 66 ∷ 67 ∷ 70 ∷ 71 ∷ 72 ∷ 73 ∷ 74 ∷ 75 ∷ 76 ∷ 77 ∷ 78 ∷
    79 ∷ 80 ∷ 81 ∷ 82 ∷ 83 ∷ 84 ∷ 85 ∷ 86 ∷ 87 ∷ 88 ∷ 89 ∷ 90 ∷ 91 ∷ 92 ∷ 93 ∷ 94 ∷ 95 ∷ 101 ∷ 102 ∷ 103 ∷ 104 ∷ []
all_chars contract =
    1 ∷ 2 ∷ 3 ∷ 4 ∷ 5 ∷ 7 ∷ 8 ∷ 10 ∷ 11 ∷ 12 ∷ 13 ∷ 14 ∷ 15 ∷ 16 ∷ 17 ∷ 18 ∷ 19 ∷ 20 ∷ 21 ∷ 22 ∷ 23 ∷ 24 ∷ 25 ∷ 26 ∷ 27 ∷ 28 ∷ 29 ∷ 30 ∷ 31 ∷ 32 ∷ 33 ∷ 34 ∷ 35 ∷ 36 ∷ 37 ∷ 38 ∷
    39 ∷ 40 ∷ 41 ∷ 42 ∷ 43 ∷ 44 ∷ 45 ∷ 46 ∷ 47 ∷ 48 ∷ 49 ∷ 50 ∷ 51 ∷ 52 ∷ 53 ∷ 54 ∷ 55 ∷ 56 ∷ 57 ∷ 58 ∷ 59 ∷ 60 ∷ 61 ∷ 62 ∷ 63 ∷ 64 ∷ 65 ∷ 66 ∷ 67 ∷ 68 ∷ 69 ∷ 70 ∷ 71 ∷ 72 ∷ 73 ∷
    74 ∷ 75 ∷ 76 ∷ 77 ∷ 78 ∷ 79 ∷ 80 ∷ 81 ∷ 82 ∷ 83 ∷ 84 ∷ 85 ∷ 86 ∷ 87 ∷ 88 ∷ 89 ∷ 90 ∷ 91 ∷ 92 ∷ 93 ∷ 94 ∷ 95 ∷ 96 ∷ 97 ∷ 98 ∷ 99 ∷ 100 ∷ 101 ∷ 102 ∷ 103 ∷ 104 ∷ []
all_chars bases =
    1 ∷ 2 ∷ 3 ∷ 4 ∷ 5 ∷ 11 ∷ 19 ∷ 24 ∷ 25 ∷ 29 ∷ 32 ∷ 33 ∷ 39 ∷ 40 ∷ 42 ∷ 44 ∷ 46 ∷ 53 ∷ 54 ∷ 56 ∷ 58 ∷ 59 ∷ 60 ∷ 61 ∷ 63 ∷ 66 ∷ 67 ∷ 70 ∷ 71 ∷ 72 ∷ 73 ∷ 74 ∷ 75 ∷ 76 ∷ 77 ∷ 78 ∷
    79 ∷ 80 ∷ 82 ∷ 83 ∷ 84 ∷ 85 ∷ 86 ∷ 87 ∷ 88 ∷ 89 ∷ 90 ∷ 91 ∷ 92 ∷ 93 ∷ 94 ∷ 95 ∷ 101 ∷ 102 ∷ 103 ∷ []
all_chars base = all_chars_of_base
all_chars part =
    1 ∷ 2 ∷ 3 ∷ 4 ∷ 5 ∷ 7 ∷ 8 ∷ 11 ∷ 12 ∷ 13 ∷ 14 ∷ 15 ∷ 16 ∷ 17 ∷ 19 ∷ 20 ∷ 21 ∷ 22 ∷ 23 ∷ 24 ∷ 25 ∷ 26 ∷ 27 ∷ 28 ∷ 29 ∷ 30 ∷ 31 ∷ 32 ∷ 33 ∷ 34 ∷ 35 ∷ 36 ∷ 38 ∷ 40 ∷ 41 ∷ 42 ∷
    43 ∷ 44 ∷ 45 ∷ 46 ∷ 47 ∷ 48 ∷ 49 ∷ 50 ∷ 51 ∷ 52 ∷ 53 ∷ 54 ∷ 55 ∷ 56 ∷ 57 ∷ 58 ∷ 59 ∷ 60 ∷ 61 ∷ 62 ∷ 63 ∷ 64 ∷ 65 ∷ 66 ∷ 67 ∷ 68 ∷ 69 ∷ 70 ∷ 71 ∷ 72 ∷ 73 ∷ 74 ∷ 75 ∷ 76 ∷ 77 ∷
    78 ∷ 79 ∷ 80 ∷ 81 ∷ 82 ∷ 83 ∷ 84 ∷ 85 ∷ 86 ∷ 87 ∷ 88 ∷ 89 ∷ 90 ∷ 91 ∷ 92 ∷ 93 ∷ 94 ∷ 95 ∷ 96 ∷ 97 ∷ 98 ∷ 99 ∷ 100 ∷ 101 ∷ 102 ∷ 103 ∷ 104 ∷ []
all_chars variable =
    1 ∷ 2 ∷ 3 ∷ 4 ∷ 5 ∷ 11 ∷ 15 ∷ 19 ∷ 24 ∷ 25 ∷ 29 ∷ 32 ∷ 33 ∷ 35 ∷ 38 ∷ 40 ∷ 42 ∷ 44 ∷ 45 ∷ 46 ∷ 47 ∷ 48 ∷ 53 ∷ 54 ∷ 56 ∷ 58 ∷ 59 ∷ 60 ∷ 61 ∷ 63 ∷ 66 ∷ 67 ∷ 70 ∷ 71 ∷ 72 ∷ 73 ∷
    74 ∷ 75 ∷ 76 ∷ 77 ∷ 78 ∷ 79 ∷ 80 ∷ 81 ∷ 82 ∷ 83 ∷ 84 ∷ 85 ∷ 86 ∷ 87 ∷ 88 ∷ 89 ∷ 90 ∷ 91 ∷ 92 ∷ 93 ∷ 94 ∷ 95 ∷ 101 ∷ 102 ∷ 103 ∷ 104 ∷ []
all_chars var_word = 15 ∷ 35 ∷ 38 ∷ 47 ∷ 48 ∷ []
all_chars function =
    1 ∷ 2 ∷ 3 ∷ 4 ∷ 5 ∷ 7 ∷ 8 ∷ 11 ∷ 13 ∷ 14 ∷ 17 ∷ 19 ∷ 20 ∷ 21 ∷ 22 ∷ 24 ∷ 25 ∷ 27 ∷ 29 ∷ 30 ∷ 31 ∷ 32 ∷ 33 ∷ 34 ∷ 38 ∷ 40 ∷ 41 ∷ 42 ∷ 44 ∷ 45 ∷ 46 ∷ 47 ∷ 48 ∷ 49 ∷ 51 ∷ 52 ∷
    53 ∷ 54 ∷ 55 ∷ 56 ∷ 58 ∷ 59 ∷ 60 ∷ 61 ∷ 62 ∷ 63 ∷ 64 ∷ 65 ∷ 66 ∷ 67 ∷ 68 ∷ 69 ∷ 70 ∷ 71 ∷ 72 ∷ 73 ∷ 74 ∷ 75 ∷ 76 ∷ 77 ∷ 78 ∷ 79 ∷ 80 ∷ 81 ∷ 82 ∷ 83 ∷ 84 ∷ 85 ∷ 86 ∷ 87 ∷ 88 ∷
    89 ∷ 90 ∷ 91 ∷ 92 ∷ 93 ∷ 94 ∷ 95 ∷ 96 ∷ 97 ∷ 98 ∷ 99 ∷ 100 ∷ 101 ∷ 102 ∷ 103 ∷ 104 ∷ []
all_chars ctor =
    1 ∷ 2 ∷ 3 ∷ 4 ∷ 5 ∷ 7 ∷ 8 ∷ 11 ∷ 13 ∷ 14 ∷ 16 ∷ 17 ∷ 19 ∷ 20 ∷ 21 ∷ 22 ∷ 24 ∷ 25 ∷ 27 ∷ 29 ∷ 30 ∷ 32 ∷ 33 ∷ 34 ∷ 38 ∷ 40 ∷ 41 ∷ 42 ∷ 44 ∷ 45 ∷ 46 ∷ 47 ∷ 48 ∷ 49 ∷ 51 ∷ 53 ∷
    54 ∷ 55 ∷ 56 ∷ 58 ∷ 59 ∷ 60 ∷ 61 ∷ 62 ∷ 63 ∷ 64 ∷ 65 ∷ 66 ∷ 67 ∷ 68 ∷ 69 ∷ 70 ∷ 71 ∷ 72 ∷ 73 ∷ 74 ∷ 75 ∷ 76 ∷ 77 ∷ 78 ∷ 79 ∷ 80 ∷ 81 ∷ 82 ∷ 83 ∷ 84 ∷ 85 ∷ 86 ∷ 87 ∷ 88 ∷ 89 ∷
    90 ∷ 91 ∷ 92 ∷ 93 ∷ 94 ∷ 95 ∷ 96 ∷ 97 ∷ 98 ∷ 99 ∷ 100 ∷ 101 ∷ 102 ∷ 103 ∷ 104 ∷ []
all_chars special =
    1 ∷ 2 ∷ 3 ∷ 4 ∷ 5 ∷ 7 ∷ 8 ∷ 11 ∷ 13 ∷ 14 ∷ 17 ∷ 19 ∷ 20 ∷ 21 ∷ 22 ∷ 24 ∷ 25 ∷ 27 ∷ 28 ∷ 29 ∷ 30 ∷ 32 ∷ 33 ∷ 34 ∷ 38 ∷ 40 ∷ 41 ∷ 42 ∷ 44 ∷ 45 ∷ 46 ∷ 47 ∷ 48 ∷ 49 ∷ 50 ∷ 51 ∷
    53 ∷ 54 ∷ 55 ∷ 56 ∷ 58 ∷ 59 ∷ 60 ∷ 61 ∷ 62 ∷ 63 ∷ 64 ∷ 65 ∷ 66 ∷ 67 ∷ 68 ∷ 69 ∷ 70 ∷ 71 ∷ 72 ∷ 73 ∷ 74 ∷ 75 ∷ 76 ∷ 77 ∷ 78 ∷ 79 ∷ 80 ∷ 81 ∷ 82 ∷ 83 ∷ 84 ∷ 85 ∷ 86 ∷ 87 ∷ 88 ∷
    89 ∷ 90 ∷ 91 ∷ 92 ∷ 93 ∷ 94 ∷ 95 ∷ 96 ∷ 97 ∷ 98 ∷ 99 ∷ 100 ∷ 101 ∷ 102 ∷ 103 ∷ 104 ∷ []
all_chars modifier =
    1 ∷ 2 ∷ 3 ∷ 4 ∷ 5 ∷ 7 ∷ 8 ∷ 11 ∷ 13 ∷ 14 ∷ 17 ∷ 19 ∷ 20 ∷ 21 ∷ 22 ∷ 24 ∷ 25 ∷ 29 ∷ 30 ∷ 32 ∷ 33 ∷ 34 ∷ 40 ∷ 41 ∷ 42 ∷ 43 ∷ 44 ∷ 45 ∷ 46 ∷ 51 ∷ 53 ∷ 54 ∷ 55 ∷ 56 ∷ 58 ∷ 59 ∷
    60 ∷ 61 ∷ 62 ∷ 63 ∷ 65 ∷ 66 ∷ 67 ∷ 68 ∷ 69 ∷ 70 ∷ 71 ∷ 72 ∷ 73 ∷ 74 ∷ 75 ∷ 76 ∷ 77 ∷ 78 ∷ 79 ∷ 80 ∷ 81 ∷ 82 ∷ 83 ∷ 84 ∷ 85 ∷ 86 ∷ 87 ∷ 88 ∷ 89 ∷ 90 ∷ 91 ∷ 92 ∷ 93 ∷ 94 ∷ 95 ∷
    96 ∷ 97 ∷ 98 ∷ 99 ∷ 100 ∷ 101 ∷ 102 ∷ 103 ∷ 104 ∷ []
all_chars head =
    1 ∷ 2 ∷ 3 ∷ 4 ∷ 5 ∷ 11 ∷ 19 ∷ 24 ∷ 25 ∷ 27 ∷ 29 ∷ 32 ∷ 33 ∷ 38 ∷ 40 ∷ 42 ∷ 44 ∷ 45 ∷ 46 ∷ 47 ∷ 48 ∷ 49 ∷ 53 ∷ 54 ∷ 56 ∷ 58 ∷ 59 ∷ 60 ∷ 61 ∷ 63 ∷ 64 ∷ 65 ∷ 66 ∷ 67 ∷ 70 ∷ 71 ∷
    72 ∷ 73 ∷ 74 ∷ 75 ∷ 76 ∷ 77 ∷ 78 ∷ 79 ∷ 80 ∷ 82 ∷ 83 ∷ 84 ∷ 85 ∷ 86 ∷ 87 ∷ 88 ∷ 89 ∷ 90 ∷ 91 ∷ 92 ∷ 93 ∷ 94 ∷ 95 ∷ 101 ∷ 102 ∷ 103 ∷ []
all_chars over = 1 ∷ 24 ∷ 45 ∷ 53 ∷ 63 ∷ 70 ∷ 71 ∷ 76 ∷ []
all_chars struct =
    1 ∷ 2 ∷ 3 ∷ 4 ∷ 5 ∷ 11 ∷ 19 ∷ 24 ∷ 25 ∷ 29 ∷ 32 ∷ 33 ∷ 40 ∷ 42 ∷ 44 ∷ 46 ∷ 53 ∷ 54 ∷ 56 ∷ 57 ∷ 58 ∷ 59 ∷ 60 ∷ 61 ∷ 63 ∷ 66 ∷ 67 ∷ 70 ∷ 71 ∷ 72 ∷ 73 ∷ 74 ∷ 75 ∷ 76 ∷ 77 ∷ 78 ∷
    79 ∷ 80 ∷ 82 ∷ 83 ∷ 84 ∷ 85 ∷ 86 ∷ 87 ∷ 88 ∷ 89 ∷ 90 ∷ 91 ∷ 92 ∷ 93 ∷ 94 ∷ 95 ∷ 101 ∷ 102 ∷ 103 ∷ 104 ∷ []
all_chars field = all_chars_of_field
all_chars enum = 1 ∷ 23 ∷ 24 ∷ 53 ∷ 63 ∷ 74 ∷ 75 ∷ 76 ∷ []
all_chars event =
    1 ∷ 2 ∷ 3 ∷ 4 ∷ 5 ∷ 11 ∷ 12 ∷ 19 ∷ 24 ∷ 25 ∷ 26 ∷ 29 ∷ 32 ∷ 33 ∷ 36 ∷ 40 ∷ 42 ∷ 44 ∷ 46 ∷ 53 ∷ 54 ∷ 56 ∷ 58 ∷ 59 ∷ 60 ∷ 61 ∷ 63 ∷ 66 ∷ 67 ∷ 70 ∷ 71 ∷ 72 ∷ 73 ∷ 74 ∷ 75 ∷ 76 ∷
    77 ∷ 78 ∷ 79 ∷ 80 ∷ 82 ∷ 83 ∷ 84 ∷ 85 ∷ 86 ∷ 87 ∷ 88 ∷ 89 ∷ 90 ∷ 91 ∷ 92 ∷ 93 ∷ 94 ∷ 95 ∷ 101 ∷ 102 ∷ 103 ∷ 104 ∷ []
all_chars ev_par =
    1 ∷ 2 ∷ 3 ∷ 4 ∷ 5 ∷ 11 ∷ 19 ∷ 24 ∷ 25 ∷ 29 ∷ 32 ∷ 33 ∷ 36 ∷ 40 ∷ 42 ∷ 44 ∷ 46 ∷ 53 ∷ 54 ∷ 56 ∷ 58 ∷ 59 ∷ 60 ∷ 61 ∷ 63 ∷ 66 ∷ 67 ∷ 70 ∷ 71 ∷ 72 ∷ 73 ∷ 74 ∷ 75 ∷ 76 ∷ 77 ∷ 78 ∷
    79 ∷ 80 ∷ 82 ∷ 83 ∷ 84 ∷ 85 ∷ 86 ∷ 87 ∷ 88 ∷ 89 ∷ 90 ∷ 91 ∷ 92 ∷ 93 ∷ 94 ∷ 95 ∷ 101 ∷ 102 ∷ 103 ∷ []
all_chars error = all_chars_of_field
all_chars er_par = all_chars_of_base
all_chars params = all_chars_of_params
all_chars param = all_chars_of_params
all_chars location = 14 ∷ 41 ∷ 55 ∷ []
all_chars type = all_chars_of_base
all_chars plain = all_chars_of_base
all_chars note_line =
    1 ∷ 2 ∷ 3 ∷ 4 ∷ 5 ∷ 7 ∷ 8 ∷ 11 ∷ 19 ∷ 24 ∷ 25 ∷ 29 ∷ 32 ∷ 33 ∷ 40 ∷ 42 ∷ 44 ∷ 46 ∷ 53 ∷ 54 ∷ 56 ∷ 58 ∷ 59 ∷ 60 ∷ 61 ∷ 63 ∷ 66 ∷ 67 ∷ 70 ∷ 71 ∷ 72 ∷ 73 ∷ 74 ∷ 75 ∷ 76 ∷ 77 ∷
    78 ∷ 79 ∷ 80 ∷ 82 ∷ 83 ∷ 84 ∷ 85 ∷ 86 ∷ 87 ∷ 88 ∷ 89 ∷ 90 ∷ 91 ∷ 92 ∷ 93 ∷ 94 ∷ 95 ∷ 101 ∷ 102 ∷ 103 ∷ []
all_chars block = all_chars_of_block
all_chars stmt = all_chars_of_block
all_chars body = all_chars_of_block
all_chars if = all_chars_of_block
all_chars while = all_chars_of_block
all_chars while_word = 68 ∷ []
all_chars for = all_chars_of_block
all_chars for_word = 30 ∷ []
all_chars simple =
    1 ∷ 2 ∷ 3 ∷ 4 ∷ 5 ∷ 11 ∷ 13 ∷ 14 ∷ 17 ∷ 19 ∷ 20 ∷ 22 ∷ 24 ∷ 25 ∷ 29 ∷ 32 ∷ 33 ∷ 40 ∷ 41 ∷ 42 ∷ 44 ∷ 46 ∷ 51 ∷ 53 ∷ 54 ∷ 55 ∷ 56 ∷ 58 ∷ 59 ∷ 60 ∷ 61 ∷ 63 ∷ 66 ∷ 67 ∷ 69 ∷ 70 ∷
    71 ∷ 72 ∷ 73 ∷ 74 ∷ 75 ∷ 76 ∷ 77 ∷ 78 ∷ 79 ∷ 80 ∷ 81 ∷ 82 ∷ 83 ∷ 84 ∷ 85 ∷ 86 ∷ 87 ∷ 88 ∷ 89 ∷ 90 ∷ 91 ∷ 92 ∷ 93 ∷ 94 ∷ 95 ∷ 96 ∷ 97 ∷ 98 ∷ 99 ∷ 100 ∷ 101 ∷ 102 ∷ 103 ∷ []
all_chars return =
    1 ∷ 2 ∷ 3 ∷ 4 ∷ 5 ∷ 11 ∷ 19 ∷ 24 ∷ 25 ∷ 29 ∷ 32 ∷ 33 ∷ 40 ∷ 42 ∷ 44 ∷ 46 ∷ 51 ∷ 53 ∷ 54 ∷ 56 ∷ 58 ∷ 59 ∷ 60 ∷ 61 ∷ 63 ∷ 66 ∷ 67 ∷ 70 ∷ 71 ∷ 72 ∷ 73 ∷ 74 ∷ 75 ∷ 76 ∷ 77 ∷ 78 ∷
    79 ∷ 80 ∷ 82 ∷ 83 ∷ 84 ∷ 85 ∷ 86 ∷ 87 ∷ 88 ∷ 89 ∷ 90 ∷ 91 ∷ 92 ∷ 93 ∷ 94 ∷ 95 ∷ 101 ∷ 102 ∷ 103 ∷ []
all_chars decl = all_chars_of_decl
all_chars tuple = all_chars_of_decl
all_chars slot = all_chars_of_params
all_chars action =
    1 ∷ 2 ∷ 3 ∷ 4 ∷ 5 ∷ 11 ∷ 19 ∷ 20 ∷ 24 ∷ 25 ∷ 29 ∷ 32 ∷ 33 ∷ 40 ∷ 42 ∷ 44 ∷ 46 ∷ 53 ∷ 54 ∷ 56 ∷ 58 ∷ 59 ∷ 60 ∷ 61 ∷ 63 ∷ 66 ∷ 67 ∷ 70 ∷ 71 ∷ 72 ∷ 73 ∷ 74 ∷ 75 ∷ 76 ∷ 77 ∷ 78 ∷
    79 ∷ 80 ∷ 81 ∷ 82 ∷ 83 ∷ 84 ∷ 85 ∷ 86 ∷ 87 ∷ 88 ∷ 89 ∷ 90 ∷ 91 ∷ 92 ∷ 93 ∷ 94 ∷ 95 ∷ 96 ∷ 97 ∷ 98 ∷ 99 ∷ 100 ∷ 101 ∷ 102 ∷ 103 ∷ []
all_chars assign_op = 81 ∷ 96 ∷ 97 ∷ 98 ∷ 99 ∷ 100 ∷ []
all_chars args = all_chars_of_base
all_chars expr = all_chars_of_base
all_chars or = all_chars_of_base
all_chars and = all_chars_of_base
all_chars same = all_chars_of_base
all_chars less = all_chars_of_base
all_chars sum = all_chars_of_base
all_chars prod = all_chars_of_base
all_chars term = all_chars_of_base
all_chars unary = all_chars_of_base
all_chars power = all_chars_of_base
all_chars post = all_chars_of_base
all_chars atom = all_chars_of_base
all_chars unit10 = 19 ∷ 25 ∷ 32 ∷ 33 ∷ 42 ∷ 54 ∷ 66 ∷ 67 ∷ []
all_chars else_part = all_chars_of_block
all_chars suffix = all_chars_of_base
all_chars after_name = all_chars_of_base
all_chars after_longer = all_chars_of_base
all_chars new_name = 1 ∷ 24 ∷ 44 ∷ 53 ∷ 63 ∷ []
all_chars name_type = 1 ∷ 24 ∷ 53 ∷ 63 ∷ []
all_chars name_plain = 1 ∷ 24 ∷ 53 ∷ 63 ∷ []
all_chars new_longer = all_chars_of_base
all_chars longer_type = all_chars_of_base
all_chars longer_plain = all_chars_of_base

-- ---- the check

-- in how many rounds the tables are found
abbrev pub rounds : ℕ
rounds = 16

pub checked : (s : Side) → is_checked rules nulls firsts conts all_chars rounds s ≡ true
unfolding is_checked nulls_at firsts_at made_at but_semicolon
checked unit = refl
checked _ = refl

-- ---- the sides, numbered

abbrev pub sides : List Side
sides =
    unit ∷ file_const ∷ contract ∷ bases ∷ base ∷ part ∷ variable ∷ var_word ∷ function ∷ ctor ∷ special ∷ modifier ∷ head ∷ over ∷ struct ∷ field ∷ enum ∷ event ∷ ev_par ∷ error ∷
    er_par ∷ params ∷ param ∷ location ∷ type ∷ plain ∷ note_line ∷ block ∷ stmt ∷ body ∷ if ∷ while ∷ while_word ∷ for ∷ for_word ∷ simple ∷ return ∷ decl ∷ tuple ∷ slot ∷
    action ∷ assign_op ∷ args ∷ expr ∷ or ∷ and ∷ same ∷ less ∷ sum ∷ prod ∷ term ∷ unary ∷ power ∷ post ∷ atom ∷ unit10 ∷ else_part ∷ suffix ∷ after_name ∷ after_longer ∷
    new_name ∷ name_type ∷ name_plain ∷ new_longer ∷ longer_type ∷ longer_plain ∷ []

abbrev pub number : Side → ℕ
number unit = 0
number file_const = 1
number contract = 2
number bases = 3
number base = 4
number part = 5
number variable = 6
number var_word = 7
number function = 8
number ctor = 9
number special = 10
number modifier = 11
number head = 12
number over = 13
number struct = 14
number field = 15
number enum = 16
number event = 17
number ev_par = 18
number error = 19
number er_par = 20
number params = 21
number param = 22
number location = 23
number type = 24
number plain = 25
number note_line = 26
number block = 27
number stmt = 28
number body = 29
number if = 30
number while = 31
number while_word = 32
number for = 33
number for_word = 34
number simple = 35
number return = 36
number decl = 37
number tuple = 38
number slot = 39
number action = 40
number assign_op = 41
number args = 42
number expr = 43
number or = 44
number and = 45
number same = 46
number less = 47
number sum = 48
number prod = 49
number term = 50
number unary = 51
number power = 52
number post = 53
number atom = 54
number unit10 = 55
number else_part = 56
number suffix = 57
number after_name = 58
number after_longer = 59
number new_name = 60
number name_type = 61
number name_plain = 62
number new_longer = 63
number longer_type = 64
number longer_plain = 65

pub numbered : (s : Side) → slice_get sides (number s) ≡ Some s
numbered unit = refl
numbered _ = refl
