-- A left side of the grammar is not read where it can't begin with the next token.
use Rattle.std.proofs.Common.{◌≡◌, ℕ, true, false, List, refl}
use Rattle.sv_grammar.specs.Grammar.{Token, Part, side, elem}
use Rattle.sv_grammar.specs.Reading.{fault, next, nullable, first, Reads}
use Rattle.sv_ast.specs.Syntax.{Side, rules}
use Rattle.sv_ast.specs.Syntax as g
use Rattle.sv_ast.specs.Firsts.{nulls, firsts}
use Rattle.sv_ast.proofs.Apart.{right_tables}
use Rattle.sv_ast.proofs.Nothing.{open_part, open_side, not_read}

-- how deep sides are in one another where a list may begin
abbrev pub deep : ℕ
deep = 16

all_open : (s : Side) → open_side right_tables deep s ≡ true
all_open g.unit = refl
all_open _ = refl

pub no_side_read : (s : Side) {ts : List Token} → nulls s ≡ false → elem (next ts) (firsts s) ≡ false → Reads rules nulls firsts (side s) ts (fault ts)
no_side_read s h e = not_read right_tables deep (side s) (all_open s) h e

-- a part, by a test that computes
pub no_part_read : (a : Part Side) {ts : List Token} → open_part right_tables (open_side right_tables deep) a ≡ true → nullable nulls a ≡ false → elem (next ts) (first nulls firsts a) ≡ false → Reads rules nulls firsts a ts (fault ts)
no_part_read a h i e = not_read right_tables deep a h i e
