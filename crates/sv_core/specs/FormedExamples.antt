-- Serves the proof: contracts that are formed, so that the condition isn't one that nothing meets.
use Rattle.std.specs.Prelude.{ℕ, true, false, List, [], ◌∷◌, Some, None}
use Rattle.sv_type.specs.declared.info.TypeInfo.{TypeInfo}
use Rattle.sv_type.specs.declared.info.TypeInfo.TheVariants as info
use Rattle.sv_core.specs.declared.contract.LocalInfo.{LocalInfo}
use Rattle.sv_core.specs.declared.contract.VarKind.TheVariants.{State}
use Rattle.sv_core.specs.declared.expr.Loc.TheVariants.{Value}
use Rattle.sv_core.specs.declared.expr.Op.TheVariants.{Le, Eq}
use Rattle.sv_core.specs.PlainCode as code
use Rattle.sv_core.specs.PlainCode.{Expr, Kind}
use Rattle.sv_core.specs.PlainCore.{Contract, Variable, Function, Constructor, Modifier, Use}
use Rattle.sv_core.specs.Formed.{Formed}

abbrev pub node : ℕ → Kind → Expr
node t kind = code.Node (record { line = 1; col = 1 }) t kind

-- bool and uint256
abbrev pub two_types : List TypeInfo
two_types = info.Bool ∷ info.Uint 256 ∷ []

abbrev pub stored : Expr
stored = node 1 (code.State 0)

abbrev pub given : Expr
given = node 1 (code.Local 0)

abbrev pub at_most_ten : Expr → Expr
at_most_ten e = node 0 (code.Binary Le e (node 1 (code.Num false 10)))

abbrev pub parameter : LocalInfo
parameter = record { name = Some 2; t = 1; loc = Value }

-- modifier small(uint256 v) { require(v <= 10); _; }
abbrev pub small : Modifier
small =
    record {
      name = 4;
      owner = 0;
      locals = parameter ∷ [];
      params = 1;
      body = code.Then (code.Numbered 1 (record { line = 1; col = 1 }) (code.Require (at_most_ten given))) (code.Then (code.Numbered 2 (record { line = 1; col = 1 }) code.Rest) code.Done);
    }

abbrev pub the_use : Use
the_use = record { which = 0; args = given ∷ [] }

-- precondition v <= 10, postcondition x == v: function set(uint256 v) public small(v) { x = v; }
abbrev pub set : Function
set =
    record {
      name = 3;
      owner = 0;
      public = true;
      payable = false;
      top = true;
      locals = parameter ∷ [];
      params = 1;
      results = 0;
      uses = the_use ∷ [];
      pre = at_most_ten given ∷ [];
      post = node 0 (code.Binary Eq stored given) ∷ [];
      body = code.Then (code.Numbered 1 (record { line = 1; col = 1 }) (code.Set stored given)) code.Done;
    }

abbrev pub the_variable : Variable
the_variable = record { name = 1; owner = 0; t = 1; kind = State; init = None }

-- the constructor that isn't written
abbrev pub unwritten : Constructor
unwritten = record { owner = 0; payable = false; locals = []; params = 0; base_args = []; body = code.Done }

-- invariant x <= 10: contract Q { uint256 x; with the modifier and the function }
abbrev pub setter : Contract
setter =
    record {
      name = 0;
      number = 0;
      line = 0 ∷ [];
      owners = 0 ∷ [];
      types = two_types;
      vars = the_variable ∷ [];
      ctors = unwritten ∷ [];
      funcs = set ∷ [];
      mods = small ∷ [];
      invariants = at_most_ten stored ∷ [];
    }

abbrev pub SetterIsFormed : Type 0
SetterIsFormed = Formed setter
