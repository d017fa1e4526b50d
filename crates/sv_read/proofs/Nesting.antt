-- Where the parts of a part may be read.
use Rattle.std.proofs.Common.{◌≡◌, ℕ, ◌<◌, ◌≤◌, Bool, true, false, refl, arith}
use Rattle.std.specs.Prelude.{◌&&◌, ◌||◌}
use Rattle.sv_grammar.specs.Grammar.{Part, Tree}
use Rattle.sv_grammar.specs.Reading.{nullable}
use Rattle.sv_ast.specs.Syntax.{Side}
use Rattle.sv_ast.specs.Firsts.{nulls}
use Rattle.sv_read.specs.Here.{Here}
use Rattle.sv_read.specs.Nesting.{IsBehind, MayRead}
use Rattle.sv_read.specs.PartReading.{Gives}
use Rattle.sv_read.proofs.Moving.{moves}

behind_first : (b d : Bool) (floor at : ℕ) → IsBehind (b || d) floor at → IsBehind b floor at
behind_first true d floor at h = h
behind_first false true floor at h = omega arith
behind_first false false floor at h = h

behind_second : (b d : Bool) (floor at : ℕ) → IsBehind (b || d) floor at → IsBehind d floor at
behind_second true true floor at h = h
behind_second true false floor at h = omega arith
behind_second false d floor at h = h

behind_more : (b : Bool) (floor at to : ℕ) → at ≤ to → IsBehind b floor at → IsBehind b floor to
behind_more true floor at to o h = omega arith
behind_more false floor at to o h = omega arith

behind_moved : (b d : Bool) (floor at to : ℕ) → at < to → IsBehind b floor at → IsBehind d floor to
behind_moved true true floor at to o h = omega arith
behind_moved true false floor at to o h = omega arith
behind_moved false true floor at to o h = omega arith
behind_moved false false floor at to o h = omega arith

-- ---- parts

pub may_first : {may_nest : Type 0} {floor at : ℕ} (b d : Bool) → MayRead may_nest floor (b || d) at → MayRead may_nest floor b at
may_first {floor} {at} b d m = record { nests = m.nests; behind = behind_first b d floor at m.behind }

pub may_other : {may_nest : Type 0} {floor at : ℕ} (b d : Bool) → MayRead may_nest floor (b || d) at → MayRead may_nest floor d at
may_other {floor} {at} b d m = record { nests = m.nests; behind = behind_second b d floor at m.behind }

pub may_second : {may_nest : Type 0} {floor : ℕ} (b d : Bool) {a : Part Side} {old mid : Here} {t : Tree} → MayRead may_nest floor (b || (nullable nulls a && d)) old.at → Gives a old t mid → MayRead may_nest floor d mid.at
may_second {floor} b d {a} {old} {mid} m p = record { nests = m.nests; behind = by_case (nullable nulls a) refl }
  where
    by_case : (v : Bool) → nullable nulls a ≡ v → IsBehind d floor mid.at
    by_case false e = behind_moved (b || (nullable nulls a && d)) d floor old.at mid.at ((moves e p).0) m.behind
    by_case true e = behind_more d floor old.at mid.at p.ordered (behind_second b d floor old.at (rw e at m.behind))

pub may_on : {may_nest : Type 0} {floor at to : ℕ} {b : Bool} → MayRead may_nest floor b at → at ≤ to → MayRead may_nest floor b to
may_on {floor} {at} {to} {b} m o = record { nests = m.nests; behind = behind_more b floor at to o m.behind }

pub may_behind : {may_nest : Type 0} {floor at to : ℕ} {b d : Bool} → MayRead may_nest floor b at → at < to → MayRead may_nest floor d to
may_behind {floor} {at} {to} {b} {d} m o = record { nests = m.nests; behind = behind_moved b d floor at to o m.behind }
