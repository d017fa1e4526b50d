-- Believed: that rows which are made from rows in normal form are in normal form. Hold it against the definitions that it cites.
use Rattle.std.specs.Prelude.{ℤ}
use Rattle.sv_log.specs.LogEntries.{Row}
use Rattle.sv_log.specs.LogRows.{IsCombined, IsDivided}
use Rattle.sv_row.specs.RowParts.{IsNormal}

pub record RowsStayNormal : Type 0 where
  pub combined : (m n : ℤ) (r s t : Row) → IsCombined m r n s t → IsNormal s.parts → IsNormal t.parts
  pub divided : (d : ℤ) (r t : Row) → IsDivided d r t → IsNormal r.parts → IsNormal t.parts
