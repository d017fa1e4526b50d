use Rattle.std.proofs.Common.{◌≡◌, ◌-◌, ◌↔◌}
use Rattle.sv_row.specs.RowParts.{monomials}
use Rattle.sv_form_rows.specs.Listings.{listing, gaps}
use Rattle.sv_form_rows.proofs.difference.is_listing.Given as goal

-- the parts are the listing exactly where the rest is that of the columns that are left
abbrev pub invariant-loop-column : goal.invariant-loop-column
invariant-loop-column l =
    (monomials l.parts ≡ listing (gaps l.first l.second) 0 l.count) ↔ (monomials l.rest ≡ listing (gaps l.first l.second) l.column (l.count - l.column))
