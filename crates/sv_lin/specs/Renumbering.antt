-- Believed: entries on rows, renumbered for a log that holds the rows at other places. Hold it against the numbering of items.
use Rattle.std.specs.Prelude.{ℕ, ◌+◌, ◌-◌, cond, nat_lt, false, List, map, length, ◌≡◌, Some, slice_get}
use Rattle.std.specs.List.{Contains}
use Rattle.sv_log.specs.LogEntries.{Row, Entry, AddTerm, AddFact, Linear, Combine, Divide, SplitOn, Cut, CloseAt, Clash}
use Rattle.sv_log.specs.Logs.{State, Bound, IsAccepted}
use Rattle.sv_lin.specs.Eliminations.{HaveColumns, AreEntriesOn}

-- the place of an item: given rows where f says, made ones behind the n items
abbrev pub place_of : (ℕ → ℕ) → ℕ → ℕ → ℕ → ℕ
place_of f given n i = cond (nat_lt i given) (f i) (n + (i - given))

abbrev pub renumbered : (ℕ → ℕ) → Entry → Entry
renumbered g (Combine m p n q r) = Combine m (g p) n (g q) r
renumbered g (Divide d p r) = Divide d (g p) r
renumbered g (AddTerm node) = AddTerm node
renumbered g (AddFact rule sign n from) = AddFact rule sign n (map g from)
renumbered g (Linear p forward r) = Linear (g p) forward r
renumbered g (SplitOn n) = SplitOn n
renumbered g Cut = Cut
renumbered g (CloseAt p) = CloseAt (g p)
renumbered g (Clash p q) = Clash (g p) (g q)

-- the open branch has the row of number i at the item f i, and no other rows
pub record HoldsRows (s : State) (rows : List Row) (f : ℕ → ℕ) : Type 0 where
  pub open_branch : s.closed ≡ false
  pub columns : HaveColumns (length s.terms) rows
  pub places : (i : ℕ) (r : Row) → slice_get rows i ≡ Some r → slice_get s.items (f i) ≡ Some (Bound r)
  pub only : (r : Row) → Contains s.items (Bound r) → Contains rows r

-- entries on the rows are accepted there, once they are renumbered
abbrev pub RenumberedAreAccepted : Type 0
RenumberedAreAccepted = (s : State) (rows : List Row) (f : ℕ → ℕ) (es : List Entry)
    → HoldsRows s rows f → AreEntriesOn rows es → IsAccepted s (map (renumbered (place_of f (length rows) (length s.items))) es)
