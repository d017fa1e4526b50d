-- Believed: what contracts see of an adapter over a reader or a writer of std. Hold it against std's documentation of `Read` and `Write`.
use Rattle.std.specs.Prelude.{ℕ, List}
use Rattle.std.specs.declared.option.Option.{Option}

-- the bytes that the reader has left or the writer holds, where it says; how many calls were made, and how
-- many failed
pub record Stream : Type 0 where
  pub known : Option (List ℕ)
  pub calls : ℕ
  pub faults : ℕ
