-- Serves the proof: chains of places whose codes have one remainder.
use Rattle.std.specs.Prelude.{ℕ, zero, suc, ◌<◌, ◌≤◌, ◌-◌, ◌%◌, cond, nat_eq, List, ◌≡◌, slice_index, length}

-- 1 more than the last place below n whose code leaves h by the width, or 0
abbrev pub latest : ℕ → List ℕ → ℕ → ℕ → ℕ
latest w codes h zero = 0
latest w codes h (suc n) = cond (nat_eq (slice_index codes n % w) h) (suc n) (latest w codes h n)

-- each link leads to the place before
pub record AreLinked (w : ℕ) (codes links : List ℕ) : Type 0 where
  pub size : length links ≡ length codes
  pub link : (k : ℕ) → k < length codes → slice_index links k ≡ latest w codes (slice_index codes k % w) k

-- each head leads to the last place of its remainder
pub record IsChained (codes links heads : List ℕ) : Type 0 where
  pub some : 0 < length heads
  pub links_are : AreLinked (length heads) codes links
  pub head : (h : ℕ) → h < length heads → slice_index heads h ≡ latest (length heads) codes h (length codes)

-- the chain from this start has all places below it whose code may be this
pub record LeadsDown (codes links : List ℕ) (start code : ℕ) : Type 0 where
  pub width : ℕ
  pub links_are : AreLinked width codes links
  pub within : start ≤ length codes
  pub bucket : 0 < start → slice_index codes (start - 1) % width ≡ code % width
