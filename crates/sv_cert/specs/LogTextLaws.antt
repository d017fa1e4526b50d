-- Believed: what the laws of texts say. Hold it against the definitions that they name.
use Rattle.std.specs.Prelude.{ℕ, List, ◌≡◌}
use Rattle.sv_log.specs.LogEntries.{Entry}
use Rattle.sv_cert.specs.LogText.{text_of, AreEntries, IsFaultyAfter}

-- A text is the text of one list of entries at most; then it has no faulty line; and a text has one first faulty line at most.
pub record TextsAreExact : Type 0 where
  pub one : (es fs : List Entry) → AreEntries es → AreEntries fs → text_of es ≡ text_of fs → es ≡ fs
  pub whole : (es : List Entry) (n : ℕ) → AreEntries es → IsFaultyAfter (text_of es) n → ⊥
  pub first : (text : List ℕ) (m n : ℕ) → IsFaultyAfter text m → IsFaultyAfter text n → m ≡ n
