-- Serves the proof: what the readers of a line give, and what the writers of one add.
use Rattle.std.specs.Prelude.{ℕ, ℤ, map, Bool, true, false, cond, not, nat_eq, List, [], ◌∷◌, ◌++◌, ◌≡◌, Option, None, Some, Result, Ok, Err, MatchOption, OnOk}
use Rattle.std.specs.List.{list_all}
use Rattle.sv_log.specs.LogEntries.{Monomial}
use Rattle.sv_cert.specs.LogText.{Word}
use Rattle.sv_cert.specs.PlainLogs.{plain_monomial}
use Rattle.sv_cert.specs.LogReading.{words_in}
use Rattle.sv_cert.specs.declared.read.stop.Stop.{Stop}
use Rattle.sv_cert.specs.declared.read.stop.Stop.TheVariants.{NoEntry, NoMemory}

-- ---- reading

abbrev pub has_none : ℕ → List ℕ → Bool
has_none mark w = list_all (λ c. not (nat_eq c mark)) w

-- the text before the first byte `mark`, and what stands behind it
pub record IsCut (mark : ℕ) (text front : List ℕ) (rest : Option (List ℕ)) : Type 0 where
  pub free : has_none mark front ≡ true
  pub text_is : MatchOption rest (text ≡ front) (λ r. text ≡ front ++ mark ∷ r)

abbrev pub words_left : Option (List ℕ) → List Word
words_left None = []
words_left (Some line) = words_in line

-- the one byte of a word, which is one of two
abbrev pub choice : ℕ → ℕ → Word → Option Bool
choice this that [] = None
choice this that (c ∷ []) = cond (nat_eq c this) (Some true) (cond (nat_eq c that) (Some false) None)
choice this that (c ∷ d ∷ cs) = None

-- what the first word writes, and the words behind it
abbrev pub head_read : {A : Type 0} → (Word → Option A) → List Word → Option A
head_read f [] = None
head_read f (w ∷ ws) = f w

abbrev pub behind : List Word → List Word
behind [] = []
behind (w ∷ ws) = ws

abbrev pub itself : {A : Type 0} → A → A
itself a = a

-- what is read is what the definition reads; where that is nothing, there is no entry
abbrev pub Gives : {T A : Type 0} → (T → A) → Result T Stop → Option A → Type 0
Gives plain (Ok t) o = o ≡ Some (plain t)
Gives plain (Err NoEntry) o = o ≡ None
Gives plain (Err NoMemory) o = Unit {0}

-- the first word is read, and the others are left
pub record Takes {T A : Type 0} (read : Word → Option A) (plain : T → A) (old : List Word) (result : Result T Stop) (new : List Word) : Type 0 where
  pub gives : Gives plain result (head_read read old)
  pub rest : OnOk result (new ≡ behind old)

-- what is read behind what there is, or nothing
abbrev pub Adds : {T A : Type 0} → (T → A) → Option (List A) → List T → Result (Unit {0}) Stop → List T → Type 0
Adds {T = T} plain o old (Ok u) new = (more : List T) × (o ≡ Some (map plain more)) × (new ≡ old ++ more)
Adds plain o old (Err NoEntry) new = o ≡ None
Adds plain o old (Err NoMemory) new = Unit {0}

abbrev pub monomials_of : List (ℤ × ℕ) → List Monomial
monomials_of ps = map plain_monomial ps

-- ---- writing

-- each word behind a space
abbrev pub spaced : List Word → List ℕ
spaced [] = []
spaced (w ∷ ws) = 32 ∷ (w ++ spaced ws)

-- the words with a space between each two
abbrev pub joined : List Word → List ℕ
joined [] = []
joined (w ∷ ws) = w ++ spaced ws
