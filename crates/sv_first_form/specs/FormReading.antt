-- Serves the proof: what reading a part of a contract from the front of tokens gives.
use Rattle.std.specs.Prelude.{◌≡◌, ℕ, ◌≤◌, List, [], ◌∷◌, ◌++◌, All, Result, Ok, Err, length}
use Rattle.std.specs.List.{flat_map}
use Rattle.sv_first_form.specs.FormSymbols.{Symbol, symbol_with}
use Rattle.sv_first_form.specs.declared.form_error.FormError.{FormError}
use Rattle.sv_first_form.specs.declared.form_error.FormError.TheVariants.{Unbuilt, NoMemory}
use Rattle.sv_lex.specs.declared.tok.Tok.{Tok}

-- the tokens begin with this one
abbrev pub Begins : Symbol → List Symbol → Type 0
Begins t ts = (more : List Symbol) × (ts ≡ t ∷ more)

-- the tokens begin with one of this kind
abbrev pub BeginsKind : Tok → List Symbol → Type 0
BeginsKind kind ts = (text : List ℕ) × Begins (symbol_with kind text) ts

-- a part of a contract: its tokens, its form, and what may follow it
pub record Part (X : Type 0) : Type 1 where
  pub print : X → List Symbol
  pub Formed : X → Type 0
  pub Stops : List Symbol → Type 0

-- x is the only such part in front of the tokens, and the rest follows it
pub record IsFirst {X : Type 0} (part : Part X) (tokens : List Symbol) (x : X) (rest : List Symbol) : Type 0 where
  pub spelled : tokens ≡ part.print x ++ rest
  pub formed : part.Formed x
  pub only : (y : X) (more : List Symbol) → part.Formed y → part.Stops more → tokens ≡ part.print y ++ more → (y ≡ x) × (more ≡ rest)

-- no such part is in front of the tokens
pub record HasNone {X : Type 0} (part : Part X) (tokens : List Symbol) : Type 0 where
  pub none : (y : X) (more : List Symbol) → part.Formed y → part.Stops more → tokens ≡ part.print y ++ more → ⊥

-- why none was read
pub data Fails {X : Type 0} (part : Part X) (tokens : List Symbol) : FormError → Type 0 where
  is_unbuilt : HasNone part tokens → Fails part tokens Unbuilt
  no_memory : Fails part tokens NoMemory

-- the part that was read, or why none was
abbrev pub ReadsPart : {X : Type 0} → Part X → List Symbol → Result X FormError → List Symbol → Type 0
ReadsPart part old (Ok x) new = IsFirst part old x new
ReadsPart part old (Err e) new = Fails part old e

-- what may stand before anything
abbrev pub anything : List Symbol → Type 0
anything _ = Unit {0}

-- this token
unfoldable pub exact : Symbol → Part (Unit {0})
exact t = record { print = λ _. t ∷ []; Formed = λ _. Unit {0}; Stops = anything }

-- a token of this kind, with any text
unfoldable pub any_text : Tok → Part (List ℕ)
any_text kind = record { print = λ text. symbol_with kind text ∷ []; Formed = λ _. Unit {0}; Stops = anything }

-- a part and then another
unfoldable pub both : {X Y : Type 0} → Part X → Part Y → Part (X × Y)
both p q = record { print = λ pair. p.print pair.0 ++ q.print pair.1; Formed = λ pair. p.Formed pair.0 × q.Formed pair.1; Stops = q.Stops }

-- such parts one after another, before what stops them
unfoldable pub parts : {X : Type 0} → Part X → (List Symbol → Type 0) → Part (List X)
parts part Stops = record { print = flat_map part.print; Formed = All part.Formed; Stops = Stops }

-- a loop over such parts has read these from the tokens, and the rest is to be read
pub record IsSofar {X : Type 0} (part : Part X) (Stops : List Symbol → Type 0) (tokens : List Symbol) (read : List X) (rest : List Symbol) : Type 0 where
  pub spelled : tokens ≡ flat_map part.print read ++ rest
  pub formed : All part.Formed read
  pub only : (ys : List X) (more : List Symbol) → All part.Formed ys → Stops more → tokens ≡ flat_map part.print ys ++ more
      → (zs : List X) × (ys ≡ read ++ zs) × All part.Formed zs × (rest ≡ flat_map part.print zs ++ more)

-- at most so many of such parts
unfoldable pub at_most : {X : Type 0} → ℕ → Part (List X) → Part (List X)
at_most n part = record { print = part.print; Formed = λ xs. part.Formed xs × (length xs ≤ n); Stops = part.Stops }
