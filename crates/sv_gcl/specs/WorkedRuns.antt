-- Believed: runs of commands that were worked out by hand. Hold it against the README's table of commands.
use Rattle.std.specs.Prelude.{ℕ, false, List, [], ◌∷◌, pos}
use Rattle.sv_core.specs.declared.label.Label.{Label}
use Rattle.sv_term.specs.Sorts.{Any, Bits, Sort, NumSort}
use Rattle.sv_term.specs.Values.{Number}
use Rattle.sv_term.specs.Terms.{Term, Lit, Truth, Var, Add, Le}
use Rattle.sv_gcl.specs.Commands.{Command, Assume, Check, Set, Forget, Seq, Choice, Nil, Cons, var_sort, Store, Outcome, Ends, Fails, ComesTo, NoRunFails}

abbrev pub first_of_two : Command → Command → Command
first_of_two c d = Seq (Cons c (Cons d Nil))

abbrev pub either : Command → Command → Command
either c d = Choice (Cons c (Cons d Nil))

-- one variable, a number and a byte
abbrev pub number : List Sort
number = NumSort Any ∷ []

abbrev pub byte : List Sort
byte = NumSort (Bits false 8) ∷ []

-- the first variable is at most n
abbrev pub at_most : List Sort → ℕ → Term
at_most vars n = Le (Var 0 (var_sort vars 0)) (Lit false n)

-- 1 or 2 is stored, and then checked to be at most n
abbrev pub stored_is_at_most : Label → ℕ → Command
stored_is_at_most l n = first_of_two (either (Set 0 (Lit false 1)) (Set 0 (Lit false 2))) (Check l (at_most number n))

pub record RunsAreWorked : Type 0 where
  pub both_at_most_two : (l k : Label) → NoRunFails number (stored_is_at_most l 2) k
  pub two_above_one : (l : Label) → ComesTo number (stored_is_at_most l 1) (Number (pos 0) ∷ []) (Fails l)
  pub no_choice : (s : Store) (o : Outcome) → ComesTo number (Choice Nil) s o → ⊥
  pub nothing_to_do : (s : Store) → ComesTo number (Seq Nil) s (Ends s)
  pub failed_before : (l : Label) (s : Store) → ComesTo number (first_of_two (Check l (Truth false)) (Choice Nil)) s (Fails l)
  pub not_assumed : (l k : Label) → NoRunFails number (first_of_two (Assume (Truth false)) (Check l (Truth false))) k
  pub first_failure : (l k : Label) (s : Store) → ComesTo number (first_of_two (Check l (Truth false)) (Check k (Truth false))) s (Fails l)
  pub set_out_of_range : (l : Label) → ComesTo byte (first_of_two (Set 0 (Add (Var 0 (NumSort (Bits false 8))) (Lit false 1))) (Check l (at_most byte 255))) (Number (pos 255) ∷ []) (Fails l)
  pub forgotten_in_range : (l k : Label) → NoRunFails byte (first_of_two (Forget 0) (Check l (at_most byte 255))) k
  pub forgotten_anywhere : (l : Label) → ComesTo number (first_of_two (Forget 0) (Check l (at_most number 255))) (Number (pos 0) ∷ []) (Fails l)
