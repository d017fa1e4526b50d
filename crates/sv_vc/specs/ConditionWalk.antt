-- Serves the proof: one formula for each check, with versions of variables that are joined at the end of a choice.
use Rattle.std.specs.Prelude.{ℕ, suc, Bool, true, false, cond, ◌&&◌, nat_eq, List, [], ◌∷◌, ◌++◌, length, slice_set}
use Rattle.sv_core.specs.declared.label.Label.{Label}
use Rattle.sv_core.specs.declared.label.Site.{Site}
use Rattle.sv_core.specs.declared.label.Site.TheVariants.{At, End}
use Rattle.sv_term.specs.Sorts.{Sort}
use Rattle.sv_term.specs.Terms.{Term, Truth, Var, Eq, Not, And, Or}
use Rattle.sv_term.specs.Banks.{wide}
use Rattle.sv_gcl.specs.Commands.{Command, Commands, Assume, Check, Set, Forget, Seq, Choice, Nil, Cons, var_sort, some_set}
use Rattle.sv_vc.specs.Replacing.{replaced}
use Rattle.sv_vc.specs.Conjunctions.{conjunction_of}

abbrev pub same_site : Site → Site → Bool
same_site (At p) (At q) = nat_eq p.line q.line && nat_eq p.col q.col
same_site End End = true
same_site _ _ = false

abbrev pub same_label : Label → Label → Bool
same_label l k = same_site l.site k.site && (nat_eq l.kind k.kind && (nat_eq l.number k.number && nat_eq l.of k.of))

-- what is to be shown for a label
pub record Found : Type 0 where
  pub label : Label
  pub formula : Term

-- what each variable stands for, the next fresh variable, and what was found
pub record State : Type 0 where
  pub env : List Term
  pub next : ℕ
  pub found : List Found

-- a state, and what is known where a run ends there
pub record Walked : Type 0 where
  pub state : State
  pub facts : Term

-- new versions of the variables that are set, from the variable i on, and the number behind them
abbrev pub joint : List Sort → (ℕ → Bool) → ℕ → List Term → ℕ → List Term
joint vars p i [] next = []
joint vars p i (t ∷ ts) next = cond (p i) (Var next (wide (var_sort vars i)) ∷ joint vars p (suc i) ts (suc next)) (t ∷ joint vars p (suc i) ts next)

abbrev pub after_joint : (ℕ → Bool) → ℕ → List Term → ℕ → ℕ
after_joint p i [] next = next
after_joint p i (t ∷ ts) next = after_joint p (suc i) ts (cond (p i) (suc next) next)

-- that the versions are what a branch makes of the variables
abbrev pub agreed : (ℕ → Bool) → ℕ → Term → List Term → List Term → Term
agreed p i x [] us = x
agreed p i x (t ∷ ts) [] = x
agreed p i x (t ∷ ts) (u ∷ us) = agreed p (suc i) (cond (p i) (And x (Eq t u)) x) ts us

abbrev pub implied : Term → Term → Term
implied before f = Not (And before (Not f))

abbrev mutual
  pub walk : List Sort → Command → Term → State → Walked
  walk vars (Assume f) before s = record { state = s; facts = replaced f s.env }
  walk vars (Check l f) before s =
      record {
        state = record { env = s.env; next = s.next; found = s.found ++ record { label = l; formula = implied before (replaced f s.env) } ∷ [] };
        facts = replaced f s.env;
      }
  walk vars (Set x t) before s =
      record { state = record { env = slice_set s.env x (replaced t s.env); next = s.next; found = s.found }; facts = Truth true }
  walk vars (Forget x) before s =
      record { state = record { env = slice_set s.env x (Var s.next (var_sort vars x)); next = suc s.next; found = s.found }; facts = Truth true }
  walk vars (Seq cs) before s = walk_all vars cs before (Truth true) s
  walk vars (Choice cs) before s =
      walk_any vars cs before s.env (some_set cs) (joint vars (some_set cs) 0 s.env s.next) (Truth false)
      record { env = s.env; next = after_joint (some_set cs) 0 s.env s.next; found = s.found }

  -- `facts` are known since the beginning
  pub walk_all : List Sort → Commands → Term → Term → State → Walked
  walk_all vars Nil before facts s = record { state = s; facts = facts }
  walk_all vars (Cons c cs) before facts s =
      let a = walk vars c (And before facts) s in walk_all vars cs before (And facts a.facts) a.state

  -- each branch begins with `env`; one of the branches before makes `any` true
  pub walk_any : List Sort → Commands → Term → List Term → (ℕ → Bool) → List Term → Term → State → Walked
  walk_any vars Nil before env p versions any s = record { state = record { env = versions; next = s.next; found = s.found }; facts = any }
  walk_any vars (Cons c cs) before env p versions any s =
      let a = walk vars c before record { env = env; next = s.next; found = s.found } in
      walk_any vars cs before env p versions (Or any (agreed p 0 a.facts a.state.env versions)) a.state

-- the variables stand for themselves
abbrev pub own : List Sort → ℕ → List Term
own [] i = []
own (σ ∷ vars) i = Var i σ ∷ own vars (suc i)

abbrev pub start : List Sort → State
start vars = record { env = own vars 0; next = length vars; found = [] }

abbrev pub formulas : Label → List Found → List Term
formulas l [] = []
formulas l (f ∷ fs) = cond (same_label f.label l) (f.formula ∷ formulas l fs) (formulas l fs)

abbrev pub condition : List Sort → Command → Label → Term
condition vars c l = conjunction_of (formulas l (walk vars c (Truth true) (start vars)).state.found)
