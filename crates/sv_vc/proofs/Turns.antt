-- One command of a list, and one branch of a choice.
use Rattle.std.proofs.Common.{ℕ, zero, suc, Bool, true, false, ◌||◌, nat_eq, ◌+◌, ◌<◌, ◌≤◌, ◌≡◌, ◌⊎◌, inl, inr, List, [], ◌∷◌, map, length, get_or, drop, refl, sym, ap, ap₂, ◌∙◌, subst, arith}
use Rattle.std.proofs.lemmas.List.{drop_more, drop_all}
use Rattle.std.proofs.lemmas.Bool.Decides.{Decides-eqb}
use Rattle.sv_term.specs.Sorts.{Sort}
use Rattle.sv_term.specs.Terms.{Term, And, Or}
use Rattle.sv_term.specs.Banks.{Nodes, IsBool, AreTerms, Keeps, Stands, term, term_list, kind_of}
use Rattle.sv_term.specs.declared.node.TermId.{TermId}
use Rattle.sv_term.proofs.BankGrowth.{keeps_on, keeps_same}
use Rattle.sv_term.proofs.BankLists.{list_length}
use Rattle.sv_gcl.specs.declared.command.Cmd.{Cmd}
use Rattle.sv_gcl.specs.Commands.{Command, Commands, some_set, sets}
use Rattle.sv_gcl.specs.Commands as c
use Rattle.sv_gcl.specs.FormedCommands.{IsFormed, AreFormed}
use Rattle.sv_gcl.specs.CommandShapes.{Shape, Shapes, Nil, Cons, shape, shaped, command, commands}
use Rattle.sv_vc.specs.declared.state.Scope.{Scope}
use Rattle.sv_vc.specs.declared.state.State.{State as CodeState}
use Rattle.sv_vc.specs.ConditionWalk.{State, Walked, agreed, walk, walk_all, walk_any}
use Rattle.sv_vc.specs.CodeStates.{formulas_of, found_of, state_of, sorts_in, marked, AllBool, IsScope, IsWellSorted, IsReady, IsMade, AreMade, Gives, MayBranch, costs, cost}
use Rattle.sv_vc.proofs.Basics.{in_env}
use Rattle.sv_vc.proofs.WellSorted.{sorted_after}
use Rattle.sv_vc.proofs.Kept.{state_is, command_kept, state_kept, sorts_same, made_at}

-- lists of terms whose kinds are the same at each place
kinds_listed : (us vs : List Term) → length us ≡ length vs → ((n : ℕ) → kind_of (in_env us n) ≡ kind_of (in_env vs n)) → map kind_of us ≡ map kind_of vs
kinds_listed [] [] e h = refl
kinds_listed [] (v ∷ vs) e h = absurd (omega (arith, e))
kinds_listed (u ∷ us) [] e h = absurd (omega (arith, e))
kinds_listed (u ∷ us) (v ∷ vs) e h = ap₂ (λ x xs. x ∷ xs) (h 0) (kinds_listed us vs (omega (arith, e)) (λ n. h (suc n)))

-- ---- the next command

pub shapes_more : (cs : List Cmd) (i : ℕ) (y : Cmd) → i < length cs → y ≡ get_or cs i y → shaped (map shape (drop i cs)) ≡ Cons (shape y) (shaped (map shape (drop (i + 1) cs)))
shapes_more cs i y h e = ap (λ z. shaped (map shape z)) (drop_more cs i y h) ∙ ap (λ z. Cons (shape z) (shaped (map shape (drop (i + 1) cs)))) (sym e)

pub shapes_end : (cs : List Cmd) (i : ℕ) → length cs ≤ i → shaped (map shape (drop i cs)) ≡ Nil
shapes_end cs i h = ap (λ z. shaped (map shape z)) (drop_all i cs h)

-- what a walk at a later bank gives, in terms of the first bank
pub walk_same : (o l a : Nodes) (scope : Scope) (x : Shape) (before known : TermId) (u : Term) (s : CodeState) → Keeps o l → Keeps l a → IsScope o scope → IsMade o (sorts_in o scope) x → term a known ≡ u → AreTerms l s.env → AreTerms l (formulas_of s.found)
    → walk (sorts_in a scope) (command a x) (term a known) (state_of a s) ≡ walk (sorts_in o scope) (command o x) u (state_of l s)
walk_same o l a scope x before known u s ol la sc m e he hf =
    let oa : Keeps o a = keeps_on ol la in
    ap₂ (λ vars y. walk vars y (term a known) (state_of a s)) (sorts_same o a oa scope sc) (command_kept o a oa x m.within)
    ∙ ap₂ (λ y z. walk (sorts_in o scope) (command o x) y z) e (state_kept l a la s he hf)

module _ (o : Nodes) (scope : Scope) (cs : List Cmd) (before : TermId) (sc : IsScope o scope) (known_o : IsBool o before) (made : AreMade o (sorts_in o scope) (shaped (map shape cs))) (i : ℕ) (y : Cmd) (lt : i < length cs) (at : y ≡ get_or cs i y) where
  abbrev pub V : List Sort
  V = sorts_in o scope

  here : IsMade o V (shape y)
  here = made_at o V cs i y lt at made

  abbrev pub left : Shapes
  left = shaped (map shape (drop (i + 1) cs))

  -- ---- one after another

  module _ (l a b d : Nodes) (facts known more next : TermId) (s s1 : CodeState) (ol : Keeps o l) (la : Keeps l a) (ab : Keeps a b) (bd : Keeps b d) (truth : IsBool l facts) (ready : IsReady l V s)
      (known_is : Stands a known (And (term l before) (term l facts))) (gives : Gives b s1 more (walk (sorts_in a scope) (command a (shape y)) (term a known) (state_of a s))) (next_is : Stands d next (And (term b facts) (term b more))) where
    abbrev pub next_walk : Walked
    next_walk = walk V (command o (shape y)) (And (term o before) (term l facts)) (state_of l s)

    next_is_walk : walk (sorts_in a scope) (command a (shape y)) (term a known) (state_of a s) ≡ next_walk
    next_is_walk = walk_same o l a scope (shape y) before known _ s ol la sc here (known_is.is ∙ ap (λ z. And z (term l facts)) (ol.terms before known_o.within)) ready.env ready.found

    state_now : state_of d s1 ≡ next_walk.state
    state_now = state_kept b d bd s1 gives.env gives.found ∙ (gives.state ∙ ap (λ w. w.state) next_is_walk)

    facts_now : term d next ≡ And (term l facts) next_walk.facts
    facts_now = next_is.is ∙ ap₂ And ((keeps_on la ab).terms facts truth.within) (gives.facts ∙ ap (λ w. w.facts) next_is_walk)

    pub all_truth : IsBool d next
    all_truth = record { within = next_is.within; truth = ap kind_of next_is.is }

    pub all_ready : IsReady d V s1
    all_ready = record {
      env = bd.within s1.env gives.env;
      found = bd.within (formulas_of s1.found) gives.found;
      sorted = subst (IsWellSorted V) (sym state_now) (sorted_after V (command o (shape y)) _ (state_of l s) here.formed here.fitting ready.sorted);
    }

    pub all_walked : (total : Walked) → walk_all V (commands o (shaped (map shape (drop i cs)))) (term o before) (term l facts) (state_of l s) ≡ total
        → walk_all V (commands o (shaped (map shape (drop (i + 1) cs)))) (term o before) (term d next) (state_of d s1) ≡ total
    all_walked total e =
        ap₂ (λ x z. walk_all V (commands o left) (term o before) x z) facts_now state_now
        ∙ (sym (ap (λ z. walk_all V (commands o z) (term o before) (term l facts) (state_of l s)) (shapes_more cs i y lt at)) ∙ e)

  -- ---- branches

  module _ (marks : List Bool) (env joined : List TermId) (may : MayBranch o scope marks env joined) (l : Nodes) (begin : CodeState) (now : List TermId) (ol : Keeps o l) (found : AreTerms l (formulas_of begin.found)) (truths : AllBool (found_of l begin.found)) (copied : now ≡ env) where
    abbrev pub branch_state : CodeState
    branch_state = record { env = now; vars = begin.vars; found = begin.found }

    env_now : term_list l now ≡ term_list o env
    env_now = ap (term_list l) copied ∙ ol.lists env may.env_within

    abbrev pub begins : State
    begins = record { env = term_list o env; next = length begin.vars; found = found_of l begin.found }

    begins_is : state_of l branch_state ≡ begins
    begins_is = state_is env_now refl refl

    begins_sorted : IsWellSorted V begins
    begins_sorted = record { size = list_length o env ∙ may.env_size; kinds = may.env_kinds; truths = truths }

    pub branch_ready : IsReady l V branch_state
    branch_ready = record {
      env = subst (AreTerms l) (sym copied) (ol.within env may.env_within);
      found = found;
      sorted = subst (IsWellSorted V) (sym begins_is) begins_sorted;
    }

    module _ (a : Nodes) (facts : TermId) (s1 : CodeState) (la : Keeps l a) (gives : Gives a s1 facts (walk (sorts_in l scope) (command l (shape y)) (term l before) (state_of l branch_state))) where
      abbrev pub branch_walk : Walked
      branch_walk = walk V (command o (shape y)) (term o before) begins

      branch_is_walk : walk (sorts_in l scope) (command l (shape y)) (term l before) (state_of l branch_state) ≡ branch_walk
      branch_is_walk = walk_same o l l scope (shape y) before before (term o before) branch_state ol (keeps_same l) sc here (ol.terms before known_o.within) (branch_ready).env found
          ∙ ap (walk V (command o (shape y)) (term o before)) begins_is

      branch_sorted : IsWellSorted V branch_walk.state
      branch_sorted = sorted_after V (command o (shape y)) (term o before) begins here.formed here.fitting begins_sorted

      state_a : state_of a s1 ≡ branch_walk.state
      state_a = gives.state ∙ ap (λ w. w.state) branch_is_walk

      pub branch_size : length s1.env ≡ length env
      branch_size = sym (list_length a s1.env) ∙ (ap (λ w. length w.env) state_a ∙ (branch_sorted.size ∙ sym may.env_size))

      oa : Keeps o a
      oa = keeps_on ol la

      pub branch_kinds : map kind_of (term_list a joined) ≡ map kind_of (term_list a s1.env)
      branch_kinds =
          kinds_listed (term_list a joined) (term_list a s1.env) (list_length a joined ∙ (may.joined_size ∙ (sym branch_size ∙ sym (list_length a s1.env))))
          (λ n. ap (λ us. kind_of (in_env us n)) (oa.lists joined may.joined_within) ∙ (may.joined_kinds n ∙ (sym (branch_sorted.kinds n) ∙ ap (λ w. kind_of (in_env w.env n)) (sym state_a))))

      module _ (b d : Nodes) (any agree next : TermId) (ab : Keeps a b) (bd : Keeps b d) (truth : IsBool l any) (agree_is : term b agree ≡ agreed (marked marks) 0 (term a facts) (term_list a s1.env) (term_list a joined)) (next_is : Stands d next (Or (term b any) (term b agree))) where
        pub any_truth : IsBool d next
        any_truth = record { within = next_is.within; truth = ap kind_of next_is.is }

        ad : Keeps a d
        ad = keeps_on ab bd

        state_d : state_of d s1 ≡ branch_walk.state
        state_d = state_kept a d ad s1 gives.env gives.found ∙ state_a

        pub any_found : AreTerms d (formulas_of s1.found)
        any_found = ad.within (formulas_of s1.found) gives.found

        pub any_truths : AllBool (found_of d s1.found)
        any_truths = subst (λ w. AllBool w.found) (sym state_d) branch_sorted.truths

        any_now : term d next ≡ Or (term l any) (agreed (marked marks) 0 branch_walk.facts branch_walk.state.env (term_list o joined))
        any_now =
            next_is.is
            ∙ ap₂ Or ((keeps_on la ab).terms any truth.within)
            (agree_is ∙ (ap₂ (λ x us. agreed (marked marks) 0 x us (term_list a joined)) (gives.facts ∙ ap (λ w. w.facts) branch_is_walk) (ap (λ w. w.env) state_a) ∙ ap (agreed (marked marks) 0 branch_walk.facts branch_walk.state.env) (oa.lists joined may.joined_within)))

        pub any_walked : (total : Walked) → walk_any V (commands o (shaped (map shape (drop i cs)))) (term o before) (term_list o env) (marked marks) (term_list o joined) (term l any) (state_of l begin) ≡ total
            → walk_any V (commands o (shaped (map shape (drop (i + 1) cs)))) (term o before) (term_list o env) (marked marks) (term_list o joined) (term d next) (state_of d s1) ≡ total
        any_walked total e =
            ap₂ (λ x z. walk_any V (commands o left) (term o before) (term_list o env) (marked marks) (term_list o joined) x z) any_now state_d
            ∙ (sym (ap (λ z. walk_any V (commands o z) (term o before) (term_list o env) (marked marks) (term_list o joined) (term l any) (state_of l begin)) (shapes_more cs i y lt at)) ∙ e)

-- ---- how many terms

pub costs_more : (n : ℕ) (cs : List Cmd) (i : ℕ) (y : Cmd) → i < length cs → y ≡ get_or cs i y → costs n (shaped (map shape (drop i cs))) ≡ cost n (shape y) + (n + n + 2) + costs n (shaped (map shape (drop (i + 1) cs)))
costs_more n cs i y h e = ap (costs n) (shapes_more cs i y h e)

pub costs_end : (n : ℕ) (cs : List Cmd) (i : ℕ) → length cs ≤ i → ◌≡◌ {A = ℕ} (costs n (shaped (map shape (drop i cs)))) 0
costs_end n cs i h = ap (costs n) (shapes_end cs i h)

-- ---- marks

below : (m n : ℕ) → (m < n) ⊎ (n ≤ m)
below m zero = inr (omega arith)
below zero (suc n) = inl (omega arith)
below (suc m) (suc n) = elim (below m n) [ inl l ↦ inl (omega (arith, l)) | inr l ↦ inr (omega (arith, l)) ]

other : (z x : ℕ) → (z ≡ x → ⊥) → nat_eq z x ≡ false
other z x h = go (nat_eq z x) refl
  where
    go : (b : Bool) → nat_eq z x ≡ b → nat_eq z x ≡ false
    go true e = absurd (h ((Decides-eqb z x).0 e))
    go false e = e

-- a formed command sets variables of the list alone
mutual
  beyond : (vars : List Sort) (x : ℕ) (y : Command) → length vars ≤ x → IsFormed vars y → sets y x ≡ false
  beyond vars x (c.Assume f) h w = refl
  beyond vars x (c.Check l f) h w = refl
  beyond vars x (c.Set z u) h w = other z x (λ e. omega (arith, h, e, w.within))
  beyond vars x (c.Forget z) h w = other z x (λ e. omega (arith, h, e, w))
  beyond vars x (c.Seq ys) h w = all_beyond vars x ys h w
  beyond vars x (c.Choice ys) h w = all_beyond vars x ys h w

  all_beyond : (vars : List Sort) (x : ℕ) (ys : Commands) → length vars ≤ x → AreFormed vars ys → some_set ys x ≡ false
  all_beyond vars x c.Nil h w = refl
  all_beyond vars x (c.Cons y ys) h w = ap₂ (λ a b. a || b) (beyond vars x y h w.0) (all_beyond vars x ys h w.1)

unmarked : (marks : List Bool) (x : ℕ) → length marks ≤ x → marked marks x ≡ false
unmarked [] x h = refl
unmarked (b ∷ marks) zero h = absurd (omega (arith, h))
unmarked (b ∷ marks) (suc x) h = unmarked marks x (omega (arith, h))

pub marks_are : (vars : List Sort) (marks : List Bool) (ys : Commands) → AreFormed vars ys → length marks ≡ length vars → ((x : ℕ) → x < length vars → marked marks x ≡ some_set ys x) → marked marks ≡ some_set ys
marks_are vars marks ys w e h = λ i x. at x i
  where
    at : (x : ℕ) → marked marks x ≡ some_set ys x
    at x = elim (below x (length vars)) [ inl l ↦ h x l | inr l ↦ unmarked marks x (omega (arith, e, l)) ∙ sym (all_beyond vars x ys l w) ]
