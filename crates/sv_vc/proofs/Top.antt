-- From the walk of the code to the conditions.
use Rattle.std.proofs.Common.{ℕ, suc, ◌≡◌, ◌↔◌, true, List, [], ◌∷◌, map, length, refl, sym, ap, ap₂, ◌∙◌, subst, arith}
use Rattle.sv_term.specs.Sorts.{Sort, is_sort}
use Rattle.sv_term.specs.Terms.{Truth, fits}
use Rattle.sv_term.specs.Models.{Valid}
use Rattle.sv_term.specs.Banks.{Nodes, IsTerm, IsSort, IsNamed, Fits, AreTerms, AreSorts, Keeps, Stands, sort, term, term_list, sort_list, tree, wide, kind_of}
use Rattle.sv_term.specs.declared.node.SortId.{SortId}
use Rattle.sv_term.specs.declared.node.TermId.{TermId}
use Rattle.sv_term.specs.declared.node.Node.{Node}
use Rattle.sv_term.specs.declared.node.Node.TheVariants as n
use Rattle.sv_term.proofs.BankGrowth.{keeps_on}
use Rattle.sv_term.proofs.BankLists.{sort_list_length}
use Rattle.sv_gcl.specs.declared.lowered.GVar.{GVar}
use Rattle.sv_gcl.specs.declared.lowered.Lowered.{Lowered}
use Rattle.sv_gcl.specs.Commands.{NoRunFails}
use Rattle.sv_gcl.specs.CommandShapes.{Shape, Shapes, Assume, Check, Set, Forget, Seq, Choice, Nil, Cons, shape, command, commands, IsIn, AreIn}
use Rattle.sv_gcl.specs.FormedCommands.{IsFormed, IsLowered, sorts_of_vars, command_of}
use Rattle.sv_vc.specs.declared.answer.Condition.{Condition}
use Rattle.sv_vc.specs.declared.state.Scope.{Scope}
use Rattle.sv_vc.specs.declared.state.State.{State as CodeState}
use Rattle.sv_vc.specs.ConditionsExact.{HasFitting, HaveFitting, AllAreSorts}
use Rattle.sv_vc.specs.Conjunctions.{conjunction_of}
use Rattle.sv_vc.specs.ConditionWalk.{Found, walk, own, start, formulas, condition}
use Rattle.sv_vc.specs.CodeStates.{sorts_of, formulas_of, found_of, state_of, sorts_in, AllBool, IsScope, IsWellSorted, IsReady, IsMade, MayWalk, Gives}
use Rattle.sv_vc.specs.Gatherings.{AllConjunctions, MayGather}
use Rattle.sv_vc.specs.AnsweredConditions.{AreExact}
use Rattle.sv_vc.proofs.Kept.{state_is, command_kept, made_kept}
use Rattle.sv_vc.proofs.StepLemmas.{sorts_long}
use Rattle.sv_vc.proofs.StoreModels.{own_kinds}
use Rattle.sv_vc.proofs.WellSorted.{truths_after}
use Rattle.sv_vc.proofs.Exactness.{conditions_are_exact}

-- ---- what a sound bank gives

module _ (b : Nodes) (terms : (k : TermId) → IsTerm b k → fits (term b k) ≡ true) where
  mutual
    pub fitting : (x : Shape) → IsIn b x → HasFitting (command b x)
    fitting (Assume f) i = terms f i
    fitting (Check l f) i = terms f i
    fitting (Set x t) i = terms t i
    fitting (Forget x) i = tt
    fitting (Seq xs) i = all_fitting xs i
    fitting (Choice xs) i = all_fitting xs i

    all_fitting : (xs : Shapes) → AreIn b xs → HaveFitting (commands b xs)
    all_fitting Nil i = tt
    all_fitting (Cons x xs) i = (fitting x i.0, all_fitting xs i.1)

  module _ (nodes : (x : Node) → Fits b x ↔ (IsNamed b x × (fits (tree b x) ≡ true))) where
    sort_fine : (k : SortId) → IsSort b k → is_sort (sort b k) ≡ true
    sort_fine k h = ((nodes (n.Var 0 k)).0 h).1

    pub sorts_fine : (ks : List SortId) → AreSorts b ks → AllAreSorts (sort_list b ks)
    unfolding sort_list
    sorts_fine [] h = tt
    sorts_fine (k ∷ ks) h = (sort_fine k h.0, sorts_fine ks h.1)

-- ---- the start

own_long : (vars : List Sort) (i : ℕ) → length (own vars i) ≡ length vars
own_long [] i = refl
own_long (σ ∷ vars) i = ap suc (own_long vars (suc i))

-- the variables and their versions, in a later bank
pub scope_is : (o a d : Nodes) (given joined : List GVar) → Keeps o a → Keeps a d → AreSorts o (sorts_of given) → AreSorts a (sorts_of joined) → sort_list a (sorts_of joined) ≡ map wide (sort_list o (sorts_of given)) → IsScope d record { given = given; joined = joined }
scope_is o a d given joined oa ad hv hj w = record {
  given = (keeps_on oa ad).sorts_within (sorts_of given) hv;
  joined = ad.sorts_within (sorts_of joined) hj;
  wides = ad.sort_lists (sorts_of joined) hj ∙ (w ∙ ap (map wide) (sym ((keeps_on oa ad).sort_lists (sorts_of given) hv)));
}

module _ (o b d : Nodes) (scope : Scope) (env : List TermId) (vars : List GVar) (found : List Condition) (ob : Keeps o b) (bd : Keeps b d) (given : AreSorts o (sorts_of scope.given)) (within : AreTerms b env) (terms : term_list b env ≡ own (sort_list o (sorts_of scope.given)) 0) (same : vars ≡ scope.given) (none : found ≡ []) where
  abbrev pub s : CodeState
  s = record { env = env; vars = vars; found = found }

  sorts_are : sorts_in d scope ≡ sort_list o (sorts_of scope.given)
  sorts_are = (keeps_on ob bd).sort_lists (sorts_of scope.given) given

  long : length vars ≡ length (sorts_in d scope)
  long = ap length same ∙ (sym (sorts_long scope.given) ∙ (sym (sort_list_length o (sorts_of scope.given)) ∙ ap length (sym sorts_are)))

  pub start_is : state_of d s ≡ start (sorts_in d scope)
  start_is = state_is (bd.lists env within ∙ (terms ∙ ap (λ vs. own vs 0) (sym sorts_are))) long (ap (found_of d) none)

  pub start_ready : IsReady d (sorts_in d scope) s
  start_ready = record {
    env = bd.within env within;
    found = subst (λ z. AreTerms d (formulas_of z)) (sym none) tt;
    sorted = subst (IsWellSorted (sorts_in d scope)) (sym start_is) record { size = own_long (sorts_in d scope) 0; kinds = own_kinds (sorts_in d scope); truths = tt };
  }

-- ---- the end

-- what was found may be gathered
pub may_gather : (d e : Nodes) (scope : Scope) (x : Shape) (before k : TermId) (s t : CodeState) → Keeps d e → term d before ≡ Truth true → IsTerm d before → state_of d s ≡ start (sorts_in d scope)
    → Gives e t k (walk (sorts_in d scope) (command d x) (term d before) (state_of d s)) → MayGather e t.found before
may_gather d e scope x before k s t de known within begins g = record {
  nothing_is = record { within = omega (arith, within, de.size); is = de.terms before within ∙ known };
  within = g.found;
  truths = subst (λ w. AllBool w.found) (sym g.state) (truths_after (sorts_in d scope) (command d x) (term d before) (state_of d s) (subst (λ w. AllBool w.found) (sym begins) tt));
}

-- what was found, in terms of the given bank
pub found_is : (o d e : Nodes) (scope : Scope) (x : Shape) (before k : TermId) (s t : CodeState) → Keeps o d → AreSorts o (sorts_of scope.given) → IsIn o x → term d before ≡ Truth true → state_of d s ≡ start (sorts_in d scope)
    → Gives e t k (walk (sorts_in d scope) (command d x) (term d before) (state_of d s)) → found_of e t.found ≡ (walk (sort_list o (sorts_of scope.given)) (command o x) (Truth true) (start (sort_list o (sorts_of scope.given)))).state.found
found_is o d e scope x before k s t od given i known begins g =
    ap (λ w. w.found) g.state
    ∙ (ap₂ (λ y z. (walk (sorts_in d scope) (command d x) y z).state.found) known begins
    ∙ ap₂ (λ vars y. (walk vars y (Truth true) (start vars)).state.found) (od.sort_lists (sorts_of scope.given) given) (command_kept o d od x i))

pub exact_all : (l : Lowered) (b : Nodes) (fs : List Found) (cs : List Condition) → fs ≡ (walk (sorts_of_vars l) (command_of l) (Truth true) (start (sorts_of_vars l))).state.found → AllAreSorts (sorts_of_vars l) → HasFitting (command_of l) → IsFormed (sorts_of_vars l) (command_of l) → AllConjunctions b fs cs → AreExact l b cs
exact_all l b fs [] e sorts fit formed h = tt
exact_all l b fs (c ∷ cs) e sorts fit formed h =
    let is : term b c.formula ≡ condition (sorts_of_vars l) (command_of l) c.label = h.0.is ∙ ap (λ z. conjunction_of (formulas c.label z)) e in (
      record { claim = h.0.truth; exact = subst (λ z. Valid z ↔ NoRunFails (sorts_of_vars l) (command_of l) c.label) (sym is) (conditions_are_exact (sorts_of_vars l) (command_of l) c.label sorts fit formed) },
      exact_all l b fs cs e sorts fit formed h.1,
    )

-- ---- the conditions of a command

module _ (l : Lowered) (h : IsLowered l) (a b d : Nodes) (given joined vars : List GVar) (env : List TermId) (found : List Condition) (nothing : TermId) (ka : Keeps l.bank a) (kb : Keeps a b) (kd : Keeps b d)
    (hj : AreSorts a (sorts_of joined)) (wides : sort_list a (sorts_of joined) ≡ map wide (sort_list l.bank (sorts_of l.vars))) (he : AreTerms b env) (terms : term_list b env ≡ own (sort_list a (sorts_of l.vars)) 0)
    (given_is : given ≡ l.vars) (vars_are : vars ≡ l.vars) (none : found ≡ []) (st : Stands d nothing (Truth true)) where
  abbrev pub first_scope : Scope
  first_scope = record { given = given; joined = joined }

  abbrev pub first_state : CodeState
  first_state = record { env = env; vars = vars; found = found }

  ad : Keeps a d
  ad = keeps_on kb kd

  ld : Keeps l.bank d
  ld = keeps_on ka ad

  first_sorts : IsScope d first_scope
  first_sorts = subst (λ z. IsScope d record { given = z; joined = joined }) (sym given_is) (scope_is l.bank a d l.vars joined ka ad h.vars hj wides)

  given_there : AreSorts l.bank (sorts_of given)
  given_there = subst (λ z. AreSorts l.bank (sorts_of z)) (sym given_is) h.vars

  given_own : term_list b env ≡ own (sort_list a (sorts_of given)) 0
  given_own = terms ∙ ap (λ z. own (sort_list a (sorts_of z)) 0) (sym given_is)

  pub first_is : state_of d first_state ≡ start (sorts_in d first_scope)
  first_is = start_is a b d first_scope env vars found kb kd (ka.sorts_within (sorts_of given) given_there) he given_own (vars_are ∙ sym given_is) none

  pub begins : MayWalk d first_scope nothing first_state
  begins = record {
    scope_is = first_sorts;
    known = record { within = st.within; truth = ap kind_of st.is };
    ready = start_ready a b d first_scope env vars found kb kd (ka.sorts_within (sorts_of given) given_there) he given_own (vars_are ∙ sym given_is) none;
  }

  module _ (sound : (k : TermId) → IsTerm l.bank k → fits (term l.bank k) ≡ true) where
    pub first_made : IsMade d (sorts_in d first_scope) (shape l.cmd)
    first_made =
        subst (λ z. IsMade d z (shape l.cmd)) (sym (ld.sort_lists (sorts_of l.vars) h.vars) ∙ ap (λ z. sort_list d (sorts_of z)) (sym given_is))
        (made_kept l.bank d ld (sorts_of_vars l) (shape l.cmd) record { within = h.within; formed = h.formed; fitting = fitting l.bank sound (shape l.cmd) h.within })

    module _ (e : Nodes) (t : CodeState) (k : TermId) (de : Keeps d e) (g : Gives e t k (walk (sorts_in d first_scope) (command d (shape l.cmd)) (term d nothing) (state_of d first_state))) where
      pub gathers : MayGather e t.found nothing
      gathers = may_gather d e first_scope (shape l.cmd) nothing k first_state t de st.is st.within first_is g

      found_final : found_of e t.found ≡ (walk (sorts_of_vars l) (command_of l) (Truth true) (start (sorts_of_vars l))).state.found
      found_final =
          found_is l.bank d e first_scope (shape l.cmd) nothing k first_state t ld given_there h.within st.is first_is g
          ∙ ap (λ z. (walk (sort_list l.bank (sorts_of z)) (command_of l) (Truth true) (start (sort_list l.bank (sorts_of z)))).state.found) given_is

      pub all_exact : ((x : Node) → Fits l.bank x ↔ (IsNamed l.bank x × (fits (tree l.bank x) ≡ true))) → (f : Nodes) (cs : List Condition) → AllConjunctions f (found_of e t.found) cs → AreExact l f cs
      all_exact nodes f cs conj = exact_all l f (found_of e t.found) cs found_final (sorts_fine l.bank sound nodes (sorts_of l.vars) h.vars) (fitting l.bank sound (shape l.cmd) h.within) h.formed conj
