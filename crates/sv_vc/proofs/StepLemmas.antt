-- What each command that is no list of commands makes of a state.
use Rattle.std.proofs.Common.{ℕ, zero, suc, ◌+◌, ◌<◌, ◌≡◌, true, List, [], ◌∷◌, ◌++◌, length, get_or, slice_set, refl, sym, ap, ap₂, ◌∙◌, subst, arith, length-append}
use Rattle.std.proofs.lemmas.List.{length-map}
use Rattle.sv_core.specs.declared.label.Label.{Label}
use Rattle.sv_term.specs.Sorts.{Sort}
use Rattle.sv_term.specs.Terms.{Truth, Var}
use Rattle.sv_term.specs.Banks.{Nodes, IsTerm, IsBool, AreTerms, AreSorts, IsSort, Keeps, Stands, sort, term, term_list, sort_list, wide, kind_of}
use Rattle.sv_term.specs.declared.node.TermId.{TermId}
use Rattle.sv_term.proofs.BankGrowth.{keeps_on}
use Rattle.sv_term.proofs.BankLists.{list_set, within_set, sort_list_at, sort_within_at, sort_list_length}
use Rattle.sv_gcl.specs.declared.lowered.GVar.{GVar}
use Rattle.sv_gcl.specs.Commands.{var_sort}
use Rattle.sv_gcl.specs.Commands as c
use Rattle.sv_gcl.specs.CommandShapes.{Assume, Check, Set}
use Rattle.sv_gcl.specs.FormedCommands.{IsClaim, IsOver}
use Rattle.sv_vc.specs.declared.answer.Condition.{Condition}
use Rattle.sv_vc.specs.declared.state.Scope.{Scope}
use Rattle.sv_vc.specs.declared.state.State.{State as CodeState}
use Rattle.sv_vc.specs.Replacing.{replaced}
use Rattle.sv_vc.specs.ConditionWalk.{walk, implied}
use Rattle.sv_vc.specs.OpenTerms.{IsOpen}
use Rattle.sv_vc.specs.CodeStates.{sorts_of, formulas_of, found_of, state_of, sorts_in, IsScope, IsMade, MayWalk, Gives}
use Rattle.sv_vc.proofs.Basics.{kind_kept}
use Rattle.sv_vc.proofs.StoreModels.{wide_sort}
use Rattle.sv_vc.proofs.Kept.{state_is, found_kept, state_kept}

-- ---- lists

pub found_push : (b : Nodes) (cs : List Condition) (x : Condition) → found_of b (cs ++ x ∷ []) ≡ found_of b cs ++ record { label = x.label; formula = term b x.formula } ∷ []
found_push b [] x = refl
found_push b (y ∷ cs) x = ap (λ z. record { label = y.label; formula = term b y.formula } ∷ z) (found_push b cs x)

pub formulas_push : (b : Nodes) (cs : List Condition) (x : Condition) → AreTerms b (formulas_of cs) → IsTerm b x.formula → AreTerms b (formulas_of (cs ++ x ∷ []))
formulas_push b [] x h i = (i, tt)
formulas_push b (y ∷ cs) x h i = (h.0, formulas_push b cs x h.1 i)

pub sorts_long : (vs : List GVar) → length (sorts_of vs) ≡ length vs
sorts_long [] = refl
sorts_long (v ∷ vs) = ap suc (sorts_long vs)

pub sort_at : (vs : List GVar) (x : ℕ) (d : GVar) → x < length vs → get_or (sorts_of vs) x record { 0 = 0 } ≡ (get_or vs x d).sort
sort_at [] x d h = absurd (omega (arith, h))
sort_at (v ∷ vs) zero d h = refl
sort_at (v ∷ vs) (suc x) d h = sort_at vs x d (omega (arith, h))

-- the sort of a variable of the command
pub var_kind : (b : Nodes) (vs : List GVar) (x : ℕ) (v : GVar) → v ≡ get_or vs x v → x < length vs → sort b v.sort ≡ var_sort (sort_list b (sorts_of vs)) x
var_kind b vs x v e h =
    let within : x < length (sorts_of vs) = omega (arith, h, sorts_long vs) in
    ap (λ z. sort b z.sort) e ∙ (ap (sort b) (sym (sort_at vs x v h)) ∙ sym (sort_list_at b (sorts_of vs) x within))

pub var_within : (b : Nodes) (vs : List GVar) (x : ℕ) (v : GVar) → v ≡ get_or vs x v → x < length vs → AreSorts b (sorts_of vs) → IsSort b v.sort
var_within b vs x v e h a =
    subst (λ z. IsSort b z) (sort_at vs x v h ∙ ap (λ z. z.sort) (sym e)) (sort_within_at b (sorts_of vs) x a (omega (arith, h, sorts_long vs)))

pub scope_long : (b : Nodes) (scope : Scope) → length (sorts_in b scope) ≡ length scope.given
scope_long b scope = sort_list_length b (sorts_of scope.given) ∙ sorts_long scope.given

-- ---- steps

module _ (o : Nodes) (scope : Scope) (before : TermId) (s : CodeState) (m : MayWalk o scope before s) where
  abbrev pub V : List Sort
  V = sorts_in o scope

  -- a claim and a term that is set
  pub open_at : (f : TermId) → IsOver V (term o f) → IsOpen (term o f) (term_list o s.env)
  open_at f h = record { vars = V; over = h; kinds = m.ready.sorted.kinds; size = m.ready.sorted.size }

  kind_is : (b : Nodes) (f k : TermId) → IsOver V (term o f) → Stands b k (replaced (term o f) (term_list o s.env)) → kind_of (term b k) ≡ kind_of (term o f)
  kind_is b f k h st = ap kind_of st.is ∙ kind_kept V (term_list o s.env) m.ready.sorted.kinds (term o f) h

  claim_is : (b : Nodes) (f k : TermId) → IsClaim V (term o f) → Stands b k (replaced (term o f) (term_list o s.env)) → IsBool b k
  claim_is b f k h st = record { within = st.within; truth = kind_is b f k h.over st ∙ ap wide h.truth }

  pub assumed : (b : Nodes) (f k : TermId) → Keeps o b → IsMade o V (Assume f) → Stands b k (replaced (term o f) (term_list o s.env)) → Gives b s k (walk V (c.Assume (term o f)) (term o before) (state_of o s))
  assumed b f k kept h st = record {
    truth = claim_is b f k h.formed st;
    facts = st.is;
    env = kept.within s.env m.ready.env;
    found = kept.within (formulas_of s.found) m.ready.found;
    state = state_kept o b kept s m.ready.env m.ready.found;
  }

  pub checked_bool : (b : Nodes) (l : Label) (f k : TermId) → IsMade o V (Check l f) → Stands b k (replaced (term o f) (term_list o s.env)) → IsBool b k
  checked_bool b l f k h st = claim_is b f k h.formed st

  pub checked : (a d : Nodes) (l : Label) (f k formula : TermId) (after : List Condition) → Keeps o a → Keeps a d → IsMade o V (Check l f) → Stands a k (replaced (term o f) (term_list o s.env))
      → Stands d formula (implied (term o before) (term a k)) → after ≡ s.found ++ record { label = l; formula = formula } ∷ []
      → Gives d record { env = s.env; vars = s.vars; found = after } k (walk V (c.Check l (term o f)) (term o before) (state_of o s))
  checked a d l f k formula after oa ad h st stands e =
      let od : Keeps o d = keeps_on oa ad in
      let now : term d k ≡ replaced (term o f) (term_list o s.env) = ad.terms k st.within ∙ st.is in
      let bool : IsBool a k = claim_is a f k h.formed st in
      record {
        truth = record { within = omega (arith, st.within, ad.size); truth = ap kind_of (ad.terms k st.within) ∙ bool.truth };
        facts = now;
        env = od.within s.env m.ready.env;
        found = subst (λ z. AreTerms d (formulas_of z)) (sym e) (formulas_push d s.found record { label = l; formula = formula } (od.within (formulas_of s.found) m.ready.found) stands.within);
        state = state_is (od.lists s.env m.ready.env) refl
            (ap (found_of d) e ∙ (found_push d s.found record { label = l; formula = formula } ∙ ap₂ (λ fs y. fs ++ record { label = l; formula = y } ∷ []) (found_kept o d od s.found m.ready.found) (stands.is ∙ ap (implied (term o before)) st.is)));
      }

  pub assigned : (a b : Nodes) (x : ℕ) (u k nothing : TermId) (env : List TermId) → Keeps o a → Keeps a b → IsMade o V (Set x u) → Stands a k (replaced (term o u) (term_list o s.env)) → Stands b nothing (Truth true) → env ≡ slice_set s.env x k
      → Gives b record { env = env; vars = s.vars; found = s.found } nothing (walk V (c.Set x (term o u)) (term o before) (state_of o s))
  assigned a b x u k nothing env oa ab h st nt e =
      let ob : Keeps o b = keeps_on oa ab in
      record {
        truth = record { within = nt.within; truth = ap kind_of nt.is };
        facts = nt.is;
        env = subst (AreTerms b) (sym e) (within_set b s.env x k (ob.within s.env m.ready.env) (omega (arith, st.within, ab.size)));
        found = ob.within (formulas_of s.found) m.ready.found;
        state = state_is
            (ap (term_list b) e ∙ (list_set b s.env x k ∙ ap₂ (λ us y. slice_set us x y) (ob.lists s.env m.ready.env) (ab.terms k st.within ∙ st.is))) refl
            (found_kept o b ob s.found m.ready.found);
      }

  pub forgotten : (b : Nodes) (x : ℕ) (v : GVar) (k nothing : TermId) (env : List TermId) (vars : List GVar) → Keeps o b → v ≡ get_or scope.given x v → x < length scope.given → Stands b k (Var (length s.vars) (sort o v.sort)) → Stands b nothing (Truth true)
      → env ≡ slice_set s.env x k → vars ≡ s.vars ++ v ∷ [] → Gives b record { env = env; vars = vars; found = s.found } nothing (walk V (c.Forget x) (term o before) (state_of o s))
  forgotten b x v k nothing env vars ob at h st nt e g = record {
    truth = record { within = nt.within; truth = ap kind_of nt.is };
    facts = nt.is;
    env = subst (AreTerms b) (sym e) (within_set b s.env x k (ob.within s.env m.ready.env) st.within);
    found = ob.within (formulas_of s.found) m.ready.found;
    state = state_is
        (ap (term_list b) e ∙ (list_set b s.env x k ∙ ap₂ (λ us y. slice_set us x y) (ob.lists s.env m.ready.env) (st.is ∙ ap (Var (length s.vars)) (var_kind o scope.given x v at h))))
        (ap length g ∙ (length-append s.vars (v ∷ []) ∙ one_more (length s.vars)))
        (found_kept o b ob s.found m.ready.found);
  }
    where
      one_more : (n : ℕ) → n + 1 ≡ suc n
      one_more n = omega arith

-- ---- versions

pub joined_kind : (b : Nodes) (scope : Scope) (x : ℕ) (v : GVar) → IsScope b scope → v ≡ get_or scope.joined x v → x < length scope.joined → sort b v.sort ≡ wide (var_sort (sorts_in b scope) x)
joined_kind b scope x v s at h = var_kind b scope.joined x v at h ∙ (ap (λ z. var_sort z x) s.wides ∙ wide_sort (sorts_in b scope) x)

pub joined_long : (b : Nodes) (scope : Scope) → IsScope b scope → length scope.joined ≡ length scope.given
joined_long b scope s =
    sym (sorts_long scope.joined) ∙ (sym (sort_list_length b (sorts_of scope.joined)) ∙ (ap length s.wides ∙ (length-map (sorts_in b scope) wide ∙ scope_long b scope)))
