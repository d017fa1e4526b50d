-- Serves the proof: what the steps of a pattern ask, where terms are trees. Hold it against the comments at `Step`.
use Rattle.std.specs.Prelude.{ℕ, ◌-◌, ◌≤◌, Bool, true, false, not, ◌&&◌, List, [], ◌∷◌, ◌++◌, ◌≡◌, map, slice_get, Some}
use Rattle.sv_term.specs.Sorts.{Sort, element}
use Rattle.sv_term.specs.Terms.{Term, Terms, Lit, Wrap, Const, Get, Tup, one, two, three, zero_lit, sort_of, term_at, is_plain}
use Rattle.sv_term.specs.FactRules.{Fact, Says, in_range, is_low, has_least, has_greatest, least_lit, greatest_lit}
use Rattle.sv_log.specs.Logs.{nth_term}
use Rattle.sv_pattern.specs.TermKinds.{shape_by}
use Rattle.sv_pattern.specs.declared.step.Sign.{Sign}
use Rattle.sv_pattern.specs.declared.step.Sign.TheVariants.{Plus, Minus, Same, Other}
use Rattle.sv_pattern.specs.declared.step.Property.{Property}
use Rattle.sv_pattern.specs.declared.step.Property.TheVariants.{IsZero, IsDivisor, IsPlain, IsSummable}
use Rattle.sv_pattern.specs.declared.step.Relation.{Relation}
use Rattle.sv_pattern.specs.declared.step.Relation.TheVariants.{IsSame, IsOneLess, IsLeast, IsGreatest, IsConst, IsWrap, IsPart}
use Rattle.sv_pattern.specs.declared.step.Step.{Step}
use Rattle.sv_pattern.specs.declared.step.Step.TheVariants.{Concludes, Premise, One, Two, Three, Is, Are, InRange}

-- the sign of a premise, by that of the fact that is to follow
abbrev pub signed : Sign → Bool → Bool
signed Plus sign = true
signed Minus sign = false
signed Same sign = sign
signed Other sign = not sign

abbrev pub HasProperty : Property → Term → Type 0
HasProperty IsZero t = t ≡ zero_lit
HasProperty IsDivisor t = (d : ℕ) × (t ≡ Lit false d) × (1 ≤ d)
HasProperty IsPlain t = is_plain t ≡ true
HasProperty IsSummable t = (is_plain t && is_low (element (sort_of t))) ≡ true

abbrev pub AreRelated : Relation → Term → Term → Type 0
AreRelated IsSame t u = t ≡ u
AreRelated IsOneLess t u = (d : ℕ) × (u ≡ Lit false d) × (1 ≤ d) × (t ≡ Lit false (d - 1))
AreRelated IsLeast t u = (has_least (sort_of u) ≡ true) × (t ≡ least_lit (sort_of u))
AreRelated IsGreatest t u = (has_greatest (sort_of u) ≡ true) × (t ≡ greatest_lit (sort_of u))
AreRelated IsConst t u = (s : Sort) × (t ≡ Const s u)
AreRelated IsWrap t u = (g : Bool) × (n : ℕ) × (t ≡ Wrap g n u)
AreRelated IsPart t u = (k : ℕ) × (s : Sort) × (us : Terms) × (t ≡ Get k (Tup s us)) × (u ≡ term_at k us)

-- the steps hold of a fact of this sign, the premises that are left, and the terms that are named
abbrev pub Follows : List Step → Bool → List Fact → List Term → Type 0
Follows [] sign fs ts = fs ≡ []
Follows (Concludes b ∷ more) sign fs ts = (sign ≡ b) × Follows more sign fs ts
Follows (Premise s ∷ more) sign fs ts = (t : Term) × (gs : List Fact) × (fs ≡ Says (signed s sign) t ∷ gs) × Follows more sign gs (ts ++ t ∷ [])
Follows (One k x ∷ more) sign fs ts = (a : Term) × (slice_get ts k ≡ Some (one (shape_by x) a)) × Follows more sign fs (ts ++ a ∷ [])
Follows (Two k x ∷ more) sign fs ts = (a b : Term) × (slice_get ts k ≡ Some (two (shape_by x) a b)) × Follows more sign fs (ts ++ a ∷ b ∷ [])
Follows (Three k x ∷ more) sign fs ts = (a b c : Term) × (slice_get ts k ≡ Some (three (shape_by x) a b c)) × Follows more sign fs (ts ++ a ∷ b ∷ c ∷ [])
Follows (Is p k ∷ more) sign fs ts = (t : Term) × (slice_get ts k ≡ Some t) × HasProperty p t × Follows more sign fs ts
Follows (Are r j k ∷ more) sign fs ts = (t u : Term) × (slice_get ts j ≡ Some t) × (slice_get ts k ≡ Some u) × AreRelated r t u × Follows more sign fs ts
Follows (InRange j k ∷ more) sign fs ts =
    (t u : Term) × (gs : List Fact) × (slice_get ts j ≡ Some t) × (slice_get ts k ≡ Some u) × (fs ≡ in_range (sort_of t) u ++ gs) × Follows more sign gs ts

-- a fact follows from others by the steps
abbrev pub IsByPattern : List Step → List Fact → Fact → Type 0
IsByPattern steps fs (Says sign t) = Follows steps sign fs (t ∷ [])

-- ---- by numbers

abbrev pub fact_by : List Term → Bool × ℕ → Fact
fact_by ts p = Says p.0 (nth_term ts p.1)

abbrev pub facts_by : List Term → List (Bool × ℕ) → List Fact
facts_by ts ps = map (fact_by ts) ps

abbrev pub trees_by : List Term → List ℕ → List Term
trees_by ts ns = map (nth_term ts) ns
