-- Which equations are proved at a point, and the verdicts of a contract.
use Rattle.std.proofs.Common.{◌≡◌, ◌+◌, ◌-◌, ◌<◌, ◌≤◌, ◌↔◌, ◌⊎◌, inl, inr, ⊎_elim, ℕ, Bool, true, false, IsTrue, MatchBool, List, [], ◌∷◌, ◌++◌, length, get_or, take, drop, map, refl, sym, ap, subst, ◌∙◌, arith}
use Rattle.std.specs.Prelude.{All, Any, OnOk, Result, Ok, Err}
use Rattle.std.specs.List.{HoldsAt, AllWithin}
use Rattle.std.proofs.lemmas.List.{get_or-map, get_or_default, map_push, map_more, take_all, length-map, length-append, get_or_append_left, get_or-append_right, take-append-drop, drop_more, length-take-le}
use Rattle.std.proofs.lemmas.List.Elements.{All-more}
use Rattle.std.proofs.lemmas.Bool.{cases_lt, false≢true}
use Rattle.sv_first_form.specs.declared.contract.Act.{Act}
use Rattle.sv_first_form.specs.declared.contract.Contract.{Contract}
use Rattle.sv_first_form.specs.declared.contract.Equation.{Equation}
use Rattle.sv_first_form.specs.declared.contract.Function.{Function}
use Rattle.sv_first_judge.specs.Judging.{equation_form, judged_function, known_at_entry, Known, Judged, IsProved, IsFirstUnproved, IsVerdict, AreVerdicts}
use Rattle.sv_first_judge.specs.LinearForm.{LinearForm, variable_form}
use Rattle.sv_first_judge.specs.Points.{IsProvedForm, known_after_acts}
use Rattle.sv_first_judge.specs.Rows.{form_of}
use Rattle.sv_first_judge.specs.declared.row.Row.{Row}
use Rattle.sv_first_judge.specs.declared.verdict.Verdict.{Verdict}

-- some element of a mapped list, and of two lists joined
module _ {X Y : Type 0} (f : X → Y) (P : Y → Type 0) where
  pub Any-map : (xs : List X) → Any (λ x. P (f x)) xs → Any P (map f xs)
  Any-map xs h =
      let k = h.0 in
      let x = h.1 in
      let at : get_or (map f xs) k (f x) ≡ f x = get_or-map f xs k x (f x) h.2 ∙ ap f h.3 in
      (k, f x, omega (arith, h.2, length-map xs f), at, h.4)

  pub Any-from_map : (xs : List X) → Any P (map f xs) → Any (λ x. P (f x)) xs
  Any-from_map [] h = absurd (omega (arith, h.2))
  Any-from_map (x ∷ xs) h =
      let k = h.0 in
      let inside : k < length (x ∷ xs) = omega (arith, h.2, length-map xs f) in
      let it = get_or (x ∷ xs) k x in
      let same : f it ≡ h.1 = sym (get_or-map f (x ∷ xs) k x h.1 inside) ∙ h.3 in
      (k, it, inside, get_or_default (x ∷ xs) k it x inside, subst P (sym same) h.4)

module _ {X : Type 0} (P : X → Type 0) where
  pub Any-append_left : (xs ys : List X) → Any P xs → Any P (xs ++ ys)
  Any-append_left xs ys h =
      (h.0, h.1, omega (arith, h.2, length-append xs ys), get_or_append_left xs ys h.1 h.0 h.2 ∙ h.3, h.4)

  pub Any-append_right : (xs ys : List X) → Any P ys → Any P (xs ++ ys)
  Any-append_right xs ys h =
      let place : length xs + h.0 - length xs ≡ h.0 = omega arith in (
        length xs + h.0,
        h.1,
        omega (arith, h.2, length-append xs ys),
        get_or-append_right xs ys (length xs) (length xs + h.0) h.1 refl (omega arith) ∙ ap (λ k. get_or ys k h.1) place ∙ h.3,
        h.4,
      )

  pub Any-append_cases : (xs ys : List X) → Any P (xs ++ ys) → Any P xs ⊎ Any P ys
  Any-append_cases xs ys h =
      let k = h.0 in
      ⊎_elim
      (λ inside. inl (k, h.1, inside, sym (get_or_append_left xs ys h.1 k inside) ∙ h.3, h.4))
      (λ past. inr (k - length xs, h.1, omega (arith, h.2, length-append xs ys), sym (get_or-append_right xs ys (length xs) k h.1 refl past) ∙ h.3, h.4))
      (cases_lt k (length xs))

-- what follows from two facts that hold where a result is Ok
pub on_both : {E : Type 0} (A B : Type 0) {C : Type 0} (r : Result (Unit {0}) E) → OnOk r A → OnOk r B → (A → B → C) → OnOk r C
on_both A B (Ok _) a b f = f a b
on_both A B (Err _) a b f = tt

-- one equation of a list, where a row has its form
module _ (known : Known) (invariants : List Equation) (i : ℕ) (e : Equation) (row : Row) (inside : i < length invariants) (here : e ≡ get_or invariants i e) (form : form_of row ≡ equation_form known.values e) (so_far : All (IsProved known) (take i invariants)) where
  pub proved_more : IsProvedForm known (form_of row) → All (IsProved known) (take (i + 1) invariants)
  proved_more h =
      let P : LinearForm → Type 0 = λ f. IsProvedForm known f in
      let Q : Equation → Type 0 = λ it. IsProved known it in
      All-more (IsProved known) invariants i e inside so_far (subst Q here (subst P form h))

  pub first_unproved : (IsProvedForm known (form_of row) → ⊥) → IsFirstUnproved invariants known (i + 1)
  first_unproved unproved = record {
    before = take i invariants;
    invariant = e;
    after = drop (i + 1) invariants;
    place = sym (take-append-drop i invariants) ∙ ap (λ rest. take i invariants ++ rest) (drop_more invariants i e inside) ∙ ap (λ it. take i invariants ++ it ∷ drop (i + 1) invariants) (sym here);
    counted = omega (arith, length-take-le i invariants (omega arith));
    proved = so_far;
    unproved = λ h. unproved (let P : LinearForm → Type 0 = λ f. IsProvedForm known f in subst P (sym form) h);
  }

pub all_proved : (known : Known) (invariants : List Equation) (i : ℕ) → length invariants ≤ i → All (IsProved known) (take i invariants) → All (IsProved known) invariants
all_proved known invariants i h proved =
    let P : List Equation → Type 0 = λ es. All (IsProved known) es in
    subst P (take_all i invariants h) proved

-- the rows of the equations so far, and one more
pub rows_more : (form : Equation → LinearForm) (rows new : List Row) (invariants : List Equation) (i : ℕ) (e : Equation) (row : Row) → i < length invariants → e ≡ get_or invariants i e → form_of row ≡ form e → map form_of rows ≡ map form (take i invariants) → new ≡ rows ++ row ∷ [] → map form_of new ≡ map form (take (i + 1) invariants)
rows_more form rows new invariants i e row inside here same so_far pushed =
    ap (map form_of) pushed ∙ map_push form_of rows row ∙ ap (λ fs. fs ++ form_of row ∷ []) so_far
    ∙ ap (λ f. map form (take i invariants) ++ f ∷ []) (same ∙ ap form here) ∙ sym (map_more form invariants i e inside)

-- one verdict more
pub AreVerdicts-push : (invariants : List Equation) (judged : List Judged) (verdicts : List Verdict) (j : Judged) (v : Verdict) → AreVerdicts invariants judged verdicts → IsVerdict invariants j.end v → AreVerdicts invariants (judged ++ j ∷ []) (verdicts ++ v ∷ [])
AreVerdicts-push invariants [] [] j v so_far last = (last, tt)
AreVerdicts-push invariants [] (w ∷ ws) j v so_far last = absurd so_far
AreVerdicts-push invariants (i ∷ is) [] j v so_far last = absurd so_far
AreVerdicts-push invariants (i ∷ is) (w ∷ ws) j v so_far last = (so_far.0, AreVerdicts-push invariants is ws j v so_far.1 last)

-- what a search for an element says of some element
pub Any-from_search : {X : Type 0} (P : X → Type 0) (xs : List X) (d : X) (r : Bool) → MatchBool r ((k : ℕ) × (k < length xs) × HoldsAt P xs k) (AllWithin (λ x. P x → ⊥) xs 0 (length xs)) → IsTrue r ↔ Any P xs
Any-from_search P xs d true h = (λ t. (h.0, get_or xs h.0 d, h.1, get_or_default xs h.0 (get_or xs h.0 d) d h.1, h.2 d), λ some. refl)
Any-from_search P xs d false h = (λ t. absurd (false≢true t), λ some. absurd (h some.0 some.1 (omega arith) some.2 (let Q = P in subst Q (sym some.3) some.4)))

-- a verdict on equal equations, where the same is known
pub verdict_at : (invariants others : List Equation) (known other : Known) (v : Verdict) → others ≡ invariants → other ≡ known → IsVerdict others other v → IsVerdict invariants known v
verdict_at invariants others known other v e f h =
    let P : List Equation → Type 0 = λ es. IsVerdict es known v in
    let Q : Known → Type 0 = λ k. IsVerdict others k v in
    subst P e (subst Q f h)

pub first_verdict : (invariants : List Equation) (first : Judged) (none new : List Verdict) (v : Verdict) → none ≡ [] → new ≡ none ++ v ∷ [] → IsVerdict invariants first.end v → AreVerdicts invariants (first ∷ []) new
first_verdict invariants first none new v empty pushed h =
    let P : List Verdict → Type 0 = λ vs. AreVerdicts invariants (first ∷ []) vs in
    subst P (sym (pushed ∙ ap (λ vs. vs ++ v ∷ []) empty)) (h, tt)

-- what is known where the rows of the hypotheses are those of the contract's invariants
module _ (c : Contract) (rows : List Row) (same : map form_of rows ≡ map (equation_form variable_form) c.invariants) where
  pub known_at_end : (f : Function) (acts : List Act) → acts ≡ f.acts → known_after_acts (map form_of rows) acts ≡ (judged_function c f).end
  known_at_end f acts e = ap (known_after_acts (map form_of rows)) e ∙ ap (λ (hs : List LinearForm). known_after_acts hs f.acts) same

  pub known_of_gift : known_after_acts (map form_of rows) [] ≡ known_at_entry c
  known_of_gift = ap (λ (hs : List LinearForm). known_after_acts hs []) same

-- the verdicts of the functions so far, and one more; and of all, where `first` is judged before them and `last` after them
module _ (c : Contract) (first : Judged) (verdicts new : List Verdict) (v : Verdict) (pushed : new ≡ verdicts ++ v ∷ []) (i : ℕ) (so_far : AreVerdicts c.invariants (first ∷ map (judged_function c) (take i c.functions)) verdicts) where
  pub verdicts_more : (f : Function) → i < length c.functions → f ≡ get_or c.functions i f → IsVerdict c.invariants (judged_function c f).end v → AreVerdicts c.invariants (first ∷ map (judged_function c) (take (i + 1) c.functions)) new
  verdicts_more f inside here h =
      let judged = map (judged_function c) (take i c.functions) in
      let P : List Verdict → Type 0 = λ vs. AreVerdicts c.invariants (first ∷ map (judged_function c) (take (i + 1) c.functions)) vs in
      let Q : List Judged → Type 0 = λ js. AreVerdicts c.invariants (first ∷ js) (verdicts ++ v ∷ []) in
      let R : Function → Type 0 = λ g. AreVerdicts c.invariants (first ∷ judged ++ judged_function c g ∷ []) (verdicts ++ v ∷ []) in
      subst P (sym pushed) (subst Q (sym (map_more (judged_function c) c.functions i f inside)) (subst R here (AreVerdicts-push c.invariants (first ∷ judged) verdicts (judged_function c f) v so_far h)))

  pub verdicts_all : (last : Judged) → length c.functions ≤ i → IsVerdict c.invariants last.end v → AreVerdicts c.invariants (first ∷ map (judged_function c) c.functions ++ last ∷ []) new
  verdicts_all last h verdict =
      let P : List Verdict → Type 0 = λ vs. AreVerdicts c.invariants (first ∷ map (judged_function c) c.functions ++ last ∷ []) vs in
      let Q : List Function → Type 0 = λ fs. AreVerdicts c.invariants (first ∷ map (judged_function c) fs ++ last ∷ []) (verdicts ++ v ∷ []) in
      subst P (sym pushed) (subst Q (take_all i c.functions h) (AreVerdicts-push c.invariants (first ∷ map (judged_function c) (take i c.functions)) verdicts last v so_far verdict))
