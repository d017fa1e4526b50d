-- The values of the variables after one more assignment.
use Rattle.std.proofs.Common.{◌≡◌, ◌+◌, ◌≤◌, ℕ, List, [], ◌∷◌, ◌++◌, length, Result, Ok, Err, OnOk, OnErr, sym, ap, subst, arith}
use Rattle.std.specs.Prelude.{All}
use Rattle.std.proofs.lemmas.List.{length-append}
use Rattle.std.proofs.lemmas.List.Elements.{All-push}
use Rattle.sv_first_judge.proofs.WeightLemmas.{most_after_grows}
use Rattle.sv_first_judge.specs.Rows.{weight_of}
use Rattle.sv_first_judge.specs.Weights.{most_after}
use Rattle.sv_first_judge.specs.declared.values.Assigned.{Assigned}

-- the rows weigh at most what so many assignments allow
abbrev pub AreLight : ℕ → List Assigned → Type 0
AreLight n assigned = All (λ a. weight_of a.row ≤ most_after n) assigned

AreLight-push : (assigned : List Assigned) (a : Assigned) → weight_of a.row ≤ most_after (length assigned + 1) → AreLight (length assigned) assigned → AreLight (length (assigned ++ a ∷ [])) (assigned ++ a ∷ [])
AreLight-push assigned a h light =
    let P : ℕ → Type 0 = λ n. AreLight n (assigned ++ a ∷ []) in
    let grown : AreLight (length assigned + 1) assigned = λ k d l. omega (arith, light k d l, most_after_grows (length assigned)) in
    subst P (sym (length-append assigned (a ∷ []))) (All-push (λ (b : Assigned). weight_of b.row ≤ most_after (length assigned + 1)) assigned a grown h)

-- after a push that may fail
pub AreLight-tried : {E : Type 0} (r : Result (Unit {0}) E) (assigned new : List Assigned) (a : Assigned) → OnOk r (new ≡ assigned ++ a ∷ []) → OnErr r (new ≡ assigned) → weight_of a.row ≤ most_after (length assigned + 1) → AreLight (length assigned) assigned → AreLight (length new) new
AreLight-tried (Ok x) assigned new a ok err h light = let P : List Assigned → Type 0 = λ xs. AreLight (length xs) xs in subst P (sym ok) (AreLight-push assigned a h light)
AreLight-tried (Err x) assigned new a ok err h light = let P : List Assigned → Type 0 = λ xs. AreLight (length xs) xs in subst P (sym err) light

pub length_tried : {E : Type 0} (r : Result (Unit {0}) E) (assigned new : List Assigned) (a : Assigned) → OnOk r (new ≡ assigned ++ a ∷ []) → OnErr r (new ≡ assigned) → length new ≤ length assigned + 1
length_tried (Ok x) assigned new a ok err = omega (arith, ap length ok, length-append assigned (a ∷ []))
length_tried (Err x) assigned new a ok err = omega (arith, ap length err)
