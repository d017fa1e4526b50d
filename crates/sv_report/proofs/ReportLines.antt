-- The lines of a report, one after another.
use Rattle.std.proofs.Common.{◌≡◌, ℕ, ◌+◌, ◌<◌, ◌≤◌, List, [], ◌∷◌, ◌++◌, length, drop, map, slice_get, get_or, Some, refl, sym, ap, ◌∙◌, arith, append_assoc, append-nil, add-one, suc, zero, codes, ◌-◌}
use Rattle.std.proofs.lemmas.List.{drop_all}
use Rattle.std.proofs.lemmas.Option.{slice_get-get_or, slice_get_read}
use Rattle.sv_report.specs.Report.{line_text, lines_text}
use Rattle.sv_first_form.specs.declared.contract.Contract.{Contract}
use Rattle.sv_first_form.specs.declared.contract.Function.{Function}
use Rattle.sv_first_judge.specs.Judging.{Judged, judged_of, judged_function, known_at_entry}
use Rattle.sv_first_judge.specs.declared.verdict.Verdict.{Verdict}

-- the lines from a place on begin with the line there
lines-at : (name : List ℕ) (js : List Judged) (vs : List Verdict) (k : ℕ) (j : Judged) (v : Verdict)
    → slice_get js k ≡ Some j → slice_get vs k ≡ Some v
    → lines_text name (drop k js) (drop k vs) ≡ line_text name j.name v ++ lines_text name (drop (suc k) js) (drop (suc k) vs)
lines-at name [] vs k j v p q = cc
lines-at name (a ∷ js) [] k j v p q = cc
lines-at name (a ∷ js) (b ∷ vs) zero j v p q =
    let this : a ≡ j = cc in
    let verdict : b ≡ v = cc in
    ap (λ (x : Judged). line_text name x.name b ++ lines_text name js vs) this
    ∙ ap (λ (x : Verdict). line_text name j.name x ++ lines_text name js vs) verdict
lines-at name (a ∷ js) (b ∷ vs) (suc k) j v p q = lines-at name js vs k j v p q

-- past a first element, what a list of images has at a place
at_map : (c : Contract) (fs : List Function) (last : Judged) (k : ℕ) (f : Function)
    → slice_get fs k ≡ Some f → slice_get (map (judged_function c) fs ++ last ∷ []) k ≡ Some (judged_function c f)
at_map c [] last k f p = cc
at_map c (g ∷ fs) last zero f p = let this : g ≡ f = cc in ap (λ (x : Function). Some (judged_function c x)) this
at_map c (g ∷ fs) last (suc k) f p = at_map c fs last k f p

-- after the line of the constructor, the line of the function at a place is the next
pub function_line : (c : Contract) (vs : List Verdict) (k : ℕ) (f : Function) (d : Verdict)
    → k < length c.functions → f ≡ get_or c.functions k f → k + 1 < length vs
    → lines_text c.name (drop (k + 1) (judged_of c)) (drop (k + 1) vs)
    ≡ line_text c.name f.name (get_or vs (k + 1) d) ++ lines_text c.name (drop (k + 1 + 1) (judged_of c)) (drop (k + 1 + 1) vs)
function_line c vs k f d within is more =
    let here : slice_get c.functions k ≡ Some f = slice_get_read c.functions _ k f refl within is in
    let verdict : slice_get vs (suc k) ≡ Some (get_or vs (suc k) d) = slice_get-get_or vs (suc k) d (omega arith) in
    rw (add-one, add-one) (lines-at c.name (judged_of c) vs (suc k) (judged_function c f) (get_or vs (suc k) d) (at_map c c.functions _ k f here) verdict)

at_last : (c : Contract) (fs : List Function) (last : Judged) → slice_get (map (judged_function c) fs ++ last ∷ []) (length fs) ≡ Some last
at_last c [] last = refl
at_last c (f ∷ fs) last = at_last c fs last

nothing_left : (name : List ℕ) (js : List Judged) (vs : List Verdict) (k : ℕ) → length vs ≤ k → lines_text name (drop k js) (drop k vs) ≡ []
nothing_left name js vs k past = ap (λ (rest : List Verdict). lines_text name (drop k js) rest) (drop_all k vs past) ∙ none (drop k js)
  where
    none : (rest : List Judged) → lines_text name rest [] ≡ []
    none [] = refl
    none (j ∷ rest) = refl

-- after the lines of the functions, the line of `(gift)` is the last
pub gift_line : (c : Contract) (vs : List Verdict) (k : ℕ) (d : Verdict)
    → k ≡ length c.functions → length vs ≡ k + 2
    → lines_text c.name (drop (k + 1) (judged_of c)) (drop (k + 1) vs) ≡ line_text c.name (codes "(gift)") (get_or vs (length vs - 1) d)
gift_line c vs k d at_end size =
    let place : length vs - 1 ≡ suc k = omega arith in
    let verdict : slice_get vs (suc k) ≡ Some (get_or vs (suc k) d) = slice_get-get_or vs (suc k) d (omega arith) in
    let gift : Judged = record { name = codes "(gift)"; end = known_at_entry c } in
    let here : slice_get (judged_of c) (suc k) ≡ Some gift = ap (λ (n : ℕ). slice_get (judged_of c) (suc n)) at_end ∙ at_last c c.functions gift in
    rw (place, add-one) (lines-at c.name (judged_of c) vs (suc k) gift (get_or vs (suc k) d) here verdict
    ∙ ap (λ (rest : List ℕ). line_text c.name (codes "(gift)") (get_or vs (suc k) d) ++ rest) (nothing_left c.name (judged_of c) vs (suc (suc k)) (omega arith))
    ∙ append-nil _)

-- what is written and what is due still make up the whole, after one line more
pub advance : (report new line lines rest whole : List ℕ) → report ++ lines ≡ whole → lines ≡ line ++ rest → new ≡ report ++ line → new ++ rest ≡ whole
advance report new line lines rest whole so_far next now =
    ap (λ (r : List ℕ). r ++ rest) now ∙ append_assoc report line rest ∙ ap (λ (r : List ℕ). report ++ r) (sym next) ∙ so_far
