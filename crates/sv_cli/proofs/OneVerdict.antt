-- A function has one verdict, and a contract one report.
use Rattle.std.proofs.Common.{◌≡◌, ℕ, suc, ◌+◌, List, [], ◌∷◌, ◌++◌, All, length, if◌then◌else◌, refl, sym, ap, subst, ◌∙◌}
use Rattle.std.specs.List.{list_all}
use Rattle.std.proofs.lemmas.List.Elements.{All-head, All-tail}
use Rattle.sv_report.specs.Report.{Reports, report_text}
use Rattle.sv_report.specs.declared.ended.Ended.{Ended}
use Rattle.sv_report.specs.declared.ended.Ended.TheVariants.{Holds, Unheld}
use Rattle.sv_first_form.specs.declared.contract.Contract.{Contract}
use Rattle.sv_first_form.specs.declared.contract.Equation.{Equation}
use Rattle.sv_first_judge.specs.Judging.{Known, Judged, judged_of, IsProved, IsVerdict, AreVerdicts}
use Rattle.sv_first_judge.specs.Verdict.{is_verified}
use Rattle.sv_first_judge.specs.declared.verdict.Verdict.{Verdict}
use Rattle.sv_first_judge.specs.declared.verdict.Verdict.TheVariants.{Verified, Unproved}

-- where all are proved none is unproved
proved_among : (k : Known) (before : List Equation) (e : Equation) (after : List Equation) → All (IsProved k) (before ++ e ∷ after) → IsProved k e
proved_among k [] e after all = All-head (IsProved k) e after all
proved_among k (b ∷ before) e after all = proved_among k before e after (All-tail (IsProved k) b (before ++ e ∷ after) all)

-- two first unproved invariants stand at one place
same_place : (k : Known) (b1 b2 : List Equation) (e1 e2 : Equation) (a1 a2 : List Equation)
    → b1 ++ e1 ∷ a1 ≡ b2 ++ e2 ∷ a2 → All (IsProved k) b1 → All (IsProved k) b2 → (IsProved k e1 → ⊥) → (IsProved k e2 → ⊥) → length b1 ≡ length b2
same_place k [] [] e1 e2 a1 a2 same p1 p2 n1 n2 = refl
same_place k [] (b ∷ b2) e1 e2 a1 a2 same p1 p2 n1 n2 =
    let head : b ≡ e1 = cc in absurd (n1 (subst (IsProved k) head (All-head (IsProved k) b b2 p2)))
same_place k (b ∷ b1) [] e1 e2 a1 a2 same p1 p2 n1 n2 =
    let head : b ≡ e2 = cc in absurd (n2 (subst (IsProved k) head (All-head (IsProved k) b b1 p1)))
same_place k (x ∷ b1) (y ∷ b2) e1 e2 a1 a2 same p1 p2 n1 n2 =
    ap suc (same_place k b1 b2 e1 e2 a1 a2 (cc) (All-tail (IsProved k) x b1 p1) (All-tail (IsProved k) y b2 p2) n1 n2)

one_verdict : (invariants : List Equation) (k : Known) (v w : Verdict) → IsVerdict invariants k v → IsVerdict invariants k w → v ≡ w
one_verdict invariants k (Verified m) (Verified n) p q = ap (λ (c : ℕ). Verified c) (p.0 ∙ sym q.0)
one_verdict invariants k (Verified m) (Unproved n) p q =
    absurd (q.unproved (proved_among k q.before q.invariant q.after (subst (All (IsProved k)) q.place p.1)))
one_verdict invariants k (Unproved m) (Verified n) p q =
    absurd (p.unproved (proved_among k p.before p.invariant p.after (subst (All (IsProved k)) p.place q.1)))
one_verdict invariants k (Unproved m) (Unproved n) p q =
    let place = same_place k p.before q.before p.invariant q.invariant p.after q.after (sym p.place ∙ q.place) p.proved q.proved p.unproved q.unproved in
    ap (λ (c : ℕ). Unproved c) (p.counted ∙ ap (λ (c : ℕ). c + 1) place ∙ sym q.counted)

one_list : (invariants : List Equation) (js : List Judged) (vs ws : List Verdict) → AreVerdicts invariants js vs → AreVerdicts invariants js ws → vs ≡ ws
one_list invariants [] [] [] p q = refl
one_list invariants [] [] (w ∷ ws) p q = absurd q
one_list invariants [] (v ∷ vs) ws p q = absurd p
one_list invariants (j ∷ js) [] ws p q = absurd p
one_list invariants (j ∷ js) (v ∷ vs) [] p q = absurd q
one_list invariants (j ∷ js) (v ∷ vs) (w ∷ ws) p q =
    let head : v ≡ w = one_verdict invariants j.end v w p.0 q.0 in
    let tail : vs ≡ ws = one_list invariants js vs ws p.1 q.1 in
    ap (λ (x : Verdict). x ∷ vs) head ∙ ap (λ (xs : List Verdict). w ∷ xs) tail

pub one_report : (c : Contract) (due other : List ℕ) (ended other_ended : Ended) → Reports c due ended → Reports c other other_ended
    → (due ≡ other) × (ended ≡ other_ended)
one_report c due other ended other_ended p q =
    let same = one_list c.invariants (judged_of c) p.verdicts q.verdicts p.judged q.judged in (
      p.text ∙ ap (report_text c) same ∙ sym q.text,
      p.ending ∙ ap (λ (vs : List Verdict). if list_all is_verified vs then Holds else Unheld) same ∙ sym q.ending,
    )
