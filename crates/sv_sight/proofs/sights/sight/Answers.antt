use Rattle.std.proofs.Common.{ℕ, ◌≡◌, ◌∙◌, None, List, sym, ap, subst}
use Rattle.std.proofs.lemmas.Result.{IfOk-weaker}
use Rattle.sv_sight.specs.Sights.{Sees, places_from}
use Rattle.sv_sight.proofs.Marked.{marked_seen}
use Rattle.sv_sight.proofs.sights.sight.Goals as goal

pub returns-in_ok-marks-in-None : goal.returns-in_ok-marks-in-None
returns-in_ok-marks-in-None c =
    IfOk-weaker c.marked.result (λ (r : List ℕ). r ≡ places_from 0 c.as_slice-in-None.result.now) (λ (r : List ℕ). Sees c.args.bases.now c.args.line.now c.args.c r)
    (λ r h. subst (λ l. Sees c.args.bases.now l c.args.c r) (sym c.in-None.is) (marked_seen c.args.bases.now c.args.c c.in_ok-marks-in-None.marks r c.in_ok-marks-in-None.ensures (h ∙ ap (places_from 0) c.as_slice-in-None.ensures)))
    c.marked.ensures
