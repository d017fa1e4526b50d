-- Believed: runs of statements, with a unit of gas for each statement and each turn of a loop. Hold it against Solidity's documentation, "Control Structures", "Error handling" and "Assignment".
use Rattle.std.specs.Prelude.{◌++◌, ℕ, zero, suc, Bool, not, if◌then◌else◌, List, [], ◌∷◌}
use Rattle.sv_type.specs.Shapes.{is_in_type}
use Rattle.sv_core.specs.PlainCode as code
use Rattle.sv_core.specs.PlainCode.{Expr, Act, Stmts, Arms}
use Rattle.sv_sem.specs.States.{Held, Value, type_of, kind_of, or_else}
use Rattle.sv_sem.specs.Operators.{is_zero, tested, binary}
use Rattle.sv_sem.specs.NamedParts.{assign, delete}
use Rattle.sv_sem.specs.TrueValues.{effect_of, value, a_number, target, given}
use Rattle.sv_sem.specs.Adversary.{Broken}
use Rattle.sv_sem.specs.RunParts.{Done, Broke, Continued, Returned, Outcome, Ends, Reverted, Config, Ran, Runner, Rec, Setting, ran, reverted, viewed, ended, marked, next, with_option, paid, at_rest, after_rest, into_results, into_slots}
use Rattle.sv_sem.specs.Effects.{after_effect}

-- ---- full expressions

-- goes on with the value of a full expression
abbrev pub with_value : Setting → Rec → Expr → Config → (Held → Runner) → Ran
with_value set rec e g go = after_effect set.core rec (effect_of e) g (λ rs h. with_option (value set.core h.view rs e) h (λ x. go x h))

-- with its truth
abbrev pub with_truth : Setting → Rec → Expr → Config → (Bool → Runner) → Ran
with_truth set rec e g go =
    after_effect set.core rec (effect_of e) g (λ rs h. with_option (a_number (value set.core h.view rs e)) h (λ x. go (not (is_zero x)) h))

-- with what several give, each after the effects of those before it
abbrev pub with_values : Setting → Rec → List Expr → Config → (List Held → Runner) → Ran
with_values set rec [] g go = go [] g
with_values set rec (e ∷ es) g go =
    after_effect set.core rec (effect_of e) g (λ rs h.
    with_option (value set.core h.view rs e) h (λ x. with_values set rec es h (λ xs. go (given rs x ++ xs))))

-- ---- loops

-- a body has run once: after its end or `continue` the loop goes on, and `break` ends it
abbrev pub turned_by : Outcome → Ran → Runner → Ran
turned_by (Ends Done) r again = marked r.marks (again r.config)
turned_by (Ends Continued) r again = marked r.marks (again r.config)
turned_by (Ends Broke) r again = record r { outcome = Ends Done }
turned_by o r again = r

-- the turns of a loop, at most n. Each takes a unit of gas once the condition was found true
abbrev pub turns : ℕ → Setting → Rec → Runner → Expr → Stmts → Stmts → Runner
turns zero set rec rest test body update g = with_truth set rec test g (λ b h. if b then reverted h else ran (Ends Done) h)
turns (suc n) set rec rest test body update g =
    with_truth set rec test g (λ b h.
    if b
    then paid h (λ k. let r = rec set rest body k in turned_by r.outcome r (λ m. next (rec set rest update m) (turns n set rec rest test body update)))
    else ran (Ends Done) h)

-- ---- branches

-- the first condition that is true
abbrev pub run_arms : Setting → Rec → Runner → Arms → Stmts → Runner
run_arms set rec rest code.NoArm otherwise g = rec set rest otherwise g
run_arms set rec rest (code.Arm test body more) otherwise g =
    with_truth set rec test g (λ b h. if b then rec set rest body h else run_arms set rec rest more otherwise h)

-- ---- `_`, and bodies that `return` leaves

abbrev pub rested_by : Outcome → List Held → Ran → Ran
rested_by (Ends how) own r = record r { outcome = Ends Done; config = viewed (after_rest own r.config.view) r.config }
rested_by Reverted own r = r

abbrev pub run_rest : Runner → Runner
run_rest rest g = let r = rest (viewed (at_rest g.view) g) in rested_by r.outcome g.view.frame.locals r

abbrev pub left_by : Outcome → Ran → Ran
left_by (Ends Returned) r = record r { outcome = Ends Done }
left_by o r = r

-- ---- statements

-- one statement, where `rec` runs bodies, and a loop has at most n turns
abbrev pub step : ℕ → Rec → Setting → Runner → Act → Runner
step n rec set rest (code.Set a e) g =
    after_effect set.core rec (or_else (effect_of a) (effect_of e)) g (λ rs h.
    with_option (value set.core h.view rs e) h (λ x.
    with_option (target set.core h.view rs a) h (λ to.
    with_option (assign set.core set.locals (type_of a) to x h.view) h (λ c. ended Done c h))))
step n rec set rest (code.Update a op e) g =
    after_effect set.core rec (or_else (effect_of a) (effect_of e)) g (λ rs h.
    with_option (target set.core h.view rs a) h (λ to.
    with_option (a_number (value set.core h.view rs a)) h (λ x.
    with_option (a_number (value set.core h.view rs e)) h (λ y.
    with_option (binary (tested is_in_type (kind_of set.core (type_of a))) op x y) h (λ z.
    with_option (assign set.core set.locals (type_of a) to (Value z) h.view) h (λ c. ended Done c h))))))
step n rec set rest (code.Delete a) g =
    after_effect set.core rec (effect_of a) g (λ rs h.
    with_option (target set.core h.view rs a) h (λ to. with_option (delete set.core (type_of a) to h.view) h (λ c. ended Done c h)))
step n rec set rest (code.Do e) g = with_value set rec e g (λ x h. ran (Ends Done) h)
step n rec set rest (code.Many slots e) g = after_effect set.core rec (effect_of e) g (λ rs h. ended Done (into_slots set.core set.locals slots rs h.view) h)
step n rec set rest (code.If arms otherwise) g = run_arms set rec rest arms otherwise g
step n rec set rest (code.Loop notes test body update) g = turns n set rec rest test body update g
step n rec set rest code.Break g = ran (Ends Broke) g
step n rec set rest code.Continue g = ran (Ends Continued) g
step n rec set rest (code.Return es) g = with_values set rec es g (λ xs h. ended Returned (into_results set.core set.locals set.results xs h.view) h)
step n rec set rest (code.Require e) g = with_truth set rec e g (λ b h. if b then ran (Ends Done) h else reverted h)
step n rec set rest (code.Assert e) g = with_truth set rec e g (λ b h. if b then ran (Ends Done) h else record { outcome = Reverted; config = h; marks = Broken ∷ [] })
step n rec set rest (code.Revert es) g = with_values set rec es g (λ xs h. reverted h)
step n rec set rest (code.Emit es) g = with_values set rec es g (λ xs h. ran (Ends Done) h)
step n rec set rest code.Rest g = run_rest rest g
step n rec set rest (code.Frame body) g = let r = rec set rest body g in left_by r.outcome r

-- statements in order, to a depth. A depth of as much as there is gas is enough, since each statement and each turn takes a
-- unit of it
abbrev pub run : ℕ → Setting → Runner → Stmts → Runner
run n set rest code.Done g = ran (Ends Done) g
run zero set rest (code.Then s ss) g = reverted g
run (suc n) set rest (code.Then (code.Numbered number place act) ss) g = paid g (λ h. next (step n (run n) set rest act h) (run n set rest ss))
