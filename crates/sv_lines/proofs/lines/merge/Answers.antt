use Rattle.std.proofs.Common.{rules, ◌≡◌, ◌++◌, ◌∷◌, [], ◌<◌, true, false, Some, None, sym, ap, subst, arith, List, ℕ}
use Rattle.sv_lines.specs.Lines.{pick, all_empty, without}
use Rattle.sv_lines.proofs.Merges.{Left, total, next, stuck, ended, less}
use Rattle.sv_lines.proofs.lines.merge.Goals as goal

pub returns-in-None : goal.returns-in-None
returns-in-None c =
    let more : all_empty c.heads.rest ≡ false = search rules in
    let none : pick c.heads.rest ≡ None = search rules in
    stuck _ c.heads.rest c.heads.out more none c.heads.invariant

pub heads-smaller : goal.heads-smaller
heads-smaller c =
    let is : pick c.heads.rest ≡ Some c.in-Some.head = search rules in
    let e : c.in_ok-rest-in-Some.rest ≡ without c.in-Some.head c.heads.rest = search rules in
    let n : total (without c.in-Some.head c.heads.rest) < total c.heads.rest = less c.heads.rest c.in-Some.head is in
    omega (arith, n, ap total e)

pub heads-preserved : goal.heads-preserved
heads-preserved c =
    let more : all_empty c.heads.rest ≡ false = search rules in
    let is : pick c.heads.rest ≡ Some c.in-Some.head = search rules in
    let e : c.in_ok-rest-in-Some.rest ≡ without c.in-Some.head c.heads.rest = search rules in
    let p : c.push.new.self ≡ c.heads.out ++ c.in-Some.head ∷ [] = search rules in
    let P : List (List ℕ) → Type 0 = λ z. Left c.args.lists z c.push.new.self in
    let Q : List ℕ → Type 0 = λ z. Left c.args.lists (without c.in-Some.head c.heads.rest) z in
    subst P (sym e) (subst Q (sym p) (next _ c.heads.rest c.heads.out c.in-Some.head more is c.heads.invariant))

pub returns : goal.returns
returns c =
    let h : all_empty c.heads.rest ≡ true = search rules in
    ended _ c.heads.rest c.heads.out h c.heads.invariant
