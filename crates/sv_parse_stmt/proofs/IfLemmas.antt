-- How branches make up an `if`.
use Rattle.std.proofs.Common.{◌≡◌, ℕ, ◌+◌, ◌-◌, ◌<◌, ◌≤◌, true, false, List, [], ◌∷◌, ◌++◌, map, drop, length, get_or, Option, Some, None, refl, sym, ap, ◌∙◌, arith}
use Rattle.sv_text.specs.declared.span.Span.{Span}
use Rattle.sv_text.specs.declared.place.Place.{Place}
use Rattle.sv_grammar.specs.Grammar.{Token, Extent, Part, seq, opt, side, Tree, unit, pair, left, right, none, some, node, elem, extent_of}
use Rattle.sv_grammar.specs.Named.{Spells, pair_spells, node_spells}
use Rattle.sv_grammar.specs.Reach.{between}
use Rattle.sv_grammar.specs.Reading.{Reads, found, fault, read_seq, late_seq, no_seq, read_side}
use Rattle.sv_grammar.proofs.Extents.{cut_at, extent_between}
use Rattle.sv_ast.specs.declared.class.Class.TheVariants as k
use Rattle.sv_ast.specs.Terminals.{code}
use Rattle.sv_ast.specs.Trees.{extent, ◌⊗◌}
use Rattle.sv_ast.specs.Syntax as s
use Rattle.sv_ast.specs.Syntax.{Side, rules, quoted, ◌⊙◌}
use Rattle.sv_ast.specs.Firsts.{nulls, firsts}
use Rattle.sv_ast.specs.StmtTrees.{Branch, LastBranch, branch_extent, branches_tree, else_if_tree}
use Rattle.sv_ast.specs.declared.stmt.ElseIf.{ElseIf}
use Rattle.sv_parse_stmt.specs.Branches.{end_at, branches_on, Branches}
use Rattle.sv_read.specs.Here.{Here, seen}
use Rattle.sv_read.specs.PartReading.{Gives, Fails, fails_at, no_memory}
use Rattle.sv_read.specs.declared.parse_error.ParseError.{ParseError}
use Rattle.sv_read.proofs.Moving.{moves}
use Rattle.sv_read.proofs.Reading.{gives_seq, gives_left, gives_right, gives_some, gives_none, fails_late, fails_left, fails_right, fails_some, fails_seq, fails_side}

lies_from : (ts : List Token) (at behind to : ℕ) (span : Span) (place : Place) → extent span place ≡ extent_of (between ts at behind) → at < behind → behind ≤ to → to ≤ length ts
    → branch_extent span.from place (extent_of (between ts (to - 1) to)).to ≡ extent_of (between ts at to)
lies_from [] at behind to span place e h i j = absurd (omega arith)
lies_from (k ∷ ks) at behind to span place e h i j =
    let a = extent_between (k ∷ ks) at behind k h (omega arith) in
    let b = extent_between (k ∷ ks) at to k (omega arith) j in
    let c = extent_between (k ∷ ks) (to - 1) to k (omega arith) j in
    let f = e ∙ a in
    let p : branch_extent span.from place (extent_of (between (k ∷ ks) (to - 1) to)).to ≡ record { from = (get_or (k ∷ ks) at k).extent.from; to = (extent_of (between (k ∷ ks) (to - 1) to)).to; line = (get_or (k ∷ ks) at k).extent.line; column = (get_or (k ∷ ks) at k).extent.column }
    = ap (λ x. record { from = x.from; to = (extent_of (between (k ∷ ks) (to - 1) to)).to; line = x.line; column = x.column }) f in
    let q = ap (λ y. record { from = (get_or (k ∷ ks) at k).extent.from; to = y.to; line = (get_or (k ∷ ks) at k).extent.line; column = (get_or (k ∷ ks) at k).extent.column }) c in
    p ∙ q ∙ sym b

ends_from : (ts : List Token) (at to : ℕ) (span : Span) (place : Place) → extent span place ≡ extent_of (between ts at to) → at < to → to ≤ length ts → span.to ≡ (extent_of (between ts (to - 1) to)).to
ends_from [] at to span place e h j = absurd (omega arith)
ends_from (k ∷ ks) at to span place e h j =
    let a = extent_between (k ∷ ks) at to k h j in
    let c = extent_between (k ∷ ks) (to - 1) to k (omega arith) j in
    ap (λ x. x.to) (e ∙ a) ∙ ap (λ x. x.to) (sym c)

-- wherever a node begins, it ends where its last token does
pub ends_alike : (old new : Here) (from : ℕ) (span : Span) (place : Place) → extent span place ≡ extent_of (between new.given.tokens from new.at) → from ≡ old.at → old.at < new.at → new.at ≤ length new.given.tokens → span.to ≡ end_at new
ends_alike old new from span place e f h j = ends_from new.given.tokens old.at new.at span place (rw f at e) h j

gives_node : {s : Side} {old new : Here} {t u : Tree} {x : Extent} → u ≡ node x t → x ≡ extent_of (between new.given.tokens old.at new.at) → Gives (rules s) old t new → Gives (side s) old u new
gives_node {s} {old} {new} {t} h e p =
    let o = p.ordered in
    let whole : drop old.at old.given.tokens ≡ between old.given.tokens old.at new.at ++ drop new.at old.given.tokens = cut_at old.given.tokens old.at new.at o in
    record {
      same = p.same;
      derivation = node (extent_of (between old.given.tokens old.at new.at)) p.derivation;
      spelled = rw (h, e, p.same) (node_spells p.spelled);
      read = read_side (between old.given.tokens old.at new.at) whole p.read;
      ordered = p.ordered;
    }

-- ---- five parts with another behind them

found_five : {names : List (List ℕ)} {a b c d e f : Part Side} {ts us vs : List Token} {t1 t2 t3 t4 t5 t6 x y : Tree} → Spells names (pair t1 (pair t2 (pair t3 (pair t4 t5)))) x
    → Reads rules nulls firsts (seq a (seq b (seq c (seq d e)))) ts (found x us) → Spells names t6 y → Reads rules nulls firsts f us (found y vs)
    → (z : Tree) × Spells names (pair t1 (pair t2 (pair t3 (pair t4 (pair t5 t6))))) z × Reads rules nulls firsts (seq a (seq b (seq c (seq d (seq e f))))) ts (found z vs)
found_five (pair_spells p1 (pair_spells p2 (pair_spells p3 (pair_spells p4 p5)))) (read_seq r1 (read_seq r2 (read_seq r3 (read_seq r4 r5)))) w z =
    (_, pair_spells p1 (pair_spells p2 (pair_spells p3 (pair_spells p4 (pair_spells p5 w)))), read_seq r1 (read_seq r2 (read_seq r3 (read_seq r4 (read_seq r5 z)))))

late_five : {a b c d e f : Part Side} {ts us vs : List Token} {x : Tree} → Reads rules nulls firsts (seq a (seq b (seq c (seq d e)))) ts (found x us) → Reads rules nulls firsts f us (fault vs)
    → Reads rules nulls firsts (seq a (seq b (seq c (seq d (seq e f))))) ts (fault vs)
late_five (read_seq r1 (read_seq r2 (read_seq r3 (read_seq r4 r5)))) z = late_seq r1 (late_seq r2 (late_seq r3 (late_seq r4 (late_seq r5 z))))

fault_five : {a b c d e f : Part Side} {ts us : List Token} → Reads rules nulls firsts (seq a (seq b (seq c (seq d e)))) ts (fault us) → Reads rules nulls firsts (seq a (seq b (seq c (seq d (seq e f))))) ts (fault us)
fault_five (no_seq r) = no_seq r
fault_five (late_seq r1 (no_seq r)) = late_seq r1 (no_seq r)
fault_five (late_seq r1 (late_seq r2 (no_seq r))) = late_seq r1 (late_seq r2 (no_seq r))
fault_five (late_seq r1 (late_seq r2 (late_seq r3 (no_seq r)))) = late_seq r1 (late_seq r2 (late_seq r3 (no_seq r)))
fault_five (late_seq r1 (late_seq r2 (late_seq r3 (late_seq r4 r)))) = late_seq r1 (late_seq r2 (late_seq r3 (late_seq r4 (no_seq r))))

pub gives_five : {a b c d e f : Part Side} {old mid new : Here} {t1 t2 t3 t4 t5 t6 : Tree} → Gives (seq a (seq b (seq c (seq d e)))) old (pair t1 (pair t2 (pair t3 (pair t4 t5)))) mid → Gives f mid t6 new
    → Gives (seq a (seq b (seq c (seq d (seq e f))))) old (pair t1 (pair t2 (pair t3 (pair t4 (pair t5 t6))))) new
gives_five p q =
    let h = p.ordered in let k = q.ordered in
    let n = found_five p.spelled p.read (rw p.same at q.spelled) (rw p.same at q.read) in
    record { same = q.same ∙ p.same; derivation = n.0; spelled = n.1; read = n.2; ordered = omega arith }

pub fails_five : {a b c d e f : Part Side} {old : Here} {x : ParseError} → Fails (seq a (seq b (seq c (seq d e)))) old x → Fails (seq a (seq b (seq c (seq d (seq e f))))) old x
fails_five (fails_at r o w) = fails_at (fault_five r) o w
fails_five no_memory = no_memory

pub fails_five_late : {a b c d e f : Part Side} {old mid : Here} {t : Tree} {x : ParseError} → Gives (seq a (seq b (seq c (seq d e)))) old t mid → Fails f mid x → Fails (seq a (seq b (seq c (seq d (seq e f))))) old x
fails_five_late p (fails_at r o w) = let h = p.ordered in fails_at (late_five p.read (rw p.same at r)) (omega arith) (rw p.same at w)
fails_five_late p no_memory = no_memory

-- ---- branches

abbrev pub then_part : Part Side
then_part = quoted k.If ⊙ quoted k.LParen ⊙ side s.expr ⊙ quoted k.RParen ⊙ side s.body

-- where a branch lies, from its `else` up to the end of the whole
branch_lies : (now mid new : Here) (from : ℕ) (span : Span) (place : Place) → extent span place ≡ extent_of (between mid.given.tokens from mid.at) → from ≡ now.at → mid.given ≡ now.given → new.given ≡ now.given
    → now.at < mid.at → mid.at ≤ new.at → new.at ≤ length new.given.tokens → branch_extent span.from place (end_at new) ≡ extent_of (between new.given.tokens now.at new.at)
branch_lies now mid new from span place e f g i h j w = rw i (lies_from now.given.tokens now.at mid.at new.at span place (rw (f, g) at e) h j (rw i at w))

branches_push : (end : ℕ) (bs : List Branch) (b : Branch) (t : Tree) → branches_on end (bs ++ b ∷ []) t ≡ branches_on end bs (some (b end t))
branches_push end [] b t = refl
branches_push end (x ∷ bs) b t = ap (λ u. some (x end u)) (branches_push end bs b t)

branches_split : (end : ℕ) (bs : List Branch) (o : Option LastBranch) → branches_on end bs (branches_tree end [] o) ≡ branches_tree end bs o
branches_split end [] o = refl
branches_split end (b ∷ bs) o = ap (λ u. some (b end u)) (branches_split end bs o)

map_push : (xs : List ElseIf) (x : ElseIf) → map else_if_tree (xs ++ x ∷ []) ≡ map else_if_tree xs ++ else_if_tree x ∷ []
map_push [] x = refl
map_push (y ∷ ys) x = ap (λ zs. else_if_tree y ∷ zs) (map_push ys x)

pub branches_begin : {at : Here} (xs : List ElseIf) → xs ≡ [] → Branches at (map else_if_tree xs) at
branches_begin xs e = rw e (record { gives = λ t to w p. p; fails = λ x p. p })

-- one branch more
module _ {start now mid new : Here} {e b : Tree} {span : Span} {place : Place} {from : ℕ} (xs ys : List ElseIf) (x : ElseIf)
    (longer : ys ≡ xs ++ x ∷ []) (is : (to : ℕ) (rest : Tree) → else_if_tree x to rest ≡ node (branch_extent span.from place to) (unit ⊗ left (unit ⊗ unit ⊗ e ⊗ unit ⊗ b ⊗ rest)))
    (lies : extent span place ≡ extent_of (between mid.given.tokens from mid.at)) (begins : from ≡ now.at) (l : Branches start (map else_if_tree xs) now) (n : elem (seen now) (code k.Else ∷ []) ≡ true)
    (keyword : Gives (quoted k.Else) now unit mid) (i : elem (seen mid) (code k.If ∷ []) ≡ true) (p : Gives then_part mid (unit ⊗ unit ⊗ e ⊗ unit ⊗ b) new) where
  pub branches_push_one : Branches start (map else_if_tree ys) new
  branches_push_one = rw (longer, map_push xs x) (record {
    gives = λ t to w r. (
        let o = p.ordered in let m = r.ordered in
        rw (branches_push (end_at to) (map else_if_tree xs) (else_if_tree x) t)
        (l.gives (some (else_if_tree x (end_at to) t)) to w (gives_some n
        (gives_node (is (end_at to) t) (branch_lies now mid to from span place lies begins keyword.same (r.same ∙ p.same ∙ keyword.same) (moves refl keyword).0 (omega arith) w)
        (gives_seq keyword (gives_left i (gives_five p r)))))));
    fails = λ y r. l.fails y (fails_some n (fails_side (fails_late keyword (fails_left i (fails_five_late p r)))));
  })

pub fails_branch : {start now mid : Here} {bs : List Branch} {x : ParseError} → Branches start bs now → elem (seen now) (code k.Else ∷ []) ≡ true → Gives (quoted k.Else) now unit mid → elem (seen mid) (code k.If ∷ []) ≡ true → Fails then_part mid x → Fails (opt (side s.else_part)) start x
fails_branch {x} l n keyword i p = l.fails x (fails_some n (fails_side (fails_late keyword (fails_left i (fails_five p)))))

pub fails_else : {start now : Here} {bs : List Branch} {x : ParseError} → Branches start bs now → elem (seen now) (code k.Else ∷ []) ≡ true → Fails (quoted k.Else) now x → Fails (opt (side s.else_part)) start x
fails_else {x} l n p = l.fails x (fails_some n (fails_side (fails_seq p)))

-- with the last branch
pub gives_last : {start now mid new : Here} {b : Tree} {span : Span} {place : Place} {from : ℕ} (bs : List Branch) (o : LastBranch) → ((to : ℕ) → o to ≡ node (branch_extent span.from place to) (unit ⊗ right b))
    → extent span place ≡ extent_of (between mid.given.tokens from mid.at) → from ≡ now.at → new.at ≤ length new.given.tokens → Branches start bs now → elem (seen now) (code k.Else ∷ []) ≡ true
    → Gives (quoted k.Else) now unit mid → elem (seen mid) (code k.If ∷ []) ≡ false → Gives (side s.body) mid b new → Gives (opt (side s.else_part)) start (branches_tree (end_at new) bs (Some o)) new
gives_last {now} {mid} {new} {span} {place} {from} bs o is lies begins w l n keyword i p =
    let m = p.ordered in
    rw (sym (branches_split (end_at new) bs (Some o))) (l.gives (some (o (end_at new))) new w (gives_some n
    (gives_node (is (end_at new)) (branch_lies now mid new from span place lies begins keyword.same (p.same ∙ keyword.same) (moves refl keyword).0 m w) (gives_seq keyword (gives_right i p)))))

pub fails_last : {start now mid : Here} {bs : List Branch} {x : ParseError} → Branches start bs now → elem (seen now) (code k.Else ∷ []) ≡ true → Gives (quoted k.Else) now unit mid → elem (seen mid) (code k.If ∷ []) ≡ false → Fails (side s.body) mid x → Fails (opt (side s.else_part)) start x
fails_last {x} l n keyword i p = l.fails x (fails_some n (fails_side (fails_late keyword (fails_right i p))))

-- with no last branch
pub gives_no_last : {start now : Here} (bs : List Branch) → now.at ≤ length now.given.tokens → Branches start bs now → elem (seen now) (code k.Else ∷ []) ≡ false → Gives (opt (side s.else_part)) start (branches_tree (end_at now) bs None) now
gives_no_last {now} bs w l n = rw (sym (branches_split (end_at now) bs None)) (l.gives none now w (gives_none n))
