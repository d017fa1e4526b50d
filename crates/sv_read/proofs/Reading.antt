-- How parts that are read make up a part that is read, or fails.
use Rattle.std.proofs.Common.{◌≡◌, ℕ, Bool, true, false, List, [], ◌∷◌, ◌++◌, map, drop, refl, ◌∙◌, ap, arith}
use Rattle.sv_text.specs.declared.span.Span.{Span}
use Rattle.sv_text.specs.declared.place.Place.{Place}
use Rattle.sv_grammar.specs.Grammar.{Part, seq, alt, opt, star, side, Tree, pair, left, right, none, some, nil, cons, node, elem, extent_of}
use Rattle.sv_grammar.specs.Named.{none_spells, nil_spells, pair_spells, cons_spells, left_spells, right_spells, some_spells, node_spells}
use Rattle.sv_grammar.specs.Reach.{between}
use Rattle.sv_grammar.specs.Reading.{first, read_seq, late_seq, no_seq, read_left, read_right, read_none, read_some, read_nil, read_cons, late_cons, no_cons, read_side, no_side}
use Rattle.sv_grammar.specs.ListTrees.{append_trees, list_tree}
use Rattle.sv_grammar.proofs.Extents.{cut_at}
use Rattle.sv_ast.specs.Syntax.{Side, rules}
use Rattle.sv_ast.specs.Firsts.{nulls, firsts}
use Rattle.sv_ast.specs.Trees.{extent}
use Rattle.sv_read.specs.Here.{Here, seen}
use Rattle.sv_read.specs.PartReading.{Gives, Fails, fails_at, no_memory, Repeats}
use Rattle.sv_read.specs.declared.parse_error.ParseError.{ParseError}
use Rattle.sv_read.specs.declared.parse_error.ParseError.TheVariants.{NoMemory}

-- the next token begins the part
abbrev pub Begins : Here → Part Side → Bool → Type 0
Begins h a b = elem (seen h) (first nulls firsts a) ≡ b

pub fails_memory : {a : Part Side} {old : Here} {e : ParseError} → e ≡ NoMemory → Fails a old e
fails_memory h = rw h no_memory

-- ---- one after the other

pub gives_seq : {a b : Part Side} {old mid new : Here} {t u : Tree} → Gives a old t mid → Gives b mid u new → Gives (seq a b) old (pair t u) new
gives_seq p q =
    let h = p.ordered in let k = q.ordered in
    record { same = q.same ∙ p.same; derivation = pair p.derivation q.derivation; spelled = pair_spells p.spelled (rw p.same at q.spelled); read = read_seq p.read (rw p.same at q.read); ordered = omega arith }

pub fails_seq : {a b : Part Side} {old : Here} {e : ParseError} → Fails a old e → Fails (seq a b) old e
fails_seq (fails_at r o w) = fails_at (no_seq r) o w
fails_seq no_memory = no_memory

pub fails_late : {a b : Part Side} {old mid : Here} {t : Tree} {e : ParseError} → Gives a old t mid → Fails b mid e → Fails (seq a b) old e
fails_late p (fails_at r o w) = let h = p.ordered in fails_at (late_seq p.read (rw p.same at r)) (omega arith) (rw p.same at w)
fails_late p no_memory = no_memory

-- ---- one of two

pub gives_left : {a b : Part Side} {old new : Here} {t : Tree} → Begins old a true → Gives a old t new → Gives (alt a b) old (left t) new
unfolding seen
gives_left n p = record { same = p.same; derivation = left p.derivation; spelled = left_spells p.spelled; read = read_left n p.read; ordered = p.ordered }

pub gives_right : {a b : Part Side} {old new : Here} {t : Tree} → Begins old a false → Gives b old t new → Gives (alt a b) old (right t) new
unfolding seen
gives_right n p = record { same = p.same; derivation = right p.derivation; spelled = right_spells p.spelled; read = read_right n p.read; ordered = p.ordered }

pub fails_left : {a b : Part Side} {old : Here} {e : ParseError} → Begins old a true → Fails a old e → Fails (alt a b) old e
unfolding seen
fails_left n (fails_at r o w) = fails_at (read_left n r) o w
fails_left n no_memory = no_memory

pub fails_right : {a b : Part Side} {old : Here} {e : ParseError} → Begins old a false → Fails b old e → Fails (alt a b) old e
unfolding seen
fails_right n (fails_at r o w) = fails_at (read_right n r) o w
fails_right n no_memory = no_memory

-- ---- what may be left out

pub gives_none : {a : Part Side} {old : Here} → Begins old a false → Gives (opt a) old none old
unfolding seen
gives_none n = record { same = refl; derivation = none; spelled = none_spells; read = read_none n; ordered = omega arith }

pub gives_some : {a : Part Side} {old new : Here} {t : Tree} → Begins old a true → Gives a old t new → Gives (opt a) old (some t) new
unfolding seen
gives_some n p = record { same = p.same; derivation = some p.derivation; spelled = some_spells p.spelled; read = read_some n p.read; ordered = p.ordered }

pub fails_some : {a : Part Side} {old : Here} {e : ParseError} → Begins old a true → Fails a old e → Fails (opt a) old e
unfolding seen
fails_some n (fails_at r o w) = fails_at (read_some n r) o w
fails_some n no_memory = no_memory

-- ---- sides

pub gives_side : {s : Side} {old new : Here} {t u : Tree} {span : Span} {place : Place} {from : ℕ} → u ≡ node (extent span place) t → from ≡ old.at → extent span place ≡ extent_of (between new.given.tokens from new.at)
    → Gives (rules s) old t new → Gives (side s) old u new
gives_side {s} {old} {new} {t} {u} {span} {place} {from} h f e p =
    let o = p.ordered in
    let whole : drop old.at old.given.tokens ≡ between old.given.tokens old.at new.at ++ drop new.at old.given.tokens = cut_at old.given.tokens old.at new.at o in
    record {
      same = p.same;
      derivation = node (extent_of (between old.given.tokens old.at new.at)) p.derivation;
      spelled = rw (h, e, p.same, f) (node_spells p.spelled);
      read = read_side (between old.given.tokens old.at new.at) whole p.read;
      ordered = p.ordered;
    }

-- the same under another name of the tree
pub gives_as : {a : Part Side} {old new : Here} {t u : Tree} → u ≡ t → Gives a old t new → Gives a old u new
gives_as {a} {old} {new} e p = rw e p

pub fails_side : {s : Side} {old : Here} {e : ParseError} → Fails (rules s) old e → Fails (side s) old e
fails_side (fails_at r o w) = fails_at (no_side r) o w
fails_side no_memory = no_memory

-- ---- repetitions

append_push : (xs : List Tree) (t u : Tree) → append_trees (xs ++ t ∷ []) u ≡ append_trees xs (cons t u)
append_push [] t u = refl
append_push (x ∷ xs) t u = ap (cons x) (append_push xs t u)

pub map_push : {X : Type 0} (tree : X → Tree) (xs : List X) (x : X) → map tree (xs ++ x ∷ []) ≡ map tree xs ++ tree x ∷ []
map_push tree [] x = refl
map_push tree (y ∷ ys) x = ap (λ zs. tree y ∷ zs) (map_push tree ys x)

gives_cons : {a : Part Side} {old mid new : Here} {t u : Tree} → Begins old a true → Gives a old t mid → Gives (star a) mid u new → Gives (star a) old (cons t u) new
unfolding seen
gives_cons n p q =
    let h = p.ordered in let k = q.ordered in
    record { same = q.same ∙ p.same; derivation = cons p.derivation q.derivation; spelled = cons_spells p.spelled (rw p.same at q.spelled); read = read_cons n p.read (rw p.same at q.read); ordered = omega arith }

fails_later : {a : Part Side} {old mid : Here} {t : Tree} {e : ParseError} → Begins old a true → Gives a old t mid → Fails (star a) mid e → Fails (star a) old e
unfolding seen
fails_later n p (fails_at r o w) = let h = p.ordered in fails_at (late_cons n p.read (rw p.same at r)) (omega arith) (rw p.same at w)
fails_later n p no_memory = no_memory

fails_cons : {a : Part Side} {old : Here} {e : ParseError} → Begins old a true → Fails a old e → Fails (star a) old e
unfolding seen
fails_cons n (fails_at r o w) = fails_at (no_cons n r) o w
fails_cons n no_memory = no_memory

gives_nil : {a : Part Side} {old : Here} → Begins old a false → Gives (star a) old nil old
unfolding seen
gives_nil n = record { same = refl; derivation = nil; spelled = nil_spells; read = read_nil n; ordered = omega arith }

pub repeats_begin : {X : Type 0} (tree : X → Tree) (xs : List X) {a : Part Side} {old : Here} → xs ≡ [] → Repeats a old (map tree xs) old
repeats_begin tree xs h = rw h (record { gives = λ t to p. p; fails = λ e p. p; ordered = omega arith })

pub repeats_go : {a : Part Side} {start now new : Here} {xs : List Tree} {t : Tree} → Repeats a start xs now → Begins now a true → Gives a now t new → Repeats a start (xs ++ t ∷ []) new
repeats_go {xs} {t} l n p =
    let h = l.ordered in let k = p.ordered in
    record { gives = λ u to q. rw (append_push xs t u) (l.gives (cons t u) to (gives_cons n p q)); fails = λ e q. l.fails e (fails_later n p q); ordered = omega arith }

pub repeats_push : {X : Type 0} (tree : X → Tree) (xs ys : List X) (x : X) {a : Part Side} {start now new : Here} → ys ≡ xs ++ x ∷ [] → Repeats a start (map tree xs) now → Begins now a true → Gives a now (tree x) new
    → Repeats a start (map tree ys) new
repeats_push tree xs ys x h l n p = rw (h, map_push tree xs x) (repeats_go l n p)

pub repeats_end : {a : Part Side} {start now : Here} {xs : List Tree} → Repeats a start xs now → Begins now a false → Gives (star a) start (list_tree xs) now
repeats_end {now} l n = l.gives nil now (gives_nil n)

pub fails_repeats : {a : Part Side} {start now : Here} {xs : List Tree} {e : ParseError} → Repeats a start xs now → Begins now a true → Fails a now e → Fails (star a) start e
fails_repeats {e} l n p = l.fails e (fails_cons n p)

pub ruleset reading = (fails_memory, gives_seq, fails_seq, fails_late, gives_left, gives_right, fails_left, fails_right, gives_none, gives_some, fails_some, gives_side, fails_side)
