-- How a loop reads a repetition.
use Rattle.std.proofs.Common.{◌≡◌, ℕ, Bool, true, false, List, [], ◌∷◌, ◌++◌, refl, sym, ap, ◌∙◌, map}
use Rattle.std.proofs.lemmas.List.{append-nil}
use Rattle.sv_grammar.specs.Grammar.{Token, Part, star, seq, word, Tree, unit, pair, nil, cons, elem}
use Rattle.sv_grammar.specs.Reading.{Outcome, found, fault, first, next, Reads, read_seq, late_seq, read_nil, read_cons, late_cons, no_cons, after_all, Loops}
use Rattle.sv_grammar.specs.ListTrees.{append_trees, list_tree}

append_push : (xs : List Tree) (t u : Tree) → append_trees (xs ++ t ∷ []) u ≡ append_trees xs (cons t u)
append_push [] t u = refl
append_push (x ∷ xs) t u = ap (cons x) (append_push xs t u)

map_push : {X : Type 0} (tree : X → Tree) (xs : List X) (x : X) → map tree (xs ++ x ∷ []) ≡ map tree xs ++ tree x ∷ []
map_push tree [] x = refl
map_push tree (y ∷ ys) x = ap (λ zs. tree y ∷ zs) (map_push tree ys x)

module _ {S : Type 0} {rules : S → Part S} {empty : S → Bool} {f : S → List ℕ} {a : Part S} where
  pub loop_starts : (start : List Token) → Loops rules empty f a start [] start
  loop_starts start = record { holds = held }
    where
      held : (o : Outcome) → Reads rules empty f (star a) start o → Reads rules empty f (star a) start (after_all [] o)
      held (found t rest) r = r
      held (fault rest) r = r

  pub loop_goes : {start now next_now : List Token} {xs : List Tree} {t : Tree} → Loops rules empty f a start xs now → elem (next now) (first empty f a) ≡ true → Reads rules empty f a now (found t next_now)
      → Loops rules empty f a start (xs ++ t ∷ []) next_now
  loop_goes {start} {now} {next_now} {xs} {t} l e r = record { holds = held }
    where
      held : (o : Outcome) → Reads rules empty f (star a) next_now o → Reads rules empty f (star a) start (after_all (xs ++ t ∷ []) o)
      held (found u rest) k = rw (append_push xs t u) (l.holds (found (cons t u) rest) (read_cons e r k))
      held (fault rest) k = l.holds (fault rest) (late_cons e r k)

  pub loop_ends : {start now : List Token} {xs : List Tree} → Loops rules empty f a start xs now → elem (next now) (first empty f a) ≡ false → Reads rules empty f (star a) start (found (list_tree xs) now)
  loop_ends {start} {now} {xs} l e = l.holds (found nil now) (read_nil e)

  pub loop_fails : {start now rest : List Token} {xs : List Tree} → Loops rules empty f a start xs now → elem (next now) (first empty f a) ≡ true → Reads rules empty f a now (fault rest) → Reads rules empty f (star a) start (fault rest)
  loop_fails {start} {now} {rest} {xs} l e r = l.holds (fault rest) (no_cons e r)

  pub loop_pushes : {X : Type 0} (tree : X → Tree) {start now next_now : List Token} (xs ys : List X) (x : X) → ys ≡ xs ++ x ∷ [] → Loops rules empty f a start (map tree xs) now → elem (next now) (first empty f a) ≡ true → Reads rules empty f a now (found (tree x) next_now)
      → Loops rules empty f a start (map tree ys) next_now
  loop_pushes tree {start} {now} {next_now} xs ys x h l e r = rw (h, map_push tree xs x) (loop_goes l e r)

-- a part, and then a loop
pub record Runs {S : Type 0} (rules : S → Part S) (empty : S → Bool) (f : S → List ℕ) (a b : Part S) (start : List Token) (t : Tree) (xs : List Tree) (now : List Token) : Type 0 where
  pub mid : List Token
  pub read : Reads rules empty f a start (found t mid)
  pub loops : Loops rules empty f b mid xs now

-- the same, where each turn takes in what there is so far
pub record Lefts {S : Type 0} (rules : S → Part S) (empty : S → Bool) (f : S → List ℕ) (a b : Part S) (start : List Token) (before : Tree → Tree) (now : List Token) : Type 0 where
  pub t : Tree
  pub xs : List Tree
  pub runs : Runs rules empty f a b start t xs now
  pub is : (after : Tree) → before after ≡ pair t (append_trees xs after)

-- one or more, with a word between
pub record Listed {S : Type 0} (rules : S → Part S) (empty : S → Bool) (f : S → List ℕ) (a : Part S) (cs : List ℕ) (start : List Token) (ts : List Tree) (now : List Token) : Type 0 where
  pub t : Tree
  pub us : List Tree
  pub is : ts ≡ t ∷ us
  pub runs : Runs rules empty f a (seq (word cs) a) start t (map (pair unit) us) now

append_more : (xs : List Tree) (t u : Tree) → append_trees xs (cons t u) ≡ append_trees (xs ++ t ∷ []) u
append_more xs t u = sym (append_push xs t u)

module _ {S : Type 0} {rules : S → Part S} {empty : S → Bool} {f : S → List ℕ} {a b : Part S} where
  pub runs_start : {start mid : List Token} {t : Tree} → Reads rules empty f a start (found t mid) → Runs rules empty f a b start t [] mid
  runs_start {start} {mid} {t} r = record { mid = mid; read = r; loops = loop_starts mid }

  pub runs_go : {start now next_now : List Token} {t u : Tree} {xs : List Tree} → Runs rules empty f a b start t xs now → elem (next now) (first empty f b) ≡ true → Reads rules empty f b now (found u next_now) → Runs rules empty f a b start t (xs ++ u ∷ []) next_now
  runs_go h e r = record { mid = h.mid; read = h.read; loops = loop_goes h.loops e r }

  pub runs_end : {start now : List Token} {t : Tree} {xs : List Tree} → Runs rules empty f a b start t xs now → elem (next now) (first empty f b) ≡ false → Reads rules empty f (seq a (star b)) start (found (pair t (list_tree xs)) now)
  runs_end h e = read_seq h.read (loop_ends h.loops e)

  pub runs_fail : {start now rest : List Token} {t : Tree} {xs : List Tree} → Runs rules empty f a b start t xs now → elem (next now) (first empty f b) ≡ true → Reads rules empty f b now (fault rest) → Reads rules empty f (seq a (star b)) start (fault rest)
  runs_fail h e r = late_seq h.read (loop_fails h.loops e r)

  pub lefts_start : {start mid : List Token} {t : Tree} {before : Tree → Tree} → ((after : Tree) → before after ≡ pair t after) → Reads rules empty f a start (found t mid) → Lefts rules empty f a b start before mid
  lefts_start {t} is r = record { t = t; xs = []; runs = runs_start r; is = is }

  pub lefts_go : {start now next_now : List Token} {u : Tree} {before longer : Tree → Tree} → ((after : Tree) → longer after ≡ before (cons u after)) → Lefts rules empty f a b start before now → elem (next now) (first empty f b) ≡ true → Reads rules empty f b now (found u next_now) → Lefts rules empty f a b start longer next_now
  lefts_go {u} is h e r = record { t = h.t; xs = h.xs ++ u ∷ []; runs = runs_go h.runs e r; is = λ after. is after ∙ h.is (cons u after) ∙ ap (pair h.t) (append_more h.xs u after) }

  pub lefts_end : {start now : List Token} {before : Tree → Tree} → Lefts rules empty f a b start before now → elem (next now) (first empty f b) ≡ false → Reads rules empty f (seq a (star b)) start (found (before nil) now)
  lefts_end h e = rw (h.is nil) (runs_end h.runs e)

  pub lefts_fail : {start now rest : List Token} {before : Tree → Tree} → Lefts rules empty f a b start before now → elem (next now) (first empty f b) ≡ true → Reads rules empty f b now (fault rest) → Reads rules empty f (seq a (star b)) start (fault rest)
  lefts_fail h e r = runs_fail h.runs e r

module _ {S : Type 0} {rules : S → Part S} {empty : S → Bool} {f : S → List ℕ} {a : Part S} {cs : List ℕ} where
  pub listed_start : {start mid : List Token} {t : Tree} → Reads rules empty f a start (found t mid) → Listed rules empty f a cs start (t ∷ []) mid
  listed_start {t} r = record { t = t; us = []; is = refl; runs = runs_start r }

  pub listed_go : {start now mid next_now : List Token} {u : Tree} {ts : List Tree} → Listed rules empty f a cs start ts now → elem (next now) cs ≡ true → Reads rules empty f (word cs) now (found unit mid) → Reads rules empty f a mid (found u next_now) → Listed rules empty f a cs start (ts ++ u ∷ []) next_now
  listed_go {u} h e w r = record { t = h.t; us = h.us ++ u ∷ []; is = ap (λ zs. zs ++ u ∷ []) h.is; runs = rw (map_push (pair unit) h.us u) (runs_go h.runs (rw (append-nil cs) e) (read_seq w r)) }

  pub listed_end : {start now : List Token} {ts : List Tree} → Listed rules empty f a cs start ts now → elem (next now) cs ≡ false → (t : Tree) × (us : List Tree) × (ts ≡ t ∷ us) × Reads rules empty f (seq a (star (seq (word cs) a))) start (found (pair t (list_tree (map (pair unit) us))) now)
  listed_end h e = (h.t, h.us, h.is, runs_end h.runs (rw (append-nil cs) e))

  pub listed_fail : {start now rest : List Token} {ts : List Tree} → Listed rules empty f a cs start ts now → elem (next now) cs ≡ true → Reads rules empty f (seq (word cs) a) now (fault rest) → Reads rules empty f (seq a (star (seq (word cs) a))) start (fault rest)
  listed_fail h e r = runs_fail h.runs (rw (append-nil cs) e) r

  pub listed_pushes : {X : Type 0} (tree : X → Tree) {start now mid next_now : List Token} (xs ys : List X) (x : X) → ys ≡ xs ++ x ∷ [] → Listed rules empty f a cs start (map tree xs) now → elem (next now) cs ≡ true → Reads rules empty f (word cs) now (found unit mid) → Reads rules empty f a mid (found (tree x) next_now)
      → Listed rules empty f a cs start (map tree ys) next_now
  listed_pushes tree xs ys x h l e w r = rw (h, map_push tree xs x) (listed_go l e w r)

  pub listed_begins : {X : Type 0} (tree : X → Tree) {start mid : List Token} (xs ys : List X) (x : X) → xs ≡ [] → ys ≡ xs ++ x ∷ [] → Reads rules empty f a start (found (tree x) mid) → Listed rules empty f a cs start (map tree ys) mid
  listed_begins tree xs ys x e h r = rw (h, e) (listed_start r)
