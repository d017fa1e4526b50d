-- How `new` with a type and suffixes is read: what is read of it by the rules of a type and of suffixes is read by the rules of a post.
use Rattle.std.proofs.Common.{◌≡◌, ℕ, ◌≤◌, ◌<◌, Bool, true, false, List, [], ◌∷◌, ◌++◌, length, refl, sym, ap, subst, ◌∙◌, ◌⊎◌, inl, inr, arith}
use Rattle.std.proofs.Math.Nat.{eq-or-lt_of_le}
use Rattle.sv_grammar.specs.Grammar.{Extent, Token, Part, word, text, seq, alt, opt, star, both, side, Tree, unit, leaf, name, pair, left, right, none, some, nil, cons, node, elem, extent_of}
use Rattle.sv_grammar.specs.Reading.{Outcome, found, fault, rest_of, Beats, after, next, first, disjoint, subset, Reads, read_nothing, read_word, no_word, read_text, no_text, read_seq, late_seq, no_seq, read_left, read_right, read_none, read_some, read_nil, read_cons, late_cons, no_cons, read_one, read_other, read_side, no_side}
use Rattle.sv_grammar.specs.ListTrees.{list_tree}
use Rattle.sv_grammar.proofs.Sets.{elem-disjoint, elem-subset, elem_either}
use Rattle.sv_ast.proofs.Nothing.{rest_after, nothing_read}
use Rattle.sv_ast.proofs.Apart.{right_tables}
use Rattle.sv_ast.specs.Terminals.{code}
use Rattle.sv_ast.specs.declared.class.Class.TheVariants as k
use Rattle.sv_ast.specs.Syntax.{Side, rules, ids, brackets}
use Rattle.sv_ast.specs.Syntax as g
use Rattle.sv_ast.specs.Firsts.{nulls, firsts}
use Rattle.sv_ast.specs.Trees.{◌⊗◌, nth, last}
use Rattle.sv_ast.specs.ExprTrees.{behind, suffix_behind, suffixes_behind, longer_plain_tree, new_tree, atom_and_suffixes}

-- ---- what is read comes off the front

less_after : (h : Tree → Tree) (o : Outcome) (ts : List Token) → length (rest_of o) ≤ length ts → length (rest_of (after h o)) ≤ length ts
less_after h o ts e = rw (rest_after h o) e

module _ {S : Type 0} {rules : S → Part S} {empty : S → Bool} {f : S → List ℕ} where
  pub reads_less : {a : Part S} {ts : List Token} {o : Outcome} → Reads rules empty f a ts o → length (rest_of o) ≤ length ts
  reads_less read_nothing = omega arith
  reads_less (read_word h) = omega arith
  reads_less (no_word h) = omega arith
  reads_less (read_text h) = omega arith
  reads_less (no_text h) = omega arith
  reads_less (read_seq p q) = let m = reads_less p in let n = reads_less q in omega arith
  reads_less (late_seq p q) = let m = reads_less p in let n = reads_less q in omega arith
  reads_less (no_seq p) = reads_less p
  reads_less (read_left {ts} {o} h p) = less_after left o ts (reads_less p)
  reads_less (read_right {ts} {o} h p) = less_after right o ts (reads_less p)
  reads_less (read_none h) = omega arith
  reads_less (read_some {ts} {o} h p) = less_after some o ts (reads_less p)
  reads_less (read_nil h) = omega arith
  reads_less (read_cons h p q) = let m = reads_less p in let n = reads_less q in omega arith
  reads_less (late_cons h p q) = let m = reads_less p in let n = reads_less q in omega arith
  reads_less (no_cons h p) = reads_less p
  reads_less (read_one {ts} {o} p q b) = less_after left o ts (reads_less p)
  reads_less (read_other {ts} {p = o} p q b) = less_after right o ts (reads_less q)
  reads_less (read_side u e p) = reads_less p
  reads_less (no_side p) = reads_less p

  -- the alternative that was read
  pub of_alt_read : {a b : Part S} {ts : List Token} {p : Outcome} → Reads rules empty f (alt a b) ts p
      → ((elem (next ts) (first empty f a) ≡ true) × (o : Outcome) × Reads rules empty f a ts o × (p ≡ after left o))
      ⊎ ((elem (next ts) (first empty f a) ≡ false) × (o : Outcome) × Reads rules empty f b ts o × (p ≡ after right o))
  of_alt_read (read_left {o} h r) = inl (h, o, r, refl)
  of_alt_read (read_right {o} h r) = inr (h, o, r, refl)

  -- whether what may be left out was read
  pub of_opt_read : {a : Part S} {ts : List Token} {p : Outcome} → Reads rules empty f (opt a) ts p
      → ((elem (next ts) (first empty f a) ≡ false) × (p ≡ found none ts))
      ⊎ ((elem (next ts) (first empty f a) ≡ true) × (o : Outcome) × Reads rules empty f a ts o × (p ≡ after some o))
  of_opt_read (read_none h) = inl (h, refl)
  of_opt_read (read_some {o} h r) = inr (h, o, r, refl)

-- how far two parts in a row were read
data SeqRead {S : Type 0} (rules : S → Part S) (empty : S → Bool) (f : S → List ℕ) (a b : Part S) (ts : List Token) (p : Outcome) : Type 0 where
  is_whole : {t u : Tree} {us vs : List Token} → Reads rules empty f a ts (found t us) → Reads rules empty f b us (found u vs) → p ≡ found (pair t u) vs → SeqRead rules empty f a b ts p
  is_late : {t : Tree} {us vs : List Token} → Reads rules empty f a ts (found t us) → Reads rules empty f b us (fault vs) → p ≡ fault vs → SeqRead rules empty f a b ts p
  is_none : {us : List Token} → Reads rules empty f a ts (fault us) → p ≡ fault us → SeqRead rules empty f a b ts p

of_seq_read : {S : Type 0} {rules : S → Part S} {empty : S → Bool} {f : S → List ℕ} {a b : Part S} {ts : List Token} {p : Outcome} → Reads rules empty f (seq a b) ts p → SeqRead rules empty f a b ts p
of_seq_read (read_seq r q) = is_whole r q refl
of_seq_read (late_seq r q) = is_late r q refl
of_seq_read (no_seq r) = is_none r refl

-- what reaches as far as a fault
beats_fault : (o : Outcome) (ts : List Token) → length (rest_of o) ≤ length ts → Beats o (fault ts)
beats_fault o ts h = elim (eq-or-lt_of_le h) [ inl e ↦ inr (e, λ x. absurd x) | inr e ↦ inl e ]

-- ---- a type without brackets

abbrev R : Part Side → List Token → Outcome → Type 0
R = Reads rules nulls firsts

-- after `new` it counts as longer than one name
abbrev IsLonger : Tree → Type 0
IsLonger t =
    (x y z : Extent) (d : Tree) (ws : List Tree)
    → new_tree x (node y (node z t ⊗ d)) ws ≡ right (node x (unit ⊗ node y (right (node z (longer_plain_tree t) ⊗ d))) ⊗ suffixes_behind 1 ws)

abbrev FindsLonger : Outcome → Type 0
FindsLonger p = (t : Tree) (rest : List Token) → p ≡ found t rest → IsLonger t

-- one name, one name with a member, or another type
data PlainRead : List Token → Outcome → Type 0 where
  is_bare : {j : Token} {ms : List Token} → elem j.class ids ≡ true → elem (next ms) (code k.Dot ∷ []) ≡ false → PlainRead (j ∷ ms) (found (nth 3 (leaf j.text ⊗ none)) ms)
  is_dotted : {j : Token} {ms : List Token} {p : Outcome} → elem j.class ids ≡ true → elem (next ms) (code k.Dot ∷ []) ≡ true
      → R (rules g.longer_plain) (j ∷ ms) (after longer_plain_tree p) → length (rest_of p) < length ms → FindsLonger p → PlainRead (j ∷ ms) p
  is_other : {ts : List Token} {p : Outcome} → elem (next ts) ids ≡ false → R (rules g.longer_plain) ts (after longer_plain_tree p) → FindsLonger p → PlainRead ts p

longer_0 : (t : Tree) → IsLonger (nth 0 t)
unfolding new_tree
longer_0 t x y z d ws = refl

longer_1 : (t : Tree) → IsLonger (nth 1 t)
unfolding new_tree
longer_1 t x y z d ws = refl

longer_2 : (t : Tree) → IsLonger (nth 2 t)
unfolding new_tree
longer_2 t x y z d ws = refl

longer_3 : (n m : Tree) → IsLonger (nth 3 (n ⊗ some m))
unfolding new_tree
longer_3 n m x y z d ws = refl

longer_4 : (t : Tree) → IsLonger (last 4 t)
unfolding new_tree
longer_4 t x y z d ws = refl

-- the tree of the outcome is made by h
finds_longer : (h : Tree → Tree) → ((t : Tree) → IsLonger (h t)) → (o : Outcome) {p : Outcome} → p ≡ after h o → FindsLonger p
finds_longer h all (found u us) e t rest q = let same_tree : h u ≡ t = cc in subst (λ v. IsLonger v) same_tree (all u)
finds_longer h all (fault us) e t rest q = cc

-- the tree of a longer type stays as it is, where it is made by h
stays : (h : Tree → Tree) → ((t : Tree) → longer_plain_tree (h t) ≡ h t) → (o : Outcome) {p : Outcome} → p ≡ after h o → {ts : List Token} → R (rules g.longer_plain) ts (after h o) → R (rules g.longer_plain) ts (after longer_plain_tree p)
stays h same (found u us) {p} e {ts} r = subst (λ w. R (rules g.longer_plain) ts w) (ap (λ v. found v us) (sym (same u)) ∙ ap (after longer_plain_tree) (sym e)) r
stays h same (fault us) {p} e {ts} r = subst (λ w. R (rules g.longer_plain) ts w) (ap (after longer_plain_tree) (sym e)) r

twice : (h m : Tree → Tree) (o : Outcome) → after h (after m o) ≡ after (λ t. h (m t)) o
twice h m (found t rest) = refl
twice h m (fault rest) = refl

-- a class outside the names
no_id : (c : ℕ) (cs : List ℕ) → disjoint cs ids ≡ true → elem c cs ≡ true → elem c ids ≡ false
no_id c cs d h = by_test (elem c ids) (λ e. elem-disjoint c cs ids d h e)
  where
    by_test : (b : Bool) → (b ≡ true → ⊥) → b ≡ false
    by_test true n = absurd (n refl)
    by_test false n = refl

-- a word that was read is gone
word_less : {cs : List ℕ} {b : Part Side} {ts : List Token} {o : Outcome} → elem (next ts) cs ≡ true → R (seq (word cs) b) ts o → length (rest_of o) < length ts
word_less h r = by_seq h (of_seq_read r)
  where
    by_seq : {cs : List ℕ} {b : Part Side} {ts : List Token} {o : Outcome} → elem (next ts) cs ≡ true → SeqRead rules nulls firsts (word cs) b ts o → length (rest_of o) < length ts
    by_seq h (is_whole (read_word {ts = us} n) q e) = let m = reads_less q in rw e (omega arith)
    by_seq h (is_late (read_word {ts = us} n) q e) = let m = reads_less q in rw e (omega arith)
    by_seq h (is_none (no_word n) e) = cc

-- a name, perhaps with a member
named_read : {ts : List Token} {o : Outcome} → R (seq (text ids) (opt (seq (word (code k.Dot ∷ [])) (text ids)))) ts o
    → elem (next ts) (code k.Elementary ∷ []) ≡ false → elem (next ts) (code k.Address ∷ []) ≡ false → elem (next ts) (code k.String ∷ []) ≡ false → elem (next ts) ids ≡ true
    → {p : Outcome} → p ≡ after (λ t. nth 3 t) o → PlainRead ts p
named_read r h₀ h₁ h₂ h₃ {p} e = by_seq (of_seq_read r) h₀ h₁ h₂ h₃ e
  where
    by_opt : (j : Token) (ms : List Token) {q : Outcome} → elem j.class ids ≡ true
        → ((elem (next ms) (code k.Dot ∷ []) ≡ false) × (q ≡ found none ms)) ⊎ ((elem (next ms) (code k.Dot ∷ []) ≡ true) × (o : Outcome) × R (seq (word (code k.Dot ∷ [])) (text ids)) ms o × (q ≡ after some o))
        → elem j.class (code k.Elementary ∷ []) ≡ false → elem j.class (code k.Address ∷ []) ≡ false → elem j.class (code k.String ∷ []) ≡ false
        → {p : Outcome} → p ≡ after (λ t. nth 3 (leaf j.text ⊗ t)) q → PlainRead (j ∷ ms) p
    by_opt j ms {q} h (inl (n, e)) h₀ h₁ h₂ {p} d = subst (λ w. PlainRead (j ∷ ms) w) (sym (d ∙ ap (after (λ t. nth 3 (leaf j.text ⊗ t))) e)) (is_bare h n)
    by_opt j ms {q} h (inr (n, found m vs, r, e)) h₀ h₁ h₂ {p} d =
        let whole : p ≡ found (nth 3 (leaf j.text ⊗ some m)) vs = d ∙ ap (after (λ t. nth 3 (leaf j.text ⊗ t))) e in
        is_dotted h n
        (subst (λ w. R (rules g.longer_plain) (j ∷ ms) w) (ap (after longer_plain_tree) (sym whole)) (read_right h₀ (read_right h₁ (read_right h₂ (read_left h (read_seq (read_text h) r))))))
        (let less = word_less n r in rw whole less)
        (λ t rest a. (let same_tree : nth 3 (leaf j.text ⊗ some m) ≡ t = cc in subst (λ v. IsLonger v) same_tree (longer_3 (leaf j.text) m)))
    by_opt j ms {q} h (inr (n, fault vs, r, e)) h₀ h₁ h₂ {p} d =
        let whole : p ≡ fault vs = d ∙ ap (after (λ t. nth 3 (leaf j.text ⊗ t))) e in
        is_dotted h n
        (subst (λ w. R (rules g.longer_plain) (j ∷ ms) w) (ap (after longer_plain_tree) (sym whole)) (read_right h₀ (read_right h₁ (read_right h₂ (read_left h (late_seq (read_text h) r))))))
        (let less = word_less n r in rw whole less)
        (λ t rest a. cc)

    by_seq : {ts : List Token} {o : Outcome} → SeqRead rules nulls firsts (text ids) (opt (seq (word (code k.Dot ∷ [])) (text ids))) ts o
        → elem (next ts) (code k.Elementary ∷ []) ≡ false → elem (next ts) (code k.Address ∷ []) ≡ false → elem (next ts) (code k.String ∷ []) ≡ false → elem (next ts) ids ≡ true
        → {p : Outcome} → p ≡ after (λ t. nth 3 t) o → PlainRead ts p
    by_seq (is_whole (read_text {k = j} {ts = ms} h) q e) h₀ h₁ h₂ h₃ g = by_opt j ms h (of_opt_read q) h₀ h₁ h₂ (g ∙ ap (after (λ t. nth 3 t)) e)
    by_seq (is_late (read_text {k = j} {ts = ms} h) q e) h₀ h₁ h₂ h₃ g = by_opt j ms h (of_opt_read q) h₀ h₁ h₂ (g ∙ ap (after (λ t. nth 3 t)) e)
    by_seq (is_none (no_text h) e) h₀ h₁ h₂ h₃ g = cc

plain_read : {ts : List Token} {p : Outcome} → R (rules g.plain) ts p → PlainRead ts p
plain_read {ts} {p} r₀ = elim (of_alt_read r₀) [
  | inl (h₀, o, r, e) ↦ is_other (no_id (next ts) (code k.Elementary ∷ []) refl h₀) (stays (λ t. nth 0 t) (λ t. refl) o e (read_left h₀ r)) (finds_longer (λ t. nth 0 t) longer_0 o e)
  | inr (h₀, o₀, r₁, e₀) ↦ elim (of_alt_read r₁) [
    | inl (h₁, o, r, e₁) ↦ (
        let e : p ≡ after (λ t. nth 1 t) o = e₀ ∙ ap (after right) e₁ ∙ twice right left o in
        is_other (no_id (next ts) (code k.Address ∷ []) refl h₁)
        (stays (λ t. nth 1 t) (λ t. refl) o e (subst (λ w. R (rules g.longer_plain) ts w) (twice right left o) (read_right h₀ (read_left h₁ r))))
        (finds_longer (λ t. nth 1 t) longer_1 o e))
    | inr (h₁, o₁, r₂, e₁) ↦ elim (of_alt_read r₂) [
      | inl (h₂, o, r, e₂) ↦ (
          let q : after right (after right (after left o)) ≡ after (λ t. nth 2 t) o = ap (after right) (twice right left o) ∙ twice right (λ t. right (left t)) o in
          let e : p ≡ after (λ t. nth 2 t) o = e₀ ∙ ap (after right) (e₁ ∙ ap (after right) e₂) ∙ q in
          is_other (no_id (next ts) (code k.String ∷ []) refl h₂)
          (stays (λ t. nth 2 t) (λ t. refl) o e (subst (λ w. R (rules g.longer_plain) ts w) q (read_right h₀ (read_right h₁ (read_left h₂ r)))))
          (finds_longer (λ t. nth 2 t) longer_2 o e))
      | inr (h₂, o₂, r₃, e₂) ↦ elim (of_alt_read r₃) [
        | inl (h₃, o, r, e₃) ↦ (
            let q : after right (after right (after right (after left o))) ≡ after (λ t. nth 3 t) o = ap (λ w. after right (after right w)) (twice right left o) ∙ ap (after right) (twice right (λ t. right (left t)) o) ∙ twice right (λ t. right (right (left t))) o in
            named_read r h₀ h₁ h₂ h₃ (e₀ ∙ ap (after right) (e₁ ∙ ap (after right) (e₂ ∙ ap (after right) e₃)) ∙ q))
        | inr (h₃, o, r, e₃) ↦ (
            let q : after right (after right (after right (after right o))) ≡ after (λ t. last 4 t) o = ap (λ w. after right (after right w)) (twice right right o) ∙ ap (after right) (twice right (λ t. right (right t)) o) ∙ twice right (λ t. right (right (right t))) o in
            let e : p ≡ after (λ t. last 4 t) o = e₀ ∙ ap (after right) (e₁ ∙ ap (after right) (e₂ ∙ ap (after right) e₃)) ∙ q in
            is_other h₃
            (stays (λ t. last 4 t) (λ t. refl) o e (subst (λ w. R (rules g.longer_plain) ts w) q (read_right h₀ (read_right h₁ (read_right h₂ (read_right h₃ r))))))
            (finds_longer (λ t. last 4 t) longer_4 o e))
      ]
    ]
  ]
]

-- ---- classes

not_in : (c : ℕ) (cs ms : List ℕ) → disjoint cs ms ≡ true → elem c ms ≡ true → elem c cs ≡ false
not_in c cs ms d h = by_test (elem c cs) (λ e. elem-disjoint c cs ms d e h)
  where
    by_test : (b : Bool) → (b ≡ true → ⊥) → b ≡ false
    by_test true n = absurd (n refl)
    by_test false n = refl

not_in_part : (c : ℕ) (cs ms : List ℕ) → subset cs ms ≡ true → elem c ms ≡ false → elem c cs ≡ false
not_in_part c cs ms s h = by_test (elem c cs) (λ e. elem-subset c cs ms s e)
  where
    by_test : (b : Bool) → (b ≡ true → elem c ms ≡ true) → b ≡ false
    by_test true n = let e = n refl in cc
    by_test false n = refl

in_rest : (c : ℕ) (cs ns ms : List ℕ) → subset cs (ns ++ ms) ≡ true → elem c ns ≡ false → elem c cs ≡ true → elem c ms ≡ true
in_rest c cs ns ms s n h = elim (elem_either c ns ms (elem-subset c cs (ns ++ ms) s h)) [ inl e ↦ (cc) | inr e ↦ e ]

-- ---- suffixes

-- the second alternative was read, where the next token is not of the first
second_read : {a b : Part Side} {ts : List Token} {p : Outcome} → R (alt a b) ts p → elem (next ts) (first nulls firsts a) ≡ false → (o : Outcome) × R b ts o × (p ≡ after right o)
second_read (read_left h r) n = cc
second_read (read_right {o} h r) n = (o, r, refl)

-- a first suffix that is none of the first forms
longer_suffix : {us : List Token} {o : Outcome} → R (side g.suffix) us o → elem (next us) (code k.LBracket ∷ []) ≡ false → R (side g.after_longer) us (after (suffix_behind 1) o)
longer_suffix {us} (read_side used e r) h = let m = second_read r h in by_outcome used e m.0 m.1 m.2
  where
    by_outcome : {vs : List Token} {t : Tree} (used : List Token) → us ≡ used ++ vs → (o : Outcome) → R (rules g.after_longer) us o → found t vs ≡ after right o → R (side g.after_longer) us (found (suffix_behind 1 (node (extent_of used) t)) vs)
    by_outcome {vs} {t} used e (found u ws) r q =
        let same_tree : right u ≡ t = cc in
        let same_rest : ws ≡ vs = cc in
        subst (λ v. R (side g.after_longer) us (found (suffix_behind 1 (node (extent_of used) v)) vs)) same_tree
        (read_side used e (subst (λ v. R (rules g.after_longer) us (found u v)) same_rest r))
    by_outcome used e (fault ws) r q = cc
longer_suffix {us} (no_side r) h = let m = second_read r h in by_outcome m.0 m.1 m.2
  where
    by_outcome : {vs : List Token} (o : Outcome) → R (rules g.after_longer) us o → fault vs ≡ after right o → R (side g.after_longer) us (fault vs)
    by_outcome (found u ws) r q = cc
    by_outcome (fault ws) r q = let same_rest : ws ≡ _ = cc in no_side (subst (λ v. R (rules g.after_longer) us (fault v)) same_rest r)

name_suffix : {us : List Token} {o : Outcome} → R (side g.after_longer) us o → elem (next us) (code k.Dot ∷ []) ≡ false → R (side g.after_name) us (after (suffix_behind 1) o)
name_suffix {us} (read_side used e r) h = let m = second_read r h in by_outcome used e m.0 m.1 m.2
  where
    by_outcome : {vs : List Token} {t : Tree} (used : List Token) → us ≡ used ++ vs → (o : Outcome) → R (rules g.after_name) us o → found t vs ≡ after right o → R (side g.after_name) us (found (suffix_behind 1 (node (extent_of used) t)) vs)
    by_outcome {vs} {t} used e (found u ws) r q =
        let same_tree : right u ≡ t = cc in
        let same_rest : ws ≡ vs = cc in
        subst (λ v. R (side g.after_name) us (found (suffix_behind 1 (node (extent_of used) v)) vs)) same_tree
        (read_side used e (subst (λ v. R (rules g.after_name) us (found u v)) same_rest r))
    by_outcome used e (fault ws) r q = cc
name_suffix {us} (no_side r) h = let m = second_read r h in by_outcome m.0 m.1 m.2
  where
    by_outcome : {vs : List Token} (o : Outcome) → R (rules g.after_name) us o → fault vs ≡ after right o → R (side g.after_name) us (fault vs)
    by_outcome (found u ws) r q = cc
    by_outcome (fault ws) r q = let same_rest : ws ≡ _ = cc in no_side (subst (λ v. R (rules g.after_name) us (fault v)) same_rest r)

behind_twice : (t : Tree) → behind 1 (behind 1 t) ≡ behind 2 t
behind_twice (right t) = refl
behind_twice unit = refl
behind_twice (leaf u) = refl
behind_twice (name n) = refl
behind_twice (pair t u) = refl
behind_twice (left t) = refl
behind_twice none = refl
behind_twice (some t) = refl
behind_twice nil = refl
behind_twice (cons t u) = refl
behind_twice (node x t) = refl

suffix_twice : (o : Outcome) → after (suffix_behind 1) (after (suffix_behind 1) o) ≡ after (suffix_behind 2) o
suffix_twice (fault vs) = refl
suffix_twice (found (node x t) vs) = ap (λ u. found (node x u) vs) (behind_twice t)
suffix_twice (found unit vs) = refl
suffix_twice (found (leaf u) vs) = refl
suffix_twice (found (name n) vs) = refl
suffix_twice (found (pair t u) vs) = refl
suffix_twice (found (left t) vs) = refl
suffix_twice (found (right t) vs) = refl
suffix_twice (found none vs) = refl
suffix_twice (found (some t) vs) = refl
suffix_twice (found nil vs) = refl
suffix_twice (found (cons t u) vs) = refl

-- a list of suffixes, of which the first is none of the first n forms
abbrev first_behind : ℕ → Tree → Tree
first_behind n (cons t u) = some (suffix_behind n t ⊗ u)
first_behind n nil = none
first_behind n t = unit

first_behind_list : (n : ℕ) (ts : List Tree) → first_behind n (list_tree ts) ≡ suffixes_behind n ts
first_behind_list n [] = refl
first_behind_list n (t ∷ ts) = refl

module _ (s : Side) (n : ℕ) (others : List ℕ)
    (is_first : first nulls firsts (seq (side s) (star (side g.suffix))) ≡ firsts s)
    (some_of : subset (firsts s) (firsts g.suffix) ≡ true) (all_but : subset (firsts g.suffix) (others ++ firsts s) ≡ true)
    (one : (us : List Token) (o : Outcome) → R (side g.suffix) us o → elem (next us) others ≡ false → R (side s) us (after (suffix_behind n) o)) where
  begins_not : (us : List Token) → elem (next us) (firsts g.suffix) ≡ false → elem (next us) (first nulls firsts (seq (side s) (star (side g.suffix)))) ≡ false
  begins_not us h = rw is_first (not_in_part (next us) (firsts s) (firsts g.suffix) some_of h)

  begins : (us : List Token) → elem (next us) (firsts g.suffix) ≡ true → elem (next us) others ≡ false → elem (next us) (first nulls firsts (seq (side s) (star (side g.suffix)))) ≡ true
  begins us h e = rw is_first (in_rest (next us) (firsts g.suffix) others (firsts s) all_but e h)

  suffixes_read : {us : List Token} {o : Outcome} → R (star (side g.suffix)) us o → elem (next us) others ≡ false → R (opt (seq (side s) (star (side g.suffix)))) us (after (first_behind n) o)
  suffixes_read {us} (read_nil h) e = read_none (begins_not us h)
  suffixes_read {us} (read_cons {us = vs} {t} h r q) e = read_some (begins us h e) (read_seq (one us (found t vs) r e) q)
  suffixes_read {us} (late_cons {us = vs} {t} h r q) e = read_some (begins us h e) (late_seq (one us (found t vs) r e) q)
  suffixes_read {us} (no_cons {us = vs} h r) e = read_some (begins us h e) (no_seq (one us (fault vs) r e))

after_longer_read : {us : List Token} {o : Outcome} → R (star (side g.suffix)) us o → elem (next us) (code k.LBracket ∷ []) ≡ false → R (opt (seq (side g.after_longer) (star (side g.suffix)))) us (after (first_behind 1) o)
after_longer_read = suffixes_read g.after_longer 1 (code k.LBracket ∷ []) refl refl refl (λ us o r e. longer_suffix r e)

after_name_read : {us : List Token} {o : Outcome} → R (star (side g.suffix)) us o → elem (next us) (code k.LBracket ∷ []) ≡ false → elem (next us) (code k.Dot ∷ []) ≡ false → R (opt (seq (side g.after_name) (star (side g.suffix)))) us (after (first_behind 2) o)
after_name_read {us} r e h =
    suffixes_read g.after_name 2 (code k.LBracket ∷ code k.Dot ∷ []) refl refl refl
    (λ vs o q n. subst (λ w. R (side g.after_name) vs w) (suffix_twice o) (name_suffix (longer_suffix q (not_in_part (next vs) (code k.LBracket ∷ []) (code k.LBracket ∷ code k.Dot ∷ []) refl n)) (not_in_part (next vs) (code k.Dot ∷ []) (code k.LBracket ∷ code k.Dot ∷ []) refl n)))
    r (neither (next us) (code k.LBracket ∷ []) (code k.Dot ∷ []) e h)
  where
    neither : (c : ℕ) (cs ms : List ℕ) → elem c cs ≡ false → elem c ms ≡ false → elem c (cs ++ ms) ≡ false
    neither c cs ms n m = by_test (elem c (cs ++ ms)) (λ x. elem_either c cs ms x)
      where
        by_test : (b : Bool) → (b ≡ true → (elem c cs ≡ true) ⊎ (elem c ms ≡ true)) → b ≡ false
        by_test true f = elim (f refl) [ inl x ↦ (cc) | inr x ↦ (cc) ]
        by_test false f = refl

-- ---- `new` and a type, and then suffixes

abbrev NamePost : Part Side
NamePost = seq (side g.new_name) (opt (seq (side g.after_name) (star (side g.suffix))))

abbrev LongerPost : Part Side
LongerPost = seq (side g.new_longer) (opt (seq (side g.after_longer) (star (side g.suffix))))

abbrev NewPost : Part Side
NewPost = both (code k.Dot ∷ code k.LBracket ∷ []) NamePost LongerPost

then_read : {a b : Part Side} {ts us : List Token} {t : Tree} {o : Outcome} → R a ts (found t us) → R b us o → R (seq a b) ts (after (pair t) o)
then_read {o = found u vs} r q = read_seq r q
then_read {o = fault vs} r q = late_seq r q

-- brackets in a row: none, or one or more
star_end : {ms us : List Token} {d : Tree} → R (star brackets) ms (found d us) → elem (next us) (code k.LBracket ∷ []) ≡ false
star_end (read_nil h) = h
star_end (read_cons h r q) = star_end q

-- how far one or more were read, and what this makes of any number
abbrev as_cons : Tree → Tree
as_cons (pair b bs) = cons b bs
as_cons t = t

data BracketsRead (ms : List Token) : Outcome → Type 0 where
  no_brackets : elem (next ms) (code k.LBracket ∷ []) ≡ false → BracketsRead ms (found nil ms)
  some_brackets : {b bs : Tree} {us : List Token} → R (seq brackets (star brackets)) ms (found (pair b bs) us) → elem (next ms) (code k.LBracket ∷ []) ≡ true → length us < length ms → BracketsRead ms (found (cons b bs) us)
  late_brackets : {us : List Token} → R (seq brackets (star brackets)) ms (fault us) → elem (next ms) (code k.LBracket ∷ []) ≡ true → length us < length ms → BracketsRead ms (fault us)

brackets_read : {ms : List Token} {q : Outcome} → R (star brackets) ms q → BracketsRead ms q
brackets_read (read_nil h) = no_brackets h
brackets_read (read_cons h r q) = some_brackets (read_seq r q) h (let m = word_less h r in let n = reads_less q in omega arith)
brackets_read (late_cons h r q) = late_brackets (late_seq r q) h (let m = word_less h r in let n = reads_less q in omega arith)
brackets_read (no_cons h r) = late_brackets (no_seq r) h (word_less h r)

-- ---- by the rule of a longer type

-- a name is no other type
name_no_plain : {j : Token} {ms : List Token} → elem j.class ids ≡ true → elem (next ms) (code k.Dot ∷ []) ≡ false → R (side g.longer_plain) (j ∷ ms) (fault ms)
name_no_plain {j} {ms} h n =
    no_side (
    read_right (not_in j.class (code k.Elementary ∷ []) ids refl h)
    (read_right (not_in j.class (code k.Address ∷ []) ids refl h)
    (read_right (not_in j.class (code k.String ∷ []) ids refl h)
    (read_left h (late_seq (read_text h) (no_seq (no_word n)))))))

name_read : {j : Token} {ms : List Token} (used : List Token) → elem j.class ids ≡ true → j ∷ ms ≡ used ++ ms → R (side g.name_plain) (j ∷ ms) (found (node (extent_of used) (leaf j.text)) ms)
name_read used h e = read_side used e (read_text h)

-- one name with brackets
name_brackets : {j : Token} {ms : List Token} {o : Outcome} (used : List Token) → elem j.class ids ≡ true → j ∷ ms ≡ used ++ ms → elem (next ms) (code k.Dot ∷ []) ≡ false → R (seq brackets (star brackets)) ms o
    → R (rules g.longer_type) (j ∷ ms) (after left (after (pair (node (extent_of used) (leaf j.text))) o))
name_brackets {j} {ms} {o} used h e n r =
    read_one (then_read (name_read used h e) r) (no_seq (name_no_plain h n))
    (beats_fault (after (pair (node (extent_of used) (leaf j.text))) o) ms (less_after (pair (node (extent_of used) (leaf j.text))) o ms (reads_less r)))

-- one name alone
name_alone : {j : Token} {ms : List Token} → elem j.class ids ≡ true → elem (next ms) (code k.Dot ∷ []) ≡ false → elem (next ms) (code k.LBracket ∷ []) ≡ false → R (rules g.longer_type) (j ∷ ms) (fault ms)
name_alone {j} {ms} h n b = read_one (late_seq (read_side (j ∷ []) refl (read_text h)) (no_seq (no_seq (no_word b)))) (no_seq (name_no_plain h n)) (inr (refl, λ x. x))

-- another type, where by the rule of one name nothing further is read
other_longer : {ts ms left_over : List Token} {t : Tree} {o : Outcome} → R (seq (side g.name_plain) (seq brackets (star brackets))) ts (fault left_over) → R (side g.longer_plain) ts (found t ms) → R (star brackets) ms o → length ms ≤ length left_over
    → R (rules g.longer_type) ts (after right (after (pair t) o))
other_longer {ts} {ms} {left_over} {t} {o} stop p q l =
    read_other stop (then_read p q) (beats_fault (after (pair t) o) left_over (less_after (pair t) o left_over (let m = reads_less q in omega arith)))

other_none : {ts us left_over : List Token} → R (seq (side g.name_plain) (seq brackets (star brackets))) ts (fault left_over) → R (side g.longer_plain) ts (fault us) → length us ≤ length left_over
    → R (rules g.longer_type) ts (fault us)
other_none {ts} {us} {left_over} stop p l = read_other stop (no_seq p) (beats_fault (fault us) left_over l)

-- by the rule of one name: nothing, where a member follows
stops_at_dot : {j : Token} {ms : List Token} → elem j.class ids ≡ true → elem (next ms) (code k.Dot ∷ []) ≡ true → R (seq (side g.name_plain) (seq brackets (star brackets))) (j ∷ ms) (fault ms)
stops_at_dot {j} {ms} h n = late_seq (name_read (j ∷ []) h refl) (no_seq (no_seq (no_word (not_in (next ms) (code k.LBracket ∷ []) (code k.Dot ∷ []) refl n))))

-- nor where no name stands
stops_before : {ts : List Token} → elem (next ts) ids ≡ false → R (seq (side g.name_plain) (seq brackets (star brackets))) ts (fault ts)
stops_before h = no_seq (no_side (no_text h))

-- ---- the other alternative is not better

-- by the rule of `new` with one name, no further than this
record Behind (n : Token) (ts us : List Token) : Type 0 where
  pub other : Outcome
  pub read : R NamePost (n ∷ ts) other
  pub beaten : (o : Outcome) → length (rest_of o) ≤ length us → Beats o other

behind_name : {n j : Token} {ms us : List Token} → elem n.class (code k.New ∷ []) ≡ true → elem j.class ids ≡ true → elem (next ms) (firsts g.after_name) ≡ false → length us < length ms → Behind n (j ∷ ms) us
behind_name {n} {j} {ms} {us} hn h e l = record {
  other = found _ ms;
  read = read_seq (read_side (n ∷ j ∷ []) refl (read_seq (read_word hn) (read_side (j ∷ []) refl (name_read (j ∷ []) h refl)))) (read_none e);
  beaten = λ o m. inl (omega arith);
}

behind_other : {n : Token} {ts us : List Token} → elem n.class (code k.New ∷ []) ≡ true → elem (next ts) ids ≡ false → length us ≤ length ts → Behind n ts us
behind_other {n} {ts} {us} hn h l = record {
  other = fault ts;
  read = no_seq (no_side (late_seq (read_word hn) (no_side (no_side (no_text h)))));
  beaten = λ o m. beats_fault o ts (omega arith);
}

-- ---- the whole

finish_longer : {n : Token} {ts us : List Token} {t : Tree} {o : Outcome} (wide used : List Token) → elem n.class (code k.New ∷ []) ≡ true → ts ≡ wide ++ us → ts ≡ used ++ us
    → R (rules g.longer_type) ts (found t us) → Behind n ts us → R (star (side g.suffix)) us o → elem (next us) (code k.LBracket ∷ []) ≡ false
    → R NewPost (n ∷ ts) (after (λ l. right (node (extent_of (n ∷ wide)) (unit ⊗ node (extent_of used) t) ⊗ first_behind 1 l)) o)
finish_longer {n} {ts} {us} {t} {o} wide used hn e₀ e r b s nb =
    let q = after_longer_read s nb in
    let front : Tree = node (extent_of (n ∷ wide)) (unit ⊗ node (extent_of used) t) in
    let made : R LongerPost (n ∷ ts) (after (pair front) (after (first_behind 1) o)) = then_read (read_side (n ∷ wide) (ap (λ z. n ∷ z) e₀) (read_seq (read_word hn) (read_side used e r))) q in
    subst (λ w. R NewPost (n ∷ ts) w) (ap (after right) (twice (pair front) (first_behind 1) o) ∙ twice right (λ l. pair front (first_behind 1 l)) o)
    (read_other b.read made (b.beaten (after (pair front) (after (first_behind 1) o)) (less_after (pair front) (after (first_behind 1) o) us (reads_less q))))

finish_fault : {n : Token} {ts us : List Token} → elem n.class (code k.New ∷ []) ≡ true → R (rules g.longer_type) ts (fault us) → Behind n ts us → R NewPost (n ∷ ts) (fault us)
finish_fault {n} {ts} {us} hn r b = read_other b.read (no_seq (no_side (late_seq (read_word hn) (no_side r)))) (b.beaten (fault us) (omega arith))

finish_name : {n j : Token} {ms : List Token} {o : Outcome} (wide used own : List Token) → elem n.class (code k.New ∷ []) ≡ true → elem j.class ids ≡ true → j ∷ ms ≡ wide ++ ms → j ∷ ms ≡ used ++ ms → j ∷ ms ≡ own ++ ms
    → R (star (side g.suffix)) ms o → elem (next ms) (code k.LBracket ∷ []) ≡ false → elem (next ms) (code k.Dot ∷ []) ≡ false
    → R NewPost (n ∷ j ∷ ms) (after (λ l. left (node (extent_of (n ∷ wide)) (unit ⊗ node (extent_of used) (node (extent_of own) (leaf j.text))) ⊗ first_behind 2 l)) o)
finish_name {n} {j} {ms} {o} wide used own hn h e₀ e e₂ s nb nd =
    let q = after_name_read s nb nd in
    let front : Tree = node (extent_of (n ∷ wide)) (unit ⊗ node (extent_of used) (node (extent_of own) (leaf j.text))) in
    let made : R NamePost (n ∷ j ∷ ms) (after (pair front) (after (first_behind 2) o)) = then_read (read_side (n ∷ wide) (ap (λ z. n ∷ z) e₀) (read_seq (read_word hn) (read_side used e (name_read own h e₂)))) q in
    let beaten : R LongerPost (n ∷ j ∷ ms) (fault ms) = no_seq (no_side (late_seq (read_word hn) (no_side (name_alone h nd nb)))) in
    subst (λ w. R NewPost (n ∷ j ∷ ms) w) (ap (after left) (twice (pair front) (first_behind 2) o) ∙ twice left (λ l. pair front (first_behind 2 l)) o)
    (read_one made beaten (beats_fault (after (pair front) (after (first_behind 2) o)) ms (less_after (pair front) (after (first_behind 2) o) ms (reads_less q))))

-- `new` with the type, as it is in the tree of a post
abbrev NewRead : Token → List Token → Extent → Tree → Outcome → Type 0
NewRead n ts x t o = (h : Tree → Tree) × ((ws : List Tree) → h (list_tree ws) ≡ new_tree x t ws) × R NewPost (n ∷ ts) (after h o)

name_tree : (x y z : Extent) (u : List ℕ) (ws : List Tree) → left (node x (unit ⊗ node y (node z (leaf u))) ⊗ first_behind 2 (list_tree ws)) ≡ new_tree x (node y (node z (nth 3 (leaf u ⊗ none)) ⊗ nil)) ws
unfolding new_tree
name_tree x y z u ws = ap (λ l. left (node x (unit ⊗ node y (node z (leaf u))) ⊗ l)) (first_behind_list 2 ws)

brackets_tree : (x y z : Extent) (u : List ℕ) (b bs : Tree) (ws : List Tree) → right (node x (unit ⊗ node y (left (node z (leaf u) ⊗ b ⊗ bs))) ⊗ first_behind 1 (list_tree ws)) ≡ new_tree x (node y (node z (nth 3 (leaf u ⊗ none)) ⊗ cons b bs)) ws
unfolding new_tree
brackets_tree x y z u b bs ws = ap (λ l. right (node x (unit ⊗ node y (left (node z (leaf u) ⊗ b ⊗ bs))) ⊗ l)) (first_behind_list 1 ws)

longer_tree : (x y z : Extent) (t d : Tree) (ws : List Tree) → IsLonger t → right (node x (unit ⊗ node y (right (node z (longer_plain_tree t) ⊗ d))) ⊗ first_behind 1 (list_tree ws)) ≡ new_tree x (node y (node z t ⊗ d)) ws
longer_tree x y z t d ws h = ap (λ l. right (node x (unit ⊗ node y (right (node z (longer_plain_tree t) ⊗ d))) ⊗ l)) (first_behind_list 1 ws) ∙ sym (h x y z d ws)

new_found : {n : Token} {ts us : List Token} {t : Tree} {o : Outcome} (wide : List Token) → elem n.class (code k.New ∷ []) ≡ true → ts ≡ wide ++ us → R (side g.type) ts (found t us) → R (star (side g.suffix)) us o → NewRead n ts (extent_of (n ∷ wide)) t o
new_found {n} {us} {o} wide hn e₀ (read_side used e (read_seq (read_side own e₂ r) d)) s = by_plain wide used own (plain_read r) (brackets_read d) d hn e₀ e e₂ s (star_end d)
  where
    by_plain : {n : Token} {ts ms us : List Token} {p d : Tree} {o : Outcome} (wide used own : List Token) → PlainRead ts (found p ms) → BracketsRead ms (found d us) → R (star brackets) ms (found d us) → elem n.class (code k.New ∷ []) ≡ true → ts ≡ wide ++ us → ts ≡ used ++ us → ts ≡ own ++ ms
        → R (star (side g.suffix)) us o → elem (next us) (code k.LBracket ∷ []) ≡ false → NewRead n ts (extent_of (n ∷ wide)) (node (extent_of used) (node (extent_of own) p ⊗ d)) o
    by_plain {n} wide used own (is_bare {j} h nd) (no_brackets nb) q hn e₀ e e₂ s end =
        (_, name_tree (extent_of (n ∷ wide)) (extent_of used) (extent_of own) j.text, finish_name wide used own hn h e₀ e e₂ s nb nd)
    by_plain {n} wide used own (is_bare {j} {ms} h nd) (some_brackets {b} {bs} r hb l) q hn e₀ e e₂ s end =
        (_, brackets_tree (extent_of (n ∷ wide)) (extent_of used) (extent_of own) j.text b bs, finish_longer wide used hn e₀ e (name_brackets own h e₂ nd r) (behind_name hn h (not_in (next ms) (firsts g.after_name) (code k.LBracket ∷ []) refl hb) l) s end)
    by_plain {n} {us} {p} {d} wide used own (is_dotted {j} {ms} h nd r l f) c q hn e₀ e e₂ s end = (
      _,
      (λ ws. longer_tree (extent_of (n ∷ wide)) (extent_of used) (extent_of own) p d ws (f p _ refl)),
      finish_longer wide used hn e₀ e (other_longer (stops_at_dot h nd) (read_side own e₂ r) q (omega arith))
          (behind_name hn h (not_in (next ms) (firsts g.after_name) (code k.Dot ∷ []) refl nd) (let m = reads_less q in omega arith)) s end,
    )
    by_plain {n} {ts} {us} {p} {d} wide used own (is_other h r f) c q hn e₀ e e₂ s end = (
      _,
      (λ ws. longer_tree (extent_of (n ∷ wide)) (extent_of used) (extent_of own) p d ws (f p _ refl)),
      finish_longer wide used hn e₀ e (other_longer (stops_before h) (read_side own e₂ r) q (reads_less r))
          (behind_other hn h (let m = reads_less q in let m₂ = reads_less r in omega arith)) s end,
    )

new_fault : {n : Token} {ts us : List Token} → elem n.class (code k.New ∷ []) ≡ true → R (side g.type) ts (fault us) → R NewPost (n ∷ ts) (fault us)
new_fault hn (no_side (late_seq (read_side own e₂ r) d)) = by_plain own (plain_read r) (brackets_read d) d hn e₂
  where
    by_plain : {n : Token} {ts ms us : List Token} {p : Tree} (own : List Token) → PlainRead ts (found p ms) → BracketsRead ms (fault us) → R (star brackets) ms (fault us) → elem n.class (code k.New ∷ []) ≡ true → ts ≡ own ++ ms → R NewPost (n ∷ ts) (fault us)
    by_plain own (is_bare {j} {ms} h nd) (late_brackets r hb l) q hn e₂ = finish_fault hn (name_brackets own h e₂ nd r) (behind_name hn h (not_in (next ms) (firsts g.after_name) (code k.LBracket ∷ []) refl hb) l)
    by_plain own (is_dotted {ms} h nd r l f) c q hn e₂ = finish_fault hn (other_longer (stops_at_dot h nd) (read_side own e₂ r) q (omega arith)) (behind_name hn h (not_in (next ms) (firsts g.after_name) (code k.Dot ∷ []) refl nd) (let m = reads_less q in omega arith))
    by_plain own (is_other h r f) c q hn e₂ = finish_fault hn (other_longer (stops_before h) (read_side own e₂ r) q (reads_less r)) (behind_other hn h (let m = reads_less q in let m₂ = reads_less r in omega arith))
new_fault hn (no_side (no_seq (no_side r))) = by_plain (plain_read r) hn
  where
    by_plain : {n : Token} {ts us : List Token} → PlainRead ts (fault us) → elem n.class (code k.New ∷ []) ≡ true → R NewPost (n ∷ ts) (fault us)
    by_plain (is_dotted {ms} h nd r l f) hn = finish_fault hn (other_none (stops_at_dot h nd) (no_side r) (omega arith)) (behind_name hn h (not_in (next ms) (firsts g.after_name) (code k.Dot ∷ []) refl nd) (omega arith))
    by_plain (is_other h r f) hn = finish_fault hn (other_none (stops_before h) (no_side r) (reads_less r)) (behind_other hn h (reads_less r))

-- ---- for a parser: a post from an atom, or from `new` with a type, and suffixes

pub read_new : {n : Token} {ts us vs : List Token} {t : Tree} (wide : List Token) (ws : List Tree) → elem n.class (code k.New ∷ []) ≡ true → ts ≡ wide ++ us → Reads rules nulls firsts (side g.type) ts (found t us) → Reads rules nulls firsts (star (side g.suffix)) us (found (list_tree ws) vs)
    → Reads rules nulls firsts (rules g.post) (n ∷ ts) (found (atom_and_suffixes (node (extent_of (n ∷ wide)) (unit ⊗ t)) ws) vs)
unfolding atom_and_suffixes
read_new {n} {ts} {us} {vs} {t} wide ws hn e r s =
    let m = new_found wide hn e r s in
    subst (λ u. R (rules g.post) (n ∷ ts) (found (right u) vs)) (m.1 ws) (read_right (not_in n.class (firsts g.atom) (code k.New ∷ []) refl hn) m.2)

pub late_new : {n : Token} {ts us vs : List Token} {t : Tree} (wide : List Token) → elem n.class (code k.New ∷ []) ≡ true → ts ≡ wide ++ us → Reads rules nulls firsts (side g.type) ts (found t us) → Reads rules nulls firsts (star (side g.suffix)) us (fault vs)
    → Reads rules nulls firsts (rules g.post) (n ∷ ts) (fault vs)
late_new {n} wide hn e r s = read_right (not_in n.class (firsts g.atom) (code k.New ∷ []) refl hn) (new_found wide hn e r s).2

pub no_new : {n : Token} {ts us : List Token} → elem n.class (code k.New ∷ []) ≡ true → Reads rules nulls firsts (side g.type) ts (fault us) → Reads rules nulls firsts (rules g.post) (n ∷ ts) (fault us)
no_new {n} hn r = read_right (not_in n.class (firsts g.atom) (code k.New ∷ []) refl hn) (new_fault hn r)

-- an atom that was read begins with a token of its own
atom_begins : {ts us : List Token} {t : Tree} → R (side g.atom) ts (found t us) → elem (next ts) (firsts g.atom) ≡ true
atom_begins {ts} r = by_test (elem (next ts) (firsts g.atom)) (λ e. nothing_read right_tables r e)
  where
    by_test : {us : List Token} (b : Bool) → (b ≡ false → (us ≡ ts) × (false ≡ true)) → b ≡ true
    by_test true n = refl
    by_test false n = (n refl).1

-- its tree goes into the tree of a post as it is
atom_goes : {ts us : List Token} {t : Tree} → R (side g.atom) ts (found t us) → (ws : List Tree) → atom_and_suffixes t ws ≡ left (t ⊗ list_tree ws)
unfolding atom_and_suffixes
atom_goes (read_side used e r) ws = by_alt used (of_alt_read r) ws
  where
    by_alt : {a b : Part Side} {ts us : List Token} {t : Tree} (used : List Token)
        → ((elem (next ts) (first nulls firsts a) ≡ true) × (o : Outcome) × R a ts o × (found t us ≡ after left o)) ⊎ ((elem (next ts) (first nulls firsts a) ≡ false) × (o : Outcome) × R b ts o × (found t us ≡ after right o))
        → (ws : List Tree) → atom_and_suffixes (node (extent_of used) t) ws ≡ left (node (extent_of used) t ⊗ list_tree ws)
    by_alt {t} used (inl (h, found u vs, r, e)) ws = let same_tree : t ≡ left u = cc in rw same_tree refl
    by_alt used (inl (h, fault vs, r, e)) ws = cc
    by_alt {t} used (inr (h, found u vs, r, e)) ws = let same_tree : t ≡ right u = cc in rw same_tree refl
    by_alt used (inr (h, fault vs, r, e)) ws = cc

pub read_atom : {ts us vs : List Token} {t : Tree} (ws : List Tree) → Reads rules nulls firsts (side g.atom) ts (found t us) → Reads rules nulls firsts (star (side g.suffix)) us (found (list_tree ws) vs)
    → Reads rules nulls firsts (rules g.post) ts (found (atom_and_suffixes t ws) vs)
read_atom {ts} {vs} ws r s = subst (λ u. R (rules g.post) ts (found u vs)) (sym (atom_goes r ws)) (read_left (atom_begins r) (read_seq r s))

pub late_atom : {ts us vs : List Token} {t : Tree} → Reads rules nulls firsts (side g.atom) ts (found t us) → Reads rules nulls firsts (star (side g.suffix)) us (fault vs) → Reads rules nulls firsts (rules g.post) ts (fault vs)
late_atom r s = read_left (atom_begins r) (late_seq r s)

pub no_atom : {ts us : List Token} → elem (next ts) (code k.New ∷ []) ≡ false → Reads rules nulls firsts (side g.atom) ts (fault us) → Reads rules nulls firsts (rules g.post) ts (fault us)
no_atom {ts} {us} hn r = by_test (elem (next ts) (firsts g.atom)) refl
  where
    by_test : (b : Bool) → elem (next ts) (firsts g.atom) ≡ b → R (rules g.post) ts (fault us)
    by_test true e = read_left e (no_seq r)
    by_test false e = subst (λ w. R (rules g.post) ts (fault w)) (sym (nothing_read right_tables r e)) (read_right e (read_one (no_seq (no_side (no_seq (no_word hn)))) (no_seq (no_side (no_seq (no_word hn)))) (inr (refl, λ x. x))))
