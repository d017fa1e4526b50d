-- Where a part can't begin with the next token, reading it leaves all tokens.
use Rattle.std.proofs.Common.{◌≡◌, ℕ, zero, suc, Bool, true, false, ◌&&◌, cond, List, [], ◌++◌, length, refl, sym, ap, subst, ◌∙◌, inr}
use Rattle.sv_grammar.specs.Grammar.{Token, Part, nothing, word, text, seq, alt, opt, star, both, side, Tree, left, right, elem}
use Rattle.sv_grammar.specs.Reading.{Outcome, found, fault, rest_of, after, next, nullable, first, subset, implies, Reads, read_nothing, read_word, no_word, read_text, no_text, read_seq, late_seq, no_seq, read_left, read_right, read_none, read_some, read_nil, read_cons, late_cons, no_cons, read_one, read_other, read_side, no_side}
use Rattle.sv_grammar.proofs.Sets.{and_true, and_both, or_left, or_right, elem-left, elem-right, elem-subset, implied}
use Rattle.sv_grammar.proofs.Theory.{Checked}

pub rest_after : (h : Tree → Tree) (o : Outcome) → rest_of (after h o) ≡ rest_of o
rest_after h (found t rest) = refl
rest_after h (fault rest) = refl

-- a class of neither list
left_false : (c : ℕ) (cs ms : List ℕ) → elem c (cs ++ ms) ≡ false → elem c cs ≡ false
left_false c cs ms h = by_test (elem c cs) (λ e. elem-left c cs ms e)
  where
    by_test : (b : Bool) → (b ≡ true → elem c (cs ++ ms) ≡ true) → b ≡ false
    by_test true n = let e = n refl in cc
    by_test false n = refl

right_false : (c : ℕ) (cs ms : List ℕ) → elem c (cs ++ ms) ≡ false → elem c ms ≡ false
right_false c cs ms h = by_test (elem c ms) (λ e. elem-right c cs ms e)
  where
    by_test : (b : Bool) → (b ≡ true → elem c (cs ++ ms) ≡ true) → b ≡ false
    by_test true n = let e = n refl in cc
    by_test false n = refl

part_false : (c : ℕ) (cs ms : List ℕ) → subset cs ms ≡ true → elem c ms ≡ false → elem c cs ≡ false
part_false c cs ms s h = by_test (elem c cs) (λ e. elem-subset c cs ms s e)
  where
    by_test : (b : Bool) → (b ≡ true → elem c ms ≡ true) → b ≡ false
    by_test true n = let e = n refl in cc
    by_test false n = refl

module _ {S : Type 0} {rules : S → Part S} {empty : S → Bool} {f c l : S → List ℕ} (ok : Checked rules empty f c l) where
  abbrev Nothing : Part S → List Token → Outcome → Type 0
  Nothing a ts (found t us) = (us ≡ ts) × (nullable empty a ≡ true)
  Nothing a ts (fault us) = us ≡ ts

  second : (a b : Part S) (ts us : List Token) → us ≡ ts → nullable empty a ≡ true → elem (next ts) (first empty f (seq a b)) ≡ false → elem (next us) (first empty f b) ≡ false
  second a b ts us e h n =
      ap (λ z. elem (next z) (first empty f b)) e
      ∙ right_false (next ts) (first empty f a) (first empty f b) (ap (λ v. elem (next ts) (first empty f a ++ cond v (first empty f b) [])) (sym h) ∙ n)

  nothing_after : (a b : Part S) (h : Tree → Tree) (ts : List Token) (o : Outcome) → (nullable empty a ≡ true → nullable empty b ≡ true) → Nothing a ts o → Nothing b ts (after h o)
  nothing_after a b h ts (found t us) i n = (n.0, i n.1)
  nothing_after a b h ts (fault us) i n = n

  -- nothing is read, and what is found is of a part that may be empty
  pub nothing_read : {a : Part S} {ts : List Token} {o : Outcome} → Reads rules empty f a ts o → elem (next ts) (first empty f a) ≡ false → Nothing a ts o
  nothing_read read_nothing n = (refl, refl)
  nothing_read (read_word h) n = cc
  nothing_read (no_word h) n = refl
  nothing_read (read_text h) n = cc
  nothing_read (no_text h) n = refl
  nothing_read (read_seq {a} {b} {ts} {us} {vs} r q) n =
      let m = nothing_read r (left_false (next ts) (first empty f a) (cond (nullable empty a) (first empty f b) []) n) in
      let k = nothing_read q (second a b ts us m.0 m.1 n) in
      (k.0 ∙ m.0, and_both (nullable empty a) (nullable empty b) m.1 k.1)
  nothing_read (late_seq {a} {b} {ts} {us} {vs} r q) n =
      let m = nothing_read r (left_false (next ts) (first empty f a) (cond (nullable empty a) (first empty f b) []) n) in
      nothing_read q (second a b ts us m.0 m.1 n) ∙ m.0
  nothing_read (no_seq {a} {b} {ts} r) n = nothing_read r (left_false (next ts) (first empty f a) (cond (nullable empty a) (first empty f b) []) n)
  nothing_read (read_left {a} {b} {ts} {o} h r) n = let m = left_false (next ts) (first empty f a) (first empty f b) n in cc
  nothing_read (read_right {a} {b} {ts} {o} h r) n = nothing_after b (alt a b) right ts o (λ i. or_right (nullable empty a) (nullable empty b) i) (nothing_read r (right_false (next ts) (first empty f a) (first empty f b) n))
  nothing_read (read_none h) n = (refl, refl)
  nothing_read (read_some h r) n = cc
  nothing_read (read_nil h) n = (refl, refl)
  nothing_read (read_cons h r q) n = cc
  nothing_read (late_cons h r q) n = cc
  nothing_read (no_cons h r) n = cc
  nothing_read (read_one {k} {a} {b} {ts} {o} r q h) n = nothing_after a (alt a b) left ts o (λ i. or_left (nullable empty a) (nullable empty b) i) (nothing_read r (left_false (next ts) (first empty f a) (first empty f b) n))
  nothing_read (read_other {k} {a} {b} {ts} {p} r q h) n = nothing_after b (alt a b) right ts p (λ i. or_right (nullable empty a) (nullable empty b) i) (nothing_read q (right_false (next ts) (first empty f a) (first empty f b) n))
  nothing_read (read_side {s} {ts} {rest} {t} used e r) n =
      let m = nothing_read r (part_false (next ts) (first empty f (rules s)) (f s) (ok.firsts s) n) in
      (m.0, implied (nullable empty (rules s)) (empty s) (ok.nulls s) m.1)
  nothing_read (no_side {s} {ts} r) n = nothing_read r (part_false (next ts) (first empty f (rules s)) (f s) (ok.firsts s) n)

  -- Sides at the front of the part pass the test.
  abbrev pub open_part : (S → Bool) → Part S → Bool
  open_part good nothing = true
  open_part good (word cs) = true
  open_part good (text cs) = true
  open_part good (seq a b) = open_part good a && implies (nullable empty a) (open_part good b)
  open_part good (alt a b) = open_part good b
  open_part good (opt a) = true
  open_part good (star a) = true
  open_part good (both k a b) = open_part good a && open_part good b
  open_part good (side s) = good s

  -- There, sides are at most n deep in one another.
  abbrev pub open_side : ℕ → S → Bool
  open_side zero s = false
  open_side (suc n) s = open_part (open_side n) (rules s)

  choose : (a b : Part S) (k : List ℕ) (ts : List Token) (o p : Outcome) → Reads rules empty f a ts o → Reads rules empty f b ts p → Nothing a ts o → Nothing b ts p → (q : Outcome) × Reads rules empty f (both k a b) ts q
  choose a b k ts (found t us) p r q n m = (_, read_one r q (inr (ap length n.0 ∙ sym (ap length (left_over p m)), λ x. tt)))
    where
      left_over : (p : Outcome) → Nothing b ts p → rest_of p ≡ ts
      left_over (found u vs) m = m.0
      left_over (fault vs) m = m
  choose a b k ts (fault us) (found u vs) r q n m = (_, read_other r q (inr (ap length m.0 ∙ sym (ap length n), λ x. tt)))
  choose a b k ts (fault us) (fault vs) r q n m = (_, read_one r q (inr (ap length n ∙ sym (ap length m), λ x. x)))

  module _ (good : S → Bool) (sure : (s : S) (ts : List Token) → good s ≡ true → elem (next ts) (f s) ≡ false → (o : Outcome) × Reads rules empty f (side s) ts o) where
    part_read : (a : Part S) (ts : List Token) → open_part good a ≡ true → elem (next ts) (first empty f a) ≡ false → (o : Outcome) × Reads rules empty f a ts o
    part_read nothing ts h n = (_, read_nothing)
    part_read (word cs) ts h n = (_, no_word n)
    part_read (text cs) ts h n = (_, no_text n)
    part_read (seq a b) ts h n =
        let p = and_true (open_part good a) (implies (nullable empty a) (open_part good b)) h in
        let m = left_false (next ts) (first empty f a) (cond (nullable empty a) (first empty f b) []) n in
        let r = part_read a ts p.0 m in
        go r.0 r.1 (nothing_read r.1 m) p.1 (λ us e i. part_read b us (implied (nullable empty a) (open_part good b) p.1 i) (second a b ts us e i n))
      where
        go : (o : Outcome) → Reads rules empty f a ts o → Nothing a ts o → implies (nullable empty a) (open_part good b) ≡ true
            → ((us : List Token) → us ≡ ts → nullable empty a ≡ true → (o : Outcome) × Reads rules empty f b us o) → (o : Outcome) × Reads rules empty f (seq a b) ts o
        go (found t us) r n i next_part = let q = next_part us n.0 n.1 in then_part q.0 q.1
          where
            then_part : (o : Outcome) → Reads rules empty f b us o → (o : Outcome) × Reads rules empty f (seq a b) ts o
            then_part (found u vs) q = (_, read_seq r q)
            then_part (fault vs) q = (_, late_seq r q)
        go (fault us) r n i next_part = (_, no_seq r)
    part_read (alt a b) ts h n = let r = part_read b ts h (right_false (next ts) (first empty f a) (first empty f b) n) in (_, read_right (left_false (next ts) (first empty f a) (first empty f b) n) r.1)
    part_read (opt a) ts h n = (_, read_none n)
    part_read (star a) ts h n = (_, read_nil n)
    part_read (both k a b) ts h n =
        let p = and_true (open_part good a) (open_part good b) h in
        let na = left_false (next ts) (first empty f a) (first empty f b) n in
        let nb = right_false (next ts) (first empty f a) (first empty f b) n in
        let r = part_read a ts p.0 na in
        let q = part_read b ts p.1 nb in
        choose a b k ts r.0 q.0 r.1 q.1 (nothing_read r.1 na) (nothing_read q.1 nb)
    part_read (side s) ts h n = sure s ts h n

  -- such a side is read, and by the law above nothing of it
  pub side_read : (n : ℕ) (s : S) (ts : List Token) → open_side n s ≡ true → elem (next ts) (f s) ≡ false → (o : Outcome) × Reads rules empty f (side s) ts o
  side_read zero s ts h n = cc
  side_read (suc m) s ts h n =
      let e = part_false (next ts) (first empty f (rules s)) (f s) (ok.firsts s) n in
      let r = part_read (open_side m) (side_read m) (rules s) ts h e in
      by_outcome r.0 r.1 (nothing_read r.1 e)
    where
      by_outcome : (o : Outcome) → Reads rules empty f (rules s) ts o → Nothing (rules s) ts o → (o : Outcome) × Reads rules empty f (side s) ts o
      by_outcome (found t us) r n = (_, read_side [] (sym n.0) r)
      by_outcome (fault us) r n = (_, no_side r)

  -- a part that may not be empty is not read where it can't begin with the next token
  pub not_read : (n : ℕ) (a : Part S) {ts : List Token} → open_part (open_side n) a ≡ true → nullable empty a ≡ false → elem (next ts) (first empty f a) ≡ false → Reads rules empty f a ts (fault ts)
  not_read n a {ts} h i e = let r = part_read (open_side n) (side_read n) a ts h e in by_outcome r.0 r.1 (nothing_read r.1 e)
    where
      by_outcome : (o : Outcome) → Reads rules empty f a ts o → Nothing a ts o → Reads rules empty f a ts (fault ts)
      by_outcome (found t us) r m = let never = m.1 in cc
      by_outcome (fault us) r m = subst (λ w. Reads rules empty f a ts (fault w)) m r
