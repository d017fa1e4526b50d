-- What is read by a checked grammar is the longest viable prefix.
use Rattle.std.proofs.Common.{◌≡◌, ℕ, ◌≤◌, Bool, true, false, not, ◌&&◌, cond, List, [], ◌∷◌, ◌++◌, length, refl, sym, ap, subst, ◌∙◌, arith, ◌⊎◌, inl, inr, append_assoc, length-append}
use Rattle.std.proofs.lemmas.List.{append-nil}
use Rattle.std.specs.Prelude.{◌==◌}
use Rattle.std.proofs.lemmas.Bool.{eq-eqb}
use Rattle.sv_grammar.specs.Grammar.{Token, Part, nothing, word, text, seq, alt, opt, star, both, side, Tree, unit, leaf, pair, left, right, none, some, nil, cons, node, Derives, nothing_is, word_is, text_is, seq_is, left_is, right_is, none_is, some_is, nil_is, cons_is, one_is, other_is, side_is, Begins, elem, extent_of}
use Rattle.sv_grammar.specs.Reading.{Outcome, found, fault, Stops, Exact, disjoint, cont, fine, is_filled, nullable, first, next, rest_of, Beats, after, AllApart, Reads, read_nothing, read_word, no_word, read_text, no_text, read_seq, late_seq, no_seq, read_left, read_right, read_none, read_some, read_nil, read_cons, late_cons, no_cons, read_one, read_other, read_side, no_side}
use Rattle.sv_grammar.proofs.Sets.{and_true, or_true, or_left, not_true, elem_either, if_so, not_in, elem-disjoint, Cut, same, further, nearer, cut, not_empty, empty_two}
use Rattle.sv_grammar.proofs.Theory.{Checked, Fine, seq_fine, alt_fine, opt_fine, star_fine, both_fine, apart_left, apart_right, nullable_if, first_if, meets, elem_along}

-- a token of each class, whatever it says
abbrev pub of_class : ℕ → Token
of_class n = record { class = n; text = []; extent = record { from = 0; to = 0; line = 1; column = 1 } }

-- a class of a list that has one
pub sample : (cs : List ℕ) → is_filled cs ≡ true → (n : ℕ) × (elem n cs ≡ true)
sample [] h = cc
sample (c ∷ cs) h = (c, or_left (c == c) (elem c cs) (eq-eqb c c refl))

-- each side derives something, none where the table says so, and goes on after each token that the tables say it begins with
pub record Live {S : Type 0} (rules : S → Part S) (empty : S → Bool) (f : S → List ℕ) : Type 0 where
  pub made : (s : S) → Begins rules (side s) []
  pub empties : (s : S) → empty s ≡ true → (t : Tree) × Derives rules (side s) [] t
  pub starts : (s : S) (k : Token) → elem k.class (f s) ≡ true → Begins rules (side s) (k ∷ [])

module _ {S : Type 0} (rules : S → Part S) where
  -- tokens that two parts in a row derive
  pub record Pairs (a b : Part S) (zs : List Token) : Type 0 where
    pub xs : List Token
    pub ys : List Token
    pub t : Tree
    pub u : Tree
    pub whole : zs ≡ xs ++ ys
    pub here : Derives rules a xs t
    pub there : Derives rules b ys u

  pub of_seq : {a b : Part S} {zs : List Token} {t : Tree} → Derives rules (seq a b) zs t → Pairs a b zs
  of_seq (seq_is {xs} {ys} {t} {u} d k) = record { xs = xs; ys = ys; t = t; u = u; whole = refl; here = d; there = k }

  pub of_star : {a : Part S} {zs : List Token} {t : Tree} → Derives rules (star a) zs t → (zs ≡ []) ⊎ Pairs a (star a) zs
  of_star nil_is = inl refl
  of_star (cons_is {xs} {ys} {t} {u} d k) = inr (record { xs = xs; ys = ys; t = t; u = u; whole = refl; here = d; there = k })

  abbrev pub DerivesSome : Part S → List Token → Type 0
  DerivesSome a xs = (t : Tree) × Derives rules a xs t

  pub of_alt : {a b : Part S} {zs : List Token} {t : Tree} → Derives rules (alt a b) zs t → DerivesSome a zs ⊎ DerivesSome b zs
  of_alt (left_is {t} d) = inl (t, d)
  of_alt (right_is {t} d) = inr (t, d)

  pub of_both : {k : List ℕ} {a b : Part S} {zs : List Token} {t : Tree} → Derives rules (both k a b) zs t → DerivesSome a zs ⊎ DerivesSome b zs
  of_both (one_is {t} d) = inl (t, d)
  of_both (other_is {t} d) = inr (t, d)

  pub of_opt : {a : Part S} {zs : List Token} {t : Tree} → Derives rules (opt a) zs t → (zs ≡ []) ⊎ DerivesSome a zs
  of_opt none_is = inl refl
  of_opt (some_is {t} d) = inr (t, d)

  pub of_word : {cs : List ℕ} {zs : List Token} {t : Tree} → Derives rules (word cs) zs t → (k : Token) × (zs ≡ k ∷ []) × (elem k.class cs ≡ true)
  of_word (word_is {k} h) = (k, refl, h)

  pub of_text : {cs : List ℕ} {zs : List Token} {t : Tree} → Derives rules (text cs) zs t → (k : Token) × (zs ≡ k ∷ []) × (elem k.class cs ≡ true)
  of_text (text_is {k} h) = (k, refl, h)

  pub of_side : {s : S} {zs : List Token} {t : Tree} → Derives rules (side s) zs t → (u : Tree) × Derives rules (rules s) zs u
  of_side (side_is {t} d) = (t, d)

  pub along : (a : Part S) {xs ys : List Token} {t : Tree} → xs ≡ ys → Derives rules a xs t → Derives rules a ys t
  along a {t} e d = subst (λ zs. Derives rules a zs t) e d

  -- what begins with more begins with less
  pub less : (a : Part S) (xs ys : List Token) → Begins rules a (xs ++ ys) → Begins rules a xs
  less a xs ys b = (ys ++ b.0, b.1, along a (append_assoc xs ys b.0) b.2)

  pub nullable_has : {empty : S → Bool} → ((s : S) → empty s ≡ true → DerivesSome (side s) []) → (a : Part S) → nullable empty a ≡ true → DerivesSome a []
  nullable_has has nothing h = (unit, nothing_is)
  nullable_has has (word n) h = cc
  nullable_has has (text n) h = cc
  nullable_has {empty} has (seq a b) h = let p = and_true (nullable empty a) (nullable empty b) h in let d = nullable_has has a p.0 in let k = nullable_has has b p.1 in (pair d.0 k.0, seq_is d.1 k.1)
  nullable_has {empty} has (alt a b) h = elim (or_true (nullable empty a) (nullable empty b) h) [ inl e ↦ (let d = nullable_has has a e in (left d.0, left_is d.1)) | inr e ↦ (let d = nullable_has has b e in (right d.0, right_is d.1)) ]
  nullable_has has (opt a) h = (none, none_is)
  nullable_has has (star a) h = (nil, nil_is)
  nullable_has {empty} has (both k a b) h = elim (or_true (nullable empty a) (nullable empty b) h) [ inl e ↦ (let d = nullable_has has a e in (left d.0, one_is d.1)) | inr e ↦ (let d = nullable_has has b e in (right d.0, other_is d.1)) ]
  nullable_has has (side s) h = has s h

  pub then_some : (a b : Part S) (xs : List Token) → Begins rules a xs → Begins rules b [] → Begins rules (seq a b) xs
  then_some a b xs p q = (p.0 ++ q.0, pair p.1 q.1, along (seq a b) (append_assoc xs p.0 q.0) (seq_is p.2 q.2))

  pub word_made : (cs : List ℕ) → is_filled cs ≡ true → Begins rules (word cs) []
  word_made cs h = let k = sample cs h in (of_class k.0 ∷ [], unit, word_is k.1)

  pub text_made : (cs : List ℕ) → is_filled cs ≡ true → Begins rules (text cs) []
  text_made cs h = let k = sample cs h in (of_class k.0 ∷ [], leaf [], text_is k.1)

  module _ (empty : S → Bool) (f c : S → List ℕ) (made : (s : S) → Begins rules (side s) []) where
    pub made_in : (a : Part S) → fine empty f c a ≡ true → Begins rules a []
    made_in nothing h = ([], unit, nothing_is)
    made_in (word cs) h = word_made cs h
    made_in (text cs) h = text_made cs h
    made_in (seq a b) h =
        let p = and_true (fine empty f c a) (fine empty f c b && disjoint (cont empty f c a) (first empty f b)) h in
        let q = and_true (fine empty f c b) (disjoint (cont empty f c a) (first empty f b)) p.1 in
        then_some a b [] (made_in a p.0) (made_in b q.0)
    made_in (alt a b) h = let d = made_in a (and_true (fine empty f c a) _ h).0 in (d.0, left d.1, left_is d.2)
    made_in (opt a) h = ([], none, none_is)
    made_in (star a) h = ([], nil, nil_is)
    made_in (both k a b) h = let d = made_in a (and_true (fine empty f c a) _ h).0 in (d.0, left d.1, one_is d.2)
    made_in (side s) h = made s

heads_alike : (ub us vs : List Token) (x : Token) (more mr : List Token) → us ≡ ub ++ vs → vs ≡ x ∷ more → (z : Token) (m : List Token) → ub ++ x ∷ mr ≡ z ∷ m → (n : List Token) × (us ≡ z ∷ n)
heads_alike [] us vs x more mr e g z m h = let same_z : x ≡ z = cc in (more, e ∙ g ∙ ap (λ k. k ∷ more) same_z)
heads_alike (q ∷ qs) us vs x more mr e g z m h = let same_z : q ≡ z = cc in (qs ++ vs, e ∙ ap (λ k. k ∷ (qs ++ vs)) same_z)

module _ {S : Type 0} {rules : S → Part S} {empty : S → Bool} {g : S → List ℕ} (live : Live rules empty g) (f c : S → List ℕ) where
  pub begins_in_first : (a : Part S) → fine empty f c a ≡ true → (k : Token) → elem k.class (first empty g a) ≡ true → Begins rules a (k ∷ [])
  begins_in_first nothing w k h = cc
  begins_in_first (word cs) w k h = ([], unit, word_is h)
  begins_in_first (text cs) w k h = ([], leaf k.text, text_is h)
  begins_in_first (seq a b) w k h =
      let p = and_true (fine empty f c a) (fine empty f c b && disjoint (cont empty f c a) (first empty f b)) w in
      let q = and_true (fine empty f c b) (disjoint (cont empty f c a) (first empty f b)) p.1 in
      elim (elem_either k.class (first empty g a) (cond (nullable empty a) (first empty g b) []) h) [
        | inl e ↦ then_some rules a b (k ∷ []) (begins_in_first a p.0 k e) (made_in rules empty f c live.made b q.0)
        | inr e ↦ (let r = if_so (nullable empty a) k.class (first empty g b) e in let d = nullable_has rules live.empties a r.0 in let t = begins_in_first b q.0 k r.1 in (t.0, pair d.0 t.1, seq_is d.1 t.2))
      ]
  begins_in_first (alt a b) w k h =
      let p = and_true (fine empty f c a) (fine empty f c b && (disjoint (first empty f a) (first empty f b) && (not (nullable empty a) && not (nullable empty b)))) w in
      elim (elem_either k.class (first empty g a) (first empty g b) h) [
        | inl e ↦ (let q = begins_in_first a p.0 k e in (q.0, left q.1, left_is q.2))
        | inr e ↦ (let q = begins_in_first b (and_true (fine empty f c b) _ p.1).0 k e in (q.0, right q.1, right_is q.2))
      ]
  begins_in_first (opt a) w k h = let q = begins_in_first a (and_true (fine empty f c a) _ w).0 k h in (q.0, some q.1, some_is q.2)
  begins_in_first (star a) w k h = let q = begins_in_first a (and_true (fine empty f c a) _ w).0 k h in (q.0, cons q.1 nil, along rules (star a) (append-nil (k ∷ q.0)) (cons_is q.2 nil_is))
  begins_in_first (both cs a b) w k h =
      let p = and_true (fine empty f c a) (fine empty f c b) w in
      elim (elem_either k.class (first empty g a) (first empty g b) h) [
        | inl e ↦ (let q = begins_in_first a p.0 k e in (q.0, left q.1, one_is q.2))
        | inr e ↦ (let q = begins_in_first b p.1 k e in (q.0, right q.1, other_is q.2))
      ]
  begins_in_first (side s) w k h = live.starts s k h

module _ {S : Type 0} {rules : S → Part S} {empty : S → Bool} {f c l : S → List ℕ} (ok : Checked rules empty f c l) (live : Live rules empty f) (all_apart : (s : S) → AllApart rules (rules s)) where
  -- a token ahead tells what to do, but where both ways are read, and these are apart
  abbrev pub Good : Part S → Type 0
  Good a = Fine ok a × AllApart rules a

  seq_good : (a b : Part S) → Good (seq a b) → Good a × Good b × (disjoint (cont empty f c a) (first empty f b) ≡ true)
  seq_good a b h = let p = seq_fine ok a b h.0 in ((p.0, apart_left rules a b h.1), (p.1, apart_right rules a b h.1), p.2)

  alt_good : (a b : Part S) → Good (alt a b) → Good a × Good b × (disjoint (first empty f a) (first empty f b) ≡ true) × (not (nullable empty a) ≡ true) × (not (nullable empty b) ≡ true)
  alt_good a b h = let p = alt_fine ok a b h.0 in ((p.0, apart_left rules a b h.1), (p.1, apart_right rules a b h.1), p.2, p.3, p.4)

  both_good : (k : List ℕ) (a b : Part S) → Good (both k a b) → Good a × Good b
  both_good k a b h = let p = both_fine ok k a b h.0 in ((p.0, apart_left rules a b h.1.1), (p.1, apart_right rules a b h.1.1))

  seq_cut : (a b : Part S) (ua us more v xs ys : List Token) {tu t u : Tree}
      → Good a → disjoint (cont empty f c a) (first empty f b) ≡ true
      → Derives rules a (ua ++ more) tu → Stops rules a ua us
      → ((z : Token) (m : List Token) → v ≡ z ∷ m → (n : List Token) × (us ≡ z ∷ n))
      → Derives rules a xs t → Derives rules b ys u → xs ++ ys ≡ ua ++ v → (xs ≡ ua) × (ys ≡ v)
  seq_cut a b ua us more v xs ys h apart du stops heads dx dy e = by_cut (cut xs ys ua v e)
    where
      by_cut : Cut xs ys ua v → (xs ≡ ua) × (ys ≡ v)
      by_cut (same g k) = (g, k)
      by_cut (further z m g k) =
          let far = (meets ok all_apart dx du h.0 h.1).0 z (m ++ more) (ap (λ w. w ++ more) g ∙ append_assoc xs (z ∷ m) more) in
          absurd (elem-disjoint z.class (cont empty f c a) (first empty f b) apart far (first_if ok dy z (m ++ v) k))
      by_cut (nearer z m g k) =
          let n = heads z (m ++ ys) k in
          absurd (stops z n.0 n.1 (m, _, along rules a (g ∙ sym (append_assoc ua (z ∷ []) m)) dx))

  later_stops : (a b : Part S) (ua us ub vs : List Token) {ta : Tree}
      → Good a → disjoint (cont empty f c a) (first empty f b) ≡ true
      → Derives rules a ua ta → Stops rules a ua us → us ≡ ub ++ vs → Stops rules b ub vs
      → (x : Token) (more : List Token) → vs ≡ x ∷ more → (mr : List Token) → Pairs rules a b (((ua ++ ub) ++ x ∷ []) ++ mr) → ⊥
  later_stops a b ua us ub vs h apart da stops_a e stops_b x more g mr p =
      let whole = sym p.whole ∙ append_assoc (ua ++ ub) (x ∷ []) mr ∙ append_assoc ua ub (x ∷ mr) in
      let q = seq_cut a b ua us [] (ub ++ x ∷ mr) p.xs p.ys h apart (along rules a (sym (append-nil ua)) da) stops_a (heads_alike ub us vs x more mr e g) p.here p.there whole in
      stops_b x more g (mr, p.u, along rules b (q.1 ∙ sym (append_assoc ub (x ∷ []) mr)) p.there)

  later_under : (a b : Part S) (ua us ub vs : List Token) {ta : Tree}
      → Good a → disjoint (cont empty f c a) (first empty f b) ≡ true
      → Derives rules a ua ta → Stops rules a ua us → us ≡ ub ++ vs → ((t : Tree) → Derives rules b ub t → ⊥)
      → Pairs rules a b (ua ++ ub) → ⊥
  later_under a b ua us ub vs h apart da stops_a e under p =
      let q = seq_cut a b ua us [] ub p.xs p.ys h apart (along rules a (sym (append-nil ua)) da) stops_a (λ z m g. (m ++ vs, e ∙ ap (λ w. w ++ vs) g)) p.here p.there (sym p.whole) in
      under p.u (along rules b q.1 p.there)

  early_stops : (a b : Part S) (ua us : List Token)
      → Good a → disjoint (cont empty f c a) (first empty f b) ≡ true
      → Begins rules a ua → ((t : Tree) → Derives rules a ua t → ⊥) → Stops rules a ua us
      → (x : Token) (more : List Token) → us ≡ x ∷ more → (mr : List Token) → Pairs rules a b ((ua ++ x ∷ []) ++ mr) → ⊥
  early_stops a b ua us h apart begins under stops x more g mr p =
      let whole = sym p.whole ∙ append_assoc ua (x ∷ []) mr in
      let q = seq_cut a b ua us begins.0 (x ∷ mr) p.xs p.ys h apart begins.2 stops (heads_alike [] us us x more mr refl g) p.here p.there whole in
      under p.t (along rules a q.0 p.here)

  early_under : (a b : Part S) (ua us : List Token)
      → Good a → disjoint (cont empty f c a) (first empty f b) ≡ true
      → Begins rules a ua → ((t : Tree) → Derives rules a ua t → ⊥) → Stops rules a ua us
      → Pairs rules a b ua → ⊥
  early_under a b ua us h apart begins under stops p =
      let q = seq_cut a b ua us begins.0 [] p.xs p.ys h apart begins.2 stops (λ z m g. cc) p.here p.there (sym p.whole ∙ sym (append-nil ua)) in
      under p.t (along rules a q.0 p.here)

  abbrev Ex : Part S → List Token → Outcome → Type 0
  Ex a ts o = Exact rules a ts o

  -- a beginning of the tokens that has one more token than those that were read
  more_of : (ua us ts : List Token) (x : Token) (more : List Token) → ts ≡ ua ++ us → us ≡ x ∷ more → ts ≡ ua ++ x ∷ more
  more_of ua us ts x more e g = e ∙ ap (λ w. ua ++ w) g

  -- what begins as the tokens do begins with their first
  next_of : (ua : List Token) (x : Token) (mr ts more : List Token) → ts ≡ ua ++ x ∷ more → (k : Token) × (w : List Token) × (((ua ++ x ∷ []) ++ mr) ≡ k ∷ w) × (next ts ≡ k.class)
  next_of [] x mr ts more e = (x, mr, refl, ap next e)
  next_of (q ∷ qs) x mr ts more e = (q, (qs ++ x ∷ []) ++ mr, refl, ap next e)

  next_in : (ua : List Token) (ts us : List Token) → ts ≡ ua ++ us → (ua ≡ []) ⊎ ((k : Token) × (w : List Token) × (ua ≡ k ∷ w) × (next ts ≡ k.class))
  next_in [] ts us e = inl refl
  next_in (q ∷ qs) ts us e = inr (q, qs, refl, ap next e)

  not_both : {b : Bool} → b ≡ true → b ≡ false → ⊥
  not_both h k = cc

  word_exact : (cs : List ℕ) (k : Token) (ts : List Token) → elem k.class cs ≡ true → Ex (word cs) (k ∷ ts) (found unit ts)
  word_exact cs k ts h = record { used = k ∷ []; whole = refl; derived = word_is h; stops = λ x more g b. (let p = of_word rules b.2 in not_empty [] x b.0 (cc p.1)) }

  text_exact : (cs : List ℕ) (k : Token) (ts : List Token) → elem k.class cs ≡ true → Ex (text cs) (k ∷ ts) (found (leaf k.text) ts)
  text_exact cs k ts h = record { used = k ∷ []; whole = refl; derived = text_is h; stops = λ x more g b. (let p = of_text rules b.2 in not_empty [] x b.0 (cc p.1)) }

  no_word_exact : (cs : List ℕ) (ts : List Token) → is_filled cs ≡ true → elem (next ts) cs ≡ false → Ex (word cs) ts (fault ts)
  no_word_exact cs ts n h = record {
    used = [];
    whole = refl;
    begins = word_made rules cs n;
    underived = λ t d. (let p = of_word rules d in cc p.1);
    stops = λ x more g b. (let p = of_word rules b.2 in let same_k : x ≡ p.0 = cc p.1 in not_both (elem_along cs (ap (λ k. k.class) (sym same_k) ∙ sym (ap next g)) p.2) h);
  }

  no_text_exact : (cs : List ℕ) (ts : List Token) → is_filled cs ≡ true → elem (next ts) cs ≡ false → Ex (text cs) ts (fault ts)
  no_text_exact cs ts n h = record {
    used = [];
    whole = refl;
    begins = text_made rules cs n;
    underived = λ t d. (let p = of_text rules d in cc p.1);
    stops = λ x more g b. (let p = of_text rules b.2 in let same_k : x ≡ p.0 = cc p.1 in not_both (elem_along cs (ap (λ k. k.class) (sym same_k) ∙ sym (ap next g)) p.2) h);
  }

  seq_exact : (a b : Part S) {ts us vs : List Token} {t u : Tree} → Good a → disjoint (cont empty f c a) (first empty f b) ≡ true
      → Ex a ts (found t us) → Ex b us (found u vs) → Ex (seq a b) ts (found (pair t u) vs)
  seq_exact a b {ts} {us} {vs} h apart p q = record {
    used = p.used ++ q.used;
    whole = p.whole ∙ ap (λ w. p.used ++ w) q.whole ∙ sym (append_assoc p.used q.used vs);
    derived = seq_is p.derived q.derived;
    stops = λ x more g d. later_stops a b p.used us q.used vs h apart p.derived p.stops q.whole q.stops x more g d.0 (of_seq rules d.2);
  }

  late_seq_exact : (a b : Part S) {ts us vs : List Token} {t : Tree} → Good a → disjoint (cont empty f c a) (first empty f b) ≡ true
      → Ex a ts (found t us) → Ex b us (fault vs) → Ex (seq a b) ts (fault vs)
  late_seq_exact a b {ts} {us} {vs} h apart p q = record {
    used = p.used ++ q.used;
    whole = p.whole ∙ ap (λ w. p.used ++ w) q.whole ∙ sym (append_assoc p.used q.used vs);
    begins = (q.begins.0, pair _ q.begins.1, along rules (seq a b) (sym (append_assoc p.used q.used q.begins.0)) (seq_is p.derived q.begins.2));
    underived = λ t d. later_under a b p.used us q.used vs h apart p.derived p.stops q.whole q.underived (of_seq rules d);
    stops = λ x more g d. later_stops a b p.used us q.used vs h apart p.derived p.stops q.whole q.stops x more g d.0 (of_seq rules d.2);
  }

  no_seq_exact : (a b : Part S) {ts us : List Token} → Good a → Fine ok b → disjoint (cont empty f c a) (first empty f b) ≡ true
      → Ex a ts (fault us) → Ex (seq a b) ts (fault us)
  no_seq_exact a b {ts} {us} h fine_b apart p = record {
    used = p.used;
    whole = p.whole;
    begins = then_some rules a b p.used p.begins (made_in rules empty f c live.made b fine_b);
    underived = λ t d. early_under a b p.used us h apart p.begins p.underived p.stops (of_seq rules d);
    stops = λ x more g d. early_stops a b p.used us h apart p.begins p.underived p.stops x more g d.0 (of_seq rules d.2);
  }

  -- a part that can't begin with the next token derives nothing here
  other_stops : (b : Part S) (ua ts us : List Token) → elem (next ts) (first empty f b) ≡ false → ts ≡ ua ++ us
      → (x : Token) (more : List Token) → us ≡ x ∷ more → Begins rules b (ua ++ x ∷ []) → ⊥
  other_stops b ua ts us h e x more g d =
      let n = next_of ua x d.0 ts more (more_of ua us ts x more e g) in
      not_both (ap (λ k. elem k (first empty f b)) n.3 ∙ first_if ok d.2 n.0 n.1 n.2) h

  other_under : (b : Part S) (ua ts us : List Token) {t : Tree} → elem (next ts) (first empty f b) ≡ false → not (nullable empty b) ≡ true → ts ≡ ua ++ us → Derives rules b ua t → ⊥
  other_under b ua ts us h nb e d = elim (next_in ua ts us e) [
    | inl g ↦ not_true (nullable empty b) nb (nullable_if ok d g)
    | inr n ↦ not_both (ap (λ k. elem k (first empty f b)) n.3 ∙ first_if ok d n.0 n.1 n.2) h
  ]

  left_exact : (a b : Part S) (ts : List Token) (o : Outcome) → elem (next ts) (first empty f b) ≡ false → not (nullable empty b) ≡ true → Ex a ts o → Ex (alt a b) ts (after left o)
  left_exact a b ts (found t us) h nb p = record {
    used = p.used;
    whole = p.whole;
    derived = left_is p.derived;
    stops = λ x more g d. elim (of_alt rules d.2) [ inl k ↦ p.stops x more g (d.0, k.0, k.1) | inr k ↦ other_stops b p.used ts us h p.whole x more g (d.0, k.0, k.1) ];
  }
  left_exact a b ts (fault us) h nb p = record {
    used = p.used;
    whole = p.whole;
    begins = (p.begins.0, left p.begins.1, left_is p.begins.2);
    underived = λ t d. elim (of_alt rules d) [ inl k ↦ p.underived k.0 k.1 | inr k ↦ other_under b p.used ts us h nb p.whole k.1 ];
    stops = λ x more g d. elim (of_alt rules d.2) [ inl k ↦ p.stops x more g (d.0, k.0, k.1) | inr k ↦ other_stops b p.used ts us h p.whole x more g (d.0, k.0, k.1) ];
  }

  right_exact : (a b : Part S) (ts : List Token) (o : Outcome) → elem (next ts) (first empty f a) ≡ false → not (nullable empty a) ≡ true → Ex b ts o → Ex (alt a b) ts (after right o)
  right_exact a b ts (found t us) h na p = record {
    used = p.used;
    whole = p.whole;
    derived = right_is p.derived;
    stops = λ x more g d. elim (of_alt rules d.2) [ inr k ↦ p.stops x more g (d.0, k.0, k.1) | inl k ↦ other_stops a p.used ts us h p.whole x more g (d.0, k.0, k.1) ];
  }
  right_exact a b ts (fault us) h na p = record {
    used = p.used;
    whole = p.whole;
    begins = (p.begins.0, right p.begins.1, right_is p.begins.2);
    underived = λ t d. elim (of_alt rules d) [ inr k ↦ p.underived k.0 k.1 | inl k ↦ other_under a p.used ts us h na p.whole k.1 ];
    stops = λ x more g d. elim (of_alt rules d.2) [ inr k ↦ p.stops x more g (d.0, k.0, k.1) | inl k ↦ other_stops a p.used ts us h p.whole x more g (d.0, k.0, k.1) ];
  }

  -- where the next token may begin a part, reading it does not stop before that token
  goes_on : (a : Part S) (ts : List Token) → Fine ok a → elem (next ts) (first empty f a) ≡ true → not (elem 0 (first empty f a)) ≡ true → Stops rules a [] ts → ⊥
  goes_on a [] w h nz stops = not_true (elem 0 (first empty f a)) nz h
  goes_on a (k ∷ ks) w h nz stops = stops k ks refl (begins_in_first live f c a w k h)

  some_exact : (a : Part S) (ts : List Token) (o : Outcome) → Fine ok a → elem (next ts) (first empty f a) ≡ true → not (nullable empty a) ≡ true → not (elem 0 (first empty f a)) ≡ true → Ex a ts o → Ex (opt a) ts (after some o)
  some_exact a ts (found t us) w h na nz p = record {
    used = p.used;
    whole = p.whole;
    derived = some_is p.derived;
    stops = λ x more g d. elim (of_opt rules d.2) [ inl e ↦ not_empty p.used x d.0 (sym e ∙ append_assoc p.used (x ∷ []) d.0) | inr k ↦ p.stops x more g (d.0, k.0, k.1) ];
  }
  some_exact a ts (fault us) w h na nz p = record {
    used = p.used;
    whole = p.whole;
    begins = (p.begins.0, some p.begins.1, some_is p.begins.2);
    underived = λ t d. elim (of_opt rules d) [
      | inl e ↦ goes_on a ts w h nz (let Q : Stops rules a [] us = subst (λ u. Stops rules a u us) e p.stops in let same_ts : us ≡ ts = sym (p.whole ∙ ap (λ u. u ++ us) e) in subst (λ v. Stops rules a [] v) same_ts Q)
      | inr k ↦ p.underived k.0 k.1
    ];
    stops = λ x more g d. elim (of_opt rules d.2) [ inl e ↦ not_empty p.used x d.0 (sym e ∙ append_assoc p.used (x ∷ []) d.0) | inr k ↦ p.stops x more g (d.0, k.0, k.1) ];
  }

  none_exact : (a : Part S) (ts : List Token) → elem (next ts) (first empty f a) ≡ false → Ex (opt a) ts (found none ts)
  none_exact a ts h = record {
    used = [];
    whole = refl;
    derived = none_is;
    stops = λ x more g d. elim (of_opt rules d.2) [ inl e ↦ cc e | inr k ↦ other_stops a [] ts ts h refl x more g (d.0, k.0, k.1) ];
  }

  nil_exact : (a : Part S) (ts : List Token) → elem (next ts) (first empty f a) ≡ false → Ex (star a) ts (found nil ts)
  nil_exact a ts h = record {
    used = [];
    whole = refl;
    derived = nil_is;
    stops = λ x more g d. other_stops (star a) [] ts ts h refl x more g d;
  }

  cons_exact : (a : Part S) {ts us vs : List Token} {t u : Tree} → Good a → disjoint (cont empty f c a) (first empty f a) ≡ true
      → Ex a ts (found t us) → Ex (star a) us (found u vs) → Ex (star a) ts (found (cons t u) vs)
  cons_exact a {ts} {us} {vs} h apart p q = record {
    used = p.used ++ q.used;
    whole = p.whole ∙ ap (λ w. p.used ++ w) q.whole ∙ sym (append_assoc p.used q.used vs);
    derived = cons_is p.derived q.derived;
    stops = λ x more g d. elim (of_star rules d.2) [
      | inl e ↦ not_empty (p.used ++ q.used) x d.0 (sym e ∙ append_assoc (p.used ++ q.used) (x ∷ []) d.0)
      | inr k ↦ later_stops a (star a) p.used us q.used vs h apart p.derived p.stops q.whole q.stops x more g d.0 k
    ];
  }

  late_cons_exact : (a : Part S) {ts us vs : List Token} {t : Tree} → Good a → disjoint (cont empty f c a) (first empty f a) ≡ true → not (nullable empty a) ≡ true
      → Ex a ts (found t us) → Ex (star a) us (fault vs) → Ex (star a) ts (fault vs)
  late_cons_exact a {ts} {us} {vs} h apart na p q = record {
    used = p.used ++ q.used;
    whole = p.whole ∙ ap (λ w. p.used ++ w) q.whole ∙ sym (append_assoc p.used q.used vs);
    begins = (q.begins.0, cons _ q.begins.1, along rules (star a) (sym (append_assoc p.used q.used q.begins.0)) (cons_is p.derived q.begins.2));
    underived = λ t d. elim (of_star rules d) [
      | inl e ↦ not_true (nullable empty a) na (nullable_if ok p.derived (empty_two p.used q.used e).0)
      | inr k ↦ later_under a (star a) p.used us q.used vs h apart p.derived p.stops q.whole q.underived k
    ];
    stops = λ x more g d. elim (of_star rules d.2) [
      | inl e ↦ not_empty (p.used ++ q.used) x d.0 (sym e ∙ append_assoc (p.used ++ q.used) (x ∷ []) d.0)
      | inr k ↦ later_stops a (star a) p.used us q.used vs h apart p.derived p.stops q.whole q.stops x more g d.0 k
    ];
  }

  no_cons_exact : (a : Part S) {ts us : List Token} → Good a → disjoint (cont empty f c a) (first empty f a) ≡ true → elem (next ts) (first empty f a) ≡ true → not (elem 0 (first empty f a)) ≡ true
      → Ex a ts (fault us) → Ex (star a) ts (fault us)
  no_cons_exact a {ts} {us} h apart hd nz p = record {
    used = p.used;
    whole = p.whole;
    begins = (p.begins.0, cons p.begins.1 nil, along rules (star a) (append-nil (p.used ++ p.begins.0)) (cons_is p.begins.2 nil_is));
    underived = λ t d. elim (of_star rules d) [
      | inl e ↦ goes_on a ts h.0 hd nz (let Q : Stops rules a [] us = subst (λ u. Stops rules a u us) e p.stops in let same_ts : us ≡ ts = sym (p.whole ∙ ap (λ u. u ++ us) e) in subst (λ v. Stops rules a [] v) same_ts Q)
      | inr k ↦ early_under a (star a) p.used us h apart p.begins p.underived p.stops k
    ];
    stops = λ x more g d. elim (of_star rules d.2) [
      | inl e ↦ not_empty p.used x d.0 (sym e ∙ append_assoc p.used (x ∷ []) d.0)
      | inr k ↦ early_stops a (star a) p.used us h apart p.begins p.underived p.stops x more g d.0 k
    ];
  }

  reached : (b : Part S) (ts : List Token) (p : Outcome) → Ex b ts p → (ub : List Token) × (ts ≡ ub ++ rest_of p) × Stops rules b ub (rest_of p)
  reached b ts (found t us) h = (h.used, h.whole, h.stops)
  reached b ts (fault us) h = (h.used, h.whole, h.stops)

  beats_le : (o p : Outcome) → Beats o p → length (rest_of o) ≤ length (rest_of p)
  beats_le o p h = elim h [ inl e ↦ omega arith | inr e ↦ (let g : length (rest_of o) ≡ length (rest_of p) = e.0 in omega arith) ]

  -- a part that stops no further on does not begin with more than what was read
  behind_stops : (b : Part S) (ua us ub vs : List Token) → ua ++ us ≡ ub ++ vs → length us ≤ length vs → Stops rules b ub vs
      → (x : Token) (more : List Token) → us ≡ x ∷ more → Begins rules b (ua ++ x ∷ []) → ⊥
  behind_stops b ua us ub vs e le stops x more g d = by_cut (cut ua us ub vs e)
    where
      by_cut : Cut ua us ub vs → ⊥
      by_cut (same i k) = stops x more (sym k ∙ g) (d.0, d.1, along rules b (ap (λ w. (w ++ x ∷ []) ++ d.0) i) d.2)
      by_cut (further z m i k) = let n : length us ≡ length (z ∷ (m ++ vs)) = ap length k in let n2 = length-append m vs in omega arith
      by_cut (nearer z m i k) = stops z (m ++ us) k (less rules b (ub ++ z ∷ []) (m ++ x ∷ []) (d.0, d.1, along rules b (ap (λ w. w ++ d.0) (ap (λ w. w ++ x ∷ []) (i ∙ sym (append_assoc ub (z ∷ []) m)) ∙ append_assoc (ub ++ z ∷ []) m (x ∷ []))) d.2))

  behind_under : (b : Part S) (ua us ts : List Token) (p : Outcome) → ts ≡ ua ++ us → Beats (fault us) p → Ex b ts p → (t : Tree) → Derives rules b ua t → ⊥
  behind_under b ua us ts (found u vs) e beats q t d = by_cut (cut ua us q.used vs (sym e ∙ q.whole))
    where
      by_cut : Cut ua us q.used vs → ⊥
      by_cut (same i k) = elim beats [ inl lt ↦ (let n : length us ≡ length vs = ap length k in omega arith) | inr h ↦ h.1 tt ]
      by_cut (further z m i k) = let le = beats_le (fault us) (found u vs) beats in let n : length us ≡ length (z ∷ (m ++ vs)) = ap length k in let n2 = length-append m vs in omega arith
      by_cut (nearer z m i k) = q.stops z (m ++ us) k (less rules b (q.used ++ z ∷ []) m ([], t, along rules b (i ∙ sym (append_assoc q.used (z ∷ []) m) ∙ sym (append-nil ((q.used ++ z ∷ []) ++ m))) d))
  behind_under b ua us ts (fault vs) e beats q t d = by_cut (cut ua us q.used vs (sym e ∙ q.whole))
    where
      by_cut : Cut ua us q.used vs → ⊥
      by_cut (same i k) = q.underived t (along rules b i d)
      by_cut (further z m i k) = let le = beats_le (fault us) (fault vs) beats in let n : length us ≡ length (z ∷ (m ++ vs)) = ap length k in let n2 = length-append m vs in omega arith
      by_cut (nearer z m i k) = q.stops z (m ++ us) k (less rules b (q.used ++ z ∷ []) m ([], t, along rules b (i ∙ sym (append_assoc q.used (z ∷ []) m) ∙ sym (append-nil ((q.used ++ z ∷ []) ++ m))) d))

  one_exact : (k : List ℕ) (a b : Part S) (ts : List Token) (o p : Outcome) → Ex a ts o → Ex b ts p → Beats o p → Ex (both k a b) ts (after left o)
  one_exact k a b ts (found t us) p h q beats =
      let r = reached b ts p q in
      record {
        used = h.used;
        whole = h.whole;
        derived = one_is h.derived;
        stops = λ x more g d. elim (of_both rules d.2) [
          | inl k ↦ h.stops x more g (d.0, k.0, k.1)
          | inr k ↦ behind_stops b h.used us r.0 (rest_of p) (sym h.whole ∙ r.1) (beats_le (found t us) p beats) r.2 x more g (d.0, k.0, k.1)
        ];
      }
  one_exact k a b ts (fault us) p h q beats =
      let r = reached b ts p q in
      record {
        used = h.used;
        whole = h.whole;
        begins = (h.begins.0, left h.begins.1, one_is h.begins.2);
        underived = λ t d. elim (of_both rules d) [ inl k ↦ h.underived k.0 k.1 | inr k ↦ behind_under b h.used us ts p h.whole beats q k.0 k.1 ];
        stops = λ x more g d. elim (of_both rules d.2) [
          | inl k ↦ h.stops x more g (d.0, k.0, k.1)
          | inr k ↦ behind_stops b h.used us r.0 (rest_of p) (sym h.whole ∙ r.1) (beats_le (fault us) p beats) r.2 x more g (d.0, k.0, k.1)
        ];
      }

  other_exact : (k : List ℕ) (a b : Part S) (ts : List Token) (o p : Outcome) → Ex a ts o → Ex b ts p → Beats p o → Ex (both k a b) ts (after right p)
  other_exact k a b ts o (found t us) q h beats =
      let r = reached a ts o q in
      record {
        used = h.used;
        whole = h.whole;
        derived = other_is h.derived;
        stops = λ x more g d. elim (of_both rules d.2) [
          | inr k ↦ h.stops x more g (d.0, k.0, k.1)
          | inl k ↦ behind_stops a h.used us r.0 (rest_of o) (sym h.whole ∙ r.1) (beats_le (found t us) o beats) r.2 x more g (d.0, k.0, k.1)
        ];
      }
  other_exact k a b ts o (fault us) q h beats =
      let r = reached a ts o q in
      record {
        used = h.used;
        whole = h.whole;
        begins = (h.begins.0, right h.begins.1, other_is h.begins.2);
        underived = λ t d. elim (of_both rules d) [ inr k ↦ h.underived k.0 k.1 | inl k ↦ behind_under a h.used us ts o h.whole beats q k.0 k.1 ];
        stops = λ x more g d. elim (of_both rules d.2) [
          | inr k ↦ h.stops x more g (d.0, k.0, k.1)
          | inl k ↦ behind_stops a h.used us r.0 (rest_of o) (sym h.whole ∙ r.1) (beats_le (fault us) o beats) r.2 x more g (d.0, k.0, k.1)
        ];
      }

  same_used : (u v r : List Token) → u ++ r ≡ v ++ r → u ≡ v
  same_used u v r e = by_cut (cut u r v r e)
    where
      by_cut : Cut u r v r → u ≡ v
      by_cut (same g h) = g
      by_cut (further z m g h) = let n : length r ≡ length (z ∷ (m ++ r)) = ap length h in let n2 = length-append m r in absurd (omega arith)
      by_cut (nearer z m g h) = let n : length r ≡ length (z ∷ (m ++ r)) = ap length h in let n2 = length-append m r in absurd (omega arith)

  side_exact : (s : S) (ts used rest : List Token) (t : Tree) → ts ≡ used ++ rest → Ex (rules s) ts (found t rest) → Ex (side s) ts (found (node (extent_of used) t) rest)
  side_exact s ts used rest t e h =
      let same_u : h.used ≡ used = same_used h.used used rest (sym h.whole ∙ e) in
      record {
        used = used;
        whole = e;
        derived = side_is (along rules (rules s) same_u h.derived);
        stops = subst (λ u. Stops rules (side s) u rest) same_u (λ x more g d. (let k = of_side rules d.2 in h.stops x more g (d.0, k.0, k.1)));
      }

  no_side_exact : (s : S) (ts rest : List Token) → Ex (rules s) ts (fault rest) → Ex (side s) ts (fault rest)
  no_side_exact s ts us h = record { used = h.used; whole = h.whole; begins = (h.begins.0, _, side_is h.begins.2); underived = λ t d. (let k = of_side rules d in h.underived k.0 k.1); stops = λ x more g d. (let k = of_side rules d.2 in h.stops x more g (d.0, k.0, k.1)) }

  nothing_only : (x : Token) (more : List Token) {t : Tree} → Derives rules nothing (x ∷ more) t → ⊥
  nothing_only x more d = of_nothing d refl
    where
      of_nothing : {zs : List Token} {t : Tree} → Derives rules nothing zs t → zs ≡ x ∷ more → ⊥
      of_nothing nothing_is e = cc e

  -- what is read is exact
  pub exact : {a : Part S} {ts : List Token} {o : Outcome} → Reads rules empty f a ts o → Good a → Ex a ts o
  exact (read_nothing {ts}) h = record { used = []; whole = refl; derived = nothing_is; stops = λ x more g d. nothing_only x d.0 d.2 }
  exact (read_word {cs} {k} {ts} e) h = word_exact cs k ts e
  exact (no_word {cs} {ts} e) h = no_word_exact cs ts h.0 e
  exact (read_text {cs} {k} {ts} e) h = text_exact cs k ts e
  exact (no_text {cs} {ts} e) h = no_text_exact cs ts h.0 e
  exact (read_seq {a} {b} d k) h = let s = seq_good a b h in seq_exact a b s.0 s.2 (exact d s.0) (exact k s.1)
  exact (late_seq {a} {b} d k) h = let s = seq_good a b h in late_seq_exact a b s.0 s.2 (exact d s.0) (exact k s.1)
  exact (no_seq {a} {b} d) h = let s = seq_good a b h in no_seq_exact a b s.0 s.1.0 s.2 (exact d s.0)
  exact (read_left {a} {b} {ts} {o} e d) h = let s = alt_good a b h in left_exact a b ts o (not_in (next ts) (first empty f a) (first empty f b) s.2 e) s.4 (exact d s.0)
  exact (read_right {a} {b} {ts} {o} e d) h = let s = alt_good a b h in right_exact a b ts o e s.3 (exact d s.1)
  exact (read_none {a} {ts} e) h = none_exact a ts e
  exact (read_some {a} {ts} {o} e d) h = let s = opt_fine ok a h.0 in some_exact a ts o s.0 e s.1 s.2 (exact d (s.0, h.1))
  exact (read_nil {a} {ts} e) h = nil_exact a ts e
  exact (read_cons {a} e d k) h = let s = star_fine ok a h.0 in cons_exact a (s.0, h.1) s.3 (exact d (s.0, h.1)) (exact k h)
  exact (late_cons {a} e d k) h = let s = star_fine ok a h.0 in late_cons_exact a (s.0, h.1) s.3 s.1 (exact d (s.0, h.1)) (exact k h)
  exact (no_cons {a} e d) h = let s = star_fine ok a h.0 in no_cons_exact a (s.0, h.1) s.3 e s.2 (exact d (s.0, h.1))
  exact (read_one {k = cs} {a} {b} {ts} {o} {p} d k w) h = let s = both_good cs a b h in one_exact cs a b ts o p (exact d s.0) (exact k s.1) w
  exact (read_other {k = cs} {a} {b} {ts} {o} {p} d k w) h = let s = both_good cs a b h in other_exact cs a b ts o p (exact d s.0) (exact k s.1) w
  exact (read_side {s} {ts} {rest} {t} used e d) h = side_exact s ts used rest t e (exact d (ok.all_fine s, all_apart s))
  exact (no_side {s} {ts} {rest} d) h = no_side_exact s ts rest (exact d (ok.all_fine s, all_apart s))
