-- What is kept of a next term tells of it.
use Rattle.std.proofs.Common.{ℕ, ◌<◌, slice_index_or, Bool, true, false, cond, not, ◌||◌, List, [], ◌∷◌, ◌++◌, length, ◌≡◌, ◌↔◌, IsTrue, refl, sym, ap, ap₂, ◌∙◌, subst, arith, MatchBool}
use Rattle.std.proofs.lemmas.List.{get_or_default}
use Rattle.std.proofs.lemmas.Int.{to_z-of_z}
use mir.Syntax.{w128}
use lib.IntN.{ℤ}
use Rattle.sv_num.specs.Range.{IsI128}
use Rattle.sv_term.specs.Sorts.{is_num}
use Rattle.sv_term.specs.Terms.{Term, Lit, Add, Sub, Mul, Le, Eq, sort_of}
use Rattle.sv_log.specs.LogEntries.{Row}
use Rattle.sv_log.specs.LogRows.{multiple, FitsRow}
use Rattle.sv_log.specs.FormsOfTerms.{is_lit, lit_value, form, IsWorkedOut}
use Rattle.sv_log.specs.Logs.{nth_term}
use Rattle.sv_form.specs.declared.node.Join.{Join}
use Rattle.sv_form.specs.declared.node.Join.TheVariants as join
use Rattle.sv_form.specs.declared.node.Linear.{Linear}
use Rattle.sv_form.specs.declared.node.Linear.TheVariants.{Literal, Wide, Joined, Column, AtMost, Equal, Outside}
use Rattle.sv_form.specs.Nodes.{node_at, is_in_range, IsSoundNode}
use Rattle.sv_form_rows.specs.TermForms.{form_of, joined_rows, IsLiteral, IsPlain, Tells, AreFormsOf}
use Rattle.sv_form_rows.specs.Questions.{CanJoin}
use Rattle.sv_form_rows.proofs.Answering.{read}
use Rattle.sv_form_rows.proofs.Spreading.{fits_by}
use Rattle.sv_term_forms.specs.declared.form_node.FormNode.TheVariants as told
use Rattle.sv_term_forms.specs.KeptNodes.{Keeps, IsJoin, is_literal_node}
use Rattle.sv_term_forms.proofs.Growing.{nth_kept, form_kept, form_of_kept, worked_kept, worked_back}

-- the form of t is made of those of x and y, and t is worked out where these are and its form fits
pub record Makes (us : List Term) (how : Join) (t x y : Term) : Type 0 where
  pub plain : IsPlain t
  pub made : form us t ≡ joined_rows how (form us x) (form us y)
  pub works : IsWorkedOut us x → IsWorkedOut us y → FitsRow (form us t) → IsWorkedOut us t
  pub worked : IsWorkedOut us t → IsWorkedOut us x × IsWorkedOut us y × FitsRow (form us t)

makes_sum : (us : List Term) (x y : Term) → Makes us join.Sum (Add x y) x y
makes_sum us x y = record {
  plain = record { no_literal = refl; no_comparison = refl };
  made = refl;
  works = λ v w f. (f, (v, (w, tt)));
  worked = λ w. (w.1.0, w.1.1.0, w.0);
}

makes_difference : (us : List Term) (x y : Term) → Makes us join.Difference (Sub x y) x y
makes_difference us x y = record {
  plain = record { no_literal = refl; no_comparison = refl };
  made = refl;
  works = λ v w f. (f, (v, (w, tt)));
  worked = λ w. (w.1.0, w.1.1.0, w.0);
}

-- a literal before the term
makes_before : (us : List Term) (negative : Bool) (m : ℕ) (y : Term) → Makes us (join.Multiple (lit_value (Lit negative m))) (Mul (Lit negative m) y) y (Lit negative m)
makes_before us negative m y = record {
  plain = record { no_literal = refl; no_comparison = refl };
  made = refl;
  works = λ v w f. (f, (w, (v, tt)));
  worked = λ w. (w.1.1.0, w.1.0, w.0);
}

none_of : (r s : Row) (b : Bool) → b ≡ false → cond b r s ≡ s
none_of r s true e = cc e
none_of r s false e = refl

on_the_way : (A B : Type 0) (b : Bool) → b ≡ false → B → MatchBool (not (b || true)) A B
on_the_way A B true e h = h
on_the_way A B false e h = h

off_the_way : (A B : Type 0) (b : Bool) → MatchBool (not (b || true)) A B → B
off_the_way A B true h = h
off_the_way A B false h = h

-- a literal behind the term
makes_after : (us : List Term) (negative : Bool) (m : ℕ) (x : Term) → is_lit x ≡ false → Makes us (join.Multiple (lit_value (Lit negative m))) (Mul x (Lit negative m)) x (Lit negative m)
makes_after us negative m x e = record {
  plain = record { no_literal = refl; no_comparison = refl };
  made = none_of (multiple (lit_value x) (form us (Lit negative m))) (multiple (lit_value (Lit negative m)) (form us x)) (is_lit x) e;
  works = λ v w f. (f, on_the_way _ _ (is_lit x) e (v, (w, tt)));
  worked = λ w. let h = off_the_way _ _ (is_lit x) w.1 in (h.0, h.1.0, w.0);
}

-- a literal that is no `i128` is not worked out, and so no product with it
wide_literal : (us : List Term) (t : Term) → IsLiteral t (lit_value t) → (IsI128 (lit_value t) → ⊥) → IsWorkedOut us t → ⊥
wide_literal us t l h w = h (subst (λ (z : ℤ). IsI128 z) (ap lit_value (sym l.is)) (subst (IsWorkedOut us) l.is w).0.0)

literal_before : (us : List Term) (x y : Term) (z : ℤ) → IsLiteral x z → Makes us (join.Multiple z) (Mul x y) y x
literal_before us x y z l =
    subst (λ k. Makes us (join.Multiple k) (Mul x y) y x) (sym (ap lit_value l.is) ∙ l.worth)
    (subst (λ u. Makes us (join.Multiple (lit_value (Lit l.negative l.number))) (Mul u y) y u) (sym l.is) (makes_before us l.negative l.number y))

literal_after : (us : List Term) (x y : Term) (z : ℤ) → is_lit x ≡ false → IsLiteral y z → Makes us (join.Multiple z) (Mul x y) x y
literal_after us x y z e l =
    subst (λ k. Makes us (join.Multiple k) (Mul x y) x y) (sym (ap lit_value l.is) ∙ l.worth)
    (subst (λ u. Makes us (join.Multiple (lit_value (Lit l.negative l.number))) (Mul x u) x u) (sym l.is) (makes_after us l.negative l.number x e))

wide_before : (us : List Term) (x y : Term) → IsLiteral x (lit_value x) → (IsI128 (lit_value x) → ⊥) → Tells us (Mul x y) Outside
wide_before us x y l h = (
  record { no_literal = refl; no_comparison = refl },
  λ w. wide_literal us x l h (((literal_before us x y (lit_value x) l).worked w).1),
)

wide_after : (us : List Term) (x y : Term) → is_lit x ≡ false → IsLiteral y (lit_value y) → (IsI128 (lit_value y) → ⊥) → Tells us (Mul x y) Outside
wide_after us x y e l h = (
  record { no_literal = refl; no_comparison = refl },
  λ w. wide_literal us y l h (((literal_after us x y (lit_value y) e l).worked w).1),
)

neither : (p q : Bool) → p ≡ false → q ≡ false → not (p || q) ≡ true
neither p q e g = ap₂ (λ x y. not (x || y)) e g

-- ---- joins

module _ (nodes : List Linear) (how : Join) (a b : ℕ) (l : Linear) (within : (a < length nodes) × (b < length nodes)) (j : IsJoin nodes how a b l) where
  pub join_sound : IsSoundNode nodes (length nodes) l
  join_sound = subst (IsSoundNode nodes (length nodes)) (sym j.is) (go j.joins j.formed)
    where
      go : (c : Bool) → (IsTrue c → IsTrue (is_in_range (node_at nodes a)) × IsTrue (is_in_range (node_at nodes b))) → IsSoundNode nodes (length nodes) (cond c (Joined how a b) Outside)
      go true f = let r = f refl in (within.0, within.1, r.0, r.1)
      go false f = tt

  module _ (ts : List Term) (f : AreFormsOf ts nodes) (t : Term) (m : Makes (ts ++ t ∷ []) how t (nth_term ts a) (nth_term ts b)) where
    form_is : form (ts ++ t ∷ []) t ≡ joined_rows how (form_of ts a) (form_of ts b)
    form_is = m.made ∙ ap₂ (joined_rows how) (form_kept ts nodes f t a within.0) (form_kept ts nodes f t b within.1)

    joined_tells : CanJoin ts how a b → Tells (ts ++ t ∷ []) t (Joined how a b)
    joined_tells c = (
      m.plain,
      m.works (worked_kept ts nodes f t a within.0 c.0) (worked_kept ts nodes f t b within.1 c.1) (subst FitsRow (sym form_is) c.2),
      form_is ∙ sym (ap₂ (joined_rows how) (form_of_kept ts nodes f t a within.0) (form_of_kept ts nodes f t b within.1)),
    )

    outside_tells : (CanJoin ts how a b → ⊥) → Tells (ts ++ t ∷ []) t Outside
    outside_tells h = (
      m.plain,
      λ w. let v = m.worked w in h (worked_back ts nodes f t a within.0 v.0, worked_back ts nodes f t b within.1 v.1, subst FitsRow form_is v.2),
    )

    pub join_tells : Tells (ts ++ t ∷ []) t l
    join_tells = subst (Tells (ts ++ t ∷ []) t) (sym j.is) (go j.joins (j.tells ts f))
      where
        go : (c : Bool) → (IsTrue c ↔ CanJoin ts how a b) → Tells (ts ++ t ∷ []) t (cond c (Joined how a b) Outside)
        go true d = joined_tells (d.0 refl)
        go false d = outside_tells (λ c. let e = d.1 c in cc e)

module _ (nodes : List Linear) (a b : ℕ) (l : Linear) (within : (a < length nodes) × (b < length nodes)) where
  pub keeps_sum : IsJoin nodes join.Sum a b l → Keeps nodes (told.Sum a b) l
  keeps_sum j = record {
    sound = join_sound nodes join.Sum a b l within j;
    tells = λ ts t f e. join_tells nodes join.Sum a b l within j ts f t (subst (λ u. Makes (ts ++ t ∷ []) join.Sum u (nth_term ts a) (nth_term ts b)) (sym e) (makes_sum (ts ++ t ∷ []) (nth_term ts a) (nth_term ts b)));
  }

  pub keeps_difference : IsJoin nodes join.Difference a b l → Keeps nodes (told.Difference a b) l
  keeps_difference j = record {
    sound = join_sound nodes join.Difference a b l within j;
    tells = λ ts t f e. join_tells nodes join.Difference a b l within j ts f t (subst (λ u. Makes (ts ++ t ∷ []) join.Difference u (nth_term ts a) (nth_term ts b)) (sym e) (makes_difference (ts ++ t ∷ []) (nth_term ts a) (nth_term ts b)));
  }

module _ (nodes : List Linear) (a b : ℕ) (within : (a < length nodes) × (b < length nodes)) where
  -- the two sides, in the longer list
  pub keeps_at_most : Keeps nodes (told.AtMost a b) (AtMost a b)
  keeps_at_most = record {
    sound = within;
    tells = λ ts t f e. e ∙ sym (ap₂ Le (nth_kept ts nodes f t a within.0) (nth_kept ts nodes f t b within.1));
  }

  pub keeps_equal : Keeps nodes (told.Equal a b) (Equal a b)
  keeps_equal = record {
    sound = within;
    tells = λ ts t f e. (
      e.0 ∙ sym (ap₂ Eq (nth_kept ts nodes f t a within.0) (nth_kept ts nodes f t b within.1)),
      ap (λ u. is_num (sort_of u)) (nth_kept ts nodes f t a within.0) ∙ e.1,
    );
  }

-- ---- products

pub node_is : (nodes : List Linear) (n : ℕ) (d l : Linear) → n < length nodes → slice_index_or nodes n d ≡ l → node_at nodes n ≡ l
node_is nodes n d l h e = get_or_default nodes n Outside d h ∙ e

pub not_literal : (nodes : List Linear) (n : ℕ) (d : Linear) → n < length nodes → ((z : ℤ) → slice_index_or nodes n d ≡ Literal z → ⊥) → (slice_index_or nodes n d ≡ Wide → ⊥)
    → is_literal_node (node_at nodes n) ≡ false
not_literal nodes n d h f g = ap is_literal_node (get_or_default nodes n Outside d h) ∙ go (slice_index_or nodes n d) f g
  where
    go : (l : Linear) → ((z : ℤ) → l ≡ Literal z → ⊥) → (l ≡ Wide → ⊥) → is_literal_node l ≡ false
    go (Literal z) f g = absurd (f z refl)
    go Wide f g = absurd (g refl)
    go l f g = refl

-- the node of a literal tells that the term is one, and other nodes that it is none
no_literal : (ts : List Term) (t : Term) (l : Linear) → is_literal_node l ≡ false → Tells ts t l → is_lit t ≡ false
no_literal ts t (Literal z) e p = cc e
no_literal ts t Wide e p = cc e
no_literal ts t (Joined how a b) e p = p.0.no_literal
no_literal ts t Column e p = p.0.no_literal
no_literal ts t (AtMost a b) e p = ap is_lit p
no_literal ts t (Equal a b) e p = ap is_lit p.0
no_literal ts t Outside e p = p.0.no_literal

product_plain : (x y : Term) → IsPlain (Mul x y)
product_plain x y = record { no_literal = refl; no_comparison = refl }

module _ (nodes : List Linear) (a b : ℕ) (within : (a < length nodes) × (b < length nodes)) where
  module _ (ts : List Term) (f : AreFormsOf ts nodes) where
    told_of : (n : ℕ) → n < length nodes → Tells ts (nth_term ts n) (node_at nodes n)
    told_of n h = f.tells n (omega (arith, h, f.size))

    -- what the node tells, where it is known
    told_as : (n : ℕ) (l : Linear) → n < length nodes → node_at nodes n ≡ l → Tells ts (nth_term ts n) l
    told_as n l h e = subst (Tells ts (nth_term ts n)) e (told_of n h)

    none_at : (n : ℕ) → n < length nodes → is_literal_node (node_at nodes n) ≡ false → is_lit (nth_term ts n) ≡ false
    none_at n h e = no_literal ts (nth_term ts n) (node_at nodes n) e (told_of n h)

  module _ (z : ℤ) (l : Linear) where
    read_join : (x y : ℕ) → IsI128 z → IsJoin nodes (join.Multiple (read z)) x y l → IsJoin nodes (join.Multiple z) x y l
    read_join x y h j = subst (λ k. IsJoin nodes (join.Multiple k) x y l) (to_z-of_z w128 z (fits_by z h)) j

    pub keeps_before : node_at nodes a ≡ Literal z → IsJoin nodes (join.Multiple (read z)) b a l → Keeps nodes (told.Product a b) l
    keeps_before d j = record {
      sound = join_sound nodes (join.Multiple (read z)) b a l (within.1, within.0) j;
      tells = λ ts t f e.
          let p = told_as ts f a (Literal z) within.0 d in
          join_tells nodes (join.Multiple z) b a l (within.1, within.0) (read_join b a p.1 j) ts f t
          (subst (λ u. Makes (ts ++ t ∷ []) (join.Multiple z) u (nth_term ts b) (nth_term ts a)) (sym e) (literal_before (ts ++ t ∷ []) (nth_term ts a) (nth_term ts b) z p.0));
    }

    pub keeps_after : is_literal_node (node_at nodes a) ≡ false → node_at nodes b ≡ Literal z → IsJoin nodes (join.Multiple (read z)) a b l → Keeps nodes (told.Product a b) l
    keeps_after g d j = record {
      sound = join_sound nodes (join.Multiple (read z)) a b l within j;
      tells = λ ts t f e.
          let p = told_as ts f b (Literal z) within.1 d in
          join_tells nodes (join.Multiple z) a b l within (read_join a b p.1 j) ts f t
          (subst (λ u. Makes (ts ++ t ∷ []) (join.Multiple z) u (nth_term ts a) (nth_term ts b)) (sym e)
          (literal_after (ts ++ t ∷ []) (nth_term ts a) (nth_term ts b) z (none_at ts f a within.0 g) p.0));
    }

  pub keeps_wide_before : node_at nodes a ≡ Wide → Keeps nodes (told.Product a b) Outside
  keeps_wide_before d = record {
    sound = tt;
    tells = λ ts t f e. let w = told_as ts f a Wide within.0 d in
        subst (λ u. Tells (ts ++ t ∷ []) u Outside) (sym e) (wide_before (ts ++ t ∷ []) (nth_term ts a) (nth_term ts b) w.0 w.1);
  }

  pub keeps_wide_after : is_literal_node (node_at nodes a) ≡ false → node_at nodes b ≡ Wide → Keeps nodes (told.Product a b) Outside
  keeps_wide_after g d = record {
    sound = tt;
    tells = λ ts t f e. let w = told_as ts f b Wide within.1 d in
        subst (λ u. Tells (ts ++ t ∷ []) u Outside) (sym e) (wide_after (ts ++ t ∷ []) (nth_term ts a) (nth_term ts b) (none_at ts f a within.0 g) w.0 w.1);
  }

  pub keeps_column : is_literal_node (node_at nodes a) ≡ false → is_literal_node (node_at nodes b) ≡ false → Keeps nodes (told.Product a b) Column
  keeps_column g h = record {
    sound = tt;
    tells = λ ts t f e. subst (λ u. Tells (ts ++ t ∷ []) u Column) (sym e)
        (product_plain (nth_term ts a) (nth_term ts b), neither (is_lit (nth_term ts a)) (is_lit (nth_term ts b)) (none_at ts f a within.0 g) (none_at ts f b within.1 h));
  }
