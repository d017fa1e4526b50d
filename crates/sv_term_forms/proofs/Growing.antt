-- What nodes tell stays as a term is put behind.
use Rattle.std.proofs.Common.{ℕ, ◌+◌, ◌<◌, ◌⊎◌, inl, inr, true, false, List, [], ◌∷◌, ◌++◌, length, ◌≡◌, IsTrue, refl, sym, ap, ap₂, ◌∙◌, subst, arith}
use Rattle.std.specs.List.{Contains}
use Rattle.std.proofs.lemmas.List.{get_or_append_left, length-append}
use Rattle.std.proofs.lemmas.List.Elements.{Contains-append_right}
use Rattle.std.proofs.Math.Seq.{get_or-append_seam}
use Rattle.sv_term.specs.Sorts.{is_num}
use Rattle.sv_term.specs.Terms.{MulNode, Term, App, Terms, End, More, Le, Eq, sort_of}
use Rattle.sv_log.specs.FormsOfTerms.{is_column, form, IsWorkedOut}
use Rattle.sv_log.specs.Logs.{nth_term}
use Rattle.sv_form.specs.declared.node.Linear.{Linear}
use Rattle.sv_form.specs.declared.node.Linear.TheVariants.{Literal, Wide, Joined, Column, AtMost, Equal, Outside}
use Rattle.sv_form.specs.Nodes.{node_at, is_in_range, IsSoundNode, AreSound}
use Rattle.sv_form_rows.specs.TermForms.{form_of, joined_rows, is_own_column, Tells, HasColumns, HaveColumns, AreFormsOf}
use Rattle.sv_form_rows.proofs.KeptForms.{nth_old, nth_new, nth_there, kept_form, kept_columns, still_worked, worked_before, either}
use Rattle.sv_form_rows.proofs.RowNumbers.{same_column}
use Rattle.sv_term_forms.specs.declared.form_node.FormNode.{FormNode}
use Rattle.sv_term_forms.specs.declared.form_node.FormNode.TheVariants as told
use Rattle.sv_term_forms.specs.NextTerms.{IsNodeOf, IsNamedBelow, TakesIn}
use Rattle.sv_term_forms.specs.KeptNodes.{Keeps}

-- ---- nodes

node_old : (nodes : List Linear) (l : Linear) (n : ℕ) → n < length nodes → node_at (nodes ++ l ∷ []) n ≡ node_at nodes n
node_old nodes l n h = get_or_append_left nodes (l ∷ []) Outside n h

node_new : (nodes : List Linear) (l : Linear) → node_at (nodes ++ l ∷ []) (length nodes) ≡ l
node_new nodes l = get_or-append_seam nodes l [] Outside

one_more : {A : Type 0} (xs : List A) (x : A) → length (xs ++ x ∷ []) ≡ length xs + 1
one_more xs x = length-append xs (x ∷ [])

sound_longer : (nodes : List Linear) (m : Linear) (n : ℕ) (l : Linear) → n < length nodes + 1 → IsSoundNode nodes n l → IsSoundNode (nodes ++ m ∷ []) n l
sound_longer nodes m n (Joined how a b) h s = (
  s.0,
  s.1,
  subst (λ x. IsTrue (is_in_range x)) (sym (node_old nodes m a (omega (arith, h, s.0)))) s.2,
  subst (λ x. IsTrue (is_in_range x)) (sym (node_old nodes m b (omega (arith, h, s.1)))) s.3,
)
sound_longer nodes m n (AtMost a b) h s = s
sound_longer nodes m n (Equal a b) h s = s
sound_longer nodes m n (Literal z) h s = tt
sound_longer nodes m n Wide h s = tt
sound_longer nodes m n Column h s = tt
sound_longer nodes m n Outside h s = tt

below_or_last : (n k : ℕ) → n < k + 1 → (n < k) ⊎ (n ≡ k)
below_or_last n k h = elim (same_column n k) [ inl e ↦ inr e | inr g ↦ inl (omega (arith, h, g)) ]

pub all_sound : (nodes : List Linear) (l : Linear) → AreSound nodes → IsSoundNode nodes (length nodes) l → AreSound (nodes ++ l ∷ [])
all_sound nodes l sound s = record { node = λ n h. go n (below_or_last n (length nodes) (omega (arith, h, one_more nodes l))) }
  where
    go : (n : ℕ) → (n < length nodes) ⊎ (n ≡ length nodes) → IsSoundNode (nodes ++ l ∷ []) n (node_at (nodes ++ l ∷ []) n)
    go n (inl h) = subst (IsSoundNode (nodes ++ l ∷ []) n) (sym (node_old nodes l n h)) (sound_longer nodes l n (node_at nodes n) (omega (arith, h)) (sound.node n h))
    go n (inr e) =
        subst (λ i. IsSoundNode (nodes ++ l ∷ []) i (node_at (nodes ++ l ∷ []) i)) (sym e)
        (subst (IsSoundNode (nodes ++ l ∷ []) (length nodes)) (sym (node_new nodes l)) (sound_longer nodes l (length nodes) l (omega arith) s))

-- ---- terms

pub there_last : (ts : List Term) (t : Term) → Contains (ts ++ t ∷ []) t
there_last ts t = Contains-append_right ts (t ∷ []) t (0, omega arith, refl)

own_columns : (us : List Term) (u : Term) → is_own_column u ≡ true → Contains us u → HasColumns us u
own_columns us (App x vs) e c = either (Contains us (App x vs)) (HaveColumns us vs) (is_column x vs) (λ d. c) (λ d. let g : true ≡ false = sym e ∙ d in cc g)

module _ (ts : List Term) (nodes : List Linear) (f : AreFormsOf ts nodes) (t : Term) where
  pub in_terms : (n : ℕ) → n < length nodes → n < length ts
  in_terms n h = omega (arith, h, f.size)

  pub nth_kept : (n : ℕ) → n < length nodes → nth_term (ts ++ t ∷ []) n ≡ nth_term ts n
  nth_kept n h = nth_old ts (t ∷ []) n (in_terms n h)

  pub old_columns : (n : ℕ) → n < length nodes → HasColumns (ts ++ t ∷ []) (nth_term ts n)
  old_columns n h = kept_columns ts (t ∷ []) (nth_term ts n) (f.columns n (in_terms n h))

  pub form_kept : (n : ℕ) → n < length nodes → form (ts ++ t ∷ []) (nth_term ts n) ≡ form_of ts n
  form_kept n h = kept_form ts (t ∷ []) (nth_term ts n) (f.columns n (in_terms n h))

  pub form_of_kept : (n : ℕ) → n < length nodes → form_of (ts ++ t ∷ []) n ≡ form_of ts n
  form_of_kept n h = ap (form (ts ++ t ∷ [])) (nth_kept n h) ∙ form_kept n h

  pub worked_kept : (n : ℕ) → n < length nodes → IsWorkedOut ts (nth_term ts n) → IsWorkedOut (ts ++ t ∷ []) (nth_term ts n)
  worked_kept n h w = still_worked ts (t ∷ []) (nth_term ts n) (f.columns n (in_terms n h)) w

  pub worked_back : (n : ℕ) → n < length nodes → IsWorkedOut (ts ++ t ∷ []) (nth_term ts n) → IsWorkedOut ts (nth_term ts n)
  worked_back n h w = worked_before ts (t ∷ []) (nth_term ts n) (f.columns n (in_terms n h)) w

  tells_longer : (n : ℕ) (u : Term) (l : Linear) → n < length nodes → HasColumns ts u → IsSoundNode nodes n l → Tells ts u l → Tells (ts ++ t ∷ []) u l
  tells_longer n u (Literal z) h c s p = p
  tells_longer n u Wide h c s p = p
  tells_longer n u (Joined how a b) h c s p = (
    p.0,
    still_worked ts (t ∷ []) u c p.1,
    kept_form ts (t ∷ []) u c ∙ (p.2 ∙ sym (ap₂ (joined_rows how) (form_of_kept a (omega (arith, h, s.0))) (form_of_kept b (omega (arith, h, s.1))))),
  )
  tells_longer n u Column h c s p = p
  tells_longer n u (AtMost a b) h c s p = p ∙ sym (ap₂ Le (nth_kept a (omega (arith, h, s.0))) (nth_kept b (omega (arith, h, s.1))))
  tells_longer n u (Equal a b) h c s p = (
    p.0 ∙ sym (ap₂ Eq (nth_kept a (omega (arith, h, s.0))) (nth_kept b (omega (arith, h, s.1)))),
    ap (λ v. is_num (sort_of v)) (nth_kept a (omega (arith, h, s.0))) ∙ p.1,
  )
  tells_longer n u Outside h c s p = (p.0, λ w. p.1 (worked_before ts (t ∷ []) u c w))

  -- the columns on the way down from the next term are there
  next_columns : (node : FormNode) → IsNamedBelow (length nodes) node → IsNodeOf ts t node → HasColumns (ts ++ t ∷ []) t
  next_columns (told.Literal negative number) b e = subst (HasColumns (ts ++ t ∷ [])) (sym e) tt
  next_columns (told.Sum i j) b e = subst (HasColumns (ts ++ t ∷ [])) (sym e) (old_columns i b.0, (old_columns j b.1, tt))
  next_columns (told.Difference i j) b e = subst (HasColumns (ts ++ t ∷ [])) (sym e) (old_columns i b.0, (old_columns j b.1, tt))
  next_columns (told.Product i j) b e =
      let vs : Terms = More (nth_term ts i) (More (nth_term ts j) End) in
      subst (HasColumns (ts ++ t ∷ [])) (sym e)
      (either (Contains (ts ++ t ∷ []) (App MulNode vs)) (HaveColumns (ts ++ t ∷ []) vs) (is_column MulNode vs)
      (λ d. subst (Contains (ts ++ t ∷ [])) e (there_last ts t)) (λ d. (old_columns i b.0, (old_columns j b.1, tt))))
  next_columns (told.AtMost i j) b e = own_columns (ts ++ t ∷ []) t (ap is_own_column e) (there_last ts t)
  next_columns (told.Equal i j) b e = own_columns (ts ++ t ∷ []) t (ap is_own_column e.0) (there_last ts t)
  next_columns told.Other b e = own_columns (ts ++ t ∷ []) t e.1 (there_last ts t)

  module _ (l : Linear) (node : FormNode) (named : IsNamedBelow (length nodes) node) (e : IsNodeOf ts t node) (new : Contains ts t → ⊥)
      (sound : AreSound nodes) (tells : Tells (ts ++ t ∷ []) t l) where
    last_is : nth_term (ts ++ t ∷ []) (length ts) ≡ t
    last_is = nth_new ts t

    new_size : length (nodes ++ l ∷ []) ≡ length (ts ++ t ∷ [])
    new_size = one_more nodes l ∙ (ap (λ n. n + 1) f.size ∙ sym (one_more ts t))

    place : (n : ℕ) → n < length (ts ++ t ∷ []) → (n < length ts) ⊎ (n ≡ length ts)
    place n h = below_or_last n (length ts) (omega (arith, h, one_more ts t))

    not_last : (i : ℕ) → i < length ts → nth_term (ts ++ t ∷ []) i ≡ t → ⊥
    not_last i h d = new (subst (Contains ts) (sym (nth_old ts (t ∷ []) i h) ∙ d) (nth_there ts i h))

    new_apart : (i j : ℕ) → (i < length ts) ⊎ (i ≡ length ts) → (j < length ts) ⊎ (j ≡ length ts) → nth_term (ts ++ t ∷ []) i ≡ nth_term (ts ++ t ∷ []) j → i ≡ j
    new_apart i j (inl h) (inl k) d = f.apart i j h k (sym (nth_old ts (t ∷ []) i h) ∙ (d ∙ nth_old ts (t ∷ []) j k))
    new_apart i j (inl h) (inr k) d = absurd (not_last i h (d ∙ (ap (nth_term (ts ++ t ∷ [])) k ∙ last_is)))
    new_apart i j (inr h) (inl k) d = absurd (not_last j k (sym d ∙ (ap (nth_term (ts ++ t ∷ [])) h ∙ last_is)))
    new_apart i j (inr h) (inr k) d = h ∙ sym k

    new_columns : (n : ℕ) → (n < length ts) ⊎ (n ≡ length ts) → HasColumns (ts ++ t ∷ []) (nth_term (ts ++ t ∷ []) n)
    new_columns n (inl h) = subst (HasColumns (ts ++ t ∷ [])) (sym (nth_old ts (t ∷ []) n h)) (old_columns n (omega (arith, h, f.size)))
    new_columns n (inr h) = subst (HasColumns (ts ++ t ∷ [])) (sym (ap (nth_term (ts ++ t ∷ [])) h ∙ last_is)) (next_columns node named e)

    new_tells : (n : ℕ) → (n < length ts) ⊎ (n ≡ length ts) → Tells (ts ++ t ∷ []) (nth_term (ts ++ t ∷ []) n) (node_at (nodes ++ l ∷ []) n)
    new_tells n (inl h) =
        let k : n < length nodes = omega (arith, h, f.size) in
        subst (Tells (ts ++ t ∷ []) (nth_term (ts ++ t ∷ []) n)) (sym (node_old nodes l n k))
        (subst (λ u. Tells (ts ++ t ∷ []) u (node_at nodes n)) (sym (nth_old ts (t ∷ []) n h)) (tells_longer n (nth_term ts n) (node_at nodes n) k (f.columns n h) (sound.node n k) (f.tells n h)))
    new_tells n (inr h) =
        let k : n ≡ length nodes = h ∙ sym f.size in
        subst (Tells (ts ++ t ∷ []) (nth_term (ts ++ t ∷ []) n)) (sym (ap (node_at (nodes ++ l ∷ [])) k ∙ node_new nodes l))
        (subst (λ u. Tells (ts ++ t ∷ []) u l) (sym (ap (nth_term (ts ++ t ∷ [])) h ∙ last_is)) tells)

    pub forms_longer : AreFormsOf (ts ++ t ∷ []) (nodes ++ l ∷ [])
    forms_longer = record {
      size = new_size;
      apart = λ i j h k d. new_apart i j (place i h) (place j k) d;
      columns = λ n h. new_columns n (place n h);
      tells = λ n h. new_tells n (place n h);
    }

-- ---- the call

module _ (nodes new : List Linear) (node : FormNode) (l : Linear) (is : new ≡ nodes ++ l ∷ []) (sound : AreSound nodes) (k : Keeps nodes node l) where
  pub pushed_sound : AreSound new
  pushed_sound = subst AreSound (sym is) (all_sound nodes l sound k.sound)

  pub pushed_forms : IsNamedBelow (length nodes) node → TakesIn nodes node new
  pushed_forms named = subst (TakesIn nodes node) (sym is) (λ ts t f e fresh. forms_longer ts nodes f t l node named e fresh sound (k.tells ts t f e))
