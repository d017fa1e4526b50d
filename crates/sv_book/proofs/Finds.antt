-- One pass finds the fault that counts.
use Rattle.std.proofs.Common.{◌≡◌, ◌⊎◌, Bool, true, false, ◌&&◌, not, cond, Option, Some, None, List, [], ◌∷◌, refl, sym, ap, ◌∙◌, subst, inl, inr}
use Rattle.sv_book.specs.Walks.{Walk, Walks, Node, Group, End, Part}
use Rattle.sv_book.specs.Books.{Table, Book, behind, behind_in, seen, seen_in, OneOf, Broken, Broken_in, Least, Orders}
use Rattle.sv_book.specs.Visits.{State, noted, asked, sound, opened, closed, visit, visit_in, begun}

-- ---- the pass over nodes that are seen already

abbrev mutual
  clear : {S K F : Type 0} → Table S K F → Walk S → Bool
  clear book (Node s parts) = clear_in book parts && sound book book.rules s
  clear book (Group parts) = clear_in book parts

  clear_in : {S K F : Type 0} → Table S K F → Walks S → Bool
  clear_in book End = true
  clear_in book (Part w ws) = clear book w && clear_in book ws

abbrev mutual
  reports : {S K F : Type 0} → Table S K F → Option F → Walk S → Option F
  reports book o (Node s parts) = asked book book.rules (clear_in book parts) (reports_in book o parts) s
  reports book o (Group parts) = reports_in book o parts

  reports_in : {S K F : Type 0} → Table S K F → Option F → Walks S → Option F
  reports_in book o End = o
  reports_in book o (Part w ws) = reports_in book (reports book o w) ws

-- o, and what P holds of, have the first r
pub record Adds {F : Type 0} (first : F → F → Bool) (o : Option F) (P : F → Type 0) (r : Option F) : Type 0 where
  pub from : (f : F) → r ≡ Some f → (o ≡ Some f) ⊎ P f
  pub least : (g : F) → (o ≡ Some g) ⊎ P g → (f : F) × (r ≡ Some f) × (first f g ≡ true)

some_is : {F : Type 0} {x y : F} → Some x ≡ Some y → x ≡ y
some_is h = cc

module _ {F : Type 0} (first : F → F → Bool) (orders : Orders first) where
  nothing_added : (o : Option F) (P : F → Type 0) → ((f : F) → P f → ⊥) → Adds first o P o
  nothing_added o P none = record {
    from = λ f h. inl h;
    least = λ g q. elim q [ inl h ↦ (g, h, orders.same g) | inr p ↦ absurd (none g p) ];
  }

  joined : (o m r : Option F) (P Q : F → Type 0) → Adds first o P m → Adds first m Q r → Adds first o (λ f. P f ⊎ Q f) r
  joined o m r P Q a b = record {
    from = λ f h. elim (b.from f h) [ inl e ↦ (elim (a.from f e) [ inl i ↦ inl i | inr p ↦ inr (inl p) ]) | inr q ↦ inr (inr q) ];
    least = λ g q. elim q [ inl h ↦ past g (a.least g (inl h)) | inr p ↦ (elim p [ inl i ↦ past g (a.least g (inr i)) | inr j ↦ b.least g (inr j) ]) ];
  }
    where
      past : (g : F) → (f : F) × (m ≡ Some f) × (first f g ≡ true) → (f : F) × (r ≡ Some f) × (first f g ≡ true)
      past g x = let y = b.least x.0 (inl x.1) in (y.0, y.1, orders.along y.0 x.0 g y.2 x.2)

  same_as : (o r : Option F) (P Q : F → Type 0) → ((f : F) → P f → Q f) → ((f : F) → Q f → P f) → Adds first o P r → Adds first o Q r
  same_as o r P Q there back a = record {
    from = λ f h. elim (a.from f h) [ inl e ↦ inl e | inr p ↦ inr (there f p) ];
    least = λ g q. elim q [ inl h ↦ a.least g (inl h) | inr p ↦ a.least g (inr (back g p)) ];
  }

  notes : (o : Option F) (f : F) → Adds first o (λ g. g ≡ f) (noted first o f)
  notes None f = record {
    from = λ g h. inr (sym (some_is h));
    least = λ g q. elim q [ inl h ↦ cc h | inr e ↦ (f, refl, ap (first f) e ∙ orders.same f) ];
  }
  notes (Some e) f = by (first e f) refl
    where
      by : (b : Bool) → first e f ≡ b → Adds first (Some e) (λ g. g ≡ f) (cond b (Some e) (Some f))
      by true h = record {
        from = λ g k. inl k;
        least = λ g q. elim q [ inl i ↦ (e, refl, ap (first e) (sym (some_is i)) ∙ orders.same e) | inr i ↦ (e, refl, ap (first e) i ∙ h) ];
      }
      by false h = record {
        from = λ g k. inr (sym (some_is k));
        least = λ g q. elim q [ inl i ↦ (f, refl, ap (first f) (sym (some_is i)) ∙ orders.either e f h) | inr i ↦ (f, refl, ap (first f) i ∙ orders.same f) ];
      }

module _ {S K F : Type 0} (book : Table S K F) (orders : Orders book.first) where
  abbrev Breaks_of : List K → S → F → Type 0
  Breaks_of ks s f = (k : K) × OneOf ks k × (book.breaks k s ≡ true) × (f ≡ book.fault k s)

  one_asked : (k : K) (o : Option F) (s : S) (b : Bool) → book.breaks k s ≡ b → Adds book.first o (λ f. (book.breaks k s ≡ true) × (f ≡ book.fault k s)) (cond b (noted book.first o (book.fault k s)) o)
  one_asked k o s true h = same_as book.first orders o _ (λ g. g ≡ book.fault k s) _ (λ f e. (h, e)) (λ f p. p.1) (notes book.first orders o (book.fault k s))
  one_asked k o s false h = nothing_added book.first orders o _ (λ f p. cc (h, p.0))

  asks : (ks : List K) (o : Option F) (s : S) → Adds book.first o (Breaks_of ks s) (asked book ks true o s)
  asks [] o s = nothing_added book.first orders o _ (λ f p. p.1)
  asks (k ∷ ks) o s =
      same_as book.first orders o _ (λ f. ((book.breaks k s ≡ true) × (f ≡ book.fault k s)) ⊎ Breaks_of ks s f) (Breaks_of (k ∷ ks) s)
      (λ f p. elim p [ inl a ↦ (k, inl refl, a.0, a.1) | inr b ↦ (b.0, inr b.1, b.2, b.3) ])
      (λ f p. elim p.1 [ inl e ↦ inl (ap (λ z. book.breaks z s) (sym e) ∙ p.2, p.3 ∙ ap (λ z. book.fault z s) e) | inr m ↦ inr (p.0, m, p.2, p.3) ])
      (joined book.first orders o _ _ _ _ (one_asked k o s (book.breaks k s) refl) (asks ks _ s))

  -- ---- clear is: nothing is broken

  both : (a b : Bool) → (a && b) ≡ true → (a ≡ true) × (b ≡ true)
  both true b h = (refl, h)
  both false b h = cc h

  one_fails : (a b : Bool) → (a && b) ≡ false → (a ≡ false) ⊎ ((a ≡ true) × (b ≡ false))
  one_fails true b h = inr (refl, h)
  one_fails false b h = inl refl

  not_true : (b : Bool) → not b ≡ true → b ≡ false
  not_true true h = cc h
  not_true false h = refl

  not_false : (b : Bool) → not b ≡ false → b ≡ true
  not_false true h = refl
  not_false false h = cc h

  differ : (b : Bool) → b ≡ true → b ≡ false → ⊥
  differ b h k = cc (h, k)

  as_and : (b x : Bool) → (not b && x) ≡ cond b false x
  as_and true x = refl
  as_and false x = refl

  sound_none : (ks : List K) (s : S) (f : F) → sound book ks s ≡ true → Breaks_of ks s f → ⊥
  sound_none [] s f h p = p.1
  sound_none (k ∷ ks) s f h p =
      let i = both (not (book.breaks k s)) (sound book ks s) (as_and (book.breaks k s) (sound book ks s) ∙ h) in
      elim p.1 [
        | inl m ↦ differ (book.breaks k s) (ap (λ z. book.breaks z s) (sym m) ∙ p.2) (not_true _ i.0)
        | inr m ↦ sound_none ks s f i.1 (p.0, m, p.2, p.3)
      ]

  unsound : (ks : List K) (s : S) → sound book ks s ≡ false → (f : F) × Breaks_of ks s f
  unsound [] s h = cc h
  unsound (k ∷ ks) s h =
      elim (one_fails (not (book.breaks k s)) (sound book ks s) (as_and (book.breaks k s) (sound book ks s) ∙ h)) [
        | inl e ↦ (book.fault k s, (k, inl refl, not_false _ e, refl))
        | inr e ↦ (let u = unsound ks s e.1 in (u.0, (u.1.0, inr u.1.1, u.1.2, u.1.3)))
      ]

  mutual
    pub none_broken : (w : Walk S) (f : F) → clear book w ≡ true → Broken book w f → ⊥
    none_broken (Node s ps) f h q = let k = both (clear_in book ps) (sound book book.rules s) h in elim q [ inl a ↦ sound_none book.rules s f k.1 a.0 | inr b ↦ none_broken_in ps f k.0 b ]
    none_broken (Group ps) f h q = none_broken_in ps f h q

    pub none_broken_in : (ws : Walks S) (f : F) → clear_in book ws ≡ true → Broken_in book ws f → ⊥
    none_broken_in End f h q = q
    none_broken_in (Part w ws) f h q = let k = both (clear book w) (clear_in book ws) h in elim q [ inl a ↦ none_broken w f k.0 a | inr b ↦ none_broken_in ws f k.1 b ]

  mutual
    pub some_broken : (w : Walk S) → clear book w ≡ false → (f : F) × Broken book w f
    some_broken (Node s ps) h =
        elim (one_fails (clear_in book ps) (sound book book.rules s) h) [
          | inl e ↦ (let u = some_broken_in ps e in (u.0, inr u.1))
          | inr e ↦ (let u = unsound book.rules s e.1 in (u.0, inl (u.1, λ g. none_broken_in ps g e.0)))
        ]
    some_broken (Group ps) h = some_broken_in ps h

    pub some_broken_in : (ws : Walks S) → clear_in book ws ≡ false → (f : F) × Broken_in book ws f
    some_broken_in End h = cc h
    some_broken_in (Part w ws) h =
        elim (one_fails (clear book w) (clear_in book ws) h) [
          | inl e ↦ (let u = some_broken w e in (u.0, inl u.1))
          | inr e ↦ (let u = some_broken_in ws e.1 in (u.0, inr u.1))
        ]

  -- ---- the pass

  same_both : (b : Bool) (o : Option F) → cond b o o ≡ o
  same_both true o = refl
  same_both false o = refl

  unasked : (ks : List K) (o : Option F) (s : S) → asked book ks false o s ≡ o
  unasked [] o s = refl
  unasked (k ∷ ks) o s = unasked ks (cond (book.breaks k s) o o) s ∙ same_both (book.breaks k s) o

  at_node : (s : S) (ps : Walks S) (o m : Option F) (b : Bool) → clear_in book ps ≡ b → Adds book.first o (Broken_in book ps) m → Adds book.first o (Broken book (Node s ps)) (asked book book.rules b m s)
  at_node s ps o m true e a =
      same_as book.first orders o _ (λ f. Broken_in book ps f ⊎ Breaks_of book.rules s f) (Broken book (Node s ps))
      (λ f p. elim p [ inl i ↦ inr i | inr j ↦ inl (j, λ g. none_broken_in ps g e) ])
      (λ f p. elim p [ inl i ↦ inr i.0 | inr j ↦ inl j ])
      (joined book.first orders o m _ _ _ a (asks book.rules m s))
  at_node s ps o m false e a =
      let P : Option F → Type 0 = λ z. Adds book.first o (Broken book (Node s ps)) z in
      subst P (sym (unasked book.rules m s))
      (same_as book.first orders o m (Broken_in book ps) (Broken book (Node s ps))
      (λ f p. inr p)
      (λ f p. elim p [ inl i ↦ (let u = some_broken_in ps e in absurd (i.1 u.0 u.1)) | inr j ↦ j ])
      a)

  mutual
    pub reports_all : (w : Walk S) (o : Option F) → Adds book.first o (Broken book w) (reports book o w)
    reports_all (Node s ps) o = at_node s ps o (reports_in book o ps) (clear_in book ps) refl (reports_all_in ps o)
    reports_all (Group ps) o = reports_all_in ps o

    pub reports_all_in : (ws : Walks S) (o : Option F) → Adds book.first o (Broken_in book ws) (reports_in book o ws)
    reports_all_in End o = nothing_added book.first orders o _ (λ f p. p)
    reports_all_in (Part w ws) o =
        joined book.first orders o (reports book o w) _ (Broken book w) (Broken_in book ws) (reports_all w o) (reports_all_in ws (reports book o w))

  answered : (w : Walk S) (r : Option F) → Adds book.first None (Broken book w) r → Least book w r
  answered w None a = λ f p. (let x = a.least f (inr p) in cc x.1)
  answered w (Some f) a = (
    elim (a.from f refl) [ inl e ↦ cc e | inr p ↦ p ],
    λ g p. (let x = a.least g (inr p) in ap (λ z. book.first z g) (some_is x.1) ∙ x.2),
  )

  least_reported : (w : Walk S) → Least book w (reports book None w)
  least_reported w = answered w _ (reports_all w None)

-- ---- the pass that keeps what is known

module _ {C S K F : Type 0} (book : Book C S K F) where
  abbrev after : Walk S → State C F → State C F
  after w st = record {
    known = behind book st.known w;
    clear = st.clear && clear book.table (seen book st.known w);
    least = reports book.table st.least (seen book st.known w);
  }

  abbrev after_in : Walks S → State C F → State C F
  after_in ws st = record {
    known = behind_in book st.known ws;
    clear = st.clear && clear_in book.table (seen_in book st.known ws);
    least = reports_in book.table st.least (seen_in book st.known ws);
  }

  and_true : (b : Bool) → b ≡ (b && true)
  and_true true = refl
  and_true false = refl

  and_along : (a b c : Bool) → ((a && b) && c) ≡ (a && (b && c))
  and_along true b c = refl
  and_along false b c = refl

  abbrev with_clear : State C F → Bool → State C F
  with_clear st b = record { known = st.known; clear = b; least = st.least }

  mutual
    visited : (w : Walk S) (st : State C F) → visit book w st ≡ after w st
    visited (Node s ps) st = ap (closed book s st.clear) (visited_in ps (opened book s st))
    visited (Group ps) st = visited_in ps st

    visited_in : (ws : Walks S) (st : State C F) → visit_in book ws st ≡ after_in ws st
    visited_in End st = ap (with_clear st) (and_true st.clear)
    visited_in (Part w ws) st =
        ap (visit_in book ws) (visited w st) ∙ visited_in ws (after w st)
        ∙ ap (with_clear (after_in ws (after w st))) (and_along st.clear (clear book.table (seen book st.known w)) (clear_in book.table (seen_in book (behind book st.known w) ws)))

-- a pass from the beginning ends with the answer of the group
pub least_found : {C S K F : Type 0} (book : Book C S K F) (orders : Orders book.table.first) (c : C) (w : Walk S) → Least book.table (seen book c w) (visit book w (begun c)).least
least_found book orders c w = subst (λ st. Least book.table (seen book c w) st.least) (sym (visited book w (begun c))) (least_reported book.table orders (seen book c w))
