-- What the last place of a remainder says, and that chains stay chains where a code is put at the end or taken away.
use Rattle.std.proofs.Common.{Option, Some, None, MatchOption, ℕ, zero, suc, ◌+◌, ◌-◌, ◌<◌, ◌≤◌, ◌%◌, ◌≢◌, Bool, true, false, cond, nat_eq, nat_lt, List, [], ◌∷◌, ◌++◌, ◌≡◌, length, get_or, set, refl, sym, ap, ap₂, ◌∙◌, subst, arith}
use Rattle.std.proofs.lemmas.List.{get_or-set_other, get_or-set_same, length-set, get_or_append_left, get_or_push, length_push, get_or_default}
use Rattle.std.proofs.lemmas.Bool.Decides.{Decides-eqb, Decides-ltb}
use Rattle.sv_table.specs.Chains.{latest, AreLinked, IsChained, LeadsDown}
use Rattle.sv_table.specs.Places.{Places, HasNone, IsLast}

module _ (w : ℕ) (codes : List ℕ) (h : ℕ) where
  pub low : (n : ℕ) → latest w codes h n ≤ n
  low zero = omega arith
  low (suc n) = here (nat_eq (get_or codes n 0 % w) h) (low n)
    where
      here : (b : Bool) → latest w codes h n ≤ n → cond b (suc n) (latest w codes h n) ≤ suc n
      here true l = omega arith
      here false l = omega arith

  pub same : (n j : ℕ) → latest w codes h n ≡ suc j → get_or codes j 0 % w ≡ h
  same zero j e = absurd (omega arith)
  same (suc n) j e = here (nat_eq (get_or codes n 0 % w) h) refl e (same n j)
    where
      here : (b : Bool) → nat_eq (get_or codes n 0 % w) h ≡ b → cond b (suc n) (latest w codes h n) ≡ suc j → (latest w codes h n ≡ suc j → get_or codes j 0 % w ≡ h) → get_or codes j 0 % w ≡ h
      here true t d k = let i : n ≡ j = omega arith in subst (λ x. get_or codes x 0 % w ≡ h) i ((Decides-eqb (get_or codes n 0 % w) h).0 t)
      here false t d k = k d

  pub gap : (n k : ℕ) → latest w codes h n ≤ k → k < n → get_or codes k 0 % w ≢ h
  gap zero k l m e = absurd (omega arith)
  gap (suc n) k l m e = here (nat_eq (get_or codes n 0 % w) h) refl l (gap n k)
    where
      here : (b : Bool) → nat_eq (get_or codes n 0 % w) h ≡ b → cond b (suc n) (latest w codes h n) ≤ k → (latest w codes h n ≤ k → k < n → get_or codes k 0 % w ≢ h) → ⊥
      here true t d g = omega arith
      here false t d g = order (nat_eq k n) refl
        where
          order : (b : Bool) → nat_eq k n ≡ b → ⊥
          order true u = let i = (Decides-eqb k n).0 u in cc (t, (Decides-eqb (get_or codes n 0 % w) h).1 (subst (λ x. get_or codes x 0 % w ≡ h) i e))
          order false u = let ne : k ≢ n = (λ q. cc (u, (Decides-eqb k n).1 q)) in g d (omega arith) e

  pub agrees : (other : List ℕ) (n : ℕ) → ((k : ℕ) → k < n → get_or other k 0 ≡ get_or codes k 0) → latest w other h n ≡ latest w codes h n
  agrees other zero s = refl
  agrees other (suc n) s = ap₂ (λ x y. cond (nat_eq (x % w) h) (suc n) y) (s n (omega arith)) (agrees other n (λ k l. s k (omega arith)))

  pub hit : (n : ℕ) → get_or codes n 0 % w ≡ h → latest w codes h (suc n) ≡ suc n
  hit n e = ap (λ b. cond b (suc n) (latest w codes h n)) ((Decides-eqb (get_or codes n 0 % w) h).1 e)

  pub miss : (n : ℕ) → get_or codes n 0 % w ≢ h → latest w codes h (suc n) ≡ latest w codes h n
  miss n e = go (nat_eq (get_or codes n 0 % w) h) refl
    where
      go : (b : Bool) → nat_eq (get_or codes n 0 % w) h ≡ b → cond b (suc n) (latest w codes h n) ≡ latest w codes h n
      go true t = absurd (e ((Decides-eqb (get_or codes n 0 % w) h).0 t))
      go false t = refl

-- ---- a code at the end

module _ (w : ℕ) (codes links heads : List ℕ) (code : ℕ) (some : code % w < w) (wide : length heads ≡ w) (l : AreLinked w codes links)
    (head : (h : ℕ) → h < w → get_or heads h 0 ≡ latest w codes h (length codes)) where
  kept : (k : ℕ) → k < length codes → get_or (codes ++ code ∷ []) k 0 ≡ get_or codes k 0
  kept k b = get_or_append_left codes (code ∷ []) 0 k b

  put : get_or (codes ++ code ∷ []) (length codes) 0 ≡ code
  put = get_or_push codes code 0 (length codes) refl

  linked_before : (k : ℕ) → k < length codes → get_or (links ++ get_or heads (code % w) 0 ∷ []) k 0 ≡ latest w (codes ++ code ∷ []) (get_or (codes ++ code ∷ []) k 0 % w) k
  linked_before k b =
      let in_links : k < length links = omega (arith, l.size) in
      get_or_append_left links (get_or heads (code % w) 0 ∷ []) 0 k in_links ∙ (l.link k b
      ∙ (ap (λ x. latest w codes (x % w) k) (sym (kept k b)) ∙ sym (agrees w codes (get_or (codes ++ code ∷ []) k 0 % w) (codes ++ code ∷ []) k (λ j m. kept j (omega arith)))))

  linked_last : get_or (links ++ get_or heads (code % w) 0 ∷ []) (length codes) 0 ≡ latest w (codes ++ code ∷ []) (get_or (codes ++ code ∷ []) (length codes) 0 % w) (length codes)
  linked_last =
      get_or_push links (get_or heads (code % w) 0) 0 (length codes) l.size ∙ (head (code % w) some
      ∙ (ap (λ x. latest w codes (x % w) (length codes)) (sym put) ∙ sym (agrees w codes (get_or (codes ++ code ∷ []) (length codes) 0 % w) (codes ++ code ∷ []) (length codes) kept)))

  pub linked : AreLinked w (codes ++ code ∷ []) (links ++ get_or heads (code % w) 0 ∷ [])
  linked = record {
    size = length_push links (get_or heads (code % w) 0) ∙ (ap (λ x. x + 1) l.size ∙ sym (length_push codes code));
    link = λ k b. go k b (nat_eq k (length codes)) refl;
  }
    where
      go : (k : ℕ) → k < length (codes ++ code ∷ []) → (b : Bool) → nat_eq k (length codes) ≡ b → get_or (links ++ get_or heads (code % w) 0 ∷ []) k 0 ≡ latest w (codes ++ code ∷ []) (get_or (codes ++ code ∷ []) k 0 % w) k
      go k b true t = subst (λ x. get_or (links ++ get_or heads (code % w) 0 ∷ []) x 0 ≡ latest w (codes ++ code ∷ []) (get_or (codes ++ code ∷ []) x 0 % w) x) (sym ((Decides-eqb k (length codes)).0 t)) linked_last
      go k b false t =
          let ne : k ≢ length codes = (λ q. cc (t, (Decides-eqb k (length codes)).1 q)) in
          linked_before k (omega (arith, length_push codes code))

  pub headed : (h : ℕ) → h < w → get_or (set heads (code % w) (suc (length codes))) h 0 ≡ latest w (codes ++ code ∷ []) h (suc (length codes))
  headed h b = go (nat_eq (code % w) h) refl
    where
      go : (x : Bool) → nat_eq (code % w) h ≡ x → get_or (set heads (code % w) (suc (length codes))) h 0 ≡ latest w (codes ++ code ∷ []) h (suc (length codes))
      go true t =
          let e = (Decides-eqb (code % w) h).0 t in
          let within : code % w < length heads = omega (arith, wide) in
          ap (λ x. get_or (set heads (code % w) (suc (length codes))) x 0) (sym e)
          ∙ (get_or-set_same heads (code % w) (suc (length codes)) 0 within ∙ sym (hit w (codes ++ code ∷ []) h (length codes) (ap (λ x. x % w) put ∙ e)))
      go false t =
          let ne : h ≢ code % w = (λ q. cc (t, (Decides-eqb (code % w) h).1 (sym q))) in
          get_or-set_other heads (code % w) h (suc (length codes)) 0 ne
          ∙ (head h b ∙ (sym (agrees w codes h (codes ++ code ∷ []) (length codes) kept) ∙ sym (miss w (codes ++ code ∷ []) h (length codes) (λ q. ne (sym (sym (ap (λ x. x % w) put) ∙ q))))))

pub pushed : (codes links heads : List ℕ) (code n : ℕ) → IsChained codes links heads → code % length heads < length heads → n ≡ length codes + 1
    → IsChained (codes ++ code ∷ []) (links ++ get_or heads (code % length heads) 0 ∷ []) (set heads (code % length heads) n)
pushed codes links heads code n c some e =
    let same_width : length (set heads (code % length heads) n) ≡ length heads = length-set heads (code % length heads) n in
    let count : n ≡ suc (length codes) = omega arith in
    let count_push : length (codes ++ code ∷ []) ≡ suc (length codes) = omega (arith, length_push codes code) in
    record {
      some = omega (arith, c.some, same_width);
      links_are = subst (λ x. AreLinked x (codes ++ code ∷ []) (links ++ get_or heads (code % length heads) 0 ∷ [])) (sym same_width)
          (linked (length heads) codes links heads code some refl c.links_are c.head);
      head = λ h b. subst (λ x. get_or (set heads (code % length heads) n) h 0 ≡ latest x (codes ++ code ∷ []) h (length (codes ++ code ∷ []))) (sym same_width)
          (subst (λ x. get_or (set heads (code % length heads) n) h 0 ≡ latest (length heads) (codes ++ code ∷ []) h x) (sym count_push)
          (subst (λ x. get_or (set heads (code % length heads) x) h 0 ≡ latest (length heads) (codes ++ code ∷ []) h (suc (length codes))) (sym count)
          (headed (length heads) codes links heads code some refl c.links_are c.head h (omega (arith, same_width)))));
    }

-- ---- the last code away

module _ (w : ℕ) (codes links heads : List ℕ) (code link : ℕ) (some : code % w < w) (wide : length heads ≡ w) (l : AreLinked w (codes ++ code ∷ []) (links ++ link ∷ []))
    (head : (h : ℕ) → h < w → get_or heads h 0 ≡ latest w (codes ++ code ∷ []) h (suc (length codes))) where
  sizes : length links ≡ length codes
  sizes = omega (arith, l.size, length_push links link, length_push codes code)

  kept_back : (k : ℕ) → k < length codes → get_or (codes ++ code ∷ []) k 0 ≡ get_or codes k 0
  kept_back k b = get_or_append_left codes (code ∷ []) 0 k b

  was : get_or (codes ++ code ∷ []) (length codes) 0 ≡ code
  was = get_or_push codes code 0 (length codes) refl

  pub unlinked : AreLinked w codes links
  unlinked = record {
    size = sizes;
    link = λ k b.
        let in_links : k < length links = omega (arith, sizes) in
        let in_all : k < length (codes ++ code ∷ []) = omega (arith, length_push codes code) in
        sym (get_or_append_left links (link ∷ []) 0 k in_links) ∙ (l.link k in_all
        ∙ (ap (λ x. latest w (codes ++ code ∷ []) (x % w) k) (kept_back k b) ∙ agrees w codes (get_or codes k 0 % w) (codes ++ code ∷ []) k (λ j m. kept_back j (omega arith))));
  }

  pub unheaded : (h : ℕ) → h < w → get_or (set heads (code % w) link) h 0 ≡ latest w codes h (length codes)
  unheaded h b = go (nat_eq (code % w) h) refl
    where
      go : (x : Bool) → nat_eq (code % w) h ≡ x → get_or (set heads (code % w) link) h 0 ≡ latest w codes h (length codes)
      go true t =
          let e = (Decides-eqb (code % w) h).0 t in
          let within : code % w < length heads = omega (arith, wide) in
          let in_all : length codes < length (codes ++ code ∷ []) = omega (arith, length_push codes code) in
          ap (λ x. get_or (set heads (code % w) link) x 0) (sym e)
          ∙ (get_or-set_same heads (code % w) link 0 within
          ∙ (sym (get_or_push links link 0 (length codes) sizes) ∙ (l.link (length codes) in_all
          ∙ (ap (λ x. latest w (codes ++ code ∷ []) x (length codes)) (ap (λ x. x % w) was ∙ e) ∙ agrees w codes h (codes ++ code ∷ []) (length codes) kept_back))))
      go false t =
          let ne : h ≢ code % w = (λ q. cc (t, (Decides-eqb (code % w) h).1 (sym q))) in
          get_or-set_other heads (code % w) h link 0 ne
          ∙ (head h b ∙ (miss w (codes ++ code ∷ []) h (length codes) (λ q. ne (sym (sym (ap (λ x. x % w) was) ∙ q))) ∙ agrees w codes h (codes ++ code ∷ []) (length codes) kept_back))

pub popped : (codes links heads : List ℕ) (code link : ℕ) → IsChained (codes ++ code ∷ []) (links ++ link ∷ []) heads → code % length heads < length heads
    → IsChained codes links (set heads (code % length heads) link)
popped codes links heads code link c some =
    let same_width : length (set heads (code % length heads) link) ≡ length heads = length-set heads (code % length heads) link in
    let count_push : length (codes ++ code ∷ []) ≡ suc (length codes) = omega (arith, length_push codes code) in
    let before = λ (h : ℕ) (b : h < length heads). subst (λ x. get_or heads h 0 ≡ latest (length heads) (codes ++ code ∷ []) h x) count_push (c.head h b) in
    record {
      some = omega (arith, c.some, same_width);
      links_are = subst (λ x. AreLinked x codes links) (sym same_width) (unlinked (length heads) codes links heads code link some refl c.links_are before);
      head = λ h b. subst (λ x. get_or (set heads (code % length heads) link) h 0 ≡ latest x codes h (length codes)) (sym same_width)
          (unheaded (length heads) codes links heads code link some refl c.links_are before h (omega (arith, same_width)));
    }

-- ---- down a chain

-- no place from `at` to the start has the code, and `at` is 0 or leads to its remainder
pub record Walks (w : ℕ) (codes : List ℕ) (start code at : ℕ) : Type 0 where
  pub within : at ≤ start
  pub none : (k : ℕ) → at ≤ k → k < start → get_or codes k 0 ≢ code
  pub bucket : 0 < at → get_or codes (at - 1) 0 % w ≡ code % w

pub starts : (codes links : List ℕ) (start code : ℕ) (d : LeadsDown codes links start code) → Walks d.width codes start code start
starts codes links start code d = record {
  within = omega arith;
  none = λ k a b q. omega arith;
  bucket = d.bucket;
}

pub next : (codes links : List ℕ) (start code : ℕ) (d : LeadsDown codes links start code) (old at : ℕ) → (old ≡ 0 → ⊥) → Walks d.width codes start code old → get_or codes (old - 1) 0 ≢ code
    → at ≡ get_or links (old - 1) 0 → Walks d.width codes start code at × (at < old)
next codes links start code d zero at z r ne e = absurd (z refl)
next codes links start code d (suc i) at z r ne e =
    let o : suc i - 1 ≡ i = omega arith in
    let b : i < length codes = omega (arith, r.within, d.within) in
    let low_i = low d.width codes (get_or codes i 0 % d.width) i in
    let f : at ≡ latest d.width codes (get_or codes i 0 % d.width) i = e ∙ (ap (λ x. get_or links x 0) o ∙ d.links_are.link i b) in
    let some_i : 0 < suc i = omega arith in
    let s : get_or codes i 0 % d.width ≡ code % d.width = subst (λ x. get_or codes x 0 % d.width ≡ code % d.width) o (r.bucket some_i) in (
      record {
        within = omega (arith, r.within, low_i, f);
        none = λ k a m q. order k f s (subst (λ x. get_or codes x 0 ≢ code) o ne) r a m q (nat_eq k i) refl;
        bucket = λ p. bucket_at at f s p;
      },
      omega (arith, low_i, f),
    )
  where
    order : (k : ℕ) → at ≡ latest d.width codes (get_or codes i 0 % d.width) i → get_or codes i 0 % d.width ≡ code % d.width → get_or codes i 0 ≢ code → Walks d.width codes start code (suc i)
        → at ≤ k → k < start → get_or codes k 0 ≡ code → (x : Bool) → nat_eq k i ≡ x → ⊥
    order k f s ne r a m q true t = ne (subst (λ x. get_or codes x 0 ≡ code) ((Decides-eqb k i).0 t) q)
    order k f s ne r a m q false t = sides (nat_lt k i) refl
      where
        apart : k ≢ i
        apart p = cc (t, (Decides-eqb k i).1 p)

        sides : (x : Bool) → nat_lt k i ≡ x → ⊥
        sides true u = gap d.width codes (get_or codes i 0 % d.width) i k (omega (arith, f, a)) ((Decides-ltb k i).0 u) (ap (λ x. x % d.width) q ∙ sym s)
        sides false u = let no_less : k < i → ⊥ = (λ p. cc (u, (Decides-ltb k i).1 p)) in let far : k ≢ i = apart in r.none k (omega arith) m q

    bucket_at : (at : ℕ) → at ≡ latest d.width codes (get_or codes i 0 % d.width) i → get_or codes i 0 % d.width ≡ code % d.width → 0 < at → get_or codes (at - 1) 0 % d.width ≡ code % d.width
    bucket_at zero f s p = absurd (omega arith)
    bucket_at (suc j) f s p =
        let o : suc j - 1 ≡ j = omega arith in
        subst (λ x. get_or codes x 0 % d.width ≡ code % d.width) (sym o) (same d.width codes (get_or codes i 0 % d.width) i j (sym f) ∙ s)

-- ---- what is found at the end of a walk

pub found : (w : ℕ) (codes : List ℕ) (start code at : ℕ) → Walks w codes start code at → (at ≡ 0 → ⊥) → get_or codes (at - 1) 0 ≡ code → IsLast codes code start (at - 1)
found w codes start code zero r z e = absurd (z refl)
found w codes start code (suc i) r z e =
    let o : suc i - 1 ≡ i = omega arith in
    record {
      below = omega (arith, r.within);
      is = e;
      last = λ j a b. r.none j (omega (arith, a)) b;
    }

pub exhausted : (w : ℕ) (codes : List ℕ) (start code at : ℕ) → Walks w codes start code at → at ≡ 0 → HasNone codes code start
exhausted w codes start code at r e = λ k b. r.none k (omega (arith, e)) b

-- ---- where a walk begins

lead : (w : ℕ) (codes : List ℕ) (h n at : ℕ) → at ≡ latest w codes h n → 0 < at → get_or codes (at - 1) 0 % w ≡ h
lead w codes h n zero f p = absurd (omega arith)
lead w codes h n (suc j) f p =
    let o : suc j - 1 ≡ j = omega arith in
    subst (λ x. get_or codes x 0 % w ≡ h) (sym o) (same w codes h n j (sym f))

module _ (codes links heads : List ℕ) (c : IsChained codes links heads) where
  pub from_head : (code : ℕ) → code % length heads < length heads → LeadsDown codes links (get_or heads (code % length heads) 0) code
  from_head code some =
      let f = c.head (code % length heads) some in
      let low_n = low (length heads) codes (code % length heads) (length codes) in
      record {
        width = length heads;
        links_are = c.links_are;
        within = omega (arith, f, low_n);
        bucket = lead (length heads) codes (code % length heads) (length codes) _ f;
      }

  pub from_link : (place : ℕ) → place < length codes → LeadsDown codes links (get_or links place 0) (get_or codes place 0)
  from_link place b =
      let f = c.links_are.link place b in
      let low_n = low (length heads) codes (get_or codes place 0 % length heads) place in
      record {
        width = length heads;
        links_are = c.links_are;
        within = omega (arith, f, low_n);
        bucket = lead (length heads) codes (get_or codes place 0 % length heads) place _ f;
      }

  -- above the head no place has the code, and above a link none up to its place
  pub above_head : (code k : ℕ) → code % length heads < length heads → get_or heads (code % length heads) 0 ≤ k → k < length codes → get_or codes k 0 ≢ code
  above_head code k some a b q = gap (length heads) codes (code % length heads) (length codes) k (omega (arith, c.head (code % length heads) some, a)) b (ap (λ x. x % length heads) q)

  pub above_link : (place k : ℕ) → place < length codes → get_or links place 0 ≤ k → k < place → get_or codes k 0 ≢ get_or codes place 0
  above_link place k p a b q = gap (length heads) codes (get_or codes place 0 % length heads) place k (omega (arith, c.links_are.link place p, a)) b (ap (λ x. x % length heads) q)

-- a search up to a bound, where the places from the start of a walk up to it don't have the code
pub none_up_to : (codes : List ℕ) (code start n : ℕ) → ((k : ℕ) → start ≤ k → k < n → get_or codes k 0 ≢ code) → HasNone codes code start → HasNone codes code n
none_up_to codes code start n above none = λ k b q. go k b q (nat_lt k start) refl
  where
    go : (k : ℕ) → k < n → get_or codes k 0 ≡ code → (x : Bool) → nat_lt k start ≡ x → ⊥
    go k b q true t = none k ((Decides-ltb k start).0 t) q
    go k b q false t = let no_less : k < start → ⊥ = (λ p. cc (t, (Decides-ltb k start).1 p)) in above k (omega arith) b q

pub last_up_to : (codes : List ℕ) (code start n : ℕ) (k : ℕ) → ((k : ℕ) → start ≤ k → k < n → get_or codes k 0 ≢ code) → start ≤ n → IsLast codes code start k → IsLast codes code n k
last_up_to codes code start n k above s l = record {
  below = omega (arith, l.below, s);
  is = l.is;
  last = λ j a b q. go j a b q (nat_lt j start) refl;
}
  where
    go : (j : ℕ) → k < j → j < n → get_or codes j 0 ≡ code → (x : Bool) → nat_lt j start ≡ x → ⊥
    go j a b q true t = l.last j a ((Decides-ltb j start).0 t) q
    go j a b q false t = let no_less : j < start → ⊥ = (λ p. cc (t, (Decides-ltb j start).1 p)) in above j (omega arith) b q

-- ---- the same, with what the code reads

module _ (codes links heads cs ls : List ℕ) (c : IsChained codes links heads) (e : cs ≡ codes) (f : ls ≡ links) where
  pub leads_from_head : (code width at : ℕ) → width ≡ length heads → at ≡ get_or heads (code % width) at → LeadsDown cs ls at code
  leads_from_head code width at w a =
      let some : code % length heads < length heads = omega (arith, c.some) in
      let b : code % width < length heads = omega (arith, some, w) in
      let g : at ≡ get_or heads (code % length heads) 0 = a ∙ (get_or_default heads (code % width) at 0 b ∙ ap (λ x. get_or heads (code % x) 0) w) in
      subst (λ x. LeadsDown x ls at code) (sym e) (subst (λ x. LeadsDown codes x at code) (sym f) (subst (λ x. LeadsDown codes links x code) (sym g) (from_head codes links heads c code some)))

  pub last_from_head : (r : Option ℕ) (code width at : ℕ) → width ≡ length heads → at ≡ get_or heads (code % width) at → MatchOption r (HasNone cs code at) (IsLast cs code at)
      → MatchOption r (HasNone codes code (length codes)) (IsLast codes code (length codes))
  last_from_head r code width at w a h =
      let some : code % length heads < length heads = omega (arith, c.some) in
      let b : code % width < length heads = omega (arith, some, w) in
      let g : at ≡ get_or heads (code % length heads) 0 = a ∙ (get_or_default heads (code % width) at 0 b ∙ ap (λ x. get_or heads (code % x) 0) w) in
      go r (λ k l m. above_head codes links heads c code k some (omega (arith, g, l)) m)
      (omega (arith, g, low (length heads) codes (code % length heads) (length codes), c.head (code % length heads) some))
      (subst (λ x. MatchOption r (HasNone x code at) (IsLast x code at)) e h)
    where
      go : (r : Option ℕ) → ((k : ℕ) → at ≤ k → k < length codes → get_or codes k 0 ≢ code) → at ≤ length codes → MatchOption r (HasNone codes code at) (IsLast codes code at)
          → MatchOption r (HasNone codes code (length codes)) (IsLast codes code (length codes))
      go None above b h = none_up_to codes code at (length codes) above h
      go (Some k) above b h = last_up_to codes code at (length codes) k above b h

  pub leads_from_link : (place at code : ℕ) → place < length codes → at ≡ get_or links place at → code ≡ get_or codes place code → LeadsDown cs ls at code
  leads_from_link place at code b a d =
      let in_links : place < length links = omega (arith, c.links_are.size) in
      let g : at ≡ get_or links place 0 = a ∙ get_or_default links place at 0 in_links in
      let i : code ≡ get_or codes place 0 = d ∙ get_or_default codes place code 0 b in
      subst (λ x. LeadsDown x ls at code) (sym e) (subst (λ x. LeadsDown codes x at code) (sym f)
      (subst (λ x. LeadsDown codes links x code) (sym g) (subst (λ x. LeadsDown codes links (get_or links place 0) x) (sym i) (from_link codes links heads c place b))))

  pub last_from_link : (r : Option ℕ) (place at code : ℕ) → place < length codes → at ≡ get_or links place at → code ≡ get_or codes place code → MatchOption r (HasNone cs code at) (IsLast cs code at)
      → MatchOption r (HasNone codes (get_or codes place 0) place) (IsLast codes (get_or codes place 0) place)
  last_from_link r place at code b a d h =
      let in_links : place < length links = omega (arith, c.links_are.size) in
      let g : at ≡ get_or links place 0 = a ∙ get_or_default links place at 0 in_links in
      let i : code ≡ get_or codes place 0 = d ∙ get_or_default codes place code 0 b in
      go r (λ k l m. above_link codes links heads c place k b (omega (arith, g, l)) m)
      (omega (arith, g, low (length heads) codes (get_or codes place 0 % length heads) place, c.links_are.link place b))
      (subst (λ y. MatchOption r (HasNone codes y at) (IsLast codes y at)) i (subst (λ x. MatchOption r (HasNone x code at) (IsLast x code at)) e h))
    where
      go : (r : Option ℕ) → ((k : ℕ) → at ≤ k → k < place → get_or codes k 0 ≢ get_or codes place 0) → at ≤ place → MatchOption r (HasNone codes (get_or codes place 0) at) (IsLast codes (get_or codes place 0) at)
          → MatchOption r (HasNone codes (get_or codes place 0) place) (IsLast codes (get_or codes place 0) place)
      go None above b h = none_up_to codes (get_or codes place 0) at place above h
      go (Some k) above b h = last_up_to codes (get_or codes place 0) at place k above b h

module _ (codes links heads : List ℕ) (c : IsChained codes links heads) where
  pub pushed_by : (cs ls : List ℕ) (code width at count : ℕ) → cs ≡ codes ++ code ∷ [] → ls ≡ links ++ at ∷ [] → width ≡ length heads → at ≡ get_or heads (code % width) at → count ≡ length cs
      → IsChained cs ls (set heads (code % width) count)
  pushed_by cs ls code width at count e f w a n =
      let some : code % length heads < length heads = omega (arith, c.some) in
      let b : code % width < length heads = omega (arith, some, w) in
      let g : at ≡ get_or heads (code % length heads) 0 = a ∙ (get_or_default heads (code % width) at 0 b ∙ ap (λ x. get_or heads (code % x) 0) w) in
      let m : count ≡ length codes + 1 = n ∙ (ap length e ∙ length_push codes code) in
      subst (λ x. IsChained x ls (set heads (code % width) count)) (sym e) (subst (λ x. IsChained (codes ++ code ∷ []) x (set heads (code % width) count)) (sym (f ∙ ap (λ x. links ++ x ∷ []) g))
      (subst (λ x. IsChained (codes ++ code ∷ []) (links ++ get_or heads (code % length heads) 0 ∷ []) (set heads (code % x) count)) (sym w) (pushed codes links heads code count c some m)))

  pub popped_by : (cs ls : List ℕ) (code link width : ℕ) → codes ≡ cs ++ code ∷ [] → links ≡ ls ++ link ∷ [] → width ≡ length heads → IsChained cs ls (set heads (code % width) link)
  popped_by cs ls code link width e f w =
      let some : code % length heads < length heads = omega (arith, c.some) in
      subst (λ x. IsChained cs ls (set heads (code % x) link)) (sym w)
      (popped cs ls heads code link (subst (λ x. IsChained (cs ++ code ∷ []) x heads) f (subst (λ x. IsChained x links heads) e c)) some)

-- ---- what a caller knows, of the fields

pub room_left : (inside now : Places) → inside ≡ now → length now.codes < now.room → length inside.codes < inside.room
room_left inside now e h = subst (λ (v : Places). length v.codes < v.room) (sym e) h

pub place_there : (place : ℕ) (inside now : Places) → inside ≡ now → place < length now.codes → place < length inside.codes
place_there place inside now e h = subst (λ (v : Places). place < length v.codes) (sym e) h
