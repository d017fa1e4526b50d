-- Finite maps: reading after writing, what a write keeps, sums, and equality by reads.
use Rattle.std.proofs.Common.{ℕ, zero, suc, ◌+◌, ◌<◌, ◌≤◌, Bool, true, false, cond, ◌≡◌, ◌⊎◌, inl, inr, refl, sym, ap, ap₂, ◌∙◌, subst, arith}
use Rattle.std.specs.Ordering.{int_eq}
use Rattle.std.proofs.lemmas.Int.{ints}
use lib.IntN.{ℤ, pos, negsuc, ◌+ℤ◌}
use lib.Signed.{◌≤ℤ◌, ◌<ℤ◌, lt_z}
use Rattle.sv_term.specs.Sorts.{Sort, ArrSort}
use Rattle.sv_term.specs.Values.{Value, Number, Flag, Array, Tuple, Entries, Empty, Entry, same_value, number, entry, read, without, with_entry, put, write, mixed, total, sum, default_of, entries_of, as_nat, Each, IsAbove, IsRising, IsOther, IsOf, HasZero, IsZeroed}
use Rattle.sv_term.specs.TermLaws.{ArraysAreTheirReads}
use Rattle.sv_term.proofs.Same.{same_int, int_same, int_other, value_is, value_self}

-- ---- order

pub lt_of : (i j : ℤ) → lt_z i j ≡ true → i <ℤ j
lt_of i j e = omega (arith, ints)

pub above_of : (i j : ℤ) → lt_z i j ≡ false → int_eq i j ≡ false → j <ℤ i
above_of i j e f = go (lt_z j i) refl
  where
    go : (b : Bool) → lt_z j i ≡ b → j <ℤ i
    go true g = omega (arith, ints)
    go false g = absurd (let bad : i ≡ j = omega (arith, ints) in let worse = int_same i j bad in cc (worse, f))

less_other : (i j : ℤ) → i <ℤ j → i ≡ j → ⊥
less_other i j h e = omega (arith, ints)

less_less : (i j k : ℤ) → i <ℤ j → j <ℤ k → i <ℤ k
less_less i j k h g = omega (arith, ints)

pub not_true : (b : Bool) → b ≡ false → b ≡ true → ⊥
not_true b e f = cc (e, f)

pub differ : (i j : ℤ) → int_eq i j ≡ false → i ≡ j → ⊥
differ i j e f = not_true (int_eq i j) e (int_same i j f)

-- ---- entries

above_less : (i k : ℤ) (es : Entries) → i <ℤ k → IsAbove k es → IsAbove i es
above_less i k Empty h a = tt
above_less i k (Entry j v es) h a = (less_less i k j h a.0, above_less i k es h a.1)

above_same : (i k : ℤ) (es : Entries) → i ≡ k → IsAbove k es → IsAbove i es
above_same i k es e a = subst (λ z. IsAbove z es) (sym e) a

pub entry_above : (k : ℤ) (es : Entries) (d : Value) → IsAbove k es → entry k es d ≡ d
entry_above k Empty d a = refl
entry_above k (Entry j v es) d a = rw (int_other k j (less_other k j a.0)) (entry_above k es d a.1)

entry_without_same : (i : ℤ) (es : Entries) (d : Value) → IsRising es → entry i (without i es) d ≡ d
entry_without_same i Empty d r = refl
entry_without_same i (Entry j v es) d r = go (int_eq i j) refl (entry_without_same i es d r.1)
  where
    go : (b : Bool) → int_eq i j ≡ b → entry i (without i es) d ≡ d → entry i (cond b es (Entry j v (without i es))) d ≡ d
    go true e h = entry_above i es d (above_same i j es (same_int i j e) r.0)
    go false e h = rw e h

entry_without_other : (i k : ℤ) (es : Entries) (d : Value) → (i ≡ k → ⊥) → entry k (without i es) d ≡ entry k es d
entry_without_other i k Empty d n = refl
entry_without_other i k (Entry j v es) d n = go (int_eq i j) refl (entry_without_other i k es d n)
  where
    go : (b : Bool) → int_eq i j ≡ b → entry k (without i es) d ≡ entry k es d → entry k (cond b es (Entry j v (without i es))) d ≡ cond (int_eq k j) v (entry k es d)
    go true e h = rw (int_other k j (λ f. n (same_int i j e ∙ sym f))) refl
    go false e h = ap (λ z. cond (int_eq k j) v z) h

entry_with_same : (i : ℤ) (v : Value) (es : Entries) (d : Value) → entry i (with_entry i v es) d ≡ v
entry_with_same i v Empty d = rw (int_same i i refl) refl
entry_with_same i v (Entry j w es) d = go (lt_z i j) (int_eq i j) refl (entry_with_same i v es d)
  where
    go : (b c : Bool) → int_eq i j ≡ c → entry i (with_entry i v es) d ≡ v → entry i (cond b (Entry i v (Entry j w es)) (cond c (Entry i v es) (Entry j w (with_entry i v es)))) d ≡ v
    go true c e h = rw (int_same i i refl) refl
    go false true e h = rw (int_same i i refl) refl
    go false false e h = rw e h

entry_with_other : (i k : ℤ) (v : Value) (es : Entries) (d : Value) → (i ≡ k → ⊥) → entry k (with_entry i v es) d ≡ entry k es d
entry_with_other i k v Empty d n = rw (int_other k i (λ f. n (sym f))) refl
entry_with_other i k v (Entry j w es) d n = go (lt_z i j) (int_eq i j) refl (entry_with_other i k v es d n)
  where
    go : (b c : Bool) → int_eq i j ≡ c → entry k (with_entry i v es) d ≡ entry k es d
        → entry k (cond b (Entry i v (Entry j w es)) (cond c (Entry i v es) (Entry j w (with_entry i v es)))) d ≡ cond (int_eq k j) w (entry k es d)
    go true c e h = rw (int_other k i (λ f. n (sym f))) refl
    go false true e h = rw (int_other k i (λ f. n (sym f)), int_other k j (λ f. n (same_int i j e ∙ sym f))) refl
    go false false e h = ap (λ z. cond (int_eq k j) w z) h

above_without : (k i : ℤ) (es : Entries) → IsAbove k es → IsAbove k (without i es)
above_without k i Empty a = tt
above_without k i (Entry j v es) a = go (int_eq i j) (above_without k i es a.1)
  where
    go : (b : Bool) → IsAbove k (without i es) → IsAbove k (cond b es (Entry j v (without i es)))
    go true h = a.1
    go false h = (a.0, h)

rising_without : (i : ℤ) (es : Entries) → IsRising es → IsRising (without i es)
rising_without i Empty r = tt
rising_without i (Entry j v es) r = go (int_eq i j) (rising_without i es r.1)
  where
    go : (b : Bool) → IsRising (without i es) → IsRising (cond b es (Entry j v (without i es)))
    go true h = r.1
    go false h = (above_without j i es r.0, h)

each_without : (P : Value → Type 0) (i : ℤ) (es : Entries) → Each P es → Each P (without i es)
each_without P i Empty r = tt
each_without P i (Entry j v es) r = go (int_eq i j) (each_without P i es r.1)
  where
    go : (b : Bool) → Each P (without i es) → Each P (cond b es (Entry j v (without i es)))
    go true h = r.1
    go false h = (r.0, h)

above_with : (k i : ℤ) (v : Value) (es : Entries) → k <ℤ i → IsAbove k es → IsAbove k (with_entry i v es)
above_with k i v Empty l a = (l, tt)
above_with k i v (Entry j w es) l a = go (lt_z i j) (int_eq i j) (above_with k i v es l a.1)
  where
    go : (b c : Bool) → IsAbove k (with_entry i v es) → IsAbove k (cond b (Entry i v (Entry j w es)) (cond c (Entry i v es) (Entry j w (with_entry i v es))))
    go true c h = (l, a)
    go false true h = (l, a.1)
    go false false h = (a.0, h)

rising_with : (i : ℤ) (v : Value) (es : Entries) → IsRising es → IsRising (with_entry i v es)
rising_with i v Empty r = (tt, tt)
rising_with i v (Entry j w es) r = go (lt_z i j) (int_eq i j) refl refl (rising_with i v es r.1)
  where
    go : (b c : Bool) → lt_z i j ≡ b → int_eq i j ≡ c → IsRising (with_entry i v es) → IsRising (cond b (Entry i v (Entry j w es)) (cond c (Entry i v es) (Entry j w (with_entry i v es))))
    go true c e f h = ((lt_of i j e, above_less i j es (lt_of i j e) r.0), r)
    go false true e f h = (above_same i j es (same_int i j f) r.0, r.1)
    go false false e f h = (above_with j i v es (above_of i j e f) r.0, h)

each_with : (P : Value → Type 0) (i : ℤ) (v : Value) (es : Entries) → P v → Each P es → Each P (with_entry i v es)
each_with P i v Empty p r = (p, tt)
each_with P i v (Entry j w es) p r = go (lt_z i j) (int_eq i j) (each_with P i v es p r.1)
  where
    go : (b c : Bool) → Each P (with_entry i v es) → Each P (cond b (Entry i v (Entry j w es)) (cond c (Entry i v es) (Entry j w (with_entry i v es))))
    go true c h = (p, r)
    go false true h = (p, r.1)
    go false false h = (r.0, h)

pub each_entry : (P : Value → Type 0) (i : ℤ) (es : Entries) (d : Value) → P d → Each P es → P (entry i es d)
each_entry P i Empty d p r = p
each_entry P i (Entry j v es) d p r = go (int_eq i j) (each_entry P i es d p r.1)
  where
    go : (b : Bool) → P (entry i es d) → P (cond b v (entry i es d))
    go true h = r.0
    go false h = h

each_put : (P : Value → Type 0) (d : Value) (i : ℤ) (v : Value) (es : Entries) → (same_value v d ≡ false → P v) → Each P es → Each P (put d i v es)
each_put P d i v es p r = go (same_value v d) refl
  where
    go : (b : Bool) → same_value v d ≡ b → Each P (cond b (without i es) (with_entry i v es))
    go true e = each_without P i es r
    go false e = each_with P i v es (p e) r

rising_put : (d : Value) (i : ℤ) (v : Value) (es : Entries) → IsRising es → IsRising (put d i v es)
rising_put d i v es r = go (same_value v d)
  where
    go : (b : Bool) → IsRising (cond b (without i es) (with_entry i v es))
    go true = rising_without i es r
    go false = rising_with i v es r

-- ---- arrays

pub write_of : (s : Sort) (i : ℤ) (v a : Value) → IsOf (ArrSort s) a → IsOf s v → IsOf (ArrSort s) (write i v a)
write_of s i v (Array d es) h k = (h.0, each_put (IsOf s) d i v es (λ e. k) h.1, rising_put d i v es h.2, each_put (IsOther d) d i v es (λ e. e) h.3)
write_of s i v (Number z) h k = absurd h
write_of s i v (Flag b) h k = absurd h
write_of s i v (Tuple vs) h k = absurd h

pub read_of : (s : Sort) (i : ℤ) (a : Value) → IsOf (ArrSort s) a → IsOf s (read i a)
read_of s i (Array d es) h = each_entry (IsOf s) i es d h.0 h.1
read_of s i (Number z) h = absurd h
read_of s i (Flag b) h = absurd h
read_of s i (Tuple vs) h = absurd h

pub read_same : (s : Sort) (i : ℤ) (v a : Value) → IsOf (ArrSort s) a → read i (write i v a) ≡ v
read_same s i v (Array d es) h = go (same_value v d) refl
  where
    go : (b : Bool) → same_value v d ≡ b → entry i (cond b (without i es) (with_entry i v es)) d ≡ v
    go true e = entry_without_same i es d h.2 ∙ sym (value_is v d e)
    go false e = entry_with_same i v es d
read_same s i v (Number z) h = absurd h
read_same s i v (Flag b) h = absurd h
read_same s i v (Tuple vs) h = absurd h

pub read_other : (i j : ℤ) (v a : Value) → (i ≡ j → ⊥) → read j (write i v a) ≡ read j a
read_other i j v a n = go (same_value v (default_of a))
  where
    go : (b : Bool) → entry j (cond b (without i (entries_of a)) (with_entry i v (entries_of a))) (default_of a) ≡ entry j (entries_of a) (default_of a)
    go true = entry_without_other i j (entries_of a) (default_of a) n
    go false = entry_with_other i j v (entries_of a) (default_of a) n

-- ---- mixes

pub mixed_of : (s : Sort) (n : ℕ) (a b : Value) → IsOf (ArrSort s) a → IsOf (ArrSort s) b → IsOf (ArrSort s) (mixed n a b)
mixed_of s zero a b h k = k
mixed_of s (suc n) a b h k = write_of s (pos n) (read (pos n) a) (mixed n a b) (mixed_of s n a b h k) (read_of s (pos n) a h)

pub mixed_out : (n : ℕ) (j : ℤ) (a b : Value) → ((k : ℕ) → k < n → pos k ≡ j → ⊥) → read j (mixed n a b) ≡ read j b
mixed_out zero j a b h = refl
mixed_out (suc n) j a b h =
    read_other (pos n) j (read (pos n) a) (mixed n a b) (h n (omega arith)) ∙ mixed_out n j a b (λ k l. h k (omega arith))

pub mixed_in : (s : Sort) (n k : ℕ) (a b : Value) → IsOf (ArrSort s) a → IsOf (ArrSort s) b → k < n → read (pos k) (mixed n a b) ≡ read (pos k) a
mixed_in s zero k a b h g l = absurd (omega arith)
mixed_in s (suc n) k a b h g l = go (int_eq (pos n) (pos k)) refl (mixed_in s n k a b h g)
  where
    below : (n k : ℕ) → k < suc n → (k < n) ⊎ (n ≡ k)
    below n k l = grind arith

    smaller : (n k : ℕ) → k < suc n → (pos n ≡ pos k → ⊥) → k < n
    smaller n k l ne = elim (below n k l) [ inl p ↦ p | inr q ↦ absurd (ne (ap pos q)) ]

    go : (c : Bool) → int_eq (pos n) (pos k) ≡ c → (k < n → read (pos k) (mixed n a b) ≡ read (pos k) a) → read (pos k) (mixed (suc n) a b) ≡ read (pos k) a
    go true e ih =
        let q : pos n ≡ pos k = same_int (pos n) (pos k) e in
        subst (λ z. read z (mixed (suc n) a b) ≡ read z a) q (read_same s (pos n) (read (pos n) a) (mixed n a b) (mixed_of s n a b h g))
    go false e ih =
        let ne : pos n ≡ pos k → ⊥ = differ (pos n) (pos k) e in
        read_other (pos n) (pos k) (read (pos n) a) (mixed n a b) ne ∙ ih (smaller n k l ne)

-- ---- sums

shuffled : (x y z : ℤ) → x +ℤ (y +ℤ z) ≡ y +ℤ (x +ℤ z)
shuffled x y z = omega (arith, ints)

total_without : (i : ℤ) (es : Entries) → total (without i es) +ℤ number (entry i es (Number (pos 0))) ≡ total es
total_without i Empty = refl
total_without i (Entry j v es) = go (int_eq i j) (total_without i es)
  where
    turned : (x y : ℤ) → x +ℤ y ≡ y +ℤ x
    turned x y = omega (arith, ints)

    moved : (x y z w : ℤ) → y +ℤ z ≡ w → (x +ℤ y) +ℤ z ≡ x +ℤ w
    moved x y z w e = omega (arith, ints)

    go : (b : Bool) → total (without i es) +ℤ number (entry i es (Number (pos 0))) ≡ total es
        → total (cond b es (Entry j v (without i es))) +ℤ number (cond b v (entry i es (Number (pos 0)))) ≡ number v +ℤ total es
    go true h = turned (total es) (number v)
    go false h = moved (number v) (total (without i es)) (number (entry i es (Number (pos 0)))) (total es) h

total_with : (i : ℤ) (v : Value) (es : Entries) → IsRising es → total (with_entry i v es) +ℤ number (entry i es (Number (pos 0))) ≡ total es +ℤ number v
total_with i v Empty r = turned (number v)
  where
    turned : (y : ℤ) → (y +ℤ pos 0) +ℤ pos 0 ≡ pos 0 +ℤ y
    turned y = omega (arith, ints)
total_with i v (Entry j w es) r = go (lt_z i j) (int_eq i j) refl refl (total_with i v es r.1)
  where
    first : (x y z w : ℤ) → w ≡ pos 0 → (x +ℤ (y +ℤ z)) +ℤ w ≡ (y +ℤ z) +ℤ x
    first x y z w e = omega (arith, ints)

    swapped : (x y z : ℤ) → (x +ℤ z) +ℤ y ≡ (y +ℤ z) +ℤ x
    swapped x y z = omega (arith, ints)

    moved : (x y z w u : ℤ) → y +ℤ z ≡ w +ℤ u → (x +ℤ y) +ℤ z ≡ (x +ℤ w) +ℤ u
    moved x y z w u e = omega (arith, ints)

    go : (b c : Bool) → lt_z i j ≡ b → int_eq i j ≡ c → total (with_entry i v es) +ℤ number (entry i es (Number (pos 0))) ≡ total es +ℤ number v
        → total (cond b (Entry i v (Entry j w es)) (cond c (Entry i v es) (Entry j w (with_entry i v es)))) +ℤ number (cond c w (entry i es (Number (pos 0)))) ≡ (number w +ℤ total es) +ℤ number v
    go true true e f h = absurd (less_other i j (lt_of i j e) (same_int i j f))
    go true false e f h = first (number v) (number w) (total es) (number (entry i es (Number (pos 0)))) (ap number (entry_above i es (Number (pos 0)) (above_less i j es (lt_of i j e) r.0)))
    go false true e f h = swapped (number v) (number w) (total es)
    go false false e f h = moved (number w) (total (with_entry i v es)) (number (entry i es (Number (pos 0)))) (total es) (number v) h

total_low : (es : Entries) → Each (λ v. pos 0 ≤ℤ number v) es → pos 0 ≤ℤ total es
total_low Empty h = omega (arith, ints)
total_low (Entry i v es) h = go (number v) (total es) h.0 (total_low es h.1)
  where
    go : (x y : ℤ) → pos 0 ≤ℤ x → pos 0 ≤ℤ y → pos 0 ≤ℤ (x +ℤ y)
    go x y p q = omega (arith, ints)

-- ---- equality by reads

bound : Entries → ℕ
bound Empty = 0
bound (Entry i v es) = suc (as_nat i) + bound es

entry_beyond : (n : ℕ) (es : Entries) (d : Value) → bound es ≤ n → entry (pos n) es d ≡ d
unfolding bound
entry_beyond n Empty d h = refl
entry_beyond n (Entry i v es) d h = rw (int_other (pos n) i (apart n i (bound es) h)) (entry_beyond n es d (rest n (as_nat i) (bound es) h))
  where
    apart : (n : ℕ) (i : ℤ) (b : ℕ) → suc (as_nat i) + b ≤ n → pos n ≡ i → ⊥
    apart n (pos k) b l e = omega (arith, ints)
    apart n (negsuc k) b l e = omega (arith, ints)

    rest : (n k b : ℕ) → suc k + b ≤ n → b ≤ n
    rest n k b l = omega arith

not_default : (d v : Value) → same_value v d ≡ false → v ≡ d → ⊥
not_default d v e f = not_true (same_value v d) e (subst (λ z. same_value z d ≡ true) (sym f) (value_self d))

entry_here : (i : ℤ) (v : Value) (es : Entries) (d : Value) → entry i (Entry i v es) d ≡ v
entry_here i v es d = rw (int_same i i refl) refl

entry_there : (k i : ℤ) (v : Value) (es : Entries) (d : Value) → (k ≡ i → ⊥) → entry k (Entry i v es) d ≡ entry k es d
entry_there k i v es d n = rw (int_other k i n) refl

pub entries_by_reads : (d : Value) (es fs : Entries) → IsRising es → IsRising fs → Each (IsOther d) es → Each (IsOther d) fs
    → ((i : ℤ) → entry i es d ≡ entry i fs d) → es ≡ fs
entries_by_reads d Empty Empty r q a b h = refl
entries_by_reads d Empty (Entry j w fs) r q a b h = absurd (not_default d w b.0 (sym (h j ∙ entry_here j w fs d)))
entries_by_reads d (Entry i u es) Empty r q a b h = absurd (not_default d u a.0 (sym (entry_here i u es d) ∙ h i))
entries_by_reads d (Entry i u es) (Entry j w fs) r q a b h = go (lt_z i j) (int_eq i j) refl refl (entries_by_reads d es fs r.1 q.1 a.1 b.1)
  where
    rest : i ≡ j → (k : ℤ) (c : Bool) → int_eq k i ≡ c → entry k es d ≡ entry k fs d
    rest e k true f =
        let ki : k ≡ i = same_int k i f in
        entry_above k es d (above_same k i es ki r.0) ∙ sym (entry_above k fs d (above_same k j fs (ki ∙ e) q.0))
    rest e k false f =
        sym (entry_there k i u es d (differ k i f)) ∙ (h k ∙ entry_there k j w fs d (λ g. differ k i f (g ∙ sym e)))

    go : (b c : Bool) → lt_z i j ≡ b → int_eq i j ≡ c → (((k : ℤ) → entry k es d ≡ entry k fs d) → es ≡ fs) → Entry i u es ≡ Entry j w fs
    go true c e f ih =
        absurd (not_default d u a.0 (sym (entry_here i u es d) ∙ (h i ∙ entry_above i (Entry j w fs) d (lt_of i j e, above_less i j fs (lt_of i j e) q.0))))
    go false true e f ih =
        let ij : i ≡ j = same_int i j f in
        let uw : u ≡ w = sym (entry_here i u es d) ∙ (h i ∙ (ap (λ z. entry z (Entry j w fs) d) ij ∙ entry_here j w fs d)) in
        let rs : es ≡ fs = ih (λ k. rest ij k (int_eq k i) refl) in
        cc (ij, uw, rs)
    go false false e f ih =
        let ji : j <ℤ i = above_of i j e f in
        absurd (not_default d w b.0 (sym (entry_here j w fs d) ∙ (sym (h j) ∙ entry_above j (Entry i u es) d (ji, above_less j i es ji r.0))))

-- two arrays that read the same at every index are one
pub arrays_by_reads : (s : Sort) (a b : Value) → IsOf (ArrSort s) a → IsOf (ArrSort s) b → ((i : ℤ) → read i a ≡ read i b) → a ≡ b
arrays_by_reads s (Array d es) (Array f fs) h k r =
    ap₂ Array de (entries_by_reads d es fs h.2 k.2 h.3 (subst (λ z. Each (IsOther z) fs) (sym de) k.3) (λ i. r i ∙ ap (entry i fs) (sym de)))
  where
    left : (a b : ℕ) → a ≤ a + b
    left a b = omega arith

    right : (a b : ℕ) → b ≤ a + b
    right a b = omega arith

    de : d ≡ f
    de = sym (entry_beyond (bound es + bound fs) es d (left (bound es) (bound fs))) ∙ (r (pos (bound es + bound fs)) ∙ entry_beyond (bound es + bound fs) fs f (right (bound es) (bound fs)))
arrays_by_reads s (Number z) b h k r = absurd h
arrays_by_reads s (Flag c) b h k r = absurd h
arrays_by_reads s (Tuple vs) b h k r = absurd h
arrays_by_reads s (Array d es) (Number z) h k r = absurd k
arrays_by_reads s (Array d es) (Flag c) h k r = absurd k
arrays_by_reads s (Array d es) (Tuple vs) h k r = absurd k

pub arrays_are_their_reads : ArraysAreTheirReads
arrays_are_their_reads s a b h k = (
  (λ e i. ap (read i) (value_is a b e)),
  (λ r. subst (λ z. same_value a z ≡ true) (arrays_by_reads s a b h k r) (value_self a)),
)

-- ---- the sum of an array of numbers

pub sum_is : (a : Value) → default_of a ≡ Number (pos 0) → sum a ≡ total (entries_of a)
sum_is a e = ap (λ b. cond b (total (entries_of a)) (pos 0)) (subst (λ z. same_value z (Number (pos 0)) ≡ true) (sym e) refl)

rising_of : (s : Sort) (a : Value) → IsOf (ArrSort s) a → IsRising (entries_of a)
rising_of s (Array d es) h = h.2
rising_of s (Number z) h = absurd h
rising_of s (Flag b) h = absurd h
rising_of s (Tuple vs) h = absurd h

total_put : (i : ℤ) (v : Value) (es : Entries) → IsRising es → total (put (Number (pos 0)) i v es) +ℤ number (entry i es (Number (pos 0))) ≡ total es +ℤ number v
total_put i v es r = go (same_value v (Number (pos 0))) refl
  where
    nothing : (x y : ℤ) → y ≡ pos 0 → x ≡ x +ℤ y
    nothing x y e = omega (arith, ints)

    go : (b : Bool) → same_value v (Number (pos 0)) ≡ b → total (cond b (without i es) (with_entry i v es)) +ℤ number (entry i es (Number (pos 0))) ≡ total es +ℤ number v
    go true e = total_without i es ∙ nothing (total es) (number v) (ap number (value_is v (Number (pos 0)) e))
    go false e = total_with i v es r

-- a write takes the old number out of the sum and puts the new one in
pub sum_write : (s : Sort) (i : ℤ) (v a : Value) → IsOf (ArrSort s) a → default_of a ≡ Number (pos 0) → sum (write i v a) +ℤ number (read i a) ≡ sum a +ℤ number v
sum_write s i v a h e =
    rw (sum_is (write i v a) e, sum_is a e)
    (subst (λ d. total (put d i v (entries_of a)) +ℤ number (entry i (entries_of a) d) ≡ total (entries_of a) +ℤ number v) (sym e) (total_put i v (entries_of a) (rising_of s a h)))

pub sum_low : (s : Sort) (a : Value) → IsOf (ArrSort s) a → default_of a ≡ Number (pos 0) → ((v : Value) → IsOf s v → pos 0 ≤ℤ number v) → pos 0 ≤ℤ sum a
sum_low s (Array d es) h e low = rw (sum_is (Array d es) e) (total_low es (each_low es h.1))
  where
    each_low : (es : Entries) → Each (IsOf s) es → Each (λ v. pos 0 ≤ℤ number v) es
    each_low Empty k = tt
    each_low (Entry i v es) k = (low v k.0, each_low es k.1)
sum_low s (Number z) h e low = absurd h
sum_low s (Flag b) h e low = absurd h
sum_low s (Tuple vs) h e low = absurd h

pub sum_over_one : (s : Sort) (i : ℤ) (a : Value) → IsOf (ArrSort s) a → default_of a ≡ Number (pos 0) → IsOf s (Number (pos 0)) → ((v : Value) → IsOf s v → pos 0 ≤ℤ number v) → number (read i a) ≤ℤ sum a
sum_over_one s i a h e z low =
    go (sum (write i (Number (pos 0)) a)) (number (read i a)) (sum a) (sum_write s i (Number (pos 0)) a h e)
    (sum_low s (write i (Number (pos 0)) a) (write_of s i (Number (pos 0)) a h z) e low)
  where
    go : (x y w : ℤ) → x +ℤ y ≡ w +ℤ pos 0 → pos 0 ≤ℤ x → y ≤ℤ w
    go x y w f l = omega (arith, ints)

pub sum_over_two : (s : Sort) (i j : ℤ) (a : Value) → (i ≡ j → ⊥) → IsOf (ArrSort s) a → default_of a ≡ Number (pos 0) → IsOf s (Number (pos 0)) → ((v : Value) → IsOf s v → pos 0 ≤ℤ number v)
    → (number (read i a) +ℤ number (read j a)) ≤ℤ sum a
sum_over_two s i j a n h e z low =
    go (sum (write i (Number (pos 0)) a)) (number (read i a)) (number (read j a)) (sum a) (sum_write s i (Number (pos 0)) a h e)
    (subst (λ x. number x ≤ℤ sum (write i (Number (pos 0)) a)) (read_other i j (Number (pos 0)) a n)
    (sum_over_one s j (write i (Number (pos 0)) a) (write_of s i (Number (pos 0)) a h z) e z low))
  where
    go : (x y k w : ℤ) → x +ℤ y ≡ w +ℤ pos 0 → k ≤ℤ x → (y +ℤ k) ≤ℤ w
    go x y k w f l = omega (arith, ints)

-- ---- arrays of numbers have the default 0, at any depth

pub zeroed_write : (s : Sort) (i : ℤ) (v a : Value) → IsZeroed (ArrSort s) a → IsZeroed s v → IsZeroed (ArrSort s) (write i v a)
zeroed_write s i v (Array d es) h k = (h.0, h.1, each_put (IsZeroed s) d i v es (λ e. k) h.2)
zeroed_write s i v (Number z) h k = absurd h
zeroed_write s i v (Flag b) h k = absurd h
zeroed_write s i v (Tuple vs) h k = absurd h

pub zeroed_read : (s : Sort) (i : ℤ) (a : Value) → IsZeroed (ArrSort s) a → IsZeroed s (read i a)
zeroed_read s i (Array d es) h = each_entry (IsZeroed s) i es d h.1 h.2
zeroed_read s i (Number z) h = absurd h
zeroed_read s i (Flag b) h = absurd h
zeroed_read s i (Tuple vs) h = absurd h

pub zeroed_mixed : (s : Sort) (n : ℕ) (a b : Value) → IsZeroed (ArrSort s) a → IsZeroed (ArrSort s) b → IsZeroed (ArrSort s) (mixed n a b)
zeroed_mixed s zero a b h k = k
zeroed_mixed s (suc n) a b h k = zeroed_write s (pos n) (read (pos n) a) (mixed n a b) (zeroed_mixed s n a b h k) (zeroed_read s (pos n) a h)

pub zero_default : (s : Sort) (a : Value) → IsZeroed (ArrSort s) a → HasZero s (default_of a)
zero_default s (Array d es) h = h.0
zero_default s (Number z) h = absurd h
zero_default s (Flag b) h = absurd h
zero_default s (Tuple vs) h = absurd h
