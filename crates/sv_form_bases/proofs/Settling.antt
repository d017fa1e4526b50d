-- What grows in rounds and is true of keys alone has settled after as many rounds as there are keys.
use Rattle.std.proofs.Common.{ℕ, zero, suc, ◌≡◌, ◌∙◌, ◌+◌, ◌≤◌, ◌⊎◌, inl, inr, Bool, true, false, cond, List, [], ◌∷◌, length, refl, sym, ap, subst, arith}
use Rattle.std.proofs.lemmas.Bool.{cases_lt, cases_Bool, false_from_ne_true, false≢true}

abbrev pub Among : List ℕ → ℕ → Type 0
Among [] b = ⊥
Among (k ∷ ks) b = (k ≡ b) ⊎ Among ks b

pub record Grows (f : ℕ → ℕ → Bool) (keys : List ℕ) : Type 0 where
  pub begins : (b : ℕ) → f zero b ≡ false
  pub keeps : (n b : ℕ) → f n b ≡ true → f (suc n) b ≡ true
  pub only : (n b : ℕ) → f n b ≡ true → Among keys b
  pub follows : (n : ℕ) → ((b : ℕ) → f n b ≡ f (suc n) b) → (b : ℕ) → f (suc n) b ≡ f (suc (suc n)) b

-- ---- how many keys a test is true of

count : (ℕ → Bool) → List ℕ → ℕ
count p [] = 0
count p (k ∷ ks) = cond {A = ℕ} (p k) 1 0 + count p ks

count_below : (p : ℕ → Bool) (ks : List ℕ) → count p ks ≤ length ks
unfolding count
count_below p [] = omega arith
count_below p (k ∷ ks) = let r = count_below p ks in elim (cases_Bool (p k)) [
  | inl e ↦ omega (arith, r, ap {B = ℕ} (λ b. cond b 1 0) e)
  | inr e ↦ omega (arith, r, ap {B = ℕ} (λ b. cond b 1 0) e)
]

-- one test implies the other
abbrev Implies : (ℕ → Bool) → (ℕ → Bool) → Type 0
Implies p q = (b : ℕ) → p b ≡ true → q b ≡ true

one_more : (x y : Bool) → (x ≡ true → y ≡ true) → cond x 1 0 ≤ cond y 1 0
one_more true y h = let e = ap {B = ℕ} (λ b. cond b 1 0) (h refl) in omega (arith, e)
one_more false y h = omega arith

count_grows : (p q : ℕ → Bool) → Implies p q → (ks : List ℕ) → count p ks ≤ count q ks
unfolding count
count_grows p q h [] = omega arith
count_grows p q h (k ∷ ks) = let r = count_grows p q h ks in let o = one_more (p k) (q k) (h k) in omega (arith, r, o)

both : (x y : Bool) → cond y 1 0 ≤ cond x 1 0 → y ≡ true → x ≡ true
both true y l e = refl
both false y l e = absurd (let o = ap {B = ℕ} (λ b. cond b 1 0) e in omega (arith, l, o))

-- where the count doesn't grow, the tests agree on the keys
same_count : (p q : ℕ → Bool) → Implies p q → (ks : List ℕ) → count q ks ≤ count p ks → (b : ℕ) → Among ks b → q b ≡ true → p b ≡ true
unfolding count
same_count p q h [] l b m t = absurd m
same_count p q h (k ∷ ks) l b m t =
    let rest = count_grows p q h ks in
    let o = one_more (p k) (q k) (h k) in
    elim m [
      | inl e ↦ subst (λ x. p x ≡ true) e (both (p k) (q k) (omega (arith, l, rest)) (subst (λ x. q x ≡ true) (sym e) t))
      | inr a ↦ same_count p q h ks (omega (arith, l, o)) b a t
    ]

-- ---- rounds

pub same_truth : (x y : Bool) → (x ≡ true → y ≡ true) → (y ≡ true → x ≡ true) → x ≡ y
same_truth true y h k = sym (h refl)
same_truth false y h k = sym (false_from_ne_true y (λ t. false≢true (k t)))

settles_by_count : (f : ℕ → ℕ → Bool) (keys : List ℕ) → Grows f keys → (n : ℕ) → count (f (suc n)) keys ≤ count (f n) keys → (b : ℕ) → f n b ≡ f (suc n) b
settles_by_count f keys g n l b = same_truth (f n b) (f (suc n) b) (g.keeps n b) (λ t. same_count (f n) (f (suc n)) (g.keeps n) keys l b (g.only (suc n) b t) t)

-- after n rounds there are n keys, or it has settled
stage : (f : ℕ → ℕ → Bool) (keys : List ℕ) → Grows f keys → (n : ℕ) → (n ≤ count (f n) keys) ⊎ ((b : ℕ) → f n b ≡ f (suc n) b)
stage f keys g zero = inl (omega arith)
stage f keys g (suc n) = elim (stage f keys g n) [
  | inl many ↦ elim (cases_lt (count (f n) keys) (count (f (suc n)) keys)) [
    | inl l ↦ inl (omega (arith, many, l))
    | inr l ↦ inr (g.follows n (settles_by_count f keys g n l))
  ]
  | inr same ↦ inr (g.follows n same)
]

settled : (f : ℕ → ℕ → Bool) (keys : List ℕ) → Grows f keys → (n : ℕ) → length keys ≤ n → (b : ℕ) → f n b ≡ f (suc n) b
settled f keys g n l b = elim (stage f keys g n) [
  | inl many ↦ settles_by_count f keys g n (let m = count_below (f (suc n)) keys in omega (arith, m, l, many)) b
  | inr same ↦ same b
]

later : (f : ℕ → ℕ → Bool) (keys : List ℕ) → Grows f keys → (m n b : ℕ) → n ≤ m → f n b ≡ true → f m b ≡ true
later f keys g zero n b l t = let z : n ≡ 0 = omega (arith, l) in subst (λ x. f x b ≡ true) z t
later f keys g (suc m) n b l t = elim (cases_lt n (suc m)) [
  | inl k ↦ g.keeps m b (later f keys g m n b (omega (arith, k)) t)
  | inr k ↦ (let e : n ≡ suc m = omega (arith, l, k) in subst (λ x. f x b ≡ true) e t)
]

-- what is true after any number of rounds is true after as many as there are keys, and after more
pub in_time : (f : ℕ → ℕ → Bool) (keys : List ℕ) → Grows f keys → (m n b : ℕ) → length keys ≤ m → f n b ≡ true → f m b ≡ true
in_time f keys g m zero b l t = absurd (false≢true (sym (g.begins b) ∙ t))
in_time f keys g m (suc n) b l t = elim (cases_lt m (suc n)) [
  | inl k ↦ in_time f keys g m n b l (settled f keys g n (omega (arith, l, k)) b ∙ t)
  | inr k ↦ later f keys g m (suc n) b k t
]
