-- What the loop of a merge keeps.
use Rattle.std.proofs.Common.{ℕ, suc, ◌≡◌, ◌∙◌, ◌+◌, ◌<◌, ◌≤◌, Bool, true, false, nat_eq, cond, Option, Some, None, List, [], ◌∷◌, ◌++◌, length, refl, sym, ap, subst, arith, append_assoc, append-nil}
use Rattle.std.proofs.lemmas.Bool.Decides.{Decides-eqb}
use Rattle.sv_lines.specs.Lines.{pick, pick_from, takes, headless, without, all_empty, Merged, MergesTo}

-- of the first lists, out is taken and these are left
pub record Left (all left : List (List ℕ)) (out : List ℕ) : Type 0 where
  pub on : (o : List ℕ) → Merged left o → Merged all (out ++ o)
  pub back : (o : List ℕ) → Merged all o → (p : List ℕ) × (o ≡ out ++ p) × Merged left p

pub at_first : (all : List (List ℕ)) → Left all all []
at_first all = record { on = λ o m. m; back = λ o m. (o, refl, m) }

one_more : (out o : List ℕ) (h : ℕ) → out ++ h ∷ o ≡ (out ++ h ∷ []) ++ o
one_more out o h = sym (append_assoc out (h ∷ []) o)

same_head : (x h : ℕ) (r : Option ℕ) → r ≡ Some x → r ≡ Some h → x ≡ h
same_head x h r a b = cc (a, b)

pub next : (all left : List (List ℕ)) (out : List ℕ) (h : ℕ) → all_empty left ≡ false → pick left ≡ Some h → Left all left out → Left all (without h left) (out ++ h ∷ [])
next all left out h more is l = record {
  on = λ o m. subst (λ z. Merged all z) (one_more out o h) (l.on (h ∷ o) (is, m));
  back = λ o m. (let b = l.back o m in step o b.0 b.1 b.2);
}
  where
    step : (o p : List ℕ) → o ≡ out ++ p → Merged left p → (q : List ℕ) × (o ≡ (out ++ h ∷ []) ++ q) × Merged (without h left) q
    step o [] e m = cc (m, more)
    step o (x ∷ q) e m =
        let s : x ≡ h = same_head x h (pick left) m.0 is in
        (q, e ∙ (ap (λ z. out ++ z ∷ q) s ∙ one_more out q h), subst (λ z. Merged (without z left) q) s m.1)

pub stuck : (all left : List (List ℕ)) (out : List ℕ) → all_empty left ≡ false → pick left ≡ None → Left all left out → MergesTo all None
stuck all left out more is l = λ o m. (let b = l.back o m in none b.0 b.2)
  where
    none : (p : List ℕ) → Merged left p → ⊥
    none [] m = cc (m, more)
    none (x ∷ q) m = cc (m.0, is)

pub ended : (all left : List (List ℕ)) (out : List ℕ) → all_empty left ≡ true → Left all left out → Merged all out
ended all left out h l = subst (λ z. Merged all z) (append-nil out) (l.on [] h)

-- ---- each head that is taken leaves less

abbrev pub total : List (List ℕ) → ℕ
total [] = 0
total (l ∷ ls) = length l + total ls

shorter_by : (b : Bool) (x : ℕ) (xs : List ℕ) → length (cond b xs (x ∷ xs)) ≤ suc (length xs)
shorter_by true x xs = omega arith
shorter_by false x xs = omega arith

shorter : (h : ℕ) (l : List ℕ) → length (headless h l) ≤ length l
shorter h [] = omega arith
shorter h (x ∷ xs) = omega (arith, shorter_by (nat_eq x h) x xs)

no_more : (h : ℕ) (ls : List (List ℕ)) → total (without h ls) ≤ total ls
no_more h [] = omega arith
no_more h (l ∷ ls) = omega (arith, shorter h l, no_more h ls)

same_number : (x : ℕ) → nat_eq x x ≡ true
same_number x = (Decides-eqb x x).1 refl

took : (h : ℕ) (t : List ℕ) → length (headless h (h ∷ t)) ≡ length t
took h t = ap (λ b. length (cond b t (h ∷ t))) (same_number h)

pub less_from : (all ls : List (List ℕ)) (h : ℕ) → pick_from all ls ≡ Some h → total (without h ls) < total ls
less_from all [] h e = cc e
less_from all ([] ∷ ls) h e = omega (arith, less_from all ls h e)
less_from all ((x ∷ t) ∷ ls) h e = by (takes x all) e (less_from all ls h)
  where
    by : (b : Bool) → cond b (Some x) (pick_from all ls) ≡ Some h → (pick_from all ls ≡ Some h → total (without h ls) < total ls) → length (headless h (x ∷ t)) + total (without h ls) < suc (length t) + total ls
    by true k rec = let s : x ≡ h = cc k in omega (arith, ap (λ z. length (headless h (z ∷ t))) s ∙ took h t, no_more h ls)
    by false k rec = omega (arith, shorter h (x ∷ t), rec k)

pub less : (ls : List (List ℕ)) (h : ℕ) → pick ls ≡ Some h → total (without h ls) < total ls
less ls h e = less_from ls ls h e
