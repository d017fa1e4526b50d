-- Where the tokens between two places lie, and a side that is read from one place to another.
use Rattle.std.proofs.Common.{◌≡◌, ℕ, zero, suc, ◌+◌, ◌-◌, ◌≤◌, ◌<◌, Bool, List, [], ◌∷◌, ◌++◌, take, drop, get_or, length, length-drop, refl, sym, ap, ◌∙◌, arith}
use Rattle.std.proofs.lemmas.List.{take-append-drop, drop-drop, drop_more}
use Rattle.sv_grammar.specs.Grammar.{Token, Part, side, Tree, node, end_of, extent_of}
use Rattle.sv_grammar.specs.Reach.{between}
use Rattle.sv_grammar.specs.Reading.{found, Reads, read_side}

-- the tokens from a place on are those up to another, and those from there on
pub cut_at : (ts : List Token) (i j : ℕ) → i ≤ j → drop i ts ≡ between ts i j ++ drop j ts
cut_at ts i j h =
    let e : i + (j - i) ≡ j = omega arith in
    sym (take-append-drop (j - i) (drop i ts)) ∙ ap (λ w. between ts i j ++ w) (drop-drop (j - i) i ts ∙ ap (λ k. drop k ts) e)

-- a side whose rule is read from one place to another
pub reads_between : {S : Type 0} {rules : S → Part S} {empty : S → Bool} {f : S → List ℕ} {s : S} {t : Tree} (ts : List Token) (i j : ℕ) → i ≤ j
    → Reads rules empty f (rules s) (drop i ts) (found t (drop j ts)) → Reads rules empty f (side s) (drop i ts) (found (node (extent_of (between ts i j)) t) (drop j ts))
reads_between ts i j h r = read_side (between ts i j) (cut_at ts i j h) r

pub between_same : (ts : List Token) (i : ℕ) → between ts i i ≡ []
between_same ts i = let e : i - i ≡ 0 = omega arith in ap (λ n. take n (drop i ts)) e

-- no tokens
pub extent_same : (ts : List Token) (i : ℕ) → extent_of (between ts i i) ≡ record { from = 0; to = 0; line = 1; column = 1 }
extent_same ts i = ap extent_of (between_same ts i)

end_is : (n : ℕ) (ts : List Token) (d : Token) → n < length ts → end_of (take (suc n) ts) ≡ (get_or ts n d).extent.to
end_is n [] d h = absurd (omega arith)
end_is zero (k ∷ ks) d h = refl
end_is (suc n) (k ∷ []) d h = absurd (omega arith)
end_is (suc n) (k ∷ j ∷ ks) d h = end_is n (j ∷ ks) d (omega arith)

get_at : (i n : ℕ) (ts : List Token) (d : Token) → get_or (drop i ts) n d ≡ get_or ts (i + n) d
get_at zero n ts d = let e : 0 + n ≡ n = omega arith in rw e refl
get_at (suc i) n [] d = refl
get_at (suc i) n (k ∷ ks) d = let e : suc i + n ≡ suc (i + n) = omega arith in rw e (get_at i n ks d)

extent_first : (n : ℕ) (ks : List Token) (d : Token) (k : Token) (rest : List Token) → ks ≡ k ∷ rest → n < length ks
    → extent_of (take (suc n) ks) ≡ record { from = k.extent.from; to = (get_or ks n d).extent.to; line = k.extent.line; column = k.extent.column }
extent_first n [] d k rest e h = absurd (omega arith)
extent_first n (j ∷ ks) d k rest e h = let same_k : j ≡ k = cc in let p = end_is n (j ∷ ks) d h in cc (p, same_k)

-- some tokens: from the first of them up to the last
pub extent_between : (ts : List Token) (i j : ℕ) (d : Token) → i < j → j ≤ length ts
    → extent_of (between ts i j) ≡ record { from = (get_or ts i d).extent.from; to = (get_or ts (j - 1) d).extent.to; line = (get_or ts i d).extent.line; column = (get_or ts i d).extent.column }
extent_between ts i j d h k =
    let e : j - i ≡ suc (j - i - 1) = omega arith in
    let g : i + (j - i - 1) ≡ j - 1 = omega arith in
    let n = length-drop i ts in
    let p = extent_first (j - i - 1) (drop i ts) d (get_or ts i d) (drop (i + 1) ts) (drop_more ts i d (omega arith)) (omega arith) in
    ap (λ n. extent_of (take n (drop i ts))) e ∙ p ∙ ap (λ z. record { from = (get_or ts i d).extent.from; to = z.extent.to; line = (get_or ts i d).extent.line; column = (get_or ts i d).extent.column }) (get_at i (j - i - 1) ts d ∙ ap (λ n. get_or ts n d) g)
