-- What the writers of a line rest on.
use Rattle.std.proofs.Common.{ℕ, zero, suc, Bool, true, false, ◌+◌, ◌<◌, ◌≤◌, cond, nat_eq, arith, List, [], ◌∷◌, ◌++◌, length, get_or, take, map, ◌≡◌, refl, sym, ap, ◌∙◌, append_assoc, append-nil}
use Rattle.std.specs.List.{flat_map, join_with_byte, concat}
use Rattle.std.specs.Fmt.{decimal, signed_decimal}
use Rattle.std.specs.Prelude.{codes}
use Rattle.std.proofs.lemmas.List.{take_more, take_all, map-append}
use Rattle.std.proofs.lemmas.Bool.Decides.{nat_tests}
use Rattle.sv_term.specs.Sorts.{Sort}
use Rattle.std.proofs.lemmas.List.Concat.{flat_map-append}
use lib.IntN.{ℤ}
use Rattle.sv_cert.specs.LogText.{Word, sort_word, sorts_word, monomial_words, line_of, text_of}
use Rattle.sv_cert.specs.LogSteps.{spaced, joined}
use Rattle.sv_cert.specs.PlainNodes.{plain_sort, sorts_from}
use Rattle.sv_cert.specs.declared.sort.LogSort.{LogSort}
use Rattle.sv_cert.specs.PlainLogs.{plain_monomial, plain_entry}
use Rattle.sv_cert.specs.declared.log.Entry.{Entry}

pub flat_more : {X : Type 0} (F : X → List ℕ) (xs : List X) (i : ℕ) (d : X) → i < length xs → flat_map F (take (i + 1) xs) ≡ flat_map F (take i xs) ++ F (get_or xs i d)
flat_more F xs i d h =
    ap (flat_map F) (take_more xs i d h) ∙ (flat_map-append F (take i xs) (get_or xs i d ∷ []) ∙ ap (λ w. flat_map F (take i xs) ++ w) (append-nil (F (get_or xs i d))))

-- the end of a loop that adds a piece for each element
pub flat_all : {X : Type 0} (F : X → List ℕ) (xs : List X) (i : ℕ) (before now : List ℕ) → length xs ≤ i → now ≡ before ++ flat_map F (take i xs) → now ≡ before ++ flat_map F xs
flat_all F xs i before now l e = e ∙ ap (λ ys. before ++ flat_map F ys) (take_all i xs l)

pub spaced_flat : {X : Type 0} (f : X → Word) (xs : List X) → spaced (map f xs) ≡ flat_map (λ x. 32 ∷ f x) xs
spaced_flat f [] = refl
spaced_flat f (x ∷ xs) = ap (λ w. 32 ∷ (f x ++ w)) (spaced_flat f xs)

abbrev pub monomial_text : ℤ × ℕ → List ℕ
monomial_text p = spaced (signed_decimal p.0 ∷ decimal p.1 ∷ [])

pub monomials_flat : (ps : List (ℤ × ℕ)) → spaced (monomial_words (map plain_monomial ps)) ≡ flat_map monomial_text ps
monomials_flat [] = refl
monomials_flat (p ∷ ps) =
    ap (λ w. 32 ∷ (signed_decimal p.0 ++ 32 ∷ (decimal p.1 ++ w))) (monomials_flat ps)
    ∙ ap (λ w. 32 ∷ w) (sym (append_assoc (signed_decimal p.0) (32 ∷ (decimal p.1 ++ [])) (flat_map monomial_text ps)
    ∙ ap (λ w. signed_decimal p.0 ++ 32 ∷ w) (append_assoc (decimal p.1) [] (flat_map monomial_text ps))))

abbrev pub entry_line : Entry → List ℕ
entry_line e = line_of (plain_entry e)

pub lines_flat : (es : List Entry) → text_of (map plain_entry es) ≡ flat_map entry_line es
lines_flat [] = refl
lines_flat (e ∷ es) = ap (λ w. entry_line e ++ w) (lines_flat es)

pub joined_is : (ws : List Word) → join_with_byte 32 ws ≡ joined ws
joined_is [] = refl
joined_is (w ∷ []) = sym (append-nil w)
joined_is (w ∷ v ∷ ws) = ap (λ x. w ++ 32 ∷ x) (joined_is (v ∷ ws))

pub spaced_both : {X Y : Type 0} (f : Y → Word) (g : X → Y) (xs : List X) → spaced (map f (map g xs)) ≡ flat_map (λ x. 32 ∷ f (g x)) xs
spaced_both f g [] = refl
spaced_both f g (x ∷ xs) = ap (λ w. 32 ∷ (f (g x) ++ w)) (spaced_both f g xs)

-- ---- the parts of a tuple

commas_in : (s : Sort) (ss : List Sort) (t : Sort) → sorts_word (sorts_from ((s ∷ ss) ++ t ∷ [])) ≡ sorts_word (sorts_from (s ∷ ss)) ++ (codes "," ++ sort_word t)
commas_in s [] t = refl
commas_in s (u ∷ ss) t =
    ap (λ w. sort_word s ++ (codes "," ++ w)) (commas_in u ss t)
    ∙ sym (append_assoc (sort_word s) (codes "," ++ sorts_word (sorts_from (u ∷ ss))) (codes "," ++ sort_word t))

-- one more part of a tuple, behind a comma where it isn't the first
pub parts_more : (xs : List LogSort) (i : ℕ) (x : LogSort) → i < length xs → x ≡ get_or xs i x
    → sorts_word (sorts_from (map plain_sort (take (i + 1) xs))) ≡ sorts_word (sorts_from (map plain_sort (take i xs))) ++ (cond (nat_eq i 0) [] (codes ",") ++ sort_word (plain_sort x))
parts_more xs i x h e =
    ap (λ ys. sorts_word (sorts_from ys)) (ap (map plain_sort) (take_more xs i x h) ∙ map-append plain_sort (take i xs) (get_or xs i x ∷ []))
    ∙ (ap (λ y. sorts_word (sorts_from (map plain_sort (take i xs) ++ plain_sort y ∷ []))) (sym e) ∙ go xs i h)
  where
    go : (xs : List LogSort) (i : ℕ) → i < length xs
        → sorts_word (sorts_from (map plain_sort (take i xs) ++ plain_sort x ∷ [])) ≡ sorts_word (sorts_from (map plain_sort (take i xs))) ++ (cond (nat_eq i 0) [] (codes ",") ++ sort_word (plain_sort x))
    go xs zero l = refl
    go [] (suc i) l = absurd (omega (arith, l))
    go (y ∷ ys) (suc i) l =
        let no : nat_eq (suc i) 0 ≡ false = grind (arith, nat_tests) in
        commas_in (plain_sort y) (map plain_sort (take i ys)) (plain_sort x)
        ∙ ap (λ b. sorts_word (sorts_from (plain_sort y ∷ map plain_sort (take i ys))) ++ (cond b [] (codes ",") ++ sort_word (plain_sort x))) (sym no)

-- the text of one more part
pub part_added : (xs : List LogSort) (i : ℕ) (x : LogSort) (start before mid now : List ℕ) → i < length xs → x ≡ get_or xs i x → before ≡ start ++ sorts_word (sorts_from (map plain_sort (take i xs)))
    → mid ≡ before ++ cond (nat_eq i 0) [] (codes ",") → now ≡ mid ++ sort_word (plain_sort x) → now ≡ start ++ sorts_word (sorts_from (map plain_sort (take (i + 1) xs)))
part_added xs i x start before mid now l e a b c =
    let comma : List ℕ = cond (nat_eq i 0) [] (codes ",") in
    let front : List ℕ = sorts_word (sorts_from (map plain_sort (take i xs))) in
    c ∙ (ap (λ w. w ++ sort_word (plain_sort x)) (b ∙ ap (λ w. w ++ comma) a)
    ∙ (append_assoc (start ++ front) comma (sort_word (plain_sort x))
    ∙ (append_assoc start front (comma ++ sort_word (plain_sort x)) ∙ ap (λ w. start ++ w) (sym (parts_more xs i x l e)))))
