-- Fronts of a text, and the longest that has a form.
use Rattle.std.proofs.Common.{◌≡◌, ℕ, ◌+◌, ◌<◌, ◌≤◌, Bool, true, false, List, ◌∷◌, ◌++◌, length, get_or, take, drop, refl, sym, ap, ap₂, ◌∙◌, subst, arith, inl, inr, length-append}
use Rattle.std.specs.List.{AllPass}
use Rattle.std.proofs.lemmas.Bool.{both_ways, cases_lt}
use Rattle.std.proofs.lemmas.List.{take_at, drop_at, take-append-drop, take-take, length-take-le, drop_more, get_or-take, get_or_append_left, drop-take}
use Rattle.std.proofs.lemmas.List.Elements.{All-get_or}
use Rattle.sv_lex.specs.Longest.{IsLongestSuch}

-- the front of a text is what its length takes
pub front_taken : (text front rest : List ℕ) → text ≡ front ++ rest → take (length front) text ≡ front
front_taken text front rest e = ap (λ (t : List ℕ). take (length front) t) e ∙ take_at front rest (length front) refl

pub rest_dropped : (text front rest : List ℕ) → text ≡ front ++ rest → drop (length front) text ≡ rest
rest_dropped text front rest e = ap (λ (t : List ℕ). drop (length front) t) e ∙ drop_at front rest (length front) refl

pub front_fits : (text front rest : List ℕ) → text ≡ front ++ rest → length front ≤ length text
front_fits text front rest e = omega (arith, ap length e, length-append front rest)

-- a front that is longer than i begins with the first i bytes and the next one
pub taken_past : (text : List ℕ) (i k : ℕ) → i < k → k ≤ length text → take k text ≡ take i text ++ (get_or text i 0 ∷ drop (i + 1) (take k text))
taken_past text i k less fits =
    sym (take-append-drop i (take k text))
    ∙ ap₂ (λ (a b : List ℕ). a ++ b) (take-take i k text (omega arith))
    (drop_more (take k text) i 0 (omega (arith, length-take-le k text fits)) ∙ ap (λ (b : ℕ). b ∷ drop (i + 1) (take k text)) (get_or-take k text i 0 less))

pub taken_twice : (i k : ℕ) (text : List ℕ) → take (i + k) text ≡ take i text ++ take k (drop i text)
taken_twice i k text =
    sym (take-append-drop i (take (i + k) text)) ∙ ap₂ (λ (a b : List ℕ). a ++ b) (take-take i (i + k) text (omega arith)) (drop-take i k text)

-- the longest front, said by lengths
pub longest_by_lengths : (Form : List ℕ → Type 0) (text : List ℕ) (n : ℕ) → n ≤ length text → (0 < n → Form (take n text))
    → ((k : ℕ) → k ≤ length text → Form (take k text) → k ≤ n) → IsLongestSuch Form text n
longest_by_lengths Form text n within form longest =
    record {
      within = within;
      form = form;
      longest = λ front rest e is. longest (length front) (front_fits text front rest e) (subst Form (sym (front_taken text front rest e)) is);
    }

-- where a run of bytes that pass stops, each front that passes has ended
pub run_longest : (p : ℕ → Bool) (text : List ℕ) (n : ℕ) → (n < length text → p (get_or text n 0) ≡ false)
    → (front rest : List ℕ) → text ≡ front ++ rest → AllPass p front → length front ≤ n
run_longest p text n stop front rest e all = elim (cases_lt n (length front)) [
  | inl more ↦
      let at : get_or text n 0 ≡ get_or front n 0 = ap (λ (bs : List ℕ). get_or bs n 0) e ∙ get_or_append_left front rest 0 n more in
      let passes : p (get_or text n 0) ≡ true = ap p at ∙ All-get_or (λ b. p b ≡ true) front n 0 more all in
      absurd (both_ways (p (get_or text n 0)) (stop (omega (arith, more, front_fits text front rest e))) passes)
  | inr all_of ↦ all_of
]
