-- The longest of several fronts with which a text begins.
use Rattle.std.proofs.Common.{◌≡◌, ◌≢◌, ◌⊎◌, ℕ, zero, suc, ◌<◌, ◌≤◌, true, false, ◌||◌, IsTrue, List, [], ◌∷◌, ◌++◌, Contains, codes, length, get_or, take, drop, nat_le, nat_eq, refl, sym, ap, ◌∙◌, subst, arith, inl, inr}
use Rattle.std.specs.List.{list_all, list_any, starts_with}
use Rattle.std.specs.Str.{bytes_eq}
use Rattle.std.proofs.lemmas.Bool.{and_parts, or_parts, or_from, leb-true, false_from_ne_true, cases_lt}
use Rattle.std.proofs.lemmas.List.{get_or_default, take-append-drop, length-take-le}
use Rattle.std.proofs.lemmas.List.Elements.{All-get_or, All-contains, All-from_recursion, Contains-get_or, Contains-append_cases}
use Rattle.std.proofs.lemmas.List.Folds.{Any-from_list_any, list_any_none}
use Rattle.std.proofs.lemmas.List.Sums.{AllPass-from_list_all}
use Rattle.std.proofs.lemmas.Slice.Eq.{bytes_eq-Decides}
use Rattle.sv_lex.specs.Bytes.{is_separator, begins_word, is_digit, is_quote}
use Rattle.sv_lex.specs.Faults.{IsStuck, strange_byte}
use Rattle.sv_lex.specs.Forms.{marks, openers, begins_mark, IsLongest}
use Rattle.sv_lex.specs.Longest.{IsLongestSuch, longest_first}
use Rattle.sv_lex.specs.TextReading.{BeginsNothing}
use Rattle.sv_lex.specs.declared.fault.Flaw.TheVariants.{Char}
use Rattle.sv_lex.proofs.LongestLemmas.{front_fits, front_taken}

-- the text begins with none of the first fronts
abbrev pub NoneFits : List (List ℕ) → List ℕ → ℕ → Type 0
NoneFits fronts text i = (k : ℕ) → k < i → (rest : List ℕ) → text ≡ get_or fronts k [] ++ rest → ⊥

later_is_shorter : (fronts : List (List ℕ)) (i k : ℕ) → IsTrue (longest_first fronts) → i ≤ k → k < length fronts → length (get_or fronts k []) ≤ length (get_or fronts i [])
later_is_shorter [] i k sorted later within = absurd (omega arith)
later_is_shorter (first ∷ fronts) zero zero sorted later within = omega arith
later_is_shorter (first ∷ fronts) zero (suc k) sorted later within =
    let parts = and_parts (list_all (λ bytes. nat_le (length bytes) (length first)) fronts) (longest_first fronts) sorted in
    leb-true (length (get_or fronts k [])) (length first)
    (All-get_or (λ bytes. nat_le (length bytes) (length first) ≡ true) fronts k [] (omega arith) (AllPass-from_list_all (λ bytes. nat_le (length bytes) (length first)) fronts parts.0))
later_is_shorter (first ∷ fronts) (suc i) zero sorted later within = absurd (omega arith)
later_is_shorter (first ∷ fronts) (suc i) (suc k) sorted later within =
    later_is_shorter fronts i k (and_parts (list_all (λ bytes. nat_le (length bytes) (length first)) fronts) (longest_first fronts) sorted).1 (omega arith) (omega arith)

pub front_found : (fronts : List (List ℕ)) (text rest : List ℕ) (i : ℕ) → IsTrue (longest_first fronts) → i < length fronts → NoneFits fronts text i → text ≡ get_or fronts i [] ++ rest
    → IsLongestSuch (Contains fronts) text (length (get_or fronts i []))
front_found fronts text rest i sorted less none here =
    record {
      within = front_fits text (get_or fronts i []) rest here;
      form = λ _. subst (Contains fronts) (sym (front_taken text (get_or fronts i []) rest here)) (Contains-get_or fronts i [] less);
      longest = longest;
    }
  where
    longest : (front more : List ℕ) → text ≡ front ++ more → Contains fronts front → length front ≤ length (get_or fronts i [])
    longest front more e (k, within, at) =
        let same : get_or fronts k [] ≡ front = get_or_default fronts k [] front within ∙ at in
        elim (cases_lt k i) [
          | inl before ↦ absurd (none k before more (e ∙ ap (λ (bytes : List ℕ). bytes ++ more) (sym same)))
          | inr later ↦ omega (arith, ap length same, later_is_shorter fronts i k sorted later within)
        ]

pub no_front : (fronts : List (List ℕ)) (text : List ℕ) (i : ℕ) → length fronts ≤ i → NoneFits fronts text i → IsLongestSuch (Contains fronts) text 0
no_front fronts text i all none = record { within = omega arith; form = λ some. absurd (omega arith); longest = longest }
  where
    longest : (front more : List ℕ) → text ≡ front ++ more → Contains fronts front → length front ≤ 0
    longest front more e (k, within, at) =
        let same : get_or fronts k [] ≡ front = get_or_default fronts k [] front within ∙ at in
        absurd (none k (omega arith) more (e ∙ ap (λ (bytes : List ℕ). bytes ++ more) (sym same)))

-- ---- the table of punctuation

-- the first byte of each is one
table : list_all (λ mark. list_any (bytes_eq (take 1 mark)) marks) marks ≡ true
unfolding marks
table = refl

listed : (fronts : List (List ℕ)) (front : List ℕ) → list_any (bytes_eq front) fronts ≡ true → Contains fronts front
listed fronts front h =
    let found = Any-from_list_any (bytes_eq front) fronts h in
    subst (Contains fronts) (sym ((bytes_eq-Decides front found.1).0 found.4)) (found.0, found.2, found.3)

first_listed : (mark : List ℕ) → Contains marks mark → Contains marks (take 1 mark)
first_listed mark is =
    listed marks (take 1 mark)
    (All-contains (λ mark. list_any (bytes_eq (take 1 mark)) marks ≡ true) marks mark (AllPass-from_list_all (λ mark. list_any (bytes_eq (take 1 mark)) marks) marks table) is)

begins_no_mark : (b : ℕ) → (Contains marks (b ∷ []) → ⊥) → begins_mark b ≡ false
begins_no_mark b none =
    list_any_none (λ mark. starts_with nat_eq mark (b ∷ [])) marks
    (λ k d less. false_from_ne_true (starts_with nat_eq (get_or marks k d) (b ∷ []))
    (λ begins. none (subst (Contains marks) (sym ((bytes_eq-Decides (b ∷ []) (take 1 (get_or marks k d))).0 begins)) (first_listed (get_or marks k d) (Contains-get_or marks k d less)))))

pub strange : (text : List ℕ) (n : ℕ) → BeginsNothing text → n ≡ 0 → IsLongestSuch (Contains marks) text n → IsStuck text Char 0
strange [] n nothing none longest = absurd nothing
strange (b ∷ text) n nothing none longest =
    let a = or_parts (is_separator b) (begins_word b || (is_digit b || is_quote b)) nothing in
    let w = or_parts (begins_word b) (is_digit b || is_quote b) a.1 in
    let d = or_parts (is_digit b) (is_quote b) w.1 in
    let mark : begins_mark b ≡ false = begins_no_mark b (λ is. omega (arith, longest.longest (b ∷ []) text refl is)) in
    strange_byte b text refl
    (or_from (is_separator b) _ a.0 (or_from (begins_word b) _ w.0 (or_from (is_digit b) _ d.0 (or_from (is_quote b) (begins_mark b) d.1 mark))))

opener_is : (longer : List ℕ) → Contains openers longer → (longer ≡ codes "//") ⊎ (longer ≡ codes "/*")
unfolding openers
opener_is longer is =
    let P : List ℕ → Type 0 = λ bytes. (bytes ≡ codes "//") ⊎ (bytes ≡ codes "/*") in
    All-contains P openers longer (All-from_recursion P openers (inl refl, (inr refl, tt))) is

-- where no comment begins, the longest punctuation is the longest of both
pub longest_mark : (text : List ℕ) (n : ℕ) → ((rest : List ℕ) → text ≢ codes "//" ++ rest) → ((rest : List ℕ) → text ≢ codes "/*" ++ rest)
    → IsLongestSuch (Contains marks) text n → IsLongest (take n text) (drop n text)
longest_mark text n no_line no_block longest = λ longer more is e.
    let spelled : text ≡ longer ++ more = sym (take-append-drop n text) ∙ e in
    elim (Contains-append_cases openers marks longer is) [
      | inl opener ↦ elim (opener_is longer opener) [
        | inl line ↦ absurd (no_line more (spelled ∙ ap (λ (bytes : List ℕ). bytes ++ more) line))
        | inr block ↦ absurd (no_block more (spelled ∙ ap (λ (bytes : List ℕ). bytes ++ more) block))
      ]
      | inr mark ↦ omega (arith, longest.longest longer more spelled mark, length-take-le n text longest.within)
    ]
