-- What the readers of a line rest on.
use Rattle.std.proofs.Common.{ℕ, zero, suc, ◌+◌, ◌-◌, ◌<◌, ◌≤◌, ◌^◌, Bool, true, false, cond, not, ◌&&◌, nat_eq, List, [], ◌∷◌, ◌++◌, length, append_assoc, append-nil, ◌≡◌, refl, sym, ap, ◌∙◌, subst, arith, Option, None, Some, Result, Ok, Err, lit≤, lit<}
use Rattle.std.specs.Result.{OkIff}
use lib.IntN.{ℤ, pos, negsuc, neg_ℤ}
use denote.Ref.{Bor}
use mir.Syntax.{w128}
use mir.Val.{to_z, of_z}
use Rattle.std.proofs.lemmas.Int.{ints}
use Rattle.sv_num.specs.Range.{IsI128}
use Rattle.sv_cert.specs.LogSteps.{choice, has_none, IsCut, words_left, head_read, behind, itself, Gives, Takes}
use Rattle.sv_cert.specs.declared.read.stop.Stop.{Stop}
use Rattle.sv_cert.specs.declared.read.stop.Stop.TheVariants.{NoEntry, NoMemory}
use Rattle.sv_cert.specs.LogReading.{◌>>=◌, sign, flag, starts_plainly, numeral, negated, negative, positive, integer, words_in, each, first, ended}
use Rattle.sv_cert.specs.LogText.{Word}
use Rattle.std.specs.Option.{option_copied, is_some}
use Rattle.std.specs.Prelude.{IsTrue}
use Rattle.std.specs.List.{slice_split, onto_first}
use Rattle.sv_term.proofs.Same.{both_true, nat_same, same_nat}
use Rattle.std.specs.Result.{result_ok}
use Rattle.std.specs.Str.Parse.{ParsesUnsigned}
use Rattle.sv_cert.proofs.Numerals.{numeral_parsed, numeral_unparsed, numeral_small, numeral_large, numeral_none_small, integer_back}

-- ---- signs and flags

pub sign_is_choice : (w : List ℕ) → choice 43 45 w ≡ sign w
unfolding sign
sign_is_choice [] = refl
sign_is_choice (c ∷ []) = refl
sign_is_choice (c ∷ d ∷ cs) = refl

pub flag_is_choice : (w : List ℕ) → choice 49 48 w ≡ flag w
unfolding flag
flag_is_choice [] = refl
flag_is_choice (c ∷ []) = refl
flag_is_choice (c ∷ d ∷ cs) = refl

-- ---- numbers

-- what `parse` answers, as the number of the word
pub parsed_is : {E : Type 0} (w ds : List ℕ) (r : Result ℕ E) → ds ≡ w → starts_plainly w ≡ true → ParsesUnsigned 128 10 ds r → result_ok r ≡ numeral (2 ^ 128) w
parsed_is w ds r e s p = go r (subst (λ x. ParsesUnsigned 128 10 x r) e p)
  where
    go : {E : Type 0} (r : Result ℕ E) → ParsesUnsigned 128 10 w r → result_ok r ≡ numeral (2 ^ 128) w
    go (Ok n) q = sym (numeral_parsed w n s q)
    go (Err x) q = sym (numeral_unparsed w s q)

-- a number that is to fit a smaller type
pub small_is : {E : Type 0} (limit : ℕ) (w : List ℕ) (n : ℕ) (r : Result ℕ E) → Some n ≡ numeral (2 ^ 128) w → OkIff r (n < limit) n → result_ok r ≡ numeral limit w
small_is limit w n (Ok x) e q = ap Some q.1 ∙ sym (numeral_small limit w n (sym e) q.0)
small_is limit w n (Err x) e q = sym (numeral_large limit w n (sym e) (omega (arith, q)))

pub none_is : (limit : ℕ) (w : List ℕ) → limit ≤ 2 ^ 128 → None ≡ numeral (2 ^ 128) w → None ≡ numeral limit w
none_is limit w l e = sym (numeral_none_small limit w l (sym e))

pub positive_small : (w : List ℕ) (n : ℕ) → Some n ≡ numeral (2 ^ 128) w → n < 2 ^ 127 → Some (pos n) ≡ positive w
positive_small w n e h = ap (λ o. o >>= (λ m. Some (pos m))) (sym (numeral_small (2 ^ 127) w n (sym e) h))

pub positive_large : (w : List ℕ) (n : ℕ) → Some n ≡ numeral (2 ^ 128) w → (n < 2 ^ 127 → ⊥) → None ≡ positive w
positive_large w n e h = ap (λ o. o >>= (λ m. Some (pos m))) (sym (numeral_large (2 ^ 127) w n (sym e) (omega (arith, h))))

pub positive_none : (w : List ℕ) → None ≡ numeral (2 ^ 128) w → None ≡ positive w
positive_none w e = ap (λ o. o >>= (λ m. Some (pos m))) (none_is (2 ^ 127) w (lit≤ tt) e)

abbrev pub negative_of : ℕ → ℤ
negative_of zero = pos 0
negative_of (suc n) = negsuc n

pub negative_is : (n : ℕ) → 0 < n → negative_of n ≡ neg_ℤ (pos n)
negative_is zero h = refl
negative_is (suc n) h = refl

pub negative_small : (w : List ℕ) (n : ℕ) → Some n ≡ numeral (2 ^ 128) w → 0 < n → n ≤ 2 ^ 127 → Some (negative_of n) ≡ negative w
negative_small w zero e p h = absurd (omega (arith, p))
negative_small w (suc n) e p h = ap (λ o. o >>= negated) (sym (numeral_small (2 ^ 127 + 1) w (suc n) (sym e) (omega (arith, h))))

pub negative_other : (w : List ℕ) (n : ℕ) → Some n ≡ numeral (2 ^ 128) w → (0 < n → n ≤ 2 ^ 127 → ⊥) → None ≡ negative w
negative_other w zero e h = ap (λ o. o >>= negated) (sym (numeral_small (2 ^ 127 + 1) w zero (sym e) (lit< tt)))
negative_other w (suc n) e h = ap (λ o. o >>= negated) (sym (numeral_large (2 ^ 127 + 1) w (suc n) (sym e) (omega (arith, h (omega arith)))))

pub negative_none : (w : List ℕ) → None ≡ numeral (2 ^ 128) w → None ≡ negative w
negative_none w e = ap (λ o. o >>= negated) (none_is (2 ^ 127 + 1) w (lit≤ tt) e)

pub integer_minus : (w digits : List ℕ) (c : ℕ) → w ≡ c ∷ digits → c ≡ 45 → negative digits ≡ integer w
unfolding integer
integer_minus w digits c e h =
    ap (λ b. cond b (negative digits) (positive (c ∷ digits))) (sym (nat_same c 45 h)) ∙ ap integer (sym e)

pub integer_other : (w digits : List ℕ) (c : ℕ) → w ≡ c ∷ digits → (c ≡ 45 → ⊥) → positive w ≡ integer w
unfolding integer
integer_other w digits c e h =
    ap positive e ∙ (ap (λ b. cond b (negative digits) (positive (c ∷ digits))) (sym (differs (nat_eq c 45) refl)) ∙ ap integer (sym e))
  where
    differs : (b : Bool) → nat_eq c 45 ≡ b → b ≡ false
    differs true i = absurd (h (same_nat c 45 i))
    differs false i = refl

pub integer_empty : (w : List ℕ) → length w ≡ 0 → positive w ≡ integer w
unfolding integer numeral
integer_empty [] e = refl
integer_empty (c ∷ w) e = absurd (omega (arith, e))

-- ---- the words of a line

no_space : (c : ℕ) (cs : List ℕ) → has_none 32 (c ∷ cs) ≡ true → (nat_eq c 32 ≡ false) × (has_none 32 cs ≡ true)
no_space c cs h = let b = both_true (not (nat_eq c 32)) (has_none 32 cs) h in (denied (nat_eq c 32) b.0, b.1)
  where
    denied : (b : Bool) → not b ≡ true → b ≡ false
    denied true e = cc e
    denied false e = refl

one_word : (w : List ℕ) → has_none 32 w ≡ true → words_in w ≡ w ∷ []
one_word [] h = refl
one_word (c ∷ cs) h =
    let b = no_space c cs h in
    ap (λ t. cond t ([] ∷ words_in cs) (onto_first c (words_in cs))) b.0 ∙ ap (onto_first c) (one_word cs b.1)

first_word : (w rest : List ℕ) → has_none 32 w ≡ true → words_in (w ++ 32 ∷ rest) ≡ w ∷ words_in rest
first_word [] rest h = refl
first_word (c ∷ cs) rest h =
    let b = no_space c cs h in
    ap (λ t. cond t ([] ∷ words_in (cs ++ 32 ∷ rest)) (onto_first c (words_in (cs ++ 32 ∷ rest)))) b.0 ∙ ap (onto_first c) (first_word cs rest b.1)

pub cut_words : (line front : List ℕ) (rest : Option (List ℕ)) → IsCut 32 line front rest → words_in line ≡ front ∷ words_left rest
cut_words line front None h = ap words_in h.text_is ∙ one_word front h.free
cut_words line front (Some r) h = ap words_in h.text_is ∙ first_word front r h.free

some_words : (w : List ℕ) → words_in w ≡ [] → ⊥
some_words [] e = cc e
some_words (c ∷ cs) e = go (nat_eq c 32) (words_in cs) e
  where
    go : (b : Bool) (ws : List Word) → cond b ([] ∷ ws) (onto_first c ws) ≡ [] → ⊥
    go true ws i = cc i
    go false [] i = cc i
    go false (v ∷ ws) i = cc i

pub is_at_end : (b : Bool) (o : Option (Bor (List ℕ))) → is_some o ≡ not b → (IsTrue b → words_left (option_copied o) ≡ []) × (words_left (option_copied o) ≡ [] → IsTrue b)
is_at_end true None e = (λ h. refl, λ h. refl)
is_at_end false None e = cc e
is_at_end true (Some x) e = cc e
is_at_end false (Some x) e = (λ h. cc h, λ h. absurd (some_words x.now h))

-- ---- one word after another

none_some : {A : Type 0} {v : A} → None ≡ Some v → ⊥
none_some e = cc e

pub each_more : {A : Type 0} (f : Word → Option A) (old ws next : List Word) (vs : List A) (v : A)
    → each f old ≡ (each f ws >>= (λ rest. Some (vs ++ rest))) → Takes f itself ws (Ok v) next → each f old ≡ (each f next >>= (λ rest. Some ((vs ++ v ∷ []) ++ rest)))
each_more f old [] next vs v i t = absurd (none_some t.gives)
each_more {A = A} f old (w ∷ ws) next vs v i t =
    i ∙ (ap (λ o. (o >>= (λ a. each f ws >>= (λ rest. Some (a ∷ rest)))) >>= (λ rest. Some (vs ++ rest))) t.gives
    ∙ (go (each f ws) ∙ ap (λ ts. each f ts >>= (λ rest. Some ((vs ++ v ∷ []) ++ rest))) (sym t.rest)))
  where
    go : (o : Option (List A)) → ((o >>= (λ rest. Some (v ∷ rest))) >>= (λ rest. Some (vs ++ rest))) ≡ (o >>= (λ rest. Some ((vs ++ v ∷ []) ++ rest)))
    go None = refl
    go (Some rest) = ap Some (sym (append_assoc vs (v ∷ []) rest))

pub each_stops : {A : Type 0} (f : Word → Option A) (old ws next : List Word) (vs : List A) (e : Stop)
    → each f old ≡ (each f ws >>= (λ rest. Some (vs ++ rest))) → (ws ≡ [] → ⊥) → Takes f itself ws (Err e) next → Gives {T = List A} itself (Err e) (each f old)
each_stops f old ws next vs NoMemory i n t = tt
each_stops f old [] next vs NoEntry i n t = absurd (n refl)
each_stops f old (w ∷ ws) next vs NoEntry i n t = i ∙ ap (λ o. (o >>= (λ a. each f ws >>= (λ rest. Some (a ∷ rest)))) >>= (λ rest. Some (vs ++ rest))) t.gives

pub each_ends : {A : Type 0} (f : Word → Option A) (old ws : List Word) (vs : List A) → each f old ≡ (each f ws >>= (λ rest. Some (vs ++ rest))) → ws ≡ [] → each f old ≡ Some vs
each_ends f old ws vs i e = i ∙ (ap (λ ts. each f ts >>= (λ rest. Some (vs ++ rest))) e ∙ ap Some (append-nil vs))

pub each_shorter : {A : Type 0} (f : Word → Option A) (ws next : List Word) (v : A) → Takes f itself ws (Ok v) next → length next < length ws
each_shorter f [] next v t = absurd (none_some t.gives)
each_shorter f (w ∷ ws) next v t = let e = ap length t.rest in omega (arith, e)

-- a number that was read is of its type
number_fits : (k : ℤ) → IsI128 k → to_z w128 (of_z w128 k) ≡ k
number_fits k h = let l = h.0 in let m = h.1 in omega (arith, ints)

pub taken_fits : (ws next : List Word) (k : ℤ) → Takes integer itself ws (Ok k) next → to_z w128 (of_z w128 k) ≡ k
taken_fits [] next k t = absurd (none_some t.gives)
taken_fits (w ∷ ws) next k t = number_fits k (integer_back w k t.gives).1

-- ---- chains of words

-- the first word is read, and the rest goes on
pub goes : {A B T : Type 0} {f : Word → Option A} {plain : T → A} {ws next : List Word} {t : T} {o : Option B} (k : A → List Word → Option B)
    → Takes f plain ws (Ok t) next → k (plain t) next ≡ o → first f ws k ≡ o
goes {ws = []} k t e = absurd (none_some t.gives)
goes {plain = plain} {ws = w ∷ ws} {t = a} k t e = ap (λ o. o >>= (λ x. k x ws)) t.gives ∙ (ap (k (plain a)) (sym t.rest) ∙ e)

pub goes_wrong : {A B S T : Type 0} {f : Word → Option A} {own : S → A} {ws next : List Word} {t : S} (plain : T → B) (k : A → List Word → Option B) (e : Stop)
    → Takes f own ws (Ok t) next → Gives plain (Err e) (k (own t) next) → Gives plain (Err e) (first f ws k)
goes_wrong plain k NoMemory t g = tt
goes_wrong plain k NoEntry t g = goes k t g

pub stops : {A B S T : Type 0} {f : Word → Option A} {own : S → A} {ws next : List Word} {e : Stop} (plain : T → B) (k : A → List Word → Option B)
    → Takes f own ws (Err e) next → Gives plain (Err e) (first f ws k)
stops {e = NoMemory} plain k t = tt
stops {ws = []} {e = NoEntry} plain k t = refl
stops {ws = w ∷ ws} {e = NoEntry} plain k t = ap (λ o. o >>= (λ x. k x ws)) t.gives

-- what is read goes into something else
pub made : {A B : Type 0} {o : Option A} {a : A} {r : Option B} (k : A → Option B) → o ≡ Some a → k a ≡ r → (o >>= k) ≡ r
made k e g = ap (λ x. x >>= k) e ∙ g

pub made_wrong : {A B S T : Type 0} (own : S → A) (plain : T → B) (k : A → Option B) (o : Option A) (e : Stop) → Gives own (Err e) o → Gives plain (Err e) (o >>= k)
made_wrong own plain k o NoMemory g = tt
made_wrong own plain k o NoEntry g = ap (λ x. x >>= k) g

pub not_true : (b : Bool) → b ≡ false → IsTrue b → ⊥
not_true true e h = cc e
not_true false e h = cc h
