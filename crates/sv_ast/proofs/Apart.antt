-- The alternatives of each `both` are apart.
use Rattle.std.proofs.Common.{◌≡◌, ℕ, true, not, List, [], ◌∷◌, ◌++◌, refl, sym, ap, ◌∙◌}
use Rattle.std.proofs.lemmas.List.{append-nil}
use Rattle.sv_grammar.specs.Grammar.{Token, Part, word, seq, opt, star, side, Tree, Derives, seq_is, elem}
use Rattle.sv_grammar.specs.Reading.{subset, disjoint, nullable, first, Apart, AllApart}
use Rattle.sv_grammar.proofs.Sets.{not_true, elem-subset, elem-disjoint}
use Rattle.sv_grammar.proofs.Theory.{Checked, nullable_if, first_if}
use Rattle.sv_grammar.proofs.Exactly.{DerivesSome, of_seq, of_side, of_word}
use Rattle.sv_grammar.proofs.Checks.{tables}
use Rattle.sv_grammar.proofs.Tests.{single, seconds, filled, through}
use Rattle.sv_grammar.proofs.Tested.{looks_through, single_if, seconds_if}
use Rattle.sv_grammar.proofs.Criteria.{apart_by_lists, apart_by, all_apart_by}
use Rattle.sv_ast.specs.Terminals.{code}
use Rattle.sv_ast.specs.declared.class.Class.TheVariants as k
use Rattle.sv_ast.specs.Syntax.{Side, rules, ◌⊙◌, quoted, ids, several, brackets, but_semicolon}
use Rattle.sv_ast.specs.Syntax as g
use Rattle.sv_ast.specs.Firsts.{nulls, firsts}
use Rattle.sv_ast.proofs.Tables.{conts, all_chars, rounds, checked}

pub right_tables : Checked rules nulls firsts conts all_chars
right_tables = tables rules nulls firsts conts all_chars rounds checked

-- two parts that never begin with one token alone, and have other second tokens
module _ (k : List ℕ) (a b : Part Side)
    (not_null_a : not (nullable nulls a) ≡ true) (not_null_b : not (nullable nulls b) ≡ true)
    (longer_a : not (single nulls firsts (first nulls firsts b) a) ≡ true) (longer_b : not (single nulls firsts (first nulls firsts a) b) ≡ true)
    (has : seconds nulls firsts (first nulls firsts a) (λ cs. subset cs k) b ≡ true)
    (lacks : seconds nulls firsts (first nulls firsts b) (λ cs. disjoint cs k) a ≡ true) where
  never_alike : (xs ys : List Token) (t u : Tree) → Derives rules a xs t → Derives rules b ys u → (v w : List Token) → xs ++ v ≡ ys ++ w → ⊥
  never_alike [] ys t u d e v w g = not_true (nullable nulls a) not_null_a (nullable_if right_tables d refl)
  never_alike (x ∷ xs) [] t u d e v w g = not_true (nullable nulls b) not_null_b (nullable_if right_tables e refl)
  never_alike (x ∷ []) (y ∷ ys) t u d e v w g =
      let same_head : x ≡ y = cc in
      not_true (single nulls firsts (first nulls firsts b) a) longer_a (single_if right_tables (first nulls firsts b) d x refl (first_if right_tables e x ys (ap (λ z. z ∷ ys) (sym same_head))))
  never_alike (x ∷ z ∷ xs) (y ∷ []) t u d e v w g =
      let same_head : x ≡ y = cc in
      not_true (single nulls firsts (first nulls firsts a) b) longer_b (single_if right_tables (first nulls firsts a) e y refl (first_if right_tables d y (z ∷ xs) (ap (λ m. m ∷ z ∷ xs) same_head)))
  never_alike (x ∷ z ∷ xs) (y ∷ j ∷ ys) t u d e v w g =
      let same_head : x ≡ y = cc in
      let same_next : z ≡ j = cc in
      let in_k : elem j.class k ≡ true = seconds_if right_tables (λ n. elem n k ≡ true) (λ cs. subset cs k) (λ ks n s h. elem-subset n ks k s h) (first nulls firsts a) e y j ys refl (first_if right_tables d y (z ∷ xs) (ap (λ m. m ∷ z ∷ xs) same_head)) has in
      let not_in_k : elem z.class k ≡ true → ⊥ = seconds_if right_tables (λ n. elem n k ≡ true → ⊥) (λ cs. disjoint cs k) (λ ks n s i m. elem-disjoint n ks k s i m) (first nulls firsts b) d x z xs refl (first_if right_tables e x (j ∷ ys) (ap (λ m. m ∷ j ∷ ys) (sym same_head))) lacks in
      not_in_k (ap (λ m. elem m.class k) same_next ∙ in_k)

  apart_by_second : Apart rules [] a b
  apart_by_second = record {
    other_longer = λ {xs} {ys} {t} {u} d e y w g. absurd (never_alike xs ys t u d e (y ∷ w) [] (sym g ∙ sym (append-nil ys)));
    one_longer = λ {xs} {ys} {t} {u} d e y w g. absurd (never_alike xs ys t u d e [] (y ∷ w) (append-nil xs ∙ g));
  }

-- `new` is taken off
behind_new : (s : Side) (cs : List ℕ) (a b : Part Side) {xs : List Token} {t : Tree} → ((ys : List Token) (u : Tree) → Derives rules (side s) ys u → DerivesSome rules (seq (word cs) a) ys)
    → Derives rules (seq (side s) b) xs t → (n : Token) × (ys : List Token) × (xs ≡ n ∷ ys) × DerivesSome rules (seq a b) ys
behind_new s cs a b {xs} opens d =
    let p = of_seq rules d in
    let q = of_seq rules (opens p.xs p.t p.here).1 in
    let r = of_word rules q.here in
    (r.0, q.ys ++ p.ys, p.whole ∙ ap (λ z. z ++ p.ys) (q.whole ∙ ap (λ z. z ++ q.ys) r.1), (_, seq_is q.there p.there))

apart_behind_new : (s t : Side) (cs ks : List ℕ) (a b p q : Part Side) → ((ys : List Token) (u : Tree) → Derives rules (side s) ys u → DerivesSome rules (seq (word cs) a) ys) → ((ys : List Token) (u : Tree) → Derives rules (side t) ys u → DerivesSome rules (seq (word cs) b) ys)
    → Apart rules ks (seq a p) (seq b q) → Apart rules ks (seq (side s) p) (seq (side t) q)
apart_behind_new s t cs ks a b p q opens_s opens_t h = record {
  other_longer = λ d e y w g. (
      let m = behind_new s cs a p opens_s d in
      let n = behind_new t cs b q opens_t e in
      let whole : n.0 ∷ n.1 ≡ m.0 ∷ (m.1 ++ y ∷ w) = sym n.2 ∙ g ∙ ap (λ z. z ++ y ∷ w) m.2 in
      h.other_longer m.3.1 n.3.1 y w (cc));
  one_longer = λ d e y w g. (
      let m = behind_new s cs a p opens_s d in
      let n = behind_new t cs b q opens_t e in
      let whole : m.0 ∷ m.1 ≡ n.0 ∷ (n.1 ++ y ∷ w) = sym m.2 ∙ g ∙ ap (λ z. z ++ y ∷ w) n.2 in
      h.one_longer m.3.1 n.3.1 y w (cc));
}

-- `new` with a type of one name, and with a longer one
new_apart : Apart rules (code k.Dot ∷ code k.LBracket ∷ []) (side g.new_name ⊙ opt (side g.after_name ⊙ star (side g.suffix))) (side g.new_longer ⊙ opt (side g.after_longer ⊙ star (side g.suffix)))
new_apart =
    apart_behind_new g.new_name g.new_longer (code k.New ∷ []) (code k.Dot ∷ code k.LBracket ∷ [])
    (side g.name_type) (side g.longer_type) (opt (side g.after_name ⊙ star (side g.suffix))) (opt (side g.after_longer ⊙ star (side g.suffix)))
    (λ ys u d. of_side rules d) (λ ys u d. of_side rules d)
    (apart_by rules nulls firsts conts all_chars rounds checked 2 0 (code k.Dot ∷ code k.LBracket ∷ [])
    (side g.name_type ⊙ opt (side g.after_name ⊙ star (side g.suffix))) (side g.longer_type ⊙ opt (side g.after_longer ⊙ star (side g.suffix))) refl)

-- a type of one name with brackets, and another type that is longer than one name
longer_apart : Apart rules [] (side g.name_plain ⊙ several brackets) (side g.longer_plain ⊙ star brackets)
longer_apart =
    apart_by_lists (side g.name_plain ⊙ several brackets) (side g.longer_plain ⊙ star brackets)
    (filled (through rules 1) (side g.name_plain ⊙ several brackets)) (filled (through rules 1) (side g.longer_plain ⊙ star brackets))
    (λ xs t d. looks_through 1 (side g.name_plain ⊙ several brackets) d) (λ xs t d. looks_through 1 (side g.longer_plain ⊙ star brackets) d)
    (apart_by_second (code k.Dot ∷ []) (filled (through rules 1) (side g.name_plain ⊙ several brackets)) (filled (through rules 1) (side g.longer_plain ⊙ star brackets)) refl refl refl refl refl refl)

-- where a list of one alternative goes on past the end of a list of the other, it is by one of the classes of the `both`
pub apart : (s : Side) → AllApart rules (rules s)
unfolding but_semicolon
apart g.post = (new_apart, tt)
apart g.longer_type = (longer_apart, tt)
apart g.unit = all_apart_by rules nulls firsts conts all_chars rounds checked 1 0 (rules g.unit) refl
apart g.part = all_apart_by rules nulls firsts conts all_chars rounds checked 1 0 (rules g.part) refl
apart g.stmt = all_apart_by rules nulls firsts conts all_chars rounds checked 2 0 (rules g.stmt) refl
apart g.for = all_apart_by rules nulls firsts conts all_chars rounds checked 1 0 (rules g.for) refl
apart g.simple = all_apart_by rules nulls firsts conts all_chars rounds checked 1 0 (rules g.simple) refl
apart g.return = all_apart_by rules nulls firsts conts all_chars rounds checked 1 0 (rules g.return) refl
apart g.slot = all_apart_by rules nulls firsts conts all_chars rounds checked 2 0 (rules g.slot) refl
apart _ = tt
