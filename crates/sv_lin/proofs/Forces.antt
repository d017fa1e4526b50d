-- The rows in force as the code has them: the given ones, and behind them those that were made.
use Rattle.std.proofs.Common.{ℕ, zero, suc, ◌+◌, ◌-◌, ◌<◌, ◌≤◌, ◌^◌, inl, inr, Bool, true, false, ◌&&◌, nat_eq, MatchBool, List, [], ◌∷◌, ◌++◌, map, length, get_or, drop, ◌≡◌, refl, sym, ap, ap₂, ◌∙◌, subst, arith}
use Rattle.std.proofs.lemmas.List.{length-map, length-append, drop_all}
use Rattle.std.proofs.lemmas.List.Elements.{Contains-append_left, Contains-append_right, Contains-append_cases}
use Rattle.std.specs.List.{Contains}
use Rattle.std.specs.Bool.{Decides}
use Rattle.std.specs.Ordering.{int_eq}
use Rattle.std.proofs.lemmas.Bool.Decides.{Decides-int_eq, Decides-eqb}
use Rattle.std.proofs.lemmas.Slice.Eq.{slice_eq-Decides}
use lib.Pointwise.{pointwise}
use Rattle.std.specs.Prelude.{ℤ, Some, slice_get, slice_index_or}
use Rattle.sv_log.specs.LogEntries.{Monomial, Row, Entry, cost_of, cost_of_log, cost_of_row}
use Rattle.sv_log.specs.LogRows.{plain_monomial, row}
use Rattle.sv_row.specs.RowParts.{monomials}
use Rattle.sv_cert.specs.declared.log.Row.{Row as CodeRow}
use Rattle.sv_cert.specs.PlainLogs.{plain_row}
use Rattle.sv_lin.specs.Eliminations.{made}
use Rattle.sv_lin.specs.declared.made.Made.{Made}
use Rattle.sv_lin.specs.declared.made.Origin.{Origin}
use Rattle.sv_lin.specs.declared.made.Origin.TheVariants as o
use Rattle.sv_lin.specs.UnderWay.{entry_by, entries_of, row_made, rows_of, given, force, IsUnderWay}
use Rattle.sv_lin.proofs.Entering.{Adds, adds_combined, adds_divided}

pub adds : (g : Origin) (r : Row) → Adds (entry_by g r) r
adds (o.Combined m p n q) r = adds_combined m p n q r
adds (o.Divided d p) r = adds_divided d p r

pub cost_by : (g : Origin) (r : Row) → cost_of (entry_by g r) ≡ cost_of_row r
cost_by (o.Combined m p n q) r = refl
cost_by (o.Divided d p) r = refl

made_one : (g : Origin) (r : Row) (es : List Entry) → made (entry_by g r ∷ es) ≡ r ∷ made es
made_one (o.Combined m p n q) r es = refl
made_one (o.Divided d p) r es = refl

pub made_rows : (ms : List Made) → made (entries_of ms) ≡ rows_of ms
made_rows [] = refl
made_rows (m ∷ ms) = made_one m.origin (plain_row m.row) (entries_of ms) ∙ ap (λ z. plain_row m.row ∷ z) (made_rows ms)

pub force_is : (rows : List CodeRow) (ms : List Made) → force rows ms ≡ given rows ++ rows_of ms
force_is rows ms = ap (λ z. given rows ++ z) (made_rows ms)

pub length_force : (rows : List CodeRow) (ms : List Made) → length (force rows ms) ≡ length rows + length ms
length_force rows ms =
    let a = ap length (force_is rows ms) in
    let b = length-append (given rows) (rows_of ms) in
    let c = length-map rows plain_row in
    let d = length-map ms row_made in
    omega (arith, a, b, c, d)

get_first : (rows : List CodeRow) (rs : List Row) (i : ℕ) (x : CodeRow) → i < length rows → x ≡ get_or rows i x → slice_get (given rows ++ rs) i ≡ Some (plain_row x)
get_first [] rs i x l e = absurd (omega (arith, l))
get_first (y ∷ rows) rs zero x l e = ap Some (ap plain_row (sym e))
get_first (y ∷ rows) rs (suc i) x l e = get_first rows rs i x (omega (arith, l)) e

get_at : (ms : List Made) (i : ℕ) (m : Made) → i < length ms → m ≡ get_or ms i m → slice_get (rows_of ms) i ≡ Some (plain_row m.row)
get_at [] i m l e = absurd (omega (arith, l))
get_at (n ∷ ms) zero m l e = ap Some (ap row_made (sym e))
get_at (n ∷ ms) (suc i) m l e = get_at ms i m (omega (arith, l)) e

behind : (xs ys : List Row) (n i : ℕ) → n ≡ length xs + i → slice_get (xs ++ ys) n ≡ slice_get ys i
behind [] ys n i e = let f : n ≡ i = omega (arith, e) in ap (slice_get ys) f
behind (x ∷ xs) ys zero i e = absurd (omega (arith, e))
behind (x ∷ xs) ys (suc n) i e = behind xs ys n i (omega (arith, e))

pub get_given : (rows : List CodeRow) (ms : List Made) (i : ℕ) (x : CodeRow) → i < length rows → x ≡ get_or rows i x → slice_get (force rows ms) i ≡ Some (plain_row x)
get_given rows ms i x l e = ap (λ z. slice_get z i) (force_is rows ms) ∙ get_first rows (rows_of ms) i x l e

pub get_made : (rows : List CodeRow) (ms : List Made) (i : ℕ) (m : Made) → length rows ≤ i → i - length rows < length ms → m ≡ get_or ms (i - length rows) m → slice_get (force rows ms) i ≡ Some (plain_row m.row)
get_made rows ms i m h l e =
    ap (λ z. slice_get z i) (force_is rows ms)
    ∙ (behind (given rows) (rows_of ms) i (i - length rows) (let k = length-map rows plain_row in omega (arith, h, k)) ∙ get_at ms (i - length rows) m l e)

-- ---- whether a row is among them

pub among : {X : Type 0} (P : X → Row) (xs : List X) (i : ℕ) (x : X) (r : Row) → i < length xs → x ≡ get_or xs i x → P x ≡ r → Contains (map P xs) r
among P [] i x r l e f = absurd (omega (arith, l))
among P (y ∷ xs) zero x r l e f = (0, omega arith, ap P (sym e) ∙ f)
among P (y ∷ xs) (suc i) x r l e f = let c = among P xs i x r (omega (arith, l)) e f in (suc c.0, let h = c.1 in omega (arith, h), c.2)

-- past an item that isn't the one
pub past : {X : Type 0} (P : X → Row) (xs : List X) (i : ℕ) (x : X) (r : Row) → i < length xs → x ≡ get_or xs i x → (P x ≡ r → ⊥) → Contains (map P (drop i xs)) r → Contains (map P (drop (i + 1) xs)) r
past P [] i x r l e n c = absurd (omega (arith, l))
past P (y ∷ xs) zero x r l e n c = go c.0 c.1 c.2
  where
    go : (k : ℕ) → k < length (map P (y ∷ xs)) → slice_index_or (map P (y ∷ xs)) k r ≡ r → Contains (map P xs) r
    go zero h d = absurd (n (ap P e ∙ d))
    go (suc k) h d = (k, omega (arith, h), d)
past P (y ∷ xs) (suc i) x r l e n c = subst (λ k. Contains (map P (drop k (y ∷ xs))) r) (shifted i) (past P xs i x r (omega (arith, l)) e n c)
  where
    shifted : (i : ℕ) → suc (i + 1) ≡ suc i + 1
    shifted i = omega arith

pub none_left : {X : Type 0} (P : X → Row) (xs : List X) (i : ℕ) (r : Row) → length xs ≤ i → Contains (map P (drop i xs)) r → ⊥
none_left P xs i r h c = let d = ap (λ z. length (map P z)) (drop_all i xs h) in let l = c.1 in omega (arith, d, l)

pub holds_given : (rows : List CodeRow) (ms : List Made) (r : Row) → Contains (given rows) r → Contains (force rows ms) r
holds_given rows ms r c = subst (λ z. Contains z r) (sym (force_is rows ms)) (Contains-append_left (given rows) (rows_of ms) r c)

pub holds_made : (rows : List CodeRow) (ms : List Made) (r : Row) (b : Bool) → (Contains (given rows) r → ⊥) → MatchBool b (Contains (rows_of ms) r) (Contains (rows_of ms) r → ⊥)
    → MatchBool b (Contains (force rows ms) r) (Contains (force rows ms) r → ⊥)
holds_made rows ms r true n h = subst (λ z. Contains z r) (sym (force_is rows ms)) (Contains-append_right (given rows) (rows_of ms) r h)
holds_made rows ms r false n h = λ c. elim (Contains-append_cases (given rows) (rows_of ms) r (subst (λ z. Contains z r) (force_is rows ms) c)) [ inl a ↦ n a | inr b ↦ h b ]

-- ---- rows that are the same

pair_decides : (p q : ℤ × ℕ) → Decides (int_eq p.0 q.0 && nat_eq p.1 q.1) (p ≡ q)
pair_decides p q = both (int_eq p.0 q.0) (nat_eq p.1 q.1) (Decides-int_eq p.0 q.0) (Decides-eqb p.1 q.1)
  where
    both : (s t : Bool) → Decides s (p.0 ≡ q.0) → Decides t (p.1 ≡ q.1) → Decides (s && t) (p ≡ q)
    both true true d e = (λ h. ap₂ (λ x y. (x, y)) (d.0 refl) (e.0 refl), λ h. refl)
    both true false d e = (λ h. cc h, λ h. e.1 (ap (λ (z : ℤ × ℕ). z.1) h))
    both false t d e = (λ h. cc h, λ h. d.1 (ap (λ (z : ℤ × ℕ). z.0) h))

same_monomial : (p q : ℤ × ℕ) → plain_monomial p ≡ plain_monomial q → p ≡ q
same_monomial p q e = ap (λ (m : Monomial). (m.factor, m.column)) e

pub same_parts : (ps qs : List (ℤ × ℕ)) → monomials ps ≡ monomials qs → ps ≡ qs
same_parts [] [] e = refl
same_parts [] (q ∷ qs) e = cc e
same_parts (p ∷ ps) [] e = cc e
same_parts (p ∷ ps) (q ∷ qs) e =
    let f : plain_monomial p ≡ plain_monomial q = cc e in
    let g : monomials ps ≡ monomials qs = cc e in
    ap₂ (λ x xs. x ∷ xs) (same_monomial p q f) (same_parts ps qs g)

-- ---- the cost

pub counted : (ms : List Made) → length ms ≤ cost_of_log (entries_of ms)
counted [] = omega arith
counted (m ∷ ms) = let h = counted ms in let c = cost_by m.origin (plain_row m.row) in omega (arith, h, c)

pub room : (rows : List CodeRow) (limit : ℕ) (ms : List Made) → IsUnderWay (given rows) limit (entries_of ms) → length rows + length ms < 2 ^ 32
room rows limit ms w =
    let a = w.few in
    let b = w.small in
    let c = w.cheap in
    let d = counted ms in
    let e = length-map rows plain_row in
    omega (arith, a, b, c, d, e)

pub same_rows : (j k : ℤ) (ps qs xs ys : List (ℤ × ℕ)) (b : Bool) → j ≡ k → xs ≡ ps → ys ≡ qs → b ≡ pointwise (λ (p q : ℤ × ℕ). int_eq p.0 q.0 && nat_eq p.1 q.1) xs ys
    → MatchBool b (row j (monomials ps) ≡ row k (monomials qs)) (row j (monomials ps) ≡ row k (monomials qs) → ⊥)
same_rows j k ps qs xs ys b e f g h =
    go b (slice_eq-Decides pair_decides ps qs b (h ∙ ap₂ (pointwise (λ (p q : ℤ × ℕ). int_eq p.0 q.0 && nat_eq p.1 q.1)) f g))
  where
    go : (b : Bool) → Decides b (ps ≡ qs) → MatchBool b (row j (monomials ps) ≡ row k (monomials qs)) (row j (monomials ps) ≡ row k (monomials qs) → ⊥)
    go true d = ap₂ row e (ap monomials (d.0 refl))
    go false d = λ q. let n = d.1 (same_parts ps qs (ap (λ (r : Row). r.parts) q)) in absurd (cc n)
