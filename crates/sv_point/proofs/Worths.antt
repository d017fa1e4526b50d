-- What rows are worth at a point, part by part.
use Rattle.std.proofs.Common.{ℕ, ◌*◌, ◌<◌, Bool, true, false, cond, nat_eq, List, [], ◌∷◌, ◌++◌, ◌≡◌, refl, sym, ap, ap₂, ◌∙◌, subst, arith}
use Rattle.std.proofs.lemmas.Int.{ints}
use Rattle.std.proofs.lemmas.Bool.Decides.{Decides-eqb}
use lib.IntN.{ℤ, pos, ◌+ℤ◌, ◌*ℤ◌, *ℤ_comm}
use lib.Signed.{◌<ℤ◌}
use Rattle.sv_log.specs.LogEntries.{Monomial, Row}
use Rattle.sv_log.specs.LogRows.{monomial}
use Rattle.sv_fraction.specs.Fractions.{Ratio, ratio, IsSame, sum_with}
use Rattle.sv_fraction.proofs.Integers.{spread, regrouped, same_cancelled, product_positive, positive_is}
use Rattle.sv_point.specs.NearestPoints.{AreBelow, IsRowOf, amount_from, worth, with_value, IsWorth}
use Rattle.sv_point.specs.PointLaws.{ArePositive, WorthIsExact}

pub amount-append : (at : ℕ → Ratio) (f : Ratio) (ps : List Monomial) (p : Monomial) → amount_from at f (ps ++ p ∷ []) ≡ sum_with (amount_from at f ps) p.factor (at p.column)
amount-append at f [] p = refl
amount-append at f (q ∷ ps) p = amount-append at (sum_with f q.factor (at q.column)) ps p

unequal : (y x : ℕ) → y < x → nat_eq y x ≡ false
unequal y x h = go (nat_eq y x) refl
  where
    go : (b : Bool) → nat_eq y x ≡ b → b ≡ false
    go true e = absurd (let d = (Decides-eqb y x).0 e in omega arith)
    go false e = refl

pub other_value : (at : ℕ → Ratio) (x : ℕ) (g : Ratio) (y : ℕ) → y < x → with_value at x g y ≡ at y
other_value at x g y h = ap (λ b. cond b g (at y)) (unequal y x h)

pub own_value : (at : ℕ → Ratio) (x : ℕ) (g : Ratio) → with_value at x g x ≡ g
own_value at x g = ap (λ b. cond b g (at x)) ((Decides-eqb x x).1 refl)

-- columns below x don't read the fraction at x
pub amount-agree : (at : ℕ → Ratio) (x : ℕ) (g f : Ratio) (ps : List Monomial) → AreBelow x ps → amount_from (with_value at x g) f ps ≡ amount_from at f ps
amount-agree at x g f [] b = refl
amount-agree at x g f (p ∷ ps) b =
    ap (λ v. amount_from (with_value at x g) (sum_with f p.factor v) ps) (other_value at x g p.column b.0)
    ∙ amount-agree at x g (sum_with f p.factor (at p.column)) ps b.1

pub row_worth : (at : ℕ → Ratio) (x : ℕ) (k : ℤ) (r : Row) (t : IsRowOf x k r) (g : Ratio) → worth (with_value at x g) r.constant r.parts ≡ sum_with (worth at r.constant t.lows) k g
row_worth at x k r t g =
    ap (worth (with_value at x g) r.constant) t.is
    ∙ (amount-append (with_value at x g) (ratio r.constant (pos 1)) t.lows (monomial k x)
    ∙ ap₂ (λ a v. sum_with a k v) (amount-agree at x g (ratio r.constant (pos 1)) t.lows t.below) (own_value at x g))

pub amount_positive : (at : ℕ → Ratio) (f : Ratio) (ps : List Monomial) → ArePositive at → pos 0 <ℤ f.under → pos 0 <ℤ (amount_from at f ps).under
amount_positive at f [] h p = p
amount_positive at f (q ∷ ps) h p = amount_positive at (sum_with f q.factor (at q.column)) ps h (product_positive f.under (at q.column).under p (h q.column))

one_positive : pos 0 <ℤ pos 1
one_positive = omega (arith, ints)

pub worth_positive : (at : ℕ → Ratio) (k : ℤ) (ps : List Monomial) → ArePositive at → pos 0 <ℤ (worth at k ps).under
worth_positive at k ps h = amount_positive at (ratio k (pos 1)) ps h one_positive

-- ---- one fraction written in several ways

-- a natural factor of a natural multiple
pub scaled : (m n : ℕ) (z : ℤ) → pos m *ℤ (pos n *ℤ z) ≡ pos (m * n) *ℤ z
scaled m n z = sym (regrouped (pos m) (pos n) z)

pub by_size : (m n : ℕ) (z : ℤ) → m ≡ n → pos m *ℤ z ≡ pos n *ℤ z
by_size m n z e = ap (λ d. pos d *ℤ z) e

pub same_over : (a c e : ℤ) (b d g : ℕ) → 0 < d → a *ℤ pos d ≡ c *ℤ pos b → c *ℤ pos g ≡ e *ℤ pos d → a *ℤ pos g ≡ e *ℤ pos b
same_over a c e b d g p h k =
    *ℤ_comm a (pos g) ∙ (same_cancelled d (pos g *ℤ a) (pos b *ℤ e) p whole ∙ *ℤ_comm (pos b) e)
  where
    first : pos d *ℤ a ≡ pos b *ℤ c
    first = *ℤ_comm (pos d) a ∙ (h ∙ *ℤ_comm c (pos b))

    second : pos g *ℤ c ≡ pos d *ℤ e
    second = *ℤ_comm (pos g) c ∙ (k ∙ *ℤ_comm e (pos d))

    whole : pos d *ℤ (pos g *ℤ a) ≡ pos d *ℤ (pos b *ℤ e)
    whole = scaled d g a ∙ (by_size (d * g) (g * d) a (omega arith) ∙ (sym (scaled g d a) ∙ (ap (λ z. pos g *ℤ z) first
        ∙ (scaled g b c ∙ (by_size (g * b) (b * g) c (omega arith) ∙ (sym (scaled b g c) ∙ (ap (λ z. pos b *ℤ z) second
        ∙ (scaled b d e ∙ (by_size (b * d) (d * b) e (omega arith) ∙ sym (scaled d b e))))))))))

pub same_through : (f g h : Ratio) → pos 0 <ℤ f.under → pos 0 <ℤ g.under → pos 0 <ℤ h.under → IsSame f g → IsSame g h → IsSame f h
same_through f g h p q r s t =
    let b = positive_is f.under p in
    let d = positive_is g.under q in
    let i = positive_is h.under r in
    let u : f.top *ℤ pos d.0 ≡ g.top *ℤ pos b.0 = subst (λ z. f.top *ℤ z ≡ g.top *ℤ pos b.0) d.2 (subst (λ z. f.top *ℤ g.under ≡ g.top *ℤ z) b.2 s) in
    let v : g.top *ℤ pos i.0 ≡ h.top *ℤ pos d.0 = subst (λ z. g.top *ℤ z ≡ h.top *ℤ pos d.0) i.2 (subst (λ z. g.top *ℤ h.under ≡ h.top *ℤ z) d.2 t) in
    subst (λ z. f.top *ℤ z ≡ h.top *ℤ f.under) (sym i.2) (subst (λ z. f.top *ℤ pos i.0 ≡ h.top *ℤ z) (sym b.2) (same_over f.top g.top h.top b.0 d.0 i.0 d.1 u v))

-- (a·n + c·b)·(m·n) for the sum of a/b and c/n over another denominator m
spread_out : (a c : ℤ) (b m n : ℕ) → (a *ℤ pos n +ℤ c *ℤ pos b) *ℤ (pos m *ℤ pos n) ≡ pos (n * n) *ℤ (pos m *ℤ a) +ℤ pos (n * (m * b)) *ℤ c
spread_out a c b m n =
    *ℤ_comm (a *ℤ pos n +ℤ c *ℤ pos b) (pos (m * n))
    ∙ (sym (spread (pos (m * n)) (a *ℤ pos n) (c *ℤ pos b))
    ∙ ap₂ (λ x y. x +ℤ y)
    (ap (λ z. pos (m * n) *ℤ z) (*ℤ_comm a (pos n)) ∙ (scaled (m * n) n a ∙ (by_size (m * n * n) (n * n * m) a (omega arith) ∙ sym (scaled (n * n) m a))))
    (ap (λ z. pos (m * n) *ℤ z) (*ℤ_comm c (pos b)) ∙ (scaled (m * n) b c ∙ by_size (m * n * b) (n * (m * b)) c (omega arith))))

same_sums : (a A c : ℤ) (b B n : ℕ) → a *ℤ pos B ≡ A *ℤ pos b → (a *ℤ pos n +ℤ c *ℤ pos b) *ℤ (pos B *ℤ pos n) ≡ (A *ℤ pos n +ℤ c *ℤ pos B) *ℤ (pos b *ℤ pos n)
same_sums a A c b B n e =
    spread_out a c b B n
    ∙ (ap₂ (λ x y. pos (n * n) *ℤ x +ℤ y) (*ℤ_comm (pos B) a ∙ (e ∙ *ℤ_comm A (pos b))) (by_size (n * (B * b)) (n * (b * B)) c (omega arith))
    ∙ sym (spread_out A c B b n))

pub sums_are_same : (f F x : Ratio) (k : ℤ) → pos 0 <ℤ f.under → pos 0 <ℤ F.under → pos 0 <ℤ x.under → IsSame f F → IsSame (sum_with f k x) (sum_with F k x)
sums_are_same f F x k p q r s =
    let b = positive_is f.under p in
    let d = positive_is F.under q in
    let n = positive_is x.under r in
    let e : f.top *ℤ pos d.0 ≡ F.top *ℤ pos b.0 = subst (λ z. f.top *ℤ z ≡ F.top *ℤ pos b.0) d.2 (subst (λ z. f.top *ℤ F.under ≡ F.top *ℤ z) b.2 s) in
    let w = same_sums f.top F.top (k *ℤ x.top) b.0 d.0 n.0 e in
    subst (λ z. (f.top *ℤ z +ℤ (k *ℤ x.top) *ℤ f.under) *ℤ (F.under *ℤ z) ≡ (F.top *ℤ z +ℤ (k *ℤ x.top) *ℤ F.under) *ℤ (f.under *ℤ z)) (sym n.2)
    (subst (λ z. (f.top *ℤ pos n.0 +ℤ (k *ℤ x.top) *ℤ z) *ℤ (F.under *ℤ pos n.0) ≡ (F.top *ℤ pos n.0 +ℤ (k *ℤ x.top) *ℤ F.under) *ℤ (z *ℤ pos n.0)) (sym b.2)
    (subst (λ z. (f.top *ℤ pos n.0 +ℤ (k *ℤ x.top) *ℤ pos b.0) *ℤ (z *ℤ pos n.0) ≡ (F.top *ℤ pos n.0 +ℤ (k *ℤ x.top) *ℤ z) *ℤ (pos b.0 *ℤ pos n.0)) (sym d.2) w))

worked : (at : ℕ → Ratio) (f F : Ratio) (ps : List Monomial) (g : Ratio) → ArePositive at → pos 0 <ℤ f.under → pos 0 <ℤ F.under → IsSame f F → IsWorth at f ps g
    → (pos 0 <ℤ g.under) × IsSame g (amount_from at F ps)
worked at f F [] g h p q s w = subst (λ z. (pos 0 <ℤ z.under) × IsSame z F) w (p, s)
worked at f F (m ∷ ps) g h p q s w =
    worked at w.0 (sum_with F m.factor (at m.column)) ps g h w.1.reduced.positive (product_positive F.under (at m.column).under q (h m.column))
    (same_through w.0 (sum_with f m.factor (at m.column)) (sum_with F m.factor (at m.column)) w.1.reduced.positive
    (product_positive f.under (at m.column).under p (h m.column)) (product_positive F.under (at m.column).under q (h m.column))
    w.1.same (sums_are_same f F (at m.column) m.factor p q (h m.column) s))
    w.2

pub worth_exact : WorthIsExact
worth_exact at r x k t f h w = worked at (ratio r.constant (pos 1)) (ratio r.constant (pos 1)) t.lows f h one_positive one_positive refl w
