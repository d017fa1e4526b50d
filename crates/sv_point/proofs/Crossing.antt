-- Where the combination of two rows of a column is met, their bounds leave room between them.
use Rattle.std.proofs.Common.{ℕ, ◌*◌, ◌<◌, [], ◌∷◌, ◌++◌, ◌≡◌, sym, ap, ap₂, ◌∙◌, subst, arith}
use Rattle.std.proofs.lemmas.Int.{ints}
use lib.IntN.{ℤ, pos, neg_ℤ, ◌+ℤ◌, ◌*ℤ◌, *ℤ_comm}
use lib.Signed.{◌≤ℤ◌}
use Rattle.sv_log.specs.LogEntries.{Row}
use Rattle.sv_log.specs.LogRows.{monomial, total, with_parts, times_parts}
use Rattle.sv_log.proofs.Amounts.{with_parts_total, times_total}
use Rattle.sv_fraction.specs.Fractions.{Ratio}
use Rattle.sv_fraction.proofs.Integers.{spread, regrouped, exchanged, negated_left, negated_right, multiplied, cancelled, positive_is}
use Rattle.sv_point.specs.NearestPoints.{AreBelow, worth}
use Rattle.sv_point.specs.PointLaws.{ArePositive, IsBoundOf, BoundsAreCrossed}
use Rattle.sv_point.proofs.Worths.{worth_positive, scaled, by_size, same_over}
use Rattle.sv_point.proofs.Bounds.{no_product, product_of_positives, bound_over}
use Rattle.sv_point.proofs.Below.{times_last, times_below, last_total, combined_below}
use Rattle.sv_point.proofs.Scales.{IsScaled, scaled_to, worth_scaled}

-- what the combination comes to: the numbers k and l at the column cancel
comes_to : (d : ℤ) (m n k l : ℤ) (a b s t x : ℤ) → m *ℤ k +ℤ n *ℤ l ≡ pos 0
    → d *ℤ (m *ℤ a +ℤ n *ℤ b) +ℤ (m *ℤ (s +ℤ k *ℤ x) +ℤ n *ℤ (t +ℤ l *ℤ x)) ≡ m *ℤ (d *ℤ a +ℤ s) +ℤ n *ℤ (d *ℤ b +ℤ t)
comes_to d m n k l a b s t x e =
    let g = sym (spread d (m *ℤ a) (n *ℤ b)) in
    let h = sym (spread m s (k *ℤ x)) in
    let i = sym (spread n t (l *ℤ x)) in
    let j = sym (spread m (d *ℤ a) s) in
    let o = sym (spread n (d *ℤ b) t) in
    let u : m *ℤ (k *ℤ x) +ℤ n *ℤ (l *ℤ x) ≡ pos 0 = vanish in
    let v = exchanged d m a in
    let w = exchanged d n b in
    whole (d *ℤ (m *ℤ a +ℤ n *ℤ b)) (m *ℤ (s +ℤ k *ℤ x)) (n *ℤ (t +ℤ l *ℤ x)) (m *ℤ (d *ℤ a +ℤ s)) (n *ℤ (d *ℤ b +ℤ t))
    (d *ℤ (m *ℤ a)) (d *ℤ (n *ℤ b)) (m *ℤ s) (m *ℤ (k *ℤ x)) (n *ℤ t) (n *ℤ (l *ℤ x)) (m *ℤ (d *ℤ a)) (n *ℤ (d *ℤ b)) g h i j o u v w
  where
    vanish : m *ℤ (k *ℤ x) +ℤ n *ℤ (l *ℤ x) ≡ pos 0
    vanish = ap₂ (λ y z. y +ℤ z) (sym (regrouped m k x) ∙ *ℤ_comm (m *ℤ k) x) (sym (regrouped n l x) ∙ *ℤ_comm (n *ℤ l) x) ∙ (spread x (m *ℤ k) (n *ℤ l) ∙ (ap (λ z. x *ℤ z) e ∙ none x))
      where
        none : (x : ℤ) → x *ℤ pos 0 ≡ pos 0
        none x = omega (arith, ints)

    whole : (a b c d e f g h i j k l m : ℤ) → a ≡ f +ℤ g → b ≡ h +ℤ i → c ≡ j +ℤ k → d ≡ l +ℤ h → e ≡ m +ℤ j → i +ℤ k ≡ pos 0 → f ≡ l → g ≡ m → a +ℤ (b +ℤ c) ≡ d +ℤ e
    whole a b c d e f g h i j k l m s t u v w x y z = omega (arith, ints)

-- v·R is -(d·k)·G and w·S is (d·l)·H, and l·R + k·S is at most 0
apart : (d k l v w : ℕ) (G H R S : ℤ) → 0 < d → 0 < k → 0 < l → pos v *ℤ R ≡ neg_ℤ (pos (d * k) *ℤ G) → pos w *ℤ S ≡ pos (d * l) *ℤ H
    → (pos l *ℤ R +ℤ pos k *ℤ S) ≤ℤ pos 0 → (pos v *ℤ H) ≤ℤ (pos w *ℤ G)
apart d k l v w G H R S pd pk pl e f c =
    cancelled (d * k * l) (pos v *ℤ H) (pos w *ℤ G) (product_of_positives (d * k) l (product_of_positives d k pd pk) pl)
    (moved (pos (d * k * l) *ℤ (pos w *ℤ G)) (pos (d * k * l) *ℤ (pos v *ℤ H)) (pos (v * w) *ℤ pos 0) (no_product (v * w))
    (subst (λ z. z ≤ℤ (pos (v * w) *ℤ pos 0)) whole (multiplied (v * w) (pos l *ℤ R +ℤ pos k *ℤ S) (pos 0) c)))
  where
    moved : (x y z : ℤ) → z ≡ pos 0 → (neg_ℤ x +ℤ y) ≤ℤ z → y ≤ℤ x
    moved x y z e h = omega (arith, ints)

    first : pos (v * w) *ℤ (pos l *ℤ R) ≡ neg_ℤ (pos (d * k * l) *ℤ (pos w *ℤ G))
    first = scaled (v * w) l R ∙ (by_size (v * w * l) (l * w * v) R (omega arith) ∙ (sym (scaled (l * w) v R) ∙ (ap (λ z. pos (l * w) *ℤ z) e
        ∙ (negated_right (pos (l * w)) (pos (d * k) *ℤ G) ∙ ap neg_ℤ (scaled (l * w) (d * k) G ∙ (by_size (l * w * (d * k)) (d * k * l * w) G (omega arith) ∙ sym (scaled (d * k * l) w G)))))))

    second : pos (v * w) *ℤ (pos k *ℤ S) ≡ pos (d * k * l) *ℤ (pos v *ℤ H)
    second = scaled (v * w) k S ∙ (by_size (v * w * k) (k * v * w) S (omega arith) ∙ (sym (scaled (k * v) w S) ∙ (ap (λ z. pos (k * v) *ℤ z) f
        ∙ (scaled (k * v) (d * l) H ∙ (by_size (k * v * (d * l)) (d * k * l * v) H (omega arith) ∙ sym (scaled (d * k * l) v H))))))

    whole : pos (v * w) *ℤ (pos l *ℤ R +ℤ pos k *ℤ S) ≡ neg_ℤ (pos (d * k * l) *ℤ (pos w *ℤ G)) +ℤ pos (d * k * l) *ℤ (pos v *ℤ H)
    whole = sym (spread (pos (v * w)) (pos l *ℤ R) (pos k *ℤ S)) ∙ ap₂ (λ x y. x +ℤ y) first second

-- m·R + n·S at most 0 with m·k = n·l
least : (m n k l : ℕ) (R S : ℤ) → 0 < n → m * k ≡ n * l → (pos m *ℤ R +ℤ pos n *ℤ S) ≤ℤ pos 0 → (pos l *ℤ R +ℤ pos k *ℤ S) ≤ℤ pos 0
least m n k l R S pn e h =
    cancelled n (pos l *ℤ R +ℤ pos k *ℤ S) (pos 0) pn
    (level (pos n *ℤ (pos l *ℤ R +ℤ pos k *ℤ S)) (pos k *ℤ pos 0) (pos n *ℤ pos 0) (no_product k) (no_product n) (subst (λ z. z ≤ℤ (pos k *ℤ pos 0)) same (multiplied k (pos m *ℤ R +ℤ pos n *ℤ S) (pos 0) h)))
  where
    level : (x y z : ℤ) → y ≡ pos 0 → z ≡ pos 0 → x ≤ℤ y → x ≤ℤ z
    level x y z e f h = omega (arith, ints)

    same : pos k *ℤ (pos m *ℤ R +ℤ pos n *ℤ S) ≡ pos n *ℤ (pos l *ℤ R +ℤ pos k *ℤ S)
    same = sym (spread (pos k) (pos m *ℤ R) (pos n *ℤ S))
        ∙ (ap₂ (λ x y. x +ℤ y) (scaled k m R ∙ (by_size (k * m) (n * l) R (omega (arith, e)) ∙ sym (scaled n l R))) (exchanged (pos k) (pos n) S)
        ∙ spread (pos n) (pos l *ℤ R) (pos k *ℤ S))

-- what the rest of a row is over the scale, and its bound there
rest_over : (at : ℕ → Ratio) (x : ℕ) (k : ℤ) (r : Row) (g : Ratio) (scale : ℕ) (whole : ℕ → ℤ) → ArePositive at → IsScaled at x scale whole → (b : IsBoundOf at x k r g)
    → (ru : ℕ) → b.rest.under ≡ pos ru → b.rest.top *ℤ pos scale ≡ (pos scale *ℤ r.constant +ℤ total whole b.row.lows) *ℤ pos ru
rest_over at x k r g scale whole h s b ru e =
    let w = worth at r.constant b.row.lows in
    let u = positive_is w.under (worth_positive at r.constant b.row.lows h) in
    let same : b.rest.top *ℤ pos u.0 ≡ w.top *ℤ pos ru = subst (λ z. b.rest.top *ℤ z ≡ w.top *ℤ pos ru) u.2 (subst (λ z. b.rest.top *ℤ w.under ≡ w.top *ℤ z) e b.worth_is) in
    let over : w.top *ℤ pos scale ≡ (pos scale *ℤ r.constant +ℤ total whole b.row.lows) *ℤ pos u.0 = subst (λ z. w.top *ℤ pos scale ≡ (pos scale *ℤ r.constant +ℤ total whole b.row.lows) *ℤ z) u.2 (worth_scaled at x scale whole s r.constant b.row.lows b.row.below) in
    same_over b.rest.top w.top (pos scale *ℤ r.constant +ℤ total whole b.row.lows) ru u.0 scale u.1 same over

zero_sum : (m n k l : ℕ) → m * k ≡ n * l → pos m *ℤ pos k +ℤ pos n *ℤ neg_ℤ (pos l) ≡ pos 0
zero_sum m n k l e = let f = negated_right (pos n) (pos l) in omega (arith, ints, e, f)

pub crossing : BoundsAreCrossed
crossing at x k l m n r s g h pos_at pk pl pm pn e b d met =
    let sc = scaled_to at pos_at x in
    let scale = sc.0 in
    let whole = sc.1 in
    let R = pos scale *ℤ r.constant +ℤ total whole b.row.lows in
    let S = pos scale *ℤ s.constant +ℤ total whole d.row.lows in
    let ru = positive_is b.rest.under b.positive in
    let su = positive_is d.rest.under d.positive in
    let v = positive_is g.under b.bound.reduced.positive in
    let w = positive_is h.under d.bound.reduced.positive in
    let one : pos v.0 *ℤ R ≡ neg_ℤ (pos (scale * k) *ℤ g.top)
    = bound_over b.rest.top R g.top ru.0 scale k v.0 ru.1 (rest_over at x (pos k) r g scale whole pos_at sc.2 b ru.0 ru.2)
    (subst (λ z. g.top *ℤ (z *ℤ pos k) ≡ neg_ℤ (b.rest.top *ℤ pos v.0)) ru.2 (subst (λ z. g.top *ℤ (b.rest.under *ℤ pos k) ≡ neg_ℤ (b.rest.top *ℤ z)) v.2 b.bound.zero_sum)) in
    let two : pos w.0 *ℤ S ≡ pos (scale * l) *ℤ h.top
    = bound_over d.rest.top S (neg_ℤ h.top) su.0 scale l w.0 su.1 (rest_over at x (neg_ℤ (pos l)) s h scale whole pos_at sc.2 d su.0 su.2)
    (turned h.top (pos su.0) (pos l) (neg_ℤ (d.rest.top *ℤ pos w.0)) (subst (λ z. h.top *ℤ (z *ℤ neg_ℤ (pos l)) ≡ neg_ℤ (d.rest.top *ℤ pos w.0)) su.2 (subst (λ z. h.top *ℤ (d.rest.under *ℤ neg_ℤ (pos l)) ≡ neg_ℤ (d.rest.top *ℤ z)) w.2 d.bound.zero_sum)))
    ∙ (ap neg_ℤ (negated_right (pos (scale * l)) h.top) ∙ twice (pos (scale * l) *ℤ h.top)) in
    let made = apart scale k l v.0 w.0 g.top h.top R S sc.2.positive pk pl one two (least m n k l R S pn e (combined sc)) in
    subst (λ z. (h.top *ℤ z) ≤ℤ (g.top *ℤ h.under)) (sym v.2) (subst (λ z. (h.top *ℤ pos v.0) ≤ℤ (g.top *ℤ z)) (sym w.2)
    (subst (λ z. z ≤ℤ (g.top *ℤ pos w.0)) (*ℤ_comm (pos v.0) h.top) (subst (λ z. (pos v.0 *ℤ h.top) ≤ℤ z) (*ℤ_comm (pos w.0) g.top) made)))
  where
    twice : (z : ℤ) → neg_ℤ (neg_ℤ z) ≡ z
    twice z = omega (arith, ints)

    turned : (h u l y : ℤ) → h *ℤ (u *ℤ neg_ℤ l) ≡ y → neg_ℤ h *ℤ (u *ℤ l) ≡ y
    turned h u l y e = negated_left h (u *ℤ l) ∙ (sym (negated_right h (u *ℤ l)) ∙ (ap (λ z. h *ℤ z) (sym (negated_right u l)) ∙ e))

    combined : (sc : (scale : ℕ) × (whole : ℕ → ℤ) × IsScaled at x scale whole)
        → (pos m *ℤ (pos sc.0 *ℤ r.constant +ℤ total sc.1 b.row.lows) +ℤ pos n *ℤ (pos sc.0 *ℤ s.constant +ℤ total sc.1 d.row.lows)) ≤ℤ pos 0
    combined sc =
        let c = pos m *ℤ r.constant +ℤ pos n *ℤ s.constant in
        let ps = with_parts (times_parts (pos m) r.parts) (times_parts (pos n) s.parts) in
        let parts : ps ≡ with_parts (times_parts (pos m) b.row.lows ++ monomial (pos m *ℤ pos k) x ∷ []) (times_parts (pos n) d.row.lows ++ monomial (pos n *ℤ neg_ℤ (pos l)) x ∷ [])
        = ap₂ with_parts (ap (times_parts (pos m)) b.row.is ∙ times_last (pos m) (pos k) x b.row.lows) (ap (times_parts (pos n)) d.row.is ∙ times_last (pos n) (neg_ℤ (pos l)) x d.row.lows) in
        let under : AreBelow x ps
        = subst (AreBelow x) (sym parts) (combined_below x (pos m *ℤ pos k) (pos n *ℤ neg_ℤ (pos l)) (times_parts (pos m) b.row.lows) (times_parts (pos n) d.row.lows) (zero_sum m n k l e) (times_below x (pos m) b.row.lows b.row.below) (times_below x (pos n) d.row.lows d.row.below)) in
        let w = worth at c ps in
        let u = positive_is w.under (worth_positive at c ps pos_at) in
        let over : w.top *ℤ pos sc.0 ≡ (pos sc.0 *ℤ c +ℤ total sc.1 ps) *ℤ pos u.0 = subst (λ z. w.top *ℤ pos sc.0 ≡ (pos sc.0 *ℤ c +ℤ total sc.1 ps) *ℤ z) u.2 (worth_scaled at x sc.0 sc.1 sc.2 c ps under) in
        let below : (pos sc.0 *ℤ c +ℤ total sc.1 ps) ≤ℤ pos 0 = not_above w.top (pos sc.0 *ℤ c +ℤ total sc.1 ps) sc.0 u.0 u.1 over met in
        let value : pos sc.0 *ℤ c +ℤ total sc.1 ps ≡ pos m *ℤ (pos sc.0 *ℤ r.constant +ℤ total sc.1 b.row.lows) +ℤ pos n *ℤ (pos sc.0 *ℤ s.constant +ℤ total sc.1 d.row.lows)
        = ap (λ z. pos sc.0 *ℤ c +ℤ z) (with_parts_total sc.1 (times_parts (pos m) r.parts) (times_parts (pos n) s.parts)
        ∙ ap₂ (λ y z. y +ℤ z)
        (times_total sc.1 (pos m) r.parts ∙ ap (λ z. pos m *ℤ z) (ap (total sc.1) b.row.is ∙ last_total sc.1 (pos k) x b.row.lows))
        (times_total sc.1 (pos n) s.parts ∙ ap (λ z. pos n *ℤ z) (ap (total sc.1) d.row.is ∙ last_total sc.1 (neg_ℤ (pos l)) x d.row.lows)))
        ∙ comes_to (pos sc.0) (pos m) (pos n) (pos k) (neg_ℤ (pos l)) r.constant s.constant (total sc.1 b.row.lows) (total sc.1 d.row.lows) (sc.1 x) (zero_sum m n k l e) in
        subst (λ z. z ≤ℤ pos 0) value below
      where
        not_above : (t R : ℤ) (d u : ℕ) → 0 < u → t *ℤ pos d ≡ R *ℤ pos u → t ≤ℤ pos 0 → R ≤ℤ pos 0
        not_above t R d u p e h =
            cancelled u R (pos 0) p (level (pos u *ℤ R) (pos d *ℤ pos 0) (pos u *ℤ pos 0) (no_product d) (no_product u)
            (subst (λ z. z ≤ℤ (pos d *ℤ pos 0)) (*ℤ_comm (pos d) t ∙ (e ∙ *ℤ_comm R (pos u))) (multiplied d t (pos 0) h)))
          where
            level : (x y z : ℤ) → y ≡ pos 0 → z ≡ pos 0 → x ≤ℤ y → x ≤ℤ z
            level x y z e f h = omega (arith, ints)
