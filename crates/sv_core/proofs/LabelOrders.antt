-- The order by which labels are sorted is that of the definition, and tells labels apart.
use Rattle.std.proofs.Common.{◌≡◌, ◌∙◌, ℕ, true, List, refl, sym, ap, subst, arith}
use Rattle.std.specs.List.Sorted.{IsStrictlySortedBy}
use Rattle.std.specs.Ordering.{nat_cmp, ordering_then}
use Rattle.std.specs.Cmp.{Equal-is}
use Rattle.std.proofs.lemmas.Bool.Decides.{nat_tests}
use Rattle.std.specs.declared.cmp.Ordering.{Ordering}
use Rattle.std.specs.declared.cmp.Ordering.TheVariants.{Less, Equal, Greater}
use Rattle.sv_core.specs.declared.label.Label.{Label}
use Rattle.sv_core.specs.declared.label.Site.{Site}
use Rattle.sv_core.specs.declared.label.Site.TheVariants.{At, End}
use Rattle.sv_core.specs.contracts.label.LabelOrd.TheImpl.{ghosts as label_ord, cmp-value as label_cmp}
use Rattle.sv_core.specs.contracts.label.SiteOrd.TheImpl.{ghosts as site_ord, cmp-value as site_cmp}
use Rattle.sv_core.specs.contracts.label.LabelPartialEq.TheImpl.{ghosts as label_test}
use Rattle.sv_core.specs.contracts.label.LabelOrd.TheImpl.Laws.{matches_eq-law}
use Rattle.sv_core.specs.LabelTexts.{site_order}
use Rattle.sv_core.specs.Checks.{full_order}

site_same : (a b : Site) → site_ord.cmp a b ≡ site_order a b
unfolding site_ord site_cmp
site_same (At p) (At q) = refl
site_same (At p) End = refl
site_same End (At q) = refl
site_same End End = refl

label_same : (a b : Label) → label_ord.cmp a b ≡ full_order a b
unfolding label_ord label_cmp
label_same a b = ap (λ o. ordering_then o (ordering_then (nat_cmp a.kind b.kind) (ordering_then (nat_cmp a.number b.number) (nat_cmp a.«of» b.«of»)))) (site_same a.site b.site)

pub in_full_order : (xs : List Label) → IsStrictlySortedBy label_ord.cmp xs → IsStrictlySortedBy full_order xs
in_full_order xs h =
    let same : label_ord.cmp ≡ full_order = λ i a b. label_same a b i in
    subst (λ r. IsStrictlySortedBy r xs) same h

-- ---- what is not told apart is one

first_equal : (a b : Ordering) → ordering_then a b ≡ Equal → a ≡ Equal
first_equal Less b h = h
first_equal Equal b h = refl
first_equal Greater b h = h

second_equal : (a b : Ordering) → ordering_then a b ≡ Equal → b ≡ Equal
second_equal Less b h = absurd (let bad : Less ≡ Equal = h in cc)
second_equal Equal b h = h
second_equal Greater b h = absurd (let bad : Greater ≡ Equal = h in cc)

nat_equal : (m n : ℕ) → nat_cmp m n ≡ Equal → m ≡ n
nat_equal m n h = grind (arith, nat_tests)

site_equal : (a b : Site) → site_order a b ≡ Equal → a ≡ b
site_equal (At p) (At q) h =
    let line = nat_equal p.line q.line (first_equal (nat_cmp p.line q.line) _ h) in
    let col = nat_equal p.col q.col (second_equal (nat_cmp p.line q.line) _ h) in
    λ i. At (record { line = line i; col = col i })
site_equal (At p) End h = absurd (let bad : Less ≡ Equal = h in cc)
site_equal End (At q) h = absurd (let bad : Greater ≡ Equal = h in cc)
site_equal End End h = refl

label_equal : (a b : Label) → full_order a b ≡ Equal → a ≡ b
label_equal a b h =
    let site = site_equal a.site b.site (first_equal (site_order a.site b.site) _ h) in
    let later = second_equal (site_order a.site b.site) _ h in
    let kind = nat_equal a.kind b.kind (first_equal (nat_cmp a.kind b.kind) _ later) in
    let last = second_equal (nat_cmp a.kind b.kind) _ later in
    let number = nat_equal a.number b.number (first_equal (nat_cmp a.number b.number) _ last) in
    let name = nat_equal a.«of» b.«of» (second_equal (nat_cmp a.number b.number) _ last) in
    λ i. record { site = site i; kind = kind i; number = number i; «of» = name i }

pub same_label : (a b : Label) → label_test.eq a b ≡ true → a ≡ b
same_label a b h = label_equal a b (sym (label_same a b) ∙ (Equal-is (label_ord.cmp a b)).0 (sym (matches_eq-law a b) ∙ h))
