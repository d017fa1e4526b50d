-- A run leaves alone what its command neither sets nor forgets.
use Rattle.std.proofs.Common.{ℕ, Bool, true, false, ◌||◌, nat_eq, ◌≡◌, inl, inr, List, get_or, slice_set, refl, sym, ap, ◌∙◌, get_or-set_other}
use Rattle.std.proofs.lemmas.Bool.Decides.{Decides-eqb}
use Rattle.sv_core.specs.declared.label.Label.{Label}
use Rattle.sv_term.specs.Sorts.{Sort}
use Rattle.sv_term.specs.Values.{Value, Flag}
use Rattle.sv_gcl.specs.Commands.{Command, Commands, Assume, Check, Set, Forget, Seq, Choice, Nil, Cons, Store, value_in, Outcome, Ends, Fails, ComesTo, AllComeTo, OneComesTo, sets, some_set, UnsetStays}

abbrev store_in : Store → Outcome → Store
store_in s (Ends t) = t
store_in s (Fails l) = s

pub same_store : (s t : Store) → Ends s ≡ Ends t → s ≡ t
same_store s t e = ap (store_in s) e

abbrev label_in : Label → Outcome → Label
label_in k (Ends t) = k
label_in k (Fails l) = l

pub same_label : (l k : Label) → Fails l ≡ Fails k → l ≡ k
same_label l k e = ap (label_in l) e

pub neither : (a b : Bool) → (a || b) ≡ false → (a ≡ false) × (b ≡ false)
neither true b e = cc e
neither false b e = (refl, e)

apart : (y x : ℕ) (s : Store) (v : Value) → nat_eq y x ≡ false → get_or (slice_set s y v) x (Flag false) ≡ get_or s x (Flag false)
apart y x s v h = get_or-set_other s y x v (Flag false) (λ e. let k : nat_eq y x ≡ true = (Decides-eqb y x).1 (sym e) in cc)

module _ (vars : List Sort) where
  mutual
    pub stays : (c : Command) (s t : Store) (x : ℕ) → sets c x ≡ false → ComesTo vars c s (Ends t) → get_or t x (Flag false) ≡ get_or s x (Flag false)
    stays (Assume f) s t x h r = ap (λ z. get_or z x (Flag false)) (same_store t s r.1)
    stays (Check l f) s t x h r = elim r [ inl a ↦ ap (λ z. get_or z x (Flag false)) (same_store t s a.1) | inr b ↦ cc b.1 ]
    stays (Set y e) s t x h r = ap (λ z. get_or z x (Flag false)) (same_store t _ r) ∙ apart y x s (value_in s e) h
    stays (Forget y) s t x h r = ap (λ z. get_or z x (Flag false)) (same_store t _ r.2) ∙ apart y x s r.0 h
    stays (Seq cs) s t x h r = all_stay cs s t x h r
    stays (Choice cs) s t x h r = one_stays cs s t x h r

    all_stay : (cs : Commands) (s t : Store) (x : ℕ) → some_set cs x ≡ false → AllComeTo vars cs s (Ends t) → get_or t x (Flag false) ≡ get_or s x (Flag false)
    all_stay Nil s t x h r = ap (λ z. get_or z x (Flag false)) (same_store t s r)
    all_stay (Cons c cs) s t x h r =
        let n = neither (sets c x) (some_set cs x) h in
        elim r [ inl a ↦ all_stay cs a.0 t x n.1 a.2 ∙ stays c s a.0 x n.0 a.1 | inr b ↦ cc b.1 ]

    pub one_stays : (cs : Commands) (s t : Store) (x : ℕ) → some_set cs x ≡ false → OneComesTo vars cs s (Ends t) → get_or t x (Flag false) ≡ get_or s x (Flag false)
    one_stays Nil s t x h r = absurd r
    one_stays (Cons c cs) s t x h r =
        let n = neither (sets c x) (some_set cs x) h in
        elim r [ inl a ↦ stays c s t x n.0 a | inr b ↦ one_stays cs s t x n.1 b ]

pub unset_stays : UnsetStays
unset_stays vars c s t x h r = stays vars c s t x h r
