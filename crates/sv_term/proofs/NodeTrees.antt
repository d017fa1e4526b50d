-- The tree of a node, as what its parts stand for stays.
use Rattle.std.proofs.Common.{ℕ, ◌≤◌, List, [], ◌∷◌, ◌≡◌, length, refl, ap, ap₂, arith}
use Rattle.sv_term.specs.Sorts.{Sort, ArrSort, TupSort, SortAnd}
use Rattle.sv_term.specs.Terms.{Term, Terms, End, More}
use Rattle.sv_term.specs.Terms as t
use Rattle.sv_term.specs.Banks.{Nodes, SortRow, NumRow, BoolRow, ArrRow, TupRow, parts_by, sort_by, args_by, term_by, sorts_named, args, sort_parts, IsSort, AreSorts, IsTerm, AreTerms, AreBelow, SortsAreBelow, Fits, SortFits}
use Rattle.sv_term.specs.declared.node.SortId.{SortId}
use Rattle.sv_term.specs.declared.node.TermId.{TermId}
use Rattle.sv_term.specs.declared.node.Node.{Node}
use Rattle.sv_term.specs.declared.node.Node.TheVariants as n

abbrev pub AgreeOn : {A B : Type 0} → (A → B) → (A → B) → List A → Type 0
AgreeOn f g [] = Unit {0}
AgreeOn f g (k ∷ ks) = (f k ≡ g k) × AgreeOn f g ks

pub parts_same : (f g : SortId → Sort) (ks : List SortId) → AgreeOn f g ks → parts_by f ks ≡ parts_by g ks
parts_same f g [] a = refl
parts_same f g (k ∷ ks) a = ap₂ SortAnd a.0 (parts_same f g ks a.1)

pub sort_same : (f g : SortId → Sort) (x : SortRow) → AgreeOn f g (sort_parts x) → sort_by f x ≡ sort_by g x
sort_same f g (NumRow r) a = refl
sort_same f g BoolRow a = refl
sort_same f g (ArrRow k) a = ap ArrSort a.0
sort_same f g (TupRow ks) a = ap TupSort (parts_same f g ks a)

pub args_same : (g h : TermId → Term) (ks : List TermId) → AgreeOn g h ks → args_by g ks ≡ args_by h ks
args_same g h [] a = refl
args_same g h (k ∷ ks) a = ap₂ More a.0 (args_same g h ks a.1)

three_same : (x : t.Shape) (a b c e f g : Term) → a ≡ e → b ≡ f → c ≡ g → t.three x a b c ≡ t.three x e f g
three_same x a b c e f g p q r = cc (p, q, r)

pub term_same : (e f : SortId → Sort) (g h : TermId → Term) (x : Node) → AgreeOn e f (sorts_named x) → AgreeOn g h (args x) → term_by e g x ≡ term_by f h x
term_same e f g h (n.Lit negative m) s a = refl
term_same e f g h (n.Truth b) s a = refl
term_same e f g h (n.Var x k) s a = ap (t.Var x) s.0
term_same e f g h (n.Add x y) s a = ap₂ t.Add a.0 a.1.0
term_same e f g h (n.Sub x y) s a = ap₂ t.Sub a.0 a.1.0
term_same e f g h (n.Mul x y) s a = ap₂ t.Mul a.0 a.1.0
term_same e f g h (n.Div x y) s a = ap₂ t.Div a.0 a.1.0
term_same e f g h (n.Mod x y) s a = ap₂ t.Mod a.0 a.1.0
term_same e f g h (n.Le x y) s a = ap₂ t.Le a.0 a.1.0
term_same e f g h (n.Eq x y) s a = ap₂ t.Eq a.0 a.1.0
term_same e f g h (n.And x y) s a = ap₂ t.And a.0 a.1.0
term_same e f g h (n.Or x y) s a = ap₂ t.Or a.0 a.1.0
term_same e f g h (n.Sel x y) s a = ap₂ t.Sel a.0 a.1.0
term_same e f g h (n.Wrap signed bits x) s a = ap (t.Wrap signed bits) a.0
term_same e f g h (n.Not p) s a = ap t.Not a.0
term_same e f g h (n.Ite c x y) s a = three_same t.IteNode _ _ _ _ _ _ a.0 a.1.0 a.1.1.0
term_same e f g h (n.Sto x i v) s a = three_same t.StoNode _ _ _ _ _ _ a.0 a.1.0 a.1.1.0
term_same e f g h (n.Const k v) s a = ap₂ t.Const s.0 a.0
term_same e f g h (n.Mix k x y) s a = three_same t.MixNode _ _ _ _ _ _ a.0 a.1.0 a.1.1.0
term_same e f g h (n.Tup k ks) s a = ap₂ t.Tup s.0 (args_same g h ks a)
term_same e f g h (n.Get k x) s a = ap (t.Get k) a.0
term_same e f g h (n.Sum x) s a = ap t.Sum a.0

abbrev pub EachIs : {A : Type 0} → (A → Type 0) → List A → Type 0
EachIs P [] = Unit {0}
EachIs P (k ∷ ks) = P k × EachIs P ks

pub agree_on : {A B : Type 0} → (P : A → Type 0) (f g : A → B) → ((k : A) → P k → f k ≡ g k) → (ks : List A) → EachIs P ks → AgreeOn f g ks
agree_on P f g h [] i = tt
agree_on P f g h (k ∷ ks) i = (h k i.0, agree_on P f g h ks i.1)

-- ---- what fits is in the bank

pub fits_sorts : (b : Nodes) (x : Node) → Fits b x → AreSorts b (sorts_named x)
fits_sorts b (n.Lit negative m) i = tt
fits_sorts b (n.Truth v) i = tt
fits_sorts b (n.Var x k) i = (i, tt)
fits_sorts b (n.Add x y) i = tt
fits_sorts b (n.Sub x y) i = tt
fits_sorts b (n.Mul x y) i = tt
fits_sorts b (n.Div x y) i = tt
fits_sorts b (n.Mod x y) i = tt
fits_sorts b (n.Wrap signed bits x) i = tt
fits_sorts b (n.Le x y) i = tt
fits_sorts b (n.Eq x y) i = tt
fits_sorts b (n.Not p) i = tt
fits_sorts b (n.And x y) i = tt
fits_sorts b (n.Or x y) i = tt
fits_sorts b (n.Ite c x y) i = tt
fits_sorts b (n.Sel x y) i = tt
fits_sorts b (n.Sto x j v) i = tt
fits_sorts b (n.Const k v) i = (i.sort_within, tt)
fits_sorts b (n.Mix k x y) i = tt
fits_sorts b (n.Tup k ks) i = (i.sort_within, tt)
fits_sorts b (n.Get k x) i = tt
fits_sorts b (n.Sum x) i = tt

pub fits_terms : (b : Nodes) (x : Node) → Fits b x → AreTerms b (args x)
fits_terms b (n.Lit negative m) i = tt
fits_terms b (n.Truth v) i = tt
fits_terms b (n.Var x k) i = tt
fits_terms b (n.Add x y) i = (i.0.within, (i.1.within, tt))
fits_terms b (n.Sub x y) i = (i.0.within, (i.1.within, tt))
fits_terms b (n.Mul x y) i = (i.0.within, (i.1.within, tt))
fits_terms b (n.Div x y) i = (i.0.within, (i.1.within, tt))
fits_terms b (n.Mod x y) i = (i.0.within, (i.1.within, tt))
fits_terms b (n.Wrap signed bits x) i = (i.0.within, tt)
fits_terms b (n.Le x y) i = (i.0.within, (i.1.within, tt))
fits_terms b (n.Eq x y) i = (i.left, (i.right, tt))
fits_terms b (n.Not p) i = (i.within, tt)
fits_terms b (n.And x y) i = (i.0.within, (i.1.within, tt))
fits_terms b (n.Or x y) i = (i.0.within, (i.1.within, tt))
fits_terms b (n.Ite c x y) i = (i.0.within, (i.1.left, (i.1.right, tt)))
fits_terms b (n.Sel x y) i = (i.0.within, (i.1.within, tt))
fits_terms b (n.Sto x j v) i = (i.0.within, (i.1.within, (i.2.within, tt)))
fits_terms b (n.Const k v) i = (i.within, tt)
fits_terms b (n.Mix k x y) i = (i.0.within, (i.1.within, (i.2.right, tt)))
fits_terms b (n.Tup k ks) i = i.within
fits_terms b (n.Get k x) i = (i.within, tt)
fits_terms b (n.Sum x) i = (i.within, tt)

pub sort_fits_sorts : (b : Nodes) (x : SortRow) → SortFits b x → AreSorts b (sort_parts x)
sort_fits_sorts b (NumRow r) i = tt
sort_fits_sorts b BoolRow i = tt
sort_fits_sorts b (ArrRow k) i = (i, tt)
sort_fits_sorts b (TupRow ks) i = i

-- ---- what is in the bank is below its length

pub are_below : (b : Nodes) (m : ℕ) → length b.nodes ≤ m → (ks : List TermId) → AreTerms b ks → AreBelow m ks
are_below b m h [] i = tt
are_below b m h (k ∷ ks) i = (omega (arith, i.0), are_below b m h ks i.1)

pub sorts_are_below : (b : Nodes) (m : ℕ) → length b.sorts ≤ m → (ks : List SortId) → AreSorts b ks → SortsAreBelow m ks
sorts_are_below b m h [] i = tt
sorts_are_below b m h (k ∷ ks) i = (omega (arith, i.0), sorts_are_below b m h ks i.1)

pub each_term : (b : Nodes) (ks : List TermId) → AreTerms b ks → EachIs (IsTerm b) ks
each_term b [] i = tt
each_term b (k ∷ ks) i = (i.0, each_term b ks i.1)

pub each_sort : (b : Nodes) (ks : List SortId) → AreSorts b ks → EachIs (IsSort b) ks
each_sort b [] i = tt
each_sort b (k ∷ ks) i = (i.0, each_sort b ks i.1)
