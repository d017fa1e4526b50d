-- No two numbers of a bank stand for one sort, or for one term.
use Rattle.std.proofs.Common.{ℕ, zero, suc, ◌<◌, List, [], ◌∷◌, ◌≡◌, Some, length, get_or, refl, sym, ap, ap₂, ◌∙◌, arith}
use Rattle.sv_term.specs.Sorts.{Sort, Sorts, NoSorts, SortAnd}
use Rattle.sv_term.specs.Terms.{Shape, Term, App, Terms}
use Rattle.sv_term.specs.Terms as t
use Rattle.sv_term.specs.Banks.{Nodes, SortRow, NumRow, BoolRow, ArrRow, TupRow, parts_by, sort_by, args_by, term_by, sort, term, tree, sorts_named, args, IsSort, AreSorts, IsTerm, AreTerms, sort_parts, SortsAreBelow, AreBelow, Fits, IsSound}
use Rattle.sv_term.specs.declared.node.SortId.{SortId}
use Rattle.sv_term.specs.declared.node.TermId.{TermId}
use Rattle.sv_term.specs.declared.node.Node.{Node}
use Rattle.sv_term.specs.declared.node.Node.TheVariants as n
use Rattle.sv_term.proofs.BankLists.{here}
use Rattle.sv_term.proofs.NodeTrees.{fits_sorts, fits_terms, sort_fits_sorts, sorts_are_below}

module _ (b : Nodes) (m : ℕ) (apart : (j k : SortId) → j.0 < m → IsSort b j → IsSort b k → sort b j ≡ sort b k → j ≡ k) where
  parts_apart : (js ks : List SortId) → SortsAreBelow m js → AreSorts b js → AreSorts b ks → parts_by (sort b) js ≡ parts_by (sort b) ks → js ≡ ks
  parts_apart [] [] l h i e = refl
  parts_apart (j ∷ js) (k ∷ ks) l h i e =
      let f : sort b j ≡ sort b k = cc e in
      let g : parts_by (sort b) js ≡ parts_by (sort b) ks = cc e in
      ap₂ (λ z zs. z ∷ zs) (apart j k l.0 h.0 i.0 f) (parts_apart js ks l.1 h.1 i.1 g)
  parts_apart [] (k ∷ ks) l h i e = cc e
  parts_apart (j ∷ js) [] l h i e = cc e

  row_apart : (x y : SortRow) → SortsAreBelow m (sort_parts x) → AreSorts b (sort_parts x) → AreSorts b (sort_parts y) → sort_by (sort b) x ≡ sort_by (sort b) y → x ≡ y
  row_apart (NumRow r) (NumRow q) l h i e = ap NumRow (cc e)
  row_apart BoolRow BoolRow l h i e = refl
  row_apart (ArrRow j) (ArrRow k) l h i e = ap ArrRow (apart j k l.0 h.0 i.0 (cc e))
  row_apart (TupRow js) (TupRow ks) l h i e = ap TupRow (parts_apart js ks l h i (cc e))
  row_apart _ _ l h i e = cc e

-- ---- a node by what its tree shows of it, the sorts that it names and its arguments

abbrev shape_of : Term → Shape
shape_of (App x ts) = x

abbrev args_of : Term → Terms
args_of (App x ts) = ts

abbrev sorts_in : Shape → Sorts
sorts_in (t.VarNode x s) = SortAnd s NoSorts
sorts_in (t.ConstNode s) = SortAnd s NoSorts
sorts_in (t.TupNode s) = SortAnd s NoSorts
sorts_in _ = NoSorts

abbrev named : List SortId → SortId
named ks = get_or ks 0 record { 0 = 0 }

abbrev arg : ℕ → List TermId → TermId
arg k ks = get_or ks k record { 0 = 0 }

abbrev made : List SortId → Shape → List TermId → Node
made ss (t.LitNode negative m) ks = n.Lit negative m
made ss (t.TruthNode v) ks = n.Truth v
made ss (t.VarNode x s) ks = n.Var x (named ss)
made ss t.AddNode ks = n.Add (arg 0 ks) (arg 1 ks)
made ss t.SubNode ks = n.Sub (arg 0 ks) (arg 1 ks)
made ss t.MulNode ks = n.Mul (arg 0 ks) (arg 1 ks)
made ss t.DivNode ks = n.Div (arg 0 ks) (arg 1 ks)
made ss t.ModNode ks = n.Mod (arg 0 ks) (arg 1 ks)
made ss (t.WrapNode signed bits) ks = n.Wrap signed bits (arg 0 ks)
made ss t.LeNode ks = n.Le (arg 0 ks) (arg 1 ks)
made ss t.EqNode ks = n.Eq (arg 0 ks) (arg 1 ks)
made ss t.NotNode ks = n.Not (arg 0 ks)
made ss t.AndNode ks = n.And (arg 0 ks) (arg 1 ks)
made ss t.OrNode ks = n.Or (arg 0 ks) (arg 1 ks)
made ss t.IteNode ks = n.Ite (arg 0 ks) (arg 1 ks) (arg 2 ks)
made ss t.SelNode ks = n.Sel (arg 0 ks) (arg 1 ks)
made ss t.StoNode ks = n.Sto (arg 0 ks) (arg 1 ks) (arg 2 ks)
made ss (t.ConstNode s) ks = n.Const (named ss) (arg 0 ks)
made ss t.MixNode ks = n.Mix (arg 0 ks) (arg 1 ks) (arg 2 ks)
made ss (t.TupNode s) ks = n.Tup (named ss) ks
made ss (t.GetNode k) ks = n.Get k (arg 0 ks)
made ss t.SumNode ks = n.Sum (arg 0 ks)

args_are : (e : SortId → Sort) (g : TermId → Term) (x : Node) → args_of (term_by e g x) ≡ args_by g (args x)
args_are e g (n.Lit negative m) = refl
args_are e g (n.Truth v) = refl
args_are e g (n.Var x k) = refl
args_are e g (n.Add x y) = refl
args_are e g (n.Sub x y) = refl
args_are e g (n.Mul x y) = refl
args_are e g (n.Div x y) = refl
args_are e g (n.Mod x y) = refl
args_are e g (n.Wrap signed bits x) = refl
args_are e g (n.Le x y) = refl
args_are e g (n.Eq x y) = refl
args_are e g (n.Not p) = refl
args_are e g (n.And p q) = refl
args_are e g (n.Or p q) = refl
args_are e g (n.Ite c x y) = refl
args_are e g (n.Sel x i) = refl
args_are e g (n.Sto x i v) = refl
args_are e g (n.Const k v) = refl
args_are e g (n.Mix k x y) = refl
args_are e g (n.Tup k ks) = refl
args_are e g (n.Get k x) = refl
args_are e g (n.Sum x) = refl

sorts_are : (e : SortId → Sort) (g : TermId → Term) (x : Node) → sorts_in (shape_of (term_by e g x)) ≡ parts_by e (sorts_named x)
sorts_are e g (n.Lit negative m) = refl
sorts_are e g (n.Truth v) = refl
sorts_are e g (n.Var x k) = refl
sorts_are e g (n.Add x y) = refl
sorts_are e g (n.Sub x y) = refl
sorts_are e g (n.Mul x y) = refl
sorts_are e g (n.Div x y) = refl
sorts_are e g (n.Mod x y) = refl
sorts_are e g (n.Wrap signed bits x) = refl
sorts_are e g (n.Le x y) = refl
sorts_are e g (n.Eq x y) = refl
sorts_are e g (n.Not p) = refl
sorts_are e g (n.And p q) = refl
sorts_are e g (n.Or p q) = refl
sorts_are e g (n.Ite c x y) = refl
sorts_are e g (n.Sel x i) = refl
sorts_are e g (n.Sto x i v) = refl
sorts_are e g (n.Const k v) = refl
sorts_are e g (n.Mix k x y) = refl
sorts_are e g (n.Tup k ks) = refl
sorts_are e g (n.Get k x) = refl
sorts_are e g (n.Sum x) = refl

made_is : (e : SortId → Sort) (g : TermId → Term) (x : Node) → made (sorts_named x) (shape_of (term_by e g x)) (args x) ≡ x
made_is e g (n.Lit negative m) = refl
made_is e g (n.Truth v) = refl
made_is e g (n.Var x k) = refl
made_is e g (n.Add x y) = refl
made_is e g (n.Sub x y) = refl
made_is e g (n.Mul x y) = refl
made_is e g (n.Div x y) = refl
made_is e g (n.Mod x y) = refl
made_is e g (n.Wrap signed bits x) = refl
made_is e g (n.Le x y) = refl
made_is e g (n.Eq x y) = refl
made_is e g (n.Not p) = refl
made_is e g (n.And p q) = refl
made_is e g (n.Or p q) = refl
made_is e g (n.Ite c x y) = refl
made_is e g (n.Sel x i) = refl
made_is e g (n.Sto x i v) = refl
made_is e g (n.Const k v) = refl
made_is e g (n.Mix k x y) = refl
made_is e g (n.Tup k ks) = refl
made_is e g (n.Get k x) = refl
made_is e g (n.Sum x) = refl

heads : (a b : Term) (ts us : Terms) → t.More a ts ≡ t.More b us → a ≡ b
heads a b ts us e = cc e

tails : (a b : Term) (ts us : Terms) → t.More a ts ≡ t.More b us → ts ≡ us
tails a b ts us e = cc e

module _ (b : Nodes) (m : ℕ) (apart : (j k : TermId) → j.0 < m → IsTerm b j → IsTerm b k → term b j ≡ term b k → j ≡ k) where
  args_apart : (js ks : List TermId) → AreBelow m js → AreTerms b js → AreTerms b ks → args_by (term b) js ≡ args_by (term b) ks → js ≡ ks
  args_apart [] [] l h i e = refl
  args_apart (j ∷ js) (k ∷ ks) l h i e =
      ap₂ (λ z zs. z ∷ zs) (apart j k l.0 h.0 i.0 (heads (term b j) (term b k) (args_by (term b) js) (args_by (term b) ks) e))
      (args_apart js ks l.1 h.1 i.1 (tails (term b j) (term b k) (args_by (term b) js) (args_by (term b) ks) e))
  args_apart [] (k ∷ ks) l h i e = cc e
  args_apart (j ∷ js) [] l h i e = cc e

module _ (b : Nodes) (sound : IsSound b) where
  apart_below : (m : ℕ) (j k : SortId) → j.0 < m → IsSort b j → IsSort b k → sort b j ≡ sort b k → j ≡ k
  apart_below zero j k l i h e = absurd (omega (arith, l))
  apart_below (suc m) j k l i h e =
      let x = here b.sorts j.0 i in
      let y = here b.sorts k.0 h in
      let p = sound.sorts j x.0 x.1 in
      let q = sound.sorts k y.0 y.1 in
      let same = row_apart b j.0 (λ j2 k2 l2. apart_below m j2 k2 (omega (arith, l, l2))) x.0 y.0 p.above (sort_fits_sorts b x.0 p.fits) (sort_fits_sorts b y.0 q.fits) (sym p.is ∙ (e ∙ q.is)) in
      let n = sound.sorts_differ j.0 k.0 i h (x.1 ∙ (ap Some same ∙ sym y.1)) in
      λ t. record { 0 = n t }

  -- a sort has one number
  pub sorts_apart : (j k : SortId) → IsSort b j → IsSort b k → sort b j ≡ sort b k → j ≡ k
  sorts_apart j k = apart_below (suc j.0) j k (omega arith)

  named_apart : (js ks : List SortId) → AreSorts b js → AreSorts b ks → parts_by (sort b) js ≡ parts_by (sort b) ks → js ≡ ks
  named_apart js ks h i e = parts_apart b (length b.sorts) (λ j k l. sorts_apart j k) js ks (sorts_are_below b (length b.sorts) (omega arith) js h) h i e

  node_apart : (m : ℕ) → ((j k : TermId) → j.0 < m → IsTerm b j → IsTerm b k → term b j ≡ term b k → j ≡ k) → (x y : Node) → AreBelow m (args x) → Fits b x → Fits b y → tree b x ≡ tree b y → x ≡ y
  node_apart m apart x y l h i e =
      let p : args x ≡ args y = args_apart b m apart (args x) (args y) l (fits_terms b x h) (fits_terms b y i) (sym (args_are (sort b) (term b) x) ∙ (ap args_of e ∙ args_are (sort b) (term b) y)) in
      let q : sorts_named x ≡ sorts_named y =
      named_apart (sorts_named x) (sorts_named y) (fits_sorts b x h) (fits_sorts b y i) (sym (sorts_are (sort b) (term b) x) ∙ (ap (λ z. sorts_in (shape_of z)) e ∙ sorts_are (sort b) (term b) y)) in
      sym (made_is (sort b) (term b) x) ∙ ((λ t. made (q t) (shape_of (e t)) (p t)) ∙ made_is (sort b) (term b) y)

  terms_below : (m : ℕ) (j k : TermId) → j.0 < m → IsTerm b j → IsTerm b k → term b j ≡ term b k → j ≡ k
  terms_below zero j k l i h e = absurd (omega (arith, l))
  terms_below (suc m) j k l i h e =
      let x = here b.nodes j.0 i in
      let y = here b.nodes k.0 h in
      let p = sound.nodes j x.0 x.1 in
      let q = sound.nodes k y.0 y.1 in
      let same = node_apart j.0 (λ j2 k2 l2. terms_below m j2 k2 (omega (arith, l, l2))) x.0 y.0 p.above p.fits q.fits (sym p.is ∙ (e ∙ q.is)) in
      let n = sound.nodes_differ j.0 k.0 i h (x.1 ∙ (ap Some same ∙ sym y.1)) in
      λ t. record { 0 = n t }

  -- a term has one number
  pub terms_apart : (j k : TermId) → IsTerm b j → IsTerm b k → term b j ≡ term b k → j ≡ k
  terms_apart j k = terms_below (suc j.0) j k (omega arith)
