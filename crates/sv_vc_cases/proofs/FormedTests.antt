-- What the test of a command finds makes it a formed one.
use Rattle.std.proofs.Common.{ℕ, zero, suc, Bool, true, false, ◌&&◌, ◌||◌, ◌+◌, ◌<◌, ◌≤◌, ◌≡◌, ◌⊎◌, inl, inr, List, [], ◌∷◌, map, length, get_or, drop, nat_eq, refl, sym, ap, ap₂, ◌∙◌, subst, arith}
use Rattle.std.proofs.lemmas.List.{drop_more, drop_all}
use Rattle.sv_term.specs.Sorts.{Sort, is_flat}
use Rattle.sv_term.specs.Terms.{Term, Terms, App, End, More, sort_of, is_plain, all_plain}
use Rattle.sv_term.specs.Terms as t
use Rattle.sv_term.specs.Banks.{Nodes, IsSort, AreSorts, AreBelow, IsPlaced, sort, term, sort_list, wide, args, args_by}
use Rattle.sv_term.specs.declared.node.SortId.{SortId}
use Rattle.sv_term.specs.declared.node.TermId.{TermId}
use Rattle.sv_term.specs.declared.node.Node.{Node}
use Rattle.sv_term.specs.declared.node.Node.TheVariants as n
use Rattle.sv_term.proofs.Same.{or_true, same_nat}
use Rattle.sv_term.proofs.BankLists.{sort_list_length}
use Rattle.sv_gcl.specs.declared.command.Cmd.{Cmd}
use Rattle.sv_gcl.specs.declared.lowered.GVar.{GVar}
use Rattle.sv_gcl.specs.declared.lowered.Lowered.{Lowered}
use Rattle.sv_gcl.specs.Commands.{var_sort}
use Rattle.sv_gcl.specs.CommandShapes.{Shape, Shapes, Assume, Check, Set, Forget, Seq, Choice, Nil, Cons, shape, shaped, command, commands, IsIn, AreIn}
use Rattle.sv_gcl.specs.FormedCommands.{NamesVariable, AreOver, IsFormed, AreFormed, IsLowered}
use Rattle.sv_vc.specs.NodeShapes.{node_shape}
use Rattle.sv_vc.proofs.NodeArgs.{tree_is}
use Rattle.sv_vc.proofs.StepLemmas.{sorts_long, var_kind}
use Rattle.sv_vc_cases.specs.FormedTests.{sorts_of, IsOneOf, IsFine, AreFine, IsSettled, AreSettled}

-- ---- variables

vars_long : (b : Nodes) (vs : List GVar) → length (sort_list b (sorts_of vs)) ≡ length vs
vars_long b vs = sort_list_length b (sorts_of vs) ∙ sorts_long vs

pub sort_same : (s k : SortId) → nat_eq s.0 k.0 ≡ true → s ≡ k
sort_same s k e = λ i. record { 0 = same_nat s.0 k.0 e i }

pub sorts_more : (b : Nodes) (vs : List GVar) (i : ℕ) (v : GVar) → i < length vs → v ≡ get_or vs i v → IsSort b v.sort → AreSorts b (sorts_of (drop (i + 1) vs)) → AreSorts b (sorts_of (drop i vs))
sorts_more b vs i v l e h r = subst (λ z. AreSorts b (sorts_of z)) (sym (drop_more vs i v l)) (subst (λ z. IsSort b z.sort) e h, r)

pub no_sorts : (b : Nodes) (vs : List GVar) (i : ℕ) → length vs ≤ i → AreSorts b (sorts_of (drop i vs))
no_sorts b vs i h = subst (λ z. AreSorts b (sorts_of z)) (sym (drop_all i vs h)) tt

-- ---- terms

names : (b : Nodes) (vs : List GVar) (x : Node) → IsOneOf vs x → NamesVariable (sort_list b (sorts_of vs)) (node_shape (sort b) x)
names b vs (n.Lit negative m) h = tt
names b vs (n.Truth q) h = tt
names b vs (n.Var x k) h = (omega (arith, h.variable, vars_long b vs), ap (sort b) (sym h.sort_is) ∙ var_kind b vs x h.one h.at h.variable)
names b vs (n.Add a c) h = tt
names b vs (n.Sub a c) h = tt
names b vs (n.Mul a c) h = tt
names b vs (n.Div a c) h = tt
names b vs (n.Mod a c) h = tt
names b vs (n.Wrap signed bits a) h = tt
names b vs (n.Le a c) h = tt
names b vs (n.Eq a c) h = tt
names b vs (n.Not p) h = tt
names b vs (n.And p q) h = tt
names b vs (n.Or p q) h = tt
names b vs (n.Ite p a c) h = tt
names b vs (n.Sel a i) h = tt
names b vs (n.Sto a i v) h = tt
names b vs (n.Const k v) h = tt
names b vs (n.Mix k a c) h = tt
names b vs (n.Tup k ks) h = tt
names b vs (n.Get k a) h = tt
names b vs (n.Sum a) h = tt

or_left : (a c : Bool) → a ≡ true → (a || c) ≡ true
or_left true c e = refl
or_left false c e = cc e

or_right : (a c : Bool) → c ≡ true → (a || c) ≡ true
or_right true c e = refl
or_right false c e = e

plain_node : (f : SortId → Sort) (vs : List GVar) (x : Node) (ts : Terms) → IsOneOf vs x → all_plain ts ≡ true → (is_flat (sort_of (App (node_shape f x) ts)) || is_plain (App (node_shape f x) ts)) ≡ true
plain_node f vs (n.Lit negative m) ts h e = refl
plain_node f vs (n.Truth q) ts h e = refl
plain_node f vs (n.Var x k) ts h e = or_right (is_flat (f k)) (all_plain ts) e
plain_node f vs (n.Add a c) ts h e = refl
plain_node f vs (n.Sub a c) ts h e = refl
plain_node f vs (n.Mul a c) ts h e = refl
plain_node f vs (n.Div a c) ts h e = refl
plain_node f vs (n.Mod a c) ts h e = refl
plain_node f vs (n.Wrap signed bits a) ts h e = refl
plain_node f vs (n.Le a c) ts h e = refl
plain_node f vs (n.Eq a c) ts h e = refl
plain_node f vs (n.Not p) ts h e = refl
plain_node f vs (n.And p q) ts h e = refl
plain_node f vs (n.Or p q) ts h e = refl
plain_node f vs (n.Ite p a c) ts h e = or_right (is_flat (sort_of (App t.IteNode ts))) (all_plain ts) e
plain_node f vs (n.Sel a i) ts h e = or_right (is_flat (sort_of (App t.SelNode ts))) (all_plain ts) e
plain_node f vs (n.Sto a i v) ts h e = or_right (is_flat (sort_of (App t.StoNode ts))) (all_plain ts) e
plain_node f vs (n.Const k v) ts h e = absurd h
plain_node f vs (n.Mix k a c) ts h e = or_right (is_flat (sort_of (App t.MixNode ts))) (all_plain ts) e
plain_node f vs (n.Tup k ks) ts h e = or_right (is_flat (f k)) (all_plain ts) e
plain_node f vs (n.Get k a) ts h e = or_right (is_flat (sort_of (App (t.GetNode k) ts))) (all_plain ts) e
plain_node f vs (n.Sum a) ts h e = refl

args_fine : (b : Nodes) (vs : List GVar) (m : ℕ) (ks : List TermId) → AreFine b vs m → AreBelow m ks → AreOver (sort_list b (sorts_of vs)) (args_by (term b) ks) × (all_plain (args_by (term b) ks) ≡ true)
args_fine b vs m [] f h = (tt, refl)
args_fine b vs m (k ∷ ks) f h =
    let r = args_fine b vs m ks f h.1 in
    (((f k h.0).over, r.0), ap₂ (λ x y. x && y) (f k h.0).plain r.1)

-- one term more
pub fine_more : (b : Nodes) (vs : List GVar) (m : ℕ) (k : TermId) (x : Node) → k.0 ≡ m → IsPlaced b k x → IsOneOf vs x → AreFine b vs m → AreFine b vs (m + 1)
fine_more b vs m k x e p h f j l = go (below j.0 m)
  where
    a : AreOver (sort_list b (sorts_of vs)) (args_by (term b) (args x)) × (all_plain (args_by (term b) (args x)) ≡ true)
    a = args_fine b vs m (args x) f (subst (λ z. AreBelow z (args x)) e p.above)

    is : term b k ≡ App (node_shape (sort b) x) (args_by (term b) (args x))
    is = p.is ∙ tree_is (sort b) (term b) x

    here : IsFine b vs (term b k)
    here = subst (IsFine b vs) (sym is) record { over = (names b vs x h, a.0); plain = plain_node (sort b) vs x (args_by (term b) (args x)) h a.1 }

    below : (i m : ℕ) → (i < m) ⊎ (m ≤ i)
    below i zero = inr (omega arith)
    below zero (suc m) = inl (omega arith)
    below (suc i) (suc m) = elim (below i m) [ inl q ↦ inl (omega (arith, q)) | inr q ↦ inr (omega (arith, q)) ]

    one : (i j : TermId) → i.0 ≡ j.0 → i ≡ j
    one i j q = λ z. record { 0 = q z }

    go : (j.0 < m) ⊎ (m ≤ j.0) → IsFine b vs (term b j)
    go (inl q) = f j q
    go (inr q) = subst (λ z. IsFine b vs (term b z)) (one k j (omega (arith, e, q, l))) here

-- ---- commands

module _ (b : Nodes) (vs : List GVar) (f : AreFine b vs (length b.nodes)) where
  abbrev pub V : List Sort
  V = sort_list b (sorts_of vs)

  mutual
    pub is_in : (x : Shape) → IsSettled b vs x → IsIn b x
    is_in (Assume p) h = h.within
    is_in (Check l p) h = h.within
    is_in (Set x u) h = h.within
    is_in (Forget x) h = tt
    is_in (Seq xs) h = are_in xs h
    is_in (Choice xs) h = are_in xs h

    are_in : (xs : Shapes) → AreSettled b vs xs → AreIn b xs
    are_in Nil h = tt
    are_in (Cons x xs) h = (is_in x h.0, are_in xs h.1)

  flat_or_plain : (x : Term) → IsFine b vs x → (is_flat (sort_of x) ≡ true) ⊎ (is_plain x ≡ true)
  flat_or_plain x h = or_true (is_flat (sort_of x)) (is_plain x) h.plain

  mutual
    pub is_formed : (x : Shape) → IsSettled b vs x → IsFormed V (command b x)
    is_formed (Assume p) h = record { truth = h.truth; over = (f p h.within).over }
    is_formed (Check l p) h = record { truth = h.truth; over = (f p h.within).over }
    is_formed (Set x u) h = record { within = omega (arith, h.variable, vars_long b vs); kind = h.kin; over = (f u h.within).over; plain = flat_or_plain (term b u) (f u h.within) }
    is_formed (Forget x) h = omega (arith, h, vars_long b vs)
    is_formed (Seq xs) h = are_formed xs h
    is_formed (Choice xs) h = are_formed xs h

    are_formed : (xs : Shapes) → AreSettled b vs xs → AreFormed V (commands b xs)
    are_formed Nil h = tt
    are_formed (Cons x xs) h = (is_formed x h.0, are_formed xs h.1)

pub lowered : (l : Lowered) → AreSorts l.bank (sorts_of l.vars) → AreFine l.bank l.vars (length l.bank.nodes) → IsSettled l.bank l.vars (shape l.cmd) → IsLowered l
lowered l s f h = record { vars = s; within = is_in l.bank l.vars f (shape l.cmd) h; formed = is_formed l.bank l.vars f (shape l.cmd) h }

-- ---- lists of commands

pub settled_more : (b : Nodes) (vs : List GVar) (cs : List Cmd) (i : ℕ) (y : Cmd) → i < length cs → y ≡ get_or cs i y → IsSettled b vs (shape y) → AreSettled b vs (shaped (map shape (drop (i + 1) cs))) → AreSettled b vs (shaped (map shape (drop i cs)))
settled_more b vs cs i y l e h r = subst (λ z. AreSettled b vs (shaped (map shape z))) (sym (drop_more cs i y l)) (subst (λ z. IsSettled b vs (shape z)) e h, r)

pub none_settled : (b : Nodes) (vs : List GVar) (cs : List Cmd) (i : ℕ) → length cs ≤ i → AreSettled b vs (shaped (map shape (drop i cs)))
none_settled b vs cs i h = subst (λ z. AreSettled b vs (shaped (map shape z))) (sym (drop_all i cs h)) tt

pub kin_here : (b : Nodes) (vs : List GVar) (x : ℕ) (v : GVar) (s : Sort) → v ≡ get_or vs x v → x < length vs → s ≡ wide (sort b v.sort) → s ≡ wide (var_sort (sort_list b (sorts_of vs)) x)
kin_here b vs x v s e h k = k ∙ ap wide (var_kind b vs x v e h)
