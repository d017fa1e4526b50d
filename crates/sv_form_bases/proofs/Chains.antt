-- A contract has a base through lists of bases where a path of names leads to it.
use Rattle.std.proofs.Common.{ℕ, zero, suc, ◌≡◌, ◌≤◌, ◌↔◌, inl, inr, Bool, true, false, IsTrue, List, [], ◌∷◌, length, refl, sym, subst, arith}
use Rattle.std.specs.Prelude.{nat_eq, ◌||◌}
use Rattle.std.proofs.lemmas.Bool.{false≢true, and_parts, and_from, or_cases, or_left, or_right, eqb-true, eq-eqb}
use Rattle.sv_ast.specs.declared.contract.Base.{Base}
use Rattle.sv_ast.specs.declared.unit.UnitItem.{UnitItem}
use Rattle.sv_ast.specs.declared.unit.UnitItem.TheVariants as item
use Rattle.sv_reach.specs.Paths.{Path}
use Rattle.sv_form_bases.specs.declared.graph.Edge.{Edge}
use Rattle.sv_form_book.specs.FormBases.{name_of, bases_of, any_base, any_base_of, any_base_in, has_base}
use Rattle.sv_form_bases.specs.EdgeGraphs.{IsGraphOf, Leads}
use Rattle.sv_form_bases.specs.BaseEdges.{base_edges, item_edges, edges_of}
use Rattle.sv_form_bases.proofs.Ends.{Has, has_left, has_right, has_cases, edge_of, has_edge}
use Rattle.sv_form_bases.proofs.Settling.{Among, Grows, same_truth, in_time}

-- ---- some base of c is one of these where an edge leads from c to one

abbrev HasOne : (ℕ → Bool) → List Edge → ℕ → Type 0
HasOne is es c = (b : ℕ) × Has es c b × (is b ≡ true)

base_reads : (is : ℕ → Bool) (c : ℕ) (bs : List Base) → any_base is bs ≡ true → HasOne is (base_edges c bs) c
base_reads is c [] t = absurd (false≢true t)
base_reads is c (b ∷ bs) t = elim (or_cases (is b.name) (any_base is bs) t) [
  | inl k ↦ (b.name, inl (refl, refl), k)
  | inr k ↦ (let r = base_reads is c bs k in (r.0, inr r.1, r.2))
]

base_gives : (is : ℕ → Bool) (n c : ℕ) (bs : List Base) (b : ℕ) → Has (base_edges n bs) c b → is b ≡ true → (n ≡ c) × (any_base is bs ≡ true)
base_gives is n c [] b h t = absurd h
base_gives is n c (x ∷ xs) b h t = elim h [
  | inl k ↦ (k.0, or_left (is x.name) (any_base is xs) (subst (λ y. is y ≡ true) (sym k.1) t))
  | inr k ↦ (let r = base_gives is n c xs b k t in (r.0, or_right (is x.name) (any_base is xs) r.1))
]

item_reads : (is : ℕ → Bool) (c : ℕ) (i : UnitItem) → any_base_of is c i ≡ true → HasOne is (item_edges i) c
item_reads is c (item.Contract k) t =
    let both = and_parts (nat_eq (name_of k.kind) c) (any_base is (bases_of k.kind)) t in
    subst (λ n. HasOne is (base_edges n (bases_of k.kind)) c) (sym (eqb-true (name_of k.kind) c both.0)) (base_reads is c (bases_of k.kind) both.1)
item_reads is c _ t = absurd (false≢true t)

item_gives : (is : ℕ → Bool) (c : ℕ) (i : UnitItem) (b : ℕ) → Has (item_edges i) c b → is b ≡ true → any_base_of is c i ≡ true
item_gives is c (item.Contract k) b h t =
    let r = base_gives is (name_of k.kind) c (bases_of k.kind) b h t in
    and_from (nat_eq (name_of k.kind) c) (any_base is (bases_of k.kind)) (eq-eqb (name_of k.kind) c r.0) r.1
item_gives is c _ b h t = absurd h

reads : (is : ℕ → Bool) (c : ℕ) (items : List UnitItem) → any_base_in is c items ≡ true → HasOne is (edges_of items) c
reads is c [] t = absurd (false≢true t)
reads is c (i ∷ rest) t = elim (or_cases (any_base_of is c i) (any_base_in is c rest) t) [
  | inl k ↦ (let r = item_reads is c i k in (r.0, has_left (item_edges i) (edges_of rest) c r.0 r.1, r.2))
  | inr k ↦ (let r = reads is c rest k in (r.0, has_right (item_edges i) (edges_of rest) c r.0 r.1, r.2))
]

gives : (is : ℕ → Bool) (c : ℕ) (items : List UnitItem) (b : ℕ) → Has (edges_of items) c b → is b ≡ true → any_base_in is c items ≡ true
gives is c [] b h t = absurd h
gives is c (i ∷ rest) b h t = elim (has_cases (item_edges i) (edges_of rest) c b h) [
  | inl k ↦ or_left (any_base_of is c i) (any_base_in is c rest) (item_gives is c i b k t)
  | inr k ↦ or_right (any_base_of is c i) (any_base_in is c rest) (gives is c rest b k t)
]

-- ---- who has bases is the name of an item

key : UnitItem → ℕ
key (item.Contract k) = name_of k.kind
key _ = 0

keys : List UnitItem → List ℕ
keys [] = []
keys (i ∷ rest) = key i ∷ keys rest

length-keys : (items : List UnitItem) → length (keys items) ≤ length items
unfolding keys
length-keys [] = omega arith
length-keys (i ∷ rest) = let r = length-keys rest in omega (arith, r)

base_key : (n c : ℕ) (bs : List Base) (b : ℕ) → Has (base_edges n bs) c b → n ≡ c
base_key n c [] b h = absurd h
base_key n c (x ∷ xs) b h = elim h [ inl k ↦ k.0 | inr k ↦ base_key n c xs b k ]

item_key : (i : UnitItem) (c b : ℕ) → Has (item_edges i) c b → key i ≡ c
unfolding key
item_key (item.Contract k) c b h = base_key (name_of k.kind) c (bases_of k.kind) b h
item_key _ c b h = absurd h

has_key : (items : List UnitItem) (c b : ℕ) → Has (edges_of items) c b → Among (keys items) c
unfolding keys
has_key [] c b h = absurd h
has_key (i ∷ rest) c b h = elim (has_cases (item_edges i) (edges_of rest) c b h) [ inl k ↦ inl (item_key i c b k) | inr k ↦ inr (has_key rest c b k) ]

-- ---- one list of bases more

abbrev Within : List UnitItem → ℕ → ℕ → ℕ → Bool
Within items m n b = nat_eq b m || has_base n items m b

keeps : (items : List UnitItem) (m n c : ℕ) → has_base n items m c ≡ true → has_base (suc n) items m c ≡ true
keeps items m zero c t = absurd (false≢true t)
keeps items m (suc n) c t =
    let r = reads (Within items m n) c items t in
    gives (Within items m (suc n)) c items r.0 r.1 (elim (or_cases (nat_eq r.0 m) (has_base n items m r.0) r.2) [
      | inl k ↦ or_left (nat_eq r.0 m) (has_base (suc n) items m r.0) k
      | inr k ↦ or_right (nat_eq r.0 m) (has_base (suc n) items m r.0) (keeps items m n r.0 k)
    ])

only : (items : List UnitItem) (m n c : ℕ) → has_base n items m c ≡ true → Among (keys items) c
only items m zero c t = absurd (false≢true t)
only items m (suc n) c t = let r = reads (Within items m n) c items t in has_key items c r.0 r.1

follows : (items : List UnitItem) (m n : ℕ) → ((b : ℕ) → has_base n items m b ≡ has_base (suc n) items m b) → (c : ℕ) → has_base (suc n) items m c ≡ has_base (suc (suc n)) items m c
follows items m n same c = same_truth (has_base (suc n) items m c) (has_base (suc (suc n)) items m c) (keeps items m (suc n) c) (λ t.
    let r = reads (Within items m (suc n)) c items t in
    gives (Within items m n) c items r.0 r.1 (subst (λ x. (nat_eq r.0 m || x) ≡ true) (sym (same r.0)) r.2))

grows : (items : List UnitItem) (m : ℕ) → Grows (λ n c. has_base n items m c) (keys items)
grows items m = record { begins = λ c. refl; keeps = keeps items m; only = only items m; follows = follows items m }

-- ---- paths

leads_from : (items : List UnitItem) (g : List (List ℕ)) → IsGraphOf (edges_of items) g → (m n c : ℕ) → has_base n items m c ≡ true → Leads g c m
leads_from items g is m zero c t = absurd (false≢true t)
leads_from items g is m (suc n) c t =
    let r = reads (Within items m n) c items t in
    let e = edge_of (edges_of items) g is c r.0 r.1 in
    elim (or_cases (nat_eq r.0 m) (has_base n items m r.0) r.2) [
      | inl k ↦ (0, (r.0, e, eqb-true r.0 m k))
      | inr k ↦ (let p = leads_from items g is m n r.0 k in (suc p.0, (r.0, e, p.1)))
    ]

has_by_path : (items : List UnitItem) (g : List (List ℕ)) → IsGraphOf (edges_of items) g → (m n c : ℕ) → Path g (suc n) c m → has_base (suc n) items m c ≡ true
has_by_path items g is m zero c p =
    gives (Within items m 0) c items p.0 (has_edge (edges_of items) g is c p.0 p.1) (or_left (nat_eq p.0 m) (has_base 0 items m p.0) (eq-eqb p.0 m p.2))
has_by_path items g is m (suc n) c p =
    gives (Within items m (suc n)) c items p.0 (has_edge (edges_of items) g is c p.0 p.1) (or_right (nat_eq p.0 m) (has_base (suc n) items m p.0) (has_by_path items g is m n p.0 p.2))

-- as many lists of bases as there are items are enough
pub base_by_path : (items : List UnitItem) (g : List (List ℕ)) (m c : ℕ) (r : Bool) → IsGraphOf (edges_of items) g → IsTrue r ↔ Leads g c m → r ≡ has_base (length items) items m c
base_by_path items g m c r is h = same_truth r (has_base (length items) items m c)
    (λ t. let p = h.0 t in in_time (λ n b. has_base n items m b) (keys items) (grows items m) (length items) (suc p.0) c (length-keys items) (has_by_path items g is m p.0 c p.1))
    (λ t. h.1 (leads_from items g is m (length items) c t))
