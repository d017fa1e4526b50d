-- A branch by numbers does what a log's state does.
use Rattle.std.proofs.Common.{ℕ, zero, suc, ◌+◌, ◌<◌, ◌≤◌, Bool, true, false, cond, List, [], ◌∷◌, ◌++◌, ◌≡◌, length, map, take, refl, sym, ap, ap₂, ◌∙◌, subst, arith}
use Rattle.std.proofs.lemmas.List.{map_push, length-append, take-append-le, take_all, take-take, length-take}
use Rattle.std.proofs.Math.Seq.{take-append_seam}
use Rattle.std.specs.List.{All}
use Rattle.sv_term.specs.Terms.{Term}
use Rattle.sv_log.specs.LogEntries.{SplitOn, Cut, CloseAt}
use Rattle.sv_log.specs.Logs as s
use Rattle.sv_log.specs.Logs.{Item, Split, nth_term}
use Rattle.sv_force.specs.InForce.{Held, FactOn, RowOf}
use Rattle.sv_branch.specs.OpenBranches.{OpenSplit, open_split, Standing, AreNested, with_held, opened, turned, open_around, shut}
use Rattle.sv_branch.specs.BranchTrees.{item_of, split, split_of, state, state_of, IsBelow, AreBelow}
use Rattle.sv_branch.specs.BranchLaws.{IsNested, StepsAreAfter}

-- ---- splits see only the items before them

splits_same : (ts : List Term) (xs ys : List Held) (n : ℕ) (ps : List OpenSplit) → AreNested n ps → ((k : ℕ) → k < n → take k xs ≡ take k ys) → map (split_of ts xs) ps ≡ map (split_of ts ys) ps
splits_same ts xs ys n [] h f = refl
splits_same ts xs ys n (p ∷ ps) h f =
    ap₂ (λ x y. x ∷ y) (ap (λ x. split (nth_term ts p.term) (map (item_of ts) x) p.second) (f p.before h.0))
    (splits_same ts xs ys p.before ps h.1 (λ k l. f k (omega (arith, l, h.0))))

pushed_same : (ts : List Term) (xs : List Held) (h : Held) (ps : List OpenSplit) → AreNested (length xs) ps → map (split_of ts (xs ++ h ∷ [])) ps ≡ map (split_of ts xs) ps
pushed_same ts xs h ps nested = splits_same ts (xs ++ h ∷ []) xs (length xs) ps nested (λ k l. take-append-le k xs (h ∷ []) (omega (arith, l)))

pub held_after : (ts : List Term) (b : Standing) (h : Held) → IsNested b → state_of ts (with_held h b) ≡ s.with_item (item_of ts h) (state_of ts b)
held_after ts b h nested =
    ap₂ (λ x y. state ts x y b.closed) (map_push (item_of ts) b.force.items h) (pushed_same ts b.force.items h b.splits nested)

pub split_after : (ts : List Term) (b : Standing) (n : ℕ) → IsNested b → state_of ts (opened n b) ≡ s.after (state_of ts b) (SplitOn n)
split_after ts b n nested =
    let before : take (length b.force.items) (b.force.items ++ FactOn true n ∷ []) ≡ b.force.items = take-append_seam b.force.items (FactOn true n ∷ []) in
    ap₂ (λ x y. state ts x y b.closed) (map_push (item_of ts) b.force.items (FactOn true n))
    (ap₂ (λ x y. x ∷ y) (ap (λ x. split (nth_term ts n) (map (item_of ts) x) false) before) (pushed_same ts b.force.items (FactOn true n) b.splits nested))

take_cut : (xs : List Held) (h : Held) (n k : ℕ) → n ≤ length xs → k ≤ n → take k (take n xs ++ h ∷ []) ≡ take k xs
take_cut xs h n k l m =
    let long : length (take n xs) ≡ n = grind (arith, length-take) in
    take-append-le k (take n xs) (h ∷ []) (omega (arith, long, m)) ∙ take-take k n xs m

turned_after : (ts : List Term) (b : Standing) (ps : List OpenSplit) → b.splits ≡ ps → AreNested (length b.force.items) ps → state_of ts (turned b ps) ≡ s.turned (state_of ts b) (map (split_of ts b.force.items) ps)
turned_after ts b [] e nested = refl
turned_after ts b (p ∷ ps) e nested =
    let xs = b.force.items in
    let h = FactOn false p.term in
    let own = take_cut xs h p.before p.before (omega (arith, nested.0)) (omega arith) in
    ap₂ (λ x y. state ts x y false) (map_push (item_of ts) (take p.before xs) h)
    (ap₂ (λ x y. x ∷ y) (ap (λ x. split (nth_term ts p.term) (map (item_of ts) x) true) own)
    (splits_same ts (take p.before xs ++ h ∷ []) xs p.before ps nested.1 (λ k l. take_cut xs h p.before k (omega (arith, nested.0)) (omega (arith, l)))))

pub cut_after : (ts : List Term) (b : Standing) → IsNested b → state_of ts (turned b b.splits) ≡ s.after (state_of ts b) Cut
cut_after ts b nested = turned_after ts b b.splits refl nested

around_after : (ts : List Term) (xs : List Held) (ps : List OpenSplit) → map (split_of ts xs) (open_around ps) ≡ s.open_around (map (split_of ts xs) ps)
around_after ts xs [] = refl
around_after ts xs (p ∷ ps) = go p.second (around_after ts xs ps)
  where
    go : (b : Bool) → map (split_of ts xs) (open_around ps) ≡ s.open_around (map (split_of ts xs) ps)
        → map (split_of ts xs) (cond b (open_around ps) (p ∷ ps)) ≡ cond b (s.open_around (map (split_of ts xs) ps)) (map (split_of ts xs) (p ∷ ps))
    go true e = e
    go false e = refl

pub close_after : (ts : List Term) (b : Standing) (p : ℕ) → state_of ts (shut b) ≡ s.after (state_of ts b) (CloseAt p)
close_after ts b p = ap (λ y. state ts (map (item_of ts) b.force.items) y true) (around_after ts b.force.items b.splits)

-- ---- one more term

pub nth_before : (ts us : List Term) (n : ℕ) → n < length ts → nth_term (ts ++ us) n ≡ nth_term ts n
nth_before [] us n l = absurd (omega (arith, l))
nth_before (t ∷ ts) us zero l = refl
nth_before (t ∷ ts) us (suc n) l = nth_before ts us n (omega (arith, l))

item_before : (ts us : List Term) (h : Held) → IsBelow (length ts) h → item_of (ts ++ us) h ≡ item_of ts h
item_before ts us (FactOn sign n) l = ap (λ x. item_of (x ∷ []) (FactOn sign 0)) (nth_before ts us n l)
item_before ts us (RowOf r) l = refl

items_before : (ts us : List Term) (xs : List Held) (k : ℕ) → All (IsBelow (length ts)) xs → map (item_of (ts ++ us)) (take k xs) ≡ map (item_of ts) (take k xs)
items_before ts us xs zero h = refl
items_before ts us [] (suc k) h = refl
items_before ts us (x ∷ xs) (suc k) h = ap₂ (λ y ys. y ∷ ys) (item_before ts us x (h 0 x (omega arith))) (items_before ts us xs k (λ i d l. h (suc i) d (omega (arith, l))))

splits_before : (ts us : List Term) (xs : List Held) (ps : List OpenSplit) → All (IsBelow (length ts)) xs → All (λ (p : OpenSplit). p.term < length ts) ps
    → map (split_of (ts ++ us) xs) ps ≡ map (split_of ts xs) ps
splits_before ts us xs [] h g = refl
splits_before ts us xs (p ∷ ps) h g =
    ap₂ (λ x y. x ∷ y) (ap₂ (λ x y. split x y p.second) (nth_before ts us p.term (g 0 p (omega arith))) (items_before ts us xs p.before h))
    (splits_before ts us xs ps h (λ i d l. g (suc i) d (omega (arith, l))))

pub term_after : (ts : List Term) (b : Standing) (t : Term) → AreBelow (length ts) b
    → state_of (ts ++ t ∷ []) b ≡ state (ts ++ t ∷ []) (state_of ts b).items (state_of ts b).splits b.closed
term_after ts b t below =
    let xs = b.force.items in
    let all : take (length xs) xs ≡ xs = take_all (length xs) xs (omega arith) in
    ap₂ (λ x y. state (ts ++ t ∷ []) x y b.closed) (subst (λ z. map (item_of (ts ++ t ∷ [])) z ≡ map (item_of ts) z) all (items_before ts (t ∷ []) xs (length xs) below.facts))
    (splits_before ts (t ∷ []) xs b.splits below.facts below.splits)

pub steps_after : StepsAreAfter
steps_after = record {
  held = held_after;
  split = split_after;
  cut = cut_after;
  close = close_after;
  term = term_after;
}
