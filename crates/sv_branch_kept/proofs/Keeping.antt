-- Each step of a branch keeps it sound.
use Rattle.std.proofs.Common.{ℕ, zero, suc, ◌<◌, ◌≤◌, Bool, true, false, cond, ◌≡◌, List, [], ◌∷◌, ◌++◌, length, take, get_or, refl, sym, subst, arith}
use Rattle.std.specs.Prelude.{slice_get, Some, None, Option}
use Rattle.std.specs.List.{All}
use Rattle.std.proofs.lemmas.List.Elements.{All-nil, All-cons, All-head, All-tail, All-push, All-take, All-weaker}
use Rattle.std.proofs.lemmas.Option.{slice_get_within, get_or_from_slice_get}
use Rattle.sv_row.specs.RowParts.{IsNormal}
use Rattle.sv_force.specs.InForce.{Held, FactOn, RowOf}
use Rattle.sv_branch.specs.OpenBranches.{OpenSplit, open_split, Standing, open_around, with_held, opened, turned, shut}
use Rattle.sv_branch.specs.BranchTrees.{IsBelow, AreBelow}
use Rattle.sv_branch_kept.specs.KeptBranches.{IsSoundItem, IsSound, StepsKeep, AsksAreMet}

at_place : {A : Type 0} (P : A → Type 0) (xs : List A) (k : ℕ) (x : A) → All P xs → slice_get xs k ≡ Some x → P x
at_place P xs k x h e = subst P (get_or_from_slice_get xs k x x e) (h k x (slice_get_within xs k x e))

abbrev OnTerms : ℕ → OpenSplit → Type 0
OnTerms n p = p.term < n

around : (n : ℕ) (ps : List OpenSplit) → All (OnTerms n) ps → All (OnTerms n) (open_around ps)
around n [] h = h
around n (p ∷ ps) h = go p.second (around n ps (All-tail (OnTerms n) p ps h))
  where
    go : (b : Bool) → All (OnTerms n) (open_around ps) → All (OnTerms n) (cond b (open_around ps) (p ∷ ps))
    go true g = g
    go false g = h

turned_sound : (n : ℕ) (b : Standing) (ps : List OpenSplit) → IsSound n b → All (OnTerms n) ps → IsSound n (turned b ps)
turned_sound n b [] h g = h
turned_sound n b (p ∷ ps) h g = record {
  items = All-push (IsSoundItem n) (take p.before b.force.items) (FactOn false p.term) (All-take (IsSoundItem n) p.before b.force.items h.items) (All-head (OnTerms n) p ps g);
  splits = All-cons (OnTerms n) (open_split p.term p.before true) ps (All-head (OnTerms n) p ps g) (All-tail (OnTerms n) p ps g);
}

more_terms : (n m : ℕ) (h : Held) → n ≤ m → IsSoundItem n h → IsSoundItem m h
more_terms n m (FactOn sign term) l s = omega (arith, l, s)
more_terms n m (RowOf r) l s = s

below_item : (n : ℕ) (h : Held) → IsSoundItem n h → IsBelow n h
below_item n (FactOn sign term) s = s
below_item n (RowOf r) s = tt

pub steps_keep : StepsKeep
steps_keep = record {
  begun = λ n items parts splits. record { items = All-nil (IsSoundItem n); splits = All-nil (OnTerms n) };
  held = λ n b h s i. record { items = All-push (IsSoundItem n) b.force.items h s.items i; splits = s.splits };
  split = λ n b term s l. record { items = All-push (IsSoundItem n) b.force.items (FactOn true term) s.items l; splits = All-cons (OnTerms n) (open_split term (length b.force.items) false) b.splits l s.splits };
  cut = λ n b s. turned_sound n b b.splits s s.splits;
  close = λ n b s. record { items = s.items; splits = around n b.splits s.splits };
  terms = λ n m b s l. record {
    items = All-weaker (IsSoundItem n) (IsSoundItem m) (λ h i. more_terms n m h l i) b.force.items s.items;
    splits = All-weaker (OnTerms n) (OnTerms m) (λ p i. omega (arith, l, i)) b.splits s.splits;
  };
}

pub asks_are_met : AsksAreMet
asks_are_met = record {
  below = λ n b s. record { facts = All-weaker (IsSoundItem n) (IsBelow n) (below_item n) b.force.items s.items; splits = s.splits };
  fact = λ n b place sign term s e. at_place (IsSoundItem n) b.force.items place (FactOn sign term) s.items e;
  row = λ n b place r s e. at_place (IsSoundItem n) b.force.items place (RowOf r) s.items e;
}
