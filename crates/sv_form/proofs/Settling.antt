-- What a term's passing on of its weight does to each weight, and that it keeps what is known on the way down.
use Rattle.std.proofs.Common.{ℕ, zero, suc, ◌+◌, ◌<◌, ◌≤◌, ◌≢◌, Bool, true, false, nat_eq, List, [], ◌∷◌, ◌≡◌, length, get_or, set, refl, sym, ap, ap₂, ◌∙◌, subst, arith, IsTrue}
use Rattle.std.proofs.lemmas.Int.{ints, int_wrap-add_left}
use Rattle.std.proofs.lemmas.List.{get_or-set_other, get_or-set_same, length-set, get_or_default}
use Rattle.std.proofs.lemmas.Bool.Decides.{Decides-eqb}
use lib.IntN.{ℤ, pos, negsuc, ◌+ℤ◌, ◌*ℤ◌, neg_ℤ}
use mir.Syntax.{w128}
use Rattle.sv_form.specs.declared.node.Linear.{Linear}
use Rattle.sv_form.specs.declared.node.Linear.TheVariants.{Literal, Wide, Joined, Column, AtMost, Equal, Outside}
use Rattle.sv_form.specs.Joins.{first_factor, second_factor}
use Rattle.sv_form.specs.Nodes.{node_at, is_in_range, is_column_node, IsSoundNode, AreSound}
use Rattle.sv_form.specs.TermWeights.{wrapped, weight_at, with_weight, passed, brought, HasArguments, weighed, Follows, AreSame, IsBlank, IsBlankAbove, CanSettle, IsSettling}
use Rattle.sv_form.proofs.Weighing.{changed, passed_sum, same_sum, same_wrapped}

-- ---- one weight

kept_with : (ws : List ℤ) (a k : ℕ) (m : ℤ) → k ≢ a → weight_at (with_weight a m ws) k ≡ weight_at ws k
kept_with ws a k m h = get_or-set_other ws a k (wrapped (weight_at ws a +ℤ m)) (pos 0) h

blank_at : (ws : List ℤ) (n : ℕ) → n < length ws → weight_at (set ws n (pos 0)) n ≡ pos 0
blank_at ws n h = get_or-set_same ws n (pos 0) (pos 0) h

abbrev IsNoArgument : Linear → ℕ → Type 0
IsNoArgument (Joined how a b) k = (k ≢ a) × (k ≢ b)
IsNoArgument l k = Unit {0}

module _ (ws : List ℤ) (n : ℕ) where
  pub passed_other : (l : Linear) (k : ℕ) → k ≢ n → IsNoArgument l k → weight_at (passed l n ws) k ≡ weight_at ws k
  passed_other (Literal z) k h i = get_or-set_other ws n k (pos 0) (pos 0) h
  passed_other (Joined how a b) k h i =
      let us : List ℤ = set ws n (pos 0) in
      let vs : List ℤ = with_weight a (wrapped (weight_at ws n *ℤ first_factor how)) us in
      kept_with vs b k (wrapped (weight_at ws n *ℤ second_factor how)) i.1 ∙ (kept_with us a k (wrapped (weight_at ws n *ℤ first_factor how)) i.0 ∙ get_or-set_other ws n k (pos 0) (pos 0) h)
  passed_other Wide k h i = refl
  passed_other Column k h i = refl
  passed_other (AtMost a b) k h i = refl
  passed_other (Equal a b) k h i = refl
  passed_other Outside k h i = refl

  pub passed_self : (l : Linear) → n < length ws → HasArguments l n → is_column_node l ≡ false → (is_in_range l ≡ false → weight_at ws n ≡ pos 0) → weight_at (passed l n ws) n ≡ pos 0
  passed_self (Literal z) h a c r = blank_at ws n h
  passed_self (Joined how a b) h args c r =
      let us : List ℤ = set ws n (pos 0) in
      let vs : List ℤ = with_weight a (wrapped (weight_at ws n *ℤ first_factor how)) us in
      let p : n ≢ a = (λ e. omega (arith, args.0, e)) in
      let q : n ≢ b = (λ e. omega (arith, args.1, e)) in
      kept_with vs b n (wrapped (weight_at ws n *ℤ second_factor how)) q ∙ (kept_with us a n (wrapped (weight_at ws n *ℤ first_factor how)) p ∙ blank_at ws n h)
  passed_self Wide h a c r = r refl
  passed_self Column h a c r = cc c
  passed_self (AtMost a b) h args c r = cc c
  passed_self (Equal a b) h args c r = cc c
  passed_self Outside h a c r = r refl

  pub passed_length : (l : Linear) → length (passed l n ws) ≡ length ws
  passed_length (Literal z) = length-set ws n (pos 0)
  passed_length (Joined how a b) =
      length-set (with_weight a (wrapped (weight_at ws n *ℤ first_factor how)) (set ws n (pos 0))) b _ ∙ (length-set (set ws n (pos 0)) a _ ∙ length-set ws n (pos 0))
  passed_length Wide = refl
  passed_length Column = refl
  passed_length (AtMost a b) = refl
  passed_length (Equal a b) = refl
  passed_length Outside = refl

-- ---- the beginning

zero_head : (w z r : ℤ) → w ≡ pos 0 → r ≡ pos 0 → w *ℤ z +ℤ r ≡ pos 0
zero_head w z r e f = ap (λ y. y *ℤ z +ℤ r) e ∙ (ap (λ y. pos 0 *ℤ z +ℤ y) f ∙ zero_product z)
  where
    zero_product : (z : ℤ) → pos 0 *ℤ z +ℤ pos 0 ≡ pos 0
    zero_product z = omega (arith, ints)

pub weighed_blank : (x : ℕ → ℤ) (ws : List ℤ) → ((n : ℕ) → weight_at ws n ≡ pos 0) → weighed x ws ≡ pos 0
weighed_blank x [] h = refl
weighed_blank x (w ∷ ws) h = zero_head w (x 0) (weighed (λ n. x (suc n)) ws) (h 0) (weighed_blank (λ n. x (suc n)) ws (λ n. h (suc n)))

one_only : (a w x s : ℤ) → a +ℤ w *ℤ x ≡ s +ℤ pos 1 *ℤ x → w ≡ pos 0 → s ≡ pos 0 → pos 0 +ℤ a ≡ x
one_only a w x s h e f = let g : w *ℤ x ≡ pos 0 = ap (λ z. z *ℤ x) e ∙ zero_is x in omega (arith, ints, h, g, f)
  where
    zero_is : (x : ℤ) → pos 0 *ℤ x ≡ pos 0
    zero_is x = omega (arith, ints)

module _ (nodes : List Linear) (from : ℕ) where
  pub settling_starts : (ws : List ℤ) → CanSettle nodes from ws → IsSettling nodes from (from + 1) (set ws from (pos 1)) (pos 0)
  settling_starts ws c =
      let inside : from < length ws = omega (arith, c.within, c.wide) in
      record {
        sum = λ x f. ap wrapped (one_only _ _ (x from) _ (changed x ws from (pos 1) inside) (c.blank.none from) (weighed_blank x ws c.blank.none));
        columns = λ n b h. other n (λ e. omega (arith, b, e));
        in_range = λ n h. other n (λ e. differ (is_in_range (node_at nodes from)) c.in_range (ap (λ k. is_in_range (node_at nodes k)) (sym e) ∙ h));
        above = record { none = λ n b. other n (λ e. omega (arith, b, e)) };
      }
    where
      other : (n : ℕ) → n ≢ from → weight_at (set ws from (pos 1)) n ≡ pos 0
      other n h = get_or-set_other ws from n (pos 1) (pos 0) h ∙ c.blank.none n

      differ : (b : Bool) → IsTrue b → b ≡ false → ⊥
      differ b h e = cc (h, e)

-- ---- a step

sound_arguments : (nodes : List Linear) (n : ℕ) (l : Linear) → IsSoundNode nodes n l → HasArguments l n
sound_arguments nodes n (Joined how a b) s = (s.0, s.1)
sound_arguments nodes n (Literal z) s = tt
sound_arguments nodes n Wide s = tt
sound_arguments nodes n Column s = tt
sound_arguments nodes n (AtMost a b) s = tt
sound_arguments nodes n (Equal a b) s = tt
sound_arguments nodes n Outside s = tt

is_not : (b : Bool) → IsTrue b → b ≡ false → ⊥
is_not b h e = cc (h, e)

-- a node in range is no argument's target out of range
not_target : (nodes : List Linear) (n k : ℕ) (l : Linear) → IsSoundNode nodes n l → is_in_range (node_at nodes k) ≡ false → IsNoArgument l k
not_target nodes n k (Joined how a b) s h = (
  (λ e. is_not (is_in_range (node_at nodes a)) s.2 (ap (λ j. is_in_range (node_at nodes j)) (sym e) ∙ h)),
  λ e. is_not (is_in_range (node_at nodes b)) s.3 (ap (λ j. is_in_range (node_at nodes j)) (sym e) ∙ h),
)
not_target nodes n k (Literal z) s h = tt
not_target nodes n k Wide s h = tt
not_target nodes n k Column s h = tt
not_target nodes n k (AtMost a b) s h = tt
not_target nodes n k (Equal a b) s h = tt
not_target nodes n k Outside s h = tt

not_later : (n k : ℕ) (l : Linear) → HasArguments l n → n ≤ k → IsNoArgument l k
not_later n k (Joined how a b) s h = ((λ e. omega (arith, s.0, e)), λ e. omega (arith, s.1, e))
not_later n k (Literal z) s h = tt
not_later n k Wide s h = tt
not_later n k Column s h = tt
not_later n k (AtMost a b) s h = tt
not_later n k (Equal a b) s h = tt
not_later n k Outside s h = tt

no_column : (l : Linear) → is_in_range l ≡ false → is_column_node l ≡ false
no_column (Literal z) e = cc e
no_column (Joined how a b) e = cc e
no_column Column e = cc e
no_column (AtMost a b) e = cc e
no_column (Equal a b) e = cc e
no_column Wide e = refl
no_column Outside e = refl

regrouped_sum : (c b s : ℤ) → (c +ℤ b) +ℤ s ≡ c +ℤ (b +ℤ s)
regrouped_sum c b s = omega (arith, ints)

pub arguments_of : (nodes : List Linear) (n : ℕ) → AreSound nodes → n < length nodes → HasArguments (node_at nodes n) n
arguments_of nodes n s h = sound_arguments nodes n (node_at nodes n) (s.node n h)

module _ (nodes : List Linear) (from n : ℕ) (ws : List ℤ) (c : ℤ) (sound : AreSound nodes) (within : n < length nodes) (wide : length nodes ≤ length ws) (low : n ≤ from) where
  abbrev l : Linear
  l = node_at nodes n

  pub settling_step : IsSettling nodes from (suc n) ws c → IsSettling nodes from n (passed l n ws) (wrapped (c +ℤ brought l n ws))
  settling_step s =
      let inside : n < length ws = omega (arith, within, wide) in
      let args : HasArguments l n = arguments_of nodes n sound within in
      record {
        sum = λ x f.
            int_wrap-add_left w128 (c +ℤ brought l n ws) (weighed x (passed l n ws))
            ∙ (ap wrapped (regrouped_sum c (brought l n ws) (weighed x (passed l n ws)))
            ∙ (same_sum c c (brought l n ws +ℤ weighed x (passed l n ws)) (weighed x ws) refl (passed_sum x n ws inside l args (f n within)) ∙ s.sum x f));
        columns = λ k b h. at_column k b h (nat_eq k n) refl;
        in_range = λ k h. out_of_range k h (nat_eq k n) refl;
        above = record { none = λ k b. passed_other ws n l k (λ e. omega (arith, b, low, e)) (not_later n k l args (omega (arith, b, low))) ∙ s.above.none k b };
      }
    where
      unequal : (k : ℕ) → nat_eq k n ≡ false → k ≢ n
      unequal k e h = cc (e, (Decides-eqb k n).1 h)

      at_column : (k : ℕ) → n ≤ k → is_column_node (node_at nodes k) ≡ false → (b : Bool) → nat_eq k n ≡ b → weight_at (passed l n ws) k ≡ pos 0
      at_column k b h true e =
          let i : k ≡ n = (Decides-eqb k n).0 e in
          ap (weight_at (passed l n ws)) i
          ∙ passed_self ws n l (omega (arith, within, wide)) (arguments_of nodes n sound within) (ap (λ j. is_column_node (node_at nodes j)) (sym i) ∙ h) (s.in_range n)
      at_column k b h false e =
          let i : k ≢ n = unequal k e in
          passed_other ws n l k i (not_later n k l (arguments_of nodes n sound within) b) ∙ s.columns k (omega (arith, i, b)) h

      out_of_range : (k : ℕ) → is_in_range (node_at nodes k) ≡ false → (b : Bool) → nat_eq k n ≡ b → weight_at (passed l n ws) k ≡ pos 0
      out_of_range k h true e =
          let i : k ≡ n = (Decides-eqb k n).0 e in
          let g : is_in_range l ≡ false = ap (λ j. is_in_range (node_at nodes j)) (sym i) ∙ h in
          ap (weight_at (passed l n ws)) i ∙ passed_self ws n l (omega (arith, within, wide)) (arguments_of nodes n sound within) (no_column l g) (s.in_range n)
      out_of_range k h false e = passed_other ws n l k (unequal k e) (not_target nodes n k l (sound.node n within) h) ∙ s.in_range k h

-- ---- as the code has it

-- what stands for a node that isn't there doesn't matter
pub read_node : (nodes : List Linear) (n : ℕ) (d : Linear) → n < length nodes → get_or nodes n d ≡ node_at nodes n
read_node nodes n d h = get_or_default nodes n d Outside h

pub read_arguments : (nodes : List Linear) (n : ℕ) (d : Linear) → AreSound nodes → n < length nodes → HasArguments (get_or nodes n d) n
read_arguments nodes n d s h = subst (λ l. HasArguments l n) (sym (read_node nodes n d h)) (arguments_of nodes n s h)

pub settle_on : (nodes : List Linear) (from left n : ℕ) (d : Linear) (ws : List ℤ) (c : ℤ) (us : List ℤ) (more e : ℤ)
    → AreSound nodes → n < length nodes → length nodes ≤ length ws → n ≤ from → left ≡ suc n → us ≡ passed (get_or nodes n d) n ws → more ≡ brought (get_or nodes n d) n ws → e ≡ wrapped (c +ℤ more)
    → IsSettling nodes from left ws c → (length nodes ≤ length us) × IsSettling nodes from n us e
settle_on nodes from left n d ws c us more e sound within wide low l p b w s =
    let is : get_or nodes n d ≡ node_at nodes n = read_node nodes n d within in
    let p' : us ≡ passed (node_at nodes n) n ws = p ∙ ap (λ y. passed y n ws) is in
    let w' : e ≡ wrapped (c +ℤ brought (node_at nodes n) n ws) = w ∙ ap (λ z. wrapped (c +ℤ z)) (b ∙ ap (λ y. brought y n ws) is) in (
      omega (arith, wide, ap length p', passed_length ws n (node_at nodes n)),
      subst (λ z. IsSettling nodes from n us z) (sym w') (subst (λ z. IsSettling nodes from n z (wrapped (c +ℤ brought (node_at nodes n) n ws))) (sym p')
          (settling_step nodes from n ws c sound within wide low (subst (λ k. IsSettling nodes from k ws c) l s))),
    )
