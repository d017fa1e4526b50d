-- The runs that were worked out by hand.
use Rattle.std.proofs.Common.{true, false, List, [], ◌∷◌, ◌≡◌, inl, inr, pos, refl, sym, ap, ◌∙◌, true≢false}
use Rattle.sv_core.specs.declared.label.Label.{Label}
use Rattle.sv_term.specs.Sorts.{Bits, Sort, NumSort}
use Rattle.sv_term.specs.Values.{Value, Number, Flag, Array, Tuple, IsOf}
use Rattle.sv_term.specs.Terms.{Term}
use Rattle.sv_term.proofs.Same.{both_true}
use Rattle.sv_gcl.specs.Commands.{Check, Forget, Nil, Cons, Store, truth_in, Ends, Fails, AllComeTo, NoRunFails}
use Rattle.sv_gcl.specs.WorkedRuns.{first_of_two, number, byte, at_most, stored_is_at_most, RunsAreWorked}
use Rattle.sv_gcl.proofs.Unset.{same_store}

-- where a run that begins with one check fails, its term is false
check_fails : (vars : List Sort) (l k : Label) (f : Term) (s : Store) → AllComeTo vars (Cons (Check l f) Nil) s (Fails k) → truth_in s f ≡ false
check_fails vars l k f s (inl a) = cc a.2
check_fails vars l k f s (inr b) = elim b.2 [ inl c ↦ cc c.1 | inr d ↦ d.0 ]

refuted : (s t : Store) (f : Term) → Ends s ≡ Ends t → truth_in t f ≡ true → truth_in s f ≡ false → ⊥
refuted s t f e h g = true≢false (sym h ∙ (ap (λ z. truth_in z f) (sym (same_store s t e)) ∙ g))

in_range : (v : Value) → IsOf (NumSort (Bits false 8)) v → truth_in (v ∷ []) (at_most byte 255) ≡ true
in_range (Number z) h = (both_true _ _ h).1
in_range (Flag b) h = absurd h
in_range (Array d es) h = absurd h
in_range (Tuple vs) h = absurd h

both_at_most_two : (l k : Label) → NoRunFails number (stored_is_at_most l 2) k
both_at_most_two l k [] h r = absurd h
both_at_most_two l k (v ∷ (w ∷ s)) h r = absurd h.1
both_at_most_two l k (v ∷ []) h (inl a) =
    let g = check_fails number l k (at_most number 2) a.0 a.2 in
    elim a.1 [
      | inl e ↦ refuted a.0 (Number (pos 1) ∷ []) (at_most number 2) e refl g
      | inr o ↦ elim o [ inl e ↦ refuted a.0 (Number (pos 2) ∷ []) (at_most number 2) e refl g | inr n ↦ n ]
    ]
both_at_most_two l k (v ∷ []) h (inr b) = elim b.2 [ inl e ↦ cc e | inr o ↦ elim o [ inl e ↦ cc e | inr n ↦ n ] ]

forgotten_in_range : (l k : Label) (s : Store) (v : Value) → IsOf (NumSort (Bits false 8)) v → Ends s ≡ Ends (v ∷ []) → AllComeTo byte (Cons (Check l (at_most byte 255)) Nil) s (Fails k) → ⊥
forgotten_in_range l k s v i e r = refuted s (v ∷ []) (at_most byte 255) e (in_range v i) (check_fails byte l k (at_most byte 255) s r)

byte_is_in_range : (l k : Label) → NoRunFails byte (first_of_two (Forget 0) (Check l (at_most byte 255))) k
byte_is_in_range l k [] h r = absurd h
byte_is_in_range l k (v ∷ (w ∷ s)) h r = absurd h.1
byte_is_in_range l k (v ∷ []) h (inl a) = forgotten_in_range l k a.0 a.1.0 a.1.1.0 a.1.2 a.2
byte_is_in_range l k (v ∷ []) h (inr b) = cc b.2.2

pub runs_are_worked : RunsAreWorked
runs_are_worked = record {
  both_at_most_two = both_at_most_two;
  two_above_one = λ l. inl (Number (pos 2) ∷ [], inr (inl refl), inr (l, refl, inr (refl, refl)));
  no_choice = λ s o r. r;
  nothing_to_do = λ s. refl;
  failed_before = λ l s. inr (l, refl, inr (refl, refl));
  not_assumed = λ l k s h r. elim r [ inl a ↦ true≢false (sym a.1.0) | inr b ↦ cc b.2.1 ];
  first_failure = λ l k s. inr (l, refl, inr (refl, refl));
  set_out_of_range = λ l. inl (Number (pos 256) ∷ [], refl, inr (l, refl, inr (refl, refl)));
  forgotten_in_range = byte_is_in_range;
  forgotten_anywhere = λ l. inl (Number (pos 256) ∷ [], (Number (pos 256), (refl, tt), refl), inr (l, refl, inr (refl, refl)));
}
