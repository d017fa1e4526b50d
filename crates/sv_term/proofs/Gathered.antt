-- An array is gathered from its own entries.
use Rattle.std.proofs.Common.{Bool, true, false, cond, ◌≡◌, ℤ, refl, ap, ◌∙◌, arith}
use Rattle.std.specs.Ordering.{int_eq}
use Rattle.std.proofs.lemmas.Int.{ints}
use lib.Signed.{◌<ℤ◌, lt_z}
use Rattle.sv_term.specs.Values.{Value, Array, Entries, Empty, Entry, write, with_entry, without, Each, IsAbove, IsRising, IsOther}
use Rattle.sv_term.specs.ModelMaking.{gathered, listed, ArraysAreGathered}

lt_true : (i j : ℤ) → i <ℤ j → lt_z i j ≡ true
lt_true i j h = go (lt_z i j) refl
  where
    go : (b : Bool) → lt_z i j ≡ b → b ≡ true
    go true e = refl
    go false e = absurd (omega (arith, ints))

-- an entry below all others goes in front
in_front : (i : ℤ) (v : Value) (es : Entries) → IsAbove i es → with_entry i v es ≡ Entry i v es
in_front i v Empty a = refl
in_front i v (Entry j w es) a = ap (λ b. cond b (Entry i v (Entry j w es)) (cond (int_eq i j) (Entry i v es) (Entry j w (with_entry i v es)))) (lt_true i j a.0)

gathered_entries : (d : Value) (es : Entries) → IsRising es → Each (IsOther d) es → gathered d (listed es) ≡ Array d es
gathered_entries d Empty r o = refl
gathered_entries d (Entry i v es) r o =
    ap (write i v) (gathered_entries d es r.1 o.1)
    ∙ (ap (λ b. Array d (cond b (without i es) (with_entry i v es))) o.0 ∙ ap (Array d) (in_front i v es r.0))

pub arrays_are_gathered : ArraysAreGathered
arrays_are_gathered s d es h = gathered_entries d es h.2 h.3
