-- Parts that stand one after another: how far a loop has read them.
use Rattle.std.proofs.Common.{◌≡◌, ◌<◌, ◌≤◌, List, [], ◌∷◌, ◌++◌, length, refl, sym, ap, ◌∙◌, subst, arith, length-append}
use Rattle.std.specs.Prelude.{All}
use Rattle.std.specs.List.{flat_map}
use Rattle.std.proofs.lemmas.List.{append_assoc, append-nil, flat_map_more}
use Rattle.std.proofs.lemmas.List.Elements.{All-nil, All-head, All-tail, All-push}
use Rattle.sv_first_form.specs.FormReading.{Part, IsFirst, HasNone, IsSofar, parts, Fails, is_unbuilt, no_memory}
use Rattle.sv_first_form.specs.FormSymbols.{Symbol}
use Rattle.sv_first_form.specs.declared.form_error.FormError.{FormError}

-- such a part may be followed by anything, and doesn't stop a loop over such parts
pub record GoesOn {X : Type 0} (part : Part X) (Stops : List Symbol → Type 0) : Type 0 where
  pub some : (x : X) → 1 ≤ length (part.print x)
  pub ends : (more : List Symbol) → part.Stops more
  pub apart : (x : X) (more : List Symbol) → part.Formed x → Stops (part.print x ++ more) → ⊥

pub starts : {X : Type 0} {part : Part X} {Stops : List Symbol → Type 0} {tokens : List Symbol} → IsSofar part Stops tokens [] tokens
starts {part} = record {
  spelled = refl;
  formed = All-nil part.Formed;
  only = λ ys more formed stops e. (ys, refl, formed, e);
}

-- what is left to read is one part more
next : {X : Type 0} {part : Part X} {Stops : List Symbol → Type 0} {rest after : List Symbol} {x : X} → GoesOn part Stops → (Stops rest → ⊥) → IsFirst part rest x after
    → (zs : List X) (more : List Symbol) → All part.Formed zs → Stops more → rest ≡ flat_map part.print zs ++ more
    → (us : List X) × (zs ≡ x ∷ us) × All part.Formed us × (after ≡ flat_map part.print us ++ more)
next {Stops} g on first [] more formed stops e = absurd (on (subst Stops (sym e) stops))
next {part} {x} g on first (z ∷ zs) more formed stops e =
    let same : (z ≡ x) × _ = first.only z (flat_map part.print zs ++ more) (All-head part.Formed z zs formed) (g.ends _) (e ∙ append_assoc (part.print z) (flat_map part.print zs) more) in
    (zs, ap (λ y. y ∷ zs) same.0, All-tail part.Formed z zs formed, sym same.1)

pub goes : {X : Type 0} {part : Part X} {Stops : List Symbol → Type 0} {tokens rest after : List Symbol} {read : List X} {x : X}
    → GoesOn part Stops → IsSofar part Stops tokens read rest → (Stops rest → ⊥) → IsFirst part rest x after → IsSofar part Stops tokens (read ++ x ∷ []) after
goes {part} {rest} {after} {read} {x} g sofar on first = record {
  spelled = sofar.spelled ∙ ap (λ t. flat_map part.print read ++ t) first.spelled ∙ sym (append_assoc (flat_map part.print read) (part.print x) after)
      ∙ ap (λ t. t ++ after) (flat_map_more part.print [] read x);
  formed = All-push part.Formed read x sofar.formed first.formed;
  only = λ ys more formed stops e.
      let w = sofar.only ys more formed stops e in
      let n = next g on first w.0 more w.2 stops w.3 in
      (n.0, w.1 ∙ ap (λ t. read ++ t) n.1 ∙ sym (append_assoc read (x ∷ []) n.0), n.2, n.3);
}

-- nothing is left to read
nothing : {X : Type 0} {part : Part X} {Stops : List Symbol → Type 0} {rest : List Symbol} → GoesOn part Stops → Stops rest
    → (zs : List X) (more : List Symbol) → All part.Formed zs → rest ≡ flat_map part.print zs ++ more → (zs ≡ []) × (more ≡ rest)
nothing g stop [] more formed e = (refl, sym e)
nothing {part} {Stops} g stop (z ∷ zs) more formed e =
    absurd (g.apart z (flat_map part.print zs ++ more) (All-head part.Formed z zs formed) (subst Stops (e ∙ append_assoc (part.print z) (flat_map part.print zs) more) stop))

pub ends : {X : Type 0} {part : Part X} {Stops : List Symbol → Type 0} {tokens rest : List Symbol} {read : List X}
    → GoesOn part Stops → IsSofar part Stops tokens read rest → Stops rest → IsFirst (parts part Stops) tokens read rest
unfolding parts
ends {part} {rest} {read} g sofar stop = record {
  spelled = sofar.spelled;
  formed = sofar.formed;
  only = λ ys more formed stops e.
      let w = sofar.only ys more formed stops e in
      let n = nothing g stop w.0 more w.2 w.3 in
      (w.1 ∙ ap (λ t. read ++ t) n.0 ∙ append-nil read, n.1);
}

none : {X : Type 0} {part : Part X} {Stops : List Symbol → Type 0} {rest : List Symbol} → GoesOn part Stops → (Stops rest → ⊥) → HasNone part rest
    → (zs : List X) (more : List Symbol) → All part.Formed zs → Stops more → rest ≡ flat_map part.print zs ++ more → ⊥
none {Stops} g on absent [] more formed stops e = on (subst Stops (sym e) stops)
none {part} g on absent (z ∷ zs) more formed stops e =
    absent.none z (flat_map part.print zs ++ more) (All-head part.Formed z zs formed) (g.ends _) (e ∙ append_assoc (part.print z) (flat_map part.print zs) more)

pub fails : {X : Type 0} {part : Part X} {Stops : List Symbol → Type 0} {tokens rest : List Symbol} {read : List X} {e : FormError}
    → GoesOn part Stops → IsSofar part Stops tokens read rest → (Stops rest → ⊥) → Fails part rest e → Fails (parts part Stops) tokens e
unfolding parts
fails g sofar on (is_unbuilt absent) = is_unbuilt (record {
  none = λ ys more formed stops e.
      let w = sofar.only ys more formed stops e in
      none g on absent w.0 more w.2 stops w.3;
})
fails g sofar on no_memory = no_memory

-- a part leaves fewer tokens
pub smaller : {X : Type 0} {part : Part X} {Stops : List Symbol → Type 0} {rest after : List Symbol} {x : X} → GoesOn part Stops → IsFirst part rest x after → length after < length rest
smaller {part} {rest} {after} {x} g first = omega (arith, ap length first.spelled, length-append (part.print x) after, g.some x)
