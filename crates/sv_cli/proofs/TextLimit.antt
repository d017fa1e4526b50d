-- What is due depends on a text up to one byte over the limit.
use Rattle.std.proofs.Common.{◌≡◌, ℕ, ◌+◌, ◌<◌, ◌≤◌, ◌⊎◌, inl, inr, List, length, take, drop, Option, None, Some, refl, ap, ◌∙◌, subst, arith}
use Rattle.std.proofs.lemmas.List.{take_all, length-take}
use Rattle.sv_cli.specs.Answered.{IsDueFrom, IsDueWithin}
use Rattle.sv_cli.specs.Due.{IsDue, IsRefused}
use Rattle.sv_cli.specs.Due.IsDue.{IsError, IsReported}
use Rattle.sv_cli.specs.Due.IsRefused.{IsLong, HasChar, IsUnclosed, HasMany, HasOut, HasDeep, HasNoTree, IsUnbuilt}
use Rattle.sv_io.specs.Moved.{ReadsUpTo}
use Rattle.sv_report.specs.Refusals.{error_text}
use Rattle.sv_report.specs.declared.ended.Ended.{Ended}
use Rattle.sv_report.specs.declared.refusal.Refusal.{Refusal}
use Rattle.sv_report.specs.declared.refusal.Refusal.TheVariants.{Long}
use Rattle.sv_lex.specs.Lexing.{limit}

-- a front that is no longer than the limit is the whole text
whole : (most : ℕ) (text : List ℕ) → most ≡ limit + 1 → length (take most text) ≤ limit → take most text ≡ text
whole most text is short = take_all most text (omega (arith, length-take most text))

-- a text that is refused, and isn't over the limit
short_or_long : (text : List ℕ) (refusal : Refusal) → IsRefused text refusal → ((limit < length text) × (refusal ≡ Long)) ⊎ (length text ≤ limit)
short_or_long text _ (IsLong long) = inl (long, refl)
short_or_long text _ (HasChar at short first) = inr short
short_or_long text _ (IsUnclosed at short first) = inr short
short_or_long text _ (HasMany before after t short read size) = inr short
short_or_long text _ (HasOut tokens before t has first) = inr has.short
short_or_long text _ (HasDeep tokens before t has none first) = inr has.short
short_or_long text _ (HasNoTree tokens reach plain none begins) = inr plain.within.short
short_or_long text _ (IsUnbuilt tokens plain tree none) = inr plain.within.short

-- what is due for the text up to one byte over the limit is due for the text
due_from_front : (most : ℕ) (text due : List ℕ) (ended : Ended) → most ≡ limit + 1 → IsDue (take most text) due ended → IsDue text due ended
due_from_front most text due ended is (IsError refusal refused d e) =
    elim (short_or_long (take most text) refusal refused) [
      | inl (long, same) ↦ IsError Long (IsLong (omega (arith, length-take most text))) (d ∙ ap error_text same) e
      | inr short ↦ subst (λ (t : List ℕ). IsDue t due ended) (whole most text is short) (IsError refusal refused d e)
    ]
due_from_front most text due ended is (IsReported c means reports) =
    subst (λ (t : List ℕ). IsDue t due ended) (whole most text is means.plain.within.short) (IsReported c means reports)

pub due_from_read : (most : ℕ) (left left' : Option (List ℕ)) (bytes due : List ℕ) (ended : Ended)
    → most ≡ limit + 1 → ReadsUpTo most left left' bytes → IsDue bytes due ended → IsDueFrom left left' due ended
due_from_read most None left' bytes due ended is read due_is = record { text = bytes; read = tt; due_is = due_is }
due_from_read most (Some text) left' bytes due ended is read due_is = record {
  text = text;
  read = (refl, read.1 ∙ ap (λ (n : ℕ). Some (drop n text)) is);
  due_is = due_from_front most text due ended is (subst (λ (t : List ℕ). IsDue t due ended) read.0 due_is);
}

-- a sink with room for whatever is due has room for this
pub room_missing : (left left' : Option (List ℕ)) (due text : List ℕ) (ended : Ended) (room : ℕ)
    → IsDueFrom left left' due ended → left ≡ Some text → IsDueWithin text room → room < length due → ⊥
room_missing None left' due text ended room is_due is within less = absurd (cc)
room_missing (Some l) left' due text ended room is_due is within less =
    let same : is_due.text ≡ text = is_due.read.0 ∙ option_injective is in
    omega (arith, within due ended (subst (λ (t : List ℕ). IsDue t due ended) same is_due.due_is))
  where
    option_injective : {x y : List ℕ} → Some x ≡ Some y → x ≡ y
    option_injective e = cc
