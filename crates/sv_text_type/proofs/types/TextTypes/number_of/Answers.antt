use Rattle.std.proofs.Common.{◌≡◌, ◌++◌, ◌∷◌, ◌+◌, [], length, slice_get, Contains, ap, sym, subst, ◌∙◌, arith}
use Rattle.std.proofs.lemmas.List.{length_push}
use Rattle.sv_text_type.specs.TextTypeParts.{HasParts, IsOrdered, AreDistinct}
use Rattle.sv_text_type.proofs.Numbers.{put_last, last_at, stays_ordered, stays_distinct}
use Rattle.sv_text_type.proofs.types.TextTypes.number_of.Goals as goal

absent : (c : goal.In_ok-insert_full) → Contains c.self.inside.types.keys c.args.t → ⊥
absent c = subst (λ l. Contains l c.args.t → ⊥) (sym c.self.view_is) c.in_default.ensures.none

longer : (c : goal.In_ok-insert_full) → c.insert_full.new.self.keys ≡ c.self.inside.types.keys ++ c.args.t ∷ []
longer c = put_last c.args.t c.self.inside.types.keys c.insert_full.new.self.keys (absent c) c.in_ok-insert_full.ensures.keys

pub invariant_of-self-2 : goal.invariant_of-self-2
invariant_of-self-2 c =
    let parts : HasParts (length c.self.inside.types.keys) c.args.t = subst (λ l. HasParts (length l) c.args.t) (sym c.self.view_is) c.requires in
    let size : length c.insert_full.new.self.keys ≡ length c.self.inside.types.keys + 1 = ap length (longer c) ∙ length_push c.self.inside.types.keys c.args.t in (
      subst IsOrdered (sym (longer c)) (stays_ordered c.args.t c.self.inside.types.keys parts c.self.invariant.0),
      subst AreDistinct (sym (longer c)) (stays_distinct c.args.t c.self.inside.types.keys (absent c) c.self.invariant.1),
      omega (arith, size, c.if-position.false, c.len-position.ensures.len),
    )

pub returns-clause-numbered : goal.returns-clause-numbered
returns-clause-numbered c =
    ap (λ l. slice_get l c.len-position.result) (longer c)
    ∙ (ap (λ n. slice_get (c.self.inside.types.keys ++ c.args.t ∷ []) n) c.len-position.ensures.len ∙ last_at c.args.t c.self.inside.types.keys)

pub returns-clause-new : goal.returns-clause-new
returns-clause-new c = λ _. longer c ∙ ap (λ l. l ++ c.args.t ∷ []) c.self.view_is
