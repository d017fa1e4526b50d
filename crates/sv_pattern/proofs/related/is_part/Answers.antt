use Rattle.std.proofs.Common.{ℕ, ◌≡◌, sym, ◌∙◌}
use Rattle.sv_pattern.proofs.NumberedTrees.{part_is}
use Rattle.sv_pattern.proofs.related.is_part.Goals as goal

pub returns-then-is_of_kind : goal.returns-then-is_of_kind
returns-then-is_of_kind g c =
    part_is (g.T.TermNumbers.trees c.args.terms.now) c.args.m c.args.n c.in-Some.t c.in-Get.k c.is_argument.result
    (sym c.kind.ensures ∙ c.in-Get.is) c.in-Some.ensures (c.is_of_kind.ensures.0 c.if-is_of_kind.true) (c.is_sound.ensures.fit c.args.m c.requires.0) c.is_argument.ensures
