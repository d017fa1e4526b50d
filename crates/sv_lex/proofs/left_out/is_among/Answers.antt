use Rattle.std.proofs.Common.{rules, tests, ◌≡◌, nat_eq, ◌∙◌, sym}
use Rattle.std.specs.List.{list_any}
use Rattle.std.proofs.lemmas.Iterator.{YieldsList-from_slice}
use Rattle.std.proofs.lemmas.Iterator.Search.{any_from_yields_List}
use Rattle.std.specs.Cmp.Lexicographic.{pointwise}
use Rattle.sv_lex.proofs.LimitLemmas.{any_of_map}
use Rattle.sv_lex.proofs.left_out.is_among.Goals as goal

pub returns : goal.returns
returns c =
    let text = c.args.text.now in
    let texts = c.args.texts.now in
    let found : c.any.result ≡ list_any (λ t. pointwise nat_eq text t.now) texts =
    any_from_yields_List (λ t. pointwise nat_eq text t.now) _ _ c.any.result c.any.ensures.ran (YieldsList-from_slice texts cc) (λ x b q k. search (rules, tests)) in
    found ∙ sym (any_of_map (λ t. t.now) (pointwise nat_eq text) texts)
