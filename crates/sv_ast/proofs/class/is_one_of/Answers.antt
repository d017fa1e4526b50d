use Rattle.std.proofs.Common.{rules, tests, ◌≡◌, ◌∙◌, sym}
use Rattle.std.specs.List.{list_any}
use Rattle.std.proofs.lemmas.Iterator.{YieldsList-from_slice}
use Rattle.std.proofs.lemmas.Iterator.Search.{any_from_yields_List}
use Rattle.sv_ast.specs.Classes.{is_same}
use Rattle.sv_ast.proofs.ClassLemmas.{any_map}
use Rattle.sv_ast.proofs.class.is_one_of.Goals as goal

pub returns : goal.returns
returns c =
    let text = c.args.text.now in
    let texts = c.args.texts.now in
    let found : c.any.result ≡ list_any (λ t. is_same text t.now) texts =
    any_from_yields_List (λ t. is_same text t.now) _ _ c.any.result c.any.ensures.ran (YieldsList-from_slice texts cc) (λ x b q k. search (rules, tests)) in
    found ∙ sym (any_map (λ t. t.now) (is_same text) texts)
