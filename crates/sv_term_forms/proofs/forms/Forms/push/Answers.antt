use Rattle.std.proofs.Common.{◌≡◌, ◌++◌, ◌∷◌, [], ap, ◌∙◌, subst, arith}
use Rattle.std.proofs.lemmas.Grind.{common_steps}
use Rattle.sv_form.specs.Nodes.{AreSound}
use Rattle.sv_term_forms.specs.FormLists.{FormList}
use Rattle.sv_term_forms.specs.KeptNodes.{Keeps}
use Rattle.sv_term_forms.proofs.Growing.{pushed_sound, pushed_forms}
use Rattle.sv_term_forms.proofs.forms.Forms.push.Goals as goal

pub invariant_of-self : goal.invariant_of-self
invariant_of-self c =
    let longer : c.push.new.self.items ≡ c.self.inside.nodes.items ++ c.kept_of-kept.result ∷ [] = grind (arith, c.push.ensures.items, c.push.ensures.succeeds) in
    let keeps = subst (λ nodes. Keeps nodes c.args.node c.kept_of-kept.result) c.deref.ensures.value c.kept_of-kept.ensures.keeps in
    let sound = pushed_sound c.self.inside.nodes.items c.push.new.self.items c.args.node c.kept_of-kept.result longer c.self.invariant.0 keeps in
    grind (arith, common_steps, sound)

pub returns-clause-forms : goal.returns-clause-forms
returns-clause-forms c =
    let inside = ap (λ (v : FormList). v.nodes) c.self.view_is in
    let longer : c.push.new.self.items ≡ c.self.inside.nodes.items ++ c.kept_of-kept.result ∷ [] = grind (arith, c.push.ensures.items, c.push.ensures.succeeds) in
    let keeps = subst (λ nodes. Keeps nodes c.args.node c.kept_of-kept.result) (c.deref.ensures.value ∙ inside) c.kept_of-kept.ensures.keeps in
    pushed_forms c.args.self.now.nodes c.push.new.self.items c.args.node c.kept_of-kept.result (longer ∙ ap (λ nodes. nodes ++ c.kept_of-kept.result ∷ []) inside)
    (subst AreSound inside c.self.invariant.0) keeps c.requires.named
