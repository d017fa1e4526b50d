use Rattle.std.proofs.Common.{rules, ◌≡◌, ◌↔◌, IsTrue, Some, length, subst, sym}
use Rattle.sv_form_book.specs.FormBases.{has_base}
use Rattle.sv_form_book.specs.FormRules.{is_base_of}
use Rattle.sv_form_bases.specs.EdgeGraphs.{Leads}
use Rattle.sv_form_bases.proofs.Chains.{base_by_path}
use Rattle.sv_form_bases.proofs.bases.Bases.has.Goals as goal

pub returns-in_ok-leads-in-Some : goal.returns-in_ok-leads-in-Some
returns-in_ok-leads-in-Some c =
    let items = c.self.inside.items.now in
    let graph = c.self.inside.graph.items in
    let name = c.in-Some.c in
    let answer = c.in_ok-leads-in-Some.field-0 in
    let leads : IsTrue answer ↔ Leads graph name c.args.base = search rules in
    let here : answer ≡ has_base (length items) items c.args.base name = base_by_path items graph c.args.base name answer c.self.invariant leads in
    let given : c.args.contract ≡ Some name = search rules in
    subst (λ o. answer ≡ is_base_of c.args.self.now o c.args.base) (sym given)
    (subst (λ is. answer ≡ is_base_of is (Some name) c.args.base) c.self.view_is here)
