use Rattle.std.proofs.Common.{rules, ◌≡◌, [], false, length, get_or, slice_index_or}
use Rattle.sv_reach.specs.Paths.{AreMarks, IsReached}
use Rattle.sv_form_bases.proofs.Leading.{leads_by_marks}
use Rattle.sv_form_bases.proofs.graph.leads.Goals as goal

pub returns : goal.returns
returns c =
    let g = c.args.graph.now in
    let all : AreMarks (length g) (IsReached g (slice_index_or g c.args.from [])) c.in_ok-met.met = search rules in
    let mark : c.is_marked.result ≡ get_or c.in_ok-met.met c.args.to false = search rules in
    leads_by_marks g c.args.from c.args.to c.in_ok-met.met c.is_marked.result all mark
