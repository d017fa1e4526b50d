use Rattle.std.proofs.Common.{◌≡◌, drop}
use Rattle.sv_book.specs.Visits.{visit_in}
use Rattle.sv_visit_decl.specs.DeclSites.{words_parts}
use Rattle.sv_visit_decl.proofs.decls.walk_words.Given as goal

abbrev pub invariant-loop-w : goal.invariant-loop-w
invariant-loop-w g l =
    (visit_in g.J.Judge.book (words_parts (drop l.w-index l.list)) (g.J.Judge.state l.j) ≡ visit_in g.J.Judge.book (words_parts l.list) (g.J.Judge.state l.fn.j))
