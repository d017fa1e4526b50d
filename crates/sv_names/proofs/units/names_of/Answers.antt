use Rattle.std.proofs.Common.{ap}
use Rattle.sv_decl.specs.declared.data.DeclaredText.{DeclaredText}
use Rattle.sv_decl.specs.Declarations.{declared_text}
use Rattle.sv_visit_unit.specs.UnitSites.{unit_walk}
use Rattle.sv_naming.specs.NamesKnown.{Known, nothing_known}
use Rattle.sv_name_book.specs.NameBook.{names_book}
use Rattle.sv_names.specs.NameState.{state_of}
use Rattle.sv_names.proofs.Binding.{read_behind}
use Rattle.sv_names.proofs.units.names_of.Goals as goal

pub returns-clause-binds : goal.returns-clause-binds
returns-clause-binds c =
    read_behind names_book (λ (k : Known). k.binds) (unit_walk c.args.unit.now)
    (nothing_known c.args.names.now c.in_ok-text.text c.args.lines.now)
    (nothing_known c.args.names.now (declared_text c.args.unit.now) c.args.lines.now)
    (state_of c.begin-j.result) (state_of c.ask_unit.new.j)
    (ap (λ (t : DeclaredText). nothing_known c.args.names.now t c.args.lines.now) c.in_ok-text.ensures)
    c.begin-j.ensures c.in_ok-ask_unit.ensures.walked
