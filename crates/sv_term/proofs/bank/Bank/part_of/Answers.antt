use Rattle.std.proofs.Common.{◌<◌, length, subst, sym, arith}
use Rattle.sv_term.specs.Sorts.{parts, sort_at}
use Rattle.sv_term.specs.Terms.{sort_of}
use Rattle.sv_term.specs.Banks.{term, row_of, TupRow, IsKind, IsPlacedSort}
use Rattle.sv_term.proofs.SortNumbers.{part_room, part_kind}
use Rattle.sv_term.proofs.bank.Bank.part_of.Goals as goal

placed : (c : goal.In-Tup) → IsPlacedSort c.args.self.now c.sort_of.result (TupRow c.in-Tup.parts.items)
placed c = subst (λ x. IsPlacedSort c.args.self.now c.sort_of.result (row_of x)) c.in-Tup.is c.sort_node.ensures.placed

pub index-requires : goal.index-requires
index-requires c =
    let room : c.args.k < length c.in-Tup.parts.items = part_room c.args.self.now c.sort_of.result (sort_of (term c.args.self.now c.args.a)) c.in-Tup.parts.items c.args.k c.sort_of.ensures.kind (placed c) c.requires.tuple c.requires.part in
    omega (arith, room, c.in-Tup.parts.ok.0)

pub returns : goal.returns
returns c =
    subst (λ k. IsKind c.args.self.now k (sort_at c.args.k (parts (sort_of (term c.args.self.now c.args.a))))) (sym c.index.ensures)
    (part_kind c.args.self.now c.sort_of.result (sort_of (term c.args.self.now c.args.a)) c.in-Tup.parts.items c.args.k c.index.result.now c.sort_of.ensures.kind
    (subst (λ x. IsPlacedSort c.args.self.now c.sort_of.result (row_of x)) c.in-Tup.is c.sort_node.ensures.placed) c.requires.tuple c.requires.part)
