-- Believed: the code's nodes as plain data. Hold it against the types of the same names.
use Rattle.std.specs.Prelude.{List, [], ◌∷◌}
use Rattle.sv_term.specs.Sorts.{Sort, NumSort, BoolSort, ArrSort, TupSort, Sorts, NoSorts, SortAnd}
use Rattle.sv_term.specs.Banks.{range_of}
use Rattle.sv_log.specs.LogEntries as l
use Rattle.sv_cert.specs.declared.kind.NodeKind.{NodeKind}
use Rattle.sv_cert.specs.declared.kind.NodeKind.TheVariants as k
use Rattle.sv_cert.specs.declared.kind.Slot.{Slot}
use Rattle.sv_cert.specs.declared.kind.Slot.TheVariants as x
use Rattle.sv_cert.specs.declared.part.Part.{Part}
use Rattle.sv_cert.specs.declared.part.Part.TheVariants as p
use Rattle.sv_cert.specs.declared.sort.LogSort.{LogSort, fold-LogSort}
use Rattle.sv_cert.specs.declared.sort.LogSort.TheOpen.{LogSort-F}

abbrev pub sorts_from : List Sort → Sorts
sorts_from [] = NoSorts
sorts_from (s ∷ ss) = SortAnd s (sorts_from ss)

abbrev pub sort_layer : LogSort-F Sort → Sort
sort_layer (LogSort-F.Num r) = NumSort (range_of r)
sort_layer LogSort-F.Bool = BoolSort
sort_layer (LogSort-F.Arr s) = ArrSort s
sort_layer (LogSort-F.Tup ss) = TupSort (sorts_from ss)

abbrev pub plain_sort : LogSort → Sort
plain_sort = fold-LogSort Sort sort_layer

abbrev pub plain_part : Part → l.Part
plain_part (p.Term n) = l.TermPart n
plain_part (p.Sort s) = l.SortPart (plain_sort s)
plain_part (p.Number m) = l.NumberPart m
plain_part (p.Flag b) = l.FlagPart b

abbrev pub plain_kind : NodeKind → l.Kind
plain_kind k.Lit = l.LitKind
plain_kind k.Truth = l.TruthKind
plain_kind k.Var = l.VarKind
plain_kind k.Add = l.AddKind
plain_kind k.Sub = l.SubKind
plain_kind k.Mul = l.MulKind
plain_kind k.Div = l.DivKind
plain_kind k.Mod = l.ModKind
plain_kind k.Wrap = l.WrapKind
plain_kind k.Le = l.LeKind
plain_kind k.Eq = l.EqKind
plain_kind k.Not = l.NotKind
plain_kind k.And = l.AndKind
plain_kind k.Or = l.OrKind
plain_kind k.Ite = l.IteKind
plain_kind k.Sel = l.SelKind
plain_kind k.Sto = l.StoKind
plain_kind k.Const = l.ConstKind
plain_kind k.Mix = l.MixKind
plain_kind k.Tup = l.TupKind
plain_kind k.Get = l.GetKind
plain_kind k.Sum = l.SumKind

abbrev pub plain_slot : Slot → l.Slot
plain_slot x.Sign = l.SignSlot
plain_slot x.Flag = l.FlagSlot
plain_slot x.Number = l.NumberSlot
plain_slot x.Sort = l.SortSlot
plain_slot x.Term = l.TermSlot
plain_slot x.Terms = l.TermsSlot
