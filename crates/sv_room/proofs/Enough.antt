-- The room of a log is enough for each of its entries.
use Rattle.std.proofs.Common.{ℕ, ◌+◌, ◌-◌, ◌^◌, ◌≤◌, ◌<◌, ◌≡◌, List, [], ◌∷◌, ◌++◌, refl, sym, ap, ◌∙◌, subst, arith}
use Rattle.sv_log.specs.LogEntries.{Entry}
use Rattle.sv_room.specs.Rooms.{room, none, both, total, capped, capped_room, IsWithin, IsReal}
use Rattle.sv_room.specs.Needs.{need_of}
use Rattle.sv_room.specs.RoomLaws.{PrefixesHaveRoom}
use Rattle.sv_room.specs.declared.room.Room.{Room}
use Rattle.sv_room.proofs.Capping.{capped_real}
use Rattle.sv_room.proofs.Totals.{same_room, both_both, total_append}

real_room : (r : Room) → IsReal (capped_room r) → capped_room r ≡ r
real_room r h = same_room _ _ _ _ _ _ _ _ _ _ _ _
    (capped_real r.terms h.terms) (capped_real r.args h.args) (capped_real r.sorts h.sorts) (capped_real r.items h.items) (capped_real r.coefficients h.coefficients) (capped_real r.splits h.splits)

within_both : (r s : Room) → IsWithin r (both r s)
within_both r s = record { terms = omega arith; args = omega arith; sorts = omega arith; items = omega arith; coefficients = omega arith; splits = omega arith }

pub prefixes_have_room : PrefixesHaveRoom
prefixes_have_room before rest e h =
    let all = total need_of (before ++ e ∷ rest) in
    let taken = both (total need_of before) (need_of e) in
    subst (IsWithin taken) (sym (real_room all h ∙ (total_append need_of before (e ∷ rest) ∙ both_both (total need_of before) (need_of e) (total need_of rest)))) (within_both taken (total need_of rest))
