-- One call more is given its room, or its piece.
use Rattle.std.proofs.Common.{◌≡◌, ℕ, ◌+◌, ◌-◌, List, [], ◌∷◌, ◌++◌, Option, Some, None, inl, inr, append_assoc, drop, drop-drop, min, refl, sym, ap, subst, ◌∙◌, arith}
use Rattle.sv_io.specs.Moved.{AreRooms, ArePieces, GivesRooms, GivesPieces}
use Rattle.sv_io.specs.Moving.{total_got, total_took, HasGivenRooms, HasGivenPieces}
use Rattle.sv_io.specs.Calls.{Taking, Putting, AddsCall, MayAddCall}

pub rooms-push : (missing : ℕ) (calls : List Taking) (call : Taking)
    → AreRooms missing calls → call.room ≡ min 4096 (missing - total_got calls) → AreRooms missing (calls ++ call ∷ [])
rooms-push missing [] call so_far room = (room ∙ ap (λ (n : ℕ). min 4096 n) (omega arith), tt)
rooms-push missing (c ∷ calls) call so_far room =
    (so_far.0, rooms-push (missing - c.got) calls call so_far.1 (room ∙ ap (λ (n : ℕ). min 4096 n) (omega arith)))

pub total_got-push : (calls : List Taking) (call : Taking) → total_got (calls ++ call ∷ []) ≡ total_got calls + call.got
total_got-push [] call = omega arith
total_got-push (c ∷ calls) call = omega (arith, total_got-push calls call)

pub pieces-push : (text rest : List ℕ) (calls : List Putting) (call : Putting)
    → ArePieces text calls → drop (total_took calls) text ≡ rest → call.piece ≡ rest → ArePieces text (calls ++ call ∷ [])
pieces-push text rest [] call so_far is piece = (piece ∙ sym is, tt)
pieces-push text rest (c ∷ calls) call so_far is piece =
    (so_far.0, pieces-push (drop c.took text) rest calls call so_far.1 (drop-drop (total_took calls) c.took text ∙ ap (λ (n : ℕ). drop n text) (omega arith) ∙ is) piece)

pub total_took-push : (calls : List Putting) (call : Putting) → total_took (calls ++ call ∷ []) ≡ total_took calls + call.took
total_took-push [] call = omega arith
total_took-push (c ∷ calls) call = omega (arith, total_took-push calls call)

-- a call is told after those that were added
told_after : {A : Type 0} (calls more : List A) (before after : Option (List A)) (call : A)
    → before ≡ Some (calls ++ more) → AddsCall before after call → after ≡ Some (calls ++ (more ++ call ∷ []))
told_after calls more before after call is added =
    let told = subst (λ (o : Option (List _)). AddsCall o after call) is added in
    told ∙ ap Some (append_assoc calls more (call ∷ []))

-- one call of `take` more, which gave bytes or the end
pub rooms_taken : (most amount room got : ℕ) (initial before after : Option (List Taking))
    → HasGivenRooms most initial before amount → AddsCall before after (record { room = room; got = got }) → room ≡ min 4096 (most - amount)
    → HasGivenRooms most initial after (amount + got)
rooms_taken most amount room got None before after so_far added is = tt
rooms_taken most amount room got (Some calls) before after so_far added is =
    let call : Taking = record { room = room; got = got } in
    let more = so_far.0 in (
      more ++ call ∷ [],
      told_after calls more before after call so_far.1 added,
      rooms-push most more call so_far.2 (is ∙ ap (λ (n : ℕ). min 4096 (most - n)) (sym so_far.3)),
      total_got-push more call ∙ ap (λ (n : ℕ). n + got) so_far.3,
    )

-- the rooms were as they are due
pub rooms_given : (most amount : ℕ) (initial after : Option (List Taking)) → HasGivenRooms most initial after amount → GivesRooms most initial after
rooms_given most amount None after so_far = tt
rooms_given most amount (Some calls) after so_far = (so_far.0, so_far.1, so_far.2)

-- also after a call that failed, told or not
pub rooms_failed : (most amount room : ℕ) (initial before after : Option (List Taking))
    → HasGivenRooms most initial before amount → MayAddCall before after (record { room = room; got = 0 }) → room ≡ min 4096 (most - amount)
    → GivesRooms most initial after
rooms_failed most amount room None before after so_far added is = tt
rooms_failed most amount room (Some calls) before after so_far added is =
    elim (subst (λ (o : Option (List Taking)). MayAddCall o after (record { room = room; got = 0 })) so_far.1 added) [
      | inl told ↦ rooms_given most _ (Some calls) after
          (rooms_taken most amount room 0 (Some calls) (Some (calls ++ so_far.0)) after (so_far.0, refl, so_far.2, so_far.3) told is)
      | inr same ↦ (so_far.0, same, so_far.2)
    ]

-- one call of `put` more
pub pieces_put : (text rest piece : List ℕ) (took : ℕ) (initial before after : Option (List Putting))
    → HasGivenPieces text initial before rest → AddsCall before after (record { piece = piece; took = took }) → piece ≡ rest
    → HasGivenPieces text initial after (drop took rest)
pieces_put text rest piece took None before after so_far added is = tt
pieces_put text rest piece took (Some calls) before after so_far added is =
    let call : Putting = record { piece = piece; took = took } in
    let more = so_far.0 in (
      more ++ call ∷ [],
      told_after calls more before after call so_far.1 added,
      pieces-push text rest more call so_far.2 so_far.3 is,
      ap (λ (n : ℕ). drop n text) (total_took-push more call ∙ omega arith) ∙ sym (drop-drop took (total_took more) text) ∙ ap (drop took) so_far.3,
    )

pub pieces_given : (text rest : List ℕ) (initial after : Option (List Putting)) → HasGivenPieces text initial after rest → GivesPieces text initial after
pieces_given text rest None after so_far = tt
pieces_given text rest (Some calls) after so_far = (so_far.0, so_far.1, so_far.2)

pub pieces_failed : (text rest piece : List ℕ) (initial before after : Option (List Putting))
    → HasGivenPieces text initial before rest → MayAddCall before after (record { piece = piece; took = 0 }) → piece ≡ rest
    → GivesPieces text initial after
pieces_failed text rest piece None before after so_far added is = tt
pieces_failed text rest piece (Some calls) before after so_far added is =
    elim (subst (λ (o : Option (List Putting)). MayAddCall o after (record { piece = piece; took = 0 })) so_far.1 added) [
      | inl told ↦ pieces_given text _ (Some calls) after
          (pieces_put text rest piece 0 (Some calls) (Some (calls ++ so_far.0)) after (so_far.0, refl, so_far.2, so_far.3) told is)
      | inr same ↦ (so_far.0, same, so_far.2)
    ]
