-- Believed: what a source or a sink tells of its calls. Hold it against the calls of `take` and `put` themselves: the room or the piece of each, and its answer.
use Rattle.std.specs.Prelude.{◌≡◌, ℕ, ◌⊎◌, List, [], ◌∷◌, ◌++◌, Some, None}
use Rattle.std.specs.declared.option.Option.{Option}
use Rattle.sv_io.specs.declared.source.Taken.{Taken}
use Rattle.sv_io.specs.declared.source.Taken.TheVariants.{Got, End, Failed}
use Rattle.sv_io.specs.declared.sink.Put.{Put}
use Rattle.sv_io.specs.declared.sink.Put.TheVariants.{Took, Failed as PutFailed}

-- one call of `take`: the length of its buffer, and how many bytes it gave
pub record Taking : Type 0 where
  pub room : ℕ
  pub got : ℕ

-- one call of `put`: what it was given, and how many bytes of that it took
pub record Putting : Type 0 where
  pub piece : List ℕ
  pub took : ℕ

-- where told: the call is told after all before it
abbrev pub AddsCall : {A : Type 0} → Option (List A) → Option (List A) → A → Type 0
AddsCall None after call = Unit {0}
AddsCall (Some calls) after call = after ≡ Some (calls ++ call ∷ [])

-- where told: the call is told after all before it, or nothing more is told than before
abbrev pub MayAddCall : {A : Type 0} → Option (List A) → Option (List A) → A → Type 0
MayAddCall None after call = Unit {0}
MayAddCall (Some calls) after call = (after ≡ Some (calls ++ call ∷ [])) ⊎ (after ≡ Some calls)

-- the call of `take` is told, with its room and the bytes that it gave; one that failed may be left untold
abbrev pub TellsTake : Option (List Taking) → Option (List Taking) → Taken → ℕ → Type 0
TellsTake before after (Got n) room = AddsCall before after (record { room = room; got = n })
TellsTake before after End room = AddsCall before after (record { room = room; got = 0 })
TellsTake before after Failed room = MayAddCall before after (record { room = room; got = 0 })

-- the call of `put` is told, with its piece and the bytes that it took; one that failed may be left untold
abbrev pub TellsPut : Option (List Putting) → Option (List Putting) → Put → List ℕ → Type 0
TellsPut before after (Took n) piece = AddsCall before after (record { piece = piece; took = n })
TellsPut before after PutFailed piece = MayAddCall before after (record { piece = piece; took = 0 })
