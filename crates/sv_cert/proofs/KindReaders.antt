-- A word is the name of one kind at most.
use Rattle.std.proofs.Common.{◌≡◌, refl, ℕ, List}
use Rattle.std.specs.Prelude.{find}
use Rattle.std.specs.Str.{bytes_eq}
use Rattle.sv_cert.specs.LogText.{Word, name_of}
use Rattle.sv_cert.specs.LogReading.{all_kinds, kind_in}

pub kinds_are : (w : Word) → find (λ k. bytes_eq (name_of k) w) all_kinds ≡ kind_in w
unfolding kind_in
kinds_are w = refl
