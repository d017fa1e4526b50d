-- Serves the proof: a list of types in which types stand inside types.
use Rattle.std.specs.Prelude.{List, [], ◌∷◌}
use Rattle.sv_type.specs.declared.info.TypeInfo.{TypeInfo}
use Rattle.sv_type.specs.declared.info.TypeInfo.TheVariants.{Bool, Uint, Struct, Fixed, Dynamic, Mapping}

abbrev pub nested_types : List TypeInfo
nested_types =
    Bool ∷ Uint 256 ∷ Dynamic 1 ∷ Struct (1 ∷ 2 ∷ []) ∷ Dynamic 3 ∷ Fixed 2 3 ∷ Mapping 0 2 ∷ Mapping 1 4 ∷ Struct (6 ∷ 1 ∷ []) ∷ Fixed 1 4 ∷ []
