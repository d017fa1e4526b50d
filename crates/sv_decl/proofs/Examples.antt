-- Types worked out by hand: `uint256[3][]`, and `mapping(uint256 => C.S[])`.
use Rattle.std.proofs.Common.{◌≡◌, ℕ, Some, None, List, [], ◌∷◌, refl}
use Rattle.sv_text.specs.declared.span.Span.{Span}
use Rattle.sv_plain.specs.declared.spot.Spot.{Spot}
use Rattle.sv_plain.specs.PlainExprs.{Expr, Node, Number, TypeForm, Typed, Simply, ElementaryType, NamedType, MappingType, Open, Of, NoLength, MoreLengths}
use Rattle.sv_decl.specs.declared.data.TypePiece.TheVariants as piece
use Rattle.sv_decl.specs.TypePieces.{type_pieces}

-- the text `uint256` has the name 0, `3` the name 1, `C` the name 2, `S` the name 3
abbrev uint256 : Spot → TypeForm
uint256 at = Typed at (Simply at (ElementaryType 0)) NoLength

arrays_of_three : (at of_three : Spot) → type_pieces (Typed at (Simply at (ElementaryType 0)) (MoreLengths (Of (Node of_three (Number 1 None))) (MoreLengths Open NoLength))) ≡ piece.Elementary 0 ∷ piece.Fixed of_three.span ∷ piece.Dynamic ∷ []
arrays_of_three at of_three = refl

mapping_of_arrays : (at : Spot) → type_pieces (Typed at (Simply at (MappingType (uint256 at) None (Typed at (Simply at (NamedType 2 (Some 3))) (MoreLengths Open NoLength)) None)) NoLength) ≡ piece.Elementary 0 ∷ piece.Member 2 3 ∷ piece.Dynamic ∷ piece.Mapping ∷ []
mapping_of_arrays at = refl
