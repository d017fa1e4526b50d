-- Believed: a type as the list of its pieces, each behind its parts. Hold it against the types of `sv_plain`: each form with each of its parts, in order of the text.
use Rattle.std.specs.Prelude.{ℕ, Option, Some, None, List, [], ◌∷◌, ◌++◌}
use Rattle.sv_text.specs.declared.span.Span.{Span}
use Rattle.sv_plain.specs.PlainExprs.{Expr, Node, TypeForm, Typed, PlainForm, Simply, PlainKind, ElementaryType, AddressType, StringType, NamedType, MappingType, Length, Open, Of, Lengths, NoLength, MoreLengths}
use Rattle.sv_decl.specs.declared.data.TypePiece.{TypePiece}
use Rattle.sv_decl.specs.declared.data.TypePiece.TheVariants as piece

abbrev pub expr_span : Expr → Span
expr_span (Node spot kind) = spot.span

abbrev pub bracket : Length → TypePiece
bracket Open = piece.Dynamic
bracket (Of e) = piece.Fixed (expr_span e)

abbrev pub brackets : Lengths → List TypePiece
brackets NoLength = []
brackets (MoreLengths l ls) = bracket l ∷ brackets ls

abbrev pub named : ℕ → Option ℕ → TypePiece
named n None = piece.Named n
named n (Some m) = piece.Member n m

-- of a type without brackets, behind its parts
abbrev pub last_piece : PlainKind → TypePiece
last_piece (ElementaryType n) = piece.Elementary n
last_piece (AddressType is_payable) = piece.Address is_payable
last_piece StringType = piece.String
last_piece (NamedType n member) = named n member
last_piece (MappingType key key_name value value_name) = piece.Mapping

abbrev mutual
  pub type_pieces : TypeForm → List TypePiece
  type_pieces (Typed spot p ls) = plain_pieces p ++ brackets ls

  pub plain_pieces : PlainForm → List TypePiece
  plain_pieces (Simply spot kind) = parts_pieces kind ++ last_piece kind ∷ []

  pub parts_pieces : PlainKind → List TypePiece
  parts_pieces (ElementaryType n) = []
  parts_pieces (AddressType is_payable) = []
  parts_pieces StringType = []
  parts_pieces (NamedType n member) = []
  parts_pieces (MappingType key key_name value value_name) = type_pieces key ++ type_pieces value
