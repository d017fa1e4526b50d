-- Nodes that were listed by hand.
use Rattle.std.proofs.Common.{ℕ, ◌≡◌, refl}
use Rattle.sv_plain.specs.declared.spot.Spot.{Spot}
use Rattle.sv_plain.specs.PlainExprs.{Expr, Node, Name, Applied, MoreSuffixes, NoSuffix, Suffixed, Index, Call, Given, Positional, MoreExprs, NoExpr, Paren, Suffixes, Args}
use Rattle.sv_book.specs.Walks.{Walk, Node as Branch, Group, End, Part}
use Rattle.sv_visit.specs.declared.judge.Role.{Role}
use Rattle.sv_visit.specs.declared.judge.Role.TheVariants as role
use Rattle.sv_visit.specs.Sites.{Site, Expression, Arguing}
use Rattle.sv_visit.specs.ExprSites.{expr_walk}

module _ (at : Spot) where
  abbrev name : ℕ → Expr
  name n = Node at (Name n)

  abbrev named : Role → ℕ → Walk Site
  named r n = Branch (Expression r at (Name n)) End

  abbrev arguments : Args
  arguments = Given at (Positional (MoreExprs (name 2) NoExpr))

  abbrev suffixes : Suffixes
  suffixes = MoreSuffixes (Suffixed at (Index (name 1))) (MoreSuffixes (Suffixed at (Call arguments)) NoSuffix)

  -- a[b](c) is one node; its parts are the atom, the index and the arguments, which are a node above c
  suffixes_are_no_nodes : expr_walk role.Statement (Node at (Applied (name 0) suffixes)) ≡ Branch (Expression role.Statement at (Applied (name 0) suffixes)) (Part (named role.Inner 0) (Part (Group (Part (named role.Inner 1) End)) (Part (Group (Part (Branch (Arguing arguments) (Part (named role.Inner 2) End)) End)) End)))
  suffixes_are_no_nodes = refl

  -- what stands in parentheses is what they are
  in_parentheses : expr_walk role.Statement (Node at (Paren (name 0))) ≡ Branch (Expression role.Statement at (Paren (name 0))) (Part (named role.Statement 0) End)
  in_parentheses = refl
