-- A text of numbers, worked out by hand: a node is broken where it is even, and the least number counts.
use Rattle.std.proofs.Common.{ℕ, zero, suc, ◌≡◌, Bool, true, not, Some, None, [], ◌∷◌, refl}
use Rattle.std.specs.Prelude.{nat_le}
use Rattle.sv_book.specs.Walks.{Node, Group, End, Part}
use Rattle.sv_book.specs.Books.{Book}
use Rattle.sv_book.specs.Visits.{visit, begun}

abbrev even : ℕ → Bool
even zero = true
even (suc n) = not (even n)

abbrev numbers : Book (Unit {0}) ℕ (Unit {0}) ℕ
numbers = record {
  within = λ c s. c;
  past = λ c s. c;
  table = record {
    rules = record {} ∷ [];
    breaks = λ k s. even s.site;
    fault = λ k s. s.site;
    first = nat_le;
  };
}

-- 2 is hidden by its part 8, and 4 stands beside
hidden : (visit numbers (Node 2 (Part (Node 8 End) (Part (Node 5 (Part (Node 4 End) End)) End))) (begun (record {}))).least ≡ Some 4
hidden = refl

alone : (visit numbers (Node 2 (Part (Node 7 End) End)) (begun (record {}))).least ≡ Some 2
alone = refl

nothing : (visit numbers (Node 3 (Part (Node 7 End) (Part (Group (Part (Node 1 End) End)) End))) (begun (record {}))).least ≡ None
nothing = refl
