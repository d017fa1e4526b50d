-- Believed: the tree of a part that stands any number of times, from the trees of each. Hold it against `nil_is` and `cons_is` of `Derives`.
use Rattle.std.specs.Prelude.{List, [], ◌∷◌}
use Rattle.sv_grammar.specs.Grammar.{Tree, nil, cons}

-- the trees of several parts in a row, and then a tree
abbrev pub append_trees : List Tree → Tree → Tree
append_trees [] t = t
append_trees (x ∷ xs) t = cons x (append_trees xs t)

-- the trees of several parts in a row
abbrev pub list_tree : List Tree → Tree
list_tree xs = append_trees xs nil
