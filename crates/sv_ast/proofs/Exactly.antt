-- What is read is the longest beginning of a list that the side derives, and a list has one tree.
use Rattle.std.proofs.Common.{List, refl}
use Rattle.sv_grammar.specs.Grammar.{Token, side}
use Rattle.sv_grammar.specs.Reading.{Outcome, Exact, Reads, AllDistinct}
use Rattle.sv_grammar.proofs.Checks.{reads_exactly}
use Rattle.sv_grammar.proofs.InStep.{all_distinct_in_step}
use Rattle.sv_grammar.proofs.Trees.{one_tree, same_tree}
use Rattle.sv_ast.specs.Syntax.{Side, rules}
use Rattle.sv_ast.specs.Syntax as g
use Rattle.sv_ast.specs.Firsts.{nulls, firsts}
use Rattle.sv_ast.specs.GrammarLaws.{TreeIsOne, NotesAreOne}
use Rattle.sv_ast.proofs.Tables.{conts, all_chars, rounds, checked, number, sides, numbered}
use Rattle.sv_ast.proofs.Apart.{apart, right_tables}

pub exactly : (s : Side) (ts : List Token) (o : Outcome) → Reads rules nulls firsts (side s) ts o → Exact rules (side s) ts o
exactly s ts o r = reads_exactly rules nulls firsts conts all_chars rounds checked apart s ts o r

-- no list is derived by both alternatives of a `both`
distinct : (s : Side) → AllDistinct rules (rules s)
distinct g.unit = all_distinct_in_step rules nulls firsts conts all_chars rounds checked apart number sides numbered 120 (rules g.unit) refl
distinct g.part = all_distinct_in_step rules nulls firsts conts all_chars rounds checked apart number sides numbered 120 (rules g.part) refl
distinct g.stmt = all_distinct_in_step rules nulls firsts conts all_chars rounds checked apart number sides numbered 120 (rules g.stmt) refl
distinct g.for = all_distinct_in_step rules nulls firsts conts all_chars rounds checked apart number sides numbered 120 (rules g.for) refl
distinct g.simple = all_distinct_in_step rules nulls firsts conts all_chars rounds checked apart number sides numbered 120 (rules g.simple) refl
distinct g.return = all_distinct_in_step rules nulls firsts conts all_chars rounds checked apart number sides numbered 120 (rules g.return) refl
distinct g.slot = all_distinct_in_step rules nulls firsts conts all_chars rounds checked apart number sides numbered 120 (rules g.slot) refl
distinct g.post = all_distinct_in_step rules nulls firsts conts all_chars rounds checked apart number sides numbered 120 (rules g.post) refl
distinct g.longer_type = all_distinct_in_step rules nulls firsts conts all_chars rounds checked apart number sides numbered 120 (rules g.longer_type) refl
distinct _ = tt

pub tree_is_one : TreeIsOne
tree_is_one s tokens t u = one_tree rules nulls firsts conts all_chars rounds checked apart distinct

pub notes_are_one : NotesAreOne
notes_are_one tokens t u d k = same_tree right_tables apart distinct d k refl refl tt tt
