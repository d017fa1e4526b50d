-- Serves the proof: terms in which each variable is replaced by a term.
use Rattle.std.specs.Prelude.{false, List, slice_index_or}
use Rattle.sv_term.specs.Terms.{Shape, VarNode, Term, App, Terms, End, More, Truth}

abbrev pub at_node : Shape → Terms → List Term → Term
at_node (VarNode n s) ts env = slice_index_or env n (Truth false)
at_node x ts env = App x ts

abbrev mutual
  pub replaced : Term → List Term → Term
  replaced (App x ts) env = at_node x (all_replaced ts env) env

  pub all_replaced : Terms → List Term → Terms
  all_replaced End env = End
  all_replaced (More t ts) env = More (replaced t env) (all_replaced ts env)
