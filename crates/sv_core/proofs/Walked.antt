-- A walk over a part of the text adds its checks, and walks over lists go on at their ends.
use Rattle.std.proofs.Common.{◌≡◌, ◌∙◌, ◌++◌, ℕ, List, [], ◌∷◌, Option, Some, None, refl, sym, ap, append_assoc, append-nil, map, take, get_or, ◌<◌, ◌≤◌, ◌+◌, length, slice_get}
use Rattle.std.proofs.lemmas.List.{map_push, take_more, take_all}
use Rattle.sv_text.specs.declared.place.Place.{Place}
use Rattle.sv_core.specs.declared.label.Label.{Label}
use Rattle.sv_core.specs.declared.label.FuncId.{FuncId}
use Rattle.sv_core.specs.declared.label.FuncId.TheVariants.{Constructor, Function, Gift}
use Rattle.sv_core.specs.declared.tally.Tally.{Tally}
use Rattle.sv_core.specs.declared.tally.Callee.{Callee}
use Rattle.sv_core.specs.declared.contract.ModUse.{ModUse}
use Rattle.sv_core.specs.declared.contract.BaseArgs.{BaseArgs}
use Rattle.sv_core.specs.declared.contract.CtorInfo.{CtorInfo}
use Rattle.sv_core.specs.declared.contract.FuncInfo.{FuncInfo}
use Rattle.sv_core.specs.PlainCode as code
use Rattle.sv_core.specs.PlainCode.{Expr, Kind, Exprs, Maybe, Stmt, Act, Stmts, Arms, OneArm, exprs, stmts, arms, plain_expr, plain_stat, plain_arm}
use Rattle.sv_core.specs.declared.expr.CExpr.{CExpr}
use Rattle.sv_core.specs.declared.stat.Stat.{Stat}
use Rattle.sv_core.specs.declared.stat.Arm.{Arm as CodeArm}
use Rattle.sv_core.specs.PlainCore.{Contract, Use, Given, plain_use, plain_given, plain_ctor, plain_func}
use Rattle.sv_core.specs.PlainCore as plain
use Rattle.sv_core.specs.Checks.{expr_checks, kind_checks, all_checks, maybe_checks, stmt_checks, act_checks, body_checks, arms_checks, call_checks, outside_checks, assert_check, loop_checks, uses_checks, modifier_checks, function_checks, ends_checks, given_checks, ctors_checks, callee_of, tally_of, checks_of, invariants_at_end}
use Rattle.sv_core.specs.CheckWalk.{after_expr, after_kind, after_all, after_maybe, after_stmt, after_act, after_body, after_arm, after_arms, after_modifier, after_uses, after_text, after_function, after_given, after_ctors, after_checks}

-- one part after another
two : {A : Type 0} (found x y : List A) {a b : List A} → a ≡ found ++ x → b ≡ a ++ y → b ≡ found ++ (x ++ y)
two found x y h k = k ∙ ap (λ l. l ++ y) h ∙ append_assoc found x y

three : {A : Type 0} (found x y z : List A) {a b c : List A} → a ≡ found ++ x → b ≡ a ++ y → c ≡ b ++ z → c ≡ found ++ (x ++ y ++ z)
three found x y z h k m = two found (x ++ y) z (two found x y h k) m

four : {A : Type 0} (found w x y z : List A) {a b c d : List A} → a ≡ found ++ w → b ≡ a ++ x → c ≡ b ++ y → d ≡ c ++ z → d ≡ found ++ (w ++ x ++ y ++ z)
four found w x y z h k m n = two found (w ++ x ++ y) z (three found w x y h k m) n

nothing : {A : Type 0} (found : List A) → found ≡ found ++ []
nothing found = sym (append-nil found)

mutual
  pub walked_expr : (t : Tally) (e : Expr) (found : List Label) → after_expr t e found ≡ found ++ expr_checks t e
  walked_expr t (code.Node place type kind) found = walked_kind t place kind found

  pub walked_kind : (t : Tally) (place : Place) (kind : Kind) (found : List Label) → after_kind t place kind found ≡ found ++ kind_checks t place kind
  walked_kind t place (code.Field a k) found = walked_expr t a found
  walked_kind t place (code.Index a i) found = two found (expr_checks t a) (expr_checks t i) (walked_expr t a found) (walked_expr t i _)
  walked_kind t place (code.Length a) found = walked_expr t a found
  walked_kind t place (code.Unary op a) found = walked_expr t a found
  walked_kind t place (code.Binary op a b) found = two found (expr_checks t a) (expr_checks t b) (walked_expr t a found) (walked_expr t b _)
  walked_kind t place (code.Cond c a b) found = three found (expr_checks t c) (expr_checks t a) (expr_checks t b) (walked_expr t c found) (walked_expr t a _) (walked_expr t b _)
  walked_kind t place (code.Convert a) found = walked_expr t a found
  walked_kind t place (code.Call f args) found = two found (call_checks t place f) (all_checks t args) refl (walked_all t args _)
  walked_kind t place (code.Outside how target value args results) found =
      four found (outside_checks t place) (expr_checks t target) (maybe_checks t value) (all_checks t args) refl (walked_expr t target _) (walked_maybe t value _) (walked_all t args _)
  walked_kind t place (code.Push a value) found = two found (expr_checks t a) (maybe_checks t value) (walked_expr t a found) (walked_maybe t value _)
  walked_kind t place (code.Pop a) found = walked_expr t a found
  walked_kind t place (code.Make fields) found = walked_all t fields found
  walked_kind t place (code.NewArray n) found = walked_expr t n found
  walked_kind t place (code.Copy to a) found = walked_expr t a found
  walked_kind t place (code.Old a) found = walked_expr t a found
  walked_kind t place _ found = nothing found

  pub walked_all : (t : Tally) (es : Exprs) (found : List Label) → after_all t es found ≡ found ++ all_checks t es
  walked_all t code.Nil found = nothing found
  walked_all t (code.Cons e es) found = two found (expr_checks t e) (all_checks t es) (walked_expr t e found) (walked_all t es _)

  pub walked_maybe : (t : Tally) (e : Maybe) (found : List Label) → after_maybe t e found ≡ found ++ maybe_checks t e
  walked_maybe t code.Nothing found = nothing found
  walked_maybe t (code.Just e) found = walked_expr t e found

mutual
  pub walked_stmt : (t : Tally) (s : Stmt) (found : List Label) → after_stmt t s found ≡ found ++ stmt_checks t s
  walked_stmt t (code.Numbered n place act) found = walked_act t place act found

  pub walked_act : (t : Tally) (place : Place) (act : Act) (found : List Label) → after_act t place act found ≡ found ++ act_checks t place act
  walked_act t place (code.Set a e) found = two found (expr_checks t a) (expr_checks t e) (walked_expr t a found) (walked_expr t e _)
  walked_act t place (code.Update a op e) found = two found (expr_checks t a) (expr_checks t e) (walked_expr t a found) (walked_expr t e _)
  walked_act t place (code.Delete a) found = walked_expr t a found
  walked_act t place (code.Do e) found = walked_expr t e found
  walked_act t place (code.Many slots e) found = walked_expr t e found
  walked_act t place (code.If list otherwise) found = two found (arms_checks t list) (body_checks t otherwise) (walked_arms t list found) (walked_body t otherwise _)
  walked_act t place (code.Loop notes test body update) found =
      four found (loop_checks t place (length notes)) (expr_checks t test) (body_checks t body) (body_checks t update) refl (walked_expr t test _) (walked_body t body _) (walked_body t update _)
  walked_act t place (code.Return values) found = walked_all t (exprs values) found
  walked_act t place (code.Require e) found = walked_expr t e found
  walked_act t place (code.Assert e) found = two found (assert_check t place) (expr_checks t e) refl (walked_expr t e _)
  walked_act t place (code.Revert values) found = walked_all t (exprs values) found
  walked_act t place (code.Emit values) found = walked_all t (exprs values) found
  walked_act t place (code.Frame body) found = walked_body t body found
  walked_act t place _ found = nothing found

  pub walked_body : (t : Tally) (body : Stmts) (found : List Label) → after_body t body found ≡ found ++ body_checks t body
  walked_body t code.Done found = nothing found
  walked_body t (code.Then s ss) found = two found (stmt_checks t s) (body_checks t ss) (walked_stmt t s found) (walked_body t ss _)

  pub walked_arms : (t : Tally) (list : Arms) (found : List Label) → after_arms t list found ≡ found ++ arms_checks t list
  walked_arms t code.NoArm found = nothing found
  walked_arms t (code.Arm test body more) found = three found (expr_checks t test) (body_checks t body) (arms_checks t more) (walked_expr t test found) (walked_body t body _) (walked_arms t more _)

walked_modifier : (t : Tally) (m : Option plain.Modifier) (found : List Label) → after_modifier t m found ≡ found ++ modifier_checks t m
walked_modifier t (Some m) found = walked_body t m.body found
walked_modifier t None found = nothing found

walked_uses : (t : Tally) (mods : List plain.Modifier) (us : List Use) (found : List Label) → after_uses t mods us found ≡ found ++ uses_checks t mods us
walked_uses t mods [] found = nothing found
walked_uses t mods (u ∷ us) found =
    three found (all_checks t (exprs u.args)) (modifier_checks t (slice_get mods u.which)) (uses_checks t mods us)
    (walked_all t (exprs u.args) found) (walked_modifier t (slice_get mods u.which) _) (walked_uses t mods us _)

walked_text : (t : Tally) (mods : List plain.Modifier) (f : plain.Function) (found : List Label) → after_text t mods f found ≡ found ++ function_checks t mods (Some f)
walked_text t mods f found =
    three found (uses_checks t mods f.uses) (body_checks t f.body) (ends_checks t f) (walked_uses t mods f.uses found) (walked_body t f.body _) refl

walked_function : (t : Tally) (mods : List plain.Modifier) (f : Option plain.Function) (found : List Label) → after_function t mods f found ≡ found ++ function_checks t mods f
walked_function t mods (Some f) found = walked_text t mods f found
walked_function t mods None found = nothing found

walked_given : (t : Tally) (gs : List Given) (found : List Label) → after_given t gs found ≡ found ++ given_checks t gs
walked_given t [] found = nothing found
walked_given t (g ∷ gs) found = two found (all_checks t (exprs g.args)) (given_checks t gs) (walked_all t (exprs g.args) found) (walked_given t gs _)

pub walked_ctors : (t : Tally) (ks : List plain.Constructor) (found : List Label) → after_ctors t ks found ≡ found ++ ctors_checks t ks
walked_ctors t [] found = nothing found
walked_ctors t (k ∷ ks) found =
    three found (given_checks t k.base_args) (body_checks t k.body) (ctors_checks t ks) (walked_given t k.base_args found) (walked_body t k.body _) (walked_ctors t ks _)

walked_checks : (c : Contract) (f : FuncId) → after_checks (tally_of c) c f [] ≡ checks_of c f
walked_checks c Constructor = ap (λ l. l ++ invariants_at_end (tally_of c)) (walked_ctors (tally_of c) c.ctors [])
walked_checks c (Function k) = walked_function (tally_of c) c.mods (slice_get c.funcs k) []
walked_checks c Gift = refl

pub checked : (c : Contract) (f : FuncId) (t : Tally) (none found : List Label) → t ≡ tally_of c → none ≡ [] → found ≡ after_checks t c f none → found ≡ checks_of c f
checked c f t none found of_c empty h = h ∙ ap (λ x. after_checks x c f none) of_c ∙ ap (after_checks (tally_of c) c f) empty ∙ walked_checks c f

-- ---- a walk over a list goes on at its end

pub all_more : (t : Tally) (es : List Expr) (e : Expr) (found : List Label) → after_all t (exprs (es ++ e ∷ [])) found ≡ after_expr t e (after_all t (exprs es) found)
all_more t [] e found = refl
all_more t (x ∷ es) e found = all_more t es e (after_expr t x found)

pub body_more : (t : Tally) (ss : List Stmt) (s : Stmt) (found : List Label) → after_body t (stmts (ss ++ s ∷ [])) found ≡ after_stmt t s (after_body t (stmts ss) found)
body_more t [] s found = refl
body_more t (x ∷ ss) s found = body_more t ss s (after_stmt t x found)

pub arms_more : (t : Tally) (as' : List OneArm) (a : OneArm) (found : List Label) → after_arms t (arms (as' ++ a ∷ [])) found ≡ after_body t a.body (after_expr t a.test (after_arms t (arms as') found))
arms_more t [] a found = refl
arms_more t (x ∷ as') a found = arms_more t as' a (after_body t x.body (after_expr t x.test found))

pub uses_more : (t : Tally) (mods : List plain.Modifier) (us : List Use) (u : Use) (found : List Label) → after_uses t mods (us ++ u ∷ []) found ≡ after_modifier t (slice_get mods u.which) (after_all t (exprs u.args) (after_uses t mods us found))
uses_more t mods [] u found = refl
uses_more t mods (x ∷ us) u found = uses_more t mods us u _

pub given_more : (t : Tally) (gs : List Given) (g : Given) (found : List Label) → after_given t (gs ++ g ∷ []) found ≡ after_all t (exprs g.args) (after_given t gs found)
given_more t [] g found = refl
given_more t (x ∷ gs) g found = given_more t gs g _

pub ctors_more : (t : Tally) (ks : List plain.Constructor) (k : plain.Constructor) (found : List Label) → after_ctors t (ks ++ k ∷ []) found ≡ after_body t k.body (after_given t k.base_args (after_ctors t ks found))
ctors_more t [] k found = refl
ctors_more t (x ∷ ks) k found = ctors_more t ks k _

-- ---- loops: what a walk over a list adds at its next item

module _ {X Y S : Type 0} (f : X → Y) (after : List Y → S → S) (step : Y → S → S) (more : (ys : List Y) (y : Y) (s : S) → after (ys ++ y ∷ []) s ≡ step y (after ys s)) where
  pub walk_on : (xs : List X) (i : ℕ) (x : X) (s before now : S) → i < length xs → x ≡ get_or xs i x → before ≡ after (map f (take i xs)) s → now ≡ step (f x) before → now ≡ after (map f (take (i + 1) xs)) s
  walk_on xs i x s before now within is h k =
      k ∙ ap (step (f x)) h ∙ sym (more (map f (take i xs)) (f x) s) ∙ ap (λ l. after l s) (sym (map_push f (take i xs) x) ∙ ap (map f) (sym (take_more xs i x within ∙ ap (λ z. take i xs ++ z ∷ []) (sym is))))

-- ---- the same, for each list that is walked

pub all_next : (t : Tally) (found : List Label) (xs : List CExpr) (i : ℕ) (x : CExpr) (before now : List Label) → i < length xs → x ≡ get_or xs i x → before ≡ after_all t (exprs (map plain_expr (take i xs))) found → now ≡ after_expr t (plain_expr x) before → now ≡ after_all t (exprs (map plain_expr (take (i + 1) xs))) found
all_next t found xs i x before now = walk_on plain_expr (λ es. after_all t (exprs es)) (after_expr t) (all_more t) xs i x found before now

pub body_next : (t : Tally) (found : List Label) (xs : List Stat) (i : ℕ) (x : Stat) (before now : List Label) → i < length xs → x ≡ get_or xs i x → before ≡ after_body t (stmts (map plain_stat (take i xs))) found → now ≡ after_stmt t (plain_stat x) before → now ≡ after_body t (stmts (map plain_stat (take (i + 1) xs))) found
body_next t found xs i x before now = walk_on plain_stat (λ ss. after_body t (stmts ss)) (after_stmt t) (body_more t) xs i x found before now

pub arms_next : (t : Tally) (found : List Label) (xs : List CodeArm) (i : ℕ) (x : CodeArm) (before now : List Label) → i < length xs → x ≡ get_or xs i x → before ≡ after_arms t (arms (map plain_arm (take i xs))) found → now ≡ after_arm t (plain_arm x) before → now ≡ after_arms t (arms (map plain_arm (take (i + 1) xs))) found
arms_next t found xs i x before now = walk_on plain_arm (λ as'. after_arms t (arms as')) (after_arm t) (arms_more t) xs i x found before now

pub uses_next : (t : Tally) (mods : List plain.Modifier) (found : List Label) (xs : List ModUse) (i : ℕ) (x : ModUse) (before middle now : List Label) → i < length xs → x ≡ get_or xs i x → before ≡ after_uses t mods (map plain_use (take i xs)) found → middle ≡ after_all t (exprs (map plain_expr x.args)) before → now ≡ after_modifier t (slice_get mods x.which) middle → now ≡ after_uses t mods (map plain_use (take (i + 1) xs)) found
uses_next t mods found xs i x before middle now within is h k m = walk_on plain_use (after_uses t mods) (λ u f. after_modifier t (slice_get mods u.which) (after_all t (exprs u.args) f)) (uses_more t mods) xs i x found before now within is h (m ∙ ap (after_modifier t (slice_get mods x.which)) k)

pub given_next : (t : Tally) (found : List Label) (xs : List BaseArgs) (i : ℕ) (x : BaseArgs) (before now : List Label) → i < length xs → x ≡ get_or xs i x → before ≡ after_given t (map plain_given (take i xs)) found → now ≡ after_all t (exprs (map plain_expr x.args)) before → now ≡ after_given t (map plain_given (take (i + 1) xs)) found
given_next t found xs i x before now within is h k = walk_on plain_given (after_given t) (λ g f. after_all t (exprs g.args) f) (given_more t) xs i x found before now within is h k

pub ctors_next : (t : Tally) (found : List Label) (xs : List CtorInfo) (i : ℕ) (x : CtorInfo) (before middle now : List Label) → i < length xs → x ≡ get_or xs i x → before ≡ after_ctors t (map plain_ctor (take i xs)) found → middle ≡ after_given t (map plain_given x.base_args) before → now ≡ after_body t (stmts (map plain_stat x.body)) middle → now ≡ after_ctors t (map plain_ctor (take (i + 1) xs)) found
ctors_next t found xs i x before middle now within is h k m = walk_on plain_ctor (after_ctors t) (λ p f. after_body t p.body (after_given t p.base_args f)) (ctors_more t) xs i x found before now within is h (m ∙ ap (after_body t (stmts (map plain_stat x.body))) k)

pub tallied_next : (xs : List FuncInfo) (i : ℕ) (x : FuncInfo) (before now : List Callee) → i < length xs → x ≡ get_or xs i x → before ≡ map callee_of (map plain_func (take i xs)) → now ≡ before ++ callee_of (plain_func x) ∷ [] → now ≡ map callee_of (map plain_func (take (i + 1) xs))
tallied_next xs i x before now within is h k = walk_on plain_func (λ fs s. map callee_of fs) (λ f s. s ++ callee_of f ∷ []) (λ fs f s. map_push callee_of fs f) xs i x [] before now within is h k

-- the end of a loop over a list
pub done_at : {X S : Type 0} (f : List X → S) (xs ys : List X) (i : ℕ) (now : S) → ys ≡ xs → length ys ≤ i → now ≡ f (take i ys) → now ≡ f xs
done_at f xs ys i now is end h = h ∙ ap f (take_all i ys end ∙ is)

-- for the loops of the walks
pub ruleset walks = (all_next, body_next, arms_next, uses_next, given_next, ctors_next, tallied_next)
