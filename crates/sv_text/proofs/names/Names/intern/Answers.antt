use Rattle.std.proofs.Common.{◌≢◌, ◌≡◌, ℕ, ◌+◌, [], ◌∷◌, ◌++◌, map, slice_get, Contains, length, sym, ap, ◌∙◌, subst, arith, Vec, Global}
use Rattle.std.specs.List.{AllPairs}
use Rattle.std.proofs.lemmas.List.{length-map, length_push}
use Rattle.sv_text.proofs.Texts.{pushed, slice_get-push, distinct-push}
use Rattle.sv_text.proofs.names.Names.intern.Goals as goal

-- the set after the text went last
pushed_here : (c : goal.In_ok-insert_full) → map (λ t. t.items) c.insert_full.new.self.keys ≡ c.args.self.now ++ c.args.text.now ∷ []
pushed_here c =
    pushed (λ (t : Vec ℕ Global). t.items) c.args.text.now c.in_ok-copy.copy c.self.inside.texts.keys c.insert_full.new.self.keys
    (subst (λ l. Contains l c.args.text.now → ⊥) (sym c.self.view_is) c.in_default.ensures.none) c.in_ok-insert_full.ensures.keys c.in_ok-copy.ensures.items
    ∙ ap (λ l. l ++ c.args.text.now ∷ []) c.self.view_is

-- the new name is the length of the old list
position_here : (c : goal.In_ok-insert_full) → c.len-position.result ≡ length c.args.self.now
position_here c = c.len-position.ensures.len ∙ sym (length-map _ _) ∙ ap length c.self.view_is

pub returns-clause-named : goal.returns-clause-named
returns-clause-named c =
    ap (λ l. slice_get l c.len-position.result) (pushed_here c) ∙ ap (λ n. slice_get (c.args.self.now ++ c.args.text.now ∷ []) n) (position_here c)
    ∙ slice_get-push c.args.self.now c.args.text.now

pub returns-clause-within : goal.returns-clause-within
returns-clause-within c =
    let longer : length (map (λ t. t.items) c.insert_full.new.self.keys) ≡ length c.args.self.now + 1 = ap length (pushed_here c) ∙ length_push c.args.self.now c.args.text.now in
    let at = position_here c in
    omega arith

pub returns-clause-new : goal.returns-clause-new
returns-clause-new c = λ absent. pushed_here c

pub invariant_of-self-2 : goal.invariant_of-self-2
invariant_of-self-2 c =
    let longer : length c.insert_full.new.self.keys ≡ length c.args.self.now + 1 =
    sym (length-map _ _) ∙ ap length (pushed_here c) ∙ length_push c.args.self.now c.args.text.now in
    let room = c.requires in (
      subst (AllPairs (λ x y. x ≢ y)) (sym (pushed_here c))
          (distinct-push c.args.self.now c.args.text.now
          (subst (AllPairs (λ x y. x ≢ y)) c.self.view_is c.self.invariant.0)
          c.in_default.ensures.none),
      omega arith,
    )
