use Rattle.std.proofs.Common.{◌≡◌, Bool, ℕ, List, sym, ◌∙◌, ap, ap₂, if◌then◌else◌}
use Rattle.sv_ast.specs.declared.class.Class.{Class}
use Rattle.sv_ast.specs.declared.class.Class.TheVariants.{Elementary, Other, Id}
use Rattle.sv_ast.specs.Terminals.{Spelling, words}
use Rattle.sv_ast.specs.Classes.{class_of_word, class_in, is_one_of, elementary_names, reserved_words}
use Rattle.sv_ast.proofs.class.class_of_word.Goals as goal

-- the class of a word that the grammar does not have
abbrev class_otherwise : Bool → Bool → Class
class_otherwise is_elementary is_reserved = if is_elementary then Elementary else (if is_reserved then Other else Id)

abbrev otherwise : List ℕ → Class
otherwise text = class_otherwise (is_one_of elementary_names text) (is_one_of reserved_words text)

-- by the rows of the code, which are those of the definitions
by_rows : {rows : List Spelling} (text : List ℕ) {c : Class} → rows ≡ words → class_in rows text (otherwise text) ≡ c → class_of_word text ≡ c
unfolding class_of_word
by_rows t e h = ap (λ rows. class_in rows t (otherwise t)) (sym e) ∙ h

pub returns-in-Some : goal.returns-in-Some
returns-in-Some c = sym (by_rows _ c.word_rows.ensures (c.in-Some.ensures (otherwise c.args.text.now)))

pub returns-in-None : goal.returns-in-None
returns-in-None c =
    let text = c.args.text.now in
    sym (by_rows _ c.word_rows.ensures (c.in-None.ensures (otherwise text)) ∙ ap (λ b. class_otherwise b (is_one_of reserved_words text)) (sym c.is_elementary.ensures ∙ c.if-is_elementary.true))

pub returns-in-None-2 : goal.returns-in-None-2
returns-in-None-2 c =
    sym (by_rows _ c.word_rows.ensures (c.in-None.ensures (otherwise c.args.text.now))
    ∙ ap₂ class_otherwise (sym c.is_elementary.ensures ∙ c.if-is_elementary.false) (sym c.is_reserved.ensures ∙ c.if-is_reserved.true))

pub returns-in-None-3 : goal.returns-in-None-3
returns-in-None-3 c =
    sym (by_rows _ c.word_rows.ensures (c.in-None.ensures (otherwise c.args.text.now))
    ∙ ap₂ class_otherwise (sym c.is_elementary.ensures ∙ c.if-is_elementary.false) (sym c.is_reserved.ensures ∙ c.if-is_reserved.false))
