use Rattle.std.proofs.Common.{length, codes, Contains, ◌-◌, ◌==◌, sym, ap, ◌∙◌, subst, arith, refl}
use Rattle.std.proofs.lemmas.Bool.{true≢false, eqb-true}
use Rattle.std.proofs.lemmas.List.{nil_from_length}
use Rattle.sv_lex.specs.Bytes.{is_blank}
use Rattle.sv_lex.specs.Tokens.{annotation_words}
use Rattle.sv_lex.proofs.PieceLaws.{byte_of}
use Rattle.sv_lex.proofs.NoteLemmas.{IsCut, parts_are_one, no_notice, behind_prefix, opens_as}
use Rattle.sv_lex.proofs.documentation.split_opening.Goals as goal
use Rattle.sv_lex.proofs.documentation.split_opening.Goals.{After-split_run-2, then-is_empty-via-then-is_empty, then-is_empty-via-else-is_empty+then-not-is_annotation_word, then-is_empty-via-else-is_empty+else-not-is_annotation_word+then-not-has}

cut_at : (c : After-split_run-2) → IsCut c.skip_lead-more.result.now c.split_run.result.0.now c.split_run-2.result.0.now c.split_run-2.result.1.now
cut_at c = record {
  behind = c.in_ok-more.more.now;
  behind_blanks = c.split_run.result.1.now;
  spelled = behind_prefix (codes "@notice") c.skip_lead-more.result.now c.in_ok-more.more.now 7 c.in_ok-more.ensures.cases.0 c.in_ok-more.ensures.cases.1;
  first = c.split_run.ensures.spelled;
  second = c.split_run-2.ensures.spelled;
  blanks = c.split_run.ensures.run;
  letters = c.split_run-2.ensures.run;
  blanks_stop = c.split_run.ensures.stop;
  letters_stop = c.split_run-2.ensures.stop;
}

pub returns-in_err-more-clause-none : goal.returns-in_err-more-clause-none
returns-in_err-more-clause-none c =
    rw c.from_residual.ensures (λ o opens.
    no_notice c.args.is_starred c.args.line.now c.skip_lead-more.result.now o c.skip_lead-more.ensures c.in_err-more.ensures.cases opens)

pub returns-in_err-blank-clause-none : goal.returns-in_err-blank-clause-none
returns-in_err-blank-clause-none c =
    rw c.from_residual-in_err-blank.ensures (λ o opens.
    let parts = parts_are_one c.args.is_starred c.args.line.now c.skip_lead-more.result.now _ _ _ o c.skip_lead-more.ensures
    (cut_at (goal.at.returns-in_err-blank-clause-none c).After-split_run-2) opens in
    omega (arith, c.in_err-blank.ensures.cases, ap length parts.2))

pub returns-then-is_empty-clause-none : goal.returns-then-is_empty-clause-none
returns-then-is_empty-clause-none c = λ o opens.
    let parts = parts_are_one c.args.is_starred c.args.line.now c.skip_lead-more.result.now _ _ _ o c.skip_lead-more.ensures
    (cut_at (goal.at.returns-then-is_empty-clause-none c).After-split_run-2) opens in
    elim c.then-is_empty.branch [
      | then-is_empty-via-then-is_empty w ↦ opens.between_is.1 (sym parts.0 ∙ nil_from_length _ (eqb-true _ 0 (sym w.if-is_empty.ensures)))
      | then-is_empty-via-else-is_empty+then-not-is_annotation_word w ↦ true≢false (sym (w.if-not-is_annotation_word.ensures.1 (subst (Contains annotation_words) (sym parts.1) opens.word_is)))
      | then-is_empty-via-else-is_empty+else-not-is_annotation_word+then-not-has w ↦
          let same = byte_of c.in_ok-blank.blank.now o.blank c.in_ok-blank.content.now o.content (sym c.in_ok-blank.ensures.cases.0 ∙ parts.2) in
          true≢false (sym (w.if-not-has.ensures ∙ ap is_blank same ∙ opens.blank_is))
    ]

pub returns-clause-some : goal.returns-clause-some
unfolding cut_at
returns-clause-some c =
    opens_as c.args.is_starred c.args.line.now c.skip_lead-more.result.now c.split_run.result.0.now c.split_run-2.result.1.now c.in_ok-blank.blank.now
    record { before = length c.args.line.now - length c.split_run.result.1.now; word = c.split_run-2.result.0; content = c.in_ok-blank.content }
    c.skip_lead-more.ensures (cut_at (goal.at.returns-clause-some c).After-split_run-2) c.in_ok-blank.ensures.cases.0
    (λ none. true≢false (sym (c.if-is_empty.ensures ∙ ap (λ l. length l == 0) none)))
    (c.if-not-is_annotation_word.ensures.0 refl) (sym c.if-not-has.ensures) refl
