-- Documentation lines, and the parts of those that are annotation lines.
use Rattle.std.proofs.Common.{◌≡◌, ◌≢◌, ◌==◌, ℕ, ◌-◌, Bool, true, false, not, if◌then◌else◌, List, [], ◌∷◌, ◌++◌, Contains, codes, length, take, drop, nat_eq, refl, sym, ap, ap₂, ◌∙◌, subst, arith, inl, inr, true≢false, append_assoc, length-append, append-nil}
use Rattle.std.specs.Cmp.Lexicographic.{pointwise, same_text}
use Rattle.std.specs.List.{AllPass, list_all, starts_with}
use Rattle.std.proofs.lemmas.Bool.{or_cases, eqb-true, not-true}
use Rattle.std.proofs.lemmas.List.{append_cancel_left, take-append-drop}
use Rattle.std.proofs.lemmas.List.Elements.{All-append, All-contains, All-head, All-tail, All-nil}
use Rattle.std.proofs.lemmas.List.Sums.{AllPass-from_list_all}
use Rattle.sv_lex.specs.Annotations.{IsLeadOf, IsNote, OpensAs}
use Rattle.sv_lex.specs.Bytes.{is_blank, is_newline, is_star, continues_word, DoesNotBegin}
use Rattle.sv_lex.specs.Pieces.{IsOneLine, line_comment, block_comment}
use Rattle.sv_lex.specs.Tokens.{begins_with_slash, line_documentation, block_documentation, lines_of, put_before, annotation_words, Opening, Opens}
use Rattle.sv_lex.specs.declared.documentation.Opening.{Opening as Found}
use Rattle.sv_lex.proofs.PieceLaws.{split_once}
use Rattle.sv_lex.proofs.NoteLaws.{opening_is_laid}

-- ---- what is dropped before the text of a line

star_is_unblank : (b : ℕ) → is_star b ≡ true → is_blank b ≡ false
star_is_unblank b star = subst (λ b. is_blank b ≡ false) (sym (eqb-true b 42 star)) refl

by_blank : (P : ℕ → Type 0) → P 32 → P 9 → (b : ℕ) → is_blank b ≡ true → P b
by_blank P space tab b blank = elim (or_cases (b == 32) (b == 9) blank) [
  | inl is ↦ subst P (sym (eqb-true b 32 is)) space
  | inr is ↦ subst P (sym (eqb-true b 9 is)) tab
]

no_star_behind : (after more : List ℕ) → AllPass is_blank after → DoesNotBegin is_star (after ++ 64 ∷ more)
no_star_behind [] more blanks = refl
no_star_behind (b ∷ bs) more blanks = by_blank (λ b. is_star b ≡ false) refl refl b (All-head (λ b. is_blank b ≡ true) b bs blanks)

-- the blanks that a line begins with
pub lead_of_blanks : (line lead rest : List ℕ) → line ≡ lead ++ rest → AllPass is_blank lead → DoesNotBegin is_blank rest → IsLeadOf false line rest
lead_of_blanks line lead rest spelled blanks stops = record {
  lead = lead;
  spelled = spelled;
  lead_is = record {
    before = lead;
    stars = [];
    after = [];
    spelled = sym (append-nil (lead ++ []) ∙ append-nil lead);
    blanks = (blanks, All-nil (λ b. is_blank b ≡ true));
    are_stars = All-nil (λ b. is_star b ≡ true);
    none = λ _. refl;
  };
  only = λ other more is cut.
      let all_blank : AllPass is_blank other =
      subst (AllPass is_blank) (sym (is.spelled ∙ ap (λ s. is.before ++ s ++ is.after) (is.none refl) ∙ ap (λ l. l ++ is.after) (append-nil is.before)))
      (All-append (λ b. is_blank b ≡ true) is.before is.after is.blanks.0 is.blanks.1) in
      let same = split_once is_blank other lead (64 ∷ more) rest all_blank blanks refl stops (sym cut ∙ spelled) in
      (same.0, sym same.1);
}

-- blanks, stars and blanks that a text begins with, each as many as stand there
record Runs (text blanks stars more_blanks rest : List ℕ) : Type 0 where
  rest_behind_blanks : List ℕ
  rest_behind_stars : List ℕ
  first : text ≡ blanks ++ rest_behind_blanks
  second : rest_behind_blanks ≡ stars ++ rest_behind_stars
  third : rest_behind_stars ≡ more_blanks ++ rest
  are_blanks : AllPass is_blank blanks
  are_stars : AllPass is_star stars
  are_more : AllPass is_blank more_blanks
  first_stops : DoesNotBegin is_blank rest_behind_blanks
  second_stops : DoesNotBegin is_star rest_behind_stars
  third_stops : DoesNotBegin is_blank rest

-- others before an `@` are these
runs_are_one : (text blanks stars more_blanks rest before others after more : List ℕ) → Runs text blanks stars more_blanks rest
    → AllPass is_blank before → AllPass is_star others → AllPass is_blank after → text ≡ before ++ (others ++ (after ++ 64 ∷ more))
    → (before ++ others ++ after ≡ blanks ++ stars ++ more_blanks) × (rest ≡ 64 ∷ more)
runs_are_one text blanks stars more_blanks rest before [] after more r all none all_after cut =
    let one =
    split_once is_blank blanks (before ++ after) r.rest_behind_blanks (64 ∷ more) r.are_blanks (All-append (λ b. is_blank b ≡ true) before after all all_after)
    r.first_stops refl (sym r.first ∙ cut ∙ sym (append_assoc before after (64 ∷ more))) in
    let two = split_once is_star stars [] r.rest_behind_stars (64 ∷ more) r.are_stars none r.second_stops refl (sym r.second ∙ one.1) in
    let three = split_once is_blank more_blanks [] rest (64 ∷ more) r.are_more (All-nil (λ b. is_blank b ≡ true)) r.third_stops refl (sym r.third ∙ two.1) in (
      ap (λ l. l ++ after) (append-nil before) ∙ sym one.0 ∙ sym (ap₂ (λ s b. blanks ++ s ++ b) two.0 three.0 ∙ append-nil (blanks ++ []) ∙ append-nil blanks),
      three.1,
    )
runs_are_one text blanks stars more_blanks rest before (s ∷ ss) after more r all all_stars all_after cut =
    let one =
    split_once is_blank blanks before r.rest_behind_blanks (s ∷ ss ++ (after ++ 64 ∷ more)) r.are_blanks all r.first_stops
    (star_is_unblank s (All-head (λ b. is_star b ≡ true) s ss all_stars)) (sym r.first ∙ cut) in
    let two =
    split_once is_star stars (s ∷ ss) r.rest_behind_stars (after ++ 64 ∷ more) r.are_stars all_stars r.second_stops (no_star_behind after more all_after)
    (sym r.second ∙ one.1) in
    let three = split_once is_blank more_blanks after rest (64 ∷ more) r.are_more all_after r.third_stops refl (sym r.third ∙ two.1) in (
      sym (ap₂ (λ a b. a ++ b) (ap₂ (λ a b. a ++ b) one.0 two.0) three.0),
      three.1,
    )

-- the blanks, stars and blanks that a line begins with
pub lead_of_runs : (line blanks stars more_blanks first second rest : List ℕ) → line ≡ blanks ++ first → first ≡ stars ++ second → second ≡ more_blanks ++ rest
    → AllPass is_blank blanks → AllPass is_star stars → AllPass is_blank more_blanks
    → DoesNotBegin is_blank first → DoesNotBegin is_star second → DoesNotBegin is_blank rest → IsLeadOf true line rest
lead_of_runs line blanks stars more_blanks first second rest e f g all all_stars all_more stops stops_two stops_three =
    let runs : Runs line blanks stars more_blanks rest = record {
      rest_behind_blanks = first;
      rest_behind_stars = second;
      first = e;
      second = f;
      third = g;
      are_blanks = all;
      are_stars = all_stars;
      are_more = all_more;
      first_stops = stops;
      second_stops = stops_two;
      third_stops = stops_three;
    } in record {
      lead = blanks ++ stars ++ more_blanks;
      spelled = e ∙ ap (λ l. blanks ++ l) (f ∙ ap (λ l. stars ++ l) g) ∙ sym (append_assoc blanks stars (more_blanks ++ rest)) ∙ sym (append_assoc (blanks ++ stars) more_blanks rest);
      lead_is = record {
        before = blanks;
        stars = stars;
        after = more_blanks;
        spelled = refl;
        blanks = (all, all_more);
        are_stars = all_stars;
        none = λ starred. cc;
      };
      only = λ other more is cut.
          let same =
          runs_are_one line blanks stars more_blanks rest is.before is.stars is.after more runs is.blanks.0 is.are_stars is.blanks.1
          (cut ∙ ap (λ l. l ++ 64 ∷ more) is.spelled ∙ append_assoc (is.before ++ is.stars) is.after (64 ∷ more) ∙ append_assoc is.before is.stars (is.after ++ 64 ∷ more)) in
          (is.spelled ∙ same.0, same.1);
    }

-- ---- the parts of an annotation line

each_word : (p : List ℕ → Bool) → list_all p annotation_words ≡ true → (word : List ℕ) → Contains annotation_words word → p word ≡ true
each_word p h word is = All-contains (λ w. p w ≡ true) annotation_words word (AllPass-from_list_all p annotation_words h) is

word_continues : (word : List ℕ) → Contains annotation_words word → AllPass continues_word word
word_continues word is = AllPass-from_list_all continues_word word (each_word (list_all continues_word) refl word is)

abbrev begins_unblank : List ℕ → Bool
begins_unblank [] = false
begins_unblank (b ∷ _) = not (is_blank b)

word_begins_unblank : (word more : List ℕ) → Contains annotation_words word → DoesNotBegin is_blank (word ++ more)
word_begins_unblank [] more is = absurd (true≢false (sym (each_word begins_unblank refl [] is)))
word_begins_unblank (b ∷ bs) more is = not-true (is_blank b) (each_word begins_unblank refl (b ∷ bs) is)

-- `@notice`, blanks, word characters, and what stands behind them, each as many as stand there
pub record IsCut (text between word more : List ℕ) : Type 0 where
  pub behind : List ℕ
  pub behind_blanks : List ℕ
  pub spelled : text ≡ codes "@notice" ++ behind
  pub first : behind ≡ between ++ behind_blanks
  pub second : behind_blanks ≡ word ++ more
  pub blanks : AllPass is_blank between
  pub letters : AllPass continues_word word
  pub blanks_stop : DoesNotBegin is_blank behind_blanks
  pub letters_stop : DoesNotBegin continues_word more

-- what is dropped before an annotation line, and its other parts
lead_is_one : (starred : Bool) (line rest : List ℕ) (o : Opening) → IsLeadOf starred line rest → Opens starred line o
    → rest ≡ codes "@notice" ++ (o.between ++ (o.word ++ o.blank ∷ o.content))
lead_is_one starred line rest o lead opens =
    (lead.only o.lead (codes "notice" ++ (o.between ++ (o.word ++ o.blank ∷ o.content))) opens.lead_is (opening_is_laid starred line o opens)).1

pub parts_are_one : (starred : Bool) (line rest between word more : List ℕ) (o : Opening) → IsLeadOf starred line rest → IsCut rest between word more → Opens starred line o
    → (between ≡ o.between) × (word ≡ o.word) × (more ≡ o.blank ∷ o.content)
parts_are_one starred line rest between word more o lead cut opens =
    let behind = append_cancel_left (codes "@notice") cut.behind (o.between ++ (o.word ++ o.blank ∷ o.content)) (sym cut.spelled ∙ lead_is_one starred line rest o lead opens) in
    let one =
    split_once is_blank between o.between cut.behind_blanks (o.word ++ o.blank ∷ o.content) cut.blanks opens.between_is.0 cut.blanks_stop
    (word_begins_unblank o.word (o.blank ∷ o.content) opens.word_is) (sym cut.first ∙ behind) in
    let two =
    split_once continues_word word o.word more (o.blank ∷ o.content) cut.letters (word_continues o.word opens.word_is) cut.letters_stop
    (by_blank (λ b. continues_word b ≡ false) refl refl o.blank opens.blank_is) (sym cut.second ∙ one.1) in
    (one.0, two.0, two.1)

-- a text that does not begin with `@notice` opens no annotation
pub no_notice : (starred : Bool) (line rest : List ℕ) (o : Opening) → IsLeadOf starred line rest → pointwise nat_eq (take 7 rest) (codes "@notice") ≡ false
    → Opens starred line o → ⊥
no_notice starred line rest o lead other opens =
    true≢false (sym (ap (λ text. pointwise nat_eq (take 7 text) (codes "@notice")) (lead_is_one starred line rest o lead opens)) ∙ other)

-- what stands behind the first bytes of a text
pub behind_prefix : (prefix text behind : List ℕ) (n : ℕ) → pointwise nat_eq (take n text) prefix ≡ true → behind ≡ drop n text → text ≡ prefix ++ behind
behind_prefix prefix text behind n is dropped =
    sym (take-append-drop n text) ∙ ap₂ (λ a b. a ++ b) (same_text (take n text) prefix (sym is)) (sym dropped)

-- the parts that were found are those of an annotation line
pub opens_as : (starred : Bool) (line rest between more : List ℕ) (blank : ℕ) (found : Found) → IsLeadOf starred line rest
    → (cut : IsCut rest between found.word.now more) → more ≡ blank ∷ found.content.now
    → between ≢ [] → Contains annotation_words found.word.now → is_blank blank ≡ true → found.before ≡ length line - length cut.behind_blanks
    → OpensAs starred line found
opens_as starred line rest between more blank found lead cut split some word_is blank_is before =
    let spelled : line ≡ lead.lead ++ codes "@notice" ++ between ++ cut.behind_blanks =
    lead.spelled ∙ ap (λ l. lead.lead ++ l) (cut.spelled ∙ ap (λ l. codes "@notice" ++ l) cut.first) ∙ sym (append_assoc lead.lead (codes "@notice") (between ++ cut.behind_blanks))
    ∙ sym (append_assoc (lead.lead ++ codes "@notice") between cut.behind_blanks) in record {
      opening = record { lead = lead.lead; between = between; word = found.word.now; blank = blank; content = found.content.now };
      opens = record {
        spelled = spelled ∙ ap (λ l. lead.lead ++ codes "@notice" ++ between ++ l) (cut.second ∙ ap (λ l. found.word.now ++ l) split)
            ∙ sym (append_assoc (lead.lead ++ codes "@notice" ++ between) found.word.now (blank ∷ found.content.now));
        lead_is = lead.lead_is;
        between_is = (cut.blanks, some);
        word_is = word_is;
        blank_is = blank_is;
      };
      before = before ∙ omega (arith, ap length spelled ∙ length-append (lead.lead ++ codes "@notice" ++ between) cut.behind_blanks);
      word = refl;
      content = refl;
    }

-- ---- lines

-- a text without newlines is one line
pub one_line : (text : List ℕ) → IsOneLine text → lines_of text ≡ text ∷ []
one_line [] h = refl
one_line (b ∷ bs) h =
    ap (λ newline. if newline then [] ∷ lines_of bs else put_before b (lines_of bs)) (not-true (is_newline b) (All-head (λ b. not (is_newline b) ≡ true) b bs h))
    ∙ ap (put_before b) (one_line bs (All-tail (λ b. not (is_newline b) ≡ true) b bs h))

-- the first line of a text stands before the others
pub first_line : (line rest : List ℕ) → IsOneLine line → lines_of (line ++ 10 ∷ rest) ≡ line ∷ lines_of rest
first_line [] rest h = refl
first_line (b ∷ bs) rest h =
    ap (λ newline. if newline then [] ∷ lines_of (bs ++ 10 ∷ rest) else put_before b (lines_of (bs ++ 10 ∷ rest)))
    (not-true (is_newline b) (All-head (λ b. not (is_newline b) ≡ true) b bs h))
    ∙ ap (put_before b) (first_line bs rest (All-tail (λ b. not (is_newline b) ≡ true) b bs h))

-- a text has a line
some_before : (b : ℕ) (lines : List (List ℕ)) → put_before b lines ≢ []
some_before b [] none = cc
some_before b (line ∷ lines) none = cc

pub some_line : (text : List ℕ) → lines_of text ≢ []
some_line [] none = cc
some_line (b ∷ bs) none = elim (is_newline b) as (λ newline. (if newline then [] ∷ lines_of bs else put_before b (lines_of bs)) ≡ [] → ⊥) [
  | true ↦ λ none. cc
  | false ↦ λ none. some_before b (lines_of bs) none
] none

no_slash : (text : List ℕ) → starts_with nat_eq text (47 ∷ []) ≡ false → begins_with_slash text ≡ false
no_slash [] other = refl
no_slash (b ∷ bs) other = elim (b == 47) as (λ slash. (b == 47) ≡ slash → slash ≡ false) [
  | true ↦ λ is. absurd (true≢false (sym (ap (λ b. starts_with nat_eq (b ∷ bs) (47 ∷ [])) (eqb-true b 47 is)) ∙ other))
  | false ↦ λ _. refl
] refl

-- a line comment that begins with `///`, and not with `////`
pub line_is_note : (body text : List ℕ) → IsOneLine body → pointwise nat_eq (take 1 body) (47 ∷ []) ≡ true → text ≡ drop 1 body
    → starts_with nat_eq text (47 ∷ []) ≡ false → IsNote (line_comment body) text false
line_is_note body text one begins is other =
    let spelled : body ≡ 47 ∷ text = behind_prefix (47 ∷ []) body text 1 begins is in
    let rest_is_one = All-tail (λ b. not (is_newline b) ≡ true) 47 text (subst IsOneLine spelled one) in record {
      opener = codes "///";
      closer = [];
      spelled = ap (λ l. codes "//" ++ l) (spelled ∙ ap (λ l. 47 ∷ l) (sym (append-nil text)));
      three = refl;
      lines = ap line_documentation spelled ∙ ap (λ slash. if not slash then text ∷ [] else []) (no_slash text other) ∙ sym (one_line text rest_is_one);
      starred_is = refl;
    }

-- a block comment that begins with `/**`
pub block_is_note : (body text : List ℕ) → pointwise nat_eq (take 1 body) (42 ∷ []) ≡ true → text ≡ drop 1 body → IsNote (block_comment body) text true
block_is_note body text begins is =
    let spelled : body ≡ 42 ∷ text = behind_prefix (42 ∷ []) body text 1 begins is in record {
      opener = codes "/**";
      closer = codes "*/";
      spelled = ap (λ l. codes "/*" ++ l ++ codes "*/") spelled;
      three = refl;
      lines = ap block_documentation spelled;
      starred_is = refl;
    }
