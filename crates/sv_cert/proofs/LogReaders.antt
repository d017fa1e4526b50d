-- What reading a log line by line rests on.
use Rattle.std.proofs.Common.{ℕ, suc, ◌+◌, ◌<◌, ◌≤◌, List, [], ◌∷◌, ◌++◌, length, map, ◌≡◌, refl, sym, ap, ◌∙◌, subst, arith, Bool, true, Option, None, Some, Result, Ok, Err, append_assoc, append-nil, length-append}
use Rattle.std.proofs.lemmas.List.{map-append, length-map}
use Rattle.sv_cert.specs.LogText.{line_of, text_of, IsEntry, AreEntries, IsFaultyAfter}
use Rattle.sv_cert.specs.LogReading.{entry_of_line}
use Rattle.sv_cert.specs.LogSteps.{IsCut}
use Rattle.sv_log.specs.LogEntries as l
use Rattle.sv_cert.specs.LogAnswers.{ReadsLog, IsReadAs, WrittenIsRead}
use Rattle.sv_cert.specs.PlainLogs.{plain_entry, plain_log}
use Rattle.sv_cert.specs.declared.log.Entry.{Entry}
use Rattle.sv_cert.specs.declared.log.Log.{Log}
use Rattle.sv_cert.specs.declared.log_fault.LogFault.{LogFault}
use Rattle.sv_cert.specs.declared.log_fault.LogFault.TheVariants.{LogSyntax, LogVersion, NoMemory}
use Rattle.sv_cert.proofs.LineTexts.{is_one_line, line_more, line_of_its_entry, text_of_snoc, entries_snoc, faulty_line, faulty_end, texts_are_exact}

-- the entries that were read, the number of the next line, and the text that is left
pub record ReadSoFar (text : List ℕ) (first number : ℕ) (es : List Entry) (rest : List ℕ) : Type 0 where
  pub text_is : text ≡ text_of (map plain_entry es) ++ rest
  pub entries : AreEntries (map plain_entry es)
  pub number_is : number ≡ first + length es
  pub room : length es + length rest ≤ length text

pub read_begins : (text : List ℕ) (first : ℕ) (es : List Entry) → es ≡ [] → ReadSoFar text first first es text
read_begins text first es e = subst (λ x. ReadSoFar text first first x text) (sym e) (record { text_is = refl; entries = tt; number_is = omega arith; room = omega arith })

pub cut_shorter : (rest line behind : List ℕ) → IsCut 10 rest line (Some behind) → length behind < length rest
cut_shorter rest line behind c = let e = ap length c.text_is ∙ length-append line (10 ∷ behind) in omega (arith, e)

pub read_more : (text : List ℕ) (first number : ℕ) (es now : List Entry) (rest line behind : List ℕ) (e : Entry) → ReadSoFar text first number es rest → IsCut 10 rest line (Some behind)
    → entry_of_line line ≡ Some (plain_entry e) → now ≡ es ++ e ∷ [] → ReadSoFar text first (number + 1) now behind
read_more text first number es now rest line behind e r c h n =
    let b = line_of_its_entry line (plain_entry e) h in
    let m = map-append plain_entry es (e ∷ []) in
    let l = length-append es (e ∷ []) in
    let k = cut_shorter rest line behind c in
    let i = r.number_is in
    let o = r.room in
    subst (λ x. ReadSoFar text first (number + 1) x behind) (sym n) (record {
      text_is = r.text_is ∙ (ap (λ w. text_of (map plain_entry es) ++ w) (c.text_is ∙ (ap (λ v. v ++ 10 ∷ behind) (sym b.text) ∙ sym (line_more (plain_entry e) behind)))
          ∙ (sym (append_assoc (text_of (map plain_entry es)) (line_of (plain_entry e)) behind)
          ∙ ap (λ w. w ++ behind) (sym (text_of_snoc (map plain_entry es) (plain_entry e)) ∙ ap text_of (sym m))));
      entries = subst AreEntries (sym m) (entries_snoc (map plain_entry es) (plain_entry e) r.entries b.within);
      number_is = omega (arith, i, l);
      room = omega (arith, k, l, o);
    })

pub read_end : (text : List ℕ) (first version number : ℕ) (es : List Entry) (rest : List ℕ) → version ≡ 1 → ReadSoFar text first number es rest → rest ≡ []
    → (version ≡ 1) × (text ≡ text_of (map plain_entry es)) × AreEntries (map plain_entry es)
read_end text first version number es rest v r e =
    (v, r.text_is ∙ (ap (λ w. text_of (map plain_entry es) ++ w) e ∙ append-nil (text_of (map plain_entry es))), r.entries)

faulty_here : (text : List ℕ) (es : List Entry) → IsFaultyAfter text (length (map plain_entry es)) → IsFaultyAfter text (length es)
faulty_here text es f = subst (IsFaultyAfter text) (length-map es plain_entry) f

-- the next line is no entry, or isn't whole
pub no_entry : (text : List ℕ) (first version number : ℕ) (es : List Entry) (rest line behind : List ℕ) → version ≡ 1 → ReadSoFar text first number es rest → IsCut 10 rest line (Some behind)
    → entry_of_line line ≡ None → ReadsLog text first version (Err (LogSyntax number))
no_entry text first version number es rest line behind v r c h =
    (v, length es, r.number_is, faulty_here text es (faulty_line text (map plain_entry es) rest line behind r.text_is r.entries c.text_is c.free h))

pub no_line : (text : List ℕ) (first version number : ℕ) (es : List Entry) (rest line : List ℕ) → version ≡ 1 → ReadSoFar text first number es rest → IsCut 10 rest line None → (rest ≡ [] → ⊥)
    → ReadsLog text first version (Err (LogSyntax number))
no_line text first version number es rest line v r c h =
    (v, length es, r.number_is, faulty_here text es (faulty_end text (map plain_entry es) rest r.text_is r.entries h (subst (λ w. is_one_line w ≡ true) (sym c.text_is) c.free)))

pub written_is_read : WrittenIsRead
written_is_read = go
  where
    go : (es : List l.Entry) (first : ℕ) (result : Result Log LogFault) → AreEntries es → ReadsLog (text_of es) first 1 result → IsReadAs es result
    go es first (Ok log) a h = sym (texts_are_exact.one es (plain_log log) a h.2 h.1)
    go es first (Err (LogSyntax n)) a h = texts_are_exact.whole es h.1 a h.3
    go es first (Err (LogVersion n)) a h = h.0 refl
    go es first (Err NoMemory) a h = tt
