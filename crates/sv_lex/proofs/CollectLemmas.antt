-- What a collector keeps of a list of tokens, as tokens are added.
use Rattle.std.proofs.Common.{◌≡◌, ◌≢◌, ℕ, ◌+◌, ◌-◌, ◌≤◌, true, false, Option, Some, None, List, [], ◌∷◌, ◌++◌, length, map, take, drop, slice_range, arith, sym, ap, ap₂, length-append, append-nil, ◌∙◌, subst, append_assoc, true≢false}
use Rattle.std.specs.Option.{is_some}
use Rattle.std.proofs.lemmas.List.{map_push, length_push, length-map}
use Rattle.std.proofs.lemmas.List.Elements.{All-push, All-same}
use Rattle.std.proofs.Math.Seq.{drop-append_seam, take-append_seam}
use Rattle.sv_lex.specs.Collecting.{Collects, Keeps, Added, IsReady, IsSlice}
use Rattle.sv_lex.specs.Lexing.{IsOf, shown, most_tokens}
use Rattle.sv_lex.specs.Tokens.{Lexeme, lexeme}
use Rattle.sv_lex.specs.declared.collector.Collector.{Collector}
use Rattle.sv_lex.specs.declared.tok.Tok.{Tok}
use Rattle.sv_lex.specs.declared.token.Token.{Token}
use Rattle.sv_text.specs.declared.place.Place.{Place}

-- where the list is too long already, one more token changes nothing
keeps_place : (source : List ℕ) (list : List Lexeme) (collector : Collector) (t : Lexeme) (over : Option Place)
    → is_some over ≡ true → Keeps source list collector over → Keeps source (list ++ t ∷ []) collector over
keeps_place source list collector t (Some place) over (before, after, u, cut, long, place_is) =
    (before, after ++ t ∷ [], u, ap (λ l. l ++ t ∷ []) cut ∙ append_assoc before (u ∷ after) (t ∷ []), long, place_is)
keeps_place source list collector t None over h = absurd (true≢false (sym over))

pub collects_over : (source : List ℕ) (list : List Lexeme) (collector : Collector) (t : Lexeme)
    → is_some collector.over ≡ true → Collects source list collector → Collects source (list ++ t ∷ []) collector
collects_over source list collector t over h = record { keeps = keeps_place source list collector t collector.over over h.keeps }

-- where it is short enough, the token is kept
keeps_token : (source : List ℕ) (list : List Lexeme) (old new : Collector) (token : Token) (over : Option Place)
    → is_some over ≡ false → new.tokens.items ≡ old.tokens.items ++ token ∷ [] → length old.tokens.items ≢ most_tokens → IsOf source token
    → Keeps source list old over → Keeps source (list ++ shown token ∷ []) new over
keeps_token source list old new token (Some place) over items few is_of h = absurd (true≢false over)
keeps_token source list old new token None over items few is_of (list_is, all, short) =
    let as_many : length old.tokens.items ≡ length list = sym (length-map old.tokens.items shown) ∙ ap length list_is in (
      ap (map shown) items ∙ map_push shown old.tokens.items token ∙ ap (λ l. l ++ shown token ∷ []) list_is,
      All-same (IsOf source) new.tokens.items _ items (All-push (IsOf source) old.tokens.items token all is_of),
      omega (arith, length_push list (shown token)),
    )

pub collects_token : (source : List ℕ) (list : List Lexeme) (old new : Collector) (token : Token)
    → is_some old.over ≡ false → new.over ≡ old.over → new.tokens.items ≡ old.tokens.items ++ token ∷ []
    → length old.tokens.items ≢ most_tokens → IsOf source token → Collects source list old → Collects source (list ++ shown token ∷ []) new
collects_token source list old new token over same items few is_of h = record {
  keeps = subst (λ place. Keeps source (list ++ shown token ∷ []) new place) (sym same) (keeps_token source list old new token old.over over items few is_of h.keeps);
}

-- ---- what was added, and what is added after it

pub added_none : (old : Collector) (at : ℕ) → IsReady old.source.now old at → Added old old [] at
added_none old at ready = record { collects = λ list h. subst (λ l. Collects old.source.now l old) (sym (append-nil list)) h; ready = ready }

pub ready_later : (source : List ℕ) (collector : Collector) (at later : ℕ) → at ≤ later → IsReady source collector at → IsReady source collector later
ready_later source collector at later on ready = record { source_is = ready.source_is; short = ready.short; spot_is = ready.spot_is; ahead = omega (arith, ready.ahead) }

pub added_later : (old new : Collector) (tokens : List Lexeme) (at later : ℕ) → at ≤ later → Added old new tokens at → Added old new tokens later
added_later old new tokens at later on added = record { collects = added.collects; ready = ready_later old.source.now new at later on added.ready }

pub added_both : (old mid new : Collector) (ts us : List Lexeme) (at later : ℕ) → Added old mid ts at → Added mid new us later → Added old new (ts ++ us) later
added_both old mid new ts us at later first then =
    let same : mid.source.now ≡ old.source.now = first.ready.source_is in record {
      collects = λ list h.
          let behind : Collects mid.source.now (list ++ ts ++ us) new = then.collects (list ++ ts) (subst (λ s. Collects s (list ++ ts) mid) (sym same) (first.collects list h)) in
          subst (λ l. Collects old.source.now l new) (append_assoc list ts us) (subst (λ s. Collects s (list ++ ts ++ us) new) same behind);
      ready = subst (λ s. IsReady s new later) same then.ready;
    }

-- it is ready to go on
pub ready_from : (old new : Collector) (tokens : List Lexeme) (at here : ℕ) → Added old new tokens at → here ≡ at → IsReady new.source.now new here
ready_from old new tokens at here added same =
    subst (λ s. IsReady s new here) (sym added.ready.source_is) (subst (λ n. IsReady old.source.now new n) (sym same) added.ready)

-- ---- slices

regroup : (a b c d e : List ℕ) → a ++ (b ++ (c ++ d) ++ e) ≡ (a ++ b) ++ (c ++ (d ++ e))
regroup a b c d e = simp append_assoc

pub slice_within : (source : List ℕ) (at : ℕ) (bytes : List ℕ) → IsSlice source at bytes → at + length bytes ≤ length source
slice_within source at bytes h =
    omega (arith, h.place, ap length h.spelled ∙ length-append h.before (bytes ++ h.after), length-append bytes h.after)

pub slice_is : (source : List ℕ) (at to : ℕ) (bytes : List ℕ) → IsSlice source at bytes → to ≡ at + length bytes → slice_range source at to ≡ bytes
slice_is source at to bytes h end =
    let long : to - at ≡ length bytes = omega arith in
    ap₂ (λ n l. take n l) long (ap₂ (λ n l. drop n l) h.place h.spelled ∙ drop-append_seam h.before (bytes ++ h.after)) ∙ take-append_seam bytes h.after

pub slice_inside : (source : List ℕ) (at : ℕ) (text front bytes back : List ℕ) → IsSlice source at text → text ≡ front ++ (bytes ++ back) → IsSlice source (at + length front) bytes
slice_inside source at text front bytes back h spelled = record {
  before = h.before ++ front;
  after = back ++ h.after;
  spelled = h.spelled ∙ ap (λ l. h.before ++ (l ++ h.after)) spelled ∙ regroup h.before front bytes back h.after;
  place = ap (λ n. n + length front) h.place ∙ sym (length-append h.before front);
}

-- one token more, which is a slice of the text
pub added_token : (old mid new : Collector) (ts : List Lexeme) (kind : Tok) (bytes : List ℕ) (from to : ℕ)
    → Added old mid ts from → IsSlice old.source.now from bytes → to ≡ from + length bytes
    → ((list : List Lexeme) → Collects mid.source.now list mid → Collects mid.source.now (list ++ lexeme kind (slice_range mid.source.now from to) from ∷ []) new)
    → IsReady mid.source.now new from → Added old new (ts ++ lexeme kind bytes from ∷ []) to
added_token old mid new ts kind bytes from to added slice end collects ready =
    let same : slice_range mid.source.now from to ≡ bytes =
    ap (λ s. slice_range s from to) added.ready.source_is ∙ slice_is old.source.now from to bytes slice end in
    added_both old mid new ts (lexeme kind bytes from ∷ []) from to added record {
      collects = λ list h. subst (λ b. Collects mid.source.now (list ++ lexeme kind b from ∷ []) new) same (collects list h);
      ready = ready_later mid.source.now new from to (omega arith) ready;
    }
