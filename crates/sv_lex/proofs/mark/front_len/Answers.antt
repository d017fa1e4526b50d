-- The first front that fits is the longest, since longer ones come first.
use Rattle.std.proofs.Common.{◌≡◌, ℕ, ◌<◌, ◌++◌, List, [], Bor, Contains, length, get_or, map, drop, sym, ap, ◌∙◌, subst, arith, below_more}
use Rattle.std.proofs.lemmas.Bool.{both_ways}
use Rattle.std.proofs.lemmas.Bool.Decides.{Decides-eqb}
use Rattle.std.proofs.lemmas.List.{get_or-map, length-map}
use Rattle.std.proofs.lemmas.Slice.Eq.{starts_is}
use Rattle.sv_lex.specs.Longest.{IsLongestSuch}
use Rattle.sv_lex.proofs.MarkLemmas.{front_found, no_front}
use Rattle.sv_lex.proofs.mark.front_len.Goals as goal

-- the bytes of several fronts, and of one
abbrev bytes_of : List (Bor (List ℕ)) → List (List ℕ)
bytes_of fronts = map (λ (front : Bor (List ℕ)). front.now) fronts

abbrev nothing : Bor (List ℕ)
nothing = record { ref_ptr = (0, 0); now = [] }

one_of : (fronts : List (Bor (List ℕ))) (i : ℕ) → i < length fronts → get_or (bytes_of fronts) i [] ≡ (get_or fronts i nothing).now
one_of fronts i less = get_or-map (λ (front : Bor (List ℕ)). front.now) fronts i nothing [] less

pub loop-front-init : goal.loop-front-init
loop-front-init c = λ k less. absurd (omega arith)

pub returns-then-starts_with : goal.returns-then-starts_with
returns-then-starts_with c =
    let fronts = c.args.fronts.now in
    let text = c.args.text.now in
    let i = c.loop-front.front-index in
    let front = (get_or fronts i nothing).now in
    let same = one_of fronts i c.loop-front-test.true in
    let here : text ≡ front ++ drop (length front) text = (starts_is Decides-eqb text front c.starts_with.result c.starts_with.ensures.value).0 c.if-starts_with.true in
    subst (λ (bytes : List ℕ). IsLongestSuch (Contains (bytes_of fronts)) text (length bytes)) same
    (front_found (bytes_of fronts) text (drop (length front) text) i c.requires (omega (arith, length-map fronts (λ (front : Bor (List ℕ)). front.now))) c.loop-front.invariant
    (here ∙ ap (λ (bytes : List ℕ). bytes ++ drop (length front) text) (sym same)))

pub loop-front-preserved : goal.loop-front-preserved
loop-front-preserved c =
    let fronts = c.args.fronts.now in
    let text = c.args.text.now in
    let i = c.loop-front.front-index in
    let front = (get_or fronts i nothing).now in
    let same = one_of fronts i c.loop-front-test.true in
    below_more _ _ c.loop-front.invariant
    (λ rest e. both_ways c.starts_with.result c.if-starts_with.false
    ((starts_is Decides-eqb text front c.starts_with.result c.starts_with.ensures.value).1 rest (e ∙ ap (λ (bytes : List ℕ). bytes ++ rest) same)))

pub returns : goal.returns
returns c =
    no_front (bytes_of c.args.fronts.now) c.args.text.now c.loop-front.front-index (omega (arith, length-map c.args.fronts.now (λ (front : Bor (List ℕ)). front.now))) c.loop-front.invariant
