-- What the readers of nodes and of rows rest on.
use Rattle.std.proofs.Common.{ℕ, zero, suc, ◌+◌, ◌<◌, Bool, true, false, not, ◌&&◌, List, [], ◌∷◌, ◌++◌, length, map, ◌≡◌, refl, sym, ap, ◌∙◌, subst, arith, Option, None, Some, Result, Ok, Err, append_assoc, append-nil}
use Rattle.std.proofs.lemmas.List.{map-append}
use lib.IntN.{ℤ}
use Rattle.sv_term.proofs.Same.{both_true, and_true}
use Rattle.sv_log.specs.LogEntries.{Monomial, Kind, Part, TermPart, SortPart, NumberPart, FlagPart, Slot, TermsSlot, SignSlot, FlagSlot, NumberSlot, SortSlot, TermSlot, slots_of, suits}
use Rattle.sv_log.specs.LogRows.{monomial}
use Rattle.sv_cert.specs.LogText.{Word, is_short, are_short, IsPart, AreParts}
use Rattle.sv_cert.specs.LogReading.{◌>>=◌, integer, index, each, first, ended, monomials, term_part, part_in, parts_in, node_from, node_of}
use Rattle.sv_cert.specs.LogSteps.{head_read, behind, itself, Gives, Takes, Adds, monomials_of}
use Rattle.sv_cert.specs.PlainNodes.{plain_part}
use Rattle.sv_cert.specs.PlainLogs.{plain_monomial, plain_node}
use Rattle.sv_cert.specs.declared.part.Part.{Part as CodePart}
use Rattle.sv_cert.specs.declared.read.stop.Stop.{Stop}
use Rattle.sv_cert.specs.declared.read.stop.Stop.TheVariants.{NoEntry, NoMemory}
use Rattle.sv_cert.proofs.EntryTexts.{words_of_parts}

clash : {A : Type 0} {a : A} → None ≡ Some a → ⊥
clash e = cc e

-- ---- the parts of a row

abbrev pub RowSoFar : List Word → List Word → List (ℤ × ℕ) → Type 0
RowSoFar old ws ps = monomials old ≡ (monomials ws >>= (λ rest. Some (monomials_of ps ++ rest)))

pub row_more : (old ws mid next : List Word) (ps : List (ℤ × ℕ)) (p : ℤ × ℕ) → RowSoFar old ws ps
    → Takes integer itself ws (Ok p.0) mid → Takes index itself mid (Ok p.1) next → RowSoFar old next (ps ++ p ∷ [])
row_more old [] mid next ps p i t u = absurd (clash t.gives)
row_more old (w ∷ []) mid next ps p i t u = absurd (clash (sym (ap (head_read index) t.rest) ∙ u.gives))
row_more old (w ∷ v ∷ ws) mid next ps p i t u =
    let e : index v ≡ Some p.1 = sym (ap (head_read index) t.rest) ∙ u.gives in
    let n : next ≡ ws = u.rest ∙ ap behind t.rest in
    i ∙ (ap (λ o. (o >>= (λ k. index v >>= (λ x. monomials ws >>= (λ rest. Some (monomial k x ∷ rest))))) >>= (λ rest. Some (monomials_of ps ++ rest))) t.gives
    ∙ (ap (λ o. (o >>= (λ x. monomials ws >>= (λ rest. Some (monomial p.0 x ∷ rest)))) >>= (λ rest. Some (monomials_of ps ++ rest))) e
    ∙ (go (monomials ws) ∙ ap (λ ts. monomials ts >>= (λ rest. Some (monomials_of (ps ++ p ∷ []) ++ rest))) (sym n))))
  where
    go : (o : Option (List Monomial)) → ((o >>= (λ rest. Some (monomial p.0 p.1 ∷ rest))) >>= (λ rest. Some (monomials_of ps ++ rest))) ≡ (o >>= (λ rest. Some (monomials_of (ps ++ p ∷ []) ++ rest)))
    go None = refl
    go (Some rest) = ap Some (sym (append_assoc (monomials_of ps) (plain_monomial p ∷ []) rest) ∙ ap (λ ms. ms ++ rest) (sym (map-append plain_monomial ps (p ∷ []))))

pub row_pushed : (old ws mid next : List Word) (ps now : List (ℤ × ℕ)) (j k : ℤ) (x : ℕ) → RowSoFar old ws ps → Takes integer itself ws (Ok k) mid → Takes index itself mid (Ok x) next
    → now ≡ ps ++ (j, x) ∷ [] → j ≡ k → RowSoFar old next now
row_pushed old ws mid next ps now j k x i t u n e =
    subst (RowSoFar old next) (sym (n ∙ ap (λ y. ps ++ (y, x) ∷ []) e)) (row_more old ws mid next ps (k, x) i t u)

pub row_ends : (old ws : List Word) (ps : List (ℤ × ℕ)) → RowSoFar old ws ps → ws ≡ [] → monomials old ≡ Some (monomials_of ps)
row_ends old ws ps i e = i ∙ (ap (λ ts. monomials ts >>= (λ rest. Some (monomials_of ps ++ rest))) e ∙ ap Some (append-nil (monomials_of ps)))

pub row_stops : (old ws next : List Word) (ps : List (ℤ × ℕ)) (e : Stop) → RowSoFar old ws ps → (ws ≡ [] → ⊥) → Takes integer itself ws (Err e) next
    → Gives monomials_of (Err e) (monomials old)
row_stops old ws next ps NoMemory i n t = tt
row_stops old [] next ps NoEntry i n t = absurd (n refl)
row_stops old (w ∷ []) next ps NoEntry i n t = i
row_stops old (w ∷ v ∷ ws) next ps NoEntry i n t =
    i ∙ ap (λ o. (o >>= (λ k. index v >>= (λ x. monomials ws >>= (λ rest. Some (monomial k x ∷ rest))))) >>= (λ rest. Some (monomials_of ps ++ rest))) t.gives

pub column_stops : (old ws mid next : List Word) (ps : List (ℤ × ℕ)) (k : ℤ) (e : Stop) → RowSoFar old ws ps → Takes integer itself ws (Ok k) mid → Takes index itself mid (Err e) next
    → Gives monomials_of (Err e) (monomials old)
column_stops old ws mid next ps k NoMemory i t u = tt
column_stops old [] mid next ps k NoEntry i t u = absurd (clash t.gives)
column_stops old (w ∷ []) mid next ps k NoEntry i t u = i
column_stops old (w ∷ v ∷ ws) mid next ps k NoEntry i t u =
    let e : index v ≡ None = sym (ap (head_read index) t.rest) ∙ u.gives in
    i ∙ (ap (λ o. (o >>= (λ k. index v >>= (λ x. monomials ws >>= (λ rest. Some (monomial k x ∷ rest))))) >>= (λ rest. Some (monomials_of ps ++ rest))) t.gives
    ∙ ap (λ o. (o >>= (λ x. monomials ws >>= (λ rest. Some (monomial k x ∷ rest)))) >>= (λ rest. Some (monomials_of ps ++ rest))) e)

pub row_shorter : (ws mid next : List Word) (k : ℤ) (x : ℕ) → Takes integer itself ws (Ok k) mid → Takes index itself mid (Ok x) next → length next < length ws
row_shorter [] mid next k x t u = absurd (clash t.gives)
row_shorter (w ∷ []) mid next k x t u = absurd (clash (sym (ap (head_read index) t.rest) ∙ u.gives))
row_shorter (w ∷ v ∷ ws) mid next k x t u = let e = ap length (u.rest ∙ ap behind t.rest) in omega (arith, e)

-- ---- the arguments of a node

short_parts : (ps : List Part) → AreParts ps → are_short ps ≡ true
short_parts [] h = refl
short_parts (TermPart n ∷ ps) h = short_parts ps h.1
short_parts (SortPart s ∷ ps) h = and_true (is_short (SortPart s)) (are_short ps) h.0.1 (short_parts ps h.1)
short_parts (NumberPart m ∷ ps) h = short_parts ps h.1
short_parts (FlagPart b ∷ ps) h = short_parts ps h.1

pub parts_suit : (kind : Kind) (ws : List Word) (ps : List Part) → parts_in (slots_of kind) ws ≡ Some ps → (suits kind ps ≡ true) × (are_short ps ≡ true)
parts_suit kind ws ps e = let r = words_of_parts (slots_of kind) ws ps e in (r.fits_it, short_parts ps r.within)

abbrev pub TermsSoFar : List Word → List Word → List CodePart → Type 0
TermsSoFar old ws more = each term_part old ≡ (each term_part ws >>= (λ rest. Some (map plain_part more ++ rest)))

pub term_more : (old ws next : List Word) (word : Word) (more : List CodePart) (p : CodePart) → TermsSoFar old ws more → ws ≡ word ∷ next → term_part word ≡ Some (plain_part p)
    → TermsSoFar old next (more ++ p ∷ [])
term_more old ws next word more p i e g =
    i ∙ (ap (λ ts. each term_part ts >>= (λ rest. Some (map plain_part more ++ rest))) e
    ∙ (ap (λ o. (o >>= (λ a. each term_part next >>= (λ rest. Some (a ∷ rest)))) >>= (λ rest. Some (map plain_part more ++ rest))) g
    ∙ go (each term_part next)))
  where
    go : (o : Option (List Part)) → ((o >>= (λ rest. Some (plain_part p ∷ rest))) >>= (λ rest. Some (map plain_part more ++ rest))) ≡ (o >>= (λ rest. Some (map plain_part (more ++ p ∷ []) ++ rest)))
    go None = refl
    go (Some rest) = ap Some (sym (append_assoc (map plain_part more) (plain_part p ∷ []) rest) ∙ ap (λ ms. ms ++ rest) (sym (map-append plain_part more (p ∷ []))))

pub term_stops : (old ws next : List Word) (word : Word) (more start new : List CodePart) (e : Stop) → TermsSoFar old ws more → ws ≡ word ∷ next → Gives plain_part (Err e) (term_part word)
    → Adds plain_part (each term_part old) start (Err e) new
term_stops old ws next word more start new NoMemory i e g = tt
term_stops old ws next word more start new NoEntry i e g =
    i ∙ (ap (λ ts. each term_part ts >>= (λ rest. Some (map plain_part more ++ rest))) e
    ∙ ap (λ o. (o >>= (λ a. each term_part next >>= (λ rest. Some (a ∷ rest)))) >>= (λ rest. Some (map plain_part more ++ rest))) g)

pub terms_end : (old ws : List Word) (more : List CodePart) → TermsSoFar old ws more → ws ≡ [] → each term_part old ≡ Some (map plain_part more)
terms_end old ws more i e = i ∙ (ap (λ ts. each term_part ts >>= (λ rest. Some (map plain_part more ++ rest))) e ∙ ap Some (append-nil (map plain_part more)))

places : (x : Slot) (xs : List Slot) (ws : List Word) → (x ≡ TermsSlot → ⊥) → parts_in (x ∷ xs) ws ≡ first (part_in x) ws (λ p rest. parts_in xs rest >>= (λ ps. Some (p ∷ ps)))
places SignSlot xs ws n = refl
places FlagSlot xs ws n = refl
places NumberSlot xs ws n = refl
places SortSlot xs ws n = refl
places TermSlot xs ws n = refl
places TermsSlot xs ws n = absurd (n refl)

-- an argument in its place, and those behind it
pub part_goes : (x : Slot) (xs : List Slot) (ws next : List Word) (word : Word) (start mid new : List CodePart) (p : CodePart) (r : Result (Unit {0}) Stop)
    → (x ≡ TermsSlot → ⊥) → ws ≡ word ∷ next → part_in x word ≡ Some (plain_part p) → mid ≡ start ++ p ∷ [] → Adds plain_part (parts_in xs next) mid r new
    → Adds plain_part (parts_in (x ∷ xs) ws) start r new
part_goes x xs ws next word start mid new p (Err NoMemory) n e g m h = tt
part_goes x xs ws next word start mid new p (Err NoEntry) n e g m h =
    places x xs ws n ∙ (ap (λ ts. first (part_in x) ts (λ p rest. parts_in xs rest >>= (λ ps. Some (p ∷ ps)))) e
    ∙ (ap (λ o. o >>= (λ a. parts_in xs next >>= (λ ps. Some (a ∷ ps)))) g ∙ ap (λ o. o >>= (λ ps. Some (plain_part p ∷ ps))) h))
part_goes x xs ws next word start mid new p (Ok u) n e g m h = (
  p ∷ h.0,
  places x xs ws n ∙ (ap (λ ts. first (part_in x) ts (λ p rest. parts_in xs rest >>= (λ ps. Some (p ∷ ps)))) e
      ∙ (ap (λ o. o >>= (λ a. parts_in xs next >>= (λ ps. Some (a ∷ ps)))) g ∙ ap (λ o. o >>= (λ ps. Some (plain_part p ∷ ps))) h.1)),
  h.2 ∙ (ap (λ s. s ++ h.0) m ∙ append_assoc start (p ∷ []) h.0),
)

pub part_stops : (x : Slot) (xs : List Slot) (ws next : List Word) (word : Word) (start new : List CodePart) (e : Stop)
    → (x ≡ TermsSlot → ⊥) → ws ≡ word ∷ next → Gives plain_part (Err e) (part_in x word) → Adds plain_part (parts_in (x ∷ xs) ws) start (Err e) new
part_stops x xs ws next word start new NoMemory n e g = tt
part_stops x xs ws next word start new NoEntry n e g =
    places x xs ws n ∙ (ap (λ ts. first (part_in x) ts (λ p rest. parts_in xs rest >>= (λ ps. Some (p ∷ ps)))) e ∙ ap (λ o. o >>= (λ a. parts_in xs next >>= (λ ps. Some (a ∷ ps)))) g)

pub part_missing : (x : Slot) (xs : List Slot) (ws : List Word) → (x ≡ TermsSlot → ⊥) → ws ≡ [] → parts_in (x ∷ xs) ws ≡ None
part_missing x xs ws n e = places x xs ws n ∙ ap (λ ts. first (part_in x) ts (λ p rest. parts_in xs rest >>= (λ ps. Some (p ∷ ps)))) e

-- ---- a node

pub parts_read : (kind : Kind) (xs : List Slot) (ws : List Word) (start now : List CodePart) (u : Unit {0}) → xs ≡ slots_of kind → start ≡ [] → Adds plain_part (parts_in xs ws) start (Ok u) now
    → parts_in (slots_of kind) ws ≡ Some (map plain_part now)
parts_read kind xs ws start now u e s h = ap (λ y. parts_in y ws) (sym e) ∙ (h.1 ∙ ap (λ ps. Some (map plain_part ps)) (sym (h.2 ∙ ap (λ y. y ++ h.0) s)))

pub node_wrong : (kind : Kind) (xs : List Slot) (ws : List Word) (start now : List CodePart) (e : Stop) → xs ≡ slots_of kind → Adds plain_part (parts_in xs ws) start (Err e) now
    → Gives plain_node (Err e) (node_of kind ws)
node_wrong kind xs ws start now NoMemory s h = tt
node_wrong kind xs ws start now NoEntry s h = ap (λ o. o >>= (λ ps. Some (node_from kind ps))) (ap (λ y. parts_in y ws) (sym s) ∙ h)

pub node_suits : (kind : Kind) (ws : List Word) (ps : List CodePart) → parts_in (slots_of kind) ws ≡ Some (map plain_part ps)
    → (suits kind (map plain_part ps) ≡ true) × (are_short (map plain_part ps) ≡ true)
node_suits kind ws ps e = parts_suit kind ws (map plain_part ps) e
