-- Names and items that are read from lists.
use Rattle.std.proofs.Common.{◌≡◌, ◌∙◌, ◌++◌, ℕ, List, Some, [], ◌∷◌, ◌+◌, refl, sym, ap, append_assoc, map, slice_get, take, get_or, length, ◌<◌, ◌≤◌}
use Rattle.std.specs.Prelude.{option_map}
use Rattle.std.proofs.lemmas.Option.{slice_get-map, slice_get_within, get_or_from_slice_get}
use Rattle.std.proofs.lemmas.List.{take_more, take_all}
use Rattle.sv_core.specs.LabelTexts.{text_of, defined_by, text_of_function}
use Rattle.sv_core.specs.PlainCore.{Contract}
use Rattle.sv_core.specs.PlainCore as plain

pub mapped : {X Y : Type 0} (v : X → Y) (xs : List X) (k : ℕ) (x : X) → Some x ≡ slice_get xs k → slice_get (map v xs) k ≡ Some (v x)
mapped v xs k x h = slice_get-map v xs k ∙ ap (option_map v) (sym h)

text_is : (names : List (List ℕ)) (n : ℕ) (bytes : List ℕ) → slice_get names n ≡ Some bytes → bytes ≡ text_of names n
text_is names n bytes m = rw m refl

-- a name behind that of the contract that defines the function
pub named_behind : (names : List (List ℕ)) (c : Contract) (f : plain.Function) (before middle after bytes : List ℕ) → middle ≡ before ++ defined_by names c f → after ≡ middle ++ bytes → slice_get names f.name ≡ Some bytes → after ≡ before ++ text_of_function names c (Some f)
named_behind names c f before middle after bytes h k m =
    k ∙ ap (λ l. l ++ bytes) h ∙ append_assoc before (defined_by names c f) bytes ∙ ap (λ l. before ++ (defined_by names c f ++ l)) (text_is names f.name bytes m)

-- a list that is copied item by item
pub pushed_next : {X : Type 0} (xs : List X) (k : ℕ) (x y : X) (before now : List X) → slice_get xs k ≡ Some x → y ≡ x → before ≡ take k xs → now ≡ before ++ y ∷ [] → now ≡ take (k + 1) xs
pushed_next xs k x y before now got same h m =
    m ∙ ap (λ l. l ++ y ∷ []) h ∙ ap (λ z. take k xs ++ z ∷ []) (same ∙ sym (get_or_from_slice_get xs k x x got)) ∙ sym (take_more xs k x (slice_get_within xs k x got))

pub copied_next : {X : Type 0} (xs : List X) (i : ℕ) (x y : X) (before now : List X) → i < length xs → x ≡ get_or xs i x → before ≡ take i xs → y ≡ x → now ≡ before ++ y ∷ [] → now ≡ take (i + 1) xs
copied_next xs i x y before now within is h same k =
    k ∙ ap (λ l. l ++ y ∷ []) h ∙ ap (λ z. take i xs ++ z ∷ []) (same ∙ is) ∙ sym (take_more xs i x within)

pub copied_all : {X : Type 0} (xs ys : List X) (i : ℕ) (now : List X) → ys ≡ xs → length ys ≤ i → now ≡ take i ys → now ≡ xs
copied_all xs ys i now is end h = h ∙ take_all i ys end ∙ is
