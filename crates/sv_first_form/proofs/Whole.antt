-- A whole contract in front of tokens, from the parts that it is read by.
use Rattle.std.proofs.Common.{◌≡◌, ℕ, ◌<◌, ◌≤◌, ◌+◌, zero, suc, List, [], ◌∷◌, ◌++◌, codes, Contains, length, map, refl, sym, ap, ◌∙◌, subst, arith, length-append}
use Rattle.std.specs.Prelude.{All}
use Rattle.std.specs.List.{flat_map}
use Rattle.std.proofs.lemmas.List.{append_assoc, append-nil}
use Rattle.std.proofs.lemmas.List.Elements.{Contains-append_right}
use Rattle.std.proofs.lemmas.List.Elements.{All-nil, All-cons, All-head, All-tail, All-append, All-contains}
use Rattle.sv_first_form.proofs.ActParts.{name_is_free, contract_is_reserved}
use Rattle.sv_first_form.proofs.Names.{first_names}
use Rattle.sv_first_form.proofs.Sequences.{IsLike, like_first, like_fails, Precedes, same_kind, same_text}
use Rattle.sv_first_form.specs.FirstForm.{IsContract, IsItem, IsSide, IsEquation, IsFunction, mark, word, note, note_end, item_token, more_tokens, sum_tokens, equation_tokens, note_tokens, variable_tokens, function_tokens, contract_tokens, names_of}
use Rattle.sv_first_form.specs.FormParts.{AreNames, FailsToName, is_refused, has_no_memory, header_part, note_part, notes_part, function_part, functions_part, body_part, contract_part, contract_word, at_end, IsOpened, EndsDeclarations}
use Rattle.sv_first_form.specs.FormReading.{Part, IsFirst, Fails, is_unbuilt, no_memory, exact, both, parts}
use Rattle.sv_first_form.specs.FormSymbols.{Symbol}
use Rattle.sv_first_form.specs.declared.contract.Contract.{Contract}
use Rattle.sv_first_form.specs.declared.contract.Equation.{Equation}
use Rattle.sv_first_form.specs.declared.contract.Function.{Function}
use Rattle.sv_first_form.specs.declared.contract.Item.{Item}
use Rattle.sv_first_form.specs.declared.contract.Item.TheVariants.{Variable, Number as NumberItem}
use Rattle.sv_first_form.specs.declared.form_error.FormError.{FormError}
use Rattle.sv_first_form.specs.declared.form_error.FormError.TheVariants.{Unbuilt}
use Rattle.sv_first_form.specs.declared.parse.header.Header.{Header}
use Rattle.sv_lex.specs.declared.tok.Tok.TheVariants.{Word, Number, Punct, Note, End}

-- the end of the tokens
pub at_end_first : {ts : List Symbol} → ts ≡ [] → IsFirst at_end ts tt []
unfolding at_end
at_end_first e = record { spelled = e; formed = tt; only = λ y more formed stops _. (refl, stops) }

pub at_end_fails : {ts : List Symbol} → (ts ≡ [] → ⊥) → Fails at_end ts Unbuilt
unfolding at_end
at_end_fails no_end = is_unbuilt (record { none = λ y more formed stops e. no_end (e ∙ stops) })

-- the functions, the brace and the end
abbrev pub body_steps : List (List ℕ) → Part (List Function × (Unit {0} × Unit {0}))
body_steps names = both (functions_part names) (both (exact (mark (codes "}"))) at_end)

body_like : (names : List (List ℕ)) {ts : List Symbol} → IsLike (body_steps names) (body_part names) (λ p. p.0) ts
unfolding both exact at_end parts function_part body_part
body_like names = record {
  prints = λ p. refl;
  forms = λ p formed. formed.0;
  from = λ y more formed e. ((y, (tt, tt)), refl, (formed, (tt, tt)));
  stops = λ more stops. stops;
}

pub functions_precede : {Y : Type 0} (names : List (List ℕ)) (q : Part Y) → Precedes (functions_part names) (both (exact (mark (codes "}"))) q)
unfolding both exact parts
functions_precede names q = record { before = λ y more formed stops begins. let differ : Punct ≡ Word = same_kind begins.1 in cc }

module _ (names : List (List ℕ)) {ts : List Symbol} where
  pub body_first : {functions : List Function} {us : List Symbol} → IsFirst (body_steps names) ts (functions, (tt, tt)) us → IsFirst (body_part names) ts functions us
  body_first first = like_first (body_like names) first

  pub body_fails : {e : FormError} → Fails (body_steps names) ts e → Fails (body_part names) ts e
  body_fails fault = like_fails (body_like names) fault

-- the word `contract` is not among the tokens of the notes
abbrev Lacks : List Symbol → Type 0
Lacks ts = All (λ t. t ≡ contract_word → ⊥) ts

item_lacks : (names : List (List ℕ)) (item : Item) → AreNames names → IsItem (length names) item → item_token names item ≡ contract_word → ⊥
item_lacks names (Variable v) are within e = name_is_free names v (codes "contract") are within contract_is_reserved (ap (λ t. t.text) e)
item_lacks names (NumberItem n) are within e = let differ : Number ≡ Word = ap (λ t. t.kind) e in cc

mark_lacks : (text : List ℕ) → mark text ≡ contract_word → ⊥
mark_lacks text e = let differ : Punct ≡ Word = ap (λ t. t.kind) e in cc

note_differs : note ≡ contract_word → ⊥
note_differs e = let differ : Note ≡ Word = ap (λ t. t.kind) e in cc

end_differs : note_end ≡ contract_word → ⊥
end_differs e = let differ : End ≡ Word = ap (λ t. t.kind) e in cc

more_lacks : (names : List (List ℕ)) (items : List Item) → AreNames names → All (IsItem (length names)) items → Lacks (more_tokens names items)
more_lacks names [] are formed = All-nil (λ t. t ≡ contract_word → ⊥)
more_lacks names (item ∷ items) are formed =
    All-cons (λ t. t ≡ contract_word → ⊥) (mark (codes "+")) (item_token names item ∷ more_tokens names items) (mark_lacks (codes "+"))
    (All-cons (λ t. t ≡ contract_word → ⊥) (item_token names item) (more_tokens names items) (item_lacks names item are (All-head (IsItem (length names)) item items formed))
    (more_lacks names items are (All-tail (IsItem (length names)) item items formed)))

side_lacks : (names : List (List ℕ)) (side : List Item) → AreNames names → IsSide (length names) side → Lacks (sum_tokens names side)
side_lacks names [] are formed = absurd formed
side_lacks names (NumberItem n ∷ items) are formed = absurd formed
side_lacks names (Variable v ∷ items) are formed =
    All-cons (λ t. t ≡ contract_word → ⊥) (item_token names (Variable v)) (more_tokens names items) (item_lacks names (Variable v) are formed.0) (more_lacks names items are formed.1)

note_lacks : (names : List (List ℕ)) (claim : Equation) → AreNames names → IsEquation (length names) claim → Lacks (note_tokens names claim)
note_lacks names claim are formed =
    All-cons (λ t. t ≡ contract_word → ⊥) note (equation_tokens names claim ++ note_end ∷ []) note_differs
    (All-append (λ t. t ≡ contract_word → ⊥) (equation_tokens names claim) (note_end ∷ [])
    (All-append (λ t. t ≡ contract_word → ⊥) (sum_tokens names claim.left) (mark (codes "==") ∷ sum_tokens names claim.right) (side_lacks names claim.left are formed.0)
    (All-cons (λ t. t ≡ contract_word → ⊥) (mark (codes "==")) (sum_tokens names claim.right) (mark_lacks (codes "==")) (side_lacks names claim.right are formed.1)))
    (All-cons (λ t. t ≡ contract_word → ⊥) note_end [] end_differs (All-nil (λ t. t ≡ contract_word → ⊥))))

notes_lack : (names : List (List ℕ)) (claims : List Equation) → AreNames names → All (IsEquation (length names)) claims → Lacks (flat_map (note_tokens names) claims)
notes_lack names [] are formed = All-nil (λ t. t ≡ contract_word → ⊥)
notes_lack names (claim ∷ claims) are formed =
    All-append (λ t. t ≡ contract_word → ⊥) (note_tokens names claim) (flat_map (note_tokens names) claims)
    (note_lacks names claim are (All-head (IsEquation (length names)) claim claims formed))
    (notes_lack names claims are (All-tail (IsEquation (length names)) claim claims formed))

-- lists that are cut before the first t are cut alike
later : (u t : Symbol) (us : List Symbol) → (Contains (u ∷ us) t → ⊥) → Contains us t → ⊥
later u t us absent (k, within, at) = absent (suc k, omega (arith, within), at)

cut_alike : (a b xs ys : List Symbol) (t : Symbol) → a ++ t ∷ xs ≡ b ++ t ∷ ys → (Contains a t → ⊥) → (Contains b t → ⊥) → (a ≡ b) × (xs ≡ ys)
cut_alike [] [] xs ys t e in_a in_b = (refl, cc)
cut_alike [] (u ∷ us) xs ys t e in_a in_b = let head : u ≡ t = cc in absurd (in_b (zero, omega arith, head))
cut_alike (u ∷ us) [] xs ys t e in_a in_b = let head : u ≡ t = cc in absurd (in_a (zero, omega arith, head))
cut_alike (u ∷ us) (w ∷ ws) xs ys t e in_a in_b =
    let head : u ≡ w = cc in
    let tail : us ++ t ∷ xs ≡ ws ++ t ∷ ys = cc in
    let rest : (us ≡ ws) × (xs ≡ ys) = cut_alike us ws xs ys t tail (later u t us in_a) (later w t ws in_b) in
    (ap (λ z. u ∷ z) rest.0 ∙ ap (λ z. z ∷ ws) head, rest.1)

-- the tokens of a contract's functions and what follows them
pub body_tokens : List (List ℕ) → List Function → List Symbol
body_tokens names functions = flat_map (function_tokens names) functions ++ mark (codes "}") ∷ []

pub header_of : Contract → Header
header_of c = record { name = c.name; variables = c.variables }

are_names : (c : Contract) → IsContract c → AreNames (names_of c)
are_names c form = record { each = form.names; distinct = form.distinct }

are_variables : (c : Contract) → IsContract c → AreNames c.variables
are_variables c form = first_names c.variables (c.name ∷ map (λ f. f.name) c.functions) (are_names c form)

-- how the tokens of a contract are cut
opened_alike : {ts before rest : List Symbol} → IsOpened ts before rest → (c : Contract) → IsContract c → ts ≡ contract_tokens c
    → (before ≡ flat_map (note_tokens c.variables) c.invariants) × (rest ≡ contract_word ∷ word c.name ∷ mark (codes "{") ∷ flat_map variable_tokens c.variables ++ body_tokens c.variables c.functions)
unfolding body_tokens
opened_alike {ts} {before} {rest} opened c form e =
    let notes : List Symbol = flat_map (note_tokens c.variables) c.invariants in
    let tail : List Symbol = word c.name ∷ mark (codes "{") ∷ flat_map variable_tokens c.variables ++ body_tokens c.variables c.functions in
    let lacks : Contains notes contract_word → ⊥ =
    λ held. All-contains (λ t. t ≡ contract_word → ⊥) notes contract_word (notes_lack c.variables c.invariants (are_variables c form) form.invariants) held refl in
    let same : before ++ contract_word ∷ opened.begins.0 ≡ notes ++ contract_word ∷ tail = ap (λ t. before ++ t) (sym opened.begins.1) ∙ sym opened.cut ∙ e in
    let alike = cut_alike before notes opened.begins.0 tail contract_word same opened.lacks lacks in
    (alike.0, opened.begins.1 ∙ ap (λ t. contract_word ∷ t) alike.1)

body_ends_declarations : (names : List (List ℕ)) (functions : List Function) → EndsDeclarations (body_tokens names functions)
unfolding body_tokens
body_ends_declarations names [] begins = let differ : Punct ≡ Word = same_kind begins.1 in cc
body_ends_declarations names (f ∷ fs) begins = let differ : codes "function" ≡ codes "uint256" = same_text begins.1 in cc

-- the header was read: what each contract of these tokens has before it, in it and after it
pub record IsHeaded (ts before after : List Symbol) (h : Header) : Type 0 where
  pub header : (c : Contract) → IsContract c → ts ≡ contract_tokens c → header_of c ≡ h
  pub notes : (c : Contract) → IsContract c → ts ≡ contract_tokens c → before ≡ flat_map (note_tokens h.variables) c.invariants
  pub body : (c : Contract) → IsContract c → ts ≡ contract_tokens c → body_tokens h.variables c.functions ≡ after
  pub spelled : (claims : List Equation) (functions : List Function) → before ≡ flat_map (note_tokens h.variables) claims → after ≡ body_tokens h.variables functions
      → ts ≡ contract_tokens (record { name = h.name; variables = h.variables; invariants = claims; functions = functions })
  pub size : length h.variables + length after < length ts

-- the header of a contract, in the tokens from its first word on
header_there : {ts before rest after : List Symbol} {h : Header} → IsOpened ts before rest → IsFirst header_part rest h after → (c : Contract) → IsContract c → ts ≡ contract_tokens c
    → (header_of c ≡ h) × (body_tokens c.variables c.functions ≡ after)
unfolding header_part header_of
header_there opened first c form e =
    first.only (header_of c) (body_tokens c.variables c.functions) tt (body_ends_declarations c.variables c.functions) (opened_alike opened c form e).1

variables_size : (names : List (List ℕ)) → length names ≤ length (flat_map variable_tokens names)
variables_size [] = omega arith
variables_size (name ∷ names) = omega (arith, variables_size names)

header_size : {rest after : List Symbol} {h : Header} → IsFirst header_part rest h after → length h.variables + length after < length rest
unfolding header_part
header_size {rest} {after} {h} first =
    omega (arith, variables_size h.variables, ap length first.spelled, length-append (flat_map variable_tokens h.variables) after)

pub headed : {ts before rest after : List Symbol} {h : Header} → IsOpened ts before rest → IsFirst header_part rest h after → IsHeaded ts before after h
unfolding header_part header_of body_tokens
headed {ts} {before} {rest} {after} {h} opened first = record {
  header = λ c form e. (header_there opened first c form e).0;
  notes = λ c form e.
      subst (λ (g : Header). before ≡ flat_map (note_tokens g.variables) c.invariants) (header_there opened first c form e).0 (opened_alike opened c form e).0;
  body = λ c form e.
      let there = header_there opened first c form e in
      subst (λ (g : Header). body_tokens g.variables c.functions ≡ after) there.0 there.1;
  spelled = λ claims functions notes body.
      opened.cut ∙ ap (λ t. t ++ rest) notes ∙ ap (λ t. flat_map (note_tokens h.variables) claims ++ t) (first.spelled ∙ ap (λ t. header_part.print h ++ t) body);
  size = omega (arith, header_size first, ap length opened.cut, length-append before rest);
}

pub header_fails_whole : {ts before rest : List Symbol} {e : FormError} → IsOpened ts before rest → Fails header_part rest e → Fails contract_part ts e
unfolding header_part header_of contract_part
header_fails_whole opened (is_unbuilt absent) = is_unbuilt (record {
  none = λ c more form stops e.
      let whole = e ∙ ap (λ t. contract_tokens c ++ t) stops ∙ append-nil (contract_tokens c) in
      absent.none (header_of c) (body_tokens c.variables c.functions) tt (body_ends_declarations c.variables c.functions) (opened_alike opened c form whole).1;
})
header_fails_whole opened no_memory = no_memory

-- no word `contract`
pub no_contract : {ts : List Symbol} → (Contains ts contract_word → ⊥) → Fails contract_part ts Unbuilt
unfolding contract_part
no_contract {ts} absent = is_unbuilt (record {
  none = λ c more form stops e.
      let whole = e ∙ ap (λ t. contract_tokens c ++ t) stops ∙ append-nil (contract_tokens c) in
      absent (subst (λ t. Contains t contract_word) (sym whole) (Contains-append_right (flat_map (note_tokens c.variables) c.invariants) _ contract_word (zero, omega arith, refl)));
})

-- the end of the tokens follows a contract
whole_tokens : {ts : List Symbol} (c : Contract) (more : List Symbol) → more ≡ [] → ts ≡ contract_tokens c ++ more → ts ≡ contract_tokens c
whole_tokens c more stops e = e ∙ ap (λ t. contract_tokens c ++ t) stops ∙ append-nil (contract_tokens c)

-- a contract by its parts
same_contract : {h : Header} (c : Contract) (claims : List Equation) (functions : List Function) → header_of c ≡ h → c.invariants ≡ claims → c.functions ≡ functions
    → c ≡ record { name = h.name; variables = h.variables; invariants = claims; functions = functions }
unfolding header_of
same_contract {h} c claims functions same_header same_claims same_functions =
    ap (λ (g : Header). let d : Contract = record { name = g.name; variables = g.variables; invariants = c.invariants; functions = c.functions } in d) same_header
    ∙ ap (λ (cs : List Equation). let d : Contract = record { name = h.name; variables = h.variables; invariants = cs; functions = c.functions } in d) same_claims
    ∙ ap (λ (fs : List Function). let d : Contract = record { name = h.name; variables = h.variables; invariants = claims; functions = fs } in d) same_functions

module _ {ts before after : List Symbol} {h : Header} where
  variables_like : IsHeaded ts before after h → (c : Contract) → IsContract c → ts ≡ contract_tokens c → c.variables ≡ h.variables
  unfolding header_of
  variables_like headed c form e = ap (λ g. g.variables) (headed.header c form e)

  pub variables_fail : {e : FormError} → IsHeaded ts before after h → FailsToName [] h.variables e → Fails contract_part ts e
  unfolding contract_part
  variables_fail headed (is_refused refused) = is_unbuilt (record {
    none = λ c more form stops e.
        let whole = whole_tokens c more stops e in
        refused (subst AreNames (variables_like headed c form whole) (are_variables c form));
  })
  variables_fail headed has_no_memory = no_memory

  notes_formed : IsHeaded ts before after h → (c : Contract) → IsContract c → ts ≡ contract_tokens c → All (IsEquation (length h.variables)) c.invariants
  notes_formed headed c form e = subst (λ (v : List (List ℕ)). All (IsEquation (length v)) c.invariants) (variables_like headed c form e) form.invariants

  functions_formed : IsHeaded ts before after h → (c : Contract) → IsContract c → ts ≡ contract_tokens c → All (IsFunction (length h.variables)) c.functions
  functions_formed headed c form e = subst (λ (v : List (List ℕ)). All (IsFunction (length v)) c.functions) (variables_like headed c form e) form.functions

  pub notes_fail : {e : FormError} → IsHeaded ts before after h → Fails (notes_part h.variables) before e → Fails contract_part ts e
  unfolding contract_part parts note_part
  notes_fail headed (is_unbuilt absent) = is_unbuilt (record {
    none = λ c more form stops e.
        let whole = whole_tokens c more stops e in
        absent.none c.invariants [] (notes_formed headed c form whole) refl (headed.notes c form whole ∙ sym (append-nil _));
  })
  notes_fail headed no_memory = no_memory

  pub body_fails_whole : {e : FormError} → IsHeaded ts before after h → Fails (body_part h.variables) after e → Fails contract_part ts e
  unfolding contract_part body_part body_tokens
  body_fails_whole headed (is_unbuilt absent) = is_unbuilt (record {
    none = λ c more form stops e.
        let whole = whole_tokens c more stops e in
        absent.none c.functions [] (functions_formed headed c form whole) refl (sym (headed.body c form whole) ∙ sym (append-nil _));
  })
  body_fails_whole headed no_memory = no_memory

  functions_like : {functions : List Function} → IsHeaded ts before after h → IsFirst (body_part h.variables) after functions [] → (c : Contract) → IsContract c → ts ≡ contract_tokens c → c.functions ≡ functions
  unfolding body_part body_tokens
  functions_like headed first c form e = (first.only c.functions [] (functions_formed headed c form e) refl (sym (headed.body c form e) ∙ sym (append-nil _))).0

  notes_like : {claims : List Equation} → IsHeaded ts before after h → IsFirst (notes_part h.variables) before claims [] → (c : Contract) → IsContract c → ts ≡ contract_tokens c → c.invariants ≡ claims
  unfolding parts note_part
  notes_like headed first c form e = (first.only c.invariants [] (notes_formed headed c form e) refl (headed.notes c form e ∙ sym (append-nil _))).0

  -- the names of each contract of these tokens
  names_like : {functions : List Function} → IsHeaded ts before after h → IsFirst (body_part h.variables) after functions [] → (c : Contract) → IsContract c → ts ≡ contract_tokens c
      → AreNames (h.variables ++ h.name ∷ map (λ f. f.name) functions)
  unfolding header_of
  names_like {functions} headed first c form e =
      subst (λ (fs : List Function). AreNames (h.variables ++ h.name ∷ map (λ f. f.name) fs)) (functions_like headed first c form e)
      (subst (λ (g : Header). AreNames (g.variables ++ g.name ∷ map (λ f. f.name) c.functions)) (headed.header c form e) (are_names c form))

  pub name_fails : {functions : List Function} {e : FormError} → IsHeaded ts before after h → IsFirst (body_part h.variables) after functions [] → FailsToName h.variables (h.name ∷ []) e → Fails contract_part ts e
  unfolding contract_part
  name_fails {functions} headed first (is_refused refused) = is_unbuilt (record {
    none = λ c more form stops e.
        let are = names_like headed first c form (whole_tokens c more stops e) in
        refused (first_names (h.variables ++ h.name ∷ []) (map (λ f. f.name) functions) (subst AreNames (sym (append_assoc h.variables (h.name ∷ []) (map (λ f. f.name) functions))) are));
  })
  name_fails headed first has_no_memory = no_memory

  pub function_names_fail : {functions : List Function} {e : FormError} → IsHeaded ts before after h → IsFirst (body_part h.variables) after functions []
      → FailsToName (h.variables ++ h.name ∷ []) (map (λ f. f.name) functions) e → Fails contract_part ts e
  unfolding contract_part
  function_names_fail {functions} headed first (is_refused refused) = is_unbuilt (record {
    none = λ c more form stops e.
        let are = names_like headed first c form (whole_tokens c more stops e) in
        refused (subst AreNames (sym (append_assoc h.variables (h.name ∷ []) (map (λ f. f.name) functions))) are);
  })
  function_names_fail headed first has_no_memory = no_memory

  pub whole_first : {claims : List Equation} {functions : List Function} → IsHeaded ts before after h → IsFirst (notes_part h.variables) before claims [] → IsFirst (body_part h.variables) after functions []
      → AreNames ((h.variables ++ h.name ∷ []) ++ map (λ f. f.name) functions)
      → IsFirst contract_part ts (record { name = h.name; variables = h.variables; invariants = claims; functions = functions }) []
  unfolding contract_part parts note_part body_part body_tokens
  whole_first {claims} {functions} headed notes body are =
      let all : AreNames (h.variables ++ h.name ∷ map (λ f. f.name) functions) = subst AreNames (append_assoc h.variables (h.name ∷ []) (map (λ f. f.name) functions)) are in
      record {
        spelled = headed.spelled claims functions (notes.spelled ∙ append-nil _) (body.spelled ∙ append-nil _) ∙ sym (append-nil _);
        formed = record { names = all.each; distinct = all.distinct; invariants = notes.formed; functions = body.formed };
        only = λ c more form stops e.
            let whole = whole_tokens c more stops e in
            (same_contract c claims functions (headed.header c form whole) (notes_like headed notes c form whole) (functions_like headed body c form whole), stops);
      }

-- how many functions there are
functions_size : (names : List (List ℕ)) (functions : List Function) → length functions ≤ length (flat_map (function_tokens names) functions)
functions_size names [] = omega arith
functions_size names (f ∷ fs) = omega (arith, functions_size names fs, length-append (function_tokens names f) (flat_map (function_tokens names) fs))

pub body_size : (names : List (List ℕ)) {after : List Symbol} {functions : List Function} → IsFirst (body_part names) after functions [] → length functions < length after
unfolding body_part
body_size names {after} {functions} first =
    omega (arith, functions_size names functions, ap length (first.spelled ∙ append-nil _), length-append (flat_map (function_tokens names) functions) (mark (codes "}") ∷ []))

-- the same, where the header was read from a cursor at the rest, and the names are the variables
pub headed_by : {ts before rest cursor after : List Symbol} {h : Header} → IsOpened ts before rest → cursor ≡ rest → IsFirst header_part cursor h after → IsHeaded ts before after h
headed_by {ts} {before} {cursor} opened same first = headed (subst (IsOpened ts before) (sym same) opened) first

pub header_fails_by : {ts before rest cursor : List Symbol} {e : FormError} → IsOpened ts before rest → cursor ≡ rest → Fails header_part cursor e → Fails contract_part ts e
header_fails_by {ts} {before} opened same fault = header_fails_whole (subst (IsOpened ts before) (sym same) opened) fault

-- the names with that of the contract
with_name : {h : Header} (names more : List (List ℕ)) (text : List ℕ) → names ≡ h.variables → text ≡ h.name → more ≡ names ++ text ∷ [] → more ≡ h.variables ++ h.name ∷ []
with_name {h} names more text same name e = e ∙ ap (λ n. n ++ text ∷ []) same ∙ ap (λ (t : List ℕ). h.variables ++ t ∷ []) name

module _ {ts before after : List Symbol} {h : Header} (names : List (List ℕ)) where
  pub variables_fail_by : {e : FormError} (slice : List (List ℕ)) → IsHeaded ts before after h → names ≡ [] → slice ≡ h.variables → FailsToName names slice e → Fails contract_part ts e
  variables_fail_by {e} slice headed none sliced fault =
      variables_fail headed (subst (λ (n : List (List ℕ)). FailsToName n h.variables e) none (subst (λ (v : List (List ℕ)). FailsToName names v e) sliced fault))

  pub notes_fail_by : {e : FormError} → IsHeaded ts before after h → names ≡ h.variables → Fails (notes_part names) before e → Fails contract_part ts e
  notes_fail_by {e} headed same fault = notes_fail headed (subst (λ (n : List (List ℕ)). Fails (notes_part n) before e) same fault)

  pub body_fails_by : {e : FormError} → IsHeaded ts before after h → names ≡ h.variables → Fails (body_part names) after e → Fails contract_part ts e
  body_fails_by {e} headed same fault = body_fails_whole headed (subst (λ (n : List (List ℕ)). Fails (body_part n) after e) same fault)

  pub name_fails_by : {functions : List Function} {e : FormError} (text : List ℕ) → IsHeaded ts before after h → names ≡ h.variables → IsFirst (body_part names) after functions []
      → text ≡ h.name → FailsToName names (text ∷ []) e → Fails contract_part ts e
  name_fails_by {functions} {e} text headed same first name fault =
      name_fails headed (subst (λ (n : List (List ℕ)). IsFirst (body_part n) after functions []) same first)
      (subst (λ (n : List (List ℕ)). FailsToName n (h.name ∷ []) e) same (subst (λ (t : List ℕ). FailsToName names (t ∷ []) e) name fault))

  pub function_names_fail_by : {functions : List Function} {e : FormError} (more : List (List ℕ)) (text : List ℕ) (slice : List Function) → IsHeaded ts before after h → names ≡ h.variables
      → IsFirst (body_part names) after functions [] → text ≡ h.name → more ≡ names ++ text ∷ [] → slice ≡ functions
      → FailsToName more (map (λ f. f.name) slice) e → Fails contract_part ts e
  function_names_fail_by {functions} {e} more text slice headed same first name added sliced fault =
      function_names_fail headed (subst (λ (n : List (List ℕ)). IsFirst (body_part n) after functions []) same first)
      (subst (λ (n : List (List ℕ)). FailsToName n (map (λ f. f.name) functions) e) (with_name names more text same name added)
      (subst (λ (fs : List Function). FailsToName more (map (λ f. f.name) fs) e) sliced fault))

  pub whole_first_by : {claims : List Equation} {functions : List Function} (more all : List (List ℕ)) (text : List ℕ) (slice : List Function) → IsHeaded ts before after h → names ≡ h.variables
      → IsFirst (notes_part names) before claims [] → IsFirst (body_part names) after functions []
      → text ≡ h.name → more ≡ names ++ text ∷ [] → slice ≡ functions → all ≡ more ++ map (λ f. f.name) slice → AreNames all
      → IsFirst contract_part ts (record { name = h.name; variables = h.variables; invariants = claims; functions = functions }) []
  whole_first_by {claims} {functions} more all text slice headed same notes body name added sliced e are =
      whole_first headed (subst (λ (n : List (List ℕ)). IsFirst (notes_part n) before claims []) same notes) (subst (λ (n : List (List ℕ)). IsFirst (body_part n) after functions []) same body)
      (subst AreNames (e ∙ ap (λ (fs : List Function). more ++ map (λ f. f.name) fs) sliced ∙ ap (λ n. n ++ map (λ f. f.name) functions) (with_name names more text same name added)) are)

  -- there is room for the names
  pub room_for_name : IsHeaded ts before after h → names ≡ h.variables → length names + 1 ≤ length ts
  room_for_name headed same = omega (arith, ap length same, headed.size)

  pub room_for_functions : {functions : List Function} (more : List (List ℕ)) (text : List ℕ) (slice : List Function) → IsHeaded ts before after h → names ≡ h.variables
      → IsFirst (body_part names) after functions [] → more ≡ names ++ text ∷ [] → slice ≡ functions → length more + length slice ≤ length ts
  room_for_functions {functions} more text slice headed same first added sliced =
      omega (arith, ap length same, headed.size, body_size names first, ap length added, length-append names (text ∷ []), ap length sliced)
